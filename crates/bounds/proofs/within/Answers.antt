-- Where the joined bits are above the limit, the highest figure tells. Assumes nothing.
use Rattle.std.proofs.Common.{rules}
use Rattle.laws.proofs.Tests.{leb_told}
use Rattle.bounds.proofs.Laws.{highest_told}
use Rattle.bounds.proofs.within.Goals as goal

pub returns-else-joined-limit : goal.returns-else-joined-limit
returns-else-joined-limit c =
    highest_told c.args.limit c.highest.result c.args.figures.now _ c.highest.ensures (search (rules, leb_told))
