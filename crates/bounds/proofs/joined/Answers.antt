-- No figure is above the bits that are joined. Assumes nothing.
use Rattle.std.proofs.Common.{rules}
use Rattle.bounds.proofs.Laws.{figures_joined}
use Rattle.bounds.proofs.joined.Goals as goal

pub returns : goal.returns
returns c = figures_joined c.fold.result c.args.figures.now (search rules)
