use Rattle.std.proofs.Common.{length, arith}
use Rattle.scripts.proofs.Growing.{turned_by}
use Rattle.scripts.proofs.passing.turn.Goals as goal

pub returns : goal.returns
returns g c =
    let h = length c.args.given.now in
    turned_by _ c.args.given.now c.args.closed.now c.loop-i.strict (omega arith) (λ k l. c.loop-i.invariant k (omega arith))
