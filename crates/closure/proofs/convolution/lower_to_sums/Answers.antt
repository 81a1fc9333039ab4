use Rattle.laws.proofs.Base.{arith}
use Rattle.laws.proofs.Table.{unfilled, stored, later}
use Rattle.closure.proofs.Passes.{least-turn}
use Rattle.closure.proofs.convolution.lower_to_sums.Goals as goal

pub loop-i-init : goal.loop-i-init
loop-i-init c = unfilled _ _

-- The entry that a turn lowers is still as found.
pub loop-i-preserved : goal.loop-i-preserved
loop-i-preserved c =
    let head = c.loop-i in
    stored head.invariant _ (omega arith)
    (least-turn c.args.row.now c.args.numbers c.args.best.now head.best head.i _ (later head.invariant head.i (omega arith))
    c.smallest_of_five.ensures)
