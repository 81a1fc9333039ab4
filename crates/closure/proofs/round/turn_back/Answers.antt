use Rattle.laws.proofs.Base.{arith}
use Rattle.laws.proofs.Table.{unfilled, stored, later}
use Rattle.closure.proofs.Rows.{unfilled_figure}
use Rattle.closure.proofs.round.turn_back.Goals as goal

pub loop-entry-init : goal.loop-entry-init
loop-entry-init c = unfilled _ _

pub overflow_sub-entry : goal.overflow_sub-entry
overflow_sub-entry c =
    let head = c.loop-entry in
    omega (arith, later head.invariant head.entry-index (omega arith), c.requires head.entry-index)

pub loop-entry-preserved : goal.loop-entry-preserved
loop-entry-preserved c =
    let t = c.loop-entry.invariant in
    stored t _ (omega arith) (omega (arith, unfilled_figure t))
