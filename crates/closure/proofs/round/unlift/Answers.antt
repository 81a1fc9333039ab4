use Rattle.laws.proofs.Base.{arith}
use Rattle.laws.proofs.Table.{unfilled, stored}
use Rattle.closure.proofs.Rows.{unfilled_figure}
use Rattle.closure.proofs.round.unlift.Goals as goal

pub loop-entry-init : goal.loop-entry-init
loop-entry-init c = unfilled _ _

pub loop-entry-preserved : goal.loop-entry-preserved
loop-entry-preserved c =
    let t = c.loop-entry.invariant in
    stored t _ (omega arith) (omega (arith, unfilled_figure t))
