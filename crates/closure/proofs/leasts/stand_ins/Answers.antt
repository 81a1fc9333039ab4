use Rattle.laws.proofs.Base.{refl, arith}
use Rattle.laws.proofs.Table.{unfilled, stored}
use Rattle.closure.proofs.leasts.stand_ins.Goals as goal

pub loop-i-init : goal.loop-i-init
loop-i-init c = unfilled _ _

pub loop-i-preserved : goal.loop-i-preserved
loop-i-preserved c = stored c.loop-i.invariant _ (omega arith) refl
