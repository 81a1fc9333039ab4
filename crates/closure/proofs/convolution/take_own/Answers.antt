use Rattle.laws.proofs.Base.{◌+◌, ◌≡◌, ap, arith, get_or}
use Rattle.laws.proofs.Table.{unfilled, stored}
use Rattle.closure.specs.Steps.{lift}
use Rattle.closure.proofs.convolution.take_own.Goals as goal

pub loop-i-init : goal.loop-i-init
loop-i-init c = unfilled _ _

-- The sum of a figure with itself keeps its limit, and so the figure does.
pub overflow_add-best-in-loop-i : goal.overflow_add-best-in-loop-i
overflow_add-best-in-loop-i c =
    let i = c.loop-i.i in
    let e : i + 1 + 3 ≡ i + 4 = omega arith in
    omega (
      arith,
      c.requires.1 (i + 1) (i + 1) (omega arith) (omega arith) (omega arith) (omega arith),
      ap (λ j. get_or c.args.own.now j 0) e,
    )

pub loop-i-preserved : goal.loop-i-preserved
loop-i-preserved c =
    stored c.loop-i.invariant _ (omega arith) (ap (λ j. get_or c.args.own.now j 0 + lift) (omega arith))
