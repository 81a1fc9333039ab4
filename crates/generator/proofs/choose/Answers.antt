-- A range that is shown has a count, so the one that the definition leads to fits.
use Rattle.laws.proofs.Base.{arith}
use Rattle.generator.proofs.Ranging.{range_sizes}
use Rattle.generator.proofs.choose.Goals as goal

pub overflow_sub-result : goal.overflow_sub-result
overflow_sub-result c = (range_sizes _ c.in_ok-lo.field-0 c.in_ok-lo.ensures).0

pub overflow_add-result : goal.overflow_add-result
overflow_add-result c = omega (arith, (range_sizes _ c.in_ok-lo.field-0 c.in_ok-lo.ensures).1)
