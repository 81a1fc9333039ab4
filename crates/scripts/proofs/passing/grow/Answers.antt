use Rattle.std.proofs.Common.{arith}
use Rattle.scripts.proofs.Growing.{growing_none, growing_small, growing_more, growing_all}
use Rattle.scripts.proofs.passing.grow.Goals as goal

pub loop-i-init : goal.loop-i-init
loop-i-init c = growing_none _ _ _ _

-- A turn's sum, of which there is one more than of figures, is far below what 32 bits hold.
pub overflow_add-sum-in-loop-i : goal.overflow_add-sum-in-loop-i
overflow_add-sum-in-loop-i c =
    let small = growing_small _ _ _ _ c.loop-i.invariant c.requires.later_kept.0 c.requires.later_kept.1 (omega arith) in
    record { fits = omega (arith, small) }

pub inside-within-requires : goal.inside-within-requires
inside-within-requires c =
    let placed = c.requires.placed in
    let small = growing_small _ _ _ _ c.loop-i.invariant c.requires.later_kept.0 c.requires.later_kept.1 (omega arith) in
    (placed.leasts_kept _ (omega arith), omega (arith, small), placed.ceilings_kept _ (omega arith))

pub loop-i-preserved : goal.loop-i-preserved
loop-i-preserved c =
    growing_more _ _ _ _ c.loop-i.invariant c.inside-within.result (omega arith) c.inside-within.ensures

pub returns : goal.returns
returns c = growing_all _ _ _ _ c.loop-i.invariant (omega arith)
