use Rattle.scripts.proofs.Growing.{Growing}
use Rattle.scripts.proofs.passing.grow.Given as goal

-- The first i sums have grown, and it is known whether they are within.
abbrev pub invariant-loop-i : goal.invariant-loop-i
invariant-loop-i l = Growing l.initial.sums l.figures.ceilings.now l.figures.leasts.now l.count l.sums l.within l.i
