use Rattle.scripts.proofs.Twice.{Doubling}
use Rattle.scripts.proofs.passing.grow_twice.Given as goal

-- The first i sums have grown by both counts, and it is known whether they were within after each.
abbrev pub invariant-loop-i : goal.invariant-loop-i
invariant-loop-i l = Doubling l.initial.sums l.figures.ceilings.now l.figures.leasts.now l.one l.two l.sums l.within l.i
