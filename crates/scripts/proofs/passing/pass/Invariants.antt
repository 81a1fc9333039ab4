use Rattle.std.proofs.Common.{◌≡◌, length}
use Rattle.scripts.proofs.Keeping.{Passing}
use Rattle.scripts.proofs.passing.pass.Given as goal

-- The first i counts keep the figures, and the sums are those of the ticks and these counts.
abbrev pub invariant-loop-i : goal.invariant-loop-i
invariant-loop-i l = (length l.sums ≡ length l.initial.sums) × Passing l.figures.ceilings.now l.figures.leasts.now l.ticks l.counts l.sums l.first l.i
