use Rattle.std.proofs.Common.{◌+◌, get_or}
use Rattle.laws.proofs.Table.{Filled}
use Rattle.scripts.specs.Steps.{Narrowed}
use Rattle.scripts.proofs.sending.enter.Given as goal

-- The first i sums are the next ones plus the count, and the limits stand for their windows.
abbrev pub invariant-loop-i : goal.invariant-loop-i
invariant-loop-i l =
    Filled (λ d. get_or l.initial.sums d 0 + l.count) l.initial.sums l.sums l.i
    × Narrowed (λ j. get_or l.figures.ceilings.now j 0) (λ j. get_or l.figures.leasts.now j 0) (λ j. get_or l.initial.sums (j + 1) 0 + l.count)
    l.fn.limits.lo l.fn.limits.hi l.i l.lo l.hi
