use Rattle.std.proofs.Common.{◌-◌, length, get_or}
use Rattle.scripts.specs.Steps.{Narrowed}
use Rattle.scripts.proofs.sending.narrow.Given as goal

-- The limits stand for the windows of up to d + 1 ticks.
abbrev pub invariant-loop-d : goal.invariant-loop-d
invariant-loop-d l =
    let h = length l.figures.ceilings.now in
    Narrowed (λ j. get_or l.figures.ceilings.now (h - 2 - j) 0) (λ j. get_or l.figures.leasts.now (h - 2 - j) 0) (λ j. get_or l.sums (h - 1 - j) 0)
    (get_or l.figures.leasts.now (h - 1) 0) (get_or l.figures.ceilings.now (h - 1) 0) l.d l.lo l.hi
