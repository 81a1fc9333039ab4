use Rattle.std.proofs.Common.{◌≡◌, ◌-◌, ◌≤◌, length}
use Rattle.curves.specs.Ticks.{last}
use Rattle.scripts.specs.Steps.{sum_limit, KeptSums}
use Rattle.scripts.proofs.sums.add_up.Given as goal

-- The sums of the ticks from place i on are kept, and `sum` is that of all of these.
abbrev pub invariant-loop-i : goal.invariant-loop-i
invariant-loop-i l =
    (l.sum ≤ sum_limit)
    × (l.sum ≡ last l.ticks (length l.ticks - l.i))
    × KeptSums l.ticks (length l.ticks - l.i) l.sums
