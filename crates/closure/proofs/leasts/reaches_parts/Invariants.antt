-- Before a turn it is known of the parts of up to a ticks.
use Rattle.laws.proofs.Base.{ℕ, ◌+◌, ◌-◌, ◌≤◌, ◌<◌, get_or}
use Rattle.laws.specs.Tests.{Tells}
use Rattle.closure.proofs.leasts.reaches_parts.Given as goal

abbrev pub invariant-loop-a : goal.invariant-loop-a
invariant-loop-a l = Tells l.holds ((k : ℕ) → k < l.a → get_or l.lower k 0 + get_or l.lower (l.i - 1 - k) 0 ≤ l.whole)
