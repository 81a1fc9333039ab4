use Rattle.std.proofs.Common.{◌≡◌, ℕ, ◌+◌, ◌-◌, ◌<◌, length, get_or}
use Rattle.scripts.specs.Steps.{sum_limit}
use Rattle.scripts.proofs.sending.raise.Given as goal

-- The first i places have the raised figures of the i longest windows.
abbrev pub invariant-loop-i : goal.invariant-loop-i
invariant-loop-i l = (k : ℕ) → k < l.i → get_or l.raised k 0 ≡ get_or l.figures (length l.figures - 1 - k) 0 + sum_limit
