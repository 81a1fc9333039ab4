use Rattle.std.proofs.Common.{ℕ, ◌-◌, ◌<◌, length, get_or}
use Rattle.scripts.proofs.passing.turn.Given as goal

-- The first i places have what is made of the figures of the i longest windows.
abbrev pub invariant-loop-i : goal.invariant-loop-i
invariant-loop-i g l =
    (k : ℕ) → k < l.i
    → goal.F-post g l.stricter (get_or l.given (length l.given - 1 - k) 0) (get_or l.closed (length l.given - 1 - k) 0) (get_or l.strict k 0)
