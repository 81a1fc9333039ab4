-- What closing costs at most: the count of rounds that it answers is bounded.
use Rattle.std.specs.Prelude.{ℕ, ◌+◌, ◌^◌, ◌≤◌, List}
use Rattle.curves.specs.Pairs.{Pair, horizon, slack}
use Rattle.curves.specs.Unlimited.{AnyPair, limited, unlimited, curves_of}
use Rattle.closure.specs.Closing.{closing}
use Rattle.closure.specs.Theorems.{GivesClosure}

-- Document 01's bound: given a closure, the sum over all windows of ceiling minus least in the pair as given. No least of it is then above
-- its ceiling, so that no difference is cut off at 0.
abbrev pub CountWithinSlack : Type 0
CountWithinSlack = (p found : Pair) → GivesClosure (limited p) found → (closing (limited p) found).rounds ≤ slack p

-- Bounds that no figure has a part in: no answer tells more than nine rounds.
abbrev pub AtMostNineRounds : Type 0
AtMostNineRounds = (p : AnyPair) (found : Pair) → (closing p found).rounds ≤ 9

-- Nor more than k + 1, where the horizon is at most 2^k.
abbrev pub RoundsWithinLogarithm : Type 0
RoundsWithinLogarithm = (p : AnyPair) (found : Pair) (k : ℕ) → horizon (curves_of p) ≤ 2 ^ k → (closing p found).rounds ≤ k + 1

-- Without ceilings (request P7) one round less: eight at most, and k where the horizon is at most 2^k.
abbrev pub UnlimitedWithinLogarithm : Type 0
UnlimitedWithinLogarithm =
    (h : ℕ) (ls : List ℕ) (found : Pair) (k : ℕ) → h ≤ 2 ^ k → (closing (unlimited h ls) found).rounds ≤ k

abbrev pub AtMostEightUnlimited : Type 0
AtMostEightUnlimited = (h : ℕ) (ls : List ℕ) (found : Pair) → (closing (unlimited h ls) found).rounds ≤ 8
