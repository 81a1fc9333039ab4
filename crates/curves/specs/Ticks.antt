-- The newest tick of a finite stream (document 01, "Monitor and maker"): its verdict, and the counts that it can have.
use Rattle.std.specs.Prelude.{ℕ, ◌-◌, ◌≤◌, ◌<◌, List, [], ◌∷◌, ◌++◌, length, drop}
use Rattle.curves.specs.Streams.{sum, counts_of}
use Rattle.curves.specs.Pairs.{Pair, horizon}
use Rattle.curves.specs.Conformance.{TooMany, TooFew, Inside}

-- A finite stream with one more tick, the newest.
abbrev pub then : List ℕ → ℕ → List ℕ
then xs x = xs ++ (x ∷ [])

-- Its last n ticks, or all where it has fewer.
abbrev pub newest : ℕ → List ℕ → List ℕ
newest n xs = drop (length xs - n) xs

-- The sum of the window of d ticks that ends at the newest.
abbrev pub last : List ℕ → ℕ → ℕ
last xs d = sum (counts_of xs) (length xs - d) d

-- That window is judged: its length is 1 to H, and it does not reach before the first tick.
pub record Judged (p : Pair) (xs : List ℕ) (d : ℕ) : Type 0 where
  pub positive : 1 ≤ d
  pub within : d ≤ horizon p
  pub begun : d ≤ length xs

-- Every judged window keeps both figures.
abbrev pub Keeps : Pair → List ℕ → Type 0
Keeps p xs = (d : ℕ) → Judged p xs d → Inside p d (last xs d)

-- The judged window of d ticks does not, and each shorter one does.
pub record Shortest (p : Pair) (xs : List ℕ) (d : ℕ) : Type 0 where
  pub window_judged : Judged p xs d
  pub outside : ¬ Inside p d (last xs d)
  pub shorter : (e : ℕ) → e < d → Judged p xs e → Inside p e (last xs e)

-- A verdict on the newest tick, by the figures of one pair; where some window is outside them, with that window.
pub data Verdict : Type 0 where
  passed : Verdict
  too_many : ℕ → Verdict
  too_few : ℕ → Verdict

-- The verdict is right: the window is the shortest that is outside its figures, and in that window 'too many' is looked at first.
abbrev pub Right : Pair → List ℕ → Verdict → Type 0
Right p xs passed = Keeps p xs
Right p xs (too_many d) = Shortest p xs d × TooMany p d (last xs d)
Right p xs (too_few d) = Shortest p xs d × (¬ TooMany p d (last xs d)) × TooFew p d (last xs d)

-- The smallest and the largest of the counts of which `Can` holds.
pub record Extremes (Can : ℕ → Type 0) : Type 0 where
  pub lo : ℕ
  pub hi : ℕ
  pub lo_keeps : Can lo
  pub hi_keeps : Can hi
  pub smallest : (x : ℕ) → Can x → lo ≤ x
  pub largest : (x : ℕ) → Can x → x ≤ hi

-- The admissible range after xs: the smallest and the largest count that the next tick can have.
abbrev pub Range : Pair → List ℕ → Type 0
Range p xs = Extremes (λ x. Keeps p (then xs x))
