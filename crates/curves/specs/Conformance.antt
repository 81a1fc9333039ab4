-- Conformance (document 01, "The trade's terms").
use Rattle.std.specs.Prelude.{ℕ, ◌+◌, ◌≤◌, ◌<◌, ◌≡◌, List, length}
use Rattle.curves.specs.Pairs.{Pair, horizon, upper_at, lower_at}
use Rattle.curves.specs.Streams.{Stream, Begins, sum, counts_of}

-- A window of d ticks with the sum x has too many, or too few. A margin (Margins) subtracts instead; that its sign tells the same is
-- `NegativeIffOutside` (`guarantees`).
abbrev pub TooMany : Pair → ℕ → ℕ → Type 0
TooMany p d x = upper_at p d < x

abbrev pub TooFew : Pair → ℕ → ℕ → Type 0
TooFew p d x = x < lower_at p d

-- The sum keeps both figures.
abbrev pub Inside : Pair → ℕ → ℕ → Type 0
Inside p d x = (¬ TooMany p d x) × (¬ TooFew p d x)

-- The first n ticks conform: each window of 1 to H ticks, none of them before the first or after the last, keeps both figures.
abbrev pub ConformsUpTo : ℕ → Pair → (ℕ → ℕ) → Type 0
ConformsUpTo n p s = (i d : ℕ) → 1 ≤ d → d ≤ horizon p → i + d ≤ n → Inside p d (sum s i d)

-- A finite stream conforms; so the empty one does.
abbrev pub Conforms : Pair → List ℕ → Type 0
Conforms p xs = ConformsUpTo (length xs) p (counts_of xs)

-- An unbounded stream conforms.
abbrev pub Conforms∞ : Pair → (ℕ → ℕ) → Type 0
Conforms∞ p s = (i d : ℕ) → 1 ≤ d → d ≤ horizon p → Inside p d (sum s i d)

-- A finite stream is extendable: it begins an unbounded stream that conforms.
abbrev pub Extendable : Pair → List ℕ → Type 0
Extendable p xs = (s : Stream) × Begins xs s.counts × Conforms∞ p s.counts

-- A figure x of d ticks is met: some window of d ticks has that sum.
abbrev pub MetIn : (ℕ → ℕ) → ℕ → ℕ → Type 0
MetIn s d x = (i : ℕ) × (sum s i d ≡ x)
