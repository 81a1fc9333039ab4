-- Constraints (triples), and the pair that a set of them stands for (document 01, "Triples as CSV text", and request P7).
use Rattle.std.specs.Prelude.{ℕ, ◌*◌, ◌≤◌, min, max, ◌≡◌, cond, List, [], ◌∷◌, eqb}
use Rattle.laws.specs.Ranges.{table}
use Rattle.laws.specs.Tests.{Each}
use Rattle.curves.specs.Streams.{sum}
use Rattle.curves.specs.Pairs.{pair_of}
use Rattle.curves.specs.Unlimited.{AnyPair, limited, unlimited}
use Rattle.csv_text.specs.Records.{Most, none, up_to, or_else, Constraint}

-- The constraint's window is named by none of the earlier ones.
abbrev pub New : List Constraint → Constraint → Type 0
New earlier c = Each (λ e. ¬ (e.window ≡ c.window)) earlier

-- ---- the pair of a set of constraints
-- What the set names for a window of d ticks: its least, its most. `other` where it names no such window.
unfoldable pub named : {A : Type 0} → (Constraint → A) → A → List Constraint → ℕ → A
named what other [] d = other
named what other (c ∷ cs) d = cond (eqb c.window d) (what c) (named what other cs d)

-- The largest window that it names, 0 where it names none.
abbrev pub largest_window : List Constraint → ℕ
largest_window [] = 0
largest_window (c ∷ cs) = max c.window (largest_window cs)

-- The smaller of two mosts; one that is missing does not count.
abbrev pub smaller_most : Most → Most → Most
smaller_most none y = y
smaller_most (up_to m) none = up_to m
smaller_most (up_to m) (up_to n) = up_to (min m n)

-- Its smallest most of those that are given; none where none is.
abbrev pub smallest_most : List Constraint → Most
smallest_most [] = none
smallest_most (c ∷ cs) = smaller_most c.most (smallest_most cs)

-- A window's least, 0 where the window is not named.
abbrev pub least_for : List Constraint → ℕ → ℕ
least_for cs d = named (λ c. c.least) 0 cs d

-- Its ceiling: the most that is given for it, or else its length times m.
abbrev pub ceiling_for : ℕ → List Constraint → ℕ → ℕ
ceiling_for m cs d = or_else (d * m) (named (λ c. c.most) none cs d)

-- Filling, up to a horizon h: ceilings by the smallest most; where no constraint has a most, the pair is without ceilings.
abbrev pub filled_by : Most → ℕ → List Constraint → AnyPair
filled_by none h cs = unlimited h (table (least_for cs) h)
filled_by (up_to m) h cs = limited (pair_of (table (ceiling_for m cs) h) (table (least_for cs) h))

abbrev pub filled : ℕ → List Constraint → AnyPair
filled h cs = filled_by (smallest_most cs) h cs

-- ---- what a constraint asks of an unbounded stream: of every window of its length
-- A sum is at most the most, where there is one.
abbrev pub AtMost : ℕ → Most → Type 0
AtMost x none = Unit {0}
AtMost x (up_to m) = x ≤ m

abbrev pub Satisfies : (ℕ → ℕ) → Constraint → Type 0
Satisfies s c = (i : ℕ) → (c.least ≤ sum s i c.window) × AtMost (sum s i c.window) c.most
