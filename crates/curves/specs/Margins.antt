-- Margins (request P5): how far the windows that end at the newest tick of a finite stream are from their figures, in whole numbers.
use Rattle.std.specs.Prelude.{ℕ, ◌≤◌, ◌<◌, ◌≡◌, List, ℤ, pos, ◌-ℤ◌, ◌≤ℤ◌}
use Rattle.laws.specs.Tests.{Each}
use Rattle.curves.specs.Streams.{count_limit}
use Rattle.curves.specs.Pairs.{upper_at, lower_at, figure}
use Rattle.curves.specs.Rounds.{whole}
use Rattle.curves.specs.Unlimited.{AnyPair, limited, unlimited, curves_of}
use Rattle.curves.specs.Ticks.{last, Judged}

-- The margin of a sum: the smaller of ceiling minus sum and sum minus least.
abbrev pub margin_between : ℕ → ℕ → ℕ → ℤ
margin_between ceiling least x = whole.smaller (pos ceiling -ℤ pos x) (pos x -ℤ pos least)

-- That of a window of d ticks with the sum x; without ceilings (request P7), the sum minus the least.
abbrev pub margin_of : AnyPair → ℕ → ℕ → ℤ
margin_of (limited p) d x = margin_between (upper_at p d) (lower_at p d) x
margin_of (unlimited h ls) d x = pos x -ℤ pos (figure 0 ls d)

-- The ticks have counts, of at most 4,294,967,295. It is asked where there are no ceilings: the curves by which such a pair is judged have
-- ceilings all the same, which no counts pass.
abbrev pub Counted : AnyPair → List ℕ → Type 0
Counted (limited p) xs = Unit {0}
Counted (unlimited h ls) xs = Each (λ x. x ≤ count_limit) xs

-- A sum is at the ceiling of its window, if there is one.
abbrev pub AtCeiling : AnyPair → ℕ → ℕ → Type 0
AtCeiling (limited p) d x = x ≡ upper_at p d
AtCeiling (unlimited h ls) d x = ⊥

-- A margin, and a window that has it.
pub record Margin : Type 0 where
  pub value : ℤ
  pub window : ℕ

-- The smallest margin of the judged windows, with the shortest window that has it.
pub record Tightest (p : AnyPair) (xs : List ℕ) (m : Margin) : Type 0 where
  pub window_judged : Judged (curves_of p) xs m.window
  pub has_it : margin_of p m.window (last xs m.window) ≡ m.value
  pub none_smaller : (d : ℕ) → Judged (curves_of p) xs d → m.value ≤ℤ margin_of p d (last xs d)
  pub none_shorter : (d : ℕ) → d < m.window → Judged (curves_of p) xs d → ¬ (margin_of p d (last xs d) ≡ m.value)
