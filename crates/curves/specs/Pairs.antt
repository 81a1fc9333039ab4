-- Pairs of arrival curves (document 01, "The trade's terms"), of any horizon and any figures.
use Rattle.std.specs.Prelude.{ℕ, zero, suc, ◌-◌, ◌+◌, ◌≤◌, ◌≡◌, List, length, get_or, take}
use Rattle.laws.specs.Ranges.{fold}

-- Two lists of figures, numbers of the kind N: entry 0 is that of the window of one tick.
pub record Curves (N : Type 0) : Type 0 where
  -- Ceilings: the upper arrival curve.
  pub upper : List N
  -- Leasts: the lower arrival curve.
  pub lower : List N

-- The horizon H.
abbrev pub horizon : {N : Type 0} → Curves N → ℕ
horizon c = length c.upper

-- The figure of a window of d ticks; z where the list has none, as for the window of no ticks.
unfoldable pub figure : {N : Type 0} → N → List N → ℕ → N
figure z us zero = z
figure z us (suc d) = get_or us d z

-- Equality: the same horizon, and the same ceiling and least for each window up to it.
pub record Same {N : Type 0} (z : N) (c e : Curves N) : Type 0 where
  pub horizons : horizon c ≡ horizon e
  pub uppers : (d : ℕ) → 1 ≤ d → d ≤ horizon c → figure z c.upper d ≡ figure z e.upper d
  pub lowers : (d : ℕ) → 1 ≤ d → d ≤ horizon c → figure z c.lower d ≡ figure z e.lower d

-- A pair of arrival curves: its figures are natural numbers.
abbrev pub Pair : Type 0
Pair = Curves ℕ

-- Ceilings first, then leasts.
abbrev pub pair_of : List ℕ → List ℕ → Pair
pair_of us ls = record { upper = us; lower = ls }

-- The pair in the first h entries of two lists, as those that are lent for results.
abbrev pub first : ℕ → Pair → Pair
first h c = pair_of (take h c.upper) (take h c.lower)

-- The ceiling (most) and the least of a window of d ticks.
abbrev pub upper_at : Pair → ℕ → ℕ
upper_at p d = figure 0 p.upper d

abbrev pub lower_at : Pair → ℕ → ℕ
lower_at p d = figure 0 p.lower d

-- Two pairs, and so two closures, are equal.
abbrev pub Equal : Pair → Pair → Type 0
Equal p q = Same 0 p q

-- No figure of a list is above n.
abbrev pub FiguresWithin : ℕ → List ℕ → Type 0
FiguresWithin n us = (d : ℕ) → 1 ≤ d → d ≤ length us → figure 0 us d ≤ n

-- How far the ceilings stand above the leasts, over all windows.
abbrev pub slack : Pair → ℕ
slack p = fold ◌+◌ 0 (λ d. upper_at p d - lower_at p d) (horizon p)
