-- The figures that stand for ceilings where a pair has none: no window of counts passes them. Assumes nothing.
use Rattle.laws.proofs.Base.{ℕ, zero, suc, ◌+◌, ◌*◌, ◌≤◌, ◌≡◌, refl, Bool, true, false, List, [], ◌∷◌, arith, length}
use Rattle.laws.specs.Tests.{Each}
use Rattle.laws.proofs.Table.{length-table}
use Rattle.curves.specs.Streams.{count_limit, counts_of, sum}
use Rattle.curves.specs.Pairs.{horizon, figure}
use Rattle.curves.specs.Ticks.{last}
use Rattle.curves.specs.Unlimited.{with_mark, highest, curves_of}
use Rattle.curves.proofs.Figures.{figure_table}

pub length-highest : (h : ℕ) → length (highest h) ≡ h
unfolding highest
length-highest h = length-table _ h

pub highest_at : (h d : ℕ) → 1 ≤ d → d ≤ h → figure 0 (highest h) d ≡ d * count_limit
unfolding highest
highest_at h d l u = figure_table 0 (λ d. d * count_limit) h d l u

-- ---- a window whose ticks have n at most each
pub sum_within : (n : ℕ) (s : ℕ → ℕ) → ((tick : ℕ) → s tick ≤ n) → (i d : ℕ) → sum s i d ≤ d * n
unfolding sum
sum_within n s w i zero = omega arith
sum_within n s w i (suc d) = omega (arith, sum_within n s w i d, w (i + d))

pub entry_within : (n : ℕ) (xs : List ℕ) → Each (λ x. x ≤ n) xs → (tick : ℕ) → counts_of xs tick ≤ n
entry_within n [] e tick = omega arith
entry_within n (x ∷ xs) e zero = e.0
entry_within n (x ∷ xs) e (suc tick) = entry_within n xs e.1 tick

pub last_within : (n : ℕ) (xs : List ℕ) (d : ℕ) → Each (λ x. x ≤ n) xs → last xs d ≤ d * n
last_within n xs d e = sum_within n (counts_of xs) (entry_within n xs e) _ d

-- ---- the curves of two lists and a mark
pub horizon_with : (us ls : List ℕ) (b : Bool) → horizon (curves_of (with_mark us ls b)) ≡ length us
horizon_with us ls false = refl
horizon_with us ls true = length-highest (length us)

pub lower_with : (us ls : List ℕ) (b : Bool) → (curves_of (with_mark us ls b)).lower ≡ ls
lower_with us ls false = refl
lower_with us ls true = refl
