-- What the private functions of this crate promise each other. No public promise cites anything of it.
use Rattle.std.specs.Prelude.{ℕ, ◌+◌, ◌≤◌, ◌<◌, min, ◌≡◌, Bool, true, false, Option, Some, None, ◌↔◌}
use Rattle.curves.specs.Unlimited.{curves_of}
use Rattle.curves.specs.Ticks.{then, Keeps}
use Rattle.bounds.specs.Bounds.{figure_limit}
use Rattle.history.specs.States.{View}
use Rattle.generator.specs.declared.Admissible.{Admissible}

-- The count x keeps every judged window, up to the limit of figures.
abbrev pub Keeping : View → ℕ → Type 0
Keeping v x = Keeps (curves_of v.pair) (then v.held x) × (x ≤ figure_limit)

-- Such counts are those of a range, or there are none.
abbrev pub Limited : View → Option Admissible → Type 0
Limited v (Some a) = (a.lo ≤ a.hi) × ((x : ℕ) → Keeping v x ↔ ((a.lo ≤ x) × (x ≤ a.hi)))
Limited v None = (x : ℕ) → ¬ Keeping v x

-- No sum of held ticks is above it.
abbrev pub sum_limit : ℕ
sum_limit = 1099511627776

-- What a window with the ceiling u leaves of a largest count, both with the limit of sums added; r is what the sum of its ticks before the
-- next one leaves of that limit. By the pair's mark.
abbrev pub lowered_to : Bool → ℕ → ℕ → ℕ → ℕ
lowered_to true hi u r = hi
lowered_to false hi u r = min hi (u + r)

-- The counts from lo to before end are shown as a range, where there are any.
abbrev pub Shows : ℕ → ℕ → Option Admissible → Type 0
Shows lo end (Some a) = (lo < end) × (a.lo ≡ lo) × (a.hi + 1 ≡ end)
Shows lo end None = end ≤ lo
