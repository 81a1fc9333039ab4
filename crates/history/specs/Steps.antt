-- What private functions promise each other, here and in the crates above. No public promise cites anything of it.
use Rattle.std.specs.Prelude.{ℕ, ◌≤◌, ◌<◌, ◌≡◌, Bool, List, ◌++◌, length, drop, replicate}
use Rattle.curves.specs.Unlimited.{with_mark}
use Rattle.bounds.specs.Bounds.{max_horizon}
use Rattle.history.specs.States.{View}

-- Figures at the front of an array, and 0 after them.
abbrev pub padded_to : List ℕ → List ℕ
padded_to us = us ++ drop (length us) (replicate max_horizon 0)

-- Slices of figures up to the horizon, and of the held ticks.
pub record Slices (us ls xs : List ℕ) : Type 0 where
  pub lowers : length ls ≡ length us
  pub within : length us ≤ max_horizon
  pub fewer : length xs < length us

-- The view of figures, the pair's mark and held ticks.
abbrev pub view_with : List ℕ → List ℕ → Bool → List ℕ → View
view_with us ls b xs = record { pair = with_mark us ls b; held = xs }
