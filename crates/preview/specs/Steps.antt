-- What the private functions of this crate promise each other. No public promise cites anything of it.
use Rattle.std.specs.Prelude.{ℕ, ◌≤◌, ◌<◌, ◌≡◌, List, ℤ, length, get_or, Option, MatchOption}
use Rattle.scripts.specs.Scripts.{judged, judged_counts}

-- What a run of a list gives back and leaves, whatever becomes of margins.
pub record RanAs (ws xs vs left after : List ℕ) (r : ℕ) : Type 0 where
  pub lent : List ℤ
  pub margins : List ℤ
  pub ran : judged r left after margins ≡ judged_counts ws xs vs lent

-- The first n entries are 0, and the one behind them, where there is one, is not.
pub record LeadingZeros (vs : List ℕ) (n : ℕ) : Type 0 where
  pub within : n ≤ length vs
  pub before : (i : ℕ) → i < n → get_or vs i 0 ≡ 0
  pub behind : n < length vs → 0 < get_or vs n 0

-- The place of the first entry that is not 0; none where there is none.
abbrev pub FirstNonzero : List ℕ → Option ℕ → Type 0
FirstNonzero vs r = MatchOption r (LeadingZeros vs (length vs)) (λ k. (k < length vs) × LeadingZeros vs k)
