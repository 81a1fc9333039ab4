-- A count put behind the held entries of a list, and a list of counts.
use Rattle.std.specs.Prelude.{ℕ, ◌-◌, ◌≡◌, List, [], ◌∷◌, ◌++◌, length, take, drop}
use Rattle.laws.specs.Writing.{over}

-- The first n entries of a list and x behind them.
abbrev pub behind : List ℕ → ℕ → ℕ → List ℕ
behind found n x = take n found ++ (x ∷ [])

-- The newest of these, as many as the list has room for: where there are more, the oldest goes.
abbrev pub held_with : List ℕ → ℕ → ℕ → List ℕ
held_with found n x = drop (length (behind found n x) - length found) (behind found n x)

-- The list is left with these at its beginning and its other entries as found, and their number is given back.
pub record Pushed (found : List ℕ) (n x : ℕ) (left : List ℕ) (r : ℕ) : Type 0 where
  pub entries : left ≡ over (held_with found n x) found
  pub number : r ≡ length (held_with found n x)

-- A list of counts: the first n entries and these behind them, the newest of all, and what is left.
abbrev pub all_behind : List ℕ → ℕ → List ℕ → List ℕ
all_behind found n xs = take n found ++ xs

abbrev pub held_with_all : List ℕ → ℕ → List ℕ → List ℕ
held_with_all found n xs = drop (length (all_behind found n xs) - length found) (all_behind found n xs)

pub record PushedAll (found : List ℕ) (n : ℕ) (xs left : List ℕ) (r : ℕ) : Type 0 where
  pub entries : left ≡ over (held_with_all found n xs) found
  pub number : r ≡ length (held_with_all found n xs)
