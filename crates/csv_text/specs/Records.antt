-- A record of constraint text, and the constraint (triple) that it spells (document 01, "Triples as CSV text").
use Rattle.std.specs.Prelude.{ℕ, ◌≤◌, ◌≡◌, Bool, true, false, [], ◌∷◌, ◌⊎◌, Option, Some, None, length, get_or}
use Rattle.bounds.specs.Bounds.{max_horizon}
use Rattle.csv_text.specs.Text.{Bytes, records, fields}
use Rattle.csv_text.specs.Numbers.{Numeral, value}

-- The most of a constraint, which may be missing (request P7).
pub data Most : Type 0 where
  none : Most
  up_to : ℕ → Most

-- That of a number, if it is marked as given.
abbrev pub most_if : Bool → ℕ → Most
most_if true m = up_to m
most_if false m = none

-- That of an optional number.
abbrev pub most_in : Option ℕ → Most
most_in (Some m) = up_to m
most_in None = none

-- It as a number; n where it is missing.
abbrev pub or_else : ℕ → Most → ℕ
or_else n none = n
or_else n (up_to m) = m

-- Where there is one, it is at most n.
abbrev pub MostWithin : ℕ → Most → Type 0
MostWithin n none = Unit {0}
MostWithin n (up_to m) = m ≤ n

-- Every window of `window` ticks has at least `least` messages, and at most `most`, where there is one.
pub record Constraint : Type 0 where
  pub window : ℕ
  pub least : ℕ
  pub most : Most

abbrev pub constraint : ℕ → ℕ → Most → Constraint
constraint w l m = record { window = w; least = l; most = m }

-- The record that a text begins with; of an empty text, the empty record.
abbrev pub first_record : Bytes → Bytes
first_record s = get_or (records s) 0 []

-- Its fields, from 0 on.
abbrev pub field : Bytes → ℕ → Bytes
field r i = get_or (fields r) i []

-- The form of a record: three decimal fields, of which the last may be empty.
pub record WellFormed (r : Bytes) : Type 0 where
  pub three : length (fields r) ≡ 3
  pub window : Numeral (field r 0)
  pub least : Numeral (field r 1)
  pub most : (field r 2 ≡ []) ⊎ Numeral (field r 2)

-- The most that a field spells: an empty one, none.
abbrev pub most_of : Bytes → Most
most_of [] = none
most_of (b ∷ f) = up_to (value (b ∷ f))

-- The constraint that a record of that form spells.
abbrev pub constraint_of : Bytes → Constraint
constraint_of r = constraint (value (field r 0)) (value (field r 1)) (most_of (field r 2))

-- The largest least and most that a text may name.
abbrev pub message_limit : ℕ
message_limit = 65_535

-- The figures of a constraint that a text may name.
pub record InRange (c : Constraint) : Type 0 where
  pub some : 1 ≤ c.window
  pub window : c.window ≤ max_horizon
  pub least : c.least ≤ message_limit
  pub most : MostWithin message_limit c.most
