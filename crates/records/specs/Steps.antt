-- What the private functions of this crate promise each other. No public promise cites anything of it.
use Rattle.std.specs.Prelude.{ℕ, ◌+◌, ◌≤◌, ◌<◌, ◌≡◌, Bool, true, false, [], ◌∷◌, ◌⊎◌, Option, Some, None, Result, Ok, Err, length, get_or, take, drop}
use denote.Ref.{Bor}
use Rattle.csv_text.specs.Text.{Bytes, comma, cr, lf, fields}
use Rattle.csv_text.specs.Numbers.{Numeral, value}
use Rattle.csv_text.specs.Records.{or_else, first_record, Constraint, constraint, most_of, InRange}
use Rattle.records.specs.declared.Record.{Record}
use Rattle.records.specs.declared.RecordRefusal.{RecordRefusal}
use Rattle.records.specs.declared.RecordRefusal.TheVariants.{Malformed, OutOfRange}
use Rattle.records.specs.Recording.{spelt}
use Rattle.records.specs.Answers.{constraint_in, spelt_in}

-- CR LF stands at the beginning.
abbrev pub LineEnd : Bytes → Type 0
LineEnd s = (get_or s 0 0 ≡ cr) × (get_or s 1 0 ≡ lf)

-- A comma stands there, or CR LF.
abbrev pub FieldEnd : Bytes → Type 0
FieldEnd s = (get_or s 0 0 ≡ comma) ⊎ LineEnd s

-- A part of a text stands before the first place from which on a test says yes, or is all of it.
pub record CutBefore (Says : Bytes → Bool → Type 0) (s part : Bytes) : Type 0 where
  pub within : length part ≤ length s
  pub front : part ≡ take (length part) s
  pub passed : (i : ℕ) → i < length part → Says (drop i s) false
  pub ended : length part < length s → Says (drop (length part) s) true

-- The record that a text begins with is the field f, a comma and the record of what follows that; or f alone, where nothing follows.
abbrev pub SplitOff : Bytes → Bytes → Option (Bor Bytes) → Type 0
SplitOff s f (Some rest) =
    (fields (first_record s) ≡ f ∷ fields (first_record rest.now))
    × (length (first_record s) ≡ length f + 1 + length (first_record rest.now))
    × (length s ≡ length f + 1 + length rest.now)
SplitOff s f None = (fields (first_record s) ≡ f ∷ []) × (length (first_record s) ≡ length f) × (length f ≤ length s)

-- What a field was found to be.
abbrev pub Numbered : Bytes → Option ℕ → Type 0
Numbered f (Some n) = Numeral f × (n ≡ value f)
Numbered f None = ¬ Numeral f

-- A record's figures are in range.
abbrev pub RecordInRange : Record → Type 0
RecordInRange r = InRange (constraint_in r)

-- What the three fields of a record of n bytes were found to be.
abbrev pub Numerals : Bytes → Bytes → Bytes → Type 0
Numerals f g h = Numeral f × Numeral g × ((h ≡ []) ⊎ Numeral h)

abbrev pub constraint_by : Bytes → Bytes → Bytes → Constraint
constraint_by f g h = constraint (value f) (value g) (most_of h)

abbrev pub Figured : Bytes → Bytes → Bytes → ℕ → Result Record RecordRefusal → Type 0
Figured f g h n (Ok r) =
    Numerals f g h × InRange (constraint_by f g h)
    × (spelt_in r ≡ spelt (constraint_by f g h) (or_else 0 (constraint_by f g h).most) n)
Figured f g h n (Err Malformed) = ¬ Numerals f g h
Figured f g h n (Err OutOfRange) = Numerals f g h × (¬ InRange (constraint_by f g h))
