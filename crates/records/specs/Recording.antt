-- Reading one record (document 01, questions 7 and 8).
use Rattle.std.specs.Prelude.{ℕ, [], ◌∷◌, length}
use Rattle.curves.specs.Questions.{Question, Reply, reply_to}
use Rattle.csv_text.specs.Text.{Bytes}
use Rattle.csv_text.specs.Records.{Constraint, or_else, WellFormed, constraint_of, InRange}
use Rattle.csv_text.proofs.Decisions.{well_formed?, in_range?}

-- 7. The record's form.
abbrev pub question7 : Bytes → Question
question7 r = record { number = 7; asked = WellFormed r; answered = well_formed? r }

-- 8. Its figures are in range.
abbrev pub question8 : Bytes → Question
question8 r = record { number = 8; asked = InRange (constraint_of r); answered = in_range? (constraint_of r) }

-- A constraint, its most as a number, and how many bytes spell it.
pub record Spelt : Type 0 where
  pub constraint : Constraint
  -- 0 where it has none.
  pub most : ℕ
  pub bytes : ℕ

abbrev pub spelt : Constraint → ℕ → ℕ → Spelt
spelt c m n = record { constraint = c; most = m; bytes = n }

-- That of the record r.
abbrev pub spelt_by : Bytes → Spelt
spelt_by r = spelt (constraint_of r) (or_else 0 (constraint_of r).most) (length r)

-- Reading the record r: the first question that is answered no gives its number, else the constraint is given.
unfoldable pub recording : Bytes → Reply Spelt
recording r = reply_to (question7 r ∷ question8 r ∷ []) (λ _. spelt_by r)
