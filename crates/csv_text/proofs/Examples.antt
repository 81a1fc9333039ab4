-- The definitions compute: texts split, fields read, numbers written. Assumes nothing.
use Rattle.laws.proofs.Base.{◌≡◌, refl, [], ◌∷◌, ◌++◌}
use Rattle.csv_text.specs.Text.{comma, cr, lf, crlf, records, fields}
use Rattle.csv_text.specs.Numbers.{value_after, value, last_digits, decimal}
use Rattle.csv_text.specs.Records.{constraint, constraint_of, none, up_to}

-- Two records; CR LF after the last or not.
two : records ((65 ∷ []) ++ crlf ++ (66 ∷ [])) ≡ (65 ∷ []) ∷ (66 ∷ []) ∷ []
unfolding records
two = refl

ended : records ((65 ∷ []) ++ crlf ++ (66 ∷ []) ++ crlf) ≡ (65 ∷ []) ∷ (66 ∷ []) ∷ []
unfolding records
ended = refl

-- A second CR LF ends an empty record; no byte, no record; a lone CR or LF ends none.
empty : records ((65 ∷ []) ++ crlf ++ crlf) ≡ (65 ∷ []) ∷ [] ∷ []
unfolding records
empty = refl

nothing : records [] ≡ []
unfolding records
nothing = refl

lone : records (65 ∷ cr ∷ 66 ∷ lf ∷ cr ∷ []) ≡ (65 ∷ cr ∷ 66 ∷ lf ∷ cr ∷ []) ∷ []
unfolding records
lone = refl

-- Three fields, the second empty; a record without a comma, and an empty one, is one field.
three : fields (65 ∷ comma ∷ comma ∷ 66 ∷ []) ≡ (65 ∷ []) ∷ [] ∷ (66 ∷ []) ∷ []
unfolding fields
three = refl

one : fields [] ≡ [] ∷ []
unfolding fields
one = refl

-- `3,7,0` has a most, which is 0; `3,7,` has none.
most_0 : constraint_of (51 ∷ comma ∷ 55 ∷ comma ∷ 48 ∷ []) ≡ constraint 3 7 (up_to 0)
unfolding fields value_after
most_0 = refl

no_most_lem : constraint_of (51 ∷ comma ∷ 55 ∷ comma ∷ []) ≡ constraint 3 7 none
unfolding fields value_after
no_most_lem = refl

-- `65535` is 65,535, and the other way round.
spelled : value (54 ∷ 53 ∷ 53 ∷ 51 ∷ 53 ∷ []) ≡ 65_535
unfolding value_after
spelled = refl

written : decimal 65_535 ≡ 54 ∷ 53 ∷ 53 ∷ 51 ∷ 53 ∷ []
unfolding last_digits
written = refl

zero : decimal 0 ≡ 48 ∷ []
unfolding last_digits
zero = refl
