-- The definitions compute: a record is given with its length, or refused with 7 or 8. Assumes nothing.
use Rattle.laws.proofs.Base.{◌≡◌, refl, [], ◌∷◌, ◌++◌, ⊎_map, dec_and, dec_le, ℕ_discrete}
use Rattle.laws.proofs.Tests.{each?, equal_lists?}
use Rattle.curves.specs.Questions.{ask, result, refusal}
use Rattle.csv_text.specs.Text.{comma, crlf, records, fields}
use Rattle.csv_text.specs.Numbers.{value_after}
use Rattle.csv_text.specs.Records.{none, up_to, constraint, first_record}
use Rattle.csv_text.proofs.Decisions.{digit?, numeral?, numeral_or_empty?, well_formed?, most_within?, in_range?}
use Rattle.records.specs.Recording.{spelt, recording}

-- `12,0,3` and a record after it: 6 bytes spell the first.
given : recording (first_record (49 ∷ 50 ∷ comma ∷ 48 ∷ comma ∷ 51 ∷ crlf ++ (120 ∷ []))) ≡ result (spelt (constraint 12 0 (up_to 3)) 3 6)
unfolding recording ask ⊎_map records fields value_after each? digit? numeral? numeral_or_empty? equal_lists? well_formed? most_within? in_range?
    dec_le ℕ_discrete dec_and
given = refl

-- `12,0,`: there is no most, and 5 bytes spell it.
no_most_lem : recording (49 ∷ 50 ∷ comma ∷ 48 ∷ comma ∷ []) ≡ result (spelt (constraint 12 0 none) 0 5)
unfolding recording ask ⊎_map fields value_after each? digit? numeral? numeral_or_empty? equal_lists? well_formed? most_within? in_range? dec_le
    ℕ_discrete dec_and
no_most_lem = refl

-- No byte, and `0,0,3`.
no_form : recording (first_record []) ≡ refusal 7
unfolding recording ask ⊎_map records fields each? digit? numeral? well_formed? dec_le ℕ_discrete dec_and
no_form = refl

no_window : recording (48 ∷ comma ∷ 48 ∷ comma ∷ 51 ∷ []) ≡ refusal 8
unfolding recording ask ⊎_map fields value_after each? digit? numeral? numeral_or_empty? equal_lists? well_formed? most_within? in_range? dec_le
    ℕ_discrete dec_and
no_window = refl
