-- The definitions compute: filling a set of constraints up to a horizon, and which record's fault decides. Assumes nothing.
use Rattle.laws.proofs.Base.{◌≡◌, refl, [], ◌∷◌, ◌++◌, ⊎_map, dec_and, dec_le, ℕ_discrete}
use mathlib.Core.Logic.Dec
use Rattle.laws.specs.Ranges.{table}
use Rattle.laws.proofs.Tests.{each?, equal_lists?}
use Rattle.curves.specs.Pairs.{Pair, pair_of}
use Rattle.curves.specs.Unlimited.{limited, unlimited}
use Rattle.curves.specs.Questions.{ask}
use Rattle.csv_text.specs.Text.{Bytes, comma, crlf, header, records, fields}
use Rattle.csv_text.specs.Numbers.{value_after}
use Rattle.csv_text.specs.Records.{none, up_to, constraint}
use Rattle.csv_text.proofs.Decisions.{digit?, numeral?, numeral_or_empty?, well_formed?, most_within?, in_range?}
use Rattle.constraints.specs.Reading.{refused_reading, reading}
use Rattle.constraints.specs.Constraints.{named, filled}

-- The published triples up to their horizon: windows 1, 2 and 4 are filled by the smallest most, 3.
published
    : filled 5 (constraint 3 0 (up_to 3) ∷ constraint 5 5 (up_to 9) ∷ [])
    ≡ limited (pair_of (3 ∷ 6 ∷ 3 ∷ 12 ∷ 9 ∷ []) (0 ∷ 0 ∷ 0 ∷ 0 ∷ 5 ∷ []))
unfolding named table
published = refl

-- Up to a longer horizon, windows past the largest that is named are filled like others; so is one that is named without a most.
longer
    : filled 6 (constraint 3 0 (up_to 3) ∷ constraint 5 5 none ∷ [])
    ≡ limited (pair_of (3 ∷ 6 ∷ 3 ∷ 12 ∷ 15 ∷ 18 ∷ []) (0 ∷ 0 ∷ 0 ∷ 0 ∷ 5 ∷ 0 ∷ []))
unfolding named table
longer = refl

-- Without a most there is no ceiling.
no_ceiling_lem : filled 3 (constraint 2 4 none ∷ constraint 1 1 none ∷ []) ≡ unlimited 3 (1 ∷ 4 ∷ 0 ∷ [])
unfolding named table
no_ceiling_lem = refl

-- The first faulty record decides, not the last: a window named twice in record 2 gives 9, although record 3, `x`, has no form.
faults : Bytes
faults = header ++ crlf ++ row ++ crlf ++ row ++ crlf ++ (120 ∷ [])
  where
    row : Bytes
    row = 51 ∷ comma ∷ 48 ∷ comma ∷ 51 ∷ []

first_decides : (found : Pair) → reading faults found ≡ refused_reading 9 found
unfolding reading faults ask ⊎_map records fields value_after each? digit? numeral? numeral_or_empty? well_formed? most_within? in_range? dec_le
    ℕ_discrete dec_and Dec.not equal_lists?
first_decides found = refl
