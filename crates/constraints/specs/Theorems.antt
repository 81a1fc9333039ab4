-- What is proved of reading, from what `reading` says alone: so it holds of any code that keeps `read`'s promise.
use Rattle.std.specs.Prelude.{ℕ, ◌≤◌, ◌<◌, ◌≡◌, List, [], ◌∷◌, map, ◌↔◌, length, get_or, take}
use Rattle.laws.specs.Tests.{Each}
use Rattle.curves.specs.Streams.{Stream}
use Rattle.curves.specs.Pairs.{Pair, FiguresWithin}
use Rattle.curves.specs.Unlimited.{AnyPair, with_mark, curves_of}
use Rattle.curves.specs.Conformance.{Conforms∞}
use Rattle.curves.specs.Questions.{Question, AllYes, FirstNo}
use Rattle.bounds.specs.Bounds.{max_horizon, pair_questions}
use Rattle.csv_text.specs.Text.{Bytes}
use Rattle.csv_text.specs.Records.{constraint_of, message_limit}
use Rattle.records.specs.Recording.{question7, question8}
use Rattle.constraints.specs.Constraints.{Satisfies}
use Rattle.constraints.specs.Reading.{later, constraints, horizon_of, text_pair, question6, question9}
use Rattle.constraints.specs.Reading.{reading_questions, ReadingAnswer, refused_reading, reading}

-- ---- Demand 1: refused with n exactly when question n is the first that is answered no; else a pair is given.
abbrev pub GivesPair : Bytes → Pair → Type 0
GivesPair t found = (reading t found).number ≡ 0

abbrev pub ReadingRefused : Type 0
ReadingRefused =
    (t : Bytes) (found : Pair) (n : ℕ) → ((1 ≤ n) × (reading t found ≡ refused_reading n found)) ↔ FirstNo (reading_questions t found) n

abbrev pub PairIffAllYes : Type 0
PairIffAllYes = (t : Bytes) (found : Pair) → GivesPair t found ↔ AllYes (reading_questions t found)

-- The three questions of record i of rs, after the records before it.
abbrev pub questions_at : List Bytes → ℕ → List Question
questions_at rs i = question7 (get_or rs i []) ∷ question8 (get_or rs i []) ∷ question9 (map constraint_of (take i rs)) (get_or rs i []) ∷ []

-- The first faulty record, and the number that it gives.
pub record FirstFaulty (rs : List Bytes) (n : ℕ) : Type 0 where
  pub at : ℕ
  pub within : at < length rs
  pub sound : (i : ℕ) → i < at → AllYes (questions_at rs i)
  pub fault : FirstNo (questions_at rs at) n

-- 7, 8 and 9: below a header line as asked for, by the first faulty record.
abbrev pub RefusedIffFirstFaulty : Type 0
RefusedIffFirstFaulty =
    (t : Bytes) (found : Pair) (n : ℕ) → 7 ≤ n → n ≤ 9
    → (reading t found ≡ refused_reading n found) ↔ ((question6 t).asked × FirstFaulty (later t) n)

-- ---- the pair that is given: the first H entries of the result lists, with the mark
abbrev pub given_pair : Bytes → Pair → AnyPair
given_pair t found =
    let (h, a) : ℕ × ReadingAnswer = ((reading t found).horizon, reading t found) in
    with_mark (take h a.results.upper) (take h a.results.lower) a.unlimited

abbrev pub GivenIsTextPair : Type 0
GivenIsTextPair =
    (t : Bytes) (found : Pair) → GivesPair t found → ((reading t found).horizon ≡ horizon_of t) × (given_pair t found ≡ text_pair t)

-- It passes questions 1, 2 and 4 of every operation on a pair; and no least is above 65,535, which is what closing's 4 asks of it where
-- there are no ceilings.
abbrev pub TextPairPasses : Type 0
TextPairPasses =
    (t : Bytes) (found : Pair) → GivesPair t found
    → AllYes (pair_questions (given_pair t found)) × FiguresWithin message_limit (curves_of (given_pair t found)).lower

-- Whatever is answered, the horizon is at most 256.
abbrev pub HorizonWithin : Type 0
HorizonWithin = (t : Bytes) (found : Pair) → (reading t found).horizon ≤ max_horizon

-- ---- The unbounded streams that conform to it are those that satisfy every constraint of the text: filling adds nothing.
abbrev pub SatisfiesIffConforms : Type 0
SatisfiesIffConforms =
    (t : Bytes) (found : Pair) → GivesPair t found
    → (s : Stream) → Each (Satisfies s.counts) (constraints t) ↔ Conforms∞ (curves_of (given_pair t found)) s.counts
