-- Reading (document 01, "Triples as CSV text" and questions 6 to 11): text in, two lists lent for results. Questions 7 and 8 are those of a
-- record.
use Rattle.std.specs.Prelude.{ℕ, ◌≤◌, ◌≡◌, Bool, false, List, [], ◌∷◌, ◌++◌, map, length, get_or, drop}
use mathlib.Core.Logic.Dec.{and as dec_and, not as dec_not}
use Rattle.std.proofs.Math.Decide.{dec_le, ℕ_discrete}
use Rattle.laws.proofs.Tests.{each?, equal_lists?}
use Rattle.curves.specs.Pairs.{Pair, pair_of}
use Rattle.curves.specs.Unlimited.{AnyPair, limited, unlimited, mark_of}
use Rattle.curves.specs.Questions.{Question, answer_to}
use Rattle.bounds.specs.Bounds.{RoomFor, room_for?}
use Rattle.csv_text.specs.Text.{Bytes, header, records}
use Rattle.csv_text.specs.Records.{Constraint, constraint_of}
use Rattle.constraints.specs.Constraints.{New, largest_window, filled}
use Rattle.records.specs.Recording.{question7, question8}

-- The longest text.
abbrev pub text_limit : ℕ
text_limit = 16_384

-- The records after the first line, and the constraints that they spell.
abbrev pub later : Bytes → List Bytes
later t = drop 1 (records t)

abbrev pub constraints : Bytes → List Constraint
constraints t = map constraint_of (later t)

-- The horizon of a text is the largest window named, and its pair is filled up to there.
abbrev pub horizon_of : Bytes → ℕ
horizon_of t = largest_window (constraints t)

abbrev pub text_pair : Bytes → AnyPair
text_pair t = filled (horizon_of t) (constraints t)

-- 6. The text is not too long, and its first line is the header.
abbrev pub question6 : Bytes → Question
question6 t =
    record {
      number = 6;
      asked = (length t ≤ text_limit) × (get_or (records t) 0 [] ≡ header);
      answered = dec_and (dec_le (length t) text_limit) (equal_lists? (get_or (records t) 0 []) header);
    }

-- 9. The record's window is new.
abbrev pub question9 : List Constraint → Bytes → Question
question9 earlier r =
    record {
      number = 9;
      asked = New earlier (constraint_of r);
      answered = each? _ (λ e. dec_not (ℕ_discrete e.window (constraint_of r).window)) earlier;
    }

-- Records are asked one after the other, so that the first faulty one gives the number.
abbrev pub record_questions : List Constraint → List Bytes → List Question
record_questions earlier [] = []
record_questions earlier (r ∷ rs) =
    question7 r ∷ question8 r ∷ question9 earlier r ∷ record_questions (earlier ++ (constraint_of r ∷ [])) rs

-- 10. There is a record.
abbrev pub question10 : Bytes → Question
question10 t = record { number = 10; asked = 1 ≤ length (later t); answered = dec_le 1 (length (later t)) }

-- 11. Each result list has room for the text's pair.
abbrev pub question11 : Bytes → Pair → Question
question11 t found = record { number = 11; asked = RoomFor (horizon_of t) found; answered = room_for? (horizon_of t) found }

abbrev pub reading_questions : Bytes → Pair → List Question
reading_questions t found = (question6 t ∷ record_questions [] (later t)) ++ (question10 t ∷ question11 t found ∷ [])

-- What reading answers, with the two result lists as it leaves them.
pub record ReadingAnswer : Type 0 where
  -- The number of the refusal; 0 where there is none.
  pub number : ℕ
  -- The pair's horizon.
  pub horizon : ℕ
  -- The pair's mark: it has no ceilings.
  pub unlimited : Bool
  pub results : Pair

-- A refusal: its number, nothing else, and the result lists as found.
abbrev pub refused_reading : ℕ → Pair → ReadingAnswer
refused_reading n found = record { number = n; horizon = 0; unlimited = false; results = found }

-- A pair in the first h entries of two lists; the others as found. Without ceilings, the list for them is as found.
abbrev pub put_first : ℕ → AnyPair → Pair → Pair
put_first h (limited p) found = pair_of (p.upper ++ drop h found.upper) (p.lower ++ drop h found.lower)
put_first h (unlimited k ls) found = pair_of found.upper (ls ++ drop h found.lower)

-- The text's pair in the first H entries of the result lists.
abbrev pub given_reading : Bytes → Pair → ReadingAnswer
given_reading t found =
    record {
      number = 0;
      horizon = horizon_of t;
      unlimited = mark_of (text_pair t);
      results = put_first (horizon_of t) (text_pair t) found;
    }

-- Reading the text t: the first question that is answered no gives its number, else the text's pair is given.
unfoldable pub reading : Bytes → Pair → ReadingAnswer
reading t found = answer_to (reading_questions t found) (λ _. given_reading t found) (λ n. refused_reading n found)
