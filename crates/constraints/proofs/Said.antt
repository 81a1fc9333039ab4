-- What `reading` says, case by case: refused where a question is the first that is answered no, else the text's pair.
-- Assumes nothing.
use Rattle.laws.proofs.Base.{ℕ, ◌≤◌, ◌≡◌, refl, ap, ◌∙◌, List, [], ◌∷◌, ◌++◌, arith, length, take, drop, take_at, length-take-le}
use Rattle.laws.specs.Ranges.{table}
use Rattle.laws.proofs.Table.{length-table}
use Rattle.curves.specs.Pairs.{Pair, pair_of, horizon}
use Rattle.curves.specs.Unlimited.{AnyPair, limited, unlimited, with_mark, curves_of, mark_of}
use Rattle.curves.proofs.Highest.{length-highest}
use Rattle.curves.specs.Questions.{Question, AllYes, FirstNo}
use Rattle.curves.proofs.Asked.{said_no, said_yes, yes_parts, Positive, no_iff, yes_iff}
use Rattle.csv_text.specs.Text.{Bytes}
use Rattle.csv_text.specs.Records.{Most, none, up_to, Constraint, constraint_of}
use Rattle.constraints.specs.Constraints.{smallest_most, least_for, ceiling_for, filled_by}
use Rattle.constraints.specs.Reading.{later, constraints, horizon_of, text_pair, record_questions, question10, question11}
use Rattle.constraints.specs.Reading.{reading_questions, ReadingAnswer, refused_reading, put_first, given_reading, reading}
use Rattle.constraints.specs.Theorems.{ReadingRefused, PairIffAllYes, GivesPair, GivenIsTextPair}

module _ (t : Bytes) (found : Pair) where
  pub refused_is : (n : ℕ) → FirstNo (reading_questions t found) n → reading t found ≡ refused_reading n found
  unfolding reading
  refused_is n f = said_no (reading_questions t found) _ (λ k. refused_reading k found) n f

  pub given_is : AllYes (reading_questions t found) → reading t found ≡ given_reading t found
  unfolding reading
  given_is ys = said_yes (reading_questions t found) _ _ (given_reading t found) ys (λ _. refl)

positive_records : (earlier : List Constraint) (rs : List Bytes) (qs : List Question) → Positive qs
    → Positive (record_questions earlier rs ++ qs)
positive_records earlier [] qs h = h
positive_records earlier (r ∷ rs) qs h =
    (omega arith, (omega arith, (omega arith, positive_records (earlier ++ (constraint_of r ∷ [])) rs qs h)))

positive_numbers : (t : Bytes) (found : Pair) → Positive (reading_questions t found)
positive_numbers t found =
    (omega arith, positive_records [] (later t) (question10 t ∷ question11 t found ∷ []) (omega arith, (omega arith, tt)))

-- ---- the statements
pub reading_refused : ReadingRefused
unfolding reading
reading_refused t found =
    no_iff (reading_questions t found) _ (λ k. refused_reading k found) (λ x. x.number) (λ k. refl) (λ ys. refl) (positive_numbers t found)

pub pair_iff_all_yes : PairIffAllYes
unfolding reading
pair_iff_all_yes t found =
    yes_iff (reading_questions t found) _ (λ k. refused_reading k found) (λ x. x.number) (λ k. refl) (λ ys. refl) (positive_numbers t found)

-- Where a pair is given, the records were asked, there is one, and the lists are long enough.
pub gives_asked : (t : Bytes) (found : Pair) → GivesPair t found
    → AllYes (record_questions [] (later t)) × (question10 t).asked × (question11 t found).asked
gives_asked t found g =
    let ys = (pair_iff_all_yes t found).0 g in
    let (rs, more) = yes_parts (record_questions [] (later t)) (question10 t ∷ question11 t found ∷ []) ys.1 in
    (rs, more.0, more.1.0)

-- The first h entries of a table of h, with others after it.
front : (f : ℕ → ℕ) (h : ℕ) (xs : List ℕ) → take h (table f h ++ xs) ≡ table f h
front f h xs = take_at (table f h) xs h (length-table f h)

-- The horizon of a text's pair.
filled_horizon : (x : Most) (cs : List Constraint) (h : ℕ) → horizon (curves_of (filled_by x h cs)) ≡ h
filled_horizon none cs h = length-highest h
filled_horizon (up_to m) cs h = length-table (ceiling_for m cs) h

pub text_horizon : (t : Bytes) → horizon (curves_of (text_pair t)) ≡ horizon_of t
text_horizon t = filled_horizon (smallest_most (constraints t)) (constraints t) (horizon_of t)

-- The pair that an answer gives, and so that of a text's answer, with ceilings or without.
abbrev pair_in : ReadingAnswer → AnyPair
pair_in a = with_mark (take a.horizon a.results.upper) (take a.horizon a.results.lower) a.unlimited

filled_first : (x : Most) (cs : List Constraint) (h : ℕ) (found : Pair) → h ≤ length found.upper
    → let p = filled_by x h cs in pair_in (record { number = 0; horizon = h; unlimited = mark_of p; results = put_first h p found }) ≡ p
filled_first none cs h found l = λ i. unlimited (length-take-le h found.upper l i) (front (least_for cs) h (drop h found.lower) i)
filled_first (up_to m) cs h found l =
    λ i. limited (pair_of (front (ceiling_for m cs) h (drop h found.upper) i) (front (least_for cs) h (drop h found.lower) i))

pub given_is_text_pair : GivenIsTextPair
given_is_text_pair t found g =
    let e = given_is t found ((pair_iff_all_yes t found).0 g) in
    let room = (gives_asked t found g).2.0 in
    (ap (λ x. x.horizon) e, ap pair_in e ∙ filled_first (smallest_most (constraints t)) (constraints t) (horizon_of t) found room)
