-- Laws of a record's questions: how far a loop through the records has come, and how it ends.
-- Assumes nothing.
use Rattle.laws.proofs.Base.{ℕ, ◌+◌, ◌-◌, ◌≤◌, ◌≡◌, refl, sym, ap, ◌∙◌, subst, List, [], ◌∷◌, ◌++◌, map, append_assoc}
use Rattle.laws.proofs.Base.{append-nil, ◌↔◌, inl, inr, arith, length, get_or, drop}
use Rattle.std.proofs.Common.{None}
use Rattle.curves.specs.Questions.{AllYes, FirstNo, result, refusal}
use Rattle.curves.proofs.Asked.{no_before}
use Rattle.csv_text.specs.Text.{Bytes, records}
use Rattle.csv_text.proofs.Splitting.{records_first}
use Rattle.csv_text.specs.Records.{first_record, Constraint, constraint_of, InRange}
use Rattle.records.specs.declared.Record.{Record}
use Rattle.records.specs.declared.RecordRefusal.{RecordRefusal}
use Rattle.records.specs.declared.RecordRefusal.TheVariants.{Malformed, OutOfRange}
use Rattle.records.specs.Answers.{constraint_in, spelt_in, record_refusal_number}
use Rattle.records.specs.Recording.{spelt_by, recording, question7, question8}
use Rattle.records.proofs.Said.{refused_iff, given_from}
use Rattle.constraints.specs.Constraints.{New}
use Rattle.constraints.specs.Reading.{question9, record_questions}
use Rattle.constraints.specs.Answers.{refused_by, reading_refusal_number}
use Rattle.constraints.specs.declared.table.Table.{Table}
use Rattle.constraints.specs.Steps.{TableHolds, with}
use Rattle.constraints.proofs.Tables.{holds_more, names_told}

-- Of the records rs₀ all are taken into the table t but the last, rs: what is asked of these settles what is asked of all.
pub record Reached (rs₀ : List Bytes) (t : Table) (rs : List Bytes) : Type 0 where
  pub taken : List Constraint
  pub holds : TableHolds t taken
  pub all : taken ++ map constraint_of rs ≡ map constraint_of rs₀
  pub yeses : AllYes (record_questions taken rs) → AllYes (record_questions [] rs₀)
  pub noes : (n : ℕ) → FirstNo (record_questions taken rs) n → FirstNo (record_questions [] rs₀) n

-- A record r was found to be the constraint c.
module _ (r : Bytes) (c : Record) (found : result (spelt_in c) ≡ recording r) where
  asked : AllYes (question7 r ∷ question8 r ∷ [])
  asked = (given_from r _ (sym found)).0

  same : spelt_by r ≡ spelt_in c
  same = (given_from r _ (sym found)).1

  pub found_in_range : InRange (constraint_in c)
  found_in_range = subst InRange (ap (λ p. p.constraint) same) asked.1.0

  pub found_length : c.length ≡ length r
  found_length = sym (ap (λ p. p.bytes) same)

-- Of the records rs₀ those before a text s, which is not empty, are taken into the table t: the first of s is refused with 7 or 8, or its
-- window is named already, or it is taken.
module _ (rs₀ : List Bytes) (t : Table) (s : Bytes) (l : 1 ≤ length s) (a : Reached rs₀ t (records s)) where
  abbrev r : Bytes
  r = first_record s

  here : Reached rs₀ t (r ∷ records (drop (length r + 2) s))
  here = subst (Reached rs₀ t) (records_first s l) a

  refused_at : (n : ℕ) → refusal n ≡ recording r → FirstNo (record_questions [] rs₀) n
  refused_at n e =
      let others = record_questions (here.taken ++ (constraint_of r ∷ [])) (records (drop (length r + 2) s)) in
      here.noes n (no_before (question7 r ∷ question8 r ∷ []) (question9 here.taken r ∷ others) n ((refused_iff r n).0 (sym e)))

  pub refused_record : (e : RecordRefusal) → refusal (record_refusal_number e) ≡ recording r
      → FirstNo (record_questions [] rs₀) (reading_refusal_number (refused_by e))
  refused_record Malformed f = refused_at 7 f
  refused_record OutOfRange f = refused_at 8 f

  module _ (c : Record) (found : result (spelt_in c) ≡ recording r) where
    ys : AllYes (question7 r ∷ question8 r ∷ [])
    ys = asked r c found

    is : constraint_of r ≡ constraint_in c
    is = ap (λ p. p.constraint) (same r c found)

    told : (get_or t.rows (c.window - 1) None ≡ None) ↔ New here.taken (constraint_in c)
    told = names_told t here.taken (constraint_in c) here.holds (found_in_range r c found)

    pub again_at : ¬ (get_or t.rows (c.window - 1) None ≡ None) → FirstNo (record_questions [] rs₀) 9
    again_at e = here.noes 9 (inr (ys.0, inr (ys.1.0, inl (refl, λ new. e (told.1 (subst (New here.taken) is new))))))

    pub onward_at : get_or t.rows (c.window - 1) None ≡ None → Reached rs₀ (with t c) (records (drop (c.length + 2) s))
    onward_at e =
        let new : New here.taken (constraint_in c) = told.0 e in
        let new' : New here.taken (constraint_of r) = subst (New here.taken) (sym is) new in
        rw (found_length r c found)
        (record {
          taken = here.taken ++ (constraint_in c ∷ []);
          holds = holds_more t here.taken c here.holds (found_in_range r c found) new;
          all = append_assoc here.taken (constraint_in c ∷ []) _ ∙ (rw (← is) here.all);
          yeses = λ more. here.yeses (ys.0, (ys.1.0, (new', rw is more)));
          noes = λ n f. here.noes n (inr (ys.0, inr (ys.1.0, inr (new', rw is f))));
        })

pub empty_is : (s : Bytes) → length s ≡ 0 → s ≡ []
empty_is [] e = refl
empty_is (b ∷ s) e = absurd (omega (arith, e))

-- No record is left.
pub reached_end : (rs₀ : List Bytes) (t : Table) → Reached rs₀ t (records []) → AllYes (record_questions [] rs₀) × TableHolds t (map constraint_of rs₀)
unfolding records
reached_end rs₀ t done = (done.yeses tt, rw (← done.all, append-nil done.taken) done.holds)
