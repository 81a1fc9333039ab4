-- 7, 8 and 9 are given by the first faulty record. Assumes nothing.
use Rattle.laws.proofs.Base.{ℕ, zero, suc, ◌<◌, ◌≡◌, List, [], ◌∷◌, ◌++◌, map, append_assoc, append-nil, inr, ⊎_elim, arith, length, get_or}
use Rattle.laws.proofs.Base.{take}
use Rattle.curves.specs.Questions.{Question, AllYes, FirstNo}
use Rattle.curves.proofs.Asked.{no_parts, no_before, no_after}
use Rattle.csv_text.specs.Text.{Bytes}
use Rattle.csv_text.specs.Records.{Constraint, constraint_of}
use Rattle.records.specs.Recording.{question7, question8}
use Rattle.constraints.specs.Reading.{later, question6, question9, record_questions, question10, question11, refused_reading, reading}
use Rattle.constraints.specs.Theorems.{FirstFaulty, RefusedIffFirstFaulty}
use Rattle.constraints.proofs.Said.{reading_refused}

-- The questions of record i of rs, where those of `earlier` come before all.
abbrev asks : List Constraint → List Bytes → ℕ → List Question
asks earlier rs i =
    question7 (get_or rs i []) ∷ question8 (get_or rs i []) ∷ question9 (earlier ++ map constraint_of (take i rs)) (get_or rs i []) ∷ []

abbrev Faulty : List Constraint → List Bytes → ℕ → Type 0
Faulty earlier rs n =
    (at : ℕ) × (at < length rs) × ((i : ℕ) → i < at → AllYes (asks earlier rs i)) × FirstNo (asks earlier rs at) n

abbrev three : List Constraint → Bytes → List Question
three earlier r = question7 r ∷ question8 r ∷ question9 earlier r ∷ []

no_faulty : (earlier : List Constraint) (rs : List Bytes) (n : ℕ) → FirstNo (record_questions earlier rs) n → Faulty earlier rs n
no_faulty earlier [] n f = absurd f
no_faulty earlier (r ∷ rs) n f =
    ⊎_elim
    (λ g. (0, omega arith, λ i l. absurd (omega arith), rw append-nil g))
    (λ (y, g).
    let (k, l, ys, fault) = no_faulty (earlier ++ (constraint_of r ∷ [])) rs n g in
    let sound : (i : ℕ) → i < suc k → AllYes (asks earlier (r ∷ rs) i) =
    elim [ zero ↦ λ h. rw append-nil y | suc i ↦ λ h. rw append_assoc at (ys i (omega arith)) ] in
    (suc k, omega arith, sound, rw append_assoc at fault))
    (no_parts (three earlier r) (record_questions (earlier ++ (constraint_of r ∷ [])) rs) n f)

faulty_no : (earlier : List Constraint) (rs : List Bytes) (n : ℕ) → Faulty earlier rs n → FirstNo (record_questions earlier rs) n
faulty_no earlier [] n f = absurd (omega (arith, f.1))
faulty_no earlier (r ∷ rs) n (zero, l, sound, fault) =
    no_before (three earlier r) (record_questions (earlier ++ (constraint_of r ∷ [])) rs) n (rw append-nil at fault)
faulty_no earlier (r ∷ rs) n (suc k, l, sound, fault) =
    no_after (three earlier r) (record_questions (earlier ++ (constraint_of r ∷ [])) rs) n (rw append-nil at (sound 0 (omega arith)))
    (faulty_no (earlier ++ (constraint_of r ∷ [])) rs n
    (k, omega arith, λ i h. rw append_assoc (sound (suc i) (omega arith)), rw append_assoc fault))

-- ---- the statement
pub refused_iff_first_faulty : RefusedIffFirstFaulty
refused_iff_first_faulty t found n p q = (there, back)
  where
    after : List Question
    after = question10 t ∷ question11 t found ∷ []

    there : reading t found ≡ refused_reading n found → (question6 t).asked × FirstFaulty (later t) n
    there e =
        ⊎_elim
        (λ h. absurd (omega (arith, h.0)))
        (λ h. ⊎_elim
        (λ g. let f = no_faulty [] (later t) n g in (h.0, record { at = f.0; within = f.1; sound = f.2; fault = f.3 }))
        (λ g. absurd (⊎_elim (λ k. omega (arith, k.0)) (λ k. ⊎_elim (λ j. omega (arith, j.0)) (λ j. j.1) k.1) g.1))
        (no_parts (record_questions [] (later t)) after n h.1))
        ((reading_refused t found n).0 (omega arith, e))

    back : (question6 t).asked × FirstFaulty (later t) n → reading t found ≡ refused_reading n found
    back (y, f) =
        let no_one = no_before (record_questions [] (later t)) after n (faulty_no [] (later t) n (f.at, f.within, f.sound, f.fault)) in
        ((reading_refused t found n).1 (inr (y, no_one))).1
