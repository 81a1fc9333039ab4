-- What `read` has to show at each of its ends, over a plain text and plain lists. Assumes nothing.
use Rattle.laws.proofs.Base.{ℕ, ◌+◌, ◌≤◌, ◌≡◌, refl, sym, ap, ◌∙◌, List, [], ◌∷◌, map, inl, inr, arith, length, drop}
use Rattle.std.proofs.Common.{Result, Ok, Err}
use lib.ListN.{length-map}
use Rattle.curves.specs.Pairs.{Pair}
use Rattle.curves.specs.Unlimited.{mark_of}
use Rattle.curves.specs.Questions.{AllYes, FirstNo}
use Rattle.curves.proofs.Asked.{yes_append, no_before, no_after}
use Rattle.csv_text.specs.Text.{Bytes, records}
use Rattle.csv_text.proofs.Splitting.{records_first, record_short}
use Rattle.csv_text.specs.Records.{constraint_of}
use Rattle.constraints.specs.Constraints.{largest_window}
use Rattle.constraints.specs.Reading.{later, constraints, horizon_of, text_pair, question6, question10, question11, record_questions}
use Rattle.constraints.specs.Reading.{reading_questions, refused_reading, put_first, reading}
use Rattle.constraints.specs.Answers.{reading_answer}
use Rattle.constraints.specs.Steps.{TableHolds, pair_in, ScannedAs, Delivered}
use Rattle.constraints.specs.declared.Reading.{Reading}
use Rattle.constraints.specs.declared.ReadingRefusal.{ReadingRefusal}
use Rattle.constraints.specs.declared.ReadingRefusal.TheVariants.{HeaderLine, RecordForm, FigureRange, WindowAgain, NoRecord, ResultLength}
use Rattle.constraints.specs.declared.table.Table.{Table}
use Rattle.constraints.proofs.Tables.{pair_held}
use Rattle.constraints.proofs.Named.{in_range, largest_some}
use Rattle.constraints.proofs.Said.{refused_is, given_is}

-- Where the largest window is 1 at least there is a record.
some_records : (rs : List Bytes) → 1 ≤ largest_window (map constraint_of rs) → 1 ≤ length rs
some_records [] h = absurd (omega arith)
some_records (r ∷ rs) h = omega arith

module _ (t : Bytes) (y₆ : (question6 t).asked) where
  -- After the header line the records begin at byte 19.
  later_is : later t ≡ records (drop 19 t)
  later_is =
      ap (drop 1) (records_first t (omega (arith, record_short t, ap length y₆.1)))
      ∙ ap (λ r. records (drop (length r + 2) t)) y₆.1

  -- What the records of the rest s, behind that line, were found to be.
  pub scanned_no : (s : Bytes) → s ≡ drop 19 t → (n : ℕ) → FirstNo (record_questions [] (records s)) n → FirstNo (record_questions [] (later t)) n
  scanned_no s e n f = rw (later_is, ← e) f

  pub scanned_all : (s : Bytes) → s ≡ drop 19 t → (b : Table) → ScannedAs (records s) b (Ok tt) → ScannedAs (later t) b (Ok tt)
  scanned_all s e b h = rw (later_is, ← e) h

-- The refusals: 6; 7 to 9, of a record; 10 and 11, after all records.
module _ (t : Bytes) (found : Pair) where
  no_is : (n : ℕ) → FirstNo (reading_questions t found) n → refused_reading n found ≡ reading t found
  no_is n f = sym (refused_is t found n f)

  pub no_6 : ¬ (question6 t).asked → refused_reading 6 found ≡ reading t found
  no_6 n = no_is 6 (inl (refl, n))

  module _ (y₆ : (question6 t).asked) where
    pub no_record : (n : ℕ) → FirstNo (record_questions [] (later t)) n → refused_reading n found ≡ reading t found
    no_record n f = no_is n (inr (y₆, no_before (record_questions [] (later t)) _ n f))

    -- All records are sound, and the table b holds their constraints.
    module _ (b : Table) (sound : AllYes (record_questions [] (later t)) × TableHolds b (constraints t)) where
      no_then : (n : ℕ) → FirstNo (question10 t ∷ question11 t found ∷ []) n → refused_reading n found ≡ reading t found
      no_then n f = no_is n (inr (y₆, no_after (record_questions [] (later t)) _ n sound.0 f))

      some_window : (question10 t).asked → 1 ≤ horizon_of t
      some_window y = largest_some (constraints t) (in_range [] (later t) sound.0) (omega (arith, y, length-map (later t) constraint_of))

      pub delivered_is : (r : Result Reading ReadingRefusal) (left : Pair) → Delivered b found left r → reading_answer r left ≡ reading t found
      delivered_is (Ok r) left d =
          let y₁₀ : (question10 t).asked = some_records (later t) (omega (arith, d.0, sound.1.horizon)) in
          let y₁₁ : (question11 t found).asked = (omega (arith, d.1.0, sound.1.horizon), omega (arith, d.1.1, sound.1.horizon)) in
          let ys : AllYes (reading_questions t found) = (y₆, yes_append (record_questions [] (later t)) _ sound.0 (y₁₀, (y₁₁, tt))) in
          let pair : pair_in b ≡ text_pair t = pair_held b (constraints t) sound.1 in
          (λ i. record {
            number = 0;
            horizon = (d.2 ∙ sound.1.horizon) i;
            unlimited = (d.3 ∙ ap mark_of pair) i;
            results = (d.4 ∙ (λ j. put_first (sound.1.horizon j) (pair j) found)) i;
          })
          ∙ sym (given_is t found ys)
      delivered_is (Err NoRecord) left d =
          ap (refused_reading 10) d.1
          ∙ no_then 10 (inl (refl, λ y. omega (arith, some_window y, d.0, sound.1.horizon)))
      delivered_is (Err ResultLength) left d =
          let y₁₀ : (question10 t).asked = some_records (later t) (omega (arith, d.0, sound.1.horizon)) in
          ap (refused_reading 11) d.2
          ∙ no_then 11 (inr (y₁₀, inl (refl, λ y. d.1 (omega (arith, y.0, sound.1.horizon), omega (arith, y.1, sound.1.horizon)))))
      delivered_is (Err HeaderLine) left d = absurd d
      delivered_is (Err RecordForm) left d = absurd d
      delivered_is (Err FigureRange) left d = absurd d
      delivered_is (Err WindowAgain) left d = absurd d
