-- Laws over plain bytes: the fields of a record as the code cuts them, and what they were found to be.
-- Assumes nothing.
use Rattle.laws.proofs.Base.{ℕ, ◌+◌, ◌-◌, ◌≤◌, ◌<◌, ◌≡◌, refl, sym, ap, subst, true, false, cond, List, [], ◌∷◌, inl, inr}
use Rattle.laws.proofs.Base.{suc, ◌∙◌, add-one, arith, eqb, length, get_or, take, drop, length-drop, drop-cons, get_or-drop, add-zero}
use lib.Seq.{drop-drop}
use Rattle.std.proofs.Common.{◌≢◌, Option, Some, None, Result, Ok, Err}
use Rattle.std.specs.Option.{MatchOption, is_some}
use denote.Ref.{Bor}
use Rattle.curves.specs.Questions.{refusal}
use Rattle.csv_text.specs.Text.{Bytes, comma, on_first, fields}
use Rattle.csv_text.proofs.Splitting.{rest_is, HeadField, head_field_lem}
use Rattle.csv_text.specs.Records.{first_record, field, WellFormed}
use Rattle.records.specs.Recording.{recording}
use Rattle.records.specs.Answers.{record_reply}
use Rattle.records.specs.Steps.{SplitOff, Numerals, Figured}
use Rattle.records.specs.declared.Record.{Record}
use Rattle.records.specs.declared.RecordRefusal.{RecordRefusal}
use Rattle.records.specs.declared.RecordRefusal.TheVariants.{Malformed, OutOfRange}
use Rattle.records.proofs.Said.{refused_iff, given_is}

-- ---- the fields of the record that a text s begins with, of which f is the first
-- A comma stands behind n bytes of a text.
abbrev CommaIn : Bytes → ℕ → Type 0
CommaIn s n = (n < length s) × (get_or s n 0 ≡ comma)

comma_at : (s : Bytes) (n : ℕ) → CommaIn s n → drop n s ≡ comma ∷ drop (suc n) s
comma_at s n k = drop-cons s n 0 k.0 ∙ ap (λ b. b ∷ drop (suc n) s) k.1

comma_in : (s : Bytes) (n : ℕ) (rest : Bytes) → drop n s ≡ comma ∷ rest → CommaIn s n
comma_in s n rest e =
    (omega (arith, length-drop n s, ap length e), sym (get_or-drop n s 0 0 ∙ rw add-zero) ∙ ap (λ l. get_or l 0 0) e)

-- What is split off it, by what is found behind it, as the code cuts that.
pub split_is : (s f : Bytes) → f ≡ field (first_record s) 0 → length f ≤ length s → (r : Option (Bor Bytes))
    → MatchOption r ((rest : Bytes) → take (length s - length f) (drop (length f) s) ≢ comma ∷ rest)
    (λ x. take (length s - length f) (drop (length f) s) ≡ comma ∷ x.now)
    → SplitOff s f r
split_is s f first l r found = go r (rw (rest_is s (length f)) at found)
  where
    head : HeadField s (first_record s) f
    head = subst (HeadField s (first_record s)) (sym first) (head_field_lem s)

    go : (r : Option (Bor Bytes))
        → MatchOption r ((rest : Bytes) → drop (length f) s ≢ comma ∷ rest) (λ x. drop (length f) s ≡ comma ∷ x.now) → SplitOff s f r
    go (Some x) h =
        let k : CommaIn s (length f) = comma_in s (length f) x.now h in
        let e : x.now ≡ drop (length f + 1) s = sym (ap (drop 1) h) ∙ drop-drop 1 (length f) s in
        rw e ((head.followed k).parts, (head.followed k).whole, omega (arith, length-drop (length f + 1) s, k.0))
    go None h =
        let o = head.ended (λ k. h (drop (length f + 1) s) (rw (add-one (length f)) (comma_at s (length f) k))) in
        (o.alone, o.same, l)

fields_some : (r : Bytes) → 1 ≤ length (fields r)
unfolding fields
fields_some [] = omega arith
fields_some (b ∷ r) =
    elim (eqb b comma) as (λ t. 1 ≤ length (cond t ([] ∷ fields r) (on_first b (fields r)))) [
      | true ↦ omega arith
      | false ↦ first_some (fields r)
    ]
  where
    first_some : (rs : List Bytes) → 1 ≤ length (on_first b rs)
    first_some [] = omega arith
    first_some (x ∷ rs) = omega arith

-- ---- the ends of reading a record
-- One that has not the form is refused with 7, as is one of one field, of two, or of more than three.
malformed : (r : Bytes) → ¬ WellFormed r → refusal 7 ≡ recording r
malformed r n = sym ((refused_iff r 7).1 (inl (refl, n)))

pub one_field : (s f : Bytes) (o : Option (Bor Bytes)) → SplitOff s f o → o ≡ None → refusal 7 ≡ recording (first_record s)
one_field s f o split last =
    let alone : SplitOff s f None = subst (SplitOff s f) last split in
    malformed (first_record s) (λ w. omega (arith, w.three, ap length alone.0))

module _ (s f : Bytes) (o : Option (Bor Bytes)) (x : Bor Bytes) (split₀ : SplitOff s f o) (more₀ : o ≡ Some x) where
  first : SplitOff s f (Some x)
  first = subst (SplitOff s f) more₀ split₀

  pub two_fields : (g : Bytes) (p : Option (Bor Bytes)) → SplitOff x.now g p → p ≡ None → refusal 7 ≡ recording (first_record s)
  two_fields g p split last =
      let alone : SplitOff x.now g None = subst (SplitOff x.now g) last split in
      malformed (first_record s) (λ w. omega (arith, w.three, ap length first.0, ap length alone.0))

  module _ (g : Bytes) (p : Option (Bor Bytes)) (y : Bor Bytes) (split₁ : SplitOff x.now g p) (more₁ : p ≡ Some y) (h : Bytes) where
    second : SplitOff x.now g (Some y)
    second = subst (SplitOff x.now g) more₁ split₁

    pub more_fields : (q : Option (Bor Bytes)) → SplitOff y.now h q → true ≡ is_some q → refusal 7 ≡ recording (first_record s)
    more_fields None split more = absurd (cc)
    more_fields (Some z) split more =
        malformed (first_record s)
        (λ w. omega (arith, w.three, ap length first.0, ap length second.0, ap length split.0, fields_some (first_record z.now)))

    -- There are three: the record is what they were found to be.
    pub three_fields : (q : Option (Bor Bytes)) → SplitOff y.now h q → false ≡ is_some q
        → (v : Result Record RecordRefusal) → Figured f g h (length s - length y.now + length h) v → record_reply v ≡ recording (first_record s)
    three_fields (Some z) split last v found = absurd (cc)
    three_fields None split last v found = go v (subst (λ (n : ℕ). Figured f g h n v) bytes found)
      where
        r : Bytes
        r = first_record s

        bytes : length s - length y.now + length h ≡ length r
        bytes = omega (arith, first, second, split)

        all : fields r ≡ f ∷ g ∷ h ∷ []
        all = cc (first.0, second.0)

        form : Numerals f g h → WellFormed r
        form n = record { three = ap length all; window = rw all n.0; least = rw all n.1; most = rw all n.2 }

        go : (v : Result Record RecordRefusal) → Figured f g h (length r) v → record_reply v ≡ recording r
        go (Ok v) (y, i, q) = rw (given_is r (form y, (rw all i, tt)), all, q)
        go (Err Malformed) n = malformed r (λ w. n (rw all at w.window, rw all at w.least, rw all at w.most))
        go (Err OutOfRange) (y, q) = sym ((refused_iff r 8).1 (inr (form y, inl (refl, λ i. q (rw all at i)))))
