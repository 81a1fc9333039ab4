-- Splitting: the first record of a text and the first field of a record, byte by byte, and what follows them.
-- Assumes nothing.
use Rattle.laws.proofs.Base.{ℕ, suc, ◌+◌, ◌-◌, ◌≤◌, ◌<◌, ◌≡◌, refl, ap, Bool, true, false, ◌&&◌, cond, List, [], ◌∷◌, ◌++◌}
use Rattle.laws.proofs.Base.{append_assoc, ◌⊎◌, inl, inr}
use Rattle.laws.proofs.Base.{append-nil, dec_and, ℕ_discrete, le_refl, sub-zero, add-one, arith, eq-eqb, ne_eqb, eqb-true, eqb, length}
use Rattle.laws.proofs.Base.{get_or, take, drop, length-drop, drop_of_length-le, drop-cons, take-suc, take_all}
use Rattle.csv_text.specs.Text.{Bytes, comma, cr, lf, on_first, records, fields}

-- The rest of a text, as a slice is cut.
pub rest_is : (s : Bytes) (k : ℕ) → take (length s - k) (drop k s) ≡ drop k s
rest_is s k = take_all (length s - k) (drop k s) (rw length-drop (le_refl _))

-- `first` is what stands before the first place where Stop holds.
pub record Splits (Stop : Bytes → Type 0) (first : Bytes → Bytes) : Type 0 where
  pub none : first [] ≡ []
  pub stops : (s : Bytes) → Stop s → first s ≡ []
  pub goes : (b : ℕ) (s : Bytes) → ¬ Stop (b ∷ s) → first (b ∷ s) ≡ b ∷ first s

-- A search for that place that has passed n bytes: it goes on, it has found the place, there is none.
module _ {Stop : Bytes → Type 0} {first : Bytes → Bytes} (splits : Splits Stop first) (s : Bytes) (n : ℕ)
    (passed : first s ≡ take n s ++ first (drop n s))
  where
    pub passed_more : n < length s → ¬ Stop (drop n s) → first s ≡ take (n + 1) s ++ first (drop (n + 1) s)
    passed_more l away =
        let here : drop n s ≡ get_or s n 0 ∷ drop (n + 1) s = rw (add-one n, drop-cons s n 0 l) in
        rw (passed, here, splits.goes _ _ (rw here at away), add-one n, take-suc s n 0 l, append_assoc)

    pub passed_found : Stop (drop n s) → take (n - 0) s ≡ first s
    passed_found here = rw (sub-zero n, passed, splits.stops _ here, append-nil)

    pub passed_all : length s ≤ n → s ≡ first s
    passed_all l = rw (passed, drop_of_length-le s l, splits.none, append-nil, take_all n s l)

-- The first part, after a byte is put before it.
first_of : (b : ℕ) (rs : List Bytes) → get_or (on_first b rs) 0 [] ≡ b ∷ get_or rs 0 []
first_of b [] = refl
first_of b (r ∷ rs) = refl

-- Two tests that are not both true.
not_and : (p q : Bool) → ¬ ((p ≡ true) × (q ≡ true)) → (p && q) ≡ false
not_and true true n = absurd (n (refl, refl))
not_and true false n = refl
not_and false q n = refl

-- A record ends before CR LF, a field before a comma.
pub splits_records : Splits (λ s. (get_or s 0 0 ≡ cr) × (get_or s 1 0 ≡ lf)) (λ s. get_or (records s) 0 [])
unfolding records
splits_records = record { none = refl; stops = stops; goes = goes }
  where
    stops : (s : Bytes) → (get_or s 0 0 ≡ cr) × (get_or s 1 0 ≡ lf) → get_or (records s) 0 [] ≡ []
    stops [] h = refl
    stops (b ∷ []) h = absurd (omega (arith, h.1))
    stops (b ∷ c ∷ s) h = rw (eq-eqb b cr h.0, eq-eqb c lf h.1)

    goes : (b : ℕ) (s : Bytes) → ¬ ((b ≡ cr) × (get_or s 0 0 ≡ lf)) → get_or (records (b ∷ s)) 0 [] ≡ b ∷ get_or (records s) 0 []
    goes b [] n = refl
    goes b (c ∷ s) n =
        rw (not_and (eqb b cr) (eqb c lf) (λ h. n (eqb-true b cr h.0, eqb-true c lf h.1))) (first_of b (records (c ∷ s)))

pub splits_fields : Splits (λ s. get_or s 0 0 ≡ comma) (λ s. get_or (fields s) 0 [])
unfolding fields
splits_fields = record { none = refl; stops = stops; goes = goes }
  where
    stops : (s : Bytes) → get_or s 0 0 ≡ comma → get_or (fields s) 0 [] ≡ []
    stops [] h = refl
    stops (b ∷ s) h = rw (eq-eqb b comma h)

    goes : (b : ℕ) (s : Bytes) → ¬ (b ≡ comma) → get_or (fields (b ∷ s)) 0 [] ≡ b ∷ get_or (fields s) 0 []
    goes b s n = rw (ne_eqb b comma n) (first_of b (fields s))

-- The parts rs of s are the first, and those of what follows it, which begins k bytes after that part.
abbrev Followed : (Bytes → List Bytes) → ℕ → Bytes → List Bytes → Type 0
Followed split k s rs = rs ≡ get_or rs 0 [] ∷ split (drop (length (get_or rs 0 []) + k) s)

-- A byte more before the first part changes nothing of what follows.
followed : (split : Bytes → List Bytes) (k b : ℕ) (s : Bytes) (rs : List Bytes) → Followed split k s rs
    → Followed split k (b ∷ s) (on_first b rs)
followed split k b s [] e = cc
followed split k b s (r ∷ rs) e =
    let more : length (b ∷ r) + k ≡ suc (length r + k) = omega arith in
    let rest : rs ≡ split (drop (length r + k) s) = cc in
    rw more (ap (λ t. (b ∷ r) ∷ t) rest)

-- The records of a text are its first, and those of what follows its CR LF.
pub records_first : (s : Bytes) → 1 ≤ length s
    → records s ≡ get_or (records s) 0 [] ∷ records (drop (length (get_or (records s) 0 []) + 2) s)
unfolding records
records_first [] h = absurd (omega arith)
records_first (b ∷ []) h = refl
records_first (b ∷ c ∷ s) h =
    elim (eqb b cr && eqb c lf) as (λ t. Followed records 2 (b ∷ c ∷ s) (cond t ([] ∷ records s) (on_first b (records (c ∷ s))))) [
      | true ↦ refl
      | false ↦ followed records 2 b (c ∷ s) (records (c ∷ s)) (records_first (c ∷ s) (omega arith))
    ]

-- A first part is no longer than the whole.
module _ {Stop : Bytes → Type 0} {first : Bytes → Bytes} (splits : Splits Stop first) (stop? : (s : Bytes) → Dec (Stop s)) where
  first_short : (s : Bytes) → length (first s) ≤ length s
  first_short [] = rw splits.none (le_refl 0)
  first_short (b ∷ s) =
      elim (stop? (b ∷ s)) [
        | yes h ↦ rw (splits.stops (b ∷ s) h) (omega arith)
        | no h ↦ rw (splits.goes b s h) (omega (arith, first_short s))
      ]

pub record_short : (s : Bytes) → length (get_or (records s) 0 []) ≤ length s
record_short = first_short splits_records (λ s. dec_and (ℕ_discrete (get_or s 0 0) cr) (ℕ_discrete (get_or s 1 0) lf))

-- ---- the first field of the first record, without looking for the record's end first
abbrev head_field : Bytes → Bytes
head_field s = get_or (fields (get_or (records s) 0 [])) 0 []

-- It ends before a comma or CR LF.
pub splits_head_fields : Splits (λ s. (get_or s 0 0 ≡ comma) ⊎ ((get_or s 0 0 ≡ cr) × (get_or s 1 0 ≡ lf))) head_field
unfolding fields
splits_head_fields = record { none = ap (λ r. get_or (fields r) 0 []) splits_records.none; stops = stops; goes = goes }
  where
    stops : (s : Bytes) → (get_or s 0 0 ≡ comma) ⊎ ((get_or s 0 0 ≡ cr) × (get_or s 1 0 ≡ lf)) → head_field s ≡ []
    stops s (inr e) = rw (splits_records.stops s e)
    stops [] (inl e) = absurd (omega (arith, e))
    stops (b ∷ s) (inl e) =
        rw (splits_records.goes b s (λ h. omega (arith, e, h.0))) (splits_fields.stops (b ∷ get_or (records s) 0 []) e)

    goes : (b : ℕ) (s : Bytes) → ¬ ((b ≡ comma) ⊎ ((b ≡ cr) × (get_or s 0 0 ≡ lf))) → head_field (b ∷ s) ≡ b ∷ head_field s
    goes b s n = rw (splits_records.goes b s (λ h. n (inr h))) (splits_fields.goes b (get_or (records s) 0 []) (λ h. n (inl h)))

-- What follows it: the other fields are those of the record that begins after the comma, or there is none.
pub record MoreFields (s r f : Bytes) : Type 0 where
  pub parts : fields r ≡ f ∷ fields (get_or (records (drop (length f + 1) s)) 0 [])
  pub whole : length r ≡ length f + 1 + length (get_or (records (drop (length f + 1) s)) 0 [])

pub record OnlyField (r f : Bytes) : Type 0 where
  pub alone : fields r ≡ f ∷ []
  pub same : length r ≡ length f

pub record HeadField (s r f : Bytes) : Type 0 where
  pub followed : (length f < length s) × (get_or s (length f) 0 ≡ comma) → MoreFields s r f
  pub ended : ¬ ((length f < length s) × (get_or s (length f) 0 ≡ comma)) → OnlyField r f

-- At the end of a record; at a comma; a byte earlier.
head_none : (b : ℕ) (s : Bytes) → ¬ (b ≡ comma) → HeadField (b ∷ s) [] []
unfolding fields
head_none b s n = record { followed = λ k. absurd (n k.1); ended = λ k. record { alone = refl; same = refl } }

head_comma : (b : ℕ) (s : Bytes) → b ≡ comma → HeadField (b ∷ s) (b ∷ get_or (records s) 0 []) []
unfolding fields
head_comma b s e =
    record {
      followed = λ k. record { parts = rw (eq-eqb b comma e); whole = omega arith };
      ended = λ n. absurd (n (omega arith, e));
    }

head_more : (b : ℕ) (s r f : Bytes) → ¬ (b ≡ comma) → HeadField s r f → HeadField (b ∷ s) (b ∷ r) (b ∷ f)
unfolding fields
head_more b s r f n h =
    let more : length (b ∷ f) + 1 ≡ suc (length f + 1) = omega arith in
    record {
      followed =
          λ k.
          let m = h.followed (omega (arith, k.0), k.1) in
          record { parts = rw (ne_eqb b comma n, m.parts, more); whole = rw more (omega (arith, m.whole)) };
      ended =
          λ k.
          let m = h.ended (λ j. k (omega (arith, j.0), j.1)) in
          record { alone = rw (ne_eqb b comma n, m.alone); same = omega (arith, m.same) };
    }

pub head_field_lem : (s : Bytes) → HeadField s (get_or (records s) 0 []) (head_field s)
unfolding records fields
head_field_lem [] = record { followed = λ k. absurd (omega (arith, k.0)); ended = λ k. record { alone = refl; same = refl } }
head_field_lem (b ∷ s) =
    elim (dec_and (ℕ_discrete b cr) (ℕ_discrete (get_or s 0 0) lf)) [
      | yes e ↦ rw (splits_records.stops (b ∷ s) e) (head_none b s (λ k. omega (arith, k, e.0)))
      | no n ↦
          rw (splits_records.goes b s n)
          (elim (ℕ_discrete b comma) [
            | yes e ↦ rw (splits_fields.stops (b ∷ get_or (records s) 0 []) e) (head_comma b s e)
            | no e ↦ rw (splits_fields.goes b (get_or (records s) 0 []) e) (head_more b s _ _ e (head_field_lem s))
          ])
    ]
