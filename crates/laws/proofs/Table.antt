-- `table`: its length and entries, tables that agree, and the fill of a list from the front, one store a turn.
-- Assumes nothing.
use Rattle.laws.proofs.Base.{ℕ, zero, suc, ◌+◌, ◌-◌, ◌≤◌, ◌<◌, ◌≡◌, refl, sym, ap, ◌∙◌, subst, List, [], ◌∷◌, ◌++◌, map}
use Rattle.laws.proofs.Base.{append_assoc, append-nil, ⊎_elim, dec_lt, ℕ_discrete, le_refl, le_step, le-suc_iff, add-one, arith}
use Rattle.laws.proofs.Base.{get_or, set, drop, replicate, length-append, length-set, drop_of_length-le, list_get_or-append, ext_get_or}
use Rattle.laws.proofs.Base.{length, get_or-drop, drop-cons, set_at}
use mathlib.Core.List.{map-append}
use lib.ListN.{replicate-append-replicate}
use lib.Seq.{get_or_at, get_or-set_same, get_or-set_other, get_or-append-add}
use Rattle.laws.specs.Ranges.{table}
use Rattle.laws.specs.Tests.{Each}
use Rattle.laws.proofs.Tests.{each_append, each_parts}

pub length-table {ℓ} : {A : Type ℓ} (f : ℕ → A) (n : ℕ) → length (table f n) ≡ n
unfolding table
length-table f zero = refl
length-table f (suc n) = length-append (table f n) (f (suc n) ∷ []) ∙ (rw (length-table f n) (add-one n))

pub get_or-table {ℓ} : {A : Type ℓ} (f : ℕ → A) (n i : ℕ) (z : A) → i < n → get_or (table f n) i z ≡ f (suc i)
unfolding table
get_or-table f zero i z h = absurd (omega arith)
get_or-table f (suc n) i z h =
    elim (dec_lt i n) [
      | yes l ↦ list_get_or-append (table f n) (f (suc n) ∷ []) z i (rw length-table l) ∙ get_or-table f n i z l
      | no l ↦ let e : i ≡ n = omega arith in rw e (get_or_at (table f n) (f (suc n)) [] z n (length-table f n))
    ]

pub table_ext {ℓ} : {A : Type ℓ} (f g : ℕ → A) (n : ℕ) → ((d : ℕ) → 1 ≤ d → d ≤ n → f d ≡ g d) → table f n ≡ table g n
unfolding table
table_ext f g zero h = refl
table_ext f g (suc n) h =
    rw (table_ext f g n (λ d p q. h d p (le_step q)), h (suc n) (omega arith) (le_refl (suc n)))

-- The same, where the lengths are known only to be equal.
pub table_same {ℓ} : {A : Type ℓ} (f g : ℕ → A) (n m : ℕ) → n ≡ m → ((d : ℕ) → 1 ≤ d → d ≤ n → f d ≡ g d) → table f n ≡ table g m
table_same f g n m e h = table_ext f g n h ∙ ap (table g) e

-- What is made of each entry, and what holds of each.
pub map-table {ℓ} : {A B : Type ℓ} (g : A → B) (f : ℕ → A) (n : ℕ) → map g (table f n) ≡ table (λ d. g (f d)) n
unfolding table
map-table g f zero = refl
map-table g f (suc n) = map-append g (table f n) (f (suc n) ∷ []) ∙ ap (λ t. t ++ (g (f (suc n)) ∷ [])) (map-table g f n)

pub each_table {ℓ} : {A : Type ℓ} (P : A → Type 0) (f : ℕ → A) (n : ℕ) → ((d : ℕ) → 1 ≤ d → d ≤ n → P (f d)) → Each P (table f n)
unfolding table
each_table P f zero h = tt
each_table P f (suc n) h =
    each_append P (table f n) (f (suc n) ∷ [])
    (each_table P f n (λ d p q. h d p (le_step q))) (h (suc n) (omega arith) (le_refl (suc n)), tt)

pub each_entry {ℓ} : {A : Type ℓ} (P : A → Type 0) (f : ℕ → A) (n : ℕ) → Each P (table f n) → (d : ℕ) → 1 ≤ d → d ≤ n → P (f d)
unfolding table
each_entry P f zero ps d p q = absurd (omega arith)
each_entry P f (suc n) ps d p q =
    let (l, r) = each_parts P (table f n) (f (suc n) ∷ []) ps in
    ⊎_elim (λ h. each_entry P f n l d p h) (λ e. subst (λ (k : ℕ). P (f k)) (sym e) r.0) (le-suc_iff.0 q)

-- A table with the entry of d set: the table of a function that differs there alone.
pub table-set {ℓ} : {A : Type ℓ} (f g : ℕ → A) (n d : ℕ) (v : A) → 1 ≤ d → d ≤ n → v ≡ g d → ((k : ℕ) → ¬ (k ≡ d) → f k ≡ g k)
    → set (table f n) (d - 1) v ≡ table g n
table-set f g n d v p q e h =
    ext_get_or v (set (table f n) (d - 1) v) (table g n) (length-set (table f n) (d - 1) v ∙ length-table f n ∙ (rw length-table))
    (λ i l. at_entry i (rw (length-set, length-table) at l))
  where
    at_entry : (i : ℕ) → i < n → get_or (set (table f n) (d - 1) v) i v ≡ get_or (table g n) i v
    at_entry i l =
        rw (get_or-table g n i v l)
        (elim (ℕ_discrete i (d - 1)) [
          | yes k ↦
              let s : d ≡ suc i = omega arith in
              ap (λ j. get_or (set (table f n) (d - 1) v) j v) k ∙ get_or-set_same (table f n) (d - 1) v v (rw length-table (omega arith))
              ∙ e ∙ ap g s
          | no k ↦
              get_or-set_other (table f n) (d - 1) i v v k ∙ get_or-table f n i v l ∙ h (suc i) (λ s. k (omega arith))
        ])

-- A table of one entry throughout.
pub table_same_entry {ℓ} : {A : Type ℓ} (f : ℕ → A) (x : A) → ((d : ℕ) → f d ≡ x) → (n : ℕ) → replicate n x ≡ table f n
unfolding table
table_same_entry f x h zero = refl
table_same_entry f x h (suc n) =
    ap (λ k. replicate k x) (sym (add-one n)) ∙ sym (replicate-append-replicate n 1 x) ∙ (rw (table_same_entry f x h n, h (suc n)))

-- A list is the table of its own entries.
pub table_self {ℓ} : {A : Type ℓ} (f : ℕ → A) (xs : List A) (z : A)
    → ((i : ℕ) → i < length xs → f (suc i) ≡ get_or xs i z) → table f (length xs) ≡ xs
table_self f xs z h =
    ext_get_or z (table f (length xs)) xs (length-table f (length xs))
    (λ i l. let l' : i < length xs = (rw length-table at l) in get_or-table f (length xs) i z l' ∙ h i l')

-- A loop that fills a list with f 1, f 2 and so on: what it has done before its turn at i.
pub record Filled (f : ℕ → ℕ) (out₀ out : List ℕ) (i : ℕ) : Type 0 where
  pub whole : length out ≡ length out₀
  pub parts : out ≡ table f i ++ drop i out₀

pub unfilled : (f : ℕ → ℕ) (out : List ℕ) → Filled f out out 0
unfolding table
unfilled f out = record { whole = refl; parts = refl }

module _ {f : ℕ → ℕ} {out₀ out : List ℕ} {i : ℕ} (t : Filled f out₀ out i) where
  pub stored : (v : ℕ) → i < length out₀ → v ≡ f (i + 1) → Filled f out₀ (set out i v) (i + 1)
  unfolding table
  stored v l e =
      record {
        whole = length-set out i v ∙ t.whole;
        parts =
            rw (t.parts, e, add-one i, drop-cons out₀ i 0 l)
            (rw (set_at (table f i) (get_or out₀ i 0) (drop (suc i) out₀) (f (suc i)) i (length-table f i), append_assoc));
      }

  pub filled : (n : ℕ) → i ≡ n → length out₀ ≡ n → out ≡ table f n
  filled n e l = t.parts ∙ rw (drop_of_length-le out₀ {i = i} (omega arith)) (append-nil (table f i)) ∙ ap (table f) e

  -- The list is stored up to n, and the rest of it is as it was.
  pub filled_front : (n : ℕ) → i ≡ n → out ≡ table f n ++ drop n out₀
  filled_front n e = t.parts ∙ ap (λ k. table f k ++ drop k out₀) e

  -- What is not stored yet is as it was.
  pub later : (j : ℕ) → i ≤ j → get_or out j 0 ≡ get_or out₀ j 0
  later j l =
      let e : length (table f i) + (j - i) ≡ j = omega (arith, length-table f i) in
      let e' : i + (j - i) ≡ j = omega arith in
      rw t.parts (rw e at (get_or-append-add (table f i) (drop i out₀) (j - i) 0) ∙ rw e' at (get_or-drop i out₀ (j - i) 0))
