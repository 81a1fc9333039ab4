-- Tests: what an answer tells, a loop of tests, and every entry of a list. Assumes nothing.
use Rattle.laws.proofs.Base.{ℕ, ◌+◌, ◌≤◌, ◌<◌, ◌≡◌, refl, ap, subst, Bool, true, false, ◌&&◌, List, [], ◌∷◌, ◌++◌, ◌↔◌, dec_and}
use Rattle.laws.proofs.Base.{ℕ_discrete, arith, below_more, eqb-true, eqb-false, eqb, length, get_or, drop}
use mathlib.Core.Bool.{not}
use borrow.Author.Tests.{leb-true, leb-false, not-true, not-false}
use lib.Dec.{leb}
use Rattle.laws.specs.Tests.{Either, Tells, Each}

pub either_true : (P Q : Type 0) (b : Bool) → b ≡ true → Either b P Q → P
either_true P Q b e t = subst (λ (x : Bool). Either x P Q) e t

pub either_false : (P Q : Type 0) (b : Bool) → b ≡ false → Either b P Q → Q
either_false P Q b e t = subst (λ (x : Bool). Either x P Q) e t

-- The same where the test's answer is asked for by its contrary.
pub told_no : (P : Type 0) (b : Bool) → not b ≡ true → Tells b P → ¬ P
told_no P b e t = either_false P (¬ P) b (not-true b e) t

pub told_yes : (P : Type 0) (b : Bool) → not b ≡ false → Tells b P → P
told_yes P b e t = either_true P (¬ P) b (not-false b e) t

-- What is told of one fact is told of another that holds exactly when it does.
pub tells_same : {P Q : Type 0} (b : Bool) → P ↔ Q → Tells b P → Tells b Q
tells_same true e t = e.0 t
tells_same false e t = λ q. t (e.1 q)

-- Two tests together.
pub both_told : (P Q : Type 0) (a b : Bool) → Tells a P → Tells b Q → Tells (a && b) (P × Q)
both_told P Q true true p q = (p, q)
both_told P Q true false p n = λ r. n r.1
both_told P Q false b n q = λ r. n r.0

-- What a test tells, from what each answer does; and so a comparison.
told : {P : Type 0} (b : Bool) → (b ≡ true → P) → (b ≡ false → ¬ P) → Tells b P
told true f g = f refl
told false f g = g refl

pub leb_told : (a b : ℕ) → Tells (leb a b) (a ≤ b)
leb_told a b = told (leb a b) (leb-true a b) (λ e h. omega (arith, leb-false a b e))

pub eqb_told : (a b : ℕ) → Tells (eqb a b) (a ≡ b)
eqb_told a b = told (eqb a b) (eqb-true a b) (eqb-false a b)

-- A turn of a loop that holds whether all before i are as wanted, and looks at i.
pub all_turn : (P : ℕ → Type 0) (i : ℕ) (b t : Bool) → Tells b ((k : ℕ) → k < i → P k) → Tells t (P i)
    → Tells (b && t) ((k : ℕ) → k < i + 1 → P k)
all_turn P i true true h p = below_more P i h p
all_turn P i true false h p = λ q. p (q i (omega arith))
all_turn P i false t h p = λ q. h (λ k l. q k (omega arith))

-- Whether all entries are as wanted can be told, where it can be told of each.
unfoldable pub each? {ℓ} : {A : Type ℓ} (P : A → Type 0) → ((x : A) → Dec (P x)) → (xs : List A) → Dec (Each P xs)
each? P h [] = yes tt
each? P h (x ∷ xs) = dec_and (h x) (each? P h xs)

-- Whether two lists of numbers are equal.
unfoldable pub equal_lists? : (xs ys : List ℕ) → Dec (xs ≡ ys)
equal_lists? [] [] = yes refl
equal_lists? [] (y ∷ ys) = no (λ e. omega (arith, ap length e))
equal_lists? (x ∷ xs) [] = no (λ e. omega (arith, ap length e))
equal_lists? (x ∷ xs) (y ∷ ys) =
    elim (ℕ_discrete x y) [
      | yes e ↦ elim (equal_lists? xs ys) [ yes f ↦ yes (λ i. e i ∷ f i) | no f ↦ no (λ g. f (ap (drop 1) g)) ]
      | no e ↦ no (λ g. e (ap (λ l. get_or l 0 0) g))
    ]

-- ---- every entry of a list
pub each_map {ℓ} : {A : Type ℓ} (P Q : A → Type 0) (xs : List A) → ((x : A) → P x → Q x) → Each P xs → Each Q xs
each_map P Q [] f ps = tt
each_map P Q (x ∷ xs) f ps = (f x ps.0, each_map P Q xs f ps.1)

pub each_both {ℓ} : {A : Type ℓ} (P Q : A → Type 0) (xs : List A) → Each P xs → Each Q xs → Each (λ x. P x × Q x) xs
each_both P Q [] ps qs = tt
each_both P Q (x ∷ xs) ps qs = ((ps.0, qs.0), each_both P Q xs ps.1 qs.1)

pub each_append {ℓ} : {A : Type ℓ} (P : A → Type 0) (xs ys : List A) → Each P xs → Each P ys → Each P (xs ++ ys)
each_append P [] ys ps qs = qs
each_append P (x ∷ xs) ys ps qs = (ps.0, each_append P xs ys ps.1 qs)

pub each_parts {ℓ} : {A : Type ℓ} (P : A → Type 0) (xs ys : List A) → Each P (xs ++ ys) → Each P xs × Each P ys
each_parts P [] ys ps = (tt, ps)
each_parts P (x ∷ xs) ys ps = let (l, r) = each_parts P xs ys ps.1 in ((ps.0, l), r)
