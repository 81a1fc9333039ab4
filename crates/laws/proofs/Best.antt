-- `fold`: a step more, the best of a range in any order, and what carries a fold from one kind of number to another.
-- Assumes nothing.
use Rattle.laws.proofs.Base.{ℕ, zero, suc, ◌+◌, ◌-◌, ◌≤◌, min, max, ◌≡◌, refl, ap, ◌∙◌, subst, ⊎_elim, le_refl, le_step, le_trans}
use Rattle.laws.proofs.Base.{le-suc_iff, arith}
use native.Mathlib.Nat.{min-le_left, min-le_right, le-min, le-max_left, le-max_right, max-le}
use Rattle.laws.specs.Ranges.{fold}

-- A turn of a loop that counts k up from 1 and has taken f 1 to f (k − 1).
pub fold_turn {ℓ} : {A : Type ℓ} (op : A → A → A) (x : A) (f : ℕ → A) (k : ℕ) → 1 ≤ k
    → op (fold op x f (k - 1)) (f k) ≡ fold op x f (k + 1 - 1)
unfolding fold
fold_turn op x f zero h = absurd (omega arith)
fold_turn op x f (suc k) h =
    let e : suc k - 1 ≡ k = omega arith in
    let e' : suc k + 1 - 1 ≡ suc k = omega arith in
    rw (e, e')

-- A fold is carried over by a map under which each step is carried over.
pub fold-map {ℓ} : {A B : Type ℓ} (m : A → B) (op : A → A → A) (op' : B → B → B) (x : A) (f : ℕ → A) (f' : ℕ → B) (n : ℕ)
    → ((k : ℕ) → 1 ≤ k → k ≤ n → (y : A) → op' (m y) (f' k) ≡ m (op y (f k)))
    → fold op' (m x) f' n ≡ m (fold op x f n)
unfolding fold
fold-map m op op' x f f' zero h = refl
fold-map m op op' x f f' (suc n) h =
    ap (λ y. op' y (f' (suc n))) (fold-map m op op' x f f' n (λ k p q. h k p (le_step q)))
    ∙ h (suc n) (omega arith) (le_refl (suc n)) (fold op x f n)

-- Folds over functions that agree on the range agree.
pub fold_ext {ℓ} : {A : Type ℓ} (op : A → A → A) (x : A) (f g : ℕ → A) (n : ℕ)
    → ((k : ℕ) → 1 ≤ k → k ≤ n → f k ≡ g k) → fold op x f n ≡ fold op x g n
fold_ext op x f g n h = fold-map (λ y. y) op op x g f n (λ k p q y. ap (op y) (h k p q))

-- What holds of each that is put together, and of two together where it holds of both, holds of all together.
pub fold_holds {ℓ} : {A : Type ℓ} (op : A → A → A) (P : A → Type 0) → ((x y : A) → P x → P y → P (op x y))
    → (x : A) (f : ℕ → A) (n : ℕ) → P x → ((k : ℕ) → 1 ≤ k → k ≤ n → P (f k)) → P (fold op x f n)
unfolding fold
fold_holds op P both x f zero p h = p
fold_holds op P both x f (suc n) p h =
    both _ _ (fold_holds op P both x f n p (λ k u v. h k u (le_step v))) (h (suc n) (omega arith) (le_refl (suc n)))

-- `best` is the better of two in the order R, where R x y says that x is at least as good: at least as good as both, and no better
-- than that.
pub record IsBest {ℓ} {A : Type ℓ} (R : A → A → Type 0) (best : A → A → A) : Type ℓ where
  pub left : (x y : A) → R (best x y) x
  pub right : (x y : A) → R (best x y) y
  pub both : (z x y : A) → R z x → R z y → R z (best x y)
  pub chain : (x y z : A) → R x y → R y z → R x z
  pub same : (x : A) → R x x

pub min_best : IsBest ◌≤◌ min
min_best =
    record { left = min-le_left; right = min-le_right; both = λ z x y p q. le-min p q; chain = λ x y z p q. le_trans p q; same = le_refl }

pub max_best : IsBest (λ x y. y ≤ x) max
max_best =
    record { left = le-max_left; right = le-max_right; both = λ z x y p q. max-le p q; chain = λ x y z p q. le_trans q p; same = le_refl }

-- The best of x and f 1 to f n: as good as each, and no better than what is as good as each.
module _ {ℓ} {A : Type ℓ} (R : A → A → Type 0) (best : A → A → A) (B : IsBest R best) (x : A) (f : ℕ → A) where
  pub fold_first : (n : ℕ) → R (fold best x f n) x
  unfolding fold
  fold_first zero = B.same x
  fold_first (suc n) = B.chain _ _ _ (B.left (fold best x f n) (f (suc n))) (fold_first n)

  pub fold_each : (n k : ℕ) → 1 ≤ k → k ≤ n → R (fold best x f n) (f k)
  unfolding fold
  fold_each zero k p q = absurd (omega arith)
  fold_each (suc n) k p q =
      ⊎_elim
      (λ h. B.chain _ _ _ (B.left (fold best x f n) (f (suc n))) (fold_each n k p h))
      (λ e. subst (λ (j : ℕ). R (best (fold best x f n) (f (suc n))) (f j)) (rw e) (B.right (fold best x f n) (f (suc n))))
      (le-suc_iff.0 q)

  pub fold_both : (z : A) (n : ℕ) → R z x → ((k : ℕ) → 1 ≤ k → k ≤ n → R z (f k)) → R z (fold best x f n)
  fold_both z = fold_holds best (R z) (B.both z) x f

-- Sums over a range, term by term: no larger, and equal only where every term is.
module _ (f g : ℕ → ℕ) where
  pub sum_le : (n : ℕ) → ((k : ℕ) → 1 ≤ k → k ≤ n → f k ≤ g k) → fold ◌+◌ 0 f n ≤ fold ◌+◌ 0 g n
  unfolding fold
  sum_le zero h = le_refl 0
  sum_le (suc n) h = omega (arith, sum_le n (λ k p q. h k p (le_step q)), h (suc n) (omega arith) (le_refl (suc n)))

  pub sum_tight : (n : ℕ) → ((k : ℕ) → 1 ≤ k → k ≤ n → f k ≤ g k) → fold ◌+◌ 0 g n ≤ fold ◌+◌ 0 f n
      → (k : ℕ) → 1 ≤ k → k ≤ n → f k ≡ g k
  unfolding fold
  sum_tight zero h t k p q = absurd (omega arith)
  sum_tight (suc n) h t k p q =
      let h' : (j : ℕ) → 1 ≤ j → j ≤ n → f j ≤ g j = λ j u v. h j u (le_step v) in
      let last : f (suc n) ≤ g (suc n) = h (suc n) (omega arith) (le_refl (suc n)) in
      let rest : fold ◌+◌ 0 f n ≤ fold ◌+◌ 0 g n = sum_le n h' in
      ⊎_elim
      (λ l. sum_tight n h' (omega arith) k p l)
      (λ e. let s : f (suc n) ≡ g (suc n) = omega arith in rw e s)
      (le-suc_iff.0 q)
