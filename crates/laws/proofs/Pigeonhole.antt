-- The pigeonhole principle: of n + 2 numbers from 0 to n two are equal. Assumes nothing.
use Rattle.laws.proofs.Base.{ℕ, zero, suc, ◌-◌, ◌≤◌, ◌<◌, min, max, ◌≡◌, sym, ◌⊎◌, inl, inr, ⊎_elim, dec_lt, ℕ_discrete, arith}
use Rattle.laws.proofs.Search.{every}

-- Two places, from 0 to n, with one number.
pub record Repeats (f : ℕ → ℕ) (n : ℕ) : Type 0 where
  pub first : ℕ
  pub second : ℕ
  pub before : first < second
  pub within : second ≤ n
  pub same : f first ≡ f second

-- A number other than c, with the gap that c leaves closed.
closer : ℕ → ℕ → ℕ
closer c x = max (min x c) (x - 1)

closer_is : (c x : ℕ) → ¬ (x ≡ c) → ((x < c) × (closer c x ≡ x)) ⊎ ((c < x) × (suc (closer c x) ≡ x))
unfolding closer
closer_is c x n = elim (dec_lt x c) [ yes l ↦ inl (l, omega arith) | no l ↦ inr (omega arith, omega arith) ]

closer_within : (c x n : ℕ) → ¬ (x ≡ c) → c ≤ suc n → x ≤ suc n → closer c x ≤ n
closer_within c x n o h l = ⊎_elim (λ q. omega arith) (λ q. omega arith) (closer_is c x o)

closer_same : (c x y : ℕ) → ¬ (x ≡ c) → ¬ (y ≡ c) → closer c x ≡ closer c y → x ≡ y
closer_same c x y o o' e =
    ⊎_elim
    (λ p. ⊎_elim (λ q. omega arith) (λ q. omega arith) (closer_is c y o'))
    (λ p. ⊎_elim (λ q. omega arith) (λ q. omega arith) (closer_is c y o'))
    (closer_is c x o)

-- The first number comes again, or the others are as many as 0 to n − 1 have room for, and one more.
pub pigeonhole : (n : ℕ) (f : ℕ → ℕ) → ((i : ℕ) → i ≤ suc n → f i ≤ n) → Repeats f (suc n)
pigeonhole zero f h =
    let same : f 0 ≡ f 1 = omega (arith, h 0 (omega arith), h 1 (omega arith)) in
    record { first = 0; second = 1; before = omega arith; within = omega arith; same = same }
pigeonhole (suc n) f h =
    ⊎_elim
    (λ other.
    let r : Repeats (λ i. closer (f 0) (f (suc i))) (suc n) =
    pigeonhole n (λ i. closer (f 0) (f (suc i)))
    (λ i l. closer_within _ _ n (other (suc i) (omega arith) (omega arith)) (h 0 (omega arith)) (h (suc i) (omega arith))) in
    record {
      first = suc r.first;
      second = suc r.second;
      before = omega (arith, r.before);
      within = omega (arith, r.within);
      same =
          closer_same (f 0) _ _
          (other (suc r.first) (omega arith) (omega (arith, r.before, r.within)))
          (other (suc r.second) (omega arith) (omega (arith, r.within)))
          r.same;
    })
    (λ r. r)
    (every (λ d. ¬ (f d ≡ f 0)) (Repeats f (suc (suc n))) (suc (suc n)) (λ d u v.
    elim (ℕ_discrete (f d) (f 0)) [
      | yes e ↦ inr (record { first = 0; second = d; before = u; within = v; same = sym e })
      | no e ↦ inl e
    ]))
