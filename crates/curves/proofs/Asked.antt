-- Questions asked in order: what `ask` says is settled by the questions alone, and so is the answer that they lead to.
-- Assumes nothing.
use Rattle.laws.proofs.Base.{ℕ, ◌≤◌, ◌≡◌, sym, ap, ◌∙◌, subst, List, [], ◌∷◌, ◌++◌, ◌↔◌, ◌⊎◌, inl, inr, ⊎_elim, arith}
use Rattle.curves.specs.Questions.{Question, AllYes, FirstNo, ask, answer_to, result, refusal, reply_to}

pub not_both : (qs : List Question) (n : ℕ) → AllYes qs → FirstNo qs n → ⊥
not_both [] n ys f = f
not_both (q ∷ qs) n ys f = ⊎_elim (λ h. h.1 ys.0) (λ h. not_both qs n ys.1 h.1) f

pub one_no : (qs : List Question) (m n : ℕ) → FirstNo qs m → FirstNo qs n → m ≡ n
one_no [] m n f g = absurd f
one_no (q ∷ qs) m n f g =
    ⊎_elim
    (λ h. ⊎_elim (λ k. h.0 ∙ sym k.0) (λ k. absurd (h.1 k.0)) g)
    (λ h. ⊎_elim (λ k. absurd (k.1 h.0)) (λ k. one_no qs m n h.1 k.1) g)
    f

-- ---- questions asked after others
pub yes_append : (qs rs : List Question) → AllYes qs → AllYes rs → AllYes (qs ++ rs)
yes_append [] rs ys zs = zs
yes_append (q ∷ qs) rs ys zs = (ys.0, yes_append qs rs ys.1 zs)

pub yes_parts : (qs rs : List Question) → AllYes (qs ++ rs) → AllYes qs × AllYes rs
yes_parts [] rs ys = (tt, ys)
yes_parts (q ∷ qs) rs ys = let (l, r) = yes_parts qs rs ys.1 in ((ys.0, l), r)

pub no_before : (qs rs : List Question) (n : ℕ) → FirstNo qs n → FirstNo (qs ++ rs) n
no_before [] rs n f = absurd f
no_before (q ∷ qs) rs n f = ⊎_elim inl (λ h. inr (h.0, no_before qs rs n h.1)) f

pub no_after : (qs rs : List Question) (n : ℕ) → AllYes qs → FirstNo rs n → FirstNo (qs ++ rs) n
no_after [] rs n ys f = f
no_after (q ∷ qs) rs n ys f = inr (ys.0, no_after qs rs n ys.1 f)

pub no_parts : (qs rs : List Question) (n : ℕ) → FirstNo (qs ++ rs) n → FirstNo qs n ⊎ (AllYes qs × FirstNo rs n)
no_parts [] rs n f = inr (tt, f)
no_parts (q ∷ qs) rs n f =
    ⊎_elim (λ h. inl (inl h)) (λ h. ⊎_elim (λ g. inl (inr (h.0, g))) (λ g. inr ((h.0, g.0), g.1)) (no_parts qs rs n h.1)) f

-- ---- a question's number is at least 1, so that no refusal is taken for an answer
abbrev pub Positive : List Question → Type 0
Positive [] = Unit {0}
Positive (q ∷ qs) = (1 ≤ q.number) × Positive qs

pub positive : (qs : List Question) → Positive qs → (n : ℕ) → FirstNo qs n → 1 ≤ n
positive [] h n f = absurd f
positive (q ∷ qs) h n f = ⊎_elim (λ k. omega (arith, h.0, k.0)) (λ k. positive qs h.1 n k.1) f

-- ---- the answer that the questions lead to
module _ {ℓ} {A : Type ℓ} (qs : List Question) (y : AllYes qs → A) (n : ℕ → A) where
  -- What holds of every answer to yeses, and of every refusal, holds of it.
  answered {ℓ'} : (P : A → Type ℓ') → ((ys : AllYes qs) → P (y ys)) → ((k : ℕ) → FirstNo qs k → P (n k)) → P (answer_to qs y n)
  answered P f g = go (ask qs)
    where
      go : (v : AllYes qs ⊎ ((m : ℕ) × FirstNo qs m)) → P (⊎_elim y (λ r. n r.0) v)
      go (inl ys) = f ys
      go (inr r) = g r.0 r.1

  pub said_no : (k : ℕ) → FirstNo qs k → answer_to qs y n ≡ n k
  said_no k f = answered (λ a. a ≡ n k) (λ ys. absurd (not_both qs k ys f)) (λ m g. ap n (one_no qs m k g f))

  pub said_yes : (a : A) → AllYes qs → ((ys : AllYes qs) → y ys ≡ a) → answer_to qs y n ≡ a
  said_yes a all e = answered (λ b. b ≡ a) e (λ m g. absurd (not_both qs m all g))

  -- Where a refusal bears its question's number and any other answer 0, the number tells which question it was.
  module _ (number : A → ℕ) (no_number : (k : ℕ) → number (n k) ≡ k) (yes-number : (ys : AllYes qs) → number (y ys) ≡ 0) (h : Positive qs)
    where
      pub no_iff : (k : ℕ) → ((1 ≤ k) × (answer_to qs y n ≡ n k)) ↔ FirstNo qs k
      no_iff k = (
        (λ e. answered (λ a. a ≡ n k → FirstNo qs k)
            (λ ys i. absurd (omega (arith, e.0, ap number i, no_number k, yes-number ys)))
            (λ m f i. subst (FirstNo qs) (sym (no_number m) ∙ ap number i ∙ no_number k) f)
            e.1),
        (λ f. (positive qs h k f, said_no k f)),
      )

      pub yes_iff : (number (answer_to qs y n) ≡ 0) ↔ AllYes qs
      yes_iff = (
        answered (λ a. number a ≡ 0 → AllYes qs) (λ ys e. ys) (λ m f e. absurd (omega (arith, positive qs h m f, no_number m))),
        (λ all. answered (λ a. number a ≡ 0) yes-number (λ m f. absurd (not_both qs m all f))),
      )

-- ---- a reply: a result, or a refusal
module _ {A : Type 0} where
  pub no_refusal : (a : A) (n : ℕ) → ¬ (result a ≡ refusal n)
  no_refusal a n e = let z : ◌≡◌ {A = ℕ} 0 1 = cc in omega arith

  pub same_result : (a b : A) → result a ≡ result b → a ≡ b
  same_result a b e = cc

  module _ (qs : List Question) (y : AllYes qs → A) where
    -- Refused with n exactly when question n is the first that is answered no.
    pub refusal_iff : (n : ℕ) → (reply_to qs y ≡ refusal n) ↔ FirstNo qs n
    refusal_iff n = (
      answered qs (λ ys. result (y ys)) refusal (λ a. a ≡ refusal n → FirstNo qs n)
          (λ ys e. absurd (no_refusal (y ys) n e))
          (λ m f e. let i : m ≡ n = cc in rw i at f),
      said_no qs (λ ys. result (y ys)) refusal n,
    )

    -- A result is made of yeses.
    pub result_from : (a : A) → reply_to qs y ≡ result a → (ys : AllYes qs) × (y ys ≡ a)
    result_from a =
        answered qs (λ ys. result (y ys)) refusal (λ r. r ≡ result a → (ys : AllYes qs) × (y ys ≡ a))
        (λ ys e. (ys, same_result (y ys) a e))
        (λ m f e. absurd (no_refusal a m (sym e)))
