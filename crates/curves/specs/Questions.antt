-- Questions asked in order (document 01, "The questions, in order"), for every operation alike.
use Rattle.std.specs.Prelude.{ℕ, ◌≡◌, refl, List, [], ◌∷◌, ◌⊎◌, Result, Ok, Err}
use Rattle.std.proofs.Common.{inl, inr, ⊎_elim}
use Rattle.std.proofs.Math.Logic.{⊎_map}

-- A question: the number that a "no" gives, what is asked, and the answer, which is its own proof.
pub record Question : Type 1 where
  pub number : ℕ
  pub asked : Type 0
  pub answered : Dec asked

-- Every question is answered yes.
abbrev pub AllYes : List Question → Type 0
AllYes [] = Unit {0}
AllYes (q ∷ qs) = q.asked × AllYes qs

-- Question n is the first that is answered no.
abbrev pub FirstNo : List Question → ℕ → Type 0
FirstNo [] n = ⊥
FirstNo (q ∷ qs) n = ((n ≡ q.number) × (¬ q.asked)) ⊎ (q.asked × FirstNo qs n)

-- The questions put one after the other.
unfoldable pub ask : (qs : List Question) → AllYes qs ⊎ ((n : ℕ) × FirstNo qs n)
ask [] = inl tt
ask (q ∷ qs) =
    elim q.answered [
      | yes y ↦ ⊎_map (λ ys. (y, ys)) (λ f. (f.0, inr (y, f.1))) (ask qs)
      | no n ↦ inr (q.number, inl (refl, n))
    ]

-- What the questions lead to: y of the yeses, or else n of the number of the first no.
abbrev pub answer_to {ℓ} : {A : Type ℓ} (qs : List Question) → (AllYes qs → A) → (ℕ → A) → A
answer_to qs y n = ⊎_elim y (λ f. n f.0) (ask qs)

-- A result, or a refusal with its number and nothing else.
pub data Reply (A : Type 0) : Type 0 where
  result : A → Reply A
  refusal : ℕ → Reply A

-- The reply of an operation that asks these questions.
abbrev pub reply_to : {A : Type 0} (qs : List Question) → (AllYes qs → A) → Reply A
reply_to qs y = answer_to qs (λ yeses. result (y yeses)) refusal

-- A call's result as a reply, by what its value stands for and its error's number.
abbrev pub reply_of : {A B E : Type 0} → (A → B) → (E → ℕ) → Result A E → Reply B
reply_of value number (Ok a) = result (value a)
reply_of value number (Err e) = refusal (number e)
