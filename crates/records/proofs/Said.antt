-- What `recording` says, case by case: refused where 7 or 8 is the first question that is answered no, else the record's constraint.
-- Assumes nothing.
use Rattle.laws.proofs.Base.{ℕ, ◌≡◌, refl, [], ◌∷◌, ◌↔◌}
use Rattle.curves.specs.Questions.{AllYes, FirstNo, result, refusal}
use Rattle.curves.proofs.Asked.{said_yes, refusal_iff, result_from}
use Rattle.csv_text.specs.Text.{Bytes}
use Rattle.records.specs.Recording.{question7, question8, Spelt, spelt_by, recording}

module _ (r : Bytes) where
  pub refused_iff : (n : ℕ) → (recording r ≡ refusal n) ↔ FirstNo (question7 r ∷ question8 r ∷ []) n
  unfolding recording
  refused_iff n = refusal_iff (question7 r ∷ question8 r ∷ []) _ n

  pub given_is : AllYes (question7 r ∷ question8 r ∷ []) → recording r ≡ result (spelt_by r)
  unfolding recording
  given_is ys = said_yes (question7 r ∷ question8 r ∷ []) _ refusal _ ys (λ _. refl)

  pub given_from : (s : Spelt) → recording r ≡ result s
      → AllYes (question7 r ∷ question8 r ∷ []) × (spelt_by r ≡ s)
  unfolding recording
  given_from s e = result_from (question7 r ∷ question8 r ∷ []) _ s e
