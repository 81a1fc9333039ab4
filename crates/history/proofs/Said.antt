-- What question 12 says of a history, case by case. Assumes nothing.
use Rattle.std.specs.Prelude.{Result, Ok, Err}
use Rattle.laws.proofs.Base.{◌≡◌, refl, sym, ◌∙◌, inl}
use Rattle.curves.specs.Questions.{result, refusal}
use Rattle.curves.proofs.Asked.{said_no, said_yes, result_from, no_refusal}
use Rattle.history.specs.declared.BadState.{BadState}
use Rattle.history.specs.declared.View as declared
use Rattle.history.specs.States.{View, Legal, legality, viewing}
use Rattle.history.specs.Answers.{legality_reply, view_in, view_reply}

module _ (v : View) where
  pub legality_yes : Legal v → result tt ≡ legality v
  unfolding legality
  legality_yes l = sym (said_yes _ _ _ (result tt) (l, tt) (λ _. refl))

  pub legality_no : ¬ Legal v → refusal 12 ≡ legality v
  unfolding legality
  legality_no n = sym (said_no _ _ _ 12 (inl (refl, n)))

  -- What asking it tells: the view is legal, or it is not.
  abbrev pub Told : Result (Unit {0}) BadState → Type 0
  Told (Ok u) = Legal v
  Told (Err e) = ¬ Legal v

  pub told : (r : Result (Unit {0}) BadState) → legality_reply r ≡ legality v → Told r
  unfolding legality
  told (Ok u) e = (result_from _ _ u (sym e)).0.0
  told (Err x) e = λ l. no_refusal tt 12 (legality_yes l ∙ sym e)

  pub viewing_yes : Legal v → result v ≡ viewing v
  unfolding viewing
  viewing_yes l = sym (said_yes _ _ _ (result v) (l, tt) (λ _. refl))

  pub viewing_no : ¬ Legal v → refusal 12 ≡ viewing v
  unfolding viewing
  viewing_no n = sym (said_no _ _ _ 12 (inl (refl, n)))

  -- What handing out the view tells: it is legal, and these slices are what it has; or it is not.
  abbrev pub Seen : Result declared.View BadState → Type 0
  Seen (Ok w) = Legal v × (view_in w ≡ v)
  Seen (Err e) = ¬ Legal v

  pub seen : (r : Result declared.View BadState) → view_reply r ≡ viewing v → Seen r
  unfolding viewing
  seen (Ok w) e = let (ys, same) = result_from _ _ (view_in w) (sym e) in (ys.0, sym same)
  seen (Err x) e = λ l. no_refusal v 12 (viewing_yes l ∙ sym e)
