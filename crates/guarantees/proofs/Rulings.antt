-- Demand 2 and request P2, in any legal state that has not failed: each ruling stands exactly where it is right. Assumes nothing.
use Rattle.laws.proofs.Base.{ℕ, ◌≡◌, refl, sym, ap, ◌∙◌, subst, List, ◌↔◌, inl, inr}
use mathlib.Core.Logic.Iff
use Rattle.curves.specs.Pairs.{Pair}
use Rattle.curves.specs.Unlimited.{curves_of}
use Rattle.curves.specs.Ticks.{then, Keeps, Verdict, passed, too_many, too_few, Right}
use Rattle.curves.specs.Questions.{result}
use Rattle.curves.proofs.Asked.{same_result}
use Rattle.curves.proofs.Verdicts.{verdict?, right_once}
use Rattle.monitor.specs.Monitoring.{MonitorView, Ruling, judged, lost, already_failed, ruled, ruling_on}
use Rattle.monitor.proofs.Said.{judging_unfailed}
use Rattle.guarantees.specs.Exact.{LegalUnfailed, Answers, SomeOutside, JudgedOutside, OutsideIffSomeWindow, AnswersRight}
use Rattle.guarantees.specs.Exact.{LostIffOutsideClosed, PassesIffInsideBoth, Neither}

-- A ruling is right for the stream xs, by the pair p as given and the closed figures q.
abbrev pub RightRuling : Pair → Pair → List ℕ → Ruling → Type 0
RightRuling p q xs (judged passed) = Keeps p xs × Keeps q xs
RightRuling p q xs (judged (too_many d)) = Right p xs (too_many d)
RightRuling p q xs (judged (too_few d)) = Right p xs (too_few d)
RightRuling p q xs lost = Keeps p xs × (¬ Keeps q xs)
RightRuling p q xs already_failed = ⊥

-- ---- from two right verdicts
module _ (p q : Pair) (xs : List ℕ) where
  ruled_right : (u u' : Verdict) → Right p xs u → Right q xs u' → RightRuling p q xs (ruled u u')
  ruled_right passed passed r r' = (r, r')
  ruled_right passed (too_many d) r r' = (r, λ k. r'.0.outside (k d r'.0.window_judged))
  ruled_right passed (too_few d) r r' = (r, λ k. r'.0.outside (k d r'.0.window_judged))
  ruled_right (too_many d) u' r r' = r
  ruled_right (too_few d) u' r r' = r

  second_lost : (u' : Verdict) → Right q xs u' → ¬ Keeps q xs → ruled passed u' ≡ lost
  second_lost passed r n = absurd (n r)
  second_lost (too_many d) r n = refl
  second_lost (too_few d) r n = refl

  ruled_is : (u u' : Verdict) → Right p xs u → Right q xs u' → (r : Ruling) → RightRuling p q xs r → ruled u u' ≡ r
  ruled_is u u' a a' (judged passed) (k, k') =
      λ i. ruled (right_once p xs u passed a k i) (right_once q xs u' passed a' k' i)
  ruled_is u u' a a' (judged (too_many d)) k = ap (λ v. ruled v u') (right_once p xs u (too_many d) a k)
  ruled_is u u' a a' (judged (too_few d)) k = ap (λ v. ruled v u') (right_once p xs u (too_few d) a k)
  ruled_is u u' a a' lost (k, n) = ap (λ v. ruled v u') (right_once p xs u passed a k) ∙ second_lost u' a' n
  ruled_is u u' a a' already_failed f = absurd f

-- Not to keep every window is to have one outside.
not_keeps_iff : (q : Pair) (xs : List ℕ) → (¬ Keeps q xs) ↔ SomeOutside q xs
not_keeps_iff q xs = (λ n. go n (verdict? q xs).0 (verdict? q xs).1, λ o k. o.2 (k o.0 o.1))
  where
    go : ¬ Keeps q xs → (v : Verdict) → Right q xs v → SomeOutside q xs
    go n passed r = absurd (n r)
    go n (too_many d) r = (d, r.0.window_judged, r.0.outside)
    go n (too_few d) r = (d, r.0.window_judged, r.0.outside)

module _ (w : MonitorView) (x : ℕ) (f : LegalUnfailed w) where
  abbrev p : Pair
  p = curves_of w.view.pair

  abbrev q : Pair
  q = w.closed

  abbrev ys : List ℕ
  ys = then w.view.held x

  pub ruling_iff : (r : Ruling) → Answers w x r ↔ RightRuling p q ys r
  ruling_iff r =
      let is = judging_unfailed w x f.legal f.mark in
      let u = verdict? p ys in
      let u' = verdict? q ys in (
        (λ e. subst (RightRuling p q ys) (same_result (ruling_on w x) r (sym is ∙ e)) (ruled_right p q ys u.0 u'.0 u.1 u'.1)),
        (λ k. is ∙ ap result (ruled_is p q ys u.0 u'.0 u.1 u'.1 r k)),
      )

  -- Where some window is outside, one of the two verdicts is answered.
  outside : ¬ Keeps p ys → (v : Verdict) → Right p ys v → JudgedOutside w x
  outside n passed r = absurd (n r)
  outside n (too_many d) r = (d, inl ((ruling_iff (judged (too_many d))).1 r))
  outside n (too_few d) r = (d, inr ((ruling_iff (judged (too_few d))).1 r))

  pub outside_iff : JudgedOutside w x ↔ (¬ Keeps p ys)
  outside_iff = (there, λ n. outside n (verdict? p ys).0 (verdict? p ys).1)
    where
      there : JudgedOutside w x → ¬ Keeps p ys
      there (d, inl e) k = let r = ((ruling_iff (judged (too_many d))).0 e).0 in r.outside (k d r.window_judged)
      there (d, inr e) k = let r = ((ruling_iff (judged (too_few d))).0 e).0 in r.outside (k d r.window_judged)

  pub neither_iff : Neither w x ↔ Keeps p ys
  neither_iff = (λ n. go n (verdict? p ys).0 (verdict? p ys).1, λ k o. outside_iff.0 o k)
    where
      go : Neither w x → (v : Verdict) → Right p ys v → Keeps p ys
      go n passed r = r
      go n (too_many d) r = absurd (n (d, inl ((ruling_iff (judged (too_many d))).1 r)))
      go n (too_few d) r = absurd (n (d, inr ((ruling_iff (judged (too_few d))).1 r)))

pub outside_iff_some_window : OutsideIffSomeWindow
outside_iff_some_window w x f = Iff.trans (outside_iff w x f) (not_keeps_iff (curves_of w.view.pair) (then w.view.held x))

pub answers_right : AnswersRight
answers_right w x f d = (ruling_iff w x f (judged (too_many d)), ruling_iff w x f (judged (too_few d)))

pub lost_iff_outside_closed : LostIffOutsideClosed
lost_iff_outside_closed w x f = Iff.trans (ruling_iff w x f lost) (Iff.and Iff.rfl (not_keeps_iff w.closed (then w.view.held x)))

pub passes_iff_inside_both : PassesIffInsideBoth
passes_iff_inside_both w x f = ruling_iff w x f (judged passed)
