-- What the operations answer, case by case, and the views of the states that they hand back. Assumes nothing.
use Rattle.laws.proofs.Base.{ℕ, ◌≡◌, refl, sym, ap, ◌∙◌, subst, Bool, true, false, cond, arith, inl}
use Rattle.curves.specs.Unlimited.{curves_of}
use Rattle.curves.specs.Ticks.{then, Verdict, passed, too_many, too_few, Right}
use Rattle.curves.specs.Margins.{Margin, Tightest}
use Rattle.curves.specs.Questions.{Reply, result, refusal}
use Rattle.curves.proofs.Asked.{said_no, said_yes, same_result, result_from}
use Rattle.curves.proofs.Verdicts.{verdict?}
use Rattle.curves.proofs.Margins.{tightest?, tightest_is}
use Rattle.monitor.specs.declared.Monitor.{Monitor}
use Rattle.monitor.specs.declared.Judgement.{Judgement}
use Rattle.monitor.specs.Monitoring.{MonitorView, monitor_view_of, LegalMonitor, Ruling, judged, lost, already_failed, ruled, ruling_on}
use Rattle.monitor.specs.Monitoring.{verdict_on, closed_view, judging, MonitorNext}
use Rattle.monitor.specs.Margins.{no_margin, carried}
use Rattle.monitor.specs.Promises.{MonitorTicked}
use Rattle.monitor.specs.Calls.{monitor_after, after_tick}

-- ---- a tick
module _ (w : MonitorView) (x : ℕ) where
  pub judging_bad : ¬ LegalMonitor w → judging w x ≡ refusal 12
  unfolding judging
  judging_bad n = said_no _ _ _ 12 (inl (refl, n))

  -- In a legal state the failed mark decides whether the tick is judged.
  abbrev ruling : Bool → Reply Ruling
  ruling b = result (cond b already_failed (ruling_on w x))

  judging_is : LegalMonitor w → (b : Bool) → w.failed ≡ b → judging w x ≡ ruling b
  unfolding judging
  judging_is l b e = said_yes _ _ _ (ruling w.failed) (l, tt) (λ ys. refl) ∙ ap ruling e

  pub judging_failed : LegalMonitor w → w.failed ≡ true → judging w x ≡ result already_failed
  judging_failed l e = judging_is l true e

  pub judging_unfailed : LegalMonitor w → w.failed ≡ false → judging w x ≡ result (ruling_on w x)
  judging_unfailed l e = judging_is l false e

  -- What is not refused comes from a legal state.
  pub judging_legal : (r : Ruling) → judging w x ≡ result r → LegalMonitor w
  unfolding judging
  judging_legal r e = (result_from _ _ r e).0.0

  -- ---- and what it carries
  pub carried_bad : ¬ LegalMonitor w → carried w x ≡ no_margin
  unfolding carried
  carried_bad n = said_no _ _ _ 12 (inl (refl, n))

  carried_is : LegalMonitor w → (b : Bool) → w.failed ≡ b → (m : Margin) → Tightest w.view.pair (then w.view.held x) m
      → carried w x ≡ cond b no_margin m
  unfolding carried
  carried_is l b f m t =
      said_yes _ _ _ (cond b no_margin m) (l, tt)
      (λ ys i. cond (f i) no_margin (sym (tightest_is w.view.pair w.view.held x ys.0.given.lengths.0 m t) i))

  pub carried_failed : LegalMonitor w → w.failed ≡ true → carried w x ≡ no_margin
  carried_failed l f =
      let found = tightest? w.view.pair w.view.held x l.given.lengths.0 in carried_is l true f found.0 found.1

  pub carried_judged : LegalMonitor w → w.failed ≡ false → (m : Margin) → Tightest w.view.pair (then w.view.held x) m
      → m ≡ carried w x
  carried_judged l f m t = sym (carried_is l false f m t)

-- A verdict that is answered is the one by the figures as given.
pub ruled_given : (u u' v : Verdict) → ruled u u' ≡ judged v → u ≡ v
ruled_given passed passed v e = cc
ruled_given passed (too_many d) v e = let z : ◌≡◌ {A = ℕ} 0 1 = cc in absurd (omega arith)
ruled_given passed (too_few d) v e = let z : ◌≡◌ {A = ℕ} 0 1 = cc in absurd (omega arith)
ruled_given (too_many d) u' v e = cc
ruled_given (too_few d) u' v e = cc

pub ruling_right : (w : MonitorView) (x : ℕ) (v : Verdict) → w.failed ≡ false → judging w x ≡ result (judged v)
    → Right (curves_of w.view.pair) (then w.view.held x) v
ruling_right w x v f e =
    let found = sym (judging_unfailed w x (judging_legal w x (judged v) e) f) ∙ e in
    let is = ruled_given (verdict_on w.view x) (verdict_on (closed_view w) x) v (same_result (ruling_on w x) (judged v) found) in
    let p = curves_of w.view.pair in subst (Right p (then w.view.held x)) is (verdict? p (then w.view.held x)).1

-- ---- next states
pub monitor_next : (m : Monitor) (x : ℕ) (r : Judgement) → MonitorTicked m x r → monitor_view_of r.next ≡ after_tick (monitor_view_of m) x
monitor_next m x r t = go (judging (monitor_view_of m) x) t.next
  where
    go : (a : Reply Ruling) → MonitorNext a m x r.next → monitor_view_of r.next ≡ monitor_after a (monitor_view_of m) x
    go (result (judged passed)) e = e
    go (result (judged (too_many d))) e = ap monitor_view_of e
    go (result (judged (too_few d))) e = ap monitor_view_of e
    go (result lost) e = ap monitor_view_of e
    go (result already_failed) e = ap monitor_view_of e
    go (refusal n) e = ap monitor_view_of e
