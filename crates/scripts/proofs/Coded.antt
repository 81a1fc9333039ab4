-- Answers as numbers: no opening is refused with 0; and verdicts fit: a window that one names is no longer than the longest horizon.
-- Assumes nothing.
use Rattle.laws.proofs.Base.{ℕ, ◌≡◌, refl, sym, Bool, true, false, List, ◌≤◌, arith}
use Rattle.curves.specs.Ticks.{then, Judged, Verdict, too_many, too_few, Right}
use Rattle.curves.specs.Unlimited.{AnyPair, curves_of}
use Rattle.curves.specs.Questions.{Question, AllYes, result, refusal, reply_to}
use Rattle.curves.proofs.Asked.{Positive, positive, refusal_iff}
use Rattle.bounds.specs.Bounds.{max_horizon}
use Rattle.monitor.specs.declared.Verdict as declared
use Rattle.monitor.specs.declared.Verdict.TheVariants.{Passed, TooMany, TooFew, Lost, AlreadyFailed}
use Rattle.monitor.specs.Monitoring.{MonitorView, judged, judging}
use Rattle.monitor.specs.Opening.{monitor_questions, monitor_opening}
use Rattle.monitor.specs.Answers.{ruling_of}
use Rattle.monitor.proofs.Said.{judging_legal, judging_failed, ruling_right}
use Rattle.generator.specs.Opening.{generator_questions, generator_opening}
use Rattle.scripts.specs.Steps.{NamesWindow}

-- ---- opening
-- No refusal has the number 0, as no question has: so 0 says at the boundary that the state is open. No proof needs it; it is claimed.
numbered : (qs : List Question) (y : AllYes qs → Unit {0}) → Positive qs → ¬ (reply_to qs y ≡ refusal 0)
numbered qs y h e = omega (arith, positive qs h 0 ((refusal_iff qs y 0).0 e))

pub generator_opening_numbered : (p : AnyPair) → ¬ (generator_opening p ≡ refusal 0)
unfolding generator_opening
generator_opening_numbered p = numbered (generator_questions p) _ (omega arith, (omega arith, (omega arith, (omega arith, tt))))

pub monitor_opening_numbered : (p : AnyPair) → ¬ (monitor_opening p ≡ refusal 0)
unfolding monitor_opening
monitor_opening_numbered p = numbered (monitor_questions p) _ (omega arith, (omega arith, (omega arith, (omega arith, tt))))

-- ---- verdicts
-- A verdict that was found is that of a legal state that had not failed, and it is right: a window that it judges is within the horizon.
judged_within : (w : MonitorView) (x : ℕ) (u : Verdict) (d : ℕ)
    → (Right (curves_of w.view.pair) (then w.view.held x) u → Judged (curves_of w.view.pair) (then w.view.held x) d)
    → judging w x ≡ result (judged u) → d ≤ max_horizon
judged_within w x u d names e = go w.failed refl
  where
    go : (b : Bool) → w.failed ≡ b → d ≤ max_horizon
    go true f =
        let z : ◌≡◌ {A = ℕ} 0 1 = cc (judging_failed w x (judging_legal w x (judged u) e) f) in absurd (omega arith)
    go false f = omega (arith, (judging_legal w x (judged u) e).given.lengths.1, (names (ruling_right w x u f e)).within)

pub names_window : (w : MonitorView) (x : ℕ) (u : declared.Verdict) → result (ruling_of u) ≡ judging w x → NamesWindow u
names_window w x Passed e = tt
names_window w x (TooMany d) e = judged_within w x (too_many d) d (λ r. r.0.window_judged) (sym e)
names_window w x (TooFew d) e = judged_within w x (too_few d) d (λ r. r.0.window_judged) (sym e)
names_window w x Lost e = tt
names_window w x AlreadyFailed e = tt
