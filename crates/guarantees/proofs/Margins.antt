-- Request P5: the margin that a tick carries, and what it leaves. Assumes nothing.
use Rattle.laws.proofs.Base.{ℕ, ◌-◌, ◌≡◌, refl, sym, ap, ◌∙◌, subst, Bool, true, false, [], ◌∷◌, ◌↔◌, inl, inr, ⊎_map, dec_lt, arith}
use mathlib.Core.Logic.Iff
use lib.IntN.{pos}
use lib.Signed.{◌<ℤ◌, <ℤ_irrefl, clash_ℤ}
use Rattle.laws.proofs.Whole.{up, down, less?, minus_pos, minus_parts}
use Rattle.curves.specs.Pairs.{horizon, figure, upper_at, lower_at}
use Rattle.curves.specs.Unlimited.{unlimited, curves_of}
use Rattle.curves.specs.Ticks.{then, too_many, too_few}
use Rattle.curves.specs.Margins.{margin_of, Margin, Tightest}
use Rattle.curves.proofs.Asked.{no_refusal, same_result}
use Rattle.curves.proofs.Margins.{negative_between, zero_between, tightest?, tightest_exactly, tightest_newest, tightest_negative}
use Rattle.curves.proofs.Margins.{left_of, within_tightest, beyond_tightest}
use Rattle.history.specs.States.{View}
use Rattle.monitor.specs.Monitoring.{MonitorView, LegalMonitor, legal_monitor?, Ruling, judged, already_failed, ruling_on}
use Rattle.monitor.specs.Margins.{no_margin, carried}
use Rattle.monitor.specs.Opening.{fresh_monitor}
use Rattle.monitor.specs.Calls.{after_ticks, margins}
use Rattle.monitor.proofs.Said.{judging_bad, judging_failed, judging_unfailed, carried_judged, carried_bad, carried_failed, monitor_next}
use Rattle.guarantees.specs.Exact.{LegalUnfailed, Answers, JudgedOutside}
use Rattle.guarantees.specs.Margins.{NegativeIffOutside, ZeroIffOnLimit, NegativeIffBelow, ZeroIffOnLeast, CarriesTightest}
use Rattle.guarantees.specs.Margins.{CarriesNothing, TightestOfWholeStream}
use Rattle.guarantees.specs.Margins.{Unjudged, NegativeIffJudgedOutside, WithinMarginNeither, BeyondMarginOutside, TicksCarryMargins}
use Rattle.guarantees.proofs.Rulings.{ruling_iff, outside_iff, neither_iff}
use Rattle.guarantees.proofs.Lost.{now_view, now_unfailed}

-- ---- of one window
pub negative_iff_outside : NegativeIffOutside
negative_iff_outside p d x = negative_between (upper_at p d) (lower_at p d) x

pub zero_iff_on_limit : ZeroIffOnLimit
zero_iff_on_limit p d x h = zero_between (upper_at p d) (lower_at p d) x h

-- Without ceilings, by the least alone.
pub negative_iff_below : NegativeIffBelow
negative_iff_below h ls d x = (
  (λ n. elim (dec_lt x (figure 0 ls d)) [ yes f ↦ f | no f ↦ absurd (clash_ℤ n ((left_of (unlimited h ls) d x 0).1 (tt, omega arith))) ]),
  (λ f. elim (less? (margin_of (unlimited h ls) d x) (pos 0))
      [ inl n ↦ n | inr k ↦ absurd (omega (arith, f, ((left_of (unlimited h ls) d x 0).0 k).1)) ]),
)

pub zero_iff_on_least : ZeroIffOnLeast
zero_iff_on_least h ls d x =
    let l = figure 0 ls d in (
      (λ e. omega (arith, minus_parts x l, ap up e, ap down e)),
      (λ e. minus_pos x l (omega arith) ∙ ap pos (omega arith)),
    )

-- ---- of a tick
carried_tightest : (w : MonitorView) (x : ℕ) → LegalUnfailed w → Tightest w.view.pair (then w.view.held x) (carried w x)
carried_tightest w x f =
    let found = tightest? w.view.pair w.view.held x f.legal.given.lengths.0 in
    subst (Tightest w.view.pair (then w.view.held x))
    (carried_judged w x f.legal f.mark found.0 found.1) found.1

pub carries_tightest : CarriesTightest
carries_tightest w x f = tightest_exactly w.view.pair (then w.view.held x) (carried w x) (carried_tightest w x f)

-- A state is legal and has not failed; or it is, and has; or it is not legal.
data Kind (w : MonitorView) : Type 0 where
  unfailed : LegalUnfailed w → Kind w
  failed : LegalMonitor w → w.failed ≡ true → Kind w
  bad : ¬ LegalMonitor w → Kind w

kind : (w : MonitorView) → Kind w
kind w = elim (legal_monitor? w) [ yes l ↦ go l w.failed refl | no n ↦ bad n ]
  where
    go : LegalMonitor w → (b : Bool) → w.failed ≡ b → Kind w
    go l false e = unfailed (record { legal = l; mark = e })
    go l true e = failed l e

-- A tick that is answered, and not 'already failed', was judged in such a state.
pub answers_unfailed : (w : MonitorView) (x : ℕ) (r : Ruling) → Answers w x r → ¬ (r ≡ already_failed) → LegalUnfailed w
answers_unfailed w x r a n = go (kind w)
  where
    go : Kind w → LegalUnfailed w
    go (unfailed f) = f
    go (failed l e) = absurd (n (same_result r already_failed (sym a ∙ judging_failed w x l e)))
    go (bad k) = absurd (no_refusal r 12 (sym a ∙ judging_bad w x k))

-- In a legal state that has not failed windows are judged; where none is, the answer is neither of the two.
unfailed_judged : (w : MonitorView) (x : ℕ) → LegalUnfailed w → ¬ Unjudged w x
unfailed_judged w x f (inl e) = no_refusal (ruling_on w x) 12 (sym (judging_unfailed w x f.legal f.mark) ∙ e)
unfailed_judged w x f (inr e) = (ruling_iff w x f already_failed).0 e

not_outside : (w : MonitorView) (x : ℕ) → Unjudged w x → ¬ JudgedOutside w x
not_outside w x (inl e) (d, inl k) = no_refusal (judged (too_many d)) 12 (sym k ∙ e)
not_outside w x (inl e) (d, inr k) = no_refusal (judged (too_few d)) 12 (sym k ∙ e)
not_outside w x (inr e) (d, inl k) = let z : ◌≡◌ {A = ℕ} 0 1 = cc in omega arith
not_outside w x (inr e) (d, inr k) = let z : ◌≡◌ {A = ℕ} 0 1 = cc in omega arith

pub carries_nothing : CarriesNothing
carries_nothing w x u = go (kind w)
  where
    go : Kind w → carried w x ≡ no_margin
    go (unfailed f) = absurd (unfailed_judged w x f u)
    go (failed l e) = carried_failed w x l e
    go (bad n) = carried_bad w x n

-- 0 is not negative.
nothing_negative : (w : MonitorView) (x : ℕ) → Unjudged w x → ((carried w x).value <ℤ pos 0) ↔ JudgedOutside w x
nothing_negative w x u = (
  (λ l. absurd (<ℤ_irrefl (subst (λ (m : Margin). m.value <ℤ pos 0) (carries_nothing w x u) l))),
  (λ o. absurd (not_outside w x u o)),
)

pub negative_iff_judged_outside : NegativeIffJudgedOutside
negative_iff_judged_outside w x c = go (kind w)
  where
    go : Kind w → ((carried w x).value <ℤ pos 0) ↔ JudgedOutside w x
    go (unfailed f) =
        Iff.trans (tightest_negative w.view.pair w.view.held x (carried w x) (carried_tightest w x f) c)
        (Iff.symm (outside_iff w x f))
    go (failed l e) = nothing_negative w x (inr (judging_failed w x l e))
    go (bad n) = nothing_negative w x (inl (judging_bad w x n))

pub tightest_of_whole_stream : TightestOfWholeStream
tightest_of_whole_stream p o xs es x =
    let now = after_ticks (fresh_monitor p) xs in
    tightest_exactly p (then xs x) (carried now x)
    (tightest_newest p (horizon (curves_of p) - 1) xs x _ (omega arith)
    (subst (λ (v : View). Tightest v.pair (then v.held x) (carried now x))
    (now_view p o xs es x) (carried_tightest now x (now_unfailed p o xs es x))))

-- ---- what is left
pub within_margin_neither : WithinMarginNeither
within_margin_neither w x n f e y c a b =
    (neither_iff w y f).1 (within_tightest w.view.pair w.view.held x (carried w x) (carried_tightest w x f) n e y c a b)

pub beyond_margin_outside : BeyondMarginOutside
beyond_margin_outside w x n f e =
    ⊎_map
    (λ (s, k). (s, λ y l. (outside_iff w y f).1 (k y l)))
    (λ (s, k). (s, λ y l. (outside_iff w y f).1 (k y l)))
    (beyond_tightest w.view.pair w.view.held x (carried w x) (carried_tightest w x f) n e)

-- ---- any results that the promise allows
pub ticks_carry_margins : TicksCarryMargins
unfolding margins
ticks_carry_margins m [] t = refl
ticks_carry_margins m (t ∷ ts) (a, b) = cc (ticks_carry_margins t.judgement.next ts b, monitor_next m t.count t.judgement a)
