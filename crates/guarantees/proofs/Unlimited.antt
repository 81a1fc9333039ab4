-- Request P7: a monitor without ceilings is never refused with 5, says neither 'too many' nor 'lost', and passes what has every least; a
-- generator sends that, up to its limit. Assumes nothing.
use Rattle.laws.proofs.Base.{ℕ, ◌≤◌, ◌≡◌, refl, sym, ◌∙◌, subst, subst⁻¹, Bool, true, List, ◌↔◌, inl, inr, arith, length}
use mathlib.Core.Logic.Iff
use Rattle.laws.specs.Tests.{Each}
use Rattle.curves.specs.Streams.{count_limit}
use Rattle.curves.specs.Pairs.{Pair, horizon, lower_at}
use Rattle.curves.specs.Unlimited.{unlimited, with_mark, curves_of}
use Rattle.curves.specs.Conformance.{TooMany}
use Rattle.curves.specs.Ticks.{then, last, Judged, Keeps, passed, too_many}
use Rattle.curves.specs.Questions.{FirstNo}
use Rattle.curves.proofs.Highest.{length-highest, highest_at, last_within}
use Rattle.history.specs.States.{entries, view_of}
use Rattle.monitor.specs.declared.Monitor.{Monitor}
use Rattle.monitor.specs.Monitoring.{MonitorView, closed_in, monitor_view_of, judged, lost}
use Rattle.monitor.specs.Opening.{monitor_questions}
use Rattle.monitor.proofs.Opening.{leasts_close}
use Rattle.bounds.specs.Bounds.{figure_limit}
use Rattle.guarantees.specs.Exact.{LegalUnfailed, Answers, Offered}
use Rattle.guarantees.specs.NeverRefused.{UnlimitedSendsIffPasses}
use Rattle.guarantees.specs.Lost.{UnlimitedNeverFive, UnlimitedNeverTooMany, UnlimitedNeverLost, UnlimitedPassesIffEnough}
use Rattle.guarantees.proofs.Total.{monitor_opening_refused}
use Rattle.guarantees.proofs.Rulings.{ruling_iff, neither_iff}
use Rattle.guarantees.proofs.Generating.{sends_iff_neither}
use Rattle.guarantees.proofs.Margins.{answers_unfailed}

-- ---- opening
pub unlimited_never_five : UnlimitedNeverFive
unlimited_never_five h ls e = go ((monitor_opening_refused (unlimited h ls) 5).0 e)
  where
    go : FirstNo (monitor_questions (unlimited h ls)) 5 → ⊥
    go (inl (n, _)) = omega arith
    go (inr (a, inl (n, _))) = omega arith
    go (inr (a, inr (b, inl (n, _)))) = omega arith
    go (inr (a, inr (b, inr (c, inl (n, none))))) = none (leasts_close h ls (a, (b, (c, tt))))
    go (inr (a, inr (b, inr (c, inr (y, f))))) = f

-- ---- a tick, in a state with the mark
-- The curves of the pair stand in the place of closed figures.
closed_own : (us ls : List ℕ) (b : Bool) (q : Pair) → b ≡ true → closed_in (with_mark us ls b) q ≡ curves_of (with_mark us ls b)
closed_own us ls b q e = rw e refl

-- And no counts pass the ceilings of these.
none_above : (us ls : List ℕ) (b : Bool) → b ≡ true → (xs : List ℕ) (d : ℕ) → Each (λ x. x ≤ count_limit) xs
    → 1 ≤ d → d ≤ horizon (curves_of (with_mark us ls b)) → ¬ TooMany (curves_of (with_mark us ls b)) d (last xs d)
none_above us ls b e =
    subst⁻¹ (λ (b : Bool). (xs : List ℕ) (d : ℕ) → Each (λ x. x ≤ count_limit) xs
    → 1 ≤ d → d ≤ horizon (curves_of (with_mark us ls b)) → ¬ TooMany (curves_of (with_mark us ls b)) d (last xs d)) e
    (λ xs d c u v q.
    omega (arith, q, highest_at (length us) d u (rw (sym (length-highest (length us))) v), last_within count_limit xs d c))

pub unlimited_never_lost : UnlimitedNeverLost
unlimited_never_lost m x r mark t e =
    let w : MonitorView = monitor_view_of m in
    let f : LegalUnfailed w = answers_unfailed w x lost (sym t.answer ∙ e) (λ z. let k : ◌≡◌ {A = ℕ} 0 1 = cc in omega arith) in
    let (kept, not-kept) = (ruling_iff w x f lost).0 (sym t.answer ∙ e) in
    let h = m.history.horizon in
    let own = closed_own (entries h m.history.upper) (entries h m.history.lower) m.history.unlimited _ mark in
    not-kept (subst⁻¹ (λ (q : Pair). Keeps q (then w.view.held x)) own kept)

pub unlimited_never_too_many : UnlimitedNeverTooMany
unlimited_never_too_many m x d r mark c t e =
    let w : MonitorView = monitor_view_of m in
    let f : LegalUnfailed w =
    answers_unfailed w x (judged (too_many d)) (sym t.answer ∙ e) (λ z. let k : ◌≡◌ {A = ℕ} 0 1 = cc in omega arith) in
    let (shortest, above) = (ruling_iff w x f (judged (too_many d))).0 (sym t.answer ∙ e) in
    let h = m.history.horizon in
    none_above (entries h m.history.upper) (entries h m.history.lower) m.history.unlimited mark (then w.view.held x) d c
    shortest.window_judged.positive shortest.window_judged.within above

-- ---- what passes, and what is sent
-- To keep every window is to have every least.
enough_iff : (us ls : List ℕ) (b : Bool) → b ≡ true → (xs : List ℕ) → Each (λ x. x ≤ count_limit) xs
    → Keeps (curves_of (with_mark us ls b)) xs
    ↔ ((d : ℕ) → Judged (curves_of (with_mark us ls b)) xs d → lower_at (curves_of (with_mark us ls b)) d ≤ last xs d)
enough_iff us ls b e xs c = (
  (λ k d j. omega (arith, (k d j).1)),
  (λ k d j. (none_above us ls b e xs d c j.positive j.within, λ q. omega (arith, q, k d j))),
)

-- A tick passes where it keeps every window of the pair, which stands for the closed figures too.
passes_iff_keeps : (m : Monitor) (x : ℕ) → m.history.unlimited ≡ true → LegalUnfailed (monitor_view_of m)
    → Answers (monitor_view_of m) x (judged passed) ↔ Keeps (curves_of (view_of m.history).pair) (then (view_of m.history).held x)
passes_iff_keeps m x mark f =
    let h = m.history.horizon in
    let own = closed_own (entries h m.history.upper) (entries h m.history.lower) m.history.unlimited _ mark in
    let ruling = ruling_iff (monitor_view_of m) x f (judged passed) in (
      (λ e. (ruling.0 e).0),
      (λ k. ruling.1 (k, subst⁻¹ (λ (q : Pair). Keeps q (then (view_of m.history).held x)) own k)),
    )

pub unlimited_passes_iff_enough : UnlimitedPassesIffEnough
unlimited_passes_iff_enough m x mark f c =
    let h = m.history.horizon in
    Iff.trans (passes_iff_keeps m x mark f)
    (enough_iff (entries h m.history.upper) (entries h m.history.lower) m.history.unlimited mark
    (then (view_of m.history).held x) c)

-- Of an unlimited pair, what is offered is within the limit.
offered_iff : (us ls : List ℕ) (b : Bool) → b ≡ true → (x : ℕ) → Offered (with_mark us ls b) x ↔ (x ≤ figure_limit)
offered_iff us ls b e x = subst⁻¹ (λ (b : Bool). Offered (with_mark us ls b) x ↔ (x ≤ figure_limit)) e Iff.rfl

pub unlimited_sends_iff_passes : UnlimitedSendsIffPasses
unlimited_sends_iff_passes m mark f x =
    let h = m.history.horizon in
    Iff.trans (sends_iff_neither (monitor_view_of m) f x)
    (Iff.and
    (Iff.trans (neither_iff (monitor_view_of m) x f) (Iff.symm (passes_iff_keeps m x mark f)))
    (offered_iff (entries h m.history.upper) (entries h m.history.lower) m.history.unlimited mark x))
