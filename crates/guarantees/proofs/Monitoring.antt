-- Demand 2 and request P2, the monitor over a whole stream: what it says of the stream, and that nothing passes after a rejected tick.
-- Assumes nothing.
use Rattle.laws.proofs.Base.{ℕ, ◌-◌, ◌≡◌, refl, sym, ap, ◌∙◌, true, false, List, [], ◌∷◌, ◌++◌, append_assoc, append-nil}
use Rattle.laws.proofs.Base.{◌↔◌, ◌⊎◌, inl, inr, ⊎_elim, arith}
use mathlib.Core.Logic.Iff
use Rattle.laws.specs.Tests.{Each}
use Rattle.laws.proofs.Tests.{each_map}
use Rattle.curves.specs.Pairs.{Pair, horizon}
use Rattle.curves.specs.Unlimited.{AnyPair, curves_of, alike}
use Rattle.curves.specs.Conformance.{Conforms}
use Rattle.curves.specs.Ticks.{then, newest, Keeps, passed, too_many, too_few}
use Rattle.curves.specs.Questions.{AllYes, Reply, result}
use Rattle.curves.proofs.NextTick.{conforms_start, conforms_keeps, keeps_conforms}
use Rattle.curves.proofs.Verdicts.{keeps_newest, right_newest}
use Rattle.bounds.specs.Bounds.{question4, pair_questions}
use Rattle.bounds.proofs.Said.{asking_yes}
use Rattle.history.specs.States.{View}
use Rattle.history.specs.Opening.{fresh}
use Rattle.monitor.specs.Monitoring.{MonitorView, monitor_view, LegalMonitor, Ruling, judged, lost, already_failed, ruling_on, judging}
use Rattle.monitor.specs.Calls.{after_tick, after_ticks, rulings}
use Rattle.monitor.proofs.Said.{judging_failed, judging_unfailed, monitor_next}
use Rattle.guarantees.specs.Exact.{Answers, TicksAreRulings, EqualMonitorsAgree}
use Rattle.guarantees.proofs.Held.{held_of, held_fresh, held_added, held_legal}
use Rattle.guarantees.proofs.Rulings.{RightRuling, ruling_iff}

abbrev pub IsPassed : Reply Ruling → Type 0
IsPassed r = r ≡ result (judged passed)

abbrev pub NotLost : Reply Ruling → Type 0
NotLost r = ¬ (r ≡ result lost)

abbrev pub IsAnswered : Reply Ruling → Type 0
IsAnswered a = (r : Ruling) × (a ≡ result r)

-- A monitor that has failed stays so.
abbrev pub AllFailed : MonitorView → List ℕ → Type 0
AllFailed w xs = Each (λ r. r ≡ result already_failed) (rulings w xs)

failed_stays : (w : MonitorView) → LegalMonitor w → w.failed ≡ true → (xs : List ℕ) → AllFailed w xs
unfolding rulings
failed_stays w l f [] = tt
failed_stays w l f (x ∷ xs) = let e = judging_failed w x l f in (e, rw e (failed_stays w l f xs))

failed_not_lost : (r : Reply Ruling) → r ≡ result already_failed → NotLost r
failed_not_lost r f e = let z : ◌≡◌ {A = ℕ} 0 1 = cc in omega arith

-- ---- a monitor of the pair p with the closed figures q, of one horizon
module _ (p : AnyPair) (q : Pair) (ys : AllYes (pair_questions p)) (bound : (question4 (alike p q)).asked)
    (same : horizon q ≡ horizon (curves_of p)) where
  abbrev c : Pair
  c = curves_of p

  -- After the stream xs, none of it rejected.
  abbrev pub after : List ℕ → MonitorView
  after xs = monitor_view (held_of p xs) q false

  pub start : monitor_view (fresh p) q false ≡ after []
  start = ap (λ (v : View). monitor_view v q false) (held_fresh p)

  pub legal : (xs : List ℕ) → LegalMonitor (after xs)
  legal xs = record { given = held_legal p (sym (asking_yes p ys)) xs; bounded = bound }

  -- The last ticks are as good as the whole stream.
  pub keeps_whole : (xs : List ℕ) (x : ℕ) → Keeps c (then (newest (horizon c - 1) xs) x) ↔ Keeps c (then xs x)
  keeps_whole xs x = keeps_newest c (horizon c - 1) xs (omega arith) x

  keeps_closed : (xs : List ℕ) (x : ℕ) → Keeps q (then (newest (horizon c - 1) xs) x) ↔ Keeps q (then xs x)
  keeps_closed xs x = keeps_newest q (horizon c - 1) xs (omega (arith, same)) x

  right_of_newest : (xs : List ℕ) (x : ℕ) (r : Ruling)
      → RightRuling c q (then (newest (horizon c - 1) xs) x) r ↔ RightRuling c q (then xs x) r
  right_of_newest xs x (judged passed) = Iff.and (keeps_whole xs x) (keeps_closed xs x)
  right_of_newest xs x (judged (too_many d)) = right_newest c (horizon c - 1) xs (omega arith) x (too_many d)
  right_of_newest xs x (judged (too_few d)) = right_newest c (horizon c - 1) xs (omega arith) x (too_few d)
  right_of_newest xs x lost = Iff.and (keeps_whole xs x) (Iff.not (keeps_closed xs x))
  right_of_newest xs x already_failed = Iff.rfl

  -- Its next tick.
  module _ (w : MonitorView) (xs : List ℕ) (s : w ≡ after xs) (x : ℕ) where
    pub right_of_all : (r : Ruling) → Answers w x r ↔ RightRuling c q (then xs x) r
    right_of_all r =
        rw s (Iff.trans (ruling_iff (after xs) x (record { legal = legal xs; mark = refl }) r) (right_of_newest xs x r))

    tick_on : IsPassed (judging w x) → after_tick w x ≡ after (then xs x)
    tick_on e = rw (e, s) (ap (λ (v : View). monitor_view v q false) (held_added p xs x))

    -- It passes, or the monitor has failed for good.
    ruling_is : Answers w x (ruling_on (after xs) x)
    ruling_is = rw s (judging_unfailed (after xs) x (legal xs) refl)

    failed_on : (zs : List ℕ) → AllFailed (monitor_view (held_of p xs) q true) zs
    failed_on zs = failed_stays _ (record { given = (legal xs).given; bounded = (legal xs).bounded }) refl zs

    passed_or_failed : (r : Ruling) → Answers w x r → IsPassed (judging w x) ⊎ ((zs : List ℕ) → AllFailed (after_tick w x) zs)
    passed_or_failed (judged passed) e = inl e
    passed_or_failed (judged (too_many d)) e = inr (λ zs. rw (e, s) (failed_on zs))
    passed_or_failed (judged (too_few d)) e = inr (λ zs. rw (e, s) (failed_on zs))
    passed_or_failed lost e = inr (λ zs. rw (e, s) (failed_on zs))
    passed_or_failed already_failed e = absurd ((right_of_all already_failed).0 e)

    pub passes_or_fails : IsPassed (judging w x) ⊎ ((zs : List ℕ) → AllFailed (after_tick w x) zs)
    passes_or_fails = passed_or_failed (ruling_on (after xs) x) ruling_is

  -- The stream conforms to both pairs.
  abbrev pub ConformsBoth : List ℕ → Type 0
  ConformsBoth xs = Conforms c xs × Conforms q xs

  -- From the stream ys on: while every tick passes, the stream conforms, and the monitor holds the stream's last ticks.
  pub pass_iff : (w : MonitorView) (ys xs : List ℕ) → w ≡ after ys → ConformsBoth ys
      → ConformsBoth (ys ++ xs) ↔ Each IsPassed (rulings w xs)
  unfolding rulings
  pass_iff w ys [] s k = (λ _. tt, λ _. rw append-nil k)
  pass_iff w ys (x ∷ xs) s k₀ =
      let right = right_of_all w ys s x (judged passed) in
      let on
      : ConformsBoth (then ys x) → IsPassed (judging w x)
      → ConformsBoth (then ys x ++ xs) ↔ Each IsPassed (rulings (after_tick w x) xs) =
      λ c' e. pass_iff (after_tick w x) (then ys x) xs (tick_on w ys s x e) c' in
      rw (← append_assoc ys (x ∷ []) xs) (
        λ all.
            let c' : ConformsBoth (then ys x) = (conforms_start c (then ys x) xs all.0, conforms_start q (then ys x) xs all.1) in
            let e = right.1 (conforms_keeps c (then ys x) c'.0, conforms_keeps q (then ys x) c'.1) in
            (e, (on c' e).0 all),
        λ es.
            let k = right.0 es.0 in
            (on (keeps_conforms c ys x k₀.0 k.0, keeps_conforms q ys x k₀.1 k.1) es.0).1 es.1,
      )

  pub after_passing : (w : MonitorView) (ys xs : List ℕ) → w ≡ after ys → Each IsPassed (rulings w xs) → after_ticks w xs ≡ after (ys ++ xs)
  unfolding rulings after_ticks
  after_passing w ys [] s es = s ∙ ap after (sym (append-nil ys))
  after_passing w ys (x ∷ xs) s es =
      rw (← append_assoc ys (x ∷ []) xs) (after_passing (after_tick w x) (then ys x) xs (tick_on w ys s x es.0) es.1)

  -- A tick that is not passed sets the mark.
  pub failed_after : (w : MonitorView) (ys xs : List ℕ) (x : ℕ) → w ≡ after ys → Each IsPassed (rulings w xs)
      → (¬ Each IsPassed (rulings w (then xs x))) → (zs : List ℕ) → AllFailed (after_ticks w (then xs x)) zs
  unfolding rulings after_ticks
  failed_after w ys [] x s es n zs = ⊎_elim (λ e. absurd (n (e, tt))) (λ f. f zs) (passes_or_fails w ys s x)
  failed_after w ys (y ∷ xs) x s es n zs =
      failed_after (after_tick w y) (then ys y) xs x (tick_on w ys s y es.0) es.1 (λ fs. n (es.0, fs)) zs

  -- No tick is refused: it passes, or the monitor has failed for good.
  pub answered_all : (w : MonitorView) (ys xs : List ℕ) → w ≡ after ys → Each IsAnswered (rulings w xs)
  unfolding rulings
  answered_all w ys [] s = tt
  answered_all w ys (x ∷ xs) s = (
    (ruling_on (after ys) x, ruling_is w ys s x),
    ⊎_elim
        (λ e. answered_all (after_tick w x) (then ys x) xs (tick_on w ys s x e))
        (λ f. each_map (λ r. r ≡ result already_failed) IsAnswered (rulings (after_tick w x) xs) (λ r e. (already_failed, e)) (f xs))
        (passes_or_fails w ys s x),
  )

  -- Where every stream that conforms to p conforms to q, nothing is lost.
  pub never_lost : ((zs : List ℕ) → Conforms c zs → Conforms q zs) → (w : MonitorView) (ys xs : List ℕ) → w ≡ after ys → Conforms c ys
      → Each NotLost (rulings w xs)
  unfolding rulings
  never_lost closed w ys [] s k = tt
  never_lost closed w ys (x ∷ xs) s k₀ =
      let passed_is = right_of_all w ys s x (judged passed) in (
        (λ e.
            let (k, n) = (right_of_all w ys s x lost).0 e in
            n (conforms_keeps q (then ys x) (closed (then ys x) (keeps_conforms c ys x k₀ k)))),
        ⊎_elim
            (λ e. never_lost closed (after_tick w x) (then ys x) xs (tick_on w ys s x e) (keeps_conforms c ys x k₀ (passed_is.0 e).0))
            (λ f. each_map (λ r. r ≡ result already_failed) NotLost (rulings (after_tick w x) xs) failed_not_lost (f xs))
            (passes_or_fails w ys s x),
      )

-- ---- only the view of a state has an effect
pub ticks_are_rulings : TicksAreRulings
unfolding rulings
ticks_are_rulings m [] t = refl
ticks_are_rulings m (t ∷ ts) (a, b) = cc (ticks_are_rulings t.judgement.next ts b, monitor_next m t.count t.judgement a)

pub equal_monitors_agree : EqualMonitorsAgree
equal_monitors_agree m m' x r r' e t t' = (cc, cc, cc (monitor_next m x r t, monitor_next m' x r' t'))
