-- Laws over plain variables for what follows from looking at the figures as given and then at the closed ones: the ruling and the next
-- state. Assumes nothing.
use Rattle.std.specs.Prelude.{Result, Ok, Err}
use Rattle.laws.proofs.Base.{ℕ, suc, ◌-◌, ◌≤◌, ◌≡◌, refl, sym, ap, ◌∙◌, subst, Bool, true, false, List, [], ◌∷◌, ◌++◌, arith, length}
use Rattle.laws.proofs.Base.{get_or, take, drop}
use Rattle.laws.specs.Tests.{Each}
use lib.IntN.{ℤ, pos}
use lib.Signed.{◌≤ℤ◌}
use Rattle.curves.specs.Streams.{count_limit}
use Rattle.curves.specs.Pairs.{Pair, pair_of}
use Rattle.curves.specs.Unlimited.{limited, with_mark, curves_of}
use Rattle.curves.specs.Ticks as ticks
use Rattle.curves.specs.Margins.{Margin, Counted, Tightest}
use Rattle.curves.specs.Questions.{result}
use Rattle.curves.proofs.Asked.{same_result}
use Rattle.curves.proofs.Highest.{horizon_with}
use Rattle.curves.proofs.NextTick.{length-then, last_next}
use Rattle.curves.proofs.Verdicts.{verdict?, verdict_is}
use Rattle.curves.proofs.Margins.{tightest_keeps}
use Rattle.bounds.specs.Bounds.{question4}
use Rattle.lists.specs.Pushing.{Pushed}
use Rattle.history.specs.declared.BadState.{BadState}
use Rattle.history.specs.declared.History.{History}
use Rattle.history.specs.States.{View, history_of, view_of, added, Legal, legal?}
use Rattle.history.specs.Steps.{Slices, view_with}
use Rattle.history.proofs.Histories.{entries-take, Sizes, legal_sizes}
use Rattle.history.proofs.Slicing.{Arrays, view_sliced, added_is}
use Rattle.monitor.specs.declared.Monitor.{Monitor}
use Rattle.monitor.specs.declared.Verdict.{Verdict}
use Rattle.monitor.specs.declared.Verdict.TheVariants.{Passed, TooMany, TooFew, Lost, AlreadyFailed}
use Rattle.monitor.specs.declared.windows.Finding.{Finding}
use Rattle.monitor.specs.Monitoring.{MonitorView, monitor_view, closed_in, monitor_of, monitor_view_of, closed_view, LegalMonitor}
use Rattle.monitor.specs.Monitoring.{verdict_on, judged, already_failed, ruled, judging, marked_failed, MonitorNext}
use Rattle.monitor.specs.Margins.{no_margin, carried}
use Rattle.monitor.specs.Promises.{MonitorTicked}
use Rattle.monitor.specs.Answers.{verdict_reply}
use Rattle.monitor.specs.Steps.{margin_as, Fits, FoundOf, unjudged_as, MeasuredOf, GivenOf, ClosedOf}
use Rattle.monitor.proofs.Said.{judging_bad, judging_failed, judging_legal, judging_unfailed, carried_bad, carried_failed, carried_judged}

-- ---- by the figures of one view
-- The counts that a tick is judged with are what it can have.
each_count : (xs : List ℕ) (x : ℕ) → ((i : ℕ) → get_or xs i 0 ≤ count_limit) → x ≤ count_limit
    → Each (λ x. x ≤ count_limit) (ticks.then xs x)
each_count [] x h l = (l, tt)
each_count (y ∷ xs) x h l = (h 0, each_count xs x (λ i. h (suc i)) l)

counted_with : (us ls : List ℕ) (b : Bool) (xs : List ℕ) (x : ℕ) → ((i : ℕ) → get_or xs i 0 ≤ count_limit) → x ≤ count_limit
    → Counted (with_mark us ls b) (ticks.then xs x)
counted_with us ls false xs x h l = tt
counted_with us ls true xs x h l = each_count xs x h l

-- A margin that is not negative tells that the tick passes.
pub measured_inside : (us ls : List ℕ) (b : Bool) (xs : List ℕ) (x : ℕ) → ((i : ℕ) → get_or xs i 0 ≤ count_limit) → x ≤ count_limit
    → (m : Margin) → Tightest (with_mark us ls b) (ticks.then xs x) m → pos 0 ≤ℤ m.value
    → result (judged ticks.passed) ≡ result (judged (verdict_on (view_with us ls b xs) x))
measured_inside us ls b xs x h l m t n =
    let keeps = tightest_keeps (with_mark us ls b) xs x m t (counted_with us ls b xs x h l) n in
    ap (λ v. result (judged v)) (sym (verdict_is (curves_of (with_mark us ls b)) (ticks.then xs x) ticks.passed keeps))

-- A verdict that is answered passes exactly where that does.
answered_passed : (v : Result Verdict BadState) (u : ticks.Verdict) → verdict_reply v ≡ result (judged u) → u ≡ ticks.passed → v ≡ Ok Passed
answered_passed (Ok Passed) u e p = refl
answered_passed (Ok (TooMany d)) u e p = cc
answered_passed (Ok (TooFew d)) u e p = cc
answered_passed (Ok Lost) u e p = cc
answered_passed (Ok AlreadyFailed) u e p = cc
answered_passed (Err r) u e p = cc

passed_answered : (v : Result Verdict BadState) (u : ticks.Verdict) → verdict_reply v ≡ result (judged u) → v ≡ Ok Passed → u ≡ ticks.passed
passed_answered v u e p = let f : result (judged ticks.passed) ≡ result (judged u) = rw p at e in cc

-- Where it passes, it keeps the figures; and where they are those of a legal view with ceilings, its sums fit 32 bits.
measured_keeps : (v : View) (x : ℕ) (r : Finding) → MeasuredOf v x r → r.verdict ≡ Ok Passed
    → ticks.Keeps (curves_of v.pair) (ticks.then v.held x)
measured_keeps v x r m t =
    let p = curves_of v.pair in
    let ys = ticks.then v.held x in
    subst (ticks.Right p ys) (passed_answered r.verdict (verdict_on v x) m.answer t) (verdict? p ys).1

kept_fits : (us ls xs : List ℕ) (x : ℕ) → Legal (view_with us ls false xs) → ticks.Keeps (pair_of us ls) (ticks.then xs x)
    → Fits xs x
kept_fits us ls xs x l K d h =
    let j : ticks.Judged (pair_of us ls) (ticks.then xs x) (suc d) =
    record { positive = omega arith; within = omega (arith, l.fewer); begun = omega (arith, length-then xs x) } in
    omega (arith, (K (suc d) j).0, l.figures.0 (suc d) (omega arith) j.within, last_next xs x d h)

-- ---- question 12 of slices: their sizes are right, so the figures decide
pub legal_slices : (us ls : List ℕ) (b : Bool) (xs : List ℕ) → Slices us ls xs → (question4 (with_mark us ls b)).asked
    → Legal (view_with us ls b xs)
legal_slices us ls b xs S q =
    let h = horizon_with us ls b in
    record {
      lengths = (omega (arith, h, S.fewer), omega (arith, h, S.within));
      figures = q;
      fewer = omega (arith, h, S.fewer);
    }

-- ---- what is found by the figures as given
module _ (v : View) (b : Bool) (x : ℕ) (r : Finding) where
  pub given_refused : ¬ Legal v → r ≡ unjudged_as (Err (record {})) → GivenOf v b x r
  given_refused n e = record { refused = λ _. e; failed = λ l. absurd (n l); measured = λ l. absurd (n l) }

  pub given_failed : Legal v → b ≡ true → r ≡ unjudged_as (Ok AlreadyFailed) → GivenOf v b x r
  given_failed l t e =
      record { refused = λ n. absurd (n l); failed = λ _ _. e; measured = λ _ f. let z : true ≡ false = sym t ∙ f in cc }

  pub given_measured : Legal v → b ≡ false → MeasuredOf v x r → GivenOf v b x r
  given_measured l f m =
      record { refused = λ n. absurd (n l); failed = λ _ t. let z : true ≡ false = sym t ∙ f in cc; measured = λ _ _. m }

-- ---- what is found of a tick
-- Where no window is judged.
unjudged_found : (w : MonitorView) (x : ℕ) (v : Result Verdict BadState) (r : Finding) → r ≡ unjudged_as v → judging w x ≡ verdict_reply v
    → carried w x ≡ no_margin → FoundOf w x r
unjudged_found w x v r is e n = rw is (record { answer = sym e; margin = sym n })

pub bad_found : (w : MonitorView) (x : ℕ) (r : Finding) → r ≡ unjudged_as (Err (record {})) → ¬ LegalMonitor w → FoundOf w x r
bad_found w x r is n = unjudged_found w x (Err (record {})) r is (judging_bad w x n) (carried_bad w x n)

failed_found : (w : MonitorView) (x : ℕ) (r : Finding) → r ≡ unjudged_as (Ok AlreadyFailed) → LegalMonitor w → w.failed ≡ true
    → FoundOf w x r
failed_found w x r is l f = unjudged_found w x (Ok AlreadyFailed) r is (judging_failed w x l f) (carried_failed w x l f)

-- By the figures as given, and by the closed ones.
module _ (w : MonitorView) (x : ℕ) (l : LegalMonitor w) (f : w.failed ≡ false) (given : Finding)
    (G : MeasuredOf w.view x given) where
  abbrev ys : List ℕ
  ys = ticks.then w.view.held x

  abbrev by_given : ticks.Verdict
  by_given = verdict_on w.view x

  abbrev by_closed : ticks.Verdict
  by_closed = verdict_on (closed_view w) x

  -- With a verdict that is the ruling of the two.
  ruled_found : (v : Result Verdict BadState) → verdict_reply v ≡ result (ruled by_given by_closed)
      → FoundOf w x (record { verdict = v; margin = given.margin })
  ruled_found v e =
      record { answer = e ∙ sym (judging_unfailed w x l f); margin = carried_judged w x l f (margin_as given.margin) G.margin }

  -- The verdict by the first is the ruling where the tick does not pass by them, and where it keeps the closed ones, too.
  pub stays_found : (given.verdict ≡ Ok Passed → ticks.Keeps w.closed ys) → FoundOf w x given
  stays_found k = ruled_found given.verdict (G.answer ∙ ap result (go by_given G.answer))
    where
      go : (u : ticks.Verdict) → verdict_reply given.verdict ≡ result (judged u) → judged u ≡ ruled u by_closed
      go ticks.passed e =
          ap (ruled ticks.passed) (sym (verdict_is w.closed ys ticks.passed (k (answered_passed given.verdict ticks.passed e refl))))
      go (ticks.too_many d) e = refl
      go (ticks.too_few d) e = refl

  -- Where it passes by them and does not keep the closed ones, it is lost.
  pub lost_found : given.verdict ≡ Ok Passed → ¬ ticks.Keeps w.closed ys → FoundOf w x (record { verdict = Ok Lost; margin = given.margin })
  lost_found t n =
      ruled_found (Ok Lost)
      (go by_closed (verdict? w.closed ys).1
      ∙ ap (λ u. result (ruled u by_closed)) (sym (passed_answered given.verdict by_given G.answer t)))
    where
      go : (u : ticks.Verdict) → ticks.Right w.closed ys u → verdict_reply (Ok Lost) ≡ result (ruled ticks.passed u)
      go ticks.passed k = absurd (n k)
      go (ticks.too_many d) k = refl
      go (ticks.too_few d) k = refl

-- Whether a tick keeps figures can be told, since there is a right verdict.
keeps? : (p : Pair) (ys : List ℕ) → Dec (ticks.Keeps p ys)
keeps? p ys = go (verdict? p ys).0 (verdict? p ys).1
  where
    go : (u : ticks.Verdict) → ticks.Right p ys u → Dec (ticks.Keeps p ys)
    go ticks.passed K = yes K
    go (ticks.too_many d) R = no (λ K. R.0.outside (K d R.0.window_judged))
    go (ticks.too_few d) R = no (λ K. R.0.outside (K d R.0.window_judged))

-- ---- by slices: without ceilings the figures as given are all that count
module _ (us ls xs : List ℕ) (f : Bool) (x : ℕ) (given : Finding) where
  unlimited_found : GivenOf (view_with us ls true xs) f x given
      → FoundOf (monitor_view (view_with us ls true xs) (curves_of (with_mark us ls true)) f) x given
  unlimited_found g = go f refl (legal? v)
    where
      v : View
      v = view_with us ls true xs

      w : Bool → MonitorView
      w f = monitor_view v (curves_of (with_mark us ls true)) f

      go : (t : Bool) → f ≡ t → Dec (Legal v) → FoundOf (w t) x given
      go t e (no n) = bad_found (w t) x given (g.refused n) (λ L. n L.given)
      go true e (yes l) = failed_found (w true) x given (g.failed l e) (record { given = l; bounded = l.figures }) refl
      go false e (yes l) =
          let m : MeasuredOf v x given = g.measured l e in
          stays_found (w false) x (record { given = l; bounded = l.figures }) refl given m (measured_keeps v x given m)

  -- With ceilings the closed ones are asked about, and kept, too.
  limited_found : (p : Pair) (r : Finding) → GivenOf (view_with us ls false xs) f x given → ClosedOf given p (ticks.then xs x) r
      → FoundOf (monitor_view (view_with us ls false xs) p f) x r
  limited_found p r g c = go f refl (legal? v) (question4 (limited p)).answered
    where
      v : View
      v = view_with us ls false xs

      w : Bool → MonitorView
      w f = monitor_view v p f

      unpassed : (v : Result Verdict BadState) → ¬ (v ≡ Ok Passed) → (question4 (limited p)).asked → given ≡ unjudged_as v
          → r ≡ unjudged_as v
      unpassed v n q e = c.stays q (λ t. absurd (n (sym (ap (λ g. g.verdict) e) ∙ t))) ∙ e

      closed_found : (l : LegalMonitor (w false)) → MeasuredOf v x given → FoundOf (w false) x r
      closed_found l m =
          elim (keeps? p (ticks.then xs x)) [
            | yes K ↦ stays (λ _. K)
            | no n ↦ unkept n (verdict_on v x) m.answer
          ]
        where
          stays : (given.verdict ≡ Ok Passed → ticks.Keeps p (ticks.then xs x)) → FoundOf (w false) x r
          stays k = rw (c.stays l.bounded k) (stays_found (w false) x l refl given m k)

          unkept : ¬ ticks.Keeps p (ticks.then xs x) → (u : ticks.Verdict) → verdict_reply given.verdict ≡ result (judged u)
              → FoundOf (w false) x r
          unkept n ticks.passed e =
              let t : given.verdict ≡ Ok Passed = answered_passed given.verdict ticks.passed e refl in
              rw (c.lost l.bounded t n) (lost_found (w false) x l refl given m t n)
          unkept n (ticks.too_many d) e = stays (λ t. let z = passed_answered given.verdict (ticks.too_many d) e t in cc)
          unkept n (ticks.too_few d) e = stays (λ t. let z = passed_answered given.verdict (ticks.too_few d) e t in cc)

      go : (t : Bool) → f ≡ t → Dec (Legal v) → Dec (question4 (limited p)).asked → FoundOf (w t) x r
      go t e d (no n) = bad_found (w t) x r (c.refused n) (λ L. n L.bounded)
      go t e (no n) (yes q) = bad_found (w t) x r (unpassed (Err (record {})) (λ z. cc) q (g.refused n)) (λ L. n L.given)
      go true e (yes l) (yes q) =
          failed_found (w true) x r (unpassed (Ok AlreadyFailed) (λ z. cc) q (g.failed l e)) (record { given = l; bounded = q }) refl
      go false e (yes l) (yes q) = closed_found (record { given = l; bounded = q }) (g.measured l e)

  -- Where the tick passes by the figures as given, no sum is above them.
  limited_fits : GivenOf (view_with us ls false xs) f x given → given.verdict ≡ Ok Passed → Fits xs x
  limited_fits g t = go f refl (legal? (view_with us ls false xs))
    where
      go : (b : Bool) → f ≡ b → Dec (Legal (view_with us ls false xs)) → Fits xs x
      go b e (no n) = let z = sym (ap (λ (q : Finding). q.verdict) (g.refused n)) ∙ t in absurd cc
      go true e (yes l) = let z = sym (ap (λ (q : Finding). q.verdict) (g.failed l e)) ∙ t in absurd cc
      go false e (yes l) = kept_fits us ls xs x l (measured_keeps (view_with us ls false xs) x given (g.measured l e) t)

-- The same by the mark.
module _ (us ls xs : List ℕ) (b f : Bool) (x : ℕ) (given : Finding) where
  abbrev Given : Bool → Type 0
  Given b = GivenOf (view_with us ls b xs) f x given

  abbrev Found : Pair → Finding → Bool → Type 0
  Found q r b = FoundOf (monitor_view (view_with us ls b xs) (closed_in (with_mark us ls b) q) f) x r

  pub found_unlimited : (q : Pair) → b ≡ true → Given b → Found q given b
  found_unlimited q e = rw e (unlimited_found us ls xs f x given)

  pub found_limited : (q : Pair) (r : Finding) → b ≡ false → Given b → ClosedOf given q (ticks.then xs x) r → Found q r b
  found_limited q r e = rw e (limited_found us ls xs f x given q r)

  pub fits_limited : b ≡ false → Given b → given.verdict ≡ Ok Passed → Fits xs x
  fits_limited e = rw e (limited_fits us ls xs f x given)

-- ---- of a state
-- What its arrays have in their first entries is its view.
module _ (m : Monitor) (a : Arrays m.history) (u : m.history.horizon ≤ length m.closed_upper)
    (l : m.history.horizon ≤ length m.closed_lower) (z : Sizes m.history) (x : ℕ) (r : Finding) where
  abbrev first : List ℕ → List ℕ
  first xs = take m.history.horizon xs

  abbrev cut : View
  cut = view_with (first m.history.upper) (first m.history.lower) m.history.unlimited (take m.history.held m.history.ticks)

  pub cut_found : (us ls cus cls : List ℕ) (b : Bool) → us ≡ first m.history.upper → ls ≡ first m.history.lower → b ≡ m.history.unlimited
      → cus ≡ first m.closed_upper → cls ≡ first m.closed_lower → let v : View = view_with us ls b (take m.history.held m.history.ticks) in
      FoundOf (monitor_view v (closed_in v.pair (pair_of cus cls)) m.failed) x r → FoundOf (monitor_view_of m) x r
  cut_found us ls cus cls b e e' f g g' = rw (e, e', f, g, g') (subst (λ w. FoundOf w x r) same)
    where
      same : monitor_view cut (closed_in cut.pair (pair_of (first m.closed_upper) (first m.closed_lower))) m.failed ≡ monitor_view_of m
      same i =
          let v = sym (view_sliced m.history a z) in
          monitor_view (v i) (closed_in (v i).pair (pair_of (sym (entries-take m.history.horizon m.closed_upper u) i)
          (sym (entries-take m.history.horizon m.closed_lower l) i))) m.failed

-- Where its sizes are not those of a legal history, question 12 is answered no.
pub sizes_found : (m : Monitor) (x : ℕ) (r : Finding) → r ≡ unjudged_as (Err (record {})) → ¬ Sizes m.history
    → FoundOf (monitor_view_of m) x r
sizes_found m x r e n = bad_found (monitor_view_of m) x r e (λ L. n (legal_sizes m.history L.given))

-- ---- the next state
-- The mark is set where a tick has failed before.
failed_told : (w : MonitorView) (x : ℕ) → judging w x ≡ result already_failed → w.failed ≡ true
failed_told w x e = go w.failed refl
  where
    none : (u u' : ticks.Verdict) → ¬ (ruled u u' ≡ already_failed)
    none ticks.passed ticks.passed q = cc
    none ticks.passed (ticks.too_many d) q = cc
    none ticks.passed (ticks.too_few d) q = cc
    none (ticks.too_many d) u' q = cc
    none (ticks.too_few d) u' q = cc

    go : (b : Bool) → w.failed ≡ b → b ≡ true
    go true f = refl
    go false f =
        let found = sym (judging_unfailed w x (judging_legal w x already_failed e) f) ∙ e in
        absurd (none (verdict_on w.view x) (verdict_on (closed_view w) x) (same_result _ _ found))

-- The state that is put together, with so many ticks held in `left`, and a mark.
abbrev next_with : Monitor → List ℕ → ℕ × Bool → Monitor
next_with m left (n, b) =
    let h : History = m.history in
    monitor_of (history_of h.horizon h.upper h.lower h.unlimited n left) m.closed_upper m.closed_lower b

module _ (m : Monitor) (x : ℕ) (r : Finding) (F : FoundOf (monitor_view_of m) x r) where
  abbrev Next : Monitor → Type 0
  Next next = MonitorNext (judging (monitor_view_of m) x) m x next

  -- With it, and with a margin that is read from its bits.
  pub ticked : (z : ℤ) (next : Monitor) → z ≡ r.margin.value → Next next
      → MonitorTicked m x (record { verdict = r.verdict; margin = z; window = r.margin.window; next = next })
  ticked z next e n =
      record { answer = F.answer; margin = ap (λ z. record { value = z; window = r.margin.window }) e ∙ F.margin; next = n }

  ruled_next : (v : Result Verdict BadState) (next : Monitor) → r.verdict ≡ v → MonitorNext (verdict_reply v) m x next → Next next
  ruled_next v next e n = subst (λ q. MonitorNext q m x next) (ap verdict_reply (sym e) ∙ F.answer) n

  -- A tick that passed is put behind the others.
  pub passed_next : Arrays m.history → (left front : List ℕ) (n : ℕ) (held : ℕ × Bool) → r.verdict ≡ Ok Passed
      → Pushed (take (m.history.horizon - 1) m.history.ticks) m.history.held x front n
      → left ≡ front ++ drop (m.history.horizon - 1) m.history.ticks → held ≡ (n, false) → Next (next_with m left held)
  passed_next a left front n held e p f g =
      let h : History = m.history in
      let L = judging_legal (monitor_view_of m) x (judged ticks.passed) (sym F.answer ∙ ap verdict_reply e) in
      let shown : view_of (history_of h.horizon h.upper h.lower h.unlimited n left) ≡ added (view_of h) x =
      ap (λ (ys : List ℕ). view_of (history_of h.horizon h.upper h.lower h.unlimited n ys)) f
      ∙ added_is h a (legal_sizes h L.given) x front n p in
      rw g (ruled_next (Ok Passed) _ e (ap (λ (v : View). monitor_view v (monitor_view_of m).closed false) shown))

  -- Else they stay as they were: one that is rejected sets the mark, and a bad state stays as it is.
  as_found : (left : List ℕ) (held : ℕ × Bool) (b : Bool) → left ≡ m.history.ticks → held ≡ (m.history.held, b)
      → next_with m left held ≡ monitor_of m.history m.closed_upper m.closed_lower b
  as_found left held b e f = λ i. next_with m (e i) (f i)

  pub rejected_next : (v : Verdict) (left : List ℕ) (held : ℕ × Bool) → r.verdict ≡ Ok v → ¬ (v ≡ Passed) → left ≡ m.history.ticks
      → held ≡ (m.history.held, true) → Next (next_with m left held)
  rejected_next v left held e n f g = ruled_next (Ok v) _ e (go v e n)
    where
      same : next_with m left held ≡ marked_failed m
      same = as_found left held true f g

      go : (v : Verdict) → r.verdict ≡ Ok v → ¬ (v ≡ Passed) → MonitorNext (verdict_reply (Ok v)) m x (next_with m left held)
      go Passed e n = absurd (n refl)
      go (TooMany d) e n = same
      go (TooFew d) e n = same
      go Lost e n = same
      go AlreadyFailed e n =
          let f = failed_told (monitor_view_of m) x (sym F.answer ∙ ap verdict_reply e) in
          same ∙ (λ i. monitor_of m.history m.closed_upper m.closed_lower (sym f i))

  pub refused_next : (b : BadState) (left : List ℕ) (held : ℕ × Bool) → r.verdict ≡ Err b → left ≡ m.history.ticks
      → held ≡ (m.history.held, m.failed) → Next (next_with m left held)
  refused_next b left held e f g = ruled_next (Err b) _ e (as_found left held m.failed f g)
