-- Lists of ticks in pieces: what the ticks of two lists, one after the other, are answered, and what stays of a view after ticks.
-- Assumes nothing.
use Rattle.laws.proofs.Base.{ℕ, suc, ◌-◌, ◌≤◌, ◌<◌, ◌≡◌, refl, sym, ap, ◌∙◌, subst, true, List, [], ◌∷◌, ◌++◌}
use Rattle.laws.proofs.Base.{arith, length, le_refl}
use Rattle.curves.specs.Pairs.{Pair, horizon}
use Rattle.curves.specs.Unlimited.{AnyPair, curves_of, alike}
use Rattle.curves.specs.Ticks.{then, passed, too_many, too_few}
use Rattle.curves.specs.Questions.{Reply, result, refusal}
use Rattle.curves.proofs.NextTick.{length-then}
use Rattle.curves.proofs.Verdicts.{length-newest}
use Rattle.bounds.specs.Bounds.{question1, question4}
use Rattle.history.specs.States.{View, view_of, added, Legal}
use Rattle.monitor.specs.Monitoring.{MonitorView, monitor_view, monitor_view_of, Ruling, judged, lost, already_failed, LegalMonitor, judging}
use Rattle.monitor.specs.Margins.{carried}
use Rattle.monitor.specs.Calls.{monitor_after, after_tick, after_ticks, rulings, margins}
use Rattle.monitor.proofs.Said.{judging_failed}
use Rattle.generator.specs.Generating.{sending}
use Rattle.generator.specs.Calls.{view_after, sendings, after_sendings}
use Rattle.scripts.specs.Words.{history_from, monitor_from, LegalGeneratorWords, LegalMonitorWords, word, with_held, monitor_left}
use Rattle.scripts.proofs.Worded.{held_view, held-length, held_held, left_view, left_length, left_left, failed_mark}

-- ---- two lists, one after the other
pub after-append : (w : MonitorView) (xs ys : List ℕ) → after_ticks w (xs ++ ys) ≡ after_ticks (after_ticks w xs) ys
unfolding after_ticks
after-append w [] ys = refl
after-append w (x ∷ xs) ys = after-append (after_tick w x) xs ys

pub rulings-append : (w : MonitorView) (xs ys : List ℕ) → rulings w (xs ++ ys) ≡ rulings w xs ++ rulings (after_ticks w xs) ys
unfolding rulings after_ticks
rulings-append w [] ys = refl
rulings-append w (x ∷ xs) ys = ap (λ rs. judging w x ∷ rs) (rulings-append (after_tick w x) xs ys)

pub margins-append : (w : MonitorView) (xs ys : List ℕ) → margins w (xs ++ ys) ≡ margins w xs ++ margins (after_ticks w xs) ys
unfolding margins after_ticks
margins-append w [] ys = refl
margins-append w (x ∷ xs) ys = ap (λ ms. carried w x ∷ ms) (margins-append (after_tick w x) xs ys)

pub sendings-append : (v : View) (xs ys : List ℕ) → sendings v (xs ++ ys) ≡ sendings v xs ++ sendings (after_sendings v xs) ys
unfolding sendings after_sendings
sendings-append v [] ys = refl
sendings-append v (x ∷ xs) ys = ap (λ rs. sending v x ∷ rs) (sendings-append (view_after (sending v x) v) xs ys)

pub sent-append : (v : View) (xs ys : List ℕ) → after_sendings v (xs ++ ys) ≡ after_sendings (after_sendings v xs) ys
unfolding after_sendings
sent-append v [] ys = refl
sent-append v (x ∷ xs) ys = sent-append (view_after (sending v x) v) xs ys

-- As many answers as ticks.
pub rulings-length : (w : MonitorView) (xs : List ℕ) → length (rulings w xs) ≡ length xs
unfolding rulings
rulings-length w [] = refl
rulings-length w (x ∷ xs) = ap suc (rulings-length (after_tick w x) xs)

pub margins-length : (w : MonitorView) (xs : List ℕ) → length (margins w xs) ≡ length xs
unfolding margins
margins-length w [] = refl
margins-length w (x ∷ xs) = ap suc (margins-length (after_tick w x) xs)

pub sendings-length : (v : View) (xs : List ℕ) → length (sendings v xs) ≡ length xs
unfolding sendings
sendings-length v [] = refl
sendings-length v (x ∷ xs) = ap suc (sendings-length (view_after (sending v x) v) xs)

-- ---- what stays of a view
-- The pair; no fewer ticks are held, and still fewer than the horizon.
pub record Holds (v v' : View) : Type 0 where
  pub pairs : v'.pair ≡ v.pair
  pub more : length v.held ≤ length v'.held
  pub few : length v'.held < horizon (curves_of v.pair)

pub holds_self : (v : View) → Legal v → Holds v v
holds_self v l = record { pairs = refl; more = le_refl _; few = l.fewer }

pub holds_added : (v : View) (x : ℕ) → Legal v → Holds v (added v x)
holds_added v x l =
    let n : length (added v x).held ≡ suc (length v.held) - (suc (length v.held) - (horizon (curves_of v.pair) - 1)) =
    length-newest (horizon (curves_of v.pair) - 1) (then v.held x) ∙ rw (length-then v.held x) in
    record { pairs = refl; more = omega (arith, n, l.fewer); few = omega (arith, n, l.fewer) }

holds_legal : (v v' : View) → Legal v → Holds v v' → Legal v'
holds_legal v v' l h =
    record {
      lengths = subst (λ p. (question1 p).asked) (sym h.pairs) l.lengths;
      figures = subst (λ p. (question4 p).asked) (sym h.pairs) l.figures;
      fewer = subst (λ p. length v'.held < horizon (curves_of p)) (sym h.pairs) h.few;
    }

holds_on : (u v w : View) → Holds u v → Holds v w → Holds u w
holds_on u v w h k =
    record {
      pairs = k.pairs ∙ h.pairs;
      more = omega (arith, h.more, k.more);
      few = subst (λ p. length w.held < horizon (curves_of p)) h.pairs k.few;
    }

-- After a list of choices.
holds_sent : (v : View) (r : Reply ℕ) → Legal v → Holds v (view_after r v)
holds_sent v (result x) l = holds_added v x l
holds_sent v (refusal n) l = holds_self v l

pub holds_sendings : (v : View) (xs : List ℕ) → Legal v → Holds v (after_sendings v xs)
unfolding after_sendings
holds_sendings v [] l = holds_self v l
holds_sendings v (x ∷ xs) l =
    let h = holds_sent v (sending v x) l in
    holds_on v _ _ h (holds_sendings (view_after (sending v x) v) xs (holds_legal v _ l h))

-- Of a monitor also the closed figures, and the failed mark where it is set.
pub record Stays (w w' : MonitorView) : Type 0 where
  pub holds : Holds w.view w'.view
  pub figures : w'.closed ≡ w.closed
  pub fails : w.failed ≡ true → w'.failed ≡ true

stays_after : (w : MonitorView) (x : ℕ) (r : Reply Ruling) → LegalMonitor w → judging w x ≡ r → Stays w (monitor_after r w x)
stays_after w x (result (judged passed)) l e =
    record {
      holds = holds_added w.view x l.given;
      figures = refl;
      fails = λ f. let z : ◌≡◌ {A = ℕ} 0 1 = cc (e, judging_failed w x l f) in absurd (omega arith);
    }
stays_after w x (result (judged (too_many d))) l e = record { holds = holds_self w.view l.given; figures = refl; fails = λ _. refl }
stays_after w x (result (judged (too_few d))) l e = record { holds = holds_self w.view l.given; figures = refl; fails = λ _. refl }
stays_after w x (result lost) l e = record { holds = holds_self w.view l.given; figures = refl; fails = λ _. refl }
stays_after w x (result already_failed) l e = record { holds = holds_self w.view l.given; figures = refl; fails = λ f. f }
stays_after w x (refusal n) l e = record { holds = holds_self w.view l.given; figures = refl; fails = λ f. f }

pub stays_legal : (w w' : MonitorView) → LegalMonitor w → Stays w w' → LegalMonitor w'
stays_legal w w' l s =
    record {
      given = holds_legal w.view w'.view l.given s.holds;
      bounded = bounds (sym s.holds.pairs) (sym s.figures) l.bounded;
    }
  where
    bounds : {p p' : AnyPair} {q q' : Pair} → p ≡ p' → q ≡ q' → (question4 (alike p q)).asked → (question4 (alike p' q')).asked
    bounds {p} {p'} {q} {q'} e f b = subst (λ z. (question4 (alike z q')).asked) e (subst (λ z. (question4 (alike p z)).asked) f b)

pub stays_ticks : (w : MonitorView) (xs : List ℕ) → LegalMonitor w → Stays w (after_ticks w xs)
unfolding after_ticks
stays_ticks w [] l = record { holds = holds_self w.view l.given; figures = refl; fails = λ f. f }
stays_ticks w (x ∷ xs) l =
    let s = stays_after w x (judging w x) l refl in
    let t = stays_ticks (after_tick w x) xs (stays_legal w (after_tick w x) l s) in
    record {
      holds = holds_on w.view (after_tick w x).view _ s.holds t.holds;
      figures = t.figures ∙ s.figures;
      fails = λ f. t.fails (s.fails f);
    }

-- ---- the words that ticks leave
module _ (ws : List ℕ) (l : LegalMonitorWords ws) (xs : List ℕ) where
  abbrev given : MonitorView
  given = monitor_view_of (monitor_from ws)

  abbrev after : MonitorView
  after = after_ticks given xs

  stays : Stays given after
  stays = stays_ticks given xs l.1

  pub after_few : length after.view.held ≤ 256
  after_few = omega (arith, stays.holds.few, l.1.given.lengths.1)

  -- They spell the view that the ticks leave, and are legal.
  pub after_view : monitor_view_of (monitor_from (monitor_left ws after)) ≡ after
  after_view =
      left_view ws after l.0 after_few
      ∙ (λ i. monitor_view
      (record { pair = sym stays.holds.pairs i; held = after.view.held }) (sym stays.figures i)
      (failed_mark (word 1_283 ws) after.failed stays.fails i))

  pub after_legal : LegalMonitorWords (monitor_left ws after)
  after_legal = (
    left_length ws after l.0 after_few,
    subst LegalMonitor (sym after_view) (stays_legal given after l.1 stays),
  )

  -- More ticks leave the words that all of them leave.
  pub after_more : (ys : List ℕ)
      → monitor_left (monitor_left ws after) (after_ticks (monitor_view_of (monitor_from (monitor_left ws after))) ys)
      ≡ monitor_left ws (after_ticks given (xs ++ ys))
  after_more ys =
      ap (λ u. monitor_left (monitor_left ws after) (after_ticks u ys)) after_view
      ∙ left_left ws after (after_ticks after ys) l.0 (omega (arith, later.holds.few, after_bound)) later.holds.more later.fails
      ∙ ap (monitor_left ws) (sym (after-append given xs ys))
    where
      later : Stays after (after_ticks after ys)
      later = stays_ticks after ys (stays_legal given after l.1 stays)

      after_bound : horizon (curves_of after.view.pair) ≤ 256
      after_bound = (stays_legal given after l.1 stays).given.lengths.1

module _ (ws : List ℕ) (l : LegalGeneratorWords ws) (xs : List ℕ) where
  abbrev shown : View
  shown = view_of (history_from ws)

  abbrev sent : View
  sent = after_sendings shown xs

  still : Holds shown sent
  still = holds_sendings shown xs l.1

  enough : 771 ≤ length ws
  enough = omega (arith, l.0)

  pub sent_few : length sent.held ≤ 256
  sent_few = omega (arith, still.few, l.1.lengths.1)

  pub sent_view : view_of (history_from (with_held ws sent.held)) ≡ sent
  sent_view = held_view ws sent.held enough sent_few ∙ (λ i. record { pair = sym still.pairs i; held = sent.held })

  pub sent_legal : LegalGeneratorWords (with_held ws sent.held)
  sent_legal = (
    held-length ws sent.held enough sent_few ∙ l.0,
    subst Legal (sym sent_view) (holds_legal shown sent l.1 still),
  )

  pub sent_more : (ys : List ℕ)
      → with_held (with_held ws sent.held) (after_sendings (view_of (history_from (with_held ws sent.held))) ys).held
      ≡ with_held ws (after_sendings shown (xs ++ ys)).held
  sent_more ys =
      ap (λ u. with_held (with_held ws sent.held) (after_sendings u ys).held) sent_view
      ∙ held_held ws sent.held (after_sendings sent ys).held enough (omega (arith, later.few, bound)) later.more
      ∙ ap (λ u. with_held ws u.held) (sym (sent-append shown xs ys))
    where
      later : Holds sent (after_sendings sent ys)
      later = holds_sendings sent ys (holds_legal shown sent l.1 still)

      bound : horizon (curves_of sent.pair) ≤ 256
      bound = (holds_legal shown sent l.1 still).lengths.1
