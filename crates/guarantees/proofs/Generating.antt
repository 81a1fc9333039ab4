-- Demand 2, the generator: it sends what the monitor would pass. Assumes nothing.
use Rattle.laws.proofs.Base.{ℕ, suc, ◌-◌, ◌≤◌, ◌≡◌, refl, sym, ap, ◌∙◌, List, [], ◌∷◌, ◌++◌, map, append_assoc, append-nil, ◌↔◌, arith}
use Rattle.laws.proofs.Base.{length}
use mathlib.Core.Logic.Iff
use native.Mathlib.Nat.{mod-eq_of_lt}
use Rattle.laws.specs.Tests.{Each}
use Rattle.curves.specs.Streams.{count_limit}
use Rattle.curves.specs.Pairs.{Pair, horizon}
use Rattle.curves.specs.Unlimited.{AnyPair, limited, unlimited, curves_of}
use Rattle.curves.specs.Conformance.{Conforms}
use Rattle.curves.specs.Ticks.{then, Keeps}
use Rattle.curves.specs.Questions.{result, refusal}
use Rattle.curves.proofs.Asked.{no_refusal}
use Rattle.curves.proofs.NextTick.{empty_conforms, conforms_start, conforms_keeps, keeps_conforms}
use Rattle.curves.proofs.Verdicts.{keeps_newest}
use Rattle.history.specs.States.{View, Legal}
use Rattle.history.specs.Opening.{opening, fresh}
use Rattle.monitor.specs.Monitoring.{MonitorView}
use Rattle.generator.specs.Generating.{Sendable, RangeAnswer, ranging, sending}
use Rattle.generator.specs.Calls.{view_after, sendings, ticked, ranged}
use Rattle.generator.proofs.Said.{range_answer, ranging_range, ranging_none, ranging_from, count_limited, chosen_within, sent_from_lem}
use Rattle.generator.proofs.Said.{generator_next}
use Rattle.generator.proofs.Sendable.{sendable_whole, sendable_has_range}
use Rattle.guarantees.specs.Exact.{LegalUnfailed, JudgedOutside, Offered, OffersNeither, SendsIffNeither, NoCountIffAllOutside}
use Rattle.guarantees.specs.Exact.{SmallestAndLargest}
use Rattle.guarantees.specs.Exact.{RangeShowsExtremes, SendsConforming, EqualGeneratorsAgree, EqualGeneratorsRange, CallsAreSendings}
use Rattle.guarantees.proofs.Total.{ranging_refused, sending_refused}
use Rattle.guarantees.proofs.Held.{held_of, held_fresh, held_added, held_legal, opened_positive}
use Rattle.guarantees.proofs.Rulings.{outside_iff, neither_iff}

-- ---- what can be sent
-- A count can be sent where it keeps every judged window, and is offered.
sendable_offered : (p : AnyPair) (xs : List ℕ) (x : ℕ) → Sendable p xs x ↔ (Keeps (curves_of p) (then xs x) × Offered p x)
sendable_offered (limited p) xs x = ((λ k. (k, tt)), (λ k. k.0))
sendable_offered (unlimited h ls) xs x = Iff.rfl

-- ---- on a legal history
module _ (v : View) (l : Legal v) where
  -- The choice x − lo sends x.
  choice_for : (x : ℕ) → Sendable v.pair v.held x → (choice : ℕ) × (choice ≤ count_limit) × (sending v choice ≡ result x)
  choice_for x k =
      let r = sendable_has_range v.pair v.held l.lengths.0 x k in
      let a = r.smallest x k in
      let b = r.largest x k in
      let m = mod-eq_of_lt {n = x - r.lo} {m = suc (r.hi - r.lo)} (omega arith) in
      (x - r.lo, omega (arith, count_limited v l x k), rw (ranging_range v l r) (ap result (omega arith)))

  pub sent_sendable : (choice x : ℕ) → sending v choice ≡ result x → Sendable v.pair v.held x
  sent_sendable choice x e =
      let (b, s, c) = sent_from_lem v choice x e in
      let (l', (r, f)) = ranging_from v b s in
      let (u, w) = chosen_within (range_answer r.lo r.hi) choice (r.largest r.lo r.lo_keeps) in
      rw (← c, ← f) ((sendable_whole v.pair v.held r _).1 (u, w))

-- ---- beside a monitor with the same history
module _ (w : MonitorView) (f : LegalUnfailed w) where
  abbrev v : View
  v = w.view

  l : Legal v
  l = f.legal.given

  offers_iff : (x : ℕ) → OffersNeither w x ↔ Sendable v.pair v.held x
  offers_iff x = Iff.trans (Iff.and (neither_iff w x f) Iff.rfl) (Iff.symm (sendable_offered v.pair v.held x))

  -- There is a range exactly when some count that is offered is neither 'too many' nor 'too few'.
  none_iff : (ranging v ≡ refusal 13) ↔ ((x : ℕ) → Offered v.pair x → JudgedOutside w x)
  none_iff = (
    λ e x o. (outside_iff w x f).1 (λ k.
        let r = sendable_has_range v.pair v.held l.lengths.0 x ((sendable_offered v.pair v.held x).1 (k, o)) in
        no_refusal _ 13 (sym (ranging_range v l r) ∙ e)),
    λ all. ranging_none v l (λ r.
        let (k, o) = (sendable_offered v.pair v.held r.lo).0 r.lo_keeps in
        (outside_iff w r.lo f).0 (all r.lo o) k),
  )

  shows : (b : RangeAnswer) → ranging v ≡ result b → SmallestAndLargest w b
  shows b e =
      let (l', (r, s)) = ranging_from v b e in
      rw (← s)
      (record {
        lo_neither = (offers_iff r.lo).1 r.lo_keeps;
        hi_neither = (offers_iff r.hi).1 r.hi_keeps;
        smallest = λ x n. r.smallest x ((offers_iff x).0 n);
        largest = λ x n. r.largest x ((offers_iff x).0 n);
      })

  shown_by : (b : RangeAnswer) → SmallestAndLargest w b → ranging v ≡ result b
  shown_by b e =
      ranging_range v l
      (record {
        lo = b.lo;
        hi = b.hi;
        lo_keeps = (offers_iff b.lo).0 e.lo_neither;
        hi_keeps = (offers_iff b.hi).0 e.hi_neither;
        smallest = λ x k. e.smallest x ((offers_iff x).1 k);
        largest = λ x k. e.largest x ((offers_iff x).1 k);
      })

pub sends_iff_neither : SendsIffNeither
sends_iff_neither w f x = (
  (λ s. (offers_iff w f x).1 (sent_sendable w.view f.legal.given s.0 x s.2)),
  (λ n. choice_for w.view f.legal.given x ((offers_iff w f x).0 n)),
)

pub no_count_iff_all_outside : NoCountIffAllOutside
no_count_iff_all_outside w f = (
  none_iff w f,
  λ choice. Iff.trans (sending_refused w.view choice 13) (Iff.trans (Iff.symm (ranging_refused w.view 13)) (none_iff w f)),
)

pub range_shows_extremes : RangeShowsExtremes
range_shows_extremes w f b = (shows w f b, shown_by w f b)

-- ---- from a fresh opening
module _ (p : AnyPair) (o : opening p ≡ result tt) where
  abbrev c : Pair
  c = curves_of p

  -- A generator that has sent the stream xs, and its next tick.
  module _ (v : View) (xs : List ℕ) (s : v ≡ held_of p xs) where
    pub sent_on : (choice x : ℕ) → sending v choice ≡ result x → view_after (sending v choice) v ≡ held_of p (then xs x)
    sent_on choice x e = rw (e, s) (held_added p xs x)

    -- The held ticks are as good as the whole stream.
    pub sendable_held : (x : ℕ) → Sendable p (held_of p xs).held x ↔ (Keeps c (then xs x) × Offered p x)
    sendable_held x =
        Iff.trans (sendable_offered p (held_of p xs).held x)
        (Iff.and (keeps_newest c (horizon c - 1) xs (omega (arith, opened_positive p o)) x) Iff.rfl)

    sent_both : (choice x : ℕ) → sending v choice ≡ result x → Keeps c (then xs x) × Offered p x
    sent_both choice x e = (sendable_held x).0 (sent_sendable (held_of p xs) (held_legal p o xs) choice x (rw s at e))

    pub sent_conforms : (choice x : ℕ) → Conforms c xs → sending v choice ≡ result x → Conforms c (then xs x)
    sent_conforms choice x k e = keeps_conforms c xs x k (sent_both choice x e).0

    conforming_choice : (x : ℕ) → Conforms c (then xs x) → Offered p x
        → (choice : ℕ) × (choice ≤ count_limit) × (sending v choice ≡ result x)
    conforming_choice x k a =
        rw s (choice_for (held_of p xs) (held_legal p o xs) x ((sendable_held x).1 (conforms_keeps c (then xs x) k, a)))

  conforming_sent : (v : View) (ys xs : List ℕ) → v ≡ held_of p ys → Conforms c (ys ++ xs) → Each (Offered p) xs
      → (choices : List ℕ) × Each (λ c. c ≤ count_limit) choices × (sendings v choices ≡ map result xs)
  unfolding sendings
  conforming_sent v ys [] s k a = ([], tt, refl)
  conforming_sent v ys (x ∷ xs) s k a =
      let k' : Conforms c (then ys x ++ xs) = rw append_assoc k in
      let (choice, small, e) = conforming_choice v ys s x (conforms_start c (then ys x) xs k') a.0 in
      let (choices, smalls, es) = conforming_sent (view_after (sending v choice) v) (then ys x) xs (sent_on v ys s choice x e) k' a.1 in
      (choice ∷ choices, (small, smalls), cc)

  sent_conforming : (v : View) (choices ys xs : List ℕ) → v ≡ held_of p ys → Conforms c ys → sendings v choices ≡ map result xs
      → Conforms c (ys ++ xs) × Each (Offered p) xs
  unfolding sendings
  sent_conforming v [] ys [] s k e = (rw append-nil k, tt)
  sent_conforming v [] ys (x ∷ xs) s k e = absurd (omega (arith, ap length e))
  sent_conforming v (choice ∷ choices) ys [] s k e = absurd (omega (arith, ap length e))
  sent_conforming v (choice ∷ choices) ys (x ∷ xs) s k e =
      let h : sending v choice ≡ result x = cc in
      let (all, offered) =
      sent_conforming (view_after (sending v choice) v) choices (then ys x) xs (sent_on v ys s choice x h)
      (sent_conforms v ys s choice x k h) cc in
      (rw (← append_assoc ys (x ∷ []) xs) all, ((sent_both v ys s choice x h).1, offered))

pub sends_conforming : SendsConforming
sends_conforming p o xs = (
  (λ k. conforming_sent p o (fresh p) [] xs (held_fresh p) k.0 k.1),
  λ t. sent_conforming p o (fresh p) t.0 [] xs (held_fresh p) (empty_conforms (curves_of p)) t.2,
)

-- ---- only the view of a state has an effect
pub equal_generators_agree : EqualGeneratorsAgree
equal_generators_agree g g' choice r r' e t t' = (cc, cc (generator_next g choice r t, generator_next g' choice r' t'))

pub equal_generators_range : EqualGeneratorsRange
equal_generators_range g g' a a' e l l' = cc

pub calls_are_sendings : CallsAreSendings
unfolding sendings
calls_are_sendings g [] t = refl
calls_are_sendings g (ticked choice r ∷ cs) (a, t) = cc (calls_are_sendings r.next cs t, generator_next g choice r a)
calls_are_sendings g (ranged r ∷ cs) (a, t) = calls_are_sendings g cs t
