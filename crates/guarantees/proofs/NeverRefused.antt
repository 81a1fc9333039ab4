-- Request P3, and demand 3's last sentence: a generator that was opened is never refused, over any list of calls. Assumes nothing.
use Rattle.laws.proofs.Base.{ℕ, suc, ◌≤◌, ◌<◌, ◌≡◌, refl, sym, ap, ◌∙◌, subst, List, [], ◌∷◌, ◌++◌, append_assoc, append-nil, add-zero}
use Rattle.laws.proofs.Base.{arith, length}
use mathlib.Core.Logic.Iff
use Rattle.laws.specs.Tests.{Each}
use Rattle.curves.specs.Streams.{count_limit, counts_of, sum}
use Rattle.curves.specs.Pairs.{horizon}
use Rattle.curves.specs.Unlimited.{AnyPair, limited, unlimited, curves_of}
use Rattle.curves.specs.Conformance.{Conforms}
use Rattle.curves.specs.Rounds.{Causal}
use Rattle.curves.specs.Ticks.{then, Keeps}
use Rattle.curves.specs.Questions.{AllYes, Reply, result, refusal}
use Rattle.curves.proofs.Asked.{no_refusal}
use Rattle.curves.proofs.Closure.{one_more_tick, causal_takes_no_round}
use Rattle.curves.proofs.Highest.{length-highest, highest_at}
use Rattle.curves.proofs.NextTick.{empty_conforms}
use Rattle.bounds.specs.Bounds.{figure_limit, pair_questions}
use Rattle.closure.specs.Theorems.{closure_of}
use Rattle.history.specs.States.{View, view_of, Legal}
use Rattle.history.specs.Opening.{fresh, zero_history, Begun}
use Rattle.history.proofs.Histories.{horizon_seen}
use Rattle.monitor.proofs.Opening.{opening_yes}
use Rattle.generator.specs.declared.Generator.{Generator}
use Rattle.generator.specs.declared.OpenedGenerator.{OpenedGenerator}
use Rattle.generator.specs.Generating.{RangeAnswer, ranging, chosen, sending, sent_from, GeneratorNext}
use Rattle.generator.specs.Opening.{generator_opening}
use Rattle.generator.specs.Answers.{sending_reply}
use Rattle.generator.specs.Promises.{GeneratorOpened}
use Rattle.generator.specs.Calls.{view_after, sendings, Call, ticked, ranged, Calls, state_after, counts_sent}
use Rattle.generator.proofs.Opening.{opened_from}
use Rattle.generator.proofs.Said.{range_answer, ranging_bad, ranging_range, count_limited, generator_next}
use Rattle.generator.proofs.Sendable.{sendable_has_range, limit_sendable, largest_is_limit}
use Rattle.guarantees.specs.Exact.{Offered}
use Rattle.guarantees.specs.NeverRefused.{GeneratorOpens, NotRefused, OpenedNeverRefused, SendsAtEveryTick, Reached}
use Rattle.guarantees.specs.NeverRefused.{NoCountOnlyUnreached, SendsIffExtendable, SendsIffPasses, UnlimitedAlwaysSends}
use Rattle.guarantees.specs.NeverRefused.{NeverRefused}
use Rattle.guarantees.proofs.Total.{sending_refused, ranging_refused}
use Rattle.guarantees.proofs.Held.{held_of, held_fresh, held_legal, opened_positive}
use Rattle.guarantees.proofs.Generating.{sent_sendable, sent_on, sendable_held, sent_conforms, sends_conforming}
use Rattle.guarantees.proofs.Lost.{extendable_same, sends_where_passes}
use Rattle.guarantees.proofs.Opens.{yes_p, causal, asked, extendable_iff, opens_on_closure}

-- ---- a count that goes on
-- What conforms to an unlimited pair has counts.
each_within : (n : ℕ) (xs : List ℕ) → ((tick : ℕ) → tick < length xs → counts_of xs tick ≤ n) → Each (λ x. x ≤ n) xs
each_within n [] h = tt
each_within n (x ∷ xs) h = (h 0 (omega arith), each_within n xs (λ tick l. h (suc tick) (omega arith)))

conforming_counts : (h : ℕ) (ls xs : List ℕ) → 1 ≤ h → Conforms (curves_of (unlimited h ls)) xs → Each (λ x. x ≤ count_limit) xs
unfolding sum
conforming_counts h ls xs u k =
    each_within count_limit xs (λ tick l.
    let one = k tick 1 (omega arith) (omega (arith, length-highest h)) (omega arith) in
    omega (arith, one.0, highest_at h 1 (omega arith) u, ap (counts_of xs) (add-zero tick)))

next_offered : (p : AnyPair) → AllYes (pair_questions p) → Causal (curves_of p) → (ys : List ℕ) → Conforms (curves_of p) ys
    → (x : ℕ) × Keeps (curves_of p) (then ys x) × Offered p x
next_offered (limited c) ok k ys s = let r = (one_more_tick c ys ok.0.0 k s).0 in (r.lo, r.lo_keeps, tt)
next_offered (unlimited h ls) ok k ys s =
    let counts = conforming_counts h ls ys (omega (arith, ok.0.0, length-highest h)) s in
    let (kept, offered) = limit_sendable h ls ys ok.1.1.0 counts in
    (figure_limit, kept, offered)

-- ---- from a generator that was opened on p
module _ (p : AnyPair) (o : GeneratorOpens p) where
  -- A conforming stream can go on, so a range is shown, of which a tick sends a count.
  shows : (v : View) (ys : List ℕ) → v ≡ held_of p ys → Conforms (curves_of p) ys → (b : RangeAnswer) × (ranging v ≡ result b)
  shows v ys s c =
      let l = held_legal p (asked p o) ys in
      let (x, k, a) = next_offered p (yes_p p o) (causal p o) ys c in
      let r = sendable_has_range p (held_of p ys).held l.lengths.0 x ((sendable_held p (asked p o) v ys s x).1 (k, a)) in
      (range_answer r.lo r.hi, ap ranging s ∙ ranging_range (held_of p ys) l r)

  -- What is true of a view after the stream ys: it holds the last ticks, and the stream conforms.
  pub record Holds (v : View) (ys : List ℕ) : Type 0 where
    pub view : v ≡ held_of p ys
    pub conforms : Conforms (curves_of p) ys

  unbegun : Holds (fresh p) []
  unbegun = record { view = held_fresh p; conforms = empty_conforms (curves_of p) }

  -- Its next tick sends a count, after which that is so again.
  goes_on : (v : View) (ys : List ℕ) → Holds v ys → (choice : ℕ)
      → (x : ℕ) × (x ≤ figure_limit) × (sending v choice ≡ result x) × Holds (view_after (sending v choice) v) (then ys x)
  goes_on v ys s choice =
      let (b, l) = shows v ys s.view s.conforms in
      let x = chosen b choice in
      let e : sending v choice ≡ result x = rw l in
      let legal : Legal v = rw s.view (held_legal p (asked p o) ys) in (
        x,
        count_limited v legal x (sent_sendable v legal choice x e),
        e,
        record {
          view = sent_on p (asked p o) v ys s.view choice x e;
          conforms = sent_conforms p (asked p o) v ys s.view choice x s.conforms e;
        },
      )

  -- From there no call is refused, and so it stays.
  never : (cs : List Call) (ys : List ℕ) (g : Generator) → Holds (view_of g.history) ys → Calls g cs
      → Each NotRefused cs × Holds (view_of (state_after g cs).history) (ys ++ counts_sent cs)
  never [] ys g s t = (tt, rw append-nil s)
  never (ranged r ∷ cs) ys g s (a, t) =
      let (b, e) = shows (view_of g.history) ys s.view s.conforms in
      let (all, s') = never cs ys g s t in
      (((b, a ∙ e), all), s')
  never (ticked choice r ∷ cs) ys g s (a, t) =
      let (x, small, e, next) = goes_on (view_of g.history) ys s choice in
      let said : sending_reply r.sending ≡ result x = a.answer ∙ e in
      let (all, s') = never cs (then ys x) r.next (rw (generator_next g choice r a) next) t in
      (((x, said), all), rw (said, ← append_assoc ys (x ∷ []) (counts_sent cs)) s')

  pub never_from : (r : OpenedGenerator) → GeneratorOpened p r → (cs : List Call) → Calls r.state cs
      → Each NotRefused cs × Holds (view_of (state_after r.state cs).history) (counts_sent cs)
  never_from r a cs t =
      let begun : view_of r.state.history ≡ fresh p = subst (λ x. Begun x p r.state.history) o a.history in
      never cs [] r.state (rw begun unbegun) t

  sends_from : (v : View) (ys choices : List ℕ) → Holds v ys
      → Each (λ a. (x : ℕ) × (x ≤ figure_limit) × (a ≡ result x)) (sendings v choices)
  unfolding sendings
  sends_from v ys [] s = tt
  sends_from v ys (choice ∷ choices) s =
      let (x, small, e, next) = goes_on v ys s choice in
      ((x, small, e), sends_from (view_after (sending v choice) v) (then ys x) choices next)

pub opened_never_refused : OpenedNeverRefused
opened_never_refused p r a w cs t =
    let o : GeneratorOpens p = sym a.answer ∙ w in
    let (all, s) = never_from p o r a cs t in
    (all, (extendable_iff p o (counts_sent cs)).0 s.conforms)

pub sends_at_every_tick : SendsAtEveryTick
sends_at_every_tick p o choices = sends_from p o (fresh p) [] choices (unbegun p o)

-- ---- 13
-- A refused opening's state is refused with 12, and stays.
zero_bad : ranging (view_of zero_history) ≡ refusal 12
unfolding zero_history
zero_bad = ranging_bad (view_of zero_history) (λ l. omega (arith, horizon_seen zero_history, l.lengths.0))

bad_stays : (cs : List Call) (g : Generator) → ranging (view_of g.history) ≡ refusal 12 → Calls g cs → state_after g cs ≡ g
bad_stays [] g e t = refl
bad_stays (ranged r ∷ cs) g e (a, t) = bad_stays cs g e t
bad_stays (ticked choice r ∷ cs) g e (a, t) =
    let same : r.next ≡ g = subst (λ x. GeneratorNext (sent_from x choice) g r.next) e a.next in
    bad_stays cs r.next (rw same e) t ∙ same

-- No list of calls leads from an opening to a state that is refused with 13.
not_stuck : (p : AnyPair) (r : OpenedGenerator) → GeneratorOpened p r → (cs : List Call) → Calls r.state cs
    → ¬ (ranging (view_of (state_after r.state cs).history) ≡ refusal 13)
not_stuck p r a cs t e = go (generator_opening p) refl
  where
    go : (x : Reply (Unit {0})) → generator_opening p ≡ x → ⊥
    go (result u) o =
        let s = (never_from p o r a cs t).1 in
        let (b, l) = shows p o (view_of (state_after r.state cs).history) (counts_sent cs) s.view s.conforms in
        no_refusal b 13 (sym l ∙ e)
    go (refusal n) o =
        let zero : r.state.history ≡ zero_history = subst (λ x. Begun x p r.state.history) o a.history in
        let bad : ranging (view_of r.state.history) ≡ refusal 12 = rw zero zero_bad in
        let z : ◌≡◌ {A = ℕ} 12 13 = cc (bad_stays cs r.state bad t) in
        omega arith

not_reached : (g : Generator) → ranging (view_of g.history) ≡ refusal 13 → ¬ Reached g
not_reached g e k = not_stuck k.pair k.opened k.as_promised k.calls k.in_turn (ap ranging k.led_to ∙ e)

pub no_count_only_unreached : NoCountOnlyUnreached
no_count_only_unreached g = (
  not_reached g,
  λ choice e.
      let v : View = view_of g.history in
      not_reached g ((ranging_refused v 13).1 ((sending_refused v choice 13).0 e)),
)

-- ---- what can be sent
pub sends_iff_extendable : SendsIffExtendable
sends_iff_extendable p o xs = Iff.trans (Iff.and (Iff.symm (extendable_iff p o xs)) Iff.rfl) (sends_conforming p (asked p o) xs)

pub sends_iff_passes : SendsIffPasses
sends_iff_passes p o =
    let opens = sym (opening_yes p (opened_from p o).0 (0, curves_of p, causal_takes_no_round (curves_of p) (causal p o))) in
    sends_where_passes p opens (extendable_iff p o)

-- ---- without ceilings
pub unlimited_always_sends : UnlimitedAlwaysSends
unlimited_always_sends v h ls e l counts = go v.pair e l
  where
    go : (p : AnyPair) → p ≡ unlimited h ls → Legal (record { pair = p; held = v.held })
        → (b : RangeAnswer) × (ranging (record { pair = p; held = v.held }) ≡ result b) × (b.hi ≡ figure_limit)
    go p e l =
        let l' : Legal (record { pair = unlimited h ls; held = v.held }) =
        subst (λ (p : AnyPair). Legal (record { pair = p; held = v.held })) e l in
        let sendable = limit_sendable h ls v.held l'.figures counts in
        let r = sendable_has_range (unlimited h ls) v.held l'.lengths.0 figure_limit sendable in
        let top = largest_is_limit h ls v.held l'.figures counts r in
        let shown = ranging_range (record { pair = unlimited h ls; held = v.held }) l' r in
        (range_answer r.lo r.hi, ap (λ (p : AnyPair). ranging (record { pair = p; held = v.held })) e ∙ shown, top)

-- ---- on a closure
pub never_refused : NeverRefused
never_refused p found g o a cs t =
    let (all, e) = opened_never_refused (closure_of p found) o a (opens_on_closure p found g o a) cs t in
    (all, (extendable_same p found g (counts_sent cs)).1 e)
