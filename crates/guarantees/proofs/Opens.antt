-- Request P3: on which pairs a generator opens, by closing and by streams; each is its own closure, and a closure is one. Assumes nothing.
use Rattle.laws.proofs.Base.{ℕ, ◌≤◌, ◌≡◌, refl, sym, ap, ◌∙◌, subst, List, ◌↔◌, ⊎_elim, le_refl, arith, length}
use Rattle.curves.specs.Streams.{count_limit, Stream, sum}
use Rattle.curves.specs.Pairs.{Pair, horizon, upper_at, lower_at, Equal, FiguresWithin}
use Rattle.curves.specs.Conformance.{Inside, Conforms, Conforms∞, Extendable}
use Rattle.curves.specs.Rounds.{whole, Arrives, Causal}
use Rattle.curves.specs.Unlimited.{AnyPair, limited, unlimited, curves_of, SuperAdditive}
use Rattle.curves.specs.Questions.{AllYes, result}
use Rattle.curves.proofs.Asked.{no_refusal}
use Rattle.curves.proofs.Arrival.{arrives_or_crosses}
use Rattle.curves.proofs.Kept.{crossed_has_no_stream}
use Rattle.curves.proofs.Extension.{start_conforms}
use Rattle.curves.proofs.Highest.{length-highest}
use Rattle.curves.proofs.Unlimited.{causal_iff_super_additive}
use Rattle.curves.proofs.Closure.{causal_takes_no_round, causal_iff_no_round, causal_iff_own_closure, arrives_equal}
use Rattle.curves.proofs.Closure.{closure_streams, closure_begins, closure_upper, closure_lower, closure_horizon}
use Rattle.bounds.specs.Bounds.{pair_questions, RoomFor}
use Rattle.bounds.proofs.Said.{asking_yes}
use Rattle.closure.specs.Closing.{closing_question4, given_closing}
use Rattle.closure.specs.Theorems.{PassesFour, GivesClosure, closure_of, AllMet, Closable}
use Rattle.closure.proofs.Said.{closed_is, given_number, given_rounds, gives_passes}
use Rattle.closure.proofs.Room.{four_yes, own_yes}
use Rattle.closure.proofs.Given.{alike_own, arrived, stream_by}
use Rattle.closure.proofs.Promised.{closure_passes, given_is_causal}
use Rattle.history.specs.Opening.{opening}
use Rattle.generator.proofs.Opening.{opening_yes, opening_fifteenth, opened_from}
use Rattle.guarantees.specs.NeverRefused.{GeneratorOpens, AlreadyClosed, OpensIffAlreadyClosed, FifteenIffNotClosed}
use Rattle.guarantees.specs.NeverRefused.{FifteenIffNotSuperAdditive}
use Rattle.guarantees.specs.NeverRefused.{OpensIffAllMet, OpensOnClosure}

-- ---- by closing
closed_already : (p : AnyPair) (found : Pair) → PassesFour p found → Causal (curves_of p) → AlreadyClosed p found
closed_already p found ok c =
    closed_is p found 0 (curves_of p) ok (causal_takes_no_round (curves_of p) c)
    ∙ ap (λ r. given_closing 0 r found) (alike_own p p refl)

already_gives : (p : AnyPair) (found : Pair) → AlreadyClosed p found → GivesClosure p found
already_gives p found e = ap (λ a. a.number) e ∙ given_number 0 p found

already_causal : (p : AnyPair) (found : Pair) → AlreadyClosed p found → Causal (curves_of p)
already_causal p found e =
    (causal_iff_no_round (curves_of p) _ _ (arrived p found (already_gives p found e))).1 (ap (λ a. a.rounds) e ∙ given_rounds 0 p found)

-- What an opening asks, and the limit of closing besides, is what closing asks.
closable_passes : (p : AnyPair) (found : Pair) → AllYes (pair_questions p) → RoomFor (horizon (curves_of p)) found → Closable p p
    → PassesFour p found
closable_passes (limited c) found ys wide small = four_yes c found ys wide
closable_passes (unlimited h ls) found ys wide small = (ys.0, (ys.1.0, (wide, (small, tt))))

closable : (p : AnyPair) → (closing_question4 p).asked → Closable p p
closable (limited c) y = tt
closable (unlimited h ls) y = y

pub opens_iff_already_closed : OpensIffAlreadyClosed
opens_iff_already_closed p found wide small = (
  (λ o. let (ys, c) = opened_from p o in closed_already p found (closable_passes p found ys wide small) c),
  λ e.
      let ok : PassesFour p found = (gives_passes p found (already_gives p found e)).0 in
      sym (opening_yes p (own_yes p found ok) (already_causal p found e)),
)

pub fifteen_iff_not_closed : FifteenIffNotClosed
fifteen_iff_not_closed p found ok = (
  (λ e k. no_refusal tt 15 (sym ((opens_iff_already_closed p found ok.1.1.0 (closable p ok.1.1.1.0)).1 k) ∙ e)),
  λ n. sym (opening_fifteenth p (own_yes p found ok) (λ c. n (closed_already p found ok c))),
)

-- ---- by sums of two parts
pub fifteen_iff_not_super_additive : FifteenIffNotSuperAdditive
fifteen_iff_not_super_additive h ls ys =
    let even : length ls ≡ h = ys.1.0 ∙ length-highest h in
    let small : FiguresWithin count_limit ls = λ d u v. omega (arith, ys.1.1.0 d u v) in
    let iff : Causal (curves_of (unlimited h ls)) ↔ SuperAdditive ls =
    subst (λ k. Causal (curves_of (unlimited k ls)) ↔ SuperAdditive ls) even (causal_iff_super_additive ls small) in (
      (λ e s. no_refusal tt 15 (opening_yes (unlimited h ls) ys (iff.1 s) ∙ e)),
      (λ n. sym (opening_fifteenth (unlimited h ls) ys (λ c. n (iff.0 c)))),
    )

-- ---- by streams
module _ (p : AnyPair) (ys : AllYes (pair_questions p)) where
  abbrev c : Pair
  c = curves_of p

  abbrev pub stream : (s : ℕ → ℕ) → Conforms∞ (curves_of p) s → Stream
  stream s k = stream_by p ys.0 ys.1.1.0 s k

  -- A causal pair is its own closure, whose figures are met.
  causal_met : Causal c → AllMet p p
  causal_met k d u v =
      let own = causal_takes_no_round c k in
      let (s, a, f) = closure_upper c c 0 own ys.0.0 in
      let (t, b, g) = closure_lower c c 0 own ys.0.0 in
      ((stream s a, a, (0, f d v)), (stream t b, b, (0, g d v)))

  -- The streams that meet the figures of what the rounds arrive at, and the pair's, conform to both.
  met_equal : (n : ℕ) (q : Pair) → Arrives whole c n q → AllMet p p → Equal q c
  met_equal n q a met =
      let is = closure_horizon c q n a in
      record { horizons = is; uppers = λ d u v. (both d u (omega arith)).0; lowers = λ d u v. (both d u (omega arith)).1 }
    where
      both : (d : ℕ) → 1 ≤ d → d ≤ horizon c → (upper_at q d ≡ upper_at c d) × (lower_at q d ≡ lower_at c d)
      both d u v =
          let closed = closure_streams c q n a in
          let v' : d ≤ horizon q = omega (arith, closure_horizon c q n a) in
          let ((s, k, (i, e)), (t, l, (j, f))) = met d u v in
          let (s', k', e') = closure_upper c q n a ys.0.0 in
          let (t', l', f') = closure_lower c q n a ys.0.0 in
          let above : Inside q d (sum s.counts i d) = (closed s.counts).0 k i d u v' in
          let below : Inside q d (sum t.counts j d) = (closed t.counts).0 l j d u v' in
          omega (arith, e, f, e' d v, f' d v, above, below, k' 0 d u v, l' 0 d u v)

  -- Where every figure is met there is a stream, so the rounds arrive.
  met_causal : AllMet p p → Causal c
  met_causal met =
      ⊎_elim
      (λ (n, q, a). (causal_iff_own_closure c).1 (n, arrives_equal c q c n a (met_equal n q a met)))
      (λ (n, x). let (s, k, m) = (met 1 (le_refl 1) ys.0.0).0 in absurd (crossed_has_no_stream c n x.crossed s.counts k))
      (arrives_or_crosses c)

pub opens_iff_all_met : OpensIffAllMet
opens_iff_all_met p ys = (
  (λ o. causal_met p ys (opened_from p o).1),
  (λ met. sym (opening_yes p ys (met_causal p ys met))),
)

-- ---- a pair that a generator was opened on
module _ (p : AnyPair) (o : GeneratorOpens p) where
  pub yes_p : AllYes (pair_questions p)
  yes_p = (opened_from p o).0

  pub causal : Causal (curves_of p)
  causal = (opened_from p o).1

  pub asked : opening p ≡ result tt
  asked = sym (asking_yes p yes_p)

  -- It is its own closure.
  pub extendable_iff : (xs : List ℕ) → Conforms (curves_of p) xs ↔ Extendable (curves_of p) xs
  extendable_iff xs = (
    (λ k.
        let (s, b, a) = closure_begins (curves_of p) (curves_of p) 0 (causal_takes_no_round (curves_of p) causal) yes_p.0.0 xs k in
        (stream p yes_p s a, b, a)),
    (λ (s, b, a). start_conforms (curves_of p) xs s.counts b a),
  )

-- ---- a closure
closure_opens : (p : AnyPair) (found : Pair) → GivesClosure p found → GeneratorOpens (closure_of p found)
closure_opens p found g = sym (opening_yes (closure_of p found) (closure_passes p found g) (given_is_causal p found g))

pub opens_on_closure : OpensOnClosure
opens_on_closure p found g o a = a.answer ∙ closure_opens p found g
