-- What a closure that is given is worth: figures met, extendable streams, equal closures, closed again. Assumes nothing.
use Rattle.laws.proofs.Base.{ℕ, ◌≤◌, ◌≡◌, refl, sym, ap, ◌∙◌, subst, subst⁻¹, cond, ◌↔◌, arith}
use mathlib.Core.Logic.Iff
use Rattle.curves.specs.Streams.{Stream, sum}
use Rattle.curves.specs.Streams.{count_limit}
use Rattle.curves.specs.Pairs.{Pair, horizon, upper_at, lower_at}
use Rattle.curves.specs.Unlimited.{AnyPair, limited, unlimited, curves_of, alike, mark_of, EqualPairs, AllWithin, sums_after}
use Rattle.curves.specs.Theorems.{leasts_only}
use Rattle.curves.specs.Conformance.{Inside, Conforms, Conforms∞, Extendable}
use Rattle.curves.specs.Rounds.{Causal}
use Rattle.curves.proofs.Figures.{same_sym}
use Rattle.curves.proofs.Arrival.{arrives_once}
use Rattle.curves.proofs.Closure.{
  arrives_equal,
  closure_streams,
  closure_begins,
  begins_closure,
  closure_upper,
  closure_lower,
  closure_figures,
  closure_is_causal,
  causal_takes_no_round,
  causal_iff_own_closure,
}
use Rattle.bounds.specs.Bounds.{figure_limit}
use Rattle.closure.specs.Closing.{closing_question4, given_closing, closing}
use Rattle.closure.specs.Theorems.{GivesClosure, closure_of, FollowsUpper, FollowsLower, FiguresMet, ConformsIffExtendable, EqualIffSameStreams, GivenIsCausal, ClosurePasses, MarkGiven, Closable, ClosedAgain, CausalIffGivenBack, UnlimitedCloses, ClosesToLargest}
use Rattle.curves.specs.Rounds.{whole, Arrives}
use Rattle.curves.proofs.Highest.{length-highest}
use Rattle.curves.proofs.Parts.{sums_arrive_within_logarithm, arrives_at_largest, leasts_upper}
use Rattle.closure.proofs.Said.{closed_is, given_number, gives_passes}
use Rattle.closure.proofs.Given.{arrived, positive_horizon, given_horizon, given_even, answer_mark, given_mark, within_closed}
use Rattle.closure.proofs.Given.{alike_own, leasts_even, leasts_small, leasts-arrived, stream_of}

-- ---- one stream follows the upper curve, another the lower
pub follows_upper : FollowsUpper
follows_upper p found g =
    let (s, c, f) = closure_upper (curves_of p) (curves_of (closure_of p found)) _ (arrived p found g) (positive_horizon p found g) in
    (stream_of p found (gives_passes p found g).0 s c, c, f)

pub follows_lower : FollowsLower
follows_lower p found g =
    let (s, c, f) = closure_lower (curves_of p) (curves_of (closure_of p found)) _ (arrived p found g) (positive_horizon p found g) in
    (stream_of p found (gives_passes p found g).0 s c, c, f)

pub figures_met : FiguresMet
figures_met p found g d u v =
    let (s, c, f) = follows_upper p found g in
    let (t, k, h) = follows_lower p found g in
    ((s, c, (0, f d v)), (t, k, (0, h d v)))

-- ---- extendable streams
pub conforms_iff_extendable : ConformsIffExtendable
conforms_iff_extendable p found g xs = (there, back)
  where
    there : Conforms (curves_of (closure_of p found)) xs → Extendable (curves_of p) xs
    there k =
        let (s, b, c) = closure_begins (curves_of p) _ _ (arrived p found g) (positive_horizon p found g) xs k in
        (stream_of p found (gives_passes p found g).0 s c, b, c)

    back : Extendable (curves_of p) xs → Conforms (curves_of (closure_of p found)) xs
    back (s, b, c) = begins_closure (curves_of p) _ _ (arrived p found g) (positive_horizon p found g) xs s.counts b c

-- ---- equal closures
given_streams : (p : AnyPair) (found : Pair) → GivesClosure p found → (s : ℕ → ℕ)
    → Conforms∞ (curves_of p) s ↔ Conforms∞ (curves_of (closure_of p found)) s
given_streams p found g = closure_streams (curves_of p) _ _ (arrived p found g)

-- What is told of a closure's figures: none is above the limit, but for what stands in the place of missing ceilings.
abbrev OneTick : AnyPair → ℕ → Type 0
OneTick (limited c) u = u ≤ figure_limit
OneTick (unlimited h ls) u = u ≡ count_limit

one_tick : (p : AnyPair) (found : Pair) → GivesClosure p found → OneTick p (upper_at (curves_of (closure_of p found)) 1)
one_tick (limited c) found g =
    let ok = (gives_passes (limited c) found g).0 in
    omega (
      arith,
      closure_figures c _ _ (arrived (limited c) found g) 1 (omega arith) ok.0.0,
      ok.1.1.1.0.0 1 (omega arith) ok.0.0,
    )
one_tick (unlimited h ls) found g =
    let ok = (gives_passes (unlimited h ls) found g).0 in
    let e = leasts_even h ls found ok in
    omega (
      arith,
      leasts_upper ls _ _ (leasts_small count_limit ls (omega arith) ok.1.1.1.0) (leasts-arrived h ls found g) 1 (omega arith)
          (omega (arith, ok.0.0, length-highest h)),
    )

same_marks : (p p' : AnyPair) (u : ℕ) → OneTick p u → OneTick p' u → mark_of p ≡ mark_of p'
same_marks (limited c) (limited c') u o o' = refl
same_marks (limited c) (unlimited h ls) u o o' = absurd (omega arith)
same_marks (unlimited h ls) (limited c) u o o' = absurd (omega arith)
same_marks (unlimited h ls) (unlimited k ms) u o o' = refl

module _ (p p' : AnyPair) (found found' : Pair) (g : GivesClosure p found) (g' : GivesClosure p' found')
    (h : horizon (curves_of p) ≡ horizon (curves_of p')) where
  -- A pair with no stream but those of another has a closure no looser than the other's: its streams meet its figures.
  pub no_looser : ((s : Stream) → Conforms∞ (curves_of p) s.counts → Conforms∞ (curves_of p') s.counts) → (d : ℕ) → 1 ≤ d
      → d ≤ horizon (curves_of p)
      → (upper_at (curves_of (closure_of p found)) d ≤ upper_at (curves_of (closure_of p' found')) d)
      × (lower_at (curves_of (closure_of p' found')) d ≤ lower_at (curves_of (closure_of p found)) d)
  no_looser more d u v =
      let (s, c, f) = follows_upper p found g in
      let (t, k, f') = follows_lower p found g in
      omega (arith, other s (more s c), f d v, other t (more t k), f' d v)
    where
      other : (s : Stream) → Conforms∞ (curves_of p') s.counts → Inside (curves_of (closure_of p' found')) d (sum s.counts 0 d)
      other s c = (given_streams p' found' g' s.counts).0 c 0 d u (omega (arith, given_horizon p' found' g'))

pub equal_iff_same_streams : EqualIffSameStreams
equal_iff_same_streams p p' found found' g g' h = (there, back)
  where
    there : EqualPairs (closure_of p found) (closure_of p' found')
        → (s : Stream) → Conforms∞ (curves_of p) s.counts ↔ Conforms∞ (curves_of p') s.counts
    there e s =
        let at_first = arrives_equal (curves_of p') _ (curves_of (closure_of p found)) _ (arrived p' found' g') (same_sym 0 _ _ e.curves) in
        Iff.trans
        (given_streams p found g s.counts)
        (Iff.symm (closure_streams (curves_of p') (curves_of (closure_of p found)) _ at_first s.counts))

    back : ((s : Stream) → Conforms∞ (curves_of p) s.counts ↔ Conforms∞ (curves_of p') s.counts)
        → EqualPairs (closure_of p found) (closure_of p' found')
    back same =
        record {
          marks = given_mark p found g ∙ marks ∙ sym (given_mark p' found' g');
          curves =
              record {
                horizons = given_horizon p found g ∙ h ∙ sym (given_horizon p' found' g');
                uppers = λ d u v. (both d u (rw (sym (given_horizon p found g)) v)).0;
                lowers = λ d u v. (both d u (rw (sym (given_horizon p found g)) v)).1;
              };
        }
      where
        both : (d : ℕ) → 1 ≤ d → d ≤ horizon (curves_of p)
            → (upper_at (curves_of (closure_of p found)) d ≡ upper_at (curves_of (closure_of p' found')) d)
            × (lower_at (curves_of (closure_of p found)) d ≡ lower_at (curves_of (closure_of p' found')) d)
        both d u v =
            omega (
              arith,
              no_looser p p' found found' g g' h (λ s. (same s).0) d u v,
              no_looser p' p found' found g' g (sym h) (λ s. (same s).1) d u (omega arith),
            )

        marks : mark_of p ≡ mark_of p'
        marks =
            same_marks p p' _ (one_tick p found g)
            (subst⁻¹ (OneTick p') (both 1 (omega arith) (positive_horizon p found g)).0 (one_tick p' found' g'))

-- ---- the mark
pub mark_given : MarkGiven
mark_given p found g = answer_mark p found g

-- ---- causal, and closed again
pub given_is_causal : GivenIsCausal
given_is_causal p found g = closure_is_causal (curves_of p) _ _ (arrived p found g)

pub closure_passes : ClosurePasses
closure_passes p found g =
    let ok = (gives_passes p found g).0 in
    let is = given_horizon p found g in
    ((omega (arith, ok.0.0), omega (arith, ok.0.1)), (given_even p found g, (within_closed p found g, tt)))

-- Question 4 of closing it: with ceilings that is answered yes.
again_small : (p r : AnyPair) → mark_of r ≡ mark_of p → AllWithin figure_limit r → Closable p r → (closing_question4 r).asked
again_small (limited c) (limited q) e w k = w
again_small (limited c) (unlimited h ls) e w k = let z : ◌≡◌ {A = ℕ} 0 1 = ap (λ b. cond b 1 0) (sym e) in absurd (omega arith)
again_small (unlimited h ls) r e w k = k

pub closed_again : ClosedAgain
closed_again p found again g r k =
    let ok = closure_passes p found g in
    let is = given_horizon p found g in
    let small = again_small p (closure_of p found) (given_mark p found g) (within_closed p found g) k in
    closed_is (closure_of p found) again 0 (curves_of (closure_of p found))
    (ok.0, (ok.1.0, ((omega (arith, r.0), omega (arith, r.1)), (small, tt))))
    (causal_takes_no_round (curves_of (closure_of p found)) (given_is_causal p found g))
    ∙ ap (λ r. given_closing 0 r again) (alike_own (closure_of p found) (closure_of p found) refl)

pub causal_iff_given_back : CausalIffGivenBack
causal_iff_given_back p found ok = (there, back)
  where
    there : Causal (curves_of p) → GivesClosure p found × EqualPairs (closure_of p found) p
    there c =
        let own = causal_takes_no_round (curves_of p) c in
        let g : GivesClosure p found =
        ap (λ a. a.number) (closed_is p found 0 (curves_of p) ok own) ∙ given_number 0 (alike p (curves_of p)) found in (
          g,
          record { marks = given_mark p found g; curves = (arrives_once (curves_of p) _ (curves_of p) _ 0 (arrived p found g) own).1 },
        )

    back : GivesClosure p found × EqualPairs (closure_of p found) p → Causal (curves_of p)
    back h =
        (causal_iff_own_closure (curves_of p)).1 (
          (closing p found).rounds,
          arrives_equal (curves_of p) _ (curves_of p) _ (arrived p found h.0) h.1.curves,
        )

-- ---- without ceilings
pub unlimited_closes : UnlimitedCloses
unlimited_closes h ls found ok =
    let e = leasts_even h ls found ok in
    let small = leasts_small count_limit ls (omega arith) ok.1.1.1.0 in
    let (n, _, a) = sums_arrive_within_logarithm ls 8 small (omega (arith, ok.0.1, length-highest h)) in
    let q : Pair = leasts_only (sums_after n ls) in
    ap (λ r. r.number) (closed_is (unlimited h ls) found n q ok (subst (λ k. Arrives whole (curves_of (unlimited k ls)) n q) e a))
    ∙ given_number n (alike (unlimited h ls) q) found

pub closes_to_largest : ClosesToLargest
closes_to_largest h ls found g d u v =
    let ok = (gives_passes (unlimited h ls) found g).0 in
    let e = leasts_even h ls found ok in
    arrives_at_largest ls _ _ (leasts_small count_limit ls (omega arith) ok.1.1.1.0) (leasts-arrived h ls found g) d u (omega arith)
