-- What a closure is worth, for a pair p whose rounds arrive at q: q is causal, has the streams of p, and its conforming starts are theirs.
-- Assumes nothing.
use Rattle.laws.proofs.Base.{ℕ, ◌≤◌, ◌≡◌, sym, ◌∙◌, List, ◌↔◌, ⊎_elim, arith}
use lib.IntN.{pos}
use Rattle.curves.specs.Streams.{sum, Begins}
use Rattle.curves.specs.Pairs.{horizon, Pair, upper_at, lower_at, Equal}
use Rattle.curves.specs.Conformance.{Conforms, Conforms∞}
use Rattle.curves.specs.Ticks.{then, Range}
use Rattle.curves.specs.Rounds.{whole, cut_off, figures_of, round, after, Arrives, Causal}
use Rattle.curves.specs.Theorems.{ClosureIsCausal, CausalIffOwnClosure, CausalTakesNoRound, OneMoreTick}
use Rattle.curves.proofs.Figures.{given_full, same_refl, full_same, after_full, given_same, given_horizon, after_horizon}
use Rattle.curves.proofs.Figures.{round_horizon}
use Rattle.curves.proofs.Agreement.{cut_off_arrives}
use Rattle.curves.proofs.Kept.{rounds_keep_streams}
use Rattle.curves.proofs.Arrival.{runs_none, crossed?, equal?, arrives_once}
use Rattle.curves.proofs.Closed.{Closed, closed}
use Rattle.curves.proofs.Extension.{extends, start_conforms}
use Rattle.curves.proofs.Followed.{Followed, followed_upper, followed_lower}
use Rattle.curves.proofs.NextTick.{conforms_keeps, keeps_conforms, range_whole, goes_on}

-- ---- the closure is causal
pub closure_is_causal : ClosureIsCausal
closure_is_causal p q n a =
    let e : after whole n p ≡ figures_of whole q = full_same (pos 0) _ _ (after_full whole n p) (given_full whole q) a.figures in
    record { uncrossed = rw e at a.uncrossed; settled = rw e at a.settled }

pub causal_takes_no_round : CausalTakesNoRound
unfolding after
causal_takes_no_round p c =
    record { runs = runs_none whole p; uncrossed = c.uncrossed; settled = c.settled; figures = same_refl (pos 0) (figures_of whole p) }

pub causal_iff_own_closure : CausalIffOwnClosure
causal_iff_own_closure p = ((λ c. (0, causal_takes_no_round p c)), (λ a. closure_is_causal p p a.0 a.1))

-- Where the rounds arrive, the pair is causal exactly when none changed a figure.
pub causal_iff_no_round : (p q : Pair) (n : ℕ) → Arrives whole p n q → Causal p ↔ (n ≡ 0)
unfolding after
causal_iff_no_round p q n a = (
  (λ c. (arrives_once p q p n 0 a (causal_takes_no_round p c)).0),
  λ e. let b : Arrives whole p 0 q = rw e at a in record { uncrossed = b.uncrossed; settled = b.settled },
)

-- Whether a pair is causal can be told, by one round with differences cut off at 0.
unfoldable pub causal? : (p : Pair) → Dec (Causal p)
unfolding after
causal? p =
    let own : Causal p → Arrives cut_off p 0 p = λ k. (cut_off_arrives p 0 p).0 (causal_takes_no_round p k) in
    let c : Pair = figures_of cut_off p in
    ⊎_elim
    (λ un. ⊎_elim
    (λ s. yes (closure_is_causal p p 0 ((cut_off_arrives p 0 p).1
    (record { runs = runs_none cut_off p; uncrossed = un; settled = s; figures = same_refl 0 c }))))
    (λ ns. no (λ k. ns (own k).settled))
    (equal? (round cut_off c) c (round_horizon cut_off c)))
    (λ x. no (λ k. (own k).uncrossed x))
    (crossed? c)

-- ---- one more tick
pub one_more_tick : OneMoreTick
one_more_tick p xs h c k =
    let r : Range p xs = goes_on p (closed p c) xs k h in (
      r,
      λ x. (
        (λ m. (range_whole p xs r x).0 (conforms_keeps p (then xs x) m)),
        (λ m. keeps_conforms p xs x k ((range_whole p xs r x).1 m)),
      ),
    )

-- ---- the closure q of p, after n rounds
module _ (p q : Pair) (n : ℕ) (a : Arrives whole p n q) where
  closure_closed : Closed q
  closure_closed = closed q (closure_is_causal p q n a)

  pub closure_horizon : horizon q ≡ horizon p
  closure_horizon = sym (given_horizon whole q) ∙ sym a.figures.horizons ∙ after_horizon whole n p

  -- The same unbounded streams conform to both.
  pub closure_streams : (s : ℕ → ℕ) → Conforms∞ p s ↔ Conforms∞ q s
  closure_streams = rounds_keep_streams p q n a.figures

  module _ (h : 1 ≤ horizon p) where
    h' : 1 ≤ horizon q
    h' = rw closure_horizon h

    pub closure_begins : (xs : List ℕ) → Conforms q xs → (s : ℕ → ℕ) × Begins xs s × Conforms∞ p s
    closure_begins xs c =
        let (s, b, k) = extends q closure_closed h' xs c in
        (s, b, (closure_streams s).1 k)

    pub begins_closure : (xs : List ℕ) (s : ℕ → ℕ) → Begins xs s → Conforms∞ p s → Conforms q xs
    begins_closure xs s b c = start_conforms q xs s b ((closure_streams s).0 c)

    follow : (g : ℕ → ℕ) → Followed q g → (s : ℕ → ℕ) × Conforms∞ p s × ((d : ℕ) → d ≤ horizon p → sum s 0 d ≡ g d)
    follow g f = (f.0, (closure_streams f.0).1 f.1, λ d v. f.2 d (rw closure_horizon v))

    pub closure_upper : (s : ℕ → ℕ) × Conforms∞ p s × ((d : ℕ) → d ≤ horizon p → sum s 0 d ≡ upper_at q d)
    closure_upper = follow (upper_at q) (followed_upper q closure_closed h')

    pub closure_lower : (s : ℕ → ℕ) × Conforms∞ p s × ((d : ℕ) → d ≤ horizon p → sum s 0 d ≡ lower_at q d)
    closure_lower = follow (lower_at q) (followed_lower q closure_closed h')

-- Arrived at a closure, so at any equal one.
pub arrives_equal : (p q r : Pair) (n : ℕ) → Arrives whole p n q → Equal q r → Arrives whole p n r
arrives_equal p q r n a e =
    record { runs = a.runs; uncrossed = a.uncrossed; settled = a.settled; figures = rw (given_same whole q r e) at a.figures }

-- No figure of the closure is above the pair's ceiling: a conforming stream meets the closure's.
pub closure_figures : (p q : Pair) (n : ℕ) → Arrives whole p n q → (d : ℕ) → 1 ≤ d → d ≤ horizon p
    → (upper_at q d ≤ upper_at p d) × (lower_at q d ≤ upper_at p d)
closure_figures p q n a d u v =
    let (s, c, f) = closure_upper p q n a (omega arith) in
    let (t, k, g) = closure_lower p q n a (omega arith) in
    omega (arith, c 0 d u v, f d v, k 0 d u v, g d v)
