-- The closure that is given is the one that the rounds arrive at; its streams and those of the pair, as document 01's. Assumes nothing.
use Rattle.laws.proofs.Base.{ℕ, ◌≤◌, ◌≡◌, refl, sym, ap, ◌∙◌, subst⁻¹, cond, List, [], ◌++◌, inl, inr, ⊎_elim, add-zero, arith, length}
use Rattle.laws.proofs.Base.{take, drop, take_at, length-take-le}
use Rattle.laws.specs.Ranges.{table}
use Rattle.laws.proofs.Table.{length-table}
use Rattle.curves.specs.Streams.{count_limit, Stream, sum}
use Rattle.curves.specs.Pairs.{Pair, pair_of, horizon, upper_at, lower_at, Equal, FiguresWithin}
use Rattle.curves.specs.Conformance.{Conforms∞}
use Rattle.curves.specs.Rounds.{whole, cut_off, figures_of, Arrives}
use Rattle.curves.specs.Unlimited.{AnyPair, limited, unlimited, with_mark, curves_of, alike, mark_of, AllWithin}
use Rattle.curves.specs.Theorems.{Closes, leasts_only}
use Rattle.curves.proofs.Figures.{same_refl, same_sym, given_full}
use Rattle.curves.proofs.Agreement.{given_equal}
use Rattle.curves.proofs.Arrival.{arrives_or_crosses}
use Rattle.curves.proofs.Kept.{crossed_has_no_stream}
use Rattle.curves.proofs.NextTick.{empty_conforms}
use Rattle.curves.proofs.Highest.{length-highest, highest_at}
use Rattle.curves.proofs.Closure.{arrives_equal, closure_horizon, closure_figures, closure_begins}
use Rattle.curves.proofs.Parts.{leasts_upper, leasts_figures}
use Rattle.bounds.specs.Bounds.{max_horizon, figure_limit, question1, question4, RoomFor}
use Rattle.closure.specs.Closing.{least_limit, closing_question4, ClosingAnswer, refused_closing, given_closing, closing}
use Rattle.closure.specs.Theorems.{PassesFour, GivesClosure, closure_of, ClosureIsArrivedAt, RefusedIffNoStream, ElseClosed}
use Rattle.closure.proofs.Said.{refused_is, closed_is, closed_equal, given_number, given_rounds, fifth, gives_passes}

-- ---- a pair of the same kind
given_alike : (n : ℕ) (p : AnyPair) (q found : Pair) → (given_closing n (alike p q) found).unlimited ≡ mark_of p
given_alike n (limited c) q found = refl
given_alike n (unlimited h ls) q found = refl

alike_mark : (p : AnyPair) (q : Pair) → mark_of (alike p q) ≡ mark_of p
alike_mark (limited c) q = refl
alike_mark (unlimited h ls) q = refl

-- A pair is made of its curves and its mark.
pub alike_own : (p r : AnyPair) → mark_of r ≡ mark_of p → alike p (curves_of r) ≡ r
alike_own (limited c) (limited q) e = refl
alike_own (unlimited h ls) (unlimited k ms) e = ap (λ n. unlimited n ms) (length-highest k)
alike_own (limited c) (unlimited k ms) e = let z : ◌≡◌ {A = ℕ} 0 1 = ap (λ b. cond b 1 0) (sym e) in absurd (omega arith)
alike_own (unlimited h ls) (limited q) e = let z : ◌≡◌ {A = ℕ} 0 1 = ap (λ b. cond b 1 0) e in absurd (omega arith)

alike-even :
    (p : AnyPair) (q : Pair) → length (curves_of (alike p (figures_of cut_off q))).lower ≡ horizon (curves_of (alike p (figures_of cut_off q)))
alike-even (limited c) q = given_full cut_off q
alike-even (unlimited h ls) q = given_full cut_off q ∙ sym (length-highest (horizon (figures_of cut_off q)))

-- The first entries of a list that begins with a table.
front : (f : ℕ → ℕ) (n m : ℕ) (rest : List ℕ) → n ≡ m → take m (table f n ++ rest) ≡ table f n
front f n m rest e = take_at (table f n) rest m (length-table f n ∙ e)

-- ---- what questions 1 to 4 tell of a pair
-- The leasts of an unlimited pair, as many as its horizon.
pub leasts_even : (h : ℕ) (ls : List ℕ) (found : Pair) → PassesFour (unlimited h ls) found → length ls ≡ h
leasts_even h ls found ok = ok.1.0 ∙ length-highest h

pub leasts_small : (n : ℕ) (ls : List ℕ) → least_limit ≤ n → FiguresWithin least_limit ls → FiguresWithin n ls
leasts_small n ls h w d u v = omega (arith, w d u v)

-- The ceilings of what the rounds arrive at are the pair's, where it is unlimited: so they are not to be told apart from it.
alike_equal : (p : AnyPair) (found q : Pair) (n : ℕ) → PassesFour p found → Arrives whole (curves_of p) n q → Equal q (curves_of (alike p q))
alike_equal (limited c) found q n ok a = same_refl 0 q
alike_equal (unlimited h ls) found q n ok a =
    let small = leasts_small count_limit ls (omega arith) ok.1.1.1.0 in
    let e = leasts_even h ls found ok in
    let at : Arrives whole (leasts_only ls) n q = subst⁻¹ (λ k. Arrives whole (curves_of (unlimited k ls)) n q) e a in
    let horizons : horizon q ≡ h = closure_horizon (leasts_only ls) q n at ∙ length-highest (length ls) ∙ e in
    record {
      horizons = sym (length-highest (horizon q));
      uppers = λ d u v. leasts_upper ls n q small at d u (omega arith) ∙ sym (highest_at (horizon q) d u v);
      lowers = λ d u v. refl;
    }

-- The first entries of the result lists, with the mark, are the figures of what the rounds arrived at.
closure_from : (p : AnyPair) (found : Pair) (n : ℕ) (q : Pair) (a : ClosingAnswer) → a ≡ given_closing n (alike p q) found
    → RoomFor (horizon (curves_of p)) found → horizon q ≡ horizon (curves_of p)
    → with_mark (take (horizon (curves_of p)) a.results.upper) (take (horizon (curves_of p)) a.results.lower) a.unlimited
    ≡ alike p (figures_of cut_off q)
unfolding figures_of
closure_from (limited c) found n q a e r h =
    ap (λ a. with_mark (take (horizon c) a.results.upper) (take (horizon c) a.results.lower) a.unlimited) e
    ∙ (λ i. limited (pair_of
    (front (upper_at q) (horizon q) (horizon c) (drop (horizon q) found.upper) h i)
    (front (lower_at q) (horizon q) (horizon c) (drop (horizon q) found.lower) h i)))
closure_from (unlimited k ls) found n q a e r h =
    let H : ℕ = horizon (curves_of (unlimited k ls)) in
    ap (λ a. with_mark (take H a.results.upper) (take H a.results.lower) a.unlimited) e
    ∙ (λ i. unlimited
    ((length-take-le H found.upper r.0 ∙ sym h ∙ sym (length-table (upper_at q) (horizon q))) i)
    (front (lower_at q) (horizon q) H (drop (horizon q) found.lower) h i))

-- No figure of it is above the limit: without ceilings, no closed least is above 65,535 times its window.
within_alike : (p : AnyPair) (found q : Pair) (n : ℕ) → PassesFour p found → Arrives whole (curves_of p) n q → length q.lower ≡ horizon q
    → AllWithin figure_limit (alike p q)
within_alike (limited c) found q n ok a e =
    let limit = ok.1.1.1.0.0 in
    let low = closure_figures c q n a in
    let is = closure_horizon c q n a in (
      (λ d u v. omega (arith, low d u (omega arith), limit d u (omega arith))),
      (λ d u v. omega (arith, low d u (omega arith), limit d u (omega arith))),
    )
within_alike (unlimited h ls) found q n ok a e =
    let even = leasts_even h ls found ok in
    let at : Arrives whole (leasts_only ls) n q = subst⁻¹ (λ k. Arrives whole (curves_of (unlimited k ls)) n q) even a in
    let is : horizon q ≡ length ls = closure_horizon (leasts_only ls) q n at ∙ length-highest (length ls) in
    let short : h ≤ max_horizon = rw (sym (length-highest h)) ok.0.1 in
    λ d u v. omega (arith, leasts_figures least_limit ls n q (omega arith) ok.1.1.1.0 at d u (omega arith))

module _ (p : AnyPair) (found : Pair) (g : GivesClosure p found) where
  n : ℕ
  n = (gives_passes p found g).1.0

  q : Pair
  q = (gives_passes p found g).1.1

  at_q : Arrives whole (curves_of p) n q
  unfolding n q
  at_q = (gives_passes p found g).1.2

  answer_is : closing p found ≡ given_closing n (alike p q) found
  answer_is = closed_is p found n q (gives_passes p found g).0 at_q

  closure_is : closure_of p found ≡ alike p (figures_of cut_off q)
  closure_is =
      closure_from p found n q (closing p found) answer_is (gives_passes p found g).0.1.1.0 (closure_horizon (curves_of p) q n at_q)

  -- Its mark is the pair's.
  pub given_mark : mark_of (closure_of p found) ≡ mark_of p
  given_mark = ap mark_of closure_is ∙ alike_mark p (figures_of cut_off q)

  pub answer_mark : (closing p found).unlimited ≡ mark_of p
  answer_mark = ap (λ a. a.unlimited) answer_is ∙ given_alike n p q found

  figures_at : Arrives whole (curves_of p) n (figures_of cut_off q)
  figures_at = arrives_equal (curves_of p) q (figures_of cut_off q) n at_q (same_sym 0 _ _ (given_equal q))

  closure_equal : Equal (figures_of cut_off q) (curves_of (closure_of p found))
  closure_equal = rw closure_is (alike_equal p found (figures_of cut_off q) n (gives_passes p found g).0 figures_at)

  rounds_are : n ≡ (closing p found).rounds
  rounds_are = sym (ap (λ a. a.rounds) answer_is ∙ given_rounds n (alike p q) found)

  pub arrived : Arrives whole (curves_of p) (closing p found).rounds (curves_of (closure_of p found))
  arrived = rw rounds_are at (arrives_equal (curves_of p) (figures_of cut_off q) (curves_of (closure_of p found)) n figures_at closure_equal)

  pub positive_horizon : 1 ≤ horizon (curves_of p)
  positive_horizon = (gives_passes p found g).0.0.0

  pub given_horizon : horizon (curves_of (closure_of p found)) ≡ horizon (curves_of p)
  given_horizon = closure_horizon (curves_of p) (curves_of (closure_of p found)) _ arrived

  pub given_even : length (curves_of (closure_of p found)).lower ≡ horizon (curves_of (closure_of p found))
  given_even = subst⁻¹ (λ (r : AnyPair). length (curves_of r).lower ≡ horizon (curves_of r)) closure_is (alike-even p q)

  -- No figure of it is above the limit, and it is made of its curves and the pair's mark.
  pub closure_alike : alike p (curves_of (closure_of p found)) ≡ closure_of p found
  closure_alike = alike_own p (closure_of p found) given_mark

  pub within_closed : AllWithin figure_limit (closure_of p found)
  within_closed =
      subst⁻¹ (AllWithin figure_limit) closure_is
      (within_alike p found (figures_of cut_off q) n (gives_passes p found g).0 figures_at (given_full cut_off q))

-- Without ceilings the rounds are those of the leasts alone.
module _ (h : ℕ) (ls : List ℕ) (found : Pair) where
  abbrev pub only : AnyPair
  only = unlimited h ls

  pub leasts-arrived :
      GivesClosure only found → Arrives whole (leasts_only ls) (closing only found).rounds (curves_of (closure_of only found))
  leasts-arrived g =
      subst⁻¹ (λ k. Arrives whole (curves_of (unlimited k ls)) (closing only found).rounds (curves_of (closure_of only found)))
      (leasts_even h ls found (gives_passes only found g).0) (arrived only found g)

pub closure_is_arrived_at : ClosureIsArrivedAt
closure_is_arrived_at p found g = (
  arrived p found g,
  answer_is p found g
      ∙ closed_equal found (n p found g) _ p (q p found g) (figures_of cut_off (q p found g)) (rounds_are p found g)
      (same_sym 0 _ _ (given_equal (q p found g)))
      ∙ sym (ap (λ r. given_closing (closing p found).rounds r found) (closure_is p found g)),
)

-- ---- a conforming count is at most the ceiling of one tick, so within the limit of document 01's counts
single : (s : ℕ → ℕ) (i : ℕ) → sum s i 1 ≡ s i
unfolding sum
single s i = omega (arith, ap s (add-zero i))

one_tick : (p : AnyPair) → (question1 p).asked → (question4 p).asked → upper_at (curves_of p) 1 ≤ count_limit
one_tick (limited c) y₁ y₄ = omega (arith, y₄.0 1 (omega arith) y₁.0)
one_tick (unlimited h ls) y₁ y₄ = omega (arith, highest_at h 1 (omega arith) (omega (arith, y₁.0, length-highest h)))

pub within-limit :
    (p : AnyPair) → (question1 p).asked → (question4 p).asked → (s : ℕ → ℕ) → Conforms∞ (curves_of p) s → (i : ℕ) → s i ≤ count_limit
within-limit p y₁ y₄ s c i = omega (arith, single s i, c i 1 (omega arith) y₁.0, one_tick p y₁ y₄)

abbrev pub stream_by : (p : AnyPair) → (question1 p).asked → (question4 p).asked → (s : ℕ → ℕ) → Conforms∞ (curves_of p) s → Stream
stream_by p y₁ y₄ s c = record { counts = s; within = within-limit p y₁ y₄ s c }

-- What closing asks of a figure is no less than what every operation asks.
pub own_fourth : (p : AnyPair) → (closing_question4 p).asked → (question4 p).asked
own_fourth (limited c) y = y
own_fourth (unlimited h ls) y = leasts_small figure_limit ls (omega arith) y

abbrev pub stream_of : (p : AnyPair) (found : Pair) → PassesFour p found → (s : ℕ → ℕ) → Conforms∞ (curves_of p) s → Stream
stream_of p found ok s c = stream_by p ok.0 (own_fourth p ok.1.1.1.0) s c

-- ---- a stream conforms exactly where the rounds arrive
some_stream : (p : AnyPair) (found : Pair) → PassesFour p found → Closes (curves_of p) → (s : Stream) × Conforms∞ (curves_of p) s.counts
some_stream p found ok a =
    let (s, b, c) = closure_begins (curves_of p) a.1 a.0 a.2 ok.0.0 [] (empty_conforms a.1) in
    (stream_of p found ok s c, c)

pub refused_iff_no_stream : RefusedIffNoStream
refused_iff_no_stream p found ok = (there, back)
  where
    there : closing p found ≡ refused_closing 5 found → (s : Stream) → Conforms∞ (curves_of p) s.counts → ⊥
    there e s c =
        ⊎_elim
        (λ a.
        omega (
          arith,
          ap (λ r. r.number) (sym (closed_is p found a.0 a.1 ok a.2) ∙ e),
          given_number a.0 (alike p a.1) found,
        ))
        (λ x. crossed_has_no_stream (curves_of p) x.0 x.1.crossed s.counts c)
        (arrives_or_crosses (curves_of p))

    back : ((s : Stream) → Conforms∞ (curves_of p) s.counts → ⊥) → closing p found ≡ refused_closing 5 found
    back none =
        refused_is p found 5 (fifth p found ok (λ a. none (some_stream p found ok a).0 (some_stream p found ok a).1))

pub else_closed : ElseClosed
else_closed p found ok =
    ⊎_elim
    (λ a. inr (ap (λ r. r.number) (closed_is p found a.0 a.1 ok a.2) ∙ given_number a.0 (alike p a.1) found))
    (λ x. inl ((refused_iff_no_stream p found ok).1 (λ s. crossed_has_no_stream (curves_of p) x.0 x.1.crossed s.counts)))
    (arrives_or_crosses (curves_of p))
