-- Parts of windows: what the rounds of sums have reached after n is a sum of leasts over parts, over up to 2^n of them none is larger, and
-- where they arrive none at all. So they arrive within the logarithm, at the largest. Assumes nothing.
use Rattle.laws.proofs.Table.{length-table}
use Rattle.laws.proofs.Base.{ℕ, zero, suc, ◌+◌, ◌*◌, ◌^◌, ◌≤◌, ◌≡◌, sym, ap, ◌∙◌, List, [], ◌∷◌, ◌++◌, ⊎_elim, dec_le, arith}
use Rattle.laws.proofs.Base.{length, take, drop, length-drop, add-zero}
use lib.ListN.{take-append-drop, length-take}
use Rattle.laws.specs.Tests.{Each}
use Rattle.laws.proofs.Tests.{each_append}
use Rattle.curves.specs.Streams.{count_limit}
use Rattle.curves.specs.Pairs.{figure, Pair, pair_of, horizon, upper_at, lower_at, FiguresWithin}
use Rattle.curves.specs.Rounds.{whole, Arrives}
use Rattle.curves.specs.Unlimited.{highest, sum_over, Parts, LargestOverParts, sums_round, sums_after, SuperAdditive}
use Rattle.curves.specs.Theorems.{leasts_only, SumsArriveWithinLogarithm, ArrivesAtLargest}
use Rattle.curves.proofs.Arrival.{arrives_or_crosses}
use Rattle.curves.proofs.Standing.{standing, SumsArrive, sums_length, sums_rise, sums_plus, sums_plus_at, sums_holds, sums_settled}
use Rattle.curves.proofs.Standing.{sums_arrive, arrive_sums, standing_never_crosses, standing_leasts}
use Rattle.curves.proofs.Standing.{standing_upper, standing_closure, standing_arrives}
use Rattle.curves.proofs.Closure.{closure_horizon, closure_figures}

sum-append : (f : ℕ → ℕ) (vs ws : List ℕ) → sum_over f (vs ++ ws) ≡ sum_over f vs + sum_over f ws
unfolding sum_over
sum-append f [] ws = omega arith
sum-append f (a ∷ vs) ws = omega (arith, sum-append f vs ws)

sum_halves : (f : ℕ → ℕ) (i : ℕ) (ws : List ℕ) → sum_over f (take i ws) + sum_over f (drop i ws) ≡ sum_over f ws
sum_halves f i ws = sym (sum-append f (take i ws) (drop i ws)) ∙ ap (sum_over f) (take-append-drop i ws)

-- Each part has a tick, so there are no more parts than ticks.
few_parts : (ws : List ℕ) → Each (λ a. 1 ≤ a) ws → length ws ≤ sum_over (λ a. a) ws
unfolding sum_over
few_parts [] p = omega arith
few_parts (a ∷ ws) p = omega (arith, p.0, few_parts ws p.1)

module _ (ls : List ℕ) where
  -- x is a sum of leasts over parts of a window of d ticks.
  abbrev Reached : ℕ → ℕ → Type 0
  Reached d x = (ws : List ℕ) × Parts d ws × (sum_over (figure 0 ls) ws ≡ x)

  join : {a b x y : ℕ} → Reached a x → Reached b y → Reached (a + b) (x + y)
  join (vs, (p, e), r) (ws, (p', e'), r') = (
    vs ++ ws,
    (each_append _ vs ws p p', omega (arith, sum-append (λ a. a) vs ws)),
    omega (arith, sum-append (figure 0 ls) vs ws),
  )

  reached : (n d : ℕ) → 1 ≤ d → d ≤ length ls → Reached d (figure 0 (sums_after n ls) d)
  unfolding sums_after sum_over
  reached zero d u v = (d ∷ [], ((u, tt), omega arith), omega arith)
  reached (suc n) d u v =
      sums_holds (sums_after n ls) (Reached d) d u (rw (sums_length n ls) v) (reached n d u v)
      (λ a b p q e. rw e at (join (reached n a p (omega arith)) (reached n b q (omega arith))))

  -- Over at most 2^j parts, cut into halves, no sum is above what j rounds have reached.
  halved : (j : ℕ) (ws : List ℕ) → length ws ≤ 2 ^ j → sum_over (λ a. a) ws ≤ length ls
      → sum_over (figure 0 ls) ws ≤ figure 0 (sums_after j ls) (sum_over (λ a. a) ws)
  unfolding sums_after sum_over
  halved zero [] l v = omega arith
  halved zero (a ∷ []) l v = rw (add-zero a) (omega arith)
  halved zero (a ∷ b ∷ ws) l v = absurd (omega arith)
  halved (suc j) ws l v =
      let ticks = sum_halves (λ a. a) (2 ^ j) ws in
      omega (
        arith,
        halved j (take (2 ^ j) ws) (omega (arith, length-take (2 ^ j) ws)) (omega (arith, ticks)),
        halved j (drop (2 ^ j) ws) (omega (arith, length-drop (2 ^ j) ws)) (omega (arith, ticks)),
        sum_halves (figure 0 ls) (2 ^ j) ws,
        sums_plus_at (sums_after j ls) (sum_over (λ a. a) (take (2 ^ j) ws)) (sum_over (λ a. a) (drop (2 ^ j) ws)) _ ticks
            (rw (sums_length j ls) v),
      )

  -- After k rounds, at a horizon of at most 2^k, that is every sum: a further round changes nothing.
  sums_settle : (k : ℕ) → length ls ≤ 2 ^ k → SuperAdditive (sums_after k ls)
  sums_settle k h a b u v w =
      let w' : a + b ≤ length ls = rw (sums_length k ls) at w in
      let (ws, (p, e), r) = join (reached k a u (omega arith)) (reached k b v (omega arith)) in
      omega (arith, halved k ws (omega (arith, few_parts ws p)) (omega arith), ap (figure 0 (sums_after k ls)) e)

  -- Where the rounds have arrived, no sum over any parts is larger.
  sums_rises : (n d : ℕ) → d ≤ length ls → figure 0 ls d ≤ figure 0 (sums_after n ls) d
  unfolding sums_after
  sums_rises zero d v = omega arith
  sums_rises (suc n) d v = omega (arith, sums_rises n d v, sums_rise (sums_after n ls) d (rw (sums_length n ls) v))

  none_larger : (n : ℕ) → sums_round (sums_after n ls) ≡ sums_after n ls → (ws : List ℕ) → sum_over (λ a. a) ws ≤ length ls
      → sum_over (figure 0 ls) ws ≤ figure 0 (sums_after n ls) (sum_over (λ a. a) ws)
  unfolding sum_over
  none_larger n s [] v = omega arith
  none_larger n s (a ∷ ws) v =
      omega (
        arith,
        sums_rises n a (omega arith),
        none_larger n s ws (omega arith),
        rw s at (sums_plus (sums_after n ls) a (sum_over (λ a. a) ws) (rw (sums_length n ls) v)),
      )

-- ---- with M a tick in the place of missing ceilings
pub standing_arrives_within : (M : ℕ) (ls : List ℕ) (k : ℕ) → FiguresWithin M ls → length ls ≤ 2 ^ k
    → (n : ℕ) × (n ≤ k) × Arrives whole (standing M ls) n (standing M (sums_after n ls))
standing_arrives_within M ls k h l =
    ⊎_elim
    (λ a.
    let (n, q, r) = a in
    let s : SumsArrive ls n = arrive_sums M ls h n q r in
    (n, few n s, sums_arrive M ls h n s))
    (λ x. absurd (standing_never_crosses M ls x.0 h x.1))
    (arrives_or_crosses (standing M ls))
  where
    few : (n : ℕ) → SumsArrive ls n → n ≤ k
    few n s =
        elim (dec_le n k) [
          | yes m ↦ m
          | no m ↦ absurd (s.changes k (omega arith) ((sums_settled (sums_after k ls)).1 (sums_settle ls k l)))
        ]

pub standing_largest : (M : ℕ) (ls : List ℕ) (n : ℕ) (q : Pair) → FiguresWithin M ls → Arrives whole (standing M ls) n q
    → (d : ℕ) → 1 ≤ d → d ≤ length ls → LargestOverParts ls d (lower_at q d)
standing_largest M ls n q h a d u v =
    rw (standing_leasts M ls n q h a d u v)
    (record {
      reached = reached ls n d u v;
      largest = λ ws p. rw p.1 at (none_larger ls n (arrive_sums M ls h n q a).settled ws (omega (arith, p.1)));
    })

pub sums_arrive_within_logarithm : SumsArriveWithinLogarithm
unfolding highest
sums_arrive_within_logarithm ls k = standing_arrives_within count_limit ls k

pub arrives_at_largest : ArrivesAtLargest
unfolding highest
arrives_at_largest ls n q = standing_largest count_limit ls n q

-- ---- the curves that stand for an unlimited pair
-- No round lowers what stands in the ceilings' place.
pub leasts_upper : (ls : List ℕ) (n : ℕ) (q : Pair) → FiguresWithin count_limit ls → Arrives whole (leasts_only ls) n q
    → (d : ℕ) → 1 ≤ d → d ≤ length ls → upper_at q d ≡ d * count_limit
unfolding highest
leasts_upper ls n q h a d u v =
    let e : horizon q ≡ length ls = closure_horizon (standing count_limit ls) q n a ∙ length-table (λ k. k * count_limit) (length ls) in
    (standing_closure count_limit ls n q h a).uppers d u (omega arith)
    ∙ standing_upper count_limit (sums_after n ls) d (rw (sums_length n ls) v)

-- A closed least is no larger than its window times the largest least.
pub leasts_figures : (M : ℕ) (ls : List ℕ) (n : ℕ) (q : Pair) → M ≤ count_limit → FiguresWithin M ls → Arrives whole (leasts_only ls) n q
    → (d : ℕ) → 1 ≤ d → d ≤ length ls → lower_at q d ≤ d * M
unfolding highest
leasts_figures M ls n q m h a d u v =
    let small : FiguresWithin count_limit ls = λ k i j. omega (arith, h k i j) in
    let r = standing_arrives count_limit M ls n q small h a in
    let low = closure_figures (standing M ls) _ n r d u (rw (length-table (λ k. k * M) (length ls)) v) in
    omega (arith, low, standing_upper M ls d v)

-- Rounds that are run with M a tick in that place arrive at the same leasts, after as many.
pub leasts_arrive : (M : ℕ) (ls : List ℕ) (n : ℕ) (q : Pair) → M ≤ count_limit → FiguresWithin M ls → Arrives whole (standing M ls) n q
    → Arrives whole (leasts_only ls) n (pair_of (highest (length ls)) q.lower)
unfolding highest
leasts_arrive M ls n q m h a = standing_arrives M count_limit ls n q h (λ d u v. omega (arith, h d u v)) a
