-- What is proved of pairs, streams and rounds, at any horizon and for any figures. `proofs/` proves exactly these statements.
use Rattle.std.specs.Prelude.{ℕ, ◌+◌, ◌^◌, ◌≤◌, ◌≡◌, List, ◌↔◌, ◌⊎◌, length}
use Rattle.laws.specs.Tests.{Each}
use Rattle.curves.specs.Streams.{Stream, count_limit, counts_of, sum}
use Rattle.curves.specs.Pairs.{Pair, figure, lower_at, Equal, FiguresWithin, horizon, slack}
use Rattle.curves.specs.Conformance.{Conforms, Conforms∞, Extendable}
use Rattle.curves.specs.Ticks.{then, Range}
use Rattle.curves.specs.Rounds.{whole, cut_off, after, HasAfter, Crossed, Runs, Arrives, Crosses, Causal}
use Rattle.curves.specs.Unlimited.{unlimited, curves_of, LargestOverParts, sums_after, SuperAdditive}

-- The rounds of p end with a closure.
abbrev pub Closes : Pair → Type 0
Closes p = (n : ℕ) × (q : Pair) × Arrives whole p n q

-- ---- The rounds of every pair arrive or cross: one of the two, and once.
abbrev pub ArrivesOrCrosses : Type 0
ArrivesOrCrosses = (p : Pair) → Closes p ⊎ ((n : ℕ) × Crosses whole p n)

abbrev pub NeverBoth : Type 0
NeverBoth = (p q : Pair) (m n : ℕ) → Arrives whole p m q → Crosses whole p n → ⊥

abbrev pub ArrivesOnce : Type 0
ArrivesOnce = (p q r : Pair) (m n : ℕ) → Arrives whole p m q → Arrives whole p n r → (m ≡ n) × Equal q r

abbrev pub CrossesOnce : Type 0
CrossesOnce = (p : Pair) (m n : ℕ) → Crosses whole p m → Crosses whole p n → m ≡ n

-- The bound on their count.
abbrev pub RoundsWithinSlack : Type 0
RoundsWithinSlack = (p q : Pair) (n : ℕ) → Arrives whole p n q → n ≤ slack p

-- ---- Rounds, one or any number, keep exactly the same unbounded conforming streams; where they cross, no stream conforms.
abbrev pub RoundsKeepStreams : Type 0
RoundsKeepStreams = (p q : Pair) (n : ℕ) → HasAfter whole n p q → (s : ℕ → ℕ) → Conforms∞ p s ↔ Conforms∞ q s

abbrev pub CrossedHasNoStream : Type 0
CrossedHasNoStream = (p : Pair) (n : ℕ) → Crossed whole (after whole n p) → (s : ℕ → ℕ) → Conforms∞ p s → ⊥

-- ---- Rounds with differences cut off at 0 arrive at the same, or cross, after as many rounds.
abbrev pub CutOffArrives : Type 0
CutOffArrives = (p : Pair) (n : ℕ) (q : Pair) → Arrives whole p n q ↔ Arrives cut_off p n q

abbrev pub CutOffCrosses : Type 0
CutOffCrosses = (p : Pair) (n : ℕ) → Crosses whole p n ↔ Crosses cut_off p n

-- ---- The closure is causal, and a pair is causal exactly where it is its own closure, which then takes no round.
abbrev pub ClosureIsCausal : Type 0
ClosureIsCausal = (p q : Pair) (n : ℕ) → Arrives whole p n q → Causal q

abbrev pub CausalIffOwnClosure : Type 0
CausalIffOwnClosure = (p : Pair) → Causal p ↔ ((n : ℕ) × Arrives whole p n p)

abbrev pub CausalTakesNoRound : Type 0
CausalTakesNoRound = (p : Pair) → Causal p → Arrives whole p 0 p

-- ---- One more tick: a finite stream that conforms to a causal pair has an admissible range, and goes on with the counts of it alone.
abbrev pub OneMoreTick : Type 0
OneMoreTick =
    (p : Pair) (xs : List ℕ) → 1 ≤ horizon p → Causal p → Conforms p xs
    → (r : Range p xs) × ((x : ℕ) → Conforms p (then xs x) ↔ ((r.lo ≤ x) × (x ≤ r.hi)))

-- ---- Whatever the figures: where the horizon is at most 2^k, no more than k + 1 rounds are run, and by then they arrive or cross.
abbrev pub RunsWithinLogarithm : Type 0
RunsWithinLogarithm = (p : Pair) (k n : ℕ) → horizon p ≤ 2 ^ k → Runs whole p n → n ≤ k + 1

-- The rounds of p arrive or cross, after at most m that change a figure.
abbrev pub EndsWithin : Pair → ℕ → Type 0
EndsWithin p m = ((n : ℕ) × (q : Pair) × (n ≤ m) × Arrives whole p n q) ⊎ ((n : ℕ) × (n ≤ m) × Crosses whole p n)

abbrev pub EndsWithinLogarithm : Type 0
EndsWithinLogarithm = (p : Pair) (k : ℕ) → horizon p ≤ 2 ^ k → EndsWithin p (k + 1)

-- ---- Unlimited pairs (request P7).
abbrev pub leasts_only : List ℕ → Pair
leasts_only ls = curves_of (unlimited (length ls) ls)

-- A stream conforms exactly when every window has its least.
abbrev pub LeastsAlone : Type 0
LeastsAlone =
    (h : ℕ) (ls : List ℕ) (s : Stream)
    → Conforms∞ (curves_of (unlimited h ls)) s.counts ↔ ((i d : ℕ) → 1 ≤ d → d ≤ h → figure 0 ls d ≤ sum s.counts i d)

-- So it is with a finite stream, where it has counts.
abbrev pub LeastsAloneFinite : Type 0
LeastsAloneFinite =
    (h : ℕ) (ls xs : List ℕ) → Each (λ x. x ≤ count_limit) xs
    → Conforms (curves_of (unlimited h ls)) xs
    ↔ ((i d : ℕ) → 1 ≤ d → d ≤ h → i + d ≤ length xs → figure 0 ls d ≤ sum (counts_of xs) i d)

-- The rounds of leasts that are at most what a count can be are rounds of sums alone.
abbrev pub RoundsOfSums : Type 0
RoundsOfSums = (ls : List ℕ) (n : ℕ) → FiguresWithin count_limit ls → HasAfter whole n (leasts_only ls) (leasts_only (sums_after n ls))

-- They arrive, after at most k where the horizon is at most 2^k.
abbrev pub SumsArriveWithinLogarithm : Type 0
SumsArriveWithinLogarithm =
    (ls : List ℕ) (k : ℕ) → FiguresWithin count_limit ls → length ls ≤ 2 ^ k
    → (n : ℕ) × (n ≤ k) × Arrives whole (leasts_only ls) n (leasts_only (sums_after n ls))

-- At the largest sums of leasts over parts of the window.
abbrev pub ArrivesAtLargest : Type 0
ArrivesAtLargest =
    (ls : List ℕ) (n : ℕ) (q : Pair) → FiguresWithin count_limit ls → Arrives whole (leasts_only ls) n q
    → (d : ℕ) → 1 ≤ d → d ≤ length ls → LargestOverParts ls d (lower_at q d)

-- It is its own closure exactly when no least is below the sum of those of two parts.
abbrev pub CausalIffSuperAdditive : Type 0
CausalIffSuperAdditive = (ls : List ℕ) → FiguresWithin count_limit ls → Causal (leasts_only ls) ↔ SuperAdditive ls

-- Closed or not, what conforms is extendable.
abbrev pub LeastsExtendable : Type 0
LeastsExtendable =
    (ls : List ℕ) (xs : List ℕ) → 1 ≤ length ls → FiguresWithin count_limit ls → Conforms (leasts_only ls) xs → Extendable (leasts_only ls) xs
