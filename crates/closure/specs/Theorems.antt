-- What is proved of closing, from what `closing` says alone: so it holds of any code that keeps `close`'s promise.
use Rattle.std.specs.Prelude.{ℕ, ◌≤◌, ◌≡◌, List, [], ◌∷◌, ◌↔◌, ◌⊎◌, take, replicate}
use Rattle.curves.specs.Streams.{Stream, sum}
use Rattle.curves.specs.Pairs.{Pair, pair_of, horizon, upper_at, lower_at}
use Rattle.curves.specs.Conformance.{Conforms, Conforms∞, Extendable, MetIn}
use Rattle.curves.specs.Rounds.{whole, Arrives, Causal}
use Rattle.curves.specs.Unlimited.{AnyPair, limited, unlimited, with_mark, curves_of, alike, mark_of, EqualPairs, LargestOverParts}
use Rattle.curves.specs.Questions.{AllYes, FirstNo}
use Rattle.bounds.specs.Bounds.{max_horizon, question1, question2, pair_questions, RoomFor}
use Rattle.closure.specs.Closing.{question3, closing_question4, closing_questions, ClosingAnswer, refused_closing, given_closing, closing}

-- The lists pass questions 1 to 4: those of the pair p, with result lists found to hold `found`.
abbrev pub PassesFour : AnyPair → Pair → Type 0
PassesFour p found = AllYes (question1 p ∷ question2 p ∷ question3 p found ∷ closing_question4 p ∷ [])

-- A closure is given: the first H entries of the result lists, with the mark.
abbrev pub GivesClosure : AnyPair → Pair → Type 0
GivesClosure p found = (closing p found).number ≡ 0

abbrev pub closure_of : AnyPair → Pair → AnyPair
closure_of p found =
    let (h, a) : ℕ × ClosingAnswer = (horizon (curves_of p), closing p found) in
    with_mark (take h a.results.upper) (take h a.results.lower) a.unlimited

-- Result lists with room for the closure of every horizon. What they hold has no effect on it.
abbrev pub room : Pair
room = pair_of (replicate max_horizon 0) (replicate max_horizon 0)

-- ---- Demand 2, its last sentence. What the rounds arrive at is given, with their count; and what is given, they arrive at.
abbrev pub GivesWhatArrives : Type 0
GivesWhatArrives =
    (p : AnyPair) (found : Pair) (n : ℕ) (q : Pair) → PassesFour p found → Arrives whole (curves_of p) n q
    → closing p found ≡ given_closing n (alike p q) found

abbrev pub ClosureIsArrivedAt : Type 0
ClosureIsArrivedAt =
    (p : AnyPair) (found : Pair) → GivesClosure p found
    → Arrives whole (curves_of p) (closing p found).rounds (curves_of (closure_of p found))
    × (closing p found ≡ given_closing (closing p found).rounds (closure_of p found) found)

-- ---- Demand 1: refused with n exactly when question n is the first that is answered no; else a closure is given.
abbrev pub ClosingRefused : Type 0
ClosingRefused =
    (p : AnyPair) (found : Pair) (n : ℕ)
    → ((1 ≤ n) × (closing p found ≡ refused_closing n found)) ↔ FirstNo (closing_questions p found) n

abbrev pub ClosureIffAllYes : Type 0
ClosureIffAllYes = (p : AnyPair) (found : Pair) → GivesClosure p found ↔ AllYes (closing_questions p found)

-- Demand 3, its second sentence.
abbrev pub RefusedIffNoStream : Type 0
RefusedIffNoStream =
    (p : AnyPair) (found : Pair) → PassesFour p found
    → (closing p found ≡ refused_closing 5 found) ↔ ((s : Stream) → Conforms∞ (curves_of p) s.counts → ⊥)

abbrev pub ElseClosed : Type 0
ElseClosed = (p : AnyPair) (found : Pair) → PassesFour p found → (closing p found ≡ refused_closing 5 found) ⊎ GivesClosure p found

-- ---- One conforming stream has, for every window d, the closure's ceiling of d in its first d ticks; another has the leasts.
abbrev pub Follows : AnyPair → (ℕ → ℕ) → Type 0
Follows p g = (s : Stream) × Conforms∞ (curves_of p) s.counts × ((d : ℕ) → d ≤ horizon (curves_of p) → sum s.counts 0 d ≡ g d)

abbrev pub FollowsUpper : Type 0
FollowsUpper = (p : AnyPair) (found : Pair) → GivesClosure p found → Follows p (upper_at (curves_of (closure_of p found)))

abbrev pub FollowsLower : Type 0
FollowsLower = (p : AnyPair) (found : Pair) → GivesClosure p found → Follows p (lower_at (curves_of (closure_of p found)))

-- A window of d ticks of some unbounded stream that conforms to p has the sum x.
abbrev pub MetBySome : AnyPair → ℕ → ℕ → Type 0
MetBySome p d x = (s : Stream) × Conforms∞ (curves_of p) s.counts × MetIn s.counts d x

-- Each figure of q up to the horizon of p is met so.
abbrev pub AllMet : AnyPair → AnyPair → Type 0
AllMet p q =
    (d : ℕ) → 1 ≤ d → d ≤ horizon (curves_of p) → MetBySome p d (upper_at (curves_of q) d) × MetBySome p d (lower_at (curves_of q) d)

-- Demand 3, its third sentence, the first half.
abbrev pub FiguresMet : Type 0
FiguresMet = (p : AnyPair) (found : Pair) → GivesClosure p found → AllMet p (closure_of p found)

-- ---- Demand 3, its third sentence, the second half: the finite streams that conform to the closure are the extendable ones.
abbrev pub ConformsIffExtendable : Type 0
ConformsIffExtendable =
    (p : AnyPair) (found : Pair) → GivesClosure p found → (xs : List ℕ)
    → Conforms (curves_of (closure_of p found)) xs ↔ Extendable (curves_of p) xs

-- ---- Demand 3, its first sentence: closures tell pairs apart exactly as their unbounded streams do.
abbrev pub EqualIffSameStreams : Type 0
EqualIffSameStreams =
    (p p' : AnyPair) (found found' : Pair) → GivesClosure p found → GivesClosure p' found' → horizon (curves_of p) ≡ horizon (curves_of p')
    → EqualPairs (closure_of p found) (closure_of p' found')
    ↔ ((s : Stream) → Conforms∞ (curves_of p) s.counts ↔ Conforms∞ (curves_of p') s.counts)

-- ---- The mark of a closure is the pair's.
abbrev pub MarkGiven : Type 0
MarkGiven = (p : AnyPair) (found : Pair) → GivesClosure p found → (closing p found).unlimited ≡ mark_of p

-- ---- A closure is causal, passes questions 1, 2 and 4, and closing it gives it back after 0 rounds. Of an unlimited pair it may have
-- leasts above 65,535, which closing refuses with 4.
abbrev pub GivenIsCausal : Type 0
GivenIsCausal = (p : AnyPair) (found : Pair) → GivesClosure p found → Causal (curves_of (closure_of p found))

abbrev pub ClosurePasses : Type 0
ClosurePasses = (p : AnyPair) (found : Pair) → GivesClosure p found → AllYes (pair_questions (closure_of p found))

-- What closing asks of q besides, where p has no ceilings, and so q has none.
abbrev pub Closable : AnyPair → AnyPair → Type 0
Closable (limited p) q = Unit {0}
Closable (unlimited h ls) q = (closing_question4 q).asked

abbrev pub ClosedAgain : Type 0
ClosedAgain =
    (p : AnyPair) (found again : Pair) → GivesClosure p found → RoomFor (horizon (curves_of p)) again → Closable p (closure_of p found)
    → closing (closure_of p found) again ≡ given_closing 0 (closure_of p found) again

-- A pair is causal exactly where it is its own closure.
abbrev pub CausalIffGivenBack : Type 0
CausalIffGivenBack =
    (p : AnyPair) (found : Pair) → PassesFour p found
    → Causal (curves_of p) ↔ (GivesClosure p found × EqualPairs (closure_of p found) p)

-- ---- Unlimited pairs (request P7): closing is never refused with 5, and gives each window the largest sum of leasts over its parts.
abbrev pub UnlimitedCloses : Type 0
UnlimitedCloses = (h : ℕ) (ls : List ℕ) (found : Pair) → PassesFour (unlimited h ls) found → GivesClosure (unlimited h ls) found

abbrev pub ClosesToLargest : Type 0
ClosesToLargest =
    (h : ℕ) (ls : List ℕ) (found : Pair) → GivesClosure (unlimited h ls) found
    → (d : ℕ) → 1 ≤ d → d ≤ h → LargestOverParts ls d (lower_at (curves_of (closure_of (unlimited h ls) found)) d)
