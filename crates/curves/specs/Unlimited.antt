-- Pairs without ceilings (request P7), which are called unlimited.
use Rattle.std.specs.Prelude.{ℕ, zero, suc, ◌+◌, ◌-◌, ◌*◌, ◌≤◌, max, ◌≡◌, Bool, true, false, List, [], ◌∷◌, length}
use Rattle.laws.specs.Ranges.{fold, table}
use Rattle.laws.specs.Tests.{Each}
use Rattle.curves.specs.Streams.{count_limit}
use Rattle.curves.specs.Pairs.{Pair, pair_of, horizon, figure, Equal, FiguresWithin}

-- A pair as it is given or returned: with ceilings, or without them, and then a horizon and leasts.
pub data AnyPair : Type 0 where
  limited : Pair → AnyPair
  unlimited : ℕ → List ℕ → AnyPair

-- That of two lists, ceilings first, and a mark. Where the mark is set, the list of ceilings gives the horizon and nothing else.
abbrev pub with_mark : List ℕ → List ℕ → Bool → AnyPair
with_mark us ls false = limited (pair_of us ls)
with_mark us ls true = unlimited (length us) ls

-- What a window of 1 to h ticks has where each tick has as many as a count can be: no window of a stream has more.
unfoldable pub highest : ℕ → List ℕ
highest h = table (λ d. d * count_limit) h

-- The two curves by which it is judged and closed. Without ceilings, in their place stand figures that no stream passes: that they ask
-- nothing is `LeastsAlone`, and that no round makes anything of them is `RoundsOfSums`.
abbrev pub curves_of : AnyPair → Pair
curves_of (limited p) = p
curves_of (unlimited h ls) = pair_of (highest h) ls

-- Curves as a pair of the same kind, with ceilings or without.
abbrev pub alike : AnyPair → Pair → AnyPair
alike (limited p) q = limited q
alike (unlimited h ls) q = unlimited (horizon q) q.lower

-- The mark.
abbrev pub mark_of : AnyPair → Bool
mark_of (limited p) = false
mark_of (unlimited h ls) = true

-- Equality: the same mark, horizon and figures; ceilings count where there are any.
pub record EqualPairs (p q : AnyPair) : Type 0 where
  pub marks : mark_of p ≡ mark_of q
  pub curves : Equal (curves_of p) (curves_of q)

-- No figure is above n; ceilings count where there are any.
abbrev pub AllWithin : ℕ → AnyPair → Type 0
AllWithin n (limited p) = FiguresWithin n p.upper × FiguresWithin n p.lower
AllWithin n (unlimited h ls) = FiguresWithin n ls

-- ---- the closure of an unlimited pair, in request P7's words
-- What f gives for the entries of a list, added up.
unfoldable pub sum_over : (ℕ → ℕ) → List ℕ → ℕ
sum_over f [] = 0
sum_over f (a ∷ ws) = f a + sum_over f ws

-- Parts of a window of d ticks, by their lengths: each has a tick, and together they have d.
abbrev pub Parts : ℕ → List ℕ → Type 0
Parts d ws = Each (λ a. 1 ≤ a) ws × (sum_over (λ a. a) ws ≡ d)

-- x is the largest sum of leasts over parts of a window of d ticks.
pub record LargestOverParts (ls : List ℕ) (d x : ℕ) : Type 0 where
  pub reached : (ws : List ℕ) × Parts d ws × (sum_over (figure 0 ls) ws ≡ x)
  pub largest : (ws : List ℕ) → Parts d ws → sum_over (figure 0 ls) ws ≤ x

-- Its rounds take sums of two parts alone: each least anew, all from the old ones.
unfoldable pub sums_round : List ℕ → List ℕ
sums_round ls = table (λ d. fold max (figure 0 ls d) (λ a. figure 0 ls a + figure 0 ls (d - a)) (d - 1)) (length ls)

unfoldable pub sums_after : ℕ → List ℕ → List ℕ
sums_after zero ls = ls
sums_after (suc n) ls = sums_round (sums_after n ls)

-- No least is below the sum of those of two parts of its window: the leasts are their own closure.
abbrev pub SuperAdditive : List ℕ → Type 0
SuperAdditive ls = (a b : ℕ) → 1 ≤ a → 1 ≤ b → a + b ≤ length ls → figure 0 ls a + figure 0 ls b ≤ figure 0 ls (a + b)
