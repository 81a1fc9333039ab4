-- How large the sums and differences of a round can be (request P6), over document 01's whole numbers.
use Rattle.std.specs.Prelude.{ℕ, ◌+◌, ◌≤◌, List, ℤ, pos, neg_ℤ, ◌+ℤ◌, ◌-ℤ◌, length, ◌≤ℤ◌}
use Rattle.curves.specs.Pairs.{Curves, Pair, horizon, figure, FiguresWithin}
use Rattle.curves.specs.Unlimited.{sums_after}
use Rattle.curves.specs.Rounds.{whole, after, Runs, Crossed}
use Rattle.bounds.specs.Bounds.{max_horizon, figure_limit, Bounded}
use Rattle.closure.specs.Closing.{least_limit}

-- Twice the largest figure.
abbrev pub sum_limit : ℕ
sum_limit = 33_553_920

-- Said of every two windows up to the horizon, a and b ticks long, the same one twice included.
abbrev pub EveryTwo : ℕ → (ℕ → ℕ → Type 0) → Type 0
EveryTwo H P = (a b : ℕ) → 1 ≤ a → a ≤ H → 1 ≤ b → b ≤ H → P a b

-- No sum of two figures of one curve passes 33,553,920, and no figure of one curve less a figure of the other falls below −16,776,960.
pub record HalfWidth (c : Curves ℤ) : Type 0 where
  pub upper_sums : EveryTwo (horizon c) (λ a b. (figure (pos 0) c.upper a +ℤ figure (pos 0) c.upper b) ≤ℤ pos sum_limit)
  pub lower_sums : EveryTwo (horizon c) (λ a b. (figure (pos 0) c.lower a +ℤ figure (pos 0) c.lower b) ≤ℤ pos sum_limit)
  pub upper_differences
      : EveryTwo (horizon c) (λ a b. neg_ℤ (pos figure_limit) ≤ℤ (figure (pos 0) c.upper a -ℤ figure (pos 0) c.lower b))
  pub lower_differences
      : EveryTwo (horizon c) (λ a b. neg_ℤ (pos figure_limit) ≤ℤ (figure (pos 0) c.lower a -ℤ figure (pos 0) c.upper b))

-- A round is run after n others: each of them changed a figure, and no least has come above its ceiling.
abbrev pub RunAfter : Pair → ℕ → Type 0
RunAfter p n = Runs whole p n × ¬ Crossed whole (after whole n p)

-- ---- In every round that is run no sum passes the first limit, and no difference falls below the second. All that is asked of the pair as
-- given is question 4 of its ceilings: where a round is run, no least is above its ceiling.
abbrev pub RoundsAreHalfWidth : Type 0
RoundsAreHalfWidth = (p : Pair) (n : ℕ) → Bounded p.upper → RunAfter p n → HalfWidth (after whole n p)

-- ---- Nor does a sum of two leasts without ceilings (request P7), after any number of rounds: differences are none of theirs.
abbrev pub SumsAreHalfWidth : Type 0
SumsAreHalfWidth =
    (ls : List ℕ) (n : ℕ) → length ls ≤ max_horizon → FiguresWithin least_limit ls
    → EveryTwo (length ls) (λ a b. figure 0 (sums_after n ls) a + figure 0 (sums_after n ls) b ≤ sum_limit)
