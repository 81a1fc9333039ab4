-- The rounds (document 01, "The closure"), stated once over what they compute with: document 01's whole numbers, and the natural
-- numbers with differences cut off at 0 that the code's rounds come to.
use Rattle.std.specs.Prelude.{ℕ, zero, suc, ◌+◌, ◌-◌, ◌≤◌, ◌<◌, min, max, cond, ℤ, pos, ◌+ℤ◌, ◌-ℤ◌, ◌<ℤ◌}
use Rattle.std.specs.Int.Signed.{le_z}
use Rattle.laws.specs.Ranges.{fold, table}
use Rattle.curves.specs.Pairs.{Curves, horizon, figure, Same, Pair, upper_at, lower_at}

pub record Arithmetic : Type 1 where
  pub Number : Type 0
  -- A figure as such a number.
  pub of : ℕ → Number
  pub plus : Number → Number → Number
  pub minus : Number → Number → Number
  pub smaller : Number → Number → Number
  pub larger : Number → Number → Number
  -- The first is strictly below the second.
  pub Below : Number → Number → Type 0

-- Document 01's: a difference may be negative.
abbrev pub whole : Arithmetic
whole =
    record {
      Number = ℤ;
      of = pos;
      plus = ◌+ℤ◌;
      minus = ◌-ℤ◌;
      smaller = λ x y. cond (le_z x y) x y;
      larger = λ x y. cond (le_z x y) y x;
      Below = ◌<ℤ◌;
    }

-- A difference below 0 is 0.
abbrev pub cut_off : Arithmetic
cut_off =
    record {
      Number = ℕ;
      of = λ n. n;
      plus = ◌+◌;
      minus = ◌-◌;
      smaller = min;
      larger = max;
      Below = ◌<◌;
    }

module _ (A : Arithmetic) where
  -- The figure that a round gives one curve for a window of d ticks: the best of its old one; of those of two parts, a and d − a ticks,
  -- added; and of a longer window's, d + t ticks, less the other curve's for the t ticks more.
  unfoldable pub new_figure : (A.Number → A.Number → A.Number) → ℕ → (ℕ → A.Number) → (ℕ → A.Number) → ℕ → A.Number
  new_figure best H own other d =
      fold best (fold best (own d) (λ a. A.plus (own a) (own (d - a))) (d - 1))
      (λ t. A.minus (own (d + t)) (other t)) (H - d)

  -- The new ceilings, each the smallest, and the new leasts, each the largest.
  abbrev pub new_upper : Curves A.Number → ℕ → A.Number
  new_upper c = new_figure A.smaller (horizon c) (figure (A.of 0) c.upper) (figure (A.of 0) c.lower)

  abbrev pub new_lower : Curves A.Number → ℕ → A.Number
  new_lower c = new_figure A.larger (horizon c) (figure (A.of 0) c.lower) (figure (A.of 0) c.upper)

  -- A round: every figure anew, all from the old ones.
  unfoldable pub round : Curves A.Number → Curves A.Number
  round c = record { upper = table (new_upper c) (horizon c); lower = table (new_lower c) (horizon c) }

  -- Some least stands above its ceiling.
  pub record Crossed (c : Curves A.Number) : Type 0 where
    pub window : ℕ
    pub positive : 1 ≤ window
    pub within : window ≤ horizon c
    pub above : A.Below (figure (A.of 0) c.upper window) (figure (A.of 0) c.lower window)

  -- A round leaves every figure as it is.
  abbrev pub Settled : Curves A.Number → Type 0
  Settled c = Same (A.of 0) (round c) c

  -- The figures of a pair.
  unfoldable pub figures_of : Pair → Curves A.Number
  figures_of p =
      record {
        upper = table (λ d. A.of (upper_at p d)) (horizon p);
        lower = table (λ d. A.of (lower_at p d)) (horizon p);
      }

  -- The figures of a pair after n rounds, if so many are run.
  unfoldable pub after : ℕ → Pair → Curves A.Number
  after zero p = figures_of p
  after (suc n) p = round (after n p)

  -- q has the figures that p has after n rounds.
  abbrev pub HasAfter : ℕ → Pair → Pair → Type 0
  HasAfter n p q = Same (A.of 0) (after n p) (figures_of q)

  -- n rounds are run, and each changes a figure: before none of them has a least come above its ceiling, in the pair as given either.
  pub record Runs (p : Pair) (n : ℕ) : Type 0 where
    pub uncrossed : (k : ℕ) → k < n → ¬ Crossed (after k p)
    pub changes : (k : ℕ) → k < n → ¬ Settled (after k p)

  -- The rounds arrive at the closure q, after n that changed a figure.
  pub record Arrives (p : Pair) (n : ℕ) (q : Pair) : Type 0 where
    pub runs : Runs p n
    pub uncrossed : ¬ Crossed (after n p)
    pub settled : Settled (after n p)
    pub figures : HasAfter n p q

  -- The rounds end with some least above its ceiling, after n that changed a figure; there is no closure.
  pub record Crosses (p : Pair) (n : ℕ) : Type 0 where
    pub runs : Runs p n
    pub crossed : Crossed (after n p)

-- A causal pair, one that is its own closure: no least is above its ceiling, and a round changes nothing. Every finite stream that
-- conforms to it is extendable. A pair with a figure that is only loose may have that too without being its own closure.
pub record Causal (p : Pair) : Type 0 where
  pub uncrossed : ¬ Crossed whole (figures_of whole p)
  pub settled : Settled whole (figures_of whole p)
