-- The definitions of a round in 32 bits at small examples: each holds by computation. Assumes nothing.
use Rattle.laws.proofs.Base.{ℕ, ◌≡◌, refl, List, [], ◌∷◌, dec_le}
use lib.IntN.{pos, neg_ℤ, ◌+ℤ◌, ◌-ℤ◌}
use Rattle.laws.specs.Ranges.{fold, table}
use Rattle.laws.proofs.Search.{every}
use Rattle.curves.specs.Pairs.{Pair, pair_of, figure}
use Rattle.curves.specs.Rounds.{whole, cut_off, figures_of, after}
use Rattle.curves.proofs.Arrival.{crossed?, runs_none}
use Rattle.curves.proofs.Agreement.{tied}
use Rattle.curves.proofs.Computed.{left?, left}
use Rattle.bounds.specs.Bounds.{figure_limit}
use Rattle.closure.specs.Widths.{sum_limit, RunAfter}
use Rattle.closure.specs.Steps.{no_figure, smallest_of_five, convolved, deconvolved}

-- ---- both limits are reached, in the first round of a pair with the largest figures for one tick and 0 for two
abbrev edge : Pair
edge = pair_of (figure_limit ∷ 0 ∷ []) (figure_limit ∷ 0 ∷ [])

is_run : RunAfter edge 0
unfolding left? crossed? every dec_le after figures_of table figure
is_run = (runs_none whole edge, λ x. left (crossed? (figures_of cut_off edge)) tt ((tied edge 0).crossed.0 x))

largest_sum : figure (pos 0) (after whole 0 edge).upper 1 +ℤ figure (pos 0) (after whole 0 edge).upper 1 ≡ pos sum_limit
unfolding after figures_of table figure
largest_sum = refl

lowest-difference
    : figure (pos 0) (after whole 0 edge).upper 2 -ℤ figure (pos 0) (after whole 0 edge).lower 1 ≡ neg_ℤ (pos figure_limit)
unfolding after figures_of table figure
lowest-difference = refl

-- ---- the passes, on rows of three windows with the figures 5, 9, 20 and 1, 2, 3
abbrev row : ℕ → ℕ → ℕ → List ℕ
row a b c = no_figure ∷ no_figure ∷ no_figure ∷ no_figure ∷ a ∷ b ∷ c ∷ no_figure ∷ no_figure ∷ no_figure ∷ no_figure ∷ []

sums : convolved (row 5 9 20) (50 ∷ 50 ∷ 50 ∷ []) ≡ 50 ∷ 10 ∷ 14 ∷ []
unfolding fold table figure
sums = refl

differences : deconvolved (row 5 9 20) (row 1 2 3) (50 ∷ 50 ∷ 50 ∷ []) ≡ 10 ∷ 21 ∷ 50 ∷ []
unfolding fold table figure
differences = refl

-- Four at once: 40, 5 + 30, 9 + 20, 20 + 10 and a place without a window.
four : smallest_of_five (5 ∷ 9 ∷ 20 ∷ no_figure ∷ []) (30 ∷ 20 ∷ 10 ∷ 1 ∷ []) 0 40 ≡ 29
four = refl
