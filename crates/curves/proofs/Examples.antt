-- The definitions of specs/ at small examples: each holds by computation. Assumes nothing.
use Rattle.laws.proofs.Base.{ℕ, ◌^◌, ◌≤◌, ◌≡◌, refl, [], ◌∷◌, dec_and, dec_le, dec_lt, ℕ_discrete, arith}
use lib.IntN.{pos, negsuc}
use Rattle.laws.specs.Ranges.{fold, table}
use Rattle.laws.proofs.Search.{every}
use Rattle.curves.specs.Streams.{sum, counts_of}
use Rattle.curves.specs.Pairs.{Pair, pair_of, horizon, figure, upper_at, slack}
use Rattle.curves.specs.Ticks.{newest, passed, too_many, too_few}
use Rattle.curves.specs.Margins.{margin_between}
use Rattle.curves.specs.Rounds.{whole, cut_off, new_figure, round, figures_of, after, Runs, Arrives}
use Rattle.curves.proofs.Arrival.{crossed?, equal?}
use Rattle.curves.proofs.Computed.{left?, same?, runs?, arrives?, arrives_computed}
use Rattle.curves.proofs.Verdicts.{inside?, judged?, find, rejected, verdict?}

-- The pair of the published triples, and one whose first round has a negative ceiling.
abbrev published : Pair
published = pair_of (3 ∷ 6 ∷ 3 ∷ 12 ∷ 9 ∷ []) (0 ∷ 0 ∷ 0 ∷ 0 ∷ 5 ∷ [])

abbrev falling : Pair
falling = pair_of (9 ∷ 1 ∷ []) (5 ∷ 0 ∷ [])

window_sum : sum (counts_of (0 ∷ 2 ∷ 1 ∷ 0 ∷ 2 ∷ 0 ∷ [])) 1 4 ≡ 5
unfolding sum
window_sum = refl

fourth_upper : upper_at published 4 ≡ 12
unfolding figure
fourth_upper = refl

published_slack : slack published ≡ 28
unfolding fold figure
published_slack = refl

negative_upper : (after whole 1 falling).upper ≡ negsuc 3 ∷ pos 1 ∷ []
unfolding after figures_of round new_figure fold table figure
negative_upper = refl

-- Cut off at 0 the same ceiling is 0; the leasts are the same, and cross with either.
cut_off_upper : after cut_off 1 falling ≡ pair_of (0 ∷ 1 ∷ []) (5 ∷ 10 ∷ [])
unfolding after figures_of round new_figure fold table figure
cut_off_upper = refl

exact_lower : (after whole 1 falling).lower ≡ pos 5 ∷ pos 10 ∷ []
unfolding after figures_of round new_figure fold table figure
exact_lower = refl

published_first : (after whole 1 published).upper ≡ pos 3 ∷ pos 3 ∷ pos 3 ∷ pos 6 ∷ pos 9 ∷ []
unfolding after figures_of round new_figure fold table figure
published_first = refl

published_closed : after whole 4 published ≡ figures_of whole (pair_of (1 ∷ 2 ∷ 3 ∷ 4 ∷ 5 ∷ []) (1 ∷ 2 ∷ 3 ∷ 4 ∷ 5 ∷ []))
unfolding after figures_of round new_figure fold table figure
published_closed = refl

-- ---- as many rounds as a pair can take: at a horizon of 3, which is at most 2^2, and at one of 5, which is at most 2^3
three_rounds : Arrives whole (pair_of (2 ∷ 2 ∷ 3 ∷ []) (0 ∷ 2 ∷ 0 ∷ [])) 3 (pair_of (1 ∷ 2 ∷ 3 ∷ []) (1 ∷ 2 ∷ 3 ∷ []))
unfolding arrives? runs? left? same? crossed? equal? every dec_le ℕ_discrete after figures_of round new_figure fold table figure
three_rounds = arrives_computed _ 3 _ tt

four_rounds : Arrives whole published 4 (pair_of (1 ∷ 2 ∷ 3 ∷ 4 ∷ 5 ∷ []) (1 ∷ 2 ∷ 3 ∷ 4 ∷ 5 ∷ []))
unfolding arrives? runs? left? same? crossed? equal? every dec_le ℕ_discrete after figures_of round new_figure fold table figure
four_rounds = arrives_computed published 4 _ tt

-- So no smaller bound than k + 1 holds for every k.
no_smaller : ¬ ((p : Pair) (k n : ℕ) → horizon p ≤ 2 ^ k → Runs whole p n → n ≤ k)
no_smaller h = omega (arith, h _ 2 3 (omega arith) three_rounds.runs)

-- ---- the newest tick
newest_two : newest 2 (1 ∷ 2 ∷ 3 ∷ []) ≡ 2 ∷ 3 ∷ []
newest_two = refl

-- After 0, 2, 1, 0, 2, 0 on the published pair: 2 is too many for three ticks, 1 too few for five.
three_ticks : (verdict? published (0 ∷ 2 ∷ 1 ∷ 0 ∷ 2 ∷ 0 ∷ 2 ∷ [])).0 ≡ too_many 3
unfolding verdict? find rejected inside? judged? dec_le dec_lt dec_and sum figure
three_ticks = refl

five_ticks : (verdict? published (0 ∷ 2 ∷ 1 ∷ 0 ∷ 2 ∷ 0 ∷ 1 ∷ [])).0 ≡ too_few 5
unfolding verdict? find rejected inside? judged? dec_le dec_lt dec_and sum figure
five_ticks = refl

-- A window that would reach before the first tick is not judged.
too_early : (verdict? (pair_of (9 ∷ 9 ∷ []) (0 ∷ 5 ∷ [])) (1 ∷ [])).0 ≡ passed
unfolding verdict? find rejected inside? judged? dec_le dec_lt dec_and sum figure
too_early = refl

-- The shorter window decides, here with too few before the longer has too many.
shorter_first : (verdict? (pair_of (9 ∷ 3 ∷ []) (2 ∷ 0 ∷ [])) (3 ∷ 1 ∷ [])).0 ≡ too_few 1
unfolding verdict? find rejected inside? judged? dec_le dec_lt dec_and sum figure
shorter_first = refl

-- In one window 'too many' is looked at first.
many_first : (verdict? (pair_of (1 ∷ []) (5 ∷ [])) (3 ∷ [])).0 ≡ too_many 1
unfolding verdict? find rejected inside? judged? dec_le dec_lt dec_and sum figure
many_first = refl

-- ---- the margin of one window
-- Inside, nearer to the one limit or to the other; on a limit, and outside on either side.
inside_margins : (margin_between 10 2 7 ≡ pos 3) × (margin_between 10 2 5 ≡ pos 3) × (margin_between 10 2 4 ≡ pos 2)
inside_margins = (refl, refl, refl)

limit_margins : (margin_between 10 2 2 ≡ pos 0) × (margin_between 10 2 12 ≡ negsuc 1) × (margin_between 10 2 0 ≡ negsuc 1)
limit_margins = (refl, refl, refl)

-- Where the figures cross it is negative on both limits, between them and beyond.
crossing_margins : (margin_between 2 5 2 ≡ negsuc 2) × (margin_between 2 5 5 ≡ negsuc 2) × (margin_between 2 5 3 ≡ negsuc 1)
    × (margin_between 2 5 0 ≡ negsuc 4) × (margin_between 2 5 6 ≡ negsuc 3)
crossing_margins = (refl, refl, refl, refl, refl)
