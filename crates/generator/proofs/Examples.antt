-- The definitions of specs/ at small examples: each holds by computation. Assumes nothing.
use Rattle.laws.proofs.Base.{◌≡◌, refl, [], ◌∷◌, map, ⊎_map, dec_and, dec_le, dec_lt, ℕ_discrete}
use Rattle.laws.specs.Ranges.{fold, table}
use Rattle.laws.proofs.Search.{every, every?}
use Rattle.curves.specs.Streams.{sum}
use Rattle.curves.specs.Pairs.{Pair, pair_of, figure}
use Rattle.curves.specs.Unlimited.{limited, unlimited, highest}
use Rattle.curves.specs.Questions.{ask, result, refusal}
use Rattle.curves.specs.Rounds.{new_figure, round, figures_of}
use Rattle.curves.proofs.Arrival.{crossed?, equal?}
use Rattle.curves.proofs.Closure.{causal?}
use Rattle.curves.proofs.NextTick.{range_from, extremes?, range?, range_within?}
use Rattle.history.specs.States.{View, legal?}
use Rattle.generator.specs.Generating.{ranging}
use Rattle.generator.specs.Opening.{generator_opening}
use Rattle.generator.specs.Calls.{sendings}

abbrev pair : Pair
pair = pair_of (2 ∷ 3 ∷ 5 ∷ 5 ∷ []) (0 ∷ 0 ∷ 1 ∷ 3 ∷ [])

-- Held: 2, 1.
abbrev some : View
some = record { pair = limited pair; held = 2 ∷ 1 ∷ [] }

-- From lo 0 to hi 2 the choice 5 sends 2, its remainder by 3; then there is only 0 to send.
five_by_three : sendings some (5 ∷ 5 ∷ []) ≡ result 2 ∷ result 0 ∷ []
unfolding sendings ranging ask legal? ⊎_map every every? dec_and dec_le dec_lt figure range? extremes? range_from fold sum
five_by_three = refl

-- Closed curves open. A pair with a figure that no stream meets does not, although every start that conforms can be extended: two ticks
-- cannot have 3 where one has at most 1, and they have 2 at least where one has 1. Nor does one that crosses and so has no closure: 15, and
-- not 5, although no round changes its figures. 4 comes first.
openings
    : map generator_opening (
    limited pair
    ∷ limited (pair_of (1 ∷ 3 ∷ []) (0 ∷ 0 ∷ []))
    ∷ limited (pair_of (2 ∷ 4 ∷ []) (1 ∷ 1 ∷ []))
    ∷ limited (pair_of (2 ∷ []) (7 ∷ []))
    ∷ limited (pair_of (16_776_961 ∷ []) (16_776_962 ∷ []))
    ∷ []
    )
    ≡ result tt ∷ refusal 15 ∷ refusal 15 ∷ refusal 15 ∷ refusal 4 ∷ []
unfolding generator_opening ask ⊎_map every every? dec_and dec_le ℕ_discrete figure causal? crossed? equal? fold table new_figure round
    figures_of
openings = refl

-- ---- without ceilings
-- From what the leasts still ask for to 16,776,960: 0 to it, twice, as the tick before has what two ask for; 2 to it after a tick of 0;
-- then 1 to it, as three ask for 3.
abbrev sporadic : View
sporadic = record { pair = unlimited 3 (0 ∷ 2 ∷ 3 ∷ []); held = 7 ∷ [] }

ranges
    : sendings sporadic (16_776_960 ∷ 16_776_961 ∷ 0 ∷ 16_776_959 ∷ [])
    ≡ result 16_776_960 ∷ result 0 ∷ result 2 ∷ result 16_776_960 ∷ []
unfolding sendings ranging ask legal? ⊎_map every every? dec_and dec_le dec_lt figure range_within? extremes? range_from fold sum
    highest table
ranges = refl

-- 15 where a least is below the sum of those of two parts; 4 comes first.
sporadic-openings
    : map generator_opening (unlimited 3 (0 ∷ 2 ∷ 2 ∷ []) ∷ unlimited 2 (1 ∷ 1 ∷ []) ∷ unlimited 2 (1 ∷ 16_776_961 ∷ []) ∷ [])
    ≡ result tt ∷ refusal 15 ∷ refusal 4 ∷ []
unfolding generator_opening ask ⊎_map every every? dec_and dec_le ℕ_discrete figure causal? crossed? equal? fold table new_figure round
    figures_of highest
sporadic-openings = refl
