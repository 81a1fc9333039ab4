-- The limits of a pair (document 01, questions 1, 2 and 4): what every operation on a pair asks first, and room for its results.
use Rattle.std.specs.Prelude.{ℕ, ◌≤◌, ◌≡◌, List, [], ◌∷◌, length}
use mathlib.Core.Logic.Dec.{and as dec_and}
use Rattle.std.proofs.Math.Decide.{dec_le, ℕ_discrete}
use Rattle.laws.proofs.Search.{every?}
use Rattle.curves.specs.Pairs.{Pair, horizon, figure, FiguresWithin}
use Rattle.curves.specs.Unlimited.{AnyPair, limited, unlimited, curves_of, AllWithin}
use Rattle.curves.specs.Questions.{Question, Reply, reply_to}

-- The longest horizon.
abbrev pub max_horizon : ℕ
max_horizon = 256

-- The largest figure: 256 times 65,535.
abbrev pub figure_limit : ℕ
figure_limit = 16_776_960

-- No figure of a list is above the limit.
abbrev pub Bounded : List ℕ → Type 0
Bounded us = FiguresWithin figure_limit us

-- Whether a figure is above a limit can be decided, of a list and of a pair.
abbrev pub within? : (n : ℕ) (us : List ℕ) → Dec (FiguresWithin n us)
within? n us = every? (λ d. figure 0 us d ≤ n) (length us) (λ d. dec_le (figure 0 us d) n)

abbrev pub all_within? : (n : ℕ) (p : AnyPair) → Dec (AllWithin n p)
all_within? n (limited p) = dec_and (within? n p.upper) (within? n p.lower)
all_within? n (unlimited h ls) = within? n ls

-- 1. The upper list (ceilings) has 1 to 256 entries.
abbrev pub question1 : AnyPair → Question
question1 p =
    let h : ℕ = horizon (curves_of p) in
    record { number = 1; asked = (1 ≤ h) × (h ≤ max_horizon); answered = dec_and (dec_le 1 h) (dec_le h max_horizon) }

-- 2. The lower list (leasts) has as many.
abbrev pub question2 : AnyPair → Question
question2 p =
    let (h, l) : ℕ × ℕ = (horizon (curves_of p), length (curves_of p).lower) in
    record { number = 2; asked = l ≡ h; answered = ℕ_discrete l h }

-- 4. No figure is above a limit. It is 16,776,960, but for closing an unlimited pair.
abbrev pub question4_at : ℕ → AnyPair → Question
question4_at n p = record { number = 4; asked = AllWithin n p; answered = all_within? n p }

abbrev pub question4 : AnyPair → Question
question4 p = question4_at figure_limit p

-- Those of an operation that lends no lists for results.
abbrev pub pair_questions : AnyPair → List Question
pair_questions p = question1 p ∷ question2 p ∷ question4 p ∷ []

-- What asking them answers: nothing more, or the refusal with the number of the first that is answered no.
unfoldable pub asking : AnyPair → Reply (Unit {0})
asking p = reply_to (pair_questions p) (λ _. tt)

-- Two lists that are lent for results, as found, have room for a pair with the horizon h (questions 3 and 11).
abbrev pub RoomFor : ℕ → Pair → Type 0
RoomFor h found = (h ≤ length found.upper) × (h ≤ length found.lower)

abbrev pub room_for? : (h : ℕ) (found : Pair) → Dec (RoomFor h found)
room_for? h found = dec_and (dec_le h (length found.upper)) (dec_le h (length found.lower))
