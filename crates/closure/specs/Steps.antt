-- What the private functions of this crate promise each other. `close`'s promise cites nothing of it.
use Rattle.std.specs.Prelude.{ℕ, ◌+◌, ◌-◌, ◌≤◌, ◌<◌, min, ◌≡◌, Bool, true, false, Option, Some, None, List, [], ◌∷◌, length, get_or}
use Rattle.laws.specs.Ranges.{fold, table}
use Rattle.laws.specs.Tests.{Tells, Each}
use Rattle.curves.specs.Pairs.{Pair, pair_of, horizon, figure, FiguresWithin}
use Rattle.curves.specs.Rounds.{whole, cut_off, round, figures_of, Arrives, Crosses}
use Rattle.curves.specs.Unlimited.{limited, AllWithin}
use Rattle.curves.specs.Theorems.{leasts_only}
use Rattle.bounds.specs.Bounds.{max_horizon, figure_limit}
use Rattle.closure.specs.Closing.{least_limit}
use Rattle.closure.specs.Widths.{sum_limit, EveryTwo, HalfWidth}

-- ---- one round
-- The lower list and the two that are lent, as found, are as long as the upper list.
abbrev pub SameLengths : Pair → Pair → Type 0
SameLengths p found = Each (λ n. n ≡ horizon p) (length p.lower ∷ length found.upper ∷ length found.lower ∷ [])

-- The lists that a round is computed for: besides, of at most 256 entries, and its sums and differences keep their limits.
abbrev pub Ready : Pair → Pair → Type 0
Ready p found = SameLengths p found × (horizon p ≤ max_horizon) × HalfWidth (figures_of whole p)

-- What is added to a ceiling, and what a least is taken from: 2^25. So a larger least is a smaller number, the better of two figures is the
-- smaller for both curves, and a difference is a sum that keeps its sign: a ceiling's is 2^26 and it, a least's 2^26 less it.
abbrev pub lift : ℕ
lift = 33_554_432

-- What a row has where it has no window, above all that a window can have: 2^27.
abbrev pub no_figure : ℕ
no_figure = 134_217_728

-- No entry of a list is above the number.
abbrev pub NoneAbove : ℕ → List ℕ → Type 0
NoneAbove n xs = (i : ℕ) → get_or xs i 0 ≤ n

-- A row is one curve's list with places before and behind it that have no window. Its figure of a window of d ticks.
abbrev pub in_row : List ℕ → ℕ → ℕ
in_row row d = get_or row (d + 3) 0

-- A row up to the horizon H: four places, the windows, and four places or more.
pub record IsRow (H : ℕ) (row : List ℕ) : Type 0 where
  pub short : H ≤ max_horizon
  pub long : H + 8 ≤ length row
  pub front : (i : ℕ) → i < 4 → get_or row i 0 ≡ no_figure
  pub back : (i : ℕ) → H + 4 ≤ i → i < length row → get_or row i 0 ≡ no_figure

-- Two figures of two rows together, their two lifts taken off, are no further from 0 than n. So it is with the sums of a row, where n is
-- 33,553,920, and with the differences of two rows, where it is 16,776,960.
abbrev pub WithinOfTwo : ℕ → ℕ → List ℕ → List ℕ → Type 0
WithinOfTwo n H own other =
    EveryTwo H (λ a b. (lift + lift ≤ in_row own a + in_row other b + n) × (in_row own a + in_row other b ≤ lift + lift + n))

abbrev pub SumsWithin : ℕ → List ℕ → Type 0
SumsWithin H own = WithinOfTwo sum_limit H own own

abbrev pub DifferencesWithin : ℕ → List ℕ → List ℕ → Type 0
DifferencesWithin H own other = WithinOfTwo figure_limit H own other

-- The row of the figures f 1 to f H.
abbrev pub RowOf : (ℕ → ℕ) → ℕ → List ℕ → Type 0
RowOf f H row = IsRow H row × ((d : ℕ) → 1 ≤ d → d ≤ H → in_row row d ≡ f d)

-- Each entry of the row and each of the numbers can be added in 32 bits.
abbrev pub Addable : List ℕ → List ℕ → Type 0
Addable row numbers = NoneAbove no_figure row × NoneAbove no_figure numbers

-- The smallest of x and of the row's four entries from i on, each plus its number.
abbrev pub smallest_of_five : List ℕ → List ℕ → ℕ → ℕ → ℕ
smallest_of_five row n i x =
    min
    (min
    (min (min x (get_or row i 0 + get_or n 0 0)) (get_or row (i + 1) 0 + get_or n 1 0))
    (get_or row (i + 2) 0 + get_or n 2 0))
    (get_or row (i + 3) 0 + get_or n 3 0)

-- Every entry of a list lowered so, from the row's first on.
abbrev pub lowered_to_sums : List ℕ → List ℕ → List ℕ → List ℕ
lowered_to_sums row n found = table (λ d. smallest_of_five row n (d - 1) (figure 0 found d)) (length found)

-- The best of each window to begin with: its own figure, lifted once more, as sums and differences are lifted twice.
abbrev pub begun : List ℕ → ℕ → List ℕ
begun own H = table (λ d. in_row own d + lift) H

-- The curve's min-plus convolution with itself: the best of d ticks so far, and the sum of its two parts, wherever it is cut.
abbrev pub convolved : List ℕ → List ℕ → List ℕ
convolved own found =
    table (λ d. fold min (figure 0 found d) (λ a. in_row own a + in_row own (d - a)) (d - 1)) (length found)

-- Its deconvolution with the other curve: the best of d ticks so far, and what a longer window leaves it.
abbrev pub deconvolved : List ℕ → List ℕ → List ℕ → List ℕ
deconvolved own other found =
    table (λ d. fold min (figure 0 found d) (λ t. in_row own (d + t) + in_row other t) (length found - d)) (length found)

-- What a round makes of one curve.
abbrev pub tightened : List ℕ → List ℕ → ℕ → List ℕ
tightened own other H = deconvolved own other (convolved own (begun own H))

-- ---- the rounds
-- The lists that rounds are run for: of at most 256 entries, and no figure is above the limit.
abbrev pub Sized : Pair → Pair → Type 0
Sized p found = SameLengths p found × AllWithin figure_limit (limited p)

abbrev pub Fit : Pair → Pair → Type 0
Fit p found = (horizon p ≤ max_horizon) × Sized p found

-- A round takes c to the pair next, and it is told whether they are the same.
pub record Advanced (c : Pair) (done : Bool) (next : Pair) : Type 0 where
  pub figures : next ≡ round cut_off c
  pub told : Tells done (next ≡ c)

-- Where the rounds of p stop, after so many that changed a figure or at a crossing, with the pair q then held.
abbrev pub Stopped : Pair → Option ℕ → Pair → Type 0
Stopped p (Some n) q = Arrives cut_off p n q
Stopped p None q = (n : ℕ) × Crosses cut_off p n

-- How the rounds of p end, with the lent lists as found and as left.
abbrev pub Ended : Pair → Option ℕ → Pair → Pair → Type 0
Ended p (Some n) found left = Arrives cut_off p n left
Ended p None found left = ((n : ℕ) × Crosses cut_off p n) × (left ≡ found)

-- ---- without ceilings
-- What question 4 asks of a figure, by the mark.
abbrev pub limit_for : Bool → ℕ
limit_for true = least_limit
limit_for false = figure_limit

-- Leasts, and a list for the closed ones.
pub record LeastsFit (ls found : List ℕ) : Type 0 where
  pub short : length ls ≤ max_horizon
  pub within : FiguresWithin least_limit ls
  pub room : length found ≡ length ls

-- How their rounds end: they always arrive.
abbrev pub LeastsEnded : List ℕ → ℕ → List ℕ → Type 0
LeastsEnded ls n left = (us : List ℕ) × Arrives whole (leasts_only ls) n (pair_of us left)

-- No two parts of the window of i + 1 ticks have more together than it has: parts of a + 1 and i − a ticks.
abbrev pub ReachesParts : List ℕ → ℕ → Type 0
ReachesParts ls i = (a : ℕ) → a < i → get_or ls a 0 + get_or ls (i - 1 - a) 0 ≤ get_or ls i 0
