-- What the private functions of this crate promise each other. No public promise cites anything of it.
use Rattle.std.specs.Prelude.{ℕ, zero, suc, ◌+◌, ◌-◌, ◌≤◌, ◌<◌, min, max, ◌≡◌, Bool, true, false, List, ◌++◌, map, ◌↔◌, length, get_or, take, drop, replicate}
use Rattle.laws.specs.Tests.{Tells}
use Rattle.curves.specs.Pairs.{figure, pair_of}
use Rattle.curves.specs.Ticks.{last, passed}
use Rattle.curves.specs.Questions.{result}
use Rattle.bounds.specs.Bounds.{max_horizon, figure_limit}
use Rattle.history.specs.States.{View, Legal}
use Rattle.history.specs.Steps.{view_with}
use Rattle.bounds.specs.declared.Curves.{Curves}
use Rattle.bounds.specs.Answers.{curves_in}
use Rattle.history.specs.declared.View as declared
use Rattle.history.specs.Answers.{view_in}
use Rattle.monitor.specs.Monitoring.{MonitorView, monitor_view, closed_in, judged}
use Rattle.monitor.specs.Calls.{rulings}
use Rattle.generator.specs.Calls.{sendings}
use Rattle.monitor.specs.declared.Verdict.{Verdict}
use Rattle.monitor.specs.declared.Verdict.TheVariants.{Passed, TooMany, TooFew, Lost, AlreadyFailed}

-- A window that is named is no longer than the longest horizon.
abbrev pub NamesWindow : Verdict → Type 0
NamesWindow Passed = Unit {0}
NamesWindow (TooMany d) = d ≤ max_horizon
NamesWindow (TooFew d) = d ≤ max_horizon
NamesWindow Lost = Unit {0}
NamesWindow AlreadyFailed = Unit {0}

-- ---- sums of the newest ticks, and figures, those of longer windows first
-- No larger sum is kept.
abbrev pub sum_limit : ℕ
sum_limit = 536_870_912

-- The sums of the newest d ticks of xs, for every d up to k, as they are kept: none above the limit.
pub record KeptSums (xs : List ℕ) (k : ℕ) (sums : List ℕ) : Type 0 where
  pub sum_is : (d : ℕ) → d ≤ k → get_or sums (length sums - 1 - d) 0 ≡ last xs d
  pub small : (d : ℕ) → d ≤ k → last xs d ≤ sum_limit

-- ---- counts that pass
-- The stricter of two ceilings and of two leasts, one as given and one closed. Without ceilings there is nothing but the least as given,
-- and for the ceiling the limit.
abbrev pub strict_ceiling : Bool → ℕ → ℕ → ℕ
strict_ceiling true given closed = sum_limit
strict_ceiling false given closed = min given closed

abbrev pub strict_least : Bool → ℕ → ℕ → ℕ
strict_least true given closed = given
strict_least false given closed = max given closed

-- Those of all windows, turned round, at the beginning of an array; `stricter` holds of a window's given and closed figure and what is made
-- of them.
pub record TurnedBy (stricter : ℕ → ℕ → ℕ → Type 0) (given closed strict : List ℕ) : Type 0 where
  pub room : length given ≤ length strict
  pub entry : (d : ℕ) → 1 ≤ d → d ≤ length given → stricter (figure 0 given d) (figure 0 closed d) (get_or strict (length given - d) 0)

-- No entry of a list is above the limit.
abbrev pub Kept : List ℕ → Type 0
Kept xs = (i : ℕ) → i < length xs → get_or xs i 0 ≤ sum_limit

-- All sums but the first, which is still to be made, are none above it.
abbrev pub LaterKept : List ℕ → Type 0
LaterKept sums = (i : ℕ) → i + 1 < length sums → get_or sums (i + 1) 0 ≤ sum_limit

-- A ceiling and a least for each sum but the last, that of no ticks.
pub record Placed (sums ceilings leasts : List ℕ) : Type 0 where
  pub sums_more : length sums ≡ length ceilings + 1
  pub leasts_same : length leasts ≡ length ceilings
  pub ceilings_kept : Kept ceilings
  pub leasts_kept : Kept leasts

-- The sum at i is within the figures there.
abbrev pub InsideAt : List ℕ → List ℕ → List ℕ → ℕ → Type 0
InsideAt sums ceilings leasts i = (get_or leasts i 0 ≤ get_or sums i 0) × (get_or sums i 0 ≤ get_or ceilings i 0)

-- A tick with the count x is added: each sum is the next one and the count, and the last stays; it is told whether all are within.
pub record Grown (sums ceilings leasts : List ℕ) (x : ℕ) (grown : List ℕ) (within : Bool) : Type 0 where
  pub whole : length grown ≡ length sums
  pub next : (i : ℕ) → i < length ceilings → get_or grown i 0 ≡ get_or sums (i + 1) 0 + x
  pub none : get_or grown (length ceilings) 0 ≡ get_or sums (length ceilings) 0
  pub told : Tells within ((i : ℕ) → i < length ceilings → InsideAt grown ceilings leasts i)

-- Two ticks are added at once: where the windows of both are within, as if the second were added after the first.
abbrev pub GrownTwice : List ℕ → List ℕ → List ℕ → ℕ → ℕ → List ℕ → Bool → Type 0
GrownTwice sums ceilings leasts x y grown within =
    (length grown ≡ length sums)
    × (within ≡ true → (middle : List ℕ) × Grown sums ceilings leasts x middle true × Grown middle ceilings leasts y grown true)

-- Every window that ends at the newest tick of xs keeps the figures, which stand turned round.
abbrev pub KeepsTurned : List ℕ → List ℕ → List ℕ → Type 0
KeepsTurned ceilings leasts xs =
    (d : ℕ) → 1 ≤ d → d ≤ length ceilings → d ≤ length xs
    → (get_or leasts (length ceilings - d) 0 ≤ last xs d) × (last xs d ≤ get_or ceilings (length ceilings - d) 0)

-- After the ticks xs, each of the first n counts does.
abbrev pub KeepFirst : List ℕ → List ℕ → List ℕ → List ℕ → ℕ → Type 0
KeepFirst ceilings leasts xs counts n =
    (n ≤ length counts) × ((k : ℕ) → k < n → KeepsTurned ceilings leasts (xs ++ take (suc k) counts))

-- The same after any ticks that have these sums, where there are ticks for every window.
abbrev pub KeepOn : List ℕ → List ℕ → List ℕ → List ℕ → ℕ → Type 0
KeepOn ceilings leasts sums counts n =
    (xs : List ℕ) → length ceilings ≤ length xs + 1 → KeptSums xs (length ceilings - 1) sums → KeepFirst ceilings leasts xs counts n

-- A monitor that has not failed, of what counts of its history and of the closed figures.
abbrev pub monitor_in : declared.View → Curves → MonitorView
monitor_in w q =
    monitor_view (view_in w) (closed_in (curves_in w.curves) (pair_of q.upper.now q.lower.now)) false

-- The first n of the counts pass.
abbrev pub PassesFirst : MonitorView → List ℕ → ℕ → Type 0
PassesFirst w counts n = (n ≤ length counts) × (rulings w (take n counts) ≡ replicate n (result (judged passed)))

-- ---- sending
-- The first n choices send the first n of the counts that are left; those behind are as found.
pub record SendsFirst (v : View) (choices found left : List ℕ) (n : ℕ) : Type 0 where
  pub within : n ≤ length choices
  pub sent : sendings v (take n choices) ≡ map result (take n left)
  pub whole : length left ≡ length found
  pub others : drop n left ≡ drop n found

-- No sum that is kept comes to it with a count that is sent.
abbrev pub no_ceiling : ℕ
no_ceiling = 1_073_741_824

-- The ceiling of the window of d + 1 ticks, by the pair's mark. Where there are none, that of one tick is the largest count that is sent,
-- and those of longer windows bind nothing.
abbrev pub ceilings_from : Bool → List ℕ → ℕ → ℕ
ceilings_from false us d = get_or us d 0
ceilings_from true us zero = figure_limit
ceilings_from true us (suc d) = no_ceiling

-- Figures f 0 to f (h - 1) that can be raised.
abbrev pub LowFigures : ℕ → (ℕ → ℕ) → Type 0
LowFigures h f = (d : ℕ) → d < h → f d ≤ no_ceiling

-- They stand raised by the limit of sums, that of the longest window first.
pub record RaisedFrom (h : ℕ) (f : ℕ → ℕ) (raised : List ℕ) : Type 0 where
  pub whole : length raised ≡ h
  pub entry : (d : ℕ) → d < h → get_or raised (h - 1 - d) 0 ≡ f d + sum_limit

-- By raised figures: whatever pair they come from sends so.
abbrev pub SendsBy : List ℕ → List ℕ → List ℕ → List ℕ → List ℕ → List ℕ → ℕ → Type 0
SendsBy ceilings leasts xs choices found left n =
    (us ls : List ℕ) (b : Bool) → RaisedFrom (length us) (ceilings_from b us) ceilings → RaisedFrom (length us) (λ d. get_or ls d 0) leasts
    → Legal (view_with us ls b xs) → SendsFirst (view_with us ls b xs) choices found left n

-- The same number, whether its 32 bits are read as signed or not.
abbrev pub Signed : ℕ → Type 0
Signed x = x < 2_147_483_648

-- A raised figure: no sum that is kept is above it.
abbrev pub Raised : ℕ → Type 0
Raised x = (sum_limit ≤ x) × Signed x

pub record FiguresRaised (ceilings leasts : List ℕ) : Type 0 where
  pub some : 1 ≤ length ceilings
  pub leasts_same : length leasts ≡ length ceilings
  pub ceilings_raised : (i : ℕ) → i < length ceilings → Raised (get_or ceilings i 0)
  pub leasts_raised : (i : ℕ) → i < length ceilings → Raised (get_or leasts i 0)

-- The limits that n windows leave of raised counts: those from lo on give each what it asks for, and those up to hi give none more than it
-- lets. The window j has the sum `sum j` without the count.
pub record Narrowed (ceiling least sum : ℕ → ℕ) (lo₀ hi₀ n lo hi : ℕ) : Type 0 where
  pub lowest : (y : ℕ) → (lo ≤ y) ↔ ((lo₀ ≤ y) × ((j : ℕ) → j < n → least j ≤ y + sum j))
  pub highest : (y : ℕ) → (y ≤ hi) ↔ ((y ≤ hi₀) × ((j : ℕ) → j < n → y + sum j ≤ ceiling j))

-- After the ticks xs: their sums are kept, of up to k of them, which is all that a window with the next tick can have. And the limits of
-- that tick's count, raised.
pub record Ready (ceilings leasts xs : List ℕ) (k : ℕ) (sums : List ℕ) (lo hi : ℕ) : Type 0 where
  pub sums_more : length sums ≡ length ceilings + 1
  pub held : k ≡ min (length ceilings - 1) (length xs)
  pub kept : KeptSums xs k sums
  pub lowest : (y : ℕ) → (lo ≤ y) ↔ ((d : ℕ) → d ≤ k → get_or leasts (length ceilings - 1 - d) 0 ≤ y + last xs d)
  pub highest : (y : ℕ) → (y ≤ hi) ↔ ((d : ℕ) → d ≤ k → y + last xs d ≤ get_or ceilings (length ceilings - 1 - d) 0)

-- What is asked where a tick is entered.
pub record Entering (sums ceilings leasts : List ℕ) (count lo hi : ℕ) : Type 0 where
  pub sums_more : length sums ≡ length ceilings + 1
  pub leasts_same : length leasts ≡ length ceilings
  pub small : (i : ℕ) → i < length ceilings → get_or sums (i + 1) 0 + count ≤ sum_limit
  pub ceilings_raised : (i : ℕ) → i < length ceilings → Raised (get_or ceilings i 0)
  pub leasts_raised : (i : ℕ) → i < length ceilings → Raised (get_or leasts i 0)
  pub lo_signed : Signed lo
  pub hi_signed : Signed hi

-- Each sum is the next one and the count, and the last, that of no ticks, stays. And the limits.
pub record Entered (sums ceilings leasts : List ℕ) (count lo₀ hi₀ : ℕ) (grown : List ℕ) (lo hi : ℕ) : Type 0 where
  pub whole : length grown ≡ length sums
  pub next : (i : ℕ) → i < length ceilings → get_or grown i 0 ≡ get_or sums (i + 1) 0 + count
  pub none : get_or grown (length ceilings) 0 ≡ get_or sums (length ceilings) 0
  pub narrowed
      : Narrowed (λ i. get_or ceilings i 0) (λ i. get_or leasts i 0) (λ i. get_or sums (i + 1) 0 + count) lo₀ hi₀ (length ceilings) lo hi
