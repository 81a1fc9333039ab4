-- Request P5: what the margin that a tick carries tells, and what is left by it.
use Rattle.std.specs.Prelude.{ℕ, ◌+◌, ◌≤◌, ◌<◌, ◌≡◌, List, map, ◌↔◌, ◌⊎◌, pos, ◌<ℤ◌}
use Rattle.curves.specs.Pairs.{Pair, figure, upper_at, lower_at}
use Rattle.curves.specs.Unlimited.{AnyPair, limited, unlimited, curves_of}
use Rattle.curves.specs.Conformance.{Inside}
use Rattle.curves.specs.Ticks.{then, last}
use Rattle.curves.specs.Margins.{Counted, AtCeiling, margin_of, Margin, Tightest}
use Rattle.curves.specs.Questions.{refusal}
use Rattle.monitor.specs.declared.Monitor.{Monitor}
use Rattle.monitor.specs.Monitoring.{MonitorView, monitor_view_of, already_failed, judging}
use Rattle.monitor.specs.Margins.{no_margin, carried}
use Rattle.monitor.specs.Opening.{fresh_monitor}
use Rattle.monitor.specs.Answers.{margin_in}
use Rattle.monitor.specs.Calls.{after_ticks, margins, Tick, Ticks}
use Rattle.guarantees.specs.Exact.{LegalUnfailed, Answers, JudgedOutside, Neither, Opens, AllPass}

-- ---- of one window
-- It is negative exactly where the sum is outside the window's figures, whether they cross or not.
abbrev pub NegativeIffOutside : Type 0
NegativeIffOutside = (p : Pair) (d x : ℕ) → (margin_of (limited p) d x <ℤ pos 0) ↔ (¬ Inside p d x)

-- It is 0 exactly on a limit, where they do not cross.
abbrev pub ZeroIffOnLimit : Type 0
ZeroIffOnLimit =
    (p : Pair) (d x : ℕ) → lower_at p d ≤ upper_at p d → (margin_of (limited p) d x ≡ pos 0) ↔ ((x ≡ upper_at p d) ⊎ (x ≡ lower_at p d))

-- Without ceilings (request P7), by the least alone.
abbrev pub NegativeIffBelow : Type 0
NegativeIffBelow = (h : ℕ) (ls : List ℕ) (d x : ℕ) → (margin_of (unlimited h ls) d x <ℤ pos 0) ↔ (x < figure 0 ls d)

abbrev pub ZeroIffOnLeast : Type 0
ZeroIffOnLeast = (h : ℕ) (ls : List ℕ) (d x : ℕ) → (margin_of (unlimited h ls) d x ≡ pos 0) ↔ (x ≡ figure 0 ls d)

-- ---- of a tick
-- In a legal state that has not failed it carries the smallest margin of the judged windows of the pair as given, with the shortest
-- window that has it, whatever it is answered.
abbrev pub CarriesTightest : Type 0
CarriesTightest =
    (w : MonitorView) (x : ℕ) → LegalUnfailed w → (m : Margin) → (carried w x ≡ m) ↔ Tightest w.view.pair (then w.view.held x) m

-- No window is judged: 12, or 'already failed'.
abbrev pub Unjudged : MonitorView → ℕ → Type 0
Unjudged w x = (judging w x ≡ refusal 12) ⊎ Answers w x already_failed

-- It carries 0 and 0 then.
abbrev pub CarriesNothing : Type 0
CarriesNothing = (w : MonitorView) (x : ℕ) → Unjudged w x → carried w x ≡ no_margin

-- While every tick of an opened monitor has passed, the windows are those of the whole stream so far.
abbrev pub TightestOfWholeStream : Type 0
TightestOfWholeStream =
    (p : AnyPair) → Opens p → (xs : List ℕ) → AllPass p xs → (x : ℕ) (m : Margin)
    → (carried (after_ticks (fresh_monitor p) xs) x ≡ m) ↔ Tightest p (then xs x) m

-- In any state, legal or not, a negative margin and 'too many' or 'too few' go together. Without ceilings that is said of counts, here and
-- below: the curves that are judged by then have a ceiling that no counts pass.
abbrev pub NegativeIffJudgedOutside : Type 0
NegativeIffJudgedOutside =
    (w : MonitorView) (x : ℕ) → Counted w.view.pair (then w.view.held x) → ((carried w x).value <ℤ pos 0) ↔ JudgedOutside w x

-- ---- what is left
-- With a margin of n, a count in its place that is larger or smaller by n or less is neither 'too many' nor 'too few', though it may be
-- lost.
abbrev pub WithinMarginNeither : Type 0
WithinMarginNeither =
    (w : MonitorView) (x n : ℕ) → LegalUnfailed w → (carried w x).value ≡ pos n
    → (y : ℕ) → Counted w.view.pair (then w.view.held y) → x ≤ y + n → y ≤ x + n → Neither w y

-- And every count that is larger by more than n is 'too many' or 'too few', or every one that is smaller by more (there may be none): the
-- window with the margin has its ceiling n above its sum, or its least n below.
abbrev pub BeyondMarginOutside : Type 0
BeyondMarginOutside =
    (w : MonitorView) (x n : ℕ) → LegalUnfailed w → (carried w x).value ≡ pos n
    → let p : AnyPair = w.view.pair in
    let d = (carried w x).window in
    let s = last (then w.view.held x) d in
    (AtCeiling p d (s + n) × ((y : ℕ) → x + n < y → JudgedOutside w y))
    ⊎ ((lower_at (curves_of p) d + n ≡ s) × ((y : ℕ) → y + n < x → JudgedOutside w y))

-- ---- any results that the monitor's promise allows, tick after tick
abbrev pub TicksCarryMargins : Type 0
TicksCarryMargins =
    (m : Monitor) (ts : List Tick) → Ticks m ts
    → map (λ (t : Tick). margin_in t.judgement) ts ≡ margins (monitor_view_of m) (map (λ (t : Tick). t.count) ts)
