-- Demand 2, as request P2 leaves it: its first sentence is one about 'too many' and 'too few', and the generator is compared with the
-- counts that are neither; on a pair on which a generator opens, behind a stream that the monitor has passed, these are the counts that
-- pass (NeverRefused: `SendsIffPasses`). Its last sentence, on the closure, is closing's own (`GivesWhatArrives`, `ClosureIsArrivedAt`).
use Rattle.std.specs.Prelude.{ℕ, ◌≤◌, ◌≡◌, false, List, map, ◌↔◌, ◌⊎◌, Result}
use Rattle.laws.specs.Tests.{Each}
use Rattle.curves.specs.Streams.{count_limit}
use Rattle.curves.specs.Pairs.{Pair}
use Rattle.curves.specs.Unlimited.{AnyPair, limited, unlimited, curves_of}
use Rattle.curves.specs.Conformance.{Inside, Conforms}
use Rattle.curves.specs.Ticks.{then, last, Judged, Keeps, passed, too_many, too_few, Right}
use Rattle.curves.specs.Questions.{result, refusal}
use Rattle.bounds.specs.Bounds.{figure_limit}
use Rattle.history.specs.States.{view_of}
use Rattle.history.specs.Opening.{opening, fresh}
use Rattle.monitor.specs.declared.Monitor.{Monitor}
use Rattle.monitor.specs.declared.Judgement.{Judgement}
use Rattle.monitor.specs.Monitoring.{MonitorView, monitor_view_of, EqualMonitors, LegalMonitor, Ruling, judged, lost, already_failed, judging}
use Rattle.monitor.specs.Opening.{monitor_opening, fresh_monitor}
use Rattle.monitor.specs.Answers.{verdict_reply, margin_in}
use Rattle.monitor.specs.Promises.{MonitorTicked}
use Rattle.monitor.specs.Calls.{after_ticks, rulings, Tick, Ticks}
use Rattle.generator.specs.declared.Generator.{Generator}
use Rattle.generator.specs.declared.Admissible.{Admissible}
use Rattle.generator.specs.declared.SendingRefusal.{SendingRefusal}
use Rattle.generator.specs.declared.Sent.{Sent}
use Rattle.generator.specs.Generating.{RangeAnswer, ranging, sending, EqualGenerators}
use Rattle.generator.specs.Answers.{range_reply, sending_reply}
use Rattle.generator.specs.Promises.{GeneratorTicked, GeneratorRanged}
use Rattle.generator.specs.Calls.{sendings, Call, Calls, choices_of, replies_of}

-- ---- the monitor, in any legal state that has not failed, whoever built it
pub record LegalUnfailed (w : MonitorView) : Type 0 where
  pub legal : LegalMonitor w
  pub mark : w.failed ≡ false

abbrev pub Answers : MonitorView → ℕ → Ruling → Type 0
Answers w x r = judging w x ≡ result r

-- Some judged window that ends at the newest tick is outside its figures.
abbrev pub SomeOutside : Pair → List ℕ → Type 0
SomeOutside p xs = (d : ℕ) × Judged p xs d × (¬ Inside p d (last xs d))

-- The tick is answered 'too many' or 'too few'.
abbrev pub JudgedOutside : MonitorView → ℕ → Type 0
JudgedOutside w x = (d : ℕ) × (Answers w x (judged (too_many d)) ⊎ Answers w x (judged (too_few d)))

-- That is exactly when some window that ends there is outside its figures as given.
abbrev pub OutsideIffSomeWindow : Type 0
OutsideIffSomeWindow =
    (w : MonitorView) (x : ℕ) → LegalUnfailed w → JudgedOutside w x ↔ SomeOutside (curves_of w.view.pair) (then w.view.held x)

-- And the verdict is the right one, which names the shortest such window.
abbrev pub AnswersRight : Type 0
AnswersRight =
    (w : MonitorView) (x : ℕ) → LegalUnfailed w → (d : ℕ)
    → (Answers w x (judged (too_many d)) ↔ Right (curves_of w.view.pair) (then w.view.held x) (too_many d))
    × (Answers w x (judged (too_few d)) ↔ Right (curves_of w.view.pair) (then w.view.held x) (too_few d))

-- It is 'lost' exactly when no window is outside its figures as given, and some is outside the closed figures that the state holds.
abbrev pub LostIffOutsideClosed : Type 0
LostIffOutsideClosed =
    (w : MonitorView) (x : ℕ) → LegalUnfailed w
    → Answers w x lost ↔ (Keeps (curves_of w.view.pair) (then w.view.held x) × SomeOutside w.closed (then w.view.held x))

-- And it passes exactly when every window keeps both.
abbrev pub PassesIffInsideBoth : Type 0
PassesIffInsideBoth =
    (w : MonitorView) (x : ℕ) → LegalUnfailed w
    → Answers w x (judged passed) ↔ (Keeps (curves_of w.view.pair) (then w.view.held x) × Keeps w.closed (then w.view.held x))

-- ---- the monitor, freshly opened, over a whole stream
abbrev pub Opens : AnyPair → Type 0
Opens p = monitor_opening p ≡ result tt

abbrev pub AllPass : AnyPair → List ℕ → Type 0
AllPass p xs = Each (λ r. r ≡ result (judged passed)) (rulings (fresh_monitor p) xs)

-- While every tick has passed, 'too many' and 'too few' are right for the whole stream so far: the state holds its last ticks only.
abbrev pub RightOfWholeStream : Type 0
RightOfWholeStream =
    (p : AnyPair) → Opens p → (xs : List ℕ) → AllPass p xs → (x d : ℕ)
    → (Answers (after_ticks (fresh_monitor p) xs) x (judged (too_many d)) ↔ Right (curves_of p) (then xs x) (too_many d))
    × (Answers (after_ticks (fresh_monitor p) xs) x (judged (too_few d)) ↔ Right (curves_of p) (then xs x) (too_few d))

-- Once a tick is rejected, every later one is answered 'already failed'.
abbrev pub NothingPassesAfter : Type 0
NothingPassesAfter =
    (p : AnyPair) → Opens p → (xs : List ℕ) → AllPass p xs → (x : ℕ) → (¬ AllPass p (then xs x)) → (ys : List ℕ)
    → Each (λ r. r ≡ result already_failed) (rulings (after_ticks (fresh_monitor p) (then xs x)) ys)

-- ---- the generator on the same history
-- The count is neither 'too many' nor 'too few' to a monitor.
abbrev pub Neither : MonitorView → ℕ → Type 0
Neither w x = ¬ JudgedOutside w x

-- What it offers of them: every count; without ceilings, those up to 16,776,960 (request P7).
abbrev pub Offered : AnyPair → ℕ → Type 0
Offered (limited p) x = Unit {0}
Offered (unlimited h ls) x = x ≤ figure_limit

abbrev pub OffersNeither : MonitorView → ℕ → Type 0
OffersNeither w x = Neither w x × Offered w.view.pair x

-- A count is sent by some choice exactly when it is neither, and offered.
abbrev pub SendsIffNeither : Type 0
SendsIffNeither =
    (w : MonitorView) → LegalUnfailed w → (x : ℕ)
    → ((choice : ℕ) × (choice ≤ count_limit) × (sending w.view choice ≡ result x)) ↔ OffersNeither w x

-- The range, and a tick with any choice, are refused with 13 exactly when every count that is offered is 'too many' or 'too few'.
abbrev pub NoCountIffAllOutside : Type 0
NoCountIffAllOutside =
    (w : MonitorView) → LegalUnfailed w
    → let all : Type 0 = (x : ℕ) → Offered w.view.pair x → JudgedOutside w x in
    ((ranging w.view ≡ refusal 13) ↔ all) × ((choice : ℕ) → (sending w.view choice ≡ refusal 13) ↔ all)

-- The range shows the smallest and the largest count that is neither, and offered.
pub record SmallestAndLargest (w : MonitorView) (b : RangeAnswer) : Type 0 where
  pub lo_neither : OffersNeither w b.lo
  pub hi_neither : OffersNeither w b.hi
  pub smallest : (x : ℕ) → OffersNeither w x → b.lo ≤ x
  pub largest : (x : ℕ) → OffersNeither w x → x ≤ b.hi

abbrev pub RangeShowsExtremes : Type 0
RangeShowsExtremes = (w : MonitorView) → LegalUnfailed w → (b : RangeAnswer) → (ranging w.view ≡ result b) ↔ SmallestAndLargest w b

-- From a state with no tick, on any pair that passes questions 1, 2 and 4, the lists of counts that can be sent are the conforming ones,
-- of counts that are offered.
abbrev pub SendsConforming : Type 0
SendsConforming =
    (p : AnyPair) → opening p ≡ result tt → (xs : List ℕ)
    → (Conforms (curves_of p) xs × Each (Offered p) xs)
    ↔ ((choices : List ℕ) × Each (λ c. c ≤ count_limit) choices × (sendings (fresh p) choices ≡ map result xs))

-- ---- only the view of a state has an effect
-- Any results that the monitor's promise allows, tick after tick, are those of the rulings.
abbrev pub TicksAreRulings : Type 0
TicksAreRulings =
    (m : Monitor) (ts : List Tick) → Ticks m ts
    → map (λ (t : Tick). verdict_reply t.judgement.verdict) ts ≡ rulings (monitor_view_of m) (map (λ (t : Tick). t.count) ts)

-- Likewise of the generator's, whatever ranges are asked for between the ticks.
abbrev pub CallsAreSendings : Type 0
CallsAreSendings = (g : Generator) (cs : List Call) → Calls g cs → replies_of cs ≡ sendings (view_of g.history) (choices_of cs)

-- Equal states get equal answers, a monitor's with equal margins (request P5), and next states that are equal.
abbrev pub EqualMonitorsAgree : Type 0
EqualMonitorsAgree =
    (m m' : Monitor) (x : ℕ) (r r' : Judgement) → EqualMonitors m m' → MonitorTicked m x r → MonitorTicked m' x r'
    → (verdict_reply r.verdict ≡ verdict_reply r'.verdict) × (margin_in r ≡ margin_in r') × EqualMonitors r.next r'.next

abbrev pub EqualGeneratorsAgree : Type 0
EqualGeneratorsAgree =
    (g g' : Generator) (choice : ℕ) (r r' : Sent) → EqualGenerators g g' → GeneratorTicked g choice r → GeneratorTicked g' choice r'
    → (sending_reply r.sending ≡ sending_reply r'.sending) × EqualGenerators r.next r'.next

abbrev pub EqualGeneratorsRange : Type 0
EqualGeneratorsRange =
    (g g' : Generator) (a a' : Result Admissible SendingRefusal) → EqualGenerators g g' → GeneratorRanged g a → GeneratorRanged g' a'
    → range_reply a ≡ range_reply a'
