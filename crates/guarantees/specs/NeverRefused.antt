-- Request P3: what the answer of a generator's opening says of all that follows. Demand 3's last two sentences are the case of a closure;
-- its others are closing's own (`EqualIffSameStreams`, `RefusedIffNoStream`, `ElseClosed`, `FiguresMet`, `ConformsIffExtendable`).
use Rattle.std.specs.Prelude.{ℕ, ◌≤◌, ◌≡◌, true, List, map, ◌↔◌}
use Rattle.laws.specs.Tests.{Each}
use Rattle.curves.specs.Streams.{count_limit}
use Rattle.curves.specs.Pairs.{Pair, horizon}
use Rattle.curves.specs.Unlimited.{AnyPair, unlimited, curves_of, SuperAdditive}
use Rattle.curves.specs.Conformance.{Extendable}
use Rattle.curves.specs.Ticks.{passed}
use Rattle.curves.specs.Questions.{AllYes, result, refusal}
use Rattle.bounds.specs.Bounds.{figure_limit, pair_questions, RoomFor}
use Rattle.closure.specs.Closing.{given_closing, closing}
use Rattle.closure.specs.Theorems.{PassesFour, GivesClosure, closure_of, AllMet, Closable}
use Rattle.history.specs.States.{View, view_of, Legal}
use Rattle.history.specs.Opening.{fresh}
use Rattle.monitor.specs.declared.Monitor.{Monitor}
use Rattle.monitor.specs.Monitoring.{MonitorView, monitor_view_of, judged}
use Rattle.monitor.specs.Opening.{fresh_monitor}
use Rattle.monitor.specs.Calls.{after_ticks}
use Rattle.generator.specs.declared.Generator.{Generator}
use Rattle.generator.specs.declared.OpenedGenerator.{OpenedGenerator}
use Rattle.generator.specs.Generating.{RangeAnswer, ranging, sending, EqualGenerators}
use Rattle.generator.specs.Opening.{generator_opening}
use Rattle.generator.specs.Answers.{generator_opening_reply, range_reply, sending_reply}
use Rattle.generator.specs.Promises.{GeneratorOpened}
use Rattle.generator.specs.Calls.{sendings, Call, ticked, ranged, Calls, state_after, counts_sent}
use Rattle.guarantees.specs.Exact.{LegalUnfailed, Answers, Offered, AllPass}

-- ---- where a generator opens
abbrev pub GeneratorOpens : AnyPair → Type 0
GeneratorOpens p = generator_opening p ≡ result tt

-- Closing the pair gives it back with no round.
abbrev pub AlreadyClosed : AnyPair → Pair → Type 0
AlreadyClosed p found = closing p found ≡ given_closing 0 p found

-- It opens exactly there, whatever lists with room for the closure are lent; without ceilings (request P7), where no least is above what
-- closing takes.
abbrev pub OpensIffAlreadyClosed : Type 0
OpensIffAlreadyClosed =
    (p : AnyPair) (found : Pair) → RoomFor (horizon (curves_of p)) found → Closable p p → GeneratorOpens p ↔ AlreadyClosed p found

-- For lists that pass questions 1 to 4 it is refused with 15 exactly where closing gives another pair or none, or takes a round.
abbrev pub FifteenIffNotClosed : Type 0
FifteenIffNotClosed = (p : AnyPair) (found : Pair) → PassesFour p found → (generator_opening p ≡ refusal 15) ↔ (¬ AlreadyClosed p found)

-- Without ceilings, for lists that pass 1, 2 and 4: it is refused with 15 exactly where some least is below the sum of those of two parts.
abbrev pub FifteenIffNotSuperAdditive : Type 0
FifteenIffNotSuperAdditive =
    (h : ℕ) (ls : List ℕ) → AllYes (pair_questions (unlimited h ls))
    → (generator_opening (unlimited h ls) ≡ refusal 15) ↔ (¬ SuperAdditive ls)

-- For lists that pass 1, 2 and 4, by streams alone: it opens exactly where each figure is met by an unbounded stream that conforms.
abbrev pub OpensIffAllMet : Type 0
OpensIffAllMet = (p : AnyPair) → AllYes (pair_questions p) → GeneratorOpens p ↔ AllMet p p

-- ---- a generator that was opened
abbrev pub WasOpened : OpenedGenerator → Type 0
WasOpened o = generator_opening_reply o.opening ≡ result tt

abbrev pub NotRefused : Call → Type 0
NotRefused (ticked choice r) = (x : ℕ) × (sending_reply r.sending ≡ result x)
NotRefused (ranged r) = (b : RangeAnswer) × (range_reply r ≡ result b)

-- No call of any list is refused, and the counts sent begin an unbounded stream that conforms to its pair.
abbrev pub OpenedNeverRefused : Type 0
OpenedNeverRefused =
    (p : AnyPair) (o : OpenedGenerator) → GeneratorOpened p o → WasOpened o → (cs : List Call) → Calls o.state cs
    → Each NotRefused cs × Extendable (curves_of p) (counts_sent cs)

-- The same of a list of choices, told of views: every tick sends a count, of at most 16,776,960. So none of its answers is a refusal.
abbrev pub SendsAtEveryTick : Type 0
SendsAtEveryTick =
    (p : AnyPair) → GeneratorOpens p → (choices : List ℕ)
    → Each (λ a. (x : ℕ) × (x ≤ figure_limit) × (a ≡ result x)) (sendings (fresh p) choices)

-- A state that an opening and calls led to, or one equal to it. The opening may have been refused.
pub record Reached (g : Generator) : Type 0 where
  pub pair : AnyPair
  pub opened : OpenedGenerator
  pub as_promised : GeneratorOpened pair opened
  pub calls : List Call
  pub in_turn : Calls opened.state calls
  pub led_to : EqualGenerators (state_after opened.state calls) g

-- 13 comes from no such state.
abbrev pub NoCountOnlyUnreached : Type 0
NoCountOnlyUnreached =
    (g : Generator)
    → (ranging (view_of g.history) ≡ refusal 13 → ¬ Reached g)
    × ((choice : ℕ) → sending (view_of g.history) choice ≡ refusal 13 → ¬ Reached g)

-- The lists of counts that it can send are the extendable streams, of counts that are offered.
abbrev pub SendsIffExtendable : Type 0
SendsIffExtendable =
    (p : AnyPair) → GeneratorOpens p → (xs : List ℕ)
    → (Extendable (curves_of p) xs × Each (Offered p) xs)
    ↔ ((choices : List ℕ) × Each (λ c. c ≤ count_limit) choices × (sendings (fresh p) choices ≡ map result xs))

-- On the history of a monitor of the same pair that has passed every tick, it can send exactly the counts that the monitor passes next,
-- and that are offered.
abbrev pub SendsIffPasses : Type 0
SendsIffPasses =
    (p : AnyPair) → GeneratorOpens p → (xs : List ℕ) → AllPass p xs → (x : ℕ)
    → let w : MonitorView = after_ticks (fresh_monitor p) xs in
    ((choice : ℕ) × (choice ≤ count_limit) × (sending w.view choice ≡ result x))
    ↔ (Answers w x (judged passed) × Offered p x)

-- Without ceilings (request P7), in any legal state that has not failed it can send each count that the monitor passes, up to 16,776,960,
-- and no other.
abbrev pub UnlimitedSendsIffPasses : Type 0
UnlimitedSendsIffPasses =
    (m : Monitor) → m.history.unlimited ≡ true → LegalUnfailed (monitor_view_of m) → (x : ℕ)
    → ((choice : ℕ) × (choice ≤ count_limit) × (sending (view_of m.history) choice ≡ result x))
    ↔ (Answers (monitor_view_of m) x (judged passed) × (x ≤ figure_limit))

-- In any such state whose held ticks are counts, whether it has failed or not: there is a range, and its hi is 16,776,960.
abbrev pub UnlimitedAlwaysSends : Type 0
UnlimitedAlwaysSends =
    (v : View) (h : ℕ) (ls : List ℕ) → v.pair ≡ unlimited h ls → Legal v → Each (λ x. x ≤ count_limit) v.held
    → (b : RangeAnswer) × (ranging v ≡ result b) × (b.hi ≡ figure_limit)

-- ---- on a closure
-- Opening a generator is not refused.
abbrev pub OpensOnClosure : Type 0
OpensOnClosure =
    (p : AnyPair) (found : Pair) → GivesClosure p found → (o : OpenedGenerator) → GeneratorOpened (closure_of p found) o → WasOpened o

-- From there no call of any list is refused, and the counts sent begin an unbounded stream that conforms to the pair.
abbrev pub NeverRefused : Type 0
NeverRefused =
    (p : AnyPair) (found : Pair) → GivesClosure p found → (o : OpenedGenerator) → GeneratorOpened (closure_of p found) o
    → (cs : List Call) → Calls o.state cs
    → Each NotRefused cs × Extendable (curves_of p) (counts_sent cs)
