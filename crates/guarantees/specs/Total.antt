-- Demand 1 for the monitor and the generator: each refusal stands exactly where its question is the first that is answered no, and
-- changes no state. Closing, reading, rendering and the report have their own statements, in their crates.
use Rattle.std.specs.Prelude.{ℕ, ◌≡◌, [], ◌∷◌, ◌↔◌}
use Rattle.curves.specs.Unlimited.{AnyPair}
use Rattle.curves.specs.Questions.{FirstNo, refusal}
use Rattle.history.specs.States.{View}
use Rattle.bounds.specs.Bounds.{pair_questions}
use Rattle.history.specs.Opening.{opening}
use Rattle.monitor.specs.declared.Monitor.{Monitor}
use Rattle.monitor.specs.declared.Judgement.{Judgement}
use Rattle.monitor.specs.Monitoring.{MonitorView, monitor_question12, judging}
use Rattle.monitor.specs.Opening.{monitor_questions, monitor_opening}
use Rattle.monitor.specs.Answers.{verdict_reply}
use Rattle.monitor.specs.Promises.{MonitorTicked}
use Rattle.generator.specs.declared.Generator.{Generator}
use Rattle.generator.specs.declared.Sent.{Sent}
use Rattle.generator.specs.Generating.{range_questions, ranging, sending}
use Rattle.generator.specs.Opening.{generator_questions, generator_opening}
use Rattle.generator.specs.Answers.{sending_reply}
use Rattle.generator.specs.Promises.{GeneratorTicked}

-- Opening a history, which both have: 1, 2, 4.
abbrev pub OpeningRefused : Type 0
OpeningRefused = (p : AnyPair) (n : ℕ) → (opening p ≡ refusal n) ↔ FirstNo (pair_questions p) n

-- Opening a monitor: 1, 2, 4, 5.
abbrev pub MonitorOpeningRefused : Type 0
MonitorOpeningRefused = (p : AnyPair) (n : ℕ) → (monitor_opening p ≡ refusal n) ↔ FirstNo (monitor_questions p) n

-- Opening a generator: 1, 2, 4, 15.
abbrev pub GeneratorOpeningRefused : Type 0
GeneratorOpeningRefused = (p : AnyPair) (n : ℕ) → (generator_opening p ≡ refusal n) ↔ FirstNo (generator_questions p) n

-- A tick of the monitor: 12, on a failed state too.
abbrev pub JudgingRefused : Type 0
JudgingRefused = (w : MonitorView) (x n : ℕ) → (judging w x ≡ refusal n) ↔ FirstNo (monitor_question12 w ∷ []) n

-- The range, and a tick of the generator: 12, 13.
abbrev pub RangingRefused : Type 0
RangingRefused = (v : View) (n : ℕ) → (ranging v ≡ refusal n) ↔ FirstNo (range_questions v) n

abbrev pub SendingRefused : Type 0
SendingRefused = (v : View) (choice n : ℕ) → (sending v choice ≡ refusal n) ↔ FirstNo (range_questions v) n

-- A refused tick hands the very state back.
abbrev pub RefusedMonitorStays : Type 0
RefusedMonitorStays =
    (m : Monitor) (x n : ℕ) (r : Judgement) → MonitorTicked m x r → verdict_reply r.verdict ≡ refusal n → r.next ≡ m

abbrev pub RefusedGeneratorStays : Type 0
RefusedGeneratorStays =
    (g : Generator) (choice n : ℕ) (r : Sent) → GeneratorTicked g choice r → sending_reply r.sending ≡ refusal n → r.next ≡ g
