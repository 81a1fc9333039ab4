-- Request P2: what the monitor's opening and its answers to ticks say of streams, whatever it computes them by.
use Rattle.std.specs.Prelude.{ℕ, ◌≤◌, ◌<◌, ◌≡◌, true, List, ◌↔◌, length}
use Rattle.laws.specs.Tests.{Each}
use Rattle.curves.specs.Streams.{Stream, count_limit}
use Rattle.curves.specs.Pairs.{Pair, horizon, lower_at}
use Rattle.curves.specs.Unlimited.{AnyPair, unlimited, curves_of}
use Rattle.curves.specs.Conformance.{Conforms, Conforms∞, Extendable}
use Rattle.curves.specs.Ticks.{then, last, Judged, passed, too_many}
use Rattle.curves.specs.Questions.{AllYes, result, refusal}
use Rattle.bounds.specs.Bounds.{pair_questions}
use Rattle.closure.specs.Theorems.{GivesClosure, closure_of}
use Rattle.history.specs.States.{View, view_of}
use Rattle.monitor.specs.declared.Monitor.{Monitor}
use Rattle.monitor.specs.declared.Judgement.{Judgement}
use Rattle.monitor.specs.Monitoring.{monitor_view_of, Ruling, judged, lost}
use Rattle.monitor.specs.Opening.{monitor_opening, fresh_monitor}
use Rattle.monitor.specs.Answers.{verdict_reply}
use Rattle.monitor.specs.Promises.{MonitorTicked}
use Rattle.monitor.specs.Calls.{after_ticks, rulings}
use Rattle.guarantees.specs.Exact.{LegalUnfailed, Answers, JudgedOutside, Opens, AllPass}

-- Opening is refused with 5 exactly when no unbounded stream conforms, for lists that pass questions 1, 2 and 4.
abbrev pub MonitorRefusedIffNoStream : Type 0
MonitorRefusedIffNoStream =
    (p : AnyPair) → AllYes (pair_questions p)
    → (monitor_opening p ≡ refusal 5) ↔ ((s : Stream) → Conforms∞ (curves_of p) s.counts → ⊥)

-- A stream passes whole exactly when it begins an unbounded stream that conforms to the pair as given.
abbrev pub AllPassIffExtendable : Type 0
AllPassIffExtendable = (p : AnyPair) → Opens p → (xs : List ℕ) → AllPass p xs ↔ Extendable (curves_of p) xs

-- While every tick has passed, the next is 'lost' exactly when the stream with it conforms to the pair as given and begins no such
-- unbounded stream.
abbrev pub LostIffNotExtendable : Type 0
LostIffNotExtendable =
    (p : AnyPair) → Opens p → (xs : List ℕ) → AllPass p xs → (x : ℕ)
    → Answers (after_ticks (fresh_monitor p) xs) x lost ↔ (Conforms (curves_of p) (then xs x) × (¬ Extendable (curves_of p) (then xs x)))

-- The other answers cut the streams likewise: it passes exactly when the stream with it begins such an unbounded one, and is 'too many'
-- or 'too few' exactly when the stream with it does not conform.
abbrev pub PassedIffExtendable : Type 0
PassedIffExtendable =
    (p : AnyPair) → Opens p → (xs : List ℕ) → AllPass p xs → (x : ℕ)
    → Answers (after_ticks (fresh_monitor p) xs) x (judged passed) ↔ Extendable (curves_of p) (then xs x)

abbrev pub OutsideIffNotConforming : Type 0
OutsideIffNotConforming =
    (p : AnyPair) → Opens p → (xs : List ℕ) → AllPass p xs → (x : ℕ)
    → JudgedOutside (after_ticks (fresh_monitor p) xs) x ↔ (¬ Conforms (curves_of p) (then xs x))

-- No tick of an opened monitor is refused, whatever it is fed.
abbrev pub MonitorNeverRefused : Type 0
MonitorNeverRefused = (p : AnyPair) → Opens p → (xs : List ℕ) → Each (λ a. (r : Ruling) × (a ≡ result r)) (rulings (fresh_monitor p) xs)

-- 'Lost' comes while the stream, the lost tick included, has fewer ticks than the horizon, or not at all.
abbrev pub LostBeforeHorizon : Type 0
LostBeforeHorizon =
    (p : AnyPair) → Opens p → (xs : List ℕ) → AllPass p xs → (x : ℕ) → Answers (after_ticks (fresh_monitor p) xs) x lost
    → length (then xs x) < horizon (curves_of p)

-- A monitor opens on every closure, and then never answers 'lost', whatever it is fed.
abbrev pub MonitorOpensOnClosure : Type 0
MonitorOpensOnClosure = (p : AnyPair) (found : Pair) → GivesClosure p found → Opens (closure_of p found)

abbrev pub NeverLostOnClosure : Type 0
NeverLostOnClosure =
    (p : AnyPair) (found : Pair) → GivesClosure p found → (xs : List ℕ)
    → Each (λ r. ¬ (r ≡ result lost)) (rulings (fresh_monitor (closure_of p found)) xs)

-- So there it passes exactly the extendable streams, of the closure and of the pair.
abbrev pub PassesIffExtendable : Type 0
PassesIffExtendable =
    (p : AnyPair) (found : Pair) → GivesClosure p found → (xs : List ℕ) → AllPass (closure_of p found) xs ↔ Extendable (curves_of p) xs

-- ---- without ceilings (request P7)
-- Opening is never refused with 5. A tick of a state with the mark set, whoever built it, never says 'lost', and never 'too many' where the
-- ticks have counts, as those of a state do.
abbrev pub UnlimitedNeverFive : Type 0
UnlimitedNeverFive = (h : ℕ) (ls : List ℕ) → ¬ (monitor_opening (unlimited h ls) ≡ refusal 5)

abbrev pub UnlimitedNeverTooMany : Type 0
UnlimitedNeverTooMany =
    (m : Monitor) (x d : ℕ) (r : Judgement) → m.history.unlimited ≡ true → Each (λ c. c ≤ count_limit) (then (view_of m.history).held x)
    → MonitorTicked m x r → ¬ (verdict_reply r.verdict ≡ result (judged (too_many d)))

abbrev pub UnlimitedNeverLost : Type 0
UnlimitedNeverLost =
    (m : Monitor) (x : ℕ) (r : Judgement) → m.history.unlimited ≡ true → MonitorTicked m x r → ¬ (verdict_reply r.verdict ≡ result lost)

-- There it passes exactly where every judged window has its least, if the state is legal and has not failed.
abbrev pub UnlimitedPassesIffEnough : Type 0
UnlimitedPassesIffEnough =
    (m : Monitor) (x : ℕ) → m.history.unlimited ≡ true → LegalUnfailed (monitor_view_of m)
    → let v : View = view_of m.history in
    Each (λ c. c ≤ count_limit) (then v.held x)
    → Answers (monitor_view_of m) x (judged passed)
    ↔ ((d : ℕ) → Judged (curves_of v.pair) (then v.held x) d → lower_at (curves_of v.pair) d ≤ last (then v.held x) d)
