-- A tick of the monitor, document 01's line monitor ("Monitor and maker"), with request P2's answer 'lost'; on pairs without ceilings, too
-- (request P7).
use Rattle.std.specs.Prelude.{ℕ, ◌≡◌, Bool, true, false, cond, List, [], ◌∷◌}
use mathlib.Core.Logic.Dec.{and as dec_and}
use Rattle.curves.specs.Pairs.{Pair, pair_of}
use Rattle.curves.specs.Unlimited.{AnyPair, limited, unlimited, curves_of, alike}
use Rattle.curves.specs.Ticks.{then, Verdict, passed, too_many, too_few, Right}
use Rattle.curves.specs.Questions.{Question, Reply, result, refusal, reply_to}
use Rattle.curves.proofs.Verdicts.{verdict?}
use Rattle.bounds.specs.Bounds.{question4}
use Rattle.history.specs.declared.History.{History}
use Rattle.history.specs.States.{View, entries, view_of, added, Legal, legal?}
use Rattle.monitor.specs.declared.Monitor.{Monitor}

-- The view of a monitor's state: that of its history, with the pair as given; the closed figures, which in a state reach to the same
-- horizon; and whether it has failed.
pub record MonitorView : Type 0 where
  pub view : View
  pub closed : Pair
  pub failed : Bool

abbrev pub monitor_view : View → Pair → Bool → MonitorView
monitor_view v q b = record { view = v; closed = q; failed = b }

-- The closed figures that count: of a pair with ceilings those that are there. An unlimited one is not closed; the curves by which it is
-- judged stand in their place, so that nothing is lost.
abbrev pub closed_in : AnyPair → Pair → Pair
closed_in (limited p) q = q
closed_in (unlimited h ls) q = curves_of (unlimited h ls)

abbrev pub monitor_view_of : Monitor → MonitorView
monitor_view_of m =
    let (h, v) : ℕ × View = (m.history.horizon, view_of m.history) in
    monitor_view v (closed_in v.pair (pair_of (entries h m.closed_upper) (entries h m.closed_lower))) m.failed

-- Equality of states: of the views, so of the horizon and the figures up to it, given and closed, of the held ticks as a list, and of the
-- marks; ceilings and closed figures count where there are ceilings.
abbrev pub EqualMonitors : Monitor → Monitor → Type 0
EqualMonitors m m' = monitor_view_of m ≡ monitor_view_of m'

-- The held ticks with the closed figures in place of those given.
abbrev pub closed_view : MonitorView → View
closed_view w = record { pair = limited w.closed; held = w.view.held }

-- 12. As of a history, and no closed figure is above the limit either: without ceilings, that is no least, and so nothing more.
pub record LegalMonitor (w : MonitorView) : Type 0 where
  pub given : Legal w.view
  pub bounded : (question4 (alike w.view.pair w.closed)).asked

unfoldable pub legal_monitor? : (w : MonitorView) → Dec (LegalMonitor w)
legal_monitor? w =
    elim (dec_and (legal? w.view) (question4 (alike w.view.pair w.closed)).answered) [
      | yes h ↦ yes (record { given = h.0; bounded = h.1 })
      | no h ↦ no (λ l. h (l.given, l.bounded))
    ]

abbrev pub monitor_question12 : MonitorView → Question
monitor_question12 w = record { number = 12; asked = LegalMonitor w; answered = legal_monitor? w }

-- The verdict on a tick with the count x by the figures of a view: the one that is `Right`.
abbrev pub verdict_on : View → ℕ → Verdict
verdict_on v x =
    let found : (w : Verdict) × Right (curves_of v.pair) (then v.held x) w = verdict? (curves_of v.pair) (then v.held x) in
    found.0

-- What a tick is answered: its verdict, that the stream is lost, or that the monitor has failed before.
pub data Ruling : Type 0 where
  judged : Verdict → Ruling
  lost : Ruling
  already_failed : Ruling

-- From the verdict by the figures as given and the one by the closed figures: a tick that passes the first alone is lost.
abbrev pub ruled : Verdict → Verdict → Ruling
ruled passed passed = judged passed
ruled passed (too_many d) = lost
ruled passed (too_few d) = lost
ruled (too_many d) v = judged (too_many d)
ruled (too_few d) v = judged (too_few d)

abbrev pub ruling_on : MonitorView → ℕ → Ruling
ruling_on w x = ruled (verdict_on w.view x) (verdict_on (closed_view w) x)

unfoldable pub judging : MonitorView → ℕ → Reply Ruling
judging w x = reply_to (monitor_question12 w ∷ []) (λ yeses. cond w.failed already_failed (ruling_on w x))

-- A monitor of a history, closed figures (upper, lower) and a mark.
abbrev pub monitor_of : History → List ℕ → List ℕ → Bool → Monitor
monitor_of h us ls b = record { history = h; closed_upper = us; closed_lower = ls; failed = b }

-- The same state with its failed mark set.
abbrev pub marked_failed : Monitor → Monitor
marked_failed m = monitor_of m.history m.closed_upper m.closed_lower true

-- The view after a tick that passed: the tick is added, the closed figures stay.
abbrev pub after_passed : MonitorView → ℕ → MonitorView
after_passed w x = monitor_view (added w.view x) w.closed false

-- The next state. After a tick that passed, what lies outside the next state's view is free; else every field and entry is settled.
abbrev pub MonitorNext : Reply Ruling → Monitor → ℕ → Monitor → Type 0
MonitorNext (result (judged passed)) m x next = monitor_view_of next ≡ after_passed (monitor_view_of m) x
MonitorNext (result (judged (too_many d))) m x next = next ≡ marked_failed m
MonitorNext (result (judged (too_few d))) m x next = next ≡ marked_failed m
MonitorNext (result lost) m x next = next ≡ marked_failed m
MonitorNext (result already_failed) m x next = next ≡ m
MonitorNext (refusal n) m x next = next ≡ m
