-- Opening a monitor (document 01, questions 1, 2 and 4; 5 by request P2, since opening closes the pair): two lists and a mark in (request
-- P7), a state out. Of an unlimited pair 5 is always answered yes, and nothing is closed.
use Rattle.std.specs.Prelude.{◌≡◌, false, List, [], ◌∷◌, ◌++◌, replicate}
use Rattle.curves.specs.Unlimited.{AnyPair, curves_of}
use Rattle.curves.specs.Questions.{Question, Reply, result, refusal, reply_to}
use Rattle.bounds.specs.Bounds.{max_horizon, pair_questions}
use Rattle.closure.specs.Closing.{question5}
use Rattle.closure.specs.Theorems.{closure_of, room}
use Rattle.history.specs.Opening.{fresh, zero_history}
use Rattle.monitor.specs.declared.Monitor.{Monitor}
use Rattle.monitor.specs.Monitoring.{MonitorView, monitor_view, closed_in, monitor_view_of, monitor_of}

abbrev pub monitor_questions : AnyPair → List Question
monitor_questions p = pair_questions p ++ (question5 p ∷ [])

-- What an opening answers.
unfoldable pub monitor_opening : AnyPair → Reply (Unit {0})
monitor_opening p = reply_to (monitor_questions p) (λ _. tt)

-- No tick is held yet, and the closed figures are those that closing gives for the pair, where it has ceilings.
abbrev pub fresh_monitor : AnyPair → MonitorView
fresh_monitor p = monitor_view (fresh p) (closed_in p (curves_of (closure_of p room))) false

-- Every field and every entry is 0, and no mark is set.
unfoldable pub zero_monitor : Monitor
zero_monitor = monitor_of zero_history (replicate max_horizon 0) (replicate max_horizon 0) false

-- The monitor that an opening hands out. Where it is not refused, what lies past the horizon and past the held ticks is free, and so are
-- the ceilings and the closed figures of an unlimited pair.
abbrev pub MonitorBegun : Reply (Unit {0}) → AnyPair → Monitor → Type 0
MonitorBegun (result _) p m = monitor_view_of m ≡ fresh_monitor p
MonitorBegun (refusal n) p m = m ≡ zero_monitor
