-- What the public operations promise: the answer, and the state that comes back.
use Rattle.std.specs.Prelude.{ℕ, ◌≡◌}
use Rattle.curves.specs.Unlimited.{AnyPair}
use Rattle.monitor.specs.declared.Monitor.{Monitor}
use Rattle.monitor.specs.declared.OpenedMonitor.{OpenedMonitor}
use Rattle.monitor.specs.declared.Judgement.{Judgement}
use Rattle.monitor.specs.Monitoring.{monitor_view_of, judging, MonitorNext}
use Rattle.monitor.specs.Margins.{carried}
use Rattle.monitor.specs.Opening.{monitor_opening, MonitorBegun}
use Rattle.monitor.specs.Answers.{monitor_opening_reply, verdict_reply, margin_in}

pub record MonitorOpened (p : AnyPair) (r : OpenedMonitor) : Type 0 where
  pub answer : monitor_opening_reply r.opening ≡ monitor_opening p
  pub state : MonitorBegun (monitor_opening p) p r.state

pub record MonitorTicked (m : Monitor) (x : ℕ) (r : Judgement) : Type 0 where
  pub answer : verdict_reply r.verdict ≡ judging (monitor_view_of m) x
  pub margin : margin_in r ≡ carried (monitor_view_of m) x
  pub next : MonitorNext (judging (monitor_view_of m) x) m x r.next
