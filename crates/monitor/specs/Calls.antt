-- Lists of ticks: each gets the state that the one before it left.
use Rattle.std.specs.Prelude.{ℕ, List, [], ◌∷◌, true}
use Rattle.curves.specs.Ticks.{passed, too_many, too_few}
use Rattle.curves.specs.Margins.{Margin}
use Rattle.curves.specs.Questions.{Reply, result, refusal}
use Rattle.monitor.specs.declared.Monitor.{Monitor}
use Rattle.monitor.specs.declared.Judgement.{Judgement}
use Rattle.monitor.specs.Monitoring.{MonitorView, monitor_view, Ruling, judged, lost, already_failed, judging, after_passed}
use Rattle.monitor.specs.Margins.{carried}
use Rattle.monitor.specs.Promises.{MonitorTicked}

-- ---- by the view of a state
-- A tick that is rejected sets the mark.
abbrev pub after_rejected : MonitorView → MonitorView
after_rejected w = monitor_view w.view w.closed true

abbrev pub monitor_after : Reply Ruling → MonitorView → ℕ → MonitorView
monitor_after (result (judged passed)) w x = after_passed w x
monitor_after (result (judged (too_many d))) w x = after_rejected w
monitor_after (result (judged (too_few d))) w x = after_rejected w
monitor_after (result lost) w x = after_rejected w
monitor_after (result already_failed) w x = w
monitor_after (refusal n) w x = w

-- After one tick, and after a list of them.
abbrev pub after_tick : MonitorView → ℕ → MonitorView
after_tick w x = monitor_after (judging w x) w x

unfoldable pub after_ticks : MonitorView → List ℕ → MonitorView
after_ticks w [] = w
after_ticks w (x ∷ xs) = after_ticks (after_tick w x) xs

-- What the ticks of a list are answered.
unfoldable pub rulings : MonitorView → List ℕ → List (Reply Ruling)
rulings w [] = []
rulings w (x ∷ xs) = judging w x ∷ rulings (after_tick w x) xs

-- And what they carry.
unfoldable pub margins : MonitorView → List ℕ → List Margin
margins w [] = []
margins w (x ∷ xs) = carried w x ∷ margins (after_tick w x) xs

-- ---- any results that the promises allow
-- A tick: its count, and what came back.
pub record Tick : Type 0 where
  pub count : ℕ
  pub judgement : Judgement

abbrev pub Ticks : Monitor → List Tick → Type 0
Ticks m [] = Unit {0}
Ticks m (t ∷ ts) = MonitorTicked m t.count t.judgement × Ticks t.judgement.next ts
