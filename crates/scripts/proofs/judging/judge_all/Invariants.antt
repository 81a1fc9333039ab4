use Rattle.std.proofs.Common.{◌≡◌, take}
use Rattle.laws.specs.Writing.{over}
use Rattle.monitor.specs.Monitoring.{monitor_view_of}
use Rattle.monitor.specs.Calls.{after_ticks}
use Rattle.scripts.proofs.Running.{codes, values}
use Rattle.scripts.proofs.judging.judge_all.Given as goal

-- The counts before i have their verdicts and margins, and the monitor is where these left it.
abbrev pub invariant-loop-i : goal.invariant-loop-i
invariant-loop-i l =
    (l.verdicts ≡ over (codes (monitor_view_of l.fn.monitor) (take l.i l.counts)) l.initial.verdicts)
    × (l.margins ≡ over (values (monitor_view_of l.fn.monitor) (take l.i l.counts)) l.initial.margins)
    × (monitor_view_of l.monitor ≡ after_ticks (monitor_view_of l.fn.monitor) (take l.i l.counts))
