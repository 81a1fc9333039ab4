use Rattle.std.proofs.Common.{subst, arith}
use Rattle.monitor.specs.Monitoring.{monitor_view_of}
use Rattle.scripts.specs.Runs.{JudgedByValue}
use Rattle.scripts.proofs.Written.{ticks_fit, left_written}
use Rattle.scripts.proofs.judging.judge_rest.Goals as goal

pub write_held-requires : goal.write_held-requires
write_held-requires c =
    let told = subst (λ m. JudgedByValue (monitor_view_of m) c.args.counts.now c.args.margins.now c.judge_all-left.new.verdicts
    c.judge_all-left.new.margins c.judge_all-left.result) c.read_monitor-opened.ensures c.judge_all-left.ensures in
    (omega (arith, c.requires.0.0), ticks_fit c.args.state.now c.requires.0 c.args.counts.now c.judge_all-left.result told.state)

pub returns : goal.returns
returns c =
    let told = subst (λ m. JudgedByValue (monitor_view_of m) c.args.counts.now c.args.margins.now c.judge_all-left.new.verdicts
    c.judge_all-left.new.margins c.judge_all-left.result) c.read_monitor-opened.ensures c.judge_all-left.ensures in
    record {
      state = left_written c.args.state.now c.requires.0 c.args.counts.now c.judge_all-left.result told.state _ _ c.write_held.ensures
          c.write_failed.ensures;
      verdicts = told.verdicts;
      margins_left = told.margins_left;
    }
