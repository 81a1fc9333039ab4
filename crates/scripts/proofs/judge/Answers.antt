use Rattle.std.proofs.Common.{sym, ap, ◌∙◌}
use Rattle.scripts.specs.Scripts.{judged}
use Rattle.scripts.proofs.Given.{counted_err, judged_bad, judged_run}
use Rattle.scripts.proofs.judge.Goals as goal

pub returns-in_err-monitor_legality-clause-left : goal.returns-in_err-monitor_legality-clause-left
returns-in_err-monitor_legality-clause-left c =
    let ws = c.args.state.now in
    let vs = c.args.verdicts.now in
    let ms = c.args.margins.now in
    ap (λ n. judged n ws vs ms) (counted_err c.from_residual.result c.from_residual.ensures.0)
    ∙ sym (judged_bad ws _ vs ms c.in_err-monitor_legality.ensures)

pub returns-clause-left : goal.returns-clause-left
returns-clause-left c =
    judged_run c.args.state.now c.args.counts.now c.args.verdicts.now c.args.margins.now c.min-n.result _ _ _
    c.in_ok-monitor_legality.ensures c.min-n.ensures c.judge_legal.ensures
