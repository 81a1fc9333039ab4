use Rattle.std.proofs.Common.{sym, ap, ◌∙◌}
use Rattle.scripts.specs.Scripts.{sent}
use Rattle.scripts.proofs.Given.{counted_err, sent_bad, sent_run}
use Rattle.scripts.proofs.generate.Goals as goal

pub returns-in_err-generator_legality-clause-left : goal.returns-in_err-generator_legality-clause-left
returns-in_err-generator_legality-clause-left c =
    let ws = c.args.state.now in
    let cs = c.args.counts.now in
    ap (λ n. sent n ws cs) (counted_err c.from_residual.result c.from_residual.ensures.0)
    ∙ sym (sent_bad ws _ cs c.in_err-generator_legality.ensures)

pub returns-clause-left : goal.returns-clause-left
returns-clause-left c =
    sent_run c.args.state.now c.args.choices.now c.args.counts.now c.min-n.result _ _ c.in_ok-generator_legality.ensures c.min-n.ensures
    c.send_legal.ensures
