use Rattle.std.proofs.Common.{sym, ap, ◌∙◌}
use Rattle.std.proofs.lemmas.Result.{err_from_is_err_and}
use Rattle.history.specs.declared.History.{History}
use Rattle.history.specs.States.{view_of}
use Rattle.generator.specs.Generating.{ranging}
use Rattle.scripts.proofs.Given.{looking_bad, looking_legal}
use Rattle.scripts.proofs.look.Goals as goal

pub returns-in_err-generator_legality : goal.returns-in_err-generator_legality
returns-in_err-generator_legality c =
    let e = err_from_is_err_and c.from_residual.result c.from_residual.ensures.1 in
    rw (e.1, e.2) (sym (looking_bad c.args.state.now c.in_err-generator_legality.ensures))

pub returns : goal.returns
returns c =
    c.range.ensures ∙ ap (λ (h : History). ranging (view_of h)) c.read_history-history.ensures
    ∙ sym (looking_legal c.args.state.now c.in_ok-generator_legality.ensures)
