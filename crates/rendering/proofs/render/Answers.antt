-- `rendering::render` meets its promise: the refusal whose question is the first that is answered no, and else the text.
use Rattle.std.proofs.lemmas.Result.{err_from_is_err_and}
use Rattle.laws.proofs.Base.{sym, ◌∙◌}
use Rattle.bounds.specs.Answers.{curves_in}
use Rattle.bounds.proofs.Said.{yes_from, no_from}
use Rattle.rendering.proofs.Said.{refused_is, written_is}
use Rattle.rendering.proofs.render.Goals as goal

pub returns-in_err-ask : goal.returns-in_err-ask
returns-in_err-ask c =
    let told = err_from_is_err_and c.from_residual.result c.from_residual.ensures.1 in
    let p = curves_in c.args.curves in
    rw (told.1, told.2) (sym (refused_is p _ (no_from p _ (sym c.in_err-ask.ensures))))

pub written-requires : goal.written-requires
written-requires c = yes_from (curves_in c.args.curves) (sym c.in_ok-ask.ensures)

pub returns : goal.returns
returns c =
    c.written.ensures ∙ sym (written_is (curves_in c.args.curves) (yes_from (curves_in c.args.curves) (sym c.in_ok-ask.ensures)))
