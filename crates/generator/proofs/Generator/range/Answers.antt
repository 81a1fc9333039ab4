-- Question 12 is asked first, and the limits of the next count settle what is shown.
use Rattle.std.specs.Prelude.{Ok, Err}
use Rattle.std.proofs.lemmas.Result.{err_from_is_err_and}
use Rattle.laws.proofs.Base.{sym, ap, ◌∙◌, subst}
use Rattle.history.specs.States.{View}
use Rattle.history.proofs.Said.{seen}
use Rattle.history.proofs.Slicing.{slices_seen}
use Rattle.generator.specs.Answers.{range_reply}
use Rattle.generator.specs.Steps.{Limited}
use Rattle.generator.proofs.Said.{ranging_bad}
use Rattle.generator.proofs.Ranging.{limited_range}
use Rattle.generator.proofs.Generator.range.Goals as goal

pub returns-in_err-view : goal.returns-in_err-view
returns-in_err-view c =
    let told = err_from_is_err_and c.from_residual.result c.from_residual.ensures.1 in
    rw (told.1, told.2) (sym (ranging_bad _ (seen _ (Err c.in_err-view.field-0.0) c.in_err-view.ensures.seen)))

pub limit-requires : goal.limit-requires
limit-requires c =
    let w = c.in_ok-view.field-0 in
    let (l, same) = seen _ (Ok w) c.in_ok-view.ensures.seen in
    slices_seen c.args.self.history _ _ _ w.curves.unlimited l same

pub returns : goal.returns
returns c =
    let (l, same) = seen _ (Ok c.in_ok-view.field-0) c.in_ok-view.ensures.seen in
    ap range_reply c.ok_or.ensures.value ∙ limited_range _ l _ (subst (λ (v : View). Limited v c.limit.result) same c.limit.ensures)
