-- Where question 12 is answered yes the sizes are legal, and the slices are the view.
use Rattle.std.specs.Prelude.{Ok, Err}
use Rattle.std.proofs.lemmas.Result.{err_from_is_err_and}
use Rattle.laws.proofs.Base.{sym, ap, ◌∙◌, arith, rules}
use Rattle.curves.specs.Questions.{result}
use Rattle.history.specs.declared.History.{History}
use Rattle.history.specs.States.{Legal, view_of}
use Rattle.history.proofs.Said.{viewing_yes, viewing_no, told}
use Rattle.history.proofs.Histories.{legal_sizes}
use Rattle.history.proofs.Slicing.{Arrays, view_sliced}
use Rattle.history.proofs.History.view.Goals as goal

pub returns-in_err-legality-clause-seen : goal.returns-in_err-legality-clause-seen
returns-in_err-legality-clause-seen c =
    let refused = err_from_is_err_and c.from_residual.result c.from_residual.ensures.1 in
    rw refused.1 (viewing_no _ (told _ (Err c.in_err-legality.field-0.0) c.in_err-legality.ensures))

pub shared_ref_as_front-result : goal.shared_ref_as_front-result
shared_ref_as_front-result c = (legal_sizes c.args.self.now (told _ (Ok c.in_ok-legality.field-0) c.in_ok-legality.ensures)).within

pub shared_ref_as_front-result-3 : goal.shared_ref_as_front-result-3
shared_ref_as_front-result-3 c =
    let z = legal_sizes c.args.self.now (told _ (Ok c.in_ok-legality.field-0) c.in_ok-legality.ensures) in omega (arith, z.within, z.fewer)

pub returns-clause-seen : goal.returns-clause-seen
returns-clause-seen c =
    let h : History = c.args.self.now in
    let a : Arrays h = record { uppers = search rules; lowers = search rules; held = search rules } in
    let l : Legal (view_of h) = told _ (Ok c.in_ok-legality.field-0) c.in_ok-legality.ensures in
    ap result (sym (view_sliced h a (legal_sizes h l))) ∙ viewing_yes (view_of h) l
