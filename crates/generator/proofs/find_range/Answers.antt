-- Question 12 is asked first, and the limits of the next count settle what is shown.
use Rattle.std.specs.Prelude.{Ok, Err}
use Rattle.std.proofs.lemmas.Result.{err_from_is_err_and}
use Rattle.laws.proofs.Base.{sym, ap, ◌∙◌, subst⁻¹, arith, rules}
use Rattle.history.specs.declared.History.{History}
use Rattle.history.specs.States.{View, Legal, history_of, view_of}
use Rattle.history.proofs.Said.{told}
use Rattle.history.proofs.Histories.{legal_sizes}
use Rattle.history.proofs.Slicing.{Arrays, slices, view_sliced}
use Rattle.generator.specs.Answers.{range_reply}
use Rattle.generator.specs.Steps.{Limited}
use Rattle.generator.proofs.Said.{ranging_bad}
use Rattle.generator.proofs.Ranging.{limited_range}
use Rattle.generator.proofs.find_range.Goals as goal

pub returns-in_err-ask_legality : goal.returns-in_err-ask_legality
returns-in_err-ask_legality c =
    let refused = err_from_is_err_and c.from_residual.result c.from_residual.ensures.1 in
    rw (refused.1, refused.2)
    (sym (ranging_bad _ (told _ (Err c.in_err-ask_legality.field-0.0) (c.in_err-ask_legality.ensures.answer c.args.ticks.now))))

pub shared_ref_as_front-curves : goal.shared_ref_as_front-curves
shared_ref_as_front-curves c =
    (legal_sizes _ (told _ (Ok c.in_ok-ask_legality.field-0) (c.in_ok-ask_legality.ensures.answer c.args.ticks.now))).within

pub shared_ref_as_front-ticks : goal.shared_ref_as_front-ticks
shared_ref_as_front-ticks c =
    let z = legal_sizes _ (told _ (Ok c.in_ok-ask_legality.field-0) (c.in_ok-ask_legality.ensures.answer c.args.ticks.now)) in
    omega (arith, z.within, z.fewer)

pub limit-requires : goal.limit-requires
limit-requires c =
    let a = c.args in
    let h : History = history_of a.horizon a.upper.now a.lower.now a.unlimited a.held a.ticks.now in
    let wide : Arrays h = record { uppers = search rules; lowers = search rules; held = search rules } in
    let l : Legal (view_of h) = told _ (Ok c.in_ok-ask_legality.field-0) (c.in_ok-ask_legality.ensures.answer a.ticks.now) in
    slices h wide (legal_sizes h l)

pub returns : goal.returns
returns c =
    let a = c.args in
    let h : History = history_of a.horizon a.upper.now a.lower.now a.unlimited a.held a.ticks.now in
    let wide : Arrays h = record { uppers = search rules; lowers = search rules; held = search rules } in
    let l : Legal (view_of h) = told _ (Ok c.in_ok-ask_legality.field-0) (c.in_ok-ask_legality.ensures.answer a.ticks.now) in
    ap range_reply c.ok_or.ensures.value
    ∙ limited_range _ l _ (subst⁻¹ (λ (v : View). Limited v c.limit.result) (view_sliced h wide (legal_sizes h l)) c.limit.ensures)
