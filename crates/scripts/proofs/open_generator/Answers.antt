use Rattle.std.proofs.Common.{[], ◌∷◌, rules}
use Rattle.std.proofs.lemmas.Result.{err_from_is_err_and}
use Rattle.curves.proofs.Asked.{yes_parts}
use Rattle.bounds.specs.Bounds.{pair_questions}
use Rattle.bounds.specs.Answers.{curves_in}
use Rattle.closure.specs.Closing.{question15}
use Rattle.history.proofs.Histories.{lists_fit}
use Rattle.generator.specs.Answers.{generator_refusal_number}
use Rattle.scripts.proofs.Opened.{mapped_is, passed_ok, passed_err, generator_asked, generator_refused, generator_long, generator_begun}
use Rattle.scripts.proofs.open_generator.Goals as goal

pub returns-in_err-map_err : goal.returns-in_err-map_err
returns-in_err-map_err c =
    let p = curves_in c.args.curves in
    let is = mapped_is _ (λ e d h. search rules) c.open-opened.result.opening c.map_err.result c.map_err.ensures.cases in
    let e = err_from_is_err_and c.from_residual.result c.from_residual.ensures.1 in
    let told = passed_err generator_refusal_number _ _ is _ c.open-opened.ensures.answer _ c.in_err-map_err.was in
    rw (e.1, e.2) (generator_refused p c.args.state.now _ told)

pub returns-then-state-ne-GENERATOR_WORDS : goal.returns-then-state-ne-GENERATOR_WORDS
returns-then-state-ne-GENERATOR_WORDS c =
    let p = curves_in c.args.curves in
    let is = mapped_is _ (λ e d h. search rules) c.open-opened.result.opening c.map_err.result c.map_err.ensures.cases in
    let told = passed_ok generator_refusal_number _ _ is _ c.open-opened.ensures.answer _ c.in_ok-map_err.was in
    generator_long p c.args.state.now told c.if-state-ne-GENERATOR_WORDS.true

pub write_pair-requires : goal.write_pair-requires
write_pair-requires c =
    let a = c.args.curves in
    let p = curves_in a in
    let is = mapped_is _ (λ e d h. search rules) c.open-opened.result.opening c.map_err.result c.map_err.ensures.cases in
    let told = passed_ok generator_refusal_number _ _ is _ c.open-opened.ensures.answer _ c.in_ok-map_err.was in
    let yes = (yes_parts (pair_questions p) (question15 p ∷ []) (generator_asked p c.args.state.now told)).0 in
    (c.if-state-ne-GENERATOR_WORDS.false, lists_fit a.upper.now a.lower.now a.unlimited yes)

pub returns : goal.returns
returns c =
    let p = curves_in c.args.curves in
    let is = mapped_is _ (λ e d h. search rules) c.open-opened.result.opening c.map_err.result c.map_err.ensures.cases in
    let told = passed_ok generator_refusal_number _ _ is _ c.open-opened.ensures.answer _ c.in_ok-map_err.was in
    generator_begun p c.args.state.now told c.if-state-ne-GENERATOR_WORDS.false _ c.write_pair.ensures
