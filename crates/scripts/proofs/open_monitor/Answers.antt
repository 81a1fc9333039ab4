use Rattle.std.proofs.Common.{ap, ◌∙◌, subst, [], ◌∷◌, ◌++◌, sym, rules}
use Rattle.std.proofs.lemmas.Result.{err_from_is_err_and}
use Rattle.curves.proofs.Asked.{yes_parts}
use Rattle.bounds.specs.Bounds.{pair_questions}
use Rattle.bounds.specs.Answers.{curves_in}
use Rattle.closure.specs.Closing.{question5}
use Rattle.history.proofs.Histories.{lists_fit}
use Rattle.monitor.specs.Answers.{monitor_refusal_number}
use Rattle.monitor.specs.Opening.{MonitorBegun}
use Rattle.scripts.specs.Words.{opened_words}
use Rattle.scripts.proofs.Opened.{mapped_is, passed_ok, passed_err, monitor_asked, monitor_refused, monitor_long, monitor_begun, closed_is}
use Rattle.scripts.proofs.open_monitor.Goals as goal

pub returns-in_err-map_err : goal.returns-in_err-map_err
returns-in_err-map_err c =
    let p = curves_in c.args.curves in
    let is = mapped_is _ (λ e d h. search rules) c.open-opened.result.opening c.map_err.result c.map_err.ensures.cases in
    let e = err_from_is_err_and c.from_residual.result c.from_residual.ensures.1 in
    let told = passed_err monitor_refusal_number _ _ is _ c.open-opened.ensures.answer _ c.in_err-map_err.was in
    rw (e.1, e.2) (monitor_refused p c.args.state.now _ told)

pub returns-then-state-ne-MONITOR_WORDS : goal.returns-then-state-ne-MONITOR_WORDS
returns-then-state-ne-MONITOR_WORDS c =
    let p = curves_in c.args.curves in
    let is = mapped_is _ (λ e d h. search rules) c.open-opened.result.opening c.map_err.result c.map_err.ensures.cases in
    let told = passed_ok monitor_refusal_number _ _ is _ c.open-opened.ensures.answer _ c.in_ok-map_err.was in
    monitor_long p c.args.state.now told c.if-state-ne-MONITOR_WORDS.true

pub write_monitor-requires : goal.write_monitor-requires
write_monitor-requires c =
    let a = c.args.curves in
    let p = curves_in a in
    let is = mapped_is _ (λ e d h. search rules) c.open-opened.result.opening c.map_err.result c.map_err.ensures.cases in
    let told = passed_ok monitor_refusal_number _ _ is _ c.open-opened.ensures.answer _ c.in_ok-map_err.was in
    let yes = (yes_parts (pair_questions p) (question5 p ∷ []) (monitor_asked p c.args.state.now told)).0 in
    (c.if-state-ne-MONITOR_WORDS.false, lists_fit a.upper.now a.lower.now a.unlimited yes)

pub returns : goal.returns
returns c =
    let a = c.args.curves in
    let p = curves_in a in
    let is = mapped_is _ (λ e d h. search rules) c.open-opened.result.opening c.map_err.result c.map_err.ensures.cases in
    let told = passed_ok monitor_refusal_number _ _ is _ c.open-opened.ensures.answer _ c.in_ok-map_err.was in
    let begun = subst (λ o. MonitorBegun o p c.open-opened.result.state) (sym told) c.open-opened.ensures.state in
    monitor_begun p c.args.state.now told c.if-state-ne-MONITOR_WORDS.false _
    (c.write_monitor.ensures ∙ ap (λ t. opened_words p ++ t) (closed_is a.upper.now a.lower.now a.unlimited c.open-opened.result.state begun))
