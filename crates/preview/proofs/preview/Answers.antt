-- `preview::preview` meets its promise: a list of another length is no monitor's words.
-- Assumes nothing.
use Rattle.std.proofs.Common.{◌≡◌, rules, refl, subst}
use Rattle.std.specs.Prelude.{MatchResult}
use Rattle.scripts.specs.Words.{LegalMonitorWords}
use Rattle.preview.proofs.Fed.{refused_legal, refused_as}
use Rattle.preview.proofs.preview.Goals as goal

pub returns-in_err-words-clause-told : goal.returns-in_err-words-clause-told
returns-in_err-words-clause-told c =
    refused_as _ _ _ _ c.from_residual.result c.from_residual.ensures.0 refl
    (λ l. cc (c.as_array.ensures.variant.1 l.0, c.in_err-words.ensures.variant))

pub returns-in_err-words-clause-legal : goal.returns-in_err-words-clause-legal
returns-in_err-words-clause-legal c =
    let other : ¬ LegalMonitorWords c.args.state.now = λ l. cc (c.as_array.ensures.variant.1 l.0, c.in_err-words.ensures.variant) in
    refused_legal c.from_residual.result c.from_residual.ensures.0 other

pub returns-clause-legal : goal.returns-clause-legal
returns-clause-legal c =
    let same : c.in_ok-words.field-0.now ≡ c.args.state.now = search rules in
    subst (λ ws. MatchResult c.try_counts.result (λ _. LegalMonitorWords ws) (λ _. ¬ LegalMonitorWords ws)) same c.try_counts.ensures.legal
