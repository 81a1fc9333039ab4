use Rattle.std.proofs.Common.{ℕ, List, Result, Ok, Err, MatchResult, arith}
use Rattle.history.specs.declared.BadState.{BadState}
use Rattle.history.proofs.Histories.{legal_sizes}
use Rattle.scripts.specs.Words.{history_from, LegalMonitorWords}
use Rattle.scripts.specs.Runs.{ClosedWords}
use Rattle.scripts.proofs.Asked.{legal_parts}
use Rattle.scripts.proofs.words.monitor_legality.Goals as goal

pub closed_legality-requires : goal.closed_legality-requires
closed_legality-requires c =
    let sizes = legal_sizes (history_from c.args.words.now) c.in_ok-history_legality.ensures in
    (omega arith, omega (arith, sizes.within))

pub returns : goal.returns
returns c = go c.closed_legality.result c.closed_legality.ensures
  where
    ws : List ℕ
    ws = c.args.words.now

    go : (r : Result (Unit {0}) BadState) → MatchResult r (λ _. ClosedWords ws) (λ _. ¬ ClosedWords ws)
        → MatchResult r (λ _. LegalMonitorWords ws) (λ _. ¬ LegalMonitorWords ws)
    go (Ok u) k = (omega arith, (legal_parts ws).0 (c.in_ok-history_legality.ensures, k))
    go (Err e) n = λ l. n ((legal_parts ws).1 l.1).1
