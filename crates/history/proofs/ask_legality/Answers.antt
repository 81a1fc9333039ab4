-- Each way out answers question 12 by the sizes or by the figures, whatever the ticks.
use Rattle.laws.proofs.Base.{◌≡◌, arith, rules, length}
use Rattle.bounds.specs.Bounds.{max_horizon}
use Rattle.history.specs.States.{history_of}
use Rattle.history.proofs.Said.{legality_yes, legality_no}
use Rattle.history.proofs.Histories.{legal_sizes, legal_bounded, bounded_legal}
use Rattle.history.proofs.ask_legality.Goals as goal
use Rattle.history.proofs.ask_legality.Goals.{then-horizon-gt-MAX_HORIZON-via-then-horizon-gt-MAX_HORIZON, then-horizon-gt-MAX_HORIZON-via-else-horizon-gt-MAX_HORIZON+then-horizon-held}

pub returns-then-horizon-gt-MAX_HORIZON : goal.returns-then-horizon-gt-MAX_HORIZON
returns-then-horizon-gt-MAX_HORIZON c = record {
  answer = λ xs. legality_no _
      (λ l.
      let z = legal_sizes (history_of c.args.horizon c.args.upper.now c.args.lower.now c.args.unlimited c.args.held xs) l in
      elim c.then-horizon-gt-MAX_HORIZON.branch [
        | then-horizon-gt-MAX_HORIZON-via-then-horizon-gt-MAX_HORIZON w ↦ omega arith
        | then-horizon-gt-MAX_HORIZON-via-else-horizon-gt-MAX_HORIZON+then-horizon-held w ↦ omega arith
      ]);
}

pub returns-then-not-within : goal.returns-then-not-within
returns-then-not-within c =
    let uppers : length c.args.upper.now ≡ max_horizon = search rules in
    let lowers : length c.args.lower.now ≡ max_horizon = search rules in
    record {
      answer = λ xs. legality_no _
          (λ l.
          c.if-not-within.ensures
          (legal_bounded (history_of c.args.horizon c.args.upper.now c.args.lower.now c.args.unlimited c.args.held xs) (omega arith) (omega arith) l));
    }

pub returns : goal.returns
returns c =
    let uppers : length c.args.upper.now ≡ max_horizon = search rules in
    let lowers : length c.args.lower.now ≡ max_horizon = search rules in
    record {
      answer = λ xs. legality_yes _
          (bounded_legal (history_of c.args.horizon c.args.upper.now c.args.lower.now c.args.unlimited c.args.held xs) (omega arith) (omega arith)
          (record { within = omega arith; fewer = omega arith }) c.if-not-within.ensures);
    }
