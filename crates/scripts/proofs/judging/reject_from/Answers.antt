use Rattle.std.proofs.Common.{◌-◌, length, arith}
use Rattle.scripts.proofs.Running.{filled_put}
use Rattle.scripts.proofs.judging.reject_from.Goals as goal

pub returns-then-first-end-clause-margins_after : goal.returns-then-first-end-clause-margins_after
returns-then-first-end-clause-margins_after c =
    filled_put _ c.args.margins.now c.args.first (length c.args.verdicts.now - c.args.first) _ _ (omega arith) (omega arith)
    (c.fill-then-first-end.ensures.after (λ y e. e))
