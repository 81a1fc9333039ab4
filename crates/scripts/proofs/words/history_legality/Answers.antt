use Rattle.std.proofs.Common.{ap, subst, arith}
use Rattle.curves.specs.Unlimited.{AnyPair, AllWithin}
use Rattle.bounds.specs.Bounds.{figure_limit}
use Rattle.history.specs.States.{View}
use Rattle.scripts.proofs.Asked.{too_long, too_many_lem, history_legal}
use Rattle.scripts.proofs.words.history_legality.Goals as goal
use Rattle.scripts.proofs.words.history_legality.Goals.{then-horizon-gt-MAX_HORIZON-via-then-horizon-gt-MAX_HORIZON, then-horizon-gt-MAX_HORIZON-via-else-horizon-gt-MAX_HORIZON+then-horizon-words}

pub returns-then-horizon-gt-MAX_HORIZON : goal.returns-then-horizon-gt-MAX_HORIZON
returns-then-horizon-gt-MAX_HORIZON c =
    elim c.then-horizon-gt-MAX_HORIZON.branch [
      | then-horizon-gt-MAX_HORIZON-via-then-horizon-gt-MAX_HORIZON w ↦ too_long c.args.words.now (omega arith)
      | then-horizon-gt-MAX_HORIZON-via-else-horizon-gt-MAX_HORIZON+then-horizon-words w ↦ too_many_lem c.args.words.now (omega arith)
    ]

pub returns-then-not-within : goal.returns-then-not-within
returns-then-not-within c = λ l.
    c.if-not-within.ensures (rw (ap (λ (v : View). v.pair) c.view-view.ensures.view) l.figures)

pub returns : goal.returns
returns c =
    history_legal c.args.words.now (omega arith) (omega arith)
    (subst (λ (p : AnyPair). AllWithin figure_limit p) (ap (λ (v : View). v.pair) c.view-view.ensures.view) c.if-not-within.ensures)
