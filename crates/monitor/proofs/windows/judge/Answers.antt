-- A window is said to be outside, and is the first that is; or none is.
use Rattle.laws.proofs.Base.{◌-◌, sym, ◌∙◌, arith, length}
use Rattle.curves.proofs.Verdicts.{kept_none}
use Rattle.monitor.proofs.Judging.{summed_none, summed_more, said_nothing, said_verdict, said_last}
use Rattle.monitor.proofs.windows.judge.Goals as goal

pub windows-init : goal.windows-init
windows-init c = record { sum_is = summed_none _ _ _ _ _ (omega arith); kept = kept_none _ _; few = omega arith }

pub returns-in-Some : goal.returns-in-Some
returns-in-Some c =
    let l = c.windows in
    said_verdict _ _ _ _ _ c.requires _ _ l.invariant.sum_is l.invariant.kept _ (sym c.in-Some.ensures)

pub windows-preserved : goal.windows-preserved
windows-preserved c =
    let l = c.windows in
    let xs = c.args.view.ticks.now in
    record {
      sum_is = summed_more _ _ _ _ _ _ _ _ l.invariant.sum_is (omega arith) (omega (arith, c.type_inv.ticks (length xs - 1 - l.d)));
      kept = said_nothing _ _ _ _ _ c.requires _ _ l.invariant.sum_is l.invariant.kept (sym c.outside.ensures ∙ c.in_default.is);
      few = omega arith;
    }

pub returns-then-held-d : goal.returns-then-held-d
returns-then-held-d c =
    let l = c.windows in
    said_last _ _ _ _ _ c.requires _ _ l.invariant.sum_is l.invariant.kept (omega arith) (sym c.outside.ensures ∙ c.in_default.is)
