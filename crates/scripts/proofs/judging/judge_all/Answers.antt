use Rattle.std.proofs.Common.{◌≡◌, ◌-◌, refl, sym, ap, ◌∙◌, Bool, true, false, ◌&&◌, Result, Ok, Err, IfOk, length, take, get_or, rules, arith}
use Rattle.laws.proofs.Base.{subst⁻¹, take_all}
use mir.Syntax.{w64}
use mir.Val.{SFits}
use Rattle.laws.specs.Writing.{over}
use Rattle.laws.proofs.Copying.{over_whole}
use Rattle.laws.proofs.Signed.{result_read}
use Rattle.curves.specs.Margins.{Margin}
use Rattle.history.specs.declared.BadState.{BadState}
use Rattle.monitor.specs.declared.Verdict.{Verdict}
use Rattle.monitor.specs.Monitoring.{monitor_view_of, LegalMonitor, judging}
use Rattle.monitor.specs.Calls.{after_ticks, rulings, margins}
use Rattle.monitor.specs.Answers.{verdict_reply}
use Rattle.monitor.proofs.Said.{monitor_next}
use Rattle.scripts.specs.Codes.{ruling_code}
use Rattle.scripts.specs.Steps.{NamesWindow}
use Rattle.scripts.proofs.Coded.{names_window}
use Rattle.scripts.proofs.Pieces.{stays_legal, stays_ticks}
use Rattle.scripts.proofs.Running.{codes, values, codes_length, over_none, verdict_put, margin_put, tick_on, put_all}
use Rattle.scripts.proofs.Running.{failed_verdicts, failed_margins, failed_end}
use Rattle.scripts.proofs.judging.judge_all.Goals as goal

pub loop-i-init : goal.loop-i-init
unfolding rulings margins after_ticks
loop-i-init c = (over_none _, over_none _, refl)

-- ---- a turn
pub verdict_code-requires : goal.verdict_code-requires
verdict_code-requires c = go c.tick-judgement.result.verdict c.tick-judgement.ensures.answer
  where
    go : (v : Result Verdict BadState) → verdict_reply v ≡ judging (monitor_view_of c.loop-i.monitor) (get_or c.args.counts.now c.loop-i.i 0) → IfOk v NamesWindow
    go (Ok v) e = names_window _ _ v e
    go (Err b) e = tt

pub loop-i-preserved : goal.loop-i-preserved
loop-i-preserved c =
    let turn = c.loop-i in
    let xs = c.args.counts.now in
    let w = monitor_view_of c.args.monitor in
    let m = monitor_view_of turn.monitor in
    let told = c.tick-judgement.ensures in
    let fits : SFits w64 c.tick-judgement.result.margin = search rules in (
      verdict_put w xs turn.i (omega arith) m turn.invariant.2 c.args.verdicts.now turn.verdicts _ turn.invariant.0
          (c.verdict_code.ensures ∙ ap ruling_code told.answer),
      c.put_margin.ensures ∙ margin_put w xs turn.i (omega arith) m turn.invariant.2 c.args.margins.now turn.margins _ turn.invariant.1
          (result_read c.tick-judgement.result.margin _ fits (ap (λ (r : Margin). r.value) told.margin)),
      tick_on w xs turn.i (omega arith) m turn.invariant.2 _ (monitor_next _ _ _ told),
    )

-- ---- the ways out
first_of : (a b : Bool) → (a && b) ≡ true → a ≡ true
first_of true b e = refl
first_of false b e = e

-- Where the monitor has failed it judges no more of the counts: they are left from i on.
pub returns-then-monitor-i : goal.returns-then-monitor-i
returns-then-monitor-i c =
    let turn = c.loop-i in
    let xs = c.args.counts.now in
    let w = monitor_view_of c.args.monitor in
    let m = monitor_view_of turn.monitor in
    let legal : LegalMonitor m =
    subst⁻¹ LegalMonitor turn.invariant.2 (stays_legal w _ c.requires.1 (stays_ticks w (take turn.i xs) c.requires.1)) in
    let failed : turn.monitor.failed ≡ true = first_of _ _ c.if-monitor-i.true in
    let left : length turn.verdicts - turn.i ≡ length xs - turn.i = omega arith in
    record {
      state = failed_end m legal failed w xs turn.i _ (omega arith) left turn.invariant.2;
      verdicts =
          c.reject_from.ensures.verdicts_after
          ∙ failed_verdicts m legal failed w xs turn.i _ (omega arith) left turn.invariant.2 c.args.verdicts.now turn.verdicts turn.invariant.0
          ∙ over_whole (codes w xs) c.args.verdicts.now (c.requires.0 ∙ sym (codes_length w xs));
      margins_left =
          c.reject_from.ensures.margins_after
          ∙ failed_margins m legal failed w xs turn.i _ (omega arith) left turn.invariant.2 c.args.margins.now turn.margins turn.invariant.1;
    }

-- Or no count is left.
pub returns : goal.returns
returns c =
    let end = c.loop-i in
    let xs = c.args.counts.now in
    let w = monitor_view_of c.args.monitor in
    let all = take_all end.i xs (omega arith) in
    record {
      state = end.invariant.2 ∙ ap (after_ticks w) all;
      verdicts = put_all codes codes_length w xs end.i (omega arith) c.args.verdicts.now _ c.requires.0 end.invariant.0;
      margins_left = end.invariant.1 ∙ ap (λ t. over (values w t) c.args.margins.now) all;
    }
