use Rattle.std.proofs.Common.{refl, ap, ◌∙◌, arith}
use Rattle.laws.proofs.Base.{take_all}
use Rattle.history.specs.States.{view_of}
use Rattle.generator.specs.Calls.{sendings, after_sendings}
use Rattle.generator.proofs.Said.{generator_next}
use Rattle.scripts.specs.Codes.{sending_code}
use Rattle.scripts.proofs.Running.{sends, sends_length, over_none, count_put, send_on_lem, put_all}
use Rattle.scripts.proofs.generating.send_all.Goals as goal

pub loop-i-init : goal.loop-i-init
unfolding sendings after_sendings
loop-i-init c = (over_none _, refl)

pub loop-i-preserved : goal.loop-i-preserved
loop-i-preserved c =
    let turn = c.loop-i in
    let xs = c.args.choices.now in
    let v = view_of c.args.generator.history in
    let u = view_of turn.generator.history in
    let told = c.tick-sent.ensures in (
      count_put v xs turn.i (omega arith) u turn.invariant.1 c.args.counts.now turn.counts _ turn.invariant.0
          (c.sending_code.ensures ∙ ap sending_code told.answer),
      send_on_lem v xs turn.i (omega arith) u turn.invariant.1 _ (generator_next _ _ _ told),
    )

pub returns : goal.returns
returns c =
    let end = c.loop-i in
    let xs = c.args.choices.now in
    let v = view_of c.args.generator.history in
    record {
      state = end.invariant.1 ∙ ap (after_sendings v) (take_all end.i xs (omega arith));
      counts = put_all sends sends_length v xs end.i (omega arith) c.args.counts.now _ c.requires end.invariant.0;
    }
