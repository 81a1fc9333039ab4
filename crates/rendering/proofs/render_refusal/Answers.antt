-- `rendering::render_refusal` meets its promise: the line's three parts are written one after the other.
use Rattle.laws.proofs.Base.{◌≤◌, ap, [], arith}
use Rattle.laws.proofs.Writing.{wrote_more}
use Rattle.rendering.specs.Rendering.{refusal_line}
use Rattle.rendering.proofs.Said.{number_fits, refusal_fits}
use Rattle.rendering.proofs.Answered.{more_written}
use Rattle.rendering.proofs.render_refusal.Goals as goal

pub push_number-requires : goal.push_number-requires
push_number-requires c =
    let few : c.args.number ≤ 4_294_967_295 = omega arith in
    omega (arith, number_fits c.args.number few, ap (λ a. a.length) c.new-text.ensures)

pub push_bytes-requires-2 : goal.push_bytes-requires-2
push_bytes-requires-2 c =
    let few : c.args.number ≤ 4_294_967_295 = omega arith in
    omega (arith, number_fits c.args.number few, ap (λ a. a.length) c.new-text.ensures)

pub returns : goal.returns
unfolding refusal_line
returns c =
    let few : c.args.number ≤ 4_294_967_295 = omega arith in
    more_written [] (refusal_line c.args.number) c.new-text.result c.push_bytes-2.new.self
    (omega (arith, refusal_fits c.args.number few)) c.new-text.ensures
    (wrote_more (wrote_more c.push_bytes.ensures c.push_number.ensures) c.push_bytes-2.ensures)
