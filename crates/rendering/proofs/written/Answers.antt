-- `rendering::written` meets its contract: before a turn the text of i windows is written.
use Rattle.laws.proofs.Base.{ap, [], ◌++◌, arith}
use Rattle.laws.specs.Ranges.{fold}
use Rattle.bounds.specs.Answers.{curves_in}
use Rattle.csv_text.specs.Text.{header, crlf}
use Rattle.rendering.proofs.Laws.{line-length, leasts_in, text_next, next_fits, text_whole}
use Rattle.rendering.proofs.Answered.{more_written}
use Rattle.rendering.proofs.written.Goals as goal

pub loop-i-init : goal.loop-i-init
unfolding fold
loop-i-init c =
    more_written [] (header ++ crlf) c.new-text.result c.push_bytes.new.self (omega arith) c.new-text.ensures c.push_bytes.ensures

pub bounds-curves-i : goal.bounds-curves-i
bounds-curves-i c = omega (arith, leasts_in c.args.curves c.requires)

pub push_record-requires : goal.push_record-requires
push_record-requires c =
    let room = next_fits c.args.curves c.loop-i.i _ c.then_some-most.ensures c.requires (omega arith) in
    omega (arith, room, ap (λ a. a.length) c.loop-i.invariant, line-length)

pub loop-i-preserved : goal.loop-i-preserved
loop-i-preserved c =
    let room = next_fits c.args.curves c.loop-i.i _ c.then_some-most.ensures c.requires (omega arith) in
    rw (text_next c.args.curves c.loop-i.i _ c.then_some-most.ensures)
    (more_written _ _ c.loop-i.text c.push_record.new.self room c.loop-i.invariant c.push_record.ensures)

pub returns : goal.returns
returns c =
    rw (text_whole (curves_in c.args.curves) c.loop-i.i (omega (arith, leasts_in c.args.curves c.requires))) c.loop-i.invariant
