use Rattle.laws.proofs.Base.{◌+◌, ◌-◌, arith}
use Rattle.closure.proofs.Passes.{part_length}
use Rattle.closure.proofs.Convolving.{convolving_begins, convolving_addable, convolving_goes_on, convolving_ends}
use Rattle.closure.proofs.convolution.convolve.Goals as goal

pub loop-a-init : goal.loop-a-init
loop-a-init c = convolving_begins c.args.own.now c.args.best.now

pub lower_to_sums-requires : goal.lower_to_sums-requires
lower_to_sums-requires c =
    let head = c.loop-a in
    let args = c.args in
    let pre = c.requires in (
      omega (
        arith,
        part_length (head.a + head.a - 2) head.best (omega (arith, head.invariant.whole)),
        part_length (head.a - 1) args.own.now (omega (arith, pre.0.long)),
        pre.0.long,
        head.invariant.whole,
      ),
      convolving_addable args.own.now args.best.now pre.0 pre.1 pre.2 head.a head.auto.a (omega arith) head.best
          head.invariant,
    )

pub loop-a-preserved : goal.loop-a-preserved
loop-a-preserved c =
    let head = c.loop-a in
    let pre = c.requires in
    convolving_goes_on c.args.own.now c.args.best.now pre.0 pre.1 pre.2 head.a head.auto.a (omega arith) head.best
    head.invariant _ c.lower_to_sums.ensures

-- No window has two parts of one tick, or none has two of a + 4.
pub returns : goal.returns
returns c =
    let pre = c.requires in
    convolving_ends c.args.own.now c.args.best.now pre.0 pre.1 pre.2 c.loop-a.a _ (omega arith) c.loop-a.invariant

pub returns-2 : goal.returns-2
returns-2 c =
    let head = c.loop-a in
    let pre = c.requires in
    convolving_ends c.args.own.now c.args.best.now pre.0 pre.1 pre.2 (head.a + 4) _ (omega arith)
    (convolving_goes_on c.args.own.now c.args.best.now pre.0 pre.1 pre.2 head.a head.auto.a (omega arith) head.best
    head.invariant _ c.lower_to_sums.ensures)
