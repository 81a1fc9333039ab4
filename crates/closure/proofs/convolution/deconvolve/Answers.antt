use Rattle.laws.proofs.Base.{◌+◌, ◌-◌, arith, length}
use lib.ListN.{length-take}
use Rattle.closure.proofs.Passes.{part_length}
use Rattle.closure.proofs.Deconvolving.{deconvolving_begins, deconvolving_addable, deconvolving_goes_on, deconvolving_ends}
use Rattle.closure.proofs.convolution.deconvolve.Goals as goal

pub loop-t-init : goal.loop-t-init
loop-t-init c = deconvolving_begins c.args.own.now c.args.other.now c.args.best.now

pub lower_to_sums-requires : goal.lower_to_sums-requires
lower_to_sums-requires c =
    let head = c.loop-t in
    let args = c.args in
    let pre = c.requires in (
      omega (
        arith,
        length-take (length args.best.now + 1 - head.t) head.best,
        part_length (head.t + 4) args.own.now (omega (arith, pre.rows.0.long)),
        pre.rows.0.long,
        head.invariant.whole,
      ),
      deconvolving_addable args.own.now args.other.now args.best.now pre.rows.0 pre.rows.1 pre.differences.0
          pre.differences.1 head.t head.auto.t (omega arith) head.best head.invariant,
    )

pub loop-t-preserved : goal.loop-t-preserved
loop-t-preserved c =
    let head = c.loop-t in
    let args = c.args in
    let pre = c.requires in
    deconvolving_goes_on args.own.now args.other.now args.best.now pre.rows.0 pre.rows.1 pre.differences.0
    pre.differences.1 head.t head.auto.t (omega arith) head.best head.invariant _
    c.lower_to_sums.ensures

-- The horizon is 1, or no window is longer by t + 4 ticks.
pub returns : goal.returns
returns c =
    let args = c.args in
    let pre = c.requires in
    deconvolving_ends args.own.now args.other.now args.best.now pre.rows.0 pre.rows.1 pre.differences.0
    pre.differences.1 c.loop-t.t _ (omega arith) c.loop-t.invariant

pub returns-2 : goal.returns-2
returns-2 c =
    let head = c.loop-t in
    let args = c.args in
    let pre = c.requires in
    deconvolving_ends args.own.now args.other.now args.best.now pre.rows.0 pre.rows.1 pre.differences.0
    pre.differences.1 (head.t + 4) _ (omega arith)
    (deconvolving_goes_on args.own.now args.other.now args.best.now pre.rows.0 pre.rows.1 pre.differences.0
    pre.differences.1 head.t head.auto.t (omega arith) head.best head.invariant _
    c.lower_to_sums.ensures)
