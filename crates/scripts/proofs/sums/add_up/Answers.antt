use Rattle.std.proofs.Common.{◌≡◌, ◌-◌, length, arith}
use Rattle.curves.proofs.NextTick.{last_none}
use Rattle.scripts.proofs.Adding.{kept_none, sum_more, kept_more}
use Rattle.scripts.proofs.sums.add_up.Goals as goal

pub loop-i-init : goal.loop-i-init
loop-i-init c =
    let xs = c.args.ticks.now in
    let none : length xs - length xs ≡ 0 = omega arith in
    rw none (omega arith, omega (arith, last_none xs), kept_none xs c.args.sums.now c.requires.sums_value)

pub loop-i-preserved : goal.loop-i-preserved
loop-i-preserved c =
    let xs = c.args.ticks.now in
    let turn = c.loop-i in
    let sum = sum_more xs (turn.i - 1) (length xs - turn.i) (length xs - (turn.i - 1)) turn.sum (omega arith) (omega arith) turn.invariant.1 in
    (omega arith, sum, kept_more xs turn.sums _ _ _ _ (omega arith) (omega arith) turn.invariant.2 sum (omega arith))
