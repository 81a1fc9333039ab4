-- `rendering::write::Text::push_number` meets its contract: one digit, or those of its hundredth, where there is one, and two more.
use Rattle.laws.proofs.Base.{ap, arith, length}
use Rattle.laws.proofs.Writing.{wrote_more}
use Rattle.csv_text.proofs.Numbers.{decimal_some, decimal_small}
use Rattle.rendering.proofs.Laws.{decimal_two, decimal_more, hundredth_shorter}
use Rattle.rendering.proofs.write.Text.+push_number.Goals as goal
use Rattle.rendering.proofs.write.Text.+push_number.Goals.{then-n-ge100, else-n-ge100}

pub push-requires : goal.push-requires
push-requires t c = omega (arith, decimal_some c.args.n, c.requires)

pub returns-then-n-lt10 : goal.returns-then-n-lt10
returns-then-n-lt10 t c = rw (decimal_small c.args.n (omega arith)) c.push.ensures

pub push_number-requires : goal.push_number-requires
push_number-requires t c = omega (arith, hundredth_shorter c.args.n (omega arith))

pub push_two-requires : goal.push_two-requires
push_two-requires t c =
    elim c.if-n-ge100.branch [
      | then-n-ge100 w ↦ omega (arith, ap (λ x. x.length) w.self-is, hundredth_shorter c.args.n (omega arith), c.requires)
      | else-n-ge100 w ↦
          omega (arith, ap (λ x. x.length) w.self-is, ap length (decimal_two c.args.n (omega arith) (omega arith)), c.requires)
    ]

pub returns : goal.returns
returns t c =
    elim c.if-n-ge100.branch [
      | then-n-ge100 w ↦
          rw (decimal_more c.args.n (omega arith)) (wrote_more w.push_number.ensures (rw w.self-is at c.push_two.ensures))
      | else-n-ge100 w ↦ rw (decimal_two c.args.n (omega arith) (omega arith)) (rw w.self-is at c.push_two.ensures)
    ]
