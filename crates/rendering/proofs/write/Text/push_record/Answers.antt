-- `rendering::write::Text::push_record` meets its contract: its parts are written one after the other.
use Rattle.laws.proofs.Base.{append-nil}
use Rattle.laws.proofs.Writing.{wrote_more}
use Rattle.rendering.specs.Rendering.{line}
use Rattle.rendering.proofs.write.Text.push_record.Goals as goal
use Rattle.rendering.proofs.write.Text.push_record.Goals.{in-Some, in_default}

pub returns : goal.returns
unfolding line
returns c =
    let two = wrote_more c.push_number.ensures c.push.ensures in
    let four = wrote_more (wrote_more two c.push_number-2.ensures) c.push-2.ensures in
    elim c.match-most.branch [
      | in-Some w ↦
          rw w.in-Some.is (wrote_more (wrote_more four w.push_number-in-Some.ensures) (rw w.self-is at c.push_two.ensures))
      | in_default w ↦ rw (w.in_default.is, append-nil) (wrote_more four (rw w.self-is at c.push_two.ensures))
    ]
