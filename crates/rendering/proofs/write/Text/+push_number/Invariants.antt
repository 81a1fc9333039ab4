-- `rendering::write::Text::push_number`, which calls itself, ends: n falls.
use Rattle.rendering.proofs.write.Text.+push_number.Given as goal

abbrev pub decreases-push_number : goal.decreases-push_number
decreases-push_number l = l.n
