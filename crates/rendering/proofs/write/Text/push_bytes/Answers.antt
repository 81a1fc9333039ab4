-- `rendering::write::Text::push_bytes` meets its contract: the bytes are copied into the part behind the text.
use Rattle.laws.proofs.Base.{arith}
use Rattle.rendering.proofs.Laws.{wrote_part}
use Rattle.rendering.proofs.write.Text.push_bytes.Goals as goal

pub returns : goal.returns
returns c = wrote_part _ _ _ _ _ (omega arith) c.copy_from_slice.ensures.after (omega arith)
