-- `lists::push` meets its promise: the count is stored behind the held entries, and where the list is full the others move down first.
use Rattle.laws.proofs.Base.{arith}
use Rattle.lists.proofs.Pushing.{pushed_room, pushed_full}
use Rattle.lists.proofs.push.Goals as goal

pub returns-then-held-room : goal.returns-then-held-room
returns-then-held-room c = pushed_room _ _ _ c.if-held-room.true

pub returns-then-room-gt0 : goal.returns-then-room-gt0
returns-then-room-gt0 c = pushed_full _ _ _ c.if-held-room.false (omega arith) _ c.copy_within.ensures.after
