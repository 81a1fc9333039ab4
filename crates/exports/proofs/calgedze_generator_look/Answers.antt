-- The number of a look is that of its reply.
use Rattle.std.proofs.Common.{rules}
use Rattle.scripts.proofs.Given.{looked_number}
use Rattle.exports.proofs.calgedze_generator_look.Goals as goal

pub returns-in-Ok : goal.returns-in-Ok
returns-in-Ok c = rw (looked_number c.args.state.now, ← c.in-Ok.ensures) (search rules)

pub returns-in-Err : goal.returns-in-Err
returns-in-Err c = rw (looked_number c.args.state.now, ← c.in-Err.ensures) (search rules)
