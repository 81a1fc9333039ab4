-- `exports::calgedze_read` is safe: what was read has at most 256 windows.
-- Assumes nothing.
use Rattle.std.proofs.Common.{◌≤◌, ap, rules}
use Rattle.constraints.proofs.Streams.{read_within}
use Rattle.exports.proofs.calgedze_read.Goals as goal

pub overflow_cast-pair : goal.overflow_cast-pair
overflow_cast-pair c =
    let few : c.in-Ok.pair.horizon ≤ 256 = read_within _ _ _ (ap (λ a. a.horizon) c.in-Ok.ensures) in
    search rules
