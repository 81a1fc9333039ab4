-- The sum of `limits::numbers::digest` stays below 2,147,483,648.
-- Assumes nothing.
use Rattle.std.proofs.Common.{◌<◌}
use Rattle.limits.proofs.numbers.digest.Given as goal

abbrev pub invariant-loop-number : goal.invariant-loop-number
invariant-loop-number l = l.sum < 2_147_483_648
