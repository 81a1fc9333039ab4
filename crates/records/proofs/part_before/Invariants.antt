-- Before a turn the test has said no at each place passed.
use Rattle.std.proofs.Common.{ℕ, ◌<◌, false, drop}
use Rattle.std.specs.Fn.{FnReturnsAt}
use Rattle.records.proofs.part_before.Given as goal

abbrev pub invariant-loop-n : goal.invariant-loop-n
invariant-loop-n g l = (i : ℕ) → i < l.n → FnReturnsAt g.F.Fn l.ends (drop i l.text) false
