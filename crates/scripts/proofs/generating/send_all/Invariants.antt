use Rattle.std.proofs.Common.{◌≡◌, take}
use Rattle.laws.specs.Writing.{over}
use Rattle.history.specs.States.{view_of}
use Rattle.generator.specs.Calls.{after_sendings}
use Rattle.scripts.proofs.Running.{sends}
use Rattle.scripts.proofs.generating.send_all.Given as goal

-- The choices before i have been sent, and the generator is where these left it.
abbrev pub invariant-loop-i : goal.invariant-loop-i
invariant-loop-i l =
    (l.counts ≡ over (sends (view_of l.fn.generator.history) (take l.i l.choices)) l.initial.counts)
    × (view_of l.generator.history ≡ after_sendings (view_of l.fn.generator.history) (take l.i l.choices))
