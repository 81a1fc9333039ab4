use Rattle.std.proofs.Common.{ℕ, ◌+◌, ◌≤◌, List, refl, sym, ap, ◌∙◌, length, replicate, rules, arith}
use Rattle.monitor.specs.Calls.{rulings}
use Rattle.scripts.proofs.Counting.{front_length, front_last, front_is, strict_placed, first_pass}
use Rattle.scripts.proofs.Growing.{turned_as}
use Rattle.scripts.proofs.passing.count_passing.Goals as goal

-- The array that the sums are put into.
abbrev zeros : List ℕ
zeros = replicate 257 0

pub add_up-requires-clause-sums_value : goal.add_up-requires-clause-sums_value
add_up-requires-clause-sums_value c =
    front_last zeros (length c.args.view.curves.upper.now + 1) refl (omega arith) (omega (arith, c.requires.slices.within))

pub returns-then-not-add_up : goal.returns-then-not-add_up
unfolding rulings
returns-then-not-add_up c = (omega arith, refl)

pub pass-requires-clause-placed : goal.pass-requires-clause-placed
pass-requires-clause-placed c =
    let v = c.args.view in
    let q = c.args.closed in
    let pre = c.requires in
    let few : length v.curves.upper.now + 1 ≤ 257 = omega (arith, pre.slices.within) in
    strict_placed v.curves.upper.now v.curves.lower.now v.curves.unlimited q.upper.now q.lower.now v.ticks.now pre.slices pre.closed_slices
    pre.closed_len pre.legal_monitor _ _ (turned_as _ _ _ _ _ (λ x y z p. search rules) c.turn.ensures)
    (turned_as _ _ _ _ _ (λ x y z p. search rules) c.turn-2.ensures) _
    (ap length (front_is zeros (length v.curves.upper.now + 1) refl (omega arith) few c.add_up.new.sums c.add_up.ensures.sums_len_unchanged)
    ∙ c.add_up.ensures.sums_len_unchanged
    ∙ sym (front_length zeros (length v.curves.upper.now + 1) refl (omega arith) few))

pub returns : goal.returns
returns c =
    let v = c.args.view in
    let q = c.args.closed in
    let pre = c.requires in
    first_pass v.curves.upper.now v.curves.lower.now v.curves.unlimited q.upper.now q.lower.now v.ticks.now pre.slices pre.closed_slices
    pre.closed_len pre.legal_monitor _ _ (turned_as _ _ _ _ _ (λ x y z p. search rules) c.turn.ensures) (turned_as _ _ _ _ _ (λ x y z p. search rules) c.turn-2.ensures) c.args.counts.now _ c.pass.ensures
