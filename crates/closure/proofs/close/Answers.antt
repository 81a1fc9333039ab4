-- Each refusal where its question is the first that is answered no, and else what the rounds end with.
use Rattle.std.proofs.lemmas.Result.{err_from_is_err_and}
use Rattle.laws.proofs.Base.{⊎_elim, arith, rules}
use Rattle.curves.specs.Pairs.{pair_of}
use Rattle.closure.proofs.Answered.{refused_1, refused_2, refused_3, refused_4, passes, limit_with, no_limit_with}
use Rattle.closure.proofs.Answered.{leasts_ended_with, arrived_with, crossed_with}
use Rattle.closure.proofs.close.Goals as goal

pub returns-then-h-lt1 : goal.returns-then-h-lt1
returns-then-h-lt1 c =
    let p = c.args.curves in
    refused_1 p.upper.now p.lower.now p.unlimited (pair_of c.args.closed_upper.now c.args.closed_lower.now)
    (λ y. ⊎_elim (λ h. omega (arith, y)) (λ h. omega (arith, y)) c.then-h-lt1.either)

pub returns-then-curves-h : goal.returns-then-curves-h
returns-then-curves-h c =
    let p = c.args.curves in
    refused_2 p.upper.now p.lower.now p.unlimited (pair_of c.args.closed_upper.now c.args.closed_lower.now) (omega arith) (omega arith)
    (λ y. omega arith)

pub returns-then-closed_upper-h : goal.returns-then-closed_upper-h
returns-then-closed_upper-h c =
    let p = c.args.curves in
    refused_3 p.upper.now p.lower.now p.unlimited (pair_of c.args.closed_upper.now c.args.closed_lower.now) (omega arith) (omega arith)
    (omega arith) (λ y. ⊎_elim (λ h. omega (arith, y)) (λ h. omega (arith, y)) c.then-closed_upper-h.either)

pub returns-then-not-within : goal.returns-then-not-within
returns-then-not-within c =
    let p = c.args.curves in
    refused_4 p.upper.now p.lower.now p.unlimited (pair_of c.args.closed_upper.now c.args.closed_lower.now) (omega arith) (omega arith)
    (omega arith) (omega arith, omega arith)
    (no_limit_with p.upper.now p.lower.now p.unlimited c.limit_for.result c.limit_for.ensures c.if-not-within.ensures)

pub returns-then-curves : goal.returns-then-curves
returns-then-curves c =
    let p = c.args.curves in
    leasts_ended_with p.upper.now p.lower.now p.unlimited (pair_of c.args.closed_upper.now c.args.closed_lower.now)
    (passes p.upper.now p.lower.now p.unlimited _ (omega arith) (omega arith) (omega arith) (omega arith, omega arith)
    (limit_with p.upper.now p.lower.now p.unlimited c.limit_for.result c.limit_for.ensures c.if-not-within.ensures))
    c.if-curves.true c.to_end-rounds.new.closed_lower (search rules) c.to_end-rounds.result c.to_end-rounds.ensures

pub returns-in_err-rounds : goal.returns-in_err-rounds
returns-in_err-rounds c =
    let p = c.args.curves in
    let error = err_from_is_err_and c.from_residual.result c.from_residual.ensures.1 in
    rw (error.1, error.2)
    (crossed_with p.upper.now p.lower.now p.unlimited (pair_of c.args.closed_upper.now c.args.closed_lower.now)
    (passes p.upper.now p.lower.now p.unlimited _ (omega arith) (omega arith) (omega arith) (omega arith, omega arith)
    (limit_with p.upper.now p.lower.now p.unlimited c.limit_for.result c.limit_for.ensures c.if-not-within.ensures))
    c.if-curves.false c.to_end.new.closed_upper c.to_end.new.closed_lower (search rules) (search rules) c.to_end.result
    c.in_err-rounds.field-0.0 c.in_err-rounds.ensures.ok_part c.in_err-rounds.ensures.value c.to_end.ensures)

pub returns : goal.returns
returns c =
    let p = c.args.curves in
    arrived_with p.upper.now p.lower.now p.unlimited (pair_of c.args.closed_upper.now c.args.closed_lower.now)
    (passes p.upper.now p.lower.now p.unlimited _ (omega arith) (omega arith) (omega arith) (omega arith, omega arith)
    (limit_with p.upper.now p.lower.now p.unlimited c.limit_for.result c.limit_for.ensures c.if-not-within.ensures))
    c.if-curves.false c.to_end.new.closed_upper c.to_end.new.closed_lower (search rules) (search rules) c.to_end.result
    c.in_ok-rounds.rounds c.in_ok-rounds.ensures.ok_part c.to_end.ensures
