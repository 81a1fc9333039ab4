-- The count goes into one place fewer than the horizon, where the state has its form; and the next state follows.
use Rattle.laws.proofs.Base.{refl, arith, rules}
use Rattle.history.proofs.Histories.{Sizes, legal_sizes}
use Rattle.history.proofs.Slicing.{Arrays}
use Rattle.generator.proofs.Ranging.{sent_legal, sent_next, kept_next}
use Rattle.generator.proofs.Generator.tick.Goals as goal

pub slice_bounds-ticks-count : goal.slice_bounds-ticks-count
slice_bounds-ticks-count c =
    let z : Sizes c.args.self.history = legal_sizes _ (sent_legal _ _ c.in-Ok.count c.in-Ok.ensures) in omega (arith, z.fewer)

pub slice_bounds-ticks-end : goal.slice_bounds-ticks-end
slice_bounds-ticks-end c =
    let z : Sizes c.args.self.history = legal_sizes _ (sent_legal _ _ c.in-Ok.count c.in-Ok.ensures) in omega (arith, z.within)

pub slice_bounds-push-length : goal.slice_bounds-push-length
slice_bounds-push-length c =
    let z : Sizes c.args.self.history = legal_sizes _ (sent_legal _ _ c.in-Ok.count c.in-Ok.ensures) in search rules

pub returns-in-Ok : goal.returns-in-Ok
returns-in-Ok c =
    let g = c.args.self in
    let a : Arrays g.history = record { uppers = search rules; lowers = search rules; held = search rules } in
    sent_next g c.args.choice _ _ _ c.in-Ok.ensures a c.in-Ok.count _ _ refl c.push-held.ensures refl refl

pub returns-in-Err : goal.returns-in-Err
returns-in-Err c = kept_next c.args.self c.args.choice _ _ _ c.choose-sending.ensures c.in-Err.field-0 c.in-Err.is refl refl
