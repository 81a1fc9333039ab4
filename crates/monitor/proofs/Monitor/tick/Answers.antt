-- What is found settles the answer, the margin and the next state.
use Rattle.laws.proofs.Base.{◌≡◌, ◌∙◌, ap, ⊎_elim, arith, rules}
use mir.Syntax.{w64}
use mir.Val.{SFits}
use mir.Facts.{to_z-of_z}
use Rattle.history.proofs.Histories.{Sizes}
use Rattle.history.proofs.Slicing.{Arrays}
use Rattle.std.specs.Prelude.{Ok}
use Rattle.monitor.specs.declared.Verdict.TheVariants.{Passed}
use Rattle.monitor.specs.Monitoring.{monitor_view_of}
use Rattle.monitor.specs.Steps.{FoundOf}
use Rattle.monitor.proofs.Ruling.{cut_found, sizes_found, ticked, passed_next, rejected_next, refused_next}
use Rattle.monitor.proofs.Monitor.tick.Goals as goal
use Rattle.monitor.proofs.Monitor.tick.Goals.{then-horizon-history, else-horizon-history, in-Ok-Passed, in-Ok, in-Err}

pub returns : goal.returns
returns c =
    let m = c.args.self in
    let r = c.if-horizon-history.finding in
    let a : Arrays m.history = record { uppers = search rules; lowers = search rules; held = search rules } in
    let found : FoundOf (monitor_view_of m) c.args.count r =
    elim c.if-horizon-history.branch [
      | then-horizon-history w ↦
          sizes_found m c.args.count r (w.finding-is ∙ w.unjudged-finding.ensures)
          (λ z. ⊎_elim (λ h. omega (arith, z.within)) (λ h. omega (arith, z.fewer, h.1)) w.if-horizon-history.either)
      | else-horizon-history w ↦
          let z : Sizes m.history = record { within = omega arith; fewer = omega arith } in
          let given = w.cut-curves.ensures in
          let closed = w.cut-closed.ensures in
          cut_found m a (omega arith) (omega arith) z c.args.count r _ _ _ _ _ given.upper given.lower given.mark closed.upper closed.lower
          (rw w.finding-is w.examine-finding.ensures)
    ] in
    let fits : SFits w64 r.margin.value = search rules in
    ticked m c.args.count r found _ _ (to_z-of_z fits)
    (elim c.match-finding.branch [
      | in-Ok-Passed v ↦
          let passed : v.in-Ok-Passed.field-0 ≡ Passed = cc in
          passed_next m c.args.count r found a _ _ _ _ (v.in-Ok-Passed.is ∙ ap Ok passed) v.push.ensures v.ticks-is v.held-is
      | in-Ok v ↦
          let rejected : ¬ (v.in-Ok.field-0 ≡ Passed) = search rules in
          rejected_next m c.args.count r found _ _ _ v.in-Ok.is rejected v.ticks-is v.held-is
      | in-Err v ↦ refused_next m c.args.count r found _ _ _ v.in-Err.is v.ticks-is v.held-is
    ])
