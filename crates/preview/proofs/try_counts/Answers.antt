-- `preview::try_counts` meets its contract: a piece that runs is refused, ends the preview, or leaves what passes so far.
-- Assumes nothing.
use Rattle.std.proofs.Common.{rules, ◌≡◌, ◌≤◌, length, arith, refl, sym, ap, subst, ◌∙◌, length-drop}
use Rattle.std.proofs.lemmas.Bool.Decides.{nat_tests}
use Rattle.scripts.specs.Words.{LegalMonitorWords}
use Rattle.preview.proofs.Fed.{refused_legal, refused_as, tried_is}
use Rattle.preview.proofs.Turn.{Begun, not_begun, none_legal, none_run, refused_is, legal, goes_behind, rejects, goes_on, all_pass}
use Rattle.preview.proofs.try_counts.Goals as goal
use Rattle.preview.proofs.try_counts.Goals.{then-is_empty+in_ok-run_piece, else-is_empty}

-- ---- question 12 is answered no
pub returns-in_err-run_piece-clause-told : goal.returns-in_err-run_piece-clause-told
returns-in_err-run_piece-clause-told c =
    refused_as _ _ _ _ c.from_residual.result c.from_residual.ensures.0 refl
    (refused_is (not_begun c.args.words.now c.args.counts.now) c.in_err-run_piece.ensures.left refl refl)

pub returns-in_err-n-clause-told : goal.returns-in_err-n-clause-told
returns-in_err-n-clause-told c =
    let inv = c.loop-piece.invariant in
    refused_as _ _ _ _ c.from_residual-in_err-n.result c.from_residual-in_err-n.ensures.0 inv.untold
    (refused_is inv.begun c.in_err-n.ensures.left inv.room refl)

pub returns-in_err-run_piece-clause-legal : goal.returns-in_err-run_piece-clause-legal
returns-in_err-run_piece-clause-legal c =
    refused_legal c.from_residual.result c.from_residual.ensures.0
    (refused_is (not_begun c.args.words.now c.args.counts.now) c.in_err-run_piece.ensures.left refl refl)

pub returns-in_err-n-clause-legal : goal.returns-in_err-n-clause-legal
returns-in_err-n-clause-legal c =
    let inv = c.loop-piece.invariant in
    refused_legal c.from_residual-in_err-n.result c.from_residual-in_err-n.ensures.0
    (refused_is inv.begun c.in_err-n.ensures.left inv.room refl)

-- ---- the loop begins
begins : (c : goal.After-into_iter-piece-iterator)
    → Begun c.args.words.now c.args.counts.now 0 c.if-is_empty.words × (length c.args.counts.now ≤ 0 → LegalMonitorWords c.args.words.now)
begins c =
    elim c.if-is_empty.branch [
      | then-is_empty+in_ok-run_piece w ↦
          let none : length c.args.counts.now ≡ 0 = grind (arith, nat_tests) in
          let few : w.in_ok-run_piece.field-0 ≤ 1_024 = omega (arith, w.in_ok-run_piece.ensures.ran) in (
            subst (Begun c.args.words.now c.args.counts.now 0) (sym w.words-is) (none_run w.in_ok-run_piece.ensures.left few none),
            λ h. none_legal w.in_ok-run_piece.ensures.left few none,
          )
      | else-is_empty w ↦ (
        subst (Begun c.args.words.now c.args.counts.now 0) (sym w.words-is) (not_begun _ _),
        λ h. absurd (grind (arith, nat_tests)),
      )
    ]

pub loop-piece-init : goal.loop-piece-init
loop-piece-init c =
    record { rest = search rules; size = search rules; room = search rules; untold = refl; begun = (begins c).0; asked = (begins c).1 }

-- ---- a piece has run
pub returns-in-Some-first_rejected-clause-told : goal.returns-in-Some-first_rejected-clause-told
returns-in-Some-first_rejected-clause-told c =
    let inv = c.loop-piece.invariant in
    let ran = c.in_ok-n.ensures in
    let cut = c.in-Some.ensures.steps.1 in
    let few : c.in_ok-n.n ≤ 1_024 = omega (arith, ran.ran) in
    let room : length c.in-Some.piece.now ≤ length c.loop-piece.verdicts = omega (arith, cut.1) in
    let whole = c.run_piece-in-loop-piece.auto.verdicts in
    let first = c.in-Some-first_rejected.ensures in
    tried_is _ _ _ _ _
    (legal _ inv.begun ran.left few (sym inv.rest ∙ cut.0) room whole)
    (rejects _ inv.begun ran.left few (sym inv.rest ∙ cut.0) room whole _ first.0 first.1)

pub returns-in-Some-first_rejected-clause-legal : goal.returns-in-Some-first_rejected-clause-legal
returns-in-Some-first_rejected-clause-legal c =
    let inv = c.loop-piece.invariant in
    let ran = c.in_ok-n.ensures in
    let cut = c.in-Some.ensures.steps.1 in
    let few : c.in_ok-n.n ≤ 1_024 = omega (arith, ran.ran) in
    let room : length c.in-Some.piece.now ≤ length c.loop-piece.verdicts = omega (arith, cut.1) in
    legal _ inv.begun ran.left few (sym inv.rest ∙ cut.0) room c.run_piece-in-loop-piece.auto.verdicts

pub loop-piece-preserved : goal.loop-piece-preserved
loop-piece-preserved c =
    let inv = c.loop-piece.invariant in
    let ran = c.in_ok-n.ensures in
    let cut = c.in-Some.ensures.steps.1 in
    let few : c.in_ok-n.n ≤ 1_024 = omega (arith, ran.ran) in
    let room : length c.in-Some.piece.now ≤ length c.loop-piece.verdicts = omega (arith, cut.1) in
    let whole = c.run_piece-in-loop-piece.auto.verdicts in
    record {
      rest = goes_behind _ inv.begun ran.left few (sym inv.rest ∙ cut.0) room whole;
      size = search rules;
      room = search rules;
      untold = inv.untold;
      begun = goes_on _ inv.begun ran.left few (sym inv.rest ∙ cut.0) room whole c.in_default.ensures;
      asked = λ h. legal _ inv.begun ran.left few (sym inv.rest ∙ cut.0) room whole;
    }

pub returns-clause-told : goal.returns-clause-told
returns-clause-told c =
    let inv = c.loop-piece.invariant in
    let done : length c.args.counts.now ≤ c.loop-piece.passed =
    omega (arith, c.in-None.ensures.steps, ap length inv.rest, length-drop c.loop-piece.passed c.args.counts.now) in
    tried_is _ _ _ _ _ (inv.asked done) (all_pass _ _ _ _ done (inv.begun.passed (inv.asked done)))

pub returns-clause-legal : goal.returns-clause-legal
returns-clause-legal c =
    let inv = c.loop-piece.invariant in
    inv.asked (omega (arith, c.in-None.ensures.steps, ap length inv.rest, length-drop c.loop-piece.passed c.args.counts.now))
