-- Each number where its question is the first that is answered no. Assumes nothing.
use Rattle.laws.proofs.Base.{◌≤◌, ◌≡◌, refl, inl, inr, arith, length}
use Rattle.bounds.specs.declared.Curves.{Curves}
use Rattle.bounds.specs.Bounds.{max_horizon, question1, question2}
use Rattle.bounds.specs.Answers.{curves_in}
use Rattle.bounds.proofs.Said.{asking_yes, asking_no}
use Rattle.bounds.proofs.Laws.{lengths_with, no_lengths_with, even_with}
use Rattle.bounds.proofs.Curves.ask.Goals as goal
use Rattle.bounds.proofs.Curves.ask.Goals.{then-horizon-lt1-via-then-horizon-lt1, then-horizon-lt1-via-else-horizon-lt1+then-horizon-gt-MAX_HORIZON}

module _ (p : Curves) where
  no-first : ¬ ((1 ≤ length p.upper.now) × (length p.upper.now ≤ max_horizon)) → ¬ (question1 (curves_in p)).asked
  no-first n = no_lengths_with p.upper.now p.lower.now p.unlimited n

  first : 1 ≤ length p.upper.now → length p.upper.now ≤ max_horizon → (question1 (curves_in p)).asked
  first h k = lengths_with p.upper.now p.lower.now p.unlimited h k

  second : length p.lower.now ≡ length p.upper.now → (question2 (curves_in p)).asked
  second e = (even_with p.upper.now p.lower.now p.unlimited).1 e

  no-second : ¬ (length p.lower.now ≡ length p.upper.now) → ¬ (question2 (curves_in p)).asked
  no-second n y = n ((even_with p.upper.now p.lower.now p.unlimited).0 y)

pub returns-then-horizon-lt1 : goal.returns-then-horizon-lt1
returns-then-horizon-lt1 c =
    let p = c.args.self in
    asking_no (curves_in p) 1 (inl (
      refl,
      no-first p (λ y. elim c.then-horizon-lt1.branch [
        | then-horizon-lt1-via-then-horizon-lt1 w ↦ omega (arith, y.0, w.if-horizon-lt1)
        | then-horizon-lt1-via-else-horizon-lt1+then-horizon-gt-MAX_HORIZON w ↦ omega (arith, y.1, w.if-horizon-gt-MAX_HORIZON)
      ]),
    ))

pub returns-then-self-horizon : goal.returns-then-self-horizon
returns-then-self-horizon c =
    let p = c.args.self in
    asking_no (curves_in p) 2 (inr (first p (omega arith) (omega arith), inl (refl, no-second p (λ y. omega arith))))

pub returns-then-not-within : goal.returns-then-not-within
returns-then-not-within c =
    let p = c.args.self in
    asking_no (curves_in p) 4
    (inr (first p (omega arith) (omega arith), inr (second p (omega arith), inl (refl, c.if-not-within.ensures))))

pub returns : goal.returns
returns c =
    let p = c.args.self in
    asking_yes (curves_in p) (first p (omega arith) (omega arith), (second p (omega arith), (c.if-not-within.ensures, tt)))
