-- Of a stream a state holds the last H − 1 ticks, and that is as good as the whole. Assumes nothing.
use Rattle.laws.proofs.Base.{ℕ, suc, ◌-◌, ◌≤◌, ◌<◌, ◌≡◌, sym, ap, ◌∙◌, List, [], arith, length}
use lib.Seq.{drop-nil}
use Rattle.curves.specs.Pairs.{horizon}
use Rattle.curves.specs.Unlimited.{AnyPair, curves_of}
use Rattle.curves.specs.Ticks.{then, newest}
use Rattle.curves.specs.Questions.{result}
use Rattle.curves.proofs.Verdicts.{length-newest, then_newest, newest_newest}
use Rattle.history.specs.States.{View, added, Legal}
use Rattle.bounds.proofs.Said.{yes_from}
use Rattle.history.specs.Opening.{opening, fresh}

-- The state after the stream xs.
abbrev pub held_of : AnyPair → List ℕ → View
held_of p xs = record { pair = p; held = newest (horizon (curves_of p) - 1) xs }

pub held_fresh : (p : AnyPair) → fresh p ≡ held_of p []
held_fresh p = ap (λ (ys : List ℕ). record { pair = p; held = ys }) (sym (drop-nil (0 - (horizon (curves_of p) - 1))))

pub held_added : (p : AnyPair) (xs : List ℕ) (x : ℕ) → added (held_of p xs) x ≡ held_of p (then xs x)
held_added p xs x =
    let n = horizon (curves_of p) - 1 in
    ap (λ (ys : List ℕ). record { pair = p; held = ys })
    (ap (newest n) (then_newest n xs x) ∙ newest_newest (suc n) (then xs x) n (omega arith))

pub held_legal : (p : AnyPair) → opening p ≡ result tt → (xs : List ℕ) → Legal (held_of p xs)
held_legal p o xs =
    let ys = yes_from p o in
    let fewer : length (newest (horizon (curves_of p) - 1) xs) < horizon (curves_of p) =
    omega (arith, length-newest (horizon (curves_of p) - 1) xs, ys.0.0) in
    record { lengths = ys.0; figures = ys.1.1.0; fewer = fewer }

pub opened_positive : (p : AnyPair) → opening p ≡ result tt → 1 ≤ horizon (curves_of p)
opened_positive p o = (yes_from p o).0.0
