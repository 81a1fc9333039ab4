-- No answer of closing tells more rounds than a pair of its horizon can take. Assumes nothing.
use Rattle.laws.proofs.Base.{ℕ, ◌^◌, ◌≤◌, ap, ◌∙◌, subst⁻¹, ⊎_elim, arith}
use Rattle.curves.specs.Streams.{count_limit}
use Rattle.curves.specs.Pairs.{Pair}
use Rattle.curves.specs.Rounds.{whole, Arrives}
use Rattle.curves.specs.Unlimited.{AnyPair, limited, unlimited, curves_of, alike}
use Rattle.curves.specs.Theorems.{leasts_only}
use Rattle.curves.proofs.Highest.{length-highest}
use Rattle.curves.proofs.Parts.{sums_arrive_within_logarithm}
use Rattle.curves.proofs.Arrival.{rounds_within_slack, arrives_once}
use Rattle.curves.proofs.Bound.{runs_within_logarithm}
use Rattle.closure.specs.Closing.{closing}
use Rattle.closure.specs.Theorems.{PassesFour}
use Rattle.closure.proofs.Said.{refused_is, closed_is, given_rounds, cases}
use Rattle.closure.proofs.Given.{leasts_even, leasts_small, arrived}
use Rattle.guarantees.specs.Cost.{CountWithinSlack, AtMostNineRounds, RoundsWithinLogarithm}
use Rattle.guarantees.specs.Cost.{UnlimitedWithinLogarithm, AtMostEightUnlimited}

-- A refusal tells no rounds, and a closure those that were run.
rounds-within :
    (p : AnyPair) (found : Pair) (m : ℕ) → ((n : ℕ) (q : Pair) → PassesFour p found → Arrives whole (curves_of p) n q → n ≤ m)
    → (closing p found).rounds ≤ m
rounds-within p found m few =
    ⊎_elim
    (λ q. omega (arith, ap (λ a. a.rounds) (refused_is p found q.0 q.1)))
    (λ (passes, closes).
    let (n, q, a) = closes in
    omega (arith, ap (λ a. a.rounds) (closed_is p found n q passes a) ∙ given_rounds n (alike p q) found, few n q passes a))
    (cases p found)

pub count_within_slack : CountWithinSlack
count_within_slack p found g = rounds_within_slack p _ _ (arrived (limited p) found g)

pub at_most_nine_rounds : AtMostNineRounds
at_most_nine_rounds p found = rounds-within p found _ (λ n q passes a. runs_within_logarithm (curves_of p) 8 n passes.0.1 a.runs)

pub rounds_within_logarithm : RoundsWithinLogarithm
rounds_within_logarithm p found k short = rounds-within p found _ (λ n q passes a. runs_within_logarithm (curves_of p) k n short a.runs)

-- ---- without ceilings
pub unlimited_within_logarithm : UnlimitedWithinLogarithm
unlimited_within_logarithm h ls found k short =
    rounds-within (unlimited h ls) found k (λ n q passes a.
    let e = leasts_even h ls found passes in
    let small = leasts_small count_limit ls (omega arith) passes.1.1.1.0 in
    let (m, few, b) = sums_arrive_within_logarithm ls k small (omega arith) in
    let at : Arrives whole (leasts_only ls) n q = subst⁻¹ (λ j. Arrives whole (curves_of (unlimited j ls)) n q) e a in
    omega (arith, few, (arrives_once (leasts_only ls) q _ n m at b).0))

pub at_most_eight_unlimited : AtMostEightUnlimited
at_most_eight_unlimited h ls found =
    rounds-within (unlimited h ls) found 8 (λ n q passes a.
    let short : h ≤ 256 = omega (arith, length-highest h, passes.0.1) in
    let told = closed_is (unlimited h ls) found n q passes a in
    omega (
      arith,
      ap (λ r. r.rounds) told ∙ given_rounds n (alike (unlimited h ls) q) found,
      unlimited_within_logarithm h ls found 8 short,
    ))
