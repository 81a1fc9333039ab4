-- What the rounds of a given pair lead to, by computation: a test that passes is a proof. Assumes nothing.
use Rattle.laws.proofs.Base.{ℕ, zero, suc, Bool, true, false, ◌&&◌, ◌⊎◌, inl, inr, ⊎_elim, ℕ_discrete}
use mathlib.Core.Bool.{not, ◌||◌}
use lib.Dec.{T}
use Rattle.curves.specs.Pairs.{Pair, horizon, Equal}
use Rattle.curves.specs.Rounds.{whole, cut_off, figures_of, round, after, Runs, Arrives, Crosses}
use Rattle.curves.proofs.Agreement.{cut_off_arrives, cut_off_crosses}
use Rattle.curves.proofs.Arrival.{crossed?, equal?, runs_none, runs_more}

-- ---- the two sides of an answer
unfoldable pub left? : {A B : Type 0} → A ⊎ B → Bool
left? (inl a) = true
left? (inr b) = false

pub left : {A B : Type 0} (s : A ⊎ B) → T (left? s) → A
unfolding left?
left (inl a) t = a
left (inr b) t = absurd t

right : {A B : Type 0} (s : A ⊎ B) → T (not (left? s)) → B
unfolding left?
right (inl a) t = absurd t
right (inr b) t = b

pub both : (a b : Bool) → T (a && b) → T a × T b
both true b t = (tt, t)
both false b t = absurd t

unfoldable pub same? : (c e : Pair) → Equal c e ⊎ ¬ Equal c e
same? c e = elim (ℕ_discrete (horizon c) (horizon e)) [ yes h ↦ equal? c e h | no h ↦ inr (λ q. h q.horizons) ]

-- ---- the rounds
unfoldable pub runs? : Pair → ℕ → Bool
runs? p zero = true
runs? p (suc n) =
    runs? p n && (left? (crossed? (after cut_off n p)) && not (left? (same? (round cut_off (after cut_off n p)) (after cut_off n p))))

runs : (p : Pair) (n : ℕ) → T (runs? p n) → Runs cut_off p n
unfolding runs?
runs p zero t = runs_none cut_off p
runs p (suc n) t =
    let (before, now) = both (runs? p n) _ t in
    let (uncrossed, changes) = both (left? (crossed? (after cut_off n p))) _ now in
    runs_more cut_off p n (runs p n before) (left (crossed? (after cut_off n p)) uncrossed) (right (same? _ _) changes)

unfoldable pub arrives? : Pair → ℕ → Pair → Bool
arrives? p n q =
    runs? p n
    && (left? (crossed? (after cut_off n p))
    && (left? (same? (round cut_off (after cut_off n p)) (after cut_off n p)) && left? (same? (after cut_off n p) (figures_of cut_off q))))

pub arrives_computed : (p : Pair) (n : ℕ) (q : Pair) → T (arrives? p n q) → Arrives whole p n q
unfolding arrives?
arrives_computed p n q t =
    let (r, t₁) = both (runs? p n) _ t in
    let (u, t₂) = both (left? (crossed? (after cut_off n p))) _ t₁ in
    let (s, f) = both (left? (same? (round cut_off (after cut_off n p)) (after cut_off n p))) _ t₂ in
    (cut_off_arrives p n q).1
    (record {
      runs = runs p n r;
      uncrossed = left (crossed? (after cut_off n p)) u;
      settled = left (same? (round cut_off (after cut_off n p)) (after cut_off n p)) s;
      figures = left (same? (after cut_off n p) (figures_of cut_off q)) f;
    })

unfoldable pub crosses? : Pair → ℕ → Bool
crosses? p n = runs? p n && not (left? (crossed? (after cut_off n p)))

crosses_computed : (p : Pair) (n : ℕ) → T (crosses? p n) → Crosses whole p n
unfolding crosses?
crosses_computed p n t =
    let (r, x) = both (runs? p n) _ t in
    (cut_off_crosses p n).1 (record { runs = runs p n r; crossed = right (crossed? (after cut_off n p)) x })

-- Crossed after at most n rounds.
unfoldable pub crosses_by? : Pair → ℕ → Bool
crosses_by? p zero = crosses? p 0
crosses_by? p (suc n) = crosses? p (suc n) || crosses_by? p n

either : (a b : Bool) → T (a || b) → T a ⊎ T b
either true b t = inl t
either false b t = inr t

pub crosses_by : (p : Pair) (n : ℕ) → T (crosses_by? p n) → (k : ℕ) × Crosses whole p k
unfolding crosses_by?
crosses_by p zero t = (0, crosses_computed p 0 t)
crosses_by p (suc n) t =
    ⊎_elim (λ x. (suc n, crosses_computed p (suc n) x)) (λ x. crosses_by p n x) (either (crosses? p (suc n)) (crosses_by? p n) t)
