-- Laws over plain variables that the functions' proofs cite.
-- Assumes nothing.
use Rattle.laws.proofs.Base.{ℕ, zero, suc, max, ◌≤◌, ◌<◌, ◌≡◌, ap, Bool, List, [], ◌∷◌, ◌↔◌, arith, length, get_or}
use lib.Bits.{bit_or, or_add_and, and_le_l, and_le_r}
use Rattle.std.specs.List.{fold}
use Rattle.laws.specs.Tests.{Tells}
use Rattle.laws.proofs.Tests.{tells_same}
use Rattle.curves.specs.Pairs.{figure, FiguresWithin}
use Rattle.curves.specs.Unlimited.{with_mark}
use Rattle.curves.proofs.Highest.{horizon_with, lower_with}
use Rattle.bounds.specs.Bounds.{max_horizon, question1, question2}

-- ---- the figures of a list
-- A fold by an operation that makes no number smaller is above what it begins with, and above each entry.
module _ (h : ℕ → ℕ → ℕ) (kept : (a x : ℕ) → a ≤ h a x) (met : (a x : ℕ) → x ≤ h a x) where
  fold_above : (a : ℕ) (us : List ℕ) → a ≤ fold h a us
  fold_above a [] = omega arith
  fold_above a (x ∷ us) = omega (arith, fold_above (h a x) us, kept a x)

  entries_below : (a : ℕ) (us : List ℕ) (k : ℕ) → k < length us → get_or us k 0 ≤ fold h a us
  entries_below a [] k l = absurd (omega arith)
  entries_below a (x ∷ us) zero l = omega (arith, fold_above (h a x) us, met a x)
  entries_below a (x ∷ us) (suc k) l = entries_below (h a x) us k (omega arith)

  figures_below : (a : ℕ) (us : List ℕ) → FiguresWithin (fold h a us) us
  unfolding figure
  figures_below a us zero u v = absurd (omega arith)
  figures_below a us (suc d) u v = entries_below a us d (omega arith)

-- No figure is above the bits that some figure has.
pub figures_joined : (n : ℕ) (us : List ℕ) → n ≡ fold bit_or 0 us → FiguresWithin n us
figures_joined n us e =
    rw e (figures_below bit_or (λ a x. omega (arith, or_add_and a x, and_le_r a x)) (λ a x. omega (arith, or_add_and a x, and_le_l a x)) 0 us)

-- A limit that all entries keep, the highest keeps.
highest_within : (n a : ℕ) (us : List ℕ) → a ≤ n → ((k : ℕ) → k < length us → get_or us k 0 ≤ n) → fold max a us ≤ n
highest_within n a [] l h = l
highest_within n a (x ∷ us) l h = highest_within n (max a x) us (omega (arith, h 0 (omega arith))) (λ k m. h (suc k) (omega arith))

-- What tells whether the highest figure is within a limit tells whether all are.
pub highest_told : (n m : ℕ) (us : List ℕ) (b : Bool) → m ≡ fold max 0 us → Tells b (m ≤ n) → Tells b (FiguresWithin n us)
unfolding figure
highest_told n m us b e t = tells_same b (there, back) t
  where
    there : m ≤ n → FiguresWithin n us
    there l d u v = omega (arith, l, e, figures_below max (λ a x. omega arith) (λ a x. omega arith) 0 us d u v)

    back : FiguresWithin n us → m ≤ n
    back h = omega (arith, e, highest_within n 0 us (omega arith) (λ k l. h (suc k) (omega arith) (omega arith)))

-- ---- questions 1 and 2 of two lists and a mark
pub lengths_with : (us ls : List ℕ) (b : Bool) → 1 ≤ length us → length us ≤ max_horizon → (question1 (with_mark us ls b)).asked
lengths_with us ls b h k = let e = horizon_with us ls b in (omega (arith, e), omega (arith, e))

pub no_lengths_with : (us ls : List ℕ) (b : Bool) → ¬ ((1 ≤ length us) × (length us ≤ max_horizon)) → ¬ (question1 (with_mark us ls b)).asked
no_lengths_with us ls b n y = let e = horizon_with us ls b in n (omega (arith, e, y.0), omega (arith, e, y.1))

pub even_with : (us ls : List ℕ) (b : Bool) → (question2 (with_mark us ls b)).asked ↔ (length ls ≡ length us)
even_with us ls b =
    let e = horizon_with us ls b in
    let f = ap length (lower_with us ls b) in
    ((λ q. omega arith), (λ q. omega arith))
