-- Window sums: a window in two parts, and streams that agree on a window. Assumes nothing.
use Rattle.laws.proofs.Base.{ℕ, zero, suc, ◌+◌, ◌≤◌, ◌<◌, ◌≡◌, refl, sym, ap, List, ◌++◌, le_refl, add-zero, add-suc, arith}
use Rattle.laws.proofs.Base.{length, list_get_or-append}
use Rattle.curves.specs.Streams.{sum, counts_of}

-- A window of a + b ticks is its first a and its last b.
pub split : (s : ℕ → ℕ) (i a b : ℕ) → sum s i (a + b) ≡ sum s i a + sum s (i + a) b
unfolding sum
split s i a zero = rw (add-zero a, add-zero (sum s i a))
split s i a (suc b) =
    let e : i + (a + b) ≡ i + a + b = omega arith in
    rw add-suc (omega (arith, split s i a b, ap s e))

-- The same where the parts' lengths are known only to add up.
pub split_at : (s : ℕ → ℕ) (i a b d : ℕ) → a + b ≡ d → sum s i d ≡ sum s i a + sum s (i + a) b
split_at s i a b d e = rw (sym e) (split s i a b)

-- Windows that agree count by count have one sum.
pub alike : (s t : ℕ → ℕ) (i j d : ℕ) → ((k : ℕ) → k < d → s (i + k) ≡ t (j + k)) → sum s i d ≡ sum t j d
unfolding sum
alike s t i j zero h = refl
alike s t i j (suc d) h = omega (arith, alike s t i j d (λ k l. h k (omega arith)), h d (le_refl (suc d)))

-- So streams that agree on a window have one sum there.
pub local : (s t : ℕ → ℕ) (i d : ℕ) → ((k : ℕ) → i ≤ k → k < i + d → s k ≡ t k) → sum s i d ≡ sum t i d
local s t i d h = alike s t i i d (λ k l. h (i + k) (omega arith) (omega arith))

-- A finite stream that goes on has the sums that it had.
pub sum_start : (xs ys : List ℕ) (i d : ℕ) → i + d ≤ length xs → sum (counts_of (xs ++ ys)) i d ≡ sum (counts_of xs) i d
sum_start xs ys i d h = local (counts_of (xs ++ ys)) (counts_of xs) i d (λ k u v. list_get_or-append xs ys 0 k (omega arith))
