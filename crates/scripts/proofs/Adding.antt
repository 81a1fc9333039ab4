-- Laws over plain variables for figures turned round and for sums of the newest ticks as they are kept. Assumes nothing.
use Rattle.laws.proofs.Base.{ℕ, suc, ◌+◌, ◌-◌, ◌≤◌, ◌<◌, ◌≡◌, sym, ap, ◌∙◌, List, dec_le, add-one, arith}
use Rattle.laws.proofs.Base.{length, get_or, set, length-set, list_get_or-append}
use lib.Seq.{get_or-set_same, get_or-set_other}
use Rattle.laws.specs.Ranges.{table}
use Rattle.laws.proofs.Table.{Filled, length-table, get_or-table}
use Rattle.curves.specs.Ticks.{last}
use Rattle.curves.proofs.NextTick.{last_none, last_more}
use Rattle.scripts.specs.Steps.{sum_limit, KeptSums}

-- ---- figures turned round
-- What a loop has stored.
pub filled_entry : {f : ℕ → ℕ} {found out : List ℕ} {n : ℕ} → Filled f found out n → (i : ℕ) → i < n → get_or out i 0 ≡ f (suc i)
filled_entry {f} {found} {n = n} t i l =
    ap (λ ys. get_or ys i 0) t.parts
    ∙ list_get_or-append (table f n) _ 0 i (rw length-table l)
    ∙ get_or-table f n i 0 l

-- ---- sums
-- The sum of no ticks is 0.
pub kept_none : (xs sums : List ℕ) → get_or sums (length sums - 1) 0 ≡ 0 → KeptSums xs 0 sums
kept_none xs sums e = record { sum_is = is; small = λ d l. go d (omega arith) }
  where
    go : (d : ℕ) → d ≡ 0 → last xs d ≤ sum_limit
    go d z = rw z (omega (arith, last_none xs))

    is : (d : ℕ) → d ≤ 0 → get_or sums (length sums - 1 - d) 0 ≡ last xs d
    is d l =
        let z : d ≡ 0 = omega arith in
        let e' : length sums - 1 - d ≡ length sums - 1 = omega arith in
        ap (λ k. get_or sums k 0) e' ∙ e ∙ sym (ap (last xs) z ∙ last_none xs)

-- The sum of the last d + 1 ticks, from that of the last d: the tick at i comes to it.
pub sum_more : (xs : List ℕ) (i d k s : ℕ) → k ≡ d + 1 → i + k ≡ length xs → s ≡ last xs d → s + get_or xs i 0 ≡ last xs k
sum_more xs i d k s e f g =
    let place : length xs - 1 - d ≡ i = omega arith in
    rw (e, add-one d) (omega (arith, last_more xs d (omega arith), ap (λ j. get_or xs j 0) place))

-- It is put before that.
pub kept_more : (xs sums : List ℕ) (d k p s : ℕ) → k ≡ d + 1 → p + k + 1 ≡ length sums → KeptSums xs d sums
    → s ≡ last xs k → s ≤ sum_limit → KeptSums xs k (set sums p s)
kept_more xs sums d k p s more place K e m = record { sum_is = is; small = low }
  where
    is : (c : ℕ) → c ≤ k → get_or (set sums p s) (length (set sums p s) - 1 - c) 0 ≡ last xs c
    is c l =
        rw (length-set sums p s)
        (elim (dec_le c d) [
          | yes h ↦ get_or-set_other sums p (length sums - 1 - c) s 0 (λ z. omega arith) ∙ K.sum_is c h
          | no h ↦
              let z : c ≡ k = omega arith in
              let z' : length sums - 1 - c ≡ p = omega arith in
              ap (λ j. get_or (set sums p s) j 0) z' ∙ get_or-set_same sums p s 0 (omega arith) ∙ e ∙ ap (last xs) (sym z)
        ])

    low : (c : ℕ) → c ≤ k → last xs c ≤ sum_limit
    low c l =
        elim (dec_le c d) [
          | yes h ↦ K.small c h
          | no h ↦ let z : c ≡ k = omega arith in omega (arith, ap (last xs) z)
        ]
