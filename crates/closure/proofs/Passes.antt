-- Laws over plain lists for the passes of a round: the best of each window so far is at least the figure that is aimed at, and at most what
-- has been looked at, in any order and however often. Assumes nothing.
use Rattle.laws.proofs.Base.{ℕ, zero, suc, ◌+◌, ◌-◌, ◌≤◌, ◌<◌, min, ◌≡◌, refl, sym, ap, ◌∙◌, List, [], ◌∷◌, ◌++◌, ◌⊎◌, ⊎_elim, subst, dec_le, dec_lt}
use Rattle.laws.proofs.Base.{arith, length, get_or, take, drop, list_get_or-append, get_or-drop, length-drop, length-take-le}
use lib.ListN.{length-take, get_or-eq_default}
use lib.Seq.{get_or-take, get_or-append-add}
use borrow.Rule.Slice.PartMut.{put_mid}
use Rattle.laws.specs.Ranges.{fold, table}
use Rattle.laws.proofs.Best.{min_best, fold_first, fold_both}
use Rattle.laws.proofs.Table.{get_or-table, table_self}
use Rattle.curves.specs.Pairs.{figure}
use Rattle.curves.proofs.Figures.{figure_entry}
use Rattle.closure.specs.Steps.{NoneAbove, smallest_of_five, lowered_to_sums}
use Rattle.closure.proofs.Rows.{entry_figure}

-- ---- parts of a list
-- The part of a list from the place s on: its entries.
pub part_at : (s : ℕ) (xs : List ℕ) (j : ℕ) → s + j < length xs → get_or (take (length xs - s) (drop s xs)) j 0 ≡ get_or xs (s + j) 0
part_at s xs j h = get_or-take (length xs - s) (drop s xs) j 0 (omega arith) ∙ get_or-drop s xs j 0

pub part_length : (s : ℕ) (xs : List ℕ) → s ≤ length xs → length (take (length xs - s) (drop s xs)) ≡ length xs - s
part_length s xs h = omega (arith, length-take (length xs - s) (drop s xs), length-drop s xs)

-- No entry of a part is above a number that none of the list is.
pub part_small : {n : ℕ} (s k : ℕ) (xs : List ℕ) → NoneAbove n xs → NoneAbove n (take k (drop s xs))
part_small {n} s k xs small i =
    elim (dec_lt i k) [
      | yes h ↦ omega (arith, get_or-take k (drop s xs) i 0 h, get_or-drop s xs i 0, small (s + i))
      | no h ↦ omega (arith, get_or-eq_default (take k (drop s xs)) 0 {n = i} (omega (arith, length-take k (drop s xs))))
    ]

-- An entry of two lists one after the other that is the second's.
second_at : (xs ys : List ℕ) (n i : ℕ) → length xs ≡ n → n ≤ i → get_or (xs ++ ys) i 0 ≡ get_or ys (i - n) 0
second_at xs ys n i e h =
    let k : length xs + (i - n) ≡ i = omega arith in rw k at (get_or-append-add xs ys (i - n) 0)

-- A figure of a list whose part from the place s on is replaced, or whose part before the place s is.
module _ (s : ℕ) (xs ys : List ℕ) (d : ℕ) (p : 1 ≤ d) where
  pub behind_kept : (k : ℕ) → s ≤ length xs → d ≤ s → figure 0 (put_mid s k xs ys) d ≡ figure 0 xs d
  behind_kept k l h =
      sym (figure_entry 0 (put_mid s k xs ys) d p)
      ∙ list_get_or-append (take s xs) _ 0 (d - 1) (omega (arith, length-take s xs))
      ∙ get_or-take s xs (d - 1) 0 (omega arith)
      ∙ figure_entry 0 xs d p

  pub behind_new : (k : ℕ) → s ≤ length xs → s < d → d ≤ s + length ys → figure 0 (put_mid s k xs ys) d ≡ get_or ys (d - 1 - s) 0
  behind_new k l h q =
      sym (figure_entry 0 (put_mid s k xs ys) d p)
      ∙ second_at (take s xs) _ s (d - 1) (length-take-le s xs l) (omega arith)
      ∙ list_get_or-append ys _ 0 (d - 1 - s) (omega arith)

  pub before_new : length ys ≡ s → d ≤ s → figure 0 (ys ++ drop s xs) d ≡ get_or ys (d - 1) 0
  before_new e h =
      sym (figure_entry 0 (ys ++ drop s xs) d p) ∙ list_get_or-append ys _ 0 (d - 1) (omega arith)

  pub before_kept : length ys ≡ s → s < d → figure 0 (ys ++ drop s xs) d ≡ figure 0 xs d
  before_kept e h =
      let k : s + (d - 1 - s) ≡ d - 1 = omega arith in
      sym (figure_entry 0 (ys ++ drop s xs) d p)
      ∙ second_at ys (drop s xs) s (d - 1) e (omega arith)
      ∙ get_or-drop s xs (d - 1 - s) 0
      ∙ ap (λ j. get_or xs j 0) k
      ∙ figure_entry 0 xs d p

-- ---- four at once
-- A number that is not below t, but below t + 4, is one of four.
pub one_of_four : (P : ℕ → Type 0) (t k : ℕ) → t ≤ k → k < t + 4 → P t → P (t + 1) → P (t + 2) → P (t + 3) → P k
one_of_four P t k l m p₀ p₁ p₂ p₃ =
    elim (dec_le k t) [
      | yes h ↦ is t (omega arith) p₀
      | no h ↦
          elim (dec_le k (t + 1)) [
            | yes i ↦ is (t + 1) (omega arith) p₁
            | no i ↦
                elim (dec_le k (t + 2)) [
                  | yes j ↦ is (t + 2) (omega arith) p₂
                  | no j ↦ is (t + 3) (omega arith) p₃
                ]
          ]
    ]
  where
    is : (x : ℕ) → x ≡ k → P x → P k
    is x e p = subst P e p

-- None of four numbers is above another.
pub four_small : (n a b c d : ℕ) → a ≤ n → b ≤ n → c ≤ n → d ≤ n → NoneAbove n (a ∷ b ∷ c ∷ d ∷ [])
four_small n a b c d p q r s zero = p
four_small n a b c d p q r s (suc zero) = q
four_small n a b c d p q r s (suc (suc zero)) = r
four_small n a b c d p q r s (suc (suc (suc zero))) = s
four_small n a b c d p q r s (suc (suc (suc (suc i)))) = omega arith

-- m is the smallest of h and four others.
pub record Least (m h c₀ c₁ c₂ c₃ : ℕ) : Type 0 where
  pub kept : m ≤ h
  pub first : m ≤ c₀
  pub second : m ≤ c₁
  pub third : m ≤ c₂
  pub fourth : m ≤ c₃
  pub no_less : (x : ℕ) → x ≤ h → x ≤ c₀ → x ≤ c₁ → x ≤ c₂ → x ≤ c₃ → x ≤ m

least : (m h c₀ c₁ c₂ c₃ : ℕ) → m ≡ min (min (min (min h c₀) c₁) c₂) c₃ → Least m h c₀ c₁ c₂ c₃
least m h c₀ c₁ c₂ c₃ e =
    record {
      kept = omega arith;
      first = omega arith;
      second = omega arith;
      third = omega arith;
      fourth = omega arith;
      no_less = λ x p q r s t. omega arith;
    }

pub least-is
    : (row n : List ℕ) (j m x h c₀ c₁ c₂ c₃ : ℕ) → m ≡ smallest_of_five row n j x → x ≡ h
    → get_or row j 0 + get_or n 0 0 ≡ c₀ → get_or row (j + 1) 0 + get_or n 1 0 ≡ c₁
    → get_or row (j + 2) 0 + get_or n 2 0 ≡ c₂ → get_or row (j + 3) 0 + get_or n 3 0 ≡ c₃
    → Least m h c₀ c₁ c₂ c₃
least-is row n j m x h c₀ c₁ c₂ c₃ e e' e₀ e₁ e₂ e₃ =
    least m h c₀ c₁ c₂ c₃ (e ∙ (λ i. min (min (min (min (e' i) (e₀ i)) (e₁ i)) (e₂ i)) (e₃ i)))

-- A turn of the loop that lowers entry by entry: the entry at i is still as found.
pub least-turn
    : (row n found best : List ℕ) (i r : ℕ) → get_or best i 0 ≡ get_or found i 0
    → r ≡ smallest_of_five row n i (get_or best i 0) → r ≡ smallest_of_five row n (i + 1 - 1) (figure 0 found (i + 1))
least-turn row n found best i r e f = let back : i + 1 - 1 ≡ i = omega arith in f ∙ rw (e, back, entry_figure found i)

-- The entry at j of the list that the loop leaves.
pub least_at
    : (row n found ys : List ℕ) (j : ℕ) → ys ≡ lowered_to_sums row n found → j < length found
    → get_or ys j 0 ≡ smallest_of_five row n j (get_or found j 0)
least_at row n found ys j e h =
    let back : suc j - 1 ≡ j = omega arith in
    let next : suc j ≡ j + 1 = omega arith in
    ap (λ l. get_or l j 0) e ∙ get_or-table _ (length found) j 0 h ∙ rw (back, next, entry_figure found j)

-- ---- a pass over the candidates of every window d, `count d` of them
module _ (found : List ℕ) (candidate : ℕ → ℕ → ℕ) (count : ℕ → ℕ) where
  abbrev pub aim : ℕ → ℕ
  aim d = fold min (figure 0 found d) (candidate d) (count d)

  -- The list of what is best after the candidates that are `seen`.
  pub record Lowered (seen : ℕ → ℕ → Type 0) (best : List ℕ) : Type 0 where
    pub whole : length best ≡ length found
    pub above : (d : ℕ) → 1 ≤ d → d ≤ length found → aim d ≤ figure 0 best d
    pub below : (d : ℕ) → 1 ≤ d → d ≤ length found → figure 0 best d ≤ figure 0 found d
    pub looked : (d k : ℕ) → 1 ≤ d → d ≤ length found → seen d k → figure 0 best d ≤ candidate d k

  pub lowered_none : (seen : ℕ → ℕ → Type 0) → ((d k : ℕ) → seen d k → ⊥) → Lowered seen found
  lowered_none seen never =
      record {
        whole = refl;
        above = λ d p q. fold_first ◌≤◌ min min_best (figure 0 found d) (candidate d) (count d);
        below = λ d p q. omega arith;
        looked = λ d k p q s. absurd (never d k s);
      }

  -- A turn lowers entries, none below its aim, and sees more.
  pub lowered-turn
      : {seen seen' : ℕ → ℕ → Type 0} {best best' : List ℕ} → Lowered seen best → length best' ≡ length best
      → ((d : ℕ) → 1 ≤ d → d ≤ length found → aim d ≤ figure 0 best d
      → (aim d ≤ figure 0 best' d) × (figure 0 best' d ≤ figure 0 best d))
      → ((d k : ℕ) → 1 ≤ d → d ≤ length found → seen' d k → seen d k ⊎ (figure 0 best' d ≤ candidate d k))
      → Lowered seen' best'
  lowered-turn {seen} {seen'} {best} {best'} t e turn more =
      record {
        whole = e ∙ t.whole;
        above = λ d p q. (turn d p q (t.above d p q)).0;
        below = λ d p q. omega (arith, (turn d p q (t.above d p q)).1, t.below d p q);
        looked = λ d k p q s.
            ⊎_elim
            (λ was. omega (arith, (turn d p q (t.above d p q)).1, t.looked d k p q was))
            (λ new. new)
            (more d k p q s);
      }

  -- Where all are seen, every aim is reached.
  pub lowered-all
      : {seen : ℕ → ℕ → Type 0} {best : List ℕ} → Lowered seen best
      → ((d k : ℕ) → 1 ≤ d → d ≤ length found → 1 ≤ k → k ≤ count d → figure 0 best d ≤ candidate d k)
      → best ≡ table aim (length found)
  lowered-all {seen} {best} t all =
      sym (ap (table aim) (sym t.whole) ∙ table_self aim best 0 (λ i h.
      let p : 1 ≤ suc i = omega arith in
      let q : suc i ≤ length found = omega (arith, t.whole) in
      let reached = fold_both ◌≤◌ min min_best _ (candidate (suc i)) (figure 0 best (suc i)) (count (suc i))
      (t.below (suc i) p q) (λ k u v. all (suc i) k p q u v) in
      let back : suc i - 1 ≡ i = omega arith in
      sym (let h' : figure 0 best (suc i) ≡ aim (suc i) = omega (arith, t.above (suc i) p q, reached) in
      ap (λ j. get_or best j 0) (sym back) ∙ figure_entry 0 best (suc i) p ∙ h')))
