-- A loop that copies the beginning of a list, as far as there is room, and holds whether that changes anything.
-- Assumes nothing.
use Rattle.laws.proofs.Base.{ℕ, suc, ◌+◌, ◌≤◌, ◌<◌, ◌≡◌, sym, ap, ◌∙◌, Bool, true, false, ◌&&◌, List, [], ◌∷◌, ◌++◌, append_assoc}
use Rattle.laws.proofs.Base.{append-nil, add-one, arith, eqb, length, get_or, set, take, drop, drop_of_length-le, length-take-le}
use Rattle.laws.proofs.Base.{drop-cons, take-suc, take_all, set_at}
use lib.Seq.{get_or_at, get_or-set_same, set-get_or, set-set}
use Rattle.laws.specs.Tests.{Tells}
use Rattle.laws.specs.Writing.{over}
use Rattle.laws.proofs.Tests.{eqb_told}

module _ (from found to : List ℕ) (i : ℕ) (so_far : to ≡ take i from ++ drop i found) where
  pub copied_more : i < length from → i < length found → set to i (get_or from i 0) ≡ take (i + 1) from ++ drop (i + 1) found
  copied_more l m =
      ap (λ t. set t i (get_or from i 0)) (so_far ∙ ap (λ t. take i from ++ t) (drop-cons found i 0 m))
      ∙ set_at (take i from) (get_or found i 0) (drop (suc i) found) (get_or from i 0) i (length-take-le i from (omega arith))
      ∙ sym (append_assoc (take i from) (get_or from i 0 ∷ []) (drop (suc i) found))
      ∙ rw (add-one i, take-suc from i 0 l)

  -- It ends where the room does, or the list.
  pub copied_room : length found ≡ i → i ≤ length from → to ≡ over from found
  copied_room e l = so_far ∙ rw (e, drop_of_length-le found {i = i} (omega arith), drop_of_length-le found {i = length from} (omega arith))

  pub copied_all : length from ≡ i → i ≤ length found → to ≡ over from found
  copied_all e l = so_far ∙ rw (e, take_all i from (omega arith), take_all (length found) from (omega arith))

  -- Whether nothing has changed, after a turn.
  pub same_turn : (b : Bool) → i < length from → i < length found → Tells b (to ≡ found)
      → Tells (b && eqb (get_or to i 0) (get_or from i 0)) (set to i (get_or from i 0) ≡ found)
  same_turn b l m h = go b (eqb (get_or to i 0) (get_or from i 0)) h (eqb_told (get_or to i 0) (get_or from i 0))
    where
      -- The entry at i is as found until then.
      entry : get_or to i 0 ≡ get_or found i 0
      entry =
          ap (λ t. get_or t i 0) (so_far ∙ ap (λ t. take i from ++ t) (drop-cons found i 0 m))
          ∙ get_or_at (take i from) (get_or found i 0) (drop (suc i) found) 0 i (length-take-le i from (omega arith))

      go : (b t : Bool) → Tells b (to ≡ found) → Tells t (get_or to i 0 ≡ get_or from i 0)
          → Tells (b && t) (set to i (get_or from i 0) ≡ found)
      go true true p q = ap (set to i) (sym q) ∙ set-get_or to i 0 ∙ p
      go true false p q =
          λ r. q (entry ∙ ap (λ t. get_or t i 0) (sym r) ∙ get_or-set_same to i (get_or from i 0) 0 (omega (arith, ap length p)))
      go false t p q =
          λ r.
          p (sym (set-get_or to i 0) ∙ ap (set to i) entry ∙ sym (set-set to i (get_or from i 0) (get_or found i 0))
          ∙ ap (λ t. set t i (get_or found i 0)) r ∙ set-get_or found i 0)

-- A list over one of its own length takes its place.
pub over_whole : (xs ys : List ℕ) → length ys ≡ length xs → over xs ys ≡ xs
over_whole xs ys e = rw (take_all (length ys) xs (omega arith), drop_of_length-le ys {i = length xs} (omega arith)) (append-nil xs)
