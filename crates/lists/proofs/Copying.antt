-- Laws over plain variables for a copy of as many entries as there is room for, and what a comparison of them beforehand tells.
-- Assumes nothing.
use Rattle.laws.proofs.Base.{ℕ, ◌≡◌, min, refl, sym, ap, ◌∙◌, Bool, true, false, List, ◌++◌, arith, length, take, drop, length-take-le, take_at}
use Rattle.std.specs.Prelude.{nat_eq}
use Rattle.std.specs.Bool.{Decides}
use Rattle.std.specs.Cmp.{unsigned_Decides}
use Rattle.std.proofs.Math.Nat.{min_comm}
use Rattle.std.proofs.lemmas.Bool.{false≢true}
use Rattle.std.proofs.lemmas.List.{take_min, drop_min, take-append-drop}
use Rattle.std.proofs.lemmas.Slice.Eq.{slice_eq-Decides}
use lib.Pointwise.{pointwise}
use Rattle.laws.specs.Tests.{Tells}
use Rattle.lists.specs.Copying.{Copied}

tells : {P : Type 0} (b : Bool) → Decides b P → Tells b P
tells true d = d.0 refl
tells false d = λ p. false≢true (d.1 p)

-- As many entries as the shorter list has are compared, and then those of the one take the place of the other's.
pub copied_shorter
    : (from found : List ℕ) (n : ℕ) → n ≡ min (length from) (length found) → (front : List ℕ) (same : Bool) → front ≡ take n from
    → same ≡ pointwise nat_eq (take n found) (take n from) → Copied from found (front ++ drop n found) same
copied_shorter from found n shorter front same e t = record {
  entries = cc (min_comm (length from) (length found), take_min (length found) from, drop_min (length from) found);
  told = tells same (there, again);
}
  where
    decided : Decides same (take n found ≡ take n from)
    decided = slice_eq-Decides unsigned_Decides _ _ same t

    there : same ≡ true → front ++ drop n found ≡ found
    there b = cc (decided.0 b, take-append-drop n found)

    again : front ++ drop n found ≡ found → same ≡ true
    again p =
        let long : length front ≡ n = ap length e ∙ length-take-le n from (omega arith) in
        decided.1 (ap (take n) (sym p) ∙ take_at front (drop n found) n long ∙ e)
