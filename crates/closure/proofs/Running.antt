-- A law over plain variables for the run of the rounds: crossings by their index. Assumes nothing.
use Rattle.laws.proofs.Base.{ℕ, zero, suc, ◌≤◌, ◌<◌, ◌≡◌, subst, Bool, true, false, List, arith, length, get_or}
use Rattle.std.specs.Bool.{MatchBool}
use Rattle.std.specs.List.{zip, HoldsAt, AllWithin}
use Rattle.std.proofs.lemmas.Slice.Zip.{length-zip, get_or-zip}
use Rattle.laws.specs.Tests.{Tells}
use Rattle.curves.specs.Pairs.{figure, pair_of}
use Rattle.curves.specs.Rounds.{cut_off, Crossed}

-- Whether some least is above its ceiling, as the pairs of the two tell it.
abbrev pub Above : ℕ × ℕ → Type 0
Above p = p.0 < p.1

abbrev pub NotAbove : ℕ × ℕ → Type 0
NotAbove p = p.1 ≤ p.0

pub crossed-told : (us ls : List ℕ) → length ls ≡ length us → (r : Bool)
    → MatchBool r ((k : ℕ) × (k < length (zip us ls)) × HoldsAt Above (zip us ls) k) (AllWithin NotAbove (zip us ls) 0 (length (zip us ls)))
    → Tells r (Crossed cut_off (pair_of us ls))
unfolding figure
crossed-told us ls e true (k, l, at) =
    let l' : k < length us = omega (arith, length-zip us ls) in
    let is = get_or-zip us ls k (0, 0) l' (omega arith) in
    record { window = suc k; positive = omega arith; within = l'; above = subst Above is (at (0, 0)) }
crossed-told us ls e false all = λ x. go x.window x.positive x.within x.above
  where
    go : (d : ℕ) → 1 ≤ d → d ≤ length us → figure 0 us d < figure 0 ls d → ⊥
    go zero p q l = absurd (omega arith)
    go (suc d) p q l =
        let is = get_or-zip us ls d (0, 0) q (omega arith) in
        let h : NotAbove (get_or us d 0, get_or ls d 0) = subst NotAbove is (all d (0, 0) (omega arith) (omega (arith, length-zip us ls))) in
        omega arith
