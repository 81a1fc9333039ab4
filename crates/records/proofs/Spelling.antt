-- Laws over plain bytes: the part before the first place where a search stops, and the number that digits spell.
-- Assumes nothing.
use Rattle.laws.proofs.Base.{ℕ, zero, suc, ◌+◌, ◌-◌, ◌*◌, ◌^◌, ◌≤◌, ◌<◌, ◌≡◌, refl, ◌∙◌, Bool, true, false, [], ◌∷◌, ◌++◌, ◌↔◌, ◌⊎◌, ⊎_map, dec_lt, le_refl}
use Rattle.laws.proofs.Base.{sub-zero, add-one, arith, length, get_or, take, drop, drop_of_length-le, drop-cons, take_all}
use native.Mathlib.Nat.{pow-suc}
use Rattle.laws.specs.Tests.{Tells, Each}
use Rattle.csv_text.specs.Text.{Bytes}
use Rattle.csv_text.specs.Numbers.{Digit, Numeral, value_after, value}
use Rattle.csv_text.proofs.Splitting.{Splits, passed_more, passed_found, passed_all}
use Rattle.records.specs.Steps.{CutBefore}

-- The part before the first place where a search stops, by what the test that it asks tells.
pub cut_is : {Stop : Bytes → Type 0} {first : Bytes → Bytes} (splits : Splits Stop first) (Says : Bytes → Bool → Type 0)
    → ((t : Bytes) (b : Bool) → Says t b → Tells b (Stop t)) → (s part : Bytes) → CutBefore Says s part → part ≡ first s
cut_is {Stop} {first} splits Says tells s part cut =
    elim (dec_lt (length part) (length s)) [
      | yes l ↦
          cut.front ∙ (rw sub-zero at (passed_found splits s (length part) (reached (length part) (le_refl _)) (tells _ true (cut.ended l))))
      | no l ↦
          cut.front ∙ take_all (length part) s (omega arith)
          ∙ passed_all splits s (length part) (reached (length part) (le_refl _)) (omega arith)
    ]
  where
    reached : (n : ℕ) → n ≤ length part → first s ≡ take n s ++ first (drop n s)
    reached zero l = refl
    reached (suc n) l =
        rw (add-one n) at
        (passed_more splits s n (reached n (omega arith)) (omega (arith, cut.within)) (tells _ false (cut.passed n (omega arith))))

-- A loop through the bytes of a field that have been digits so far: before its turn at i they spell n.
pub record Spelling (f : Bytes) (i n : ℕ) : Type 0 where
  pub within : i ≤ length f
  pub small : n < 10 ^ i
  pub number : value_after n (drop i f) ≡ value f
  pub digits : Each Digit f ↔ Each Digit (drop i f)

-- After a digit, and at the end.
module _ (f : Bytes) (i n : ℕ) (t : Spelling f i n) where
  here : i < length f → drop i f ≡ get_or f i 0 ∷ drop (i + 1) f
  here l = rw (add-one i, drop-cons f i 0 l)

  digits_here : i < length f → Each Digit f ↔ (Digit (get_or f i 0) × Each Digit (drop (i + 1) f))
  digits_here l = rw (here l) at t.digits

  pub spelling_more : i < length f → Digit (get_or f i 0) → Spelling f (i + 1) (n * 10 + (get_or f i 0 - 48))
  unfolding value_after
  spelling_more l d =
      record {
        within = omega (arith, t.within);
        small = rw (add-one i, pow-suc 10 i) (omega (arith, t.small, d.0, d.1));
        number = rw (here l) at t.number;
        digits = (λ h. ((digits_here l).0 h).1, λ h. (digits_here l).1 (d, h));
      }

  -- All its bytes are digits, 1 to 5, and 0 is the first only where it is the only one.
  pub spelling_done : length f ≤ i → 1 ≤ length f → length f ≤ 5
      → ((get_or f 0 0 ≡ 48) × (length f ≤ 1)) ⊎ (¬ (get_or f 0 0 ≡ 48)) → Numeral f × (n ≡ value f)
  unfolding value_after
  spelling_done l some few lead =
      let none : drop i f ≡ [] = drop_of_length-le f l in
      let all : Each Digit f ↔ Each Digit [] = rw none at t.digits in (
        record {
          some = some;
          few = few;
          digits = all.1 tt;
          no_leading_zero = ⊎_map (λ z. omega arith) (λ z. z) lead;
        },
        rw none at t.number,
      )
