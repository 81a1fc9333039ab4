-- Whole numbers for `omega`, which reads natural numbers: z is `up z` less `down z`, and an order of whole numbers is an order of sums
-- of these. Assumes nothing.
use Rattle.laws.proofs.Base.{ℕ, zero, suc, ◌+◌, ◌-◌, ◌≤◌, ◌<◌, min, max, ◌≡◌, refl, ap, ◌∙◌, Bool, true, false, cond}
use Rattle.laws.proofs.Base.{◌⊎◌, inl, inr, dec_le, dec_lt, arith, lt-ltb, le-ltb}
use lib.Dec.{leb, ltb→lt, lt→ltb, leb→le, le→leb}
use lib.IntN.{ℤ, pos, negsuc, neg_ℤ, sub_ℕ, ◌-ℤ◌}
use lib.Signed.{◌<ℤ◌, ◌≤ℤ◌, le_z, mag}
use Rattle.laws.specs.Tests.{Tells}
use Rattle.laws.proofs.Tests.{leb_told, tells_same}
use Rattle.laws.proofs.Best.{IsBest}

abbrev pub up : ℤ → ℕ
up (pos n) = n
up (negsuc n) = 0

abbrev pub down : ℤ → ℕ
down (pos n) = 0
down (negsuc n) = suc n

pub lt_parts : (x y : ℤ) → x <ℤ y → up x + down y < up y + down x
lt_parts (pos a) (pos b) h = omega (arith, ltb→lt a b h.lt)
lt_parts (pos a) (negsuc b) h = absurd h.lt
lt_parts (negsuc a) (pos b) h = omega arith
lt_parts (negsuc a) (negsuc b) h = omega (arith, ltb→lt b a h.lt)

pub parts_lt : (x y : ℤ) → up x + down y < up y + down x → x <ℤ y
parts_lt (pos a) (pos b) h = record { lt = lt→ltb a b (omega arith) }
parts_lt (pos a) (negsuc b) h = absurd (omega arith)
parts_lt (negsuc a) (pos b) h = record { lt = tt }
parts_lt (negsuc a) (negsuc b) h = record { lt = lt→ltb b a (omega arith) }

abbrev pub AtMost : ℤ → ℤ → Type 0
AtMost x y = up x + down y ≤ up y + down x

pub le_parts : (x y : ℤ) → x ≤ℤ y → AtMost x y
le_parts (pos a) (pos b) h = omega (arith, leb→le a b h.le)
le_parts (pos a) (negsuc b) h = absurd h.le
le_parts (negsuc a) (pos b) h = omega arith
le_parts (negsuc a) (negsuc b) h = omega (arith, leb→le b a h.le)

pub parts_le : (x y : ℤ) → AtMost x y → x ≤ℤ y
parts_le (pos a) (pos b) h = record { le = le→leb a b (omega arith) }
parts_le (pos a) (negsuc b) h = absurd (omega arith)
parts_le (negsuc a) (pos b) h = record { le = tt }
parts_le (negsuc a) (negsuc b) h = record { le = le→leb b a (omega arith) }

pub <ℤ_≤ℤ : (x y : ℤ) → x <ℤ y → x ≤ℤ y
<ℤ_≤ℤ x y h = parts_le x y (omega (arith, lt_parts x y h))

pub ≤ℤ_trans : (x y z : ℤ) → x ≤ℤ y → y ≤ℤ z → x ≤ℤ z
≤ℤ_trans x y z h k = parts_le x z (omega (arith, le_parts x y h, le_parts y z k))

pub ≤ℤ_antisym : (x y : ℤ) → x ≤ℤ y → y ≤ℤ x → x ≡ y
≤ℤ_antisym (pos a) (pos b) h k = ap pos (omega (arith, le_parts (pos a) (pos b) h, le_parts (pos b) (pos a) k))
≤ℤ_antisym (pos a) (negsuc b) h k = absurd h.le
≤ℤ_antisym (negsuc a) (pos b) h k = absurd k.le
≤ℤ_antisym (negsuc a) (negsuc b) h k = ap negsuc (omega (arith, le_parts (negsuc a) (negsuc b) h, le_parts (negsuc b) (negsuc a) k))

unfoldable pub less? : (x y : ℤ) → (x <ℤ y) ⊎ (y ≤ℤ x)
less? x y =
    elim (dec_lt (up x + down y) (up y + down x)) [ yes h ↦ inl (parts_lt x y h) | no h ↦ inr (parts_le y x (omega arith)) ]

le_told : (x y : ℤ) → Tells (le_z x y) (AtMost x y)
le_told (pos a) (pos b) = tells_same (leb a b) ((λ h. omega arith), (λ h. omega arith)) (leb_told a b)
le_told (pos a) (negsuc b) = λ h. omega arith
le_told (negsuc a) (pos b) = omega arith
le_told (negsuc a) (negsuc b) = tells_same (leb b a) ((λ h. omega arith), (λ h. omega arith)) (leb_told b a)

-- What the comparison of x and y tells holds, if it holds either way.
pub compared : (x y : ℤ) (P : Bool → Type 0) → (AtMost x y → P true) → (AtMost y x → P false) → P (le_z x y)
compared x y P f g = go (le_z x y) (le_told x y)
  where
    go : (t : Bool) → Tells t (AtMost x y) → P t
    go true h = f h
    go false h = g (omega arith)

-- ---- the smaller and the larger of two whole numbers, in their orders
pub smaller_best : IsBest AtMost (λ x y. cond (le_z x y) x y)
smaller_best =
    record {
      left = λ x y. compared x y (λ t. AtMost (cond t x y) x) (λ h. omega arith) (λ h. h);
      right = λ x y. compared x y (λ t. AtMost (cond t x y) y) (λ h. h) (λ h. omega arith);
      both = λ z x y p q. compared x y (λ t. AtMost z (cond t x y)) (λ h. p) (λ h. q);
      chain = λ x y z p q. omega arith;
      same = λ x. omega arith;
    }

pub larger_best : IsBest (λ x y. AtMost y x) (λ x y. cond (le_z x y) y x)
larger_best =
    record {
      left = λ x y. compared x y (λ t. AtMost x (cond t y x)) (λ h. h) (λ h. omega arith);
      right = λ x y. compared x y (λ t. AtMost y (cond t y x)) (λ h. omega arith) (λ h. h);
      both = λ z x y p q. compared x y (λ t. AtMost (cond t y x) z) (λ h. q) (λ h. p);
      chain = λ x y z p q. omega arith;
      same = λ x. omega arith;
    }

-- ---- natural numbers among them
pub smaller_pos : (y x : ℕ) → cond (le_z (pos y) (pos x)) (pos y) (pos x) ≡ pos (min y x)
smaller_pos y x =
    compared (pos y) (pos x) (λ t. cond t (pos y) (pos x) ≡ pos (min y x)) (λ h. ap pos (omega arith)) (λ h. ap pos (omega arith))

pub larger_pos : (y x : ℕ) → cond (le_z (pos y) (pos x)) (pos x) (pos y) ≡ pos (max y x)
larger_pos y x =
    compared (pos y) (pos x) (λ t. cond t (pos x) (pos y) ≡ pos (max y x)) (λ h. ap pos (omega arith)) (λ h. ap pos (omega arith))

minus_is : (a b : ℕ) → (pos a -ℤ pos b) ≡ sub_ℕ a b
minus_is a zero = rw (le-ltb a 0 (omega arith)) (ap pos (omega arith))
minus_is a (suc b) = refl

pub minus_pos : (a b : ℕ) → b ≤ a → (pos a -ℤ pos b) ≡ pos (a - b)
minus_pos a b h = minus_is a b ∙ rw (le-ltb a b h)

-- A difference is at least −n exactly where the other number is at most n more.
neg_parts : (n : ℕ) → (up (neg_ℤ (pos n)) ≡ 0) × (down (neg_ℤ (pos n)) ≡ n)
neg_parts zero = (refl, refl)
neg_parts (suc n) = (refl, refl)

pub minus_parts : (a b : ℕ) → (up (pos a -ℤ pos b) ≡ a - b) × (down (pos a -ℤ pos b) ≡ b - a)
minus_parts a b =
    elim (dec_le b a) [
      | yes h ↦ rw (minus_pos a b h) (refl, omega arith)
      | no h ↦ rw (minus_is a b, lt-ltb a b (omega arith)) (omega arith, omega arith)
    ]

-- A number is no larger than its parts.
pub mag_parts : (z : ℤ) → mag z ≤ up z + down z
mag_parts (pos n) = omega arith
mag_parts (negsuc n) = omega arith

pub minus_above : (a b n : ℕ) → b ≤ a + n → neg_ℤ (pos n) ≤ℤ (pos a -ℤ pos b)
minus_above a b n h = parts_le (neg_ℤ (pos n)) (pos a -ℤ pos b) (omega (arith, neg_parts n, minus_parts a b))

pub above_minus : (a b n : ℕ) → neg_ℤ (pos n) ≤ℤ (pos a -ℤ pos b) → b ≤ a + n
above_minus a b n h = omega (arith, le_parts (neg_ℤ (pos n)) (pos a -ℤ pos b) h, neg_parts n, minus_parts a b)

pub larger_minus : (y a b : ℕ) → cond (le_z (pos y) (pos a -ℤ pos b)) (pos a -ℤ pos b) (pos y) ≡ pos (max y (a - b))
larger_minus y a b =
    elim (dec_le b a) [
      | yes h ↦ rw (minus_pos a b h) (larger_pos y (a - b))
      | no h ↦ rw (minus_is a b, lt-ltb a b (omega arith)) (ap pos (omega arith))
    ]
