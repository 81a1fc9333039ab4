-- What is asked of a record can be decided. Assumes nothing.
use Rattle.laws.proofs.Base.{ℕ, ◌≡◌, inl, inr, dec_and, dec_le, ℕ_discrete, [], ◌⊎◌, length, get_or}
use Rattle.laws.proofs.Tests.{each?, equal_lists?}
use Rattle.bounds.specs.Bounds.{max_horizon}
use Rattle.csv_text.specs.Text.{Bytes, fields}
use Rattle.csv_text.specs.Numbers.{Digit, Numeral}
use Rattle.csv_text.specs.Records.{Most, none, up_to, MostWithin, Constraint, field, WellFormed, message_limit, InRange}

unfoldable pub digit? : (b : ℕ) → Dec (Digit b)
digit? b = dec_and (dec_le 48 b) (dec_le b 57)

unfoldable pub numeral? : (f : Bytes) → Dec (Numeral f)
numeral? f =
    elim (dec_and (dec_le 1 (length f)) (dec_le (length f) 5)) [
      | yes n ↦ elim (each? Digit digit? f) [
        | yes d ↦ elim (ℕ_discrete (length f) 1) [
          | yes e ↦ yes (record { some = n.0; few = n.1; digits = d; no_leading_zero = inl e })
          | no e ↦ elim (ℕ_discrete (get_or f 0 0) 48) [
            | yes z ↦ no (λ h. elim h.no_leading_zero [ inl k ↦ e k | inr k ↦ k z ])
            | no z ↦ yes (record { some = n.0; few = n.1; digits = d; no_leading_zero = inr z })
          ]
        ]
        | no d ↦ no (λ h. d h.digits)
      ]
      | no n ↦ no (λ h. n (h.some, h.few))
    ]

unfoldable pub numeral_or_empty? : (f : Bytes) → Dec ((f ≡ []) ⊎ Numeral f)
numeral_or_empty? f =
    elim (equal_lists? f []) [
      | yes e ↦ yes (inl e)
      | no e ↦ elim (numeral? f) [ yes n ↦ yes (inr n) | no n ↦ no (λ h. elim h [ inl k ↦ e k | inr k ↦ n k ]) ]
    ]

unfoldable pub well_formed? : (r : Bytes) → Dec (WellFormed r)
well_formed? r =
    elim (dec_and (dec_and (ℕ_discrete (length (fields r)) 3) (numeral? (field r 0)))
    (dec_and (numeral? (field r 1)) (numeral_or_empty? (field r 2)))) [
      | yes h ↦ yes (record { three = h.0.0; window = h.0.1; least = h.1.0; most = h.1.1 })
      | no h ↦ no (λ k. h ((k.three, k.window), (k.least, k.most)))
    ]

unfoldable pub most_within? : (n : ℕ) (m : Most) → Dec (MostWithin n m)
most_within? n none = yes tt
most_within? n (up_to m) = dec_le m n

unfoldable pub in_range? : (c : Constraint) → Dec (InRange c)
in_range? c =
    elim (dec_and (dec_and (dec_le 1 c.window) (dec_le c.window max_horizon))
    (dec_and (dec_le c.least message_limit) (most_within? message_limit c.most))) [
      | yes h ↦ yes (record { some = h.0.0; window = h.0.1; least = h.1.0; most = h.1.1 })
      | no h ↦ no (λ k. h ((k.some, k.window), (k.least, k.most)))
    ]
