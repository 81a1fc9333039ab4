-- Closing with room for the closure of every horizon, as openings ask for it: question 3 is answered yes, so 1, 2, 4 and 5 decide.
-- Assumes nothing.
use Rattle.std.specs.Prelude.{Result, Ok, Err}
use Rattle.laws.proofs.Base.{ℕ, ◌≤◌, ◌≡◌, refl, sym, ap, ◌∙◌, subst, List, ◌⊎◌, inl, inr, ⊎_elim, arith, replicate}
use Rattle.laws.proofs.Base.{length-replicate}
use Rattle.curves.specs.Pairs.{Pair, pair_of, horizon}
use Rattle.curves.specs.Rounds.{whole, Arrives}
use Rattle.curves.specs.Unlimited.{AnyPair, limited, curves_of}
use Rattle.curves.specs.Questions.{AllYes, FirstNo}
use Rattle.curves.specs.Theorems.{Closes}
use Rattle.bounds.specs.Bounds.{max_horizon, pair_questions, RoomFor}
use Rattle.bounds.specs.declared.PairRefusal.TheVariants.{UpperLength, LowerLength, FigureLimit}
use Rattle.bounds.specs.Answers.{pair_refusal_number}
use Rattle.closure.specs.declared.Closed.{Closed}
use Rattle.closure.specs.declared.ClosingRefusal.{ClosingRefusal}
use Rattle.closure.specs.declared.ClosingRefusal.TheVariants as refusal
use Rattle.closure.specs.Closing.{closing_questions, ClosingAnswer, closing}
use Rattle.closure.specs.Answers.{closing_answer}
use Rattle.closure.specs.Theorems.{PassesFour, GivesClosure, closure_of, room}
use Rattle.closure.proofs.Said.{refused_is, closed_is, cases, gives_passes}
use Rattle.closure.proofs.Given.{own_fourth, arrived}

-- ---- the pair's own questions among closing's first four
pub four_yes : (c found : Pair) → AllYes (pair_questions (limited c)) → RoomFor (horizon c) found → PassesFour (limited c) found
four_yes c found ys wide = (ys.0, (ys.1.0, (wide, (ys.1.1.0, tt))))

pub own_yes : (p : AnyPair) (found : Pair) → PassesFour p found → AllYes (pair_questions p)
own_yes p found ok = (ok.0, (ok.1.0, (own_fourth p ok.1.1.1.0, tt)))

-- ---- with room for every closure, of a pair with ceilings
module _ (c : Pair) where
  abbrev p : AnyPair
  p = limited c

  wide : horizon c ≤ max_horizon → RoomFor (horizon c) room
  wide h = let l = length-replicate {A = ℕ} max_horizon 0 in (omega arith, omega arith)

  pub room_passes : AllYes (pair_questions p) → PassesFour p room
  room_passes ys = four_yes c room ys (wide ys.0.1)

  -- Lists of zeros, lent for results, are such room.
  pub in_zeros : (a : ClosingAnswer) (us ls : List ℕ) → us ≡ replicate max_horizon 0 → ls ≡ replicate max_horizon 0
      → a ≡ closing p (pair_of us ls) → a ≡ closing p room
  in_zeros a us ls u l e = e ∙ (λ i. closing p (pair_of (u i) (l i)))

  -- ---- what each answer tells of the pair
  abbrev pub Told : Result Closed ClosingRefusal → Type 0
  Told (Ok k) = AllYes (pair_questions p) × ((q : Pair) × Arrives whole c k.rounds q)
  Told (Err (refusal.Pair r)) = FirstNo (pair_questions p) (pair_refusal_number r)
  Told (Err refusal.ResultLength) = ⊥
  Told (Err refusal.NoClosure) = AllYes (pair_questions p) × (¬ Closes c)

  -- n is the first no of the pair's own questions, or these are all answered yes and it is 5.
  abbrev No : ℕ → Type 0
  No n = FirstNo (pair_questions p) n ⊎ ((n ≡ 5) × AllYes (pair_questions p) × (¬ Closes c))

  no_three : (n : ℕ) → FirstNo (closing_questions p room) n → No n
  no_three n (inl a) = inl (inl a)
  no_three n (inr (y, inl a)) = inl (inr (y, inl a))
  no_three n (inr (y, inr (z, inl a))) = absurd (a.1 (wide y.1))
  no_three n (inr (y, inr (z, inr (u, inl a)))) = inl (inr (y, inr (z, inl a)))
  no_three n (inr (y, inr (z, inr (u, inr (v, inl (e, no₅)))))) = inr (e, (y, (z, (v, tt))), no₅)
  no_three n (inr (y, inr (z, inr (u, inr (v, inr (c, f)))))) = absurd f

  no_numbered : (n : ℕ) → 1 ≤ n → n ≡ (closing p room).number → No n
  no_numbered n h e =
      ⊎_elim
      (λ (m, f). no_three n (subst (FirstNo (closing_questions p room)) (sym (e ∙ ap (λ a. a.number) (refused_is p room m f))) f))
      (λ (ok, (m, q, a)). absurd (omega (arith, ap (λ r. r.number) (closed_is p room m q ok a))))
      (cases p room)

  -- The pair's own questions have neither the number 3 nor 5.
  own_numbers : (n : ℕ) → FirstNo (pair_questions p) n → (¬ (n ≡ 3)) × (¬ (n ≡ 5))
  own_numbers n (inl (e, f)) = ((λ z. omega arith), λ z. omega arith)
  own_numbers n (inr (y, inl (e, f))) = ((λ z. omega arith), λ z. omega arith)
  own_numbers n (inr (y, inr (z, inl (e, f)))) = ((λ z. omega arith), λ z. omega arith)
  own_numbers n (inr (y, inr (z, inr (u, f)))) = absurd f

  own_no : (n : ℕ) → 1 ≤ n → ¬ (n ≡ 5) → n ≡ (closing p room).number → FirstNo (pair_questions p) n
  own_no n h other e = ⊎_elim (λ f. f) (λ (five, ys, no₅). absurd (other five)) (no_numbered n h e)

  fifth_no : 5 ≡ (closing p room).number → AllYes (pair_questions p) × (¬ Closes c)
  fifth_no e = ⊎_elim (λ f. absurd ((own_numbers 5 f).1 refl)) (λ (five, ys, no₅). (ys, no₅)) (no_numbered 5 (omega arith) e)

  pub told : (r : Result Closed ClosingRefusal) (left : Pair) → closing_answer r left ≡ closing p room → Told r
  told (Ok k) left e =
      let g : GivesClosure p room = sym (ap (λ a. a.number) e) in (
        own_yes p room (gives_passes p room g).0,
        (
          curves_of (closure_of p room),
          subst (λ m. Arrives whole c m (curves_of (closure_of p room))) (sym (ap (λ a. a.rounds) e)) (arrived p room g),
        ),
      )
  told (Err (refusal.Pair UpperLength)) left e = own_no 1 (omega arith) (λ z. omega arith) (ap (λ a. a.number) e)
  told (Err (refusal.Pair LowerLength)) left e = own_no 2 (omega arith) (λ z. omega arith) (ap (λ a. a.number) e)
  told (Err (refusal.Pair FigureLimit)) left e = own_no 4 (omega arith) (λ z. omega arith) (ap (λ a. a.number) e)
  told (Err refusal.ResultLength) left e =
      (own_numbers 3 (own_no 3 (omega arith) (λ z. omega arith) (ap (λ a. a.number) e))).0 refl
  told (Err refusal.NoClosure) left e = fifth_no (ap (λ a. a.number) e)
