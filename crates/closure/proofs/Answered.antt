-- What `close` has to show at each of its ends, over plain lists. Assumes nothing.
use Rattle.std.specs.Prelude.{Option, Some, None, Result, Ok, Err}
use Rattle.std.specs.Option.{ok_or}
use Rattle.laws.proofs.Base.{ℕ, ◌≤◌, ◌≡◌, refl, sym, ap, ◌∙◌, subst, Bool, false, true, List, arith, ◌++◌, inl, inr, length, take}
use Rattle.laws.proofs.Base.{drop}
use lib.ListN.{take-append-drop}
use Rattle.laws.specs.Ranges.{table}
use Rattle.curves.specs.Pairs.{Pair, horizon, figure, pair_of}
use Rattle.curves.specs.Rounds.{whole, cut_off, Arrives, Crosses}
use Rattle.curves.proofs.Figures.{table_figures}
use Rattle.curves.proofs.Agreement.{cut_off_arrives, cut_off_crosses}
use Rattle.curves.proofs.Arrival.{never_both}
use Rattle.curves.specs.Unlimited.{AnyPair, limited, unlimited, with_mark, curves_of, AllWithin}
use Rattle.curves.specs.Theorems.{leasts_only}
use Rattle.curves.proofs.Highest.{length-highest, horizon_with}
use Rattle.curves.proofs.Closure.{closure_horizon}
use Rattle.bounds.specs.Bounds.{max_horizon, question1, question2, RoomFor}
use Rattle.bounds.proofs.Laws.{lengths_with, no_lengths_with, even_with}
use Rattle.closure.specs.declared.ClosingRefusal.{ClosingRefusal}
use Rattle.closure.specs.declared.ClosingRefusal.TheVariants as refusal
use Rattle.closure.specs.Closing.{question3, closing_question4, refused_closing, given_closing, closing}
use Rattle.closure.specs.Answers.{closing_answer}
use Rattle.closure.specs.Theorems.{PassesFour}
use Rattle.closure.specs.Steps.{Ended, limit_for, LeastsEnded}
use Rattle.closure.proofs.Said.{refused_is, closed_is, fifth}
use Rattle.closure.proofs.Given.{leasts_even}

module _ (p : AnyPair) (found : Pair) where
  no_1 : ¬ (question1 p).asked → refused_closing 1 found ≡ closing p found
  no_1 n = sym (refused_is p found 1 (inl (refl, n)))

  no_2 : (question1 p).asked → ¬ (question2 p).asked → refused_closing 2 found ≡ closing p found
  no_2 y₁ n = sym (refused_is p found 2 (inr (y₁, inl (refl, n))))

  no_3 : (question1 p).asked → (question2 p).asked → ¬ (question3 p found).asked → refused_closing 3 found ≡ closing p found
  no_3 y₁ y₂ n = sym (refused_is p found 3 (inr (y₁, inr (y₂, inl (refl, n)))))

  no_4 : (question1 p).asked → (question2 p).asked → (question3 p found).asked → ¬ (closing_question4 p).asked
      → refused_closing 4 found ≡ closing p found
  no_4 y₁ y₂ y₃ n = sym (refused_is p found 4 (inr (y₁, inr (y₂, inr (y₃, inl (refl, n))))))

-- ---- with ceilings
module _ (c found : Pair) where
  -- The first entries of the result lists.
  abbrev front : Pair
  front = pair_of (take (horizon c) found.upper) (take (horizon c) found.lower)

  -- The rounds have ended, and the first entries of the result lists are xs and ys.
  module _ (ok : PassesFour (limited c) found) (xs ys : List ℕ) (lx : length xs ≡ horizon c) (ly : length ys ≡ horizon c) where
    abbrev parts : List ℕ → List ℕ → Pair
    parts us ls = pair_of (us ++ drop (horizon c) found.upper) (ls ++ drop (horizon c) found.lower)

    -- Lists of figures are the tables of their figures.
    whole_lists : (given_closing 0 (limited (pair_of xs ys)) found).results ≡ parts xs ys
    whole_lists =
        λ i. record {
          upper = table_figures xs i ++ drop (lx i) found.upper;
          lower = (ap (table (figure 0 ys)) (lx ∙ sym ly) ∙ table_figures ys) i ++ drop (lx i) found.lower;
        }

    as_found : pair_of xs ys ≡ front → parts xs ys ≡ found
    as_found e =
        λ i. record {
          upper = (ap (λ l. l.upper ++ drop (horizon c) found.upper) e ∙ take-append-drop (horizon c) found.upper) i;
          lower = (ap (λ l. l.lower ++ drop (horizon c) found.lower) e ∙ take-append-drop (horizon c) found.lower) i;
        }

    arrived : (n : ℕ) → Arrives cut_off c n (pair_of xs ys)
        → closing_answer (Ok (record { rounds = n; unlimited = false })) (parts xs ys) ≡ closing (limited c) found
    arrived n a =
        let q : Pair = pair_of xs ys in
        sym
        (closed_is (limited c) found n q ok ((cut_off_arrives c n q).1 a)
        ∙ ap (closing_answer (Ok (record { rounds = n; unlimited = false }))) whole_lists)

    crossed : (n : ℕ) → Crosses cut_off c n → pair_of xs ys ≡ front
        → closing_answer (Err refusal.NoClosure) (parts xs ys) ≡ closing (limited c) found
    crossed n x e = ap (refused_closing 5) (as_found e) ∙ sym (refused_is (limited c) found 5 (fifth (limited c) found ok none))
      where
        none : ¬ ((m : ℕ) × (q : Pair) × Arrives whole c m q)
        none a = never_both c a.1 a.0 n a.2 ((cut_off_crosses c n).1 x)

-- ---- without
module _ (h : ℕ) (ls : List ℕ) (found : Pair) (ok : PassesFour (unlimited h ls) found) where
  even : length ls ≡ h
  even = leasts_even h ls found ok

  leasts_ended : (ys : List ℕ) → length ys ≡ h → (n : ℕ) → LeastsEnded ls n ys
      → closing_answer (Ok (record { rounds = n; unlimited = true })) (pair_of found.upper (ys ++ drop h found.lower))
      ≡ closing (unlimited h ls) found
  leasts_ended ys ly n (us, a) =
      let q : Pair = pair_of us ys in
      let is : horizon q ≡ h = closure_horizon (leasts_only ls) q n a ∙ length-highest (length ls) ∙ even in
      sym (
      closed_is (unlimited h ls) found n q ok (subst (λ k. Arrives whole (curves_of (unlimited k ls)) n q) even a)
      ∙ (λ i. record {
        number = 0;
        rounds = n;
        unlimited = true;
        results =
            pair_of found.upper
            ((ap (table (figure 0 ys)) (is ∙ sym ly) ∙ table_figures ys) i ++ drop (is i) found.lower);
      })
      )

-- ---- of two lists and a mark
module _ (us ls : List ℕ) (b : Bool) (found : Pair) where
  abbrev pub given : AnyPair
  given = with_mark us ls b

  pub refused_1 : ¬ ((1 ≤ length us) × (length us ≤ max_horizon)) → refused_closing 1 found ≡ closing given found
  refused_1 n = no_1 given found (no_lengths_with us ls b n)

  module _ (some : 1 ≤ length us) (short : length us ≤ max_horizon) where
    first : (question1 given).asked
    first = lengths_with us ls b some short

    pub refused_2 : ¬ (length ls ≡ length us) → refused_closing 2 found ≡ closing given found
    refused_2 n = no_2 given found first (λ y. n ((even_with us ls b).0 y))

    module _ (even : length ls ≡ length us) where
      second : (question2 given).asked
      second = (even_with us ls b).1 even

      pub refused_3 : ¬ RoomFor (length us) found → refused_closing 3 found ≡ closing given found
      refused_3 n =
          let e = horizon_with us ls b in
          no_3 given found first second (λ r. n (omega (arith, e, r.0), omega (arith, e, r.1)))

      module _ (room : RoomFor (length us) found) where
        third : (question3 given found).asked
        third = let e = horizon_with us ls b in (omega (arith, e, room.0), omega (arith, e, room.1))

        pub refused_4 : ¬ (closing_question4 given).asked → refused_closing 4 found ≡ closing given found
        refused_4 n = no_4 given found first second third n

        pub passes : (closing_question4 given).asked → PassesFour given found
        passes y = (first, (second, (third, (y, tt))))

-- Question 4 has the limit that the mark asks for.
pub limit_with : (us ls : List ℕ) (b : Bool) (n : ℕ) → n ≡ limit_for b → AllWithin n (with_mark us ls b)
    → (closing_question4 (with_mark us ls b)).asked
limit_with us ls true n e y = rw e at y
limit_with us ls false n e y = rw e at y

pub no_limit_with : (us ls : List ℕ) (b : Bool) (n : ℕ) → n ≡ limit_for b → ¬ AllWithin n (with_mark us ls b)
    → ¬ (closing_question4 (with_mark us ls b)).asked
no_limit_with us ls true n e y = rw e at y
no_limit_with us ls false n e y = rw e at y

-- What the rounds end with.
module _ (us ls : List ℕ) (b : Bool) (found : Pair) (ok : PassesFour (with_mark us ls b) found) where
  module _ (e : b ≡ false) (xs ys : List ℕ) (lx : length xs ≡ length us) (ly : length ys ≡ length us) where
    abbrev front_of : Pair
    front_of = pair_of (take (length us) found.upper) (take (length us) found.lower)

    abbrev left : Pair
    left = pair_of (xs ++ drop (length us) found.upper) (ys ++ drop (length us) found.lower)

    limited_ok : PassesFour (limited (pair_of us ls)) found
    limited_ok = subst (λ (b : Bool). PassesFour (with_mark us ls b) found) e ok

    pub arrived_with : (r : Option ℕ) (n : ℕ) → r ≡ Some n → Ended (pair_of us ls) r front_of (pair_of xs ys)
        → closing_answer (Ok (record { rounds = n; unlimited = false })) left ≡ closing (with_mark us ls b) found
    arrived_with r n s h =
        let h' = subst (λ (r : Option ℕ). Ended (pair_of us ls) r front_of (pair_of xs ys)) s h in
        rw e (arrived (pair_of us ls) found limited_ok xs ys lx ly n h')

    pub crossed_with : (r : Option ℕ) (x : ClosingRefusal) → r ≡ None → Err x ≡ ok_or r refusal.NoClosure
        → Ended (pair_of us ls) r front_of (pair_of xs ys) → closing_answer (Err x) left ≡ closing (with_mark us ls b) found
    crossed_with r x s f h =
        let h' = subst (λ (r : Option ℕ). Ended (pair_of us ls) r front_of (pair_of xs ys)) s h in
        let is : ◌≡◌ {A = Result ℕ ClosingRefusal} (Err x) (Err refusal.NoClosure) = rw s at f in
        let no : x ≡ refusal.NoClosure = cc in
        rw (e, no) (crossed (pair_of us ls) found limited_ok xs ys lx ly h'.0.0 h'.0.1 h'.1)

  pub leasts_ended_with : b ≡ true → (ys : List ℕ) → length ys ≡ length us → (n : ℕ) → LeastsEnded ls n ys
      → closing_answer (Ok (record { rounds = n; unlimited = true })) (pair_of found.upper (ys ++ drop (length us) found.lower))
      ≡ closing (with_mark us ls b) found
  leasts_ended_with e ys ly n x =
      rw e
      (leasts_ended (length us) ls found (subst (λ (b : Bool). PassesFour (with_mark us ls b) found) e ok) ys ly n x)
