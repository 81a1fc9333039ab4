-- What a set of constraints names, and what follows of constraints that were asked in order. Assumes nothing.
use Rattle.laws.proofs.Base.{ℕ, ◌≤◌, ◌≡◌, refl, ◌∙◌, List, [], ◌∷◌, ◌++◌, map, append_assoc, append-nil, ◌⊎◌, inl, inr, ⊎_elim, ℕ_discrete}
use Rattle.laws.proofs.Base.{arith, eq-eqb, ne_eqb, length}
use Rattle.laws.specs.Tests.{Each}
use Rattle.laws.proofs.Tests.{each_map}
use Rattle.curves.specs.Questions.{AllYes}
use Rattle.bounds.specs.Bounds.{max_horizon}
use Rattle.csv_text.specs.Text.{Bytes}
use Rattle.csv_text.specs.Records.{Most, none, up_to, MostWithin, Constraint, WellFormed, constraint_of, message_limit, InRange}
use Rattle.constraints.specs.Constraints.{New, named, largest_window, smaller_most, smallest_most}
use Rattle.constraints.specs.Reading.{record_questions}

module _ {A : Type 0} (what : Constraint → A) (other : A) where
  pub named_first : (c : Constraint) (cs : List Constraint) (d : ℕ) → c.window ≡ d → named what other (c ∷ cs) d ≡ what c
  unfolding named
  named_first c cs d e = rw (eq-eqb c.window d e)

  pub named_next : (c : Constraint) (cs : List Constraint) (d : ℕ) → ¬ (c.window ≡ d) → named what other (c ∷ cs) d ≡ named what other cs d
  unfolding named
  named_next c cs d e = rw (ne_eqb c.window d e)

  -- Constraints for other windows can be left out.
  pub named_new : (earlier : List Constraint) (c : Constraint) (cs : List Constraint) → New earlier c
      → named what other (earlier ++ cs) c.window ≡ named what other cs c.window
  named_new [] c cs n = refl
  named_new (e ∷ earlier) c cs n = named_next e (earlier ++ cs) c.window n.0 ∙ named_new earlier c cs n.1

  -- And one for another window that comes last.
  pub named_other : (cs : List Constraint) (c : Constraint) (d : ℕ) → ¬ (c.window ≡ d)
      → named what other (cs ++ (c ∷ [])) d ≡ named what other cs d
  unfolding named
  named_other [] c d n = named_next c [] d n
  named_other (e ∷ cs) c d n = rw (named_other cs c d n)

-- A constraint that was asked after others is the one that is named for its window.
pub named_own : {A : Type 0} (what : Constraint → A) (other : ℕ → A) (earlier : List Constraint) (rs : List Bytes)
    → AllYes (record_questions earlier rs)
    → Each (λ c. named what (other c.window) (earlier ++ map constraint_of rs) c.window ≡ what c) (map constraint_of rs)
named_own what other earlier [] ys = tt
named_own what other earlier (r ∷ rs) ys =
    let c = constraint_of r in
    let o = other c.window in (
      named_new what o earlier c (c ∷ map constraint_of rs) ys.1.1.0 ∙ named_first what o c (map constraint_of rs) c.window refl,
      rw append_assoc at (named_own what other (earlier ++ (c ∷ [])) rs ys.1.1.1),
    )

-- A window is named by some constraint, which then gives all that is named for it, or by none.
pub named_or_not : (P : Constraint → Type 0) (cs : List Constraint) (d : ℕ) → Each P cs
    → ((c : Constraint) × P c × (c.window ≡ d) × ((what : Constraint → ℕ) (other : ℕ) → named what other cs d ≡ what c))
    ⊎ ((what : Constraint → ℕ) (other : ℕ) → named what other cs d ≡ other)
unfolding named
named_or_not P [] d ps = inr (λ what other. refl)
named_or_not P (c ∷ cs) d ps =
    elim (ℕ_discrete c.window d) [
      | yes e ↦ inl (c, ps.0, e, λ what other. named_first what other c cs d e)
      | no e ↦ ⊎_elim
          (λ f. inl (f.0, f.1, f.2, λ what other. named_next what other c cs d e ∙ f.3 what other))
          (λ f. inr (λ what other. named_next what other c cs d e ∙ f what other))
          (named_or_not P cs d ps.1)
    ]

-- Records that were asked, and one more.
pub one_more : (earlier : List Constraint) (rs : List Bytes) (r : Bytes) → AllYes (record_questions earlier rs)
    → WellFormed r → InRange (constraint_of r) → New (earlier ++ map constraint_of rs) (constraint_of r)
    → AllYes (record_questions earlier (rs ++ (r ∷ [])))
one_more earlier [] r ys w i n = (w, (i, (rw append-nil at n, tt)))
one_more earlier (x ∷ rs) r ys w i n =
    let more = one_more (earlier ++ (constraint_of x ∷ [])) rs r ys.1.1.1 w i (rw append_assoc n) in
    (ys.0, (ys.1.0, (ys.1.1.0, more)))

-- ---- bounds
-- Constraints that were asked are in range, and their windows are at most the largest.
pub in_range : (earlier : List Constraint) (rs : List Bytes) → AllYes (record_questions earlier rs) → Each InRange (map constraint_of rs)
in_range earlier [] ys = tt
in_range earlier (r ∷ rs) ys = (ys.1.0, in_range (earlier ++ (constraint_of r ∷ [])) rs ys.1.1.1)

pub window_largest : (cs : List Constraint) → Each (λ c. c.window ≤ largest_window cs) cs
window_largest [] = tt
window_largest (c ∷ cs) = (omega arith, each_map _ _ cs (λ e h. omega (arith, h)) (window_largest cs))

pub largest_le : (cs : List Constraint) (n : ℕ) → Each (λ c. c.window ≤ n) cs → largest_window cs ≤ n
largest_le [] n hs = omega arith
largest_le (c ∷ cs) n hs = omega (arith, hs.0, largest_le cs n hs.1)

pub largest_bound : (cs : List Constraint) → Each InRange cs → largest_window cs ≤ max_horizon
largest_bound cs rs = largest_le cs max_horizon (each_map InRange _ cs (λ c r. r.window) rs)

smaller_within : (n : ℕ) (x y : Most) → MostWithin n x → MostWithin n y → MostWithin n (smaller_most x y)
smaller_within n none y p q = q
smaller_within n (up_to m) none p q = p
smaller_within n (up_to m) (up_to k) p q = omega arith

pub smallest_bound : (cs : List Constraint) → Each InRange cs → MostWithin message_limit (smallest_most cs)
smallest_bound [] rs = tt
smallest_bound (c ∷ cs) rs = smaller_within message_limit c.most (smallest_most cs) rs.0.most (smallest_bound cs rs.1)

-- Where there is a constraint, there is a window.
pub largest_some : (cs : List Constraint) → Each InRange cs → 1 ≤ length cs → 1 ≤ largest_window cs
largest_some [] rs n = absurd (omega arith)
largest_some (c ∷ cs) rs n = omega (arith, rs.0.some)
