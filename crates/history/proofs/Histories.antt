-- Laws over plain variables that the proofs about a history cite.
-- Assumes nothing.
use Rattle.laws.proofs.Base.{ℕ, ◌≤◌, ◌<◌, ◌≡◌, refl, sym, ap, ◌∙◌, subst, subst⁻¹, Bool, List, [], ◌++◌, arith}
use Rattle.laws.proofs.Base.{length, take, length-append, length-take-le, ext_get_or, take_at}
use lib.Seq.{get_or-take}
use Rattle.laws.specs.Ranges.{table}
use Rattle.laws.proofs.Table.{length-table, get_or-table}
use Rattle.curves.specs.Pairs.{figure, horizon}
use Rattle.curves.specs.Unlimited.{AnyPair, with_mark, curves_of}
use Rattle.curves.proofs.Highest.{horizon_with, lower_with}
use Rattle.curves.specs.Questions.{AllYes, result, refusal}
use Rattle.bounds.specs.Bounds.{max_horizon, question2, question4, pair_questions}
use Rattle.bounds.proofs.Laws.{even_with}
use Rattle.history.specs.declared.History.{History}
use Rattle.history.specs.States.{Legal, view_of, entries, history_of}
use Rattle.history.specs.Opening.{opening, fresh, zero_history, Begun}
use Rattle.history.specs.Steps.{padded_to, view_with}

-- ---- a view of a state
-- The entries that count are a part of the array, where it has them.
pub entries-take : (n : ℕ) (xs : List ℕ) → n ≤ length xs → entries n xs ≡ take n xs
unfolding figure
entries-take n xs h =
    ext_get_or 0 (entries n xs) (take n xs) (length-table (figure 0 xs) n ∙ sym (length-take-le n xs h))
    (λ i l.
    let l' : i < n = (rw length-table at l) in
    get_or-table (figure 0 xs) n i 0 l' ∙ sym (get_or-take n xs i 0 l'))

-- The horizon is at most 256, and fewer ticks are held: what question 12 asks of the two numbers.
pub record Sizes (h : History) : Type 0 where
  pub within : h.horizon ≤ max_horizon
  pub fewer : h.held < h.horizon

module _ (s : History) where
  -- A view has as many figures and held ticks as the two fields say.
  pub horizon_seen : horizon (curves_of (view_of s).pair) ≡ s.horizon
  horizon_seen = horizon_with _ _ s.unlimited ∙ length-table (figure 0 s.upper) s.horizon

  pub lower_seen : length (curves_of (view_of s).pair).lower ≡ s.horizon
  lower_seen = ap length (lower_with _ _ s.unlimited) ∙ length-table (figure 0 s.lower) s.horizon

  pub held_seen : length (view_of s).held ≡ s.held
  held_seen = length-table (figure 0 s.ticks) s.held

  pub legal_sizes : Legal (view_of s) → Sizes s
  legal_sizes l =
      record { within = omega (arith, horizon_seen, l.lengths.1); fewer = omega (arith, horizon_seen, held_seen, l.fewer) }

  -- And of the figures, where the arrays have one for each window up to the horizon.
  module _ (u : s.horizon ≤ length s.upper) (v : s.horizon ≤ length s.lower) where
    abbrev pub sliced : AnyPair
    sliced = with_mark (take s.horizon s.upper) (take s.horizon s.lower) s.unlimited

    pair_seen : (view_of s).pair ≡ sliced
    pair_seen =
        λ i. with_mark (entries-take s.horizon s.upper u i) (entries-take s.horizon s.lower v i) s.unlimited

    pub legal_bounded : Legal (view_of s) → (question4 sliced).asked
    legal_bounded l = subst (λ (p : AnyPair). (question4 p).asked) pair_seen l.figures

    pub bounded_legal : Sizes s → (question4 sliced).asked → Legal (view_of s)
    bounded_legal r b =
        record {
          lengths = (omega (arith, horizon_seen), omega (arith, horizon_seen));
          figures = subst⁻¹ (λ (p : AnyPair). (question4 p).asked) pair_seen b;
          fewer = omega (arith, horizon_seen, held_seen);
        }

-- ---- an opening
-- Figures at the front of an array are the entries that count.
pub entries_padded : (us rest : List ℕ) (h : ℕ) → length us ≡ h → entries h (us ++ rest) ≡ us
entries_padded us rest h e =
    entries-take h (us ++ rest) (omega (arith, e, length-append us rest)) ∙ take_at us rest h e

-- ---- the history that is handed out: where the pair passes, and where it is refused
module _ (p : AnyPair) (h : History) where
  pub begun_fresh : result tt ≡ opening p → view_of h ≡ fresh p → Begun (opening p) p h
  begun_fresh e v = rw (← e) v

  pub begun_zero : (n : ℕ) → refusal n ≡ opening p → h ≡ zero_history → Begun (opening p) p h
  begun_zero n e z = rw (← e) z

-- ---- the history that an opening hands out
-- Both lists fit into the arrays.
pub lists_fit : (us ls : List ℕ) (b : Bool) → AllYes (pair_questions (with_mark us ls b))
    → (length us ≤ max_horizon) × (length ls ≤ max_horizon)
lists_fit us ls b ys =
    let e = horizon_with us ls b in
    let f = (even_with us ls b).0 ys.1.0 in
    (omega (arith, ys.0.1), omega (arith, ys.0.1))

-- It is not refused: the figures are held, and no tick.
pub unbegun-is
    : (us ls upper lower ticks : List ℕ) (b : Bool) → upper ≡ padded_to us → lower ≡ padded_to ls → (question2 (with_mark us ls b)).asked
    → view_of (history_of (length us) upper lower b 0 ticks) ≡ fresh (with_mark us ls b)
unfolding table
unbegun-is us ls upper lower ticks b u l e =
    λ i. view_with
    ((ap (entries (length us)) u ∙ entries_padded us _ (length us) refl) i)
    ((ap (entries (length us)) l ∙ entries_padded ls _ (length us) ((even_with us ls b).0 e)) i)
    b []
