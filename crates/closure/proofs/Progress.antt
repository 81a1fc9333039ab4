-- What the loop over the rounds holds: how far they have come, which is never further than nine.
-- Assumes nothing.
use Rattle.laws.proofs.Base.{ℕ, ◌+◌, ◌≤◌, ◌≡◌, sym, ap, ◌∙◌, subst, true, false, ⊎_elim, add-one, below_none, below_more, length}
use lib.IntN.{ℤ}
use Rattle.curves.specs.Pairs.{Curves, Pair, Same, horizon}
use Rattle.curves.specs.Rounds.{whole, cut_off, figures_of, round, Crossed, Settled, after, Runs, Arrives, Crosses}
use Rattle.curves.proofs.Figures.{given_self, round_full, full_same, same_refl}
use Rattle.curves.proofs.Agreement.{agree, tied, runs_whole}
use Rattle.curves.proofs.Bound.{few_runs}
use Rattle.bounds.specs.Bounds.{max_horizon, Bounded}
use Rattle.closure.specs.Widths.{HalfWidth, RunAfter}
use Rattle.closure.specs.Steps.{Advanced}
use Rattle.closure.proofs.Widths.{rounds_are_half_width}

-- A pair with as many leasts as ceilings.
abbrev pub Even : Pair → Type 0
Even c = length c.lower ≡ length c.upper

as_same : {c e : Pair} → c ≡ e → Same 0 c e
as_same {c} {e} h = rw h (same_refl 0 e)

-- The rounds of p have come to c, after n that changed a figure.
pub record Held (p : Pair) (n : ℕ) (c : Pair) : Type 0 where
  pub runs : Runs cut_off p n
  pub figures : c ≡ after cut_off n p
  pub even : Even c

pub begins : (p : Pair) → Even p → Held p 0 p
unfolding after
begins p e =
    record {
      runs = record { uncrossed = below_none _; changes = below_none _ };
      figures = sym (given_self p e);
      even = e;
    }

module _ (p : Pair) (n : ℕ) (c : Pair) (h : Held p n c) where
  -- 256 is 2^8.
  pub at_most_nine : horizon p ≤ max_horizon → n ≤ 9
  at_most_nine short = few_runs p 8 n short h.runs

  pub crosses : Crossed cut_off c → Crosses cut_off p n
  crosses x = record { runs = h.runs; crossed = subst (λ (y : Pair). Crossed cut_off y) h.figures x }

  -- The sums and differences of the round that is run next keep their limits.
  pub half_width : Bounded p.upper → ¬ Crossed cut_off c → HalfWidth (figures_of whole c)
  half_width b uncrossed =
      let not-crossed : ¬ Crossed cut_off (after cut_off n p) = subst (λ (y : Pair). ¬ Crossed cut_off y) h.figures uncrossed in
      let exact = ⊎_elim (λ e. e) (λ x. absurd (not-crossed x.1)) (agree p n) in
      let run : RunAfter p n = (runs_whole p n h.runs, λ x. not-crossed ((tied p n).crossed.0 x)) in
      subst (λ (y : Pair). HalfWidth (figures_of whole y)) (sym h.figures)
      (subst (λ (y : Curves ℤ). HalfWidth y) exact (rounds_are_half_width p n b run))

  module _ (uncrossed : ¬ Crossed cut_off c) (next : Pair) where
    still_uncrossed : ¬ Crossed cut_off (after cut_off n p)
    still_uncrossed = subst (λ (y : Pair). ¬ Crossed cut_off y) h.figures uncrossed

    next_even : next ≡ round cut_off c → Even next
    next_even e = subst Even (sym e) (round_full cut_off c)

    pub arrives : Advanced c true next → Arrives cut_off p n next
    arrives a =
        record {
          runs = h.runs;
          uncrossed = still_uncrossed;
          settled = subst (λ (y : Pair). Settled cut_off y) h.figures (as_same (sym a.figures ∙ a.told));
          figures = as_same (sym h.figures ∙ sym a.told ∙ sym (given_self next (next_even a.figures)));
        }

    pub goes_on : Advanced c false next → Held p (n + 1) next
    unfolding after
    goes_on a =
        let unsettled : ¬ Settled cut_off c =
        λ s. a.told (a.figures ∙ full_same 0 (round cut_off c) c (round_full cut_off c) h.even s) in
        record {
          runs =
              record {
                uncrossed = below_more _ n h.runs.uncrossed still_uncrossed;
                changes = below_more _ n h.runs.changes (subst (λ (y : Pair). ¬ Settled cut_off y) h.figures unsettled);
              };
          figures = a.figures ∙ ap (round cut_off) h.figures ∙ rw add-one;
          even = next_even a.figures;
        }
