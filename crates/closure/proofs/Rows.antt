-- Rows: what stands where in one, and how one is filled. Assumes nothing.
use Rattle.laws.proofs.Base.{ℕ, ◌+◌, ◌-◌, ◌≤◌, ◌<◌, ◌≡◌, sym, ap, ◌∙◌, subst, List, dec_le, dec_lt, add-one, arith}
use Rattle.laws.proofs.Base.{length, get_or, set, replicate, length-set, length-replicate}
use lib.ListN.{get_or-replicate, get_or-eq_default}
use lib.Seq.{get_or-set_same, get_or-set_other}
use Rattle.laws.proofs.Table.{Filled, later}
use Rattle.curves.specs.Pairs.{figure}
use Rattle.bounds.specs.Bounds.{figure_limit, Bounded}
use Rattle.closure.specs.Steps.{no_figure, NoneAbove, in_row, IsRow}

-- What holds of each window's figure in a row, and of the filler, holds of every entry.
entries : (P : ℕ → Type 0) {H : ℕ} {row : List ℕ} → IsRow H row → P no_figure → ((d : ℕ) → 1 ≤ d → d ≤ H → P (in_row row d))
    → (i : ℕ) → i < length row → P (get_or row i 0)
entries P {H} {row} r filler figures i l =
    elim (dec_lt i 4) [
      | yes h ↦ subst P (sym (r.front i h)) filler
      | no h ↦
          elim (dec_le (H + 4) i) [
            | yes k ↦ subst P (sym (r.back i k l)) filler
            | no k ↦
                let e : i - 3 + 3 ≡ i = omega arith in
                subst (λ (j : ℕ). P (get_or row j 0)) e (figures (i - 3) (omega arith) (omega arith))
          ]
    ]

-- No entry of a row is above the filler, where none of its figures is.
pub row_small : {H : ℕ} {row : List ℕ} → IsRow H row → ((d : ℕ) → 1 ≤ d → d ≤ H → in_row row d ≤ no_figure) → NoneAbove no_figure row
row_small {H} {row} r small i =
    elim (dec_lt i (length row)) [
      | yes h ↦ entries (λ x. x ≤ no_figure) r (omega arith) small i h
      | no h ↦ omega (arith, get_or-eq_default row 0 {n = i} (omega arith))
    ]

-- The length of every row that is made.
abbrev pub row_length : ℕ
row_length = 264

-- A loop that makes the row of f 1, f 2 and so on: what it has done before its turn at i.
pub record Rowed (f : ℕ → ℕ) (i : ℕ) (row : List ℕ) : Type 0 where
  pub whole : length row ≡ row_length
  pub figures : (d : ℕ) → 1 ≤ d → d ≤ i → in_row row d ≡ f d
  pub front : (j : ℕ) → j < 4 → get_or row j 0 ≡ no_figure
  pub back : (j : ℕ) → i + 4 ≤ j → j < row_length → get_or row j 0 ≡ no_figure

pub no_figures : (f : ℕ → ℕ) (row : List ℕ) → row ≡ replicate row_length no_figure → Rowed f 0 row
no_figures f row e =
    record {
      whole = ap length e ∙ length-replicate row_length no_figure;
      figures = λ d p q. absurd (omega arith);
      front = λ j h. ap (λ l. get_or l j 0) e ∙ get_or-replicate row_length j no_figure 0 (omega arith);
      back = λ j h k. ap (λ l. get_or l j 0) e ∙ get_or-replicate row_length j no_figure 0 k;
    }

pub figure_put : {f : ℕ → ℕ} {i : ℕ} {row : List ℕ} (t : Rowed f i row) (v : ℕ) → i < 256 → v ≡ f (i + 1)
    → Rowed f (i + 1) (set row (i + 4) v)
figure_put {f} {i} {row} t v h e =
    record {
      whole = length-set row (i + 4) v ∙ t.whole;
      figures = λ d p q.
          elim (dec_le d i) [
            | yes k ↦ get_or-set_other row (i + 4) (d + 3) v 0 (λ s. omega arith) ∙ t.figures d p k
            | no k ↦
                let s : d ≡ i + 1 = omega arith in
                let s' : d + 3 ≡ i + 4 = omega arith in
                ap (λ j. get_or (set row (i + 4) v) j 0) s'
                ∙ get_or-set_same row (i + 4) v 0 (omega (arith, t.whole)) ∙ e ∙ ap f (sym s)
          ];
      front = λ j k. get_or-set_other row (i + 4) j v 0 (λ s. omega arith) ∙ t.front j k;
      back = λ j k l. get_or-set_other row (i + 4) j v 0 (λ s. omega arith) ∙ t.back j (omega arith) l;
    }

-- The entry of a list at i is the figure of i + 1 ticks.
pub entry_figure : (us : List ℕ) (i : ℕ) → get_or us i 0 ≡ figure 0 us (i + 1)
unfolding figure
entry_figure us i = rw (add-one i)

-- What a loop that fills the list has not come to yet.
pub unfilled_figure : {f : ℕ → ℕ} {us out : List ℕ} {i : ℕ} → Filled f us out i → get_or out i 0 ≡ figure 0 us (i + 1)
unfilled_figure {f} {us} {out} {i} t = later t i (omega arith) ∙ entry_figure us i

pub entry_bounded : (us : List ℕ) → Bounded us → (i : ℕ) → get_or us i 0 ≤ figure_limit
entry_bounded us b i =
    elim (dec_lt i (length us)) [
      | yes h ↦ omega (arith, entry_figure us i, b (i + 1) (omega arith) (omega arith))
      | no h ↦ omega (arith, get_or-eq_default us 0 {n = i} (omega arith))
    ]
