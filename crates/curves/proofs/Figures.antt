-- Figures: those of equal curves, of a pair and of a round. A round's are each the best of its candidates, in the order in which
-- `best` chooses, so that upper and lower are one law. Assumes nothing.
use Rattle.laws.proofs.Base.{ℕ, zero, suc, ◌+◌, ◌-◌, ◌≤◌, ◌<◌, ◌≡◌, refl, sym, ap, ◌∙◌, List, arith, length, get_or, ext_get_or}
use mathlib.Core.Path.{subst₂}
use Rattle.laws.specs.Ranges.{table}
use Rattle.laws.proofs.Best.{IsBest, fold_holds, fold_first, fold_each}
use Rattle.laws.proofs.Table.{length-table, get_or-table, table_self, table_same}
use Rattle.curves.specs.Pairs.{Curves, horizon, figure, Same, Pair, upper_at, lower_at}
use Rattle.curves.specs.Rounds.{Arithmetic, cut_off, new_figure, new_upper, new_lower, round, figures_of, after, Crossed}

pub figure_table : {N : Type 0} (z : N) (f : ℕ → N) (n d : ℕ) → 1 ≤ d → d ≤ n → figure z (table f n) d ≡ f d
unfolding figure
figure_table z f n zero p q = absurd (omega arith)
figure_table z f n (suc d) p q = get_or-table f n d z q

-- The entry of a list at a window's place.
pub figure_entry : {N : Type 0} (z : N) (us : List N) (d : ℕ) → 1 ≤ d → get_or us (d - 1) z ≡ figure z us d
unfolding figure
figure_entry z us zero p = absurd (omega arith)
figure_entry z us (suc d) p = let e : suc d - 1 ≡ d = omega arith in rw e

-- A list is the table of its figures.
pub table_figures : (us : List ℕ) → table (figure 0 us) (length us) ≡ us
unfolding figure
table_figures us = table_self (figure 0 us) us 0 (λ i h. refl)

-- A pair with as many leasts as ceilings is its own figures.
pub given_self : (p : Pair) → length p.lower ≡ length p.upper → figures_of cut_off p ≡ p
unfolding figures_of
given_self p e =
    let lowers : table (λ d. lower_at p d) (horizon p) ≡ p.lower = rw (sym e) (table_figures p.lower) in
    λ i. record { upper = table_figures p.upper i; lower = lowers i }

-- Equality of curves is an equivalence; with both lists as long as the horizon, equal curves are one.
module _ {N : Type 0} (z : N) where
  pub same_refl : (c : Curves N) → Same z c c
  same_refl c = record { horizons = refl; uppers = λ d u v. refl; lowers = λ d u v. refl }

  -- The windows' ceilings and leasts are equal, each.
  pub same_by : {c e : Curves N} → horizon c ≡ horizon e → ((d : ℕ) → 1 ≤ d → d ≤ horizon c
      → (figure z c.upper d ≡ figure z e.upper d) × (figure z c.lower d ≡ figure z e.lower d)) → Same z c e
  same_by h f = record { horizons = h; uppers = λ d u v. (f d u v).0; lowers = λ d u v. (f d u v).1 }

  pub same_sym : (c e : Curves N) → Same z c e → Same z e c
  same_sym c e q =
      same_by (sym q.horizons)
      (λ d u v. let w : d ≤ horizon c = rw q.horizons v in (sym (q.uppers d u w), sym (q.lowers d u w)))

  pub same_trans : (c e f : Curves N) → Same z c e → Same z e f → Same z c f
  same_trans c e f q r =
      same_by (q.horizons ∙ r.horizons)
      (λ d u v. let w : d ≤ horizon e = rw (sym q.horizons) v in (q.uppers d u v ∙ r.uppers d u w, q.lowers d u v ∙ r.lowers d u w))

  pub same_lists : (us vs : List N) → length us ≡ length vs
      → ((d : ℕ) → 1 ≤ d → d ≤ length us → figure z us d ≡ figure z vs d) → us ≡ vs
  unfolding figure
  same_lists us vs e h = ext_get_or z us vs e (λ i l. h (suc i) (omega arith) l)

  pub full_same : (c e : Curves N) → length c.lower ≡ horizon c → length e.lower ≡ horizon e → Same z c e → c ≡ e
  full_same c e f f' s =
      λ i.
      record {
        upper = same_lists c.upper e.upper s.horizons s.uppers i;
        lower = same_lists c.lower e.lower (f ∙ s.horizons ∙ sym f') (λ d u v. s.lowers d u (rw (sym f) v)) i;
      }

-- Curves of one horizon, of any two kinds of numbers: if each least above its ceiling in the one is so in the other, they cross together.
pub crossed_moved : {A B : Arithmetic} (c : Curves A.Number) (e : Curves B.Number) → horizon c ≡ horizon e
    → ((d : ℕ) → 1 ≤ d → d ≤ horizon c → A.Below (figure (A.of 0) c.upper d) (figure (A.of 0) c.lower d)
    → B.Below (figure (B.of 0) e.upper d) (figure (B.of 0) e.lower d))
    → Crossed A c → Crossed B e
crossed_moved c e h f x =
    let d : ℕ = x.window in
    record { window = d; positive = x.positive; within = rw (sym h) x.within; above = f d x.positive x.within x.above }

module _ (A : Arithmetic) where
  pub round_horizon : (c : Curves A.Number) → horizon (round A c) ≡ horizon c
  unfolding round
  round_horizon c = length-table _ (horizon c)

  pub given_horizon : (p : Pair) → horizon (figures_of A p) ≡ horizon p
  unfolding figures_of
  given_horizon p = length-table _ (horizon p)

  pub after_horizon : (n : ℕ) (p : Pair) → horizon (after A n p) ≡ horizon p
  unfolding after
  after_horizon zero p = given_horizon p
  after_horizon (suc n) p = round_horizon (after A n p) ∙ after_horizon n p

  -- Both lists are as long as the horizon.
  pub round_full : (c : Curves A.Number) → length (round A c).lower ≡ horizon (round A c)
  unfolding round
  round_full c = length-table _ (horizon c) ∙ sym (length-table _ (horizon c))

  pub given_full : (p : Pair) → length (figures_of A p).lower ≡ horizon (figures_of A p)
  unfolding figures_of
  given_full p = length-table _ (horizon p) ∙ sym (length-table _ (horizon p))

  pub after_full : (n : ℕ) (p : Pair) → length (after A n p).lower ≡ horizon (after A n p)
  unfolding after
  after_full zero p = given_full p
  after_full (suc n) p = round_full (after A n p)

  pub given_upper : (p : Pair) (d : ℕ) → 1 ≤ d → d ≤ horizon p → figure (A.of 0) (figures_of A p).upper d ≡ A.of (upper_at p d)
  unfolding figures_of
  given_upper p = figure_table (A.of 0) _ (horizon p)

  pub given_lower : (p : Pair) (d : ℕ) → 1 ≤ d → d ≤ horizon p → figure (A.of 0) (figures_of A p).lower d ≡ A.of (lower_at p d)
  unfolding figures_of
  given_lower p = figure_table (A.of 0) _ (horizon p)

  -- Equal pairs have equal figures of any kind.
  pub given_same : (c e : Pair) → Same 0 c e → figures_of A c ≡ figures_of A e
  unfolding figures_of
  given_same c e q =
      λ i.
      record {
        upper = table_same _ _ (horizon c) (horizon e) q.horizons (λ d u v. ap A.of (q.uppers d u v)) i;
        lower = table_same _ _ (horizon c) (horizon e) q.horizons (λ d u v. ap A.of (q.lowers d u v)) i;
      }

  pub same_crossed : (c e : Curves A.Number) → Same (A.of 0) c e → Crossed A c → Crossed A e
  same_crossed c e q = crossed_moved c e q.horizons (λ d u v. subst₂ A.Below (q.uppers d u v) (q.lowers d u v))

  pub round_upper : (c : Curves A.Number) (d : ℕ) → 1 ≤ d → d ≤ horizon c → figure (A.of 0) (round A c).upper d ≡ new_upper A c d
  unfolding round
  round_upper c = figure_table (A.of 0) (new_upper A c) (horizon c)

  pub round_lower : (c : Curves A.Number) (d : ℕ) → 1 ≤ d → d ≤ horizon c → figure (A.of 0) (round A c).lower d ≡ new_lower A c d
  unfolding round
  round_lower c = figure_table (A.of 0) (new_lower A c) (horizon c)

  -- What holds of each candidate of one curve's new figure, and of the better of two where it holds of both, holds of the new figure.
  pub new-holds
      : (best : A.Number → A.Number → A.Number) (H : ℕ) (own other : ℕ → A.Number) (d : ℕ)
      (P : A.Number → Type 0) → ((x y : A.Number) → P x → P y → P (best x y))
      → P (own d)
      → ((a : ℕ) → 1 ≤ a → a < d → P (A.plus (own a) (own (d - a))))
      → ((t : ℕ) → 1 ≤ t → d + t ≤ H → P (A.minus (own (d + t)) (other t)))
      → P (new_figure A best H own other d)
  unfolding new_figure
  new-holds best H own other d P both old plus minus =
      fold_holds best P both _ _ (H - d)
      (fold_holds best P both (own d) _ (d - 1) old (λ a u v. plus a u (omega arith)))
      (λ t u v. minus t u (omega arith))

  -- One curve's new figure: as good as each candidate.
  module _ (R : A.Number → A.Number → Type 0) (best : A.Number → A.Number → A.Number) (B : IsBest R best)
      (H : ℕ) (own other : ℕ → A.Number) (d : ℕ) where
    pub new_old : R (new_figure A best H own other d) (own d)
    unfolding new_figure
    new_old =
        B.chain _ _ _
        (fold_first R best B _ (λ t. A.minus (own (d + t)) (other t)) (H - d))
        (fold_first R best B (own d) (λ a. A.plus (own a) (own (d - a))) (d - 1))

    pub new_plus : (a : ℕ) → 1 ≤ a → a < d → R (new_figure A best H own other d) (A.plus (own a) (own (d - a)))
    unfolding new_figure
    new_plus a u v =
        B.chain _ _ _
        (fold_first R best B _ (λ t. A.minus (own (d + t)) (other t)) (H - d))
        (fold_each R best B (own d) (λ k. A.plus (own k) (own (d - k))) (d - 1) a u (omega arith))

    pub new_minus : (t : ℕ) → 1 ≤ t → d + t ≤ H → R (new_figure A best H own other d) (A.minus (own (d + t)) (other t))
    unfolding new_figure
    new_minus t u v = fold_each R best B _ (λ k. A.minus (own (d + k)) (other k)) (H - d) t u (omega arith)

  -- A least above its ceiling stays there: the one does not fall, the other does not rise.
  pub crossed_stays : (R : A.Number → A.Number → Type 0) → IsBest R A.smaller → IsBest (λ x y. R y x) A.larger
      → ((x y x' y' : A.Number) → R x' x → R y y' → A.Below x y → A.Below x' y')
      → (c : Curves A.Number) → Crossed A c → Crossed A (round A c)
  crossed_stays R B B' further c =
      crossed_moved c (round A c) (sym (round_horizon c)) (λ d u v.
      rw (round_upper c d u v, round_lower c d u v)
      (further (figure (A.of 0) c.upper d) (figure (A.of 0) c.lower d) _ _
      (new_old R A.smaller B (horizon c) (figure (A.of 0) c.upper) (figure (A.of 0) c.lower) d)
      (new_old (λ x y. R y x) A.larger B' (horizon c) (figure (A.of 0) c.lower) (figure (A.of 0) c.upper) d)))
