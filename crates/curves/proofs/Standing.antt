-- Rounds of sums alone, and rounds with M a tick in the place of missing ceilings: one and the same, whatever M is, where no least is
-- above it. Assumes nothing.
use Rattle.laws.proofs.Base.{ℕ, zero, suc, ◌+◌, ◌-◌, ◌*◌, ◌≤◌, ◌<◌, max, ◌≡◌, refl, sym, ap, ◌∙◌, List, ◌↔◌, dec_le, zero-add, add-zero}
use Rattle.laws.proofs.Base.{arith, length}
use Rattle.laws.specs.Ranges.{fold, table}
use Rattle.laws.proofs.Best.{max_best, fold_first, fold_each, fold_holds}
use Rattle.laws.proofs.Table.{length-table}
use Rattle.curves.specs.Pairs.{horizon, figure, Pair, pair_of, upper_at, lower_at, Equal, FiguresWithin}
use Rattle.curves.specs.Rounds.{whole, cut_off, round, after, Crossed, Settled, HasAfter, Arrives, Crosses, Causal}
use Rattle.curves.specs.Unlimited.{sums_round, sums_after, SuperAdditive}
use Rattle.curves.proofs.Figures.{figure_table, given_self, same_by, same_refl, same_sym, same_lists, full_same}
use Rattle.curves.proofs.Figures.{round_full, round_horizon}
use Rattle.curves.proofs.Tightened.{upper_falls, lower_rises, round_within, round_plus}
use Rattle.curves.proofs.Agreement.{given_equal, crossed_given, settled_given, Tied, tied, cut_off_arrives, cut_off_crosses}
use Rattle.curves.proofs.Arrival.{arrives_once}
use Rattle.curves.proofs.Closure.{closure_horizon, arrives_equal}

-- ---- a round of sums
module _ (ls : List ℕ) where
  pub sums_round-length : length (sums_round ls) ≡ length ls
  unfolding sums_round
  sums_round-length = length-table _ (length ls)

  sums_figure : (d : ℕ) → 1 ≤ d → d ≤ length ls
      → figure 0 (sums_round ls) d ≡ fold max (figure 0 ls d) (λ a. figure 0 ls a + figure 0 ls (d - a)) (d - 1)
  unfolding sums_round
  sums_figure = figure_table 0 _ (length ls)

  -- Each new least is at least as large as its candidates.
  pub sums_rise : (d : ℕ) → d ≤ length ls → figure 0 ls d ≤ figure 0 (sums_round ls) d
  unfolding figure
  sums_rise zero v = omega arith
  sums_rise (suc d) v =
      rw (sums_figure (suc d) (omega arith) v)
      (fold_first (λ x y. y ≤ x) max max_best (figure 0 ls (suc d)) (λ a. figure 0 ls a + figure 0 ls (suc d - a)) (suc d - 1))

  pub sums_plus : (a b : ℕ) → a + b ≤ length ls → figure 0 ls a + figure 0 ls b ≤ figure 0 (sums_round ls) (a + b)
  unfolding figure
  sums_plus zero b w = rw (zero-add b) (omega (arith, sums_rise b (omega arith)))
  sums_plus (suc a) zero w = rw (add-zero (suc a)) (omega (arith, sums_rise (suc a) (omega arith)))
  sums_plus (suc a) (suc b) w =
      let k : suc a + suc b - suc a ≡ suc b = omega arith in
      rw (sums_figure (suc a + suc b) (omega arith) w)
      (rw k at (fold_each (λ x y. y ≤ x) max max_best (figure 0 ls (suc a + suc b))
      (λ x. figure 0 ls x + figure 0 ls (suc a + suc b - x)) (suc a + suc b - 1) (suc a) (omega arith) (omega arith)))

  pub sums_plus_at : (a b d : ℕ) → a + b ≡ d → d ≤ length ls → figure 0 ls a + figure 0 ls b ≤ figure 0 (sums_round ls) d
  sums_plus_at a b d e v = rw e at (sums_plus a b (omega arith))

  -- And it is one of them: what holds of each holds of it.
  pub sums_holds : (P : ℕ → Type 0) (d : ℕ) → 1 ≤ d → d ≤ length ls → P (figure 0 ls d)
      → ((a b : ℕ) → 1 ≤ a → 1 ≤ b → a + b ≡ d → P (figure 0 ls a + figure 0 ls b)) → P (figure 0 (sums_round ls) d)
  sums_holds P d u v old plus =
      rw (sums_figure d u v)
      (fold_holds max P one_of (figure 0 ls d) (λ a. figure 0 ls a + figure 0 ls (d - a)) (d - 1) old
      (λ a p q. plus a (d - a) p (omega arith) (omega arith)))
    where
      one_of : (x y : ℕ) → P x → P y → P (max x y)
      one_of x y p q =
          elim (dec_le x y) [
            | yes h ↦ let e : max x y ≡ y = omega arith in rw e q
            | no h ↦ let e : max x y ≡ x = omega arith in rw e p
          ]

  -- It changes nothing exactly where no least is below the sum of those of two parts.
  pub sums_settled : (sums_round ls ≡ ls) ↔ SuperAdditive ls
  sums_settled = (
    (λ e a b u v w. rw e at (sums_plus a b w)),
    λ s.
        same_lists 0 (sums_round ls) ls sums_round-length (λ d u v.
        let w : d ≤ length ls = rw sums_round-length at v in
        omega (
          arith,
          sums_rise d w,
          sums_holds (λ x. x ≤ figure 0 ls d) d u w (omega arith) (λ a b p q e. rw e at (s a b p q (omega arith))),
        )),
  )

pub sums_length : (n : ℕ) (ls : List ℕ) → length (sums_after n ls) ≡ length ls
unfolding sums_after
sums_length zero ls = refl
sums_length (suc n) ls = sums_round-length (sums_after n ls) ∙ sums_length n ls

-- The rounds of sums arrive after n that changed a figure.
pub record SumsArrive (ls : List ℕ) (n : ℕ) : Type 0 where
  pub changes : (k : ℕ) → k < n → ¬ (sums_round (sums_after k ls) ≡ sums_after k ls)
  pub settled : sums_round (sums_after n ls) ≡ sums_after n ls

-- ---- M a tick in the place of missing ceilings
abbrev pub standing : ℕ → List ℕ → Pair
standing M ls = pair_of (table (λ d. d * M) (length ls)) ls

module _ (M : ℕ) where
  times_parts : (a d : ℕ) → a ≤ d → d * M ≡ a * M + (d - a) * M
  times_parts a d l = let e : d ≡ a + (d - a) = omega arith in ap (λ x. x * M) e ∙ omega arith

  -- A least is at most M for each of any t ticks of its window and the least of some window that fits into the other d.
  abbrev Paced : List ℕ → Type 0
  Paced ls = (n d t : ℕ) → d + t ≡ n → n ≤ length ls → (e : ℕ) × (e ≤ d) × (figure 0 ls n ≤ t * M + figure 0 ls e)

  given_paced : (ls : List ℕ) → FiguresWithin M ls → Paced ls
  unfolding figure
  given_paced ls h n d zero s v = (n, omega arith, omega arith)
  given_paced ls h n d (suc t) s v = (0, omega arith, omega (arith, h n (omega arith) v))

  paced_flat : (ls : List ℕ) → Paced ls → (t : ℕ) → t ≤ length ls → figure 0 ls t ≤ t * M
  unfolding figure
  paced_flat ls k t v =
      let (e, l, h) = k t 0 t (zero-add t) v in
      let z : e ≡ 0 = omega arith in
      omega (arith, ap (figure 0 ls) z)

  -- So are the leasts after a round of sums: of two parts, the first lies within those t ticks, or has them all.
  parts_paced : (ls : List ℕ) → Paced ls → (a b d t : ℕ) → d + t ≡ a + b → a + b ≤ length ls
      → (e : ℕ) × (e ≤ d) × (figure 0 ls a + figure 0 ls b ≤ t * M + figure 0 (sums_round ls) e)
  parts_paced ls k a b d t s v =
      elim (dec_le a t) [
        | yes m ↦
            let (e, l, h) = k b d (t - a) (omega arith) (omega arith) in
            (e, l, omega (arith, paced_flat ls k a (omega arith), times_parts a t m, sums_rise ls e (omega arith)))
        | no m ↦
            let (e, l, h) = k a (a - t) t (omega arith) (omega arith) in
            (e + b, omega arith, omega (arith, sums_plus ls e b (omega arith)))
      ]

  sums_paced : (ls : List ℕ) → Paced ls → Paced (sums_round ls)
  unfolding figure
  sums_paced ls k zero d t s v = (0, omega arith, omega arith)
  sums_paced ls k (suc n) d t s v =
      let w : suc n ≤ length ls = rw (sums_round-length ls) at v in
      let (e, l, h) = k (suc n) d t s w in
      sums_holds ls (λ x. (e : ℕ) × (e ≤ d) × (x ≤ t * M + figure 0 (sums_round ls) e)) (suc n) (omega arith) w
      (e, l, omega (arith, sums_rise ls e (omega arith)))
      (λ a b p q i. parts_paced ls k a b d t (omega arith) (omega arith))

  after_paced : (ls : List ℕ) → FiguresWithin M ls → (n : ℕ) → Paced (sums_after n ls)
  unfolding sums_after
  after_paced ls h zero = given_paced ls h
  after_paced ls h (suc n) = sums_paced (sums_after n ls) (after_paced ls h n)

  -- ---- one round
  standing_horizon : (ls : List ℕ) → horizon (standing M ls) ≡ length ls
  standing_horizon ls = length-table _ (length ls)

  pub standing_upper : (ls : List ℕ) (d : ℕ) → d ≤ length ls → upper_at (standing M ls) d ≡ d * M
  unfolding figure
  standing_upper ls zero v = omega arith
  standing_upper ls (suc d) v = figure_table 0 (λ d. d * M) (length ls) (suc d) (omega arith) v

  paced_uncrossed : (ls : List ℕ) → Paced ls → ¬ Crossed cut_off (standing M ls)
  paced_uncrossed ls k x =
      let v : x.window ≤ length ls = rw (standing_horizon ls) at x.within in
      omega (arith, x.above, standing_upper ls x.window v, paced_flat ls k x.window v)

  -- The ceilings stay, and no difference is above the sums.
  standing_figures : (ls : List ℕ) → Paced ls → (d : ℕ) → 1 ≤ d → d ≤ length ls
      → (upper_at (round cut_off (standing M ls)) d ≡ d * M) × (lower_at (round cut_off (standing M ls)) d ≡ figure 0 (sums_round ls) d)
  standing_figures ls k d u v =
      let c : Pair = standing M ls in
      let w : d ≤ horizon c = rw (standing_horizon ls) v in
      let within =
      round_within c d (d * M) (figure 0 (sums_round ls) d) u w
      (omega (arith, standing_upper ls d v), sums_rise ls d v)
      (λ a p q. (
        omega (arith, standing_upper ls a (omega arith), standing_upper ls (d - a) (omega arith), times_parts a d (omega arith)),
        sums_plus_at ls a (d - a) d (omega arith) v,
      ))
      (λ t p q.
      let q' : d + t ≤ length ls = rw (standing_horizon ls) at q in
      let (e, l, h) = k (d + t) d t refl q' in (
        omega (arith, standing_upper ls (d + t) q', paced_flat ls k t (omega arith)),
        omega (arith, standing_upper ls t (omega arith), sums_plus_at ls e (d - e) d (omega arith) v),
      )) in
      omega (
        arith,
        within,
        upper_falls c d w,
        standing_upper ls d v,
        sums_holds ls (λ x. x ≤ lower_at (round cut_off c) d) d u v (lower_rises c d w)
            (λ a b p q e. rw e at (round_plus c a b (rw e w)).1),
      )

  standing_round : (ls : List ℕ) → Paced ls → round cut_off (standing M ls) ≡ standing M (sums_round ls)
  standing_round ls k =
      let h : horizon (round cut_off (standing M ls)) ≡ length ls = round_horizon cut_off (standing M ls) ∙ standing_horizon ls in
      let h' : horizon (standing M (sums_round ls)) ≡ length (sums_round ls) = standing_horizon (sums_round ls) in
      full_same 0 (round cut_off (standing M ls)) (standing M (sums_round ls)) (round_full cut_off (standing M ls)) (sym h')
      (same_by 0 (h ∙ sym (sums_round-length ls) ∙ sym h') (λ d u v.
      let v' : d ≤ length ls = rw h at v in
      let (up, low) = standing_figures ls k d u v' in
      (up ∙ sym (standing_upper (sums_round ls) d (rw (sums_round-length ls) v')), low)))

  paced_settled : (ls : List ℕ) → Paced ls → Settled cut_off (standing M ls) ↔ (sums_round ls ≡ ls)
  paced_settled ls k =
      rw (standing_round ls k) (
        (λ s. same_lists 0 (sums_round ls) ls (sums_round-length ls) (λ d u v. s.lowers d u (rw (standing_horizon (sums_round ls)) v))),
        (λ e. rw e (same_refl 0 (standing M ls))),
      )

  -- ---- any number of rounds
  module _ (ls : List ℕ) (h : FiguresWithin M ls) where
    pub standing_after : (n : ℕ) → after cut_off n (standing M ls) ≡ standing M (sums_after n ls)
    unfolding after sums_after
    standing_after zero = given_self (standing M ls) (sym (standing_horizon ls))
    standing_after (suc n) = ap (round cut_off) (standing_after n) ∙ standing_round (sums_after n ls) (after_paced ls h n)

    pub standing_uncrossed : (n : ℕ) → ¬ Crossed cut_off (after cut_off n (standing M ls))
    standing_uncrossed n = rw (standing_after n) (paced_uncrossed (sums_after n ls) (after_paced ls h n))

    pub standing_settled : (n : ℕ) → Settled cut_off (after cut_off n (standing M ls)) ↔ (sums_round (sums_after n ls) ≡ sums_after n ls)
    standing_settled n = rw (standing_after n) (paced_settled (sums_after n ls) (after_paced ls h n))

    has_cut : (n : ℕ) → HasAfter cut_off n (standing M ls) (standing M (sums_after n ls))
    has_cut n = rw (standing_after n) (same_sym 0 _ _ (given_equal (standing M (sums_after n ls))))

    pub standing_has : (n : ℕ) → HasAfter whole n (standing M ls) (standing M (sums_after n ls))
    standing_has n =
        let t : Tied whole cut_off (standing M ls) n = tied (standing M ls) n in
        (t.figures (λ x. standing_uncrossed n (t.crossed.0 x)) (standing M (sums_after n ls))).1 (has_cut n)

    -- It is its own closure where no least is below the sum of those of two parts.
    pub standing_causal : Causal (standing M ls) ↔ SuperAdditive ls
    standing_causal =
        let k : Paced ls = given_paced ls h in
        let un : ¬ Crossed cut_off (standing M ls) = paced_uncrossed ls k in
        let same = settled_given (standing M ls) un in (
          (λ c. (sums_settled ls).0 ((paced_settled ls k).0 (same.0 c.settled))),
          (λ s.
              record {
                uncrossed = λ x. un ((crossed_given (standing M ls)).0 x);
                settled = same.1 ((paced_settled ls k).1 ((sums_settled ls).1 s));
              }),
        )

    -- The rounds arrive where those of sums do, with their leasts.
    pub sums_arrive : (n : ℕ) → SumsArrive ls n → Arrives whole (standing M ls) n (standing M (sums_after n ls))
    sums_arrive n s =
        (cut_off_arrives (standing M ls) n (standing M (sums_after n ls))).1
        (record {
          runs = record { uncrossed = λ k l. standing_uncrossed k; changes = λ k l x. s.changes k l ((standing_settled k).0 x) };
          uncrossed = standing_uncrossed n;
          settled = (standing_settled n).1 s.settled;
          figures = has_cut n;
        })

    pub arrive_sums : (n : ℕ) (q : Pair) → Arrives whole (standing M ls) n q → SumsArrive ls n
    arrive_sums n q a =
        let b : Arrives cut_off (standing M ls) n q = (cut_off_arrives (standing M ls) n q).0 a in
        record {
          changes = λ k l e. b.runs.changes k l ((standing_settled k).1 e);
          settled = (standing_settled n).0 b.settled;
        }

-- ---- whatever M is
pub standing_never_crosses : (M : ℕ) (ls : List ℕ) (n : ℕ) → FiguresWithin M ls → Crosses whole (standing M ls) n → ⊥
standing_never_crosses M ls n h x = standing_uncrossed M ls h n ((cut_off_crosses (standing M ls) n).0 x).crossed

-- The closure: the ceilings as they were, and the leasts after n rounds of sums.
pub standing_closure : (M : ℕ) (ls : List ℕ) (n : ℕ) (q : Pair) → FiguresWithin M ls → Arrives whole (standing M ls) n q
    → Equal q (standing M (sums_after n ls))
standing_closure M ls n q h a =
    (arrives_once (standing M ls) q (standing M (sums_after n ls)) n n a (sums_arrive M ls h n (arrive_sums M ls h n q a))).1

pub standing_leasts : (M : ℕ) (ls : List ℕ) (n : ℕ) (q : Pair) → FiguresWithin M ls → Arrives whole (standing M ls) n q
    → (d : ℕ) → 1 ≤ d → d ≤ length ls → lower_at q d ≡ figure 0 (sums_after n ls) d
standing_leasts M ls n q h a d u v =
    (standing_closure M ls n q h a).lowers d u (rw (closure_horizon (standing M ls) q n a, standing_horizon M ls) v)

-- With another M the rounds arrive after as many, at the same leasts.
pub standing_arrives : (M M' : ℕ) (ls : List ℕ) (n : ℕ) (q : Pair) → FiguresWithin M ls → FiguresWithin M' ls
    → Arrives whole (standing M ls) n q → Arrives whole (standing M' ls) n (pair_of (table (λ d. d * M') (length ls)) q.lower)
standing_arrives M M' ls n q h h' a =
    let r : Pair = standing M' (sums_after n ls) in
    arrives_equal (standing M' ls) r _ n (sums_arrive M' ls h' n (arrive_sums M ls h n q a))
    (same_by 0 (standing_horizon M' (sums_after n ls) ∙ sums_length n ls ∙ sym (length-table _ (length ls))) (λ d u v. (
      ap (λ m. figure 0 (table (λ e. e * M') m) d) (sums_length n ls),
      sym (standing_leasts M ls n q h a d u (rw (standing_horizon M' (sums_after n ls), sums_length n ls) at v)),
    )))
