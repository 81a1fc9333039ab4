-- The unbounded streams that conform to a text's pair are those that keep its constraints. Assumes nothing.
use Rattle.laws.proofs.Base.{ℕ, zero, suc, ◌+◌, ◌*◌, ◌≤◌, min, ◌≡◌, refl, sym, ap, ◌∙◌, subst, List, [], ◌∷◌, ◌↔◌, ⊎_elim, ℕ_discrete}
use Rattle.laws.proofs.Base.{le_refl, le_trans, arith, length}
use native.Mathlib.Nat.{mul-le-mul, suc-mul}
use lib.ListN.{length-map}
use Rattle.laws.specs.Ranges.{table}
use Rattle.laws.specs.Tests.{Each}
use Rattle.laws.proofs.Table.{length-table, get_or-table}
use Rattle.laws.proofs.Tests.{each_map, each_both}
use Rattle.curves.specs.Streams.{Stream, sum}
use Rattle.curves.specs.Pairs.{Pair, pair_of, figure, FiguresWithin}
use Rattle.curves.specs.Unlimited.{AnyPair, unlimited, curves_of}
use Rattle.curves.specs.Conformance.{Conforms∞}
use Rattle.curves.specs.Questions.{AllYes, ask}
use Rattle.curves.proofs.Highest.{length-highest}
use Rattle.curves.proofs.Unlimited.{leasts_alone}
use Rattle.bounds.specs.Bounds.{max_horizon, figure_limit, pair_questions}
use Rattle.csv_text.specs.Text.{Bytes}
use Rattle.csv_text.specs.Records.{Most, none, up_to, or_else, MostWithin, Constraint, message_limit, InRange}
use Rattle.constraints.specs.Reading.{later, constraints, record_questions, reading_questions, reading}
use Rattle.constraints.specs.Theorems.{GivesPair, TextPairPasses, SatisfiesIffConforms, HorizonWithin}
use Rattle.constraints.specs.Constraints.{named, largest_window, smaller_most, smallest_most, least_for, ceiling_for, filled_by, filled}
use Rattle.constraints.specs.Constraints.{AtMost, Satisfies}
use Rattle.constraints.proofs.Said.{refused_is, pair_iff_all_yes, gives_asked, given_is_text_pair}
use Rattle.constraints.proofs.Named.{named_first, named_next, named_own, named_or_not, in_range, window_largest, largest_some}
use Rattle.constraints.proofs.Named.{largest_bound, smallest_bound}

-- ---- a tick, and a window, by the smallest most
tick_most : (s : ℕ → ℕ) (i d : ℕ) → 1 ≤ d → s i ≤ sum s i d
unfolding sum
tick_most s i zero h = absurd (omega arith)
tick_most s i (suc zero) h = let e : i + 0 ≡ i = omega arith in omega (arith, ap s e)
tick_most s i (suc (suc d)) h = omega (arith, tick_most s i (suc d) (omega arith))

-- A sum that keeps two mosts keeps the smaller, and what is no larger keeps it too.
smaller_kept : (x : ℕ) (a b : Most) → AtMost x a → AtMost x b → AtMost x (smaller_most a b)
smaller_kept x none b p q = q
smaller_kept x (up_to m) none p q = p
smaller_kept x (up_to m) (up_to n) p q = omega arith

less_kept : (x y : ℕ) (a : Most) → x ≤ y → AtMost y a → AtMost x a
less_kept x y none l p = tt
less_kept x y (up_to m) l p = omega arith

small_ticks : (s : ℕ → ℕ) (i : ℕ) (cs : List Constraint) → Each InRange cs → Each (Satisfies s) cs → AtMost (s i) (smallest_most cs)
small_ticks s i [] ok ks = tt
small_ticks s i (c ∷ cs) ok ks =
    smaller_kept (s i) c.most (smallest_most cs)
    (less_kept (s i) _ c.most (tick_most s i c.window ok.0.some) (ks.0 i).1)
    (small_ticks s i cs ok.1 ks.1)

window_smallest : (s : ℕ → ℕ) (m i d : ℕ) → ((k : ℕ) → s k ≤ m) → sum s i d ≤ d * m
unfolding sum
window_smallest s m i zero h = omega arith
window_smallest s m i (suc d) h = omega (arith, window_smallest s m i d h, h (i + d), suc-mul d m)

-- ---- the figures of a table
table_figure : (f : ℕ → ℕ) (h d : ℕ) → 1 ≤ d → d ≤ h → figure 0 (table f h) d ≡ f d
unfolding figure
table_figure f h zero p q = absurd (omega arith)
table_figure f h (suc d) p q = get_or-table f h d 0 q

table_within : (n : ℕ) (f : ℕ → ℕ) (h : ℕ) → ((d : ℕ) → d ≤ h → f d ≤ n) → FiguresWithin n (table f h)
table_within n f h b d p q =
    let within : d ≤ h = rw length-table at q in
    rw (table_figure f h d p within) (b d within)

-- ---- mosts, where they may be missing
-- A sum keeps a most exactly where it keeps the ceiling that is put for it, if it keeps the one that is filled.
else_kept : (x n : ℕ) (a : Most) → x ≤ n → AtMost x a → x ≤ or_else n a
else_kept x n none l p = l
else_kept x n (up_to m) l p = p

kept_else : (x n : ℕ) (a : Most) → x ≤ or_else n a → AtMost x a
kept_else x n none p = tt
kept_else x n (up_to m) p = p

else_within : (n : ℕ) (a : Most) → n ≤ figure_limit → MostWithin message_limit a → or_else n a ≤ figure_limit
else_within n none l p = l
else_within n (up_to m) l p = omega arith

-- Where none is the smallest, there is none.
none_given : (cs : List Constraint) → smallest_most cs ≡ none → Each (λ c. c.most ≡ none) cs
none_given [] e = tt
none_given (c ∷ cs) e = let (p, q) = parts c.most (smallest_most cs) e in (p, none_given cs q)
  where
    parts : (a b : Most) → smaller_most a b ≡ none → (a ≡ none) × (b ≡ none)
    parts none b e = (refl, e)
    parts (up_to m) none e = absurd (omega (arith, ap (or_else (suc m)) e))
    parts (up_to m) (up_to n) e = absurd (omega (arith, ap (or_else (suc (min m n))) e))

-- ---- the pair of constraints that were asked
-- What holds of none, and of the most of each constraint for a window, holds of the most that is named for it.
named_holds : (P : Most → Type 0) (cs : List Constraint) (d : ℕ) → P none → Each (λ c. c.window ≡ d → P c.most) cs
    → P (named (λ c. c.most) none cs d)
named_holds P [] d p ps = unfold named in p
named_holds P (c ∷ cs) d p ps =
    elim (ℕ_discrete c.window d) [
      | yes e ↦ rw (named_first (λ x. x.most) none c cs d e) (ps.0 e)
      | no e ↦ rw (named_next (λ x. x.most) none c cs d e) (named_holds P cs d p ps.1)
    ]

-- What `TextPairPasses` says of a pair.
abbrev Passes : AnyPair → Type 0
Passes p = AllYes (pair_questions p) × FiguresWithin message_limit (curves_of p).lower

module _ (cs : List Constraint) (ok : Each InRange cs) where
  abbrev longest : ℕ
  longest = largest_window cs

  abbrev most_named : ℕ → Most
  most_named d = named (λ c. c.most) none cs d

  abbrev leasts : List ℕ
  leasts = table (least_for cs) longest

  -- What a stream that satisfies the constraints has in a window of d ticks.
  module _ (s : ℕ → ℕ) (ks : Each (Satisfies s) cs) (i d : ℕ) where
    has_least : least_for cs d ≤ sum s i d
    has_least =
        ⊎_elim
        (λ f. let all = ap (sum s i) f.2 in omega (arith, (f.1 i).0, f.3 (λ c. c.least) 0))
        (λ f. omega (arith, f (λ c. c.least) 0))
        (named_or_not (Satisfies s) cs d ks)

    has_most : AtMost (sum s i d) (most_named d)
    has_most =
        named_holds (AtMost (sum s i d)) cs d tt
        (each_map (Satisfies s) _ cs (λ c k e. subst (λ (w : ℕ). AtMost (sum s i w) c.most) e (k i).1) ks)

  -- Each constraint is in range, and is the one that is named for its window.
  abbrev Own : Constraint → Type 0
  Own c = (InRange c × (c.window ≤ longest)) × ((most_named c.window ≡ c.most) × (least_for cs c.window ≡ c.least))

  -- With ceilings, where the smallest most is m.
  module _ (m : ℕ) (small : smallest_most cs ≡ up_to m) where
    abbrev ceilings : List ℕ
    ceilings = table (ceiling_for m cs) longest

    keeps_conforms : (s : ℕ → ℕ) → Each (Satisfies s) cs → Conforms∞ (pair_of ceilings leasts) s
    keeps_conforms s ks i d p q =
        let q' : d ≤ longest = rw length-table at q in
        let upper = table_figure (ceiling_for m cs) longest d p q' in
        let lower = table_figure (least_for cs) longest d p q' in
        let ticks : (k : ℕ) → s k ≤ m = λ k. subst (AtMost (s k)) small (small_ticks s k cs ok ks) in
        let most = else_kept (sum s i d) (d * m) (most_named d) (window_smallest s m i d ticks) (has_most s ks i d) in
        (λ l. omega arith, λ l. omega (arith, has_least s ks i d))

    conforms_keeps : (s : ℕ → ℕ) → Each Own cs → Conforms∞ (pair_of ceilings leasts) s → Each (Satisfies s) cs
    conforms_keeps s own k =
        each_map Own (Satisfies s) cs
        (λ c e i.
        let w = c.window in
        let upper = table_figure (ceiling_for m cs) longest w e.0.0.some e.0.1 in
        let lower = table_figure (least_for cs) longest w e.0.0.some e.0.1 in
        let inside = k i w e.0.0.some (rw length-table e.0.1) in
        let below : sum s i w ≤ or_else (w * m) (most_named w) = omega arith in
        let own : sum s i w ≤ or_else (w * m) c.most = subst (λ (x : Most). sum s i w ≤ or_else (w * m) x) e.1.0 below in
        (omega (arith, e.1.1), kept_else (sum s i w) (w * m) c.most own))
        own

  -- Without.
  module _ (s : Stream) where
    keeps_leasts : Each (Satisfies s.counts) cs → Conforms∞ (curves_of (unlimited longest leasts)) s.counts
    keeps_leasts ks =
        (leasts_alone longest leasts s).1
        (λ i d p q. rw (table_figure (least_for cs) longest d p q) (has_least s.counts ks i d))

    leasts_keep : Each (λ c. c.most ≡ none) cs → Each Own cs → Conforms∞ (curves_of (unlimited longest leasts)) s.counts
        → Each (Satisfies s.counts) cs
    leasts_keep without own k =
        each_map (λ c. (c.most ≡ none) × Own c) (Satisfies s.counts) cs
        (λ c (n, e) i.
        let lower = table_figure (least_for cs) longest c.window e.0.0.some e.0.1 in
        let least = (leasts_alone longest leasts s).0 k i c.window e.0.0.some e.0.1 in
        (omega (arith, e.1.1), rw n tt))
        (each_both _ _ cs without own)

  filled_iff : Each Own cs → (s : Stream) → Each (Satisfies s.counts) cs ↔ Conforms∞ (curves_of (filled longest cs)) s.counts
  filled_iff own s = go (smallest_most cs) refl
    where
      go : (x : Most) → smallest_most cs ≡ x → Each (Satisfies s.counts) cs ↔ Conforms∞ (curves_of (filled_by x longest cs)) s.counts
      go none e = (keeps_leasts s, leasts_keep s (none_given cs e) own)
      go (up_to m) e = (keeps_conforms m e s.counts, conforms_keeps m e s.counts own)

  -- It passes the questions on a pair.
  least_within : (d : ℕ) → least_for cs d ≤ message_limit
  least_within d =
      ⊎_elim
      (λ f. omega (arith, f.3 (λ c. c.least) 0, f.1.least))
      (λ f. omega (arith, f (λ c. c.least) 0))
      (named_or_not InRange cs d ok)

  ceiling_within : (m d : ℕ) → m ≤ message_limit → d ≤ max_horizon → ceiling_for m cs d ≤ figure_limit
  ceiling_within m d l q =
      else_within (d * m) (most_named d) (mul-le-mul q l)
      (named_holds (MostWithin message_limit) cs d tt (each_map InRange _ cs (λ c r e. r.most) ok))

  module _ (some : 1 ≤ length cs) where
    span : (1 ≤ longest) × (longest ≤ max_horizon)
    span = (largest_some cs ok some, largest_bound cs ok)

    lowers : (n : ℕ) → message_limit ≤ n → FiguresWithin n leasts
    lowers n l = table_within n (least_for cs) longest (λ d q. le_trans (least_within d) l)

    filled_passes : (x : Most) → MostWithin message_limit x → Passes (filled_by x longest cs)
    filled_passes none b =
        let long = length-highest longest in (
          ((omega (arith, span.0), omega (arith, span.1)), (length-table _ _ ∙ sym long, (lowers figure_limit (omega arith), tt))),
          lowers message_limit (le_refl message_limit),
        )
    filled_passes (up_to m) b =
        let long = length-table (ceiling_for m cs) longest in
        let uppers = table_within figure_limit (ceiling_for m cs) longest (λ d q. ceiling_within m d b (le_trans q span.1)) in (
          (
            (omega (arith, span.0), omega (arith, span.1)),
            (length-table _ _ ∙ sym long, ((uppers, lowers figure_limit (omega arith)), tt)),
          ),
          lowers message_limit (le_refl message_limit),
        )

-- ---- the statements
module _ (t : Bytes) (found : Pair) (g : GivesPair t found) where
  sound : AllYes (record_questions [] (later t))
  sound = (gives_asked t found g).0

  ranges : Each InRange (constraints t)
  ranges = in_range [] (later t) sound

  some_constraint : 1 ≤ length (constraints t)
  some_constraint = simp length-map (gives_asked t found g).1

  all_own : Each (Own (constraints t) ranges) (constraints t)
  all_own =
      each_both _ _ (constraints t)
      (each_both _ _ (constraints t) ranges (window_largest (constraints t)))
      (each_both _ _ (constraints t)
      (named_own (λ c. c.most) (λ d. none) [] (later t) sound)
      (named_own (λ c. c.least) (λ d. 0) [] (later t) sound))

pub satisfies_iff_conforms : SatisfiesIffConforms
satisfies_iff_conforms t found g s =
    subst (λ (p : AnyPair). Each (Satisfies s.counts) (constraints t) ↔ Conforms∞ (curves_of p) s.counts)
    (sym (given_is_text_pair t found g).1)
    (filled_iff (constraints t) (ranges t found g) (all_own t found g) s)

pub text_pair_passes : TextPairPasses
text_pair_passes t found g =
    let cs = constraints t in
    subst Passes (sym (given_is_text_pair t found g).1)
    (filled_passes cs (ranges t found g) (some_constraint t found g) (smallest_most cs) (smallest_bound cs (ranges t found g)))

-- ---- the horizon
-- What is answered for it is within the limit.
pub read_within : (t : Bytes) (found : Pair) (h : ℕ) → h ≡ (reading t found).horizon → h ≤ max_horizon
read_within t found h e =
    ⊎_elim
    (λ ys.
    let g = (pair_iff_all_yes t found).1 ys in
    let bound = largest_bound (constraints t) (in_range [] (later t) (gives_asked t found g).0) in
    omega (arith, (given_is_text_pair t found g).0, bound))
    (λ f. omega (arith, ap (λ a. a.horizon) (refused_is t found f.0 f.1)))
    (ask (reading_questions t found))

pub horizon_within : HorizonWithin
horizon_within t found = read_within t found (reading t found).horizon refl
