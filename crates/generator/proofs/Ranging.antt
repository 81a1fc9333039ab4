-- Laws over plain variables for the counts that the next tick can have: what a turn of the loop keeps, and what the range answers.
-- Assumes nothing.
use Rattle.std.specs.Prelude.{Option, Some, None, Result, Ok, Err}
use Rattle.std.specs.Option.{ok_or}
use Rattle.laws.proofs.Base.{ℕ, suc, ◌+◌, ◌-◌, ◌*◌, ◌≤◌, ◌<◌, min, max, ◌≡◌, refl, sym, ap, ◌∙◌, subst, Bool, true, false, ◌↔◌}
use Rattle.laws.proofs.Base.{List, ◌++◌, take, drop, le_refl, add-one, arith, length, get_or}
use Rattle.curves.specs.Streams.{count_limit}
use Rattle.curves.specs.Pairs.{Pair, figure}
use Rattle.curves.specs.Unlimited.{with_mark, curves_of}
use Rattle.curves.specs.Conformance.{Inside}
use Rattle.curves.specs.Ticks.{then, last}
use Rattle.curves.specs.Questions.{result}
use Rattle.curves.proofs.Highest.{highest_at}
use Rattle.curves.proofs.NextTick.{last_none, last_more, length-then, last_next}
use Rattle.curves.proofs.Verdicts.{KeptTo, kept_none, kept_more}
use Rattle.bounds.specs.Bounds.{max_horizon, figure_limit}
use Rattle.lists.specs.Pushing.{Pushed}
use Rattle.history.specs.declared.History.{History}
use Rattle.history.specs.States.{View, Legal, view_of, history_of}
use Rattle.history.specs.Steps.{Slices, view_with}
use Rattle.history.proofs.Histories.{legal_sizes}
use Rattle.history.proofs.Slicing.{Arrays, judged-next, added_is}
use Rattle.generator.specs.declared.Generator.{Generator}
use Rattle.generator.specs.declared.Admissible.{Admissible}
use Rattle.generator.specs.declared.SendingRefusal.{SendingRefusal}
use Rattle.generator.specs.declared.SendingRefusal.TheVariants as refuses
use Rattle.generator.specs.Generating.{ranging, sending}
use Rattle.generator.specs.Promises.{GeneratorTicked}
use Rattle.generator.specs.Answers.{range_reply, sending_reply}
use Rattle.generator.specs.Steps.{Keeping, Limited, sum_limit, lowered_to, Shows}
use Rattle.generator.proofs.Said.{range_answer, ranging_none, ranging_range, ranging_from, count_limited}
use Rattle.generator.proofs.Said.{sendable_iff, sent_from_lem}

-- ---- one window
-- What a window with the ceiling u, of whose ticks those before the next one have the sum s, leaves of an end; by the pair's mark.
abbrev lowered_by : Bool → ℕ → ℕ → ℕ → ℕ
lowered_by true end u s = end
lowered_by false end u s = min end (u + 1 - s)

-- With the ceiling u the sum is not above it, where there are ceilings.
abbrev Below : Bool → ℕ → ℕ → Type 0
Below true u s = Unit {0}
Below false u s = s ≤ u

lowered_iff : (b : Bool) (end u s x : ℕ) → (x < lowered_by b end u s) ↔ ((x < end) × Below b u (s + x))
lowered_iff true end u s x = ((λ l. (l, tt)), λ l. l.0)
lowered_iff false end u s x = ((λ l. (omega arith, omega arith)), λ l. omega (arith, l.0, l.1))

-- With the limit of sums added to a limit of the counts, and with what the sum leaves of it in place of the sum, it comes to the same.
raised_rest : (lo l r : ℕ) → r ≤ sum_limit → max lo (l + r) - sum_limit ≡ max (lo - sum_limit) (l - (sum_limit - r))
raised_rest lo l r h = omega arith

lowered_rest : (b : Bool) (hi u r : ℕ) → r ≤ sum_limit
    → lowered_to b hi u r - (sum_limit - 1) ≡ lowered_by b (hi - (sum_limit - 1)) u (sum_limit - r)
lowered_rest true hi u r h = refl
lowered_rest false hi u r h = omega arith

lowered_small : (b : Bool) (hi u r : ℕ) → lowered_to b hi u r ≤ hi
lowered_small true hi u r = le_refl hi
lowered_small false hi u r = omega arith

-- The figures of d + 1 ticks are the entries with index d.
inside_iff : (us ls : List ℕ) (b : Bool) (d s : ℕ) → d < length us → s ≤ (d + 1) * count_limit
    → Inside (curves_of (with_mark us ls b)) (suc d) s ↔ ((get_or ls d 0 ≤ s) × Below b (get_or us d 0) s)
unfolding figure
inside_iff us ls true d s l c = (
  (λ i. (omega (arith, i.1), tt)),
  (λ h. ((λ q. omega (arith, q, highest_at (length us) (suc d) (omega arith) l)), (λ q. omega (arith, h.0)))),
)
inside_iff us ls false d s l c =
    ((λ i. (omega (arith, i.1), omega (arith, i.0))), (λ h. ((λ q. omega (arith, h.1)), (λ q. omega (arith, h.0)))))

module _ (us ls : List ℕ) (b : Bool) (xs : List ℕ) where
  abbrev p : Pair
  p = curves_of (with_mark us ls b)

  -- After the turn for the window of d + 1 ticks: s is the sum of the last d, and the counts up to the limit with which every window
  -- up to that one keeps its figures are those from lo to before end.
  pub record Narrowed (lo end s d : ℕ) : Type 0 where
    pub held : d ≤ length xs
    pub summed : s ≡ last xs d
    pub counts : (x : ℕ) → (KeptTo p (then xs x) (suc d) × (x ≤ figure_limit)) ↔ ((lo ≤ x) × (x < end))

  -- The loop has them with the limit of sums added, the largest count in place of the end, and what the sum leaves of that limit.
  pub record Rested (lo hi r d : ℕ) : Type 0 where
    pub most : r ≤ sum_limit
    pub least : sum_limit ≤ r + d * count_limit
    pub small : hi ≤ figure_limit + sum_limit
    pub narrowed : Narrowed (lo - sum_limit) (hi - (sum_limit - 1)) (sum_limit - r) d

  module _ (S : Slices us ls xs) where
    -- With the count x, the window of d + 1 ticks, of which those before have the sum s, keeps its figures.
    abbrev Holds : ℕ → ℕ → ℕ → Type 0
    Holds x s d = (get_or ls d 0 ≤ s + x) × Below b (get_or us d 0) (s + x)

    kept_iff : (x s d : ℕ) → d ≤ length xs → s ≡ last xs d → s ≤ d * count_limit → x ≤ figure_limit
        → KeptTo p (then xs x) (suc d) ↔ (KeptTo p (then xs x) d × Holds x s d)
    kept_iff x s d h e c l = (there, λ k. kept_more p (then xs x) d k.0 (λ j. rw sums (inside.1 k.1)))
      where
        inside : Inside p (suc d) (s + x) ↔ Holds x s d
        inside = inside_iff us ls b d (s + x) (omega (arith, S.fewer)) (omega arith)

        sums : last (then xs x) (suc d) ≡ s + x
        sums = omega (arith, last_next xs x d h)

        there : KeptTo p (then xs x) (suc d) → KeptTo p (then xs x) d × Holds x s d
        there k =
            let i = k (suc d) (le_refl (suc d)) (judged-next us ls xs b x d S h) in
            ((λ e l j. k e (omega arith) j), inside.0 (rw sums at i))

    -- The window of the next tick alone gives the first limits.
    narrowed_once : (end : ℕ) → end ≡ lowered_by b (suc figure_limit) (get_or us 0 0) 0 → Narrowed (get_or ls 0 0) end 0 0
    narrowed_once end e =
        record { held = omega arith; summed = omega (arith, last_none xs); counts = λ x. rw e (there x, back x) }
      where
        first : (x : ℕ) → x ≤ figure_limit → KeptTo p (then xs x) 1 ↔ (KeptTo p (then xs x) 0 × Holds x 0 0)
        first x l = kept_iff x 0 0 (omega arith) (omega (arith, last_none xs)) (omega arith) l

        there : (x : ℕ) → KeptTo p (then xs x) 1 × (x ≤ figure_limit)
            → (get_or ls 0 0 ≤ x) × (x < lowered_by b (suc figure_limit) (get_or us 0 0) 0)
        there x (k, l) =
            let (n, a) = (first x l).0 k in (omega (arith, a.0), (lowered_iff b _ _ 0 x).1 (omega arith, a.1))

        back : (x : ℕ) → (get_or ls 0 0 ≤ x) × (x < lowered_by b (suc figure_limit) (get_or us 0 0) 0)
            → KeptTo p (then xs x) 1 × (x ≤ figure_limit)
        back x (u, v) =
            let (l, m) = (lowered_iff b _ _ 0 x).0 v in
            ((first x (omega arith)).1 (kept_none p (then xs x), (omega arith, m)), omega arith)

    module _ (lo end s d lo' end' : ℕ) (N : Narrowed lo end s d) (h : d < length xs) where
      abbrev s' : ℕ
      s' = s + get_or xs (length xs - 1 - d) 0

      summed_more : s' ≡ last xs (suc d)
      summed_more = omega (arith, N.summed, last_more xs d h)

      more : s' ≤ suc d * count_limit → lo' ≡ max lo (get_or ls (suc d) 0 - s') → end' ≡ lowered_by b end (get_or us (suc d) 0) s'
          → Narrowed lo' end' s' (suc d)
      more c p₁ p₂ = record { held = omega arith; summed = summed_more; counts = λ x. rw p₂ (there x, back x) }
        where
          next : (x : ℕ) → x ≤ figure_limit → KeptTo p (then xs x) (suc (suc d)) ↔ (KeptTo p (then xs x) (suc d) × Holds x s' (suc d))
          next x l = kept_iff x s' (suc d) h summed_more c l

          there : (x : ℕ) → KeptTo p (then xs x) (suc (suc d)) × (x ≤ figure_limit)
              → (lo' ≤ x) × (x < lowered_by b end (get_or us (suc d) 0) s')
          there x (k, l) =
              let (n, a) = (next x l).0 k in
              let (u, v) = (N.counts x).0 (n, l) in
              (omega (arith, a.0), (lowered_iff b _ _ _ x).1 (v, a.1))

          back : (x : ℕ) → (lo' ≤ x) × (x < lowered_by b end (get_or us (suc d) 0) s')
              → KeptTo p (then xs x) (suc (suc d)) × (x ≤ figure_limit)
          back x (u, v) =
              let (e, m) = (lowered_iff b _ _ _ x).0 v in
              let (k, l) = (N.counts x).1 (omega arith, e) in
              ((next x l).1 (k, (omega arith, m)), l)

      -- A turn: cut off at 0, the differences of the next figures and the sum narrow the limits.
      narrowed_more
          : s' ≤ (d + 1) * count_limit → lo' ≡ max lo (get_or ls (d + 1) 0 - s') → end' ≡ lowered_by b end (get_or us (d + 1) 0) s'
          → Narrowed lo' end' s' (d + 1)
      narrowed_more c p₁ p₂ =
          rw (add-one d)
          (more (omega arith) (omega (arith, ap (λ k. get_or ls k 0) (add-one d)))
          (p₂ ∙ ap (λ k. lowered_by b end (get_or us k 0) s') (add-one d)))

    pub rested_once
        : (lo hi : ℕ) → lo ≡ get_or ls 0 0 + sum_limit → hi ≡ lowered_to b (figure_limit + sum_limit) (get_or us 0 0) sum_limit
        → Rested lo hi sum_limit 0
    rested_once lo hi p₁ p₂ =
        let first : lo - sum_limit ≡ get_or ls 0 0 = omega arith in
        record {
          most = le_refl sum_limit;
          least = omega arith;
          small = omega (arith, p₂, lowered_small b (figure_limit + sum_limit) (get_or us 0 0) sum_limit);
          narrowed =
              rw first
              (narrowed_once (hi - (sum_limit - 1))
              (ap (λ k. k - (sum_limit - 1)) p₂ ∙ lowered_rest b _ (get_or us 0 0) sum_limit (le_refl sum_limit)));
        }

    -- One window more: t is the tick that its sum has and the one before has not. There are too few ticks for a sum above the limit.
    rested_more
        : (lo hi r d t lo' hi' : ℕ) → Rested lo hi r d → d < length xs → t ≡ get_or xs (length xs - 1 - d) 0 → t ≤ count_limit
        → lo' ≡ max lo (get_or ls (d + 1) 0 + (r - t)) → hi' ≡ lowered_to b hi (get_or us (d + 1) 0) (r - t)
        → Rested lo' hi' (r - t) (d + 1)
    rested_more lo hi r d t lo' hi' R h e c p₁ p₂ =
        let few : length xs < length us = S.fewer in
        let fits : length us ≤ max_horizon = S.within in
        let l : t ≤ r = omega arith in
        let same : sum_limit - r + get_or xs (length xs - 1 - d) 0 ≡ sum_limit - (r - t) = omega arith in
        let less : r - t ≤ sum_limit = omega arith in
        record {
          most = less;
          least = omega arith;
          small = omega (arith, p₂, lowered_small b hi (get_or us (d + 1) 0) (r - t));
          narrowed =
              subst (λ s. Narrowed (lo' - sum_limit) (hi' - (sum_limit - 1)) s (d + 1)) same
              (narrowed_more (lo - sum_limit) (hi - (sum_limit - 1)) (sum_limit - r) d _ _ R.narrowed h (rw same (omega arith))
              (rw same (ap (λ k. k - sum_limit) p₁ ∙ raised_rest lo (get_or ls (d + 1) 0) (r - t) less))
              (rw same (ap (λ k. k - (sum_limit - 1)) p₂ ∙ lowered_rest b hi (get_or us (d + 1) 0) (r - t) less)));
        }

    -- A turn: two windows more, with the ticks t and t'. It takes off both at once.
    pub rested_twice
        : (lo hi r turn t t' lo' hi' : ℕ) → Rested lo hi r (2 * turn) → 2 * turn + 1 < length xs
        → t ≡ get_or xs (length xs - 2 * turn - 1) 0 → t' ≡ get_or xs (length xs - 2 * turn - 2) 0
        → t ≤ count_limit → t' ≤ count_limit
        → lo' ≡ max (max lo (get_or ls (2 * turn + 1) 0 + (r - (t + t') + t'))) (get_or ls (2 * turn + 1 + 1) 0 + (r - (t + t')))
        → hi'
        ≡ lowered_to b (lowered_to b hi (get_or us (2 * turn + 1) 0) (r - (t + t') + t')) (get_or us (2 * turn + 1 + 1) 0) (r - (t + t'))
        → Rested lo' hi' (r - (t + t')) (2 * (turn + 1))
    rested_twice lo hi r turn t t' lo' hi' R h e e' c c' p₁ p₂ =
        let d : ℕ = 2 * turn in
        let few : length xs < length us = S.fewer in
        let fits : length us ≤ max_horizon = S.within in
        let off : r - t - t' ≡ r - (t + t') = omega arith in
        let one : r - (t + t') + t' ≡ r - t = omega (arith, R.least) in
        let next : d + 1 + 1 ≡ 2 * (turn + 1) = omega arith in
        let newer : t ≡ get_or xs (length xs - 1 - d) 0 = e ∙ ap (λ k. get_or xs k 0) (omega arith) in
        let older : t' ≡ get_or xs (length xs - 1 - (d + 1)) 0 = e' ∙ ap (λ k. get_or xs k 0) (omega arith) in
        let first = rested_more lo hi r d t _ _ R (omega arith) newer c refl refl in
        let least : ℕ → ℕ → ℕ = λ k s. max (max lo (get_or ls (d + 1) 0 + k)) (get_or ls (d + 1 + 1) 0 + s) in
        let most : ℕ → ℕ → ℕ = λ k s. lowered_to b (lowered_to b hi (get_or us (d + 1) 0) k) (get_or us (d + 1 + 1) 0) s in
        let both =
        rested_more _ _ (r - t) (d + 1) t' lo' hi' first h older c'
        (p₁ ∙ (λ i. least (one i) (sym off i)))
        (p₂ ∙ (λ i. most (one i) (sym off i))) in
        subst (Rested lo' hi' (r - (t + t'))) next (subst (λ s. Rested lo' hi' s (d + 1 + 1)) off both)

    -- The last window, where a turn has no other.
    pub rested_last
        : (lo hi r d t lo' hi' : ℕ) → Rested lo hi r d → d + 1 ≡ length xs → t ≡ get_or xs 0 0 → t ≤ count_limit
        → lo' ≡ max lo (get_or ls (length xs) 0 + (r - t)) → hi' ≡ lowered_to b hi (get_or us (length xs) 0) (r - t)
        → Rested lo' hi' (r - t) (length xs)
    rested_last lo hi r d t lo' hi' R e q c p₁ p₂ =
        subst (Rested lo' hi' (r - t)) e
        (rested_more lo hi r d t lo' hi' R (omega arith) (q ∙ ap (λ k. get_or xs k 0) (omega arith)) c
        (p₁ ∙ ap (λ k. max lo (get_or ls k 0 + (r - t))) (sym e))
        (p₂ ∙ ap (λ k. lowered_to b hi (get_or us k 0) (r - t)) (sym e)))

  -- There is no window left: what is shown are the counts that will do.
  module _ (lo end s d : ℕ) (N : Narrowed lo end s d) (h : length xs ≤ d) where
    narrowed_whole : (x : ℕ) → Keeping (view_with us ls b xs) x ↔ ((lo ≤ x) × (x < end))
    narrowed_whole x = ((λ k. (N.counts x).0 ((λ e l j. k.0 e j), k.1)), back)
      where
        back : (lo ≤ x) × (x < end) → Keeping (view_with us ls b xs) x
        back r =
            let (k, l) = (N.counts x).1 r in
            ((λ e j. k e (let b : e ≤ length (then xs x) = j.begun in omega (arith, h, length-then xs x)) j), l)

    pub narrowed_shown : (r : Option Admissible) → Shows lo end r → Limited (view_with us ls b xs) r
    narrowed_shown (Some a) (some, is-lo, is-hi) = (omega arith, λ x. (there x, back x))
      where
        there : (x : ℕ) → Keeping (view_with us ls b xs) x → (a.lo ≤ x) × (x ≤ a.hi)
        there x k = let (u, v) = (narrowed_whole x).0 k in (omega (arith, is-lo), omega (arith, is-hi))

        back : (x : ℕ) → (a.lo ≤ x) × (x ≤ a.hi) → Keeping (view_with us ls b xs) x
        back x (u, v) = (narrowed_whole x).1 (omega (arith, is-lo), omega (arith, is-hi))
    narrowed_shown None none = λ x k. let (u, v) = (narrowed_whole x).0 k in omega arith

-- ---- what the range answers, and the count that a choice leads to
-- What is shown of the counts is what the range answers.
pub limited_range : (v : View) → Legal v → (r : Option Admissible) → Limited v r → range_reply (ok_or r refuses.NoCount) ≡ ranging v
limited_range v l (Some a) (some, same) =
    sym (ranging_range v l (record {
      lo = a.lo;
      hi = a.hi;
      lo_keeps = (sendable_iff v l a.lo).1 ((same a.lo).1 (le_refl a.lo, some));
      hi_keeps = (sendable_iff v l a.hi).1 ((same a.hi).1 (some, le_refl a.hi));
      smallest = λ x k. ((same x).0 ((sendable_iff v l x).0 k)).0;
      largest = λ x k. ((same x).0 ((sendable_iff v l x).0 k)).1;
    }))
limited_range v l None none = sym (ranging_none v l (λ r. none r.lo ((sendable_iff v l r.lo).0 r.lo_keeps)))

-- A range that is shown has a count, and none above the limit.
pub range_sizes : (v : View) (a : Admissible) → range_reply (Ok a) ≡ ranging v → (a.lo ≤ a.hi) × (a.hi ≤ figure_limit)
range_sizes v a e =
    let (l, shown) = ranging_from v (range_answer a.lo a.hi) (sym e) in
    let (r, is) = shown in
    let lo : r.lo ≡ a.lo = ap (λ b. b.lo) is in
    let hi : r.hi ≡ a.hi = ap (λ b. b.hi) is in
    (omega (arith, r.smallest r.hi r.hi_keeps), omega (arith, count_limited v l r.hi r.hi_keeps))

-- ---- the next state
-- A count is sent only where the state has its form.
pub sent_legal : (v : View) (choice x : ℕ) → result x ≡ sending v choice → Legal v
sent_legal v choice x e =
    let (b, shown, is) = sent_from_lem v choice x (sym e) in (ranging_from v b shown).0

-- The next state is the one given with other held ticks: with the count behind them, or where none is sent with the same.
module _ (g : Generator) (choice n : ℕ) (xs : List ℕ) (s : Result ℕ SendingRefusal) (told : sending_reply s ≡ sending (view_of g.history) choice) where
  abbrev h : History
  h = g.history

  abbrev next : Generator
  next = record { history = history_of h.horizon h.upper h.lower h.unlimited n xs }

  pub sent_next : (a : Arrays h) (x m : ℕ) (left : List ℕ) → s ≡ Ok x → Pushed (take (h.horizon - 1) h.ticks) h.held x left m
      → xs ≡ left ++ drop (h.horizon - 1) h.ticks → n ≡ m → GeneratorTicked g choice (record { sending = s; next = next })
  sent_next a x m left is p ticks many =
      let l : Legal (view_of h) = sent_legal (view_of h) choice x (ap sending_reply (sym is) ∙ told) in
      record { answer = told; next = rw (← told, is, ticks, many) (added_is h a (legal_sizes h l) x left m p) }

  pub kept_next : (e : SendingRefusal) → s ≡ Err e → xs ≡ h.ticks → n ≡ h.held → GeneratorTicked g choice (record { sending = s; next = next })
  kept_next e is ticks many =
      record {
        answer = told;
        next = rw (← told, is) (λ i. record { history = history_of h.horizon h.upper h.lower h.unlimited (many i) (ticks i) });
      }
