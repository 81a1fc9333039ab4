-- What is said of previews. Assumes nothing.
use Rattle.laws.proofs.Base.{ℕ, ◌≤◌, ◌<◌, ◌≡◌, sym, ap, ◌∙◌, subst, subst⁻¹, List, ◌↔◌, inl, inr, arith, length, get_or, dec_lt, take_all, []}
use lib.IntN.{ℤ}
use lib.ListN.{get_or-map, get_or-eq_default}
use Rattle.laws.proofs.Copying.{over_whole}
use Rattle.curves.specs.Questions.{Reply}
use Rattle.monitor.specs.Monitoring.{MonitorView, monitor_view_of, Ruling}
use Rattle.monitor.specs.Calls.{rulings}
use Rattle.scripts.specs.Codes.{minus, ruling_code}
use Rattle.scripts.specs.Words.{monitor_from, LegalMonitorWords}
use Rattle.scripts.specs.Scripts.{Judged, judged_all}
use Rattle.scripts.proofs.Given.{judged_legal}
use Rattle.preview.specs.Preview.{pass, leading_passes, Previewed, previewed, preview_of}
use Rattle.preview.specs.Theorems.{fed_at, verdicts_of, NamesFirstRejected, AllPassIffFed, NamesFirstOfRun, AllPassIffRun}
use Rattle.preview.specs.Theorems.{AllPassOrOneNamed, RefusedIffNoState, EmptyPasses}
use Rattle.preview.specs.Steps.{LeadingZeros}
use Rattle.preview.proofs.Fed.{codes, zero_is_pass, leading_first, codes_length, code_at, Tried, preview_bad}
use Rattle.preview.proofs.Fed.{preview_legal, tried_is}

-- ---- a preview, and the answers as numbers
-- It is the number of those that are 0, from the first on, and the one behind them.
module _ (ws xs : List ℕ) (found n v : ℕ) (l : LegalMonitorWords ws) where
  abbrev w : MonitorView
  w = monitor_view_of (monitor_from ws)

  pub is_tried : preview_of ws xs found ≡ previewed n v → Tried w xs n v
  is_tried e =
      record {
        leading = subst (LeadingZeros (codes w xs)) number (leading_first (rulings w xs));
        there =
            sym (ap (λ (a : Previewed). a.verdict) both) ∙ sym (get_or-map ruling_code (rulings w xs) (leading_passes (rulings w xs)) pass)
            ∙ ap (λ k. get_or (codes w xs) k 0) number;
      }
    where
      both : previewed (leading_passes (rulings w xs)) (ruling_code (get_or (rulings w xs) (leading_passes (rulings w xs)) pass)) ≡ previewed n v
      both = sym (preview_legal ws xs found l) ∙ e

      number : leading_passes (rulings w xs) ≡ n
      number = ap (λ (a : Previewed). a.answer) both

-- Of a verdict that is not 0: those before it are.
first_iff : (ws xs : List ℕ) (found k v : ℕ) → LegalMonitorWords ws → 0 < v → let cs = codes (monitor_view_of (monitor_from ws)) xs in
    (preview_of ws xs found ≡ previewed k v) ↔ (((i : ℕ) → i < k → get_or cs i 0 ≡ 0) × (get_or cs k 0 ≡ v))
first_iff ws xs found k v l p = (
  (λ e. let t = is_tried ws xs found k v l e in (t.leading.before, sym t.there)),
  (λ z. sym (tried_is ws xs found k v l record {
    leading = record { within = inside z; before = z.0; behind = λ h. omega (arith, z.1) };
    there = sym z.1;
  })),
)
  where
    cs : List ℕ
    cs = codes (monitor_view_of (monitor_from ws)) xs

    inside : ((i : ℕ) → i < k → get_or cs i 0 ≡ 0) × (get_or cs k 0 ≡ v) → k ≤ length cs
    inside z =
        elim (dec_lt k (length cs)) [
          | yes h ↦ omega arith
          | no h ↦ absurd (omega (arith, z.1, get_or-eq_default cs 0 {n = k} (omega arith)))
        ]

-- All of them are.
all_iff : (ws xs : List ℕ) (found : ℕ) → LegalMonitorWords ws → let cs = codes (monitor_view_of (monitor_from ws)) xs in
    (preview_of ws xs found ≡ previewed (length xs) 0) ↔ ((i : ℕ) → i < length xs → get_or cs i 0 ≡ 0)
all_iff ws xs found l = (
  (λ e. (is_tried ws xs found (length xs) 0 l e).leading.before),
  (λ z. sym (tried_is ws xs found (length xs) 0 l record {
    leading = record { within = omega (arith, many); before = z; behind = λ h. absurd (omega (arith, many)) };
    there = sym (get_or-eq_default (codes (monitor_view_of (monitor_from ws)) xs) 0 {n = length xs} (omega (arith, many)));
  })),
)
  where
    many : length (codes (monitor_view_of (monitor_from ws)) xs) ≡ length xs
    many = codes_length (monitor_view_of (monitor_from ws)) xs

-- ---- tick by tick
-- The answer at a place is a pass exactly where its number is 0.
passes_at : (w : MonitorView) (xs : List ℕ) (i : ℕ) → i < length xs → (get_or (codes w xs) i 0 ≡ 0) ↔ (fed_at w xs i ≡ pass)
passes_at w xs i h = (
  (λ e. zero_is_pass (fed_at w xs i) (sym (code_at w xs i h) ∙ e)),
  (λ e. code_at w xs i h ∙ ap ruling_code e),
)

pub names_first_rejected : NamesFirstRejected
names_first_rejected ws xs found k v l = (
  (λ h. let z = (first_iff ws xs found k v l h.1).0 h.0 in
      let within = inside z.1 h.1 in
      record {
        within = within;
        before = λ i g. (passes_at w xs i (omega arith)).0 (z.0 i g);
        there = sym (code_at w xs k within) ∙ z.1;
        no_pass = h.1;
      }),
  (λ t. (
    (first_iff ws xs found k v l t.no_pass).1 (
      (λ i h. (passes_at w xs i (omega (arith, t.within))).1 (t.before i h)),
      code_at w xs k t.within ∙ t.there,
    ),
    t.no_pass,
  )),
)
  where
    w : MonitorView
    w = monitor_view_of (monitor_from ws)

    inside : get_or (codes w xs) k 0 ≡ v → 0 < v → k < length xs
    inside e p =
        elim (dec_lt k (length xs)) [
          | yes h ↦ h
          | no h ↦ absurd (omega (arith, e, get_or-eq_default (codes w xs) 0 {n = k} (omega (arith, codes_length w xs))))
        ]

pub all_pass_iff_fed : AllPassIffFed
all_pass_iff_fed ws xs found l =
    let w = monitor_view_of (monitor_from ws) in (
      (λ e i h. (passes_at w xs i h).0 ((all_iff ws xs found l).0 e i h)),
      (λ z. (all_iff ws xs found l).1 (λ i h. (passes_at w xs i h).1 (z i h))),
    )

pub all_pass_or_one_named : AllPassOrOneNamed
all_pass_or_one_named ws xs found l =
    elim (dec_lt n (length xs)) [
      | yes h ↦ inr (n, v, omega (arith, (leading_first rs).behind (omega (arith, many)), code), both)
      | no h ↦
          let e : n ≡ length xs = omega (arith, (leading_first rs).within, many) in
          let z : v ≡ 0 = sym code ∙ get_or-eq_default cs 0 {n = n} (omega (arith, many)) in
          inl (both ∙ (λ i. previewed (e i) (z i)))
    ]
  where
    rs : List (Reply Ruling)
    rs = rulings (monitor_view_of (monitor_from ws)) xs

    cs : List ℕ
    cs = codes (monitor_view_of (monitor_from ws)) xs

    n : ℕ
    n = leading_passes rs

    v : ℕ
    v = ruling_code (get_or rs n pass)

    many : length cs ≡ length xs
    many = codes_length (monitor_view_of (monitor_from ws)) xs

    code : get_or cs n 0 ≡ v
    code = get_or-map ruling_code rs n pass

    both : preview_of ws xs found ≡ previewed n v
    both = preview_legal ws xs found l

-- ---- by a run
run_verdicts : (ws xs vs : List ℕ) (ms : List ℤ) → LegalMonitorWords ws → length vs ≡ length xs
    → codes (monitor_view_of (monitor_from ws)) xs ≡ verdicts_of ws xs vs ms
run_verdicts ws xs vs ms l e =
    let w = monitor_view_of (monitor_from ws) in
    sym (ap (λ ys. verdicts_left ys) (take_all (length vs) xs (omega arith))
    ∙ ap (λ (a : Judged). a.verdicts) (judged_legal ws xs vs ms l)
    ∙ over_whole (codes w xs) vs (e ∙ sym (codes_length w xs)))
  where
    verdicts_left : List ℕ → List ℕ
    verdicts_left ys = (judged_all ws ys vs ms).verdicts

pub names_first_of_run : NamesFirstOfRun
names_first_of_run ws xs vs ms found k v l e p =
    subst (λ cs. (preview_of ws xs found ≡ previewed k v) ↔ (((i : ℕ) → i < k → get_or cs i 0 ≡ 0) × (get_or cs k 0 ≡ v)))
    (run_verdicts ws xs vs ms l e) (first_iff ws xs found k v l p)

pub all_pass_iff_run : AllPassIffRun
all_pass_iff_run ws xs vs ms found l e =
    subst (λ cs. (preview_of ws xs found ≡ previewed (length xs) 0) ↔ ((i : ℕ) → i < length xs → get_or cs i 0 ≡ 0))
    (run_verdicts ws xs vs ms l e) (all_iff ws xs found l)

-- ---- refused, or not
past_none : (ws xs : List ℕ) (found : ℕ) → LegalMonitorWords ws → (preview_of ws xs found).answer ≤ length xs
past_none ws xs found l =
    let w = monitor_view_of (monitor_from ws) in
    subst⁻¹ (λ (a : Previewed). a.answer ≤ length xs) (preview_legal ws xs found l)
    (omega (arith, (leading_first (rulings w xs)).within, codes_length w xs))

pub refused_iff_no_state : RefusedIffNoState
refused_iff_no_state ws xs found short = (
  (λ e l. let twelve : (preview_of ws xs found).answer ≡ minus 12 = ap (λ (a : Previewed). a.answer) e in
      omega (arith, short, twelve, past_none ws xs found l)),
  preview_bad ws xs found,
)

pub empty_passes : EmptyPasses
unfolding rulings leading_passes
empty_passes ws found l = preview_legal ws [] found l
