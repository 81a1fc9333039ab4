-- What feeding a list is answered: at each place, in pieces, and as far as it passes. Assumes nothing.
use Rattle.laws.proofs.Base.{ℕ, zero, suc, ◌+◌, ◌<◌, ◌≡◌, refl, sym, ap, ◌∙◌, false, cond, List, [], ◌∷◌}
use Rattle.laws.proofs.Base.{map, arith, inl, length, get_or, take, drop}
use lib.ListN.{length-map, get_or-map}
use Rattle.std.specs.Prelude.{Result, Ok, Err, IsErr, MatchResult}
use Rattle.curves.specs.Ticks.{passed, too_many, too_few}
use Rattle.curves.specs.Questions.{Reply, result, refusal}
use Rattle.curves.proofs.Asked.{said_yes, said_no}
use Rattle.monitor.specs.Monitoring.{MonitorView, monitor_view_of, Ruling, judged, lost, already_failed}
use Rattle.monitor.specs.Calls.{after_tick, after_ticks, rulings}
use Rattle.history.specs.declared.BadState.{BadState}
use Rattle.scripts.specs.Answers.{counted}
use Rattle.scripts.specs.Codes.{minus, ruling_code}
use Rattle.scripts.specs.Words.{monitor_from, LegalMonitorWords}
use Rattle.scripts.proofs.Pieces.{rulings-length}
use Rattle.preview.specs.Preview.{pass, is_pass, leading_passes, answer_behind, previewed, preview_of}
use Rattle.preview.specs.Theorems.{fed_at}
use Rattle.preview.specs.Steps.{LeadingZeros}

-- ---- one answer
-- It is a pass exactly where its number is 0.
pub zero_is_pass : (r : Reply Ruling) → ruling_code r ≡ 0 → r ≡ pass
zero_is_pass (result (judged passed)) e = refl
zero_is_pass (result (judged (too_many d))) e = absurd (omega arith)
zero_is_pass (result (judged (too_few d))) e = absurd (omega arith)
zero_is_pass (result lost) e = absurd (omega arith)
zero_is_pass (result already_failed) e = absurd (omega arith)
zero_is_pass (refusal n) e = absurd (omega arith)

no_pass : (r : Reply Ruling) → 0 < ruling_code r → is_pass r ≡ false
no_pass (result (judged passed)) h = absurd (omega arith)
no_pass (result (judged (too_many d))) h = refl
no_pass (result (judged (too_few d))) h = refl
no_pass (result lost) h = refl
no_pass (result already_failed) h = refl
no_pass (refusal n) h = refl

-- ---- the first that is no pass
-- Entries behind the first.
later : (v : ℕ) (vs : List ℕ) (n : ℕ) → LeadingZeros (v ∷ vs) (suc n) → LeadingZeros vs n
later v vs n z =
    record {
      within = omega (arith, z.within);
      before = λ i h. z.before (suc i) (omega arith);
      behind = λ h. z.behind (omega arith);
    }

pub first_is : (rs : List (Reply Ruling)) (n : ℕ) → LeadingZeros (map ruling_code rs) n → leading_passes rs ≡ n
unfolding leading_passes
first_is [] n z = omega (arith, z.within)
first_is (r ∷ rs) zero z = ap (λ b. cond b (suc (leading_passes rs)) 0) (no_pass r (z.behind (omega arith)))
first_is (r ∷ rs) (suc n) z =
    ap (λ r. cond (is_pass r) (suc (leading_passes rs)) 0) (zero_is_pass r (z.before 0 (omega arith)))
    ∙ ap suc (first_is rs n (later (ruling_code r) (map ruling_code rs) n z))

-- And as many as are counted are 0.
none_leading : (v : ℕ) (vs : List ℕ) → 0 < v → LeadingZeros (v ∷ vs) 0
none_leading v vs h = record { within = omega arith; before = λ i l. absurd (omega arith); behind = λ l. h }

one_more : (v : ℕ) (vs : List ℕ) (n : ℕ) → v ≡ 0 → LeadingZeros vs n → LeadingZeros (v ∷ vs) (suc n)
one_more v vs n e z =
    record { within = omega (arith, z.within); before = before; behind = λ h. z.behind (omega arith) }
  where
    before : (i : ℕ) → i < suc n → get_or (v ∷ vs) i 0 ≡ 0
    before zero h = e
    before (suc i) h = z.before i (omega arith)

pub leading_first : (rs : List (Reply Ruling)) → LeadingZeros (map ruling_code rs) (leading_passes rs)
unfolding leading_passes
leading_first [] = record { within = omega arith; before = λ i h. absurd (omega arith); behind = λ h. absurd (omega arith) }
leading_first (result (judged passed) ∷ rs) = one_more 0 (map ruling_code rs) (leading_passes rs) refl (leading_first rs)
leading_first (result (judged (too_many d)) ∷ rs) = none_leading _ (map ruling_code rs) (omega arith)
leading_first (result (judged (too_few d)) ∷ rs) = none_leading _ (map ruling_code rs) (omega arith)
leading_first (result lost ∷ rs) = none_leading _ (map ruling_code rs) (omega arith)
leading_first (result already_failed ∷ rs) = none_leading _ (map ruling_code rs) (omega arith)
leading_first (refusal n ∷ rs) = none_leading _ (map ruling_code rs) (omega arith)

-- ---- lists
-- What feeding a list is answered, as numbers.
abbrev pub codes : MonitorView → List ℕ → List ℕ
codes w xs = map ruling_code (rulings w xs)

pub codes_length : (w : MonitorView) (xs : List ℕ) → length (codes w xs) ≡ length xs
codes_length w xs = length-map (rulings w xs) ruling_code ∙ rulings-length w xs

-- The answer at a place is that to its tick in the state that those before it leave.
fed_at_lem : (w : MonitorView) (xs : List ℕ) (k : ℕ) → k < length xs → get_or (rulings w xs) k pass ≡ fed_at w xs k
unfolding rulings after_ticks
fed_at_lem w [] k h = absurd (omega arith)
fed_at_lem w (x ∷ xs) zero h = refl
fed_at_lem w (x ∷ xs) (suc k) h = fed_at_lem (after_tick w x) xs k (omega arith)

pub code_at : (w : MonitorView) (xs : List ℕ) (k : ℕ) → k < length xs → get_or (codes w xs) k 0 ≡ ruling_code (fed_at w xs k)
code_at w xs k h = get_or-map ruling_code (rulings w xs) k pass ∙ ap ruling_code (fed_at_lem w xs k h)

-- Of the first n ticks the answers are the first n.
pub codes_take : (w : MonitorView) (xs : List ℕ) (n k : ℕ) → k < n → get_or (codes w (take n xs)) k 0 ≡ get_or (codes w xs) k 0
unfolding rulings
codes_take w xs zero k h = absurd (omega arith)
codes_take w [] (suc n) k h = refl
codes_take w (x ∷ xs) (suc n) zero h = refl
codes_take w (x ∷ xs) (suc n) (suc k) h = codes_take (after_tick w x) xs n k (omega arith)

-- And of those behind them they are the others.
pub codes_drop : (w : MonitorView) (xs : List ℕ) (n k : ℕ)
    → get_or (codes (after_ticks w (take n xs)) (drop n xs)) k 0 ≡ get_or (codes w xs) (n + k) 0
unfolding rulings after_ticks
codes_drop w xs zero k = ap (λ j. get_or (codes w xs) j 0) (omega arith)
codes_drop w [] (suc n) k = refl
codes_drop w (x ∷ xs) (suc n) k =
    let e : suc (n + k) ≡ suc n + k = omega arith in
    codes_drop (after_tick w x) xs n k ∙ ap (λ j. get_or (codes w (x ∷ xs)) j 0) e

-- ---- the preview
pub preview_bad : (ws xs : List ℕ) (found : ℕ) → ¬ LegalMonitorWords ws → preview_of ws xs found ≡ previewed (minus 12) found
unfolding preview_of
preview_bad ws xs found n = said_no _ _ _ 12 (inl (refl, n))

twelve : (r : Result ℕ BadState) → IsErr r → counted r ≡ minus 12
twelve (Ok n) e = cc
twelve (Err b) e = refl

-- A refusal is one of words that are no state.
pub refused_legal : {L : Type 0} (r : Result ℕ BadState) → IsErr r → ¬ L → MatchResult r (λ _. L) (λ _. ¬ L)
refused_legal (Ok n) e h = absurd (cc)
refused_legal (Err x) e h = h

pub refused_as : (ws xs : List ℕ) (found v : ℕ) (r : Result ℕ BadState) → IsErr r → v ≡ found → ¬ LegalMonitorWords ws
    → previewed (counted r) v ≡ preview_of ws xs found
refused_as ws xs found v r e same n = (λ i. previewed (twelve r e i) (same i)) ∙ sym (preview_bad ws xs found n)

pub preview_legal : (ws xs : List ℕ) (found : ℕ) → LegalMonitorWords ws → let rs = rulings (monitor_view_of (monitor_from ws)) xs in
    preview_of ws xs found ≡ previewed (leading_passes rs) (ruling_code (answer_behind rs))
unfolding preview_of
preview_legal ws xs found l = said_yes _ _ _ _ (l, tt) (λ ys. refl)

-- Of the answers to a list that many are passes, from the first on, and v is the number of the one behind them.
pub record Tried (w : MonitorView) (xs : List ℕ) (n v : ℕ) : Type 0 where
  pub leading : LeadingZeros (codes w xs) n
  pub there : v ≡ get_or (codes w xs) n 0

-- That is what is promised.
pub tried_is : (ws xs : List ℕ) (found n v : ℕ) → LegalMonitorWords ws → Tried (monitor_view_of (monitor_from ws)) xs n v
    → previewed n v ≡ preview_of ws xs found
tried_is ws xs found n v l t =
    sym (preview_legal ws xs found l
    ∙ (λ i. previewed (first i) (ruling_code (get_or rs (first i) pass)))
    ∙ ap (previewed n) (sym (get_or-map ruling_code rs n pass) ∙ sym t.there))
  where
    rs : List (Reply Ruling)
    rs = rulings (monitor_view_of (monitor_from ws)) xs

    first : leading_passes rs ≡ n
    first = first_is rs n t.leading
