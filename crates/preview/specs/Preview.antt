-- Request P11, trying a list of counts: what is shown comes from the answers that feeding them to a copy of the monitor would get.
use Rattle.std.specs.Prelude.{ℕ, suc, Bool, true, false, cond, List, [], ◌∷◌, get_or}
use Rattle.curves.specs.Ticks.{passed, too_many, too_few}
use Rattle.curves.specs.Questions.{Reply, result, refusal, answer_to}
use Rattle.monitor.specs.Monitoring.{Ruling, judged, lost, already_failed, monitor_view_of}
use Rattle.monitor.specs.Calls.{rulings}
use Rattle.scripts.specs.Codes.{minus, ruling_code}
use Rattle.scripts.specs.Words.{monitor_from, monitor_question12}

-- The answer to a tick that passes. Every other verdict rejects its tick; a legal state never answers with a refusal.
abbrev pub pass : Reply Ruling
pass = result (judged passed)

abbrev pub is_pass : Reply Ruling → Bool
is_pass (result (judged passed)) = true
is_pass (result (judged (too_many d))) = false
is_pass (result (judged (too_few d))) = false
is_pass (result lost) = false
is_pass (result already_failed) = false
is_pass (refusal n) = false

-- How many answers of a list are passes, from the first on: the place of the first tick that is rejected, or the number of all.
unfoldable pub leading_passes : List (Reply Ruling) → ℕ
leading_passes [] = 0
leading_passes (r ∷ rs) = cond (is_pass r) (suc (leading_passes rs)) 0

-- The answer behind them, which is that to the first rejected tick; a pass, where there is none.
abbrev pub answer_behind : List (Reply Ruling) → Reply Ruling
answer_behind rs = get_or rs (leading_passes rs) pass

-- ---- as numbers
pub record Previewed : Type 0 where
  -- How many counts pass, from the first on, or 12 with a minus sign.
  pub answer : ℕ
  -- The verdict on the next, or 0, that of a pass, where there is none.
  pub verdict : ℕ

abbrev pub previewed : ℕ → ℕ → Previewed
previewed r v = record { answer = r; verdict = v }

-- 12 is asked first, whatever the list; where it is answered no, the number that is lent for the verdict stays as found. Else both come
-- from `rulings`.
unfoldable pub preview_of : List ℕ → List ℕ → ℕ → Previewed
preview_of ws xs found =
    answer_to (monitor_question12 ws ∷ [])
    (λ _.
    let answers = rulings (monitor_view_of (monitor_from ws)) xs in previewed (leading_passes answers) (ruling_code (answer_behind answers)))
    (λ n. previewed (minus n) found)
