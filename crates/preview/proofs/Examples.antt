-- The definitions of specs/ at small examples: each holds by computation. Assumes nothing.
use Rattle.laws.proofs.Base.{ℕ, ◌≡◌, refl, List, [], ◌∷◌, ◌++◌, set, ⊎_map, dec_and, dec_le, dec_lt, ℕ_discrete}
use Rattle.laws.specs.Ranges.{table}
use Rattle.laws.proofs.Search.{every, every?}
use Rattle.curves.specs.Streams.{sum}
use Rattle.curves.specs.Pairs.{pair_of, figure}
use Rattle.curves.specs.Unlimited.{AnyPair, limited}
use Rattle.curves.specs.Ticks.{too_many}
use Rattle.curves.specs.Questions.{ask, result}
use Rattle.curves.proofs.Verdicts.{inside?, judged?, find, rejected, verdict?}
use Rattle.history.specs.States.{legal?}
use Rattle.monitor.specs.Monitoring.{judged, already_failed, judging, legal_monitor?}
use Rattle.monitor.specs.Calls.{rulings}
use Rattle.scripts.specs.Codes.{minus}
use Rattle.scripts.specs.Words.{opened_words, closed_words}
use Rattle.preview.specs.Preview.{pass, leading_passes, answer_behind, previewed, preview_of}

-- The place of the first that is rejected, counted from 0, and what is answered there; those behind it do not count.
first_of_many : leading_passes (pass ∷ pass ∷ result (judged (too_many 3)) ∷ result already_failed ∷ []) ≡ 2
unfolding leading_passes
first_of_many = refl

answer_there : answer_behind (pass ∷ pass ∷ result (judged (too_many 3)) ∷ result already_failed ∷ []) ≡ result (judged (too_many 3))
unfolding leading_passes
answer_there = refl

-- The published triples with their closure: one message a tick.
abbrev published : AnyPair
published = limited (pair_of (3 ∷ 6 ∷ 3 ∷ 12 ∷ 9 ∷ []) (0 ∷ 0 ∷ 0 ∷ 0 ∷ 5 ∷ []))

abbrev monitor : List ℕ
monitor = opened_words published ++ closed_words published (pair_of (1 ∷ 2 ∷ 3 ∷ 4 ∷ 5 ∷ []) (1 ∷ 2 ∷ 3 ∷ 4 ∷ 5 ∷ []))

-- The same, failed.
abbrev failed : List ℕ
failed = set monitor 1_283 1

-- A stream of ones passes. A tick without one is lost, and its place is named; four are too many in one tick. An empty list passes, on a
-- monitor that has failed too, which rejects a list of one at place 0.
shown
    : (preview_of monitor (1 ∷ 1 ∷ 1 ∷ []) 7 ≡ previewed 3 0) × (preview_of monitor (1 ∷ 0 ∷ 9 ∷ []) 7 ≡ previewed 1 4_000)
    × (preview_of monitor (4 ∷ []) 7 ≡ previewed 0 1_001) × (preview_of monitor [] 7 ≡ previewed 0 0)
    × (preview_of failed [] 7 ≡ previewed 0 0) × (preview_of failed (1 ∷ []) 7 ≡ previewed 0 3_000)
unfolding preview_of leading_passes rulings judging ask legal_monitor? legal? ⊎_map every every? dec_and dec_le dec_lt ℕ_discrete figure
    verdict? find rejected inside? judged? sum table
shown = (refl, refl, refl, refl, refl, refl)

-- 12 comes for an empty list, too, and the verdict stays as found: of a horizon of 0, and of a generator's words.
refused
    : (preview_of (set monitor 0 0) [] 7 ≡ previewed (minus 12) 7) × (preview_of (opened_words published) [] 7 ≡ previewed (minus 12) 7)
unfolding preview_of ask legal_monitor? legal? ⊎_map every every? dec_and dec_le dec_lt ℕ_discrete figure table
refused = (refl, refl)
