-- The definitions of specs/ at small examples: each holds by computation. Assumes nothing.
use Rattle.laws.proofs.Base.{ℕ, ◌≡◌, refl, true, false, List, [], ◌∷◌, ⊎_map, dec_and, dec_le, dec_lt}
use Rattle.laws.specs.Ranges.{table}
use Rattle.laws.proofs.Search.{every, every?}
use Rattle.laws.proofs.Whole.{less?}
use lib.IntN.{ℤ, pos, negsuc}
use Rattle.curves.specs.Streams.{sum}
use Rattle.curves.specs.Pairs.{Pair, pair_of, figure}
use Rattle.curves.specs.Unlimited.{limited, unlimited, highest}
use Rattle.curves.specs.Ticks.{passed, too_many, too_few}
use Rattle.curves.specs.Margins.{Margin}
use Rattle.curves.specs.Questions.{ask, result, refusal}
use Rattle.curves.proofs.Verdicts.{inside?, judged?, find, rejected, verdict?}
use Rattle.curves.proofs.Margins.{tightest_to, tightest?}
use Rattle.history.specs.States.{View, history_of, legal?}
use Rattle.history.specs.Opening.{fresh}
use Rattle.monitor.specs.Monitoring.{MonitorView, monitor_view, monitor_of, monitor_view_of, legal_monitor?, judging, judged, lost}
use Rattle.monitor.specs.Monitoring.{already_failed}
use Rattle.monitor.specs.Opening.{fresh_monitor}
use Rattle.monitor.specs.Margins.{no_margin, carried}
use Rattle.monitor.specs.Calls.{rulings, margins}

-- Closed curves: closed again they stay as they are.
abbrev pair : Pair
pair = pair_of (2 ∷ 3 ∷ 5 ∷ 5 ∷ []) (0 ∷ 0 ∷ 1 ∷ 3 ∷ [])

-- Held: 2, 1.
abbrev some : View
some = record { pair = limited pair; held = 2 ∷ 1 ∷ [] }

-- As many ticks as the horizon.
abbrev overfull : View
overfull = record { pair = limited pair; held = 2 ∷ 1 ∷ 0 ∷ 2 ∷ [] }

-- A rejected tick is not added, and nothing passes after it.
fails-for-good
    : rulings (monitor_view some pair false) (2 ∷ 3 ∷ 0 ∷ [])
    ≡ result (judged passed) ∷ result (judged (too_many 1)) ∷ result already_failed ∷ []
unfolding rulings judging ask legal_monitor? legal? ⊎_map every every? dec_and dec_le dec_lt figure verdict? find rejected inside? judged? sum
fails-for-good = refl

-- 12 comes before 'already failed', for as many held ticks as the horizon and for closed figures above the limit.
overfull_first : judging (monitor_view overfull pair true) 0 ≡ refusal 12
unfolding judging ask legal_monitor? legal? ⊎_map every every? dec_and dec_le dec_lt figure
overfull_first = refl

closed_limit_first : judging (monitor_view some (pair_of (2 ∷ 3 ∷ 5 ∷ 5 ∷ []) (0 ∷ 0 ∷ 1 ∷ 16_776_961 ∷ [])) true) 0 ≡ refusal 12
unfolding judging ask legal_monitor? legal? ⊎_map every every? dec_and dec_le dec_lt figure
closed_limit_first = refl

-- The published triples, and their closure: one message a tick. Without one the stream is lost, although no window of the pair as given
-- is broken; with four it has too many, which goes before.
abbrev published : MonitorView
published =
    monitor_view (fresh (limited (pair_of (3 ∷ 6 ∷ 3 ∷ 12 ∷ 9 ∷ []) (0 ∷ 0 ∷ 0 ∷ 0 ∷ 5 ∷ []))))
    (pair_of (1 ∷ 2 ∷ 3 ∷ 4 ∷ 5 ∷ []) (1 ∷ 2 ∷ 3 ∷ 4 ∷ 5 ∷ [])) false

lost_at_once : rulings published (1 ∷ 0 ∷ 1 ∷ []) ≡ result (judged passed) ∷ result lost ∷ result already_failed ∷ []
unfolding rulings judging ask legal_monitor? legal? ⊎_map every every? dec_and dec_le dec_lt figure verdict? find rejected inside? judged? sum
lost_at_once = refl

too_many_first : judging published 4 ≡ result (judged (too_many 1))
unfolding judging ask legal_monitor? legal? ⊎_map every every? dec_and dec_le dec_lt figure verdict? find rejected inside? judged? sum
too_many_first = refl

-- In a state that no opening made the closed figures may be the looser ones: then nothing is lost, and those given decide.
abbrev looser : MonitorView
looser = monitor_view some (pair_of (9 ∷ 9 ∷ 9 ∷ 9 ∷ []) (0 ∷ 0 ∷ 0 ∷ 0 ∷ [])) false

looser-passes
    : rulings looser (0 ∷ 0 ∷ 0 ∷ []) ≡ result (judged passed) ∷ result (judged passed) ∷ result (judged (too_few 3)) ∷ []
unfolding rulings judging ask legal_monitor? legal? ⊎_map every every? dec_and dec_le dec_lt figure verdict? find rejected inside? judged? sum
looser-passes = refl

-- ---- margins
-- The window of d ticks has the margin z.
abbrev has : ℕ → ℤ → Margin
has d z = record { value = z; window = d }

-- The run of README: the margin falls to 0, and then it is negative, the smallest being that of the window of three ticks.
abbrev falling : MonitorView
falling = let p : Pair = pair_of (10 ∷ 16 ∷ 20 ∷ []) (0 ∷ 2 ∷ 4 ∷ []) in monitor_view (fresh (limited p)) p false

falls
    : margins falling (5 ∷ 6 ∷ 6 ∷ 7 ∷ 7 ∷ 12 ∷ 1 ∷ [])
    ≡ has 1 (pos 5) ∷ has 1 (pos 4) ∷ has 3 (pos 3) ∷ has 3 (pos 1) ∷ has 3 (pos 0) ∷ has 3 (negsuc 5) ∷ no_margin ∷ []
unfolding margins carried tightest? tightest_to less?
    judging ask legal_monitor? legal? ⊎_map every every? dec_and dec_le dec_lt figure verdict? find rejected inside? judged? sum
falls = refl

-- A lost tick has the margin of the figures as given, on whose limit it is; the closed ones are broken.
lost_on_limit : margins published (1 ∷ 0 ∷ 1 ∷ []) ≡ has 1 (pos 1) ∷ has 1 (pos 0) ∷ no_margin ∷ []
unfolding margins carried tightest? tightest_to less?
    judging ask legal_monitor? legal? ⊎_map every every? dec_and dec_le dec_lt figure verdict? find rejected inside? judged? sum
lost_on_limit = refl

-- Windows with the same margin: the shortest is named.
shorter_named : carried (monitor_view some pair false) 1 ≡ has 1 (pos 1)
unfolding carried tightest? tightest_to less? ask legal_monitor? legal? ⊎_map every every? dec_and dec_le dec_lt figure judged? sum
shorter_named = refl

-- A state that fails 12 has no margin.
overfull_nothing : carried (monitor_view overfull pair false) 0 ≡ no_margin
unfolding carried ask legal_monitor? legal? ⊎_map every every? dec_and dec_le dec_lt figure
overfull_nothing = refl

-- ---- without ceilings
-- The largest count passes again and again, and the only verdict on a window outside is 'too few'.
abbrev sporadic : MonitorView
sporadic = fresh_monitor (unlimited 3 (0 ∷ 2 ∷ 3 ∷ []))

passes-any
    : rulings sporadic (4_294_967_295 ∷ 4_294_967_295 ∷ 4_294_967_295 ∷ 0 ∷ 0 ∷ [])
    ≡ result (judged passed) ∷ result (judged passed) ∷ result (judged passed) ∷ result (judged passed) ∷ result (judged (too_few 2)) ∷ []
unfolding rulings judging ask legal_monitor? legal? ⊎_map every every? dec_and dec_le dec_lt figure verdict? find rejected inside? judged? sum
    highest table
passes-any = refl

-- The margin is the sum minus the least.
sum-minus-least
    : margins sporadic (4_294_967_295 ∷ 3 ∷ 0 ∷ 0 ∷ 1 ∷ [])
    ≡ has 1 (pos 4_294_967_295) ∷ has 1 (pos 3) ∷ has 1 (pos 0) ∷ has 2 (negsuc 1) ∷ no_margin ∷ []
unfolding margins carried tightest? tightest_to less?
    judging ask legal_monitor? legal? ⊎_map every every? dec_and dec_le dec_lt figure verdict? find rejected inside? judged? sum
    highest table
sum-minus-least = refl

-- What stands in its state for ceilings and for closed figures has no effect: the view is the same.
unclosed : (ceilings us ls xs : List ℕ)
    → monitor_view_of (monitor_of (history_of 3 ceilings (0 ∷ 2 ∷ 3 ∷ []) true 0 xs) us ls false) ≡ sporadic
unfolding table figure
unclosed ceilings us ls xs = refl
