-- The definitions of specs/ at small examples: each holds by computation. Assumes nothing.
use Rattle.laws.proofs.Base.{◌≡◌, refl, true, [], ◌∷◌, length}
use Rattle.laws.specs.Ranges.{table}
use Rattle.curves.specs.Pairs.{pair_of, figure}
use Rattle.curves.specs.Unlimited.{AnyPair, limited, unlimited}
use Rattle.curves.specs.Ticks.{too_many}
use Rattle.curves.specs.Questions.{result, refusal}
use Rattle.history.specs.States.{view_of}
use Rattle.history.specs.Opening.{fresh}
use Rattle.monitor.specs.Monitoring.{judged}
use Rattle.scripts.specs.Codes.{minus, ruling_code, sending_code}
use Rattle.scripts.specs.Words.{part, history_from, with_held, failed_word, opened_words}

-- At most 3 in one tick and 4 in two, at least 1 in two; and the same without ceilings.
abbrev ceilings : AnyPair
ceilings = limited (pair_of (3 ∷ 4 ∷ []) (0 ∷ 1 ∷ []))

abbrev leasts_alone : AnyPair
leasts_alone = unlimited 2 (0 ∷ 1 ∷ [])

-- What an opening writes: as many words as a generator has, and they spell a stream that has not begun.
as_many : length (opened_words ceilings) ≡ 771
as_many = refl

spelled : view_of (history_from (opened_words ceilings)) ≡ fresh ceilings
unfolding table figure
spelled = refl

spelled_without : view_of (history_from (opened_words leasts_alone)) ≡ fresh leasts_alone
unfolding table figure
spelled_without = refl

-- One tick of 2 is held: its number, it, and the word behind it as it was.
one_held : part 514 3 (with_held (opened_words ceilings) (2 ∷ [])) ≡ 1 ∷ 2 ∷ 0 ∷ []
one_held = refl

held_view : view_of (history_from (with_held (opened_words ceilings) (2 ∷ []))) ≡ record { pair = ceilings; held = 2 ∷ [] }
unfolding table figure
held_view = refl

-- A failed mark is set by 1, and one that is set already stays as it is.
set_by_one : failed_word 0 true ≡ 1
set_by_one = refl

stays_set : failed_word 7 true ≡ 7
stays_set = refl

-- Answers as numbers.
twelve : minus 12 ≡ 18_446_744_073_709_551_604
twelve = refl

too_many_in_three : ruling_code (result (judged (too_many 3))) ≡ 1_003
too_many_in_three = refl

no_count : sending_code (refusal 13) ≡ 4_000_000_013
no_count = refl
