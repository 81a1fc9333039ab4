-- What `rendering` says, case by case: refused where a question is the first that is answered no, else the text.
-- Assumes nothing.
use Rattle.laws.proofs.Base.{ℕ, ◌+◌, ◌≤◌, ◌≡◌, refl, le_refl, arith, length, length-append}
use Rattle.curves.specs.Pairs.{horizon}
use Rattle.curves.specs.Unlimited.{AnyPair, curves_of}
use Rattle.curves.specs.Questions.{AllYes, FirstNo}
use Rattle.curves.proofs.Asked.{said_no, said_yes, Positive, no_iff, yes_iff}
use Rattle.bounds.specs.Bounds.{pair_questions}
use Rattle.csv_text.specs.Numbers.{decimal}
use Rattle.csv_text.proofs.Numbers.{decimal_few}
use Rattle.rendering.specs.Rendering.{longest, text_of, refusal_line, refused_rendering, written, rendering}
use Rattle.rendering.specs.Theorems.{RenderingRefused, WrittenIffAllYes, TextFits, RefusalFits}
use Rattle.rendering.proofs.Laws.{text_whole, text_within}

module _ (p : AnyPair) where
  pub refused_is : (n : ℕ) → FirstNo (pair_questions p) n → rendering p ≡ refused_rendering n
  unfolding rendering
  refused_is n f = said_no (pair_questions p) _ refused_rendering n f

  pub written_is : AllYes (pair_questions p) → rendering p ≡ written (text_of p)
  unfolding rendering
  written_is all = said_yes (pair_questions p) _ refused_rendering (written (text_of p)) all (λ ys. refl)

  positive_numbers : Positive (pair_questions p)
  positive_numbers = (omega arith, (omega arith, (omega arith, tt)))

pub rendering_refused : RenderingRefused
unfolding rendering
rendering_refused p = no_iff (pair_questions p) _ refused_rendering (λ x. x.number) (λ k. refl) (λ ys. refl) (positive_numbers p)

pub written_iff_all_yes : WrittenIffAllYes
unfolding rendering
written_iff_all_yes p = yes_iff (pair_questions p) _ refused_rendering (λ x. x.number) (λ k. refl) (λ ys. refl) (positive_numbers p)

pub text_fits : TextFits
text_fits p all = let h = horizon (curves_of p) in rw (text_whole p h refl) (text_within p all h (le_refl h))

-- Eight bytes, the number, two bytes.
refusal-length : (n : ℕ) → length (refusal_line n) ≡ 10 + length (decimal n)
unfolding refusal_line
refusal-length n = simp length-append (omega arith)

pub number_fits : (n : ℕ) → n ≤ 4_294_967_295 → 10 + length (decimal n) ≤ longest
number_fits n h = omega (arith, decimal_few n 10 (omega arith) (omega arith))

pub refusal_fits : RefusalFits
refusal_fits n h = omega (arith, refusal-length n, number_fits n h)
