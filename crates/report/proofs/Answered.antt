-- What a step's answer leads to, by its result. Assumes nothing.
use Rattle.std.specs.Prelude.{Ok, Err}
use Rattle.laws.proofs.Base.{ℕ, ◌≡◌, refl, sym, ap, ◌∙◌, Bool}
use Rattle.curves.specs.Pairs.{Pair}
use Rattle.curves.specs.Unlimited.{AnyPair}
use Rattle.bounds.specs.declared.PairRefusal.{PairRefusal}
use Rattle.bounds.specs.declared.PairRefusal.TheVariants.{UpperLength, LowerLength, FigureLimit}
use Rattle.bounds.specs.Answers.{pair_refusal_number}
use Rattle.closure.specs.declared.ClosingRefusal.{ClosingRefusal}
use Rattle.closure.specs.declared.ClosingRefusal.TheVariants as closing-refusal
use Rattle.closure.specs.Closing.{ClosingAnswer, closing}
use Rattle.closure.specs.Answers.{closing_refusal_number, closing_answer}
use Rattle.csv_text.specs.Text.{Bytes}
use Rattle.constraints.specs.declared.ReadingRefusal.{ReadingRefusal}
use Rattle.constraints.specs.declared.ReadingRefusal.TheVariants as reading-refusal
use Rattle.constraints.specs.Reading.{ReadingAnswer, reading}
use Rattle.constraints.specs.Answers.{reading_refusal_number, reading_answer}
use Rattle.rendering.specs.declared.write.Text.{Text}
use Rattle.rendering.specs.Rendering.{RenderingAnswer, refusal_line, written, rendering}
use Rattle.rendering.specs.Answers.{rendering_answer}
use Rattle.rendering.proofs.Said.{written_is, written_iff_all_yes}
use Rattle.report.specs.Report.{zero_lists, first_marked, after_rendering, after_closing, after_reading, output}
use Rattle.report.proofs.Said.{rendered_is}

-- A refusal leads to its line.
pub rendering_refused : (r : PairRefusal) → after_rendering (rendering_answer (Err r)) ≡ refusal_line (pair_refusal_number r)
rendering_refused UpperLength = refl
rendering_refused LowerLength = refl
rendering_refused FigureLimit = refl

pub closing_refused : (r : ClosingRefusal) (h : ℕ) (left : Pair)
    → after_closing h (closing_answer (Err r) left) ≡ refusal_line (closing_refusal_number r)
closing_refused (closing-refusal.Pair UpperLength) h left = refl
closing_refused (closing-refusal.Pair LowerLength) h left = refl
closing_refused (closing-refusal.Pair FigureLimit) h left = refl
closing_refused closing-refusal.ResultLength h left = refl
closing_refused closing-refusal.NoClosure h left = refl

pub reading_refused : (r : ReadingRefusal) (left : Pair)
    → after_reading (reading_answer (Err r) left) ≡ refusal_line (reading_refusal_number r)
reading_refused reading-refusal.HeaderLine left = refl
reading_refused reading-refusal.RecordForm left = refl
reading_refused reading-refusal.FigureRange left = refl
reading_refused reading-refusal.WindowAgain left = refl
reading_refused reading-refusal.NoRecord left = refl
reading_refused reading-refusal.ResultLength left = refl

-- What each step's answer leads to is the output, where what the one before led to is.
module _ (t : Bytes) where
  pub output_read : (a : ReadingAnswer) → a ≡ reading t zero_lists → after_reading a ≡ output t
  unfolding output
  output_read a e = ap after_reading e

  pub output_closed : (h : ℕ) (read : Pair) (mark : Bool) (p : AnyPair) (a : ClosingAnswer)
      → after_closing h (closing (first_marked h read mark) zero_lists) ≡ output t → p ≡ first_marked h read mark
      → a ≡ closing p zero_lists → after_closing h a ≡ output t
  output_closed h read mark p a o f e = ap (after_closing h) (e ∙ ap (λ x. closing x zero_lists) f) ∙ o

  pub output_rendered : (h : ℕ) (closed : Pair) (mark : Bool) (p : AnyPair) (a : RenderingAnswer)
      → after_rendering (rendering (first_marked h closed mark)) ≡ output t → p ≡ first_marked h closed mark
      → a ≡ rendering p → after_rendering a ≡ output t
  output_rendered h closed mark p a o f e = ap after_rendering (e ∙ ap rendering f) ∙ o

-- A text leads to itself, where a pair is rendered.
pub text_shown : (p : AnyPair) (x : Text) → rendering_answer (Ok x) ≡ rendering p
    → rendering_answer (Ok x) ≡ written (after_rendering (rendering_answer (Ok x)))
text_shown p x e =
    let ok = (written_iff_all_yes p).0 (ap (λ a. a.number) (sym e)) in
    e ∙ written_is p ok ∙ ap written (sym (rendered_is p ok) ∙ ap after_rendering (sym e))
