-- What a text has become once more is written behind it, over plain values. Assumes nothing.
use Rattle.std.specs.Prelude.{Ok}
use Rattle.laws.proofs.Base.{◌+◌, ◌≤◌, ◌≡◌, sym, ap, ◌∙◌, ◌++◌, zero-add, arith, length, replicate, length-append}
use Rattle.laws.specs.Writing.{Wrote}
use Rattle.laws.proofs.Writing.{wrote_more, sets_copies}
use Rattle.csv_text.specs.Text.{Bytes}
use Rattle.rendering.specs.declared.write.Text.{Text}
use Rattle.rendering.specs.Rendering.{RenderingAnswer, longest, written}
use Rattle.rendering.specs.Answers.{rendering_answer}

-- A text of as many bytes is what was written into zeros, and the other way round.
module _ (t : Bytes) (x : Text) (h : length t ≤ longest) where
  wrote_from : rendering_answer (Ok x) ≡ written t → Wrote (replicate longest 0) 0 t x.bytes x.length
  wrote_from e =
      record {
        entries = ap (λ (a : RenderingAnswer). a.bytes) e ∙ sym (sets_copies 0 longest t h);
        place = ap (λ (a : RenderingAnswer). a.length) e ∙ sym (zero-add (length t));
      }

  written_from : Wrote (replicate longest 0) 0 t x.bytes x.length → rendering_answer (Ok x) ≡ written t
  written_from w =
      λ i. record {
        number = 0;
        length = (w.place ∙ zero-add (length t)) i;
        bytes = (w.entries ∙ sets_copies 0 longest t h) i;
      }

pub more_written
    : (s t : Bytes) (x y : Text) → length s + length t ≤ longest → rendering_answer (Ok x) ≡ written s
    → Wrote x.bytes x.length t y.bytes y.length → rendering_answer (Ok y) ≡ written (s ++ t)
more_written s t x y h e w =
    written_from (s ++ t) y (omega (arith, length-append s t)) (wrote_more (wrote_from s x (omega arith) e) w)
