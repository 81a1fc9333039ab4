-- The figures program (document 01, "The figures program"): its whole output as a function of its input.
use Rattle.std.specs.Prelude.{ℕ, Bool, cond, eqb, take, replicate}
use Rattle.curves.specs.Pairs.{Pair, pair_of}
use Rattle.curves.specs.Unlimited.{AnyPair, with_mark}
use Rattle.bounds.specs.Bounds.{max_horizon}
use Rattle.closure.specs.Closing.{ClosingAnswer, closing}
use Rattle.csv_text.specs.Text.{Bytes}
use Rattle.constraints.specs.Reading.{ReadingAnswer, reading}
use Rattle.rendering.specs.Rendering.{refusal_line, RenderingAnswer, rendering}

-- Two lists of the longest horizon, lent for results.
unfoldable pub zero_lists : Pair
zero_lists = pair_of (replicate max_horizon 0) (replicate max_horizon 0)

-- The pair in the first h entries of two lists, with a mark.
abbrev pub first_marked : ℕ → Pair → Bool → AnyPair
first_marked h c mark = with_mark (take h c.upper) (take h c.lower) mark

-- What is written once a step has answered: its refusal, or what the next step leads to.
abbrev pub after_rendering : RenderingAnswer → Bytes
after_rendering a = cond (eqb a.number 0) (take a.length a.bytes) (refusal_line a.number)

abbrev pub after_closing : ℕ → ClosingAnswer → Bytes
after_closing h a =
    cond (eqb a.number 0) (after_rendering (rendering (first_marked h a.results a.unlimited))) (refusal_line a.number)

abbrev pub after_reading : ReadingAnswer → Bytes
after_reading a =
    cond (eqb a.number 0)
    (after_closing a.horizon (closing (first_marked a.horizon a.results a.unlimited) zero_lists))
    (refusal_line a.number)

-- The output for the text t: reading, closing, rendering.
unfoldable pub output : Bytes → Bytes
output t = after_reading (reading t zero_lists)
