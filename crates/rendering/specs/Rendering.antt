-- Rendering a pair as constraint text: every window in order, in the layout that reading takes; and a refusal as a line (document 01,
-- "The figures program").
use Rattle.std.specs.Prelude.{ℕ, ◌-◌, [], ◌∷◌, ◌++◌, length, replicate}
use Rattle.laws.specs.Ranges.{fold}
use Rattle.curves.specs.Pairs.{horizon, upper_at, lower_at}
use Rattle.curves.specs.Unlimited.{AnyPair, limited, unlimited, curves_of}
use Rattle.curves.specs.Questions.{answer_to}
use Rattle.bounds.specs.Bounds.{pair_questions}
use Rattle.csv_text.specs.Text.{Bytes, comma, crlf, header}
use Rattle.csv_text.specs.Numbers.{decimal}
use Rattle.csv_text.specs.Records.{Most, none, up_to}

-- A most as a field: in digits, or empty where there is none (request P7).
abbrev pub most_field : Most → Bytes
most_field none = []
most_field (up_to m) = decimal m

-- A record with what ends it: the window, its least, its most.
unfoldable pub line : ℕ → ℕ → Most → Bytes
line w l m = decimal w ++ (comma ∷ []) ++ decimal l ++ (comma ∷ []) ++ most_field m ++ crlf

-- A window's most: its ceiling, if the pair has ceilings.
abbrev pub most_at : AnyPair → ℕ → Most
most_at (limited p) d = up_to (upper_at p d)
most_at (unlimited h ls) d = none

-- The text of a pair: the header line, and a record for each window 1 to H.
unfoldable pub text_of : AnyPair → Bytes
text_of p = fold ◌++◌ (header ++ crlf) (λ d. line d (lower_at (curves_of p) d) (most_at p d)) (horizon (curves_of p))

-- The line that tells a refusal: `refused `, its number, CR LF.
unfoldable pub refusal_line : ℕ → Bytes
refusal_line n = (114 ∷ 101 ∷ 102 ∷ 117 ∷ 115 ∷ 101 ∷ 100 ∷ 32 ∷ []) ++ decimal n ++ crlf

-- ---- the answer
-- The longest text: that of 256 windows with figures of 8 digits.
abbrev pub longest : ℕ
longest = 5_799

-- A text at the beginning of as many bytes, the others 0.
abbrev pub padded_text : Bytes → Bytes
padded_text t = t ++ replicate (longest - length t) 0

-- What rendering answers.
pub record RenderingAnswer : Type 0 where
  -- The number of the refusal; 0 where there is none.
  pub number : ℕ
  -- How many bytes the text has, and the text, padded.
  pub length : ℕ
  pub bytes : Bytes

-- A refusal: its number, nothing else.
abbrev pub refused_rendering : ℕ → RenderingAnswer
refused_rendering n = record { number = n; length = 0; bytes = padded_text [] }

-- A text.
abbrev pub written : Bytes → RenderingAnswer
written t = record { number = 0; length = length t; bytes = padded_text t }

-- Rendering the pair p: questions 1, 2 and 4, as for every operation on a pair, and then its text.
unfoldable pub rendering : AnyPair → RenderingAnswer
rendering p = answer_to (pair_questions p) (λ _. written (text_of p)) refused_rendering
