-- What is proved of rendering, from what `rendering` says alone: so it holds of any code that keeps `render`'s promise.
use Rattle.std.specs.Prelude.{ℕ, ◌≤◌, ◌≡◌, ◌↔◌, length}
use Rattle.curves.specs.Unlimited.{AnyPair}
use Rattle.curves.specs.Questions.{AllYes, FirstNo}
use Rattle.bounds.specs.Bounds.{pair_questions}
use Rattle.rendering.specs.Rendering.{longest, text_of, refusal_line, refused_rendering, rendering}

-- Refused with n exactly when question n is the first that is answered no; else a text is written.
abbrev pub RenderingRefused : Type 0
RenderingRefused = (p : AnyPair) (n : ℕ) → ((1 ≤ n) × (rendering p ≡ refused_rendering n)) ↔ FirstNo (pair_questions p) n

abbrev pub WrittenIffAllYes : Type 0
WrittenIffAllYes = (p : AnyPair) → ((rendering p).number ≡ 0) ↔ AllYes (pair_questions p)

-- The text of a pair that passes the questions is no longer than the longest; nor is the line of a refusal with any 32-bit number.
abbrev pub TextFits : Type 0
TextFits = (p : AnyPair) → AllYes (pair_questions p) → length (text_of p) ≤ longest

abbrev pub RefusalFits : Type 0
RefusalFits = (n : ℕ) → n ≤ 4_294_967_295 → length (refusal_line n) ≤ longest
