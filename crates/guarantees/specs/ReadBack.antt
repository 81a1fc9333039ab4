-- Rendering and reading are inverse, as far as texts go: written figures may pass 65,535, and a text's may not.
use Rattle.std.specs.Prelude.{◌≡◌, take}
use Rattle.curves.specs.Pairs.{Pair, horizon}
use Rattle.curves.specs.Unlimited.{AnyPair, curves_of, AllWithin}
use Rattle.bounds.specs.Bounds.{RoomFor}
use Rattle.csv_text.specs.Text.{Bytes}
use Rattle.csv_text.specs.Records.{message_limit}
use Rattle.constraints.specs.Theorems.{GivesPair, given_pair}
use Rattle.rendering.specs.Rendering.{rendering}

-- The text that rendering a pair answers; none where it is refused.
abbrev pub rendered : AnyPair → Bytes
rendered p = take (rendering p).length (rendering p).bytes

-- A pair that rendering does not refuse, with figures of at most 65,535, is given back by reading its text into lists that are long
-- enough; without ceilings its leasts are all of its figures (request P7).
abbrev pub ReadsBack : Type 0
ReadsBack =
    (p : AnyPair) (found : Pair) → (rendering p).number ≡ 0 → AllWithin message_limit p → RoomFor (horizon (curves_of p)) found
    → GivesPair (rendered p) found × (given_pair (rendered p) found ≡ p)
