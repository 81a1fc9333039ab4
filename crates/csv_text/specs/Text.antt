-- The layout of constraint text (document 01, "Triples as CSV text"): RFC 4180 without quotes, as bytes.
use Rattle.std.specs.Prelude.{ℕ, ◌&&◌, cond, List, [], ◌∷◌, eqb}

abbrev pub Bytes : Type 0
Bytes = List ℕ

-- The separators.
abbrev pub comma : ℕ
comma = 44

abbrev pub cr : ℕ
cr = 13

abbrev pub lf : ℕ
lf = 10

-- CR LF, which ends a record.
abbrev pub crlf : Bytes
crlf = cr ∷ lf ∷ []

-- `window,least,most`
abbrev pub header : Bytes
header = 119 ∷ 105 ∷ 110 ∷ 100 ∷ 111 ∷ 119 ∷ comma ∷ 108 ∷ 101 ∷ 97 ∷ 115 ∷ 116 ∷ comma ∷ 109 ∷ 111 ∷ 115 ∷ 116 ∷ []

-- The byte b, put before the first of some parts.
abbrev pub on_first : ℕ → List Bytes → List Bytes
on_first b [] = (b ∷ []) ∷ []
on_first b (r ∷ rs) = (b ∷ r) ∷ rs

-- The records of a text: each goes up to the next CR LF or to the end of the text, and after the last CR LF there is one only if a byte
-- follows. A lone CR or LF is a byte like others.
unfoldable pub records : Bytes → List Bytes
records [] = []
records (b ∷ []) = (b ∷ []) ∷ []
records (b ∷ c ∷ s) = cond (eqb b cr && eqb c lf) ([] ∷ records s) (on_first b (records (c ∷ s)))

-- The fields of a record: what stands between its commas.
unfoldable pub fields : Bytes → List Bytes
fields [] = [] ∷ []
fields (b ∷ s) = cond (eqb b comma) ([] ∷ fields s) (on_first b (fields s))
