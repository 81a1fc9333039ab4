-- Document 01's marked figures ("Figures to try"): one list of cases. By request P3 the case of the start 0, 2, 1, 0, 2, 0 is the
-- monitor's, and the 13 after it is that of a state built by hand.
use Rattle.std.specs.Prelude.{ℕ, ◌≤◌, ◌≡◌, List, [], ◌∷◌, ◌++◌, map, length, false, Result}
use Rattle.laws.specs.Tests.{Each}
use Rattle.curves.specs.Pairs.{Pair, pair_of, horizon}
use Rattle.curves.specs.Unlimited.{limited, EqualPairs}
use Rattle.curves.specs.Conformance.{Conforms}
use Rattle.curves.specs.Questions.{result, refusal}
use Rattle.closure.specs.Closing.{refused_closing, given_closing, closing}
use Rattle.csv_text.specs.Text.{Bytes, comma, crlf, header}
use Rattle.constraints.specs.Theorems.{GivesPair, given_pair}
use Rattle.history.specs.States.{View, history_of, view_of}
use Rattle.history.specs.Opening.{fresh}
use Rattle.monitor.specs.Monitoring.{lost, already_failed}
use Rattle.monitor.specs.Opening.{monitor_opening, fresh_monitor}
use Rattle.monitor.specs.Calls.{rulings}
use Rattle.generator.specs.declared.Generator.{Generator}
use Rattle.generator.specs.declared.Admissible.{Admissible}
use Rattle.generator.specs.declared.SendingRefusal.{SendingRefusal}
use Rattle.generator.specs.declared.Sent.{Sent}
use Rattle.generator.specs.Generating.{RangeAnswer, ranging, chosen, sending}
use Rattle.generator.specs.Opening.{generator_opening}
use Rattle.generator.specs.Answers.{range_reply, sending_reply}
use Rattle.generator.specs.Promises.{GeneratorTicked, GeneratorRanged}
use Rattle.generator.specs.Calls.{added_all}

-- `3,0,3` and `5,5,9` below the header line.
unfoldable pub published_triples : Bytes
published_triples = header ++ crlf ++ (51 ∷ comma ∷ 48 ∷ comma ∷ 51 ∷ []) ++ crlf ++ (53 ∷ comma ∷ 53 ∷ comma ∷ 57 ∷ []) ++ crlf

-- A horizon of 5, the figures of these triples as they are read, and 4 held ticks: the last of 0, 2, 1, 0, 2, 0.
unfoldable pub hand_built : Generator
hand_built = record { history = history_of 5 (3 ∷ 6 ∷ 3 ∷ 12 ∷ 9 ∷ []) (0 ∷ 0 ∷ 0 ∷ 0 ∷ 5 ∷ []) false 4 (1 ∷ 0 ∷ 2 ∷ 0 ∷ []) }

pub data Case : Type 0 where
  -- Reading the text gives this pair.
  reads : Bytes → Pair → Case
  -- Closing the pair gives this closure after so many rounds.
  closes : Pair → ℕ → Pair → Case
  -- Closing the pair is refused with 5.
  refuses : Pair → Case
  -- The start conforms to the pair; a generator that was opened on the pair and has sent the start shows this range.
  goes_on : Pair → List ℕ → RangeAnswer → Case
  -- The start, of a first count and others, conforms to the pair; a monitor that was opened on the pair says 'lost' at its first tick.
  loses_first : Pair → ℕ → List ℕ → Case
  -- The start conforms to the pair, on which no generator opens; one built by hand, which holds its last ticks, is refused with 13.
  stops : Pair → List ℕ → Generator → Case

-- What a case says, whatever result lists of at least H entries hold.
abbrev pub CaseHolds : Case → Type 0
CaseHolds (reads t q) =
    (found : Pair) → horizon q ≤ length found.upper → horizon q ≤ length found.lower
    → GivesPair t found × EqualPairs (given_pair t found) (limited q)
CaseHolds (closes p n q) =
    (found : Pair) → horizon p ≤ length found.upper → horizon p ≤ length found.lower
    → closing (limited p) found ≡ given_closing n (limited q) found
CaseHolds (refuses p) =
    (found : Pair) → horizon p ≤ length found.upper → horizon p ≤ length found.lower
    → closing (limited p) found ≡ refused_closing 5 found
CaseHolds (goes_on p xs b) =
    let sent : View = added_all (fresh (limited p)) xs in
    (generator_opening (limited p) ≡ result tt)
    × Conforms p xs
    × (ranging sent ≡ result b)
    × ((choice : ℕ) → sending sent choice ≡ result (chosen b choice))
CaseHolds (loses_first p x xs) =
    (monitor_opening (limited p) ≡ result tt)
    × Conforms p (x ∷ xs)
    × (rulings (fresh_monitor (limited p)) (x ∷ xs) ≡ result lost ∷ map (λ _. result already_failed) xs)
CaseHolds (stops p xs g) =
    (generator_opening (limited p) ≡ refusal 15)
    × Conforms p xs
    × (view_of g.history ≡ added_all (fresh (limited p)) xs)
    × ((r : Result Admissible SendingRefusal) → GeneratorRanged g r → range_reply r ≡ refusal 13)
    × ((choice : ℕ) (r : Sent) → GeneratorTicked g choice r → sending_reply r.sending ≡ refusal 13)

unfoldable pub marked_cases : List Case
marked_cases =
    closes (pair_of (7 ∷ []) (2 ∷ [])) 0 (pair_of (7 ∷ []) (2 ∷ []))
    ∷ refuses (pair_of (2 ∷ []) (7 ∷ []))
    ∷ closes (pair_of (0 ∷ []) (0 ∷ [])) 0 (pair_of (0 ∷ []) (0 ∷ []))
    ∷ closes (pair_of (5 ∷ 3 ∷ []) (0 ∷ 0 ∷ [])) 1 (pair_of (3 ∷ 3 ∷ []) (0 ∷ 0 ∷ []))
    ∷ closes (pair_of (1 ∷ 2 ∷ []) (0 ∷ 2 ∷ [])) 1 (pair_of (1 ∷ 2 ∷ []) (1 ∷ 2 ∷ []))
    ∷ refuses (pair_of (2 ∷ 2 ∷ 5 ∷ []) (0 ∷ 0 ∷ 4 ∷ []))
    ∷ closes (pair_of (2 ∷ 3 ∷ 5 ∷ 5 ∷ []) (0 ∷ 0 ∷ 0 ∷ 3 ∷ [])) 1 (pair_of (2 ∷ 3 ∷ 5 ∷ 5 ∷ []) (0 ∷ 0 ∷ 1 ∷ 3 ∷ []))
    ∷ reads published_triples (pair_of (3 ∷ 6 ∷ 3 ∷ 12 ∷ 9 ∷ []) (0 ∷ 0 ∷ 0 ∷ 0 ∷ 5 ∷ []))
    ∷ closes (pair_of (3 ∷ 6 ∷ 3 ∷ 12 ∷ 9 ∷ []) (0 ∷ 0 ∷ 0 ∷ 0 ∷ 5 ∷ [])) 4 (pair_of (1 ∷ 2 ∷ 3 ∷ 4 ∷ 5 ∷ []) (1 ∷ 2 ∷ 3 ∷ 4 ∷ 5 ∷ []))
    ∷ loses_first (pair_of (3 ∷ 6 ∷ 3 ∷ 12 ∷ 9 ∷ []) (0 ∷ 0 ∷ 0 ∷ 0 ∷ 5 ∷ [])) 0 (2 ∷ 1 ∷ 0 ∷ 2 ∷ 0 ∷ [])
    ∷ stops (pair_of (3 ∷ 6 ∷ 3 ∷ 12 ∷ 9 ∷ []) (0 ∷ 0 ∷ 0 ∷ 0 ∷ 5 ∷ [])) (0 ∷ 2 ∷ 1 ∷ 0 ∷ 2 ∷ 0 ∷ []) hand_built
    ∷ goes_on (pair_of (2 ∷ 3 ∷ 5 ∷ 5 ∷ []) (0 ∷ 0 ∷ 1 ∷ 3 ∷ [])) (2 ∷ 1 ∷ []) (record { lo = 0; hi = 2 })
    ∷ goes_on (pair_of (2 ∷ 3 ∷ 5 ∷ 5 ∷ []) (0 ∷ 0 ∷ 1 ∷ 3 ∷ [])) (2 ∷ 1 ∷ 0 ∷ 2 ∷ []) (record { lo = 0; hi = 1 })
    ∷ []

abbrev pub MarkedFigures : Type 0
MarkedFigures = Each CaseHolds marked_cases
