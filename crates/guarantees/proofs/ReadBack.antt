-- Reading gives back the pair that was rendered. Assumes nothing.
use Rattle.laws.proofs.Base.{ℕ, zero, suc, ◌+◌, ◌*◌, ◌≤◌, ◌<◌, ◌≡◌, refl, sym, ap, ◌∙◌, List, [], ◌∷◌, ◌++◌, map, append_assoc}
use Rattle.laws.proofs.Base.{append-nil, ◌⊎◌, inl, inr, Bool, true, false, cond, min}
use Rattle.laws.proofs.Base.{le_refl, arith, length, get_or, take, drop, take-append_seam, length-append}
use Prim.Native.Nat.{◌/◌, ◌%◌}
use lib.Dec.{ltb}
use Rattle.laws.specs.Ranges.{fold, table}
use Rattle.laws.specs.Tests.{Each}
use Rattle.laws.proofs.Tests.{each_map, each_append}
use Rattle.laws.proofs.Table.{length-table, map-table, each_table, each_entry, table_ext, table_self}
use Rattle.curves.specs.Pairs.{Pair, pair_of, horizon, figure, upper_at, lower_at}
use Rattle.curves.specs.Unlimited.{AnyPair, limited, unlimited, curves_of, AllWithin}
use Rattle.curves.proofs.Highest.{length-highest}
use Rattle.curves.specs.Questions.{AllYes}
use Rattle.curves.proofs.Asked.{yes_append}
use Rattle.bounds.specs.Bounds.{pair_questions, RoomFor}
use Rattle.csv_text.specs.Text.{Bytes, comma, cr, crlf, header, records, fields}
use Rattle.csv_text.specs.Numbers.{Digit, Numeral, value, last_digits, decimal}
use Rattle.csv_text.proofs.Joining.{records_join, fields_join, fields_last}
use Rattle.csv_text.proofs.Numbers.{value_decimal, decimal_digits, numeral_decimal}
use Rattle.csv_text.specs.Records.{Most, none, up_to, or_else, MostWithin, Constraint, WellFormed, most_of, constraint, constraint_of, message_limit}
use Rattle.constraints.specs.Constraints.{named, smaller_most, smallest_most, least_for, ceiling_for, filled_by, filled}
use Rattle.constraints.specs.Reading.{later, constraints, horizon_of, text_pair, record_questions, question10, question11, reading_questions}
use Rattle.constraints.proofs.Named.{named_own, one_more, window_largest, largest_le}
use Rattle.constraints.proofs.Said.{pair_iff_all_yes, given_is_text_pair}
use Rattle.rendering.proofs.Said.{written_is, written_iff_all_yes, text_fits}
use Rattle.rendering.specs.Rendering.{most_field, line, most_at, text_of}
use Rattle.guarantees.specs.ReadBack.{rendered, ReadsBack}

-- ---- a record
-- The record without what ends it.
row : ℕ → ℕ → Most → Bytes
row w l m = decimal w ++ (comma ∷ []) ++ decimal l ++ (comma ∷ []) ++ most_field m

-- Digits are no separators; an empty field has none either.
no_separator : (x n : ℕ) → x < 48 → Each (λ b. ¬ (b ≡ x)) (decimal n)
no_separator x n l = each_map Digit _ (decimal n) (λ b d e. omega (arith, d.0)) (decimal_digits n)

most_no_separator : (x : ℕ) (m : Most) → x < 48 → Each (λ b. ¬ (b ≡ x)) (most_field m)
most_no_separator x none l = tt
most_no_separator x (up_to n) l = no_separator x n l

-- A number has a digit, so that it is told apart from an empty field.
some_digit : (n : ℕ) → 1 ≤ length (decimal n)
unfolding last_digits
some_digit n = go (ltb n 10)
  where
    go : (b : Bool) → 1 ≤ length (cond b ((48 + n) ∷ []) (last_digits n (n / 10) ++ ((48 + n % 10) ∷ [])))
    go true = omega arith
    go false = omega (arith, length-append (last_digits n (n / 10)) ((48 + n % 10) ∷ []))

spells : (f : Bytes) → 1 ≤ length f → most_of f ≡ up_to (value f)
spells [] l = absurd (omega arith)
spells (b ∷ f) l = refl

most_back : (m : Most) → most_of (most_field m) ≡ m
most_back none = refl
most_back (up_to n) = spells (decimal n) (some_digit n) ∙ ap up_to (value_decimal n)

row_fields : (w l : ℕ) (m : Most) → fields (row w l m) ≡ decimal w ∷ decimal l ∷ most_field m ∷ []
unfolding row
row_fields w l m =
    let no-comma : (n : ℕ) → Each (λ b. ¬ (b ≡ comma)) (decimal n) = λ n. no_separator comma n (omega arith) in
    rw (
      append_assoc (decimal w ++ (comma ∷ []) ++ decimal l),
      append_assoc (decimal w ++ (comma ∷ [])),
      fields_join (decimal w) _ (no-comma w),
      ← append_assoc (decimal l) (comma ∷ []),
      fields_join (decimal l) _ (no-comma l),
      fields_last (most_field m) (most_no_separator comma m (omega arith)),
    )

row_constraint : (w l : ℕ) (m : Most) → constraint_of (row w l m) ≡ constraint w l m
row_constraint w l m = simp (row_fields, value_decimal, most_back)

most_formed : (m : Most) → MostWithin 99_999 m → (most_field m ≡ []) ⊎ Numeral (most_field m)
most_formed none r = inl refl
most_formed (up_to n) r = inr (numeral_decimal n r)

row_formed : (w l : ℕ) (m : Most) → w ≤ 99_999 → l ≤ 99_999 → MostWithin 99_999 m → WellFormed (row w l m)
row_formed w l m p q r =
    record {
      three = rw row_fields refl;
      window = rw row_fields (numeral_decimal w p);
      least = rw row_fields (numeral_decimal l q);
      most = rw row_fields (most_formed m r);
    }

row_no_cr : (w l : ℕ) (m : Most) → Each (λ b. ¬ (b ≡ cr)) (row w l m)
unfolding row
row_no_cr w l m =
    let no-cr : (n : ℕ) → Each (λ b. ¬ (b ≡ cr)) (decimal n) = λ n. no_separator cr n (omega arith) in
    let none-cr : Each (λ b. ¬ (b ≡ cr)) (most_field m) = most_no_separator cr m (omega arith) in
    let no-comma : Each (λ b. ¬ (b ≡ cr)) (comma ∷ []) = (λ e. omega arith, tt) in
    search (each_append, no-cr, none-cr, no-comma)

-- ---- the text
module _ (p : AnyPair) where
  abbrev c : Pair
  c = curves_of p

  abbrev row_of : ℕ → Bytes
  row_of d = row d (lower_at c d) (most_at p d)

  abbrev triple_of : ℕ → Constraint
  triple_of d = constraint d (lower_at c d) (most_at p d)

  -- The records of the text so far, whatever follows.
  text_records : (n : ℕ) (s : Bytes)
      → records (fold ◌++◌ (header ++ crlf) (λ d. line d (lower_at c d) (most_at p d)) n ++ s) ≡ header ∷ (table row_of n ++ records s)
  unfolding fold table line row records
  text_records zero s = refl
  text_records (suc n) s =
      rw (
        append_assoc _ (line (suc n) _ _) s,
        text_records n _,
        records_join (row_of (suc n)) s (row_no_cr (suc n) (lower_at c (suc n)) (most_at p (suc n))),
        append_assoc (table row_of n),
      )

  text_is : records (text_of p) ≡ header ∷ table row_of (horizon c)
  unfolding text_of records
  text_is = simp append-nil at (text_records (horizon c) [])

  rows_constraints : (n : ℕ) → map constraint_of (table row_of n) ≡ table triple_of n
  rows_constraints n = map-table constraint_of row_of n ∙ table_ext _ _ n (λ d _ _. row_constraint d (lower_at c d) (most_at p d))

-- ---- the smallest most
-- Where every constraint has one, there is one; where none has, there is none.
some_most : (cs : List Constraint) → 1 ≤ length cs → Each (λ c. (m : ℕ) × (c.most ≡ up_to m)) cs → (m : ℕ) × (smallest_most cs ≡ up_to m)
some_most [] l es = absurd (omega arith)
some_most (c ∷ []) l ((m, e), es) = (m, rw e refl)
some_most (c ∷ d ∷ cs) l ((m, e), es) =
    let (n, f) = some_most (d ∷ cs) (omega arith) es in (min m n, λ i. smaller_most (e i) (f i))

no_most_lem : (cs : List Constraint) → Each (λ c. c.most ≡ none) cs → smallest_most cs ≡ none
no_most_lem [] es = refl
no_most_lem (c ∷ cs) (e, es) = rw (e, no_most_lem cs es) refl

-- ---- the pair
most_small : (p : AnyPair) → AllWithin message_limit p → (d : ℕ) → 1 ≤ d → d ≤ horizon (curves_of p) → MostWithin message_limit (most_at p d)
most_small (limited p) small d u v = small.0 d u v
most_small (unlimited h ls) small d u v = tt

least_small :
    (p : AnyPair) → AllWithin message_limit p → (d : ℕ) → 1 ≤ d → d ≤ length (curves_of p).lower → lower_at (curves_of p) d ≤ message_limit
least_small (limited p) small d u v = small.1 d u v
least_small (unlimited h ls) small d u v = small d u v

most_wider : (m : Most) → MostWithin message_limit m → MostWithin 99_999 m
most_wider none r = tt
most_wider (up_to n) r = omega arith

module _ (p : AnyPair) (ok : AllYes (pair_questions p)) (small : AllWithin message_limit p) where
  abbrev H : ℕ
  H = horizon (curves_of p)

  abbrev triples : List Constraint
  triples = table (triple_of p) H

  -- Each record passes the questions of a record.
  rows_yes : (n : ℕ) → n ≤ H → AllYes (record_questions [] (table (row_of p) n))
  unfolding table
  rows_yes zero l = tt
  rows_yes (suc n) l =
      let d = suc n in
      let is = row_constraint d (lower_at (curves_of p) d) (most_at p d) in
      let u = most_small p small d (omega arith) l in
      let v = least_small p small d (omega arith) (omega (arith, ok.1.0)) in
      one_more [] (table (row_of p) n) (row_of p d) (rows_yes n (omega arith))
      (row_formed d (lower_at (curves_of p) d) (most_at p d) (omega (arith, ok.0.1)) (omega (arith, v)) (most_wider (most_at p d) u))
      (rw is (record { some = omega arith; window = omega (arith, ok.0.1); least = v; most = u }))
      (rw (rows_constraints p n) (each_table _ (triple_of p) n (λ k _ q e. omega (arith, ap (λ c. c.window) is))))

  rows : AllYes (record_questions [] (table (row_of p) H))
  rows = rows_yes H (le_refl H)

  read_records_lem : later (text_of p) ≡ table (row_of p) H
  read_records_lem = ap (drop 1) (text_is p)

  read_constraints : constraints (text_of p) ≡ triples
  read_constraints = ap (map constraint_of) read_records_lem ∙ rows_constraints p H

  -- What is named for a window is its row's.
  named_row : {A : Type 0} (what : Constraint → A) (other : ℕ → A) (d : ℕ) → 1 ≤ d → d ≤ H
      → named what (other d) triples d ≡ what (triple_of p d)
  named_row what other =
      each_entry (λ c. named what (other c.window) triples c.window ≡ what c) (triple_of p) H
      (rw (rows_constraints p H) at (named_own what other [] (table (row_of p) H) rows))

  read_horizon : horizon_of (text_of p) ≡ H
  read_horizon =
      let longest = largest_le triples H (each_table _ (triple_of p) H (λ d _ q. q)) in
      let last = each_entry _ (triple_of p) H (window_largest triples) H ok.0.0 (le_refl H) in
      rw read_constraints (omega (arith, longest, last))

  leasts_back : table (least_for triples) H ≡ (curves_of p).lower
  unfolding figure
  leasts_back =
      table_ext _ (lower_at (curves_of p)) H (named_row (λ c. c.least) (λ d. 0))
      ∙ ap (table (lower_at (curves_of p))) (sym ok.1.0)
      ∙ table_self (lower_at (curves_of p)) (curves_of p).lower 0 (λ k _. refl)

  reads : (found : Pair) → RoomFor H found → AllYes (reading_questions (text_of p) found)
  reads found r = (
    (omega (arith, text_fits p ok), ap (λ (rs : List Bytes). get_or rs 0 []) (text_is p)),
    yes_append (record_questions [] (later (text_of p))) (question10 (text_of p) ∷ question11 (text_of p) found ∷ [])
        (rw read_records_lem rows) (
          omega (arith, ap length read_records_lem, length-table (row_of p) H, ok.0.0),
          ((omega (arith, read_horizon, r.0), omega (arith, read_horizon, r.1)), tt),
        ),
  )

-- The constraints of its text are filled to the pair.
filled-back :
    (p : AnyPair) (ok : AllYes (pair_questions p)) (small : AllWithin message_limit p) → filled (H p ok small) (triples p ok small) ≡ p
unfolding figure
filled-back (limited q) ok small =
    let r : AnyPair = limited q in
    let cs = triples r ok small in
    let (m, e) = some_most cs (omega (arith, length-table (triple_of r) (horizon q), ok.0.0))
    (each_table _ (triple_of r) (horizon q) (λ d _ _. (upper_at q d, refl))) in
    ap (λ s. filled_by s (horizon q) cs) e
    ∙ (λ i. limited (pair_of
    ((table_ext (ceiling_for m cs) (upper_at q) (horizon q)
    (λ d u v. ap (or_else (d * m)) (named_row r ok small (λ c. c.most) (λ d. none) d u v))
    ∙ table_self (upper_at q) q.upper 0 (λ k _. refl)) i)
    (leasts_back r ok small i)))
filled-back (unlimited h ls) ok small =
    let r : AnyPair = unlimited h ls in
    let cs = triples r ok small in
    let e = no_most_lem cs (each_table _ (triple_of r) (horizon (curves_of r)) (λ d _ _. refl)) in
    ap (λ s. filled_by s (horizon (curves_of r)) cs) e ∙ (λ i. unlimited (length-highest h i) (leasts_back r ok small i))

read_pair : (p : AnyPair) (ok : AllYes (pair_questions p)) (small : AllWithin message_limit p) → text_pair (text_of p) ≡ p
read_pair p ok small = (λ i. filled (read_horizon p ok small i) (read_constraints p ok small i)) ∙ filled-back p ok small

-- ---- the statement
pub reads_back : ReadsBack
reads_back p found e small r =
    let ok = (written_iff_all_yes p).0 e in
    let text : rendered p ≡ text_of p = ap (λ a. take a.length a.bytes) (written_is p ok) ∙ take-append_seam (text_of p) _ in
    let g = (pair_iff_all_yes (text_of p) found).1 (reads p ok small found r) in
    rw text (g, (given_is_text_pair (text_of p) found g).1 ∙ read_pair p ok small)
