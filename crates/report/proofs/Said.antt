-- What the output is, from what reading, closing and rendering answer. Assumes nothing.
use Rattle.laws.proofs.Base.{ℕ, zero, suc, ◌≤◌, ◌≡◌, refl, sym, ap, ◌∙◌, subst, Bool, cond, List, [], ◌∷◌, ◌++◌, ◌⊎◌, inl, inr, ⊎_elim}
use Rattle.laws.proofs.Base.{arith, eq-eqb, ne_eqb, eqb, length, get_or, length-append, length-replicate, list_get_or-append}
use Rattle.laws.proofs.Base.{take-append_seam}
use Rattle.laws.specs.Ranges.{fold}
use Rattle.laws.specs.Tests.{Each}
use Rattle.curves.specs.Streams.{Stream}
use Rattle.curves.specs.Pairs.{horizon, lower_at, FiguresWithin}
use Rattle.curves.specs.Unlimited.{AnyPair, limited, unlimited, curves_of, AllWithin}
use Rattle.curves.specs.Questions.{AllYes, FirstNo, ask}
use Rattle.curves.proofs.Asked.{no_parts}
use Rattle.bounds.specs.Bounds.{max_horizon, figure_limit, pair_questions, RoomFor}
use Rattle.closure.specs.Closing.{closing_limit, refused_closing, closing}
use Rattle.closure.specs.Theorems.{PassesFour, GivesClosure, closure_of}
use Rattle.closure.proofs.Given.{refused_iff_no_stream, else_closed}
use Rattle.closure.proofs.Promised.{closure_passes}
use Rattle.csv_text.specs.Text.{Bytes, crlf, header}
use Rattle.csv_text.specs.Records.{Constraint, constraint_of, message_limit}
use Rattle.constraints.specs.Constraints.{Satisfies}
use Rattle.constraints.proofs.Named.{in_range, largest_bound}
use Rattle.constraints.specs.Reading.{later, constraints, record_questions, question11, reading_questions, reading}
use Rattle.constraints.specs.Theorems.{GivesPair}
use Rattle.constraints.proofs.Said.{refused_is, pair_iff_all_yes, text_horizon, given_is_text_pair}
use Rattle.constraints.proofs.Streams.{text_pair_passes, satisfies_iff_conforms}
use Rattle.rendering.specs.Rendering.{longest, line, most_at, text_of, refusal_line, rendering}
use Rattle.rendering.proofs.Said.{written_is, text_fits, refusal_fits}
use Rattle.report.specs.Report.{zero_lists, after_rendering, after_closing, after_reading, output}
use Rattle.report.specs.Theorems.{pair_in, OutputIs, OutputRefusedIffNoStream, OutputFits}

-- ---- a step's answer
-- A refusal's number decides, and so does 0.
pub refuses : (n : ℕ) (x y : Bytes) → 1 ≤ n → cond (eqb n 0) x y ≡ y
refuses n x y h = ap (λ (b : Bool). cond b x y) (ne_eqb n 0 (λ e. omega (arith, h, e)))

pub goes_on : (n : ℕ) (x y : Bytes) → n ≡ 0 → cond (eqb n 0) x y ≡ x
goes_on n x y e = ap (λ (b : Bool). cond b x y) (eq-eqb n 0 e)

-- ---- rendering and closing
-- A pair that passes is written as its text.
pub rendered_is : (p : AnyPair) → AllYes (pair_questions p) → after_rendering (rendering p) ≡ text_of p
rendered_is p ok = ap after_rendering (written_is p ok) ∙ take-append_seam (text_of p) _

pub zero_lengths : (length zero_lists.upper ≡ max_horizon) × (length zero_lists.lower ≡ max_horizon)
unfolding zero_lists
zero_lengths = (length-replicate {A = ℕ} max_horizon 0, length-replicate {A = ℕ} max_horizon 0)

-- Closing's question 4, of a pair that passes the other operations' and whose leasts are small.
fourth : (p : AnyPair) → AllWithin figure_limit p → FiguresWithin message_limit (curves_of p).lower → AllWithin (closing_limit p) p
fourth (limited p) ok small = ok
fourth (unlimited h ls) ok small = small

module _ (p : AnyPair) where
  passes : AllYes (pair_questions p) × FiguresWithin message_limit (curves_of p).lower → PassesFour p zero_lists
  passes (ok, small) =
      let room : RoomFor (horizon (curves_of p)) zero_lists =
      (omega (arith, ok.0.1, zero_lengths.0), omega (arith, ok.0.1, zero_lengths.1)) in
      (ok.0, (ok.1.0, (room, (fourth p ok.1.1.0 small, tt))))

  closed_output : GivesClosure p zero_lists
      → after_closing (horizon (curves_of p)) (closing p zero_lists) ≡ text_of (closure_of p zero_lists)
  closed_output g =
      goes_on (closing p zero_lists).number _ _ g ∙ rendered_is (closure_of p zero_lists) (closure_passes p zero_lists g)

  refused_output : closing p zero_lists ≡ refused_closing 5 zero_lists
      → after_closing (horizon (curves_of p)) (closing p zero_lists) ≡ refusal_line 5
  refused_output e = ap (after_closing (horizon (curves_of p))) e

-- ---- reading
-- The numbers of a record's questions.
record_number : (earlier : List Constraint) (rs : List Bytes) (n : ℕ) → FirstNo (record_questions earlier rs) n
    → (7 ≤ n) × (n ≤ 9)
record_number earlier [] n f = absurd f
record_number earlier (r ∷ rs) n f =
    ⊎_elim
    (λ h. (omega (arith, h.0), omega (arith, h.0)))
    (λ h. ⊎_elim
    (λ k. (omega (arith, k.0), omega (arith, k.0)))
    (λ k. ⊎_elim
    (λ j. (omega (arith, j.0), omega (arith, j.0)))
    (λ j. record_number (earlier ++ (constraint_of r ∷ [])) rs n j.1)
    k.1)
    h.1)
    f

module _ (t : Bytes) where
  -- The lists are long enough for every text, so that 11 is not given.
  number_within : (n : ℕ) → FirstNo (reading_questions t zero_lists) n → (6 ≤ n) × (n ≤ 10)
  number_within n f =
      ⊎_elim
      (λ h. (omega (arith, h.0), omega (arith, h.0)))
      (λ h. ⊎_elim
      (λ g. let k = record_number [] (later t) n g in (omega (arith, k.0), omega (arith, k.1)))
      (λ g. ⊎_elim (λ k. (omega (arith, k.0), omega (arith, k.0))) (λ k. absurd (long_enough g.0 k.1)) g.1)
      (no_parts (record_questions [] (later t)) _ n h.1))
      f
    where
      long_enough : AllYes (record_questions [] (later t)) → FirstNo (question11 t zero_lists ∷ []) n → ⊥
      long_enough ys no₁₁ =
          let h = largest_bound (constraints t) (in_range [] (later t) ys) in
          ⊎_elim (λ k. k.1 (omega (arith, h, zero_lengths.0), omega (arith, h, zero_lengths.1))) (λ k. k.1) no₁₁

  unread_output : (n : ℕ) → FirstNo (reading_questions t zero_lists) n → output t ≡ refusal_line n
  unfolding output
  unread_output n f = ap after_reading (refused_is t zero_lists n f) ∙ refuses n _ _ (omega (arith, (number_within n f).0))

  module _ (g : GivesPair t zero_lists) where
    passes_pair : AllYes (pair_questions (pair_in t)) × FiguresWithin message_limit (curves_of (pair_in t)).lower
    passes_pair = text_pair_passes t zero_lists g

    read_horizon : (reading t zero_lists).horizon ≡ horizon (curves_of (pair_in t))
    read_horizon =
        let e = given_is_text_pair t zero_lists g in
        e.0 ∙ sym (ap (λ p. horizon (curves_of p)) e.1 ∙ text_horizon t)

    read_output : output t ≡ after_closing (horizon (curves_of (pair_in t))) (closing (pair_in t) zero_lists)
    unfolding output
    read_output =
        goes_on (reading t zero_lists).number _ _ g
        ∙ ap (λ h. after_closing h (closing (pair_in t) zero_lists)) read_horizon

    closes : (closing (pair_in t) zero_lists ≡ refused_closing 5 zero_lists) ⊎ GivesClosure (pair_in t) zero_lists
    closes = else_closed (pair_in t) zero_lists (passes (pair_in t) passes_pair)

-- ---- the statements
pub output_is : OutputIs
output_is t =
    ⊎_elim
    (λ ys.
    let g = (pair_iff_all_yes t zero_lists).1 ys in
    ⊎_elim
    (λ e. inr (inl (g, read_output t g ∙ refused_output (pair_in t) e)))
    (λ c. inl (g, c, read_output t g ∙ closed_output (pair_in t) c))
    (closes t g))
    (λ f. inr (inr (f.0, (number_within t f.0 f.1).0, (number_within t f.0 f.1).1, f.1, unread_output t f.0 f.1)))
    (ask (reading_questions t zero_lists))

-- A text of curves begins with `w`, a refusal with `r`.
text_begins : (p : AnyPair) → get_or (text_of p) 0 0 ≡ 119
unfolding text_of fold
text_begins p = (go (horizon (curves_of p))).1
  where
    lines : ℕ → Bytes
    lines d = line d (lower_at (curves_of p) d) (most_at p d)

    go : (n : ℕ) → (1 ≤ length (fold ◌++◌ (header ++ crlf) lines n)) × (get_or (fold ◌++◌ (header ++ crlf) lines n) 0 0 ≡ 119)
    go zero = (omega arith, refl)
    go (suc n) =
        let t = fold ◌++◌ (header ++ crlf) lines n in
        let (some, w) = go n in
        (omega (arith, length-append t (lines (suc n)), some), list_get_or-append t (lines (suc n)) 0 0 some ∙ w)

refusal_begins : (n : ℕ) → get_or (refusal_line n) 0 0 ≡ 114
unfolding refusal_line
refusal_begins n = refl

pub output_refused_iff_no_stream : OutputRefusedIffNoStream
output_refused_iff_no_stream t g = (there, back)
  where
    -- Closing the text's pair is refused exactly where no stream satisfies the constraints.
    there : output t ≡ refusal_line 5 → (s : Stream) → Each (Satisfies s.counts) (constraints t) → ⊥
    there e s ks =
        ⊎_elim
        (λ r.
        (refused_iff_no_stream (pair_in t) zero_lists (passes (pair_in t) (passes_pair t g))).0 r s
        ((satisfies_iff_conforms t zero_lists g s).0 ks))
        (λ c. let o = sym (read_output t g ∙ closed_output (pair_in t) c) ∙ e in
        omega (arith, text_begins (closure_of (pair_in t) zero_lists), ap (λ (x : Bytes). get_or x 0 0) o, refusal_begins 5))
        (closes t g)

    back : ((s : Stream) → Each (Satisfies s.counts) (constraints t) → ⊥) → output t ≡ refusal_line 5
    back none =
        read_output t g
        ∙ refused_output (pair_in t)
        ((refused_iff_no_stream (pair_in t) zero_lists (passes (pair_in t) (passes_pair t g))).1
        (λ s h. none s ((satisfies_iff_conforms t zero_lists g s).1 h)))

pub output_fits : OutputFits
output_fits t =
    ⊎_elim
    (λ c. subst Fits (sym c.2) (text_fits (closure_of (pair_in t) zero_lists) (closure_passes (pair_in t) zero_lists c.1)))
    (λ r. ⊎_elim (λ h. subst Fits (sym h.1) (short 5 (omega arith))) (λ h. subst Fits (sym h.4) (short h.0 h.2)) r)
    (output_is t)
  where
    Fits : Bytes → Type 0
    Fits o = length o ≤ longest

    short : (n : ℕ) → n ≤ 10 → Fits (refusal_line n)
    short n l = refusal_fits n (omega arith)
