-- What the operations answer, case by case, and the views of the states that they hand back. Assumes nothing.
use Rattle.laws.proofs.Base.{ℕ, suc, ◌-◌, ◌%◌, ◌≤◌, ◌<◌, ◌≡◌, refl, sym, ap, List, ◌↔◌, inl, inr, le_refl, mod-lt, arith}
use Rattle.curves.specs.Pairs.{horizon}
use Rattle.curves.specs.Unlimited.{AnyPair, limited, unlimited, curves_of}
use Rattle.curves.specs.Ticks.{then, Judged, Keeps, Extremes}
use Rattle.curves.specs.Questions.{Reply, result, refusal}
use Rattle.curves.proofs.Asked.{said_no, said_yes, no_refusal, same_result, result_from}
use Rattle.curves.proofs.NextTick.{last_none, length-then, last_next, range_once}
use Rattle.bounds.specs.Bounds.{figure_limit, question4}
use Rattle.history.specs.States.{View, view_of, Legal}
use Rattle.generator.specs.declared.Generator.{Generator}
use Rattle.generator.specs.declared.Sent.{Sent}
use Rattle.generator.specs.Generating.{Sendable, range_questions, RangeAnswer, ranging, chosen, sent_from, sending, GeneratorNext}
use Rattle.generator.specs.Promises.{GeneratorTicked}
use Rattle.generator.specs.Calls.{view_after}

-- ---- the range and a tick
abbrev pub range_answer : ℕ → ℕ → RangeAnswer
range_answer a b = record { lo = a; hi = b }

pub ranging_bad : (v : View) → ¬ Legal v → ranging v ≡ refusal 12
unfolding ranging
ranging_bad v n = said_no _ _ _ 12 (inl (refl, n))

pub ranging_range : (v : View) → Legal v → (r : Extremes (Sendable v.pair v.held))
    → ranging v ≡ result (range_answer r.lo r.hi)
unfolding ranging
ranging_range v l r = said_yes (range_questions v) _ refusal _ (l, (r, tt)) (λ ys. same ys.1.0)
  where
    same : (s : Extremes (Sendable v.pair v.held)) → result (range_answer s.lo s.hi) ≡ result (range_answer r.lo r.hi)
    same s = let (a, b) = range_once s r in λ i. result (range_answer (a i) (b i))

pub ranging_none : (v : View) → Legal v → ¬ Extremes (Sendable v.pair v.held) → ranging v ≡ refusal 13
unfolding ranging
ranging_none v l n = said_no (range_questions v) _ refusal 13 (inr (l, inl (refl, n)))

-- The ends that are shown are those of the admissible range.
pub ranging_from : (v : View) (b : RangeAnswer) → ranging v ≡ result b
    → Legal v × ((r : Extremes (Sendable v.pair v.held)) × (range_answer r.lo r.hi ≡ b))
unfolding ranging
ranging_from v b e = let (ys, s) = result_from (range_questions v) _ b e in (ys.0, (ys.1.0, s))

-- The window of the next tick alone bounds its count, where it has a ceiling.
count_within : (p : AnyPair) (xs : List ℕ) (x : ℕ) → 1 ≤ horizon (curves_of p) → (question4 p).asked → Sendable p xs x → x ≤ figure_limit
count_within (limited p) xs x h f k =
    omega (arith, (k 1 alone).0, last_next xs x 0 (omega arith), last_none xs, f.0 1 (le_refl 1) h)
  where
    alone : Judged p (then xs x) 1
    alone = record { positive = le_refl 1; within = h; begun = omega (arith, length-then xs x) }
count_within (unlimited n ls) xs x h f k = k.1

pub count_limited : (v : View) → Legal v → (x : ℕ) → Sendable v.pair v.held x → x ≤ figure_limit
count_limited v l x k = count_within v.pair v.held x l.lengths.0 l.figures k

-- So these are the counts up to the limit that keep every judged window.
sendable_keeps : (p : AnyPair) (xs : List ℕ) (x : ℕ) → Sendable p xs x → Keeps (curves_of p) (then xs x)
sendable_keeps (limited p) xs x k = k
sendable_keeps (unlimited n ls) xs x k = k.0

keeps_sendable : (p : AnyPair) (xs : List ℕ) (x : ℕ) → Keeps (curves_of p) (then xs x) → x ≤ figure_limit → Sendable p xs x
keeps_sendable (limited p) xs x k l = k
keeps_sendable (unlimited n ls) xs x k l = (k, l)

pub sendable_iff : (v : View) → Legal v → (x : ℕ)
    → Sendable v.pair v.held x ↔ (Keeps (curves_of v.pair) (then v.held x) × (x ≤ figure_limit))
sendable_iff v l x = (
  (λ k. (sendable_keeps v.pair v.held x k, count_limited v l x k)),
  (λ k. keeps_sendable v.pair v.held x k.0 k.1),
)

pub chosen_within : (b : RangeAnswer) (choice : ℕ) → b.lo ≤ b.hi → (b.lo ≤ chosen b choice) × (chosen b choice ≤ b.hi)
chosen_within b choice l =
    let m : choice % suc (b.hi - b.lo) < suc (b.hi - b.lo) = mod-lt choice {m = suc (b.hi - b.lo)} (omega arith) in
    (omega arith, omega arith)

pub sent_from_lem : (v : View) (choice x : ℕ) → sending v choice ≡ result x → (b : RangeAnswer) × (ranging v ≡ result b) × (chosen b choice ≡ x)
sent_from_lem v choice x = go (ranging v)
  where
    go : (a : Reply RangeAnswer) → sent_from a choice ≡ result x → (b : RangeAnswer) × (a ≡ result b) × (chosen b choice ≡ x)
    go (result b) e = (b, refl, same_result (chosen b choice) x e)
    go (refusal n) e = absurd (no_refusal x n (sym e))

-- ---- next states
pub generator_next : (g : Generator) (choice : ℕ) (r : Sent) → GeneratorTicked g choice r
    → view_of r.next.history ≡ view_after (sending (view_of g.history) choice) (view_of g.history)
generator_next g choice r t = go (sending (view_of g.history) choice) t.next
  where
    go : (a : Reply ℕ) → GeneratorNext a g r.next → view_of r.next.history ≡ view_after a (view_of g.history)
    go (result x) e = e
    go (refusal n) e = ap (λ (k : Generator). view_of k.history) e
