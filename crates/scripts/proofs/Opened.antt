-- The words that an opening writes, one field behind the other. Assumes nothing.
use Rattle.laws.proofs.Base.{ℕ, suc, ◌+◌, ◌-◌, ◌≤◌, ◌<◌, ◌≡◌, refl, sym, ap, ◌∙◌, Bool, true, false, List, [], ◌∷◌, ◌++◌, arith}
use Rattle.laws.proofs.Base.{append_assoc, append-nil, length, set, take, drop, replicate, length-append, length-set, length-drop}
use Rattle.laws.proofs.Base.{length-replicate, length-take-le, take_all, take_at, drop_of_length-le, inl}
use Rattle.std.proofs.Common.{Result, Ok, Err, MatchResult, IsErrAnd}
use Rattle.std.proofs.lemmas.Result.{err_from_is_err_and}
use lib.ListN.{length-take}
use lib.Seq.{take-suc-set}
use borrow.Rule.Slice.PartMut.{mid_of, put_mid, same_len_mid}
use mir.Val.{bool_byte}
use Rattle.laws.specs.Ranges.{table}
use Rattle.curves.specs.Pairs.{Pair, pair_of, horizon}
use Rattle.curves.specs.Unlimited.{AnyPair, limited, with_mark, curves_of}
use Rattle.curves.specs.Questions.{Question, AllYes, Reply, result, refusal, reply_to, reply_of}
use Rattle.curves.proofs.Asked.{said_yes, said_no, yes_append, no_before, no_after, refusal_iff, result_from}
use Rattle.bounds.specs.Bounds.{max_horizon}
use Rattle.closure.specs.Theorems.{closure_of, room}
use Rattle.history.specs.States.{entries, view_of}
use Rattle.history.proofs.Histories.{horizon_seen}
use Rattle.monitor.specs.declared.Monitor.{Monitor}
use Rattle.monitor.specs.Monitoring.{MonitorView, monitor_view_of, closed_in}
use Rattle.monitor.specs.Opening.{monitor_questions, monitor_opening, fresh_monitor}
use Rattle.generator.specs.Opening.{generator_questions, generator_opening}
use Rattle.scripts.specs.declared.OpenRefusal.{OpenRefusal}
use Rattle.scripts.specs.declared.OpenRefusal.TheVariants.{Refused}
use Rattle.scripts.specs.Answers.{opening_number}
use Rattle.scripts.specs.Words.{mark_word, generator_words, monitor_words, length_question, padded, opened_words, closed_words}
use Rattle.scripts.specs.Words.{opened_monitor_words}
use Rattle.scripts.specs.Scripts.{opened, opened_into, monitor_opened, generator_opened}
use Rattle.scripts.specs.Runs.{shown, closed_from}

-- ---- what is known of the front of a list, when more is put behind it
front_put : (l p fs : List ℕ) (a k : ℕ) → take a l ≡ fs → a ≤ length l → length p ≡ k → take (a + k) (put_mid a k l p) ≡ fs ++ p
front_put l p fs a k e h n =
    ap (take (a + k)) (sym (append_assoc (take a l) p (drop k (drop a l))))
    ∙ take_at (take a l ++ p) (drop k (drop a l)) (a + k)
    (length-append (take a l) p ∙ (λ i. length-take-le a l h i + n i))
    ∙ ap (λ t. t ++ p) e

front-set : (l fs : List ℕ) (a x : ℕ) → take a l ≡ fs → a < length l → take (suc a) (set l a x) ≡ fs ++ (x ∷ [])
front-set l fs a x e h = take-suc-set l a x h ∙ ap (λ t. t ++ (x ∷ [])) e

pub put-length : (l p : List ℕ) (a k : ℕ) → a + k ≤ length l → length p ≡ k → length (put_mid a k l p) ≡ length l
put-length l p a k h e = same_len_mid a k l p (e ∙ sym (length-take-le k (drop a l) (omega (arith, length-drop a l))))

pub padded-length : (us : List ℕ) → length us ≤ 256 → length (padded us) ≡ 256
padded-length us h =
    length-append us (replicate (max_horizon - length us) 0)
    ∙ ap (λ n. length us + n) (length-replicate (max_horizon - length us) 0) ∙ omega arith

-- ---- a pair
module _ (ws : List ℕ) (h m : ℕ) (long : length ws ≡ 771) (pu pl z : List ℕ) (e : length pu ≡ 256) (f : length pl ≡ 256) where
  abbrev numbers : List ℕ
  numbers = set (set ws 0 h) 1 m

  numbers_length : length numbers ≡ 771
  numbers_length = length-set (set ws 0 h) 1 m ∙ length-set ws 0 h ∙ long

  abbrev uppers : List ℕ
  uppers = put_mid 2 256 numbers pu

  uppers-length : length uppers ≡ 771
  uppers-length = put-length numbers pu 2 256 (omega (arith, numbers_length)) e ∙ numbers_length

  abbrev pub lowers : List ℕ
  lowers = put_mid 258 256 uppers pl

  lowers-length : length lowers ≡ 771
  lowers-length = put-length uppers pl 258 256 (omega (arith, uppers-length)) f ∙ uppers-length

  -- The rest is 0.
  abbrev pub rest_of_all : List ℕ
  rest_of_all = take (length lowers - 514) (drop 514 lowers)

  pub pair_written : z ≡ replicate (length rest_of_all) 0
      → put_mid 514 (length lowers - 514) lowers z ≡ h ∷ m ∷ (pu ++ (pl ++ replicate 257 0))
  pair_written zeros =
      let k : length lowers - 514 ≡ 257 = omega (arith, lowers-length) in
      let l : length rest_of_all ≡ 257 =
      length-take-le (length lowers - 514) (drop 514 lowers) (omega (arith, length-drop 514 lowers)) ∙ k in
      let g : length z ≡ 257 = ap length zeros ∙ length-replicate {A = ℕ} (length rest_of_all) 0 ∙ l in
      let two : take 2 numbers ≡ h ∷ m ∷ [] =
      front-set (set ws 0 h) (h ∷ []) 1 m (front-set ws [] 0 h refl (omega arith)) (omega (arith, length-set ws 0 h)) in
      let one = front_put numbers pu (h ∷ m ∷ []) 2 256 two (omega (arith, numbers_length)) e in
      let both = front_put uppers pl ((h ∷ m ∷ []) ++ pu) 258 256 one (omega (arith, uppers-length)) f in
      let all = front_put lowers z (((h ∷ m ∷ []) ++ pu) ++ pl) 514 257 both (omega (arith, lowers-length)) g in
      ap (λ n. put_mid 514 n lowers z) k
      ∙ sym (take_all 771 (put_mid 514 257 lowers z) (omega (arith, put-length lowers z 514 257 (omega (arith, lowers-length)) g, lowers-length)))
      ∙ all ∙ append_assoc (h ∷ m ∷ pu) pl z
      ∙ ap (λ t. h ∷ m ∷ (pu ++ (pl ++ t))) (zeros ∙ ap (λ n. replicate n 0) l)

-- The mark is a number as the library has it.
pub mark_written : (b : Bool) → bool_byte b ≡ mark_word b
mark_written true = refl
mark_written false = refl

pub shown_few : (h : ℕ) (b : Bool) (n : ℕ) → n ≡ shown h b → n ≤ h
shown_few h true n e = omega arith
shown_few h false n e = omega arith

pub opened_is : (us ls : List ℕ) (b : Bool)
    → length us ∷ mark_word b ∷ (padded (take (shown (length us) b) us) ++ (padded ls ++ replicate 257 0)) ≡ opened_words (with_mark us ls b)
opened_is us ls false =
    ap (λ t. length us ∷ 0 ∷ (padded t ++ (padded ls ++ replicate 257 0))) (take_all (length us) us (omega arith))
opened_is us ls true = refl

-- ---- the closed figures
pub closed_written : (ws pu pl : List ℕ) → length ws ≡ 513 → length pu ≡ 256 → length pl ≡ 256
    → set (put_mid 256 256 (pu ++ drop 256 ws) pl) 512 0 ≡ pu ++ (pl ++ (0 ∷ []))
closed_written ws pu pl n e f =
    let long : length (pu ++ drop 256 ws) ≡ 513 = length-append pu (drop 256 ws) ∙ omega (arith, length-drop 256 ws) in
    let both = front_put (pu ++ drop 256 ws) pl pu 256 256 (take_at pu (drop 256 ws) 256 e) (omega (arith, long)) f in
    let mid : length (put_mid 256 256 (pu ++ drop 256 ws) pl) ≡ 513 =
    put-length (pu ++ drop 256 ws) pl 256 256 (omega (arith, long)) f ∙ long in
    let all = front-set (put_mid 256 256 (pu ++ drop 256 ws) pl) (pu ++ pl) 512 0 both (omega (arith, mid)) in
    sym (take_all 513 (set (put_mid 256 256 (pu ++ drop 256 ws) pl) 512 0)
    (omega (arith, length-set (put_mid 256 256 (pu ++ drop 256 ws) pl) 512 0, mid)))
    ∙ all ∙ append_assoc pu pl (0 ∷ [])

-- ---- both
pub rest_there : (ws ps : List ℕ) → length ws ≡ 1_284 → length ps ≡ 771
    → length (mid_of 771 (length (ps ++ drop 771 ws) - 771) (ps ++ drop 771 ws)) ≡ 513
rest_there ws ps n e =
    let long : length (ps ++ drop 771 ws) ≡ 1_284 = length-append ps (drop 771 ws) ∙ omega (arith, length-drop 771 ws) in
    length-take-le (length (ps ++ drop 771 ws) - 771) (drop 771 (ps ++ drop 771 ws)) (omega (arith, length-drop 771 (ps ++ drop 771 ws)))
    ∙ omega (arith, long)

pub monitor_written : (ws ps cs : List ℕ) → length ws ≡ 1_284 → length ps ≡ 771
    → put_mid 771 (length (ps ++ drop 771 ws) - 771) (ps ++ drop 771 ws) cs ≡ ps ++ cs
monitor_written ws ps cs n e =
    let long : length (ps ++ drop 771 ws) ≡ 1_284 = length-append ps (drop 771 ws) ∙ omega (arith, length-drop 771 ws) in
    let front : take 771 (ps ++ drop 771 ws) ≡ ps = take_at ps (drop 771 ws) 771 e in
    let none : drop (length (ps ++ drop 771 ws) - 771) (drop 771 (ps ++ drop 771 ws)) ≡ [] =
    drop_of_length-le (drop 771 (ps ++ drop 771 ws)) {i = length (ps ++ drop 771 ws) - 771}
    (omega (arith, length-drop 771 (ps ++ drop 771 ws))) in
    (λ i. front i ++ (cs ++ none i)) ∙ ap (λ t. ps ++ t) (append-nil cs)

pub opened-length : (us ls : List ℕ) (b : Bool) → length us ≤ 256 → length ls ≤ 256 → length (opened_words (with_mark us ls b)) ≡ 771
opened-length us ls b h k =
    ap length (sym (opened_is us ls b))
    ∙ ap (λ n. suc (suc n))
    (length-append (padded shown_figures) (padded ls ++ replicate 257 0)
    ∙ (λ i. padded-length shown_figures few i + (length-append (padded ls) (replicate 257 0) ∙ (λ j. padded-length ls k j + 257)) i))
  where
    shown_figures : List ℕ
    shown_figures = take (shown (length us) b) us

    few : length shown_figures ≤ 256
    few = omega (arith, length-take (shown (length us) b) us)

-- A monitor that was opened holds the closed figures of its pair.
pub closed_is : (us ls : List ℕ) (b : Bool) (m : Monitor) → monitor_view_of m ≡ fresh_monitor (with_mark us ls b)
    → closed_from (shown (length us) b) m ≡ closed_words (with_mark us ls b) (curves_of (closure_of (with_mark us ls b) room))
unfolding table
closed_is us ls true m is = refl
closed_is us ls false m is =
    ap (λ n. closed_from n m) (sym windows) ∙ (λ i. padded (figures i).upper ++ (padded (figures i).lower ++ (0 ∷ [])))
  where
    held : Pair
    held = pair_of (entries m.history.horizon m.closed_upper) (entries m.history.horizon m.closed_lower)

    pair : (view_of m.history).pair ≡ limited (pair_of us ls)
    pair = ap (λ (w : MonitorView). w.view.pair) is

    figures : held ≡ curves_of (closure_of (limited (pair_of us ls)) room)
    figures = ap (λ (p : AnyPair). closed_in p held) (sym pair) ∙ ap (λ (w : MonitorView). w.closed) is

    windows : m.history.horizon ≡ length us
    windows = sym (horizon_seen m.history) ∙ ap (λ (p : AnyPair). horizon (curves_of p)) pair

-- ---- the questions
module _ (qs : List Question) (y : AllYes qs → Unit {0}) where
  asked_yes : result tt ≡ reply_to qs y → AllYes qs
  asked_yes e = (result_from qs y tt (sym e)).0

  into_refused : (rs : List Question) (words found : List ℕ) (n : ℕ) → refusal n ≡ reply_to qs y
      → opened n found ≡ opened_into (qs ++ rs) words found
  into_refused rs words found n e = sym (said_no (qs ++ rs) _ _ n (no_before qs rs n ((refusal_iff qs y n).0 (sym e))))

into_length : (qs : List Question) (n : ℕ) (words found : List ℕ) → AllYes qs → ¬ (length found ≡ n)
    → opened 12 found ≡ opened_into (qs ++ (length_question n found ∷ [])) words found
into_length qs n words found ys h = sym (said_no _ _ _ 12 (no_after qs (length_question n found ∷ []) 12 ys (inl (refl, h))))

into_written : (qs : List Question) (n : ℕ) (words found left : List ℕ) → AllYes qs → length found ≡ n → left ≡ words
    → opened 0 left ≡ opened_into (qs ++ (length_question n found ∷ [])) words found
into_written qs n words found left ys h is =
    ap (opened 0) is ∙ sym (said_yes _ _ _ _ (yes_append qs (length_question n found ∷ []) ys (h, tt)) (λ _. refl))

-- ---- the two openings
module _ (p : AnyPair) (found : List ℕ) where
  pub monitor_refused : (n : ℕ) → refusal n ≡ monitor_opening p → opened n found ≡ monitor_opened p found
  unfolding monitor_opening monitor_opened
  monitor_refused n e = into_refused (monitor_questions p) _ _ (opened_monitor_words p) found n e

  pub generator_refused : (n : ℕ) → refusal n ≡ generator_opening p → opened n found ≡ generator_opened p found
  unfolding generator_opening generator_opened
  generator_refused n e = into_refused (generator_questions p) _ _ (opened_words p) found n e

  module _ (e : result tt ≡ monitor_opening p) where
    pub monitor_asked : AllYes (monitor_questions p)
    unfolding monitor_opening
    monitor_asked = asked_yes (monitor_questions p) _ e

    pub monitor_long : ¬ (length found ≡ monitor_words) → opened 12 found ≡ monitor_opened p found
    unfolding monitor_opened
    monitor_long h = into_length (monitor_questions p) monitor_words (opened_monitor_words p) found monitor_asked h

    pub monitor_begun : length found ≡ monitor_words → (left : List ℕ) → left ≡ opened_monitor_words p → opened 0 left ≡ monitor_opened p found
    unfolding monitor_opened
    monitor_begun h left is = into_written (monitor_questions p) monitor_words (opened_monitor_words p) found left monitor_asked h is

  module _ (e : result tt ≡ generator_opening p) where
    pub generator_asked : AllYes (generator_questions p)
    unfolding generator_opening
    generator_asked = asked_yes (generator_questions p) _ e

    pub generator_long : ¬ (length found ≡ generator_words) → opened 12 found ≡ generator_opened p found
    unfolding generator_opened
    generator_long h = into_length (generator_questions p) generator_words (opened_words p) found generator_asked h

    pub generator_begun : length found ≡ generator_words → (left : List ℕ) → left ≡ opened_words p → opened 0 left ≡ generator_opened p found
    unfolding generator_opened
    generator_begun h left is = into_written (generator_questions p) generator_words (opened_words p) found left generator_asked h is

-- ---- an opening's refusal, as the reason why the state is not opened
abbrev passed_on : {R : Type 0} → Result (Unit {0}) R → Result (Unit {0}) (OpenRefusal R)
passed_on (Ok u) = Ok u
passed_on (Err e) = Err (Refused e)

pub mapped_is : {R : Type 0} (post : R → OpenRefusal R → Type 0) → ((e : R) (d : OpenRefusal R) → post e d → d ≡ Refused e)
    → (o : Result (Unit {0}) R) (r : Result (Unit {0}) (OpenRefusal R)) → MatchResult o (λ u. r ≡ Ok u) (λ e. IsErrAnd r (post e))
    → r ≡ passed_on o
mapped_is post is (Ok u) r h = h
mapped_is post is (Err e) r h = let p = err_from_is_err_and r h in p.1 ∙ ap Err (is e _ p.2)

pub passed_ok : {R : Type 0} (number : R → ℕ) (o : Result (Unit {0}) R) (r : Result (Unit {0}) (OpenRefusal R)) → r ≡ passed_on o
    → (answer : Reply (Unit {0})) → reply_of (λ u. u) number o ≡ answer → (u : Unit {0}) → r ≡ Ok u → result tt ≡ answer
passed_ok number (Ok v) r is answer told u e = told
passed_ok number (Err f) r is answer told u e = cc

pub passed_err : {R : Type 0} (number : R → ℕ) (o : Result (Unit {0}) R) (r : Result (Unit {0}) (OpenRefusal R)) → r ≡ passed_on o
    → (answer : Reply (Unit {0})) → reply_of (λ u. u) number o ≡ answer → (d : OpenRefusal R) → r ≡ Err d
    → refusal (opening_number number (Err d)) ≡ answer
passed_err number (Ok v) r is answer told d e = cc
passed_err number (Err f) r is answer told d e = let same : d ≡ Refused f = cc in rw same told
