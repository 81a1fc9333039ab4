-- A loop that answers the entries of a list one after the other, carrying a state, into another list. Assumes nothing.
use Rattle.laws.proofs.Base.{ℕ, suc, ◌+◌, ◌-◌, ◌≤◌, ◌<◌, min, ◌≡◌, refl, true, sym, ap, ◌∙◌, List, [], ◌∷◌, ◌++◌, map, arith}
use Rattle.laws.proofs.Base.{append_assoc, append-nil, add-one, length, get_or, set, take, drop, replicate, length-append, length-drop}
use Rattle.laws.proofs.Base.{length-replicate, drop_of_length-le, length-take-le, drop-cons, take-suc, take_all, take_at, take-append_seam}
use Rattle.laws.proofs.Base.{set_at, dec_lt, dec_le}
use mathlib.Core.List.{map-append}
use Rattle.std.proofs.lemmas.List.{take-replicate}
use Rattle.std.proofs.lemmas.Slice.{drop-append-drop}
use borrow.Rule.Slice.PartMut.{mid_of, put_mid}
use lib.IntN.{ℤ, pos}
use lib.ListN.{length-map, take-append-drop}
use lib.Seq.{set_out, take-append-le, take-nil, take-append-add, drop-drop}
use Rattle.laws.specs.Writing.{over}
use Rattle.laws.proofs.Copying.{over_whole}
use Rattle.curves.specs.Margins.{Margin}
use Rattle.history.specs.States.{View}
use Rattle.monitor.specs.Monitoring.{MonitorView, LegalMonitor, judging}
use Rattle.monitor.specs.Margins.{carried}
use Rattle.monitor.specs.Calls.{monitor_after, after_tick, after_ticks, rulings, margins}
use Rattle.monitor.proofs.Said.{judging_failed, carried_failed}
use Rattle.generator.specs.Generating.{sending}
use Rattle.generator.specs.Calls.{view_after, sendings, after_sendings}
use Rattle.scripts.specs.Codes.{ruling_code, sending_code}
use Rattle.scripts.specs.Scripts.{margin_values}
use Rattle.scripts.specs.Runs.{filled_from}
use Rattle.scripts.proofs.Pieces.{after-append, rulings-append, margins-append, sendings-append, sent-append}
use Rattle.scripts.proofs.Pieces.{rulings-length, margins-length, sendings-length}

-- No entry, over a list, leaves it as it is.
pub over_none : {A : Type 0} (found : List A) → found ≡ over [] found
over_none found = ap (λ t. t ++ found) (sym (take-nil (length found)))

-- One entry more is put over a list; where there is no place for it, nothing changes.
pub over_more : {A : Type 0} (ys : List A) (y : A) (found : List A) (i : ℕ) → i ≡ length ys
    → set (over ys found) i y ≡ over (ys ++ (y ∷ [])) found
over_more ys y found i e =
    elim (dec_lt (length ys) (length found)) [
      | yes l ↦
          ap (λ t. set (t ++ drop (length ys) found) i y) (take_all (length found) ys (omega arith))
          ∙ ap (λ t. set (ys ++ t) i y) (drop-cons found (length ys) y l)
          ∙ set_at ys (get_or found (length ys) y) (drop (suc (length ys)) found) y i (sym e)
          ∙ sym (append_assoc ys (y ∷ []) (drop (suc (length ys)) found))
          ∙ sym (ap (λ t. t ++ drop (length (ys ++ (y ∷ []))) found) (take_all (length found) (ys ++ (y ∷ [])) (omega (arith, more)))
          ∙ ap (λ n. (ys ++ (y ∷ [])) ++ drop n found) more)
      | no l ↦
          let none : drop (length ys) found ≡ [] = drop_of_length-le found {i = length ys} (omega arith) in
          let gone : drop (length (ys ++ (y ∷ []))) found ≡ [] = drop_of_length-le found {i = length (ys ++ (y ∷ []))}
          (omega (arith, more)) in
          let short : length (take (length found) ys) ≡ length found = length-take-le (length found) ys (omega arith) in
          ap (λ t. set t i y) (ap (λ t. take (length found) ys ++ t) none ∙ append-nil (take (length found) ys))
          ∙ set_out (take (length found) ys) i y (omega (arith, short))
          ∙ sym (ap (λ t. take (length found) (ys ++ (y ∷ [])) ++ t) gone ∙ append-nil _
          ∙ take-append-le (length found) ys (y ∷ []) (omega arith))
    ]
  where
    more : length (ys ++ (y ∷ [])) ≡ suc (length ys)
    more = length-append ys (y ∷ []) ∙ omega arith

-- `run s xs` are the answers to xs from the state s; one more, to x, is `one` of the state that xs leave.
module _ {S A : Type 0} (run : S → List ℕ → List A) (after : S → List ℕ → S) (one : S → ℕ → A)
    (run-one : (s : S) (xs : List ℕ) (x : ℕ) → run s (xs ++ (x ∷ [])) ≡ run s xs ++ (one (after s xs) x ∷ []))
    (run_length : (s : S) (xs : List ℕ) → length (run s xs) ≡ length xs) where
  put_more : (s : S) (xs : List ℕ) (found out : List A) (i : ℕ) (y : A) → i < length xs → out ≡ over (run s (take i xs)) found
      → y ≡ one (after s (take i xs)) (get_or xs i 0) → set out i y ≡ over (run s (take (i + 1) xs)) found
  put_more s xs found out i y l e f =
      ap (λ t. set t i y) e
      ∙ over_more (run s (take i xs)) y found i (sym (run_length s (take i xs) ∙ length-take-le i xs (omega arith)))
      ∙ ap (λ t. over (run s (take i xs) ++ (t ∷ [])) found) f
      ∙ ap (λ t. over t found) (sym (run-one s (take i xs) (get_or xs i 0)))
      ∙ ap (λ t. over (run s t) found) (rw (add-one i) (sym (take-suc xs i 0 l)))

-- ---- verdicts, margins and counts
abbrev pub codes : MonitorView → List ℕ → List ℕ
codes w xs = map ruling_code (rulings w xs)

abbrev pub values : MonitorView → List ℕ → List ℤ
values w xs = margin_values (margins w xs)

abbrev pub sends : View → List ℕ → List ℕ
sends v xs = map sending_code (sendings v xs)

pub codes_append : (w : MonitorView) (xs ys : List ℕ) → codes w (xs ++ ys) ≡ codes w xs ++ codes (after_ticks w xs) ys
codes_append w xs ys = ap (map ruling_code) (rulings-append w xs ys) ∙ map-append ruling_code (rulings w xs) _

pub values_append : (w : MonitorView) (xs ys : List ℕ) → values w (xs ++ ys) ≡ values w xs ++ values (after_ticks w xs) ys
values_append w xs ys = ap margin_values (margins-append w xs ys) ∙ map-append (λ (m : Margin). m.value) (margins w xs) _

pub sends_append : (v : View) (xs ys : List ℕ) → sends v (xs ++ ys) ≡ sends v xs ++ sends (after_sendings v xs) ys
sends_append v xs ys = ap (map sending_code) (sendings-append v xs ys) ∙ map-append sending_code (sendings v xs) _

pub codes_length : (w : MonitorView) (xs : List ℕ) → length (codes w xs) ≡ length xs
codes_length w xs = length-map (rulings w xs) ruling_code ∙ rulings-length w xs

pub values_length : (w : MonitorView) (xs : List ℕ) → length (values w xs) ≡ length xs
values_length w xs = length-map (margins w xs) (λ (m : Margin). m.value) ∙ margins-length w xs

pub sends_length : (v : View) (xs : List ℕ) → length (sends v xs) ≡ length xs
sends_length v xs = length-map (sendings v xs) sending_code ∙ sendings-length v xs

codes_one : (w : MonitorView) (xs : List ℕ) (x : ℕ) → codes w (xs ++ (x ∷ [])) ≡ codes w xs ++
    (ruling_code (judging (after_ticks w xs) x) ∷ [])
unfolding rulings
codes_one w xs x = codes_append w xs (x ∷ [])

values_one : (w : MonitorView) (xs : List ℕ) (x : ℕ) → values w (xs ++ (x ∷ [])) ≡ values w xs ++ ((carried (after_ticks w xs) x).value ∷ [])
unfolding margins
values_one w xs x = values_append w xs (x ∷ [])

sends_one : (v : View) (xs : List ℕ) (x : ℕ) → sends v (xs ++ (x ∷ [])) ≡ sends v xs ++ (sending_code (sending (after_sendings v xs) x) ∷ [])
unfolding sendings
sends_one v xs x = sends_append v xs (x ∷ [])

after_one : (w : MonitorView) (xs : List ℕ) (x : ℕ) → after_ticks w (xs ++ (x ∷ [])) ≡ after_tick (after_ticks w xs) x
unfolding after_ticks
after_one w xs x = after-append w xs (x ∷ [])

sent_one : (v : View) (xs : List ℕ) (x : ℕ) → after_sendings v (xs ++ (x ∷ [])) ≡ view_after (sending (after_sendings v xs) x)
    (after_sendings v xs)
unfolding after_sendings
sent_one v xs x = sent-append v xs (x ∷ [])

-- ---- a turn of each loop
module _ (w : MonitorView) (xs : List ℕ) (i : ℕ) (l : i < length xs) (m : MonitorView) (is : m ≡ after_ticks w (take i xs)) where
  pub verdict_put : (found out : List ℕ) (y : ℕ) → out ≡ over (codes w (take i xs)) found → y ≡ ruling_code (judging m (get_or xs i 0))
      → set out i y ≡ over (codes w (take (i + 1) xs)) found
  verdict_put found out y e f =
      put_more codes after_ticks (λ u x. ruling_code (judging u x)) codes_one codes_length w xs found out i y l e
      (f ∙ ap (λ u. ruling_code (judging u (get_or xs i 0))) is)

  pub margin_put : (found out : List ℤ) (y : ℤ) → out ≡ over (values w (take i xs)) found → y ≡ (carried m (get_or xs i 0)).value
      → set out i y ≡ over (values w (take (i + 1) xs)) found
  margin_put found out y e f =
      put_more values after_ticks (λ u x. (carried u x).value) values_one values_length w xs found out i y l e
      (f ∙ ap (λ u. (carried u (get_or xs i 0)).value) is)

  pub tick_on : (m' : MonitorView) → m' ≡ after_tick m (get_or xs i 0) → m' ≡ after_ticks w (take (i + 1) xs)
  tick_on m' e =
      e ∙ ap (λ u. after_tick u (get_or xs i 0)) is ∙ sym (after_one w (take i xs) (get_or xs i 0))
      ∙ ap (after_ticks w) (rw (add-one i) (sym (take-suc xs i 0 l)))

module _ (v : View) (xs : List ℕ) (i : ℕ) (l : i < length xs) (u : View) (is : u ≡ after_sendings v (take i xs)) where
  pub count_put : (found out : List ℕ) (y : ℕ) → out ≡ over (sends v (take i xs)) found → y ≡ sending_code (sending u (get_or xs i 0))
      → set out i y ≡ over (sends v (take (i + 1) xs)) found
  count_put found out y e f =
      put_more sends after_sendings (λ z x. sending_code (sending z x)) sends_one sends_length v xs found out i y l e
      (f ∙ ap (λ z. sending_code (sending z (get_or xs i 0))) is)

  pub send_on_lem : (u' : View) → u' ≡ view_after (sending u (get_or xs i 0)) u → u' ≡ after_sendings v (take (i + 1) xs)
  send_on_lem u' e =
      e ∙ ap (λ z. view_after (sending z (get_or xs i 0)) z) is ∙ sym (sent_one v (take i xs) (get_or xs i 0))
      ∙ ap (after_sendings v) (rw (add-one i) (sym (take-suc xs i 0 l)))

-- ---- one entry in every place from i on
module _ {A : Type 0} (a : A) (xs : List A) (i n : ℕ) where
  -- As many as there are places for are put there at once.
  pub filled_put : (m : ℕ) (put : List A) → i + m ≤ length xs → m ≡ min n (length xs - i) → put ≡ replicate (length (mid_of i m xs)) a
      → put_mid i m xs put ≡ filled_from a i n xs
  filled_put m put fits e p =
      ap (λ t. take i xs ++ (t ++ drop m (drop i xs))) (p ∙ ap (λ k. replicate k a) many)
      ∙ sym (append_assoc (take i xs) (replicate m a) (drop m (drop i xs)))
      ∙ sym (λ k. front k ++ back k)
    where
      many : length (mid_of i m xs) ≡ m
      many = length-take-le m (drop i xs) (omega (arith, length-drop i xs))

      head : length (take i xs) ≡ i
      head = length-take-le i xs (omega arith)

      whole : length (take i xs ++ replicate n a) ≡ i + n
      whole = length-append (take i xs) (replicate n a) ∙ (λ k. head k + length-replicate {A = A} n a k)

      room : length xs ≡ length (take i xs) + (length xs - i)
      room = omega (arith, head)

      as_many : take (length xs - i) (replicate n a) ≡ replicate m a
      as_many =
          elim (dec_le n (length xs - i)) [
            | yes h ↦
                let k : m ≡ n = omega arith in
                take_all (length xs - i) (replicate n a) (omega (arith, length-replicate {A = A} n a)) ∙ ap (λ k. replicate k a) (sym k)
            | no h ↦
                let k : m ≡ length xs - i = omega arith in take-replicate (length xs - i) n a (omega arith) ∙ ap (λ k. replicate k a) (sym k)
          ]

      front : take (length xs) (take i xs ++ replicate n a) ≡ take i xs ++ replicate m a
      front =
          ap (λ k. take k (take i xs ++ replicate n a)) room ∙ take-append-add (take i xs) (replicate n a) (length xs - i)
          ∙ ap (λ t. take i xs ++ t) as_many

      back : drop (length (take i xs ++ replicate n a)) xs ≡ drop m (drop i xs)
      back =
          ap (λ k. drop k xs) whole
          ∙ elim (dec_le n (length xs - i)) [
            | yes h ↦ let k : i + n ≡ i + m = omega arith in ap (λ k. drop k xs) k
            | no h ↦ drop_of_length-le xs {i = i + n} (omega arith) ∙ sym (drop_of_length-le xs {i = i + m} (omega arith))
          ]
          ∙ sym (drop-drop m i xs)

-- Answers for which there is room.
pub over_all : {A : Type 0} (ys found : List A) (i : ℕ) → length ys ≡ i → i ≤ length found → over ys found ≡ ys ++ drop i found
over_all ys found i e h =
    ap (λ t. t ++ drop (length ys) found) (take_all (length found) ys (omega arith)) ∙ ap (λ k. ys ++ drop k found) e

-- Put behind answers that were put over a list before, as if all of them were put over it together.
pub over_behind : {A : Type 0} (ys zs found : List A) (i : ℕ) → length ys ≡ i
    → over (take i (over ys found) ++ zs) (over ys found) ≡ over (ys ++ zs) found
over_behind {A} ys zs found i e =
    elim (dec_le i (length found)) [
      | yes h ↦
          let out : over ys found ≡ ys ++ drop i found = over_all ys found i e h in
          let same : length (ys ++ drop i found) ≡ length found =
          length-append ys (drop i found) ∙ omega (arith, length-drop i found) in
          let behind : drop (length (ys ++ zs)) (ys ++ drop i found) ≡ drop (length (ys ++ zs)) found =
          drop-append-drop i found ys (length (ys ++ zs)) (omega (arith, length-append ys zs)) e in
          ap (λ t. over (take i t ++ zs) t) out
          ∙ ap (λ t. over (t ++ zs) (ys ++ drop i found)) (take_at ys (drop i found) i e)
          ∙ (λ j. take (same j) (ys ++ zs) ++ behind j)
      | no h ↦
          let few : length found ≤ length ys = omega arith in
          let s : List A = take (length found) ys in
          let short : length s ≡ length found = length-take-le (length found) ys few in
          let out : over ys found ≡ s =
          ap (λ t. s ++ t) (drop_of_length-le found {i = length ys} few) ∙ append-nil s in
          ap (λ t. over (take i t ++ zs) t) out
          ∙ ap (λ t. over (t ++ zs) s) (take_all i s (omega arith))
          ∙ ap (λ t. take (length s) (s ++ zs) ++ t) (drop_of_length-le s {i = length (s ++ zs)} (omega (arith, length-append s zs)))
          ∙ append-nil _ ∙ take-append_seam s zs
          ∙ sym (ap (λ t. take (length found) (ys ++ zs) ++ t)
          (drop_of_length-le found {i = length (ys ++ zs)} (omega (arith, length-append ys zs)))
          ∙ append-nil _ ∙ take-append-le (length found) ys zs few)
    ]

-- A monitor that has failed answers so: its view m stays.
module _ (m : MonitorView) (l : LegalMonitor m) (f : m.failed ≡ true) where
  failed_stays : (x : ℕ) → m ≡ after_tick m x
  failed_stays x = ap (λ r. monitor_after r m x) (sym (judging_failed m x l f))

  pub failed_after : (xs : List ℕ) → m ≡ after_ticks m xs
  unfolding after_ticks
  failed_after [] = refl
  failed_after (x ∷ xs) = failed_after xs ∙ ap (λ u. after_ticks u xs) (failed_stays x)

  pub failed_codes : (xs : List ℕ) → codes m xs ≡ replicate (length xs) 3_000
  unfolding rulings
  failed_codes [] = refl
  failed_codes (x ∷ xs) =
      λ i. ruling_code (judging_failed m x l f i) ∷ (ap (λ u. codes u xs) (sym (failed_stays x)) ∙ failed_codes xs) i

  pub failed_values : (xs : List ℕ) → values m xs ≡ replicate (length xs) (pos 0)
  unfolding margins
  failed_values [] = refl
  failed_values (x ∷ xs) =
      λ i. (carried_failed m x l f i).value ∷ (ap (λ u. values u xs) (sym (failed_stays x)) ∙ failed_values xs) i

  -- It is what the first i of the counts xs have left of the view w: the others are answered so.
  module _ (w : MonitorView) (xs : List ℕ) (i n : ℕ) (h : i ≤ length xs) (left : n ≡ length xs - i) (is : m ≡ after_ticks w (take i xs)) where
    pub failed_end : m ≡ after_ticks w xs
    failed_end =
        failed_after (drop i xs) ∙ ap (λ u. after_ticks u (drop i xs)) is ∙ sym (after-append w (take i xs) (drop i xs))
        ∙ ap (after_ticks w) (take-append-drop i xs)

    others : length (drop i xs) ≡ n
    others = length-drop i xs ∙ sym left

    pub failed_verdicts : (found out : List ℕ) → out ≡ over (codes w (take i xs)) found → filled_from 3_000 i n out ≡ over (codes w xs) found
    failed_verdicts found out e =
        ap (filled_from 3_000 i n) e
        ∙ over_behind (codes w (take i xs)) (replicate n 3_000) found i (codes_length w (take i xs) ∙ length-take-le i xs h)
        ∙ ap (λ t. over t found)
        (ap (λ t. codes w (take i xs) ++ t)
        (ap (λ k. replicate k 3_000) (sym others) ∙ sym (failed_codes (drop i xs)) ∙ ap (λ u. codes u (drop i xs)) is)
        ∙ sym (codes_append w (take i xs) (drop i xs)) ∙ ap (codes w) (take-append-drop i xs))

    pub failed_margins : (found out : List ℤ) → out ≡ over (values w (take i xs)) found → filled_from (pos 0) i n out ≡ over (values w xs) found
    failed_margins found out e =
        ap (filled_from (pos 0) i n) e
        ∙ over_behind (values w (take i xs)) (replicate n (pos 0)) found i (values_length w (take i xs) ∙ length-take-le i xs h)
        ∙ ap (λ t. over t found)
        (ap (λ t. values w (take i xs) ++ t)
        (ap (λ k. replicate k (pos 0)) (sym others) ∙ sym (failed_values (drop i xs)) ∙ ap (λ u. values u (drop i xs)) is)
        ∙ sym (values_append w (take i xs) (drop i xs)) ∙ ap (values w) (take-append-drop i xs))

-- ---- the end of each: no entry of the list is left
pub put_all : {S : Type 0} (run : S → List ℕ → List ℕ) → ((s : S) (ys : List ℕ) → length (run s ys) ≡ length ys) → (s : S) (xs : List ℕ)
    (i : ℕ)
    → length xs ≤ i → (found out : List ℕ) → length found ≡ length xs → out ≡ over (run s (take i xs)) found → out ≡ run s xs
put_all run run_length s xs i h found out e f =
    f ∙ ap (λ t. over (run s t) found) (take_all i xs h) ∙ over_whole (run s xs) found (e ∙ sym (run_length s xs))
