-- Laws over plain variables for a count put behind the held entries of a list, where there is room and where the oldest goes, and for a
-- list of counts. Assumes nothing.
use Rattle.laws.proofs.Base.{ℕ, suc, ◌+◌, ◌-◌, ◌≤◌, ◌<◌, min, ◌≡◌, sym, ap, ◌∙◌, List, [], ◌∷◌, ◌++◌, arith, add-one, zero-add}
use Rattle.laws.proofs.Base.{length, set, take, drop, length-append, length-drop, drop_of_length-le}
use Rattle.laws.proofs.Base.{drop-cons, take_all, take_at, set_at, length-take-le, append_assoc}
use borrow.Rule.Slice.PartMut.{mid_of, put_mid}
use lib.ListN.{length-take, take-append-drop}
use lib.Seq.{drop-append-le, drop-append-add, drop-set-lt, take-suc-set, drop_at, drop-drop}
use Rattle.std.specs.List.{copy_within}
use Rattle.std.proofs.lemmas.List.{take_min, drop-take}
use Rattle.std.proofs.lemmas.List.Edits.{paste_all}
use Rattle.laws.specs.Writing.{over}
use Rattle.laws.proofs.Copying.{over_whole}
use Rattle.lists.specs.Pushing.{behind, held_with, Pushed, all_behind, held_with_all, PushedAll}

-- ---- one entry more
module _ (found : List ℕ) (n x : ℕ) where
  abbrev all : List ℕ
  all = behind found n x

  -- There is room for it.
  pub pushed_room : n < length found → Pushed found n x (set found n x) (n + 1)
  pushed_room l =
      let long : length all ≡ n + 1 = omega (arith, length-append (take n found) (x ∷ []), length-take n found) in
      let none : length all - length found ≡ 0 = omega arith in
      let is : held_with found n x ≡ all = ap (λ k. drop k all) none in
      let parts : set found n x ≡ all ++ drop (suc n) found =
      sym (take-append-drop (suc n) (set found n x)) ∙ rw (take-suc-set found n x l, drop-set-lt (suc n) found n x (omega arith)) in
      record {
        entries = parts ∙ sym (ap (λ ys. over ys found) is ∙ rw (take_all (length found) all (omega arith), long, add-one n));
        number = sym (ap length is ∙ long);
      }

  -- It is full: the others move down one place, and it comes last.
  pub pushed_full : length found ≤ n → 1 ≤ length found → (moved : List ℕ) → moved ≡ copy_within found 1 (length found) 0
      → Pushed found n x (set moved (length found - 1) x) (length found)
  pushed_full full some moved e = record {
    entries = last ∙ sym (over_whole (held_with found n x) found (sym long) ∙ is);
    number = sym long;
  }
    where
      is : held_with found n x ≡ drop 1 found ++ (x ∷ [])
      is =
          let one : length (found ++ (x ∷ [])) - length found ≡ 1 = omega (arith, length-append found (x ∷ [])) in
          rw (take_all n found full) (ap (λ k. drop k (found ++ (x ∷ []))) one) ∙ drop-append-le 1 found (x ∷ []) some

      long : length (held_with found n x) ≡ length found
      long = ap length is ∙ omega (arith, length-append (drop 1 found) (x ∷ []), length-drop 1 found)

      shifted : moved ≡ drop 1 found ++ drop (length found - 1) found
      shifted =
          e ∙ paste_all found 0 (drop 1 found) (length found - 1) (sym (length-drop 1 found))
          ∙ ap (λ k. drop 1 found ++ drop k found) (zero-add (length found - 1))

      last : set moved (length found - 1) x ≡ drop 1 found ++ (x ∷ [])
      last =
          ap (λ ys. set ys (length found - 1) x) shifted
          ∙ ap (λ ys. set (drop 1 found ++ ys) (length found - 1) x) (drop-cons found (length found - 1) 0 (omega arith))
          ∙ set_at (drop 1 found) _ _ x (length found - 1) (length-drop 1 found)
          ∙ ap (λ ys. drop 1 found ++ (x ∷ ys)) (drop_of_length-le found {i = suc (length found - 1)} (omega arith))

-- ---- a list of entries more
module _ (found : List ℕ) (n : ℕ) (xs : List ℕ) where
  all_length : length (all_behind found n xs) ≡ min n (length found) + length xs
  all_length = length-append (take n found) xs ∙ ap (λ k. k + length xs) (length-take n found)

  -- There are at least as many as there are places: the last of them take these all.
  pub pushed_over : length found ≤ length xs → (left : List ℕ)
      → left ≡ mid_of (length xs - length found) (length xs - (length xs - length found)) xs → PushedAll found n xs left (length found)
  pushed_over h left e = record {
    entries = e ∙ last ∙ sym (over_whole (held_with_all found n xs) found (sym long) ∙ is);
    number = sym long;
  }
    where
      last : mid_of (length xs - length found) (length xs - (length xs - length found)) xs ≡ drop (length xs - length found) xs
      last = take_all (length xs - (length xs - length found)) (drop (length xs - length found) xs)
          (omega (arith, length-drop (length xs - length found) xs))

      is : held_with_all found n xs ≡ drop (length xs - length found) xs
      is =
          let by : length (all_behind found n xs) - length found ≡ length (take n found) + (length xs - length found) =
          omega (arith, all_length, length-take n found) in
          ap (λ k. drop k (all_behind found n xs)) by ∙ drop-append-add (take n found) xs (length xs - length found)

      long : length (held_with_all found n xs) ≡ length found
      long = ap length is ∙ omega (arith, length-drop (length xs - length found) xs)

  -- There are fewer: as many of those before as there is room for stay in front of them.
  pub pushed_behind : (there kept : ℕ) → length xs < length found → there ≡ min n (length found)
      → kept ≡ min there (length found - length xs) → (moved put : List ℕ) → moved ≡ copy_within found (there - kept) there 0 → put ≡ xs
      → PushedAll found n xs (put_mid kept (kept + length xs - kept) moved put) (kept + length xs)
  pushed_behind there kept h t k moved put m p =
      record {
        entries = left ∙ sym (ap (λ ys. over ys found) is ∙ whole);
        number = sym (ap length is ∙ long);
      }
    where
      front : List ℕ
      front = take kept (drop (there - kept) found)

      front_length : length front ≡ kept
      front_length = length-take-le kept (drop (there - kept) found) (omega (arith, length-drop (there - kept) found))

      long : length (front ++ xs) ≡ kept + length xs
      long = length-append front xs ∙ ap (λ k. k + length xs) front_length

      down : moved ≡ front ++ drop kept found
      down =
          let by : there - (there - kept) ≡ kept = omega arith in
          m ∙ ap (λ k. take k (drop (there - kept) found) ++ drop (0 + k) found) by ∙ ap (λ k. front ++ drop k found) (zero-add kept)

      left : put_mid kept (kept + length xs - kept) moved put ≡ (front ++ xs) ++ drop (kept + length xs) found
      left =
          let by : kept + length xs - kept ≡ length xs = omega arith in
          rw (p, by, down, take_at front (drop kept found) kept front_length, drop_at front (drop kept found) kept front_length)
          (ap (λ ys. front ++ (xs ++ ys)) (drop-drop (length xs) kept found) ∙ sym (append_assoc front xs _))

      whole : over (front ++ xs) found ≡ (front ++ xs) ++ drop (kept + length xs) found
      whole =
          ap (λ ys. ys ++ drop (length (front ++ xs)) found) (take_all (length found) (front ++ xs) (omega (arith, long)))
          ∙ ap (λ k. (front ++ xs) ++ drop k found) long

      is : held_with_all found n xs ≡ front ++ xs
      is =
          let by : length (all_behind found n xs) - length found ≡ there - kept = omega (arith, all_length) in
          ap (λ k. drop k (all_behind found n xs)) by
          ∙ drop-append-le (there - kept) (take n found) xs (omega (arith, length-take n found))
          ∙ ap (λ ys. ys ++ xs) cut
        where
          cut : drop (there - kept) (take n found) ≡ front
          cut =
              let first : min n (length found) ≡ there - kept + kept = omega arith in
              ap (drop (there - kept)) (sym (take_min n found) ∙ ap (λ k. take k found) first) ∙ drop-take (there - kept) kept found
