-- The number of an answer tells the answer. Assumes nothing.
use Rattle.laws.proofs.Base.{ℕ, ◌+◌, ◌-◌, ◌≤◌, ◌≡◌, refl, sym, ap, ◌∙◌, cond, ltb, lt-ltb, le-ltb, arith}
use Rattle.curves.specs.Ticks.{passed, too_many, too_few}
use Rattle.curves.specs.Questions.{Reply, result, refusal}
use Rattle.monitor.specs.declared.Verdict.TheVariants.{TooMany, TooFew}
use Rattle.monitor.specs.Monitoring.{MonitorView, Ruling, judged, lost, already_failed, judging}
use Rattle.scripts.specs.Codes.{ruling_code}
use Rattle.scripts.specs.Theorems.{NumbersTellAnswers}
use Rattle.scripts.proofs.Coded.{names_window}

-- The answer that a number stands for.
told : ℕ → Reply Ruling
told c =
    cond (ltb c 1_000) (result (judged passed))
    (cond (ltb c 2_000) (result (judged (too_many (c - 1_000))))
    (cond (ltb c 3_000) (result (judged (too_few (c - 2_000))))
    (cond (ltb c 4_000) (result already_failed) (cond (ltb c 4_000_000_000) (result lost) (refusal (c - 4_000_000_000))))))

many_told : (d : ℕ) → d ≤ 256 → told (1_000 + d) ≡ result (judged (too_many d))
unfolding told
many_told d h =
    let e : 1_000 + d - 1_000 ≡ d = omega arith in
    rw (le-ltb (1_000 + d) 1_000 (omega arith), lt-ltb (1_000 + d) 2_000 (omega arith)) (ap (λ k. result (judged (too_many k))) e)

few_told : (d : ℕ) → d ≤ 256 → told (2_000 + d) ≡ result (judged (too_few d))
unfolding told
few_told d h =
    let e : 2_000 + d - 2_000 ≡ d = omega arith in
    rw (
      le-ltb (2_000 + d) 1_000 (omega arith),
      le-ltb (2_000 + d) 2_000 (omega arith),
      lt-ltb (2_000 + d) 3_000 (omega arith),
    ) (ap (λ k. result (judged (too_few k))) e)

refusal_told : (n : ℕ) → told (4_000_000_000 + n) ≡ refusal n
unfolding told
refusal_told n =
    let e : 4_000_000_000 + n - 4_000_000_000 ≡ n = omega arith in
    rw (
      le-ltb (4_000_000_000 + n) 1_000 (omega arith),
      le-ltb (4_000_000_000 + n) 2_000 (omega arith),
      le-ltb (4_000_000_000 + n) 3_000 (omega arith),
      le-ltb (4_000_000_000 + n) 4_000 (omega arith),
      le-ltb (4_000_000_000 + n) 4_000_000_000 (omega arith),
    ) (ap refusal e)

-- A window that is named has at most 256 ticks, so that no two kinds of answers share a number.
told_is : (w : MonitorView) (x : ℕ) (r : Reply Ruling) → judging w x ≡ r → told (ruling_code r) ≡ r
unfolding told
told_is w x (result (judged passed)) e = refl
told_is w x (result (judged (too_many d))) e = many_told d (names_window w x (TooMany d) (sym e))
told_is w x (result (judged (too_few d))) e = few_told d (names_window w x (TooFew d) (sym e))
told_is w x (result lost) e = refl
told_is w x (result already_failed) e = refl
told_is w x (refusal n) e = refusal_told n

pub numbers_tell_answers : NumbersTellAnswers
numbers_tell_answers w u x y e = sym (told_is w x (judging w x) refl) ∙ ap told e ∙ told_is u y (judging u y) refl
