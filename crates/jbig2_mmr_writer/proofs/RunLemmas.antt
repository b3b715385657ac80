-- A run, code by code.
use Rattle.std.proofs.Common.{◌≡◌, ℕ, zero, suc, ◌+◌, ◌*◌, ◌/◌, ◌%◌, ◌<◌, ◌≤◌, ltb, Bool, cond, List, [], ◌++◌, refl, sym, ◌∙◌, ap, append_assoc, append-nil, arith, lt-ltb, le-ltb}
use Rattle.std.proofs.lemmas.Bool.{cond-true, cond-false}
use Rattle.jbig2_inverses.specs.MmrRowWriter.{repeated, run_bits, run_word}

repeated-more : (n : ℕ) (word : List ℕ) → repeated (suc n) word ≡ repeated n word ++ word
repeated-more zero word = append-nil word
repeated-more (suc n) word = ap (λ (t : List ℕ). word ++ t) (repeated-more n word) ∙ sym (append_assoc word (repeated n word) word)

pub repeated-none : (old word : List ℕ) → old ≡ old ++ repeated 0 word
repeated-none old word = sym (append-nil old)

pub repeated-next : (old mid new word : List ℕ) (n : ℕ) → mid ≡ old ++ repeated n word → new ≡ mid ++ word → new ≡ old ++ repeated (n + 1) word
repeated-next old mid new word n before more =
    let next : suc n ≡ n + 1 = omega arith in
    more
    ∙ ap (λ (t : List ℕ). t ++ word) before
    ∙ append_assoc old (repeated n word) word
    ∙ ap (λ (t : List ℕ). old ++ t) (sym (repeated-more n word) ∙ ap (λ (k : ℕ). repeated k word) next)

module _ (black : Bool) (run : ℕ) where
  abbrev left : ℕ  -- what the make-up codes of 2560 leave
  left = run % 2560

  abbrev long : List ℕ
  long = repeated (run / 2560) (run_word black 2560)

  abbrev part : List ℕ
  part = run_word black (left / 64 * 64)

  abbrev ending : List ℕ
  ending = run_word black (left % 64)

  run-is : run_bits black run ≡ (long ++ cond (ltb left 64) [] part) ++ ending
  unfolding run_bits
  run-is = refl

  pub run-short : (times : ℕ) (old mid new : List ℕ) → left < 64 → times ≡ run / 2560 → mid ≡ old ++ repeated times (run_word black 2560) → new ≡ mid ++ run_word black left → new ≡ old ++ run_bits black run
  run-short times old mid new short count before last =
      let none : List ℕ = [] in
      let longer : mid ≡ old ++ long = before ∙ ap (λ (k : ℕ). old ++ repeated k (run_word black 2560)) count in
      let same : left ≡ left % 64 = omega (arith, short) in
      last
      ∙ ap (λ (t : List ℕ). t ++ run_word black left) longer
      ∙ ap (λ (k : ℕ). (old ++ long) ++ run_word black k) same
      ∙ append_assoc old long ending
      ∙ ap (λ (t : List ℕ). old ++ (t ++ ending)) (sym (append-nil long) ∙ ap (λ (t : List ℕ). long ++ t) (sym (cond-true (ltb left 64) none part (lt-ltb left 64 short))))
      ∙ ap (λ (t : List ℕ). old ++ t) (sym run-is)

  pub run-long : (times : ℕ) (old mid more new : List ℕ) → 64 ≤ left → times ≡ run / 2560 → mid ≡ old ++ repeated times (run_word black 2560) → more ≡ mid ++ part → new ≡ more ++ ending → new ≡ old ++ run_bits black run
  run-long times old mid more new many count before middle last =
      let none : List ℕ = [] in
      let longer : mid ≡ old ++ long = before ∙ ap (λ (k : ℕ). old ++ repeated k (run_word black 2560)) count in
      last
      ∙ ap (λ (t : List ℕ). t ++ ending) (middle ∙ ap (λ (t : List ℕ). t ++ part) longer ∙ append_assoc old long part)
      ∙ append_assoc old (long ++ part) ending
      ∙ ap (λ (t : List ℕ). old ++ ((long ++ t) ++ ending)) (sym (cond-false (ltb left 64) none part (le-ltb left 64 many)))
      ∙ ap (λ (t : List ℕ). old ++ t) (sym run-is)
