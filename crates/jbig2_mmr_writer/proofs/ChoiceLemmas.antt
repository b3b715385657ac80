-- The mode that is chosen by places that are searched only as far as they tell it.
use Rattle.std.proofs.Common.{◌≡◌, ℕ, ◌+◌, ◌-◌, ◌<◌, ◌≤◌, min, ltb, leb, Bool, true, false, cond, not, ◌&&◌, ◌++◌, sym, ◌∙◌, ap, ⊎_elim, arith, lt-ltb, le-ltb, le-leb}
use Rattle.std.proofs.lemmas.Bool.{and_from, and_left, and_right, cases_lt, cond-true, cond-false, cond_both, lt-leb}
use Rattle.jbig2_base.specs.Search.{place_from}
use Rattle.jbig2_base.proofs.SearchLemmas.{place-past}
use Rattle.jbig2_mmr.specs.declared.mmr.codes.Mode.TheVariants.{Horizontal, Pass}
use Rattle.jbig2_mmr.specs.T6.{Head, b1_of, b2_of, is_change, is_change_from}
use Rattle.jbig2_mmr.specs.T6Codes.{vertical_left, vertical_right}
use Rattle.jbig2_inverses.specs.MmrRowWriter.{Code, code_of, mode_word, next_other, run_bits}
use Rattle.jbig2_mmr_writer.proofs.CutLemmas.{place-after, place-cut, place-within}

abbrev pub pass_code : ℕ → Head → Code
pass_code b2 h = record { bits = mode_word Pass; head = record { a0 = b2; past_start = true; black = h.black } }

abbrev pub vertical_code : ℕ → ℕ → Head → Code
vertical_code a1 b1 h = record {
  bits = mode_word (cond (leb b1 a1) (vertical_right (a1 - b1)) (vertical_left (b1 - a1)));
  head = record { a0 = a1; past_start = true; black = not h.black };
}

abbrev pub runs_code : ℕ → ℕ → Head → Code
runs_code a1 a2 h = record {
  bits = mode_word Horizontal ++ (run_bits h.black (a1 - h.a0) ++ run_bits (not h.black) (a2 - a1));
  head = record { a0 = a2; past_start = true; black = h.black };
}

abbrev choice : ℕ → ℕ → ℕ → ℕ → Head → Code
choice a1 a2 b1 b2 h =
    cond (ltb b2 a1) (pass_code b2 h) (cond (leb a1 (b1 + 3) && leb b1 (a1 + 3)) (vertical_code a1 b1 h) (runs_code a1 a2 h))

code-is : (w : ℕ) (above pixels : ℕ → Bool) (h : Head) (a1 : ℕ) → a1 ≡ next_other w above pixels h.black h.a0
    → code_of w above pixels h ≡ choice a1 (next_other w above pixels (not h.black) a1) (b1_of w above h) (b2_of w above h) h
unfolding code_of
code-is w above pixels h a1 is = ap (λ (a : ℕ). choice a (next_other w above pixels (not h.black) a) (b1_of w above h) (b2_of w above h) h) (sym is)

-- what was searched for the next mode: b1 up to four columns right of a1, and b2 up to a1
pub record Searched (w : ℕ) (above pixels : ℕ → Bool) (h : Head) (a1 to b1 b2 : ℕ) : Type 0 where
  pub a1_is : a1 ≡ next_other w above pixels h.black h.a0
  pub a1_within : a1 ≤ w
  pub room : h.a0 < to
  pub to_is : to ≡ min w (a1 + 4)
  pub b1_is : b1 ≡ place_from (is_change_from above h.black) (cond h.past_start (h.a0 + 1) 0) to
  pub b2_is : b2 ≡ place_from (is_change above) (b1 + 1) a1

module _ (w : ℕ) (above pixels : ℕ → Bool) (h : Head) (a1 to b1 b2 : ℕ) (s : Searched w above pixels h a1 to b1 b2) where
  b1-cut : b1 ≡ min to (b1_of w above h)
  unfolding b1_of
  b1-cut =
      let start : cond h.past_start (h.a0 + 1) 0 ≤ to =
      cond_both h.past_start (h.a0 + 1) 0 (λ (x : ℕ). x ≤ to) (λ e. omega (arith, s.room)) (λ e. omega arith) in
      s.b1_is ∙ place-cut (is_change_from above h.black) (cond h.past_start (h.a0 + 1) 0) to w start (omega (arith, s.to_is))

  b1-within : b1_of w above h ≤ w
  unfolding b1_of
  b1-within = place-within (is_change_from above h.black) (cond h.past_start (h.a0 + 1) 0) w

  b2-cut : b1_of w above h < a1 → b2 ≡ min a1 (b2_of w above h)
  unfolding b2_of
  b2-cut left =
      let same : b1 ≡ b1_of w above h = omega (arith, b1-cut, s.to_is, s.a1_within, left) in
      s.b2_is
      ∙ place-cut (is_change above) (b1 + 1) a1 w (omega (arith, same, left)) s.a1_within
      ∙ ap (λ (b : ℕ). min a1 (place_from (is_change above) (b + 1) w)) same

  -- b1 at a1 or right of it, and so b2
  b2-right : a1 ≤ b1_of w above h → a1 ≤ b2_of w above h
  unfolding b2_of
  b2-right right = ⊎_elim
      (λ (inside : b1_of w above h < w).
      let low = place-after (is_change above) (b1_of w above h + 1) w (omega (arith, inside)) in
      omega (arith, low, right))
      (λ (ends : w ≤ b1_of w above h).
      let past = place-past (is_change above) (b1_of w above h + 1) w (omega (arith, ends)) in
      omega (arith, past, s.a1_within))
      (cases_lt (b1_of w above h) w)

  b2-whole : b2 < a1 → b2 ≡ b2_of w above h
  b2-whole left = ⊎_elim
      (λ (before : b1_of w above h < a1). let cut = b2-cut before in omega (arith, cut, left))
      (λ (after : a1 ≤ b1_of w above h).
      let far : a1 ≤ b1 = omega (arith, b1-cut, s.to_is, s.a1_within, after) in
      let past : b2 ≡ a1 = s.b2_is ∙ place-past (is_change above) (b1 + 1) a1 (omega (arith, far)) in
      absurd (omega (arith, past, left)))
      (cases_lt (b1_of w above h) a1)

  b2-past : a1 ≤ b2 → a1 ≤ b2_of w above h
  b2-past past = ⊎_elim
      (λ (before : b1_of w above h < a1). let cut = b2-cut before in omega (arith, cut, past))
      (λ (after : a1 ≤ b1_of w above h). b2-right after)
      (cases_lt (b1_of w above h) a1)

  pub code-pass : b2 < a1 → code_of w above pixels h ≡ pass_code b2 h
  code-pass left =
      let a2 = next_other w above pixels (not h.black) a1 in
      let c1 = b1_of w above h in
      let c2 = b2_of w above h in
      let whole = b2-whole left in
      let none : Code = cond (leb a1 (c1 + 3) && leb c1 (a1 + 3)) (vertical_code a1 c1 h) (runs_code a1 a2 h) in
      code-is w above pixels h a1 s.a1_is
      ∙ cond-true (ltb c2 a1) (pass_code c2 h) none (lt-ltb c2 a1 (omega (arith, whole, left)))
      ∙ ap (λ (b : ℕ). pass_code b h) (sym whole)

  pub code-vertical : a1 ≤ b2 → a1 ≤ b1 + 3 → b1 ≤ a1 + 3 → code_of w above pixels h ≡ vertical_code a1 b1 h
  code-vertical past right left =
      let a2 = next_other w above pixels (not h.black) a1 in
      let c1 = b1_of w above h in
      let c2 = b2_of w above h in
      let whole : c1 ≡ b1 = omega (arith, b1-cut, b1-within, s.to_is, left) in
      let none : Code = cond (leb a1 (c1 + 3) && leb c1 (a1 + 3)) (vertical_code a1 c1 h) (runs_code a1 a2 h) in
      code-is w above pixels h a1 s.a1_is
      ∙ cond-false (ltb c2 a1) (pass_code c2 h) none (le-ltb c2 a1 (b2-past past))
      ∙ cond-true (leb a1 (c1 + 3) && leb c1 (a1 + 3)) (vertical_code a1 c1 h) (runs_code a1 a2 h)
      (and_from (leb a1 (c1 + 3)) (leb c1 (a1 + 3)) (le-leb a1 (c1 + 3) (omega (arith, whole, right))) (le-leb c1 (a1 + 3) (omega (arith, whole, left))))
      ∙ ap (λ (b : ℕ). vertical_code a1 b h) whole

  not-near : (a1 ≤ b1 + 3 → b1 ≤ a1 + 3 → ⊥) → (leb a1 (b1_of w above h + 3) && leb (b1_of w above h) (a1 + 3)) ≡ false
  not-near far =
      let c1 = b1_of w above h in
      ⊎_elim
      (λ (before : c1 + 3 < a1). and_left (leb a1 (c1 + 3)) (leb c1 (a1 + 3)) (lt-leb a1 (c1 + 3) before))
      (λ (near : a1 ≤ c1 + 3). ⊎_elim
      (λ (after : a1 + 3 < c1). and_right (leb a1 (c1 + 3)) (leb c1 (a1 + 3)) (lt-leb c1 (a1 + 3) after))
      (λ (close : c1 ≤ a1 + 3).
      let whole : c1 ≡ b1 = omega (arith, b1-cut, b1-within, s.to_is, close) in
      absurd (far (omega (arith, whole, near)) (omega (arith, whole, close))))
      (cases_lt (a1 + 3) c1))
      (cases_lt (c1 + 3) a1)

  pub code-runs : a1 ≤ b2 → (a1 ≤ b1 + 3 → b1 ≤ a1 + 3 → ⊥) → code_of w above pixels h ≡ runs_code a1 (next_other w above pixels (not h.black) a1) h
  code-runs past far =
      let a2 = next_other w above pixels (not h.black) a1 in
      let c1 = b1_of w above h in
      let c2 = b2_of w above h in
      let none : Code = cond (leb a1 (c1 + 3) && leb c1 (a1 + 3)) (vertical_code a1 c1 h) (runs_code a1 a2 h) in
      code-is w above pixels h a1 s.a1_is
      ∙ cond-false (ltb c2 a1) (pass_code c2 h) none (le-ltb c2 a1 (b2-past past))
      ∙ cond-false (leb a1 (c1 + 3) && leb c1 (a1 + 3)) (vertical_code a1 c1 h) (runs_code a1 a2 h) (not-near far)
