-- Rows of T.6 are read back.
use Rattle.std.proofs.Common.{◌≡◌, ◌⊎◌, ℕ, zero, suc, ◌+◌, ◌<◌, ◌≤◌, ltb, leb, Bool, false, ◌&&◌, List, [], ◌++◌, length, Option, Some, None, refl, sym, ◌∙◌, ap, subst, arith, inl, inr, ⊎_elim, le-leb, le-ltb, append-nil, append_assoc, length-append, ◌*◌}
use Rattle.std.proofs.lemmas.Bool.{cond-true, cond-false, cond_both, cases_lt, lt-leb, true≢false}
use Rattle.std.proofs.lemmas.List.{nil_from_length}
use Rattle.jbig2_base.specs.inner.BitLists.{AreBits}
use Rattle.jbig2_mmr.specs.T6Codes.{modes}
use Rattle.jbig2_mmr.specs.T6.{Head, Step, read_code, row, pixel_of, row_from, row_start, next_step, ends_block, black_at, ◌>>=◌}
use Rattle.jbig2_mmr.proofs.T6Rows.{change-none}
use Rattle.jbig2_inverses.specs.MmrRowWriter.{Code, code_of, bits_from, row_bits, RowsReadBack}
use Rattle.jbig2_inverses.proofs.RowBits.{bits-both}
use Rattle.jbig2_inverses.proofs.RowModes.{Done, Follows, measure, room_of, follows}

ended : (most w : ℕ) (above : ℕ → Bool) (h : Head) (changes bits : List ℕ) → w ≤ h.a0 → row_from most w above h changes bits ≡ Some (changes, bits)
unfolding row_from
ended zero w above h changes bits e = cond-true (leb w h.a0) (Some (changes, bits)) None (le-leb w h.a0 e)
ended (suc most) w above h changes bits e =
    cond-true (leb w h.a0) (Some (changes, bits)) (next_step w above h bits >>= (λ s. row_from most w above s.head (changes ++ s.added) s.left)) (le-leb w h.a0 e)

goes-on : (most w : ℕ) (above : ℕ → Bool) (h : Head) (changes bits : List ℕ) (s : Step) → h.a0 < w → next_step w above h bits ≡ Some s
    → row_from (suc most) w above h changes bits ≡ row_from most w above s.head (changes ++ s.added) s.left
unfolding row_from
goes-on most w above h changes bits s room e =
    let more : Option Step → Option (List ℕ × List ℕ) = λ o. o >>= (λ t. row_from most w above t.head (changes ++ t.added) t.left) in
    cond-false (leb w h.a0) (Some (changes, bits)) (more (next_step w above h bits)) (lt-leb w h.a0 room) ∙ ap more e

-- no mode is written without bits
IsSome : Option Step → Type 0
IsSome (Some s) = Unit {0}
IsSome None = ⊥

nothing : (w : ℕ) (above : ℕ → Bool) (h : Head) (s : Step) → next_step w above h [] ≡ Some s → ⊥
unfolding next_step read_code modes IsSome
nothing w above h s e = subst IsSome (sym e) tt

module _ (w : ℕ) (above pixels : ℕ → Bool) where
  some-bits : (h : Head) (changes : List ℕ) (code : Code) → Follows w above pixels h changes code → 1 ≤ length code.bits
  some-bits h changes code f = ⊎_elim
      (λ (e : 1 ≤ length code.bits). e)
      (λ (e : length code.bits < 1).
      let none : code.bits ++ [] ≡ [] = append-nil code.bits ∙ nil_from_length code.bits (omega (arith, e)) in
      absurd (nothing w above h (record { head = code.head; added = f.added; left = [] }) (ap (λ (b : List ℕ). next_step w above h b) (sym none) ∙ f.reads [])))
      (turned (cases_lt (length code.bits) 1))
    where
      turned : {A B : Type 0} → A ⊎ B → B ⊎ A
      turned (inl a) = inr a
      turned (inr b) = inl b

  -- what is left of a row is read back
  abbrev ReadsRest : ℕ → ℕ → Head → List ℕ → List ℕ → Type 0
  ReadsRest most fuel h changes rest =
      (out : List ℕ) × (row_from fuel w above h changes (bits_from w above pixels most h ++ rest) ≡ Some (out, rest)) × ((x : ℕ) → x < w → black_at out x ≡ pixels x)

  no-bits : (most : ℕ) (h : Head) → w ≤ h.a0 → bits_from w above pixels most h ≡ []
  unfolding bits_from
  no-bits zero h e = refl
  no-bits (suc most) h e = cond-true (leb w h.a0) [] ((code_of w above pixels h).bits ++ bits_from w above pixels most (code_of w above pixels h).head) (le-leb w h.a0 e)

  more-bits : (most : ℕ) (h : Head) → h.a0 < w → bits_from w above pixels (suc most) h ≡ (code_of w above pixels h).bits ++ bits_from w above pixels most (code_of w above pixels h).head
  unfolding bits_from
  more-bits most h e = cond-false (leb w h.a0) [] ((code_of w above pixels h).bits ++ bits_from w above pixels most (code_of w above pixels h).head) (lt-leb w h.a0 e)

  at-end : (most fuel : ℕ) (h : Head) (changes rest : List ℕ) → Done w pixels h changes → w ≤ h.a0 → ReadsRest most fuel h changes rest
  at-end most fuel h changes rest d e = (
    changes,
    ap (λ (b : List ℕ). row_from fuel w above h changes (b ++ rest)) (no-bits most h e) ∙ ended fuel w above h changes rest e,
    λ x inside. d.before x (omega (arith, inside, e)),
  )

  unmeasured : (h : Head) → h.a0 < w → measure w h ≤ 0 → ⊥
  unfolding measure
  unmeasured h room few = omega (arith, room, few)

  reads-rest : (most fuel : ℕ) (h : Head) (changes rest : List ℕ) → Done w pixels h changes → measure w h ≤ most → length (bits_from w above pixels most h) ≤ fuel → ReadsRest most fuel h changes rest
  reads-rest zero fuel h changes rest d few enough = ⊎_elim
      (λ (room : h.a0 < w). absurd (unmeasured h room few))
      (λ (e : w ≤ h.a0). at-end zero fuel h changes rest d e)
      (cases_lt h.a0 w)
  reads-rest (suc most) zero h changes rest d few enough = ⊎_elim
      (λ (room : h.a0 < w).
      let code = code_of w above pixels h in
      let size = ap length (more-bits most h room) ∙ length-append code.bits (bits_from w above pixels most code.head) in
      let some = some-bits h changes code (follows w above pixels h changes d room) in
      absurd (omega (arith, size, some, enough)))
      (λ (e : w ≤ h.a0). at-end (suc most) zero h changes rest d e)
      (cases_lt h.a0 w)
  reads-rest (suc most) (suc fuel) h changes rest d few enough = ⊎_elim
      (λ (room : h.a0 < w).
      let code = code_of w above pixels h in
      let f = follows w above pixels h changes d room in
      let less = f.less in
      let more = bits_from w above pixels most code.head in
      let size = ap length (more-bits most h room) ∙ length-append code.bits more in
      let some = some-bits h changes code f in
      let ih = reads-rest most fuel code.head (changes ++ f.added) rest f.done (omega (arith, few, less)) (omega (arith, size, some, enough)) in
      let split : bits_from w above pixels (suc most) h ++ rest ≡ code.bits ++ (more ++ rest) = ap (λ (b : List ℕ). b ++ rest) (more-bits most h room) ∙ append_assoc code.bits more rest in (
        ih.0,
        ap (λ (b : List ℕ). row_from (suc fuel) w above h changes b) split
            ∙ goes-on fuel w above h changes (code.bits ++ (more ++ rest)) (record { head = code.head; added = f.added; left = more ++ rest }) room (f.reads (more ++ rest))
            ∙ ih.1,
        ih.2,
      ))
      (λ (e : w ≤ h.a0). at-end (suc most) (suc fuel) h changes rest d e)
      (cases_lt h.a0 w)

  start : Done w pixels row_start []
  start = record {
    before = λ x a. absurd (omega (arith, a));
    ahead = λ x a. change-none x;
    colour = λ e b. absurd (true≢false (sym e));
    within = omega arith;
    first = λ e. refl;
  }

  start-measure : measure w row_start ≤ w + 1
  unfolding measure
  start-measure = omega arith

  bits-are : row_bits w above pixels ≡ bits_from w above pixels (w + 1) row_start
  unfolding row_bits
  bits-are = refl

  pub reads-row : (rest : List ℕ) → (changes : List ℕ) × (row w above (row_bits w above pixels ++ rest) ≡ Some (changes, rest)) × ((x : ℕ) → pixel_of w changes x ≡ (ltb x w && pixels x))
  reads-row rest =
      let bits = bits_from w above pixels (w + 1) row_start in
      let r = reads-rest (w + 1) (length (bits ++ rest)) row_start [] rest start start-measure (omega (arith, length-append bits rest)) in (
        r.0,
        ap (λ (b : List ℕ). row w above (b ++ rest)) bits-are ∙ r.1,
        λ x. ⊎_elim
            (λ (inside : x < w). ap (λ (t : Bool). ltb x w && t) (r.2 x inside))
            (λ (out : w ≤ x). ap (λ (t : Bool). t && black_at r.0 x) (le-ltb x w out) ∙ sym (ap (λ (t : Bool). t && pixels x) (le-ltb x w out)))
            (cases_lt x w),
      )

  -- ---- the bits of a row
  rest-bits : (most : ℕ) (h : Head) (changes : List ℕ) → Done w pixels h changes → AreBits (bits_from w above pixels most h)
  unfolding bits_from AreBits
  rest-bits zero h changes d = tt
  rest-bits (suc most) h changes d = ⊎_elim
      (λ (room : h.a0 < w).
      let code = code_of w above pixels h in
      let f = follows w above pixels h changes d room in
      subst AreBits (sym (more-bits most h room)) (bits-both code.bits (bits_from w above pixels most code.head) f.bits (rest-bits most code.head (changes ++ f.added) f.done)))
      (λ (e : w ≤ h.a0). subst AreBits (sym (no-bits (suc most) h e)) tt)
      (cases_lt h.a0 w)

  pub row-are-bits : AreBits (row_bits w above pixels)
  row-are-bits = subst AreBits (sym bits-are) (rest-bits (w + 1) row_start [] start)

  -- at most seven bits for each pixel, and 60 more
  rest-length : (most : ℕ) (h : Head) (changes : List ℕ) → Done w pixels h changes → length (bits_from w above pixels most h) ≤ room_of w h
  unfolding bits_from
  rest-length zero h changes d = omega arith
  rest-length (suc most) h changes d = ⊎_elim
      (λ (room : h.a0 < w).
      let code = code_of w above pixels h in
      let f = follows w above pixels h changes d room in
      let size = ap length (more-bits most h room) ∙ length-append code.bits (bits_from w above pixels most code.head) in
      let few = f.short in
      let ih = rest-length most code.head (changes ++ f.added) f.done in
      omega (arith, size, few, ih))
      (λ (e : w ≤ h.a0). let none = ap length (no-bits (suc most) h e) in omega (arith, none))
      (cases_lt h.a0 w)

  start-room : room_of w row_start ≤ 7 * w + 60
  unfolding room_of
  start-room = let c = cond_both {A = ℕ} (ltb 0 w) 30 0 (λ (n : ℕ). n ≤ 30) (λ e. omega arith) (λ e. omega arith) in omega (arith, c)

  pub row-length : length (row_bits w above pixels) ≤ 7 * w + 60
  row-length = let e = ap length bits-are in let r = rest-length (w + 1) row_start [] start in let s = start-room in omega (arith, e, r, s)

  pub row-no_end : 0 < w → (rest : List ℕ) → ends_block (row_bits w above pixels ++ rest) ≡ false
  row-no_end some rest =
      let f = follows w above pixels row_start [] start some in
      let code = code_of w above pixels row_start in
      let next : w + 1 ≡ suc w = omega arith in
      let more = bits_from w above pixels w code.head in
      let split : row_bits w above pixels ++ rest ≡ code.bits ++ (more ++ rest) =
      ap (λ (b : List ℕ). b ++ rest) (bits-are ∙ ap (λ (n : ℕ). bits_from w above pixels n row_start) next ∙ more-bits w row_start some) ∙ append_assoc code.bits more rest in
      ap ends_block split ∙ f.no_end (more ++ rest)

pub rows_read_back : RowsReadBack
rows_read_back = reads-row
