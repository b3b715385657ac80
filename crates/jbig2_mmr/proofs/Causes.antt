-- Which rule of T.6 the bits break where strict mode refuses MMR data.
use Rattle.std.proofs.Common.{◌≡◌, ℕ, zero, suc, ◌+◌, ◌-◌, ◌/◌, ◌<◌, ◌≤◌, eqb, ltb, leb, Bool, true, false, not, ◌&&◌, ◌||◌, cond, List, [], ◌∷◌, ◌++◌, drop, length, All, Option, Some, None, Result, Ok, Err, ℤ, pos, negsuc, ◌+ℤ◌, ◌<ℤ◌, refl, sym, ap, subst, arith, ◌⊎◌, ⊎_elim, inl, inr, leb-false, length-drop, ltb-false, ltb-true}
use Rattle.std.specs.Prelude.{IfErr}
use Rattle.std.proofs.lemmas.Int.{ints}
use Rattle.std.proofs.lemmas.Bool.{and_cases, and_parts, cond_both, eqb-false, false≢true, not-true, or_parts}
use Rattle.jbig2_base.specs.declared.error.DecodeError.{DecodeError}
use Rattle.jbig2_base.specs.declared.error.DecodeError.TheVariants.{Region}
use Rattle.jbig2_base.specs.declared.error.RegionError.TheVariants.{InvalidMmrData}
use Rattle.jbig2_mmr.specs.Causes.{BeginNone, BreaksMmr, BreaksMode, BreaksRow, BreaksMmrRows, BreaksRun, BreaksRuns}
use Rattle.jbig2_mmr.specs.T6.{DecodedRows, Head, Rows, Step, after_mode, after_pass, after_runs, after_vertical, b1_of, begins, bits_of, ends_block, grid_of_rows, mmr_rows, next_step, pixel_of, place_in, read_code, row, row_from, row_start, rows_from, rows_of, run, run_from, runs_of, ◌>>=◌}
use Rattle.jbig2_mmr.proofs.T6Decoding.{or_fault}
use Rattle.jbig2_mmr.specs.T6Codes.{black_runs, longer_runs, modes, white_runs}
use Rattle.jbig2_mmr.specs.declared.mmr.codes.Mode.{Mode}
use Rattle.jbig2_mmr.specs.declared.mmr.codes.Mode.TheVariants.{Pass, Horizontal, Vertical}
use Rattle.jbig2_base.specs.Causes.{HasCause}
use Rattle.jbig2_base.proofs.CauseSteps.{call-cause}

never-none : {A : Type 0} (x : A) → ◌≡◌ {A = Option A} (Some x) None → ⊥
never-none x same = cc

same-some : {A : Type 0} (x y : A) → ◌≡◌ {A = Option A} (Some x) (Some y) → x ≡ y
same-some x y same = cc

-- ---- a code
all-cons : {X : Type 0} (P : X → Type 0) (x : X) (xs : List X) → P x → All P xs → All P (x ∷ xs)
all-cons P x xs first others zero d inside = first
all-cons P x xs first others (suc k) d inside = others k d (omega arith)

code-none : {A : Type 0} (cs : List (A × List ℕ)) (bits : List ℕ) → read_code cs bits ≡ None → BeginNone cs bits
unfolding read_code
code-none [] bits is = λ i d inside. absurd (omega arith)
code-none {A} (c ∷ cs) bits is =
    let P : A × List ℕ → Type 0 = λ c. begins c.1 bits ≡ false in
    let Q : Option (A × List ℕ) → Type 0 = λ o. o ≡ None → All P (c ∷ cs) in
    cond_both (begins c.1 bits) (Some (c.0, drop (length c.1) bits)) (read_code cs bits) Q
    (λ yes same. absurd (never-none (c.0, drop (length c.1) bits) same))
    (λ no same. all-cons P c cs no (code-none cs bits same))
    is

-- ---- a run
-- each word has a bit
abbrev some-bits : {A : Type 0} → List (A × List ℕ) → Bool
some-bits [] = true
some-bits (c ∷ cs) = ltb 0 (length c.1) && some-bits cs

white-bits : some-bits white_runs ≡ true
unfolding white_runs longer_runs
white-bits = refl

black-bits : some-bits black_runs ≡ true
unfolding black_runs longer_runs
black-bits = refl

runs-bits : (black : Bool) → some-bits (runs_of black) ≡ true
runs-bits true = black-bits
runs-bits false = white-bits

begins-less : (word bits : List ℕ) → begins word bits ≡ true → length word ≤ length bits
begins-less [] bits is = omega arith
begins-less (b ∷ word) [] is = absurd (false≢true is)
begins-less (b ∷ word) (c ∷ bits) is = let others = begins-less word bits (and_parts (eqb b c) (begins word bits) is).1 in omega arith

not-empty : (word : List ℕ) → ltb 0 (length word) ≡ true → begins word [] ≡ false
not-empty [] is = absurd (false≢true is)
not-empty (b ∷ word) is = refl

none-empty : {A : Type 0} (cs : List (A × List ℕ)) → some-bits cs ≡ true → BeginNone cs []
none-empty [] is = λ i d inside. absurd (omega arith)
none-empty {A} (c ∷ cs) is =
    let parts = and_parts (ltb 0 (length c.1)) (some-bits cs) is in
    let P : A × List ℕ → Type 0 = λ c. begins c.1 [] ≡ false in
    all-cons P c cs (not-empty c.1 parts.0) (none-empty cs parts.1)

code-shorter : {A : Type 0} (cs : List (A × List ℕ)) (bits : List ℕ) (c : A × List ℕ) → some-bits cs ≡ true → read_code cs bits ≡ Some c → length c.1 < length bits
unfolding read_code
code-shorter {A} [] bits c all is = absurd (let never : ◌≡◌ {A = Option (A × List ℕ)} None (Some c) = is in cc)
code-shorter {A} (x ∷ cs) bits c all is =
    let parts = and_parts (ltb 0 (length x.1)) (some-bits cs) all in
    let found : A × List ℕ = (x.0, drop (length x.1) bits) in
    let Q : Option (A × List ℕ) → Type 0 = λ o. o ≡ Some c → length c.1 < length bits in
    cond_both (begins x.1 bits) (Some found) (read_code cs bits) Q
    (λ yes same.
    let e : found ≡ c = same-some found c same in
    let rest : drop (length x.1) bits ≡ c.1 = ap (λ (y : A × List ℕ). y.1) e in
    omega (arith, ap length rest, length-drop (length x.1) bits, begins-less x.1 bits yes, ltb-true 0 (length x.1) parts.0))
    (λ no same. code-shorter cs bits c parts.1 same)
    is

empty : (bits : List ℕ) → length bits ≤ 0 → bits ≡ []
empty [] none = refl
empty (b ∷ bits) none = absurd (omega arith)

abbrev plus-rest : ℕ → ℕ × List ℕ → ℕ × List ℕ
plus-rest part rest = (part + rest.0, rest.1)

run-fault : (most : ℕ) (black : Bool) (bits : List ℕ) → length bits ≤ most → run_from most black bits ≡ None → BreaksRun most black bits
unfolding run_from
run-fault zero black bits few is =
    let P : List ℕ → Type 0 = λ bs. BeginNone (runs_of black) bs in
    subst P (sym (empty bits few)) (none-empty (runs_of black) (runs-bits black))
run-fault (suc most) black bits few is =
    by-code (read_code (runs_of black) bits) refl (λ c some is. run-fault most black c.1 (omega (arith, code-shorter (runs_of black) bits c (runs-bits black) some)) is) is
  where
    rest-none : (part : ℕ) (o : Option (ℕ × List ℕ)) → (o >>= λ rest. Some (plus-rest part rest)) ≡ None → o ≡ None
    rest-none part None is = refl
    rest-none part (Some r) is = absurd (never-none (plus-rest part r) is)

    by-code : (o : Option (ℕ × List ℕ)) → read_code (runs_of black) bits ≡ o → ((c : ℕ × List ℕ) → read_code (runs_of black) bits ≡ Some c → run_from most black c.1 ≡ None → BreaksRun most black c.1) → (o >>= λ code. cond (ltb code.0 64) (Some code) (run_from most black code.1 >>= λ rest. Some (plus-rest code.0 rest))) ≡ None → BreaksRun (suc most) black bits
    by-code None none later is = inl (code-none (runs_of black) bits none)
    by-code (Some c) some later is =
        let next : Option (ℕ × List ℕ) = run_from most black c.1 >>= λ rest. Some (plus-rest c.0 rest) in
        let Q : Option (ℕ × List ℕ) → Type 0 = λ o. o ≡ None → BreaksRun (suc most) black bits in
        cond_both (ltb c.0 64) (Some c) next Q
        (λ small same. absurd (never-none c same))
        (λ large same. inr (c.0, c.1, some, ltb-false c.0 64 large, later c some (rest-none c.0 (run_from most black c.1) same)))
        is

-- ---- a mode
-- left of a0, or past the row's end
abbrev IsOutside : ℕ → ℕ → ℤ → Type 0
IsOutside a0 w z = (z <ℤ pos a0) ⊎ (pos w <ℤ z)

outside : (a0 w : ℕ) (z : ℤ) → place_in a0 w z ≡ None → IsOutside a0 w z
outside a0 w (negsuc x) is = inl (omega (arith, ints))
outside a0 w (pos x) is =
    let Q : Option ℕ → Type 0 = λ o. o ≡ None → IsOutside a0 w (pos x) in
    cond_both (leb a0 x && leb x w) (Some x) None Q
    (λ yes same. absurd (never-none x same))
    (λ no same. ⊎_elim (λ (below : leb a0 x ≡ false). inl (let low = leb-false a0 x below in omega (arith, ints, low))) (λ (past : leb x w ≡ false). inr (let high = leb-false x w past in omega (arith, ints, high))) (and_cases (leb a0 x) (leb x w) no))
    is

vertical-fault : (w : ℕ) (above : ℕ → Bool) (h : Head) (distance : ℤ) (bits : List ℕ) → after_vertical w above h distance bits ≡ None → IsOutside h.a0 w (pos (b1_of w above h) +ℤ distance)
unfolding after_vertical
vertical-fault w above h distance bits is =
    let z = pos (b1_of w above h) +ℤ distance in
    outside h.a0 w z (no-place (λ a1. record { head = record { a0 = a1; past_start = true; black = not h.black }; added = a1 ∷ []; left = bits }) (place_in h.a0 w z) is)
  where
    no-place : (f : ℕ → Step) (o : Option ℕ) → (o >>= λ a1. Some (f a1)) ≡ None → o ≡ None
    no-place f None is = refl
    no-place f (Some x) is = absurd (never-none (f x) is)

runs-fault : (w : ℕ) (h : Head) (bits : List ℕ) → after_runs w h bits ≡ None → BreaksRuns w h bits
unfolding after_runs
runs-fault w h bits is = by-first (run h.black bits) refl is
  where
    end : ℕ → ℕ → ℕ → List ℕ → Option Step
    end w a1 a2 left = cond (leb a2 w) (Some (record { head = record { a0 = a2; past_start = true; black = h.black }; added = a1 ∷ a2 ∷ []; left = left })) None

    past : (first second : ℕ × List ℕ) → end w (h.a0 + first.0) (h.a0 + first.0 + second.0) second.1 ≡ None → w < h.a0 + first.0 + second.0
    past first second =
        let a2 = h.a0 + first.0 + second.0 in
        let made : Step = record { head = record { a0 = a2; past_start = true; black = h.black }; added = (h.a0 + first.0) ∷ a2 ∷ []; left = second.1 } in
        let Q : Option Step → Type 0 = λ o. o ≡ None → w < a2 in
        cond_both (leb a2 w) (Some made) None Q (λ yes same. absurd (never-none made same)) (λ no same. leb-false a2 w no)

    by-second : (first : ℕ × List ℕ) → run h.black bits ≡ Some first → (o : Option (ℕ × List ℕ)) → run (not h.black) first.1 ≡ o → (o >>= λ second. end w (h.a0 + first.0) (h.a0 + first.0 + second.0) second.1) ≡ None → BreaksRuns w h bits
    by-second first there None none is = inr (first.0, first.1, there, inl (run-fault (length first.1) (not h.black) first.1 (omega arith) none))
    by-second first there (Some second) some is = inr (first.0, first.1, there, inr (second.0, second.1, some, past first second is))

    by-first : (o : Option (ℕ × List ℕ)) → run h.black bits ≡ o → (o >>= λ first. run (not h.black) first.1 >>= λ second. end w (h.a0 + first.0) (h.a0 + first.0 + second.0) second.1) ≡ None → BreaksRuns w h bits
    by-first None none is = inl (run-fault (length bits) h.black bits (omega arith) none)
    by-first (Some first) there is = by-second first there (run (not h.black) first.1) refl is

pass-goes : (w : ℕ) (above : ℕ → Bool) (h : Head) (bits : List ℕ) → after_pass w above h bits ≡ None → ⊥
unfolding after_pass
pass-goes w above h bits is = never-none _ is

mode-fault : (w : ℕ) (above : ℕ → Bool) (h : Head) (bits : List ℕ) → next_step w above h bits ≡ None → BreaksMode w above h bits
unfolding next_step
mode-fault w above h bits is = by-mode (read_code modes bits) refl is
  where
    by-mode : (o : Option (Mode × List ℕ)) → read_code modes bits ≡ o → (o >>= λ mode. after_mode w above h mode.0 mode.1) ≡ None → BreaksMode w above h bits
    by-mode None none is = inl (code-none modes bits none)
    by-mode (Some (Pass, left)) some is = absurd (pass-goes w above h left is)
    by-mode (Some (Horizontal, left)) some is = inr (inl (left, some, runs-fault w h left is))
    by-mode (Some (Vertical distance, left)) some is = inr (inr (distance, left, some, vertical-fault w above h distance left is))

-- ---- rows
row-fault : (most w : ℕ) (above : ℕ → Bool) (h : Head) (changes bits : List ℕ) → row_from most w above h changes bits ≡ None → BreaksRow most w above h bits
unfolding row_from
row-fault zero w above h changes bits =
    let Q : Option (List ℕ × List ℕ) → Type 0 = λ o. o ≡ None → h.a0 < w in
    cond_both (leb w h.a0) (Some (changes, bits)) None Q (λ yes same. absurd (never-none (changes, bits) same)) (λ no same. leb-false w h.a0 no)
row-fault (suc most) w above h changes bits =
    let next : Step → Option (List ℕ × List ℕ) = λ s. row_from most w above s.head (changes ++ s.added) s.left in
    let Q : Option (List ℕ × List ℕ) → Type 0 = λ o. o ≡ None → BreaksRow (suc most) w above h bits in
    cond_both (leb w h.a0) (Some (changes, bits)) (next_step w above h bits >>= next) Q
    (λ yes same. absurd (never-none (changes, bits) same))
    (λ no same. (leb-false w h.a0 no, by-step (next_step w above h bits) refl (λ s is. row-fault most w above s.head (changes ++ s.added) s.left is) same))
  where
    by-step : (o : Option Step) → next_step w above h bits ≡ o → ((s : Step) → row_from most w above s.head (changes ++ s.added) s.left ≡ None → BreaksRow most w above s.head s.left) → (o >>= λ s. row_from most w above s.head (changes ++ s.added) s.left) ≡ None → BreaksMode w above h bits ⊎ ((s : Step) × (next_step w above h bits ≡ Some s) × BreaksRow most w above s.head s.left)
    by-step None none later is = inl (mode-fault w above h bits none)
    by-step (Some s) some later is = inr (s, some, later s is)

rows-fault : (n w : ℕ) (above : List ℕ) (done : List (List ℕ)) (bits : List ℕ) → (rows_from n w above done bits).whole ≡ false → BreaksMmrRows n w above bits
unfolding rows_from
rows-fault zero w above done bits = λ is. absurd (false≢true (sym is))
rows-fault (suc n) w above done bits =
    let Q : Rows → Type 0 = λ r. r.whole ≡ false → BreaksMmrRows (suc n) w above bits in
    let o = row w (pixel_of w above) bits in
    cond_both (ends_block bits) (record { rows = done; whole = false; left = drop 24 bits }) (or_fault done o (λ r. rows_from n w r.0 (done ++ r.0 ∷ []) r.1)) Q
    (λ ends is. inl ends)
    (λ goes is. inr (by-row o refl (λ r is. rows-fault n w r.0 (done ++ r.0 ∷ []) r.1 is) is))
  where
    by-row : (o : Option (List ℕ × List ℕ)) → row w (pixel_of w above) bits ≡ o → ((r : List ℕ × List ℕ) → (rows_from n w r.0 (done ++ r.0 ∷ []) r.1).whole ≡ false → BreaksMmrRows n w r.0 r.1) → (or_fault done o (λ r. rows_from n w r.0 (done ++ r.0 ∷ []) r.1)).whole ≡ false → BreaksRow (length bits) w (pixel_of w above) row_start bits ⊎ ((changes : List ℕ) × (left : List ℕ) × (row w (pixel_of w above) bits ≡ Some (changes, left)) × BreaksMmrRows n w changes left)
    by-row None none later is = inl (row-fault (length bits) w (pixel_of w above) row_start [] bits none)
    by-row (Some r) some later is = inr (r.0, r.1, some, later r is)

pub all-fault : (w h : ℕ) (bytes : List ℕ) → (rows_of w h bytes).whole ≡ false → (0 < w) × BreaksMmrRows h w [] (bits_of bytes)
unfolding rows_of
all-fault w h bytes =
    let Q : Rows → Type 0 = λ r. r.whole ≡ false → (0 < w) × BreaksMmrRows h w [] (bits_of bytes) in
    cond_both (eqb w 0 || eqb h 0) (record { rows = []; whole = true; left = bits_of bytes }) (rows_from h w [] [] (bits_of bytes)) Q
    (λ none is. absurd (false≢true (sym is)))
    (λ some is. (omega (arith, eqb-false w 0 (or_parts (eqb w 0) (eqb h 0) some).0), rows-fault h w [] [] (bits_of bytes) is))

pub cause-mmr : (P : DecodeError → Type 0) (strict : Bool) (w h : ℕ) (bytes : List ℕ) → ((strict ≡ true) × (0 < w) × BreaksMmrRows h w [] (bits_of bytes) → P (Region InvalidMmrData)) → IfErr (mmr_rows strict w h bytes) P
unfolding mmr_rows
cause-mmr P strict w h bytes why =
    let r = rows_of w h bytes in
    let Q : Result DecodedRows DecodeError → Type 0 = λ a. IfErr a P in
    cond_both (strict && not r.whole) (Err (Region InvalidMmrData)) (Ok (record { grid = grid_of_rows w h r.rows; used = length bytes - length r.left / 8 })) Q
    (λ refused. let parts = and_parts strict (not r.whole) refused in let fault = all-fault w h bytes (not-true r.whole parts.1) in why (parts.0, fault.0, fault.1))
    (λ taken. tt)

pub mmr_cause : {X : Type 0} (strict : Bool) (w h : ℕ) (bytes : List ℕ) (r : Result X DecodeError) → IfErr r (λ e. mmr_rows strict w h bytes ≡ Err e) → HasCause r (BreaksMmr strict w h bytes)
mmr_cause strict w h bytes r =
    call-cause (BreaksMmr strict w h bytes) (mmr_rows strict w h bytes) r (cause-mmr (BreaksMmr strict w h bytes) strict w h bytes (λ why. why))
