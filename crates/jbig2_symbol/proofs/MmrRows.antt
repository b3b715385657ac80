-- Each row of MMR data that has a column takes a bit at least (T.6, 2.2), so whole rows are at most as many as the bits.
use Rattle.std.proofs.Common.{◌≡◌, ℕ, zero, suc, ◌+◌, ◌*◌, ◌<◌, ◌≤◌, eqb, leb, ltb, Bool, true, false, not, ◌&&◌, ◌||◌, cond, List, [], ◌∷◌, ◌++◌, drop, length, Option, Some, None, ℤ, pos, ◌+ℤ◌, refl, arith, ⊎_elim, length-drop, leb-true, ltb-true}
use Rattle.std.specs.Option.{IfSome}
use Rattle.std.proofs.lemmas.Bool.{and_parts, cond_both, eqb-true, false≢true, or_cases}
use Rattle.std.proofs.lemmas.Option.{IfSome_then}
use Rattle.jbig2_base.proofs.NumberLemmas.{length-bits}
use Rattle.jbig2_mmr.specs.T6.{Head, Rows, Step, after_mode, after_pass, after_runs, after_vertical, b1_of, begins, bits_of, ends_block, next_step, pixel_of, place_in, read_code, row, row_from, row_start, rows_from, rows_of, run, run_from, runs_of, ◌>>=◌}
use Rattle.jbig2_mmr.specs.T6Codes.{black_runs, longer_runs, modes, white_runs}
use Rattle.jbig2_mmr.specs.declared.mmr.codes.Mode.{Mode}
use Rattle.jbig2_mmr.specs.declared.mmr.codes.Mode.TheVariants.{Pass, Horizontal, Vertical}

-- ---- steps
some-next : {A B : Type 0} (P : A → Type 0) (Q : B → Type 0) (o : Option A) (next : A → Option B) → IfSome o P → ((x : A) → P x → IfSome (next x) Q) → IfSome (o >>= next) Q
some-next P Q None next first rest = tt
some-next P Q (Some x) next first rest = rest x first

some-either : {A : Type 0} (P : A → Type 0) (b : Bool) (x y : Option A) → IfSome x P → IfSome y P → IfSome (cond b x y) P
some-either {A} P b x y first second =
    let Q : Option A → Type 0 = λ o. IfSome o P in
    cond_both b x y Q (λ is. first) (λ is. second)

some-any : {A : Type 0} (o : Option A) → IfSome o (λ _. Unit {0})
some-any None = tt
some-any (Some x) = tt

-- ---- a code
-- each word has a bit
abbrev some-bits : {A : Type 0} → List (A × List ℕ) → Bool
some-bits [] = true
some-bits (c ∷ cs) = ltb 0 (length c.1) && some-bits cs

modes-bits : some-bits modes ≡ true
unfolding modes
modes-bits = refl

runs-bits : (black : Bool) → some-bits (runs_of black) ≡ true
unfolding black_runs white_runs longer_runs
runs-bits true = refl
runs-bits false = refl

begins-within : (word bits : List ℕ) → begins word bits ≡ true → length word ≤ length bits
begins-within [] bits is = omega arith
begins-within (b ∷ word) [] is = absurd (false≢true is)
begins-within (b ∷ word) (c ∷ bits) is = let others = begins-within word bits (and_parts (eqb b c) (begins word bits) is).1 in omega arith

code-shorter : {A : Type 0} (cs : List (A × List ℕ)) (bits : List ℕ) → some-bits cs ≡ true → IfSome (read_code cs bits) (λ c. length c.1 < length bits)
unfolding read_code
code-shorter [] bits all = tt
code-shorter {A} (c ∷ cs) bits all =
    let parts = and_parts (ltb 0 (length c.1)) (some-bits cs) all in
    let Q : Option (A × List ℕ) → Type 0 = λ o. IfSome o (λ d. length d.1 < length bits) in
    cond_both (begins c.1 bits) (Some (c.0, drop (length c.1) bits)) (read_code cs bits) Q
    (λ yes. omega (arith, length-drop (length c.1) bits, begins-within c.1 bits yes, ltb-true 0 (length c.1) parts.0))
    (λ no. code-shorter cs bits parts.1)

-- ---- a mode
run-within : (most : ℕ) (black : Bool) (bits : List ℕ) → IfSome (run_from most black bits) (λ r. length r.1 ≤ length bits)
unfolding run_from
run-within zero black bits = tt
run-within (suc most) black bits =
    some-next (λ c. length c.1 < length bits) (λ r. length r.1 ≤ length bits) (read_code (runs_of black) bits) _ (code-shorter (runs_of black) bits (runs-bits black)) (λ c less.
    some-either (λ r. length r.1 ≤ length bits) (ltb c.0 64) (Some c) _ (omega arith)
    (some-next (λ r. length r.1 ≤ length c.1) (λ r. length r.1 ≤ length bits) (run_from most black c.1) _ (run-within most black c.1) (λ r fewer. omega arith)))

runs-within : (w : ℕ) (h : Head) (bits : List ℕ) → IfSome (after_runs w h bits) (λ s. length s.left ≤ length bits)
unfolding after_runs
runs-within w h bits =
    some-next (λ r. length r.1 ≤ length bits) (λ s. length s.left ≤ length bits) (run h.black bits) _ (run-within (length bits) h.black bits) (λ first less.
    some-next (λ r. length r.1 ≤ length first.1) (λ s. length s.left ≤ length bits) (run (not h.black) first.1) _ (run-within (length first.1) (not h.black) first.1) (λ second fewer.
    some-either (λ s. length s.left ≤ length bits) (leb (h.a0 + first.0 + second.0) w) _ None (omega arith) tt))

vertical-within : (w : ℕ) (above : ℕ → Bool) (h : Head) (distance : ℤ) (bits : List ℕ) → IfSome (after_vertical w above h distance bits) (λ s. length s.left ≤ length bits)
unfolding after_vertical
vertical-within w above h distance bits =
    let place : Option ℕ = place_in h.a0 w (pos (b1_of w above h) +ℤ distance) in
    some-next (λ _. Unit {0}) (λ s. length s.left ≤ length bits) place _ (some-any place) (λ a1 any. omega arith)

mode-within : (w : ℕ) (above : ℕ → Bool) (h : Head) (mode : Mode) (bits : List ℕ) → IfSome (after_mode w above h mode bits) (λ s. length s.left ≤ length bits)
unfolding after_pass
mode-within w above h Pass bits = omega arith
mode-within w above h Horizontal bits = runs-within w h bits
mode-within w above h (Vertical distance) bits = vertical-within w above h distance bits

step-shorter : (w : ℕ) (above : ℕ → Bool) (h : Head) (bits : List ℕ) → IfSome (next_step w above h bits) (λ s. length s.left < length bits)
unfolding next_step
step-shorter w above h bits =
    some-next (λ mode. length mode.1 < length bits) (λ s. length s.left < length bits) (read_code modes bits) _ (code-shorter modes bits modes-bits) (λ mode less.
    IfSome_then (after_mode w above h mode.0 mode.1) (mode-within w above h mode.0 mode.1) (λ s within. omega arith))

-- ---- rows
row-within : (most w : ℕ) (above : ℕ → Bool) (h : Head) (changes bits : List ℕ) → IfSome (row_from most w above h changes bits) (λ r. length r.1 ≤ length bits)
unfolding row_from
row-within zero w above h changes bits = some-either (λ r. length r.1 ≤ length bits) (leb w h.a0) (Some (changes, bits)) None (omega arith) tt
row-within (suc most) w above h changes bits =
    some-either (λ r. length r.1 ≤ length bits) (leb w h.a0) (Some (changes, bits)) _ (omega arith)
    (some-next (λ s. length s.left < length bits) (λ r. length r.1 ≤ length bits) (next_step w above h bits) _ (step-shorter w above h bits) (λ s less.
    IfSome_then (row_from most w above s.head (changes ++ s.added) s.left) (row-within most w above s.head (changes ++ s.added) s.left) (λ r within. omega arith)))

row-shorter : (most w : ℕ) (above : ℕ → Bool) (h : Head) (changes bits : List ℕ) → h.a0 < w → IfSome (row_from most w above h changes bits) (λ r. length r.1 < length bits)
unfolding row_from
row-shorter zero w above h changes bits inside =
    let Q : Option (List ℕ × List ℕ) → Type 0 = λ o. IfSome o (λ r. length r.1 < length bits) in
    cond_both (leb w h.a0) (Some (changes, bits)) None Q (λ past. absurd (omega (arith, leb-true w h.a0 past))) (λ no. tt)
row-shorter (suc most) w above h changes bits inside =
    let next : Step → Option (List ℕ × List ℕ) = λ s. row_from most w above s.head (changes ++ s.added) s.left in
    let Q : Option (List ℕ × List ℕ) → Type 0 = λ o. IfSome o (λ r. length r.1 < length bits) in
    cond_both (leb w h.a0) (Some (changes, bits)) (next_step w above h bits >>= next) Q
    (λ past. absurd (omega (arith, leb-true w h.a0 past)))
    (λ no.
    some-next (λ s. length s.left < length bits) (λ r. length r.1 < length bits) (next_step w above h bits) next (step-shorter w above h bits) (λ s less.
    IfSome_then (row_from most w above s.head (changes ++ s.added) s.left) (row-within most w above s.head (changes ++ s.added) s.left) (λ r within. omega arith)))

-- the rows after one that was read, or none after a fault
abbrev or_none : List (List ℕ) → Option (List ℕ × List ℕ) → (List ℕ × List ℕ → Rows) → Rows
or_none done o next =
    elim o [
      | None ↦ record { rows = done; whole = false; left = [] }
      | Some r ↦ next r
    ]

rows-few : (n w : ℕ) (above : List ℕ) (done : List (List ℕ)) (bits : List ℕ) → 0 < w → (rows_from n w above done bits).whole ≡ true → n ≤ length bits
unfolding rows_from
rows-few zero w above done bits some = λ is. omega arith
rows-few (suc n) w above done bits some =
    let next : List ℕ × List ℕ → Rows = λ r. rows_from n w r.0 (done ++ r.0 ∷ []) r.1 in
    let o = row w (pixel_of w above) bits in
    let Q : Rows → Type 0 = λ r. r.whole ≡ true → suc n ≤ length bits in
    cond_both (ends_block bits) (record { rows = done; whole = false; left = drop 24 bits }) (or_none done o next) Q
    (λ ends is. absurd (false≢true is))
    (λ goes. by-row o (row-shorter (length bits) w (pixel_of w above) row_start [] bits some) (λ r is. rows-few n w r.0 (done ++ r.0 ∷ []) r.1 some is))
  where
    by-row : (o : Option (List ℕ × List ℕ)) → IfSome o (λ r. length r.1 < length bits) → ((r : List ℕ × List ℕ) → (rows_from n w r.0 (done ++ r.0 ∷ []) r.1).whole ≡ true → n ≤ length r.1) → (or_none done o (λ r. rows_from n w r.0 (done ++ r.0 ∷ []) r.1)).whole ≡ true → suc n ≤ length bits
    by-row None shorter few is = absurd (false≢true is)
    by-row (Some r) shorter few is = let fewer = few r is in omega arith

pub whole-rows : (w h : ℕ) (bytes : List ℕ) → 0 < w → (rows_of w h bytes).whole ≡ true → h ≤ 8 * length bytes
unfolding rows_of
whole-rows w h bytes some =
    let Q : Rows → Type 0 = λ r. r.whole ≡ true → h ≤ 8 * length bytes in
    cond_both (eqb w 0 || eqb h 0) (record { rows = []; whole = true; left = bits_of bytes }) (rows_from h w [] [] (bits_of bytes)) Q
    (λ none is. ⊎_elim (λ (no : eqb w 0 ≡ true). absurd (omega (arith, eqb-true w 0 no))) (λ (low : eqb h 0 ≡ true). omega (arith, eqb-true h 0 low)) (or_cases (eqb w 0) (eqb h 0) none))
    (λ goes is. omega (arith, length-bits bytes, rows-few h w [] [] (bits_of bytes) some is))
