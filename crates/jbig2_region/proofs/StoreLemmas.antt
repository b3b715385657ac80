-- Pixels that are stored as a number, and what they are for a region in the making.
use Rattle.std.proofs.Common.{pow-suc, set, subst, pos, negsuc, ℤ, ◌+ℤ◌, ◌-ℤ◌, ◌≡◌, ℕ, zero, suc, ◌+◌, ◌-◌, ◌*◌, ◌/◌, ◌%◌, ◌^◌, ◌<◌, ◌≤◌, Bool, true, false, ◌&&◌, ◌||◌, cond, eqb, ltb, leb, List, length, get_or, add-one, refl, sym, ap, ◌∙◌, ⊎_elim, arith, Some}
use Rattle.std.proofs.lemmas.Bool.{cases_eq, cases_lt, eq-eqb, ne_eqb, cond-true, cond-false, and_from, and_left, and_right}
use Rattle.std.proofs.lemmas.Int.{ints}
use Rattle.std.proofs.lemmas.List.{get_or_past, get_or_default}
use Rattle.std.proofs.lemmas.Nat.{shr-shr}
use Rattle.jbig2_base.specs.Grid.{Grid, pixel, pixel_at}
use Rattle.jbig2_base.specs.Bits.{bit, bit_number}
use Rattle.jbig2_base.specs.Writes.{with_pixel, with_pixels}
use Rattle.jbig2_base.proofs.BitLemmas.{bit-mod, bit-zero, bit_number-bit, or-false}
use Rattle.jbig2_base.proofs.GridLemmas.{grid_of-ext, pixel_at-grid_of, pixel_at-right, pixel_at-below, table-at}
use Rattle.jbig2_base.proofs.WriteLemmas.{in_field, before_field, after_field, other_row}
use Rattle.jbig2_coder.specs.Coder.{Coder, Context, decision, fresh}
use Rattle.jbig2_region.specs.Generic.{context_at}
use Rattle.jbig2_region.specs.inner.RegionStates.{HasDecoded, region_state}
use Rattle.jbig2_region.specs.inner.Neighbours.{DecodesPixels, row_coding, SameAbove}
use Rattle.jbig2_region.specs.Raster.{Region, so_far}
use Rattle.jbig2_region.specs.inner.Rows.{after_pixels}
use Rattle.jbig2_region.specs.declared.template.AdaptiveTemplatePixel.{AdaptiveTemplatePixel}
use Rattle.jbig2_region.proofs.RasterLemmas.{HasDecoded-known, HasDecoded-decided, after_pixels-length, after_pixels-predicted, after_pixels-one, after_pixels-none, after_pixels-add}
use Rattle.jbig2_region.proofs.WindowLemmas.{same-above, pixel-inside, pixel-left_of_all}
use Rattle.jbig2_region.specs.inner.Windows.{IsLeft}

-- a pixel after a store, at any place
stored-at : (g : Grid) (x y n b i j : ℕ) → i < g.width → j < g.height → pixel_at (with_pixels g x y n b) i j ≡ cond (eqb j y && leb x i && ltb i (x + n)) (bit b (x + n - 1 - i)) (pixel_at g i j)
stored-at g x y n b i j left above = pixel_at-grid_of g.width g.height (λ i j. cond (eqb j y && leb x i && ltb i (x + n)) (bit b (x + n - 1 - i)) (pixel_at g i j)) i j left above

-- outside the field, also outside the bitmap
pub stored-outside : (g : Grid) (x y n b i j : ℕ) → (eqb j y && leb x i && ltb i (x + n)) ≡ false → pixel_at (with_pixels g x y n b) i j ≡ pixel_at g i j
stored-outside g x y n b i j out =
    ⊎_elim
    (λ (left : i < g.width).
    ⊎_elim
    (λ (above : j < g.height). stored-at g x y n b i j left above ∙ cond-false _ (bit b (x + n - 1 - i)) (pixel_at g i j) out)
    (λ (below : g.height ≤ j). pixel_at-below (with_pixels g x y n b) i j below ∙ sym (pixel_at-below g i j below))
    (cases_lt j g.height))
    (λ (right : g.width ≤ i). pixel_at-right (with_pixels g x y n b) i j right ∙ sym (pixel_at-right g i j right))
    (cases_lt i g.width)

pub stored-inside : (g : Grid) (x y n b i : ℕ) → x ≤ i → i < x + n → x + n ≤ g.width → y < g.height → pixel_at (with_pixels g x y n b) i y ≡ bit b (x + n - 1 - i)
stored-inside g x y n b i low high left above =
    stored-at g x y n b i y (omega arith) above ∙ cond-true _ (bit b (x + n - 1 - i)) (pixel_at g i y) (in_field x y n i y refl low high)

pub stored-before : (g : Grid) (x y n b i : ℕ) → i < x → pixel_at (with_pixels g x y n b) i y ≡ pixel_at g i y
stored-before g x y n b i low = stored-outside g x y n b i y (before_field x y n i y low)

pub stored-above : (g : Grid) (x y n b : ℕ) → SameAbove g (with_pixels g x y n b) y
stored-above g x y n b = λ i j less. sym (stored-outside g x y n b i j (other_row x y n i j (λ e. omega arith)))

pub same-above-then : (g g' g'' : Grid) (y : ℕ) → SameAbove g g' y → SameAbove g' g'' y → SameAbove g g'' y
same-above-then g g' g'' y one two = λ i j less. one i j less ∙ two i j less

-- ---- one pixel more
-- what the next pixel makes of a grid in which it is white
abbrev pub Pushes : Grid → Grid → ℕ → ℕ → Bool → Type 0
Pushes g g' x y black = pixel_at g x y ≡ false → g' ≡ with_pixel g x y black

digit : (c : Bool) (s : ℕ) → s ≡ bit_number c → s < 2
digit true s is = omega arith
digit false s is = omega arith

low-bit : (b s : ℕ) (c : Bool) → s ≡ bit_number c → bit (b * 2 + s) 0 ≡ c
unfolding bit
low-bit b s true is = eq-eqb _ 1 (omega arith)
low-bit b s false is = ne_eqb _ 1 (λ e. omega arith)

lowest : (s : ℕ) (c : Bool) → s ≡ bit_number c → bit s 0 ≡ c
unfolding bit
lowest s true is = eq-eqb _ 1 (omega arith)
lowest s false is = ne_eqb _ 1 (λ e. omega arith)

high-bit : (b s k : ℕ) → s < 2 → bit (b * 2 + s) (k + 1) ≡ bit b k
unfolding bit
high-bit b s k small = ap (λ (n : ℕ). eqb (n % 2) 1) (shr b s k small)
  where
    shr : (b s k : ℕ) → s < 2 → (b * 2 + s) / 2 ^ (k + 1) ≡ b / 2 ^ k
    shr b s k small =
        let place : 1 + k ≡ k + 1 = omega arith in
        let half : (b * 2 + s) / 2 ^ 1 ≡ b = omega arith in
        sym (shr-shr (b * 2 + s) 1 k ∙ ap (λ (m : ℕ). (b * 2 + s) / 2 ^ m) place) ∙ ap (λ (m : ℕ). m / 2 ^ k) half

not-there : (x y i j : ℕ) (c : Bool) → (i ≡ x → ⊥) → (c && eqb i x && eqb j y) ≡ false
not-there x y i j c ne = and_left _ _ (and_right c (eqb i x) (ne_eqb i x ne))

not-in-row : (x y i j : ℕ) (c : Bool) → (j ≡ y → ⊥) → (c && eqb i x && eqb j y) ≡ false
not-in-row x y i j c ne = and_right _ _ (ne_eqb j y ne)

there : (x y : ℕ) (c : Bool) → (c && eqb x x && eqb y y) ≡ c
there x y true = and_from _ _ (eq-eqb x x refl) (eq-eqb y y refl)
there x y false = refl

or-only : (b c : Bool) → b ≡ false → (b || c) ≡ c
or-only b c e = rw e refl

-- k pixels and one more are k + 1 pixels
pub stored-push : (g : Grid) (x y k b s : ℕ) (c : Bool) → s ≡ bit_number c → x + k < g.width → y < g.height → Pushes (with_pixels g x y k b) (with_pixels g x y (k + 1) (b * 2 + s)) (x + k) y c
stored-push g x y k b s c is left above = λ white.
    let old : Grid = with_pixels g x y k b in
    grid_of-ext g.width g.height (λ i j. cond (eqb j y && leb x i && ltb i (x + (k + 1))) (bit (b * 2 + s) (x + (k + 1) - 1 - i)) (pixel_at g i j)) (λ i j. pixel_at old i j || (c && eqb i (x + k) && eqb j y))
    (λ i j il jl.
    ⊎_elim
    (λ (row : j ≡ y).
    rw row (
    ⊎_elim
    (λ (before : i < x + k).
    rw (or-false (pixel_at old i y) _ (not-there (x + k) y i y c (λ e. omega arith)))
    (⊎_elim
    (λ (out : i < x). cond-false _ (bit (b * 2 + s) (x + (k + 1) - 1 - i)) (pixel_at g i y) (before_field x y (k + 1) i y out) ∙ sym (stored-before g x y k b i out))
    (λ (low : x ≤ i).
    let place : x + (k + 1) - 1 - i ≡ x + k - 1 - i + 1 = omega arith in
    cond-true _ (bit (b * 2 + s) (x + (k + 1) - 1 - i)) (pixel_at g i y) (in_field x y (k + 1) i y refl low (omega arith)) ∙ ap (λ (n : ℕ). bit (b * 2 + s) n) place ∙ high-bit b s (x + k - 1 - i) (digit c s is) ∙ sym (stored-inside g x y k b i low before (omega arith) above))
    (cases_lt i x)))
    (λ (more : x + k ≤ i).
    ⊎_elim
    (λ (same : i ≡ x + k).
    let place : x + (k + 1) - 1 - i ≡ 0 = omega arith in
    cond-true _ (bit (b * 2 + s) (x + (k + 1) - 1 - i)) (pixel_at g i y) (in_field x y (k + 1) i y refl (omega arith) (omega arith)) ∙ ap (λ (n : ℕ). bit (b * 2 + s) n) place ∙ low-bit b s c is
    ∙ rw same (sym (or-only (pixel_at old (x + k) y) _ white ∙ there (x + k) y c)))
    (λ (other : i ≡ x + k → ⊥).
    rw (or-false (pixel_at old i y) _ (not-there (x + k) y i y c other))
    (cond-false _ (bit (b * 2 + s) (x + (k + 1) - 1 - i)) (pixel_at g i y) (after_field x y (k + 1) i y (above-by-one x k i more other)) ∙ sym (stored-outside g x y k b i y (after_field x y k i y more))))
    (cases_eq i (x + k)))
    (cases_lt i (x + k))
    ))
    (λ (other : j ≡ y → ⊥).
    rw (or-false (pixel_at old i j) _ (not-in-row (x + k) y i j c other))
    (cond-false _ (bit (b * 2 + s) (x + (k + 1) - 1 - i)) (pixel_at g i j) (other_row x y (k + 1) i j other) ∙ sym (stored-outside g x y k b i j (other_row x y k i j other))))
    (cases_eq j y))
  where
    above-by-one : (x k i : ℕ) → x + k ≤ i → (i ≡ x + k → ⊥) → x + (k + 1) ≤ i
    above-by-one x k i le ne = omega arith

-- one pixel alone
pub stored-one : (g : Grid) (x y s : ℕ) (c : Bool) → s ≡ bit_number c → x < g.width → y < g.height → Pushes g (with_pixels g x y 1 s) x y c
stored-one g x y s c is left above = λ white.
    grid_of-ext g.width g.height (λ i j. cond (eqb j y && leb x i && ltb i (x + 1)) (bit s (x + 1 - 1 - i)) (pixel_at g i j)) (λ i j. pixel_at g i j || (c && eqb i x && eqb j y))
    (λ i j il jl.
    ⊎_elim
    (λ (row : j ≡ y).
    ⊎_elim
    (λ (same : i ≡ x).
    let place : x + 1 - 1 - x ≡ 0 = omega arith in
    rw (row, same) (cond-true _ (bit s (x + 1 - 1 - x)) (pixel_at g x y) (in_field x y 1 x y refl (omega arith) (omega arith)) ∙ ap (λ (n : ℕ). bit s n) place ∙ lowest s c is ∙ sym (or-only (pixel_at g x y) _ white ∙ there x y c)))
    (λ (other : i ≡ x → ⊥).
    rw (or-false (pixel_at g i j) _ (not-there x y i j c other))
    (cond-false _ (bit s (x + 1 - 1 - i)) (pixel_at g i j) (apart x y i j other)))
    (cases_eq i x))
    (λ (other : j ≡ y → ⊥).
    rw (or-false (pixel_at g i j) _ (not-in-row x y i j c other))
    (cond-false _ (bit s (x + 1 - 1 - i)) (pixel_at g i j) (other_row x y 1 i j other)))
    (cases_eq j y))
  where
    apart : (x y i j : ℕ) → (i ≡ x → ⊥) → (eqb j y && leb x i && ltb i (x + 1)) ≡ false
    apart x y i j ne =
        ⊎_elim
        (λ (low : i < x). before_field x y 1 i j low)
        (λ (more : x ≤ i). after_field x y 1 i j (omega arith))
        (cases_lt i x)

-- ---- the pixels at the left
pub left-push : (g g' : Grid) (x y left s : ℕ) (c : Bool) → s ≡ bit_number c → pixel_at g' x y ≡ c → ((i : ℕ) → i < x → pixel_at g' i y ≡ pixel_at g i y) → IsLeft g x y left → IsLeft g' (x + 1) y ((left * 2 + s) % 16)
left-push g g' x y left s c is now same before = λ k inside.
    bit-mod (left * 2 + s) 4 k inside
    ∙ ⊎_elim
    (λ (first : k ≡ 0).
    let column : pos (x + 1) -ℤ pos (0 + 1) ≡ pos x = omega (arith, ints) in
    rw first (low-bit left s c is ∙ sym now ∙ sym (pixel-inside g' (pos (x + 1) -ℤ pos (0 + 1)) (pos y) x y column refl)))
    (λ (other : k ≡ 0 → ⊥).
    let place : k ≡ k - 1 + 1 = omega arith in
    ap (λ (n : ℕ). bit (left * 2 + s) n) place ∙ high-bit left s (k - 1) (digit c s is) ∙ before (k - 1) (omega arith)
    ∙ ⊎_elim
    (λ (less : k - 1 < x).
    let column : pos x -ℤ pos (k - 1 + 1) ≡ pos (x - 1 - (k - 1)) = omega (arith, ints) in
    let column' : pos (x + 1) -ℤ pos (k + 1) ≡ pos (x - 1 - (k - 1)) = omega (arith, ints, other) in
    pixel-inside g (pos x -ℤ pos (k - 1 + 1)) (pos y) (x - 1 - (k - 1)) y column refl ∙ sym (same (x - 1 - (k - 1)) (omega arith)) ∙ sym (pixel-inside g' (pos (x + 1) -ℤ pos (k + 1)) (pos y) (x - 1 - (k - 1)) y column' refl))
    (λ (more : x ≤ k - 1).
    let column : pos x -ℤ pos (k - 1 + 1) ≡ negsuc (k - 1 - x) = omega (arith, ints) in
    let column' : pos (x + 1) -ℤ pos (k + 1) ≡ negsuc (k - 1 - x) = omega (arith, ints, other) in
    pixel-left_of_all g (pos x -ℤ pos (k - 1 + 1)) (pos y) (k - 1 - x) column ∙ sym (pixel-left_of_all g' (pos (x + 1) -ℤ pos (k + 1)) (pos y) (k - 1 - x) column'))
    (cases_lt (k - 1) x))
    (cases_eq k 0)

pub left-none : (g : Grid) (y : ℕ) → IsLeft g 0 y 0
left-none g y = λ k inside.
    let column : pos 0 -ℤ pos (k + 1) ≡ negsuc k = omega (arith, ints) in
    bit-zero k ∙ sym (pixel-left_of_all g (pos 0 -ℤ pos (k + 1)) (pos y) k column)

-- a store of nothing
none-at : (g : Grid) (x y b i j : ℕ) → pixel_at (with_pixels g x y 0 b) i j ≡ pixel_at g i j
none-at g x y b i j =
    ⊎_elim
    (λ (low : i < x). stored-outside g x y 0 b i j (before_field x y 0 i j low))
    (λ (more : x ≤ i). stored-outside g x y 0 b i j (after_field x y 0 i j (omega arith)))
    (cases_lt i x)

left-same : (g g' : Grid) (x y left : ℕ) → ((i j : ℕ) → pixel_at g' i j ≡ pixel_at g i j) → IsLeft g x y left → IsLeft g' x y left
left-same g g' x y left same before = λ k inside. before k inside ∙ sym (all (pos x -ℤ pos (k + 1)))
  where
    all : (X : ℤ) → pixel g' X (pos y) ≡ pixel g X (pos y)
    all (pos i) = same i y
    all (negsuc i) = refl

pub left-start : (g : Grid) (x y b left : ℕ) → IsLeft g x y left → IsLeft (with_pixels g x y 0 b) (x + 0) y left
left-start g x y b left before =
    let place : x ≡ x + 0 = omega arith in
    subst (λ (n : ℕ). IsLeft (with_pixels g x y 0 b) n y left) place (left-same g (with_pixels g x y 0 b) x y left (none-at g x y b) before)

pub none-stored : (w h : ℕ) (bits : List Bool) (g : Grid) (x y b : ℕ) → g ≡ so_far w h bits → with_pixels g x y 0 b ≡ g
unfolding so_far
none-stored w h bits g x y b made =
    let old : Grid = with_pixels g x y 0 b in
    grid_of-ext g.width g.height (λ i j. cond (eqb j y && leb x i && ltb i (x + 0)) (bit b (x + 0 - 1 - i)) (pixel_at g i j)) (pixel_at g) (λ i j il jl. sym (stored-at g x y 0 b i j il jl) ∙ none-at g x y b i j)
    ∙ sym (table-at g w h (λ x y. get_or bits (y * w + x) false) made)

-- ---- steps of the loops
pub white-next : (w h : ℕ) (bits : List Bool) (g : Grid) (x y : ℕ) → g ≡ so_far w h bits → length bits ≡ y * w + x → x < w → y < h → pixel_at g x y ≡ false
unfolding so_far
white-next w h bits g x y made len left above =
    rw made (pixel_at-grid_of w h (λ i j. get_or bits (j * w + i) false) x y left above ∙ get_or_past bits (y * w + x) false (omega arith))

pub width-so_far : (w h : ℕ) (bits : List Bool) → (so_far w h bits).width ≡ w
unfolding so_far
width-so_far w h bits = refl

pub height-so_far : (w h : ℕ) (bits : List Bool) → (so_far w h bits).height ≡ h
unfolding so_far
height-so_far w h bits = refl

pub decodes-none : (template : List AdaptiveTemplatePixel) (p : Bool) (x y : ℕ) (g : Grid) (d : Coder) (s : List Context) → DecodesPixels template p x y 0 (region_state g d s) (region_state g d s)
decodes-none template p x y g d s = λ w h input r len predicted has_decoded. subst (λ (n : Region). HasDecoded w h input n (region_state g d s)) (sym (after_pixels-none (row_coding template) w h input r)) has_decoded

pub decodes-start : (template : List AdaptiveTemplatePixel) (p : Bool) (x y b : ℕ) (g : Grid) (d : Coder) (s : List Context) → DecodesPixels template p x y 0 (region_state g d s) (region_state (with_pixels g x y 0 b) d s)
decodes-start template p x y b g d s = λ w h input r len predicted has_decoded.
    subst (λ (n : Region). HasDecoded w h input n (region_state (with_pixels g x y 0 b) d s)) (sym (after_pixels-none (row_coding template) w h input r))
    (subst (λ (q : Grid). HasDecoded w h input r (region_state q d s)) (sym (none-stored w h r.pixels g x y b has_decoded.pixels)) has_decoded)

pub decodes-decided : (template : List AdaptiveTemplatePixel) (x y k : ℕ) (g0 g g' : Grid) (d0 d d' : Coder) (s0 s : List Context) (n : ℕ) (old new : Context)
    → DecodesPixels template false x y k (region_state g0 d0 s0) (region_state g d s) → x + k < g.width → y < g.height → n ≡ context_at template g (x + k) y → old ≡ get_or s n fresh
    → Pushes g g' (x + k) y (decision d.bytes d.registers old).symbol → d' ≡ record d { registers = (decision d.bytes d.registers old).registers } → new ≡ (decision d.bytes d.registers old).context
    → DecodesPixels template false x y (k + 1) (region_state g0 d0 s0) (region_state g' d' (set s n new))
decodes-decided template x y k g0 g g' d0 d d' s0 s n old new before left above is_context is_old pushes is_next is_new = λ w h input r len predicted has_decoded.
    let at = before w h input r len predicted has_decoded in
    let made : Region = after_pixels (row_coding template) w h input k r in
    let size : length made.pixels ≡ y * w + (x + k) = after_pixels-length (row_coding template) w h input k r ∙ omega arith in
    let wide : g.width ≡ w = ap (λ (q : Grid). q.width) at.pixels ∙ width-so_far w h made.pixels in
    let high : g.height ≡ h = ap (λ (q : Grid). q.height) at.pixels ∙ height-so_far w h made.pixels in
    let white = white-next w h made.pixels g (x + k) y at.pixels size (omega arith) (omega arith) in
    subst (λ (q : Region). HasDecoded w h input q (region_state g' d' (set s n new))) (sym (after_pixels-one (row_coding template) w h input k r))
    (HasDecoded-decided (row_coding template) w h input made g g' d d' s (x + k) y n false old new size (omega arith) (omega arith) (after_pixels-predicted (row_coding template) w h input k r ∙ predicted) refl is_context is_old (pushes white) is_next is_new at)

-- ---- the loops of the kernels
-- a pixel into a number
pub decodes-bit : (template : List AdaptiveTemplatePixel) (x y k : ℕ) (g : Grid) (d0 d d' : Coder) (s0 s : List Context) (n byte symbol : ℕ) (read new : Context)
    → DecodesPixels template false x y k (region_state g d0 s0) (region_state (with_pixels g x y k byte) d s) → x + (k + 1) ≤ g.width → y < g.height → n ≡ context_at template (with_pixels g x y k byte) (x + k) y → n < length s
    → symbol ≡ bit_number (decision d.bytes d.registers (get_or s n read)).symbol → d' ≡ record d { registers = (decision d.bytes d.registers (get_or s n read)).registers } → new ≡ (decision d.bytes d.registers (get_or s n read)).context
    → DecodesPixels template false x y (k + 1) (region_state g d0 s0) (region_state (with_pixels g x y (k + 1) (byte * 2 + symbol)) d' (set s n new))
decodes-bit template x y k g d0 d d' s0 s n byte symbol read new before left above is_context inside is_symbol is_next is_new =
    decodes-decided template x y k g (with_pixels g x y k byte) (with_pixels g x y (k + 1) (byte * 2 + symbol)) d0 d d' s0 s n (get_or s n read) new before (omega arith) above is_context (get_or_default s n read fresh inside)
    (stored-push g x y k byte symbol _ is_symbol (omega arith) above) is_next is_new

pub decodes-pixel : (template : List AdaptiveTemplatePixel) (x y k : ℕ) (g0 g g' : Grid) (d0 d d' : Coder) (s0 s : List Context) (n symbol : ℕ) (read new : Context)
    → DecodesPixels template false x y k (region_state g0 d0 s0) (region_state g d s) → x + (k + 1) ≤ g.width → y < g.height → n ≡ context_at template g (x + k) y → n < length s → g' ≡ with_pixels g (x + k) y 1 symbol
    → symbol ≡ bit_number (decision d.bytes d.registers (get_or s n read)).symbol → d' ≡ record d { registers = (decision d.bytes d.registers (get_or s n read)).registers } → new ≡ (decision d.bytes d.registers (get_or s n read)).context
    → DecodesPixels template false x y (k + 1) (region_state g0 d0 s0) (region_state g' d' (set s n new))
decodes-pixel template x y k g0 g g' d0 d d' s0 s n symbol read new before left above is_context inside stored is_symbol is_next is_new =
    decodes-decided template x y k g0 g g' d0 d d' s0 s n (get_or s n read) new before (omega arith) above is_context (get_or_default s n read fresh inside)
    (λ white. stored ∙ stored-one g (x + k) y symbol _ is_symbol (omega arith) above white) is_next is_new

pub left-bit : (g : Grid) (x y k left byte symbol : ℕ) (c : Bool) → symbol ≡ bit_number c → x + (k + 1) ≤ g.width → y < g.height → IsLeft (with_pixels g x y k byte) (x + k) y left → IsLeft (with_pixels g x y (k + 1) (byte * 2 + symbol)) (x + (k + 1)) y ((left * 2 + symbol) % 16)
left-bit g x y k left byte symbol c is wide above before =
    let made : Grid = with_pixels g x y (k + 1) (byte * 2 + symbol) in
    let next : x + k + 1 ≡ x + (k + 1) = omega arith in
    let last : x + (k + 1) - 1 - (x + k) ≡ 0 = omega arith in
    subst (λ (m : ℕ). IsLeft made m y ((left * 2 + symbol) % 16)) next
    (left-push (with_pixels g x y k byte) made (x + k) y left symbol c is
    (stored-inside g x y (k + 1) (byte * 2 + symbol) (x + k) (omega arith) (omega arith) wide above ∙ ap (λ (m : ℕ). bit (byte * 2 + symbol) m) last ∙ low-bit byte symbol c is)
    (λ i less. same i less)
    before)
  where
    same : (i : ℕ) → i < x + k → pixel_at (with_pixels g x y (k + 1) (byte * 2 + symbol)) i y ≡ pixel_at (with_pixels g x y k byte) i y
    same i less =
        ⊎_elim
        (λ (out : i < x). stored-before g x y (k + 1) (byte * 2 + symbol) i out ∙ sym (stored-before g x y k byte i out))
        (λ (low : x ≤ i).
        let place : x + (k + 1) - 1 - i ≡ x + k - 1 - i + 1 = omega arith in
        stored-inside g x y (k + 1) (byte * 2 + symbol) i low (omega arith) wide above ∙ ap (λ (n : ℕ). bit (byte * 2 + symbol) n) place ∙ high-bit byte symbol (x + k - 1 - i) (digit c symbol is) ∙ sym (stored-inside g x y k byte i low less (omega arith) above))
        (cases_lt i x)

-- a pixel that is stored by itself
pub left-pixel : (g : Grid) (x y k left symbol : ℕ) (c : Bool) → symbol ≡ bit_number c → x + (k + 1) ≤ g.width → y < g.height → IsLeft g (x + k) y left → IsLeft (with_pixels g (x + k) y 1 symbol) (x + (k + 1)) y ((left * 2 + symbol) % 16)
left-pixel g x y k left symbol c is wide above before =
    let made : Grid = with_pixels g (x + k) y 1 symbol in
    let next : x + k + 1 ≡ x + (k + 1) = omega arith in
    let last : x + k + 1 - 1 - (x + k) ≡ 0 = omega arith in
    subst (λ (m : ℕ). IsLeft made m y ((left * 2 + symbol) % 16)) next
    (left-push g made (x + k) y left symbol c is
    (stored-inside g (x + k) y 1 symbol (x + k) (omega arith) (omega arith) (omega arith) above ∙ ap (λ (m : ℕ). bit symbol m) last ∙ lowest symbol c is)
    (λ i less. stored-before g (x + k) y 1 symbol i less)
    before)

pub byte-more : (byte symbol k : ℕ) → byte < 2 ^ k → symbol < 2 → byte * 2 + symbol < 2 ^ (k + 1)
byte-more byte symbol k small is_digit = rw (add-one k, pow-suc) (omega arith)

pub inside-states : (n size size' few : ℕ) → n < 2 ^ few → size ≡ 2 ^ few → size' ≡ size → n < size'
inside-states n size size' few less all same = omega arith

-- ---- several pixels
pub decodes-then : (template : List AdaptiveTemplatePixel) (p : Bool) (x x' y n m k : ℕ) (g0 g1 g2 : Grid) (d0 d1 d2 : Coder) (s0 s1 s2 : List Context) → DecodesPixels template p x y n (region_state g0 d0 s0) (region_state g1 d1 s1) → DecodesPixels template p x' y m (region_state g1 d1 s1) (region_state g2 d2 s2) → x' ≡ x + n → k ≡ n + m → DecodesPixels template p x y k (region_state g0 d0 s0) (region_state g2 d2 s2)
decodes-then template p x x' y n m k g0 g1 g2 d0 d1 d2 s0 s1 s2 one two place sum = λ w h input r len predicted has_decoded.
    let made : Region = after_pixels (row_coding template) w h input n r in
    let size : length made.pixels ≡ y * w + x' = after_pixels-length (row_coding template) w h input n r ∙ omega arith in
    subst (λ (q : Region). HasDecoded w h input q (region_state g2 d2 s2)) (sym (ap (λ (i : ℕ). after_pixels (row_coding template) w h input i r) sum ∙ after_pixels-add (row_coding template) w h input n m r))
    (two w h input made size (after_pixels-predicted (row_coding template) w h input n r ∙ predicted) (one w h input r len predicted has_decoded))

-- ---- copied pixels
decodes-known : (template : List AdaptiveTemplatePixel) (x y k : ℕ) (g0 g g' : Grid) (d0 d : Coder) (s0 s : List Context) (c : Bool)
    → DecodesPixels template true x y k (region_state g0 d0 s0) (region_state g d s) → x + k < g.width → y < g.height → pixel g (pos (x + k)) (pos y +ℤ negsuc 0) ≡ c → Pushes g g' (x + k) y c → DecodesPixels template true x y (k + 1) (region_state g0 d0 s0) (region_state g' d s)
decodes-known template x y k g0 g g' d0 d s0 s c before left above is pushes = λ w h input r len predicted has_decoded.
    let at = before w h input r len predicted has_decoded in
    let made : Region = after_pixels (row_coding template) w h input k r in
    let size : length made.pixels ≡ y * w + (x + k) = after_pixels-length (row_coding template) w h input k r ∙ omega arith in
    let wide : g.width ≡ w = ap (λ (q : Grid). q.width) at.pixels ∙ width-so_far w h made.pixels in
    let high : g.height ≡ h = ap (λ (q : Grid). q.height) at.pixels ∙ height-so_far w h made.pixels in
    let white = white-next w h made.pixels g (x + k) y at.pixels size (omega arith) (omega arith) in
    subst (λ (q : Region). HasDecoded w h input q (region_state g' d s)) (sym (after_pixels-one (row_coding template) w h input k r))
    (HasDecoded-known (row_coding template) w h input made g g' d s (x + k) y true c size (omega arith) (omega arith) (after_pixels-predicted (row_coding template) w h input k r ∙ predicted) (ap (λ (b : Bool). Some b) is) (pushes white) at)

-- the first k of n pixels
copied-some : (template : List AdaptiveTemplatePixel) (x y n k bits : ℕ) (g : Grid) (d : Coder) (s : List Context) → k ≤ n → ((i : ℕ) → i < n → bit bits (n - 1 - i) ≡ pixel g (pos (x + i)) (pos y +ℤ negsuc 0)) → x + n ≤ g.width → y < g.height
    → DecodesPixels template true x y k (region_state g d s) (region_state (with_pixels g x y k (bits / 2 ^ (n - k))) d s)
copied-some template x y n zero bits g d s few each left above = decodes-start template true x y (bits / 2 ^ (n - 0)) g d s
copied-some template x y n (suc k) bits g d s few each left above =
    let before = copied-some template x y n k bits g d s (omega arith) each left above in
    let old : Grid = with_pixels g x y k (bits / 2 ^ (n - k)) in
    let c : Bool = bit bits (n - 1 - k) in
    let next : k + 1 ≡ suc k = omega arith in
    let row : pos y +ℤ negsuc 0 ≡ pos y -ℤ pos 1 = omega (arith, ints) in
    let colour : pixel old (pos (x + k)) (pos y +ℤ negsuc 0) ≡ c =
    ap (λ (z : ℤ). pixel old (pos (x + k)) z) row ∙ sym (same-above g old (pos (x + k)) y 1 (omega arith) (stored-above g x y k (bits / 2 ^ (n - k)))) ∙ ap (λ (z : ℤ). pixel g (pos (x + k)) z) (sym row) ∙ sym (each k (omega arith)) in
    let step = decodes-known template x y k g old (with_pixels g x y (k + 1) (bits / 2 ^ (n - k) * 2 + bit_number c)) d d s s c before (omega arith) above colour (stored-push g x y k (bits / 2 ^ (n - k)) (bit_number c) c refl (omega arith) above) in
    let number : bits / 2 ^ (n - k) * 2 + bit_number c ≡ bits / 2 ^ (n - suc k) = one-more bits n k (omega arith) in
    subst (λ (i : ℕ). DecodesPixels template true x y i (region_state g d s) (region_state (with_pixels g x y i (bits / 2 ^ (n - suc k))) d s)) next
    (subst (λ (b : ℕ). DecodesPixels template true x y (k + 1) (region_state g d s) (region_state (with_pixels g x y (k + 1) b) d s)) number step)
  where
    one-more : (bits n k : ℕ) → k < n → bits / 2 ^ (n - k) * 2 + bit_number (bit bits (n - 1 - k)) ≡ bits / 2 ^ (n - suc k)
    one-more bits n k less =
        let place : n - 1 - k ≡ n - suc k = omega arith in
        let up : n - k ≡ n - suc k + 1 = omega arith in
        let half = shr-shr bits (n - suc k) 1 in
        ap (λ (i : ℕ). bits / 2 ^ (n - k) * 2 + bit_number (bit bits i)) place
        ∙ rw (bit_number-bit bits (n - suc k), up, ← half) (omega arith)

pub decodes-copied : (template : List AdaptiveTemplatePixel) (x y n bits : ℕ) (g : Grid) (d : Coder) (s : List Context) → ((i : ℕ) → i < n → bit bits (n - 1 - i) ≡ pixel g (pos (x + i)) (pos y +ℤ negsuc 0)) → x + n ≤ g.width → y < g.height
    → DecodesPixels template true x y n (region_state g d s) (region_state (with_pixels g x y n bits) d s)
decodes-copied template x y n bits g d s each left above =
    let all : bits / 2 ^ (n - n) ≡ bits = whole bits n in
    subst (λ (b : ℕ). DecodesPixels template true x y n (region_state g d s) (region_state (with_pixels g x y n b) d s)) all (copied-some template x y n n bits g d s (omega arith) each left above)
  where
    whole : (bits n : ℕ) → bits / 2 ^ (n - n) ≡ bits
    whole bits n =
        let none : n - n ≡ 0 = omega arith in
        ap (λ (i : ℕ). bits / 2 ^ i) none ∙ omega arith
