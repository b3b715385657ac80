-- Refinements: the number of a context bit by bit, nine pixels of one colour, and what decoding a whole region gives.
use Rattle.std.proofs.Common.{ltb, pow-suc, ℤ, pos, ◌-ℤ◌, Result, Ok, Err, is_ok, ◌||◌, suc, refl, subst, not, Some, None, ⊎_elim, ◌&&◌, length-append, ◌≡◌, ℕ, ◌+◌, ◌-◌, ◌*◌, ◌^◌, ◌<◌, ◌≤◌, Bool, true, false, List, [], ◌∷◌, ◌++◌, length, drop, map, get_or, add-one, sym, ap, ◌∙◌, arith}
use Rattle.std.proofs.Math.Seq.{drop-cons, drop-length}
use Rattle.std.proofs.Math.Nat.{pow-le-pow_right}
use Rattle.std.proofs.lemmas.Bool.{cases_Bool, cond-true}
use Rattle.std.proofs.lemmas.List.{append-nil, length-map}
use Rattle.std.specs.List.{list_all}
use Rattle.jbig2_base.specs.Counts.{Counts}
use Rattle.jbig2_base.specs.Grid.{Grid, blank}
use Rattle.jbig2_base.specs.Bits.{number_of}
use Rattle.jbig2_region.specs.{Generic.{region_pixel, context_at}, RegionInfo.{PlacedRegion}}
use Rattle.jbig2_region.specs.Refinement.{Reference, reference_pixel, refined_context, nine, common_colour, refinement_coding, refined_region, refined_grid, refined_result, refined_contexts, reference_of, offset}
use Rattle.jbig2_region.specs.RegionInfo.{is_far}
use Rattle.jbig2_region.specs.RefinementHeader.{RefinementHeader}
use Rattle.jbig2_region.specs.Steps.{CountsDecided, CountsRefined, refinement_loads}
use Rattle.jbig2_region.specs.RefinementTemplates.{refinement_bits}
use Rattle.jbig2_region.specs.inner.RegionStates.{HasDecoded, region_state}
use Rattle.jbig2_region.specs.Raster.{Coding, decoded_region, no_pixels, source}
use Rattle.jbig2_coder.specs.Coder.{fresh_contexts}
use Rattle.jbig2_coder.specs.Coder.{Coder, Context, Registers, initial_registers}
use Rattle.jbig2_base.specs.Results.{◌>>=◌, refuse_if}
use Rattle.jbig2_base.specs.declared.error.DecodeError.{DecodeError}
use Rattle.jbig2_region.proofs.ContextLemmas.{number_of-lt}
use Rattle.jbig2_base.proofs.Causes.{same-ok}
use Rattle.jbig2_base.specs.Bits.{bit_number}
use Rattle.jbig2_region.proofs.GenericLemmas.{fresh-decoded}
use Rattle.jbig2_region.specs.declared.template.AdaptiveTemplatePixel.{AdaptiveTemplatePixel}

pub number-step : (r : Reference) (x y : ℕ) (pixels : List AdaptiveTemplatePixel) (bits : List Bool) (k : ℕ) (p : AdaptiveTemplatePixel) (n b : ℕ) → k < length pixels → n ≡ number_of (map (reference_pixel r x y) (drop (k + 1) pixels) ++ bits) → b ≡ bit_number (reference_pixel r x y (get_or pixels k p)) → 2 * n + b ≡ number_of (map (reference_pixel r x y) (drop k pixels) ++ bits)
number-step r x y pixels bits k p n b inside is_n is_b = rw (drop-cons pixels k p inside, is_n, is_b, add-one) (omega arith)

pub number-none : (r : Reference) (x y : ℕ) (pixels : List AdaptiveTemplatePixel) (bits : List Bool) (n : ℕ) → n ≡ number_of bits → n ≡ number_of (map (reference_pixel r x y) (drop (length pixels) pixels) ++ bits)
number-none r x y pixels bits n e = e ∙ ap (λ (l : List AdaptiveTemplatePixel). number_of (map (reference_pixel r x y) l ++ bits)) (sym (drop-length pixels))

-- one bit more
pub bound-step : (n b left : ℕ) → n < 2 ^ (13 - left) → b < 2 → 1 ≤ left → left ≤ 13 → 2 * n + b < 2 ^ (13 - (left - 1))
bound-step n b left small digit some few =
    let next : 13 - (left - 1) ≡ (13 - left) + 1 = omega arith in
    rw (next, add-one, pow-suc) (omega arith)

pub bound-whole : (n left : ℕ) → n < 2 ^ (13 - left) → n < 8192
bound-whole n left small =
    let below : 2 ^ (13 - left) ≤ 2 ^ 13 = pow-le-pow_right (omega arith) (less 13 left) in
    omega (arith, below)
  where
    less : (m n : ℕ) → m - n ≤ m
    less m n = omega arith

pub bound-start : (n count : ℕ) → n < 16 → count ≤ 9 → n < 2 ^ (13 - count)
bound-start n count small few =
    let below : 2 ^ 4 ≤ 2 ^ (13 - count) = pow-le-pow_right (omega arith) (above count few) in
    omega (arith, below)
  where
    above : (n : ℕ) → n ≤ 9 → 4 ≤ 13 - n
    above n few = omega arith

pub digit-below : (b : Bool) → bit_number b < 2
digit-below true = omega arith
digit-below false = omega arith

pub refined-value : (r : Reference) (in_reference in_region : List AdaptiveTemplatePixel) (g : Grid) (x y n high : ℕ) → high ≡ context_at in_region g x y → ((bits : List Bool) → high ≡ number_of bits → n ≡ number_of (map (reference_pixel r x y) in_reference ++ bits)) → n ≡ refined_context r in_reference in_region g x y
unfolding context_at refined_context
refined-value r in_reference in_region g x y n high e number = number (map (region_pixel g x y) in_region) e

pub refined-small : (r : Reference) (in_reference in_region : List AdaptiveTemplatePixel) (g : Grid) (x y : ℕ) → refined_context r in_reference in_region g x y < 2 ^ (length in_reference + length in_region)
unfolding refined_context
refined-small r in_reference in_region g x y =
    let bits : List Bool = map (reference_pixel r x y) in_reference ++ map (region_pixel g x y) in_region in
    let all : length bits ≡ length in_reference + length in_region =
    rw (length-append (map (reference_pixel r x y) in_reference) (map (region_pixel g x y) in_region), length-map in_reference (reference_pixel r x y), length-map in_region (region_pixel g x y)) refl in
    subst (λ (n : ℕ). number_of bits < 2 ^ n) all (number_of-lt bits)

-- the number of pixels that are all black is the greatest, and that of no others
black-number : (f : AdaptiveTemplatePixel → Bool) (ps : List AdaptiveTemplatePixel) → list_all f ps ≡ true → number_of (map f ps ++ []) + 1 ≡ 2 ^ length ps
black-number f [] e = refl
black-number f (p ∷ ps) e = step (f p) (list_all f ps) (number_of (map f ps ++ [])) (length ps) e (black-number f ps)
  where
    step : (b all : Bool) (n l : ℕ) → (b && all) ≡ true → (all ≡ true → n + 1 ≡ 2 ^ l) → bit_number b + 2 * n + 1 ≡ 2 ^ suc l
    step true all n l e h = rw pow-suc (omega (arith, h e))
    step false all n l e h = cc

other-number : (f : AdaptiveTemplatePixel → Bool) (ps : List AdaptiveTemplatePixel) → list_all f ps ≡ false → number_of (map f ps ++ []) + 1 < 2 ^ length ps
other-number f [] e = cc
other-number f (p ∷ ps) e = step (f p) (list_all f ps) (number_of (map f ps ++ [])) (length ps) e (other-number f ps) (below ps)
  where
    below : (ps : List AdaptiveTemplatePixel) → number_of (map f ps ++ []) < 2 ^ length ps
    below ps =
        let all : length (map f ps ++ []) ≡ length ps = rw (append-nil (map f ps), length-map ps f) refl in
        subst (λ (n : ℕ). number_of (map f ps ++ []) < 2 ^ n) all (number_of-lt (map f ps ++ []))

    step : (b all : Bool) (n l : ℕ) → (b && all) ≡ false → (all ≡ false → n + 1 < 2 ^ l) → n < 2 ^ l → bit_number b + 2 * n + 1 < 2 ^ suc l
    step true all n l e h small = rw pow-suc (omega (arith, h e))
    step false all n l e h small = rw pow-suc (omega arith)

-- the number of pixels that are all white is 0, and that of no others
white-number : (f : AdaptiveTemplatePixel → Bool) (ps : List AdaptiveTemplatePixel) → list_all (λ p. not (f p)) ps ≡ true → number_of (map f ps ++ []) ≡ 0
white-number f [] e = refl
white-number f (p ∷ ps) e = step (f p) (list_all (λ p. not (f p)) ps) (number_of (map f ps ++ [])) e (white-number f ps)
  where
    step : (b all : Bool) (n : ℕ) → (not b && all) ≡ true → (all ≡ true → n ≡ 0) → bit_number b + 2 * n ≡ 0
    step true all n e h = cc
    step false all n e h = omega (arith, h e)

coloured-number : (f : AdaptiveTemplatePixel → Bool) (ps : List AdaptiveTemplatePixel) → list_all (λ p. not (f p)) ps ≡ false → 1 ≤ number_of (map f ps ++ [])
coloured-number f [] e = cc
coloured-number f (p ∷ ps) e = step (f p) (list_all (λ p. not (f p)) ps) (number_of (map f ps ++ [])) e (coloured-number f ps)
  where
    step : (b all : Bool) (n : ℕ) → (not b && all) ≡ false → (all ≡ false → 1 ≤ n) → 1 ≤ bit_number b + 2 * n
    step true all n e h = omega arith
    step false all n e h = omega (arith, h e)

pub common-black : (r : Reference) (x y n : ℕ) → n ≡ number_of (map (reference_pixel r x y) nine ++ []) → n ≡ 511 → Some true ≡ common_colour r x y
unfolding common_colour
common-black r x y n e full =
    ⊎_elim (λ (black : list_all (reference_pixel r x y) nine ≡ true). rw black refl)
    (λ (other : list_all (reference_pixel r x y) nine ≡ false). absurd (less n (number_of (map (reference_pixel r x y) nine ++ [])) e full (other-number (reference_pixel r x y) nine other))) (cases_Bool (list_all (reference_pixel r x y) nine))
  where
    less : (n m : ℕ) → n ≡ m → n ≡ 511 → m + 1 < 512 → ⊥
    less n m e full small = omega arith

-- nine pixels that are not all black
not-black : (r : Reference) (x y n : ℕ) → n ≡ number_of (map (reference_pixel r x y) nine ++ []) → (n ≡ 511 → ⊥) → list_all (reference_pixel r x y) nine ≡ false
not-black r x y n e other =
    ⊎_elim (λ (black : list_all (reference_pixel r x y) nine ≡ true). absurd (other (full n (number_of (map (reference_pixel r x y) nine ++ [])) e (black-number (reference_pixel r x y) nine black))))
    (λ (other : list_all (reference_pixel r x y) nine ≡ false). other) (cases_Bool (list_all (reference_pixel r x y) nine))
  where
    full : (n m : ℕ) → n ≡ m → m + 1 ≡ 512 → n ≡ 511
    full n m e whole = omega arith

pub common-white : (r : Reference) (x y n : ℕ) → n ≡ number_of (map (reference_pixel r x y) nine ++ []) → n ≡ 0 → Some false ≡ common_colour r x y
unfolding common_colour
common-white r x y n e none =
    let other : list_all (reference_pixel r x y) nine ≡ false = not-black r x y n e (λ full. differ n none full) in
    ⊎_elim (λ (white : list_all (λ p. not (reference_pixel r x y p)) nine ≡ true). rw (other, white) refl)
    (λ (some : list_all (λ p. not (reference_pixel r x y p)) nine ≡ false). absurd (more n (number_of (map (reference_pixel r x y) nine ++ [])) e none (coloured-number (reference_pixel r x y) nine some))) (cases_Bool (list_all (λ p. not (reference_pixel r x y p)) nine))
  where
    differ : (n : ℕ) → n ≡ 0 → n ≡ 511 → ⊥
    differ n none full = omega arith

    more : (n m : ℕ) → n ≡ m → n ≡ 0 → 1 ≤ m → ⊥
    more n m e none some = omega arith

pub common-none : (r : Reference) (x y n : ℕ) → n ≡ number_of (map (reference_pixel r x y) nine ++ []) → (n ≡ 511 → ⊥) → (n ≡ 0 → ⊥) → None ≡ common_colour r x y
unfolding common_colour
common-none r x y n e full none =
    let other : list_all (reference_pixel r x y) nine ≡ false = not-black r x y n e full in
    ⊎_elim (λ (white : list_all (λ p. not (reference_pixel r x y p)) nine ≡ true). absurd (none (e ∙ white-number (reference_pixel r x y) nine white)))
    (λ (some : list_all (λ p. not (reference_pixel r x y p)) nine ≡ false). rw (other, some) refl) (cases_Bool (list_all (λ p. not (reference_pixel r x y p)) nine))

-- a region that a coder and contexts that stand at the start refine
pub refined-decoded : (h : RefinementHeader) (from : PlacedRegion) (r : Reference) (before grid : Grid) (first coder : Coder) (fresh states : List Context) → r ≡ reference_of h from → before ≡ blank h.region_info.width h.region_info.height false → first.bytes ≡ h.bytes → first.registers ≡ initial_registers h.bytes → fresh ≡ fresh_contexts (refinement_bits h.template)
    → HasDecoded before.width before.height first.bytes (decoded_region (refinement_coding h.template h.tpgron h.adaptive_template_pixels r) before.width before.height first.bytes (no_pixels first.registers fresh)) (region_state grid coder states)
    → HasDecoded h.region_info.width h.region_info.height h.bytes (refined_region h from) (region_state grid coder states)
unfolding refined_region
refined-decoded h from r before grid first coder fresh states place white bytes registers contexts has_decoded =
    let placed = subst (λ (q : Reference). HasDecoded before.width before.height first.bytes (decoded_region (refinement_coding h.template h.tpgron h.adaptive_template_pixels q) before.width before.height first.bytes (no_pixels first.registers fresh)) (region_state grid coder states)) place has_decoded in
    fresh-decoded (refinement_coding h.template h.tpgron h.adaptive_template_pixels (reference_of h from)) h.region_info.width h.region_info.height (refinement_bits h.template) h.bytes before grid first coder fresh states white bytes registers contexts placed

pub refined-result : (h : RefinementHeader) (from : PlacedRegion) (d : ℤ × ℤ) (grid : Grid) (coder : Coder) (states : List Context) → offset from h.region_info ≡ Ok d → HasDecoded h.region_info.width h.region_info.height h.bytes (refined_region h from) (region_state grid coder states) → refined_result h from ≡ Ok grid
unfolding refined_grid
refined-result h from d grid coder states near has_decoded =
    ap (λ (r : Result (ℤ × ℤ) DecodeError). r >>= λ d. Ok (refined_grid h from)) near ∙ ap (λ (g : Grid). Ok g) (sym has_decoded.pixels)

pub refined-contexts : (h : RefinementHeader) (from : PlacedRegion) (d : ℤ × ℤ) (before after : List Context) → offset from h.region_info ≡ Ok d → after ≡ (refined_region h from).contexts → after ≡ refined_contexts h from before
refined-contexts h from d before after near e =
    e ∙ sym (cond-true (is_ok (offset from h.region_info)) (refined_region h from).contexts before (ap (λ (r : Result (ℤ × ℤ) DecodeError). is_ok r) near))

-- the offset is the places' difference
pub offset-value : (h : RefinementHeader) (from : PlacedRegion) (d : ℤ × ℤ) (dx dy : ℤ) → dx ≡ d.0 → dy ≡ d.1 → offset from h.region_info ≡ Ok d → ◌≡◌ {A = Reference} (record { grid = from.grid; dx = dx; dy = dy }) (reference_of h from)
unfolding offset
offset-value h from d dx dy is_dx is_dy near =
    let difference : ◌≡◌ {A = ℤ × ℤ} (pos from.x_location -ℤ pos h.region_info.x_location, pos from.y_location -ℤ pos h.region_info.y_location) d =
    passed (ltb from.grid.width h.region_info.width || ltb from.grid.height h.region_info.height) (is_far from.x_location || is_far h.region_info.x_location || is_far from.y_location || is_far h.region_info.y_location) _ _ _ d near in
    (λ i. record { grid = from.grid; dx = is_dx i; dy = is_dy i }) ∙ ap (λ (e : ℤ × ℤ). let r : Reference = record { grid = from.grid; dx = e.0; dy = e.1 } in r) (sym difference)
  where
    passed : (p q : Bool) (e f : DecodeError) (v d : ℤ × ℤ) → (refuse_if p e >>= λ _. refuse_if q f >>= λ _. Ok v) ≡ Ok d → v ≡ d
    passed true q e f v d h = absurd (let never : ◌≡◌ {A = Result (ℤ × ℤ) DecodeError} (Err e) (Ok d) = h in cc)
    passed false true e f v d h = absurd (let never : ◌≡◌ {A = Result (ℤ × ℤ) DecodeError} (Err f) (Ok d) = h in cc)
    passed false false e f v d h = same-ok v d h

-- ---- steps
pub refined-steps : (h : RefinementHeader) (from : PlacedRegion) (r : Reference) (before : Grid) (first : Coder) (fresh : List Context) (t t' : Counts) → r ≡ reference_of h from → before ≡ blank h.region_info.width h.region_info.height false → first.bytes ≡ h.bytes → first.registers ≡ initial_registers h.bytes → fresh ≡ fresh_contexts (refinement_bits h.template)
    → CountsDecided (refinement_coding h.template h.tpgron h.adaptive_template_pixels r) (refinement_loads h.template h.adaptive_template_pixels before.width) (source before.width before.height first.bytes (no_pixels first.registers fresh)) t t'
    → CountsRefined h from t t'
refined-steps h from r before first fresh t t' place white bytes registers contexts steps =
    let coding : Reference → Coding = λ q. refinement_coding h.template h.tpgron h.adaptive_template_pixels q in
    let one = subst (λ (q : Reference). CountsDecided (coding q) (refinement_loads h.template h.adaptive_template_pixels before.width) (source before.width before.height first.bytes (no_pixels first.registers fresh)) t t') place steps in
    let two = subst (λ (q : Grid). CountsDecided (coding (reference_of h from)) (refinement_loads h.template h.adaptive_template_pixels q.width) (source q.width q.height first.bytes (no_pixels first.registers fresh)) t t') white one in
    let three = subst (λ (b : List ℕ). CountsDecided (coding (reference_of h from)) (refinement_loads h.template h.adaptive_template_pixels h.region_info.width) (source h.region_info.width h.region_info.height b (no_pixels first.registers fresh)) t t') bytes two in
    let four = subst (λ (q : Registers). CountsDecided (coding (reference_of h from)) (refinement_loads h.template h.adaptive_template_pixels h.region_info.width) (source h.region_info.width h.region_info.height h.bytes (no_pixels q fresh)) t t') registers three in
    subst (λ (s : List Context). CountsDecided (coding (reference_of h from)) (refinement_loads h.template h.adaptive_template_pixels h.region_info.width) (source h.region_info.width h.region_info.height h.bytes (no_pixels (initial_registers h.bytes) s)) t t') contexts four
