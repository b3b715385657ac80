-- Planes read one after another, and the values gathered from them.
use Rattle.std.proofs.Common.{◌≡◌, ℕ, suc, ◌+◌, ◌-◌, ◌/◌, ◌<◌, ◌≤◌, Bool, true, false, ltb, not, ◌&&◌, ◌||◌, List, [], ◌∷◌, ◌++◌, length, take, drop, Result, Ok, Err, add-one, length-append, refl, sym, ap, subst, ◌∙◌, arith}
use Rattle.std.specs.Prelude.{if◌then◌else◌, Option, None, Some, is_some}
use Rattle.std.specs.Borrow.{Bor}
use Rattle.std.proofs.lemmas.Bool.{lt-ltb, ltb-false}
use Rattle.std.proofs.lemmas.List.{append_assoc, append-nil, length-drop, take_all}
use Rattle.std.proofs.lemmas.List.FromFn.{length-map-range_with_len, map-range_with_len_more}
use Rattle.jbig2_base.specs.Results.{◌>>=◌}
use Rattle.jbig2_base.specs.Grid.{Grid, blank}
use Rattle.jbig2_base.specs.declared.error.DecodeError.{DecodeError}
use Rattle.jbig2_coder.specs.Coder.{Coder, Context, Registers, initial_registers}
use Rattle.jbig2_region.specs.Generic.{coding_of}
use Rattle.jbig2_region.specs.inner.RegionStates.{DecodesRegion, HasDecoded, region_state}
use Rattle.jbig2_region.specs.Raster.{so_far, decoded_region, no_pixels}
use Rattle.jbig2_coder.specs.Coder.{fresh_contexts}
use Rattle.jbig2_region.specs.{Generic.{skipping_coding}, inner.RegionViews.{skip_of}}
use Rattle.jbig2_mmr.specs.T6.{DecodedRows, Rows, mmr_rows, grid_of_rows, rows_of}
use Rattle.jbig2_region.specs.Templates.{context_bits, template_pixels, nominal_adaptive_pixels}
use Rattle.jbig2_region.specs.declared.template.AdaptiveTemplatePixel.{AdaptiveTemplatePixel}
use Rattle.jbig2_halftone.specs.GrayScale.{GrayScale, after_planes, gray_values, mmr_plane, mmr_planes, image_is_too_large}
use Rattle.jbig2_halftone.specs.inner.FunctionResults.{coded_plane, plane_coding, coded_planes, planes_by_coder, planes_by_mmr, values_of}

-- neither side of an image that has a plane is too long
pub image-sides : (p : GrayScale) (i : ℕ) → image_is_too_large p ≡ false → i < p.bits_per_pixel → (p.width ≤ 65535) × (p.height ≤ 65535)
image-sides p i fits more =
    let sides : (ltb 65535 p.width || ltb 65535 p.height) ≡ false = rw (lt-ltb 0 p.bits_per_pixel (omega arith)) at fits in
    (ltb-false 65535 p.width (or-left (ltb 65535 p.width) (ltb 65535 p.height) sides), ltb-false 65535 p.height (or-right (ltb 65535 p.width) (ltb 65535 p.height) sides))
  where
    or-left : (a b : Bool) → (a || b) ≡ false → a ≡ false
    or-left true b e = absurd (cc)
    or-left false b e = refl

    or-right : (a b : Bool) → (a || b) ≡ false → b ≡ false
    or-right true b e = absurd (cc)
    or-right false b e = e

pub plane-width : (w h : ℕ) (bits : List _) (grid : Grid) → grid ≡ so_far w h bits → grid.width ≡ w
unfolding so_far
plane-width w h bits grid e = ap (λ (g : Grid). g.width) e

pub plane-height : (w h : ℕ) (bits : List _) (grid : Grid) → grid ≡ so_far w h bits → grid.height ≡ h
unfolding so_far
plane-height w h bits grid e = ap (λ (g : Grid). g.height) e

-- ---- a plane without skipped pixels is a generic region without typical prediction
pub unskipped : (p : GrayScale) (adaptive : List AdaptiveTemplatePixel) (old : Grid) (coder : Coder) (states : List Context) (grid : Grid) (next : Coder) (after : List Context) → p.skip_mask ≡ None → adaptive ≡ nominal_adaptive_pixels p.template
    → DecodesRegion (coding_of false p.template (template_pixels false p.template adaptive)) (region_state old coder states) (region_state grid next after) → DecodesRegion (plane_coding p) (region_state old coder states) (region_state grid next after)
unskipped p adaptive old coder states grid next after none nominal holds =
    let pixels : List AdaptiveTemplatePixel = template_pixels false p.template adaptive in
    let masked = subst (λ (m : Option Grid). HasDecoded old.width old.height coder.bytes (decoded_region (skipping_coding pixels m) old.width old.height coder.bytes (no_pixels coder.registers states)) (region_state grid next after)) (sym none) holds in
    subst (λ (a : List AdaptiveTemplatePixel). HasDecoded old.width old.height coder.bytes (decoded_region (skipping_coding (template_pixels false p.template a) p.skip_mask) old.width old.height coder.bytes (no_pixels coder.registers states)) (region_state grid next after)) nominal masked

-- what a mask is that isn't there
pub no-mask : (mask : Option (Bor Grid)) → is_some mask ≡ false → skip_of mask ≡ None
no-mask None e = refl
no-mask (Some m) e = absurd (cc)

-- ---- planes by the coder
-- what is held after the i highest planes
pub record AfterPlanes (p : GrayScale) (input : List ℕ) (i : ℕ) (coder : Coder) (states : List Context) : Type 0 where
  pub bytes : coder.bytes ≡ input
  pub registers : coder.registers ≡ (after_planes p input i).registers
  pub contexts : states ≡ (after_planes p input i).contexts

pub after-none : (p : GrayScale) (input : List ℕ) (coder : Coder) (states : List Context) → coder.bytes ≡ input → coder.registers ≡ initial_registers input → states ≡ fresh_contexts (context_bits p.template) → AfterPlanes p input 0 coder states
unfolding after_planes
after-none p input coder states bytes registers contexts = record { bytes = bytes; registers = registers; contexts = contexts }

pub coded-holds : (p : GrayScale) (input : List ℕ) (i : ℕ) (before grid : Grid) (coder next : Coder) (states after : List Context) → before ≡ blank p.width p.height false
    → HasDecoded before.width before.height coder.bytes (decoded_region (plane_coding p) before.width before.height coder.bytes (no_pixels coder.registers states)) (region_state grid next after)
    → AfterPlanes p input i coder states
    → HasDecoded p.width p.height input (after_planes p input (i + 1)) (region_state grid next after)
unfolding after_planes
coded-holds p input i before grid coder next states after white holds before_it =
    let two = subst (λ (b : List ℕ). HasDecoded before.width before.height b (decoded_region (plane_coding p) before.width before.height b (no_pixels coder.registers states)) (region_state grid next after)) before_it.bytes holds in
    let three = subst (λ (g : Grid). HasDecoded g.width g.height input (decoded_region (plane_coding p) g.width g.height input (no_pixels coder.registers states)) (region_state grid next after)) white two in
    let four = subst (λ (r : Registers). HasDecoded p.width p.height input (decoded_region (plane_coding p) p.width p.height input (no_pixels r states)) (region_state grid next after)) before_it.registers three in
    let five = subst (λ (s : List Context). HasDecoded p.width p.height input (decoded_region (plane_coding p) p.width p.height input (no_pixels (after_planes p input i).registers s)) (region_state grid next after)) before_it.contexts four in
    rw add-one five

pub coded-next : (p : GrayScale) (input : List ℕ) (i : ℕ) (grid : Grid) (next : Coder) (after : List Context) → HasDecoded p.width p.height input (after_planes p input (i + 1)) (region_state grid next after) → AfterPlanes p input (i + 1) next after
coded-next p input i grid next after holds = record { bytes = holds.bytes; registers = holds.registers; contexts = holds.contexts }

-- the values of one plane more
pub coded-values : (p : GrayScale) (input : List ℕ) (i : ℕ) (grid : Grid) (next : Coder) (after : List Context) (values : List ℕ) → HasDecoded p.width p.height input (after_planes p input (i + 1)) (region_state grid next after)
    → values ≡ gray_values p.width p.height (coded_planes p input i ++ grid ∷ []) → values ≡ gray_values p.width p.height (coded_planes p input (i + 1))
coded-values p input i grid next after values holds made =
    made
    ∙ ap (λ (g : Grid). gray_values p.width p.height (coded_planes p input i ++ g ∷ [])) holds.pixels
    ∙ sym (ap (λ (ps : List Grid). gray_values p.width p.height ps) (map-range_with_len_more (coded_plane p input) 0 i i (omega arith)))

pub coded-many : (p : GrayScale) (input : List ℕ) (i : ℕ) → length (coded_planes p input i) ≡ i
coded-many p input i = length-map-range_with_len (coded_plane p input) 0 i

-- all planes are taken
pub coded-all : (p : GrayScale) (input : List ℕ) (i : ℕ) (values : List ℕ) → i ≡ p.bits_per_pixel → values ≡ gray_values p.width p.height (coded_planes p input i) → values_of p (planes_by_coder p input) ≡ Ok values
coded-all p input i values all made =
    sym (ap (λ (vs : List ℕ). ok vs) (made ∙ ap (λ (n : ℕ). gray_values p.width p.height (coded_planes p input n)) all))
  where
    ok : List ℕ → Result (List ℕ) DecodeError
    ok vs = Ok vs

pub coded-contexts : (p : GrayScale) (input : List ℕ) (i : ℕ) (coder : Coder) (states : List Context) → i ≡ p.bits_per_pixel → AfterPlanes p input i coder states → states ≡ (after_planes p input p.bits_per_pixel).contexts
coded-contexts p input i coder states all before_it = before_it.contexts ∙ ap (λ (n : ℕ). (after_planes p input n).contexts) all

-- ---- planes by MMR
-- i planes are read, and `rest` is left
pub record ReadsMmr (p : GrayScale) (input : List ℕ) (i : ℕ) (planes : List Grid) (rest : List ℕ) : Type 0 where
  pub all : (mmr_planes p rest (p.bits_per_pixel - i) >>= λ others. Ok (planes ++ others)) ≡ mmr_planes p input p.bits_per_pixel

same-planes : (planes : Result (List Grid) DecodeError) → (planes >>= λ others. Ok ([] ++ others)) ≡ planes
same-planes (Ok planes) = refl
same-planes (Err e) = refl

pub mmr-none : (p : GrayScale) (input : List ℕ) (planes : List Grid) → planes ≡ [] → ReadsMmr p input 0 planes input
mmr-none p input planes none =
    let all : p.bits_per_pixel - 0 ≡ p.bits_per_pixel = omega arith in
    record { all = rw (none, all) (same-planes (mmr_planes p input p.bits_per_pixel)) }

-- a plane, and those after it
one-more : (done : List Grid) (grid : Grid) (planes : Result (List Grid) DecodeError) → ((planes >>= λ others. Ok (grid ∷ others)) >>= λ others. Ok (done ++ others)) ≡ (planes >>= λ others. Ok ((done ++ grid ∷ []) ++ others))
one-more done grid (Ok others) = ap (λ (ps : List Grid). Ok ps) (sym (append_assoc done (grid ∷ []) others))
one-more done grid (Err e) = refl

mmr-step : (p : GrayScale) (i : ℕ) (left : List ℕ) (grid : Grid) (rest : List ℕ) → i < p.bits_per_pixel → mmr_plane p left ≡ Ok (grid, rest)
    → mmr_planes p left (p.bits_per_pixel - i) ≡ (mmr_planes p rest (p.bits_per_pixel - (i + 1)) >>= λ others. Ok (grid ∷ others))
unfolding mmr_planes
mmr-step p i left grid rest more read =
    let one : p.bits_per_pixel - i ≡ suc (p.bits_per_pixel - (i + 1)) = omega arith in
    rw (one, read)

pub mmr-next : (p : GrayScale) (input : List ℕ) (i : ℕ) (grid : Grid) (old new : List Grid) (left rest : List ℕ) → i < p.bits_per_pixel → mmr_plane p left ≡ Ok (grid, rest)
    → new ≡ old ++ grid ∷ [] → ReadsMmr p input i old left → ReadsMmr p input (i + 1) new rest
mmr-next p input i grid old new left rest more read pushed reads = record {
  all =
      ap (λ (ps : List Grid). mmr_planes p rest (p.bits_per_pixel - (i + 1)) >>= λ others. Ok (ps ++ others)) pushed
      ∙ sym (one-more old grid (mmr_planes p rest (p.bits_per_pixel - (i + 1))))
      ∙ sym (ap (λ (planes : Result (List Grid) DecodeError). planes >>= λ others. Ok (old ++ others)) (mmr-step p i left grid rest more read))
      ∙ reads.all;
}

-- all planes are read
pub mmr-all : (p : GrayScale) (input : List ℕ) (i : ℕ) (planes : List Grid) (rest : List ℕ) → p.bits_per_pixel ≤ i → ReadsMmr p input i planes rest → planes_by_mmr p input ≡ Ok planes
unfolding mmr_planes
mmr-all p input i planes rest all reads =
    let none : p.bits_per_pixel - i ≡ 0 = omega arith in
    let made : Ok (planes ++ []) ≡ mmr_planes p input p.bits_per_pixel = rw none at reads.all in
    sym made ∙ ap (λ (ps : List Grid). Ok ps) (append-nil planes)

-- a fault ends the reading
pub mmr-fault : (p : GrayScale) (input : List ℕ) (i : ℕ) (planes : List Grid) (left : List ℕ) (error : DecodeError) → i < p.bits_per_pixel → mmr_plane p left ≡ Err error → ReadsMmr p input i planes left → planes_by_mmr p input ≡ Err error
unfolding mmr_planes
mmr-fault p input i planes left error more e reads =
    let one : p.bits_per_pixel - i ≡ suc (p.bits_per_pixel - (i + 1)) = omega arith in
    let made : Err error ≡ mmr_planes p input p.bits_per_pixel = rw (one, e) at reads.all in
    sym made

-- one plane
mmr-sized : (p : GrayScale) (before : Grid) (left : List ℕ) (result : Result DecodedRows DecodeError) → before ≡ blank p.width p.height false → mmr_rows p.strict before.width before.height left ≡ result → mmr_rows p.strict p.width p.height left ≡ result
mmr-sized p before left result white e = subst (λ (g : Grid). mmr_rows p.strict g.width g.height left ≡ result) white e

pub plane-made : (p : GrayScale) (before grid : Grid) (left : List ℕ) (used : ℕ) (rest : List ℕ) → before ≡ blank p.width p.height false → mmr_rows p.strict before.width before.height left ≡ Ok (record { grid = grid; used = used }) → rest ≡ drop used left → mmr_plane p left ≡ Ok (grid, rest)
unfolding mmr_plane
plane-made p before grid left used rest white e beyond = rw (mmr-sized p before left (Ok (record { grid = grid; used = used })) white e, beyond)

pub plane-fault : (p : GrayScale) (before : Grid) (left : List ℕ) (error : DecodeError) → before ≡ blank p.width p.height false → mmr_rows p.strict before.width before.height left ≡ Err error → mmr_plane p left ≡ Err error
unfolding mmr_plane
plane-fault p before left error white e = rw (mmr-sized p before left (Err error) white e)

not_refused : (b : Bool) (error : DecodeError) (made d : DecodedRows) → (if b then Err error else Ok made) ≡ Ok d → made ≡ d
not_refused true error made d e = cc
not_refused false error made d e = cc

-- what MMR rows are, and how many bytes they use
rows-made : (strict : Bool) (w h : ℕ) (left : List ℕ) (d : DecodedRows) → mmr_rows strict w h left ≡ Ok d → (d.grid ≡ grid_of_rows w h (rows_of w h left).rows) × (d.used ≤ length left)
unfolding mmr_rows
rows-made strict w h left d e =
    let r : Rows = rows_of w h left in
    let made : DecodedRows = record { grid = grid_of_rows w h r.rows; used = length left - length r.left / 8 } in
    let same : made ≡ d = not_refused (strict && not r.whole) _ made d e in
    (sym (ap (λ (m : DecodedRows). m.grid) same), within (length left) (length r.left / 8) d.used (ap (λ (m : DecodedRows). m.used) same))
  where
    within : (n m k : ℕ) → n - m ≡ k → k ≤ n
    within n m k e = omega arith

pub mmr-made : (p : GrayScale) (before grid : Grid) (left : List ℕ) (used : ℕ) → before ≡ blank p.width p.height false → mmr_rows p.strict before.width before.height left ≡ Ok (record { grid = grid; used = used }) → (grid.width ≡ p.width) × (grid.height ≡ p.height) × (used ≤ length left)
mmr-made p before grid left used white e =
    let made = rows-made p.strict p.width p.height left (record { grid = grid; used = used }) (mmr-sized p before left (Ok (record { grid = grid; used = used })) white e) in
    (ap (λ (g : Grid). g.width) made.0, ap (λ (g : Grid). g.height) made.0, made.1)

-- the part of a slice from a place to its end
pub drop-whole : (k : ℕ) (bytes : List ℕ) → take (length bytes - k) (drop k bytes) ≡ drop k bytes
drop-whole k bytes = take_all (length bytes - k) (drop k bytes) (omega (arith, length-drop k bytes))

-- the sides of a plane
sides-of : (p : GrayScale) (left : List ℕ) (grid : Grid) (rest : List ℕ) (r : Result DecodedRows DecodeError) → mmr_rows p.strict p.width p.height left ≡ r → ◌≡◌ {A = Result (Grid × List ℕ) DecodeError} (r >>= λ rows. Ok (rows.grid, drop rows.used left)) (Ok (grid, rest)) → (grid.width ≡ p.width) × (grid.height ≡ p.height)
sides-of p left grid rest (Err e) rows made = absurd (cc)
sides-of p left grid rest (Ok d) rows made =
    let same : d.grid ≡ grid = ap (first-of d.grid) made in
    let is = sym same ∙ (rows-made p.strict p.width p.height left d rows).0 in
    (ap (λ (g : Grid). g.width) is, ap (λ (g : Grid). g.height) is)
  where
    first-of : Grid → Result (Grid × List ℕ) DecodeError → Grid
    first-of other (Ok read) = read.0
    first-of other (Err e) = other

pub plane-sides : (p : GrayScale) (left : List ℕ) (grid : Grid) (rest : List ℕ) → mmr_plane p left ≡ Ok (grid, rest) → (grid.width ≡ p.width) × (grid.height ≡ p.height)
unfolding mmr_plane
plane-sides p left grid rest read = sides-of p left grid rest (mmr_rows p.strict p.width p.height left) refl read

-- ---- values of planes by MMR
-- the values of the planes that are read; `rest` is left
pub record AddsMmr (p : GrayScale) (input : List ℕ) (i : ℕ) (made rest : List ℕ) : Type 0 where
  pub planes : List Grid
  pub many : length planes ≡ i
  pub values : made ≡ gray_values p.width p.height planes
  pub reads : ReadsMmr p input i planes rest

pub adds-none : (p : GrayScale) (input values : List ℕ) → values ≡ gray_values p.width p.height [] → AddsMmr p input 0 values input
adds-none p input values none = record { planes = []; many = refl; values = none; reads = mmr-none p input [] refl }

pub adds-next : (p : GrayScale) (input : List ℕ) (i : ℕ) (grid : Grid) (old new left rest : List ℕ) → i < p.bits_per_pixel → mmr_plane p left ≡ Ok (grid, rest) → (adds : AddsMmr p input i old left)
    → new ≡ gray_values p.width p.height (adds.planes ++ grid ∷ []) → AddsMmr p input (i + 1) new rest
adds-next p input i grid old new left rest more read adds made = record {
  planes = adds.planes ++ grid ∷ [];
  many = length-append adds.planes (grid ∷ []) ∙ ap (λ (n : ℕ). n + 1) adds.many;
  values = made;
  reads = mmr-next p input i grid adds.planes (adds.planes ++ grid ∷ []) left rest more read refl adds.reads;
}

pub adds-all : (p : GrayScale) (input : List ℕ) (i : ℕ) (values rest : List ℕ) → p.bits_per_pixel ≤ i → AddsMmr p input i values rest → values_of p (planes_by_mmr p input) ≡ Ok values
adds-all p input i values rest all adds =
    ap (values_of p) (mmr-all p input i adds.planes rest all adds.reads) ∙ sym (ap (λ (vs : List ℕ). ok vs) adds.values)
  where
    ok : List ℕ → Result (List ℕ) DecodeError
    ok vs = Ok vs

pub adds-fault : (p : GrayScale) (input : List ℕ) (i : ℕ) (values left : List ℕ) (error : DecodeError) → i < p.bits_per_pixel → mmr_plane p left ≡ Err error → AddsMmr p input i values left → values_of p (planes_by_mmr p input) ≡ Err error
adds-fault p input i values left error more fault adds = ap (values_of p) (mmr-fault p input i adds.planes left error more fault adds.reads)
