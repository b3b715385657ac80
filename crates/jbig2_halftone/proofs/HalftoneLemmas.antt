-- What decoding a whole halftone region gives: a value for each cell, and in lenient mode never a refusal.
use Rattle.std.proofs.Common.{◌≡◌, ℕ, zero, suc, ◌+◌, ◌*◌, ◌≤◌, Bool, true, false, ltb, List, [], ◌∷◌, length, drop, get_or, ◌-◌, Result, Ok, Err, refl, sym, ap, subst, ◌∙◌, ◌⊎◌, inl, inr, ⊎_elim, arith}
use Rattle.std.specs.Prelude.{if◌then◌else◌, IfErr}
use Rattle.std.proofs.lemmas.Bool.{le-ltb, and_right}
use Rattle.jbig2_base.specs.Results.{◌>>=◌, Returns, Gives, Leaves, refuse_if}
use Rattle.jbig2_base.specs.Grid.{Grid, blank}
use Rattle.jbig2_base.specs.declared.error.DecodeError.{DecodeError}
use Rattle.jbig2_base.specs.declared.error.DecodeError.TheVariants.{OutOfMemory, Overflow, Region}
use Rattle.jbig2_base.specs.declared.error.OverflowError.TheVariants.{BitmapDimension}
use Rattle.jbig2_base.specs.declared.error.RegionError.TheVariants.{GrayScaleOutOfRange}
use Rattle.jbig2_coder.specs.Coder.{Context}
use Rattle.jbig2_coder.specs.CodeLength.{code_length}
use Rattle.jbig2_mmr.specs.T6.{mmr_rows}
use Rattle.jbig2_halftone.specs.GrayScale.{GrayScale, mmr_plane, mmr_planes, planes_of, gray_values, image_is_too_large, gray_scale_image}
use Rattle.jbig2_halftone.specs.Halftone.{gray_params, pattern_for, with_cell, cells_drawn, halftone_result}
use Rattle.jbig2_halftone.specs.HalftoneHeader.{HalftoneHeader}
use Rattle.jbig2_halftone.specs.Patterns.{Patterns}
use Rattle.jbig2_halftone.specs.inner.FunctionResults.{planes_by_coder, planes_by_mmr, values_of}
use Rattle.jbig2_halftone.proofs.RowLemmas.{values-length}

-- an image whose sides fit
pub image-fits : (p : GrayScale) → p.width ≤ 65535 → p.height ≤ 65535 → image_is_too_large p ≡ false
image-fits p columns rows = rw (le-ltb 65535 p.width columns, le-ltb 65535 p.height rows, and_right (ltb 0 p.bits_per_pixel) false refl) refl

-- what a region is, from its values
pub result-of-values : (h : HalftoneHeader) (d : Patterns) (values : List ℕ) → gray_scale_image (gray_params h d) h.bytes ≡ Ok values → halftone_result h d ≡ cells_drawn h d 0 values (blank h.region_info.width h.region_info.height h.flags.initial_pixel_color)
unfolding halftone_result
result-of-values h d values read = rw read refl

pub result-of-fault : (h : HalftoneHeader) (d : Patterns) (e : DecodeError) → gray_scale_image (gray_params h d) h.bytes ≡ Err e → halftone_result h d ≡ Err e
unfolding halftone_result
result-of-fault h d e read = rw read refl

-- a value for each cell
pub values-sized : (p : GrayScale) (bytes values : List ℕ) → gray_scale_image p bytes ≡ Ok values → length values ≡ p.width * p.height
unfolding gray_scale_image
values-sized p bytes values read = by (image_is_too_large p) (planes_of p bytes) read
  where
    by : (large : Bool) (planes : Result (List Grid) DecodeError) → ((refuse_if large (Overflow BitmapDimension)) >>= λ fits. planes >>= λ ps. Ok (gray_values p.width p.height ps)) ≡ Ok values → length values ≡ p.width * p.height
    by true planes made = absurd (cc)
    by false (Err e) made = absurd (cc)
    by false (Ok ps) made =
        let same : gray_values p.width p.height ps ≡ values = cc in
        sym (ap (λ (vs : List ℕ). length vs) same) ∙ values-length p.width p.height ps

-- an image, from its planes
pub image-of-planes : (p : GrayScale) (bytes : List ℕ) → image_is_too_large p ≡ false → gray_scale_image p bytes ≡ values_of p (planes_of p bytes)
unfolding gray_scale_image
image-of-planes p bytes fits = rw fits refl

-- an exact result is one
pub answers-gives : {X Y : Type 0} (view : X → Y) (result : Result X DecodeError) (drawn meant : Result Y DecodeError) → meant ≡ drawn → Returns view result drawn → Gives view result meant
answers-gives view (Ok x) drawn meant same answers = same ∙ answers
answers-gives view (Err e) drawn meant same answers = inr (same ∙ answers)

pub refused-or : {X : Type 0} (result : Result X DecodeError) (P : DecodeError → Type 0) (Q : Type 0) → IfErr result P → IfErr result (λ e. P e ⊎ Q)
refused-or (Ok x) P Q refused = _
refused-or (Err e) P Q refused = inl refused

pub leaves-known : {X : Type 0} (result : Result X DecodeError) (left meant : List Context) → left ≡ meant → Leaves result left meant
leaves-known (Ok x) left meant same = same
leaves-known (Err e) left meant same = inr same

-- a dictionary's patterns take few bits
pub code-length-few : (n bits : ℕ) → bits ≡ code_length n → bits ≤ 16 → code_length n ≤ 32
code-length-few n bits same few = omega (arith, same)

-- ---- lenient mode
-- a result that is no refusal
abbrev pub Succeeds : {X : Type 0} → Result X DecodeError → Type 0
Succeeds {X} r = (x : X) × (r ≡ Ok x)

then-succeeds : {X Y : Type 0} (r : Result X DecodeError) (f : X → Result Y DecodeError) → Succeeds r → ((x : X) → Succeeds (f x)) → Succeeds (r >>= f)
then-succeeds {X} {Y} r f first next =
    let second : Succeeds (f first.0) = next first.0 in
    (second.0, ap (λ (q : Result X DecodeError). q >>= f) first.1 ∙ second.1)

rows-lenient : (w h : ℕ) (input : List ℕ) → Succeeds (mmr_rows false w h input)
unfolding mmr_rows
rows-lenient w h input = (_, refl)

pub plane-lenient : (p : GrayScale) (input : List ℕ) → p.strict ≡ false → Succeeds (mmr_plane p input)
unfolding mmr_plane
plane-lenient p input lenient =
    then-succeeds (mmr_rows p.strict p.width p.height input) (λ rows. Ok (rows.grid, drop rows.used input))
    (subst (λ (b : Bool). Succeeds (mmr_rows b p.width p.height input)) (sym lenient) (rows-lenient p.width p.height input))
    (λ rows. ((rows.grid, drop rows.used input), refl))

planes-lenient : (p : GrayScale) (input : List ℕ) (count : ℕ) → p.strict ≡ false → Succeeds (mmr_planes p input count)
unfolding mmr_planes
planes-lenient p input zero lenient = ([], refl)
planes-lenient p input (suc count) lenient =
    then-succeeds (mmr_plane p input) (λ plane. mmr_planes p plane.1 count >>= λ others. Ok (plane.0 ∷ others))
    (plane-lenient p input lenient)
    (λ plane. then-succeeds (mmr_planes p plane.1 count) (λ others. Ok (plane.0 ∷ others)) (planes-lenient p plane.1 count lenient) (λ others. (plane.0 ∷ others, refl)))

values-lenient : (use_mmr : Bool) (p : GrayScale) (input : List ℕ) → p.strict ≡ false → Succeeds (if use_mmr then planes_by_mmr p input else planes_by_coder p input)
values-lenient true p input lenient = planes-lenient p input p.bits_per_pixel lenient
values-lenient false p input lenient = (_, refl)

image-lenient : (p : GrayScale) (input : List ℕ) → p.width ≤ 65535 → p.height ≤ 65535 → p.strict ≡ false → Succeeds (gray_scale_image p input)
unfolding gray_scale_image
image-lenient p input columns rows lenient =
    rw (le-ltb 65535 p.width columns, le-ltb 65535 p.height rows, and_right (ltb 0 p.bits_per_pixel) false refl)
    (then-succeeds (planes_of p input) (λ planes. Ok (gray_values p.width p.height planes)) (values-lenient p.use_mmr p input lenient) (λ planes. (gray_values p.width p.height planes, refl)))

pattern-lenient : (known : Bool) (one last : Grid) (e : DecodeError) → Succeeds (if known then Ok one else if false then Err e else Ok last)
pattern-lenient true one last e = (one, refl)
pattern-lenient false one last e = (last, refl)

cells-lenient : (h : HalftoneHeader) (d : Patterns) (k : ℕ) (values : List ℕ) (region : Grid) → h.strict ≡ false → Succeeds (cells_drawn h d k values region)
unfolding cells_drawn
cells-lenient h d k [] region lenient = (region, refl)
cells-lenient h d k (value ∷ values) region lenient =
    then-succeeds (pattern_for h.strict d.grids value) (λ pattern. cells_drawn h d (k + 1) values (with_cell h k pattern region))
    (subst (λ (b : Bool). Succeeds (pattern_for b d.grids value)) (sym lenient) (pattern-lenient (ltb value (length d.grids)) (get_or d.grids value (blank 0 0 false)) (get_or d.grids (length d.grids - 1) (blank 0 0 false)) (Region GrayScaleOutOfRange)))
    (λ pattern. cells-lenient h d (k + 1) values (with_cell h k pattern region) lenient)

-- no refusal
halftone-lenient : (h : HalftoneHeader) (d : Patterns) → h.grid_position_and_size.width ≤ 65535 → h.grid_position_and_size.height ≤ 65535 → h.strict ≡ false → Succeeds (halftone_result h d)
unfolding halftone_result
halftone-lenient h d columns rows lenient =
    then-succeeds (gray_scale_image (gray_params h d) h.bytes) (λ values. cells_drawn h d 0 values (blank h.region_info.width h.region_info.height h.flags.initial_pixel_color))
    (image-lenient (gray_params h d) h.bytes columns rows lenient)
    (λ values. cells-lenient h d 0 values _ lenient)

-- so memory alone is wanting where there is one
refused-lenient : {X : Type 0} (view : X → Grid) (result : Result X DecodeError) (meant : Result Grid DecodeError) → Succeeds meant → Gives view result meant → IfErr result (λ e. e ≡ OutOfMemory)
refused-lenient view (Ok x) meant succeeds gives = _
refused-lenient view (Err e) meant succeeds gives =
    ⊎_elim
    (λ (memory : e ≡ OutOfMemory). memory)
    (λ (refused : meant ≡ Err e). absurd (apart e succeeds.0 (sym succeeds.1 ∙ refused)))
    gives
  where
    apart : (e : DecodeError) (g : Grid) → ◌≡◌ {A = Result Grid DecodeError} (Ok g) (Err e) → ⊥
    apart e g made = cc

pub memory-alone : {X : Type 0} (view : X → Grid) (result : Result X DecodeError) (h : HalftoneHeader) (d : Patterns) → h.grid_position_and_size.width ≤ 65535 → h.grid_position_and_size.height ≤ 65535 → h.strict ≡ false → Gives view result (halftone_result h d) → IfErr result (λ e. e ≡ OutOfMemory)
memory-alone view result h d columns rows lenient gives = refused-lenient view result (halftone_result h d) (halftone-lenient h d columns rows lenient) gives
