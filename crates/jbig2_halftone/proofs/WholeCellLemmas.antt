-- The whole rows of a grid of cells, and the region that they are drawn onto.
use Rattle.std.proofs.Common.{◌≡◌, ℕ, zero, suc, ◌+◌, ◌-◌, ◌*◌, ◌/◌, ◌≤◌, ◌^◌, ◌%◌, eqb, Bool, true, false, ◌&&◌, ◌||◌, List, [], ◌∷◌, ◌++◌, length, take, drop, Option, Some, None, Result, Ok, Err, add-one, length-append, refl, sym, ap, subst, ◌∙◌, ◌⊎◌, ⊎_elim, inl, arith}
use Rattle.std.specs.Prelude.{if◌then◌else◌, ◌==◌, max}
use Rattle.std.proofs.lemmas.Bool.{cond_both}
use Rattle.std.proofs.lemmas.List.{length-replicate, length-set}
use Rattle.std.proofs.Math.Nat.{mul-le-mul_right}
use Rattle.jbig2_base.specs.Results.{◌>>=◌}
use Rattle.jbig2_base.specs.Grid.{Grid, blank}
use Rattle.jbig2_base.specs.declared.error.DecodeError.{DecodeError}
use Rattle.jbig2_base.specs.declared.error.DecodeError.TheVariants.{OutOfMemory}
use Rattle.jbig2_coder.specs.Coder.{Coder, Context, Registers, is_within}
use Rattle.jbig2_mmr.specs.T6.{Rows, bits_of, ends_block, mmr_rows, pixel_of, row, rows_from, rows_of}
use Rattle.jbig2_region.specs.Generic.{masked_coding}
use Rattle.jbig2_region.specs.Raster.{Coding, Region, Source, after_ltp, after_pixel, at_next, decoded_region, first_pixels, no_pixels, source, with_next}
use Rattle.jbig2_region.specs.Templates.{context_bits, nominal_adaptive_pixels, template_pixels}
use Rattle.jbig2_region.specs.WholeRows.{after_row, whole_rows}
use Rattle.jbig2_region.specs.declared.template.AdaptiveTemplatePixel.{AdaptiveTemplatePixel}
use Rattle.jbig2_region.specs.declared.template.Template.{Template}
use Rattle.jbig2_region.specs.declared.template.Template.TheVariants.{Template0, Template1, Template2, Template3}
use Rattle.jbig2_halftone.specs.GrayScale.{GrayScale, after_planes, gray_contexts, gray_scale_image, image_is_too_large, mmr_plane, mmr_left}
use Rattle.jbig2_halftone.specs.HalftoneHeader.{HalftoneHeader}
use Rattle.jbig2_halftone.specs.WholeCells.{whole_image_rows}
use Rattle.jbig2_halftone.specs.inner.FunctionResults.{whole_coded_rows, mmr_rows_left, plane_coding, coded_plane_start}
use Rattle.jbig2_halftone.proofs.HalftoneLemmas.{plane-lenient, values-sized}
use Rattle.jbig2_halftone.proofs.PlaneLemmas.{AfterPlanes}
use Rattle.jbig2_halftone.proofs.RowLemmas.{take-some}

-- ---- no more rows are whole than there are
whole-most : (coding : Coding) (s : Source) (n : ℕ) → whole_rows coding s n ≤ n
unfolding whole_rows
whole-most coding s zero = omega arith
whole-most coding s (suc n) = next (whole_rows coding s n == n && is_within s.bytes (after_row coding s (suc n)).registers) (whole_rows coding s n) (whole-most coding s n)
  where
    next : (goes : Bool) (above : ℕ) → above ≤ n → (if goes then suc n else above) ≤ suc n
    next true above few = omega arith
    next false above few = omega arith

abbrev or_fault : List (List ℕ) → Option (List ℕ × List ℕ) → (List ℕ × List ℕ → Rows) → Rows
or_fault done o f = elim o [
  | None ↦ record { rows = done; whole = false; left = [] }
  | Some r ↦ f r
]

mmr-from : (n w : ℕ) (above : List ℕ) (done : List (List ℕ)) (bits : List ℕ) → length (rows_from n w above done bits).rows ≤ length done + n
unfolding rows_from
mmr-from zero w above done bits = omega arith
mmr-from (suc n) w above done bits =
    let Q : Rows → Type 0 = λ r. length r.rows ≤ length done + suc n in
    cond_both (ends_block bits) (record { rows = done; whole = false; left = drop 24 bits }) (or_fault done (row w (pixel_of w above) bits) (λ r. rows_from n w r.0 (done ++ r.0 ∷ []) r.1)) Q
    (λ ends. omega arith)
    (λ goes. next (row w (pixel_of w above) bits) (λ r. mmr-from n w r.0 (done ++ r.0 ∷ []) r.1))
  where
    next : (o : Option (List ℕ × List ℕ)) → ((r : List ℕ × List ℕ) → length (rows_from n w r.0 (done ++ r.0 ∷ []) r.1).rows ≤ length (done ++ r.0 ∷ []) + n) → length (or_fault done o (λ r. rows_from n w r.0 (done ++ r.0 ∷ []) r.1)).rows ≤ length done + suc n
    next None later = omega arith
    next (Some r) later = omega (arith, later r, length-append done (r.0 ∷ []))

mmr-most : (w h : ℕ) (bytes : List ℕ) → length (rows_of w h bytes).rows ≤ h
unfolding rows_of
mmr-most w h bytes =
    cond_both (eqb w 0 || eqb h 0) (record { rows = []; whole = true; left = bits_of bytes }) (rows_from h w [] [] (bits_of bytes)) (λ r. length r.rows ≤ h)
    (λ none. omega arith)
    (λ some. omega (arith, mmr-from h w [] [] (bits_of bytes)))

pub image-rows-most : (p : GrayScale) (bytes : List ℕ) → whole_image_rows p bytes ≤ p.height
image-rows-most p bytes =
    let count : ℕ = p.bits_per_pixel - 1 in
    most (p.bits_per_pixel == 0 || p.width == 0) p.use_mmr (mmr_rows_left p bytes count) (whole_coded_rows p bytes count) (mmr-most p.width p.height (mmr_left p bytes count)) (whole-most (plane_coding p) (source p.width p.height bytes (coded_plane_start p bytes count)) p.height)
  where
    most : (none mmr : Bool) (by_mmr coded : ℕ) → by_mmr ≤ p.height → coded ≤ p.height → (if none then p.height else if mmr then by_mmr else coded) ≤ p.height
    most true mmr by_mmr coded a b = omega arith
    most false true by_mmr coded a b = a
    most false false by_mmr coded a b = b

-- ---- the last plane, by the coder
pub last-counted : (p : GrayScale) (adaptive : List AdaptiveTemplatePixel) (input : List ℕ) (i : ℕ) (plane : Grid) (coder : Coder) (states : List Context) (rows : ℕ) → plane ≡ blank p.width p.height false → AfterPlanes p input i coder states → adaptive ≡ nominal_adaptive_pixels p.template
    → rows ≡ whole_rows (masked_coding false p.template (template_pixels false p.template adaptive) p.skip_mask) (source plane.width plane.height coder.bytes (no_pixels coder.registers states)) plane.height → rows ≡ whole_coded_rows p input i
last-counted p adaptive input i plane coder states rows white after nominal counted =
    counted
    ∙ ap (λ (a : List AdaptiveTemplatePixel). whole_rows (masked_coding false p.template (template_pixels false p.template a) p.skip_mask) (source plane.width plane.height coder.bytes (no_pixels coder.registers states)) plane.height) nominal
    ∙ ap (λ (g : Grid). whole_rows (plane_coding p) (source g.width g.height coder.bytes (no_pixels coder.registers states)) g.height) white
    ∙ ap (λ (b : List ℕ). whole_rows (plane_coding p) (source p.width p.height b (no_pixels coder.registers states)) p.height) after.bytes
    ∙ ap (λ (r : Registers). whole_rows (plane_coding p) (source p.width p.height input (no_pixels r states)) p.height) after.registers
    ∙ ap (λ (s : List Context). whole_rows (plane_coding p) (source p.width p.height input (no_pixels (after_planes p input i).registers s)) p.height) after.contexts

-- ---- the bytes of MMR data that are left
pub left-none : (p : GrayScale) (input : List ℕ) → input ≡ mmr_left p input 0
unfolding mmr_left
left-none p input = refl

pub left-next : (p : GrayScale) (input left rest : List ℕ) (grid : Grid) (i : ℕ) → p.strict ≡ false → mmr_plane p left ≡ Ok (grid, rest) → left ≡ mmr_left p input i → rest ≡ mmr_left p input (i + 1)
unfolding mmr_left mmr_plane mmr_rows
left-next p input left rest grid i lenient read before =
    let made : ◌≡◌ {A = Result (Grid × List ℕ) DecodeError} (mmr_rows false p.width p.height left >>= λ rows. Ok (rows.grid, drop rows.used left)) (Ok (grid, rest)) = rw lenient at read in
    let same : drop (length left - length (rows_of p.width p.height left).left / 8) left ≡ rest = ap bytes-of made in
    rw add-one (sym same ∙ ap (λ (bs : List ℕ). drop (length bs - length (rows_of p.width p.height bs).left / 8) bs) before)
  where
    bytes-of : Result (Grid × List ℕ) DecodeError → List ℕ
    bytes-of (Ok read) = read.1
    bytes-of (Err e) = []

pub last-rows : (p : GrayScale) (input left : List ℕ) (i : ℕ) (plane : Grid) (rows : ℕ) → plane ≡ blank p.width p.height false → left ≡ mmr_left p input i → rows ≡ length (rows_of plane.width plane.height left).rows → rows ≡ mmr_rows_left p input i
last-rows p input left i plane rows white before counted =
    counted
    ∙ ap (λ (g : Grid). length (rows_of g.width g.height left).rows) white
    ∙ ap (λ (bs : List ℕ). length (rows_of p.width p.height bs).rows) before

-- lenient reading refuses no plane, so memory alone is wanting where there is none
pub plane-memory : (p : GrayScale) (left : List ℕ) (e : DecodeError) → p.strict ≡ false → (e ≡ OutOfMemory) ⊎ (mmr_plane p left ≡ Err e) → {Q : Type 0} → (e ≡ OutOfMemory) ⊎ Q
plane-memory p left e lenient given =
    ⊎_elim
    (λ (memory : e ≡ OutOfMemory). inl memory)
    (λ (fault : mmr_plane p left ≡ Err e). let made = plane-lenient p left lenient in absurd (apart made.0 (sym made.1 ∙ fault)))
    given
  where
    apart : (read : Grid × List ℕ) → ◌≡◌ {A = Result (Grid × List ℕ) DecodeError} (Ok read) (Err e) → ⊥
    apart read made = cc

-- ---- as many contexts as the template has
next-kept : (bytes : List ℕ) (r : Region) (k : ℕ) (known : Option Bool) → length (with_next bytes r k known).contexts ≡ length r.contexts
unfolding with_next
next-kept bytes r k (Some colour) = refl
next-kept bytes r k None = length-set r.contexts k _

ltp-kept : (opening : Option ℕ) (bytes : List ℕ) (r : Region) → length (after_ltp opening bytes r).contexts ≡ length r.contexts
unfolding after_ltp
ltp-kept None bytes r = refl
ltp-kept (Some k) bytes r = length-set r.contexts k _

row-kept : (coding : Coding) (w : ℕ) (bytes : List ℕ) (r : Region) → length (at_next coding w bytes r).contexts ≡ length r.contexts
unfolding at_next
row-kept coding w bytes r =
    cond_both (eqb (length r.pixels % w) 0) (after_ltp coding.row_context bytes r) r (λ (s : Region). length s.contexts ≡ length r.contexts)
    (λ begins. ltp-kept coding.row_context bytes r)
    (λ goes. refl)

pixels-kept : (coding : Coding) (w h : ℕ) (bytes : List ℕ) (start : Region) (n : ℕ) → length (first_pixels coding w h bytes start n).contexts ≡ length start.contexts
unfolding first_pixels after_pixel
pixels-kept coding w h bytes start zero = refl
pixels-kept coding w h bytes start (suc n) = next-kept bytes _ _ _ ∙ row-kept coding w bytes (first_pixels coding w h bytes start n) ∙ pixels-kept coding w h bytes start n

planes-kept : (p : GrayScale) (bytes : List ℕ) (count : ℕ) → length (after_planes p bytes count).contexts ≡ 2 ^ context_bits p.template
unfolding after_planes decoded_region
planes-kept p bytes zero = length-replicate (2 ^ context_bits p.template) _
planes-kept p bytes (suc count) = pixels-kept _ p.width p.height bytes _ (p.width * p.height) ∙ planes-kept p bytes count

few-bits : (t : Template) → 2 ^ context_bits t ≤ 65536
few-bits Template0 = omega arith
few-bits Template1 = omega arith
few-bits Template2 = omega arith
few-bits Template3 = omega arith

pub contexts-few : (p : GrayScale) (bytes : List ℕ) (first old new : List Context) → length old ≤ max (length first) 65536 → new ≡ gray_contexts p bytes old → length new ≤ max (length first) 65536
contexts-few p bytes first old new few is =
    subst (λ (s : List Context). length s ≤ max (length first) 65536) (sym is)
    (cond_both (image_is_too_large p || p.use_mmr) old (after_planes p bytes p.bits_per_pixel).contexts (λ (s : List Context). length s ≤ max (length first) 65536)
    (λ kept. few)
    (λ decoded. omega (arith, planes-kept p bytes p.bits_per_pixel, few-bits p.template)))

-- ---- the region
-- the header, read leniently
abbrev pub lenient_of : HalftoneHeader → HalftoneHeader
lenient_of h = record h { strict = false }

-- the rows that are counted are rows of the grid, and their cells are among all
pub rows-few : (p : GrayScale) (bytes : List ℕ) (rows : ℕ) → ◌≡◌ {A = Result ℕ DecodeError} (Ok (whole_image_rows p bytes)) (Ok rows) → rows ≤ p.height
rows-few p bytes rows is =
    let same : whole_image_rows p bytes ≡ rows = cc in
    subst (λ (n : ℕ). n ≤ p.height) same (image-rows-most p bytes)

pub cells-taken : (p : GrayScale) (bytes values slice : List ℕ) (rows : ℕ) → ◌≡◌ {A = Result ℕ DecodeError} (Ok (whole_image_rows p bytes)) (Ok rows) → gray_scale_image p bytes ≡ Ok values → slice ≡ values → length (take (rows * p.width) slice) ≡ rows * p.width
cells-taken p bytes values slice rows is read same =
    let sized : length slice ≡ p.width * p.height = ap length same ∙ values-sized p bytes values read in
    take-some (rows * p.width) slice (omega (arith, sized, mul-le-mul_right {m = rows} {n = p.height} p.width (rows-few p bytes rows is)))
