-- What decoding a whole generic region gives.
use Rattle.std.proofs.Common.{take, ◌++◌, ◌≡◌, ℕ, Bool, false, List, length, Ok, sym, ap, ◌∙◌, subst}
use Rattle.std.proofs.Math.Seq.{take-append_seam}
use Rattle.std.proofs.lemmas.Bool.{cond-false}
use Rattle.jbig2_base.specs.Results.{◌>>=◌}
use Rattle.jbig2_base.specs.Grid.{Grid, blank}
use Rattle.jbig2_coder.specs.Coder.{Coder, Context, initial_registers}
use Rattle.jbig2_region.specs.Generic.{generic_coding, generic_region, generic_grid, generic_result, contexts_after}
use Rattle.jbig2_region.specs.GenericHeader.{GenericHeader}
use Rattle.jbig2_region.specs.inner.GenericHeaderViews.{header_view}
use Rattle.jbig2_base.specs.Counts.{Counts}
use Rattle.jbig2_region.specs.inner.RegionStates.{HasDecoded, region_state}
use Rattle.jbig2_region.specs.GenericSteps.{CountsCoded, CountsGeneric}
use Rattle.jbig2_region.specs.Raster.{Coding, decoded_region, no_pixels, source}
use Rattle.jbig2_coder.specs.Coder.{fresh_contexts}
use Rattle.jbig2_mmr.specs.T6.{mmr_rows}
use Rattle.jbig2_region.specs.Templates.{context_bits}
use Rattle.jbig2_region.specs.inner.PixelArrays.{pixels_view}
use Rattle.jbig2_region.specs.declared.generic.header.GenericRegionHeader.{GenericRegionHeader}
use Rattle.jbig2_region.specs.declared.template.AdaptiveTemplatePixel.{AdaptiveTemplatePixel}

-- a region that a coder and contexts that stand at the start decode
pub fresh-decoded : (coding : Coding) (w h bits : ℕ) (input : List ℕ) (before grid : Grid) (first coder : Coder) (fresh states : List Context) → before ≡ blank w h false → first.bytes ≡ input → first.registers ≡ initial_registers input → fresh ≡ fresh_contexts bits
    → HasDecoded before.width before.height first.bytes (decoded_region coding before.width before.height first.bytes (no_pixels first.registers fresh)) (region_state grid coder states)
    → HasDecoded w h input (decoded_region coding w h input (no_pixels (initial_registers input) (fresh_contexts bits))) (region_state grid coder states)
fresh-decoded coding w h bits input before grid first coder fresh states white bytes registers contexts has_decoded =
    let one = subst (λ (s : List Context). HasDecoded before.width before.height first.bytes (decoded_region coding before.width before.height first.bytes (no_pixels first.registers s)) (region_state grid coder states)) contexts has_decoded in
    let two = subst (λ r. HasDecoded before.width before.height first.bytes (decoded_region coding before.width before.height first.bytes (no_pixels r (fresh_contexts bits))) (region_state grid coder states)) registers one in
    let three = subst (λ (b : List ℕ). HasDecoded before.width before.height b (decoded_region coding before.width before.height b (no_pixels (initial_registers input) (fresh_contexts bits))) (region_state grid coder states)) bytes two in
    subst (λ (g : Grid). HasDecoded g.width g.height input (decoded_region coding g.width g.height input (no_pixels (initial_registers input) (fresh_contexts bits))) (region_state grid coder states)) white three

-- a header without MMR has the adaptive pixels that the arithmetic coder's template takes
pub as-coded : (h : GenericRegionHeader) (P : List AdaptiveTemplatePixel → Type 0) → h.mmr ≡ false → P (pixels_view false h.template h.adaptive_template_pixels) → P (header_view h).adaptive_template_pixels
as-coded h P coded p = subst (λ (mmr : Bool). P (pixels_view mmr h.template h.adaptive_template_pixels)) (sym coded) p

-- the same for a generic region
pub region-decoded : (h : GenericHeader) (before : Grid) (grid : Grid) (first coder : Coder) (fresh states : List Context) → before ≡ blank h.region_info.width h.region_info.height false → first.bytes ≡ h.bytes → first.registers ≡ initial_registers h.bytes → fresh ≡ fresh_contexts (context_bits h.template)
    → HasDecoded before.width before.height first.bytes (decoded_region (generic_coding h) before.width before.height first.bytes (no_pixels first.registers fresh)) (region_state grid coder states)
    → HasDecoded h.region_info.width h.region_info.height h.bytes (generic_region h) (region_state grid coder states)
unfolding generic_region
region-decoded h before grid first coder fresh states white bytes registers contexts has_decoded =
    fresh-decoded (generic_coding h) h.region_info.width h.region_info.height (context_bits h.template) h.bytes before grid first coder fresh states white bytes registers contexts has_decoded

pub result-decoded : (h : GenericHeader) (grid : Grid) (coder : Coder) (states : List Context) → h.mmr ≡ false → HasDecoded h.region_info.width h.region_info.height h.bytes (generic_region h) (region_state grid coder states) → generic_result h ≡ Ok grid
unfolding generic_grid
result-decoded h grid coder states coded has_decoded =
    cond-false h.mmr (mmr_rows h.strict h.region_info.width h.region_info.height h.bytes >>= λ rows. Ok rows.grid) (Ok (generic_grid h)) coded
    ∙ ap (λ (g : Grid). Ok g) (sym has_decoded.pixels)

pub contexts-decoded : (h : GenericHeader) (before after : List Context) → h.mmr ≡ false → after ≡ (generic_region h).contexts → after ≡ contexts_after h before
contexts-decoded h before after coded e = e ∙ sym (cond-false h.mmr before (generic_region h).contexts coded)

-- what a slice's user leaves of the whole Vec
pub whole-slice : {X : Type 0} (n : ℕ) (xs ys : List X) → length xs ≡ n → take n (xs ++ ys) ≡ xs
whole-slice n xs ys all = subst (λ (k : ℕ). take k (xs ++ ys) ≡ xs) all (take-append_seam xs ys)

-- ---- steps
pub counts-decoded : (h : GenericHeader) (before : Grid) (first : Coder) (fresh : List Context) (old new : Counts) → before ≡ blank h.region_info.width h.region_info.height false → first.bytes ≡ h.bytes → first.registers ≡ initial_registers h.bytes → fresh ≡ fresh_contexts (context_bits h.template)
    → CountsCoded h.extended h.template h.adaptive_template_pixels (generic_coding h) (source before.width before.height first.bytes (no_pixels first.registers fresh)) old new
    → CountsGeneric h old new
counts-decoded h before first fresh old new white bytes registers contexts counts = λ _.
    let one = subst (λ (s : List Context). CountsCoded h.extended h.template h.adaptive_template_pixels (generic_coding h) (source before.width before.height first.bytes (no_pixels first.registers s)) old new) contexts counts in
    let two = subst (λ r. CountsCoded h.extended h.template h.adaptive_template_pixels (generic_coding h) (source before.width before.height first.bytes (no_pixels r (fresh_contexts (context_bits h.template)))) old new) registers one in
    let three = subst (λ (b : List ℕ). CountsCoded h.extended h.template h.adaptive_template_pixels (generic_coding h) (source before.width before.height b (no_pixels (initial_registers h.bytes) (fresh_contexts (context_bits h.template)))) old new) bytes two in
    subst (λ (g : Grid). CountsCoded h.extended h.template h.adaptive_template_pixels (generic_coding h) (source g.width g.height h.bytes (no_pixels (initial_registers h.bytes) (fresh_contexts (context_bits h.template)))) old new) white three
