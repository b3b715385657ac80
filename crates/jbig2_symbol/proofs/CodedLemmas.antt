-- Symbols by the arithmetic coder.
use Rattle.std.proofs.Common.{◌≡◌, ℕ, false, List, Result, Ok, sym, ap, subst, ◌∙◌}
use Rattle.jbig2_base.specs.Grid.{Grid, blank_or_overflow}
use Rattle.jbig2_base.specs.declared.error.DecodeError.{DecodeError}
use Rattle.jbig2_base.proofs.FillLemmas.{white-made}
use Rattle.jbig2_coder.specs.Coder.{Coder, Context, Registers}
use Rattle.jbig2_region.specs.inner.RegionStates.{HasDecoded, region_state}
use Rattle.jbig2_region.specs.Raster.{Coding, Region, so_far, decoded_region, no_pixels}
use Rattle.jbig2_region.specs.Generic.{coding_of}
use Rattle.jbig2_region.specs.Templates.{template_pixels}
use Rattle.jbig2_region.specs.inner.PixelArrays.{pixel_array, four_pixels}
use Rattle.jbig2_region.specs.declared.template.AdaptiveTemplatePixel.{AdaptiveTemplatePixel}
use Rattle.jbig2_region.specs.declared.template.Template.{Template}
use Rattle.jbig2_symbol.specs.SymbolBitmaps.{coded_symbol}
use Rattle.jbig2_symbol.specs.SymbolHeader.{SymbolHeader}
use Rattle.jbig2_symbol.specs.SymbolReading.{SymbolState}
use Rattle.jbig2_text.specs.TextCoding.{CodedState}
use Rattle.jbig2_symbol.proofs.UsedPixels.{filled_pixels}

-- how a symbol's region is coded, and the state after it
abbrev pub symbol_coding : SymbolHeader → Template → Coding
symbol_coding h template = coding_of false template (template_pixels false template h.adaptive_template_pixels)

abbrev pub after_region : Region → SymbolState CodedState → SymbolState CodedState
after_region r s = record {
  coding = record s.coding { coder = record s.coding.coder { registers = r.registers } };
  contexts = record s.contexts { generic = r.contexts };
}

abbrev pub after_symbol : SymbolState CodedState → Coder → List Context → SymbolState CodedState
after_symbol s coder contexts = record { coding = record s.coding { coder = coder }; contexts = record s.contexts { generic = contexts } }

holds-made : (s : SymbolState CodedState) (width height : ℕ) (r : Region) (grid : Grid) (next : Coder) (after : List Context) → HasDecoded width height s.coding.coder.bytes r (region_state grid next after) → ◌≡◌ {A = Result (Grid × SymbolState CodedState) DecodeError} (Ok (so_far width height r.pixels, after_region r s)) (Ok (grid, after_symbol s next after))
holds-made s width height r grid next after holds = rw (holds.pixels, holds.contexts) (ap (λ (c : Coder). Ok (so_far width height r.pixels, after_symbol s c r.contexts)) coder)
  where
    made : List ℕ → Registers → Coder
    made bytes registers = record { bytes = bytes; registers = registers }

    coder : made s.coding.coder.bytes r.registers ≡ next
    coder = ap (λ (bytes : List ℕ). made bytes r.registers) (sym holds.bytes) ∙ ap (λ (registers : Registers). made next.bytes registers) (sym holds.registers)

state-made : (h : SymbolHeader) (s : SymbolState CodedState) (width height : ℕ) (white grid : Grid) (next : Coder) (after : List Context) → blank_or_overflow width height false ≡ Ok white → HasDecoded white.width white.height s.coding.coder.bytes (decoded_region (symbol_coding h s.contexts.template) white.width white.height s.coding.coder.bytes (no_pixels s.coding.coder.registers s.contexts.generic)) (region_state grid next after) → coded_symbol h width height s ≡ Ok (grid, after_symbol s next after)
unfolding coded_symbol
state-made h s width height white grid next after made holds =
    let fits = white-made width height false white made in
    let sized = subst (λ (g : Grid). HasDecoded g.width g.height s.coding.coder.bytes (decoded_region (symbol_coding h s.contexts.template) g.width g.height s.coding.coder.bytes (no_pixels s.coding.coder.registers s.contexts.generic)) (region_state grid next after)) fits.1 holds in
    rw fits.0 (holds-made s width height (decoded_region (symbol_coding h s.contexts.template) width height s.coding.coder.bytes (no_pixels s.coding.coder.registers s.contexts.generic)) grid next after sized)

coded-made : (h : SymbolHeader) (t s : SymbolState CodedState) (width height : ℕ) (white grid : Grid) (states : List Context) (next : Coder) (after left : List Context) → left ≡ after → t ≡ s → states ≡ t.contexts.generic → blank_or_overflow width height false ≡ Ok white → HasDecoded white.width white.height t.coding.coder.bytes (decoded_region (symbol_coding h t.contexts.template) white.width white.height t.coding.coder.bytes (no_pixels t.coding.coder.registers states)) (region_state grid next after) → coded_symbol h width height s ≡ Ok (grid, after_symbol t next left)
coded-made h t s width height white grid states next after left kept same learned made holds =
    ap (λ (u : SymbolState CodedState). coded_symbol h width height u) (sym same)
    ∙ state-made h t width height white grid next after made (subst (λ (known : List Context). HasDecoded white.width white.height t.coding.coder.bytes (decoded_region (symbol_coding h t.contexts.template) white.width white.height t.coding.coder.bytes (no_pixels t.coding.coder.registers known)) (region_state grid next after)) learned holds)
    ∙ ap (λ (c : List Context). Ok (grid, after_symbol t next c)) (sym kept)

-- the same by an array of four pixels
pub filled-made : (h : SymbolHeader) (t s : SymbolState CodedState) (width height : ℕ) (white grid : Grid) (states : List Context) (next : Coder) (after left : List Context) (four : List AdaptiveTemplatePixel) → left ≡ after → t ≡ s → states ≡ t.contexts.generic → blank_or_overflow width height false ≡ Ok white → four ≡ pixel_array 4 h.adaptive_template_pixels → HasDecoded white.width white.height t.coding.coder.bytes (decoded_region (coding_of false t.contexts.template (template_pixels false t.contexts.template (four_pixels t.contexts.template four))) white.width white.height t.coding.coder.bytes (no_pixels t.coding.coder.registers states)) (region_state grid next after) → coded_symbol h width height s ≡ Ok (grid, after_symbol t next left)
filled-made h t s width height white grid states next after left four kept same learned made used holds =
    let pixels = ap (λ (a : List AdaptiveTemplatePixel). template_pixels false t.contexts.template (four_pixels t.contexts.template a)) used ∙ filled_pixels t.contexts.template h.adaptive_template_pixels in
    coded-made h t s width height white grid states next after left kept same learned made (subst (λ (p : List AdaptiveTemplatePixel). HasDecoded white.width white.height t.coding.coder.bytes (decoded_region (coding_of false t.contexts.template p) white.width white.height t.coding.coder.bytes (no_pixels t.coding.coder.registers states)) (region_state grid next after)) pixels holds)
