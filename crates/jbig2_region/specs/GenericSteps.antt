-- The step bounds of generic regions, by their template and header (our own rule). `read_pixels` is how many adaptive
-- pixels are read one by one.
use Rattle.std.specs.Prelude.{ℕ, ◌+◌, ◌*◌, ◌≡◌, Bool, true, false, if◌then◌else◌, List, length}
use Rattle.jbig2_steps.specs.Work.{price_of_bitmap}
use Rattle.jbig2_base.specs.Counts.{Counts}
use Rattle.jbig2_coder.specs.Coder.{initial_registers}
use Rattle.jbig2_region.specs.Generic.{generic_coding}
use Rattle.jbig2_region.specs.GenericHeader.{GenericHeader}
use Rattle.jbig2_region.specs.Raster.{Coding, Source, no_pixels, source}
use Rattle.jbig2_coder.specs.Coder.{fresh_contexts}
use Rattle.jbig2_region.specs.Steps.{CountsDecided, CountsRegion}
use Rattle.jbig2_region.specs.Templates.{adaptive_pixel_count, context_bits, is_nominal, template_pixels}
use Rattle.jbig2_region.specs.declared.template.AdaptiveTemplatePixel.{AdaptiveTemplatePixel}
use Rattle.jbig2_region.specs.declared.template.Template.{Template}

abbrev pub read_pixels : Template → List AdaptiveTemplatePixel → ℕ
read_pixels template a = if is_nominal template a then 0 else adaptive_pixel_count false false template

-- The steps of a region. The extended template has no run bytes, and all its pixels are read one by one.
abbrev pub CountsCoded : Bool → Template → List AdaptiveTemplatePixel → Coding → Source → Counts → Counts → Type 0
CountsCoded true template a coding s before after =
    CountsDecided coding (s.columns * (context_bits template + 1)) s before after
CountsCoded false template a coding s before after =
    CountsRegion (template_pixels false template a) (is_nominal template a) (read_pixels template a)
    coding s before after

-- the same for a region whose header is read; with MMR its steps are not counted
abbrev pub CountsGeneric : GenericHeader → Counts → Counts → Type 0
CountsGeneric h before after =
    h.mmr ≡ false →
    CountsCoded h.extended h.template h.adaptive_template_pixels (generic_coding h)
    (source h.region_info.width h.region_info.height h.bytes
    (no_pixels (initial_registers h.bytes) (fresh_contexts (context_bits h.template)))) before after

-- the units that pay for a region: those of a bitmap of its size, and one for each coded byte
abbrev pub price_of_region : GenericHeader → ℕ
price_of_region h = price_of_bitmap h.region_info.width h.region_info.height + length h.bytes
