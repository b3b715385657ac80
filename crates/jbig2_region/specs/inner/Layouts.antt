-- The templates of generic regions by their neighbours (our own rule).
use Rattle.std.specs.Prelude.{ℕ, ◌≡◌, false, List, Bool, true, Option, Some, None}
use Rattle.jbig2_region.specs.inner.Neighbours.{IsMixed, adaptive_count, mixed_count, mixed_pixels, IsNear, neighbour_count, optional_pixels}
use Rattle.jbig2_region.specs.Templates.{adaptive_pixel_count, context_bits, template_pixels}
use Rattle.jbig2_region.specs.Generic.{context_at, known_colour}
use Rattle.jbig2_region.specs.Raster.{Coding}
use Rattle.jbig2_region.specs.declared.template.layouts.Layout.{Layout}
use Rattle.jbig2_region.specs.declared.template.layouts.Adaptives.{Adaptives}
use Rattle.jbig2_region.specs.declared.template.neighbours.Neighbours.{Neighbours}
use Rattle.jbig2_region.specs.declared.template.AdaptiveTemplatePixel.{AdaptiveTemplatePixel}
use Rattle.jbig2_region.specs.declared.template.Template.{Template}
use Rattle.jbig2_region.specs.declared.template.Template.TheVariants.{Template0, Template1, Template2, Template3}

abbrev pub neighbours_of : ℕ → ℕ → ℕ → ℕ → ℕ → Neighbours
neighbours_of left above_reach above_count top_reach top_count = record {
  left = left;
  above = record { reach = above_reach; count = above_count };
  top = record { reach = top_reach; count = top_count };
}

-- with adaptive pixels at their nominal places, and without adaptive pixels
abbrev pub nominal_neighbours : Template → Neighbours
nominal_neighbours Template0 = neighbours_of 4 3 7 2 5
nominal_neighbours Template1 = neighbours_of 3 3 6 2 4
nominal_neighbours Template2 = neighbours_of 2 2 5 1 3
nominal_neighbours Template3 = neighbours_of 4 2 6 0 0

abbrev pub fixed_neighbours : Template → Neighbours
fixed_neighbours Template0 = neighbours_of 4 2 5 1 3
fixed_neighbours Template1 = neighbours_of 3 2 5 2 4
fixed_neighbours Template2 = neighbours_of 2 1 4 1 3
fixed_neighbours Template3 = neighbours_of 4 1 5 0 0

-- how a template's adaptive pixels lie between its neighbours
pub record FitsAdaptives (template : Template) (a : List AdaptiveTemplatePixel) (r : Adaptives) : Type 0 where
  pub pixels : mixed_pixels (fixed_neighbours template) r ≡ template_pixels false template a
  pub mixed : IsMixed (fixed_neighbours template) r
  pub count : mixed_count (fixed_neighbours template) r ≡ context_bits template
  pub loads : adaptive_count r ≡ adaptive_pixel_count false false template

abbrev pub layout_pixels : Layout → List AdaptiveTemplatePixel
layout_pixels l = optional_pixels l.neighbours l.adaptive

abbrev pub layout_count : Neighbours → Option Adaptives → ℕ
layout_count n None = neighbour_count n
layout_count n (Some a) = mixed_count n a

abbrev pub layout_loads : Option Adaptives → ℕ
layout_loads None = 0
layout_loads (Some a) = adaptive_count a

abbrev pub IsLayout : Neighbours → Option Adaptives → Type 0
IsLayout n None = IsNear n
IsLayout n (Some a) = IsMixed n a

-- whether there are run bytes: only without adaptive pixels
abbrev pub is_nominal_layout : Option Adaptives → Bool
is_nominal_layout None = true
is_nominal_layout (Some a) = false

abbrev pub layout_coding : Layout → Option ℕ → Coding
layout_coding l row_context =
    record { context = context_at (layout_pixels l); known = known_colour None; row_context = row_context }
