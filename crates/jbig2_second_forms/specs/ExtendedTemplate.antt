-- The extended template of generic regions (T.88, 6.2.5.3). Where its twelve adaptive pixels lie by default, it is
-- template 0 with the four of that one.
use Rattle.std.specs.Prelude.{◌≡◌, true, false, List, [], ◌∷◌}
use Rattle.jbig2_coder.specs.Coder.{Context}
use Rattle.jbig2_region.specs.Generic.{contexts_after, generic_decoded}
use Rattle.jbig2_region.specs.GenericHeader.{GenericHeader}
use Rattle.jbig2_region.specs.Templates.{left, nominal_adaptive_pixels, right}
use Rattle.jbig2_region.specs.declared.template.AdaptiveTemplatePixel.{AdaptiveTemplatePixel}
use Rattle.jbig2_region.specs.declared.template.Template.TheVariants.{Template0}

-- A1 to A12 where they lie by default (6.2.5.4)
abbrev pub nominal_extended_pixels : List AdaptiveTemplatePixel
nominal_extended_pixels =
    left 2 0 ∷ right 0 2 ∷ left 2 1 ∷ left 1 2 ∷ right 1 2 ∷ right 2 1
    ∷ left 3 0 ∷ left 4 0 ∷ right 2 2 ∷ right 3 1 ∷ left 2 2 ∷ left 3 1 ∷ []

abbrev pub by_extended_template : GenericHeader → GenericHeader
by_extended_template h = record h {
  template = Template0;
  extended = true;
  adaptive_template_pixels = nominal_extended_pixels;
}

abbrev pub by_template_0 : GenericHeader → GenericHeader
by_template_0 h = record h {
  template = Template0;
  extended = false;
  adaptive_template_pixels = nominal_adaptive_pixels Template0;
}

-- Both give the same region, and leave the same contexts.
pub record NominalExtendedIsTemplate0 : Type 0 where
  pub region : (h : GenericHeader) → generic_decoded (by_extended_template h) ≡ generic_decoded (by_template_0 h)
  pub contexts : (h : GenericHeader) (before : List Context)
      → contexts_after (by_extended_template h) before ≡ contexts_after (by_template_0 h) before
