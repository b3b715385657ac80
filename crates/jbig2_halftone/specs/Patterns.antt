-- Pattern dictionaries (T.88, 6.7): the patterns lie side by side in one collective bitmap, a generic region. The
-- header with the coded bytes gives the list of the patterns' grids, one for each gray value.
use Rattle.std.specs.Prelude.{ℕ, ◌+◌, ◌*◌, nat_lt, Bool, true, false, if◌then◌else◌, List, [], ◌∷◌, drop, map}
use Rattle.std.specs.Prelude.{Result, Ok, ◌≡◌}
use Rattle.std.specs.List.{range_with_len}
use Rattle.jbig2_base.specs.Results.{refuse_if, ◌>>=◌}
use Rattle.jbig2_base.specs.Grid.{Grid, part_of, max_side}
use Rattle.jbig2_base.specs.declared.bitmap.operator.CombinationOperator.TheVariants.{Or}
use Rattle.jbig2_base.specs.declared.error.DecodeError.{DecodeError}
use Rattle.jbig2_base.specs.declared.error.DecodeError.TheVariants.{Overflow}
use Rattle.jbig2_base.specs.declared.error.OverflowError.TheVariants.{BitmapDimension}
use Rattle.jbig2_coder.specs.Coder.{Context}
use Rattle.jbig2_region.specs.Generic.{generic_result, contexts_after}
use Rattle.jbig2_region.specs.GenericHeader.{GenericHeader}
use Rattle.jbig2_region.specs.Templates.{left, nominal_adaptive_pixels}
use Rattle.jbig2_region.specs.declared.template.AdaptiveTemplatePixel.{AdaptiveTemplatePixel}
use Rattle.jbig2_region.specs.declared.template.Template.{Template}
use Rattle.jbig2_halftone.specs.PatternHeader.{PatternHeader}

pub record Patterns : Type 0 where  -- the patterns of a dictionary, which have one size
  pub grids : List Grid
  pub width : ℕ
  pub height : ℕ

-- The adaptive pixels (Table 27), for MMR or not, a template and a pattern's width: A1 lies one pattern to the left,
-- the others where they lie by default.
abbrev pub collective_pixels : Bool → Template → ℕ → List AdaptiveTemplatePixel
collective_pixels true template width = []
collective_pixels false template width = left width 0 ∷ drop 1 (nominal_adaptive_pixels template)

-- this many patterns of this size; pattern k has the columns from k * width on
unfoldable pub patterns_of : Grid → ℕ → ℕ → ℕ → List Grid
patterns_of collective width height count =
    map (λ k. part_of collective (record { left = k * width; top = 0; width = width; height = height }))
    (range_with_len 0 count)

module _ (h : PatternHeader) where
  abbrev pub collective_width : ℕ
  collective_width = (h.gray_max + 1) * h.pattern_width

  -- the collective bitmap as a generic region, without typical prediction (Table 27)
  abbrev pub collective_header : GenericHeader
  collective_header = record {
    region_info = record {
      width = collective_width;
      height = h.pattern_height;
      x_location = 0;
      y_location = 0;
      combination_operator = Or;
    };
    mmr = h.mmr;
    template = h.template;
    extended = false;
    tpgdon = false;
    adaptive_template_pixels = collective_pixels h.mmr h.template h.pattern_width;
    bytes = h.bytes;
    strict = h.strict;
  }

  -- The dictionary. A collective bitmap of more than 65535 columns is refused (our own rule).
  unfoldable pub patterns_decoded : Result Patterns DecodeError
  patterns_decoded = do
    fits ← refuse_if (nat_lt max_side collective_width) (Overflow BitmapDimension)
    collective ← generic_result collective_header
    Ok (record {
      grids = patterns_of collective h.pattern_width h.pattern_height (h.gray_max + 1);
      width = h.pattern_width;
      height = h.pattern_height;
    })

  -- The contexts after the collective bitmap. One that is too wide leaves them as they were.
  abbrev pub dictionary_contexts : List Context → List Context
  dictionary_contexts contexts =
      if nat_lt max_side collective_width then contexts else contexts_after collective_header contexts

-- a grid has the size of a pattern: HDPW columns and HDPH rows
pub record HasSize (width height : ℕ) (grid : Grid) : Type 0 where
  pub columns : grid.width ≡ width
  pub rows : grid.height ≡ height
