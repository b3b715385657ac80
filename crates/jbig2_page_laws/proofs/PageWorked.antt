-- Pixels of a small page, and an error of three segments, computed from the definitions alone.
use Rattle.std.proofs.Common.{◌≡◌, inl, ℕ, true, false, List, [], ◌∷◌, Some, Err, refl, arith}
use Rattle.jbig2_base.specs.Grid.{pixel_at}
use Rattle.jbig2_base.specs.declared.bitmap.operator.CombinationOperator.TheVariants.{Or, Xor}
use Rattle.jbig2_base.specs.declared.error.DecodeError.TheVariants.{Segment}
use Rattle.jbig2_base.specs.declared.error.SegmentError.TheVariants.{InvalidReferredCount}
use Rattle.jbig2_framing.specs.Segment.{SegmentView, count_at, header_at, referred_at, segment_at, type_of}
use Rattle.jbig2_framing.specs.Sequential.{segments_in}
use Rattle.jbig2_framing.specs.declared.reading.Reading.TheVariants.{Strict}
use Rattle.jbig2_framing.specs.declared.segment.SegmentType.TheVariants.{Profiles}
use Rattle.jbig2_region.specs.RegionInfo.{PlacedRegion}
use Rattle.jbig2_framing.specs.ByteCauses.{BreaksSequence}
use Rattle.jbig2_page_laws.specs.PagePixels.{pixel_under}
use Rattle.jbig2_page.specs.Globals.{globals_at}

-- ---- pixels
-- a black pixel at (0, 0), and two of them from column -1 on, which are exchanged with what is below
abbrev dot : PlacedRegion
dot = record { grid = record { width = 1; height = 1; pixels = true ∷ [] }; x_location = 0; y_location = 0; combination_operator = Or }

abbrev two : PlacedRegion
two = record { grid = record { width = 2; height = 1; pixels = true ∷ true ∷ [] }; x_location = 4294967295; y_location = 0; combination_operator = Xor }

exchanged : pixel_under (dot ∷ two ∷ []) 0 0 false ≡ false
unfolding pixel_at
exchanged = refl

uncovered : pixel_under (dot ∷ two ∷ []) 1 0 false ≡ false
unfolding pixel_at
uncovered = refl

-- the order counts
again : pixel_under (two ∷ dot ∷ []) 0 0 false ≡ true
unfolding pixel_at
again = refl

-- ---- errors
-- a segment that says nothing, and then one whose count of referred segments is 5
abbrev bytes : List ℕ
bytes = 0 ∷ 0 ∷ 0 ∷ 0 ∷ 52 ∷ 0 ∷ 0 ∷ 0 ∷ 0 ∷ 0 ∷ 0 ∷ 0 ∷ 0 ∷ 0 ∷ 1 ∷ 52 ∷ 0xA0 ∷ []

abbrev rest : List ℕ
rest = 0 ∷ 0 ∷ 0 ∷ 1 ∷ 52 ∷ 0xA0 ∷ []

abbrev profiles : SegmentView
profiles = record {
  header = record {
    segment_number = 0;
    segment_type = Profiles;
    retain_flag = true;
    page_association = 0;
    referred_to_segments = [];
    data_length = Some 0;
  };
  bytes = [];
}

refused : globals_at Strict bytes ≡ Err (Segment InvalidReferredCount)
unfolding globals_at segments_in segment_at header_at referred_at count_at type_of
refused = refl

-- the segment after one other breaks the rule
broken : BreaksSequence 1 Strict bytes (Segment InvalidReferredCount)
unfolding segment_at header_at referred_at count_at type_of
broken = ((profiles, rest), refl, (refl, inl (omega arith, inl refl)))
