-- Short segments, written by the definition.
use Rattle.std.proofs.Common.{◌≡◌, true, false, [], ◌∷◌, Some, None, refl}
use Rattle.std.specs.Prelude.{pos, negsuc}
use Rattle.jbig2_base.specs.declared.bitmap.operator.CombinationOperator.TheVariants.{Or}
use Rattle.jbig2_framing.specs.declared.segment.SegmentType.TheVariants.{EndOfPage}
use Rattle.jbig2_region.specs.declared.template.Template.TheVariants.{Template3}
use Rattle.jbig2_inverses.specs.GenericSegmentWriter.{generic_bytes, info_bytes}
use Rattle.jbig2_inverses.specs.SegmentWriter.{segment_bytes, information_bytes}

-- an end of page: number 2, type 49, a page association of four bytes, no data
end_of_page : segment_bytes (record { header = record { segment_number = 2; segment_type = EndOfPage; retain_flag = true; page_association = 1; referred_to_segments = []; data_length = Some 0 }; bytes = [] })
    ≡ 0 ∷ 0 ∷ 0 ∷ 2 ∷ 0x71 ∷ 0 ∷ 0 ∷ 0 ∷ 0 ∷ 1 ∷ 0 ∷ 0 ∷ 0 ∷ 0 ∷ []
unfolding segment_bytes
end_of_page = refl

-- the page information of a white page of 64 by 56 pixels, as in T.88 H.1
page_of_64 : information_bytes (record {
  width = 64;
  height = 56;
  x_resolution = None;
  y_resolution = None;
  flags = record { is_lossless = true; might_contain_refinements = false; default_pixel = false; default_combination_operator = Or; requires_auxiliary_buffers = false; combination_operator_overridden = false; might_contain_coloured = false };
  striping = record { is_striped = false; max_stripe_size = 0 };
})
    ≡ 0 ∷ 0 ∷ 0 ∷ 64 ∷ 0 ∷ 0 ∷ 0 ∷ 56 ∷ 0 ∷ 0 ∷ 0 ∷ 0 ∷ 0 ∷ 0 ∷ 0 ∷ 0 ∷ 1 ∷ 0 ∷ 0 ∷ []
unfolding information_bytes
page_of_64 = refl

-- a region of 3 by 2 pixels at (4, 5), by template 3 with typical prediction and an adaptive pixel at (2, -1): its data
generic_data : generic_bytes (record {
  region_info = record { width = 3; height = 2; x_location = 4; y_location = 5; combination_operator = Or };
  mmr = false;
  template = Template3;
  extended = false;
  tpgdon = true;
  adaptive_template_pixels = (record { x = pos 2; y = negsuc 0 }) ∷ [];
  bytes = 0xFF ∷ 0xAC ∷ [];
  strict = true;
})
    ≡ 0 ∷ 0 ∷ 0 ∷ 3 ∷ 0 ∷ 0 ∷ 0 ∷ 2 ∷ 0 ∷ 0 ∷ 0 ∷ 4 ∷ 0 ∷ 0 ∷ 0 ∷ 5 ∷ 0 ∷ 0x0E ∷ 2 ∷ 0xFF ∷ 0xFF ∷ 0xAC ∷ []
unfolding generic_bytes info_bytes
generic_data = refl
