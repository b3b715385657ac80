-- The region segment information field (T.88, 7.4.1), with which every region segment begins, and a region at its
-- place. `region_info_at` takes bytes and gives the field with the bytes after it, or the first fault.
use Rattle.std.specs.Prelude.{ℕ, ◌/◌, ◌%◌, ◌≡◌, ◌==◌, nat_le, Bool, false, List, Result, Ok}
use Rattle.std.specs.Int.{w8, w32}
use Rattle.jbig2_base.specs.Results.{refuse_if, ◌>>=◌}
use Rattle.jbig2_base.specs.Fields.{number_at}
use Rattle.jbig2_base.specs.Grid.{Grid, blank}
use Rattle.jbig2_base.specs.Combination.{operator_of}
use Rattle.jbig2_base.specs.declared.bitmap.operator.CombinationOperator.{CombinationOperator}
use Rattle.jbig2_base.specs.declared.error.DecodeError.{DecodeError}
use Rattle.jbig2_base.specs.declared.error.DecodeError.TheVariants.{Unsupported}
use Rattle.jbig2_region.specs.declared.region_info.RegionSegmentInfo.{RegionSegmentInfo}

-- bit 3 of the flags means a colour extension, which this decoder does not support (our own rule)
unfoldable pub region_info_at : List ℕ → Result (RegionSegmentInfo × List ℕ) DecodeError
region_info_at bytes = do
  (width, rest) ← number_at w32 bytes
  (height, rest) ← number_at w32 rest
  (x, rest) ← number_at w32 rest
  (y, rest) ← number_at w32 rest
  (flags, rest) ← number_at w8 rest
  operator ← operator_of (flags % 8)
  plain ← refuse_if (flags / 8 % 2 == 1) Unsupported
  Ok (record { width = width; height = height; x_location = x; y_location = y; combination_operator = operator }, rest)

abbrev pub is_far : ℕ → Bool  -- a column or row from 2^31 on, which is none if the number is read as a signed one
is_far location = nat_le 0x80000000 location

abbrev pub IsWhiteFor : RegionSegmentInfo → Grid → Type 0
IsWhiteFor info g = g ≡ blank info.width info.height false

-- a decoded region, its place on the page, and how it is combined with the page
pub record PlacedRegion : Type 0 where
  pub grid : Grid
  pub x_location : ℕ
  pub y_location : ℕ
  pub combination_operator : CombinationOperator

abbrev pub at_location : RegionSegmentInfo → Grid → PlacedRegion
at_location info g = record {
  grid = g;
  x_location = info.x_location;
  y_location = info.y_location;
  combination_operator = info.combination_operator;
}
