-- Page information (T.88, 7.4.8), and how a page begins. `information_at` takes bytes and gives the fields.
-- `initial_page_of` takes a page's segments and gives its number, size and colour. They come from the first page
-- information among the segments. If that leaves the height open, the height comes from the stripes (7.4.10).
use Rattle.std.specs.Prelude.{ℕ, ◌+◌, ◌/◌, ◌%◌, ◌==◌, max, Bool, true, false, not, ◌&&◌, ◌||◌, List, [], ◌∷◌}
use Rattle.std.specs.Prelude.{length, take, Result, Ok, Err, if◌then◌else◌}
use Rattle.std.specs.Int.{w8, w16, w32, from_be_bytes}
use Rattle.jbig2_base.specs.Grid.{check_sides}
use Rattle.jbig2_base.specs.Results.{◌>>=◌, refuse_if}
use Rattle.jbig2_base.specs.Bits.{nonzero}
use Rattle.jbig2_base.specs.Fields.{number_at}
use Rattle.jbig2_framing.specs.Segment.{SegmentView}
use Rattle.jbig2_base.specs.declared.bitmap.operator.CombinationOperator.{CombinationOperator}
use Rattle.jbig2_base.specs.declared.bitmap.operator.CombinationOperator.TheVariants.{Or, And, Xor, Xnor}
use Rattle.jbig2_base.specs.declared.error.DecodeError.{DecodeError}
use Rattle.jbig2_base.specs.declared.error.DecodeError.TheVariants.{Format}
use Rattle.jbig2_base.specs.declared.error.FormatError.TheVariants.{MissingPageInfo, UnknownPageHeight, EmptyPage}
use Rattle.jbig2_framing.specs.declared.page_info.PageFlags.{PageFlags}
use Rattle.jbig2_framing.specs.declared.page_info.PageInformation.{PageInformation}
use Rattle.jbig2_framing.specs.declared.page_info.InitialPage.{InitialPage}
use Rattle.jbig2_framing.specs.declared.segment.SegmentType.{SegmentType}
use Rattle.jbig2_framing.specs.declared.segment.SegmentType.TheVariants as types

abbrev pub default_operator_of : ℕ → CombinationOperator  -- the default operator by its two bits (7.4.8.5)
default_operator_of n = if n == 0 then Or else if n == 1 then And else if n == 2 then Xor else Xnor

abbrev pub is_set : ℕ → ℕ → Bool
is_set flags bit = flags / bit % 2 == 1

abbrev pub flags_of : ℕ → PageFlags  -- the page's flags (7.4.8.5)
flags_of n = record {
  is_lossless = is_set n 1;
  might_contain_refinements = is_set n 2;
  default_pixel = is_set n 4;
  default_combination_operator = default_operator_of (n / 8 % 4);
  requires_auxiliary_buffers = is_set n 32;
  combination_operator_overridden = is_set n 64;
  might_contain_coloured = is_set n 128;
}

-- the fields; a resolution of 0 is unknown (7.4.8.3); the last field is the striping (7.4.8.6)
unfoldable pub information_at : List ℕ → Result (PageInformation × List ℕ) DecodeError
information_at bytes = do
  (width, rest) ← number_at w32 bytes
  (height, rest) ← number_at w32 rest
  (x, rest) ← number_at w32 rest
  (y, rest) ← number_at w32 rest
  (flags, rest) ← number_at w8 rest
  (striping, rest) ← number_at w16 rest
  Ok (
    record {
      width = width;
      height = height;
      x_resolution = nonzero x;
      y_resolution = nonzero y;
      flags = flags_of flags;
      striping = record { is_striped = striping / 32768 == 1; max_stripe_size = striping % 32768 };
    },
    rest,
  )

abbrev pub is_page_information : SegmentType → Bool
is_page_information types.PageInformation = true
is_page_information _ = false

abbrev pub is_end_of_stripe : SegmentType → Bool
is_end_of_stripe types.EndOfStripe = true
is_end_of_stripe _ = false

abbrev pub first_information : List SegmentView → Result SegmentView DecodeError
first_information [] = Err (Format MissingPageInfo)
first_information (p ∷ ps) = if is_page_information p.header.segment_type then Ok p else first_information ps

-- the height of a page that ends with this stripe (7.4.10): its last row's number plus one; 0 if it is no such stripe
abbrev pub stripe_height : SegmentView → ℕ
stripe_height p =
    let row = from_be_bytes w32 (take 4 p.bytes) in
    if is_end_of_stripe p.header.segment_type && length p.bytes == 4 && not (row == 4294967295) then row + 1 else 0

abbrev pub stripes_height : List SegmentView → ℕ
stripes_height [] = 0
stripes_height (p ∷ ps) = max (stripe_height p) (stripes_height ps)

-- A height of all ones is unknown (7.4.8.2). Then it is `known_height`, which is 0 if nothing states it.
abbrev pub height_of : ℕ → ℕ → Result ℕ DecodeError
height_of stated known_height =
    if stated == 4294967295 then (refuse_if (known_height == 0) (Format UnknownPageHeight) >>= λ known. Ok known_height)
    else Ok stated

-- a page of this size has pixels, and no side is longer than a bitmap's may be
abbrev pub initial_page_with : ℕ → PageInformation → ℕ → Result InitialPage DecodeError
initial_page_with number info height = do
  some ← refuse_if (info.width == 0 || height == 0) (Format EmptyPage)
  fits ← check_sides info.width height
  Ok (record { number = number; width = info.width; height = height; default_pixel = info.flags.default_pixel })

-- how a page with these segments begins; `known_height` is its height if page information leaves it open
abbrev pub initial_page_by : ℕ → List SegmentView → Result InitialPage DecodeError
initial_page_by known_height ps = do
  first ← first_information ps
  (info, rest) ← information_at first.bytes
  height ← height_of info.height known_height
  initial_page_with first.header.page_association info height

-- the same, where the stripes state an open height
unfoldable pub initial_page_of : List SegmentView → Result InitialPage DecodeError
initial_page_of ps = initial_page_by (stripes_height ps) ps
