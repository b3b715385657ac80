-- Which rule the input breaks where patterns or a halftone region are refused (docs/FORMAT.md), one line for each
-- error. `Breaks..` takes the bytes of a segment, or its header and what it refers to, and an error. The function that
-- refuses cites it.
use Rattle.std.specs.Prelude.{◌≡◌, ◌<◌, ◌≤◌, ◌⊎◌, ℕ, ◌+◌, ◌*◌, ◌/◌, ◌%◌, true, List, length, Ok}
use Rattle.std.specs.Int.{w8, w32}
use Rattle.jbig2_base.specs.Causes.{number_in}
use Rattle.jbig2_base.specs.Grid.{Grid, max_side}
use Rattle.jbig2_base.specs.declared.error.DecodeError.{DecodeError}
use Rattle.jbig2_base.specs.declared.error.DecodeError.TheVariants.{Overflow, Parse, Region, Unsupported}
use Rattle.jbig2_base.specs.declared.error.OverflowError.TheVariants.{BitmapDimension, GridDimension}
use Rattle.jbig2_base.specs.declared.error.ParseError.TheVariants.{UnexpectedEof}
use Rattle.jbig2_base.specs.declared.error.RegionError.TheVariants.{GrayScaleOutOfRange, InvalidCombinationOperator}
use Rattle.jbig2_base.specs.declared.error.RegionError.TheVariants.{InvalidMmrData}
use Rattle.jbig2_mmr.specs.Causes.{BreaksMmr}
use Rattle.jbig2_halftone.specs.GrayScale.{GrayScale, gray_value, mmr_left, planes_of}
use Rattle.jbig2_halftone.specs.Halftone.{gray_params}
use Rattle.jbig2_halftone.specs.HalftoneHeader.{HalftoneHeader}
use Rattle.jbig2_halftone.specs.PatternHeader.{PatternHeader}
use Rattle.jbig2_halftone.specs.Patterns.{Patterns}

-- A pattern dictionary's header has seven bytes: flags, the width and the height of a pattern, GRAYMAX.
abbrev pub BreaksPatternHeader : List ℕ → DecodeError → Type 0
BreaksPatternHeader bytes (Parse UnexpectedEof) =
    (length bytes < 7) ⊎ (number_in w8 1 bytes ≡ 0) ⊎ (number_in w8 2 bytes ≡ 0)
BreaksPatternHeader bytes _ = ⊥

-- A halftone region's header has 38 bytes. The region information's flags are at byte 16, those of the halftone at byte
-- 17, and the width and the height of the grid at bytes 18 and 22.
abbrev pub BreaksHalftoneHeader : List ℕ → DecodeError → Type 0
BreaksHalftoneHeader bytes (Parse UnexpectedEof) = length bytes < 38
BreaksHalftoneHeader bytes (Region InvalidCombinationOperator) =
    (4 < number_in w8 16 bytes % 8) ⊎ (4 < number_in w8 17 bytes / 16 % 8)
BreaksHalftoneHeader bytes Unsupported = number_in w8 16 bytes / 8 % 2 ≡ 1
BreaksHalftoneHeader bytes (Overflow GridDimension) =
    (26 ≤ length bytes) × ((max_side < number_in w32 18 bytes) ⊎ (max_side < number_in w32 22 bytes))
BreaksHalftoneHeader bytes _ = ⊥

-- The patterns side by side have too many columns; or, in strict mode, their MMR data breaks a rule of T.6.
abbrev pub BreaksPatterns : PatternHeader → DecodeError → Type 0
BreaksPatterns h (Overflow BitmapDimension) = max_side < (h.gray_max + 1) * h.pattern_width
BreaksPatterns h (Region InvalidMmrData) =
    (h.mmr ≡ true)
    × BreaksMmr h.strict ((h.gray_max + 1) * h.pattern_width) h.pattern_height h.bytes (Region InvalidMmrData)
BreaksPatterns h _ = ⊥

-- The image has planes, and a side above 65535. Or, in strict mode, the MMR data of a plane breaks a rule of T.6.
abbrev pub BreaksGrayScale : GrayScale → List ℕ → DecodeError → Type 0
BreaksGrayScale p bytes (Overflow BitmapDimension) = (0 < p.bits_per_pixel) × ((max_side < p.width) ⊎ (max_side < p.height))
BreaksGrayScale p bytes (Region InvalidMmrData) =
    (p.use_mmr ≡ true) × ((k : ℕ) × (k < p.bits_per_pixel)
    × BreaksMmr p.strict p.width p.height (mmr_left p bytes k) (Region InvalidMmrData))
BreaksGrayScale p bytes _ = ⊥

-- The image of gray values is refused. Or, in strict mode, the planes give a cell a value that has no pattern.
abbrev pub BreaksHalftone : HalftoneHeader → Patterns → DecodeError → Type 0
BreaksHalftone h d (Region GrayScaleOutOfRange) =
    let grid = h.grid_position_and_size in
    (h.strict ≡ true) × ((planes : List Grid) × (x : ℕ) × (y : ℕ) × (planes_of (gray_params h d) h.bytes ≡ Ok planes)
    × (x < grid.width) × (y < grid.height) × (length d.grids ≤ gray_value planes x y))
BreaksHalftone h d e = BreaksGrayScale (gray_params h d) h.bytes e
