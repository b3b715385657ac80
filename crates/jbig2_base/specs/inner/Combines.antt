-- Blocks of a page, and single rows of them, that are combined with the pixels of a source (our own rule): what must
-- hold before, and what the page is afterwards.
use Rattle.std.specs.Prelude.{◌≡◌, ℕ, ◌+◌, ◌-◌, ◌<◌, ◌≤◌, ◌^◌, List}
use Rattle.jbig2_base.specs.declared.bitmap.operator.CombinationOperator.{CombinationOperator}
use Rattle.jbig2_base.specs.declared.bitmap.rows.blocks.Block.{Block}
use Rattle.jbig2_base.specs.declared.bitmap.rows.blocks.Line.{Line}
use Rattle.jbig2_base.specs.declared.bitmap.rows.blocks.Shape.{Shape}
use Rattle.jbig2_base.specs.Counts.{Counts, words_across, loads_across, words_written}
use Rattle.jbig2_base.specs.inner.Blocks.{CombinesBlock, LiesOn, with_run}
use Rattle.jbig2_base.specs.Grid.{Grid, pixel_at}
use Rattle.jbig2_base.specs.inner.Shapes.{HasShape, grid_in}

-- the ends of the columns and rows are numbers of 32 bits
pub record HasEnds (block : Block) : Type 0 where
  pub columns : block.left + block.columns < 2 ^ 32
  pub rows : block.top + block.rows < 2 ^ 32
  pub source_columns : block.from + block.columns < 2 ^ 32
  pub source_rows : block.from_row + block.rows < 2 ^ 32

-- A block of a source that lies wholly on the page, with its top left pixel at column `left` of row `top`.
abbrev pub block_of : Grid → ℕ → ℕ → Block
block_of source left top =
    record { left = left; top = top; columns = source.width; rows = source.height; from = 0; from_row = 0 }

-- ---- the same for words
pub record IsBlockOnBoth (shape : Shape) (words : List ℕ) (from : Shape) (source : List ℕ) (block : Block) : Type 0 where
  pub packed : HasShape shape words
  pub source_packed : HasShape from source
  pub inside : LiesOn (grid_in shape words) (grid_in from source) block

pub record CombinesBlockOfWords (operator : CombinationOperator) (shape : Shape) (words : List ℕ)
    (from : Shape) (source : List ℕ) (block : Block) (after : List ℕ) (old new : Counts) : Type 0 where
  pub packed : HasShape shape after
  pub combined : CombinesBlock operator block (grid_in shape words) (grid_in from source) (grid_in shape after) old new

-- ---- one line
pub record IsLineOnBoth (shape : Shape) (words : List ℕ) (from : Shape) (source : List ℕ) (line : Line) : Type 0 where
  pub packed : HasShape shape words
  pub source_packed : HasShape from source
  pub some : 1 ≤ line.columns
  pub right : line.left + line.columns ≤ shape.width
  pub row : line.y < shape.height
  pub source_right : line.from + line.columns ≤ from.width
  pub source_row : line.from_y < from.height

pub record CombinesLine (operator : CombinationOperator) (shape : Shape) (words : List ℕ) (from : Shape)
    (source : List ℕ) (line : Line) (after : List ℕ) (old new : Counts) : Type 0 where
  pub packed : HasShape shape after
  pub value :
      grid_in shape after
      ≡ with_run operator (grid_in shape words) line.left line.y line.columns
      (λ i. pixel_at (grid_in from source) (line.from + (i - line.left)) line.from_y)
  pub steps :
      new ≡ words_written (words_across line.left line.columns) (loads_across line.left line.columns line.from) old
