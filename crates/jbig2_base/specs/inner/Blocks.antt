-- A block of a page that is combined with the pixels of a source on it (T.88, 7.4.1.5): the combination of two bitmaps,
-- once the places where they overlap are known.
use Rattle.std.specs.Prelude.{◌≡◌, ℕ, ◌+◌, ◌-◌, ◌==◌, ◌≤◌, Bool, ◌&&◌, nat_le, nat_lt, if◌then◌else◌}
use Rattle.jbig2_base.specs.declared.bitmap.operator.CombinationOperator.{CombinationOperator}
use Rattle.jbig2_base.specs.declared.bitmap.rows.blocks.Block.{Block}
use Rattle.jbig2_base.specs.Counts.{Counts, rows_combined}
use Rattle.jbig2_base.specs.Grid.{Grid, grid_of, pixel_at}
use Rattle.jbig2_base.specs.Combination.{combined_pixel}

-- The block has columns `left` to `right` - 1 of rows `top` to `bottom` - 1. Column `from` of row `from_row` of the
-- source lies on its first pixel.
unfoldable pub block_pixel : CombinationOperator → Grid → Grid → ℕ → ℕ → ℕ → ℕ → ℕ → ℕ → ℕ → ℕ → Bool
block_pixel operator page source left right top bottom from from_row i j =
    if nat_le left i && nat_lt i right && nat_le top j && nat_lt j bottom
    then combined_pixel operator (pixel_at page i j) (pixel_at source (from + (i - left)) (from_row + (j - top)))
    else pixel_at page i j

abbrev pub with_block : CombinationOperator → Grid → Grid → ℕ → ℕ → ℕ → ℕ → ℕ → ℕ → Grid
with_block operator page source left right top bottom from from_row =
    grid_of page.width page.height (block_pixel operator page source left right top bottom from from_row)

-- `count` pixels of row y, from column x on, are each combined with the pixel of the same column in another row.
abbrev pub with_run : CombinationOperator → Grid → ℕ → ℕ → ℕ → (ℕ → Bool) → Grid
with_run operator page x y count row =
    grid_of page.width page.height
    (λ i j. if j == y && nat_le x i && nat_lt i (x + count) then combined_pixel operator (pixel_at page i j) (row i)
    else pixel_at page i j)

-- A block of at least one column lies on the page, and its pixels lie in the source.
pub record LiesOn (page source : Grid) (block : Block) : Type 0 where
  pub some : 1 ≤ block.columns
  pub right : block.left + block.columns ≤ page.width
  pub bottom : block.top + block.rows ≤ page.height
  pub source_right : block.from + block.columns ≤ source.width
  pub source_bottom : block.from_row + block.rows ≤ source.height

-- The block is combined, and exactly the words in which its rows lie are written.
pub record CombinesBlock (operator : CombinationOperator) (block : Block) (page source after : Grid)
    (old new : Counts) : Type 0 where
  pub value :
      after
      ≡ with_block operator page source block.left (block.left + block.columns) block.top (block.top + block.rows)
      block.from block.from_row
  pub steps : new ≡ rows_combined block.rows block.left block.columns block.from old
