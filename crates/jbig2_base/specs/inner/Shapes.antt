-- Words in which rows of a known shape lie, and the grid in these words (our own rule).
use Rattle.std.specs.Prelude.{ℕ, List}
use Rattle.jbig2_base.specs.declared.bitmap.rows.blocks.Shape.{Shape}
use Rattle.jbig2_base.specs.Grid.{Grid}
use Rattle.jbig2_base.specs.inner.Packed.{IsPacked, packed_grid}

abbrev pub HasShape : Shape → List ℕ → Type 0
HasShape shape words = IsPacked shape.width shape.height shape.stride words

abbrev pub grid_in : Shape → List ℕ → Grid
grid_in shape words = packed_grid shape.width shape.height shape.stride words
