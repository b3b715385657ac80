-- Rows in windows of 64 pixels, the pixels of a template that lie side by side in them, and what an encoder has coded.
use Rattle.std.specs.Prelude.{ℕ, ◌+◌, ◌≤◌, pos, ◌-ℤ◌, List, ◌++◌}
use Rattle.jbig2_base.specs.Grid.{Grid}
use Rattle.jbig2_coder.specs.Encoder.{CodingInContexts, HasCoded}
use Rattle.jbig2_region.specs.inner.Neighbours.{nominal_pixels}
use Rattle.jbig2_region.specs.inner.Windows.{IsWindow}
use Rattle.jbig2_region.specs.declared.template.neighbours.Neighbours.{Neighbours}
use Rattle.jbig2_inverses.specs.CoderStates.{Entry}
use Rattle.jbig2_writer.specs.declared.windows.Windows.{Windows}
use Rattle.jbig2_writer.specs.inner.Rows.{decisions_of_pixels}

-- small enough for the windows
pub record IsNarrow (n : Neighbours) : Type 0 where
  pub left : n.left ≤ 4
  pub above_reach : n.above.reach ≤ 3
  pub above_count : n.above.count ≤ 7
  pub top_reach : n.top.reach ≤ 3
  pub top_count : n.top.count ≤ 7
  pub few : n.left + (n.above.count + n.top.count) ≤ 16

-- windows around column x of row y
pub record AreWindows (g : Grid) (x y : ℕ) (w : Windows) : Type 0 where
  pub row : IsWindow g x (pos y -ℤ pos 0) 64 w.row
  pub above : IsWindow g x (pos y -ℤ pos 1) 64 w.above
  pub top : IsWindow g x (pos y -ℤ pos 2) 64 w.top

-- wherever `old` has coded the first decisions at last, `new` has coded the second in their place
abbrev pub CodesOn : CodingInContexts → CodingInContexts → List Entry → List Entry → Type 0
CodesOn old new before after = (list : List Entry) → HasCoded old (list ++ before) → HasCoded new (list ++ after)

-- `count` pixels are coded, from the windows' column on
abbrev pub CodesGroup : Neighbours → Windows → ℕ → CodingInContexts → CodingInContexts → Type 0
CodesGroup n w count old new =
    (g : Grid) (x y : ℕ) → AreWindows g x y w
    → CodesOn old new (decisions_of_pixels (nominal_pixels n) g y x) (decisions_of_pixels (nominal_pixels n) g y (x + count))
