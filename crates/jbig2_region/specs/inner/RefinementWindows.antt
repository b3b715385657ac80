-- Windows of 64 pixels on the rows from which a refinement takes its pixels (our own rule).
use Rattle.std.specs.Prelude.{◌≡◌, ℕ, ◌+◌, ◌-◌, ◌*◌, ◌/◌, ◌%◌, ◌^◌, ◌<◌, ◌==◌, ℤ, pos, negsuc, ◌+ℤ◌, ◌-ℤ◌, Bool, true}
use Rattle.std.specs.Prelude.{false, if◌then◌else◌, List, [], ◌∷◌, Option, Some, None}
use Rattle.jbig2_base.specs.Grid.{Grid, pixel}
use Rattle.jbig2_base.specs.Bits.{bit}
use Rattle.jbig2_region.specs.Raster.{Coding}
use Rattle.jbig2_region.specs.Refinement.{Reference, refinement_coding}
use Rattle.jbig2_region.specs.RefinementTemplates.{at_xy}
use Rattle.jbig2_region.specs.inner.ReferenceViews.{reference_view}
use Rattle.jbig2_region.specs.declared.refinement_kernel.WindowedCoding.{WindowedCoding}
use Rattle.jbig2_region.specs.declared.refinement_kernel.windows.RefinementWindows.{RefinementWindows}
use Rattle.jbig2_region.specs.declared.template.AdaptiveTemplatePixel.{AdaptiveTemplatePixel}
use Rattle.jbig2_region.specs.declared.template.RefinementTemplate.{RefinementTemplate}
use Rattle.jbig2_region.specs.declared.template.RefinementTemplate.TheVariants.{Template0, Template1}

-- the pixels of a row from a column on, the first in bit 63
abbrev pub Sees : Grid → ℤ → ℤ → ℕ → Type 0
Sees g column row word = (k : ℕ) → k < 64 → bit word (63 - k) ≡ pixel g (column +ℤ pos k) row

-- windows on the rows around row y that begin one column left of column x: on the row above in the region, and on three
-- rows in the reference
pub record SeesRows (g : Grid) (r : Reference) (x y : ℕ) (w : RefinementWindows) : Type 0 where
  pub region : Sees g (pos x +ℤ negsuc 0) (pos y +ℤ negsuc 0) w.region
  pub above : Sees r.grid (pos x -ℤ r.dx +ℤ negsuc 0) (pos y -ℤ r.dy +ℤ negsuc 0) w.above
  pub here : Sees r.grid (pos x -ℤ r.dx +ℤ negsuc 0) (pos y -ℤ r.dy +ℤ pos 0) w.here
  pub below : Sees r.grid (pos x -ℤ r.dx +ℤ negsuc 0) (pos y -ℤ r.dy +ℤ pos 1) w.below

-- three pixels of a window: the one k columns right of column x, and its neighbours
abbrev pub three_of : ℕ → ℕ → ℕ
three_of word k = word / 2 ^ (61 - k) % 8

-- the reference's nine pixels around that column, the last of them in bit 0
abbrev pub nine_of : RefinementWindows → ℕ → ℕ
nine_of w k = three_of w.below k + three_of w.here k * 8 + three_of w.above k * 64

-- the region's four pixels: the one on the left, which is bit 0 of a number, and the three above
abbrev pub four_of : RefinementWindows → ℕ → ℕ → ℕ
four_of w left k = left % 2 + three_of w.region k * 2

-- the context that they make
abbrev pub context_made : RefinementTemplate → ℕ → ℕ → ℕ
context_made Template0 nine four = nine + four * 512
context_made Template1 nine four = nine % 4 + nine / 8 % 8 * 4 + nine / 128 % 2 * 32 + four * 64

-- the common colour of the nine pixels, if they have one
abbrev pub colour_of : ℕ → Option Bool
colour_of nine = if nine == 511 then Some true else if nine == 0 then Some false else None

abbrev pub known_of : Bool → ℕ → Option Bool
known_of predicted nine = if predicted then colour_of nine else None

-- what a mask of known columns says about the column at bit b: if it is known, it has the reference's colour there
abbrev pub known_at : ℕ → ℕ → ℕ → Option Bool
known_at known here b = if bit known b then Some (bit here b) else None

-- template 0 with both adaptive pixels where the standard has them by default (Figure 12)
abbrev pub corners : List AdaptiveTemplatePixel
corners = at_xy (negsuc 0) (negsuc 0) ∷ at_xy (negsuc 0) (negsuc 0) ∷ []

-- how the pixels are coded
abbrev pub windowed_coding : {B : Type 0} → WindowedCoding B → Coding
windowed_coding c = refinement_coding c.template c.typical corners (reference_view c.reference.now)
