-- Regions that are decoded pixel by pixel, row by row from the top and each row from the left (T.88, 6.2.5 and 6.3.5).
-- `decoded_region` takes a coding, a size, the coded bytes and the state before, and gives the state after.
use Rattle.std.specs.Prelude.{ℕ, suc, zero, ◌+◌, ◌*◌, ◌/◌, ◌%◌, ◌==◌, Bool, false, if◌then◌else◌, List, [], ◌∷◌}
use Rattle.std.specs.Prelude.{◌++◌, length, slice_index_or, slice_set, Option, Some, None}
use Rattle.jbig2_base.specs.Grid.{Grid, grid_of, differ}
use Rattle.jbig2_coder.specs.Coder.{Context, Registers, fresh, decision}

-- the grid of the pixels decoded so far; a pixel that is not decoded yet is white
unfoldable pub so_far : ℕ → ℕ → List Bool → Grid
so_far w h bits = grid_of w h (λ x y. slice_index_or bits (y * w + x) false)

-- a region during decoding: its pixels so far, whether their last row is predicted (LTP), and the coder
pub record Region : Type 0 where
  pub pixels : List Bool
  pub predicted : Bool
  pub registers : Registers
  pub contexts : List Context

-- How a region is coded: the context of a pixel, by the grid so far and its place; the colour that it takes without a
-- decision, if any, by whether its row is predicted; and, with typical prediction, the context in which a row begins.
pub record Coding : Type 0 where
  pub context : Grid → ℕ → ℕ → ℕ
  pub known : Bool → Grid → ℕ → ℕ → Option Bool
  pub row_context : Option ℕ

-- one pixel more: of a known colour, or else decided in context k
unfoldable pub with_next : List ℕ → Region → ℕ → Option Bool → Region
with_next bytes r k (Some colour) = record r { pixels = r.pixels ++ colour ∷ [] }
with_next bytes r k None =
    let d = decision bytes r.registers (slice_index_or r.contexts k fresh) in
    record r {
      pixels = r.pixels ++ d.symbol ∷ [];
      registers = d.registers;
      contexts = slice_set r.contexts k d.context;
    }

-- With typical prediction a row begins with a decision. LTP is the exclusive or of all these bits so far (6.2.5.7).
unfoldable pub after_ltp : Option ℕ → List ℕ → Region → Region
after_ltp None bytes r = r
after_ltp (Some k) bytes r =
    let d = decision bytes r.registers (slice_index_or r.contexts k fresh) in
    record r {
      predicted = differ d.symbol r.predicted;
      registers = d.registers;
      contexts = slice_set r.contexts k d.context;
    }

abbrev pub row_decisions : Option ℕ → ℕ
row_decisions None = 0
row_decisions (Some _) = 1

-- the state at the next pixel (6.2.5.7, 6.3.5.6): if the pixels so far end a row, the next row begins first
unfoldable pub at_next : Coding → ℕ → List ℕ → Region → Region
at_next coding w bytes r = if length r.pixels % w == 0 then after_ltp coding.row_context bytes r else r

abbrev pub no_pixels : Registers → List Context → Region
no_pixels registers contexts = record { pixels = []; predicted = false; registers = registers; contexts = contexts }

-- what a region is decoded from: its size, its coded bytes, and the state before its first pixel
pub record Source : Type 0 where
  pub columns : ℕ
  pub rows : ℕ
  pub bytes : List ℕ
  pub start : Region

abbrev pub source : ℕ → ℕ → List ℕ → Region → Source
source w h bytes start = record { columns = w; rows = h; bytes = bytes; start = start }

-- a region of w columns and h rows
module _ (coding : Coding) (w h : ℕ) (bytes : List ℕ) where
  -- one pixel more
  unfoldable pub after_pixel : Region → Region
  after_pixel r =
      let n = length r.pixels in
      let g = so_far w h r.pixels in
      with_next bytes r (coding.context g (n % w) (n / w)) (coding.known r.predicted g (n % w) (n / w))

  -- the state after the first n pixels
  unfoldable pub first_pixels : Region → ℕ → Region
  first_pixels start zero = start
  first_pixels start (suc n) = after_pixel (at_next coding w bytes (first_pixels start n))

  abbrev pub at_pixel : Region → ℕ → Region  -- the state at pixel n of the raster
  at_pixel start n = at_next coding w bytes (first_pixels start n)

  -- the whole region; without columns or without rows it takes no decision (our own rule)
  unfoldable pub decoded_region : Region → Region
  decoded_region start = first_pixels start (w * h)
