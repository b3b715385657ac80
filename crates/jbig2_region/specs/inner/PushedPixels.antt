-- Pixels that are decoded into a number and then stored (our own rule).
use Rattle.std.specs.Prelude.{◌≡◌, ℕ, ◌+◌, ◌*◌, ◌%◌, ◌<◌, ◌≤◌, false}
use Rattle.jbig2_base.specs.Grid.{Grid}
use Rattle.jbig2_base.specs.Writes.{with_pixels}
use Rattle.jbig2_region.specs.inner.Neighbours.{DecodesPixels, nominal_pixels}
use Rattle.jbig2_region.specs.inner.RegionStates.{DecoderState, region_with}
use Rattle.jbig2_region.specs.inner.RowCounts.{CountsRuns}
use Rattle.jbig2_region.specs.inner.Windows.{IsLeft, Shows, ShowsGroup, ShowsRun}
use Rattle.jbig2_region.specs.declared.generic_kernel.windows.WideWindows.{WideWindows}
use Rattle.jbig2_region.specs.declared.generic_kernel.windows.Windows.{Windows}
use Rattle.jbig2_region.specs.declared.template.neighbours.Neighbours.{Neighbours}

-- a bitmap with this many columns from column x of row y on, what the windows show there, and the pixels left of it
pub record IsAtShown (shown : Type 0) (g : Grid) (x y count left : ℕ) : Type 0 where
  pub columns : x + count ≤ g.width
  pub row : y < g.height
  pub shows : shown
  pub beside : IsLeft g x y left

module _ (g : Grid) (x y : ℕ) where
  -- the next pixels
  abbrev pub IsAtPixels : ℕ → ℕ → Windows → Type 0
  IsAtPixels count left w = IsAtShown (Shows g x y 20 w) g x y count left

  -- bytes that are tested for a run; none of them is the row's last
  abbrev pub IsAtBytes : ℕ → ℕ → WideWindows → Type 0
  IsAtBytes most left w = IsAtShown (ShowsRun g x y most w) g x y (8 * most + 1) left

  -- a group's first bytes
  abbrev pub IsAtGroup : ℕ → ℕ → WideWindows → Type 0
  IsAtGroup bytes left w = IsAtShown (ShowsGroup g x y bytes w) g x y (8 * bytes + 1) left

-- a narrow row
pub record IsAtRow (g : Grid) (y width : ℕ) (w : Windows) : Type 0 where
  pub wide : g.width ≡ width
  pub row : y < g.height
  pub shows : Shows g 0 y 64 w

-- the next k pixels, for each bitmap and place where something holds
module _ (IsAtPlace : Grid → ℕ → ℕ → Type 0) (n : Neighbours) (k : ℕ) where
  -- they are the lowest bits of a number
  abbrev pub Pushes : ℕ → DecoderState → DecoderState → Type 0
  Pushes pixels d d' =
      (g : Grid) (x y : ℕ) → IsAtPlace g x y
      → DecodesPixels (nominal_pixels n) false x y k (region_with g d) (region_with (with_pixels g x y k pixels) d')

  -- this many decisions are counted for them, if a byte begins there
  abbrev pub CountsPushed : DecoderState → ℕ → ℕ → Type 0
  CountsPushed d before after =
      (g : Grid) (x y : ℕ) → x % 8 ≡ 0 → IsAtPlace g x y
      → CountsRuns (nominal_pixels n) x y k (region_with g d) before after

module _ (n : Neighbours) where
  -- ---- pixels
  abbrev pub PushesPixels : ℕ → ℕ → Windows → ℕ → ℕ → DecoderState → DecoderState → Type 0
  PushesPixels count left w = Pushes (λ g x y. IsAtPixels g x y count left w) n

  -- ---- bytes that are tested for a run
  module _ (most left : ℕ) (w : WideWindows) (bytes : ℕ) where
    abbrev pub PushesBytes : ℕ → DecoderState → DecoderState → Type 0
    PushesBytes = Pushes (λ g x y. IsAtBytes g x y most left w) n (8 * bytes)

    abbrev pub CountsBytes : DecoderState → ℕ → ℕ → Type 0
    CountsBytes = CountsPushed (λ g x y. IsAtBytes g x y most left w) n (8 * bytes)

  -- ---- a group's first k bytes
  module _ (bytes left : ℕ) (w : WideWindows) (k : ℕ) where
    abbrev pub PushesGroup : ℕ → DecoderState → DecoderState → Type 0
    PushesGroup = Pushes (λ g x y. IsAtGroup g x y bytes left w) n (8 * k)

    abbrev pub CountsGroup : DecoderState → ℕ → ℕ → Type 0
    CountsGroup = CountsPushed (λ g x y. IsAtGroup g x y bytes left w) n (8 * k)

  -- ---- a byte of a narrow row that is not its last
  abbrev pub CountsByte : ℕ → Windows → DecoderState → ℕ → ℕ → Type 0
  CountsByte left w = CountsPushed (λ g x y. IsAtPixels g x y 9 left w) n 8

  -- ---- a narrow row's first k pixels
  module _ (width : ℕ) (w : Windows) (k : ℕ) where
    abbrev pub PushesRow : ℕ → DecoderState → DecoderState → Type 0
    PushesRow pixels d d' =
        (g : Grid) (y : ℕ) → IsAtRow g y width w
        → DecodesPixels (nominal_pixels n) false 0 y k (region_with g d) (region_with (with_pixels g 0 y k pixels) d')

    abbrev pub CountsRowPixels : DecoderState → ℕ → ℕ → Type 0
    CountsRowPixels d before after =
        (g : Grid) (y : ℕ) → IsAtRow g y width w
        → CountsRuns (nominal_pixels n) 0 y k (region_with g d) before after
