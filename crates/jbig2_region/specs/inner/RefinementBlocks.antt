-- What the code holds in the middle of a block of a row, before it stores the block: in a refinement, or where pixels
-- are skipped (our own rule).
use Rattle.std.specs.Prelude.{◌≡◌, ℕ, ◌+◌, ◌*◌, ◌^◌, ◌<◌, ◌≤◌, Bool, None}
use Rattle.jbig2_base.specs.Writes.{with_pixels}
use Rattle.jbig2_region.specs.Raster.{Coding}
use Rattle.jbig2_region.specs.Refinement.{Reference, refinement_coding}
use Rattle.jbig2_region.specs.inner.DecodedPixels.{DecodesPart, CountsPart}
use Rattle.jbig2_region.specs.inner.RegionStates.{CountedDecoder, CountedRegion, region_state, without_counts}
use Rattle.jbig2_region.specs.inner.RefinementWindows.{SeesRows, corners, known_of, nine_of}
use Rattle.jbig2_region.specs.inner.Windows.{IsLeft}
use Rattle.jbig2_region.specs.declared.refinement_kernel.windows.RefinementWindows.{RefinementWindows}
use Rattle.jbig2_region.specs.declared.template.RefinementTemplate.{RefinementTemplate}

-- What the code holds after k pixels of a block: the pixels as a number, after the four on the left. They are not in
-- the bitmap yet.
pub record Block (coding : Coding) (p : Bool) (x y k : ℕ) (start : CountedRegion) (pixels : ℕ) (d : CountedDecoder)
    : Type 0 where
  pub bytes : d.coder.bytes ≡ start.coder.bytes
  pub few : pixels < 16 * 2 ^ k
  pub left : IsLeft (with_pixels start.grid x y k pixels) (x + k) y pixels
  pub has_decoded :
      DecodesPart coding p x y k (without_counts start)
      (region_state (with_pixels start.grid x y k pixels) d.coder d.contexts)
  pub decisions : CountsPart coding p x y k (without_counts start) start.counts.decisions d.counts.decisions
  pub steps : d.counts ≡ record start.counts { decisions = d.counts.decisions }

-- the colour of n pixels, from the k-th on, is not known
abbrev pub IsUnknown : Bool → RefinementWindows → ℕ → ℕ → Type 0
IsUnknown p w k n = (i : ℕ) → i < n → known_of p (nine_of w (k + i)) ≡ None

-- a block before and after n more pixels, from the k-th on, none of whose colours is known
abbrev pub MovesBlock : RefinementTemplate → RefinementWindows → ℕ → ℕ
    → ℕ → CountedDecoder → ℕ → CountedDecoder → Type 0
MovesBlock template w k n pixels d pixels' d' =
    (typical p : Bool) (r : Reference) (x y : ℕ) (start : CountedRegion)
    → SeesRows start.grid r x y w → k + n ≤ 32 → x + (k + n) ≤ start.grid.width → y < start.grid.height
    → IsUnknown p w k n
    → Block (refinement_coding template typical corners r) p x y k start pixels d
    → Block (refinement_coding template typical corners r) p x y (k + n) start pixels' d'
