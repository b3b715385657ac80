-- Gray-scale images (T.88, Annex C): a value for each pixel, coded as bit planes, the highest first. The definition
-- `gray_scale_image` takes the parameters of Table C.1 and the coded bytes, and gives the values, or an error.
use Rattle.std.specs.Prelude.{ℕ, zero, suc, ◌+◌, ◌-◌, ◌*◌, ◌/◌, ◌%◌, nat_lt, Bool, false, ◌&&◌, ◌||◌, if◌then◌else◌}
use Rattle.std.specs.Prelude.{List, [], ◌∷◌, length, take, drop, map, Option, Result, Ok}
use Rattle.std.specs.List.{range_with_len}
use Rattle.jbig2_base.specs.Results.{◌>>=◌, refuse_if}
use Rattle.jbig2_base.specs.Grid.{Grid, pixel_at, differ, max_side}
use Rattle.jbig2_base.specs.declared.error.DecodeError.{DecodeError}
use Rattle.jbig2_base.specs.declared.error.DecodeError.TheVariants.{Overflow}
use Rattle.jbig2_base.specs.declared.error.OverflowError.TheVariants.{BitmapDimension}
use Rattle.jbig2_mmr.specs.T6.{mmr_rows, rows_of}
use Rattle.jbig2_coder.specs.Coder.{Context, initial_registers}
use Rattle.jbig2_region.specs.Generic.{skipping_coding}
use Rattle.jbig2_base.specs.Bits.{number_of}
use Rattle.jbig2_region.specs.Raster.{Region, so_far, decoded_region, no_pixels}
use Rattle.jbig2_coder.specs.Coder.{fresh_contexts}
use Rattle.jbig2_region.specs.Templates.{context_bits, nominal_adaptive_pixels, template_pixels}
use Rattle.jbig2_region.specs.declared.template.Template.{Template}

pub record GrayScale : Type 0 where  -- what is needed to decode an image's coded bytes (Table C.1)
  pub use_mmr : Bool
  pub bits_per_pixel : ℕ
  pub width : ℕ
  pub height : ℕ
  pub template : Template
  pub skip_mask : Option Grid
  pub strict : Bool

module _ (p : GrayScale) where
  -- The last of the `count` highest planes. Each is a generic region without typical prediction (Table C.4). It begins
  -- with the registers and the contexts that the plane before it left, and the first one with fresh contexts.
  unfoldable pub after_planes : List ℕ → ℕ → Region
  after_planes bytes zero = no_pixels (initial_registers bytes) (fresh_contexts (context_bits p.template))
  after_planes bytes (suc count) =
      let before = after_planes bytes count in
      let coding = skipping_coding (template_pixels false p.template (nominal_adaptive_pixels p.template)) p.skip_mask in
      decoded_region coding p.width p.height bytes (no_pixels before.registers before.contexts)

  -- with MMR: a plane, and the bytes after those that it used; and this many planes
  unfoldable pub mmr_plane : List ℕ → Result (Grid × List ℕ) DecodeError
  mmr_plane bytes = mmr_rows p.strict p.width p.height bytes >>= λ rows. Ok (rows.grid, drop rows.used bytes)

  unfoldable pub mmr_planes : List ℕ → ℕ → Result (List Grid) DecodeError
  mmr_planes bytes zero = Ok []
  mmr_planes bytes (suc count) = do
    (plane, rest) ← mmr_plane bytes
    others ← mmr_planes rest count
    Ok (plane ∷ others)

  -- The bytes of MMR data that are left after this many of the highest planes. Each plane uses whole bytes. Read
  -- leniently, no plane is refused.
  unfoldable pub mmr_left : List ℕ → ℕ → List ℕ
  mmr_left bytes zero = bytes
  mmr_left bytes (suc count) =
      let before = mmr_left bytes count in
      drop (length before - length (rows_of p.width p.height before).left / 8) before

  -- all planes, the highest first; with the arithmetic coder, plane k is the last of the k + 1 highest ones
  abbrev pub planes_of : List ℕ → Result (List Grid) DecodeError
  planes_of bytes =
      if p.use_mmr then mmr_planes bytes p.bits_per_pixel
      else Ok (map (λ k. so_far p.width p.height (after_planes bytes (k + 1)).pixels)
      (range_with_len 0 p.bits_per_pixel))

abbrev pub parity : List Grid → ℕ → ℕ → Bool  -- the exclusive or of the pixels of these planes at column x of row y
parity [] x y = false
parity (plane ∷ planes) x y = differ (pixel_at plane x y) (parity planes x y)

-- a value; its bit j is the exclusive or of the coded planes from the highest down to plane j (C.5, step 3)
unfoldable pub gray_value : List Grid → ℕ → ℕ → ℕ
gray_value planes x y =
    number_of (map (λ j. parity (take (length planes - j) planes) x y) (range_with_len 0 (length planes)))

-- a value for each pixel, row by row from the top, each row from the left
unfoldable pub gray_values : ℕ → ℕ → List Grid → List ℕ
gray_values w h planes = map (λ n. gray_value planes (n % w) (n / w)) (range_with_len 0 (w * h))

module _ (p : GrayScale) where
  -- a side above 65535, which is refused where there is a plane to read (our own rule)
  abbrev pub image_is_too_large : Bool
  image_is_too_large = nat_lt 0 p.bits_per_pixel && (nat_lt max_side p.width || nat_lt max_side p.height)

  unfoldable pub gray_scale_image : List ℕ → Result (List ℕ) DecodeError
  gray_scale_image bytes = do
    fits ← refuse_if image_is_too_large (Overflow BitmapDimension)
    planes ← planes_of p bytes
    Ok (gray_values p.width p.height planes)

  -- The contexts after the image. MMR leaves them as they were, refused or not, and so does a side that is too large.
  abbrev pub gray_contexts : List ℕ → List Context → List Context
  gray_contexts bytes contexts =
      if image_is_too_large || p.use_mmr then contexts else (after_planes p bytes p.bits_per_pixel).contexts
