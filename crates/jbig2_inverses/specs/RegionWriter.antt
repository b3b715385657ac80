-- Regions that the arithmetic coder codes pixel by pixel (T.88, 6.2.5 and 6.3.5), as they are written: the decisions of
-- their raster. Then the laws that the readings of `Raster` and `Generic` give back the pixels.
use Rattle.std.specs.Prelude.{◌≡◌, ℕ, zero, suc, ◌+◌, ◌*◌, ◌/◌, ◌%◌, ◌<◌, ◌==◌, Bool, true, false, ◌&&◌, List, []}
use Rattle.std.specs.Prelude.{◌∷◌, ◌++◌, if◌then◌else◌, Option, Some, None, Ok}
use Rattle.jbig2_base.specs.Grid.{Grid, grid_of, differ, same_colour}
use Rattle.jbig2_coder.specs.Encoder.{encoded_bytes}
use Rattle.jbig2_region.specs.GenericHeader.{GenericHeader}
use Rattle.jbig2_region.specs.Raster.{Coding, so_far, no_pixels, decoded_region}
use Rattle.jbig2_region.specs.Templates.{FitsTemplate}
use Rattle.jbig2_region.specs.Generic.{generic_coding, generic_result}
use Rattle.jbig2_inverses.specs.CoderStates.{Entry, State, asked, GivesDecisions, state_after, window}
use Rattle.jbig2_inverses.specs.MmrWriter.{mmr_bytes}

abbrev pub known_or : Option Bool → Entry → List Entry  -- no decision for a pixel whose colour is known
known_or (Some colour) entry = []
known_or None entry = entry ∷ []

-- A region of w columns, with the pixel at each column and row, and whether each row is typical (LTP). The contexts
-- have the numbers from base on.
module _ (coding : Coding) (w h : ℕ) (pixels : ℕ → ℕ → Bool) (typical : ℕ → Bool) (base : ℕ) where
  unfoldable pub pixels_before : ℕ → List Bool  -- the first n pixels of the raster
  pixels_before zero = []
  pixels_before (suc n) = pixels_before n ++ pixels (n % w) (n / w) ∷ []

  abbrev pub ltp_before : ℕ → Bool  -- LTP after the first n pixels
  ltp_before zero = false
  ltp_before (suc n) = typical (n / w)

  abbrev pub ltp_entries : Option ℕ → ℕ → List Entry  -- the decision SLTP that begins a row: whether LTP changes
  ltp_entries None n = []
  ltp_entries (Some k) n = (base + k, differ (typical (n / w)) (ltp_before n)) ∷ []

  abbrev pub row_entries : ℕ → List Entry  -- before pixel n
  row_entries n = if n % w == 0 then ltp_entries coding.row_context n else []

  abbrev pub pixel_entries : ℕ → List Entry  -- pixel n, in the context that the pixels before it make
  pixel_entries n =
      let g = so_far w h (pixels_before n) in
      let x = n % w in
      let y = n / w in
      known_or (coding.known (typical y) g x y) (base + coding.context g x y, pixels x y)

  unfoldable pub entries_before : ℕ → List Entry  -- the decisions of the first n pixels
  entries_before zero = []
  entries_before (suc n) = entries_before n ++ (row_entries n ++ pixel_entries n)

  -- What can be coded so: count contexts are enough, rows are typical only where LTP is coded, and each colour that is
  -- known is the pixel's.
  pub record IsCodable (count : ℕ) : Type 0 where
    pub pixel_contexts : (g : Grid) (x y : ℕ) → coding.context g x y < count
    pub row_contexts : (k : ℕ) → coding.row_context ≡ Some k → k < count
    pub no_rows : coding.row_context ≡ None → (y : ℕ) → typical y ≡ false
    pub known : (n : ℕ) → n < w * h → (c : Bool)
        → coding.known (typical (n / w)) (so_far w h (pixels_before n)) (n % w) (n / w) ≡ Some c
        → c ≡ pixels (n % w) (n / w)

-- Wherever the next decisions are those of a region, its pixels are read, and the decoder is where they take it.
abbrev pub RegionsReadBack : Type 0
RegionsReadBack = (coding : Coding) (w h : ℕ) (pixels : ℕ → ℕ → Bool) (typical : ℕ → Bool) (base count : ℕ)
    → IsCodable coding w h pixels typical base count
    → (bytes : List ℕ) (s : State) → GivesDecisions bytes s (entries_before coding w h pixels typical base (w * h))
    → let end = state_after bytes s (asked (entries_before coding w h pixels typical base (w * h))) in
    let seen = pixels_before coding w h pixels typical base (w * h) in
    (decoded_region coding w h bytes (no_pixels s.registers (window base count s.contexts))
    ≡ record {
      pixels = seen;
      predicted = ltp_before coding w h pixels typical base (w * h);
      registers = end.registers;
      contexts = window base count end.contexts;
    })
    × (so_far w h seen ≡ grid_of w h pixels)

-- ---- generic regions (6.2)
abbrev pub row_above : (ℕ → ℕ → Bool) → ℕ → ℕ → Bool  -- above row 0 all is white
row_above pixels zero x = false
row_above pixels (suc y) x = pixels x y

abbrev pub same_rows : ℕ → (ℕ → Bool) → (ℕ → Bool) → Bool  -- the first n pixels of two rows are the same
same_rows zero one other = true
same_rows (suc n) one other = same_colour (one n) (other n) && same_rows n one other

-- With typical prediction a row is typical if it is as the row above it (6.2.5.7).
abbrev pub is_typical : Bool → ℕ → (ℕ → ℕ → Bool) → ℕ → Bool
is_typical tpgdon w pixels y = tpgdon && same_rows w (λ x. pixels x y) (row_above pixels y)

unfoldable pub generic_entries : GenericHeader → (ℕ → ℕ → Bool) → List Entry
generic_entries h pixels =
    let w = h.region_info.width in
    let rows = h.region_info.height in
    entries_before (generic_coding h) w rows pixels (is_typical h.tpgdon w pixels) 0 (w * rows)

-- Each bitmap is a generic region: by each template with any adaptive pixels, with typical prediction and without, from
-- the encoder's bytes of its decisions; and by MMR, if it has pixels.
pub record GenericRegionsReadBack : Type 0 where
  pub coded : (h : GenericHeader) (pixels : ℕ → ℕ → Bool) → FitsTemplate h.extended h.template → h.mmr ≡ false
      → h.bytes ≡ encoded_bytes (generic_entries h pixels)
      → generic_result h ≡ Ok (grid_of h.region_info.width h.region_info.height pixels)
  pub mmr : (h : GenericHeader) (pixels : ℕ → ℕ → Bool) (ends : Bool) → h.mmr ≡ true
      → 0 < h.region_info.width → 0 < h.region_info.height
      → h.bytes ≡ mmr_bytes ends h.region_info.width h.region_info.height pixels
      → generic_result h ≡ Ok (grid_of h.region_info.width h.region_info.height pixels)
