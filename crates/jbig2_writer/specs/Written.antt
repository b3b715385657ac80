-- What is written for a bitmap: the bytes of an embedded page or of a file that holds it, or a refusal of its size. Then
-- how the result of the writer compares with that, and what it is that the bytes read back.
use Rattle.std.specs.Prelude.{◌≡◌, ℕ, ◌+◌, ◌*◌, ◌/◌, ◌&&◌, nat_le, true, false, Bool, if◌then◌else◌, List, [], ◌∷◌}
use Rattle.std.specs.Prelude.{◌⊎◌, Option, Result, Ok, Err}
use Rattle.jbig2_base.specs.Bits.{nonzero}
use Rattle.jbig2_base.specs.Grid.{Grid, max_side, pixel_at}
use Rattle.jbig2_base.specs.Results.{◌>>=◌}
use Rattle.jbig2_framing.specs.declared.reading.Reading.{Reading}
use Rattle.jbig2_region.specs.Templates.{nominal_adaptive_pixels}
use Rattle.jbig2_region.specs.declared.template.AdaptiveTemplatePixel.{AdaptiveTemplatePixel}
use Rattle.jbig2_region.specs.declared.template.Template.{Template}
use Rattle.jbig2_region.specs.declared.template.Template.TheVariants.{Template0}
use Rattle.jbig2_page.specs.Files.{ReadFile, book_at, pages_of}
use Rattle.jbig2_page.specs.Names.{Names}
use Rattle.jbig2_page.specs.Page.{ReadPage, page_from, grid_of_page}
use Rattle.jbig2_inverses.specs.SegmentWriter.{number_or_0}
use Rattle.jbig2_page_inverse.specs.PageFile.{page_file}
use Rattle.jbig2_page_inverse.specs.PageWriter.{PageChoice, page_bytes, resolution_of}
use Rattle.jbig2_writer.specs.declared.error.WriteError.{WriteError}
use Rattle.jbig2_writer.specs.declared.error.WriteError.TheVariants.{InvalidSides, OutOfMemory}
use Rattle.jbig2_writer.specs.declared.settings.Container.{Container}
use Rattle.jbig2_writer.specs.declared.settings.Container.TheVariants.{EmbeddedPage, File}
use Rattle.jbig2_writer.specs.declared.settings.RegionCoding.{RegionCoding}
use Rattle.jbig2_writer.specs.declared.settings.RegionCoding.TheVariants.{Arithmetic, Mmr}
use Rattle.jbig2_writer.specs.declared.settings.WriteSettings.{WriteSettings}

abbrev pub stated : Option ℕ → Option ℕ  -- the resolution that is stated: 0 states none (7.4.8.3)
stated resolution = nonzero (number_or_0 resolution)

abbrev pub is_mmr : RegionCoding → Bool
is_mmr (Arithmetic a) = false
is_mmr Mmr = true

abbrev pub template_of : RegionCoding → Template  -- MMR data have none, and 0 in its place (7.4.6.2)
template_of (Arithmetic a) = a.template
template_of Mmr = Template0

abbrev pub typical_of : RegionCoding → Bool
typical_of (Arithmetic a) = a.typical
typical_of Mmr = false

abbrev pub adaptive_of : RegionCoding → List AdaptiveTemplatePixel  -- at their nominal places
adaptive_of (Arithmetic a) = nominal_adaptive_pixels a.template
adaptive_of Mmr = []

abbrev pub choice_with : RegionCoding → Option ℕ → Option ℕ → PageChoice
choice_with coding x_resolution y_resolution = record {
  mmr = is_mmr coding;
  end_of_block = true;
  template = template_of coding;
  extended = false;
  typical = typical_of coding;
  adaptive = adaptive_of coding;
  x_resolution = x_resolution;
  y_resolution = y_resolution;
}

abbrev pub choice_of : WriteSettings → PageChoice
choice_of s = choice_with s.coding (stated s.x_resolution) (stated s.y_resolution)

abbrev pub most_loads : RegionCoding → ℕ → ℕ → ℕ  -- how many loads of pixels a bitmap of this size takes at most
most_loads (Arithmetic a) width height = 5 * ((width + 31) / 32 * height)
most_loads Mmr width height = 7 * ((width + 1) * height)

abbrev pub is_side : ℕ → Bool
is_side n = nat_le 1 n && nat_le n max_side

abbrev pub check_size : ℕ → ℕ → Result (Unit {0}) WriteError
check_size width height = if is_side width && is_side height then Ok tt else Err InvalidSides

-- the bytes that hold these pixels, as an embedded page or as a file
abbrev pub bytes_in : Container → PageChoice → ℕ → ℕ → (ℕ → ℕ → Bool) → List ℕ
bytes_in EmbeddedPage c width height pixels = page_bytes c width height pixels
bytes_in File c width height pixels = page_file c width height pixels

-- what is written for the bitmap; its sides are 1 to 65535
abbrev pub written : WriteSettings → Grid → Result (List ℕ) WriteError
written s g =
    check_size g.width g.height >>= λ _. Ok (bytes_in s.container (choice_of s) g.width g.height (pixel_at g))

-- The result of a call, seen by `view`, is what was meant, unless memory ran out.
abbrev pub GivesWritten : {X Y : Type 0} → (X → Y) → Result X WriteError → Result Y WriteError → Type 0
GivesWritten view (Ok x) meant = meant ≡ Ok (view x)
GivesWritten view (Err e) meant = (e ≡ OutOfMemory) ⊎ (meant ≡ Err e)

-- The page is drawn as this grid, and states the resolution of the settings.
abbrev pub ShowsPage : WriteSettings → Grid → ReadPage → Type 0
ShowsPage s g page =
    (grid_of_page page ≡ Ok g) × (resolution_of page.segments ≡ Ok (stated s.x_resolution, stated s.y_resolution))

-- In each mode the bytes are an embedded page, with any globals, or a file of one page, and it shows this.
abbrev pub IsReadIn : Container → WriteSettings → List ℕ → Grid → Type 0
IsReadIn EmbeddedPage s bytes g = (reading : Reading) (globals : Names)
    → (page : ReadPage) × (page_from reading globals bytes ≡ Ok page) × ShowsPage s g page
IsReadIn File s bytes g = (reading : Reading)
    → (book : ReadFile) × (page : ReadPage) × (book_at reading bytes ≡ Ok book)
    × (pages_of book ≡ page ∷ []) × ShowsPage s g page

abbrev pub ReadsBack : WriteSettings → List ℕ → Grid → Type 0
ReadsBack s bytes g = IsReadIn s.container s bytes g
