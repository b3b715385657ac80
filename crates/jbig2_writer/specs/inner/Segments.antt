-- The parts of a page and of a file, as the writer makes them one after another.
use Rattle.std.specs.Prelude.{ℕ, ◌+◌, ◌^◌, ◌<◌, false, List, [], ◌∷◌, ◌++◌, length}
use Rattle.std.specs.Int.{w32, to_be_bytes}
use Rattle.jbig2_inverses.specs.FileWriter.{file_header_bytes}
use Rattle.jbig2_inverses.specs.GenericSegmentWriter.{generic_bytes}
use Rattle.jbig2_inverses.specs.SegmentWriter.{number_or_0}
use Rattle.jbig2_page_inverse.specs.PageFile.{file_header}
use Rattle.jbig2_page_inverse.specs.PageWriter.{region_of_bytes}
use Rattle.jbig2_writer.specs.declared.settings.Container.{Container}
use Rattle.jbig2_writer.specs.declared.settings.Container.TheVariants.{EmbeddedPage, File}
use Rattle.jbig2_writer.specs.declared.settings.WriteSettings.{WriteSettings}
use Rattle.jbig2_writer.specs.Written.{choice_of}

-- a segment of this number and type, of this page, which refers to none (7.2)
unfoldable pub segment_of : ℕ → ℕ → ℕ → List ℕ → List ℕ
segment_of number kind page bytes =
    to_be_bytes w32 number ++ ((kind + 64) ∷ 0 ∷ (to_be_bytes w32 page ++ (to_be_bytes w32 (length bytes) ++ bytes)))

-- page information (7.4.8): the sides, the resolution, a lossless white page, and no stripes
unfoldable pub page_information : ℕ → ℕ → ℕ → ℕ → List ℕ
page_information width height x_resolution y_resolution =
    to_be_bytes w32 width ++ (to_be_bytes w32 height
    ++ (to_be_bytes w32 x_resolution ++ (to_be_bytes w32 y_resolution ++ (1 ∷ 0 ∷ 0 ∷ []))))

abbrev pub FitsResolution : WriteSettings → Type 0  -- its numbers have four bytes
FitsResolution s = (number_or_0 s.x_resolution < 2 ^ 32) × (number_or_0 s.y_resolution < 2 ^ 32)

abbrev pub information_of : WriteSettings → ℕ → ℕ → List ℕ
information_of s width height =
    page_information width height (number_or_0 s.x_resolution) (number_or_0 s.y_resolution)

abbrev pub region_data : WriteSettings → ℕ → ℕ → List ℕ → List ℕ  -- a generic region with these coded bytes (7.4.6)
region_data s width height coded = generic_bytes (region_of_bytes (choice_of s) width height (λ _ _. false) false coded)

abbrev pub segments_of : WriteSettings → ℕ → ℕ → List ℕ → List ℕ  -- page information and the region with these coded bytes
segments_of s width height coded =
    segment_of 0 48 1 (information_of s width height) ++ segment_of 1 38 1 (region_data s width height coded)

abbrev pub file_of : WriteSettings → ℕ → ℕ → List ℕ → List ℕ  -- a file with these two, and the ends after them
file_of s width height coded =
    file_header_bytes (file_header false)
    ++ (segments_of s width height coded ++ (segment_of 2 49 1 [] ++ segment_of 3 51 0 []))

abbrev pub container_bytes : Container → WriteSettings → ℕ → ℕ → List ℕ → List ℕ  -- an embedded page or a file of them
container_bytes EmbeddedPage s width height coded = segments_of s width height coded
container_bytes File s width height coded = file_of s width height coded
