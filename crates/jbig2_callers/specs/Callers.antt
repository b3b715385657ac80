-- What a PDF reader and a viewer ask for (our own rule), in terms of the library's definitions. The bytes of a stream
-- or a file give a grid or an image. Both read leniently.
use Rattle.std.specs.Prelude.{◌≡◌, ◌⊎◌, ℕ, List, Option, Result, Ok, Err}
use Rattle.std.specs.Option.{option_map_or}
use Rattle.jbig2_base.specs.Results.{◌>>=◌, some_or}
use Rattle.jbig2_base.specs.Grid.{Grid}
use Rattle.jbig2_base.specs.declared.error.DecodeError.{DecodeError}
use Rattle.jbig2_base.specs.declared.error.DecodeError.TheVariants.{Format, OutOfMemory}
use Rattle.jbig2_base.specs.declared.error.FormatError.TheVariants.{MissingPageInfo}
use Rattle.jbig2_framing.specs.declared.reading.Reading.TheVariants.{Lenient}
use Rattle.jbig2_page.specs.Files.{book_at, page_of}
use Rattle.jbig2_page.specs.Image.{image_of_page}
use Rattle.jbig2_page.specs.Names.{no_names}
use Rattle.jbig2_page.specs.Page.{page_from, grid_of_page}
use Rattle.jbig2_page.specs.Globals.{globals_at, names_of}
use Rattle.jbig2_page.specs.FirstPage.{first_image, first_size}
use Rattle.hayro_jbig2.specs.declared.jbig2_error.Jbig2Error.{Jbig2Error}
use Rattle.hayro_jbig2.specs.declared.jbig2_error.Jbig2Error.TheVariants.{Io, Decode}

-- the grid of a stream of a PDF file, with its globals if it has some
abbrev pub grid_of_stream : Option (List ℕ) → List ℕ → Result Grid DecodeError
grid_of_stream globals stream =
    option_map_or (λ bytes. names_of (globals_at Lenient bytes)) globals (Ok no_names)
    >>= λ names. page_from Lenient names stream >>= λ page. grid_of_page page

-- a byte for each pixel of the page at an index of a file
abbrev pub image_at : List ℕ → ℕ → Result (List ℕ) DecodeError
image_at bytes index = book_at Lenient bytes >>= λ book. some_or (Format MissingPageInfo) (page_of book index) >>= λ page. image_of_page page

-- The picture of a file's first page, unless the reader failed or memory ran out.
abbrev pub ShowsFirstPage : {P : Type 0} → (P → (ℕ × ℕ) × List ℕ) → List ℕ → Result P Jbig2Error → Type 0
ShowsFirstPage view bytes (Ok picture) = (first_size bytes ≡ Ok (view picture).0) × (first_image bytes ≡ Ok (view picture).1)
ShowsFirstPage view bytes (Err (Io e)) = Unit {0}
ShowsFirstPage view bytes (Err (Decode e)) = (e ≡ OutOfMemory) ⊎ (first_image bytes ≡ Err e)
