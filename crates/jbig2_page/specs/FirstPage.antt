-- What a viewer shows of a file (our own rule): the first page, read leniently.
use Rattle.std.specs.Prelude.{List, Ok, Result, ℕ}
use Rattle.jbig2_base.specs.Results.{some_or, ◌>>=◌}
use Rattle.jbig2_base.specs.declared.error.FormatError.TheVariants.{MissingPageInfo}
use Rattle.jbig2_base.specs.declared.error.DecodeError.TheVariants.{Format}
use Rattle.jbig2_base.specs.declared.error.DecodeError.{DecodeError}
use Rattle.jbig2_framing.specs.declared.reading.Reading.TheVariants.{Lenient}
use Rattle.jbig2_page.specs.Files.{book_at, page_of}
use Rattle.jbig2_page.specs.Page.{ReadPage}
use Rattle.jbig2_page.specs.Image.{image_of_page, packed_of_page}

unfoldable pub first_page : List ℕ → Result ReadPage DecodeError  -- a file without pages has no page information
first_page bytes = book_at Lenient bytes >>= λ book. some_or (Format MissingPageInfo) (page_of book 0)

abbrev pub first_size : List ℕ → Result (ℕ × ℕ) DecodeError
first_size bytes = first_page bytes >>= λ page. Ok (page.initial_page.width, page.initial_page.height)

abbrev pub first_image : List ℕ → Result (List ℕ) DecodeError
first_image bytes = first_page bytes >>= λ page. image_of_page page

abbrev pub first_packed : List ℕ → Result (List ℕ) DecodeError
first_packed bytes = first_page bytes >>= λ page. packed_of_page page
