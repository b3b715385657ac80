-- The two forms in which a page is written as bytes (our own rule).
use Rattle.std.specs.Prelude.{ℕ, ◌*◌, List, Result}
use Rattle.jbig2_base.specs.declared.error.DecodeError.{DecodeError}
use Rattle.jbig2_page.specs.Image.{image_of_page, packed_of_page, packed_size}
use Rattle.jbig2_page.specs.Page.{ReadPage}
use Rattle.jbig2_page.specs.declared.page.form.Form.{Form}
use Rattle.jbig2_page.specs.declared.page.form.Form.TheVariants.{Image, Packed}

abbrev pub size_in : Form → ℕ → ℕ → ℕ  -- the number of bytes of a page of this width and height
size_in Image width height = width * height
size_in Packed width height = packed_size width height

abbrev pub bytes_of_page : Form → ReadPage → Result (List ℕ) DecodeError
bytes_of_page Image page = image_of_page page
bytes_of_page Packed page = packed_of_page page
