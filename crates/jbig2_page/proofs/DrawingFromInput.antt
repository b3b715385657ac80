-- No definition gives an error that bytes cannot bring about: the law that a contract names.
use Rattle.std.proofs.Common.{◌≡◌, ◌⊎◌, inl, inr, ℕ, List, Result, Ok, Err, sym, subst, arith}
use Rattle.std.proofs.lemmas.Result.{IfErr-at_err}
use Rattle.std.specs.Prelude.{IfErr, IfOk}
use Rattle.jbig2_base.specs.Results.{Gives}
use Rattle.jbig2_base.specs.Grid.{Grid}
use Rattle.jbig2_framing.specs.Segment.{SegmentView}
use Rattle.jbig2_base.specs.declared.error.DecodeError.{DecodeError}
use Rattle.jbig2_base.specs.declared.error.DecodeError.TheVariants as errors
use Rattle.jbig2_base.specs.declared.error.HuffmanError.TheVariants.{ConflictingCodes}
use Rattle.jbig2_base.specs.declared.error.OverflowError.TheVariants.{Index}
use Rattle.jbig2_base.specs.declared.error.TemplateError.TheVariants.{Invalid}
use Rattle.jbig2_framing.specs.declared.reading.Reading.{Reading}
use Rattle.jbig2_base.proofs.FromInput as base
use Rattle.jbig2_page.specs.Causes.{ErrorsAreFromInput, IsFromInput}
use Rattle.jbig2_page.specs.Calls.{Conduct, Decodes}
use Rattle.jbig2_page.specs.Files.{PageInFile, ReadFile, book_at, shared_by}
use Rattle.jbig2_page.specs.Image.{image_of_page}
use Rattle.jbig2_page.specs.Page.{Drawing, ReadPage, drawing_of_page, grid_of_page}
use Rattle.jbig2_page.specs.Returned.{IsReturned}
use Rattle.jbig2_page.proofs.FromInput.{from_input-book, from_input-book_globals, from_input-drawing, from_input-embedded, from_input-globals, from_input-grid, from_input-shared}

same : (e : DecodeError) → base.IsFromInput e → IsFromInput e
same errors.OutOfMemory never = never
same (errors.Huffman ConflictingCodes) never = never
same (errors.Template Invalid) never = never
same (errors.Overflow Index) never = never
same _ is = tt

back : (e : DecodeError) → IsFromInput e → base.IsFromInput e
back errors.OutOfMemory never = never
back (errors.Huffman ConflictingCodes) never = never
back (errors.Template Invalid) never = never
back (errors.Overflow Index) never = never
back _ is = tt

of-result : {X : Type 0} (r : Result X DecodeError) → base.FromInput r → IfErr r IsFromInput
of-result (Ok x) is = tt
of-result (Err e) is = same e is

to-result : {X : Type 0} (r : Result X DecodeError) → IfErr r IsFromInput → base.FromInput r
to-result (Ok x) is = tt
to-result (Err e) is = back e is

of-book : (book : Result ReadFile DecodeError) → IfOk book (λ b. base.FromInput b.globals) → IfOk book (λ b. IfErr b.globals IsFromInput)
of-book (Ok book) is = of-result book.globals is
of-book (Err e) is = tt

drawing_from_input : (page : ReadPage) → IfErr page.globals IsFromInput → base.FromInput (drawing_of_page page)
drawing_from_input page is = from_input-drawing page (to-result page.globals is)

pub errors_are_from_input : ErrorsAreFromInput
errors_are_from_input = record {
  globals = λ reading bytes. of-result _ (from_input-globals reading bytes);
  page = λ reading globals bytes. of-result _ (from_input-embedded reading globals bytes);
  file = λ reading bytes. of-result _ (from_input-book reading bytes);
  file_globals = λ reading bytes. of-book (book_at reading bytes) (from_input-book_globals reading bytes);
  drawing = λ page is. of-result _ (drawing_from_input page is);
}

-- ---- what calls return
pub shared_from_input : (reading : Reading) (pages : List PageInFile) (shared : List SegmentView) → IfErr (shared_by reading pages shared) IsFromInput
shared_from_input reading pages shared = of-result _ (from_input-shared reading pages shared)

pub returned_error : {Y : Type 0} (meant : Result Y DecodeError) (e : DecodeError) → base.FromInput meant → (e ≡ errors.OutOfMemory) ⊎ (meant ≡ Err e) → IsReturned e
returned_error meant e is (inl memory) = inl memory
returned_error meant e is (inr refused) = inr (IfErr-at_err IsFromInput refused (of-result meant is))

-- a result of a call that meets a definition
pub returned : {X Y : Type 0} (view : X → Y) (r : Result X DecodeError) (meant : Result Y DecodeError) → base.FromInput meant → Gives view r meant → IfErr r IsReturned
returned view (Ok x) meant is gives = tt
returned view (Err e) meant is gives = returned_error meant e is gives

-- what is drawn of a page
pub drawn-returned : {X : Type 0} (d : X → Drawing) (r : Result X DecodeError) (page : ReadPage) → IfErr page.globals IsFromInput → Gives d r (drawing_of_page page) → IfErr r IsReturned
drawn-returned d r page is gives = returned d r (drawing_of_page page) (drawing_from_input page is) gives

pub grid-returned : (page : ReadPage) (e : DecodeError) → IfErr page.globals IsFromInput → (e ≡ errors.OutOfMemory) ⊎ (grid_of_page page ≡ Err e) → IsReturned e
grid-returned page e is refused = returned_error (grid_of_page page) e (from_input-grid page (to-result page.globals is)) refused

pub image-returned : {X : Type 0} (image : X → List ℕ) (r : Result X DecodeError) (page : ReadPage) → IfErr page.globals IsFromInput → Gives image r (image_of_page page) → IfErr r IsReturned
image-returned image r page is gives =
    returned image r (image_of_page page) (base.from_input-next (grid_of_page page) _ (from_input-grid page (to-result page.globals is)) (λ g. tt)) gives

-- what decoding a page returns where the Decoder refused no call
pub decoded-returned : {S : Type 0} (c : Conduct S) (page : ReadPage) (r : Result (Unit {0}) DecodeError) (old new : S) → IfErr page.globals IsFromInput → Decodes c (grid_of_page page) r old new → c.refusals new ≡ c.refusals old → IfErr r IsReturned
decoded-returned {S} c page r old new is decodes none = by (grid_of_page page) r (from_input-grid page (to-result page.globals is)) decodes
  where
    by : (meant : Result Grid DecodeError) (r : Result (Unit {0}) DecodeError) → base.FromInput meant → Decodes c meant r old new → IfErr r IsReturned
    by (Ok g) (Ok u) from_input decodes = tt
    by (Ok g) (Err e) from_input (inl stopped) = absurd (let one = stopped.counted in omega (arith, one, none))
    by (Ok g) (Err e) from_input (inr memory) = inl memory.0
    by (Err f) (Ok u) from_input decodes = absurd decodes
    by (Err f) (Err e) from_input (inl given, made) = inr (subst IsFromInput (sym given) (same f from_input))
    by (Err f) (Err e) from_input (inr memory, made) = inl memory
