-- Salvage refuses little: neither globals, nor lists of segments, nor what a page draws.
use Rattle.std.proofs.Common.{◌≡◌, ℕ, zero, suc, eqb, true, false, List, [], ◌∷◌, length, Option, Some, None, Result, Ok, Err, refl, arith}
use Rattle.std.proofs.lemmas.Bool.{cond_both, le-ltb, ne_eqb}
use Rattle.std.specs.Prelude.{IsTrue}
use Rattle.std.specs.Result.{is_ok}
use Rattle.jbig2_base.specs.Results.{◌>>=◌}
use Rattle.jbig2_framing.specs.File.{file_at, file_header_at, with_data, gathered_before, header_goes_on, headers_in, segments_by}
use Rattle.jbig2_framing.specs.PageInfo.{initial_page_with}
use Rattle.jbig2_framing.specs.CutOff.{sequence_cut_off}
use Rattle.jbig2_framing.specs.Reading.{is_salvaged}
use Rattle.jbig2_framing.specs.Segment.{Header, SegmentView, header_at, segment_at, segment_data_at}
use Rattle.jbig2_framing.specs.Sequential.{by_number, goes_on, is_end_of_file, segments_in, sequential}
use Rattle.jbig2_base.specs.declared.error.DecodeError.{DecodeError}
use Rattle.jbig2_base.specs.declared.error.DecodeError.TheVariants as errors
use Rattle.jbig2_framing.specs.declared.file_header.FileOrganization.{FileOrganization}
use Rattle.jbig2_framing.specs.declared.file_header.FileOrganization.TheVariants.{Sequential, RandomAccess}
use Rattle.jbig2_framing.specs.declared.page_info.PageInformation.{PageInformation}
use Rattle.jbig2_framing.specs.declared.reading.Reading.TheVariants.{Salvage}
use Rattle.jbig2_base.proofs.FromInput.{FromInput, IsFromInput}
use Rattle.jbig2_framing.proofs.FromInput.{from_input-header, from_input-segment, from_input-segment_data}
use Rattle.jbig2_page.specs.Files.{PageInFile, association_check, book_at, by_pages, before_pages, pages_in_file, page_in_file, segments_at, shared_by}
use Rattle.jbig2_page.specs.Lenient.{HasBeginning}
use Rattle.jbig2_page.specs.Names.{Names, kept_by, no_names}
use Rattle.jbig2_page.specs.Page.{Drawing, IsSide, beginning_of, ends_page, strict_fault, or_left_out, or_told, segment_by, segment_on, segments_drawn}
use Rattle.jbig2_page.proofs.FromInput.{from_input-filed, from_input-kept, from_input-segment_by}
use Rattle.jbig2_page.specs.PassedOver.{fault_of, with_passed}
use Rattle.jbig2_page.specs.Globals.{globals_at, KeptGlobals, nothing_shared, or_shared_without, shared_from}

-- each error that bytes can bring about is left out
pub left-out : (e : DecodeError) → IsFromInput e → is_salvaged Salvage e ≡ true
left-out errors.OutOfMemory never = absurd never
left-out _ is = refl

abbrev pub IsFine : {A : Type 0} → Result A DecodeError → Type 0
IsFine r = IsTrue (is_ok r)

pub fine-next : {A B : Type 0} (r : Result A DecodeError) (next : A → Result B DecodeError) → IsFine r → ((x : A) → IsFine (next x)) → IsFine (r >>= next)
fine-next (Ok x) next is each = each x
fine-next (Err e) next is each = is

pub fine-over : {A B C : Type 0} (r : Result A DecodeError) (f : A → B) (next : B → Result C DecodeError) → IsFine r → ((x : A) → IsFine (next (f x))) → IsFine ((r >>= λ x. let s : Result B DecodeError = Ok (f x) in s) >>= next)
fine-over (Ok x) f next is each = each x
fine-over (Err e) f next is each = absurd (cc)

-- ---- lists
fine-on : (r : Result (SegmentView × List ℕ) DecodeError) (others : List ℕ → Result (List SegmentView) DecodeError) → FromInput r → ((bytes : List ℕ) → IsFine (others bytes)) → IsFine (goes_on Salvage r others)
fine-on (Ok x) others is rest =
    cond_both (is_end_of_file x.0.header.segment_type) (Ok (x.0 ∷ [])) (others x.1 >>= λ ps. Ok (x.0 ∷ ps)) (λ (r : Result (List SegmentView) DecodeError). IsFine r) (λ last. refl) (λ goes. fine-next (others x.1) _ (rest x.1) (λ ps. refl))
fine-on (Err e) others is rest = rw (left-out e is) refl

fine-segments : (most : ℕ) (bytes : List ℕ) → IsFine (segments_in most Salvage bytes)
unfolding segments_in
fine-segments zero bytes = refl
fine-segments (suc most) bytes =
    cond_both (eqb (length bytes) 0) (Ok []) (goes_on Salvage (segment_at false bytes) (segments_in most Salvage)) (λ (r : Result (List SegmentView) DecodeError). IsFine r) (λ none. refl)
    (λ some. fine-on (segment_at false bytes) (segments_in most Salvage) (from_input-segment false bytes) (fine-segments most))

pub fine-sequential : (bytes : List ℕ) → IsFine (sequential Salvage bytes)
fine-sequential bytes = fine-segments (length bytes) bytes

fine-header-on : (bytes : List ℕ) (r : Result (Header × List ℕ) DecodeError) (others : List ℕ → Result (List Header × List ℕ) DecodeError) → FromInput r → ((rest : List ℕ) → IsFine (others rest)) → IsFine (header_goes_on Salvage bytes r others)
fine-header-on bytes (Ok h) others is rest =
    cond_both (is_end_of_file h.0.segment_type) (Ok (h.0 ∷ [], h.1)) (others h.1 >>= λ hs. Ok (h.0 ∷ hs.0, hs.1)) (λ (r : Result (List Header × List ℕ) DecodeError). IsFine r) (λ last. refl) (λ goes. fine-next (others h.1) _ (rest h.1) (λ hs. refl))
fine-header-on bytes (Err e) others is rest = rw (left-out e is) refl

fine-headers : (most : ℕ) (bytes : List ℕ) → IsFine (headers_in most Salvage bytes)
unfolding headers_in
fine-headers zero bytes = refl
fine-headers (suc most) bytes =
    cond_both (eqb (length bytes) 0) (Ok ([], bytes)) (header_goes_on Salvage bytes (header_at false bytes) (headers_in most Salvage)) (λ (r : Result (List Header × List ℕ) DecodeError). IsFine r) (λ none. refl)
    (λ some. fine-header-on bytes (header_at false bytes) (headers_in most Salvage) (from_input-header false bytes) (fine-headers most))

fine-before : (r : Result (SegmentView × List ℕ) DecodeError) (others : List ℕ → Result (List SegmentView) DecodeError) → FromInput r → ((rest : List ℕ) → IsFine (others rest)) → IsFine (gathered_before Salvage r others)
fine-before (Ok p) others is rest = fine-next (others p.1) _ (rest p.1) (λ ps. refl)
fine-before (Err e) others is rest = rw (left-out e is) refl

fine-gathered : (hs : List Header) (bytes : List ℕ) → IsFine (with_data Salvage hs bytes)
fine-gathered [] bytes = refl
fine-gathered (h ∷ hs) bytes = fine-before (segment_data_at h bytes) (with_data Salvage hs) (from_input-segment_data h bytes) (fine-gathered hs)

pub fine-by : (organization : FileOrganization) (bytes : List ℕ) → IsFine (segments_by organization Salvage bytes)
fine-by Sequential bytes = fine-sequential bytes
fine-by RandomAccess bytes = fine-next (headers_in (length bytes) Salvage bytes) _ (fine-headers (length bytes) bytes) (λ hs. fine-gathered hs.0 hs.1)

-- ---- globals
fine-without : (fault : Option DecodeError) (number : ℕ) (shared : KeptGlobals) (r : Result Names DecodeError) → FromInput r → IsFine (or_shared_without Salvage fault number shared r)
fine-without fault number shared (Ok names) is = refl
fine-without fault number shared (Err e) is = rw (left-out e is) refl

pub fine-named : (ps : List SegmentView) (shared : KeptGlobals) → IsFine (shared_from Salvage ps shared)
fine-named [] shared = refl
fine-named (p ∷ ps) shared =
    let kept : Result Names DecodeError = kept_by false no_names p shared.names in
    let fault : Option DecodeError = fault_of (kept_by true no_names p shared.names) in
    fine-next (or_shared_without Salvage fault p.header.segment_number shared kept) _ (fine-without fault p.header.segment_number shared kept (from_input-kept false no_names p shared.names)) (λ more. fine-named ps more)

pub fine-globals : (bytes : List ℕ) → IsFine (globals_at Salvage bytes)
unfolding globals_at
fine-globals bytes =
    fine-over (sequential Salvage bytes) _ _ (fine-sequential bytes) (λ ps. fine-named (by_number ps) (nothing_shared (sequence_cut_off Salvage bytes)))

-- ---- pages
fine-left : (p : SegmentView) (d : Drawing) (r : Result Drawing DecodeError) → FromInput r → IsFine (or_left_out Salvage p d r)
fine-left p d (Ok e) is = refl
fine-left p d (Err e) is = rw (left-out e is) refl

fine-told : (fault : Option DecodeError) (number : ℕ) (d : Drawing) (r : Result Drawing DecodeError) → IsFine r → IsFine (or_told fault number d r)
fine-told None number d r is = is
fine-told (Some fault) number d (Ok e) is = cond_both (eqb e.passed_over.count d.passed_over.count) (Ok (record e { passed_over = with_passed (Some number) fault e.passed_over })) (Ok e) (λ (r : Result Drawing DecodeError). IsFine r) (λ same. refl) (λ other. refl)
fine-told (Some fault) number d (Err e) is = is

pub fine-drawn : (globals : Names) (ps : List SegmentView) (d : Drawing) → IsFine (segments_drawn Salvage globals ps d)
fine-drawn globals [] d = refl
fine-drawn globals (p ∷ ps) d =
    cond_both (ends_page p.header.segment_type) (Ok d) (segment_on Salvage globals p d >>= λ e. segments_drawn Salvage globals ps e) (λ (r : Result Drawing DecodeError). IsFine r) (λ ends. refl)
    (λ goes. fine-next (segment_on Salvage globals p d) _ (fine-told (strict_fault globals p d) p.header.segment_number d (or_left_out Salvage p d (segment_by false globals p d)) (fine-left p d (segment_by false globals p d) (from_input-segment_by false globals p d))) (λ e. fine-drawn globals ps e))

-- ---- files
fine-filed : (all : List (List SegmentView)) → IsFine (pages_in_file Salvage all)
fine-filed [] = refl
fine-filed (own ∷ others) = before (page_in_file Salvage own) (pages_in_file Salvage others) (from_input-filed Salvage own) (fine-filed others)
  where
    before : (r : Result PageInFile DecodeError) (rest : Result (List PageInFile) DecodeError) → FromInput r → IsFine rest → IsFine (before_pages Salvage r rest)
    before (Ok page) rest is fine = fine-next rest _ fine (λ pages. refl)
    before (Err e) rest is fine = rw (left-out e is) fine

associated-fine : (ps : List SegmentView) → IsFine (association_check false ps)
associated-fine [] = refl
associated-fine (p ∷ ps) = associated-fine ps

pub fine-book : (bytes : List ℕ) → IsFine (segments_at Salvage bytes) → IsFine (book_at Salvage bytes)
unfolding book_at
fine-book bytes read =
    fine-next (segments_at Salvage bytes) _ read (λ file. fine-next (association_check false file.1) _ (associated-fine file.1) (λ known. fine-next (pages_in_file Salvage (by_pages file.1)) _ (fine-filed (by_pages file.1)) (λ pages. refl)))

pub fine-file : (bytes : List ℕ) → IsFine (file_header_at bytes) → IsFine (file_at Salvage bytes)
unfolding file_at
fine-file bytes read = fine-next (file_header_at bytes) _ read (λ header. fine-next (segments_by header.0.organization Salvage header.1) _ (fine-by header.0.organization header.1) (λ ps. refl))

pub fine-segments_at : (bytes : List ℕ) → IsFine (file_at Salvage bytes) → IsFine (segments_at Salvage bytes)
unfolding segments_at
fine-segments_at bytes read = fine-next (file_at Salvage bytes) _ read (λ file. refl)

-- globals of a file that was read in salvage
pub fine-shared : (pages : List PageInFile) (shared : List SegmentView) → IsFine (shared_by Salvage pages shared)
fine-shared [] shared = refl
fine-shared (page ∷ pages) shared = fine-named shared (nothing_shared None)

-- ---- pages that have a beginning
pub fine-beginning : (ps : List SegmentView) → HasBeginning ps → IsFine (beginning_of Salvage ps)
unfolding beginning_of
fine-beginning ps has = rw (has.first, has.read, has.height_is) (sized has.information.header.page_association has.fields.0 has.height has.columns has.rows)
  where
    sized : (number : ℕ) (info : PageInformation) (height : ℕ) → IsSide info.width → IsSide height → IsFine (initial_page_with number info height)
    sized number info height columns rows =
        rw (ne_eqb info.width 0 (λ is. omega (arith, columns.0, is)), ne_eqb height 0 (λ is. omega (arith, rows.0, is)), le-ltb 65535 info.width columns.1, le-ltb 65535 height rows.1) refl
