-- Which rule is broken where a file is refused.
use Rattle.std.proofs.Common.{◌≡◌, ◌≢◌, ◌⊎◌, ℕ, suc, Bool, true, false, not, ◌&&◌, ◌==◌, List, [], ◌∷◌, length, slice_get, inl, inr, Option, Some, None, Result, Ok, Err, refl, sym, ◌∙◌, arith}
use Rattle.std.proofs.lemmas.Bool.{and_parts, eq-eqb, eqb-true, false≢true, not-true}
use Rattle.std.specs.Prelude.{Any, IfErr, IsTrue, option_map}
use Rattle.jbig2_base.specs.Results.{refuse_if, some_or}
use Rattle.jbig2_framing.specs.PageInfo.{initial_page_of}
use Rattle.jbig2_framing.specs.Reading.{is_salvaged, is_strict}
use Rattle.jbig2_framing.specs.Segment.{SegmentView}
use Rattle.jbig2_base.specs.Causes.{HasCause, HasCauseOrNoMemory}
use Rattle.jbig2_framing.specs.Causes.{BreaksFileHeader, BreaksInitialPage}
use Rattle.jbig2_framing.specs.File.{file_at, file_header_at, segments_by}
use Rattle.jbig2_base.specs.declared.error.DecodeError.{DecodeError}
use Rattle.jbig2_base.specs.declared.error.DecodeError.TheVariants as errors
use Rattle.jbig2_base.specs.declared.error.FormatError.TheVariants as formats
use Rattle.jbig2_base.specs.declared.error.ParseError.TheVariants.{UnexpectedEof}
use Rattle.jbig2_base.specs.declared.error.SegmentError.TheVariants as segments
use Rattle.jbig2_framing.specs.declared.file_header.FileHeader.{FileHeader}
use Rattle.jbig2_framing.specs.declared.reading.Reading.{Reading}
use Rattle.jbig2_framing.specs.declared.reading.Reading.TheVariants as readings
use Rattle.jbig2_base.proofs.FromInput.{IsFromInput}
use Rattle.jbig2_base.proofs.CauseSteps.{call-cause, call-cause-or-memory}
use Rattle.jbig2_base.proofs.Causes.{cause-next, cause-refused}
use Rattle.jbig2_framing.proofs.FileHeaderCauses.{file_header_cause}
use Rattle.jbig2_framing.proofs.InitialCauses.{initial_page_causes}
use Rattle.jbig2_region.proofs.ResultCauses.{cause-if, cause-more}
use Rattle.jbig2_framing.specs.ByteCauses.{BreaksSegments}
use Rattle.jbig2_page.specs.Causes.{BreaksBook, BreaksFirstPage, BreaksPages}
use Rattle.jbig2_page.specs.Files.{PageInFile, ReadFile, association_check, book_at, by_pages, ends_of, before_pages, pages_in_file, page_in_file, lacks_page, miscounts, needs_page, page_in, page_of, segments_at}
use Rattle.jbig2_page.specs.Page.{ReadPage, beginning_of}
use Rattle.jbig2_framing.proofs.ByteCauses.{in-segments}
use Rattle.jbig2_base.proofs.ErrorSteps.{Refused, itself, more, refused-by, step, with-memory, without-memory}
use Rattle.jbig2_page.proofs.FromInput.{from_input-beginning, from_input-book}
use Rattle.jbig2_page.proofs.Salvaging.{left-out}

-- ---- places
pub at-first : {X : Type 0} (P : X → Type 0) (x : X) (xs : List X) → P x → Any P (x ∷ xs)
at-first P x xs is = (0, x, omega arith, refl, is)

pub at-later : {X : Type 0} (P : X → Type 0) (x : X) (xs : List X) → Any P xs → Any P (x ∷ xs)
at-later P x xs some = (suc some.0, some.1, omega (arith, some.2), some.3, some.4)

pub differ : (m n : ℕ) → not (m == n) ≡ true → m ≢ n
differ m n apart same = false≢true (sym (not-true (m == n) apart) ∙ eq-eqb m n same)

-- ---- associations and counts
abbrev IsOutside : SegmentView → Type 0
IsOutside p = (p.header.page_association ≡ 0) × IsTrue (needs_page p.header.segment_type)

associated-cause : (P : DecodeError → Type 0) (strict : Bool) (ps : List SegmentView)
    → (IsTrue strict → Any IsOutside ps → P (errors.Segment segments.MissingPageAssociation)) → IfErr (association_check strict ps) P
associated-cause P strict [] why = tt
associated-cause P strict (p ∷ ps) why =
    cause-if P (lacks_page strict p.header) (Err (errors.Segment segments.MissingPageAssociation)) (association_check strict ps)
    (λ lacks.
    let both = and_parts (strict && p.header.page_association == 0) (needs_page p.header.segment_type) lacks in
    let outside = and_parts strict (p.header.page_association == 0) both.0 in
    why outside.0 (at-first IsOutside p ps (eqb-true p.header.page_association 0 outside.1, both.1)))
    (λ has_page. associated-cause P strict ps (λ is some. why is (at-later IsOutside p ps some)))

miscounted : (count : Option ℕ) (n : ℕ) → miscounts count n ≡ true → (t : ℕ) × (count ≡ Some t) × (t ≢ n)
miscounted None n wrong = absurd (false≢true wrong)
miscounted (Some t) n wrong = (t, refl, differ t n wrong)

-- ---- each page
-- a page of strict or lenient reading begins as its stripes have it
begins-cause : (P : DecodeError → Type 0) (reading : Reading) (own : List SegmentView)
    → ((e : DecodeError) → is_salvaged reading e ≡ false → BreaksInitialPage own e → P e) → IfErr (beginning_of reading own) (λ e. is_salvaged reading e ≡ false → P e)
unfolding beginning_of initial_page_of
begins-cause P readings.Strict own begins =
    cause-more (BreaksInitialPage own) (λ e. is_salvaged readings.Strict e ≡ false → P e) (initial_page_of own) (initial_page_causes own) (λ e broken kept. begins e kept broken)
begins-cause P readings.Lenient own begins =
    cause-more (BreaksInitialPage own) (λ e. is_salvaged readings.Lenient e ≡ false → P e) (initial_page_of own) (initial_page_causes own) (λ e broken kept. begins e kept broken)
begins-cause P readings.Salvage own begins =
    cause-more IsFromInput (λ e. is_salvaged readings.Salvage e ≡ false → P e) (beginning_of readings.Salvage own) (from_input-beginning readings.Salvage own) (λ e from_input kept. absurd (false≢true (sym kept ∙ left-out e from_input)))

filed-cause : (P : DecodeError → Type 0) (reading : Reading) (own : List SegmentView)
    → (IsTrue (is_strict reading) → ends_of own ≢ 1 → P (errors.Format formats.InvalidEndOfPage))
    → ((e : DecodeError) → is_salvaged reading e ≡ false → BreaksInitialPage own e → P e) → IfErr (page_in_file reading own) (λ e. is_salvaged reading e ≡ false → P e)
unfolding page_in_file
filed-cause P reading own ends begins =
    let Kept : DecodeError → Type 0 = λ e. is_salvaged reading e ≡ false → P e in
    let wrong : Bool = is_strict reading && not (ends_of own == 1) in
    cause-next Kept (refuse_if wrong (errors.Format formats.InvalidEndOfPage)) _ (cause-refused Kept wrong (errors.Format formats.InvalidEndOfPage) (λ is kept.
    let both = and_parts (is_strict reading) (not (ends_of own == 1)) is in
    ends both.0 (differ (ends_of own) 1 both.1))) (λ ended ended_is.
    cause-next Kept (beginning_of reading own) _ (begins-cause P reading own begins) (λ page page_is. tt))

-- a page before the others
before-cause : (P : DecodeError → Type 0) (reading : Reading) (r : Result PageInFile DecodeError) (others : Result (List PageInFile) DecodeError) → IfErr r (λ e. is_salvaged reading e ≡ false → P e) → IfErr others P → IfErr (before_pages reading r others) P
before-cause P reading (Ok page) others first rest = cause-next P others _ rest (λ pages pages_is. tt)
before-cause P reading (Err e) others first rest = cause-if P (is_salvaged reading e) others (Err e) (λ left. rest) (λ kept. first kept)

each-cause : (P : DecodeError → Type 0) (reading : Reading) (all : List (List SegmentView))
    → (IsTrue (is_strict reading) → Any (λ own. ends_of own ≢ 1) all → P (errors.Format formats.InvalidEndOfPage))
    → ((e : DecodeError) → is_salvaged reading e ≡ false → Any (λ own. BreaksInitialPage own e) all → P e) → IfErr (pages_in_file reading all) P
each-cause P reading [] ends begins = tt
each-cause P reading (own ∷ others) ends begins =
    let Ends : List SegmentView → Type 0 = λ page. ends_of page ≢ 1 in
    before-cause P reading (page_in_file reading own) (pages_in_file reading others)
    (filed-cause P reading own (λ is wrong. ends is (at-first Ends own others wrong)) (λ e kept broken. begins e kept (at-first (λ page. BreaksInitialPage page e) own others broken)))
    (each-cause P reading others (λ is some. ends is (at-later Ends own others some)) (λ e kept some. begins e kept (at-later (λ page. BreaksInitialPage page e) own others some)))

-- ---- files
-- what a page begins as breaks none of the rules on all the pages
page-begins : (reading : Reading) (h : FileHeader) (ps : List SegmentView) (e : DecodeError) → is_salvaged reading e ≡ false → Any (λ own. BreaksInitialPage own e) (by_pages ps) → BreaksPages reading h ps e
page-begins reading h ps (errors.Parse UnexpectedEof) kept some = (kept, some)
page-begins reading h ps (errors.Format formats.InvalidHeader) kept some = (kept, some)
page-begins reading h ps (errors.Format formats.ReservedBits) kept some = (kept, some)
page-begins reading h ps (errors.Format formats.MissingPageInfo) kept some = (kept, some)
page-begins reading h ps (errors.Format formats.UnknownPageHeight) kept some = (kept, some)
page-begins reading h ps (errors.Format formats.EmptyPage) kept some = (kept, some)
page-begins reading h ps (errors.Format formats.PageCountMismatch) kept some = absurd some.4
page-begins reading h ps (errors.Format formats.InvalidEndOfPage) kept some = absurd some.4
page-begins reading h ps (errors.Segment segments.UnknownType) kept some = (kept, some)
page-begins reading h ps (errors.Segment segments.InvalidReferredCount) kept some = (kept, some)
page-begins reading h ps (errors.Segment segments.InvalidReference) kept some = (kept, some)
page-begins reading h ps (errors.Segment segments.InvalidUnknownLength) kept some = (kept, some)
page-begins reading h ps (errors.Segment segments.MissingEndMarker) kept some = (kept, some)
page-begins reading h ps (errors.Segment segments.MissingPatternDictionary) kept some = (kept, some)
page-begins reading h ps (errors.Segment segments.MissingPageAssociation) kept some = absurd some.4
page-begins reading h ps (errors.Huffman e) kept some = (kept, some)
page-begins reading h ps (errors.Region e) kept some = (kept, some)
page-begins reading h ps (errors.Template e) kept some = (kept, some)
page-begins reading h ps (errors.Symbol e) kept some = (kept, some)
page-begins reading h ps (errors.Overflow e) kept some = (kept, some)
page-begins reading h ps errors.Unsupported kept some = (kept, some)
page-begins reading h ps errors.OutOfMemory kept some = (kept, some)

file-header : (bytes : List ℕ) → Refused (file_header_at bytes) (BreaksFileHeader bytes)
file-header bytes = refused-by (BreaksFileHeader bytes) (file_header_at bytes) (file_header_cause bytes (file_header_at bytes) (itself (file_header_at bytes)))

file-segments : (reading : Reading) (bytes : List ℕ) → Refused (segments_at reading bytes) (BreaksBook reading bytes)
unfolding segments_at file_at
file-segments reading bytes =
    let P : DecodeError → Type 0 = BreaksBook reading bytes in
    step P P (file_at reading bytes) _
    (step (BreaksFileHeader bytes) P (file_header_at bytes) _ (file-header bytes) (λ e no. inl no) (λ h h_is.
    step (BreaksSegments h.0.organization reading h.1) P (segments_by h.0.organization reading h.1) _ (in-segments reading h.0.organization h.1) (λ e no. inr (inl (h, h_is, no))) (λ ps is. tt)))
    (λ e no. no) (λ file is. tt)

file-refused : (reading : Reading) (bytes : List ℕ) → Refused (book_at reading bytes) (BreaksBook reading bytes)
unfolding book_at
file-refused reading bytes =
    step (BreaksBook reading bytes) (BreaksBook reading bytes) (segments_at reading bytes) _ (file-segments reading bytes) (λ e no. no) (λ file file_is.
    let P : DecodeError → Type 0 = BreaksPages reading file.0 file.1 in
    let wrong : Bool = miscounts file.0.number_of_pages (length (by_pages file.1)) in
    more P (BreaksBook reading bytes) _ (with-memory P _
    (cause-next P (association_check (is_strict reading) file.1) _ (associated-cause P (is_strict reading) file.1 (λ is some. (is, some))) (λ known known_is.
    cause-next P (refuse_if (is_strict reading && wrong) (errors.Format formats.PageCountMismatch)) _ (cause-refused P (is_strict reading && wrong) (errors.Format formats.PageCountMismatch) (λ both.
    let parts = and_parts (is_strict reading) wrong both in
    let count = miscounted file.0.number_of_pages (length (by_pages file.1)) parts.1 in
    (parts.0, count.0, count.1, count.2))) (λ counted counted_is.
    cause-next P (pages_in_file reading (by_pages file.1)) _ (each-cause P reading (by_pages file.1) (λ is some. (is, some)) (page-begins reading file.0 file.1)) (λ pages pages_is. tt)))))
    (λ e no. inr (inr (file, file_is, no))))

pub file_causes : (reading : Reading) (bytes : List ℕ) → IfErr (book_at reading bytes) (BreaksBook reading bytes)
file_causes reading bytes = without-memory (BreaksBook reading bytes) (book_at reading bytes) (file-refused reading bytes) (from_input-book reading bytes)

pub file_cause : {X : Type 0} (reading : Reading) (bytes : List ℕ) (r : Result X DecodeError) → IfErr r (λ e. (e ≡ errors.OutOfMemory) ⊎ (book_at reading bytes ≡ Err e)) → HasCauseOrNoMemory r (BreaksBook reading bytes)
file_cause reading bytes r = call-cause-or-memory (BreaksBook reading bytes) (book_at reading bytes) r (file_causes reading bytes)

-- ---- the first page
no-page : {X Y : Type 0} (f : X → Y) (xs : List X) → option_map f (slice_get xs 0) ≡ None → xs ≡ []
no-page f [] is = refl
no-page f (x ∷ xs) is = absurd (cc)

some-page : (book : ReadFile) (o : Option ReadPage) → (o ≡ None → book.pages ≡ []) → IfErr (some_or (errors.Format formats.MissingPageInfo) o) (BreaksFirstPage book)
some-page book (Some page) none = tt
some-page book None none = none refl

pub first_page_cause : {X : Type 0} (book : ReadFile) (r : Result X DecodeError) → IfErr r (λ e. some_or (errors.Format formats.MissingPageInfo) (page_of book 0) ≡ Err e) → HasCause r (BreaksFirstPage book)
first_page_cause book r =
    call-cause (BreaksFirstPage book) (some_or (errors.Format formats.MissingPageInfo) (page_of book 0)) r (some-page book (page_of book 0) (no-page (page_in book) book.pages))
