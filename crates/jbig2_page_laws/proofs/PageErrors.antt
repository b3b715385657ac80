-- The errors of globals, pages and files have their causes.
use Rattle.std.proofs.Common.{◌≡◌, ◌⊎◌, inl, inr, ℕ, eqb, Bool, true, false, if◌then◌else◌, List, [], ◌∷◌, ◌++◌, length, Option, None, Some, Result, Ok, Err, refl, sym, ◌∙◌, ap, subst, arith}
use Rattle.std.specs.Prelude.{All, IfErr, IfOk, IsFalse, ◌&&◌}
use Rattle.jbig2_base.specs.Results.{◌>>=◌, refuse_if}
use Rattle.jbig2_base.specs.declared.error.DecodeError.{DecodeError}
use Rattle.jbig2_base.specs.declared.error.DecodeError.TheVariants.{Format}
use Rattle.jbig2_base.specs.declared.error.FormatError.TheVariants.{PageCountMismatch}
use Rattle.jbig2_base.proofs.FromInput.{FromInput}
use Rattle.jbig2_base.specs.Causes.{After}
use Rattle.jbig2_framing.specs.Causes.{BreaksInitialPageBy}
use Rattle.jbig2_framing.specs.CutOff.{sequence_cut_off}
use Rattle.jbig2_framing.specs.PageInfo.{initial_page_by}
use Rattle.jbig2_framing.specs.Reading.{is_salvaged, is_strict}
use Rattle.jbig2_framing.specs.Segment.{SegmentView}
use Rattle.jbig2_framing.specs.Sequential.{sequential, sorted_segments}
use Rattle.jbig2_framing.specs.declared.reading.Reading.{Reading}
use Rattle.jbig2_framing.proofs.InitialCauses.{all-after, initial_page_by_cause}
use Rattle.jbig2_framing.specs.ByteCauses.{BreaksSequence}
use Rattle.jbig2_page.specs.Files.{PageInFile, ReadFile, association_check, book_at, by_pages, miscounts, of_page, pages_in_file, segments_at, shared_by}
use Rattle.jbig2_page.specs.Names.{Names, kept_by, no_names}
use Rattle.jbig2_page.specs.Page.{Drawing, ReadPage, beginning_of, blank_page, drawing_with, ends_page, known_height, or_left_out, or_told, page_from, page_segments, passing, segment_by, segment_on, segments_drawn, strict_fault}
use Rattle.jbig2_framing.proofs.ByteCauses.{in-sequence}
use Rattle.jbig2_page.proofs.Causes.{file_causes}
use Rattle.jbig2_base.proofs.ErrorSteps.{Refused, if-refused, itself, more, refused-by, step, without-memory}
use Rattle.jbig2_page.proofs.FromInput.{from_input-book_globals, from_input-drawing, from_input-embedded, from_input-globals}
use Rattle.jbig2_page.specs.PassedOver.{fault_of}
use Rattle.jbig2_page.specs.Globals.{globals_at, KeptGlobals, nothing_shared, or_shared_without, shared_from}
use Rattle.jbig2_page_laws.specs.PageErrors.{ErrorsHaveCauses, FaultySegment, FaultyShared}
use Rattle.jbig2_page_laws.specs.SegmentErrors.{BreaksKept, BreaksSegment}
use Rattle.jbig2_page_laws.proofs.SegmentErrors.{a-kept, a-segment}

-- ---- a page's segments
told : (P : DecodeError → Type 0) (fault : Option DecodeError) (number : ℕ) (d : Drawing) (r : Result Drawing DecodeError) → Refused r P → Refused (or_told fault number d r) P
told P None number d r is = is
told P (Some fault) number d (Ok e) is = if-refused P (eqb e.passed_over.count d.passed_over.count) _ _ (λ same. tt) (λ other. tt)
told P (Some fault) number d (Err e) is = is

left-out : (P : DecodeError → Type 0) (reading : Reading) (p : SegmentView) (d : Drawing) (r : Result Drawing DecodeError) → Refused r P → Refused (or_left_out reading p d r) P
left-out P reading p d (Ok e) is = tt
left-out P reading p d (Err e) is = if-refused P (is_salvaged reading e) (Ok (passing p e d)) (Err e) (λ left. tt) (λ kept. is)

module _ (reading : Reading) (globals : Names) where
  on-segment : (p : SegmentView) (d : Drawing) → Refused (segment_on reading globals p d) (BreaksSegment (is_strict reading) globals p d)
  on-segment p d =
      let P : DecodeError → Type 0 = BreaksSegment (is_strict reading) globals p d in
      let r = segment_by (is_strict reading) globals p d in
      told P (strict_fault globals p d) p.header.segment_number d (or_left_out reading p d r) (left-out P reading p d r (a-segment (is_strict reading) globals d p))

  abbrev Faulty : List SegmentView → Drawing → DecodeError → Type 0
  Faulty ps d e = FaultySegment reading globals ps d e

  -- the first segment
  this-one : (p : SegmentView) (ps : List SegmentView) (d : Drawing) (e : DecodeError) → ends_page p.header.segment_type ≡ false → BreaksSegment (is_strict reading) globals p d e → Faulty (p ∷ ps) d e
  this-one p ps d e on breaks = record {
    before = [];
    segment = p;
    after = ps;
    drawing = d;
    in_order = refl;
    within_page = all-after (λ q. IsFalse (ends_page q.header.segment_type)) p [] on none;
    drawn = refl;
    breaks = breaks;
  }
    where
      none : All (λ (q : SegmentView). IsFalse (ends_page q.header.segment_type)) []
      none k d below = absurd (omega (arith, below))

  -- a later one, where this one was drawn
  later-one : (p : SegmentView) (ps : List SegmentView) (d next : Drawing) (e : DecodeError) → ends_page p.header.segment_type ≡ false → segment_on reading globals p d ≡ Ok next → Faulty ps next e → Faulty (p ∷ ps) d e
  later-one p ps d next e on is fault = record {
    before = p ∷ fault.before;
    segment = fault.segment;
    after = fault.after;
    drawing = fault.drawing;
    in_order = ap (λ (qs : List SegmentView). p ∷ qs) fault.in_order;
    within_page = all-after (λ q. IsFalse (ends_page q.header.segment_type)) p (fault.before ++ fault.segment ∷ []) on fault.within_page;
    drawn =
        ap (λ (b : Bool). if b then Ok d else (segment_on reading globals p d >>= λ x. segments_drawn reading globals fault.before x)) on
        ∙ ap (λ (z : Result Drawing DecodeError). z >>= λ x. segments_drawn reading globals fault.before x) is
        ∙ fault.drawn;
    breaks = fault.breaks;
  }

  some-segment : (ps : List SegmentView) (d : Drawing) → Refused (segments_drawn reading globals ps d) (Faulty ps d)
  some-segment [] d = tt
  some-segment (p ∷ ps) d =
      let P : DecodeError → Type 0 = Faulty (p ∷ ps) d in
      if-refused P (ends_page p.header.segment_type) (Ok d) _ (λ ends. tt) (λ on.
      step (BreaksSegment (is_strict reading) globals p d) P (segment_on reading globals p d) _ (on-segment p d) (λ e no. this-one p ps d e on no) (λ next is.
      more (Faulty ps next) P (segments_drawn reading globals ps next) (some-segment ps next) (λ e fault. later-one p ps d next e on is fault)))

ok-next : {A B : Type 0} (P : B → Type 0) (r : Result A DecodeError) (next : A → Result B DecodeError) → ((x : A) → r ≡ Ok x → IfOk (next x) P) → IfOk (r >>= next) P
ok-next P (Ok x) next each = each x refl
ok-next P (Err e) next each = tt

-- ---- globals
module _ (reading : Reading) where
  abbrev Shared : List SegmentView → KeptGlobals → DecodeError → Type 0
  Shared ps start e = FaultyShared reading ps start e

  abbrev kept_on : SegmentView → KeptGlobals → Result KeptGlobals DecodeError
  kept_on p shared = or_shared_without reading (fault_of (kept_by true no_names p shared.names)) p.header.segment_number shared (kept_by (is_strict reading) no_names p shared.names)

  left-unshared : (P : DecodeError → Type 0) (fault : Option DecodeError) (number : ℕ) (shared : KeptGlobals) (r : Result Names DecodeError) → Refused r P → Refused (or_shared_without reading fault number shared r) P
  left-unshared P fault number shared (Ok names) is = tt
  left-unshared P fault number shared (Err e) is = if-refused P (is_salvaged reading e) _ (Err e) (λ left. tt) (λ kept. is)

  this-shared : (p : SegmentView) (ps : List SegmentView) (shared : KeptGlobals) (e : DecodeError) → BreaksKept (is_strict reading) shared.names no_names p e → Shared (p ∷ ps) shared e
  this-shared p ps shared e breaks = record { before = []; segment = p; after = ps; shared = shared; in_order = refl; kept = refl; breaks = breaks }

  later-shared : (p : SegmentView) (ps : List SegmentView) (shared next : KeptGlobals) (e : DecodeError) → kept_on p shared ≡ Ok next → Shared ps next e → Shared (p ∷ ps) shared e
  later-shared p ps shared next e is fault = record {
    before = p ∷ fault.before;
    segment = fault.segment;
    after = fault.after;
    shared = fault.shared;
    in_order = ap (λ (qs : List SegmentView). p ∷ qs) fault.in_order;
    kept = ap (λ (z : Result KeptGlobals DecodeError). z >>= λ x. shared_from reading fault.before x) is ∙ fault.kept;
    breaks = fault.breaks;
  }

  some-shared : (ps : List SegmentView) (shared : KeptGlobals) → Refused (shared_from reading ps shared) (Shared ps shared)
  some-shared [] shared = tt
  some-shared (p ∷ ps) shared =
      let P : DecodeError → Type 0 = Shared (p ∷ ps) shared in
      let B : DecodeError → Type 0 = BreaksKept (is_strict reading) shared.names no_names p in
      let r = kept_by (is_strict reading) no_names p shared.names in
      step B P (kept_on p shared) _ (left-unshared B (fault_of (kept_by true no_names p shared.names)) p.header.segment_number shared r (a-kept (is_strict reading) no_names p shared.names))
      (λ e no. this-shared p ps shared e no) (λ next is.
      more (Shared ps next) P (shared_from reading ps next) (some-shared ps next) (λ e fault. later-shared p ps shared next e is fault))

  abbrev Sequence : List ℕ → DecodeError → Type 0
  Sequence bytes e = (k : ℕ) × BreaksSequence k reading bytes e

  listed : (bytes : List ℕ) → Refused (sequential reading bytes) (Sequence bytes)
  listed bytes = in-sequence reading (length bytes) bytes

  abbrev GlobalsCause : List ℕ → DecodeError → Type 0
  GlobalsCause bytes e = ((k : ℕ) × BreaksSequence k reading bytes e) ⊎ After (sorted_segments reading bytes) (λ ps. Shared ps (nothing_shared (sequence_cut_off reading bytes)) e)

  globals-refused : (bytes : List ℕ) → Refused (globals_at reading bytes) (GlobalsCause bytes)
  unfolding globals_at
  globals-refused bytes =
      let P : DecodeError → Type 0 = GlobalsCause bytes in
      step (Sequence bytes) P (sorted_segments reading bytes) _ (step (Sequence bytes) (Sequence bytes) (sequential reading bytes) _ (listed bytes) (λ e no. no) (λ ps is. tt)) (λ e no. inl no) (λ ps is.
      let start = nothing_shared (sequence_cut_off reading bytes) in
      more (Shared ps start) P (shared_from reading ps start) (some-shared ps start) (λ e no. inr (ps, is, no)))

  -- ---- an embedded page
  abbrev PageCause : List ℕ → DecodeError → Type 0
  PageCause bytes e = ((k : ℕ) × BreaksSequence k reading bytes e) ⊎ After (page_segments reading bytes) (λ ps. BreaksInitialPageBy (known_height reading ps) ps e)

  page-refused : (globals : Names) (bytes : List ℕ) → Refused (page_from reading globals bytes) (PageCause bytes)
  unfolding page_from beginning_of
  page-refused globals bytes =
      let P : DecodeError → Type 0 = PageCause bytes in
      step (Sequence bytes) P (page_segments reading bytes) _ (step (Sequence bytes) (Sequence bytes) (sequential reading bytes) _ (listed bytes) (λ e no. no) (λ ps is. tt)) (λ e no. inl no) (λ ps is.
      let height = known_height reading ps in
      let r = initial_page_by height ps in
      step (BreaksInitialPageBy height ps) P r _ (refused-by (BreaksInitialPageBy height ps) r (initial_page_by_cause height ps r (itself r))) (λ e no. inr (ps, is, no)) (λ page page_is. tt))

  -- ---- the globals of a file
  abbrev FileGlobals : List ℕ → DecodeError → Type 0
  FileGlobals bytes e = After (segments_at reading bytes) (λ file. Shared (of_page 0 file.1) (nothing_shared None) e)

  shared-refused : (pages : List PageInFile) (ps : List SegmentView) → Refused (shared_by reading pages ps) (Shared ps (nothing_shared None))
  shared-refused [] ps = tt
  shared-refused (page ∷ pages) ps = some-shared ps (nothing_shared None)

  file_globals-refused : (bytes : List ℕ) → IfOk (book_at reading bytes) (λ book. Refused book.globals (FileGlobals bytes))
  unfolding book_at
  file_globals-refused bytes =
      let P : ReadFile → Type 0 = λ book. Refused book.globals (FileGlobals bytes) in
      ok-next P (segments_at reading bytes) _ (λ file file_is.
      ok-next P (association_check (is_strict reading) file.1) _ (λ known known_is.
      ok-next P (refuse_if (is_strict reading && miscounts file.0.number_of_pages (length (by_pages file.1))) (Format PageCountMismatch)) _ (λ counted counted_is.
      ok-next P (pages_in_file reading (by_pages file.1)) _ (λ pages pages_is.
      more (Shared (of_page 0 file.1) (nothing_shared None)) (FileGlobals bytes) (shared_by reading pages (of_page 0 file.1)) (shared-refused pages (of_page 0 file.1)) (λ e no. (file, file_is, no))))))

both-ok : {A : Type 0} (P Q R : A → Type 0) (r : Result A DecodeError) → IfOk r P → IfOk r Q → ((x : A) → P x → Q x → R x) → IfOk r R
both-ok P Q R (Ok x) p q both = both x p q
both-ok P Q R (Err e) p q both = tt

-- ---- a page that is drawn
abbrev DrawingCause : ReadPage → DecodeError → Type 0
DrawingCause page e = (page.globals ≡ Err e) ⊎ After page.globals (λ globals. FaultySegment page.reading globals page.segments (blank_page page.initial_page) e)

drawing-causes : (page : ReadPage) (g : Result Names DecodeError) → page.globals ≡ g → IfErr (g >>= λ names. drawing_with names page) (DrawingCause page)
drawing-causes page (Err e) is = inl is
drawing-causes page (Ok names) is =
    let start = blank_page page.initial_page in
    let P : DecodeError → Type 0 = DrawingCause page in
    let input : FromInput page.globals = subst (λ (r : Result Names DecodeError). FromInput r) (sym is) tt in
    without-memory P (drawing_with names page)
    (step (FaultySegment page.reading names page.segments start) P (segments_drawn page.reading names page.segments start) _ (some-segment page.reading names page.segments start) (λ e fault. inr (names, is, fault)) (λ d d_is. tt))
    (subst (λ (r : Result Names DecodeError). FromInput (r >>= λ names. drawing_with names page)) is (from_input-drawing page input))

pub errors_have_causes : ErrorsHaveCauses
errors_have_causes = record {
  globals = λ reading bytes. without-memory (GlobalsCause reading bytes) (globals_at reading bytes) (globals-refused reading bytes) (from_input-globals reading bytes);
  page = λ reading globals bytes. without-memory (PageCause reading bytes) (page_from reading globals bytes) (page-refused reading globals bytes) (from_input-embedded reading globals bytes);
  file = file_causes;
  file_globals = λ reading bytes.
      both-ok (λ book. Refused book.globals (FileGlobals reading bytes)) (λ book. FromInput book.globals) (λ book. IfErr book.globals (FileGlobals reading bytes)) (book_at reading bytes)
      (file_globals-refused reading bytes) (from_input-book_globals reading bytes) (λ book refused input. without-memory (FileGlobals reading bytes) book.globals refused input);
  drawing = λ page. drawing-causes page page.globals refl;
}
