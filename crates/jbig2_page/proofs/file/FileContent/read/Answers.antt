use Rattle.std.proofs.Common.{rules, ◌≡◌, ◌⊎◌, ℕ, Bool, true, false, ◌&&◌, List, ◌++◌, length, Option, Result, Ok, Err, inl, inr, sym, ap, subst, ◌∙◌}
use Rattle.std.specs.Prelude.{IfErr}
use Rattle.std.proofs.lemmas.List.{length-map}
use Rattle.std.proofs.lemmas.Result.{err_from_is_err_and}
use Rattle.jbig2_framing.specs.CutOff.{file_cut_off}
use Rattle.jbig2_framing.specs.Reading.{is_strict}
use Rattle.jbig2_framing.specs.declared.cut_off.CutOff.{CutOff}
use Rattle.jbig2_framing.specs.Segment.{SegmentView}
use Rattle.jbig2_framing.specs.inner.SegmentViews.{file_view, segment_views}
use Rattle.jbig2_base.specs.declared.error.DecodeError.{DecodeError}
use Rattle.jbig2_base.specs.declared.error.DecodeError.TheVariants.{Format, OutOfMemory}
use Rattle.jbig2_base.specs.declared.error.FormatError.TheVariants.{PageCountMismatch}
use Rattle.jbig2_framing.specs.declared.file_header.FileHeader.{FileHeader}
use Rattle.jbig2_framing.specs.declared.reading.Reading.{Reading}
use Rattle.jbig2_page.specs.Causes.{IsFromInput}
use Rattle.jbig2_page.specs.Files.{PageInFile, association_check, book_at, by_pages, pages_in_file, left_out_of, miscounts, of_page, segments_at, shared_by}
use Rattle.jbig2_page.specs.inner.ByPages.{by_page_view}
use Rattle.jbig2_base.proofs.CauseSteps.{err-gives}
use Rattle.jbig2_page.proofs.FromInput.{from_input-associated, from_input-each, from_input-segments_at}
use Rattle.jbig2_page.proofs.DrawingFromInput.{returned_error, shared_from_input}
use Rattle.jbig2_page.proofs.Causes.{file_cause}
use Rattle.jbig2_page.proofs.file.FileContent.read.Goals as goal
use Rattle.jbig2_page.proofs.file.FileContent.read.Goals.{else-strict-via-then-strict+else-miscounts, else-strict-via-else-strict}
use Rattle.jbig2_page.specs.Globals.{KeptGlobals}

-- a file of which each step was taken
book-made : (reading : Reading) (bytes : List ℕ) (file : FileHeader × List SegmentView) (parts : List SegmentView × List (List SegmentView)) (pages : List PageInFile) (globals : Result KeptGlobals DecodeError) (left_out : List DecodeError) (cut_off : Option CutOff)
    → segments_at reading bytes ≡ Ok file → association_check (is_strict reading) file.1 ≡ Ok tt → of_page 0 file.1 ≡ parts.0 → by_pages file.1 ≡ parts.1
    → (is_strict reading && miscounts file.0.number_of_pages (length parts.1)) ≡ false → pages_in_file reading parts.1 ≡ Ok pages → shared_by reading pages parts.0 ≡ globals → left_out_of reading parts.1 ≡ left_out → file_cut_off reading bytes ≡ cut_off
    → book_at reading bytes ≡ Ok (record { reading = reading; organization = file.0.organization; pages = pages; globals = globals; left_out = left_out; cut_off = cut_off })
unfolding book_at
book-made reading bytes file parts pages globals left_out cut_off read known shared own counted filed named left ended = rw (read, known, shared, own, counted, filed, named, left, ended)

-- a file whose pages are refused
book-unfiled : (reading : Reading) (bytes : List ℕ) (file : FileHeader × List SegmentView) (parts : List SegmentView × List (List SegmentView)) (e : DecodeError)
    → segments_at reading bytes ≡ Ok file → association_check (is_strict reading) file.1 ≡ Ok tt → by_pages file.1 ≡ parts.1
    → (is_strict reading && miscounts file.0.number_of_pages (length parts.1)) ≡ false → (e ≡ OutOfMemory) ⊎ (pages_in_file reading parts.1 ≡ Err e) → (e ≡ OutOfMemory) ⊎ (book_at reading bytes ≡ Err e)
unfolding book_at
book-unfiled reading bytes file parts e read known own counted (inl memory) = inl memory
book-unfiled reading bytes file parts e read known own counted (inr unfiled) = inr (rw (read, known, own, counted, unfiled))

-- a file that has not as many pages as its header states
book-miscounted : (reading : Reading) (bytes : List ℕ) (file : FileHeader × List SegmentView) (parts : List SegmentView × List (List SegmentView))
    → segments_at reading bytes ≡ Ok file → association_check (is_strict reading) file.1 ≡ Ok tt → by_pages file.1 ≡ parts.1
    → (is_strict reading && miscounts file.0.number_of_pages (length parts.1)) ≡ true → book_at reading bytes ≡ Err (Format PageCountMismatch)
unfolding book_at
book-miscounted reading bytes file parts read known own counted = rw (read, known, own, counted)

-- what a result of two parts has
parts-are : (shared : List SegmentView) (pages : List (List SegmentView)) (parts : List SegmentView × List (List SegmentView)) → (let meant : Result (List SegmentView × List (List SegmentView)) DecodeError = Ok (shared, pages) in meant) ≡ Ok parts → (shared ≡ parts.0) × (pages ≡ parts.1)
parts-are shared pages parts e =
    let same : (let both : List SegmentView × List (List SegmentView) = (shared, pages) in both) ≡ parts = cc in
    (ap (λ (p : List SegmentView × List (List SegmentView)). p.0) same, ap (λ (p : List SegmentView × List (List SegmentView)). p.1) same)

kept-is : {X : Type 0} (meant kept : X) → (let r : Result X DecodeError = Ok meant in r) ≡ Ok kept → meant ≡ kept
kept-is meant kept e = cc

-- what is kept is refused for want of memory alone
memory-is : {Y : Type 0} (y : Y) (e : DecodeError) → (e ≡ OutOfMemory) ⊎ ((let kept : Result Y DecodeError = Ok y in kept) ≡ Err e) → e ≡ OutOfMemory
memory-is y e (inl memory) = memory
memory-is {Y} y e (inr same) = absurd (let never : (let kept : Result Y DecodeError = Ok y in kept) ≡ Err e = same in cc)

pub returns-clause-value : goal.returns-clause-value
returns-clause-value g c =
    let reading = c.args.reading in
    let mode : c.is_strict-strict.result ≡ is_strict reading = c.is_strict-strict.ensures in
    let file : FileHeader × List SegmentView = file_view c.in_ok-file.file in
    let parts : List SegmentView × List (List SegmentView) = by_page_view c.in_ok-segments.segments in
    let known : association_check (is_strict reading) file.1 ≡ Ok tt = ap (λ b. association_check b file.1) (sym mode) ∙ ap (λ s. association_check c.is_strict-strict.result (segment_views s)) (sym c.deref.ensures.value) ∙ c.in_ok-check_associations.ensures in
    let split = parts-are (of_page 0 file.1) (by_pages file.1) parts c.in_ok-segments.ensures in
    let length_is : length parts.1 ≡ length c.in_ok-segments.segments.pages.items = length-map c.in_ok-segments.segments.pages.items _ in
    let counted : (is_strict reading && miscounts file.0.number_of_pages (length parts.1)) ≡ false = elim c.else-strict.branch [
      | else-strict-via-then-strict+else-miscounts w ↦
          ap (λ (b : Bool). b && miscounts file.0.number_of_pages (length parts.1)) (sym mode ∙ w.if-strict.true)
          ∙ ap (λ (n : ℕ). miscounts file.0.number_of_pages n) (length_is ∙ sym (w.len.ensures ∙ c.in_ok-segments.segments.pages.ok.0)) ∙ sym w.miscounts.ensures ∙ w.if-miscounts.false
      | else-strict-via-else-strict w ↦ ap (λ (b : Bool). b && miscounts file.0.number_of_pages (length parts.1)) (sym mode ∙ w.if-strict.false)
    ] in
    let named =
    ap (λ ps. shared_by reading ps (segment_views c.in_ok-segments.segments.shared.items)) (sym c.deref-2.ensures.value)
    ∙ ap (λ s. shared_by reading c.deref-2.result.now (segment_views s)) (sym c.deref-3.ensures.value) ∙ kept-is _ _ c.in_ok-globals.ensures.value in
    let left = sym (c.in_ok-pages.ensures.left_out ∙ ap (λ (es : List DecodeError). es ++ left_out_of reading parts.1) c.new-left_out.ensures.items) in
    book-made reading c.args.bytes.now file parts c.in_ok-pages.pages.items c.in_ok-globals.globals c.read_pages.new.left_out.items c.in_ok-file.file.cut_off c.in_ok-file.ensures.value known split.0 split.1 counted c.in_ok-pages.ensures.value named left (sym c.in_ok-file.ensures.cut_off)

pub invariant_of-result : goal.invariant_of-result
invariant_of-result g c =
    subst (λ (r : Result KeptGlobals DecodeError). IfErr r IsFromInput) (kept-is _ _ c.in_ok-globals.ensures.value)
    (shared_from_input c.args.reading c.deref-2.result.now (segment_views c.deref-3.result.now))

pub returns-in_err-file-clause-errors : goal.returns-in_err-file-clause-errors
returns-in_err-file-clause-errors g c =
    let e = err_from_is_err_and c.from_residual-in_err-file.result c.from_residual-in_err-file.ensures.1 in
    rw (e.1, e.2) (returned_error _ _ (from_input-segments_at _ _) c.in_err-file.ensures.value)

pub returns-in_err-check_associations-clause-errors : goal.returns-in_err-check_associations-clause-errors
returns-in_err-check_associations-clause-errors g c =
    let e = err_from_is_err_and c.from_residual-in_err-check_associations.result c.from_residual-in_err-check_associations.ensures.1 in
    rw (e.1, e.2) (returned_error _ _ (from_input-associated _ (segment_views c.deref.result.now)) (inr c.in_err-check_associations.ensures))

pub returns-in_err-segments-clause-errors : goal.returns-in_err-segments-clause-errors
returns-in_err-segments-clause-errors g c =
    let e = err_from_is_err_and c.from_residual-in_err-segments.result c.from_residual-in_err-segments.ensures.1 in
    rw (e.1, e.2) (returned_error (Ok _) _ tt c.in_err-segments.ensures)

pub returns-in_err-pages-clause-errors : goal.returns-in_err-pages-clause-errors
returns-in_err-pages-clause-errors g c =
    let e = err_from_is_err_and c.from_residual-in_err-pages.result c.from_residual-in_err-pages.ensures.1 in
    rw (e.1, e.2) (returned_error _ _ (from_input-each _ _) c.in_err-pages.ensures.value)

pub returns-in_err-globals-clause-errors : goal.returns-in_err-globals-clause-errors
returns-in_err-globals-clause-errors g c =
    let e = err_from_is_err_and c.from_residual-in_err-globals.result c.from_residual-in_err-globals.ensures.1 in
    rw (e.1, e.2) (returned_error (Ok _) _ tt c.in_err-globals.ensures.value)

pub returns-in_err-pages-clause-value : goal.returns-in_err-pages-clause-value
returns-in_err-pages-clause-value g c =
    let reading = c.args.reading in
    let mode : c.is_strict-strict.result ≡ is_strict reading = c.is_strict-strict.ensures in
    let file : FileHeader × List SegmentView = file_view c.in_ok-file.file in
    let parts : List SegmentView × List (List SegmentView) = by_page_view c.in_ok-segments.segments in
    let known : association_check (is_strict reading) file.1 ≡ Ok tt = ap (λ b. association_check b file.1) (sym mode) ∙ ap (λ s. association_check c.is_strict-strict.result (segment_views s)) (sym c.deref.ensures.value) ∙ c.in_ok-check_associations.ensures in
    let split = parts-are (of_page 0 file.1) (by_pages file.1) parts c.in_ok-segments.ensures in
    let length_is : length parts.1 ≡ length c.in_ok-segments.segments.pages.items = length-map c.in_ok-segments.segments.pages.items _ in
    let counted : (is_strict reading && miscounts file.0.number_of_pages (length parts.1)) ≡ false = elim c.else-strict.branch [
      | else-strict-via-then-strict+else-miscounts w ↦
          ap (λ (b : Bool). b && miscounts file.0.number_of_pages (length parts.1)) (sym mode ∙ w.if-strict.true)
          ∙ ap (λ (n : ℕ). miscounts file.0.number_of_pages n) (length_is ∙ sym (w.len.ensures ∙ c.in_ok-segments.segments.pages.ok.0)) ∙ sym w.miscounts.ensures ∙ w.if-miscounts.false
      | else-strict-via-else-strict w ↦ ap (λ (b : Bool). b && miscounts file.0.number_of_pages (length parts.1)) (sym mode ∙ w.if-strict.false)
    ] in
    let e = err_from_is_err_and c.from_residual-in_err-pages.result c.from_residual-in_err-pages.ensures.1 in
    rw (e.1, e.2) (book-unfiled reading c.args.bytes.now file parts c.in_err-pages.field-0.0 c.in_ok-file.ensures.value known split.1 counted c.in_err-pages.ensures.value)

pub returns-in_err-pages-clause-causes : goal.returns-in_err-pages-clause-causes
returns-in_err-pages-clause-causes g c = file_cause c.args.reading c.args.bytes.now _ (err-gives _ _ _ (returns-in_err-pages-clause-value g c))

pub returns-then-miscounts-clause-causes : goal.returns-then-miscounts-clause-causes
returns-then-miscounts-clause-causes g c =
    let reading = c.args.reading in
    let mode : c.is_strict-strict.result ≡ is_strict reading = c.is_strict-strict.ensures in
    let file : FileHeader × List SegmentView = file_view c.in_ok-file.file in
    let parts : List SegmentView × List (List SegmentView) = by_page_view c.in_ok-segments.segments in
    let known : association_check (is_strict reading) file.1 ≡ Ok tt = ap (λ b. association_check b file.1) (sym mode) ∙ ap (λ s. association_check c.is_strict-strict.result (segment_views s)) (sym c.deref.ensures.value) ∙ c.in_ok-check_associations.ensures in
    let split = parts-are (of_page 0 file.1) (by_pages file.1) parts c.in_ok-segments.ensures in
    let length_is : length parts.1 ≡ length c.in_ok-segments.segments.pages.items = length-map c.in_ok-segments.segments.pages.items _ in
    let counted : (is_strict reading && miscounts file.0.number_of_pages (length parts.1)) ≡ true =
    ap (λ (b : Bool). b && miscounts file.0.number_of_pages (length parts.1)) (sym mode ∙ c.if-strict.true)
    ∙ ap (λ (n : ℕ). miscounts file.0.number_of_pages n) (length_is ∙ sym (c.len.ensures ∙ c.in_ok-segments.segments.pages.ok.0)) ∙ sym c.miscounts.ensures ∙ c.if-miscounts.true in
    rw c.into.ensures (file_cause reading c.args.bytes.now _ (inr (book-miscounted reading c.args.bytes.now file parts c.in_ok-file.ensures.value known split.1 counted)))

pub returns-clause-taken : goal.returns-clause-taken
returns-clause-taken g c =
    let file : FileHeader × List SegmentView = file_view c.in_ok-file.file in
    let parts : List SegmentView × List (List SegmentView) = by_page_view c.in_ok-segments.segments in
    let split = parts-are (of_page 0 file.1) (by_pages file.1) parts c.in_ok-segments.ensures in
    rw (c.in_ok-file.ensures.value, split.0, sym c.deref-2.ensures.value, sym c.deref-3.ensures.value) c.in_ok-globals.ensures.taken

pub returns-in_err-file-clause-causes : goal.returns-in_err-file-clause-causes
unfolding book_at
returns-in_err-file-clause-causes g c = file_cause c.args.reading c.args.bytes.now _ (search rules)

pub returns-in_err-check_associations-clause-causes : goal.returns-in_err-check_associations-clause-causes
unfolding book_at
returns-in_err-check_associations-clause-causes g c = file_cause c.args.reading c.args.bytes.now _ (search rules)

pub returns-in_err-segments-clause-causes : goal.returns-in_err-segments-clause-causes
unfolding book_at
returns-in_err-segments-clause-causes g c = file_cause c.args.reading c.args.bytes.now _ (search rules)

pub returns-in_err-globals-clause-causes : goal.returns-in_err-globals-clause-causes
returns-in_err-globals-clause-causes g c =
    let e = err_from_is_err_and c.from_residual-in_err-globals.result c.from_residual-in_err-globals.ensures.1 in
    rw (e.1, e.2) (file_cause c.args.reading c.args.bytes.now (Err c.in_err-globals.field-0.0) (inl (memory-is _ _ c.in_err-globals.ensures.value)))

pub returns-clause-causes : goal.returns-clause-causes
returns-clause-causes g c = file_cause c.args.reading c.args.bytes.now _ tt

pub returns-in_err-clone-clause-causes : goal.returns-in_err-clone-clause-causes
returns-in_err-clone-clause-causes g c = file_cause c.args.reading c.args.bytes.now _ (search rules)

pub returns-in_err-clone-2-clause-causes : goal.returns-in_err-clone-2-clause-causes
returns-in_err-clone-2-clause-causes g c = file_cause c.args.reading c.args.bytes.now _ (search rules)

pub returns-in_err-clone-3-clause-causes : goal.returns-in_err-clone-3-clause-causes
returns-in_err-clone-3-clause-causes g c =
    let e = err_from_is_err_and c.from_residual-in_err-clone-3.result c.from_residual-in_err-clone-3.ensures.1 in
    file_cause c.args.reading c.args.bytes.now _ (rw e.1 (inl e.2))

pub returns-in_err-clone-4-clause-causes : goal.returns-in_err-clone-4-clause-causes
returns-in_err-clone-4-clause-causes g c = file_cause c.args.reading c.args.bytes.now _ (search rules)
