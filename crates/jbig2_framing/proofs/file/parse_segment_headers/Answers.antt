use Rattle.std.proofs.Common.{◌≡◌, ◌<◌, List, ◌++◌, ◌∷◌, [], length, ℕ, Bool, Option, Some, None, Result, Ok, Err, ⊎_elim, inl, inr, sym, ◌∙◌, ap, arith}
use Rattle.std.proofs.lemmas.Bool.{eqb-false, eqb-true}
use Rattle.std.proofs.lemmas.List.{map_push}
use Rattle.jbig2_base.specs.Bits.{Place}
use Rattle.jbig2_base.specs.declared.error.DecodeError.{DecodeError}
use Rattle.jbig2_framing.specs.CutOff.{first_refused, headers_cut_off, with_place}
use Rattle.jbig2_framing.specs.File.{headers_in}
use Rattle.jbig2_framing.specs.Reading.{is_strict}
use Rattle.jbig2_framing.specs.Sequential.{is_end_of_file}
use Rattle.jbig2_framing.specs.declared.reading.Reading.{Reading}
use Rattle.jbig2_framing.proofs.Sequential.{at_place, refuses-begins, refuses-here, refuses-last, refuses-next, refuses-none}
use Rattle.jbig2_framing.specs.Segment.{Header, header_at}
use Rattle.jbig2_framing.specs.inner.SegmentViews.{header_views, header_view}
use Rattle.jbig2_base.specs.declared.error.DecodeError.TheVariants.{OutOfMemory}
use Rattle.jbig2_framing.specs.declared.segment.SegmentHeader.{SegmentHeader}
use Rattle.jbig2_framing.proofs.RandomAccess.{ReadsHeaders-as, headers_begin, next_header, last_header, header-as, header_left_out, header_refused, headers_end, left-out}
use Rattle.jbig2_framing.proofs.file.parse_segment_headers.Goals as goal

abbrev read_by : Reading → List ℕ → Result (Header × List ℕ) DecodeError
read_by reading = header_at (is_strict reading)

abbrev ends : Header → Bool
ends h = is_end_of_file h.segment_type

-- the cut-off at the place that is refused
placed : (reading : Reading) (bytes : List ℕ) (place : Option (List ℕ × DecodeError)) → place ≡ first_refused (read_by reading) ends (length bytes) bytes → with_place (is_strict reading) place ≡ headers_cut_off reading bytes
placed reading bytes place is = ap (λ (p : Option (List ℕ × DecodeError)). with_place (is_strict reading) p) is

pub loop-reading-init : goal.loop-reading-init
loop-reading-init g c = record {
  refuses = refuses-begins (read_by c.args.reading) ends c.args.reader.now.bytes;
  reads = ReadsHeaders-as [] (header_views c.new-headers.result.items) c.args.reading c.args.reader.now.bytes (headers_in (length c.args.reader.now.bytes) c.args.reading c.args.reader.now.bytes) (sym (ap (λ (hs : List (SegmentHeader g.row.A.Denot)). header_views hs) c.new-headers.ensures.items)) (headers_begin c.args.reading c.args.reader.now.bytes);
}

pub returns-then-last-clause-cut_off : goal.returns-then-last-clause-cut_off
returns-then-last-clause-cut_off g c =
    let bytes = c.loop-reading.reader.bytes in
    let some : 0 < length bytes = omega (arith, c.in-Ok.ensures.taken) in
    let read = header-as c.is_strict-strict.result c.args.reading bytes (Ok (header_view c.in-Ok.header, c.parse_segment_header.new.reader.bytes)) c.is_strict-strict.ensures c.in-Ok.ensures.parses.value in
    placed c.args.reading c.args.reader.now.bytes None
    (refuses-last (read_by c.args.reading) ends bytes c.parse_segment_header.new.reader.bytes (first_refused (read_by c.args.reading) ends (length c.args.reader.now.bytes) c.args.reader.now.bytes) (header_view c.in-Ok.header) c.loop-reading.invariant.refuses read some (sym c.if-last.ensures))

pub returns-then-last-clause-value : goal.returns-then-last-clause-value
returns-then-last-clause-value g c =
    let front = header_views c.loop-reading.headers.items in
    let some : 0 < length c.loop-reading.reader.bytes = omega (arith, c.in-Ok.ensures.taken) in
    last_header front c.args.reading c.loop-reading.reader.bytes c.parse_segment_header.new.reader.bytes (headers_in (length c.args.reader.now.bytes) c.args.reading c.args.reader.now.bytes) (header_view c.in-Ok.header) c.loop-reading.invariant.reads (header-as c.is_strict-strict.result c.args.reading c.loop-reading.reader.bytes (Ok (header_view c.in-Ok.header, c.parse_segment_header.new.reader.bytes)) c.is_strict-strict.ensures c.in-Ok.ensures.parses.value) some (sym c.if-last.ensures)
    ∙ ap (λ (hs : List Header). Ok (hs, c.parse_segment_header.new.reader.bytes)) (sym (ap (λ (hs : List (SegmentHeader g.row.A.Denot)). header_views hs) c.in_ok-push-in-Ok.ensures.items ∙ map_push (λ (h : SegmentHeader g.row.A.Denot). header_view h) c.loop-reading.headers.items c.in-Ok.header))

pub loop-reading-preserved : goal.loop-reading-preserved
loop-reading-preserved g c =
    let front = header_views c.loop-reading.headers.items in
    let meant = headers_in (length c.args.reader.now.bytes) c.args.reading c.args.reader.now.bytes in
    let h = header_view c.in-Ok.header in
    let read = header-as c.is_strict-strict.result c.args.reading c.loop-reading.reader.bytes (Ok (h, c.parse_segment_header.new.reader.bytes)) c.is_strict-strict.ensures c.in-Ok.ensures.parses.value in
    record {
      refuses = refuses-next (read_by c.args.reading) ends c.loop-reading.reader.bytes c.parse_segment_header.new.reader.bytes (first_refused (read_by c.args.reading) ends (length c.args.reader.now.bytes) c.args.reader.now.bytes) h c.loop-reading.invariant.refuses read c.in-Ok.ensures.taken (sym c.if-last.ensures);
      reads = ReadsHeaders-as (front ++ h ∷ []) (header_views c.push.new.self.items) c.args.reading c.parse_segment_header.new.reader.bytes meant
          (sym (ap (λ (hs : List (SegmentHeader g.row.A.Denot)). header_views hs) c.in_ok-push-in-Ok.ensures.items ∙ map_push (λ (k : SegmentHeader g.row.A.Denot). header_view k) c.loop-reading.headers.items c.in-Ok.header))
          (next_header front c.args.reading c.loop-reading.reader.bytes c.parse_segment_header.new.reader.bytes meant h c.loop-reading.invariant.reads read c.in-Ok.ensures.taken (sym c.if-last.ensures));
    }

pub returns-then-is_salvaged-clause-cut_off : goal.returns-then-is_salvaged-clause-cut_off
returns-then-is_salvaged-clause-cut_off g c =
    let bytes = c.loop-reading.reader.bytes in
    let some : 0 < length bytes = omega (arith, eqb-false (length bytes) 0 (sym c.loop-reading-test.ensures)) in
    let refused = header-as c.is_strict-strict.result c.args.reading bytes (Err c.in-Err.error) c.is_strict-strict.ensures
    (left-out c.args.reading c.in-Err.error (header_at c.is_strict-strict.result bytes) c.in-Err.ensures.parses.value (sym c.if-is_salvaged.ensures.value)) in
    at_place c.is_strict-strict.result (is_strict c.args.reading) c.parse_segment_header.new.reader.bytes bytes c.in-Err.error c.in_ok-cut_off-in-Err.cut_off c.is_strict-strict.ensures (ap (λ (p : Place). p.bytes) c.in-Err.ensures.parses.stays) c.in_ok-cut_off-in-Err.ensures
    ∙ placed c.args.reading c.args.reader.now.bytes (Some (bytes, c.in-Err.error))
    (refuses-here (read_by c.args.reading) ends bytes (first_refused (read_by c.args.reading) ends (length c.args.reader.now.bytes) c.args.reader.now.bytes) c.in-Err.error c.loop-reading.invariant.refuses refused some)

pub returns-then-is_salvaged-clause-value : goal.returns-then-is_salvaged-clause-value
returns-then-is_salvaged-clause-value g c =
    let bytes = c.loop-reading.reader.bytes in
    let front = header_views c.loop-reading.headers.items in
    let some : 0 < length bytes = omega (arith, eqb-false (length bytes) 0 (sym c.loop-reading-test.ensures)) in
    let refused = left-out c.args.reading c.in-Err.error (header_at c.is_strict-strict.result bytes) c.in-Err.ensures.parses.value (sym c.if-is_salvaged.ensures.value) in
    header_left_out front c.args.reading bytes (headers_in (length c.args.reader.now.bytes) c.args.reading c.args.reader.now.bytes) c.in-Err.error c.loop-reading.invariant.reads
    (header-as c.is_strict-strict.result c.args.reading bytes (Err c.in-Err.error) c.is_strict-strict.ensures refused) some (sym c.if-is_salvaged.ensures.value)
    ∙ ap (λ (p : Place). Ok (front, p.bytes)) (sym c.in-Err.ensures.parses.stays)

pub returns-in-Err-clause-value : goal.returns-in-Err-clause-value
returns-in-Err-clause-value g c =
    let bytes = c.loop-reading.reader.bytes in
    let some : 0 < length bytes = omega (arith, eqb-false (length bytes) 0 (sym c.loop-reading-test.ensures)) in
    ⊎_elim (λ (e : c.in-Err.error ≡ OutOfMemory). inl e)
    (λ (e : header_at c.is_strict-strict.result bytes ≡ Err c.in-Err.error). inr (header_refused (header_views c.loop-reading.headers.items) c.args.reading bytes (headers_in (length c.args.reader.now.bytes) c.args.reading c.args.reader.now.bytes) c.in-Err.error c.loop-reading.invariant.reads
    (header-as c.is_strict-strict.result c.args.reading bytes (Err c.in-Err.error) c.is_strict-strict.ensures e) some (sym c.if-is_salvaged.ensures.value)))
    c.in-Err.ensures.parses.value

pub returns-clause-cut_off : goal.returns-clause-cut_off
returns-clause-cut_off g c =
    placed c.args.reading c.args.reader.now.bytes None
    (refuses-none (read_by c.args.reading) ends c.loop-reading.reader.bytes (first_refused (read_by c.args.reading) ends (length c.args.reader.now.bytes) c.args.reader.now.bytes) c.loop-reading.invariant.refuses (eqb-true (length c.loop-reading.reader.bytes) 0 (sym c.loop-reading-test.ensures)))

pub returns-clause-value : goal.returns-clause-value
returns-clause-value g c =
    headers_end (header_views c.loop-reading.headers.items) c.args.reading c.loop-reading.reader.bytes (headers_in (length c.args.reader.now.bytes) c.args.reading c.args.reader.now.bytes) c.loop-reading.invariant.reads (eqb-true (length c.loop-reading.reader.bytes) 0 (sym c.loop-reading-test.ensures))
