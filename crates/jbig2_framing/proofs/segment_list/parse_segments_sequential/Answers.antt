use Rattle.std.proofs.Common.{◌≡◌, ℕ, ◌<◌, subst, List, ◌++◌, ◌∷◌, [], length, Option, Some, None, Result, Ok, Err, Bool, true, false, ⊎_elim, inl, inr, ◌⊎◌, refl, sym, ◌∙◌, ap, arith}
use Rattle.std.proofs.lemmas.Bool.{eqb-false, eqb-true, false≢true}
use Rattle.std.proofs.lemmas.List.{map_push}
use Rattle.jbig2_base.specs.Bits.{Place}
use Rattle.jbig2_framing.specs.CutOff.{first_refused, partial_at, sequence_cut_off, sequence_partial, with_partial, with_place}
use Rattle.jbig2_framing.specs.Reading.{is_strict}
use Rattle.jbig2_framing.specs.Segment.{SegmentView, segment_at}
use Rattle.jbig2_framing.specs.inner.SegmentViews.{partial_view, segment_views, segment_view}
use Rattle.jbig2_framing.specs.Sequential.{sequential, is_cut_off, is_end_of_file}
use Rattle.jbig2_base.specs.declared.error.DecodeError.{DecodeError}
use Rattle.jbig2_base.specs.declared.error.DecodeError.TheVariants.{OutOfMemory}
use Rattle.jbig2_framing.specs.declared.reading.Reading.{Reading}
use Rattle.jbig2_framing.specs.declared.reading.Reading.TheVariants.{Strict, Lenient, Salvage}
use Rattle.jbig2_framing.specs.declared.segment.Segment.{Segment}
use Rattle.jbig2_framing.proofs.Sequential.{Reads, Reads-as, begins, next, last, drops, gives_up, ends as ends_there, read-as, Refuses, at_place, refuses-begins, refuses-here, refuses-last, refuses-next, refuses-none}
use Rattle.jbig2_framing.proofs.segment_list.parse_segments_sequential.Goals as goal

abbrev read_by : Reading → List ℕ → Result (SegmentView × List ℕ) DecodeError
read_by reading = segment_at (is_strict reading)

abbrev ends : SegmentView → Bool
ends p = is_end_of_file p.header.segment_type

-- the cut-off at the place that is refused
placed : (reading : Reading) (bytes : List ℕ) (place : Option (List ℕ × DecodeError)) → place ≡ first_refused (read_by reading) ends (length bytes) bytes → with_place (is_strict reading) place ≡ sequence_cut_off reading bytes
placed reading bytes place is = ap (λ (p : Option (List ℕ × DecodeError)). with_place (is_strict reading) p) is

-- what is there of the segment at the place that is refused
partly : (reading : Reading) (bytes : List ℕ) (place : Option (List ℕ × DecodeError)) → place ≡ first_refused (read_by reading) ends (length bytes) bytes → with_partial (is_strict reading) place ≡ sequence_partial reading bytes
partly reading bytes place is = ap (λ (p : Option (List ℕ × DecodeError)). with_partial (is_strict reading) p) is

partial_place : (strict test : Bool) (left bytes : List ℕ) (found : Option SegmentView) → strict ≡ test → left ≡ bytes → ◌≡◌ {A = Result (Option SegmentView) DecodeError} (Ok (partial_at strict left)) (Ok found) → found ≡ partial_at test bytes
partial_place strict test left bytes found e f is = rw (sym e, sym f) (same found (partial_at strict left) is)
  where
    same : (x y : Option SegmentView) → ◌≡◌ {A = Result (Option SegmentView) DecodeError} (Ok y) (Ok x) → x ≡ y
    same x y e = cc

pub loop-reader-init : goal.loop-reader-init
loop-reader-init g c =
    let bytes = c.args.bytes.now in
    let meant = sequential c.args.reading bytes in
    let opening : c.new-reader.result.bytes ≡ bytes = ap (λ (p : Place). p.bytes) c.new-reader.ensures in
    record {
      reads =
          subst (λ (left : List ℕ). Reads (segment_views c.new-segments.result.items) c.args.reading left meant) (sym opening)
          (Reads-as [] (segment_views c.new-segments.result.items) c.args.reading bytes meant (sym (ap (λ (ss : List (Segment g.row.A.Denot)). segment_views ss) c.new-segments.ensures.items)) (begins c.args.reading bytes));
      refuses =
          subst (λ (left : List ℕ). Refuses (read_by c.args.reading) ends left (first_refused (read_by c.args.reading) ends (length bytes) bytes)) (sym opening)
          (refuses-begins (read_by c.args.reading) ends bytes);
    }

pub returns-then-last-clause-cut_off : goal.returns-then-last-clause-cut_off
returns-then-last-clause-cut_off g c =
    let bytes = c.loop-reader.reader.bytes in
    let some : 0 < length bytes = omega (arith, c.in-Ok.ensures.taken) in
    let read = read-as c.is_strict-strict.result c.args.reading bytes (Ok (segment_view c.in-Ok.segment, c.parse_segment.new.reader.bytes)) c.is_strict-strict.ensures c.in-Ok.ensures.parses.value in
    placed c.args.reading c.args.bytes.now None
    (refuses-last (read_by c.args.reading) ends bytes c.parse_segment.new.reader.bytes (first_refused (read_by c.args.reading) ends (length c.args.bytes.now) c.args.bytes.now) (segment_view c.in-Ok.segment) c.loop-reader.invariant.refuses read some (sym c.if-last.ensures))

pub returns-then-last-clause-partial : goal.returns-then-last-clause-partial
returns-then-last-clause-partial g c =
    let bytes = c.loop-reader.reader.bytes in
    let some : 0 < length bytes = omega (arith, c.in-Ok.ensures.taken) in
    let read = read-as c.is_strict-strict.result c.args.reading bytes (Ok (segment_view c.in-Ok.segment, c.parse_segment.new.reader.bytes)) c.is_strict-strict.ensures c.in-Ok.ensures.parses.value in
    partly c.args.reading c.args.bytes.now None
    (refuses-last (read_by c.args.reading) ends bytes c.parse_segment.new.reader.bytes (first_refused (read_by c.args.reading) ends (length c.args.bytes.now) c.args.bytes.now) (segment_view c.in-Ok.segment) c.loop-reader.invariant.refuses read some (sym c.if-last.ensures))

pub returns-then-last-clause-value : goal.returns-then-last-clause-value
returns-then-last-clause-value g c =
    let front = segment_views c.loop-reader.segments.items in
    let some : 0 < length c.loop-reader.reader.bytes = omega (arith, c.in-Ok.ensures.taken) in
    last front c.args.reading c.loop-reader.reader.bytes c.parse_segment.new.reader.bytes (sequential c.args.reading c.args.bytes.now) (segment_view c.in-Ok.segment) c.loop-reader.invariant.reads (read-as c.is_strict-strict.result c.args.reading c.loop-reader.reader.bytes (Ok (segment_view c.in-Ok.segment, c.parse_segment.new.reader.bytes)) c.is_strict-strict.ensures c.in-Ok.ensures.parses.value) some (sym c.if-last.ensures)
    ∙ ap (λ (ps : List SegmentView). Ok ps) (sym (ap (λ (ss : List (Segment g.row.A.Denot)). segment_views ss) c.in_ok-push-in-Ok.ensures.items ∙ map_push (λ (s : Segment g.row.A.Denot). segment_view s) c.loop-reader.segments.items c.in-Ok.segment))

pub loop-reader-preserved : goal.loop-reader-preserved
loop-reader-preserved g c =
    let front = segment_views c.loop-reader.segments.items in
    let meant = sequential c.args.reading c.args.bytes.now in
    let p = segment_view c.in-Ok.segment in
    let read = read-as c.is_strict-strict.result c.args.reading c.loop-reader.reader.bytes (Ok (p, c.parse_segment.new.reader.bytes)) c.is_strict-strict.ensures c.in-Ok.ensures.parses.value in
    record {
      refuses =
          refuses-next (read_by c.args.reading) ends c.loop-reader.reader.bytes c.parse_segment.new.reader.bytes (first_refused (read_by c.args.reading) ends (length c.args.bytes.now) c.args.bytes.now) p c.loop-reader.invariant.refuses read c.in-Ok.ensures.taken (sym c.if-last.ensures);
      reads = Reads-as (front ++ p ∷ []) (segment_views c.push.new.self.items) c.args.reading c.parse_segment.new.reader.bytes meant
          (sym (ap (λ (ss : List (Segment g.row.A.Denot)). segment_views ss) c.in_ok-push-in-Ok.ensures.items ∙ map_push (λ (s : Segment g.row.A.Denot). segment_view s) c.loop-reader.segments.items c.in-Ok.segment))
          (next front c.args.reading c.loop-reader.reader.bytes c.parse_segment.new.reader.bytes meant p c.loop-reader.invariant.reads read c.in-Ok.ensures.taken (sym c.if-last.ensures));
    }

-- an error that cuts off is no want of memory
given : (reading : Reading) (error : DecodeError) (r : Result (SegmentView × List ℕ) DecodeError) → (error ≡ OutOfMemory) ⊎ (r ≡ Err error) → is_cut_off reading error ≡ true → r ≡ Err error
given reading error r (inl e) cut = absurd (false≢true (sym (ap (λ (x : DecodeError). is_cut_off reading x) e ∙ never reading) ∙ cut))
  where
    never : (m : Reading) → is_cut_off m OutOfMemory ≡ false
    never Strict = refl
    never Lenient = refl
    never Salvage = refl
given reading error r (inr e) cut = e

pub returns-then-is_cut_off-clause-cut_off : goal.returns-then-is_cut_off-clause-cut_off
returns-then-is_cut_off-clause-cut_off g c =
    let bytes = c.loop-reader.reader.bytes in
    let some : 0 < length bytes = omega (arith, eqb-false (length bytes) 0 (sym c.loop-reader-test.ensures)) in
    let refused = read-as c.is_strict-strict.result c.args.reading bytes (Err c.in-Err.error) c.is_strict-strict.ensures
    (given c.args.reading c.in-Err.error (segment_at c.is_strict-strict.result bytes) c.in-Err.ensures.parses.value (sym c.if-is_cut_off.ensures)) in
    at_place c.is_strict-strict.result (is_strict c.args.reading) c.parse_segment.new.reader.bytes bytes c.in-Err.error c.in_ok-cut_off-in-Err.cut_off c.is_strict-strict.ensures (ap (λ (p : Place). p.bytes) c.in-Err.ensures.parses.stays) c.in_ok-cut_off-in-Err.ensures
    ∙ placed c.args.reading c.args.bytes.now (Some (bytes, c.in-Err.error))
    (refuses-here (read_by c.args.reading) ends bytes (first_refused (read_by c.args.reading) ends (length c.args.bytes.now) c.args.bytes.now) c.in-Err.error c.loop-reader.invariant.refuses refused some)

pub returns-then-is_cut_off-clause-partial : goal.returns-then-is_cut_off-clause-partial
returns-then-is_cut_off-clause-partial g c =
    let bytes = c.loop-reader.reader.bytes in
    let some : 0 < length bytes = omega (arith, eqb-false (length bytes) 0 (sym c.loop-reader-test.ensures)) in
    let refused = read-as c.is_strict-strict.result c.args.reading bytes (Err c.in-Err.error) c.is_strict-strict.ensures
    (given c.args.reading c.in-Err.error (segment_at c.is_strict-strict.result bytes) c.in-Err.ensures.parses.value (sym c.if-is_cut_off.ensures)) in
    partial_place c.is_strict-strict.result (is_strict c.args.reading) c.parse_segment.new.reader.bytes bytes (partial_view c.in_ok-partial-in-Err.partial) c.is_strict-strict.ensures (ap (λ (p : Place). p.bytes) c.in-Err.ensures.parses.stays) c.in_ok-partial-in-Err.ensures
    ∙ partly c.args.reading c.args.bytes.now (Some (bytes, c.in-Err.error))
    (refuses-here (read_by c.args.reading) ends bytes (first_refused (read_by c.args.reading) ends (length c.args.bytes.now) c.args.bytes.now) c.in-Err.error c.loop-reader.invariant.refuses refused some)

pub returns-then-is_cut_off-clause-value : goal.returns-then-is_cut_off-clause-value
returns-then-is_cut_off-clause-value g c =
    let some : 0 < length c.loop-reader.reader.bytes = omega (arith, eqb-false (length c.loop-reader.reader.bytes) 0 (sym c.loop-reader-test.ensures)) in
    drops (segment_views c.loop-reader.segments.items) c.args.reading c.loop-reader.reader.bytes (sequential c.args.reading c.args.bytes.now) c.in-Err.error c.loop-reader.invariant.reads
    (read-as c.is_strict-strict.result c.args.reading c.loop-reader.reader.bytes (Err c.in-Err.error) c.is_strict-strict.ensures
    (given c.args.reading c.in-Err.error (segment_at c.is_strict-strict.result c.loop-reader.reader.bytes) c.in-Err.ensures.parses.value (sym c.if-is_cut_off.ensures))) some (sym c.if-is_cut_off.ensures)

pub returns-in-Err-clause-value : goal.returns-in-Err-clause-value
returns-in-Err-clause-value g c =
    let some : 0 < length c.loop-reader.reader.bytes = omega (arith, eqb-false (length c.loop-reader.reader.bytes) 0 (sym c.loop-reader-test.ensures)) in
    ⊎_elim (λ (e : c.in-Err.error ≡ OutOfMemory). inl e)
    (λ (e : segment_at c.is_strict-strict.result c.loop-reader.reader.bytes ≡ Err c.in-Err.error). inr (gives_up (segment_views c.loop-reader.segments.items) c.args.reading c.loop-reader.reader.bytes (sequential c.args.reading c.args.bytes.now) c.in-Err.error c.loop-reader.invariant.reads (read-as c.is_strict-strict.result c.args.reading c.loop-reader.reader.bytes (Err c.in-Err.error) c.is_strict-strict.ensures e) some (sym c.if-is_cut_off.ensures)))
    c.in-Err.ensures.parses.value

pub returns-clause-cut_off : goal.returns-clause-cut_off
returns-clause-cut_off g c =
    placed c.args.reading c.args.bytes.now None
    (refuses-none (read_by c.args.reading) ends c.loop-reader.reader.bytes (first_refused (read_by c.args.reading) ends (length c.args.bytes.now) c.args.bytes.now) c.loop-reader.invariant.refuses (eqb-true (length c.loop-reader.reader.bytes) 0 (sym c.loop-reader-test.ensures)))

pub returns-clause-partial : goal.returns-clause-partial
returns-clause-partial g c =
    partly c.args.reading c.args.bytes.now None
    (refuses-none (read_by c.args.reading) ends c.loop-reader.reader.bytes (first_refused (read_by c.args.reading) ends (length c.args.bytes.now) c.args.bytes.now) c.loop-reader.invariant.refuses (eqb-true (length c.loop-reader.reader.bytes) 0 (sym c.loop-reader-test.ensures)))

pub returns-clause-value : goal.returns-clause-value
returns-clause-value g c =
    ends_there (segment_views c.loop-reader.segments.items) c.args.reading c.loop-reader.reader.bytes (sequential c.args.reading c.args.bytes.now) c.loop-reader.invariant.reads (eqb-true (length c.loop-reader.reader.bytes) 0 (sym c.loop-reader-test.ensures))
