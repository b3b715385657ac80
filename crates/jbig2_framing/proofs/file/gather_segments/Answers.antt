use Rattle.std.proofs.Common.{◌≡◌, ℕ, length, arith, [], List, Result, inr, sym, ◌∙◌, ap}
use Rattle.std.proofs.lemmas.List.{map_push, nil_from_length}
use Rattle.std.specs.Vec.Iter.{into_iter_items}
use Rattle.jbig2_base.specs.declared.error.DecodeError.{DecodeError}
use Rattle.jbig2_framing.specs.CutOff.{data_cut_off, missing_or}
use Rattle.jbig2_framing.specs.File.{with_data}
use Rattle.jbig2_framing.specs.Segment.{SegmentView}
use Rattle.jbig2_framing.specs.inner.SegmentViews.{header_views, header_view, segment_views, segment_view}
use Rattle.jbig2_framing.specs.declared.segment.Segment.{Segment}
use Rattle.jbig2_framing.specs.declared.segment.SegmentHeader.{SegmentHeader}
use Rattle.jbig2_framing.proofs.RandomAccess.{gathers_one, gathers_none, gathers_drops, gathers_all}
use Rattle.jbig2_framing.proofs.Sequential.{with_front, front-none}
use Rattle.jbig2_framing.proofs.file.gather_segments.Goals as goal

pub loop-header-init : goal.loop-header-init
loop-header-init g c =
    let bytes = c.args.reader.now.bytes in
    record {
      counted = c.into_iter-header-iterator.ensures.into_iter_gives.1 ∙ c.args.headers.ok.0 ∙ ap (λ (hs : List (SegmentHeader g.row.A.Denot)). length hs) (sym c.into_iter-header-iterator.ensures.into_iter_gives.0);
      gathers =
          ap (λ (ss : List (Segment g.row.A.Denot)). with_front (segment_views ss) (with_data c.args.reading (header_views (into_iter_items c.into_iter-header-iterator.result)) bytes)) c.new-segments.ensures.items
          ∙ front-none (with_data c.args.reading (header_views (into_iter_items c.into_iter-header-iterator.result)) bytes)
          ∙ ap (λ (hs : List (SegmentHeader g.row.A.Denot)). with_data c.args.reading (header_views hs) bytes) c.into_iter-header-iterator.ensures.into_iter_gives.0;
      missing = ap (λ (hs : List (SegmentHeader g.row.A.Denot)). data_cut_off (header_views hs) bytes) c.into_iter-header-iterator.ensures.into_iter_gives.0;
    }

pub loop-header-preserved : goal.loop-header-preserved
loop-header-preserved g c =
    let front = segment_views c.loop-header.segments.items in
    let bytes = c.loop-header.reader.bytes in
    let hs = header_views (into_iter_items c.next.new.self) in
    let meant = with_data c.args.reading (header_views c.args.headers.items) c.args.reader.now.bytes in
    let rest = c.parse_segment_data.new.reader.bytes in
    record {
      counted = omega (arith, c.loop-header.invariant.counted, c.in-Some.ensures.steps.1, ap length c.in-Some.ensures.steps.0);
      gathers =
          ap (λ (ps : List SegmentView). with_front ps (with_data c.args.reading hs rest)) (ap (λ (ss : List (Segment g.row.A.Denot)). segment_views ss) c.in_ok-push-in-Ok.ensures.items ∙ map_push (λ (s : Segment g.row.A.Denot). segment_view s) c.loop-header.segments.items c.in-Ok.segment)
          ∙ gathers_one front c.args.reading (header_view c.in-Some.header) hs bytes rest (segment_view c.in-Ok.segment) meant
          (ap (λ (ks : List (SegmentHeader g.row.A.Denot)). with_front front (with_data c.args.reading (header_views ks) bytes)) (sym c.in-Some.ensures.steps.0) ∙ c.loop-header.invariant.gathers)
          c.in-Ok.ensures.parses.value;
      missing =
          ap (λ (r : Result (SegmentView × List ℕ) DecodeError). missing_or (header_view c.in-Some.header) r (data_cut_off hs)) (sym c.in-Ok.ensures.parses.value)
          ∙ ap (λ (ks : List (SegmentHeader g.row.A.Denot)). data_cut_off (header_views ks) bytes) (sym c.in-Some.ensures.steps.0)
          ∙ c.loop-header.invariant.missing;
    }

pub returns-then-is_salvaged-clause-cut_off : goal.returns-then-is_salvaged-clause-cut_off
returns-then-is_salvaged-clause-cut_off g c =
    let bytes = c.loop-header.reader.bytes in
    ap (λ (r : Result (SegmentView × List ℕ) DecodeError). missing_or (header_view c.in-Some.header) r (data_cut_off (header_views (into_iter_items c.next.new.self)))) (sym c.in-Err.ensures.parses.value)
    ∙ ap (λ (ks : List (SegmentHeader g.row.A.Denot)). data_cut_off (header_views ks) bytes) (sym c.in-Some.ensures.steps.0)
    ∙ c.loop-header.invariant.missing

pub returns-in-Err-clause-value : goal.returns-in-Err-clause-value
returns-in-Err-clause-value g c =
    let front = segment_views c.loop-header.segments.items in
    let bytes = c.loop-header.reader.bytes in
    inr (gathers_none front c.args.reading (header_view c.in-Some.header) (header_views (into_iter_items c.next.new.self)) bytes c.in-Err.error (with_data c.args.reading (header_views c.args.headers.items) c.args.reader.now.bytes)
    (ap (λ (ks : List (SegmentHeader g.row.A.Denot)). with_front front (with_data c.args.reading (header_views ks) bytes)) (sym c.in-Some.ensures.steps.0) ∙ c.loop-header.invariant.gathers)
    c.in-Err.ensures.parses.value (sym c.if-is_salvaged.ensures.value))

pub returns-then-is_salvaged-clause-value : goal.returns-then-is_salvaged-clause-value
returns-then-is_salvaged-clause-value g c =
    let front = segment_views c.loop-header.segments.items in
    let bytes = c.loop-header.reader.bytes in
    gathers_drops front c.args.reading (header_view c.in-Some.header) (header_views (into_iter_items c.next.new.self)) bytes c.in-Err.error (with_data c.args.reading (header_views c.args.headers.items) c.args.reader.now.bytes)
    (ap (λ (ks : List (SegmentHeader g.row.A.Denot)). with_front front (with_data c.args.reading (header_views ks) bytes)) (sym c.in-Some.ensures.steps.0) ∙ c.loop-header.invariant.gathers)
    c.in-Err.ensures.parses.value (sym c.if-is_salvaged.ensures.value)

pub returns-clause-cut_off : goal.returns-clause-cut_off
returns-clause-cut_off g c =
    let none : into_iter_items c.loop-header.header-iterator ≡ [] = nil_from_length (into_iter_items c.loop-header.header-iterator) (sym c.loop-header.invariant.counted ∙ c.in-None.ensures.steps.0) in
    ap (λ (ks : List (SegmentHeader g.row.A.Denot)). data_cut_off (header_views ks) c.loop-header.reader.bytes) (sym none) ∙ c.loop-header.invariant.missing

pub returns-clause-value : goal.returns-clause-value
returns-clause-value g c =
    let front = segment_views c.loop-header.segments.items in
    let bytes = c.loop-header.reader.bytes in
    let none : into_iter_items c.loop-header.header-iterator ≡ [] = nil_from_length (into_iter_items c.loop-header.header-iterator) (sym c.loop-header.invariant.counted ∙ c.in-None.ensures.steps.0) in
    gathers_all front c.args.reading bytes (with_data c.args.reading (header_views c.args.headers.items) c.args.reader.now.bytes)
    (ap (λ (ks : List (SegmentHeader g.row.A.Denot)). with_front front (with_data c.args.reading (header_views ks) bytes)) (sym none) ∙ c.loop-header.invariant.gathers)
