use Rattle.std.proofs.Common.{rules, Err, inr}
use Rattle.std.proofs.lemmas.Result.{err_from_is_err_and}
use Rattle.jbig2_framing.specs.Segment.{header_at}
use Rattle.jbig2_framing.proofs.SegmentCauses.{header_cause}
use Rattle.jbig2_framing.proofs.segment.parse_segment_header.Goals as goal

pub returns-in_err-page_association-clause-causes : goal.returns-in_err-page_association-clause-causes
unfolding header_at
returns-in_err-page_association-clause-causes g c =
    let e = err_from_is_err_and c.from_residual-in_err-page_association.result c.from_residual-in_err-page_association.ensures.1 in
    rw (e.1, e.2) (header_cause c.args.strict c.args.reader.now.bytes (Err c.in_err-page_association.field-0.0) (inr (search rules)))

pub returns-in_err-number-clause-causes : goal.returns-in_err-number-clause-causes
unfolding header_at
returns-in_err-number-clause-causes g c =
    let e = err_from_is_err_and c.from_residual-in_err-number.result c.from_residual-in_err-number.ensures.1 in
    rw (e.1, e.2) (header_cause c.args.strict c.args.reader.now.bytes (Err c.in_err-number.field-0.0) (inr (search rules)))

pub returns-in_err-data_length-clause-causes : goal.returns-in_err-data_length-clause-causes
unfolding header_at
returns-in_err-data_length-clause-causes g c =
    let e = err_from_is_err_and c.from_residual-in_err-data_length.result c.from_residual-in_err-data_length.ensures.1 in
    rw (e.1, e.2) (header_cause c.args.strict c.args.reader.now.bytes (Err c.in_err-data_length.field-0.0) (inr (search rules)))

pub returns-in_err-segment_number-clause-causes : goal.returns-in_err-segment_number-clause-causes
unfolding header_at
returns-in_err-segment_number-clause-causes g c = header_cause c.args.strict c.args.reader.now.bytes _ (search rules)

pub returns-in_err-flags-clause-causes : goal.returns-in_err-flags-clause-causes
unfolding header_at
returns-in_err-flags-clause-causes g c = header_cause c.args.strict c.args.reader.now.bytes _ (search rules)

pub returns-then-is_reserved-clause-causes : goal.returns-then-is_reserved-clause-causes
unfolding header_at
returns-then-is_reserved-clause-causes g c = header_cause c.args.strict c.args.reader.now.bytes _ (search rules)

pub returns-in_err-referred_to_segments-clause-causes : goal.returns-in_err-referred_to_segments-clause-causes
unfolding header_at
returns-in_err-referred_to_segments-clause-causes g c = header_cause c.args.strict c.args.reader.now.bytes _ (search rules)

pub returns-clause-causes : goal.returns-clause-causes
returns-clause-causes g c = header_cause c.args.strict c.args.reader.now.bytes _ tt
