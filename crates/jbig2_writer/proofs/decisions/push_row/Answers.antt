use Rattle.jbig2_writer.proofs.RowLemmas.{row-predicted, row-read, row-uncoded}
use Rattle.jbig2_writer.proofs.decisions.push_row.Goals as goal

pub returns-then-not-coding-clause-row : goal.returns-then-not-coding-clause-row
returns-then-not-coding-clause-row g c =
    row-uncoded c.args.encoder.now c.push_pixels.new.encoder c.args.coding.now c.args.bitmap.now c.args.y c.args.predicted c.nominal_neighbours-neighbours.result c.if-not-coding.true c.nominal_neighbours-neighbours.ensures c.in_ok-push_pixels.ensures.pixels

pub returns-then-typical-clause-row : goal.returns-then-typical-clause-row
returns-then-typical-clause-row g c =
    row-predicted c.args.encoder.now c.push.new.self c.args.coding.now c.args.bitmap.now c.args.y c.row_context.result c.args.predicted c.is_as_above-typical.result c.if-not-coding.false c.is_as_above-typical.ensures.value c.if-typical.true c.row_context.ensures.value c.in_ok-push.ensures.coded

pub returns-clause-row : goal.returns-clause-row
returns-clause-row g c =
    row-read c.args.encoder.now c.push.new.self c.push_pixels-2.new.encoder c.args.coding.now c.args.bitmap.now c.args.y c.row_context.result c.args.predicted c.is_as_above-typical.result c.nominal_neighbours-neighbours.result c.if-not-coding.false c.is_as_above-typical.ensures.value c.if-typical.false c.row_context.ensures.value c.nominal_neighbours-neighbours.ensures c.in_ok-push.ensures.coded c.in_ok-push_pixels-2.ensures.pixels
