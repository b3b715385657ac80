use Rattle.std.proofs.Common.{◌+◌, true, false, arith, refl, sym, ◌∙◌}
use Rattle.jbig2_region.specs.inner.RegionStates.{region_state, source_of}
use Rattle.jbig2_region.specs.Raster.{no_pixels}
use Rattle.jbig2_region.proofs.WholeRowLemmas.{has-none, rows-counted, rows-more, whole-here, whole-next, whole-none, within-row}
use Rattle.jbig2_region.proofs.raster.count_whole_rows.Goals as goal

pub loop-y-init : goal.loop-y-init
loop-y-init g c = record {
  rows = has-none (g.C.PixelCoding.coding c.args.coding.now) _ c.args.bitmap.now c.args.decoder.now c.args.contexts.now c.args.steps.now c.requires.ready.white;
  whole = whole-none (g.C.PixelCoding.coding c.args.coding.now) (source_of (region_state c.args.bitmap.now c.args.decoder.now c.args.contexts.now));
}

pub loop-y-preserved : goal.loop-y-preserved
loop-y-preserved g c =
    let has = rows-more (g.C.PixelCoding.bits c.args.coding.now + g.C.PixelCoding.known_loads c.args.coding.now) c.row_context.result c.begin_row-predicted.result c.begin_row-predicted.new.decoder c.begin_row-predicted.new.contexts c.begin_row-predicted.new.steps c.decode_row.new.bitmap c.decode_row.new.decoder c.decode_row.new.contexts c.decode_row.new.steps c.loop-y.invariant.rows c.row_context.ensures.value c.begin_row-predicted.ensures.row c.begin_row-predicted.ensures.bytes c.begin_row-predicted.ensures.steps c.decode_row.ensures.decoded c.decode_row.ensures.words c.decode_row.ensures.loads in
    record {
      rows = has;
      whole =
          whole-next (g.C.PixelCoding.coding c.args.coding.now) (source_of (region_state c.args.bitmap.now c.args.decoder.now c.args.contexts.now)) c.loop-y.y c.loop-y.invariant.whole
          (within-row (g.C.PixelCoding.coding c.args.coding.now) c.args.bitmap.now.width c.args.bitmap.now.height c.args.decoder.now.bytes (no_pixels c.args.decoder.now.registers c.args.contexts.now) c.loop-y.y c.decode_row.new.bitmap c.decode_row.new.decoder c.decode_row.new.contexts true refl c.requires.some has.rows.has_decoded (sym c.if-not-is_within_data.false ∙ c.is_within_data.ensures));
    }

pub returns-then-not-is_within_data-clause-rows : goal.returns-then-not-is_within_data-clause-rows
returns-then-not-is_within_data-clause-rows g c =
    let has = rows-more (g.C.PixelCoding.bits c.args.coding.now + g.C.PixelCoding.known_loads c.args.coding.now) c.row_context.result c.begin_row-predicted.result c.begin_row-predicted.new.decoder c.begin_row-predicted.new.contexts c.begin_row-predicted.new.steps c.decode_row.new.bitmap c.decode_row.new.decoder c.decode_row.new.contexts c.decode_row.new.steps c.loop-y.invariant.rows c.row_context.ensures.value c.begin_row-predicted.ensures.row c.begin_row-predicted.ensures.bytes c.begin_row-predicted.ensures.steps c.decode_row.ensures.decoded c.decode_row.ensures.words c.decode_row.ensures.loads in
    whole-here (g.C.PixelCoding.coding c.args.coding.now) (source_of (region_state c.args.bitmap.now c.args.decoder.now c.args.contexts.now)) c.loop-y.y c.args.bitmap.now.height c.loop-y.invariant.whole
    (within-row (g.C.PixelCoding.coding c.args.coding.now) c.args.bitmap.now.width c.args.bitmap.now.height c.args.decoder.now.bytes (no_pixels c.args.decoder.now.registers c.args.contexts.now) c.loop-y.y c.decode_row.new.bitmap c.decode_row.new.decoder c.decode_row.new.contexts false refl c.requires.some has.rows.has_decoded (sym c.if-not-is_within_data.true ∙ c.is_within_data.ensures)) (omega arith)

pub returns-then-not-is_within_data-clause-steps : goal.returns-then-not-is_within_data-clause-steps
returns-then-not-is_within_data-clause-steps g c =
    let has = rows-more (g.C.PixelCoding.bits c.args.coding.now + g.C.PixelCoding.known_loads c.args.coding.now) c.row_context.result c.begin_row-predicted.result c.begin_row-predicted.new.decoder c.begin_row-predicted.new.contexts c.begin_row-predicted.new.steps c.decode_row.new.bitmap c.decode_row.new.decoder c.decode_row.new.contexts c.decode_row.new.steps c.loop-y.invariant.rows c.row_context.ensures.value c.begin_row-predicted.ensures.row c.begin_row-predicted.ensures.bytes c.begin_row-predicted.ensures.steps c.decode_row.ensures.decoded c.decode_row.ensures.words c.decode_row.ensures.loads in
    rows-counted (g.C.PixelCoding.coding c.args.coding.now) _ c.args.bitmap.now c.args.decoder.now c.args.contexts.now c.args.steps.now (c.loop-y.y + 1) _ _ _ _ _ (omega arith) has

pub returns-clause-steps : goal.returns-clause-steps
returns-clause-steps g c =
    rows-counted (g.C.PixelCoding.coding c.args.coding.now) _ c.args.bitmap.now c.args.decoder.now c.args.contexts.now c.args.steps.now c.loop-y.y _ _ _ _ _ (omega arith) c.loop-y.invariant.rows
