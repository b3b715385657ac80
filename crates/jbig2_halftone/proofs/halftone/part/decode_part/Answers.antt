use Rattle.std.proofs.Common.{◌≤◌, ◌∙◌, sym, arith}
use Rattle.jbig2_base.proofs.MadeLemmas.{made-paid}
use Rattle.jbig2_halftone.specs.GrayScale.{GrayScale}
use Rattle.jbig2_halftone.specs.Halftone.{gray_params}
use Rattle.jbig2_halftone.specs.HalftoneHeader.{HalftoneHeader}
use Rattle.jbig2_halftone.specs.Patterns.{Patterns}
use Rattle.jbig2_halftone.specs.inner.DictionaryViews.{dictionary_view}
use Rattle.jbig2_halftone.specs.inner.HalftoneHeaderViews.{header_view}
use Rattle.jbig2_halftone.proofs.WholeCellLemmas.{cells-taken, contexts-few, lenient_of, rows-few}
use Rattle.jbig2_halftone.proofs.WholeCellPrices.{part-paid, unread-paid}
use Rattle.jbig2_halftone.proofs.halftone.part.decode_part.Goals as goal

pub returns-in_err-values-clause-paid : goal.returns-in_err-values-clause-paid
returns-in_err-values-clause-paid g c =
    let h : HalftoneHeader = lenient_of (header_view c.args.header.now) in
    let d : Patterns = dictionary_view c.args.dictionary.now in
    let info = c.args.header.now.region_info in
    omega (arith, made-paid info.width info.height c.args.steps.now c.new_with.new.steps c.new_with.ensures.steps, unread-paid h d c.new_with.new.steps c.whole_rows.new.steps c.read_cells.new.steps c.in_ok-rows.ensures.paid c.in_err-values.ensures.stopped c.read_cells.ensures.most)

pub slice_bounds-drawn-end : goal.slice_bounds-drawn-end
slice_bounds-drawn-end g c =
    let h : HalftoneHeader = lenient_of (header_view c.args.header.now) in
    let p : GrayScale = gray_params h (dictionary_view c.args.dictionary.now) in
    sym (cells-taken p h.bytes c.in_ok-values.values.items c.deref.result.now c.in_ok-rows.rows c.in_ok-rows.ensures.value c.in_ok-values.ensures.value c.deref.ensures.value)

pub draw_rows-requires-clause-rows : goal.draw_rows-requires-clause-rows
draw_rows-requires-clause-rows g c =
    let h : HalftoneHeader = lenient_of (header_view c.args.header.now) in
    let p : GrayScale = gray_params h (dictionary_view c.args.dictionary.now) in
    let few : c.in_ok-rows.rows ≤ p.height = rows-few p h.bytes c.in_ok-rows.rows c.in_ok-rows.ensures.value in
    omega (arith, few, c.requires.rows)

pub draw_rows-requires-clause-sized : goal.draw_rows-requires-clause-sized
draw_rows-requires-clause-sized g c =
    let h : HalftoneHeader = lenient_of (header_view c.args.header.now) in
    let p : GrayScale = gray_params h (dictionary_view c.args.dictionary.now) in
    cells-taken p h.bytes c.in_ok-values.values.items c.deref.result.now c.in_ok-rows.rows c.in_ok-rows.ensures.value c.in_ok-values.ensures.value c.deref.ensures.value ∙ omega arith

pub returns-in_err-draw_rows-clause-paid : goal.returns-in_err-draw_rows-clause-paid
returns-in_err-draw_rows-clause-paid g c =
    let h : HalftoneHeader = lenient_of (header_view c.args.header.now) in
    let d : Patterns = dictionary_view c.args.dictionary.now in
    let few = rows-few (gray_params h d) h.bytes c.in_ok-rows.rows c.in_ok-rows.ensures.value in
    let info = c.args.header.now.region_info in
    omega (arith, made-paid info.width info.height c.args.steps.now c.new_with.new.steps c.new_with.ensures.steps, part-paid h d c.in_ok-rows.rows c.new_with.new.steps c.whole_rows.new.steps c.read_cells.new.steps c.draw_rows.new.steps few c.in_ok-rows.ensures.paid c.in_ok-values.ensures.steps c.read_cells.ensures.most c.draw_rows.ensures.steps)

pub returns-clause-few : goal.returns-clause-few
returns-clause-few g c =
    let h : HalftoneHeader = lenient_of (header_view c.args.header.now) in
    let d : Patterns = dictionary_view c.args.dictionary.now in
    contexts-few (gray_params h d) h.bytes c.args.contexts.now.items c.whole_rows.new.contexts.items c.read_cells.new.contexts.items c.in_ok-rows.ensures.few c.in_ok-values.ensures.contexts

pub returns-clause-paid : goal.returns-clause-paid
returns-clause-paid g c =
    let h : HalftoneHeader = lenient_of (header_view c.args.header.now) in
    let d : Patterns = dictionary_view c.args.dictionary.now in
    let few = rows-few (gray_params h d) h.bytes c.in_ok-rows.rows c.in_ok-rows.ensures.value in
    let info = c.args.header.now.region_info in
    omega (arith, made-paid info.width info.height c.args.steps.now c.new_with.new.steps c.new_with.ensures.steps, part-paid h d c.in_ok-rows.rows c.new_with.new.steps c.whole_rows.new.steps c.read_cells.new.steps c.draw_rows.new.steps few c.in_ok-rows.ensures.paid c.in_ok-values.ensures.steps c.read_cells.ensures.most c.draw_rows.ensures.steps)

pub returns-in_err-bitmap-clause-paid : goal.returns-in_err-bitmap-clause-paid
returns-in_err-bitmap-clause-paid g c =
    let info = c.args.header.now.region_info in
    omega (arith, made-paid info.width info.height c.args.steps.now c.new_with.new.steps c.new_with.ensures.steps)

pub returns-in_err-clone-2-clause-paid : goal.returns-in_err-clone-2-clause-paid
returns-in_err-clone-2-clause-paid g c =
    let info = c.args.header.now.region_info in
    omega (arith, made-paid info.width info.height c.args.steps.now c.new_with.new.steps c.new_with.ensures.steps)

pub returns-in_err-rows-clause-paid : goal.returns-in_err-rows-clause-paid
returns-in_err-rows-clause-paid g c =
    let info = c.args.header.now.region_info in
    omega (arith, made-paid info.width info.height c.args.steps.now c.new_with.new.steps c.new_with.ensures.steps, c.whole_rows.ensures.paid)
