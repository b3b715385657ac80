use Rattle.std.proofs.Common.{◌≡◌, ◌+◌, ◌*◌, ◌<◌, ℕ, ℤ, arith, rules, drop, w32, sym, ap, subst, ◌∙◌, refl}
use Rattle.std.specs.Int.{int_shr}
use mir.Val.{SFits}
use Rattle.jbig2_base.specs.Grid.{Grid}
use Rattle.jbig2_halftone.specs.Halftone.{cells_drawn, with_cell}
use Rattle.jbig2_halftone.specs.HalftoneHeader.{HalftoneHeader}
use Rattle.jbig2_halftone.specs.inner.HalftoneHeaderViews.{header_view}
use Rattle.jbig2_halftone.specs.Patterns.{Patterns}
use Rattle.jbig2_halftone.specs.inner.DictionaryViews.{dictionary_view}
use Rattle.jbig2_halftone.proofs.CellLemmas.{cells-first, cells-next, cells-fault, cells-all, cell-made, x-fits, y-fits, x-further, y-further, right-x, right-y}
use Rattle.jbig2_halftone.proofs.DrawSteps.{cells-start, cells-more, cells-within}
use Rattle.jbig2_halftone.proofs.halftone.draw_row.Goals as goal

pub loop-value-init : goal.loop-value-init
loop-value-init g c = record {
  x = c.requires.x;
  y = c.requires.y;
  drawn = cells-first (header_view c.args.header.now) (dictionary_view c.args.dictionary.now) c.args.m c.args.values.now c.args.bitmap.now;
  size = record { columns = refl; rows = refl };
  counts = cells-start (header_view c.args.header.now) (dictionary_view c.args.dictionary.now) (c.args.m * c.args.header.now.grid_position_and_size.width) c.args.steps.now;
}

pub returns-in-Err-clause-value : goal.returns-in-Err-clause-value
returns-in-Err-clause-value g c =
    let h : HalftoneHeader = header_view c.args.header.now in
    let d : Patterns = dictionary_view c.args.dictionary.now in
    sym c.loop-value.invariant.drawn ∙ cells-fault h d (c.args.m * h.grid_position_and_size.width + c.loop-value.value-index) c.loop-value.value-index c.args.values.now c.loop-value.bitmap c.in-Err.error (omega arith) c.in-Err.ensures.value

pub returns-in-Err-clause-steps : goal.returns-in-Err-clause-steps
returns-in-Err-clause-steps g c = cells-within (header_view c.args.header.now) (dictionary_view c.args.dictionary.now) (c.args.m * c.args.header.now.grid_position_and_size.width) c.loop-value.value-index _ c.args.steps.now c.loop-value.steps (omega arith) c.loop-value.invariant.counts

pub draw_cell-requires-clause-x : goal.draw_cell-requires-clause-x
draw_cell-requires-clause-x g c =
    let h : HalftoneHeader = header_view c.args.header.now in
    let across : h.grid_vector.x_vector < 65536 = search rules in
    let down : h.grid_vector.y_vector < 65536 = search rules in
    subst (λ (z : ℤ). SFits w32 (int_shr z 8)) (sym c.loop-value.invariant.x) (x-fits h.grid_position_and_size.horizontal_offset c.args.m c.loop-value.value-index h.grid_vector.y_vector h.grid_vector.x_vector c.requires.x_fits c.requires.row (omega arith) down across)

pub draw_cell-requires-clause-y : goal.draw_cell-requires-clause-y
draw_cell-requires-clause-y g c =
    let h : HalftoneHeader = header_view c.args.header.now in
    let across : h.grid_vector.x_vector < 65536 = search rules in
    let down : h.grid_vector.y_vector < 65536 = search rules in
    subst (λ (z : ℤ). SFits w32 (int_shr z 8)) (sym c.loop-value.invariant.y) (y-fits h.grid_position_and_size.vertical_offset c.args.m c.loop-value.value-index h.grid_vector.x_vector h.grid_vector.y_vector c.requires.y_fits c.requires.row (omega arith) across down)

pub next_in_row-place-requires-clause-x : goal.next_in_row-place-requires-clause-x
next_in_row-place-requires-clause-x g c =
    let h : HalftoneHeader = header_view c.args.header.now in
    let across : h.grid_vector.x_vector < 65536 = search rules in
    let down : h.grid_vector.y_vector < 65536 = search rules in
    x-further h.grid_position_and_size.horizontal_offset c.loop-value.place.x c.args.m c.loop-value.value-index h.grid_vector.y_vector h.grid_vector.x_vector h.grid_vector.x_vector c.requires.x_fits c.requires.row (omega arith) down across across c.loop-value.invariant.x

pub next_in_row-place-requires-clause-y : goal.next_in_row-place-requires-clause-y
next_in_row-place-requires-clause-y g c =
    let h : HalftoneHeader = header_view c.args.header.now in
    let across : h.grid_vector.x_vector < 65536 = search rules in
    let down : h.grid_vector.y_vector < 65536 = search rules in
    (y-further h.grid_position_and_size.vertical_offset c.loop-value.place.y c.args.m c.loop-value.value-index h.grid_vector.x_vector h.grid_vector.y_vector h.grid_vector.y_vector c.requires.y_fits c.requires.row (omega arith) across down down c.loop-value.invariant.y).0

pub loop-value-preserved : goal.loop-value-preserved
loop-value-preserved g c =
    let h : HalftoneHeader = header_view c.args.header.now in
    let d : Patterns = dictionary_view c.args.dictionary.now in
    let n : ℕ = c.loop-value.value-index in
    let k : ℕ = c.args.m * h.grid_position_and_size.width + n in
    let next : k + 1 ≡ c.args.m * h.grid_position_and_size.width + (n + 1) = omega arith in
    let made = cell-made h c.args.m n c.loop-value.bitmap c.in-Ok.pattern.now c.draw_cell.new.bitmap c.loop-value.place.x c.loop-value.place.y (omega arith) c.loop-value.invariant.x c.loop-value.invariant.y c.draw_cell.ensures.value in
    record {
      x = right-x h.grid_position_and_size.horizontal_offset c.loop-value.place.x c.next_in_row-place.result.x c.args.m n h.grid_vector.y_vector h.grid_vector.x_vector c.loop-value.invariant.x c.next_in_row-place.ensures.x;
      y = right-y h.grid_position_and_size.vertical_offset c.loop-value.place.y c.next_in_row-place.result.y c.args.m n h.grid_vector.x_vector h.grid_vector.y_vector c.loop-value.invariant.y c.next_in_row-place.ensures.y;
      drawn =
          ap (λ (r : Grid). cells_drawn h d (c.args.m * h.grid_position_and_size.width + (n + 1)) (drop (n + 1) c.args.values.now) r) made
          ∙ sym (ap (λ (i : ℕ). cells_drawn h d i (drop (n + 1) c.args.values.now) (with_cell h k c.in-Ok.pattern.now c.loop-value.bitmap)) next)
          ∙ sym (cells-next h d k n c.args.values.now c.loop-value.bitmap c.in-Ok.pattern.now (omega arith) c.in-Ok.ensures.value)
          ∙ c.loop-value.invariant.drawn;
      size = record { columns = ap (λ (r : Grid). r.width) c.draw_cell.ensures.value ∙ c.loop-value.invariant.size.columns; rows = ap (λ (r : Grid). r.height) c.draw_cell.ensures.value ∙ c.loop-value.invariant.size.rows };
      counts =
          cells-more h d c.args.m n c.loop-value.bitmap c.in-Ok.pattern.now (int_shr c.loop-value.place.x 8) (int_shr c.loop-value.place.y 8) c.args.steps.now c.loop-value.steps c.draw_cell.new.steps (omega arith)
          (ap (λ (z : ℤ). int_shr z 8) c.loop-value.invariant.x) (ap (λ (z : ℤ). int_shr z 8) c.loop-value.invariant.y)
          (record { columns = c.loop-value.invariant.size.columns ∙ c.requires.region.columns; rows = c.loop-value.invariant.size.rows ∙ c.requires.region.rows }) c.in-Ok.ensures.sized c.loop-value.invariant.counts c.draw_cell.ensures.steps;
    }

pub returns-clause-value : goal.returns-clause-value
returns-clause-value g c =
    let h : HalftoneHeader = header_view c.args.header.now in
    let d : Patterns = dictionary_view c.args.dictionary.now in
    sym c.loop-value.invariant.drawn ∙ cells-all h d (c.args.m * h.grid_position_and_size.width + c.loop-value.value-index) c.loop-value.value-index c.args.values.now c.loop-value.bitmap (omega arith)

pub returns-clause-steps : goal.returns-clause-steps
returns-clause-steps g c = cells-within (header_view c.args.header.now) (dictionary_view c.args.dictionary.now) (c.args.m * c.args.header.now.grid_position_and_size.width) c.loop-value.value-index _ c.args.steps.now c.loop-value.steps (omega arith) c.loop-value.invariant.counts
