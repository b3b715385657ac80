use Rattle.std.proofs.Common.{◌≡◌, ◌≤◌, ◌+◌, ◌*◌, ◌<◌, ℕ, length, refl, rules, subst, ◌∙◌, arith}
use Rattle.jbig2_base.specs.Counts.{WritesWithin}
use Rattle.jbig2_halftone.specs.HalftoneHeader.{HalftoneHeader}
use Rattle.jbig2_halftone.specs.inner.HalftoneHeaderViews.{header_view}
use Rattle.jbig2_halftone.specs.Patterns.{Patterns}
use Rattle.jbig2_halftone.specs.inner.DictionaryViews.{dictionary_view}
use Rattle.jbig2_halftone.specs.Steps.{words_of_cells}
use Rattle.jbig2_halftone.proofs.CellLemmas.{x-further, y-further, below-x, below-y, rows-drawn, rows-fault, rows-none, rows-whole}
use Rattle.jbig2_halftone.proofs.DrawSteps.{rows-start, rows-more, rows-within}
use Rattle.jbig2_halftone.proofs.RowLemmas.{part-length, row-inside}
use Rattle.jbig2_halftone.proofs.halftone.draw_rows.Goals as goal

pub loop-m-init : goal.loop-m-init
loop-m-init g c =
    let h : HalftoneHeader = header_view c.args.header.now in
    let d : Patterns = dictionary_view c.args.dictionary.now in
    let w : ℕ = h.grid_position_and_size.width in
    record {
      x = c.first_place-first.ensures.x;
      y = c.first_place-first.ensures.y;
      drawn = rows-none h d w c.args.values.now c.args.bitmap.now;
      size = c.requires.region;
      counts = rows-start h d w c.args.steps.now;
    }

pub returns-in-Err-clause-value : goal.returns-in-Err-clause-value
returns-in-Err-clause-value g c =
    let h : HalftoneHeader = header_view c.args.header.now in
    let d : Patterns = dictionary_view c.args.dictionary.now in
    let w : ℕ = h.grid_position_and_size.width in
    let inside : c.loop-m.m * w + w ≤ length c.args.values.now = row-inside w c.args.rows c.loop-m.m (length c.args.values.now) (omega arith) c.requires.sized in
    rows-fault h d ((c.loop-m.m + 1) * w) c.args.values.now c.args.bitmap.now c.in-Err.error
    (rows-drawn h d w c.loop-m.m _ c.args.values.now _ c.args.bitmap.now c.loop-m.bitmap (omega arith) inside refl c.loop-m.invariant.drawn ∙ c.in-Err.ensures.value)

pub returns-in-Err-clause-steps : goal.returns-in-Err-clause-steps
returns-in-Err-clause-steps g c =
    let h : HalftoneHeader = header_view c.args.header.now in
    let d : Patterns = dictionary_view c.args.dictionary.now in
    let w : ℕ = h.grid_position_and_size.width in
    let inside : c.loop-m.m * w + w ≤ length c.args.values.now = row-inside w c.args.rows c.loop-m.m (length c.args.values.now) (omega arith) c.requires.sized in
    let here = subst (λ (n : ℕ). WritesWithin (words_of_cells h d (c.loop-m.m * w) n) c.loop-m.steps c.draw_row.new.steps) (part-length (c.loop-m.m * w) w c.args.values.now inside) c.in-Err.ensures.steps in
    rows-within h d (c.loop-m.m + 1) c.args.rows w c.args.steps.now c.draw_row.new.steps (omega arith) (rows-more h d c.loop-m.m w c.args.steps.now c.loop-m.steps c.draw_row.new.steps c.loop-m.invariant.counts here)

pub next_row-first-requires-clause-x : goal.next_row-first-requires-clause-x
next_row-first-requires-clause-x g c =
    let h : HalftoneHeader = header_view c.args.header.now in
    let across : h.grid_vector.x_vector < 65536 = search rules in
    let down : h.grid_vector.y_vector < 65536 = search rules in
    x-further h.grid_position_and_size.horizontal_offset c.loop-m.first.x c.loop-m.m 0 h.grid_vector.y_vector h.grid_vector.x_vector h.grid_vector.y_vector c.first_place-first.ensures.x_fits (omega arith) (omega arith) down across down c.loop-m.invariant.x

pub next_row-first-requires-clause-y : goal.next_row-first-requires-clause-y
next_row-first-requires-clause-y g c =
    let h : HalftoneHeader = header_view c.args.header.now in
    let across : h.grid_vector.x_vector < 65536 = search rules in
    let down : h.grid_vector.y_vector < 65536 = search rules in
    (y-further h.grid_position_and_size.vertical_offset c.loop-m.first.y c.loop-m.m 0 h.grid_vector.x_vector h.grid_vector.y_vector h.grid_vector.x_vector c.first_place-first.ensures.y_fits (omega arith) (omega arith) across down across c.loop-m.invariant.y).1

pub loop-m-preserved : goal.loop-m-preserved
loop-m-preserved g c =
    let h : HalftoneHeader = header_view c.args.header.now in
    let d : Patterns = dictionary_view c.args.dictionary.now in
    let w : ℕ = h.grid_position_and_size.width in
    let inside : c.loop-m.m * w + w ≤ length c.args.values.now = row-inside w c.args.rows c.loop-m.m (length c.args.values.now) (omega arith) c.requires.sized in
    let here = subst (λ (n : ℕ). WritesWithin (words_of_cells h d (c.loop-m.m * w) n) c.loop-m.steps c.draw_row.new.steps) (part-length (c.loop-m.m * w) w c.args.values.now inside) c.in-Ok.ensures.steps in
    record {
      x = below-x h.grid_position_and_size.horizontal_offset c.loop-m.first.x c.next_row-first.result.x c.loop-m.m h.grid_vector.y_vector h.grid_vector.x_vector c.loop-m.invariant.x c.next_row-first.ensures.x;
      y = below-y h.grid_position_and_size.vertical_offset c.loop-m.first.y c.next_row-first.result.y c.loop-m.m h.grid_vector.x_vector h.grid_vector.y_vector c.loop-m.invariant.y c.next_row-first.ensures.y;
      drawn = rows-drawn h d w c.loop-m.m _ c.args.values.now _ c.args.bitmap.now c.loop-m.bitmap (omega arith) inside refl c.loop-m.invariant.drawn ∙ c.in-Ok.ensures.value;
      size = record { columns = c.in-Ok.ensures.size.columns ∙ c.loop-m.invariant.size.columns; rows = c.in-Ok.ensures.size.rows ∙ c.loop-m.invariant.size.rows };
      counts = rows-more h d c.loop-m.m w c.args.steps.now c.loop-m.steps c.draw_row.new.steps c.loop-m.invariant.counts here;
    }

pub returns-clause-value : goal.returns-clause-value
returns-clause-value g c =
    let h : HalftoneHeader = header_view c.args.header.now in
    let w : ℕ = h.grid_position_and_size.width in
    let last : c.loop-m.m ≡ c.args.rows = omega arith in
    let all : length c.args.values.now ≤ c.loop-m.m * w = rw last (omega (arith, c.requires.sized)) in
    rows-whole h (dictionary_view c.args.dictionary.now) (c.loop-m.m * w) c.args.values.now c.args.bitmap.now c.loop-m.bitmap all c.loop-m.invariant.drawn

pub returns-clause-steps : goal.returns-clause-steps
returns-clause-steps g c =
    let h : HalftoneHeader = header_view c.args.header.now in
    let d : Patterns = dictionary_view c.args.dictionary.now in
    let w : ℕ = h.grid_position_and_size.width in
    let last : c.loop-m.m ≡ c.args.rows = omega arith in
    subst (λ (m : ℕ). WritesWithin (words_of_cells h d 0 (m * w)) c.args.steps.now c.loop-m.steps) last c.loop-m.invariant.counts
