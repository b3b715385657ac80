use Rattle.std.proofs.Common.{◌≡◌, ◌+◌, ◌*◌, ◌<◌, ℕ, rules, Ok, false, ap, ◌∙◌, arith}
use Rattle.jbig2_base.specs.Counts.{Counts, bitmap_made}
use Rattle.jbig2_base.specs.Grid.{Grid}
use Rattle.jbig2_halftone.specs.HalftoneHeader.{HalftoneHeader}
use Rattle.jbig2_halftone.specs.inner.HalftoneHeaderViews.{header_view}
use Rattle.jbig2_halftone.specs.Patterns.{Patterns}
use Rattle.jbig2_halftone.specs.inner.DictionaryViews.{dictionary_view}
use Rattle.jbig2_halftone.proofs.CellLemmas.{x-further, y-further, right-x, right-y, below-x, below-y, outside-known, skips, skips-start, skips-next, skips-all}
use Rattle.jbig2_halftone.proofs.DrawSteps.{mask-start, mask-more}
use Rattle.jbig2_region.specs.Raster.{so_far}
use Rattle.jbig2_halftone.proofs.PatternLemmas.{blank-made}
use Rattle.jbig2_halftone.proofs.halftone.skip_bitmap.Goals as goal

pub loop-m-init : goal.loop-m-init
loop-m-init g c =
    let h : HalftoneHeader = header_view c.args.header.now in
    let d : Patterns = dictionary_view c.args.dictionary.now in
    record {
      x = c.first_place-first.ensures.x;
      y = c.first_place-first.ensures.y;
      skips = skips-start h d h.grid_position_and_size.width h.grid_position_and_size.height c.in_ok-skip.skip (blank-made h.grid_position_and_size.width h.grid_position_and_size.height false c.in_ok-skip.skip c.requires.columns c.requires.rows c.in_ok-skip.ensures.value);
      counts = c.new.ensures.steps ∙ mask-start h.grid_position_and_size.width (bitmap_made c.args.header.now.grid_position_and_size.width c.args.header.now.grid_position_and_size.height c.args.steps.now);
    }

pub next_in_row-place-requires-clause-x : goal.next_in_row-place-requires-clause-x
next_in_row-place-requires-clause-x g c =
    let h : HalftoneHeader = header_view c.args.header.now in
    let across : h.grid_vector.x_vector < 65536 = search rules in
    let down : h.grid_vector.y_vector < 65536 = search rules in
    x-further h.grid_position_and_size.horizontal_offset c.loop-n.place.x c.loop-m.m c.loop-n.n h.grid_vector.y_vector h.grid_vector.x_vector h.grid_vector.x_vector c.first_place-first.ensures.x_fits (omega arith) (omega arith) down across across c.loop-n.invariant.x

pub next_in_row-place-requires-clause-y : goal.next_in_row-place-requires-clause-y
next_in_row-place-requires-clause-y g c =
    let h : HalftoneHeader = header_view c.args.header.now in
    let across : h.grid_vector.x_vector < 65536 = search rules in
    let down : h.grid_vector.y_vector < 65536 = search rules in
    (y-further h.grid_position_and_size.vertical_offset c.loop-n.place.y c.loop-m.m c.loop-n.n h.grid_vector.x_vector h.grid_vector.y_vector h.grid_vector.y_vector c.first_place-first.ensures.y_fits (omega arith) (omega arith) across down down c.loop-n.invariant.y).0

pub loop-n-preserved : goal.loop-n-preserved
loop-n-preserved g c =
    let h : HalftoneHeader = header_view c.args.header.now in
    let d : Patterns = dictionary_view c.args.dictionary.now in
    let outside = outside-known h d c.loop-m.m c.loop-n.n c.loop-n.place.x c.loop-n.place.y c.lies_outside-outside.result c.loop-n.invariant.x c.loop-n.invariant.y c.lies_outside-outside.ensures in
    record {
      x = right-x h.grid_position_and_size.horizontal_offset c.loop-n.place.x c.next_in_row-place.result.x c.loop-m.m c.loop-n.n h.grid_vector.y_vector h.grid_vector.x_vector c.loop-n.invariant.x c.next_in_row-place.ensures.x;
      y = right-y h.grid_position_and_size.vertical_offset c.loop-n.place.y c.next_in_row-place.result.y c.loop-m.m c.loop-n.n h.grid_vector.x_vector h.grid_vector.y_vector c.loop-n.invariant.y c.next_in_row-place.ensures.y;
      skips = skips-next h d h.grid_position_and_size.width h.grid_position_and_size.height c.loop-m.m c.loop-n.n c.loop-n.skip c.set_pixel.new.self c.lies_outside-outside.result (omega arith) (omega arith) c.loop-n.invariant.skips outside c.set_pixel.ensures.value;
      counts = mask-more (c.loop-m.m * h.grid_position_and_size.width) c.loop-n.n (bitmap_made c.args.header.now.grid_position_and_size.width c.args.header.now.grid_position_and_size.height c.args.steps.now) c.loop-n.steps c.set_pixel.new.steps c.loop-n.invariant.counts c.set_pixel.ensures.steps;
    }

pub next_row-first-requires-clause-x : goal.next_row-first-requires-clause-x
next_row-first-requires-clause-x g c =
    let h : HalftoneHeader = header_view c.args.header.now in
    let across : h.grid_vector.x_vector < 65536 = search rules in
    let down : h.grid_vector.y_vector < 65536 = search rules in
    x-further h.grid_position_and_size.horizontal_offset c.loop-m.first.x c.loop-m.m 0 h.grid_vector.y_vector h.grid_vector.x_vector h.grid_vector.y_vector c.first_place-first.ensures.x_fits (omega arith) (omega arith) down across down c.loop-m.invariant.x

pub next_row-first-requires-clause-y : goal.next_row-first-requires-clause-y
next_row-first-requires-clause-y g c =
    let h : HalftoneHeader = header_view c.args.header.now in
    let across : h.grid_vector.x_vector < 65536 = search rules in
    let down : h.grid_vector.y_vector < 65536 = search rules in
    (y-further h.grid_position_and_size.vertical_offset c.loop-m.first.y c.loop-m.m 0 h.grid_vector.x_vector h.grid_vector.y_vector h.grid_vector.x_vector c.first_place-first.ensures.y_fits (omega arith) (omega arith) across down across c.loop-m.invariant.y).1

pub loop-m-preserved : goal.loop-m-preserved
loop-m-preserved g c =
    let h : HalftoneHeader = header_view c.args.header.now in
    let d : Patterns = dictionary_view c.args.dictionary.now in
    let w : ℕ = h.grid_position_and_size.width in
    let whole : c.loop-n.n ≡ w = omega arith in
    let row : c.loop-m.m * w + c.loop-n.n ≡ (c.loop-m.m + 1) * w = omega (arith, whole) in
    record {
      x = below-x h.grid_position_and_size.horizontal_offset c.loop-m.first.x c.next_row-first.result.x c.loop-m.m h.grid_vector.y_vector h.grid_vector.x_vector c.loop-m.invariant.x c.next_row-first.ensures.x;
      y = below-y h.grid_position_and_size.vertical_offset c.loop-m.first.y c.next_row-first.result.y c.loop-m.m h.grid_vector.x_vector h.grid_vector.y_vector c.loop-m.invariant.y c.next_row-first.ensures.y;
      skips = c.loop-n.invariant.skips ∙ ap (λ (k : ℕ). so_far h.grid_position_and_size.width h.grid_position_and_size.height (skips h d h.grid_position_and_size.width k)) row;
      counts = c.loop-n.invariant.counts ∙ ap (λ (k : ℕ). let made : Counts = record (bitmap_made c.args.header.now.grid_position_and_size.width c.args.header.now.grid_position_and_size.height c.args.steps.now) { words = c.args.steps.now.words + k } in made) row;
    }

pub returns-clause-value : goal.returns-clause-value
returns-clause-value g c =
    let h : HalftoneHeader = header_view c.args.header.now in
    let d : Patterns = dictionary_view c.args.dictionary.now in
    ap (λ (b : Grid). Ok b) (skips-all h d c.loop-m.m c.loop-m.skip (omega arith) c.loop-m.invariant.skips)

pub returns-clause-steps : goal.returns-clause-steps
returns-clause-steps g c =
    let h : HalftoneHeader = header_view c.args.header.now in
    let last : c.loop-m.m ≡ h.grid_position_and_size.height = omega arith in
    c.loop-m.invariant.counts ∙ ap (λ (m : ℕ). let made : Counts = record (bitmap_made c.args.header.now.grid_position_and_size.width c.args.header.now.grid_position_and_size.height c.args.steps.now) { words = c.args.steps.now.words + m * h.grid_position_and_size.width } in made) last
