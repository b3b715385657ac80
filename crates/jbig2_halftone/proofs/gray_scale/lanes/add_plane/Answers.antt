use Rattle.std.proofs.Common.{◌≡◌, ◌≤◌, ◌+◌, ◌*◌, ℕ, length, refl, ap, sym, ◌∙◌, arith}
use Rattle.jbig2_halftone.proofs.RowLemmas.{counts-more, counts-one, counts-start, part-length, row-inside, rows-begin, rows-put}
use Rattle.jbig2_halftone.proofs.gray_scale.lanes.add_plane.Goals as goal

pub loop-y-init : goal.loop-y-init
loop-y-init g c = record { rows = rows-begin c.args.plane.now c.args.values.now; counts = counts-start c.args.plane.now.width c.args.steps.now }

pub loop-y-preserved : goal.loop-y-preserved
loop-y-preserved g c =
    let w : ℕ = c.width-columns.result in
    let wide : w ≡ c.args.plane.now.width = c.width-columns.ensures.value in
    let inside : c.loop-y.y * w + w ≤ length c.loop-y.values = row-inside w c.args.plane.now.height c.loop-y.y (length c.loop-y.values) (omega arith) (c.loop-y.auto.values ∙ c.requires.sized ∙ ap (λ (n : ℕ). n * c.args.plane.now.height) (sym wide)) in
    record {
      rows = rows-put c.args.plane.now c.loop-y.y (c.loop-y.y * w) _ c.args.values.now c.loop-y.values _ c.add_row.new.values (ap (λ (n : ℕ). c.loop-y.y * n) wide) (omega arith) (omega (arith, c.add_row.auto.values, part-length (c.loop-y.y * w) w c.loop-y.values inside)) (omega arith) refl c.add_row.ensures.value c.loop-y.invariant.rows;
      counts = counts-more c.loop-y.y 1 (c.loop-y.y + 1) c.args.plane.now.width c.args.steps.now c.loop-y.steps c.add_row.new.steps refl c.loop-y.invariant.counts (c.add_row.ensures.steps ∙ counts-one c.args.plane.now.width c.loop-y.steps);
    }
