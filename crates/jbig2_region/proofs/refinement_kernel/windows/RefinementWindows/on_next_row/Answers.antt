use Rattle.std.proofs.Common.{arith, rules, pos, negsuc, ◌+ℤ◌}
use Rattle.std.proofs.lemmas.Int.{ints}
use Rattle.jbig2_region.proofs.RefinementWindowLemmas.{sees-at}
use Rattle.jbig2_region.proofs.refinement_kernel.windows.RefinementWindows.on_next_row.Goals as goal

pub returns-clause-value : goal.returns-clause-value
returns-clause-value g c = λ grid grid' up next sees all bits. record {
  region = sees-at grid' (negsuc 0) (pos 0 +ℤ negsuc 0) (pos up) (pos c.args.y +ℤ negsuc 0) c.row_window.result (c.row_window.ensures grid' up all bits) (omega (arith, ints)) (omega (arith, ints));
  above = sees-at c.args.reference.now.bitmap.now _ _ _ _ c.args.self.here sees.here (search rules) (omega (arith, ints));
  here = sees-at c.args.reference.now.bitmap.now _ _ _ _ c.args.self.below sees.below (search rules) (omega (arith, ints));
  below = c.window_below.ensures.value;
}
