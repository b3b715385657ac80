use Rattle.std.proofs.Common.{arith, ◌+◌, ◌-◌, ◌/◌, ◌^◌}
use Rattle.jbig2_region.proofs.RefinementKnownLemmas.{copied-fits, copied-value}
use Rattle.jbig2_region.proofs.refinement_kernel.windows.RefinementWindows.copied_pixels.Goals as goal

pub overflow_add-result-2 : goal.overflow_add-result-2
overflow_add-result-2 c =
    let fits = copied-fits c.args.pixels (c.args.self.here / 2 ^ (63 - (c.args.offset + c.args.count))) c.args.offset c.args.count c.requires.within c.requires.room in
    omega (arith, fits)

pub returns : goal.returns
returns c = copied-value c.args.pixels _ c.args.offset c.args.count c.requires.within c.requires.room
