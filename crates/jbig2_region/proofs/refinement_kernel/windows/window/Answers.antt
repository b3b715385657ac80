use Rattle.std.proofs.Common.{rules}
use Rattle.jbig2_region.proofs.RefinementWindowLemmas.{sees-none_above, sees-none_left, sees-left, sees-inside}
use Rattle.jbig2_region.proofs.refinement_kernel.windows.window.Goals.{then-row-lt0-via-then-row-lt0, then-row-lt0-via-else-row-lt0+then-column-ltminus63}
use Rattle.jbig2_region.proofs.refinement_kernel.windows.window.Goals as goal

pub returns-then-row-lt0-clause-value : goal.returns-then-row-lt0-clause-value
returns-then-row-lt0-clause-value g c =
    elim c.then-row-lt0.branch [
      | then-row-lt0-via-then-row-lt0 w ↦ sees-none_above c.args.bitmap.now c.args.column c.args.row (search rules)
      | then-row-lt0-via-else-row-lt0+then-column-ltminus63 w ↦ sees-none_left c.args.bitmap.now c.args.column c.args.row (search rules)
    ]

pub returns-then-column-lt0-clause-value : goal.returns-then-column-lt0-clause-value
returns-then-column-lt0-clause-value g c =
    sees-left c.args.bitmap.now c.args.column c.args.row c.load_pixels.result _ _ (search rules) (search rules) (search rules) (search rules) c.load_pixels.ensures.bits c.load_pixels.ensures.bound

pub returns-clause-value : goal.returns-clause-value
returns-clause-value g c = sees-inside c.args.bitmap.now c.args.column c.args.row c.load_pixels-2.result _ _ (search rules) (search rules) c.load_pixels-2.ensures.bits
