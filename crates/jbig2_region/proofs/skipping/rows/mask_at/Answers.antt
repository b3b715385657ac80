use Rattle.std.proofs.Common.{Option, Bor, ap}
use Rattle.jbig2_base.specs.Grid.{Grid}
use Rattle.jbig2_region.specs.inner.RegionViews.{skip_of}
use Rattle.jbig2_region.proofs.SkippingLemmas.{no-mask}
use Rattle.jbig2_region.proofs.skipping.rows.mask_at.Goals as goal

pub returns-in_default-clause-value : goal.returns-in_default-clause-value
returns-in_default-clause-value g c = no-mask (skip_of c.args.skip) c.args.x c.args.y (ap (λ (o : Option (Bor Grid)). skip_of o) c.in_default.is)
