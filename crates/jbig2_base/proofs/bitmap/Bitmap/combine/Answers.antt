use Rattle.jbig2_base.proofs.CombineLemmas.{as-natural, stamp-combined, stamp-counts, stamp-within}
use Rattle.jbig2_base.proofs.bitmap.Bitmap.combine.Goals as goal

pub returns-then-lies_within-clause-value : goal.returns-then-lies_within-clause-value
returns-then-lies_within-clause-value g c = stamp-combined c.args.operator c.args.self.now c.args.other.now c.stamp.new.page c.args.x c.args.y _ _ (as-natural c.args.x c.ranges.x c.if-x-ge0.true) (as-natural c.args.y c.ranges.y c.if-y-ge0.true) (c.lies_within.ensures.inside c.if-lies_within.true).right (c.lies_within.ensures.inside c.if-lies_within.true).bottom c.stamp.ensures.value

pub returns-then-lies_within-clause-steps : goal.returns-then-lies_within-clause-steps
returns-then-lies_within-clause-steps g c = stamp-within c.args.self.now c.args.other.now c.args.x c.args.y _ _ c.args.steps.now c.stamp.new.steps (as-natural c.args.x c.ranges.x c.if-x-ge0.true) (as-natural c.args.y c.ranges.y c.if-y-ge0.true) (c.lies_within.ensures.inside c.if-lies_within.true) c.stamp.ensures.steps

pub returns-then-lies_within-clause-exact : goal.returns-then-lies_within-clause-exact
returns-then-lies_within-clause-exact g c = stamp-counts c.args.self.now c.args.other.now c.args.x c.args.y _ _ c.args.steps.now c.stamp.new.steps (as-natural c.args.x c.ranges.x c.if-x-ge0.true) (as-natural c.args.y c.ranges.y c.if-y-ge0.true) (c.lies_within.ensures.inside c.if-lies_within.true) c.stamp.ensures.steps
