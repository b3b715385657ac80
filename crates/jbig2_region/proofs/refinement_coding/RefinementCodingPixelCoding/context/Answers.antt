use Rattle.std.proofs.Common.{rules, ◌≡◌, ◌+◌, length}
use Rattle.jbig2_region.specs.Refinement.{refined_context}
use Rattle.jbig2_region.specs.RefinementTemplates.{refinement_bits}
use Rattle.jbig2_region.specs.inner.ReferenceViews.{reference_view}
use Rattle.jbig2_region.proofs.RefinementLemmas.{refined-value, refined-small}
use Rattle.jbig2_region.proofs.refinement_coding.RefinementCodingPixelCoding.context.Goals as goal

pub returns-clause-value : goal.returns-clause-value
returns-clause-value g c =
    refined-value (reference_view c.args.self.now.reference.now) c.args.self.now.in_reference.now c.args.self.now.in_region.now c.args.bitmap.now c.args.x c.args.y c.number.result c.context_at-high.result c.context_at-high.ensures.value c.number.ensures.value

pub returns-clause-small : goal.returns-clause-small
returns-clause-small g c =
    let value : c.number.result ≡ refined_context (reference_view c.args.self.now.reference.now) c.args.self.now.in_reference.now c.args.self.now.in_region.now c.args.bitmap.now c.args.x c.args.y =
    refined-value (reference_view c.args.self.now.reference.now) c.args.self.now.in_reference.now c.args.self.now.in_region.now c.args.bitmap.now c.args.x c.args.y c.number.result c.context_at-high.result c.context_at-high.ensures.value c.number.ensures.value in
    let all : length c.args.self.now.in_reference.now + length c.args.self.now.in_region.now ≡ refinement_bits c.args.self.now.template = search rules in
    rw (value, ← all) (refined-small (reference_view c.args.self.now.reference.now) c.args.self.now.in_reference.now c.args.self.now.in_region.now c.args.bitmap.now c.args.x c.args.y)
