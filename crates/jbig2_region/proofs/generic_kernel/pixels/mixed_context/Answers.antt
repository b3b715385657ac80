use Rattle.std.proofs.Common.{arith, refl, ◌∙◌}
use Rattle.jbig2_region.proofs.ContextBits.{lt-few, lt-sum, pow-few}
use Rattle.jbig2_region.proofs.WindowLemmas.{mixed-context}
use Rattle.jbig2_region.proofs.generic_kernel.pixels.mixed_context.Goals as goal

pub join-after_above-requires-clause-high : goal.join-after_above-requires-clause-high
join-after_above-requires-clause-high g c =
    let bound = c.join-after_middle.ensures.bound _ c.context_at-last.ensures.small in
    lt-few _ _ bound (omega (arith, c.requires.mixed.few))

pub join-after_first-requires-clause-high : goal.join-after_first-requires-clause-high
join-after_first-requires-clause-high g c =
    let bound = c.join-after_above.ensures.bound _ (c.join-after_middle.ensures.bound _ c.context_at-last.ensures.small) in
    lt-few _ _ bound (omega (arith, c.requires.mixed.few))

pub join-after_left-requires-clause-high : goal.join-after_left-requires-clause-high
join-after_left-requires-clause-high g c =
    let bound = c.join-after_first.ensures.bound _ (c.join-after_above.ensures.bound _ (c.join-after_middle.ensures.bound _ c.context_at-last.ensures.small)) in
    lt-few _ _ bound (omega (arith, c.requires.mixed.few))

pub join-requires-clause-high : goal.join-requires-clause-high
join-requires-clause-high g c =
    let bound = c.join-after_left.ensures.bound _ (c.join-after_first.ensures.bound _ (c.join-after_above.ensures.bound _ (c.join-after_middle.ensures.bound _ c.context_at-last.ensures.small))) in
    lt-few _ _ bound (omega (arith, c.requires.mixed.few))

pub returns-clause-value : goal.returns-clause-value
returns-clause-value g c =
    c.join.ensures.value
    ∙ rw (c.join-after_left.ensures.value, c.join-after_first.ensures.value, c.join-after_above.ensures.value, c.join-after_middle.ensures.value, c.context_at-first.ensures.value, c.context_at-middle.ensures.value, c.context_at-last.ensures.value, c.stretch_bits-above.ensures.value, c.stretch_bits-top.ensures.value, pow-few c.args.neighbours.left (omega (arith, c.requires.mixed.near.left)))
    (mixed-context c.args.neighbours c.args.adaptive.now c.args.bitmap.now c.args.bitmap.now c.args.place.x c.args.place.y c.args.offset c.args.left c.args.windows c.requires.mixed.near c.requires.offset (λ i j less. refl) c.requires.shows c.requires.left)

pub returns-clause-bound : goal.returns-clause-bound
returns-clause-bound g c =
    let bound = c.join.ensures.bound _ (c.join-after_left.ensures.bound _ (c.join-after_first.ensures.bound _ (c.join-after_above.ensures.bound _ (c.join-after_middle.ensures.bound _ c.context_at-last.ensures.small)))) in
    lt-sum _ _ _ bound (omega arith)
