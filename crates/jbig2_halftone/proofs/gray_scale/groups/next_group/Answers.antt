use Rattle.std.proofs.Common.{◌-◌, ◌+◌, ◌%◌, get_or, refl, arith, ◌∙◌, ap, ℕ, bit_and}
use Rattle.std.specs.Int.Bits.{bit_xor}
use Rattle.jbig2_base.specs.Bits.{bit}
use Rattle.jbig2_halftone.proofs.LaneLemmas.{group-at, group-length, lane-value, ones, one-lane}
use Rattle.jbig2_halftone.proofs.gray_scale.groups.next_group.Goals as goal

pub returns-clause-lanes : goal.returns-clause-lanes
returns-clause-lanes g c = group-length _ _ _ c.args.values c.spread.result ones c.requires.lanes c.spread.ensures.lanes refl

pub returns-clause-value : goal.returns-clause-value
returns-clause-value g c = λ k inside.
    let v : ℕ = get_or c.args.values k 0 in
    let s : ℕ = get_or c.spread.result k 0 in
    group-at _ _ _ c.args.values c.spread.result ones k c.requires.lanes c.spread.ensures.lanes refl inside
    ∙ ap (λ (one : ℕ). ((v + v) % 4294967296 + bit_xor s (bit_and v one)) % 4294967296) (one-lane k inside)
    ∙ lane-value v s (bit c.args.byte (7 - k)) (c.requires.small k 0 (omega arith)) (c.spread.ensures.value k inside)
