use Rattle.std.proofs.Common.{◌≡◌, ℕ, ◌+◌, ◌*◌, ◌/◌, min, arith, rules, subst}
use Rattle.jbig2_base.specs.Counts.{WritesWithin}
use Rattle.jbig2_base.proofs.FillLemmas.{row-filled}
use Rattle.jbig2_base.proofs.Prices.{written-none, written-word}
use Rattle.jbig2_symbol.proofs.CutLemmas.{uncoded}
use Rattle.jbig2_symbol.proofs.collective.fill_row.Goals as goal

pub loop-index-init : goal.loop-index-init
loop-index-init g c =
    let none : min c.args.bitmap.now.width (8 * 0) ≡ 0 = omega arith in
    record { filled = rw none c.requires.above; steps = written-none c.args.steps.now }

pub loop-index-preserved : goal.loop-index-preserved
loop-index-preserved g c = record {
  filled = uncoded c.args.bytes.now c.loop-index.bitmap c.store_pixels.new.self _ _ c.args.y c.div_ceil-stride.result c.loop-index.index c.min-count.result c.from.result (omega arith) (omega arith) (omega arith) (omega arith) (search rules) c.loop-index.invariant.filled c.store_pixels.ensures.value;
  steps = written-word c.loop-index.index c.args.steps.now c.loop-index.steps c.store_pixels.new.steps c.loop-index.invariant.steps c.store_pixels.ensures.steps;
}

pub returns-clause-value : goal.returns-clause-value
returns-clause-value g c = row-filled c.loop-index.bitmap _ _ _ c.args.y (8 * c.loop-index.index) (omega arith) c.loop-index.invariant.filled

pub returns-clause-steps : goal.returns-clause-steps
returns-clause-steps g c =
    let all : c.loop-index.index ≡ (c.args.bitmap.now.width + 7) / 8 = omega arith in
    subst (λ (n : ℕ). WritesWithin n c.args.steps.now c.loop-index.steps) all c.loop-index.invariant.steps
