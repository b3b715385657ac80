use Rattle.std.proofs.Common.{◌+◌, ◌*◌, ◌/◌, ◌∙◌, ap, false, ℕ, arith}
use Rattle.jbig2_base.specs.Counts.{Counts, words_copied}
use Rattle.jbig2_base.proofs.CountLemmas.{copied-then, written-none}
use Rattle.jbig2_base.proofs.FillLemmas.{blank-filled, part-made, white-made}
use Rattle.jbig2_base.proofs.bitmap.Bitmap.part.Goals as goal

pub loop-y-init : goal.loop-y-init
loop-y-init g c =
    let wide : ℕ = (c.args.area.width + 63) / 64 in
    record {
      part = blank-filled _ _ _ _ (white-made c.args.area.width c.args.area.height false c.in_ok-part.part (c.in_ok-part.ensures.value)).1;
      steps = written-none c.new.new.steps (wide * 0) (wide * 0) (omega arith) (omega arith);
    }

pub loop-y-preserved : goal.loop-y-preserved
loop-y-preserved g c =
    let wide : ℕ = (c.args.area.width + 63) / 64 in
    record {
      part = c.copy_row.ensures.value;
      steps = copied-then c.new.new.steps c.loop-y.steps c.copy_row.new.steps (wide * c.loop-y.y) wide (wide * (c.loop-y.y + 1)) c.loop-y.invariant.steps c.copy_row.ensures.steps (omega arith);
    }

pub returns-clause-value : goal.returns-clause-value
returns-clause-value g c = part-made c.args.self.now c.in_ok-part.part c.loop-y.part c.args.area c.loop-y.y (c.in_ok-part.ensures.value) (omega arith) c.loop-y.invariant.part

pub returns-clause-steps : goal.returns-clause-steps
returns-clause-steps g c =
    c.loop-y.invariant.steps
    ∙ ap (λ (n : ℕ). words_copied ((c.args.area.width + 63) / 64 * n) c.new.new.steps) (omega arith)
    ∙ ap (λ (s : Counts). words_copied ((c.args.area.width + 63) / 64 * c.args.area.height) s) c.new.ensures.steps
