use Rattle.std.proofs.Common.{ap, sym, ◌∙◌, ◌+◌, ◌*◌, ◌-◌, ◌/◌, ◌%◌, ◌^◌, ℕ}
use Rattle.std.specs.Int.RustNames.{bit_xor}
use Rattle.std.specs.Prelude.{nat_lt}
use Rattle.jbig2_region.proofs.UnlikeLemmas.{stretch-unlike}
use Rattle.jbig2_region.proofs.generic_kernel.runs.unlike_stretch.Goals as goal

pub returns : goal.returns
returns c = λ m within.
    stretch-unlike c.args.stretch m c.args.black c.args.window c.requires.reach c.requires.count c.if-stretch-eq0.false within
    ∙ ap (λ (v : ℕ). nat_lt (bit_xor c.args.window v * 2 ^ (9 + c.args.stretch.reach - c.args.stretch.count) % 2 ^ 64 / 2 ^ (8 - c.args.stretch.count)) (2 ^ (56 - m))) (sym c.all_bits.ensures)
