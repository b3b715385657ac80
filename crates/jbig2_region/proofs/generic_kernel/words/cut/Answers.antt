use Rattle.std.proofs.Common.{◌*◌, ◌%◌, ◌^◌, ℕ, ap, bit_or}
use Rattle.jbig2_region.proofs.CarriedLemmas.{shr-twice}
use Rattle.jbig2_region.proofs.generic_kernel.words.cut.Goals as goal

pub returns : goal.returns
returns c = ap (λ (n : ℕ). bit_or (c.args.word * 2 ^ c.args.pixels % 2 ^ 64) n) (shr-twice c.args.next c.args.pixels c.requires.few)
