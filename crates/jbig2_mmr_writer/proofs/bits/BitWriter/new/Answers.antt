use Rattle.std.proofs.Common.{◌<◌, List, [], ℕ, ap, append-nil, ◌∙◌, arith}
use Rattle.std.specs.List.{flat_map}
use Rattle.std.proofs.lemmas.List.Elements.{All-nil, All-same}
use Rattle.jbig2_base.specs.Bits.{byte_bits}
use Rattle.jbig2_inverses.specs.Digits.{digits}
use Rattle.jbig2_mmr_writer.proofs.bits.BitWriter.new.Goals as goal

pub returns : goal.returns
unfolding digits
returns g c = append-nil (flat_map byte_bits c.new.result.items) ∙ ap (λ (t : List ℕ). flat_map byte_bits t) c.new.ensures.items

pub invariant_of-result : goal.invariant_of-result
invariant_of-result g c = (omega arith, omega arith, All-same (λ (b : ℕ). b < 256) c.new.result.items [] c.new.ensures.items (All-nil (λ (b : ℕ). b < 256)))
