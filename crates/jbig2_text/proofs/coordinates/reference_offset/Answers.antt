use Rattle.std.proofs.Common.{◌≡◌, rules, w64}
use Rattle.std.specs.Prelude.{◌+ℤ◌}
use Rattle.std.specs.Int.{int_shr}
use mir.Val.{to_z, of_z}
use Rattle.jbig2_text.proofs.coordinates.reference_offset.Goals as goal

pub returns : goal.returns
returns c =
    let half : c.from.result ≡ int_shr c.args.growth 1 = search rules in
    let same : c.from-2.result ≡ c.args.difference = search rules in
    let sum : to_z w64 (of_z w64 (to_z w64 (of_z w64 c.from.result) +ℤ to_z w64 (of_z w64 c.from-2.result))) ≡ int_shr c.args.growth 1 +ℤ c.args.difference = search rules in
    rw (c.into.ensures, sum) at c.word_or.ensures
