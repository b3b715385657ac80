use Rattle.std.proofs.Common.{◌+◌, ◌-◌, ◌/◌, ◌^◌, arith, refl, ◌∙◌}
use Rattle.std.proofs.Math.ListN.{length-set}
use Rattle.jbig2_coder.specs.declared.huffman_table.first_table.FirstCode.{FirstCode}
use Rattle.jbig2_coder.proofs.FirstLemmas.{entry-place, enters-next}
use Rattle.jbig2_coder.proofs.huffman_table.first_table.enter_level.Goals as goal

pub overflow_sub-line : goal.overflow_sub-line
overflow_sub-line c =
    (entry-place c.args.code c.args.level.now.count c.args.length c.loop-byte.byte c.requires.length.0 c.requires.length.1 c.requires.room (omega arith) (omega arith)).0

pub overflow_cast-codes : goal.overflow_cast-codes
overflow_cast-codes c =
    let at = entry-place c.args.code c.args.level.now.count c.args.length c.loop-byte.byte c.requires.length.0 c.requires.length.1 c.requires.room (omega arith) (omega arith) in
    omega (arith, at.0, at.1)

pub bounds-codes-byte : goal.bounds-codes-byte
bounds-codes-byte c =
    (entry-place c.args.code c.args.level.now.count c.args.length c.loop-byte.byte c.requires.length.0 c.requires.length.1 c.requires.room (omega arith) (omega arith)).2

pub loop-byte-preserved : goal.loop-byte-preserved
loop-byte-preserved c =
    let at = entry-place c.args.code c.args.level.now.count c.args.length c.loop-byte.byte c.requires.length.0 c.requires.length.1 c.requires.room (omega arith) (omega arith) in
    let entry : FirstCode = record { line = c.args.level.now.first + (c.loop-byte.byte / 2 ^ (8 - c.args.length) - c.args.code); length = c.args.length } in
    record {
      size = length-set c.loop-byte.codes c.loop-byte.byte entry ∙ c.loop-byte.invariant.size;
      entered = enters-next c.args.codes.now c.loop-byte.codes c.args.level.now c.args.length c.args.code c.loop-byte.byte entry c.loop-byte.invariant.entered c.loop-byte.invariant.size at.2 (record { from = at.0; below = at.1; is = refl });
    }
