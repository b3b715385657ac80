use Rattle.std.proofs.Common.{ℕ, List, ap, arith, length, length-drop}
use Rattle.jbig2_base.specs.Bits.{bits_left}
use Rattle.jbig2_coder.proofs.huffman_table.custom.read_range_line.Goals as goal

pub returns-clause-shorter : goal.returns-clause-shorter
returns-clause-shorter c =
    let first = c.in_ok-prefix_length.ensures.rest in
    let second = c.in_ok-range_length.ensures.rest in
    omega (
      arith,
      ap (λ (bs : List ℕ). length bs) first,
      ap (λ (bs : List ℕ). length bs) second,
      length-drop c.args.header.now.prefix_bits (bits_left c.args.reader.now),
      length-drop c.args.header.now.range_bits (bits_left c.bits_field.new.reader),
      c.in_ok-prefix_length.ensures.enough,
      c.requires.0,
    )
