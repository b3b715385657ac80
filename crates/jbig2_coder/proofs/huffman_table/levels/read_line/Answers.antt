use Rattle.std.proofs.Common.{◌≡◌, ℕ, ap, ◌∙◌, arith, Some, false, pos}
use Rattle.jbig2_base.specs.Bits.{bits_left, bits_next}
use Rattle.jbig2_coder.proofs.PrefixReading.{at-root, at-next, leaves-found, leaves-refused, leaves-past}
use Rattle.jbig2_coder.proofs.huffman_table.levels.read_line.Goals as goal

pub loop-level-init : goal.loop-level-init
loop-level-init c = at-root c.args.lines.now c.args.levels.now c.args.node c.args.reader.now c.requires.levels c.requires.node

pub returns-then-child-level-clause-reads : goal.returns-then-child-level-clause-reads
returns-then-child-level-clause-reads c =
    let bit : Some c.from.result ≡ bits_next 1 (bits_left c.loop-level.reader) = ap (λ (b : ℕ). Some b) c.from.ensures ∙ c.in-Some.ensures.value in
    leaves-found c.args.lines.now c.args.levels.now c.args.node c.loop-level.level-index c.loop-level.node c.from.result c.args.reader.now c.loop-level.reader c.read_bit.new.self (record { first = 0; count = 0; nodes = 0 }) (record { range_low = pos 0; prefix_length = 0; range_length = 0; is_lower = false; is_out_of_band = false }) c.loop-level.invariant c.read_bit.ensures.place c.read_bit.ensures.rest bit (omega arith) c.if-child-level.true

pub returns-then-node-level-clause-reads : goal.returns-then-node-level-clause-reads
returns-then-node-level-clause-reads c =
    let bit : Some c.from.result ≡ bits_next 1 (bits_left c.loop-level.reader) = ap (λ (b : ℕ). Some b) c.from.ensures ∙ c.in-Some.ensures.value in
    rw c.into-then-node-level.ensures (leaves-refused c.args.lines.now c.args.levels.now c.args.node c.loop-level.level-index c.loop-level.node c.from.result c.args.reader.now c.loop-level.reader c.read_bit.new.self (record { first = 0; count = 0; nodes = 0 }) c.loop-level.invariant c.read_bit.ensures.place c.read_bit.ensures.rest bit (omega arith) c.if-child-level.false c.if-node-level.true)

pub loop-level-preserved : goal.loop-level-preserved
loop-level-preserved c =
    let bit : Some c.from.result ≡ bits_next 1 (bits_left c.loop-level.reader) = ap (λ (b : ℕ). Some b) c.from.ensures ∙ c.in-Some.ensures.value in
    at-next c.args.lines.now c.args.levels.now c.args.node c.loop-level.level-index c.loop-level.node c.from.result c.args.reader.now c.loop-level.reader c.read_bit.new.self (record { first = 0; count = 0; nodes = 0 }) c.loop-level.invariant c.read_bit.ensures.place c.read_bit.ensures.rest bit (omega arith) c.if-child-level.false c.if-node-level.false

pub returns-in-Some-read_bit-clause-reads : goal.returns-in-Some-read_bit-clause-reads
returns-in-Some-read_bit-clause-reads c =
    rw c.into-in-Some-read_bit.ensures (leaves-past c.args.lines.now c.args.levels.now c.args.node c.loop-level.level-index c.loop-level.node c.in-Some-read_bit.field-0 c.args.reader.now c.loop-level.reader c.read_bit-2.new.self c.loop-level.invariant c.read_bit-2.ensures.place c.read_bit-2.ensures.rest c.in-Some-read_bit.ensures.value c.loop-level-test.false)
