use Rattle.std.proofs.Common.{ℕ, ◌+◌, ◌*◌, ◌%◌, ◌^◌, ◌<◌, arith}
use Rattle.jbig2_writer.proofs.WindowLemmas.{context-is, context-lt, stretches-lt}
use Rattle.jbig2_writer.proofs.windows.Windows.context.Goals as goal

pub overflow_cast-result : goal.overflow_cast-result
overflow_cast-result c =
    let stretches : ℕ = c.stretch_bits-above.result + c.stretch_bits-top.result * (1 * 2 ^ c.args.neighbours.above.count % 2 ^ 32) in
    let few : stretches < 2 ^ (c.args.neighbours.top.count + c.args.neighbours.above.count) =
    stretches-lt c.args.neighbours c.requires.near c.stretch_bits-above.result c.stretch_bits-top.result c.stretch_bits-above.ensures.bound c.stretch_bits-top.ensures.bound in
    let small : c.bits-left.result + stretches * (1 * 2 ^ c.args.neighbours.left % 2 ^ 32) < 2 ^ 16 =
    context-lt c.args.neighbours c.requires.near c.bits-left.result stretches c.bits-left.ensures.bound few in
    omega (arith, small)

pub returns : goal.returns
returns c = λ grid x y shows.
    context-is c.args.neighbours c.requires.near grid x y c.args.offset c.args.self c.requires.offset shows c.bits-left.result c.stretch_bits-above.result c.stretch_bits-top.result
    c.bits-left.ensures.value c.stretch_bits-above.ensures.value c.stretch_bits-top.ensures.value
