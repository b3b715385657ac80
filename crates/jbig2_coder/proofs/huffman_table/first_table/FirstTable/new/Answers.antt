use Rattle.std.proofs.Common.{arith}
use Rattle.jbig2_coder.proofs.FirstLemmas.{depth-none, depth-next, depth-end}
use Rattle.jbig2_coder.proofs.huffman_table.first_table.FirstTable.new.Goals as goal

pub loop-depth-init : goal.loop-depth-init
loop-depth-init c = depth-none c.args.lines.now c.args.levels.now c.requires.levels c.requires.room

pub loop-depth-preserved : goal.loop-depth-preserved
loop-depth-preserved c =
    depth-next c.args.lines.now c.args.levels.now c.loop-depth.depth c.loop-depth.code c.loop-depth.codes c.enter_level.new.codes (record { first = 0; count = 0; nodes = 0 }) c.loop-depth.invariant (omega arith) (omega arith) c.enter_level.ensures

pub returns : goal.returns
returns c =
    depth-end c.args.lines.now c.args.levels.now c.loop-depth.depth c.loop-depth.code c.loop-depth.codes c.loop-depth.invariant (omega arith) (λ shallow. omega arith)
