use Rattle.jbig2_base.proofs.RunLemmas.{run-grid, run-packed}
use Rattle.jbig2_base.proofs.bitmap.rows.blocks.combine_run.Goals as goal

pub returns-clause-packed : goal.returns-clause-packed
returns-clause-packed g c =
    let s = c.args.shape in
    let r = c.args.run in
    let each = rw c.load-page.ensures.value at c.combined_word.ensures in
    rw c.write.ensures.value (run-packed c.args.operator s.width s.height s.stride c.args.words.now.words.now r.word r.offset r.y r.count c.args.bits c.combined_word.result c.requires.packed c.requires.some c.requires.one_word c.requires.right c.requires.row each)

pub returns-clause-value : goal.returns-clause-value
returns-clause-value g c =
    let s = c.args.shape in
    let r = c.args.run in
    let each = rw c.load-page.ensures.value at c.combined_word.ensures in
    rw c.write.ensures.value (run-grid c.args.operator s.width s.height s.stride c.args.words.now.words.now r.word r.offset r.y r.count c.args.bits c.combined_word.result c.requires.packed c.requires.some c.requires.one_word c.requires.right c.requires.row each)
