use Rattle.jbig2_coder.specs.inner.PrefixLevels.{groups_of}
use Rattle.jbig2_base.proofs.CauseSteps.{err-same}
use Rattle.jbig2_coder.proofs.Causes.{code_cause}
use Rattle.jbig2_coder.proofs.PrefixDecoding.{read-line, view-read}
use Rattle.jbig2_coder.proofs.huffman_table.HuffmanTable.read_line.Goals as goal

pub returns-clause-reads : goal.returns-clause-reads
returns-clause-reads g c =
    let lines = c.deref.result.now in
    let levels = c.deref-2.result.now in
    let view = view-read lines c.self.inside.lines.items levels c.self.inside.levels.items c.args.self.now c.deref.ensures.value c.deref-2.ensures.value c.self.view_is in
    read-line (groups_of lines levels) c.args.self.now c.read_line.result c.args.reader.now c.read_line.new.reader view c.read_line.ensures.reads

pub returns-clause-causes : goal.returns-clause-causes
returns-clause-causes g c = code_cause c.args.self.now c.args.reader.now _ (err-same _ _ (returns-clause-reads g c).value)
