use Rattle.std.proofs.Common.{Bool, true, false, ap, sym, ◌∙◌}
use Rattle.jbig2_inverses.specs.MmrRowWriter.{run_word}
use Rattle.jbig2_mmr_writer.proofs.CodeTables.{black_ends, end-word, entry-fits, white_ends}
use Rattle.jbig2_mmr_writer.proofs.codes.end_entry.Goals as goal

pub returns-then-black-clause-value : goal.returns-then-black-clause-value
returns-then-black-clause-value c = end-word true black_ends c.args.run c.requires ∙ ap (λ (b : Bool). run_word b c.args.run) (sym c.if-black.true)

pub returns-then-black-clause-small : goal.returns-then-black-clause-small
returns-then-black-clause-small c = entry-fits black_ends c.args.run

pub returns-else-black-clause-value : goal.returns-else-black-clause-value
returns-else-black-clause-value c = end-word false white_ends c.args.run c.requires ∙ ap (λ (b : Bool). run_word b c.args.run) (sym c.if-black.false)

pub returns-else-black-clause-small : goal.returns-else-black-clause-small
returns-else-black-clause-small c = entry-fits white_ends c.args.run
