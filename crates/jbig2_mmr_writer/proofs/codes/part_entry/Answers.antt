use Rattle.std.proofs.Common.{Bool, true, false, ◌*◌, ◌-◌, ap, sym, ◌∙◌}
use Rattle.jbig2_inverses.specs.MmrRowWriter.{run_word}
use Rattle.jbig2_mmr_writer.proofs.CodeTables.{black_parts, entry-fits, part-word, white_parts}
use Rattle.jbig2_mmr_writer.proofs.codes.part_entry.Goals as goal

pub returns-then-black-clause-value : goal.returns-then-black-clause-value
returns-then-black-clause-value c = part-word true black_parts c.args.times c.requires.some c.requires.few ∙ ap (λ (b : Bool). run_word b (c.args.times * 64)) (sym c.if-black.true)

pub returns-then-black-clause-small : goal.returns-then-black-clause-small
returns-then-black-clause-small c = entry-fits black_parts (c.args.times - 1)

pub returns-else-black-clause-value : goal.returns-else-black-clause-value
returns-else-black-clause-value c = part-word false white_parts c.args.times c.requires.some c.requires.few ∙ ap (λ (b : Bool). run_word b (c.args.times * 64)) (sym c.if-black.false)

pub returns-else-black-clause-small : goal.returns-else-black-clause-small
returns-else-black-clause-small c = entry-fits white_parts (c.args.times - 1)
