use Rattle.jbig2_mmr.proofs.T6Tables.{black-long, black-short}
use Rattle.jbig2_mmr.proofs.mmr.codes.black.black_entry.Goals as goal

pub returns-then-long-lt512 : goal.returns-then-long-lt512
returns-then-long-lt512 c = black-long c.args.bits c.if-long-lt512.true

pub returns-else-long-lt512 : goal.returns-else-long-lt512
returns-else-long-lt512 c = black-short c.args.bits c.requires c.if-long-lt512.false
