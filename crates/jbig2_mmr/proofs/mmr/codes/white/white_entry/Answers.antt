use Rattle.jbig2_mmr.proofs.T6Tables.{white-long, white-short}
use Rattle.jbig2_mmr.proofs.mmr.codes.white.white_entry.Goals as goal

pub returns-then-long-lt32 : goal.returns-then-long-lt32
returns-then-long-lt32 c = white-long c.args.bits c.if-long-lt32.true

pub returns-else-long-lt32 : goal.returns-else-long-lt32
returns-else-long-lt32 c = white-short c.args.bits c.requires c.if-long-lt32.false
