use Rattle.std.proofs.Common.{◌∙◌, ap, ◌+◌, ◌*◌, ◌%◌}
use Rattle.jbig2_coder.proofs.Readings.{prev_next-small, prev_next-large}
use Rattle.jbig2_coder.proofs.integer_decoder.following.Goals as goal

pub returns-then-prev-lt256-clause-value : goal.returns-then-prev-lt256-clause-value
returns-then-prev-lt256-clause-value c b e = ap (λ n. 2 * c.args.prev + n) e ∙ prev_next-small c.args.prev b c.if-prev-lt256.true

pub returns-clause-value : goal.returns-clause-value
returns-clause-value c b e = ap (λ n. 256 + (2 * c.args.prev + n) % 256) e ∙ prev_next-large c.args.prev b c.if-prev-lt256.false
