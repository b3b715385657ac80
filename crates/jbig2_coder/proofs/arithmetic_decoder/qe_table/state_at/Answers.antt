use Rattle.jbig2_coder.specs.QeTable.{rows}
use Rattle.jbig2_coder.proofs.States.{states, both_of, state-qe, state-likely, state-unlikely, state-some, state-half, state-likely_below, state-unlikely_below}
use Rattle.jbig2_coder.proofs.arithmetic_decoder.qe_table.state_at.Goals as goal

pub returns-clause-qe : goal.returns-clause-qe
unfolding rows states both_of
returns-clause-qe c = state-qe c.args.index _ c.requires

pub returns-clause-likely : goal.returns-clause-likely
unfolding rows states both_of
returns-clause-likely c = state-likely c.args.index _ c.requires

pub returns-clause-unlikely : goal.returns-clause-unlikely
unfolding rows states both_of
returns-clause-unlikely c = state-unlikely c.args.index _ c.requires

pub returns-clause-some : goal.returns-clause-some
unfolding rows states both_of
returns-clause-some c = state-some c.args.index _ c.requires

pub returns-clause-half : goal.returns-clause-half
unfolding rows states both_of
returns-clause-half c = state-half c.args.index _ c.requires

pub returns-clause-likely_state : goal.returns-clause-likely_state
unfolding rows states both_of
returns-clause-likely_state c = state-likely_below c.args.index _ c.requires

pub returns-clause-unlikely_state : goal.returns-clause-unlikely_state
unfolding rows states both_of
returns-clause-unlikely_state c = state-unlikely_below c.args.index _ c.requires
