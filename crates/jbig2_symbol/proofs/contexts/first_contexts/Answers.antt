use Rattle.std.proofs.Common.{rules}
use Rattle.jbig2_symbol.specs.SymbolReading.{first_contexts}
use Rattle.jbig2_symbol.proofs.ReadingCauses.{contexts_cause}
use Rattle.jbig2_symbol.proofs.contexts.first_contexts.Goals as goal

pub returns-then-not-flags-clause-causes : goal.returns-then-not-flags-clause-causes
unfolding first_contexts
returns-then-not-flags-clause-causes g c = contexts_cause c.args.flags.now _ _ (search rules)

pub returns-in_default-clause-causes : goal.returns-in_default-clause-causes
unfolding first_contexts
returns-in_default-clause-causes g c = contexts_cause c.args.flags.now _ _ (search rules)

pub returns-then-not-same-clause-causes : goal.returns-then-not-same-clause-causes
unfolding first_contexts
returns-then-not-same-clause-causes g c = contexts_cause c.args.flags.now _ _ (search rules)

pub returns-clause-causes : goal.returns-clause-causes
unfolding first_contexts
returns-clause-causes g c = contexts_cause c.args.flags.now _ _ (search rules)
