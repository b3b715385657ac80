use Rattle.std.proofs.Common.{◌≡◌, ◌-◌, ◌++◌}
use Rattle.jbig2_rows.specs.Generator.{list_after}
use Rattle.jbig2_rows.proofs.generator.Generator.list.Given as goal

-- what is made, and what is still to be made, is the list
abbrev pub invariant-loop : goal.invariant-loop
invariant-loop g l = l.list.items ++ list_after (l.fn.count - l.counter) l.self.state ≡ list_after l.fn.count l.fn.self.state
