use Rattle.std.proofs.Common.{◌≡◌, length, refl, ◌∙◌, arith, vec_len, rules}
use Rattle.jbig2_coder.specs.Coder.{fresh}
use Rattle.jbig2_coder.proofs.ListSteps.{contexts_of-fresh}
use Rattle.jbig2_coder.proofs.mq.fresh_contexts.Goals as goal

pub returns-clause-fresh : goal.returns-clause-fresh
returns-clause-fresh g c =
    let none : vec_len c.new-contexts.result ≡ 0 = c.new-contexts.ensures.len in
    let len : vec_len c.resize.new.self ≡ 65536 = c.in_ok-resize.ensures.len in
    let size : length c.resize.new.self.items ≡ 65536 = search rules in
    contexts_of-fresh c.resize.new.self.items (λ k h. c.in_ok-resize.ensures.by_index.1 k fresh refl (omega arith) (omega arith) ∙ c.new.ensures)
