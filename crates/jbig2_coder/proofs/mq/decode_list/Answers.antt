use Rattle.std.proofs.Common.{ℕ, ◌<◌, length, ◌∙◌, rules}
use Rattle.jbig2_coder.proofs.ListSteps.{decoded_from-more, decoded-begin, decoded-done, same_ok}
use Rattle.jbig2_coder.proofs.mq.decode_list.Goals as goal

pub loop-number-init : goal.loop-number-init
loop-number-init g c = record {
  same =
      decoded-begin c.new-decoder.result c.args.bytes.now c.in_ok-table.table.items c.args.contexts.now c.new-decisions.result.items
      c.new-decoder.ensures.bytes c.new-decoder.ensures.registers c.in_ok-table.ensures.fresh c.new-decisions.ensures.items;
  room = search rules;
  steps = search rules;
}

pub loop-number-preserved : goal.loop-number-preserved
loop-number-preserved g c =
    let i : ℕ = c.loop-number.number-index in
    let k : ℕ = c.from.result in
    let known = c.loop-number.table.items in
    let inside : k < length known = search rules in
    record {
      same =
          c.loop-number.invariant.same
          ∙ decoded_from-more c.loop-number.decoder c.decode-decision.new.self known c.args.contexts.now i k c.decode-decision.result
          c.index_mut.result.now c.decode-decision.new.context c.loop-number.decisions.items c.push.new.self.items
          c.loop-number-test.true c.from.ensures inside c.index_mut.ensures.value
          c.decode-decision.ensures.value c.decode-decision.ensures.coder c.decode-decision.ensures.context c.in_ok-push.ensures.items;
      room = search rules;
      steps = search rules;
    }

pub returns-clause-value : goal.returns-clause-value
returns-clause-value g c =
    same_ok _ _ (decoded-done c.loop-number.decoder c.args.bytes.now c.args.contexts.now _ c.loop-number.number-index c.loop-number.decisions.items
    c.loop-number.invariant.same c.loop-number-test.false)
