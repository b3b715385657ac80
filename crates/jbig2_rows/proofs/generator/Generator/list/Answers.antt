use Rattle.std.proofs.Common.{refl, ◌∙◌, ap, ◌∷◌, [], ◌++◌, ℕ, Bool}
use Rattle.jbig2_rows.proofs.GeneratedLists.{list_after-begin, list_after-more, list_after-end}
use Rattle.jbig2_rows.proofs.generator.Generator.list.Goals as goal

pub loop-init : goal.loop-init
loop-init g c = list_after-begin _ _ _ _ c.new-list.ensures.items refl

pub loop-preserved : goal.loop-preserved
loop-preserved g c =
    list_after-more c.loop.list.items _ c.args.count c.loop.counter c.loop.self.state _ c.loop-test.true
    (c.in_ok-push.ensures.items ∙ ap (λ (e : ℕ × Bool). c.loop.list.items ++ e ∷ []) c.entry.ensures.value)
    c.entry.ensures.state
    ∙ c.loop.invariant

pub returns : goal.returns
returns g c = list_after-end c.loop.list.items _ c.args.count c.loop.counter c.loop.self.state c.loop-test.false c.loop.invariant
