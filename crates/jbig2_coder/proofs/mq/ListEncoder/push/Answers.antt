use Rattle.std.proofs.Common.{ℕ, ◌<◌, ◌∷◌, [], set, length, refl, subst, rules}
use Rattle.jbig2_coder.specs.Encoder.{CodingInContexts, Codes}
use Rattle.jbig2_coder.proofs.ListSteps.{coded-more}
use Rattle.jbig2_coder.proofs.mq.ListEncoder.push.Goals as goal

pub returns-clause-coded : goal.returns-clause-coded
returns-clause-coded g c =
    let k : ℕ = c.from.result in
    let known = c.self.inside.contexts.items in
    let s : CodingInContexts = record { coding = c.self.inside.encoder; contexts = known } in
    let t : CodingInContexts = record { coding = c.encode.new.self; contexts = set known k c.encode.new.context } in
    let inside : k < length known = search rules in
    subst (λ (old : CodingInContexts). Codes old t ((c.args.context, c.args.decision) ∷ [])) c.self.view_is
    (coded-more s t c.args.context k c.args.decision c.index_mut.result.now c.encode.new.context c.from.ensures inside c.index_mut.ensures.value
    c.in_ok-encode.ensures.value c.in_ok-encode.ensures.context refl)
