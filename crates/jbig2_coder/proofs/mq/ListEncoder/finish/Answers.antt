use Rattle.std.proofs.Common.{sym, subst}
use Rattle.jbig2_coder.specs.Encoder.{CodingInContexts, HasCoded}
use Rattle.jbig2_coder.proofs.ListSteps.{coded-bytes, Gives-same}
use Rattle.jbig2_coder.proofs.mq.ListEncoder.finish.Goals as goal

pub returns : goal.returns
returns g c = record {
  bytes = λ list has.
      let s : CodingInContexts = record { coding = c.self.inside.encoder; contexts = c.self.inside.contexts.items } in
      Gives-same _ c.finish.result _ _ (coded-bytes s list (subst (λ (now : CodingInContexts). HasCoded now list) (sym c.self.view_is) has)) c.finish.ensures;
}
