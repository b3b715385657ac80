use Rattle.std.proofs.Common.{Result, subst}
use Rattle.jbig2_base.specs.Results.{Gives}
use Rattle.jbig2_base.specs.Grid.{Grid}
use Rattle.jbig2_base.specs.declared.error.DecodeError.{DecodeError}
use Rattle.jbig2_base.proofs.FillLemmas.{part-fits}
use Rattle.jbig2_halftone.proofs.pattern.cut_pattern.Goals as goal

pub returns-clause-value : goal.returns-clause-value
returns-clause-value g c =
    subst (λ (meant : Result Grid DecodeError). Gives (λ (pattern : Grid). pattern) c.part.result meant)
    (part-fits c.args.collective.now _ c.requires.columns c.requires.rows)
    c.part.ensures.value
