use Rattle.std.proofs.Common.{List, Result, subst}
use Rattle.jbig2_base.specs.Results.{Gives}
use Rattle.jbig2_framing.specs.Segment.{SegmentView}
use Rattle.jbig2_framing.specs.inner.SegmentViews.{file_view}
use Rattle.jbig2_base.specs.declared.error.DecodeError.{DecodeError}
use Rattle.jbig2_framing.specs.declared.file_header.FileHeader.{FileHeader}
use Rattle.jbig2_framing.proofs.Spelling.{file_read}
use Rattle.jbig2_framing.proofs.file.parse_file.Goals as goal

pub returns-clause-either_organization : goal.returns-clause-either_organization
returns-clause-either_organization g c = λ header ss spells.
    subst (λ (meant : Result (FileHeader × List SegmentView) DecodeError). Gives file_view c.read_file.result meant)
    (file_read c.args.reading c.args.bytes.now header ss spells)
    c.read_file.ensures.value
