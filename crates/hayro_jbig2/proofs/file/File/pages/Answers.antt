use Rattle.std.proofs.Common.{ap, length}
use Rattle.std.proofs.iter.runs.Sources.{from_front, as_is}
use Rattle.std.specs.Map.Iter.{TakesFirst}
use Rattle.hayro_jbig2.proofs.file.File.pages.Goals as goal
use Rattle.jbig2_page.specs.Page.{ReadPage}

pub returns-clause-runs : goal.returns-clause-runs
returns-clause-runs g c p s = as_is p p.from (from_front (TakesFirst (λ (page : ReadPage). page)) (λ (page : ReadPage). page) (λ rest. rest) (λ s t h. ap length h.0) (λ s x t h. h) p s)
