use Rattle.std.proofs.Common.{◌≡◌, ℕ, IfOk, List, subst}
use Rattle.jbig2_base.specs.Grid.{pixel_at}
use Rattle.jbig2_coder.specs.Encoder.{encoded_bytes}
use Rattle.jbig2_page_inverse.specs.PageWriter.{coded_bytes}
use Rattle.jbig2_writer.specs.Written.{choice_of}
use Rattle.jbig2_writer.specs.inner.Rows.{decisions_of_rows}
use Rattle.jbig2_writer.proofs.PageLemmas.{coded-by-arithmetic, coded-by-mmr, mapped-bytes}
use Rattle.jbig2_writer.proofs.page.coded_region.Goals as goal

pub returns-in-Arithmetic-clause-coded : goal.returns-in-Arithmetic-clause-coded
returns-in-Arithmetic-clause-coded g c =
    mapped-bytes (λ v. v.items) c.coded_rows.result c.map_err.result _ (encoded_bytes (decisions_of_rows c.in-Arithmetic.coding c.args.bitmap.now c.args.bitmap.now.height))
    (coded_bytes (choice_of c.args.settings.now) c.args.bitmap.now.width c.args.bitmap.now.height (pixel_at c.args.bitmap.now))
    c.coded_rows.ensures.bytes (coded-by-arithmetic c.args.settings.now c.in-Arithmetic.coding c.args.bitmap.now c.in-Arithmetic.is c.requires.some) c.map_err.ensures.cases

pub returns-in-Mmr-clause-coded : goal.returns-in-Mmr-clause-coded
returns-in-Mmr-clause-coded g c =
    subst (λ (bytes : List ℕ). IfOk c.coded_mmr.result (λ v. v.items ≡ bytes)) (coded-by-mmr c.args.settings.now c.args.bitmap.now c.in-Mmr.is) c.coded_mmr.ensures.bytes
