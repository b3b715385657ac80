use Rattle.std.proofs.Common.{◌≡◌, ℕ, false, nat_lt, is_some, sym, ◌∙◌, arith}
use Rattle.jbig2_page.specs.Page.{grid_of_page}
use Rattle.jbig2_program.specs.inner.Printing.{data_of, output_id}
use Rattle.jbig2_program.proofs.Lines.{lines_known, same_output}
use Rattle.jbig2_program.proofs.calls.decode_to.Goals as goal

no_more : (n : ℕ) → nat_lt 0 n ≡ false → n ≡ 0
no_more n e = grind arith

pub returns-then-has_refused-clause-same : goal.returns-then-has_refused-clause-same
returns-then-has_refused-clause-same g c =
    rw (c.into_output-output.ensures, sym c.new-printer.ensures.output)
    (same_output (λ p. output_id p.output) (λ p. data_of g.O.Write.contents p.output) (λ p. p.refusals.count) g.K.KnowsOutput.is_known (grid_of_page c.args.page.now) c.decode-decoded.result c.new-printer.result c.decode-decoded.new.decoder c.decode-decoded.ensures.calls)

pub returns-else-has_refused-clause-same : goal.returns-else-has_refused-clause-same
returns-else-has_refused-clause-same g c =
    rw (c.into_output-output.ensures, sym c.new-printer.ensures.output)
    (same_output (λ p. output_id p.output) (λ p. data_of g.O.Write.contents p.output) (λ p. p.refusals.count) g.K.KnowsOutput.is_known (grid_of_page c.args.page.now) c.decode-decoded.result c.new-printer.result c.decode-decoded.new.decoder c.decode-decoded.ensures.calls)

pub returns-else-has_refused-clause-lines : goal.returns-else-has_refused-clause-lines
returns-else-has_refused-clause-lines g c =
    let known_first : g.K.KnowsOutput.is_known ≡ is_some (data_of g.O.Write.contents c.new-printer.result.output) = rw c.new-printer.ensures.output c.requires in
    let none : c.decode-decoded.new.decoder.refusals.count ≡ 0 = no_more _ (sym c.has_refused-has_refused.ensures ∙ c.if-has_refused.false) in
    rw (c.into_output-output.ensures, sym c.new-printer.ensures.output)
    (lines_known (λ p. output_id p.output) (λ p. data_of g.O.Write.contents p.output) (λ p. p.refusals.count) g.K.KnowsOutput.is_known (grid_of_page c.args.page.now) c.decode-decoded.result c.new-printer.result c.decode-decoded.new.decoder known_first c.new-printer.ensures.none none c.decode-decoded.ensures.calls)
