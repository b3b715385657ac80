use Rattle.std.proofs.Common.{ap, ◌∙◌, Err}
use Rattle.std.proofs.lemmas.Result.{err_from_is_err_and}
use Rattle.jbig2_base.specs.declared.error.DecodeError.{DecodeError}
use Rattle.jbig2_coder.proofs.PrefixDecoding.{decodes-err, decodes-oob, decodes-value}
use Rattle.jbig2_coder.proofs.huffman_table.HuffmanTable.decode.Goals as goal

pub returns-then-line : goal.returns-then-line
returns-then-line g c =
    decodes-oob c.args.self.now c.in_ok-line.line c.args.reader.now c.read_line.new.reader c.in_ok-line.ensures.reads c.if-line.true

pub returns : goal.returns
returns g c =
    decodes-value c.args.self.now c.in_ok-line.line c.read_value.result c.args.reader.now c.read_line.new.reader c.read_value.new.reader c.in_ok-line.ensures.reads c.if-line.false c.read_value.ensures.value c.read_value.ensures.place c.read_value.ensures.rest

pub returns-in_err-line : goal.returns-in_err-line
returns-in_err-line g c =
    let read = decodes-err c.args.self.now c.in_err-line.field-0.0 c.args.reader.now c.read_line.new.reader c.in_err-line.ensures.reads in
    let e = err_from_is_err_and c.from_residual.result c.from_residual.ensures.1 in
    record { value = e.1 ∙ ap (λ (x : DecodeError). Err x) e.2 ∙ read.value; place = read.place; rest = read.rest }
