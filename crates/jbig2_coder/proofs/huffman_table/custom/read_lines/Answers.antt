use Rattle.std.proofs.Common.{◌≡◌, Ok, Err, List, inr, ◌∙◌}
use Rattle.std.proofs.lemmas.Result.{err_from_is_err_and}
use Rattle.jbig2_coder.specs.CustomTable.{TableStep, concat, custom_lines, end_lines, range_lines}
use Rattle.jbig2_coder.specs.declared.huffman_table.line.TableLine.{TableLine}
use Rattle.jbig2_coder.proofs.CustomReading.{gives-refusal, lines-header, lines-ranges}
use Rattle.jbig2_coder.proofs.huffman_table.custom.read_lines.Goals as goal

pub returns-in_err-header : goal.returns-in_err-header
returns-in_err-header g c =
    let e = err_from_is_err_and c.from_residual.result c.from_residual.ensures.1 in
    record {
      lines = rw (e.1, e.2) (inr (lines-header c.args.reader.now (Err (c.in_err-header.field-0.0, c.read_header.new.reader)) c.in_err-header.ensures.header));
      short = rw e.1 tt;
    }

pub returns-in_err-lines : goal.returns-in_err-lines
returns-in_err-lines g c =
    let e = err_from_is_err_and c.from_residual-in_err-lines.result c.from_residual-in_err-lines.ensures.1 in
    let d = c.in_err-lines.field-0.0 in
    let p = c.args.reader.now in
    let q = c.read_header.new.reader in
    let r = c.read_range_lines.new.reader in
    let h = c.in_ok-header.header in
    record {
      lines = rw (e.1, e.2) (gives-refusal d r (range_lines h q) (custom_lines p) (λ is. lines-ranges p q h (Err (d, r)) c.in_ok-header.ensures.header is) c.in_err-lines.ensures.lines);
      short = rw e.1 tt;
    }

pub returns-in_err-push_end_lines : goal.returns-in_err-push_end_lines
returns-in_err-push_end_lines g c =
    let e = err_from_is_err_and c.from_residual-in_err-push_end_lines.result c.from_residual-in_err-push_end_lines.ensures.1 in
    let d = c.in_err-push_end_lines.field-0.0 in
    let p = c.args.reader.now in
    let q = c.read_header.new.reader in
    let r = c.read_range_lines.new.reader in
    let h = c.in_ok-header.header in
    let xs = c.in_ok-lines.lines.items in
    let ends : TableStep (List TableLine) = concat xs (end_lines h r) in
    let whole : custom_lines p ≡ ends = lines-ranges p q h (Ok (xs, r)) c.in_ok-header.ensures.header c.in_ok-lines.ensures.lines in
    record {
      lines = rw (e.1, e.2) (gives-refusal d c.push_end_lines.new.reader ends (custom_lines p) (λ is. whole ∙ is) c.in_err-push_end_lines.ensures.lines);
      short = rw e.1 tt;
    }

pub returns : goal.returns
returns g c =
    record {
      lines = lines-ranges c.args.reader.now c.read_header.new.reader c.in_ok-header.header (Ok (c.in_ok-lines.lines.items, c.read_range_lines.new.reader)) c.in_ok-header.ensures.header c.in_ok-lines.ensures.lines ∙ c.in_ok-push_end_lines.ensures.lines;
      short = c.in_ok-push_end_lines.ensures.short;
    }
