use Rattle.std.proofs.Common.{Ok, Err, List, ap, sym, subst, ◌∙◌}
use Rattle.std.proofs.lemmas.Result.{err_from_is_err_and}
use Rattle.jbig2_coder.specs.declared.huffman_table.line.TableLine.{TableLine}
use Rattle.jbig2_coder.specs.PrefixCode.{Member, table_of}
use Rattle.jbig2_coder.specs.CustomTable.{GivesAt, TableStep, custom_lines, custom_table, left_at}
use Rattle.jbig2_coder.proofs.CustomCauses.{custom_cause}
use Rattle.jbig2_coder.proofs.CustomReading.{gives-at, gives-refusal, table-lines}
use Rattle.jbig2_coder.proofs.huffman_table.HuffmanTable.read_custom.Goals as goal

pub returns-in_err-lines-clause-table : goal.returns-in_err-lines-clause-table
returns-in_err-lines-clause-table g c =
    let e = err_from_is_err_and c.from_residual-in_err-lines.result c.from_residual-in_err-lines.ensures.1 in
    let d = c.in_err-lines.field-0.0 in
    let p = c.args.reader.now in
    let q = c.read_lines.new.reader in
    rw (e.1, e.2) (gives-refusal d q (custom_lines p) (custom_table p) (λ is. table-lines p (Err (d, q)) is) c.in_err-lines.ensures.lines)

pub returns-clause-table : goal.returns-clause-table
returns-clause-table g c =
    let p = c.args.reader.now in
    let q = c.read_lines.new.reader in
    let xs = c.in_ok-lines.lines.items in
    let whole = table-lines p (Ok (xs, q)) c.in_ok-lines.ensures.lines in
    let P : TableStep (List Member) → Type 0 = λ s. GivesAt (λ (t : List Member). t) c.build.result q s in
    subst P (ap (λ (ys : List TableLine). left_at q (table_of ys)) c.deref.ensures.value ∙ sym whole)
    (gives-at (λ (t : List Member). t) c.build.result q (table_of c.deref.result.now) c.build.ensures.table)

pub returns-in_err-lines-clause-causes : goal.returns-in_err-lines-clause-causes
returns-in_err-lines-clause-causes g c = custom_cause (λ (t : List Member). t) c.args.reader.now c.read_lines.new.reader _ (returns-in_err-lines-clause-table g c)

pub returns-clause-causes : goal.returns-clause-causes
returns-clause-causes g c = custom_cause (λ (t : List Member). t) c.args.reader.now c.read_lines.new.reader _ (returns-clause-table g c)
