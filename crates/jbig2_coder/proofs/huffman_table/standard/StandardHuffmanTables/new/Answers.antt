use Rattle.std.proofs.Common.{List, [], sym, subst, ◌∙◌}
use Rattle.std.proofs.lemmas.Result.{err_from_is_err_and}
use Rattle.jbig2_coder.specs.declared.huffman_table.line.TableLine.{TableLine}
use Rattle.jbig2_coder.specs.PrefixCode.{AreShort}
use Rattle.jbig2_coder.proofs.PrefixStandard.{short-at, memory_only, code-is, codes-next, codes-all}
use Rattle.jbig2_coder.proofs.huffman_table.standard.StandardHuffmanTables.new.Goals as goal

pub build-requires : goal.build-requires
build-requires g c =
    let P : List TableLine → Type 0 = λ lines. AreShort lines in
    subst P (sym c.standard_lines.ensures) (short-at c.loop-index.index c.loop-index-test.true [])

pub returns-in_err-build : goal.returns-in_err-build
returns-in_err-build g c =
    let e = c.in_err-build.field-0.0 in
    let p = err_from_is_err_and c.from_residual-in_err-build.result c.from_residual-in_err-build.ensures.1 in
    rw p.1 (p.2 ∙ memory_only c.loop-index.index c.standard_lines.result.now e c.loop-index-test.true c.standard_lines.ensures c.in_err-build.ensures.table)

pub loop-index-preserved : goal.loop-index-preserved
loop-index-preserved g c =
    c.in_ok-push.ensures.items
    ∙ codes-next c.loop-index.index [] c.loop-index.tables.items c.in_ok-build.field-0 c.loop-index-test.true c.loop-index.invariant
    (code-is c.loop-index.index c.standard_lines.result.now c.in_ok-build.field-0 c.loop-index-test.true c.standard_lines.ensures c.in_ok-build.ensures.table)

pub invariant_of-result : goal.invariant_of-result
invariant_of-result g c = codes-all c.loop-index.index c.loop-index.tables.items c.loop-index-test.false c.loop-index.invariant
