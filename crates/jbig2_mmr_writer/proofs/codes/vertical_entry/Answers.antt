use Rattle.std.proofs.Common.{◌-◌, ◌∙◌, ap, sym, leb, arith}
use Rattle.std.proofs.lemmas.Bool.{cond-true, cond-false, le-leb, lt-leb}
use Rattle.jbig2_inverses.specs.MmrRowWriter.{mode_word}
use Rattle.jbig2_mmr.specs.T6Codes.{vertical_left, vertical_right}
use Rattle.jbig2_mmr.specs.declared.mmr.codes.Mode.{Mode}
use Rattle.jbig2_mmr_writer.proofs.CodeTables.{left-mode, right-mode}
use Rattle.jbig2_mmr_writer.proofs.codes.vertical_entry.Goals as goal

pub returns-then-b1-a1-clause-value : goal.returns-then-b1-a1-clause-value
returns-then-b1-a1-clause-value c =
    right-mode (c.args.a1 - c.args.b1) (omega (arith, c.requires.right))
    ∙ ap (λ (m : Mode). mode_word m) (sym (cond-true (leb c.args.b1 c.args.a1) (vertical_right (c.args.a1 - c.args.b1)) (vertical_left (c.args.b1 - c.args.a1)) (le-leb c.args.b1 c.args.a1 (omega (arith, c.if-b1-a1.true)))))

pub returns-else-b1-a1-clause-value : goal.returns-else-b1-a1-clause-value
returns-else-b1-a1-clause-value c =
    left-mode (c.args.b1 - c.args.a1) (omega (arith, c.requires.left))
    ∙ ap (λ (m : Mode). mode_word m) (sym (cond-false (leb c.args.b1 c.args.a1) (vertical_right (c.args.a1 - c.args.b1)) (vertical_left (c.args.b1 - c.args.a1)) (lt-leb c.args.b1 c.args.a1 (omega (arith, c.if-b1-a1.false)))))
