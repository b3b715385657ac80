use Rattle.std.proofs.Common.{◌≡◌, ℕ, List, [], get_or, ap, sym, refl, ◌∙◌, arith}
use Rattle.jbig2_coder.specs.declared.huffman_table.line.TableLine.{TableLine}
use Rattle.jbig2_coder.specs.Tables.{standard_tables, lines_a, lines_b, lines_c, lines_d, lines_e, lines_f, lines_g, lines_h, lines_i, lines_j, lines_k, lines_l, lines_m, lines_n, lines_o}
use Rattle.jbig2_coder.proofs.huffman_table.standard.standard_lines.Goals as goal

-- the table at this place
at : (i k : ℕ) (lines : List TableLine) → i ≡ k → get_or standard_tables k [] ≡ lines → lines ≡ get_or standard_tables i []
at i k lines e same = sym (ap (λ (n : ℕ). get_or standard_tables n []) e ∙ same)

pub returns-in-0 : goal.returns-in-0
unfolding standard_tables lines_a
returns-in-0 c = at c.args.index 0 lines_a c.in-0.is refl

pub returns-in-1 : goal.returns-in-1
unfolding standard_tables lines_b
returns-in-1 c = at c.args.index 1 lines_b c.in-1.is refl

pub returns-in-2 : goal.returns-in-2
unfolding standard_tables lines_c
returns-in-2 c = at c.args.index 2 lines_c c.in-2.is refl

pub returns-in-3 : goal.returns-in-3
unfolding standard_tables lines_d
returns-in-3 c = at c.args.index 3 lines_d c.in-3.is refl

pub returns-in-4 : goal.returns-in-4
unfolding standard_tables lines_e
returns-in-4 c = at c.args.index 4 lines_e c.in-4.is refl

pub returns-in-5 : goal.returns-in-5
unfolding standard_tables lines_f
returns-in-5 c = at c.args.index 5 lines_f c.in-5.is refl

pub returns-in-6 : goal.returns-in-6
unfolding standard_tables lines_g
returns-in-6 c = at c.args.index 6 lines_g c.in-6.is refl

pub returns-in-7 : goal.returns-in-7
unfolding standard_tables lines_h
returns-in-7 c = at c.args.index 7 lines_h c.in-7.is refl

pub returns-in-8 : goal.returns-in-8
unfolding standard_tables lines_i
returns-in-8 c = at c.args.index 8 lines_i c.in-8.is refl

pub returns-in-9 : goal.returns-in-9
unfolding standard_tables lines_j
returns-in-9 c = at c.args.index 9 lines_j c.in-9.is refl

pub returns-in-10 : goal.returns-in-10
unfolding standard_tables lines_k
returns-in-10 c = at c.args.index 10 lines_k c.in-10.is refl

pub returns-in-11 : goal.returns-in-11
unfolding standard_tables lines_l
returns-in-11 c = at c.args.index 11 lines_l c.in-11.is refl

pub returns-in-12 : goal.returns-in-12
unfolding standard_tables lines_m
returns-in-12 c = at c.args.index 12 lines_m c.in-12.is refl

pub returns-in-13 : goal.returns-in-13
unfolding standard_tables lines_n
returns-in-13 c = at c.args.index 13 lines_n c.in-13.is refl

pub returns-in_default : goal.returns-in_default
unfolding standard_tables lines_o
returns-in_default c = at c.args.index 14 lines_o (omega arith) refl
