use Rattle.std.proofs.Common.{◌≡◌, true, eqb, List, [], ◌∷◌, length, Err, refl, sym, ◌∙◌, arith}
use Rattle.std.specs.Borrow.{Bor}
use Rattle.std.proofs.lemmas.Bool.{eqb-true}
use Rattle.jbig2_base.specs.declared.error.DecodeError.TheVariants.{Huffman}
use Rattle.jbig2_base.specs.declared.error.HuffmanError.TheVariants.{MissingTables}
use Rattle.jbig2_coder.specs.PrefixCode.{Member}
use Rattle.jbig2_coder.specs.Tables.{next_custom}
use Rattle.jbig2_coder.specs.inner.TableViews.{customs_view}
use Rattle.jbig2_coder.proofs.Causes.{selection_cause}
use Rattle.jbig2_coder.proofs.table_selection.next_custom.Goals as goal

none-left : (customs : List (Bor (List Member))) → eqb (length customs) 0 ≡ true → next_custom (customs_view customs) ≡ Err (Huffman MissingTables)
none-left [] is = refl
none-left (table ∷ others) is = absurd (omega (arith, eqb-true (length (table ∷ others)) 0 is))

pub returns-then-is_empty-clause-causes : goal.returns-then-is_empty-clause-causes
returns-then-is_empty-clause-causes g c =
    rw c.into.ensures (selection_cause (customs_view c.args.customs.now) _ (none-left c.args.customs.now (sym c.is_empty.ensures ∙ c.if-is_empty.true)))
