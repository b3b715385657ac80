use Rattle.std.proofs.Common.{rules, ◌≡◌, ℕ, ◌+◌, ◌-◌, ◌/◌, ◌∷◌, [], ◌++◌, List, length, ap, sym, ◌∙◌, subst, inr, arith, length-append}
use Rattle.jbig2_coder.specs.declared.huffman_table.levels.Level.{Level}
use Rattle.jbig2_coder.specs.PrefixCode.{level}
use Rattle.jbig2_coder.proofs.PrefixBuilding.{Built, built-next, built-crowded, built-table, half_up}
use Rattle.jbig2_coder.specs.inner.PrefixLevels.{groups_of}
use Rattle.jbig2_coder.proofs.Causes.{table_cause}
use Rattle.jbig2_coder.proofs.PrefixFree.{free-codes}
use Rattle.jbig2_coder.proofs.FreeTables.{tables_are_free}
use Rattle.jbig2_coder.proofs.huffman_table.HuffmanTable.build.Goals as goal

pub loop-depth-preserved : goal.loop-depth-preserved
loop-depth-preserved g c =
    let lines = c.args.lines.now in
    let sorted = c.loop-depth.by_length.items in
    let more = c.push_level.new.by_length.items in
    let levels = c.loop-depth.levels.items in
    let depth = c.loop-depth.depth - 1 in
    let n = c.loop-depth.nodes in
    let count = c.len.result - c.len-first.result in
    let first : c.len-first.result ≡ length sorted = search rules in
    let last : c.len.result ≡ length more = search rules in
    let on : c.loop-depth.depth ≡ depth + 1 = omega arith in
    let items : more ≡ sorted ++ level (depth + 1) lines = c.in_ok-push_level.ensures.items in
    let longer : length more ≡ length sorted + length (level (depth + 1) lines) = ap length items ∙ length-append sorted (level (depth + 1) lines) in
    let P : ℕ → Type 0 = λ d. Built lines sorted levels n d in
    let built : Built lines sorted levels n (depth + 1) = subst P on c.loop-depth.invariant in
    let level_of : ℕ → Level = λ f. record { first = f; count = count; nodes = n } in
    let pushed : c.push.new.self.items ≡ levels ++ level_of (length sorted) ∷ [] =
    c.in_ok-push.ensures.items ∙ ap (λ (f : ℕ). levels ++ level_of f ∷ []) first in
    let half : c.div_ceil-nodes.result ≡ (count + n + 1) / 2 = c.div_ceil-nodes.ensures ∙ half_up (count + n) in
    let next = built-next lines sorted more levels n depth count c.div_ceil-nodes.result built c.requires (omega arith) items (omega arith) half in
    let Q : List Level → Type 0 = λ vs. Built lines more vs c.div_ceil-nodes.result depth in
    subst Q (sym pushed) next

pub returns-then-nodes-gt-ROOTS-clause-table : goal.returns-then-nodes-gt-ROOTS-clause-table
returns-then-nodes-gt-ROOTS-clause-table g c =
    let P : ℕ → Type 0 = λ d. Built c.args.lines.now c.loop-depth.by_length.items c.loop-depth.levels.items c.loop-depth.nodes d in
    let end : c.loop-depth.depth ≡ 0 = omega arith in
    rw c.into.ensures (inr (built-crowded c.args.lines.now c.loop-depth.by_length.items c.loop-depth.levels.items c.loop-depth.nodes (subst P end c.loop-depth.invariant) c.if-nodes-gt-ROOTS.true))

pub returns-then-nodes-gt-ROOTS-clause-causes : goal.returns-then-nodes-gt-ROOTS-clause-causes
returns-then-nodes-gt-ROOTS-clause-causes g c = table_cause c.args.lines.now _ (returns-then-nodes-gt-ROOTS-clause-table g c)

pub returns-clause-table : goal.returns-clause-table
returns-clause-table g c =
    let P : ℕ → Type 0 = λ d. Built c.args.lines.now c.loop-depth.by_length.items c.loop-depth.levels.items c.loop-depth.nodes d in
    let end : c.loop-depth.depth ≡ 0 = omega arith in
    built-table c.args.lines.now c.loop-depth.by_length.items c.loop-depth.levels.items c.reverse.new.self.items c.loop-depth.nodes (subst P end c.loop-depth.invariant) c.if-nodes-gt-ROOTS.false c.reverse.ensures.items

pub returns-clause-free : goal.returns-clause-free
returns-clause-free g c = free-codes 0 0 (groups_of c.loop-depth.by_length.items c.reverse.new.self.items)

pub returns-in_err-clone-clause-law : goal.returns-in_err-clone-clause-law
returns-in_err-clone-clause-law g c = tables_are_free

pub returns-in_err-by_length-clause-law : goal.returns-in_err-by_length-clause-law
returns-in_err-by_length-clause-law g c = tables_are_free

pub returns-in_err-levels-clause-law : goal.returns-in_err-levels-clause-law
returns-in_err-levels-clause-law g c = tables_are_free

pub returns-in_err-push_level-clause-law : goal.returns-in_err-push_level-clause-law
returns-in_err-push_level-clause-law g c = tables_are_free

pub returns-in_err-push-clause-law : goal.returns-in_err-push-clause-law
returns-in_err-push-clause-law g c = tables_are_free

pub returns-then-nodes-gt-ROOTS-clause-law : goal.returns-then-nodes-gt-ROOTS-clause-law
returns-then-nodes-gt-ROOTS-clause-law g c = tables_are_free

pub returns-clause-law : goal.returns-clause-law
returns-clause-law g c = tables_are_free

pub returns-in_err-clone-clause-causes : goal.returns-in_err-clone-clause-causes
returns-in_err-clone-clause-causes g c = table_cause c.args.lines.now _ (search rules)

pub returns-in_err-by_length-clause-causes : goal.returns-in_err-by_length-clause-causes
returns-in_err-by_length-clause-causes g c = table_cause c.args.lines.now _ (search rules)

pub returns-in_err-levels-clause-causes : goal.returns-in_err-levels-clause-causes
returns-in_err-levels-clause-causes g c = table_cause c.args.lines.now _ (search rules)

pub returns-in_err-push_level-clause-causes : goal.returns-in_err-push_level-clause-causes
returns-in_err-push_level-clause-causes g c = table_cause c.args.lines.now _ (search rules)

pub returns-in_err-push-clause-causes : goal.returns-in_err-push-clause-causes
returns-in_err-push-clause-causes g c = table_cause c.args.lines.now _ (search rules)

pub returns-clause-causes : goal.returns-clause-causes
returns-clause-causes g c = table_cause c.args.lines.now _ (search rules)
