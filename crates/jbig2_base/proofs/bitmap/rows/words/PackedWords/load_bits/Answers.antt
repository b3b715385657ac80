use Rattle.std.proofs.Common.{◌*◌, ◌%◌, ◌^◌, ℕ, lit<}
use Rattle.std.proofs.lemmas.Nat.{mod_below}
use Rattle.jbig2_base.specs.inner.Packed.{row_bit}
use Rattle.jbig2_base.proofs.BitLemmas.{load-near, load-far, load-lt, shr-lt}
use Rattle.jbig2_base.proofs.bitmap.rows.words.PackedWords.load_bits.Goals as goal

pub returns-then-offset-count-le64-clause-bits : goal.returns-then-offset-count-le64-clause-bits
returns-then-offset-count-le64-clause-bits g c = λ k inside.
    load-near (λ (i : ℕ). row_bit c.args.self.now c.args.row.first c.args.row.stride i) c.word.result c.args.x c.args.count k c.word.ensures c.requires.few c.if-offset-count-le64.true inside

pub returns-then-offset-count-le64-clause-bound : goal.returns-then-offset-count-le64-clause-bound
returns-then-offset-count-le64-clause-bound g c =
    shr-lt (c.word.result * 2 ^ (c.args.x % 64) % 2 ^ 64) c.args.count c.requires.few (mod_below (c.word.result * 2 ^ (c.args.x % 64)) (2 ^ 64) (lit< tt))

pub returns-clause-bits : goal.returns-clause-bits
returns-clause-bits g c = λ k inside.
    load-far (λ (i : ℕ). row_bit c.args.self.now c.args.row.first c.args.row.stride i) c.word.result c.word-2.result c.args.x c.args.count k c.word.ensures c.word-2.ensures c.word-2.type_inv c.requires.few inside

pub returns-clause-bound : goal.returns-clause-bound
returns-clause-bound g c = load-lt c.word.result c.word-2.result (c.args.x % 64) c.args.count c.word-2.type_inv c.requires.few
