use Rattle.std.proofs.Common.{◌≡◌, ℕ, ◌+◌, ◌-◌, ◌*◌, ◌/◌, ◌%◌, ◌^◌, Some, ap, ◌∙◌, arith}
use Rattle.jbig2_base.specs.Bits.{Place}
use Rattle.jbig2_base.proofs.NumberLemmas.{peeked, peeked-none, one-shl}
use Rattle.jbig2_base.proofs.reader.Reader.peek_bits.Goals as goal

pub returns-then-end-bytes : goal.returns-then-end-bytes
returns-then-end-bytes c =
    let p = c.args.self.now in
    let bit : c.self.inside.bit ≡ p.bit = ap (λ (q : Place). q.bit) c.self.view_is in
    peeked-none p.bytes p.bit c.args.count c.word-word.result.1 (omega arith) c.requires (omega arith) c.word-word.ensures.count (omega arith)

pub returns : goal.returns
returns c =
    let p = c.args.self.now in
    let bit : c.self.inside.bit ≡ p.bit = ap (λ (q : Place). q.bit) c.self.view_is in
    let word = c.word-word.result.0 in
    let count = c.word-word.result.1 in
    let n = c.args.count in
    ap (λ (b : ℕ). Some (word / 2 ^ (8 * count - (b + n)) % (1 * 2 ^ n % 2 ^ 64))) bit
    ∙ ap (λ (m : ℕ). Some (word / 2 ^ (8 * count - (p.bit + n)) % m)) (one-shl n c.requires)
    ∙ peeked p.bytes p.bit n word count c.word-word.ensures.value c.word-word.ensures.count (omega arith)
