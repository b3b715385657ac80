use Rattle.std.proofs.Common.{rules, refl, ◌+◌, ◌<◌, ◌*◌, get_or, arith, length, take, ap, sym, ◌∙◌, List, ℕ}
use Rattle.std.proofs.lemmas.List.{take_more, length-take-le}
use Rattle.std.specs.List.{flat_map}
use Rattle.jbig2_base.specs.Bits.{byte_bits, number_after}
use Rattle.jbig2_base.proofs.NumberLemmas.{number-small, number-eight, number-push_byte}
use Rattle.jbig2_base.proofs.reader.Reader.word.Goals as goal

pub returns-then-bytes-ge8-clause-value : goal.returns-then-bytes-ge8-clause-value
returns-then-bytes-ge8-clause-value c =
    let s = c.tail-bytes.result.now in
    number-eight s c.from_be_bytes-word.result (get_or s 0 0) (get_or s 1 0) (get_or s 2 0) (get_or s 3 0) (get_or s 4 0) (get_or s 5 0) (get_or s 6 0) (get_or s 7 0) c.if-bytes-ge8.true refl refl refl refl refl refl refl refl (search rules) (search rules) (search rules) (search rules) (search rules) (search rules) (search rules) (search rules) c.from_be_bytes-word.ensures
    ∙ ap (λ (l : List ℕ). number_after 0 (flat_map byte_bits (take 8 l))) c.tail-bytes.ensures

pub overflow_mul-word : goal.overflow_mul-word
overflow_mul-word c =
    let s = c.tail-bytes.result.now in
    let i = c.loop-byte.byte-index in
    omega (arith, number-small (take i s) (omega (arith, length-take-le i s)), c.loop-byte.invariant)

pub overflow_add-word : goal.overflow_add-word
overflow_add-word c =
    let s = c.tail-bytes.result.now in
    let i = c.loop-byte.byte-index in
    omega (arith, number-small (take i s) (omega (arith, length-take-le i s)), c.loop-byte.invariant, c.type_inv.bytes i)

pub loop-byte-preserved : goal.loop-byte-preserved
loop-byte-preserved c =
    let s = c.tail-bytes.result.now in
    let i = c.loop-byte.byte-index in
    let inside : i < length s = c.loop-byte-test.true in
    ap (λ (w : ℕ). 256 * w + c.from.result) c.loop-byte.invariant
    ∙ ap (λ (b : ℕ). 256 * number_after 0 (flat_map byte_bits (take i s)) + b) c.from.ensures
    ∙ sym (ap (λ (l : List ℕ). number_after 0 (flat_map byte_bits l)) (take_more s i 0 inside)
    ∙ number-push_byte (take i s) (get_or s i 0) (omega (arith, c.type_inv.bytes i)))
