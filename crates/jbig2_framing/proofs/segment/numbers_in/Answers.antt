use Rattle.std.proofs.Common.{◌≡◌, ℕ, List, sym, ◌∙◌, ap, ◌*◌, ◌+◌, ◌-◌, ◌++◌, ◌∷◌, [], take, drop}
use Rattle.std.proofs.lemmas.List.{take_rest}
use Rattle.std.specs.Int.{Width, byte_len, from_be_bytes}
use Rattle.jbig2_framing.specs.Segment.{numbers_in, number_width}
use Rattle.jbig2_framing.proofs.SegmentLemmas.{numbers_in-more}
use Rattle.jbig2_framing.proofs.segment.numbers_in.Goals as goal

pub loop-index-preserved : goal.loop-index-preserved
loop-index-preserved g c =
    let i = c.loop-index.index in
    let w : Width = number_width c.args.own in
    let bytes = c.args.bytes.now in
    let front = c.loop-index.numbers.items in
    let rest : List ℕ = numbers_in w (c.args.count - (i + 1)) (drop ((i + 1) * byte_len w) bytes) in
    let place : i * c.number_size-size.result ≡ i * byte_len w = ap (λ (n : ℕ). i * n) c.number_size-size.ensures in
    let number : c.coded_number.result ≡ from_be_bytes w (take (byte_len w) (drop (i * byte_len w) bytes)) = c.coded_number.ensures ∙ ap (λ (ys : List ℕ). from_be_bytes w (take (byte_len w) ys)) (take_rest bytes (i * c.number_size-size.result)) ∙ ap (λ (n : ℕ). from_be_bytes w (take (byte_len w) (drop n bytes))) place in
    ap (λ (xs : List ℕ). xs ++ rest) (c.in_ok-push.ensures.items ∙ ap (λ (n : ℕ). front ++ n ∷ []) number)
    ∙ sym (numbers_in-more w c.args.count i bytes front c.loop-index-test.true)
    ∙ c.loop-index.invariant
