use Rattle.std.proofs.Common.{◌≡◌, List, ℕ, Bool, reverse, sym, ap, ◌∙◌}
use Rattle.jbig2_coder.specs.Encoder.{is_full}
use Rattle.jbig2_coder.proofs.Encoders.{closed-full, closed-plain}
use Rattle.jbig2_coder.proofs.mq.encoder.close.Goals as goal

-- the test of the code, which reads the bytes as a slice
full-read : (xs ys : List ℕ) (b c : Bool) → xs ≡ ys → b ≡ is_full (reverse xs) → b ≡ c → is_full (reverse ys) ≡ c
full-read xs ys b c e h k = ap (λ (zs : List ℕ). is_full (reverse zs)) (sym e) ∙ sym h ∙ k

pub returns-then-is_full-clause-value : goal.returns-then-is_full-clause-value
returns-then-is_full-clause-value g c =
    c.in_ok-push.ensures.items
    ∙ closed-full c.args.bytes.now.items (full-read _ _ _ _ c.deref.ensures.value c.is_full.ensures c.if-is_full.true)

pub returns-clause-value : goal.returns-clause-value
returns-clause-value g c =
    c.in_ok-extend_from_slice.ensures.items
    ∙ closed-plain c.args.bytes.now.items (full-read _ _ _ _ c.deref.ensures.value c.is_full.ensures c.if-is_full.false)
