use Rattle.std.proofs.Common.{◌≡◌, ℕ, ◌%◌, ◌^◌, List, [], ◌∷◌, reverse, drop, sym, ap, ◌∙◌, subst, Result, IfOk}
use Rattle.jbig2_base.specs.declared.error.DecodeError.{DecodeError}
use Rattle.jbig2_coder.specs.Encoder.{Writer, eight_bits_out, seven_bits_out}
use Rattle.jbig2_coder.specs.inner.EncoderViews.{writer_of}
use Rattle.jbig2_coder.specs.declared.mq.encoder.CodeRegister.{CodeRegister}
use Rattle.jbig2_coder.proofs.Encoders.{byte_out-none, byte_out-full, byte_out-below, byte_out-carry_full, byte_out-carry}
use Rattle.jbig2_coder.proofs.mq.encoder.byte_out.Goals as goal

written : (r : Result CodeRegister DecodeError) (bytes : List ℕ) (x y : Writer) → y ≡ x
    → IfOk r (λ code. writer_of bytes code ≡ x) → IfOk r (λ code. writer_of bytes code ≡ y)
written r bytes x y e h = subst (λ (w : Writer). IfOk r (λ code. writer_of bytes code ≡ w)) (sym e) h

-- the bytes out, which the code reads as a slice
none-read : (xs ys : List ℕ) → xs ≡ ys → reverse xs ≡ [] → reverse ys ≡ []
none-read xs ys e h = ap (λ (zs : List ℕ). reverse zs) (sym e) ∙ h

last-read : (xs ys : List ℕ) (last : ℕ) → xs ≡ ys → reverse xs ≡ last ∷ drop 1 (reverse xs) → reverse ys ≡ last ∷ drop 1 (reverse ys)
last-read xs ys last e h = subst (λ (zs : List ℕ). reverse zs ≡ last ∷ drop 1 (reverse zs)) e h

pub returns-in_default-clause-value : goal.returns-in_default-clause-value
returns-in_default-clause-value g c =
    let h = none-read _ c.args.bytes.now.items c.deref.ensures.value c.in_default.ensures in
    written c.write_eight_bits.result c.write_eight_bits.new.bytes.items _ _ (byte_out-none c.args.c (reverse c.args.bytes.now.items) h) c.write_eight_bits.ensures.value

pub returns-then-last-clause-value : goal.returns-then-last-clause-value
returns-then-last-clause-value g c =
    let out : List ℕ = reverse c.args.bytes.now.items in
    let h = last-read _ c.args.bytes.now.items c.in-Some.last c.deref.ensures.value c.in-Some.ensures in
    written c.write_seven_bits.result c.write_seven_bits.new.bytes.items _ _ (byte_out-full c.args.c c.in-Some.last out _ h c.if-last.true) c.write_seven_bits.ensures.value

pub returns-then-c-lt-CARRY-clause-value : goal.returns-then-c-lt-CARRY-clause-value
returns-then-c-lt-CARRY-clause-value g c =
    let out : List ℕ = reverse c.args.bytes.now.items in
    let h = last-read _ c.args.bytes.now.items c.in-Some.last c.deref.ensures.value c.in-Some.ensures in
    written c.write_eight_bits-then-c-lt-CARRY.result c.write_eight_bits-then-c-lt-CARRY.new.bytes.items _ _
    (byte_out-below c.args.c c.in-Some.last out _ h c.if-last.false c.if-c-lt-CARRY.true) c.write_eight_bits-then-c-lt-CARRY.ensures.value

pub returns-then-last-2-clause-value : goal.returns-then-last-2-clause-value
returns-then-last-2-clause-value g c =
    let out : List ℕ = reverse c.args.bytes.now.items in
    let h = last-read _ c.args.bytes.now.items c.in-Some.last c.deref.ensures.value c.in-Some.ensures in
    written c.write_seven_bits-then-last-2.result c.write_seven_bits-then-last-2.new.bytes.items _ _
    (byte_out-carry_full c.args.c c.in-Some.last out _ h c.if-c-lt-CARRY.false c.if-last-2.true
    ∙ ap (λ (ys : List ℕ). seven_bits_out (c.args.c % 2 ^ 27) ys) (sym c.replace_last.ensures))
    c.write_seven_bits-then-last-2.ensures.value

pub returns-clause-value : goal.returns-clause-value
returns-clause-value g c =
    let out : List ℕ = reverse c.args.bytes.now.items in
    let h = last-read _ c.args.bytes.now.items c.in-Some.last c.deref.ensures.value c.in-Some.ensures in
    written c.write_eight_bits-2.result c.write_eight_bits-2.new.bytes.items _ _
    (byte_out-carry c.args.c c.in-Some.last out _ h c.if-last.false c.if-c-lt-CARRY.false c.if-last-2.false
    ∙ ap (λ (ys : List ℕ). eight_bits_out c.args.c ys) (sym c.replace_last.ensures))
    c.write_eight_bits-2.ensures.value
