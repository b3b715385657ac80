use Rattle.std.proofs.Common.{◌≡◌, ℕ, ◌+◌, ◌-◌, ◌*◌, ◌%◌, ◌^◌, ◌<◌, ◌≤◌, [], ◌∷◌, ◌++◌, get_or, set, true, refl, sym, ap, subst, ◌∙◌, arith, add-one}
use Rattle.std.proofs.Math.Nat.{pow-suc, pow-le-pow_right}
use Rattle.jbig2_base.specs.Counts.{Counts}
use Rattle.jbig2_coder.specs.Coder.{Coder, Decision, decision}
use Rattle.jbig2_coder.specs.Integers.{Ids, Reading, read_more}
use Rattle.jbig2_base.specs.Bits.{value_of_bits}
use Rattle.jbig2_coder.specs.inner.IntegerPrefixes.{place_of}
use Rattle.jbig2_coder.specs.inner.IntegerStates.{HasRead}
use Rattle.jbig2_coder.proofs.Readings.{start_of, HasRead-start, HasRead-decision, HasRead-read, HasRead-bytes, HasRead-id, read_more-none, read_more-next, number-push, id-length, id-place, id-below, one-shifted}
use Rattle.jbig2_coder.proofs.symbol_id_decoder.read_id.Goals as goal

grown : (prev bit n : ℕ) → prev < 2 ^ n → bit < 2 → 2 * prev + bit < 2 ^ (n + 1)
grown prev bit n h k = rw (add-one, pow-suc) (omega arith)

-- `1 << code_len`, taken from the leading 1 and the id
whole : (n prev v : ℕ) → n ≤ 30 → prev ≡ 2 ^ n + v → 1 * 2 ^ n % 2 ^ 32 ≤ prev
whole n prev v h e = omega (arith, one-shifted n h)

left : (n prev v : ℕ) → n ≤ 30 → prev ≡ 2 ^ n + v → prev - 1 * 2 ^ n % 2 ^ 32 ≡ v
left n prev v h e = omega (arith, one-shifted n h)

pub loop-init : goal.loop-init
unfolding value_of_bits
loop-init g c = record {
  below = omega arith;
  bytes = refl;
  reads = rw (read_more-none place_of c.args.decoder.now.bytes) (HasRead-start place_of c.args.decoder.now c.args.contexts.now c.args.steps.now);
}

inside : (prev n m size : ℕ) → prev < 2 ^ (n + 1) → n < m → size ≡ 2 ^ m → prev < size
inside prev n m size h l e =
    let p : 2 ^ (n + 1) ≤ 2 ^ m = pow-le-pow_right (omega arith) (omega arith) in
    omega (arith, p)

pub bounds-contexts-prev : goal.bounds-contexts-prev
bounds-contexts-prev g c = inside c.loop.prev c.loop.counter c.args.code_len _ c.loop.invariant.below c.loop-test.true (c.loop.auto.contexts ∙ c.requires.size)

pub loop-preserved : goal.loop-preserved
loop-preserved g c = record {
  below = grown c.loop.prev c.decode-bit.result (c.loop.counter + 1) c.loop.invariant.below c.decode-bit.ensures.digit;
  bytes = ap (λ (v : Coder). v.bytes) c.decode-bit.ensures.coder ∙ c.loop.invariant.bytes;
  reads =
      let n = read_more place_of c.loop.counter c.args.decoder.now.bytes (start_of c.args.decoder.now.registers c.args.contexts.now) in
      let s = c.loop.invariant.reads in
      let e = HasRead-decision place_of c.args.steps.now n c.loop.prev c.loop.decoder c.loop.contexts c.loop.steps c.index-contexts-prev.result s (inside c.loop.prev c.loop.counter c.args.code_len _ c.loop.invariant.below c.loop-test.true (c.loop.auto.contexts ∙ c.requires.size)) in
      let d : Decision = decision c.loop.decoder.bytes c.loop.decoder.registers (get_or c.loop.contexts c.loop.prev c.index-contexts-prev.result) in
      let named : 2 * c.loop.prev + c.decode-bit.result ≡ place_of (n.bits ++ d.symbol ∷ []) = (λ i. 2 * s.named i + c.decode-bit.ensures.value i) ∙ sym (number-push (true ∷ n.bits) d.symbol) in
      let t = HasRead-read place_of c.args.steps.now n c.loop.prev c.loop.decoder c.loop.contexts c.loop.steps s _ _ _ _ d e named (ap (λ (v : Coder). v.registers) c.decode-bit.ensures.coder) (ap (set c.loop.contexts c.loop.prev) c.decode-bit.ensures.context) c.decode-bit.ensures.steps in
      let u = HasRead-bytes place_of c.args.steps.now _ _ n _ _ _ _ c.loop.invariant.bytes t in
      subst (λ (m : Reading). HasRead place_of c.args.steps.now m (2 * c.loop.prev + c.decode-bit.result) c.decode-bit.new.self (set c.loop.contexts c.loop.prev c.decode-bit.new.context) c.decode-bit.new.steps) (read_more-next place_of c.loop.counter c.args.decoder.now.bytes (start_of c.args.decoder.now.registers c.args.contexts.now)) u;
}

pub overflow_sub-result : goal.overflow_sub-result
overflow_sub-result g c =
    let ids : Ids = record { code_len = c.args.code_len; contexts = c.args.contexts.now } in
    let e : c.loop.counter ≡ c.args.code_len = omega arith in
    let s = HasRead-id c.loop.counter ids c.args.decoder.now c.args.steps.now c.loop.prev c.loop.decoder c.loop.contexts c.loop.steps e c.loop.invariant.reads in
    whole c.args.code_len c.loop.prev _ c.requires.few (s.named ∙ id-place c.args.decoder.now.bytes c.args.decoder.now.registers ids)

pub returns : goal.returns
returns g c =
    let ids : Ids = record { code_len = c.args.code_len; contexts = c.args.contexts.now } in
    let e : c.loop.counter ≡ c.args.code_len = omega arith in
    let s = HasRead-id c.loop.counter ids c.args.decoder.now c.args.steps.now c.loop.prev c.loop.decoder c.loop.contexts c.loop.steps e c.loop.invariant.reads in
    let n = id-length c.args.decoder.now.bytes c.args.decoder.now.registers ids in
    let value = left c.args.code_len c.loop.prev _ c.requires.few (s.named ∙ id-place c.args.decoder.now.bytes c.args.decoder.now.registers ids) in
    let P : ℕ → Type 0 = λ v. v < 2 ^ c.args.code_len in
    record {
      value = value;
      below = subst P (sym value) (id-below c.args.decoder.now.bytes c.args.decoder.now.registers ids);
      coder = λ i. record { bytes = c.loop.invariant.bytes i; registers = s.registers i };
      contexts = s.learned;
      steps = s.counted ∙ ap (λ (m : ℕ). let w : Counts = record c.args.steps.now { decisions = c.args.steps.now.decisions + m } in w) n;
    }
