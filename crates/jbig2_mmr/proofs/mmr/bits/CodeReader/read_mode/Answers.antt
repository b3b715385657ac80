use Rattle.std.proofs.Common.{◌≡◌, ℕ, ◌/◌, ◌%◌, ◌^◌, ◌<◌, ◌≤◌, List, length, drop, take, get_or, Option, Some, ap, sym, subst, ◌∙◌, arith}
use Rattle.std.proofs.lemmas.List.{length-drop}
use Rattle.jbig2_base.specs.Bits.{number_after}
use Rattle.jbig2_mmr.specs.declared.mmr.codes.Mode.{Mode}
use Rattle.jbig2_mmr.specs.declared.mmr.codes.modes.TheConstants.{MODES}
use Rattle.jbig2_mmr.specs.T6.{read_code}
use Rattle.jbig2_mmr.specs.T6Codes.{modes}
use Rattle.jbig2_base.specs.inner.BitLists.{AreBits}
use Rattle.jbig2_mmr.specs.inner.T6Reading.{Rest, padded_bits, IsWithinThree}
use Rattle.jbig2_mmr.proofs.T6Distances.{distance-is, kind-near}
use Rattle.jbig2_mmr.proofs.T6Lookup.{lookup-none, lookup-short, lookup-some}
use Rattle.jbig2_mmr.proofs.T6Tables.{modes-prefix_free, modes-short, mode_of, mode-none, mode-some, mode-small, kind-vertical, kind-horizontal, kind-pass}
use Rattle.jbig2_mmr.proofs.mmr.bits.CodeReader.read_mode.Goals as goal
use Rattle.jbig2_mmr.proofs.mmr.bits.CodeReader.read_mode.Goals.{then-size-eq0-via-then-size-eq0, then-size-eq0-via-else-size-eq0+then-size-few}

-- the mode that was found, and the bits after its code
found : (v size : ℕ) (bits left : List ℕ) → v < 128 → AreBits bits → v ≡ number_after 0 (take 7 (padded_bits bits)) → size ≡ get_or MODES v 0 % 8 → (size ≡ 0 → ⊥) → size ≤ length bits → left ≡ drop size bits → Some (mode_of (get_or MODES v 0 / 8), left) ≡ read_code modes bits
found v size bits left small are number is some there following =
    ap (λ (ys : List ℕ). let pair : Option (Mode × List ℕ) = Some (mode_of (get_or MODES v 0 / 8), ys) in pair) (following ∙ ap (λ (n : ℕ). drop n bits) is)
    ∙ lookup-some modes 7 v bits (mode_of (get_or MODES v 0 / 8)) (get_or MODES v 0 % 8) (omega arith) modes-short are number (mode-some v small (λ none. some (is ∙ none))) (omega (arith, is, there))

shorter-by : (size : ℕ) (bits left : List ℕ) → (size ≡ 0 → ⊥) → size ≤ length bits → left ≡ drop size bits → length left < length bits
shorter-by size bits left some there following = omega (arith, some, ap length following, length-drop size bits)

pub returns-then-size-eq0-clause-value : goal.returns-then-size-eq0-clause-value
returns-then-size-eq0-clause-value c =
    let v : ℕ = c.window.result / 2 ^ 17 in
    let e : ℕ = get_or MODES v 0 in
    let small : c.window.result / 2 ^ 17 < 128 = omega (arith, c.window.ensures.bound) in
    elim c.then-size-eq0.branch [
      | then-size-eq0-via-then-size-eq0 w ↦
          lookup-none modes 7 v c.args.self.now.left (omega arith) modes-short c.window.ensures.bits (c.window.ensures.value 7 (omega arith)) (mode-none v small (sym c.from-size.ensures ∙ w.if-size-eq0.true))
      | then-size-eq0-via-else-size-eq0+then-size-few w ↦
          lookup-short modes 7 v c.args.self.now.left (mode_of (e / 8)) (e % 8) (omega arith) modes-short modes-prefix_free c.window.ensures.bits (c.window.ensures.value 7 (omega arith))
          (mode-some v small (λ none. w.if-size-eq0.false (c.from-size.ensures ∙ none)))
          (omega (arith, w.if-size-few.true, w.few.ensures, c.from-size.ensures))
    ]

pub returns-then-size-eq0-clause-near : goal.returns-then-size-eq0-clause-near
returns-then-size-eq0-clause-near c = tt

pub returns-then-size-eq0-clause-law : goal.returns-then-size-eq0-clause-law
returns-then-size-eq0-clause-law c = modes-prefix_free

pub returns-then-kind-gt2 : goal.returns-then-kind-gt2
returns-then-kind-gt2 c =
    let v : ℕ = c.window.result / 2 ^ 17 in
    let e : ℕ = get_or MODES v 0 in
    let small : c.window.result / 2 ^ 17 < 128 = omega (arith, c.window.ensures.bound) in
    let there : c.from-size.result ≤ length c.args.self.now.left = omega (arith, c.if-size-few.false, c.few.ensures) in
    let left : c.skip.new.self.left ≡ drop c.from-size.result c.args.self.now.left = ap (λ (r : Rest). r.left) c.skip.ensures in
    record {
      value = ap (λ (m : Mode). let pair : Option (Mode × List ℕ) = Some (m, c.skip.new.self.left) in pair) (kind-vertical (e / 8) _ c.if-kind-gt2.true (distance-is (e / 8) c.from.result (mode-small v small) c.from.ensures))
          ∙ found v c.from-size.result c.args.self.now.left c.skip.new.self.left small c.window.ensures.bits (c.window.ensures.value 7 (omega arith)) c.from-size.ensures c.if-size-eq0.false there left;
      bytes = ap (λ (r : Rest). r.bytes) c.skip.ensures;
      shorter = shorter-by c.from-size.result c.args.self.now.left c.skip.new.self.left c.if-size-eq0.false there left;
      near = subst IsWithinThree (sym (distance-is (e / 8) c.from.result (mode-small v small) c.from.ensures)) (kind-near (e / 8) c.if-kind-gt2.true);
      law = modes-prefix_free;
    }

pub returns-then-kind-eq2 : goal.returns-then-kind-eq2
returns-then-kind-eq2 c =
    let v : ℕ = c.window.result / 2 ^ 17 in
    let e : ℕ = get_or MODES v 0 in
    let small : c.window.result / 2 ^ 17 < 128 = omega (arith, c.window.ensures.bound) in
    let there : c.from-size.result ≤ length c.args.self.now.left = omega (arith, c.if-size-few.false, c.few.ensures) in
    let left : c.skip.new.self.left ≡ drop c.from-size.result c.args.self.now.left = ap (λ (r : Rest). r.left) c.skip.ensures in
    record {
      value = ap (λ (m : Mode). let pair : Option (Mode × List ℕ) = Some (m, c.skip.new.self.left) in pair) (kind-horizontal (e / 8) c.if-kind-eq2.true)
          ∙ found v c.from-size.result c.args.self.now.left c.skip.new.self.left small c.window.ensures.bits (c.window.ensures.value 7 (omega arith)) c.from-size.ensures c.if-size-eq0.false there left;
      bytes = ap (λ (r : Rest). r.bytes) c.skip.ensures;
      shorter = shorter-by c.from-size.result c.args.self.now.left c.skip.new.self.left c.if-size-eq0.false there left;
      near = tt;
      law = modes-prefix_free;
    }

pub returns : goal.returns
returns c =
    let v : ℕ = c.window.result / 2 ^ 17 in
    let e : ℕ = get_or MODES v 0 in
    let small : c.window.result / 2 ^ 17 < 128 = omega (arith, c.window.ensures.bound) in
    let there : c.from-size.result ≤ length c.args.self.now.left = omega (arith, c.if-size-few.false, c.few.ensures) in
    let left : c.skip.new.self.left ≡ drop c.from-size.result c.args.self.now.left = ap (λ (r : Rest). r.left) c.skip.ensures in
    record {
      value = ap (λ (m : Mode). let pair : Option (Mode × List ℕ) = Some (m, c.skip.new.self.left) in pair) (kind-pass (e / 8) (omega (arith, c.if-kind-gt2.false)) c.if-kind-eq2.false)
          ∙ found v c.from-size.result c.args.self.now.left c.skip.new.self.left small c.window.ensures.bits (c.window.ensures.value 7 (omega arith)) c.from-size.ensures c.if-size-eq0.false there left;
      bytes = ap (λ (r : Rest). r.bytes) c.skip.ensures;
      shorter = shorter-by c.from-size.result c.args.self.now.left c.skip.new.self.left c.if-size-eq0.false there left;
      near = tt;
      law = modes-prefix_free;
    }
