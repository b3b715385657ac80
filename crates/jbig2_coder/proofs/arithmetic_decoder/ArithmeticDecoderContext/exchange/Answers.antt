use Rattle.std.proofs.Common.{◌≡◌, ℕ, ◌%◌, ◌<◌, ◌≤◌, Bool, true, false, not, cond, eqb, leb, ltb, refl, sym, ap, ◌∙◌, arith}
use Rattle.std.specs.Bool.{beq}
use Rattle.std.proofs.lemmas.Bool.{cond-true, cond-false}
use Rattle.jbig2_coder.specs.Coder.{Context, likely_next, unlikely_next}
use Rattle.jbig2_coder.specs.inner.States.{context_in_state}
use Rattle.jbig2_coder.proofs.Choices.{choice-part}
use Rattle.jbig2_coder.proofs.arithmetic_decoder.ArithmeticDecoderContext.exchange.Goals as goal
use Rattle.jbig2_coder.proofs.arithmetic_decoder.ArithmeticDecoderContext.exchange.Goals.{then-is_lower, else-is_lower, then-is_lower-2, else-is_lower-2, then-is_unlikely, else-is_unlikely}

-- the symbol that the code names
symbol-read : (likely unlikely : Bool) → not (beq likely unlikely) ≡ cond unlikely (not likely) likely
symbol-read true true = refl
symbol-read true false = refl
symbol-read false true = refl
symbol-read false false = refl

likely-kept : (x : Context) → (likely_next x).likely ≡ x.likely
unfolding likely_next
likely-kept x = refl

pub returns-clause-choice : goal.returns-clause-choice
returns-clause-choice c = λ code small at.
    let rest : ℕ = c.args.rest in
    let high : ℕ = c.args.high in
    let qe : ℕ = c.args.state.qe in
    let x : Context = c.args.self.now in
    let unlikely : Bool = not (beq (leb rest high) (ltb rest qe)) in
    let upper_size : high < rest → c.if-is_lower-2.size ≡ rest = elim c.if-is_lower-2.branch [
      | then-is_lower-2 w ↦ λ upper. absurd (omega (arith, upper, w.if-is_lower-2.true))
      | else-is_lower-2 w ↦ λ upper. w.size-is
    ] in
    let lower_size : rest ≤ high → c.if-is_lower-2.size ≡ qe = elim c.if-is_lower-2.branch [
      | then-is_lower-2 w ↦ λ lower. w.size-is
      | else-is_lower-2 w ↦ λ lower. absurd (omega (arith, lower, w.if-is_lower-2.false))
    ] in
    let upper_below : high < rest → c.if-is_lower.below ≡ 0 = elim c.if-is_lower.branch [
      | then-is_lower w ↦ λ upper. absurd (omega (arith, upper, w.if-is_lower.true))
      | else-is_lower w ↦ λ upper. w.below-is
    ] in
    let lower_below : rest ≤ high → c.if-is_lower.below ≡ rest = elim c.if-is_lower.branch [
      | then-is_lower w ↦ λ lower. w.below-is
      | else-is_lower w ↦ λ lower. absurd (omega (arith, lower, w.if-is_lower.false))
    ] in
    let next : context_in_state c.if-is_unlikely.self ≡ cond unlikely (unlikely_next x) (likely_next x) = elim c.if-is_unlikely.branch [
      | then-is_unlikely w ↦ ap (λ (k : ℕ). context_in_state k) w.self-is ∙ c.requires.does.unlikely ∙ sym (cond-true unlikely (unlikely_next x) (likely_next x) w.if-is_unlikely.true)
      | else-is_unlikely w ↦ ap (λ (k : ℕ). context_in_state k) w.self-is ∙ c.requires.does.likely ∙ sym (cond-false unlikely (unlikely_next x) (likely_next x) w.if-is_unlikely.false)
    ] in
    let symbol : not (beq (eqb (c.args.state.likely % 2) 1) unlikely) ≡ cond unlikely (not x.likely) x.likely =
    symbol-read _ unlikely ∙ ap (λ (likely : Bool). cond unlikely (not likely) likely) (ap (λ (q : Context). q.likely) c.requires.does.likely ∙ likely-kept x) in
    choice-part x (context_in_state c.if-is_unlikely.self) rest qe high c.if-is_lower-2.size c.if-is_lower.below code _ (sym c.requires.does.qe) small at c.requires.below c.requires.renorm upper_size lower_size upper_below lower_below next symbol
