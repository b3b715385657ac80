use Rattle.std.proofs.Common.{◌≡◌, ℕ, ◌+◌, ◌*◌, ◌/◌, ◌%◌, ◌-◌, leb, sym, ap, ◌∙◌, arith}
use Rattle.std.proofs.lemmas.Bool.{cond-true, cond-false}
use Rattle.jbig2_base.specs.Bits.{bit}
use Rattle.jbig2_mmr.proofs.T6Changes.{right-bit, right-more}
use Rattle.jbig2_mmr.proofs.mmr.row.right_of.Goals as goal

pub returns-then-place : goal.returns-then-place
returns-then-place c = λ k inside.
    let x : ℕ = 64 * (c.args.place.a0 / 64) in
    ap (λ (n : ℕ). bit n (63 - k)) (right-more (c.args.place.a0 % 64))
    ∙ right-bit (c.args.place.a0 + 1) x (c.args.place.a0 % 64 + 1) k (omega arith) (omega arith) inside
    ∙ ap (λ (n : ℕ). leb n (x + k)) (sym (cond-true c.args.place.past_start (c.args.place.a0 + 1) 0 c.if-place.true))

pub returns-else-place : goal.returns-else-place
returns-else-place c = λ k inside.
    let x : ℕ = 64 * (c.args.place.a0 / 64) in
    let start : c.args.place.a0 ≡ 0 = c.requires c.if-place.false in
    right-bit 0 x (c.args.place.a0 % 64) k (omega arith) (omega (arith, start)) inside
    ∙ ap (λ (n : ℕ). leb n (x + k)) (sym (cond-false c.args.place.past_start (c.args.place.a0 + 1) 0 c.if-place.false))
