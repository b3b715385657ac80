use Rattle.std.proofs.Common.{◌≡◌, ℕ, List, Result, Ok, ap, sym, arith}
use Rattle.jbig2_base.specs.inner.Packed.{blank_words}
use Rattle.jbig2_base.proofs.PackedLemmas.{blank_words-grid, blank_words-packed}
use Rattle.jbig2_base.specs.declared.error.DecodeError.{DecodeError}
use Rattle.jbig2_base.proofs.bitmap.rows.PackedRows.refill.Goals as goal

ok-is : {xs ys : List ℕ} → (let made : Result (List ℕ) DecodeError = Ok xs in made) ≡ Ok ys → ys ≡ xs
ok-is e = cc

pub invariant_of-self-2 : goal.invariant_of-self-2
invariant_of-self-2 g c =
    let made : c.refill.new.self ≡ blank_words c.args.width c.args.height c.args.black = ok-is c.in_ok-refill.ensures.value in
    blank_words-packed c.args.width c.args.height c.div_ceil.result c.args.black c.refill.new.self (omega (arith, c.div_ceil.ensures)) made

pub returns-clause-value : goal.returns-clause-value
returns-clause-value g c =
    let made : c.refill.new.self ≡ blank_words c.args.width c.args.height c.args.black = ok-is c.in_ok-refill.ensures.value in
    ap (λ v. Ok v) (sym (blank_words-grid c.args.width c.args.height c.div_ceil.result c.args.black c.refill.new.self (omega (arith, c.div_ceil.ensures)) made))
