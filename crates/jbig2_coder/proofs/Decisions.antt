-- A whole decision, quiet or not.
use Rattle.std.proofs.Common.{◌≡◌, ℕ, ◌-◌, ◌/◌, ◌^◌, ◌<◌, ◌≤◌, Bool, true, false, List, refl, sym}
use mir.Val.{bool_byte}
use Rattle.jbig2_coder.specs.QeTable.{qe_row}
use Rattle.jbig2_coder.specs.Coder.{Context, Registers, choice, decision, renormd}
use Rattle.jbig2_coder.proofs.Choices.{choice-quiet}
use Rattle.jbig2_base.specs.Bits.{bit_number}

pub bool_byte-bit : (b : Bool) → bool_byte b ≡ bit_number b
bool_byte-bit true = refl
bool_byte-bit false = refl

pub decision-quiet : (bytes : List ℕ) (s : Registers) (x : Context) (qe : ℕ) → (qe_row x.row).qe ≡ qe
    → s.code.c / 2 ^ 16 < s.a - qe → 0x8000 ≤ s.a - qe
    → decision bytes s x ≡ record { symbol = x.likely; registers = record { a = s.a - qe; code = s.code }; context = x }
unfolding decision
decision-quiet bytes s x qe e h n = rw (choice-quiet x s.a s.code.c qe e h n) refl

pub decision-renorm : (bytes : List ℕ) (s : Registers) (x : Context) (symbol : Bool) (t : Registers) (y : Context)
    → choice x s.a s.code.c ≡ record { symbol = symbol; a = t.a; c = t.code.c; context = y; renorm = true }
    → t.code.ct ≡ s.code.ct → t.code.place ≡ s.code.place
    → decision bytes s x ≡ record { symbol = symbol; registers = renormd bytes 15 t.a t.code; context = y }
unfolding decision
decision-renorm bytes s x symbol t y e ct place =
    let code : t.code ≡ record { c = t.code.c; ct = s.code.ct; place = s.code.place } = λ i. record { c = t.code.c; ct = ct i; place = place i } in
    rw e (λ i. record { symbol = symbol; registers = renormd bytes 15 t.a (sym code i); context = y })
