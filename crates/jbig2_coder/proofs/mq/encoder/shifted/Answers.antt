use Rattle.std.proofs.Common.{◌≡◌, ℕ, ◌*◌, ◌%◌, ◌-◌, ◌^◌, sym, subst, arith}
use Rattle.jbig2_coder.specs.inner.EncoderViews.{shifted_registers, HasRoom}
use Rattle.jbig2_coder.specs.declared.mq.encoder.Registers.{Registers}
use Rattle.jbig2_coder.proofs.Encoders.{shifted-fits, shifted-room}
use Rattle.jbig2_coder.proofs.mq.encoder.shifted.Goals as goal

pub returns-clause-value : goal.returns-clause-value
returns-clause-value c =
    let range : c.args.registers.a * 2 ^ c.args.shifts % 2 ^ 32 ≡ c.args.registers.a * 2 ^ c.args.shifts = omega (arith, c.requires.below) in
    let register = shifted-fits c.args.registers c.args.shifts c.requires.few c.requires.room in
    λ i. record { a = range i; code = record { c = sym register i; ct = c.args.registers.code.ct - c.args.shifts } }

pub returns-clause-room : goal.returns-clause-room
returns-clause-room c =
    subst (λ (r : Registers). HasRoom r.a r.code) (sym (returns-clause-value c)) (shifted-room c.args.registers c.args.shifts c.requires.few c.requires.room)
