-- The encoder of the code, as the encoder of the definitions.
use Rattle.std.specs.Prelude.{ℕ, ◌+◌, ◌-◌, ◌*◌, ◌^◌, ◌<◌, ◌≤◌, List, reverse}
use Rattle.jbig2_coder.specs.Coder.{Context, fresh}
use Rattle.jbig2_coder.specs.Encoder.{Writer, EncoderState}
use Rattle.jbig2_coder.specs.declared.mq.encoder.CodeRegister.{CodeRegister}
use Rattle.jbig2_coder.specs.declared.mq.encoder.Registers.{Registers}

abbrev pub writer_of : List ℕ → CodeRegister → Writer
writer_of bytes code = record { register = code.c; wait = code.ct; out = reverse bytes }

abbrev pub encoder_state : List ℕ → Registers → EncoderState
encoder_state bytes registers = record { range = registers.a; writer = writer_of bytes registers.code }

abbrev pub shifted_registers : ℕ → Registers → Registers  -- A and C shifted by n bits at once
shifted_registers n r =
    record { a = r.a * 2 ^ n; code = record { c = r.code.c * 2 ^ n; ct = r.code.ct - n } }

-- When the next byte goes out, C fits in it, with at most one carry.
pub record HasRoom (a : ℕ) (code : CodeRegister) : Type 0 where
  pub some : 1 ≤ code.ct
  pub few : code.ct ≤ 12
  pub room : (code.c + a) * 2 ^ code.ct ≤ 9 * 2 ^ 24

-- What holds for the registers between two decisions.
pub record IsAtRest (registers : Registers) : Type 0 where
  pub normal : 0x8000 ≤ registers.a
  pub below : registers.a < 0x10000
  pub room : HasRoom registers.a registers.code

-- the encoder after a decision is coded, and the decision's context then
abbrev pub Encoding : Type 0
Encoding = record { coding : EncoderState; context : Context }

-- the context of each number
abbrev pub Contexts : Type 0
Contexts = ℕ → Context

abbrev pub all_fresh : Contexts
all_fresh = λ _. fresh
