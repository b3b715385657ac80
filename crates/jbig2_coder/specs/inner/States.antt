-- How a context is kept: as one number, its state.
use Rattle.std.specs.Prelude.{◌≡◌, ℕ, ◌+◌, ◌*◌, ◌/◌, ◌%◌, ◌<◌, ◌≤◌, ◌==◌}
use Rattle.jbig2_coder.specs.Coder.{Context, likely_next, unlikely_next}
use Rattle.jbig2_coder.specs.QeTable.{qe_row}
use Rattle.jbig2_coder.specs.declared.arithmetic_decoder.qe_table.State.{State}
use Rattle.jbig2_base.specs.Bits.{bit_number}

-- twice the row, plus 1 if 1 is the likely symbol
abbrev pub state_of : Context → ℕ
state_of context = 2 * context.row + bit_number context.likely

abbrev pub context_in_state : ℕ → Context
context_in_state state = record { row = state / 2; likely = state % 2 == 1 }

-- the state has the data that the table gives for a context
pub record Does (state : State) (context : Context) : Type 0 where
  pub qe : state.qe ≡ (qe_row context.row).qe
  pub some : 1 ≤ state.qe
  pub half : state.qe ≤ 0x5601
  pub likely : context_in_state state.likely ≡ likely_next context
  pub unlikely : context_in_state state.unlikely ≡ unlikely_next context
  pub likely_state : state.likely < 94
  pub unlikely_state : state.unlikely < 94
