-- The two ways in which the numbers of a text region are coded (T.88, 6.4.6 to 6.4.11): by the arithmetic coder with
-- its integer procedures, and by prefix codes. Symbol dictionaries read with the same states.
use Rattle.std.specs.Prelude.{ℕ, ◌%◌, ◌^◌, ◌==◌, true, not, ℤ, pos, negsuc, nat_abs, List, Option, Result, Ok, Err, replicate}
use Rattle.jbig2_base.specs.Results.{◌>>=◌}
use Rattle.jbig2_base.specs.Bits.{Place, byte_boundary, bits_left, bits_on, start_of, value_of_bits}
use Rattle.jbig2_base.specs.Fields.{bits_at, bytes_at, end_of_bytes}
use Rattle.jbig2_base.specs.Grid.{Grid}
use Rattle.jbig2_base.specs.declared.error.DecodeError.{DecodeError}
use Rattle.jbig2_base.specs.declared.error.DecodeError.TheVariants.{Symbol}
use Rattle.jbig2_base.specs.declared.error.SymbolError.TheVariants.{UnexpectedOob}
use Rattle.jbig2_coder.specs.Coder.{Coder, fresh, initial_registers, is_within}
use Rattle.jbig2_coder.specs.Integers.{Ids, id, Procedures, integer_by, fresh_procedures, in_band}
use Rattle.jbig2_coder.specs.PrefixCode.{Member, decoded_value, value_at}
use Rattle.jbig2_coder.specs.declared.integer_procedures.IntegerProcedure.{IntegerProcedure}
use Rattle.jbig2_coder.specs.declared.integer_procedures.IntegerProcedure.TheVariants.{Iads, Iadt, Iafs, Iait, Iardh}
use Rattle.jbig2_coder.specs.declared.integer_procedures.IntegerProcedure.TheVariants.{Iardw, Iardx, Iardy, Iari}
use Rattle.jbig2_region.specs.Refinement.{Reference}
use Rattle.jbig2_text.specs.Refining.{Refining, refined_with}
use Rattle.jbig2_text.specs.SymbolCodes.{invalid_code}
use Rattle.jbig2_text.specs.Text.{Readings}

-- ---- by the arithmetic coder
-- The coder, and what the contexts of the integer procedures and of the ids (IAID) have learned.
pub record CodedState : Type 0 where
  pub coder : Coder
  pub procedures : Procedures
  pub ids : Ids

unfoldable pub coded_start : List ℕ → ℕ → CodedState  -- at the start of the bytes, with ids of this many bits
coded_start bytes bits = record {
  coder = record { bytes = bytes; registers = initial_registers bytes };
  procedures = fresh_procedures;
  ids = record { code_len = bits; contexts = replicate (2 ^ bits) fresh };
}

-- an integer or out of band (A.2), and the state after it
abbrev pub next_integer : IntegerProcedure → CodedState → Option ℤ × CodedState
next_integer procedure s =
    let a = integer_by procedure s.coder s.procedures in
    (a.value, record s { coder = a.coder; procedures = a.procedures })

abbrev pub next_id : CodedState → ℤ × CodedState  -- an id (A.3), and the state after it
next_id s =
    let r = id s.coder.bytes s.coder.registers s.ids in
    let after : Coder = record s.coder { registers = r.registers } in
    (pos (value_of_bits r.bits), record s { coder = after; ids = record s.ids { contexts = r.contexts } })

abbrev pub number_by_coder : IntegerProcedure → CodedState → Result (ℤ × CodedState) DecodeError
number_by_coder procedure s =
    let (number, after) = next_integer procedure s in in_band (Symbol UnexpectedOob) number >>= λ n. Ok (n, after)

abbrev pub by_coder : Readings CodedState  -- the low eight bits of R_I count (our own rule)
by_coder = record {
  delta_t = number_by_coder Iadt;
  first_s = number_by_coder Iafs;
  delta_s = λ s. Ok (next_integer Iads s).0;
  after_delta_s = λ s. (next_integer Iads s).1;
  t_bits = λ _. number_by_coder Iait;
  id = λ s. Ok (next_id s);
  is_refined = λ s. number_by_coder Iari s >>= λ (flag, after). Ok (not (nat_abs flag % 256 == 0), after);
  width_delta = number_by_coder Iardw;
  height_delta = number_by_coder Iardh;
  x_delta = number_by_coder Iardx;
  y_delta = number_by_coder Iardy;
  refined = λ from width height f s.
      let r = refined_with f from width height s.coder in Ok (r.grid, r.refining, record s { coder = r.coder });
  is_within = λ s. is_within s.coder.bytes s.coder.registers;
}

-- ---- by prefix codes
-- The tables of a region (Table 9, SBHUFFFS to SBHUFFRSIZE).
pub record TextTables : Type 0 where
  pub first_s : List Member
  pub delta_s : List Member
  pub delta_t : List Member
  pub refinement_width : List Member
  pub refinement_height : List Member
  pub refinement_x : List Member
  pub refinement_y : List Member
  pub refinement_size : List Member

pub record PrefixedState : Type 0 where  -- the place in the bits, the tables, and the codes of the ids (SBSYMCODES)
  pub place : Place
  pub tables : TextTables
  pub ids : List Member

abbrev pub prefixed_value : List Member → PrefixedState → Result (ℤ × PrefixedState) DecodeError
prefixed_value table s = value_at table s.place >>= λ (n, rest). Ok (n, record s { place = rest })

abbrev pub prefixed_bits : DecodeError → ℕ → PrefixedState → Result (ℕ × PrefixedState) DecodeError
prefixed_bits e count s = bits_at e count s.place >>= λ (n, rest). Ok (n, record s { place = rest })

-- this many bytes from the next whole byte on, and the place after them
abbrev pub sized_bytes : ℤ → Place → Result (List ℕ × Place) DecodeError
sized_bytes (pos size) p = bytes_at size (byte_boundary p).bytes >>= λ (coded, rest). Ok (coded, start_of rest)
sized_bytes (negsuc size) p = Err end_of_bytes

-- A refined symbol has bytes of its own, and its coder begins there (6.4.11, steps 5 to 7).
abbrev pub prefixed_refined : Reference → ℕ → ℕ → Refining → PrefixedState → Result (Grid × Refining × PrefixedState) DecodeError
prefixed_refined from width height f s = do
  (size, after_size) ← value_at s.tables.refinement_size s.place
  (coded, rest) ← sized_bytes size after_size
  let r = refined_with f from width height (record { bytes = coded; registers = initial_registers coded })
  Ok (r.grid, r.refining, record s { place = rest })

-- Bits that end are an error here, so what was read is always within the data (our own rule).
abbrev pub by_prefix_codes : Readings PrefixedState
by_prefix_codes = record {
  delta_t = λ s. prefixed_value s.tables.delta_t s;
  first_s = λ s. prefixed_value s.tables.first_s s;
  delta_s = λ s. (decoded_value s.tables.delta_s (bits_left s.place)).result;
  after_delta_s = λ s.
      record s { place = bits_on (decoded_value s.tables.delta_s (bits_left s.place)).taken s.place };
  t_bits = λ log s. prefixed_bits invalid_code log s >>= λ (n, after). Ok (pos n, after);
  id = λ s. prefixed_value s.ids s;
  is_refined = λ s. prefixed_bits end_of_bytes 1 s >>= λ (n, after). Ok (n == 1, after);
  width_delta = λ s. prefixed_value s.tables.refinement_width s;
  height_delta = λ s. prefixed_value s.tables.refinement_height s;
  x_delta = λ s. prefixed_value s.tables.refinement_x s;
  y_delta = λ s. prefixed_value s.tables.refinement_y s;
  refined = prefixed_refined;
  is_within = λ _. true;
}
