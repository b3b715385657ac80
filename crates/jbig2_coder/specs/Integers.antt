-- Integers and symbol ids (T.88, Annex A): the bits read so far give the context of each decision. A reading takes the
-- coder's registers and a procedure's contexts. It gives a value or out of band, with registers and contexts as they
-- are then. `integer_by` takes the name of a procedure (6.4, 6.5), whose contexts are kept from integer to
-- integer.
use Rattle.std.specs.Prelude.{ℕ, suc, zero, ◌+◌, ◌-◌, ◌*◌, ◌%◌, ◌^◌, Bool, true, false, not, ◌&&◌, if◌then◌else◌, ◌==◌}
use Rattle.std.specs.Prelude.{nat_lt, List, [], ◌∷◌, ◌++◌, length, drop, slice_index_or, slice_set, Some, None, Option}
use Rattle.std.specs.Prelude.{ℤ, pos, ◌-ℤ◌, replicate, Result}
use Rattle.jbig2_coder.specs.Coder.{Context, Decision, Registers, fresh, decision, Coder}
use Rattle.jbig2_coder.specs.declared.integer_procedures.IntegerProcedure.{IntegerProcedure}
use Rattle.jbig2_coder.specs.declared.integer_procedures.IntegerProcedure.TheVariants.{Iaai, Iadh, Iads, Iadt, Iadw}
use Rattle.jbig2_coder.specs.declared.integer_procedures.IntegerProcedure.TheVariants.{Iaex, Iafs, Iait, Iardh, Iardw}
use Rattle.jbig2_coder.specs.declared.integer_procedures.IntegerProcedure.TheVariants.{Iardx, Iardy, Iari}
use Rattle.jbig2_base.specs.Bits.{value_of_bits}
use Rattle.jbig2_base.specs.Results.{some_or}
use Rattle.jbig2_base.specs.declared.error.DecodeError.{DecodeError}

abbrev pub Reading : Type 0  -- the bits read so far, and the registers and the contexts after them
Reading = record { bits : List Bool; registers : Registers; contexts : List Context }

module _ (name : List Bool → ℕ) where  -- the number of the next bit's context, by the bits so far
  unfoldable pub next : List ℕ → Reading → Decision  -- the decision in the context of the bits so far
  next bytes r = decision bytes r.registers (slice_index_or r.contexts (name r.bits) fresh)

  unfoldable pub read : List ℕ → Reading → Reading  -- one bit more
  read bytes r =
      let d = next bytes r in
      record {
        bits = r.bits ++ d.symbol ∷ [];
        registers = d.registers;
        contexts = slice_set r.contexts (name r.bits) d.context;
      }

  unfoldable pub read_more : ℕ → List ℕ → Reading → Reading  -- n bits more
  read_more zero bytes r = r
  read_more (suc n) bytes r = read bytes (read_more n bytes r)

abbrev pub prev_of : List Bool → ℕ  -- PREV (A.2): the number that a 1 and the last bits make, at most eight of them
prev_of bits = value_of_bits (true ∷ drop (length bits - 8) bits)

abbrev pub Range : Type 0  -- a row of Table A.1: the decisions that select it, the bits of the value, the least value
Range = record { prefix : List Bool; bits : ℕ; offset : ℕ }

abbrev pub range : List Bool → ℕ → ℕ → Range
range prefix bits offset = record { prefix = prefix; bits = bits; offset = offset }

unfoldable pub ranges : List Range
ranges =
    range (false ∷ []) 2 0
    ∷ range (true ∷ false ∷ []) 4 4
    ∷ range (true ∷ true ∷ false ∷ []) 6 20
    ∷ range (true ∷ true ∷ true ∷ false ∷ []) 8 84
    ∷ range (true ∷ true ∷ true ∷ true ∷ false ∷ []) 12 340
    ∷ range (true ∷ true ∷ true ∷ true ∷ true ∷ []) 32 4436 ∷ []

unfoldable pub are_next : List Bool → List ℕ → Reading → Bool  -- whether the next decisions are these
are_next [] bytes r = true
are_next (true ∷ others) bytes r = (next prev_of bytes r).symbol && are_next others bytes (read prev_of bytes r)
are_next (false ∷ others) bytes r = not (next prev_of bytes r).symbol && are_next others bytes (read prev_of bytes r)

unfoldable pub next_range : List Range → List ℕ → Reading → Range  -- the row whose prefix comes next; there is one
next_range [] bytes r = range [] 0 0
next_range (row ∷ rows) bytes r = if are_next row.prefix bytes r then row else next_range rows bytes r

unfoldable pub signed_number : ℕ → ℤ  -- a number below 2 ^ 32 as a signed one of 32 bits
signed_number n = if nat_lt n (2 ^ 31) then pos n else pos n -ℤ pos (2 ^ 32)

unfoldable pub value_of : Bool → ℕ → Option ℤ  -- the value, or out of band
value_of negative sum =
    if negative then (if sum == 0 then None else Some (signed_number (2 ^ 32 - sum))) else Some (signed_number sum)

-- An integer (A.2): a sign, a prefix and a value.
unfoldable pub integer : List ℕ → Registers → List Context → record { value : Option ℤ; reading : Reading }
integer bytes registers contexts =
    let start : Reading = record { bits = []; registers = registers; contexts = contexts } in
    let sign = read prev_of bytes start in
    let row = next_range ranges bytes sign in
    let before = read_more prev_of (length row.prefix) bytes sign in
    let after = read_more prev_of row.bits bytes before in
    let sum = (value_of_bits (drop (length before.bits) after.bits) + row.offset) % 2 ^ 32 in
    record { value = value_of (next prev_of bytes start).symbol sum; reading = after }

-- a number, or this error where it is out of band
abbrev pub in_band : DecodeError → Option ℤ → Result ℤ DecodeError
in_band e n = some_or e n

-- A symbol id (A.3) has as many bits as the code length says. A bit's context is the number of a 1 and the bits so far.
abbrev pub Ids : Type 0
Ids = record { code_len : ℕ; contexts : List Context }

unfoldable pub id : List ℕ → Registers → Ids → Reading
id bytes registers ids =
    let start : Reading = record { bits = []; registers = registers; contexts = ids.contexts } in
    read_more (λ bits. value_of_bits (true ∷ bits)) ids.code_len bytes start

-- The most decisions that n numbers take (our own rule, by A.2 and A.3): an integer takes at most 38, an id 30.
abbrev pub number_steps : ℕ → ℕ
number_steps n = 38 * n

abbrev pub index_of : IntegerProcedure → ℕ
index_of Iaai = 0
index_of Iadh = 1
index_of Iads = 2
index_of Iadt = 3
index_of Iadw = 4
index_of Iaex = 5
index_of Iafs = 6
index_of Iait = 7
index_of Iardh = 8
index_of Iardw = 9
index_of Iardx = 10
index_of Iardy = 11
index_of Iari = 12

abbrev pub Procedures : Type 0  -- the contexts of each procedure, in that order
Procedures = List (List Context)

abbrev pub fresh_procedures : Procedures
fresh_procedures = replicate 13 (replicate 512 fresh)

abbrev pub asked_integer : IntegerProcedure → Coder → Procedures → record { value : Option ℤ; reading : Reading }
asked_integer procedure c procedures = integer c.bytes c.registers (slice_index_or procedures (index_of procedure) [])

-- The next integer of a procedure, and the coder and the contexts after it.
unfoldable pub integer_by : IntegerProcedure → Coder → Procedures
    → record { value : Option ℤ; coder : Coder; procedures : Procedures }
integer_by procedure c procedures =
    let i = asked_integer procedure c procedures in
    record {
      value = i.value;
      coder = record c { registers = i.reading.registers };
      procedures = slice_set procedures (index_of procedure) i.reading.contexts;
    }
