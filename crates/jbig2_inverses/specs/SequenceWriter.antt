-- Integers of all procedures and symbol ids as they are written one after another into one run of the arithmetic coder.
-- Then the law that they are read back. In `TextCoding` and `SymbolCoding` the same readings follow each other.
use Rattle.std.specs.Prelude.{◌≡◌, ℕ, ◌*◌, ◌^◌, ◌<◌, List, [], ◌∷◌, map, All, replicate, Option, ℤ}
use Rattle.std.specs.List.{flat_map}
use Rattle.jbig2_coder.specs.declared.integer_procedures.IntegerProcedure.{IntegerProcedure}
use Rattle.jbig2_coder.specs.Coder.{Context, Coder, fresh, initial_registers}
use Rattle.jbig2_coder.specs.Encoder.{encoded_bytes}
use Rattle.jbig2_coder.specs.Integers.{Procedures, fresh_procedures, index_of, integer_by, id}
use Rattle.jbig2_base.specs.Bits.{value_of_bits}
use Rattle.jbig2_inverses.specs.CoderStates.{Entry}
use Rattle.jbig2_inverses.specs.IntegerWriter.{integer_entries, id_entries, IsWord}

-- What is asked of the coder: the next integer of a procedure, or the next symbol id.
pub data Asked : Type 0 where
  Integer : IntegerProcedure → Asked
  Id : Asked

pub data Item : Type 0 where  -- what is written
  IntegerOf : IntegerProcedure → Option ℤ → Item
  IdOf : ℕ → Item

abbrev pub asked_of : Item → Asked
asked_of (IntegerOf procedure value) = Integer procedure
asked_of (IdOf number) = Id

pub record Readers : Type 0 where  -- the coder, the contexts of all procedures, and those of the ids
  pub coder : Coder
  pub procedures : Procedures
  pub ids : List Context

module _ (code_length : ℕ) where  -- of the ids
  -- Each procedure has 512 contexts, one procedure after another. The ids have those that follow.
  abbrev pub entries_of : Item → List Entry
  entries_of (IntegerOf procedure value) = integer_entries (512 * index_of procedure) value
  entries_of (IdOf number) = id_entries 6656 code_length number

  abbrev pub IsWritable : Item → Type 0
  IsWritable (IntegerOf procedure value) = IsWord value
  IsWritable (IdOf number) = number < 2 ^ code_length

  abbrev pub read_item : Readers → Asked → Item × Readers
  read_item r (Integer procedure) =
      let i = integer_by procedure r.coder r.procedures in
      (IntegerOf procedure i.value, record r { coder = i.coder; procedures = i.procedures })
  read_item r Id =
      let reading = id r.coder.bytes r.coder.registers (record { code_len = code_length; contexts = r.ids }) in (
        IdOf (value_of_bits reading.bits),
        record r { coder = record r.coder { registers = reading.registers }; ids = reading.contexts },
      )

  unfoldable pub read_items : Readers → List Asked → List Item
  read_items r [] = []
  read_items r (a ∷ others) = let next = read_item r a in next.0 ∷ read_items next.1 others

  abbrev pub fresh_readers : List ℕ → Readers
  fresh_readers bytes = record {
    coder = record { bytes = bytes; registers = initial_registers bytes };
    procedures = fresh_procedures;
    ids = replicate (2 ^ code_length) fresh;
  }

-- Each list of integers and ids is read back from the encoder's bytes, if the same procedures are asked in turn.
abbrev pub SequencesReadBack : Type 0
SequencesReadBack = (code_length : ℕ) (items : List Item) → All (IsWritable code_length) items
    → let bytes = encoded_bytes (flat_map (entries_of code_length) items) in
    read_items code_length (fresh_readers code_length bytes) (map asked_of items) ≡ items
