-- Integers and symbol ids are read back.
use Rattle.std.proofs.Common.{◌≡◌, ℕ, suc, ◌+◌, ◌-◌, ◌%◌, ◌^◌, ◌<◌, ◌≤◌, ltb, eqb, Bool, true, false, List, [], ◌∷◌, ◌++◌, length, drop, ℤ, ◌-ℤ◌, pos, negsuc, Option, Some, None, refl, sym, ◌∙◌, ap, subst, arith, ne_eqb, lt-ltb, le-ltb, mod-eq_of_lt, pow_mono}
use Rattle.std.proofs.lemmas.Bool.{cond-true, cond-false}
use Rattle.std.proofs.lemmas.List.{drop_at}
use Rattle.jbig2_coder.specs.Coder.{Context, Registers}
use Rattle.jbig2_coder.specs.Encoder.{encoded_bytes}
use Rattle.jbig2_coder.specs.Integers.{Reading, Range, ranges, next, read, read_more, next_range, prev_of, signed_number, value_of, integer, Ids, id}
use Rattle.jbig2_base.specs.Bits.{value_of_bits}
use Rattle.jbig2_inverses.specs.CoderStates.{Entry, asked, State, state_on, state_after, initial_state, GivesDecisions, window}
use Rattle.jbig2_inverses.specs.IntegerWriter.{binary, size_decisions, integer_decisions, in_contexts, integer_entries, id_entries, IsWord, ReadsInteger, ReadsId, IntegersReadBack, SymbolIdsReadBack}
use Rattle.jbig2_inverses.proofs.CoderStates.{reading_at, next-gives, read-gives, more-gives, contexts-append, gives-next, gives-before, gives-after, after-next, after-append, gives-amid}
use Rattle.jbig2_inverses.proofs.IntegerRanges.{RowOf, row-of, length-binary, value-whole, value-below, prev-below}

abbrev Integer : Type 0
Integer = record { value : Option ℤ; reading : Reading }

abbrev sum_of : Range → Reading → Reading → ℕ
sum_of row before after = (value_of_bits (drop (length before.bits) after.bits) + row.offset) % 2 ^ 32

abbrev finished : Bool → Range → Reading → Reading → Integer
finished symbol row before after = record { value = value_of symbol (sum_of row before after); reading = after }

abbrev from_prefix : List ℕ → Bool → Range → Reading → Integer
from_prefix bytes symbol row before = finished symbol row before (read_more prev_of row.bits bytes before)

abbrev from_sign : List ℕ → Bool → Range → Reading → Integer
from_sign bytes symbol row sign = from_prefix bytes symbol row (read_more prev_of (length row.prefix) bytes sign)

integer-is : (bytes : List ℕ) (registers : Registers) (contexts : List Context)
    → let start : Reading = record { bits = []; registers = registers; contexts = contexts } in
    let sign = read prev_of bytes start in
    integer bytes registers contexts ≡ from_sign bytes (next prev_of bytes start).symbol (next_range ranges bytes sign) sign
unfolding integer
integer-is bytes registers contexts = refl

in_contexts-first : (name : List Bool → ℕ) (base : ℕ) (before : List Bool) (d : Bool) (ds : List Bool) → in_contexts name base before (d ∷ ds) ≡ (base + name before, d) ∷ in_contexts name base (before ++ d ∷ []) ds
unfolding in_contexts
in_contexts-first name base before d ds = refl

module _ (base : ℕ) (bytes : List ℕ) where
  abbrev at : List Bool → State → Reading
  at bits s = reading_at prev_of base 512 0 bits s

  abbrev entries : List Bool → List Bool → List Entry
  entries bits ds = in_contexts prev_of base bits ds

  -- more bits of an integer
  more : (ds bits : List Bool) (n : ℕ) (s : State) → length ds ≡ n → GivesDecisions bytes s (entries bits ds)
      → read_more prev_of n bytes (at bits s) ≡ at (bits ++ ds) (state_after bytes s (asked (entries bits ds)))
  more ds bits n s size g =
      ap (λ (k : ℕ). read_more prev_of k bytes (at bits s)) (sym size)
      ∙ more-gives prev_of base 512 (length bits + length ds) ds bytes bits s (λ b h. prev-below b) (omega arith) g

  -- the sign, the prefix of a row and its value
  of_row : (symbol : Bool) (row : Range) (size : ℕ) (s : State) → RowOf base bytes size row → size < 2 ^ 32
      → GivesDecisions bytes s (entries [] (symbol ∷ (row.prefix ++ binary row.bits (size - row.offset))))
      → integer bytes s.registers (window base 512 s.contexts)
      ≡ record { value = value_of symbol size; reading = at (symbol ∷ (row.prefix ++ binary row.bits (size - row.offset))) (state_after bytes s (asked (entries [] (symbol ∷ (row.prefix ++ binary row.bits (size - row.offset)))))) }
  of_row symbol row size s of fits g =
      let above = binary row.bits (size - row.offset) in
      let first : Entry = (base + prev_of [], symbol) in
      let sign_bits = symbol ∷ [] in
      let es = entries sign_bits (row.prefix ++ above) in
      let split : es ≡ entries sign_bits row.prefix ++ entries (symbol ∷ row.prefix) above = contexts-append prev_of base 512 0 row.prefix above sign_bits in
      let g1 : GivesDecisions bytes s (first ∷ es) = subst (λ (xs : List Entry). GivesDecisions bytes s xs) (in_contexts-first prev_of base [] symbol (row.prefix ++ above)) g in
      let s1 = state_on bytes s (base + prev_of []) in
      let g2 : GivesDecisions bytes s1 es = gives-next bytes s first es g1 in
      let g3 : GivesDecisions bytes s1 (entries sign_bits row.prefix ++ entries (symbol ∷ row.prefix) above) = subst (λ (xs : List Entry). GivesDecisions bytes s1 xs) split g2 in
      let s2 = state_after bytes s1 (asked (entries sign_bits row.prefix)) in
      let s3 = state_after bytes s2 (asked (entries (symbol ∷ row.prefix) above)) in
      let symbol_is = next-gives prev_of base 512 0 bytes [] s symbol es (prev-below []) g1 in
      let sign_is : read prev_of bytes (at [] s) ≡ at sign_bits s1 = read-gives prev_of base 512 0 bytes [] s symbol es (prev-below []) g1 in
      let row_is = of.next above sign_bits s1 g2 in
      let before_is : read_more prev_of (length row.prefix) bytes (at sign_bits s1) ≡ at (symbol ∷ row.prefix) s2 =
      more row.prefix sign_bits (length row.prefix) s1 refl (gives-before bytes s1 (entries sign_bits row.prefix) (entries (symbol ∷ row.prefix) above) g3) in
      let after_is : read_more prev_of row.bits bytes (at (symbol ∷ row.prefix) s2) ≡ at (symbol ∷ (row.prefix ++ above)) s3 =
      more above (symbol ∷ row.prefix) row.bits s2 (length-binary row.bits (size - row.offset)) (gives-after bytes s1 (entries sign_bits row.prefix) (entries (symbol ∷ row.prefix) above) g3) in
      let kept : drop (length (symbol ∷ row.prefix)) (symbol ∷ (row.prefix ++ above)) ≡ above = drop_at (symbol ∷ row.prefix) above (length (symbol ∷ row.prefix)) refl in
      let above_is : value_of_bits above ≡ size - row.offset = value-whole row.bits (size - row.offset) of.high in
      let low = of.low in
      let whole : value_of_bits above + row.offset ≡ size = omega (arith, above_is, low) in
      let sum_is : sum_of row (at (symbol ∷ row.prefix) s2) (at (symbol ∷ (row.prefix ++ above)) s3) ≡ size =
      ap (λ (bits : List Bool). (value_of_bits bits + row.offset) % 2 ^ 32) kept ∙ ap (λ (n : ℕ). n % 2 ^ 32) whole ∙ mod-eq_of_lt fits in
      let end_is : s3 ≡ state_after bytes s (asked (entries [] (symbol ∷ (row.prefix ++ above)))) =
      sym (ap (λ (xs : List Entry). state_after bytes s (asked xs)) (in_contexts-first prev_of base [] symbol (row.prefix ++ above))
      ∙ after-next bytes s first es
      ∙ ap (λ (xs : List Entry). state_after bytes s1 (asked xs)) split
      ∙ after-append bytes s1 (entries sign_bits row.prefix) (entries (symbol ∷ row.prefix) above)) in
      integer-is bytes s.registers (window base 512 s.contexts)
      ∙ ap (λ (x : Bool). from_sign bytes x (next_range ranges bytes (read prev_of bytes (at [] s))) (read prev_of bytes (at [] s))) symbol_is
      ∙ ap (λ (r : Reading). from_sign bytes symbol (next_range ranges bytes r) r) sign_is
      ∙ ap (λ (r : Range). from_sign bytes symbol r (at sign_bits s1)) row_is
      ∙ ap (λ (r : Reading). from_prefix bytes symbol row r) before_is
      ∙ ap (λ (r : Reading). finished symbol row (at (symbol ∷ row.prefix) s2) r) after_is
      ∙ ap (λ (n : ℕ). record { value = value_of symbol n; reading = at (symbol ∷ (row.prefix ++ above)) s3 }) sum_is
      ∙ ap (λ (z : State). record { value = value_of symbol size; reading = at (symbol ∷ (row.prefix ++ above)) z }) end_is

  sized : (symbol : Bool) (size : ℕ) (s : State) → size < 2 ^ 32 → GivesDecisions bytes s (entries [] (symbol ∷ size_decisions size))
      → integer bytes s.registers (window base 512 s.contexts)
      ≡ record { value = value_of symbol size; reading = at (symbol ∷ size_decisions size) (state_after bytes s (asked (entries [] (symbol ∷ size_decisions size)))) }
  sized symbol size s fits g =
      let of = row-of base bytes size fits in
      let P : Range → Type 0 = λ row. GivesDecisions bytes s (entries [] (symbol ∷ (row.prefix ++ binary row.bits (size - row.offset))))
      → integer bytes s.registers (window base 512 s.contexts)
      ≡ record { value = value_of symbol size; reading = at (symbol ∷ (row.prefix ++ binary row.bits (size - row.offset))) (state_after bytes s (asked (entries [] (symbol ∷ (row.prefix ++ binary row.bits (size - row.offset)))))) } in
      subst P (sym of.1.chosen) (of_row symbol of.0 size s of.1 fits) g

plus : (n : ℕ) → n < 2 ^ 31 → value_of false n ≡ Some (pos n)
unfolding value_of signed_number
plus n h = ap (λ (z : ℤ). Some z) (cond-true (ltb n 2147483648) (pos n) (pos n -ℤ pos 4294967296) (lt-ltb n 2147483648 (omega (arith, h))))

minus : (n : ℕ) → n < 2 ^ 31 → value_of true (n + 1) ≡ Some (negsuc n)
unfolding value_of signed_number
minus n h =
    let m = 4294967296 - (n + 1) in
    let back : 4294967296 - suc m ≡ n = omega (arith, h) in
    cond-false (eqb (n + 1) 0) None (Some (signed_number m)) (ne_eqb (n + 1) 0 (λ e. omega (arith, e)))
    ∙ ap (λ (z : ℤ). Some z)
    (cond-false (ltb m 2147483648) (pos m) (pos m -ℤ pos 4294967296) (le-ltb m 2147483648 (omega (arith, h)))
    ∙ cond-true (ltb m 4294967296) (negsuc (4294967296 - suc m)) (pos (m - 4294967296)) (lt-ltb m 4294967296 (omega (arith, h)))
    ∙ ap negsuc back)

zero-minus : value_of true 0 ≡ None
unfolding value_of
zero-minus = refl

reads-integer : (bytes : List ℕ) (s : State) (base : ℕ) (value : Option ℤ) → IsWord value → GivesDecisions bytes s (integer_entries base value) → ReadsInteger bytes s base value
unfolding integer_decisions
reads-integer bytes s base (Some (pos n)) word g =
    sized base bytes false n s (omega (arith, word)) g
    ∙ ap (λ (v : Option ℤ). record { value = v; reading = reading_at prev_of base 512 0 (false ∷ size_decisions n) (state_after bytes s (asked (integer_entries base (Some (pos n))))) }) (plus n word)
reads-integer bytes s base (Some (negsuc n)) word g =
    sized base bytes true (n + 1) s (omega (arith, word)) g
    ∙ ap (λ (v : Option ℤ). record { value = v; reading = reading_at prev_of base 512 0 (true ∷ size_decisions (n + 1)) (state_after bytes s (asked (integer_entries base (Some (negsuc n))))) }) (minus n word)
reads-integer bytes s base None word g =
    sized base bytes true 0 s (omega arith) g
    ∙ ap (λ (v : Option ℤ). record { value = v; reading = reading_at prev_of base 512 0 (true ∷ size_decisions 0) (state_after bytes s (asked (integer_entries base None))) }) zero-minus

pub integers_read_back : IntegersReadBack
integers_read_back = record {
  decisions = reads-integer;
  bytes = λ before after base value word.
      let entries = integer_entries base value in
      let bytes = encoded_bytes (before ++ entries ++ after) in
      reads-integer bytes (state_after bytes (initial_state bytes) (asked before)) base value word (gives-amid bytes before entries after refl);
}

-- symbol ids
abbrev pub id_name : List Bool → ℕ
id_name bits = value_of_bits (true ∷ bits)

pub id-below : (code_length : ℕ) (bits : List Bool) → length bits < code_length → id_name bits < 2 ^ code_length
id-below code_length bits h =
    let below = value-below (true ∷ bits) in
    let reach : suc (length bits) ≤ code_length = omega (arith, h) in
    let top : 2 ^ suc (length bits) ≤ 2 ^ code_length = pow_mono reach in
    omega (arith, below, top)

id-is : (bytes : List ℕ) (registers : Registers) (ids : Ids) → id bytes registers ids ≡ read_more id_name ids.code_len bytes (record { bits = []; registers = registers; contexts = ids.contexts })
unfolding id
id-is bytes registers ids = refl

reads-id : (bytes : List ℕ) (s : State) (base code_length number : ℕ) → number < 2 ^ code_length → GivesDecisions bytes s (id_entries base code_length number) → ReadsId bytes s base code_length number
reads-id bytes s base code_length number fits g =
    let ds = binary code_length number in
    let count = 2 ^ code_length in
    let size : length ds ≡ code_length = length-binary code_length number in
    let start = reading_at id_name base count code_length [] s in (
      id-is bytes s.registers (record { code_len = code_length; contexts = window base count s.contexts })
          ∙ ap (λ (k : ℕ). read_more id_name k bytes start) (sym size)
          ∙ more-gives id_name base count code_length ds bytes [] s (λ bits h. id-below code_length bits h) (omega (arith, size)) g,
      value-whole code_length number fits,
    )

pub symbol_ids_read_back : SymbolIdsReadBack
symbol_ids_read_back = record {
  decisions = reads-id;
  bytes = λ before after base code_length number fits.
      let entries = id_entries base code_length number in
      let bytes = encoded_bytes (before ++ entries ++ after) in
      reads-id bytes (state_after bytes (initial_state bytes) (asked before)) base code_length number fits (gives-amid bytes before entries after refl);
}
