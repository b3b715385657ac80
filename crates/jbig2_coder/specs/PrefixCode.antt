-- Prefix codes (T.88, B.3 and B.4). `prefix_code` takes lines and gives the codes that their prefix lengths make.
-- `decoded_value` takes these codes and bits. It gives a value or an error, and how many bits it takes.
use Rattle.std.specs.Prelude.{◌≡◌, AllPairs, ℕ, zero, suc, ◌+◌, ◌-◌, ◌/◌, ◌^◌, ◌≤◌, nat_lt, nat_le, ◌==◌, Bool, false}
use Rattle.std.specs.Prelude.{not, ◌&&◌, ◌||◌, List, [], ◌∷◌, ◌++◌, length, take, drop, max, filter, All, Option, Some}
use Rattle.std.specs.Prelude.{None, is_some, Result, Ok, Err, if◌then◌else◌, ℤ, pos, ◌+ℤ◌, ◌-ℤ◌}
use Rattle.jbig2_base.specs.Bits.{Place, bits_left, bits_next, bits_on, number_after}
use Rattle.jbig2_base.specs.Search.{place_from}
use Rattle.jbig2_base.specs.Results.{word_or, ◌>>=◌}
use Rattle.jbig2_base.specs.declared.error.DecodeError.{DecodeError}
use Rattle.jbig2_base.specs.declared.error.DecodeError.TheVariants.{Parse, Huffman}
use Rattle.jbig2_base.specs.declared.error.ParseError.TheVariants.{UnexpectedEof}
use Rattle.jbig2_base.specs.declared.error.HuffmanError.TheVariants.{InvalidCode, UnexpectedOob}
use Rattle.jbig2_coder.specs.declared.huffman_table.line.TableLine.{TableLine}

-- A code: how many bits it has, the number that they make, high bit first, and its line in the table.
abbrev pub Member : Type 0
Member = record { bits : ℕ; number : ℕ; line : TableLine }

-- The result of a read, and how many bits it takes. If the bits end too early, that is one more than there are.
abbrev pub CodeReading : Type 0 → Type 0
CodeReading A = record { result : Result A DecodeError; taken : ℕ }

-- A call that returns the result of a reading, and leaves the place after the bits that the reading takes.
pub record Reads {A : Type 0} (old new : Place) (result : Result A DecodeError) (reading : CodeReading A) : Type 0 where
  pub value : result ≡ reading.result
  pub place : new ≡ bits_on reading.taken old
  pub rest : bits_left new ≡ drop reading.taken (bits_left old)

abbrev pub longest : List TableLine → ℕ  -- the greatest prefix length
longest [] = 0
longest (x ∷ xs) = max x.prefix_length (longest xs)

module _ (l : ℕ) where  -- the number of bits of a code
  abbrev pub level : List TableLine → List TableLine  -- the lines whose codes have l bits, in their order
  level lines = filter (λ x. x.prefix_length == l) lines

  abbrev pub share : ℕ → ℕ  -- how many codes of l bits begin with one code of len bits; 0 if len is 0
  share len = if nat_lt 0 len && nat_le len l then 2 ^ (l - len) else 0

  unfoldable pub weight : List TableLine → ℕ  -- the sum of these shares, over all lines
  weight [] = 0
  weight (x ∷ xs) = share x.prefix_length + weight xs

  unfoldable pub shorter : List TableLine → ℕ  -- the sum over the lines of fewer than l bits
  shorter [] = 0
  shorter (x ∷ xs) = (if nat_lt x.prefix_length l then share x.prefix_length else 0) + shorter xs

  -- The members of l bits; `earlier` are the lines before the others. A code (B.3) is the sum of 2^(l - len) over the
  -- lines that are shorter, or as long and earlier; each of those that are as long adds 1.
  abbrev pub members_of : List TableLine → List TableLine → List TableLine → List Member
  members_of lines earlier [] = []
  members_of lines earlier (x ∷ xs) =
      let others = members_of lines (earlier ++ x ∷ []) xs in
      let code = shorter lines + length (level earlier) in
      if x.prefix_length == l then record { bits = l; number = code; line = x } ∷ others else others

abbrev pub members_from : ℕ → ℕ → List TableLine → List Member  -- the members of n lengths, from l on
members_from zero l lines = []
members_from (suc n) l lines = members_of l lines [] lines ++ members_from n (l + 1) lines

unfoldable pub prefix_code : List TableLine → List Member  -- the codes of these lines, by length, then by place
prefix_code lines = members_from (longest lines) 1 lines

unfoldable pub is_crowded : List TableLine → Bool  -- whether the sum of 2^-len over the codes exceeds 1
is_crowded lines = nat_lt (2 ^ longest lines) (weight (longest lines) lines)

abbrev pub table_of : List TableLine → Result (List Member) DecodeError  -- the codes, refused if they are crowded
table_of lines = if is_crowded lines then Err (Huffman InvalidCode) else Ok (prefix_code lines)

abbrev pub line_of : List Member → ℕ → ℕ → Option TableLine  -- the line whose code is the number v of k bits
line_of [] k v = None
line_of (m ∷ ms) k v = if m.bits == k && (m.number == v) then Some m.line else line_of ms k v

abbrev pub begins_longer : List Member → ℕ → ℕ → Bool  -- whether a longer code begins with the number v of k bits
begins_longer [] k v = false
begins_longer (m ∷ ms) k v = (nat_lt k m.bits && (m.number / 2 ^ (m.bits - k) == v)) || begins_longer ms k v

abbrev pub front_number : ℕ → List ℕ → ℕ  -- the number that the first k bits make
front_number k bits = number_after 0 (take k bits)

-- The line of the code that begins the bits. If there is none, the first bits that begin no code are refused (B.4).
unfoldable pub read_code : List Member → List ℕ → CodeReading TableLine
read_code ms bits =
    let found : ℕ → Option TableLine = λ k. line_of ms k (front_number k bits) in
    let is_decided : ℕ → Bool = λ k. is_some (found k) || not (begins_longer ms k (front_number k bits)) in
    let k = place_from is_decided 1 (length bits + 1) in
    if nat_lt (length bits) k then record { result = Err (Parse UnexpectedEof); taken = k } else elim (found k) [
      | Some line ↦ record { result = Ok line; taken = k }
      | None ↦ record { result = Err (Huffman InvalidCode); taken = k }
    ]

abbrev pub in_word : ℤ → Result ℤ DecodeError  -- a number that fits signed 32 bits
in_word n = word_or (Huffman InvalidCode) n

abbrev pub value_of_line : TableLine → ℕ → ℤ  -- the low value plus the range bits, or minus them in a lower line
value_of_line line offset = if line.is_lower then line.range_low -ℤ pos offset else line.range_low +ℤ pos offset

abbrev pub value_by : TableLine → Option ℕ → Result (Option ℤ) DecodeError  -- a line's value, by its range bits
value_by line None = Err (Huffman InvalidCode)
value_by line (Some offset) = in_word (value_of_line line offset) >>= λ n. Ok (Some n)

-- A value read by a table (B.4): a code, and then the range bits of its line. Out of band is None, without range bits.
unfoldable pub decoded_value : List Member → List ℕ → CodeReading (Option ℤ)
decoded_value ms bits =
    let code = read_code ms bits in
    elim code.result [
      | Ok line ↦ let value = value_by line (bits_next line.range_length (drop code.taken bits)) in
          let extra = if line.is_out_of_band then 0 else line.range_length in
          record { result = (if line.is_out_of_band then Ok None else value); taken = code.taken + extra }
      | Err e ↦ record { result = Err e; taken = code.taken }
    ]

abbrev pub no_oob : Result (Option ℤ) DecodeError → Result ℤ DecodeError  -- a value, where none may be out of band
no_oob (Ok (Some n)) = Ok n
no_oob (Ok None) = Err (Huffman UnexpectedOob)
no_oob (Err e) = Err e

abbrev pub without_oob : CodeReading (Option ℤ) → CodeReading ℤ
without_oob reading = record { result = no_oob reading.result; taken = reading.taken }

-- a number with a prefix code of this table (B.4), and the place after it; out of band is refused
abbrev pub value_at : List Member → Place → Result (ℤ × Place) DecodeError
value_at table p =
    let read = decoded_value table (bits_left p) in
    no_oob read.result >>= λ n. Ok (n, bits_on read.taken p)

abbrev pub AreShort : List TableLine → Type 0  -- one read of bits can take each range length
AreShort lines = All (λ x. x.range_length ≤ 32) lines

abbrev pub begins : Member → Member → Bool  -- whether the bits of a are the first bits of b
begins a b = nat_le a.bits b.bits && (b.number / 2 ^ (b.bits - a.bits) == a.number)

abbrev pub IsFree : List Member → Type 0  -- no code begins another
IsFree ms = AllPairs (λ a b. (begins a b ≡ false) × (begins b a ≡ false)) ms
