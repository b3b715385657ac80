-- Fields, read from the front (T.88, 7.1). Each gives its value and the bytes after it. A field that needs more bytes
-- than there are gives `Parse(UnexpectedEof)`. `Parses` and `Takes` say how a parser's call changes its reader (our own
-- rule).
use Rattle.std.specs.Prelude.{ℕ, nat_lt, List, length, take, drop, Result, Ok, Err, ℤ, if◌then◌else◌, ◌≡◌, ◌≤◌, OnOk}
use Rattle.std.specs.Prelude.{OnErr}
use Rattle.std.specs.Int.{Width, byte_len, from_be_bytes, cast_signed}
use Rattle.jbig2_base.specs.Results.{◌>>=◌, some_or, Returns, Gives}
use Rattle.jbig2_base.specs.Bits.{Place, bits_left, bits_next, bits_on, start_of}
use Rattle.jbig2_base.specs.declared.error.DecodeError.{DecodeError}
use Rattle.jbig2_base.specs.declared.error.DecodeError.TheVariants.{Parse}
use Rattle.jbig2_base.specs.declared.error.ParseError.TheVariants.{UnexpectedEof}

abbrev pub end_of_bytes : DecodeError
end_of_bytes = Parse UnexpectedEof

abbrev pub bytes_at : ℕ → List ℕ → Result (List ℕ × List ℕ) DecodeError  -- the next count bytes
bytes_at count bytes = if nat_lt (length bytes) count then Err end_of_bytes else Ok (take count bytes, drop count bytes)

abbrev pub number_at : Width → List ℕ → Result (ℕ × List ℕ) DecodeError  -- the next number, high byte first
number_at w bytes =
    if nat_lt (length bytes) (byte_len w) then Err end_of_bytes
    else Ok (from_be_bytes w (take (byte_len w) bytes), drop (byte_len w) bytes)

-- the same as a signed number in two's complement
abbrev pub signed_at : Width → List ℕ → Result (ℤ × List ℕ) DecodeError
signed_at w bytes = number_at w bytes >>= λ (n, rest). Ok (cast_signed w n, rest)

-- The next count bits as a number, or the error, and the place after them.
abbrev pub bits_at : DecodeError → ℕ → Place → Result (ℕ × Place) DecodeError
bits_at e count p = some_or e (bits_next count (bits_left p)) >>= λ n. Ok (n, bits_on count p)

-- The reader is after what it took, at the beginning of a byte. A call that refuses leaves it where it was.
pub record Parses {X Y : Type 0} (old new : Place) (result : Result X DecodeError) (view : X → Y)
    (meant : Result (Y × List ℕ) DecodeError) : Type 0 where
  pub value : Returns (λ x. (view x, new.bytes)) result meant
  pub place : OnOk result (new ≡ start_of new.bytes)
  pub stays : OnErr result (new ≡ old)
  pub shorter : OnOk result (length new.bytes ≤ length old.bytes)

-- the same for a call that may run out of memory
pub record Takes {X Y : Type 0} (old new : Place) (result : Result X DecodeError) (view : X → Y)
    (meant : Result (Y × List ℕ) DecodeError) : Type 0 where
  pub value : Gives (λ x. (view x, new.bytes)) result meant
  pub place : OnOk result (new ≡ start_of new.bytes)
  pub stays : OnErr result (new ≡ old)
  pub shorter : OnOk result (length new.bytes ≤ length old.bytes)
