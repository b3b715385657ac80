-- The fields before coded data of unknown length (T.88, 7.2.7).
use Rattle.std.specs.Prelude.{ℕ, List, Result, Ok}
use Rattle.std.specs.Int.{w8}
use Rattle.jbig2_base.specs.Fields.{bytes_at, number_at}
use Rattle.jbig2_framing.specs.Segment.{adaptive_byte_count}
use Rattle.jbig2_base.specs.declared.error.DecodeError.{DecodeError}
use Rattle.jbig2_base.specs.Results.{◌>>=◌}

-- a generic region's flags, and the bytes after its adaptive pixels
unfoldable pub coded_front_at : List ℕ → Result (ℕ × List ℕ) DecodeError
coded_front_at bytes = do
  (information, rest) ← bytes_at 17 bytes
  (flags, rest) ← number_at w8 rest
  (pixels, rest) ← bytes_at (adaptive_byte_count flags) rest
  Ok (flags, rest)
