-- How strictly bytes are read (our own rule). Strict reading refuses each fault. Lenient reading accepts faults that do
-- not stop a decoder. Salvage goes on as lenient reading does, and leaves out whatever lenient reading refuses.
use Rattle.std.specs.Prelude.{Bool, true, false, if◌then◌else◌}
use Rattle.jbig2_base.specs.declared.error.DecodeError.{DecodeError}
use Rattle.jbig2_base.specs.declared.error.DecodeError.TheVariants.{OutOfMemory}
use Rattle.jbig2_framing.specs.declared.reading.Reading.{Reading}
use Rattle.jbig2_framing.specs.declared.reading.Reading.TheVariants.{Strict, Lenient, Salvage}

abbrev pub reading_of : Bool → Reading
reading_of strict = if strict then Strict else Lenient

abbrev pub is_strict : Reading → Bool  -- each fault is an error
is_strict Strict = true
is_strict _ = false

-- whether reading goes on without what this error refuses: only in salvage, and never when it is out of memory
abbrev pub is_salvaged : Reading → DecodeError → Bool
is_salvaged Salvage OutOfMemory = false
is_salvaged Salvage e = true
is_salvaged _ e = false
