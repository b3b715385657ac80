-- The errors that a call may return (our own rule): `OutOfMemory`, or an error that some input causes.
use Rattle.std.specs.Prelude.{◌≡◌, ◌⊎◌}
use Rattle.jbig2_base.specs.declared.error.DecodeError.{DecodeError}
use Rattle.jbig2_base.specs.declared.error.DecodeError.TheVariants.{OutOfMemory}
use Rattle.jbig2_page.specs.Causes.{IsFromInput}

abbrev pub IsReturned : DecodeError → Type 0
IsReturned e = (e ≡ OutOfMemory) ⊎ IsFromInput e
