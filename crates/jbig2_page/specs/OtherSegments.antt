-- Segments that draw nothing and keep nothing.
use Rattle.std.specs.Prelude.{Bool, false, List, nat_le, Ok, Result, true, ℕ}
use Rattle.std.specs.Int.{w32}
use Rattle.jbig2_base.specs.Results.{refuse_if, ◌>>=◌}
use Rattle.jbig2_base.specs.Fields.{number_at}
use Rattle.jbig2_base.specs.declared.error.DecodeError.TheVariants.{Unsupported}
use Rattle.jbig2_base.specs.declared.error.DecodeError.{DecodeError}

-- An extension (7.4.14): strict reading refuses one that a decoder must know.
abbrev pub extension : Bool → List ℕ → Result (Unit {0}) DecodeError
extension true bytes = number_at w32 bytes >>= λ (kind, rest). refuse_if (nat_le 2147483648 kind) Unsupported
extension false bytes = Ok tt
