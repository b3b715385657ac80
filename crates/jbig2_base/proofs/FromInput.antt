-- Law: no definition of this crate returns an error that bytes cannot bring about.
use Rattle.std.proofs.Common.{ℕ, eqb, Bool, true, false, cond, List, Option, Some, None, Result, Ok, Err}
use Rattle.std.specs.Prelude.{IfErr}
use Rattle.std.specs.Int.{Width}
use Rattle.jbig2_base.specs.Results.{◌>>=◌, refuse_if, some_or}
use Rattle.jbig2_base.specs.Bits.{Place, bits_left, bits_next}
use Rattle.jbig2_base.specs.Fields.{bits_at, bytes_at, number_at, signed_at}
use Rattle.jbig2_base.specs.Combination.{operator_of}
use Rattle.jbig2_base.specs.declared.error.DecodeError.{DecodeError}
use Rattle.jbig2_base.specs.declared.error.DecodeError.TheVariants as errors
use Rattle.jbig2_base.specs.declared.error.HuffmanError.TheVariants.{ConflictingCodes}
use Rattle.jbig2_base.specs.declared.error.OverflowError.TheVariants.{Index}
use Rattle.jbig2_base.specs.declared.error.TemplateError.TheVariants.{Invalid}
use Rattle.jbig2_base.proofs.Causes.{cause-bytes, cause-number, cause-refused}

-- An error that bytes can bring about. The others are want of memory, and three that stand in the enums for their
-- matchers alone.
abbrev pub IsFromInput : DecodeError → Type 0
IsFromInput errors.OutOfMemory = ⊥
IsFromInput (errors.Huffman ConflictingCodes) = ⊥
IsFromInput (errors.Template Invalid) = ⊥
IsFromInput (errors.Overflow Index) = ⊥
IsFromInput _ = Unit {0}

-- a value, or such an error
abbrev pub FromInput : {A : Type 0} → Result A DecodeError → Type 0
FromInput r = IfErr r IsFromInput

-- ---- how definitions are put together
pub from_input-next : {A B : Type 0} (r : Result A DecodeError) (next : A → Result B DecodeError) → FromInput r → ((x : A) → FromInput (next x)) → FromInput (r >>= next)
from_input-next (Ok x) next first rest = rest x
from_input-next (Err e) next first rest = first

pub from_input-if : {A : Type 0} (b : Bool) (r s : Result A DecodeError) → FromInput r → FromInput s → FromInput (cond b r s)
from_input-if true r s at_true at_false = at_true
from_input-if false r s at_true at_false = at_false

pub from_input-refusal : (b : Bool) (e : DecodeError) → IsFromInput e → FromInput (refuse_if b e)
from_input-refusal b e is = cause-refused IsFromInput b e (λ refused. is)

pub from_input-some : {A : Type 0} (e : DecodeError) (x : Option A) → IsFromInput e → FromInput (some_or e x)
from_input-some e (Some x) is = tt
from_input-some e None is = is

-- ---- fields
pub from_input-bytes : (n : ℕ) (bytes : List ℕ) → FromInput (bytes_at n bytes)
from_input-bytes n bytes = cause-bytes IsFromInput n bytes (λ short. tt)

pub from_input-number : (w : Width) (bytes : List ℕ) → FromInput (number_at w bytes)
from_input-number w bytes = cause-number IsFromInput w bytes (λ short. tt)

pub from_input-signed : (w : Width) (bytes : List ℕ) → FromInput (signed_at w bytes)
from_input-signed w bytes = from_input-next (number_at w bytes) _ (from_input-number w bytes) (λ n. tt)

pub from_input-bits : (e : DecodeError) (count : ℕ) (p : Place) → IsFromInput e → FromInput (bits_at e count p)
from_input-bits e count p is = from_input-next (some_or e (bits_next count (bits_left p))) _ (from_input-some e (bits_next count (bits_left p)) is) (λ n. tt)

pub from_input-operator : (n : ℕ) → FromInput (operator_of n)
from_input-operator n =
    from_input-if (eqb n 0) _ _ tt (from_input-if (eqb n 1) _ _ tt (from_input-if (eqb n 2) _ _ tt (from_input-if (eqb n 3) _ _ tt (from_input-if (eqb n 4) _ _ tt tt))))
