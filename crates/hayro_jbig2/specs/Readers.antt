-- What a viewer shows of a file that it reads (our own rule). `ReadsAll` and `Opens` say what happens where the reader
-- fails.
use Rattle.std.specs.Prelude.{◌≡◌, ◌≢◌, ◌⊎◌, ℕ, List, Option, Result, Ok, Err, IfSome}
use Rattle.std.specs.IoError.{error_kind}
use Rattle.std.specs.declared.io.ErrorKind.TheVariants.{Interrupted}
use Rattle.jbig2_base.specs.declared.error.DecodeError.{DecodeError}
use Rattle.jbig2_base.specs.declared.error.DecodeError.TheVariants.{OutOfMemory}
use Rattle.jbig2_page.specs.Returned.{IsReturned}
use Rattle.jbig2_page.specs.FirstPage.{first_size}
use Rattle.hayro_jbig2.specs.declared.jbig2_error.Jbig2Error.{Jbig2Error}
use Rattle.hayro_jbig2.specs.declared.jbig2_error.Jbig2Error.TheVariants.{Io, Decode}

pub record Scan : Type 0 where  -- all bytes of a file, and the size of its first page
  pub bytes : List ℕ
  pub width : ℕ
  pub height : ℕ

-- All the bytes that a reader has were read, or the reader failed, or memory ran out.
abbrev pub ReadsAll : {V : Type 0} → (V → List ℕ) → Option (List ℕ) → Result V Jbig2Error → Type 0
ReadsAll view remaining (Ok v) = IfSome remaining (λ bytes. view v ≡ bytes)
ReadsAll view remaining (Err (Io e)) = Unit {0}
ReadsAll view remaining (Err (Decode e)) = e ≡ OutOfMemory

abbrev pub IsLasting : Jbig2Error → Type 0  -- an interruption of the reader is passed over, and so never returned
IsLasting (Io e) = error_kind e ≢ Interrupted
IsLasting (Decode e) = Unit {0}

-- Opening a reader of these bytes gives them and the size of their first page, or the first page's error, unless the
-- reader failed or memory ran out.
abbrev pub Opens : List ℕ → Result Scan Jbig2Error → Type 0
Opens bytes (Ok scan) = (scan.bytes ≡ bytes) × (first_size bytes ≡ Ok (scan.width, scan.height))
Opens bytes (Err (Io e)) = Unit {0}
Opens bytes (Err (Decode e)) = (e ≡ OutOfMemory) ⊎ (first_size bytes ≡ Err e)

-- The result of a call that reads nothing more from the reader, as `Gives` has it.
abbrev pub GivesAgain : {X Y : Type 0} → (X → Y) → Result X Jbig2Error → Result Y DecodeError → Type 0
GivesAgain view (Ok x) meant = meant ≡ Ok (view x)
GivesAgain view (Err (Io e)) meant = ⊥
GivesAgain view (Err (Decode e)) meant = (e ≡ OutOfMemory) ⊎ (meant ≡ Err e)

-- The errors that a call may return: an error of the reader, or one that decoding returns.
abbrev pub IsReturnedOrIo : Jbig2Error → Type 0
IsReturnedOrIo (Io e) = Unit {0}
IsReturnedOrIo (Decode e) = IsReturned e
