-- Globals: what segments keep that several pages share (our own rule, as in PDF).
use Rattle.std.specs.Prelude.{[], Err, if◌then◌else◌, List, Ok, Option, Result, Some, true, ℕ, ◌∷◌}
use Rattle.jbig2_base.specs.Results.{◌>>=◌}
use Rattle.jbig2_base.specs.declared.error.DecodeError.{DecodeError}
use Rattle.jbig2_framing.specs.CutOff.{sequence_cut_off}
use Rattle.jbig2_framing.specs.Reading.{is_salvaged, is_strict}
use Rattle.jbig2_framing.specs.Segment.{SegmentView}
use Rattle.jbig2_framing.specs.Sequential.{sorted_segments}
use Rattle.jbig2_framing.specs.declared.cut_off.CutOff.{CutOff}
use Rattle.jbig2_framing.specs.declared.reading.Reading.{Reading}
use Rattle.jbig2_page.specs.declared.passed_over.PassedOver.{PassedOver}
use Rattle.jbig2_page.specs.PassedOver.{fault_of, nothing_passed, with_fault, with_passed}
use Rattle.jbig2_page.specs.Names.{kept_by, Names, no_names}

-- What globals keep, what was passed over of them, and the segment at which their list ended early, if it did.
pub record KeptGlobals : Type 0 where
  pub names : Names
  pub passed_over : PassedOver
  pub cut_off : Option CutOff

abbrev pub nothing_shared : Option CutOff → KeptGlobals
nothing_shared cut_off = record { names = no_names; passed_over = nothing_passed; cut_off = cut_off }

abbrev pub names_of : Result KeptGlobals DecodeError → Result Names DecodeError
names_of shared = shared >>= λ s. Ok s.names

module _ (reading : Reading) where
  -- Salvage passes over a segment that fails. Nothing is kept under its number then. `fault` is what strict reading
  -- refuses it for.
  abbrev pub or_shared_without : Option DecodeError → ℕ → KeptGlobals → Result Names DecodeError
      → Result KeptGlobals DecodeError
  or_shared_without fault number shared (Ok names) =
      Ok (record shared { names = names; passed_over = with_fault fault number shared.passed_over })
  or_shared_without fault number shared (Err e) =
      if is_salvaged reading e then Ok (record shared { passed_over = with_passed (Some number) e shared.passed_over })
      else Err e

  -- Globals: segments that several pages share, kept separately from the pages, as in PDF. Each may refer to those
  -- before it. Regions and page information among them have no effect.
  abbrev pub shared_from : List SegmentView → KeptGlobals → Result KeptGlobals DecodeError
  shared_from [] shared = Ok shared
  shared_from (p ∷ ps) shared = do
    let fault = fault_of (kept_by true no_names p shared.names)
    more ← or_shared_without fault p.header.segment_number shared (kept_by (is_strict reading) no_names p shared.names)
    shared_from ps more

  -- The globals in these bytes: the segments lie one after the other, and are sorted before they are decoded.
  unfoldable pub globals_at : List ℕ → Result KeptGlobals DecodeError
  globals_at bytes = do
    segments ← sorted_segments reading bytes
    shared_from segments (nothing_shared (sequence_cut_off reading bytes))
