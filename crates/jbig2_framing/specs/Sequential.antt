-- Segments one after the other, each header with its data after it: the sequential organisation of a file (T.88, D.1),
-- and the embedded one (D.3), in which PDF keeps pages and globals. Pages take them sorted.
use Rattle.std.specs.Prelude.{ℕ, suc, zero, nat_lt, Bool, true, false, ◌==◌, List, [], ◌∷◌, length, Result, Ok, Err}
use Rattle.std.specs.Prelude.{if◌then◌else◌}
use Rattle.jbig2_base.specs.Results.{◌>>=◌}
use Rattle.jbig2_framing.specs.Reading.{is_strict, is_salvaged}
use Rattle.jbig2_framing.specs.Segment.{SegmentView, segment_at}
use Rattle.jbig2_base.specs.declared.error.DecodeError.{DecodeError}
use Rattle.jbig2_base.specs.declared.error.DecodeError.TheVariants.{Parse}
use Rattle.jbig2_framing.specs.declared.reading.Reading.{Reading}
use Rattle.jbig2_framing.specs.declared.reading.Reading.TheVariants.{Lenient}
use Rattle.jbig2_framing.specs.declared.segment.SegmentType.{SegmentType}
use Rattle.jbig2_framing.specs.declared.segment.SegmentType.TheVariants as types

abbrev pub is_end_of_file : SegmentType → Bool
is_end_of_file types.EndOfFile = true
is_end_of_file _ = false

-- Lenient reading drops a segment that is cut off, and ends there. Salvage ends at any segment that is refused.
abbrev pub is_cut_off : Reading → DecodeError → Bool
is_cut_off Lenient (Parse e) = true
is_cut_off reading e = is_salvaged reading e

-- What follows a segment: nothing after an end of file, else the segments in the bytes that are left.
abbrev pub goes_on : Reading → Result (SegmentView × List ℕ) DecodeError
    → (List ℕ → Result (List SegmentView) DecodeError) → Result (List SegmentView) DecodeError
goes_on reading (Ok (p, rest)) others =
    if is_end_of_file p.header.segment_type then Ok (p ∷ []) else (others rest >>= λ ps. Ok (p ∷ ps))
goes_on reading (Err e) others = if is_cut_off reading e then Ok [] else Err e

-- At most this many segments in the bytes. Each has at least one byte, so the number of bytes is enough.
unfoldable pub segments_in : ℕ → Reading → List ℕ → Result (List SegmentView) DecodeError
segments_in zero reading bytes = Ok []
segments_in (suc most) reading bytes =
    if length bytes == 0 then Ok [] else goes_on reading (segment_at (is_strict reading) bytes) (segments_in most reading)

abbrev pub sequential : Reading → List ℕ → Result (List SegmentView) DecodeError
sequential reading bytes = segments_in (length bytes) reading bytes

-- x is put before the first element whose key is not less
abbrev pub insert_by : {X : Type 0} → (X → ℕ) → X → List X → List X
insert_by key x [] = x ∷ []
insert_by key x (y ∷ ys) = if nat_lt (key y) (key x) then y ∷ insert_by key x ys else x ∷ y ∷ ys

abbrev pub sorted_by : {X : Type 0} → (X → ℕ) → List X → List X
sorted_by key [] = []
sorted_by key (x ∷ xs) = insert_by key x (sorted_by key xs)

-- segments in the order of their numbers; segments of equal number keep their order (our own rule)
abbrev pub by_number : List SegmentView → List SegmentView
by_number segments = sorted_by (λ p. p.header.segment_number) segments

-- the segments of an embedded page or of globals
abbrev pub sorted_segments : Reading → List ℕ → Result (List SegmentView) DecodeError
sorted_segments reading bytes = sequential reading bytes >>= λ ps. Ok (by_number ps)
