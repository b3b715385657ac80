-- Law: no definition of framing returns an error that bytes cannot bring about.
use Rattle.std.proofs.Common.{ℕ, zero, suc, eqb, Bool, true, false, List, [], ◌∷◌, length, Option, Some, None, Result, Ok, Err}
use Rattle.std.specs.Int.{w32}
use Rattle.jbig2_base.specs.Results.{◌>>=◌}
use Rattle.jbig2_base.specs.Fields.{number_at}
use Rattle.jbig2_base.specs.declared.error.DecodeError.{DecodeError}
use Rattle.jbig2_base.proofs.FromInput.{FromInput, from_input-bytes, from_input-if, from_input-next, from_input-number, from_input-refusal}
use Rattle.jbig2_framing.specs.File.{file_at, with_data, gathered_before, header_goes_on, headers_in, segments_by, file_header_at, page_count_at}
use Rattle.jbig2_framing.specs.PageInfo.{first_information, height_of, information_at, initial_page_by, initial_page_of, initial_page_with, stripes_height}
use Rattle.jbig2_framing.specs.Reading.{is_strict, is_salvaged}
use Rattle.jbig2_framing.specs.Segment.{Header, SegmentView, count_at, data_at, first_end_marker, header_at, length_of, long_count_at, referred_at, segment_at, segment_data_at, unknown_length_of}
use Rattle.jbig2_framing.specs.Sequential.{goes_on, is_cut_off, is_end_of_file, segments_in, sequential, sorted_segments}
use Rattle.jbig2_framing.specs.declared.file_header.FileOrganization.{FileOrganization}
use Rattle.jbig2_framing.specs.declared.file_header.FileOrganization.TheVariants.{Sequential, RandomAccess}
use Rattle.jbig2_framing.specs.declared.page_info.PageInformation.{PageInformation}
use Rattle.jbig2_framing.specs.declared.reading.Reading.{Reading}
use Rattle.jbig2_framing.specs.declared.segment.SegmentType.{SegmentType}

-- ---- the file header and page information
from_input-count : (unknown : Bool) (bytes : List ℕ) → FromInput (page_count_at unknown bytes)
from_input-count true bytes = tt
from_input-count false bytes = from_input-next (number_at w32 bytes) _ (from_input-number w32 bytes) (λ n. tt)

pub from_input-file_header : (bytes : List ℕ) → FromInput (file_header_at bytes)
unfolding file_header_at
from_input-file_header bytes = search (from_input-next, from_input-bytes, from_input-number, from_input-refusal, from_input-count) depth 14

pub from_input-information : (bytes : List ℕ) → FromInput (information_at bytes)
unfolding information_at
from_input-information bytes = search (from_input-next, from_input-number) depth 14

from_input-first : (ps : List SegmentView) → FromInput (first_information ps)
from_input-first [] = tt
from_input-first (p ∷ ps) = from_input-if _ (Ok p) (first_information ps) tt (from_input-first ps)

from_input-height : (stated stripes : ℕ) → FromInput (height_of stated stripes)
from_input-height stated stripes = search (from_input-next, from_input-if, from_input-refusal)

from_input-sides : (number : ℕ) (info : PageInformation) (height : ℕ) → FromInput (initial_page_with number info height)
from_input-sides number info height = search (from_input-next, from_input-refusal)

pub from_input-initial_page_by : (given : ℕ) (ps : List SegmentView) → FromInput (initial_page_by given ps)
from_input-initial_page_by given ps = search (from_input-next, from_input-first, from_input-information, from_input-height, from_input-sides) depth 8

pub from_input-initial_page : (ps : List SegmentView) → FromInput (initial_page_of ps)
unfolding initial_page_of
from_input-initial_page ps = from_input-initial_page_by (stripes_height ps) ps

-- ---- segments
from_input-long : (high : ℕ) (bytes : List ℕ) → FromInput (long_count_at high bytes)
unfolding long_count_at
from_input-long high bytes = search (from_input-next, from_input-bytes)

from_input-referred_count : (bytes : List ℕ) → FromInput (count_at bytes)
unfolding count_at
from_input-referred_count bytes = search (from_input-next, from_input-if, from_input-refusal, from_input-number, from_input-long)

from_input-referred : (own : ℕ) (bytes : List ℕ) → FromInput (referred_at own bytes)
unfolding referred_at
from_input-referred own bytes = search (from_input-next, from_input-bytes, from_input-refusal, from_input-referred_count)

from_input-length : (strict : Bool) (kind : SegmentType) (n : ℕ) → FromInput (length_of strict kind n)
from_input-length strict kind n = search (from_input-next, from_input-if, from_input-refusal)

pub from_input-header : (strict : Bool) (bytes : List ℕ) → FromInput (header_at strict bytes)
unfolding header_at
from_input-header strict bytes = search (from_input-next, from_input-number, from_input-refusal, from_input-referred, from_input-length) depth 16

from_input-marker : (flags : ℕ) (bytes : List ℕ) → FromInput (first_end_marker flags bytes)
from_input-marker flags bytes = search from_input-if

from_input-unknown : (bytes : List ℕ) → FromInput (unknown_length_of bytes)
unfolding unknown_length_of
from_input-unknown bytes = search (from_input-next, from_input-bytes, from_input-number, from_input-marker) depth 12

from_input-data : (n : Option ℕ) (bytes : List ℕ) → FromInput (data_at n bytes)
from_input-data (Some n) bytes = from_input-bytes n bytes
from_input-data None bytes = from_input-next (unknown_length_of bytes) _ (from_input-unknown bytes) (λ n. from_input-bytes n bytes)

pub from_input-segment_data : (header : Header) (bytes : List ℕ) → FromInput (segment_data_at header bytes)
from_input-segment_data header bytes = from_input-next (data_at header.data_length bytes) _ (from_input-data header.data_length bytes) (λ coded. tt)

pub from_input-segment : (strict : Bool) (bytes : List ℕ) → FromInput (segment_at strict bytes)
unfolding segment_at
from_input-segment strict bytes = search (from_input-next, from_input-header, from_input-segment_data)

-- ---- lists of segments
from_input-on : (reading : Reading) (r : Result (SegmentView × List ℕ) DecodeError) (others : List ℕ → Result (List SegmentView) DecodeError)
    → FromInput r → ((bytes : List ℕ) → FromInput (others bytes)) → FromInput (goes_on reading r others)
from_input-on reading (Ok x) others first rest =
    from_input-if (is_end_of_file x.0.header.segment_type) (Ok (x.0 ∷ [])) (others x.1 >>= λ ps. Ok (x.0 ∷ ps)) tt (from_input-next (others x.1) _ (rest x.1) (λ ps. tt))
from_input-on reading (Err e) others first rest = from_input-if (is_cut_off reading e) (Ok []) (Err e) tt first

from_input-segments : (most : ℕ) (reading : Reading) (bytes : List ℕ) → FromInput (segments_in most reading bytes)
unfolding segments_in
from_input-segments zero reading bytes = tt
from_input-segments (suc most) reading bytes =
    from_input-if (eqb (length bytes) 0) (Ok []) _ tt (from_input-on reading (segment_at (is_strict reading) bytes) (segments_in most reading) (from_input-segment (is_strict reading) bytes) (from_input-segments most reading))

pub from_input-sequential : (reading : Reading) (bytes : List ℕ) → FromInput (sequential reading bytes)
from_input-sequential reading bytes = from_input-segments (length bytes) reading bytes

pub from_input-sorted : (reading : Reading) (bytes : List ℕ) → FromInput (sorted_segments reading bytes)
from_input-sorted reading bytes = from_input-next (sequential reading bytes) _ (from_input-sequential reading bytes) (λ ps. tt)

from_input-header-on : (reading : Reading) (bytes : List ℕ) (r : Result (Header × List ℕ) DecodeError) (others : List ℕ → Result (List Header × List ℕ) DecodeError)
    → FromInput r → ((rest : List ℕ) → FromInput (others rest)) → FromInput (header_goes_on reading bytes r others)
from_input-header-on reading bytes (Ok h) others first rest =
    from_input-if (is_end_of_file h.0.segment_type) (Ok (h.0 ∷ [], h.1)) (others h.1 >>= λ hs. Ok (h.0 ∷ hs.0, hs.1)) tt (from_input-next (others h.1) _ (rest h.1) (λ hs. tt))
from_input-header-on reading bytes (Err e) others first rest = from_input-if (is_salvaged reading e) (Ok ([], bytes)) (Err e) tt first

from_input-headers : (most : ℕ) (reading : Reading) (bytes : List ℕ) → FromInput (headers_in most reading bytes)
unfolding headers_in
from_input-headers zero reading bytes = tt
from_input-headers (suc most) reading bytes =
    from_input-if (eqb (length bytes) 0) (Ok ([], bytes)) _ tt
    (from_input-header-on reading bytes (header_at (is_strict reading) bytes) (headers_in most reading) (from_input-header (is_strict reading) bytes) (from_input-headers most reading))

from_input-before : (reading : Reading) (r : Result (SegmentView × List ℕ) DecodeError) (others : List ℕ → Result (List SegmentView) DecodeError)
    → FromInput r → ((rest : List ℕ) → FromInput (others rest)) → FromInput (gathered_before reading r others)
from_input-before reading (Ok p) others first rest = from_input-next (others p.1) _ (rest p.1) (λ ps. tt)
from_input-before reading (Err e) others first rest = from_input-if (is_salvaged reading e) (Ok []) (Err e) tt first

from_input-gathered : (reading : Reading) (hs : List Header) (bytes : List ℕ) → FromInput (with_data reading hs bytes)
from_input-gathered reading [] bytes = tt
from_input-gathered reading (h ∷ hs) bytes = from_input-before reading (segment_data_at h bytes) (with_data reading hs) (from_input-segment_data h bytes) (from_input-gathered reading hs)

from_input-by : (organization : FileOrganization) (reading : Reading) (bytes : List ℕ) → FromInput (segments_by organization reading bytes)
from_input-by Sequential reading bytes = from_input-sequential reading bytes
from_input-by RandomAccess reading bytes =
    from_input-next (headers_in (length bytes) reading bytes) _ (from_input-headers (length bytes) reading bytes) (λ hs. from_input-gathered reading hs.0 hs.1)

pub from_input-file : (reading : Reading) (bytes : List ℕ) → FromInput (file_at reading bytes)
unfolding file_at
from_input-file reading bytes = search (from_input-next, from_input-file_header, from_input-by)
