-- Segments that are spelled are read, in either organisation.
use Rattle.std.proofs.Common.{◌≡◌, ℕ, ◌-◌, ◌<◌, ◌≤◌, suc, List, [], ◌∷◌, ◌++◌, length, take, drop, map, Option, Result, Ok, Err, Bool, nat_lt, refl, sym, ◌∙◌, ap, arith, length-append, subst}
use Rattle.std.proofs.Math.Seq.{take-append_seam, drop-append_seam}
use Rattle.std.proofs.lemmas.List.{append_assoc}
use Rattle.std.proofs.lemmas.Bool.{cond-true, cond-false, le-ltb, false≢true}
use Rattle.std.specs.List.{flat_map}
use Rattle.std.specs.Result.{is_ok}
use Rattle.jbig2_base.specs.Results.{◌>>=◌}
use Rattle.jbig2_base.specs.Fields.{bytes_at, end_of_bytes}
use Rattle.jbig2_framing.specs.File.{header_goes_on, headers_in, with_data, gathered_before, segments_by, file_at, SpelledSegment, IsSpelled, AreSpelled, SpellsFile, spelling}
use Rattle.jbig2_framing.specs.Reading.{is_strict}
use Rattle.jbig2_framing.specs.Segment.{Header, SegmentView, header_at, data_at, segment_data_at, segment_at}
use Rattle.jbig2_framing.specs.Sequential.{by_number, is_end_of_file, goes_on, segments_in}
use Rattle.jbig2_base.specs.declared.error.DecodeError.{DecodeError}
use Rattle.jbig2_framing.specs.declared.file_header.FileHeader.{FileHeader}
use Rattle.jbig2_framing.specs.declared.file_header.FileOrganization.{FileOrganization}
use Rattle.jbig2_framing.specs.declared.file_header.FileOrganization.TheVariants.{Sequential, RandomAccess}
use Rattle.jbig2_framing.specs.declared.reading.Reading.{Reading}
use Rattle.jbig2_framing.proofs.Extends.{header_extends}
use Rattle.jbig2_framing.proofs.RandomAccess.{header_in}
use Rattle.jbig2_framing.proofs.Sequential.{next_in}

bytes_there : (xs rest : List ℕ) → bytes_at (length xs) (xs ++ rest) ≡ Ok (xs, rest)
bytes_there xs rest =
    cond-false (nat_lt (length (xs ++ rest)) (length xs)) (Err end_of_bytes) (Ok (take (length xs) (xs ++ rest), drop (length xs) (xs ++ rest)))
    (le-ltb (length (xs ++ rest)) (length xs) (omega (arith, length-append xs rest)))
    ∙ ap (λ (ys : List ℕ). Ok (ys, drop (length xs) (xs ++ rest))) (take-append_seam xs rest)
    ∙ ap (λ (ys : List ℕ). Ok (xs, ys)) (drop-append_seam xs rest)

data_there : (strict : Bool) (s : SpelledSegment) (rest : List ℕ) → IsSpelled strict s → segment_data_at s.segment.header (s.segment.bytes ++ rest) ≡ Ok (s.segment, rest)
data_there strict s rest is =
    ap (λ (r : Result (List ℕ × List ℕ) DecodeError). r >>= λ coded. Ok (record { header = s.segment.header; bytes = coded.0 }, coded.1))
    (ap (λ (n : Option ℕ). data_at n (s.segment.bytes ++ rest)) is.known ∙ bytes_there s.segment.bytes rest)

header_there : (strict : Bool) (s : SpelledSegment) (rest : List ℕ) → IsSpelled strict s → header_at strict (s.header_bytes ++ rest) ≡ Ok (s.segment.header, rest)
header_there strict s rest is = header_extends strict s.header_bytes rest s.segment.header [] is.accepted

segment_there : (strict : Bool) (s : SpelledSegment) (rest : List ℕ) → IsSpelled strict s → segment_at strict (s.header_bytes ++ (s.segment.bytes ++ rest)) ≡ Ok (s.segment, rest)
unfolding segment_at
segment_there strict s rest is =
    ap (λ (r : Result (Header × List ℕ) DecodeError). r >>= λ h. segment_data_at h.0 h.1) (header_there strict s (s.segment.bytes ++ rest) is)
    ∙ data_there strict s rest is

-- no header without bytes
no_bytes : (strict : Bool) → header_at strict [] ≡ Err end_of_bytes
unfolding header_at
no_bytes strict = refl

some_bytes : (strict : Bool) (bytes : List ℕ) (h : Header) → header_at strict bytes ≡ Ok (h, []) → 0 < length bytes
some_bytes strict [] h e = absurd (false≢true (ap (λ (r : Result (Header × List ℕ) DecodeError). is_ok r) (sym (no_bytes strict) ∙ e)))
some_bytes strict (b ∷ bs) h e = omega arith

segment_read : (most : ℕ) (reading : Reading) (s : SpelledSegment) (rest : List ℕ) → IsSpelled (is_strict reading) s → length (s.header_bytes ++ (s.segment.bytes ++ rest)) ≤ most → segments_in most reading (s.header_bytes ++ (s.segment.bytes ++ rest)) ≡ goes_on reading (Ok (s.segment, rest)) (segments_in (most - 1) reading)
segment_read most reading s rest is enough =
    let bytes = s.header_bytes ++ (s.segment.bytes ++ rest) in
    let some : 0 < length bytes = omega (arith, length-append s.header_bytes (s.segment.bytes ++ rest), some_bytes (is_strict reading) s.header_bytes s.segment.header is.accepted) in
    let next : most ≡ suc (most - 1) = omega (arith, some, enough) in
    ap (λ (n : ℕ). segments_in n reading bytes) next
    ∙ next_in (most - 1) reading bytes some
    ∙ ap (λ (r : Result (SegmentView × List ℕ) DecodeError). goes_on reading r (segments_in (most - 1) reading)) (segment_there (is_strict reading) s rest is)

shorter : (reading : Reading) (s : SpelledSegment) (xs rest : List ℕ) (most : ℕ) → IsSpelled (is_strict reading) s → length (s.header_bytes ++ (xs ++ rest)) ≤ most → length rest ≤ most - 1
shorter reading s xs rest most is enough = omega (arith, enough, length-append s.header_bytes (xs ++ rest), length-append xs rest, some_bytes (is_strict reading) s.header_bytes s.segment.header is.accepted)

abbrev pub spelled_segments : List SpelledSegment → List SegmentView
spelled_segments ss = map (λ s. s.segment) ss

-- header and data by turns, all headers, and all data
abbrev by_turns : List SpelledSegment → List ℕ
by_turns ss = flat_map (λ s. s.header_bytes ++ s.segment.bytes) ss

abbrev all_headers : List SpelledSegment → List ℕ
all_headers ss = flat_map (λ s. s.header_bytes) ss

abbrev all_data : List SpelledSegment → List ℕ
all_data ss = flat_map (λ s. s.segment.bytes) ss

turns_read : (most : ℕ) (reading : Reading) (ss : List SpelledSegment) → length (by_turns ss) ≤ most → AreSpelled (is_strict reading) ss → segments_in most reading (by_turns ss) ≡ Ok (spelled_segments ss)
turns_read most reading [] enough are = absurd are
turns_read most reading (s ∷ []) enough are =
    let seam : (s.header_bytes ++ s.segment.bytes) ++ [] ≡ s.header_bytes ++ (s.segment.bytes ++ []) = append_assoc s.header_bytes s.segment.bytes [] in
    ap (λ (bytes : List ℕ). segments_in most reading bytes) seam
    ∙ segment_read most reading s [] are.0 (subst (λ (bytes : List ℕ). length bytes ≤ most) seam enough)
    ∙ cond-true (is_end_of_file s.segment.header.segment_type) (Ok (s.segment ∷ [])) (segments_in (most - 1) reading [] >>= λ ps. Ok (s.segment ∷ ps)) are.1
turns_read most reading (s ∷ t ∷ ts) enough are =
    let rest = by_turns (t ∷ ts) in
    let seam : (s.header_bytes ++ s.segment.bytes) ++ rest ≡ s.header_bytes ++ (s.segment.bytes ++ rest) = append_assoc s.header_bytes s.segment.bytes rest in
    let room : length (s.header_bytes ++ (s.segment.bytes ++ rest)) ≤ most = subst (λ (bytes : List ℕ). length bytes ≤ most) seam enough in
    ap (λ (bytes : List ℕ). segments_in most reading bytes) seam
    ∙ segment_read most reading s rest are.0 room
    ∙ cond-false (is_end_of_file s.segment.header.segment_type) (Ok (s.segment ∷ [])) (segments_in (most - 1) reading rest >>= λ ps. Ok (s.segment ∷ ps)) are.1
    ∙ ap (λ (r : Result (List SegmentView) DecodeError). r >>= λ ps. Ok (s.segment ∷ ps)) (turns_read (most - 1) reading (t ∷ ts) (shorter reading s s.segment.bytes rest most are.0 room) are.2)

abbrev headers_of : List SpelledSegment → List Header
headers_of ss = map (λ s. s.segment.header) ss

header_read : (most : ℕ) (reading : Reading) (s : SpelledSegment) (rest : List ℕ) → IsSpelled (is_strict reading) s → length (s.header_bytes ++ rest) ≤ most → headers_in most reading (s.header_bytes ++ rest) ≡ header_goes_on reading (s.header_bytes ++ rest) (Ok (s.segment.header, rest)) (headers_in (most - 1) reading)
header_read most reading s rest is enough =
    let bytes = s.header_bytes ++ rest in
    let some : 0 < length bytes = omega (arith, length-append s.header_bytes rest, some_bytes (is_strict reading) s.header_bytes s.segment.header is.accepted) in
    let next : most ≡ suc (most - 1) = omega (arith, some, enough) in
    ap (λ (n : ℕ). headers_in n reading bytes) next
    ∙ header_in (most - 1) reading bytes some
    ∙ ap (λ (r : Result (Header × List ℕ) DecodeError). header_goes_on reading bytes r (headers_in (most - 1) reading)) (header_there (is_strict reading) s rest is)

headers_read : (most : ℕ) (reading : Reading) (ss : List SpelledSegment) (rest : List ℕ) → length (all_headers ss ++ rest) ≤ most → AreSpelled (is_strict reading) ss → headers_in most reading (all_headers ss ++ rest) ≡ Ok (headers_of ss, rest)
headers_read most reading [] rest enough are = absurd are
headers_read most reading (s ∷ []) rest enough are =
    let seam : (s.header_bytes ++ []) ++ rest ≡ s.header_bytes ++ rest = append_assoc s.header_bytes [] rest in
    ap (λ (bytes : List ℕ). headers_in most reading bytes) seam
    ∙ header_read most reading s rest are.0 (subst (λ (bytes : List ℕ). length bytes ≤ most) seam enough)
    ∙ cond-true (is_end_of_file s.segment.header.segment_type) (Ok (s.segment.header ∷ [], rest)) (headers_in (most - 1) reading rest >>= λ hs. Ok (s.segment.header ∷ hs.0, hs.1)) are.1
headers_read most reading (s ∷ t ∷ ts) rest enough are =
    let others = all_headers (t ∷ ts) ++ rest in
    let seam : (s.header_bytes ++ all_headers (t ∷ ts)) ++ rest ≡ s.header_bytes ++ others = append_assoc s.header_bytes (all_headers (t ∷ ts)) rest in
    let room : length (s.header_bytes ++ others) ≤ most = subst (λ (bytes : List ℕ). length bytes ≤ most) seam enough in
    ap (λ (bytes : List ℕ). headers_in most reading bytes) seam
    ∙ header_read most reading s others are.0 room
    ∙ cond-false (is_end_of_file s.segment.header.segment_type) (Ok (s.segment.header ∷ [], others)) (headers_in (most - 1) reading others >>= λ hs. Ok (s.segment.header ∷ hs.0, hs.1)) are.1
    ∙ ap (λ (r : Result (List Header × List ℕ) DecodeError). r >>= λ hs. Ok (s.segment.header ∷ hs.0, hs.1)) (headers_read (most - 1) reading (t ∷ ts) rest (shorter reading s [] others most are.0 room) are.2)

data_read : (reading : Reading) (ss : List SpelledSegment) → AreSpelled (is_strict reading) ss → with_data reading (headers_of ss) (all_data ss) ≡ Ok (spelled_segments ss)
data_read reading [] are = refl
data_read reading (s ∷ []) are =
    ap (λ (r : Result (SegmentView × List ℕ) DecodeError). gathered_before reading r (with_data reading [])) (data_there (is_strict reading) s [] are.0)
data_read reading (s ∷ t ∷ ts) are =
    ap (λ (r : Result (SegmentView × List ℕ) DecodeError). gathered_before reading r (with_data reading (headers_of (t ∷ ts)))) (data_there (is_strict reading) s (all_data (t ∷ ts)) are.0)
    ∙ ap (λ (r : Result (List SegmentView) DecodeError). r >>= λ ps. Ok (s.segment ∷ ps)) (data_read reading (t ∷ ts) are.2)

spelling_read : (organization : FileOrganization) (reading : Reading) (ss : List SpelledSegment) → AreSpelled (is_strict reading) ss → segments_by organization reading (spelling organization ss) ≡ Ok (spelled_segments ss)
spelling_read Sequential reading ss are = turns_read (length (by_turns ss)) reading ss (omega arith) are
spelling_read RandomAccess reading ss are =
    ap (λ (r : Result (List Header × List ℕ) DecodeError). r >>= λ hs. with_data reading hs.0 hs.1) (headers_read (length (all_headers ss ++ all_data ss)) reading ss (all_data ss) (omega arith) are)
    ∙ data_read reading ss are

-- A file is read as the segments that it spells.
pub file_read : (reading : Reading) (bytes : List ℕ) (header : FileHeader) (ss : List SpelledSegment) → SpellsFile reading bytes header ss → file_at reading bytes ≡ Ok (header, by_number (spelled_segments ss))
unfolding file_at
file_read reading bytes header ss e =
    ap (λ (r : Result (FileHeader × List ℕ) DecodeError). r >>= λ h. segments_by h.0.organization reading h.1 >>= λ ps. Ok (h.0, by_number ps)) e.0
    ∙ ap (λ (r : Result (List SegmentView) DecodeError). r >>= λ ps. Ok (header, by_number ps)) (spelling_read header.organization reading ss e.1)
