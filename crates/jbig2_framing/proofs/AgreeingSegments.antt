-- Where strict reading accepts, lenient reading gives the same, and where that accepts, salvage does: segments and files.
use Rattle.std.proofs.Common.{◌≡◌, ℕ, zero, suc, ◌/◌, ◌%◌, eqb, Bool, true, false, not, cond, List, [], ◌∷◌, length, Some, None, Result, Ok, Err, refl, sym, subst}
use Rattle.std.specs.Int.{w8, w32}
use Rattle.jbig2_base.specs.Results.{◌>>=◌, refuse_if}
use Rattle.jbig2_framing.specs.File.{file_at, with_data, gathered_before, header_goes_on, headers_in, segments_by, file_header_at}
use Rattle.jbig2_base.specs.Fields.{number_at}
use Rattle.jbig2_framing.specs.Segment.{Header, SegmentView, header_at, is_immediate_generic, is_reserved, length_of, referred_at, segment_at, segment_data_at, type_of}
use Rattle.jbig2_framing.specs.Sequential.{goes_on, is_cut_off, is_end_of_file, segments_in, sequential, sorted_segments}
use Rattle.jbig2_base.specs.declared.error.DecodeError.{DecodeError}
use Rattle.jbig2_base.specs.declared.error.DecodeError.TheVariants.{Parse, Segment}
use Rattle.jbig2_base.specs.declared.error.SegmentError.TheVariants.{InvalidUnknownLength, UnknownType}
use Rattle.jbig2_framing.specs.declared.file_header.FileOrganization.{FileOrganization}
use Rattle.jbig2_framing.specs.declared.file_header.FileOrganization.TheVariants.{Sequential, RandomAccess}
use Rattle.jbig2_framing.specs.declared.reading.Reading.TheVariants.{Strict, Lenient, Salvage}
use Rattle.jbig2_framing.specs.declared.segment.SegmentType.{SegmentType}
use Rattle.jbig2_framing.proofs.Agreeing.{Same, same-if, same-itself, same-next, same-refusal, same-then}

length-same : (kind : SegmentType) (n : ℕ) → Same (length_of true kind n) (length_of false kind n)
length-same kind n =
    same-if (eqb n 4294967295) _ _ (Ok (Some n)) (Ok (Some n))
    (same-next (refuse_if (not (is_immediate_generic kind)) (Segment InvalidUnknownLength)) (Ok tt) (λ known. Ok None) (λ known. Ok None) (same-refusal (not (is_immediate_generic kind)) _) (λ known. refl)) refl

pub header-same : (bytes : List ℕ) → Same (header_at true bytes) (header_at false bytes)
unfolding header_at
header-same bytes =
    same-then (number_at w32 bytes) _ _ (λ number. same-then (number_at w8 number.1) _ _ (λ flags. same-next _ (Ok tt) _ _ (same-refusal (is_reserved (type_of (flags.0 % 64))) (Segment UnknownType)) (λ known.
    same-then (referred_at number.0 flags.1) _ _ (λ referred. same-then (number_at (cond (eqb (flags.0 / 64 % 2) 1) w32 w8) referred.1) _ _ (λ page. same-then (number_at w32 page.1) _ _ (λ n.
    same-next (length_of true (type_of (flags.0 % 64)) n.0) (length_of false (type_of (flags.0 % 64)) n.0) _ _ (length-same (type_of (flags.0 % 64)) n.0) (λ len. refl)))))))

pub segment-same : (bytes : List ℕ) → Same (segment_at true bytes) (segment_at false bytes)
unfolding segment_at
segment-same bytes = same-next (header_at true bytes) (header_at false bytes) _ _ (header-same bytes) (λ header. same-itself (segment_data_at header.0 header.1))

-- ---- strict and lenient reading
-- strict reading drops no segment
never-cut : (e : DecodeError) → is_cut_off Strict e ≡ false
never-cut e = refl

refused : (b : Bool) (e : DecodeError) (r : Result (List SegmentView) DecodeError) → b ≡ false → Same (cond b (Ok []) (Err e)) r
refused true e r never = absurd (let no : true ≡ false = never in cc)
refused false e r never = tt

on-same : (r s : Result (SegmentView × List ℕ) DecodeError) (others more : List ℕ → Result (List SegmentView) DecodeError) → Same r s → ((bytes : List ℕ) → Same (others bytes) (more bytes)) → Same (goes_on Strict r others) (goes_on Lenient s more)
on-same (Ok x) s others more first rest =
    subst (λ (t : Result (SegmentView × List ℕ) DecodeError). Same (goes_on Strict (Ok x) others) (goes_on Lenient t more)) (sym first)
    (same-if (is_end_of_file x.0.header.segment_type) (Ok (x.0 ∷ [])) (Ok (x.0 ∷ [])) (others x.1 >>= λ ps. Ok (x.0 ∷ ps)) (more x.1 >>= λ ps. Ok (x.0 ∷ ps)) refl (same-next (others x.1) (more x.1) _ _ (rest x.1) (λ ps. refl)))
on-same (Err e) s others more first rest = refused (is_cut_off Strict e) e (goes_on Lenient s more) (never-cut e)

segments-same : (most : ℕ) (bytes : List ℕ) → Same (segments_in most Strict bytes) (segments_in most Lenient bytes)
unfolding segments_in
segments-same zero bytes = refl
segments-same (suc most) bytes =
    same-if (eqb (length bytes) 0) (Ok []) (Ok []) _ _ refl (on-same (segment_at true bytes) (segment_at false bytes) (segments_in most Strict) (segments_in most Lenient) (segment-same bytes) (segments-same most))

pub sequential-same : (bytes : List ℕ) → Same (sequential Strict bytes) (sequential Lenient bytes)
sequential-same bytes = segments-same (length bytes) bytes

pub sorted-same : (bytes : List ℕ) → Same (sorted_segments Strict bytes) (sorted_segments Lenient bytes)
sorted-same bytes = same-next (sequential Strict bytes) (sequential Lenient bytes) _ _ (sequential-same bytes) (λ ps. refl)

header-on-same : (bytes : List ℕ) (r s : Result (Header × List ℕ) DecodeError) (others more : List ℕ → Result (List Header × List ℕ) DecodeError) → Same r s → ((rest : List ℕ) → Same (others rest) (more rest)) → Same (header_goes_on Strict bytes r others) (header_goes_on Lenient bytes s more)
header-on-same bytes (Ok h) s others more first rest =
    subst (λ (t : Result (Header × List ℕ) DecodeError). Same (header_goes_on Strict bytes (Ok h) others) (header_goes_on Lenient bytes t more)) (sym first)
    (same-if (is_end_of_file h.0.segment_type) (Ok (h.0 ∷ [], h.1)) (Ok (h.0 ∷ [], h.1)) _ _ refl (same-next (others h.1) (more h.1) _ _ (rest h.1) (λ hs. refl)))
header-on-same bytes (Err e) s others more first rest = tt

pub headers-same : (most : ℕ) (bytes : List ℕ) → Same (headers_in most Strict bytes) (headers_in most Lenient bytes)
unfolding headers_in
headers-same zero bytes = refl
headers-same (suc most) bytes =
    same-if (eqb (length bytes) 0) (Ok ([], bytes)) (Ok ([], bytes)) _ _ refl
    (header-on-same bytes (header_at true bytes) (header_at false bytes) (headers_in most Strict) (headers_in most Lenient) (header-same bytes) (headers-same most))

before-same : (r : Result (SegmentView × List ℕ) DecodeError) (others more : List ℕ → Result (List SegmentView) DecodeError) → ((rest : List ℕ) → Same (others rest) (more rest)) → Same (gathered_before Strict r others) (gathered_before Lenient r more)
before-same (Ok p) others more rest = same-next (others p.1) (more p.1) _ _ (rest p.1) (λ ps. refl)
before-same (Err e) others more rest = tt

gathered-same : (hs : List Header) (bytes : List ℕ) → Same (with_data Strict hs bytes) (with_data Lenient hs bytes)
gathered-same [] bytes = refl
gathered-same (h ∷ hs) bytes = before-same (segment_data_at h bytes) (with_data Strict hs) (with_data Lenient hs) (gathered-same hs)

by-same : (organization : FileOrganization) (bytes : List ℕ) → Same (segments_by organization Strict bytes) (segments_by organization Lenient bytes)
by-same Sequential bytes = sequential-same bytes
by-same RandomAccess bytes = same-next (headers_in (length bytes) Strict bytes) (headers_in (length bytes) Lenient bytes) _ _ (headers-same (length bytes) bytes) (λ hs. gathered-same hs.0 hs.1)

pub file-same : (bytes : List ℕ) → Same (file_at Strict bytes) (file_at Lenient bytes)
unfolding file_at
file-same bytes = same-then (file_header_at bytes) _ _ (λ header. same-next _ _ _ _ (by-same header.0.organization header.1) (λ ps. refl))

-- ---- lenient reading and salvage
-- what lenient reading cuts off, salvage does too
salvaged-on : (r : Result (SegmentView × List ℕ) DecodeError) (others more : List ℕ → Result (List SegmentView) DecodeError) → ((bytes : List ℕ) → Same (others bytes) (more bytes)) → Same (goes_on Lenient r others) (goes_on Salvage r more)
salvaged-on (Ok x) others more rest =
    same-if (is_end_of_file x.0.header.segment_type) (Ok (x.0 ∷ [])) (Ok (x.0 ∷ [])) (others x.1 >>= λ ps. Ok (x.0 ∷ ps)) (more x.1 >>= λ ps. Ok (x.0 ∷ ps)) refl (same-next (others x.1) (more x.1) _ _ (rest x.1) (λ ps. refl))
salvaged-on (Err (Parse e)) others more rest = refl
salvaged-on (Err _) others more rest = tt

salvaged-in : (most : ℕ) (bytes : List ℕ) → Same (segments_in most Lenient bytes) (segments_in most Salvage bytes)
unfolding segments_in
salvaged-in zero bytes = refl
salvaged-in (suc most) bytes = same-if (eqb (length bytes) 0) (Ok []) (Ok []) _ _ refl (salvaged-on (segment_at false bytes) (segments_in most Lenient) (segments_in most Salvage) (salvaged-in most))

pub sequential-salvaged : (bytes : List ℕ) → Same (sequential Lenient bytes) (sequential Salvage bytes)
sequential-salvaged bytes = salvaged-in (length bytes) bytes

pub sorted-salvaged : (bytes : List ℕ) → Same (sorted_segments Lenient bytes) (sorted_segments Salvage bytes)
sorted-salvaged bytes = same-next (sequential Lenient bytes) (sequential Salvage bytes) _ _ (sequential-salvaged bytes) (λ ps. refl)

header-salvaged-on : (bytes : List ℕ) (r : Result (Header × List ℕ) DecodeError) (others more : List ℕ → Result (List Header × List ℕ) DecodeError) → ((rest : List ℕ) → Same (others rest) (more rest)) → Same (header_goes_on Lenient bytes r others) (header_goes_on Salvage bytes r more)
header-salvaged-on bytes (Ok h) others more rest =
    same-if (is_end_of_file h.0.segment_type) (Ok (h.0 ∷ [], h.1)) (Ok (h.0 ∷ [], h.1)) _ _ refl (same-next (others h.1) (more h.1) _ _ (rest h.1) (λ hs. refl))
header-salvaged-on bytes (Err e) others more rest = tt

pub headers-salvaged : (most : ℕ) (bytes : List ℕ) → Same (headers_in most Lenient bytes) (headers_in most Salvage bytes)
unfolding headers_in
headers-salvaged zero bytes = refl
headers-salvaged (suc most) bytes =
    same-if (eqb (length bytes) 0) (Ok ([], bytes)) (Ok ([], bytes)) _ _ refl
    (header-salvaged-on bytes (header_at false bytes) (headers_in most Lenient) (headers_in most Salvage) (headers-salvaged most))

before-salvaged : (r : Result (SegmentView × List ℕ) DecodeError) (others more : List ℕ → Result (List SegmentView) DecodeError) → ((rest : List ℕ) → Same (others rest) (more rest)) → Same (gathered_before Lenient r others) (gathered_before Salvage r more)
before-salvaged (Ok p) others more rest = same-next (others p.1) (more p.1) _ _ (rest p.1) (λ ps. refl)
before-salvaged (Err e) others more rest = tt

gathered-salvaged : (hs : List Header) (bytes : List ℕ) → Same (with_data Lenient hs bytes) (with_data Salvage hs bytes)
gathered-salvaged [] bytes = refl
gathered-salvaged (h ∷ hs) bytes = before-salvaged (segment_data_at h bytes) (with_data Lenient hs) (with_data Salvage hs) (gathered-salvaged hs)

by-salvaged : (organization : FileOrganization) (bytes : List ℕ) → Same (segments_by organization Lenient bytes) (segments_by organization Salvage bytes)
by-salvaged Sequential bytes = sequential-salvaged bytes
by-salvaged RandomAccess bytes = same-next (headers_in (length bytes) Lenient bytes) (headers_in (length bytes) Salvage bytes) _ _ (headers-salvaged (length bytes) bytes) (λ hs. gathered-salvaged hs.0 hs.1)

pub file-salvaged : (bytes : List ℕ) → Same (file_at Lenient bytes) (file_at Salvage bytes)
unfolding file_at
file-salvaged bytes = same-then (file_header_at bytes) _ _ (λ header. same-next _ _ _ _ (by-salvaged header.0.organization header.1) (λ ps. refl))
