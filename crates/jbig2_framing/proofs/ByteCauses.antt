-- Why the segments in some bytes can't be read.
use Rattle.std.proofs.Common.{◌≡◌, inl, inr, ℕ, zero, suc, eqb, Bool, List, [], ◌∷◌, length, Result, Ok, Err, refl}
use Rattle.jbig2_base.specs.Results.{◌>>=◌}
use Rattle.jbig2_base.specs.declared.error.DecodeError.{DecodeError}
use Rattle.jbig2_framing.specs.Causes.{BreaksData, BreaksHeader}
use Rattle.jbig2_framing.specs.File.{gathered_before, header_goes_on, headers_in, segments_by, with_data}
use Rattle.jbig2_framing.specs.Reading.{is_salvaged, is_strict}
use Rattle.jbig2_framing.specs.Segment.{Header, SegmentView, data_at, header_at, segment_at, segment_data_at}
use Rattle.jbig2_framing.specs.Sequential.{goes_on, is_cut_off, is_end_of_file, segments_in}
use Rattle.jbig2_framing.specs.declared.file_header.FileOrganization.{FileOrganization}
use Rattle.jbig2_framing.specs.declared.file_header.FileOrganization.TheVariants.{RandomAccess, Sequential}
use Rattle.jbig2_framing.specs.declared.reading.Reading.{Reading}
use Rattle.jbig2_framing.proofs.DataCauses.{data_cause}
use Rattle.jbig2_framing.proofs.SegmentCauses.{header_cause}
use Rattle.jbig2_framing.specs.ByteCauses.{BreaksSegmentBytes, BreaksSequence, BreaksHeaders, BreaksSomeData, BreaksSegments}
use Rattle.jbig2_base.proofs.ErrorSteps.{Refused, itself, itself_or_memory, refused-by, refused-or, more, step, if-refused}

headed : (strict : Bool) (bytes : List ℕ) → Refused (header_at strict bytes) (BreaksHeader strict bytes)
headed strict bytes = refused-or (BreaksHeader strict bytes) (header_at strict bytes) (header_cause strict bytes (header_at strict bytes) (itself_or_memory (header_at strict bytes)))

filled : (h : Header) (bytes : List ℕ) → Refused (segment_data_at h bytes) (BreaksData h.data_length bytes)
filled h bytes =
    let P : DecodeError → Type 0 = BreaksData h.data_length bytes in
    let coded = data_at h.data_length bytes in
    step P P coded _ (refused-by P coded (data_cause h.data_length bytes coded (itself coded))) (λ e no. no) (λ x is. tt)

one-segment : (strict : Bool) (bytes : List ℕ) → Refused (segment_at strict bytes) (BreaksSegmentBytes strict bytes)
unfolding segment_at
one-segment strict bytes =
    let P : DecodeError → Type 0 = BreaksSegmentBytes strict bytes in
    step (BreaksHeader strict bytes) P (header_at strict bytes) _ (headed strict bytes) (λ e no. inl no) (λ x x_is.
    more (BreaksData x.0.data_length x.1) P (segment_data_at x.0 x.1) (filled x.0 x.1) (λ e no. inr (x, x_is, no)))

module _ (reading : Reading) where
  abbrev Sequence : List ℕ → DecodeError → Type 0
  Sequence bytes e = (k : ℕ) × BreaksSequence k reading bytes e

  pub in-sequence : (most : ℕ) (bytes : List ℕ) → Refused (segments_in most reading bytes) (Sequence bytes)
  unfolding segments_in
  in-sequence zero bytes = tt
  in-sequence (suc most) bytes =
      if-refused (Sequence bytes) (eqb (length bytes) 0) (Ok []) _ (λ none. tt) (λ some.
      on (segment_at (is_strict reading) bytes) refl (one-segment (is_strict reading) bytes) (λ rest. in-sequence most rest))
    where
      on : (r : Result (SegmentView × List ℕ) DecodeError) → segment_at (is_strict reading) bytes ≡ r → Refused r (BreaksSegmentBytes (is_strict reading) bytes) → ((rest : List ℕ) → Refused (segments_in most reading rest) (Sequence rest))
          → Refused (goes_on reading r (segments_in most reading)) (Sequence bytes)
      on (Ok x) is law later =
          let others = segments_in most reading x.1 in
          if-refused (Sequence bytes) (is_end_of_file x.0.header.segment_type) (Ok (x.0 ∷ [])) (others >>= λ ps. Ok (x.0 ∷ ps)) (λ ends. tt) (λ on.
          step (Sequence x.1) (Sequence bytes) others _ (later x.1) (λ e no. (suc no.0, (x, is, (on, no.1)))) (λ ps ps_is. tt))
      on (Err e) is law later =
          if-refused (Sequence bytes) (is_cut_off reading e) (Ok []) (Err e) (λ cut. tt) (λ kept.
          more (BreaksSegmentBytes (is_strict reading) bytes) (Sequence bytes) (let r : Result (List SegmentView) DecodeError = Err e in r) law (λ e no. (0, no)))

  abbrev Headers : List ℕ → DecodeError → Type 0
  Headers bytes e = (k : ℕ) × BreaksHeaders k reading bytes e

  in-headers : (most : ℕ) (bytes : List ℕ) → Refused (headers_in most reading bytes) (Headers bytes)
  unfolding headers_in
  in-headers zero bytes = tt
  in-headers (suc most) bytes =
      if-refused (Headers bytes) (eqb (length bytes) 0) (Ok ([], bytes)) _ (λ none. tt) (λ some.
      on (header_at (is_strict reading) bytes) refl (headed (is_strict reading) bytes) (λ rest. in-headers most rest))
    where
      on : (r : Result (Header × List ℕ) DecodeError) → header_at (is_strict reading) bytes ≡ r → Refused r (BreaksHeader (is_strict reading) bytes) → ((rest : List ℕ) → Refused (headers_in most reading rest) (Headers rest))
          → Refused (header_goes_on reading bytes r (headers_in most reading)) (Headers bytes)
      on (Ok x) is law later =
          let others = headers_in most reading x.1 in
          if-refused (Headers bytes) (is_end_of_file x.0.segment_type) (Ok (x.0 ∷ [], x.1)) (others >>= λ hs. Ok (x.0 ∷ hs.0, hs.1)) (λ ends. tt) (λ on.
          step (Headers x.1) (Headers bytes) others _ (later x.1) (λ e no. (suc no.0, (x, is, (on, no.1)))) (λ hs hs_is. tt))
      on (Err e) is law later =
          if-refused (Headers bytes) (is_salvaged reading e) (Ok ([], bytes)) (Err e) (λ cut. tt) (λ kept.
          more (BreaksHeader (is_strict reading) bytes) (Headers bytes) (let r : Result (List Header × List ℕ) DecodeError = Err e in r) law (λ e no. (0, no)))

  in-data : (hs : List Header) (bytes : List ℕ) → Refused (with_data reading hs bytes) (BreaksSomeData hs bytes)
  in-data [] bytes = tt
  in-data (h ∷ hs) bytes = on (segment_data_at h bytes) refl (filled h bytes) (λ rest. in-data hs rest)
    where
      P : DecodeError → Type 0
      P = BreaksSomeData (h ∷ hs) bytes

      on : (r : Result (SegmentView × List ℕ) DecodeError) → segment_data_at h bytes ≡ r → Refused r (BreaksData h.data_length bytes) → ((rest : List ℕ) → Refused (with_data reading hs rest) (BreaksSomeData hs rest)) → Refused (gathered_before reading r (with_data reading hs)) P
      on (Ok x) is law later = step (BreaksSomeData hs x.1) P (with_data reading hs x.1) _ (later x.1) (λ e no. inr (x, is, no)) (λ ps ps_is. tt)
      on (Err e) is law later =
          if-refused P (is_salvaged reading e) (Ok []) (Err e) (λ cut. tt) (λ kept.
          more (BreaksData h.data_length bytes) P (let r : Result (List SegmentView) DecodeError = Err e in r) law (λ e no. inl no))

  pub in-segments : (organization : FileOrganization) (bytes : List ℕ) → Refused (segments_by organization reading bytes) (BreaksSegments organization reading bytes)
  in-segments Sequential bytes = in-sequence (length bytes) bytes
  in-segments RandomAccess bytes =
      let P : DecodeError → Type 0 = BreaksSegments RandomAccess reading bytes in
      step (Headers bytes) P (headers_in (length bytes) reading bytes) _ (in-headers (length bytes) bytes) (λ e no. inl no) (λ x x_is.
      more (BreaksSomeData x.0 x.1) P (with_data reading x.0 x.1) (in-data x.0 x.1) (λ e no. inr (x, x_is, no)))
