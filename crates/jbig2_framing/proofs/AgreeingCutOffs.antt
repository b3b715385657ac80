-- Where one reading accepts a list of segments, the other finds the same cut-off.
use Rattle.std.proofs.Common.{◌≡◌, ℕ, zero, suc, eqb, Bool, true, false, cond, List, [], ◌∷◌, length, Option, None, Result, Ok, Err, refl, sym, ◌∙◌, ap, subst}
use Rattle.std.specs.Option.{option_or}
use Rattle.std.specs.Prelude.{IfOk}
use Rattle.jbig2_base.specs.Results.{◌>>=◌}
use Rattle.jbig2_base.specs.declared.error.DecodeError.{DecodeError}
use Rattle.jbig2_framing.specs.CutOff.{cut_off_by, data_cut_off, file_cut_off, first_refused, headers_cut_off, missing_or, random_cut_off, refused_or, sequence_cut_off, with_place}
use Rattle.jbig2_framing.specs.File.{file_at, file_header_at, gathered_before, header_goes_on, headers_in, segments_by, with_data}
use Rattle.jbig2_framing.specs.Reading.{is_salvaged, is_strict}
use Rattle.jbig2_framing.specs.Segment.{Header, SegmentView, header_at, segment_at, segment_data_at}
use Rattle.jbig2_framing.specs.Sequential.{by_number, goes_on, is_end_of_file, segments_in, sequential}
use Rattle.jbig2_framing.specs.declared.cut_off.CutOff.{CutOff}
use Rattle.jbig2_framing.specs.declared.file_header.FileHeader.{FileHeader}
use Rattle.jbig2_framing.specs.declared.file_header.FileOrganization.{FileOrganization}
use Rattle.jbig2_framing.specs.declared.file_header.FileOrganization.TheVariants.{Sequential, RandomAccess}
use Rattle.jbig2_framing.specs.declared.reading.Reading.{Reading}
use Rattle.jbig2_framing.specs.declared.reading.Reading.TheVariants.{Strict, Lenient, Salvage}
use Rattle.jbig2_framing.proofs.Agreeing.{Same, same-itself}
use Rattle.jbig2_framing.proofs.AgreeingSegments.{header-same, headers-salvaged, headers-same, segment-same}

abbrev Refusal : Type 0
Refusal = Option (List ℕ × DecodeError)

abbrev Neither : Refusal → Refusal → Type 0
Neither a b = (a ≡ None) × (b ≡ None)

abbrev ends : SegmentView → Bool
ends p = is_end_of_file p.header.segment_type

abbrev header_ends : Header → Bool
header_ends h = is_end_of_file h.segment_type

of-next : {A B : Type 0} (r : Result A DecodeError) (next : A → Result B DecodeError) (P : Type 0) → IfOk r (λ x. P) → IfOk (r >>= next) (λ y. P)
of-next {A} {B} (Ok x) next P is = of (next x)
  where
    of : (s : Result B DecodeError) → IfOk s (λ y. P)
    of (Ok y) = is
    of (Err e) = tt
of-next (Err e) next P is = tt

-- ---- segments one after the other
after-segment : (last : Bool) (p : SegmentView) (others : Result (List SegmentView) DecodeError) (f g : Refusal) → IfOk others (λ ps. Neither f g)
    → IfOk (cond last (Ok (p ∷ [])) (others >>= λ ps. Ok (p ∷ ps))) (λ ps. Neither (cond last None f) (cond last None g))
after-segment true p others f g rest = (refl, refl)
after-segment false p others f g rest = of-next others (λ ps. Ok (p ∷ ps)) (Neither f g) rest

on-segment : (bytes : List ℕ) (r s : Result (SegmentView × List ℕ) DecodeError) (others : List ℕ → Result (List SegmentView) DecodeError) (f g : List ℕ → Refusal) → Same r s → ((rest : List ℕ) → IfOk (others rest) (λ ps. Neither (f rest) (g rest)))
    → IfOk (goes_on Strict r others) (λ ps. Neither (refused_or (segment_at true) ends bytes r f) (refused_or (segment_at false) ends bytes s g))
on-segment bytes (Ok x) s others f g first rest =
    subst (λ (t : Result (SegmentView × List ℕ) DecodeError). IfOk (goes_on Strict (Ok x) others) (λ ps. Neither (refused_or (segment_at true) ends bytes (Ok x) f) (refused_or (segment_at false) ends bytes t g))) (sym first)
    (after-segment (is_end_of_file x.0.header.segment_type) x.0 (others x.1) (f x.1) (g x.1) (rest x.1))
on-segment bytes (Err e) s others f g first rest = tt

where-left : {A : Type 0} (none : Bool) (r : Result A DecodeError) (x : A) (f g : Refusal) → IfOk r (λ y. Neither f g) → IfOk (cond none (Ok x) r) (λ y. Neither (cond none None f) (cond none None g))
where-left true r x f g is = (refl, refl)
where-left false r x f g is = is

segments-whole : (most : ℕ) (bytes : List ℕ) → IfOk (segments_in most Strict bytes) (λ ps. Neither (first_refused (segment_at true) ends most bytes) (first_refused (segment_at false) ends most bytes))
unfolding segments_in first_refused
segments-whole zero bytes = (refl, refl)
segments-whole (suc most) bytes =
    where-left (eqb (length bytes) 0) (goes_on Strict (segment_at true bytes) (segments_in most Strict)) [] _ _
    (on-segment bytes (segment_at true bytes) (segment_at false bytes) (segments_in most Strict) (first_refused (segment_at true) ends most) (first_refused (segment_at false) ends most) (segment-same bytes) (λ rest. segments-whole most rest))

cut-as : (f g : Refusal) → Neither f g → with_place true f ≡ with_place false g
cut-as f g none = ap (λ (place : Refusal). with_place true place) none.0 ∙ sym (ap (λ (place : Refusal). with_place false place) none.1)

pub sequence-cut-same : (bytes : List ℕ) → IfOk (sequential Strict bytes) (λ ps. sequence_cut_off Strict bytes ≡ sequence_cut_off Lenient bytes)
sequence-cut-same bytes = by (sequential Strict bytes) (segments-whole (length bytes) bytes)
  where
    f : Refusal
    f = first_refused (segment_at true) ends (length bytes) bytes

    g : Refusal
    g = first_refused (segment_at false) ends (length bytes) bytes

    by : (r : Result (List SegmentView) DecodeError) → IfOk r (λ ps. Neither f g) → IfOk r (λ ps. with_place true f ≡ with_place false g)
    by (Ok ps) none = cut-as f g none
    by (Err e) none = tt

-- ---- random access
module _ (one other : Reading) (refuses : (e : DecodeError) → is_salvaged one e ≡ false) (same-header : (bytes : List ℕ) → Same (header_at (is_strict one) bytes) (header_at (is_strict other) bytes)) where
  abbrev headed : List Header → List ℕ → Result (List Header × List ℕ) DecodeError
  headed hs rest = Ok (hs, rest)

  after-header : (last : Bool) (h : Header) (rest : List ℕ) (others : Result (List Header × List ℕ) DecodeError) (f g : Refusal) → IfOk others (λ hs. Neither f g)
      → IfOk (cond last (headed (h ∷ []) rest) (others >>= λ hs. headed (h ∷ hs.0) hs.1)) (λ hs. Neither (cond last None f) (cond last None g))
  after-header true h rest others f g is = (refl, refl)
  after-header false h rest others f g is = of-next others (λ hs. headed (h ∷ hs.0) hs.1) (Neither f g) is

  on-header : (bytes : List ℕ) (r s : Result (Header × List ℕ) DecodeError) (others : List ℕ → Result (List Header × List ℕ) DecodeError) (f g : List ℕ → Refusal) → Same r s → ((rest : List ℕ) → IfOk (others rest) (λ hs. Neither (f rest) (g rest)))
      → IfOk (header_goes_on one bytes r others) (λ hs. Neither (refused_or (header_at (is_strict one)) header_ends bytes r f) (refused_or (header_at (is_strict other)) header_ends bytes s g))
  on-header bytes (Ok h) s others f g first rest =
      subst (λ (t : Result (Header × List ℕ) DecodeError). IfOk (header_goes_on one bytes (Ok h) others) (λ hs. Neither (refused_or (header_at (is_strict one)) header_ends bytes (Ok h) f) (refused_or (header_at (is_strict other)) header_ends bytes t g))) (sym first)
      (after-header (is_end_of_file h.0.segment_type) h.0 h.1 (others h.1) (f h.1) (g h.1) (rest h.1))
  on-header bytes (Err e) s others f g first rest = rw (refuses e) tt

  headers-whole : (most : ℕ) (bytes : List ℕ) → IfOk (headers_in most one bytes) (λ hs. Neither (first_refused (header_at (is_strict one)) header_ends most bytes) (first_refused (header_at (is_strict other)) header_ends most bytes))
  unfolding headers_in first_refused
  headers-whole zero bytes = (refl, refl)
  headers-whole (suc most) bytes =
      where-left (eqb (length bytes) 0) (header_goes_on one bytes (header_at (is_strict one) bytes) (headers_in most one)) ([], bytes) _ _
      (on-header bytes (header_at (is_strict one) bytes) (header_at (is_strict other) bytes) (headers_in most one) (first_refused (header_at (is_strict one)) header_ends most) (first_refused (header_at (is_strict other)) header_ends most) (same-header bytes) (λ rest. headers-whole most rest))

  on-data : (h : Header) (r : Result (SegmentView × List ℕ) DecodeError) (others : List ℕ → Result (List SegmentView) DecodeError) (f : List ℕ → Option CutOff) → ((rest : List ℕ) → IfOk (others rest) (λ ps. f rest ≡ None))
      → IfOk (gathered_before one r others) (λ ps. missing_or h r f ≡ None)
  on-data h (Ok p) others f rest = of-next (others p.1) (λ ps. Ok (p.0 ∷ ps)) (f p.1 ≡ None) (rest p.1)
  on-data h (Err e) others f rest = rw (refuses e) tt

  data-whole : (hs : List Header) (bytes : List ℕ) → IfOk (with_data one hs bytes) (λ ps. data_cut_off hs bytes ≡ None)
  data-whole [] bytes = refl
  data-whole (h ∷ hs) bytes = on-data h (segment_data_at h bytes) (with_data one hs) (data_cut_off hs) (λ rest. data-whole hs rest)

  abbrev after_headers : Result (List Header × List ℕ) DecodeError → Option CutOff
  after_headers (Ok hs) = data_cut_off hs.0 hs.1
  after_headers (Err e) = None

  abbrev cut_by : Option CutOff → Result (List Header × List ℕ) DecodeError → Option CutOff
  cut_by first hs = option_or first (after_headers hs)

  cut-both : (f g : Option CutOff) (r s : Result (List Header × List ℕ) DecodeError) → Same r s → IfOk r (λ hs. (f ≡ None) × (g ≡ None)) → IfOk (r >>= λ hs. with_data one hs.0 hs.1) (λ ps. cut_by f r ≡ cut_by g s)
  cut-both f g (Ok hs) s first none = by (with_data one hs.0 hs.1) (data-whole hs.0 hs.1)
    where
      by : (t : Result (List SegmentView) DecodeError) → IfOk t (λ ps. data_cut_off hs.0 hs.1 ≡ None) → IfOk t (λ ps. cut_by f (Ok hs) ≡ cut_by g s)
      by (Ok ps) whole = ap (λ (c : Option CutOff). cut_by c (Ok hs)) (none.0 ∙ sym none.1) ∙ ap (λ (t : Result (List Header × List ℕ) DecodeError). cut_by g t) (sym first)
      by (Err e) whole = tt
  cut-both f g (Err e) s first none = tt

pub random-cut-same : (one other : Reading) → ((e : DecodeError) → is_salvaged one e ≡ false) → ((bytes : List ℕ) → Same (header_at (is_strict one) bytes) (header_at (is_strict other) bytes)) → ((most : ℕ) (bytes : List ℕ) → Same (headers_in most one bytes) (headers_in most other bytes))
    → (bytes : List ℕ) → IfOk (segments_by RandomAccess one bytes) (λ ps. random_cut_off one bytes ≡ random_cut_off other bytes)
random-cut-same one other refuses same-header same-headers bytes =
    let f : Refusal = first_refused (header_at (is_strict one)) header_ends (length bytes) bytes in
    let g : Refusal = first_refused (header_at (is_strict other)) header_ends (length bytes) bytes in
    cut-both one other refuses same-header (headers_cut_off one bytes) (headers_cut_off other bytes) (headers_in (length bytes) one bytes) (headers_in (length bytes) other bytes) (same-headers (length bytes) bytes)
    (placed (headers_in (length bytes) one bytes) f g (headers-whole one other refuses same-header (length bytes) bytes))
  where
    placed : (r : Result (List Header × List ℕ) DecodeError) (f g : Refusal) → IfOk r (λ hs. Neither f g) → IfOk r (λ hs. (with_place (is_strict one) f ≡ None) × (with_place (is_strict other) g ≡ None))
    placed (Ok hs) f g none = (ap (λ (place : Refusal). with_place (is_strict one) place) none.0, ap (λ (place : Refusal). with_place (is_strict other) place) none.1)
    placed (Err e) f g none = tt

-- ---- files
strict-by : (organization : FileOrganization) (bytes : List ℕ) → IfOk (segments_by organization Strict bytes) (λ ps. cut_off_by organization Strict bytes ≡ cut_off_by organization Lenient bytes)
strict-by Sequential bytes = sequence-cut-same bytes
strict-by RandomAccess bytes = random-cut-same Strict Lenient (λ e. refl) header-same headers-same bytes

salvaged-by : (organization : FileOrganization) (bytes : List ℕ) → IfOk (segments_by organization Lenient bytes) (λ ps. cut_off_by organization Lenient bytes ≡ cut_off_by organization Salvage bytes)
salvaged-by Sequential bytes = always (sequential Lenient bytes)
  where
    always : (r : Result (List SegmentView) DecodeError) → IfOk r (λ ps. sequence_cut_off Lenient bytes ≡ sequence_cut_off Salvage bytes)
    always (Ok ps) = refl
    always (Err e) = tt
salvaged-by RandomAccess bytes = random-cut-same Lenient Salvage (λ e. refl) (λ rest. same-itself (header_at false rest)) headers-salvaged bytes

abbrev file_by : Reading → Result (FileHeader × List ℕ) DecodeError → Option CutOff
file_by reading (Ok header) = cut_off_by header.0.organization reading header.1
file_by reading (Err e) = None

abbrev filed : FileHeader → List SegmentView → Result (FileHeader × List SegmentView) DecodeError
filed header ps = Ok (header, ps)

of-file : (one other : Reading) → ((organization : FileOrganization) (bytes : List ℕ) → IfOk (segments_by organization one bytes) (λ ps. cut_off_by organization one bytes ≡ cut_off_by organization other bytes)) → (r : Result (FileHeader × List ℕ) DecodeError)
    → IfOk (r >>= λ header. segments_by header.0.organization one header.1 >>= λ ps. filed header.0 (by_number ps)) (λ file. file_by one r ≡ file_by other r)
of-file one other each (Ok header) = of-next (segments_by header.0.organization one header.1) (λ ps. filed header.0 (by_number ps)) (file_by one (Ok header) ≡ file_by other (Ok header)) (each header.0.organization header.1)
of-file one other each (Err e) = tt

pub file-cut-same : (bytes : List ℕ) → IfOk (file_at Strict bytes) (λ file. file_cut_off Strict bytes ≡ file_cut_off Lenient bytes)
unfolding file_at file_cut_off
file-cut-same bytes = of-file Strict Lenient strict-by (file_header_at bytes)

pub file-cut-salvaged : (bytes : List ℕ) → IfOk (file_at Lenient bytes) (λ file. file_cut_off Lenient bytes ≡ file_cut_off Salvage bytes)
unfolding file_at file_cut_off
file-cut-salvaged bytes = of-file Lenient Salvage salvaged-by (file_header_at bytes)

-- ---- strict reading
pub sequence-never-cut : (bytes : List ℕ) → IfOk (sequential Strict bytes) (λ ps. sequence_cut_off Strict bytes ≡ None)
sequence-never-cut bytes = by (sequential Strict bytes) (segments-whole (length bytes) bytes)
  where
    by : (r : Result (List SegmentView) DecodeError) → IfOk r (λ ps. Neither (first_refused (segment_at true) ends (length bytes) bytes) (first_refused (segment_at false) ends (length bytes) bytes)) → IfOk r (λ ps. sequence_cut_off Strict bytes ≡ None)
    by (Ok ps) none = ap (λ (place : Refusal). with_place true place) none.0
    by (Err e) none = tt

random-never-cut : (bytes : List ℕ) → IfOk (segments_by RandomAccess Strict bytes) (λ ps. random_cut_off Strict bytes ≡ None)
random-never-cut bytes = by (headers_in (length bytes) Strict bytes) (headers-whole Strict Lenient (λ e. refl) header-same (length bytes) bytes)
  where
    f : Refusal
    f = first_refused (header_at true) header_ends (length bytes) bytes

    g : Refusal
    g = first_refused (header_at false) header_ends (length bytes) bytes

    of-data : (hs : List Header × List ℕ) (first : Option CutOff) → first ≡ None → (t : Result (List SegmentView) DecodeError) → IfOk t (λ ps. data_cut_off hs.0 hs.1 ≡ None) → IfOk t (λ ps. option_or first (data_cut_off hs.0 hs.1) ≡ None)
    of-data hs first none (Ok ps) whole = ap (λ (c : Option CutOff). option_or c (data_cut_off hs.0 hs.1)) none ∙ whole
    of-data hs first none (Err e) whole = tt

    by : (r : Result (List Header × List ℕ) DecodeError) → IfOk r (λ hs. Neither f g) → IfOk (r >>= λ hs. with_data Strict hs.0 hs.1) (λ ps. option_or (with_place true f) (after_headers Strict Lenient (λ e. refl) header-same r) ≡ None)
    by (Ok hs) none = of-data hs (with_place true f) (ap (λ (place : Refusal). with_place true place) none.0) (with_data Strict hs.0 hs.1) (data-whole Strict Lenient (λ e. refl) header-same hs.0 hs.1)
    by (Err e) none = tt

never-by : (organization : FileOrganization) (bytes : List ℕ) → IfOk (segments_by organization Strict bytes) (λ ps. cut_off_by organization Strict bytes ≡ None)
never-by Sequential bytes = sequence-never-cut bytes
never-by RandomAccess bytes = random-never-cut bytes

never-of : (r : Result (FileHeader × List ℕ) DecodeError) → IfOk (r >>= λ header. segments_by header.0.organization Strict header.1 >>= λ ps. filed header.0 (by_number ps)) (λ file. file_by Strict r ≡ None)
never-of (Ok header) = of-next (segments_by header.0.organization Strict header.1) (λ ps. filed header.0 (by_number ps)) (file_by Strict (Ok header) ≡ None) (never-by header.0.organization header.1)
never-of (Err e) = tt

pub file-never-cut : (bytes : List ℕ) → IfOk (file_at Strict bytes) (λ file. file_cut_off Strict bytes ≡ None)
unfolding file_at file_cut_off
file-never-cut bytes = never-of (file_header_at bytes)
