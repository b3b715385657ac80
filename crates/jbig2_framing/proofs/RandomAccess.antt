-- Headers that are read and data that is gathered, and what is left of them.
use Rattle.std.proofs.Common.{◌≡◌, ℕ, ◌-◌, ◌<◌, ◌≤◌, suc, zero, List, [], ◌∷◌, ◌++◌, length, Result, Ok, Err, Bool, true, false, cond, inl, inr, ◌⊎◌, nat_eq, refl, sym, ◌∙◌, ap, arith}
use Rattle.std.proofs.lemmas.List.{append_assoc, append-nil}
use Rattle.std.proofs.lemmas.Bool.{cond-true, cond-false, ne_eqb, eq-eqb, false≢true}
use Rattle.jbig2_base.specs.Results.{◌>>=◌}
use Rattle.jbig2_framing.specs.File.{header_goes_on, headers_in, with_data, gathered_before}
use Rattle.jbig2_framing.specs.Reading.{is_strict, is_salvaged}
use Rattle.jbig2_framing.specs.Segment.{Header, SegmentView, header_at, segment_data_at}
use Rattle.jbig2_framing.specs.Sequential.{is_end_of_file}
use Rattle.jbig2_base.specs.declared.error.DecodeError.{DecodeError}
use Rattle.jbig2_base.specs.declared.error.DecodeError.TheVariants.{OutOfMemory}
use Rattle.jbig2_framing.specs.declared.reading.Reading.{Reading}
use Rattle.jbig2_framing.specs.declared.reading.Reading.TheVariants.{Strict, Lenient, Salvage}
use Rattle.jbig2_framing.proofs.Sequential.{with_front, one_more}

abbrev pub Headers : Type 0
Headers = Result (List Header × List ℕ) DecodeError

abbrev pub with_headers : List Header → Headers → Headers
with_headers front r = r >>= λ hs. Ok (front ++ hs.0, hs.1)

-- Some headers are read, and with those in the bytes that are left they are what is meant.
pub record ReadsHeaders (front : List Header) (reading : Reading) (bytes : List ℕ) (meant : Headers) : Type 0 where
  pub most : ℕ
  pub enough : length bytes ≤ most
  pub same : with_headers front (headers_in most reading bytes) ≡ meant

no_header : (r : Headers) → with_headers [] r ≡ r
no_header (Ok hs) = refl
no_header (Err e) = refl

pub headers_begin : (reading : Reading) (bytes : List ℕ) → ReadsHeaders [] reading bytes (headers_in (length bytes) reading bytes)
headers_begin reading bytes = record { most = length bytes; enough = omega arith; same = no_header (headers_in (length bytes) reading bytes) }

-- the next header, where bytes are left
pub header_in : (most : ℕ) (reading : Reading) (bytes : List ℕ) → 0 < length bytes → headers_in (suc most) reading bytes ≡ (header_goes_on reading bytes (header_at (is_strict reading) bytes) (headers_in most reading))
unfolding headers_in
header_in most reading bytes some = cond-false (nat_eq (length bytes) 0) (Ok ([], bytes)) (header_goes_on reading bytes (header_at (is_strict reading) bytes) (headers_in most reading)) (ne_eqb (length bytes) 0 (λ e. omega arith))

no_header_in : (most : ℕ) (reading : Reading) (bytes : List ℕ) → length bytes ≡ 0 → headers_in most reading bytes ≡ Ok ([], bytes)
unfolding headers_in
no_header_in zero reading bytes none = refl
no_header_in (suc most) reading bytes none = cond-true (nat_eq (length bytes) 0) (Ok ([], bytes)) (header_goes_on reading bytes (header_at (is_strict reading) bytes) (headers_in most reading)) (eq-eqb (length bytes) 0 none)

one_more_header : (front : List Header) (h : Header) (r : Headers) → with_headers (front ++ h ∷ []) r ≡ with_headers front (r >>= λ hs. Ok (h ∷ hs.0, hs.1))
one_more_header front h (Ok hs) = ap (λ (xs : List Header). Ok (xs, hs.1)) (append_assoc front (h ∷ []) hs.0)
one_more_header front h (Err e) = refl

-- what is meant, by the header at the front
header_at_front : (front : List Header) (reading : Reading) (bytes : List ℕ) (meant : Headers) (reads : ReadsHeaders front reading bytes meant) (r : Result (Header × List ℕ) DecodeError) → 0 < length bytes → header_at (is_strict reading) bytes ≡ r → with_headers front (header_goes_on reading bytes r (headers_in (reads.most - 1) reading)) ≡ meant
header_at_front front reading bytes meant reads r some e =
    let next : suc (reads.most - 1) ≡ reads.most = omega (arith, reads.enough) in
    ap (λ (s : Result (Header × List ℕ) DecodeError). with_headers front (header_goes_on reading bytes s (headers_in (reads.most - 1) reading))) (sym e)
    ∙ ap (λ (s : Headers). with_headers front s) (sym (header_in (reads.most - 1) reading bytes some) ∙ ap (λ (n : ℕ). headers_in n reading bytes) next)
    ∙ reads.same

pub next_header : (front : List Header) (reading : Reading) (bytes rest : List ℕ) (meant : Headers) (h : Header) → ReadsHeaders front reading bytes meant → header_at (is_strict reading) bytes ≡ Ok (h, rest) → length rest < length bytes → is_end_of_file h.segment_type ≡ false → ReadsHeaders (front ++ h ∷ []) reading rest meant
next_header front reading bytes rest meant h reads e shorter goes = record {
  most = reads.most - 1;
  enough = omega (arith, reads.enough);
  same =
      one_more_header front h (headers_in (reads.most - 1) reading rest)
      ∙ ap (λ (r : Headers). with_headers front r) (sym (cond-false (is_end_of_file h.segment_type) (Ok (h ∷ [], rest)) (headers_in (reads.most - 1) reading rest >>= λ hs. Ok (h ∷ hs.0, hs.1)) goes))
      ∙ header_at_front front reading bytes meant reads (Ok (h, rest)) (omega arith) e;
}

pub last_header : (front : List Header) (reading : Reading) (bytes rest : List ℕ) (meant : Headers) (h : Header) → ReadsHeaders front reading bytes meant → header_at (is_strict reading) bytes ≡ Ok (h, rest) → 0 < length bytes → is_end_of_file h.segment_type ≡ true → meant ≡ Ok (front ++ h ∷ [], rest)
last_header front reading bytes rest meant h reads e some ends =
    sym (ap (λ (r : Headers). with_headers front r) (sym (cond-true (is_end_of_file h.segment_type) (Ok (h ∷ [], rest)) (headers_in (reads.most - 1) reading rest >>= λ hs. Ok (h ∷ hs.0, hs.1)) ends))
    ∙ header_at_front front reading bytes meant reads (Ok (h, rest)) some e)

pub header_refused : (front : List Header) (reading : Reading) (bytes : List ℕ) (meant : Headers) (error : DecodeError) → ReadsHeaders front reading bytes meant → header_at (is_strict reading) bytes ≡ Err error → 0 < length bytes → is_salvaged reading error ≡ false → meant ≡ Err error
header_refused front reading bytes meant error reads e some kept =
    sym (ap (λ (r : Headers). with_headers front r) (sym (cond-false (is_salvaged reading error) (Ok ([], bytes)) (Err error) kept))
    ∙ header_at_front front reading bytes meant reads (Err error) some e)

pub header_left_out : (front : List Header) (reading : Reading) (bytes : List ℕ) (meant : Headers) (error : DecodeError) → ReadsHeaders front reading bytes meant → header_at (is_strict reading) bytes ≡ Err error → 0 < length bytes → is_salvaged reading error ≡ true → meant ≡ Ok (front, bytes)
header_left_out front reading bytes meant error reads e some left_out =
    sym (ap (λ (hs : List Header). Ok (hs, bytes)) (sym (append-nil front))
    ∙ ap (λ (r : Headers). with_headers front r) (sym (cond-true (is_salvaged reading error) (Ok ([], bytes)) (Err error) left_out))
    ∙ header_at_front front reading bytes meant reads (Err error) some e)

pub headers_end : (front : List Header) (reading : Reading) (bytes : List ℕ) (meant : Headers) → ReadsHeaders front reading bytes meant → length bytes ≡ 0 → meant ≡ Ok (front, bytes)
headers_end front reading bytes meant reads none =
    sym reads.same ∙ ap (λ (r : Headers). with_headers front r) (no_header_in reads.most reading bytes none) ∙ ap (λ (hs : List Header). Ok (hs, bytes)) (append-nil front)

-- the same under another name for what was read
pub ReadsHeaders-as : (front others : List Header) (reading : Reading) (bytes : List ℕ) (meant : Headers) → front ≡ others → ReadsHeaders front reading bytes meant → ReadsHeaders others reading bytes meant
ReadsHeaders-as front others reading bytes meant e reads = record { most = reads.most; enough = reads.enough; same = ap (λ (hs : List Header). with_headers hs (headers_in reads.most reading bytes)) (sym e) ∙ reads.same }

-- data after data
pub gathers_one : (front : List SegmentView) (reading : Reading) (h : Header) (hs : List Header) (bytes rest : List ℕ) (p : SegmentView) (meant : Result (List SegmentView) DecodeError) → with_front front (with_data reading (h ∷ hs) bytes) ≡ meant → segment_data_at h bytes ≡ Ok (p, rest) → with_front (front ++ p ∷ []) (with_data reading hs rest) ≡ meant
gathers_one front reading h hs bytes rest p meant same e =
    one_more front p (with_data reading hs rest)
    ∙ ap (λ (r : Result (SegmentView × List ℕ) DecodeError). with_front front (gathered_before reading r (with_data reading hs))) (sym e)
    ∙ same

-- what is meant, where data is refused
data_refused : (front : List SegmentView) (reading : Reading) (h : Header) (hs : List Header) (bytes : List ℕ) (error : DecodeError) (meant : Result (List SegmentView) DecodeError) → with_front front (with_data reading (h ∷ hs) bytes) ≡ meant → segment_data_at h bytes ≡ Err error → meant ≡ with_front front (cond (is_salvaged reading error) (Ok []) (Err error))
data_refused front reading h hs bytes error meant same e =
    sym same ∙ ap (λ (r : Result (SegmentView × List ℕ) DecodeError). with_front front (gathered_before reading r (with_data reading hs))) e

pub gathers_none : (front : List SegmentView) (reading : Reading) (h : Header) (hs : List Header) (bytes : List ℕ) (error : DecodeError) (meant : Result (List SegmentView) DecodeError) → with_front front (with_data reading (h ∷ hs) bytes) ≡ meant → segment_data_at h bytes ≡ Err error → is_salvaged reading error ≡ false → meant ≡ Err error
gathers_none front reading h hs bytes error meant same e kept =
    data_refused front reading h hs bytes error meant same e
    ∙ ap (λ (r : Result (List SegmentView) DecodeError). with_front front r) (cond-false (is_salvaged reading error) (Ok []) (Err error) kept)

pub gathers_drops : (front : List SegmentView) (reading : Reading) (h : Header) (hs : List Header) (bytes : List ℕ) (error : DecodeError) (meant : Result (List SegmentView) DecodeError) → with_front front (with_data reading (h ∷ hs) bytes) ≡ meant → segment_data_at h bytes ≡ Err error → is_salvaged reading error ≡ true → meant ≡ Ok front
gathers_drops front reading h hs bytes error meant same e left_out =
    data_refused front reading h hs bytes error meant same e
    ∙ ap (λ (r : Result (List SegmentView) DecodeError). with_front front r) (cond-true (is_salvaged reading error) (Ok []) (Err error) left_out)
    ∙ ap (λ (ps : List SegmentView). Ok ps) (append-nil front)

pub gathers_all : (front : List SegmentView) (reading : Reading) (bytes : List ℕ) (meant : Result (List SegmentView) DecodeError) → with_front front (with_data reading [] bytes) ≡ meant → meant ≡ Ok front
gathers_all front reading bytes meant same = sym same ∙ ap (λ (ps : List SegmentView). Ok ps) (append-nil front)

-- a header that is read by the mode's own test
pub header-as : (strict : Bool) (reading : Reading) (bytes : List ℕ) (r : Result (Header × List ℕ) DecodeError) → strict ≡ is_strict reading → header_at strict bytes ≡ r → header_at (is_strict reading) bytes ≡ r
header-as strict reading bytes r e is = ap (λ (b : Bool). header_at b bytes) (sym e) ∙ is

-- an error that leaves something out is no want of memory
pub left-out : {A : Type 0} (reading : Reading) (error : DecodeError) (r : Result A DecodeError) → (error ≡ OutOfMemory) ⊎ (r ≡ Err error) → is_salvaged reading error ≡ true → r ≡ Err error
left-out reading error r (inl e) is = absurd (false≢true (sym (ap (λ (x : DecodeError). is_salvaged reading x) e ∙ never reading) ∙ is))
  where
    never : (m : Reading) → is_salvaged m OutOfMemory ≡ false
    never Strict = refl
    never Lenient = refl
    never Salvage = refl
left-out reading error r (inr e) is = e
