-- Segments and page information are read back.
use Rattle.std.proofs.Common.{◌≡◌, ℕ, zero, suc, ◌+◌, ◌*◌, ◌/◌, ◌%◌, ◌^◌, ◌<◌, ◌≤◌, eqb, ltb, Bool, true, false, cond, not, ◌&&◌, ◌||◌, List, [], ◌∷◌, ◌++◌, length, take, drop, Option, Some, None, Result, Ok, Err, refl, sym, ◌∙◌, ap, arith, le-ltb, ne_eqb, length-append}
use Rattle.std.specs.List.{flat_map, list_any}
use Rattle.std.specs.Int.{Width, w8, w16, w32, byte_len, to_be_bytes, from_be_bytes}
use Rattle.std.specs.Prelude.{nat_le}
use Rattle.std.proofs.lemmas.Bool.{cond-false}
use Rattle.std.proofs.lemmas.List.{take_at, drop_at}
use Rattle.std.proofs.lemmas.Nat.{from_be_bytes-to_be_bytes_2}
use Rattle.jbig2_base.specs.Results.{◌>>=◌, refuse_if}
use Rattle.jbig2_base.specs.Bits.{bit_number, nonzero}
use Rattle.jbig2_base.specs.Fields.{bytes_at, number_at, end_of_bytes}
use Rattle.jbig2_framing.specs.PageInfo.{default_operator_of, flags_of, is_set, information_at}
use Rattle.jbig2_framing.specs.Reading.{is_strict}
use Rattle.jbig2_framing.specs.Segment.{Header, SegmentView, type_of, is_reserved, is_immediate_generic, long_count_at, count_at, number_width, numbers_in, referred_at, length_of, header_at, data_at, segment_data_at, segment_at}
use Rattle.jbig2_framing.specs.Sequential.{is_end_of_file, goes_on, segments_in}
use Rattle.jbig2_base.specs.declared.bitmap.operator.CombinationOperator.{CombinationOperator}
use Rattle.jbig2_base.specs.declared.bitmap.operator.CombinationOperator.TheVariants.{Or, And, Xor, Xnor, Replace}
use Rattle.jbig2_base.specs.declared.error.DecodeError.{DecodeError}
use Rattle.jbig2_base.specs.declared.error.DecodeError.TheVariants.{Segment}
use Rattle.jbig2_base.specs.declared.error.SegmentError.TheVariants.{UnknownType, InvalidReferredCount, InvalidReference, InvalidUnknownLength}
use Rattle.jbig2_framing.specs.declared.page_info.PageFlags.{PageFlags}
use Rattle.jbig2_framing.specs.declared.page_info.PageInformation.{PageInformation}
use Rattle.jbig2_framing.specs.declared.page_info.PageStriping.{PageStriping}
use Rattle.jbig2_framing.specs.declared.reading.Reading.{Reading}
use Rattle.jbig2_framing.specs.declared.segment.SegmentType.{SegmentType}
use Rattle.jbig2_framing.specs.declared.segment.SegmentType.TheVariants as types
use Rattle.jbig2_inverses.specs.SegmentWriter.{type_number, header_flags, segment_bytes, IsSegment, AreSegments, SegmentsReadBack, number_or_0, page_flags, striping_number, information_bytes, IsResolution, PageInformationReadsBack, operator_number}
use Rattle.jbig2_inverses.proofs.GenericSegmentInverse.{Numbered, four-bytes, one-byte, bit-back, bit-small}

-- ---- segment headers
type-back : (t : SegmentType) → type_of (type_number t) ≡ t
unfolding type_of
type-back types.SymbolDictionary = refl
type-back types.IntermediateTextRegion = refl
type-back types.ImmediateTextRegion = refl
type-back types.ImmediateLosslessTextRegion = refl
type-back types.PatternDictionary = refl
type-back types.IntermediateHalftoneRegion = refl
type-back types.ImmediateHalftoneRegion = refl
type-back types.ImmediateLosslessHalftoneRegion = refl
type-back types.IntermediateGenericRegion = refl
type-back types.ImmediateGenericRegion = refl
type-back types.ImmediateLosslessGenericRegion = refl
type-back types.IntermediateGenericRefinementRegion = refl
type-back types.ImmediateGenericRefinementRegion = refl
type-back types.ImmediateLosslessGenericRefinementRegion = refl
type-back types.PageInformation = refl
type-back types.EndOfPage = refl
type-back types.EndOfStripe = refl
type-back types.EndOfFile = refl
type-back types.Profiles = refl
type-back types.Tables = refl
type-back types.ColourPalette = refl
type-back types.Extension = refl
type-back types.Reserved = refl

type-small : (t : SegmentType) → type_number t < 64
type-small types.SymbolDictionary = omega arith
type-small types.IntermediateTextRegion = omega arith
type-small types.ImmediateTextRegion = omega arith
type-small types.ImmediateLosslessTextRegion = omega arith
type-small types.PatternDictionary = omega arith
type-small types.IntermediateHalftoneRegion = omega arith
type-small types.ImmediateHalftoneRegion = omega arith
type-small types.ImmediateLosslessHalftoneRegion = omega arith
type-small types.IntermediateGenericRegion = omega arith
type-small types.ImmediateGenericRegion = omega arith
type-small types.ImmediateLosslessGenericRegion = omega arith
type-small types.IntermediateGenericRefinementRegion = omega arith
type-small types.ImmediateGenericRefinementRegion = omega arith
type-small types.ImmediateLosslessGenericRefinementRegion = omega arith
type-small types.PageInformation = omega arith
type-small types.EndOfPage = omega arith
type-small types.EndOfStripe = omega arith
type-small types.EndOfFile = omega arith
type-small types.Profiles = omega arith
type-small types.Tables = omega arith
type-small types.ColourPalette = omega arith
type-small types.Extension = omega arith
type-small types.Reserved = omega arith

abbrev References : Type 0
References = Result (List ℕ × List ℕ) DecodeError

-- no bytes are taken
nothing-at : (count : ℕ) (rest : List ℕ) → count ≡ 0 → bytes_at count rest ≡ Ok ([], rest)
nothing-at count rest e =
    let done : References = Ok (take 0 rest, drop 0 rest) in
    ap (λ (n : ℕ). bytes_at n rest) e ∙ cond-false (ltb (length rest) 0) (Err end_of_bytes) done (le-ltb (length rest) 0 (omega arith))

count-none : (rest : List ℕ) → count_at (0 ∷ rest) ≡ Ok (0, rest)
unfolding count_at
count-none rest =
    ap (λ (r : Numbered). r >>= λ c. refuse_if (eqb (c.0 / 32) 5 || eqb (c.0 / 32) 6) (Segment InvalidReferredCount) >>= λ coded. cond (eqb (c.0 / 32) 7) (long_count_at (c.0 % 32) c.1) (Ok (c.0 / 32, c.1))) (one-byte 0 rest)

references-none : (own : ℕ) (rest : List ℕ) → referred_at own (0 ∷ rest) ≡ Ok ([], rest)
unfolding referred_at
references-none own rest =
    let width = number_width own in
    let checked : ℕ → References → References = λ count r. r >>= λ b. refuse_if (list_any (λ n. nat_le own n) (numbers_in width count b.0)) (Segment InvalidReference) >>= λ earlier. Ok (numbers_in width count b.0, b.1) in
    ap (λ (r : Numbered). r >>= λ c. checked c.0 (bytes_at (c.0 * byte_len width) c.1)) (count-none rest)
    ∙ ap (λ (r : References). checked 0 r) (nothing-at (0 * byte_len width) rest (omega arith))

abbrev Headed : Type 0
Headed = Result (Header × List ℕ) DecodeError

abbrev by_length : Bool → ℕ → SegmentType → Bool → List ℕ → ℕ → Result (ℕ × List ℕ) DecodeError → Headed
by_length strict number kind retain referred page lengths =
    lengths >>= λ l. length_of strict kind l.0 >>= λ len.
    Ok (record { segment_number = number; segment_type = kind; retain_flag = retain; page_association = page; referred_to_segments = referred; data_length = len }, l.1)

abbrev by_type : Bool → ℕ → SegmentType → Width → Bool → List ℕ → Headed
by_type strict number kind width retain rest =
    refuse_if (strict && is_reserved kind) (Segment UnknownType) >>= λ known. referred_at number rest >>= λ r. number_at width r.1 >>= λ p. by_length strict number kind retain r.0 p.0 (number_at w32 p.1)

abbrev by_flags : Bool → ℕ → ℕ → List ℕ → Headed
by_flags strict number flags rest = by_type strict number (type_of (flags % 64)) (cond (eqb (flags / 64 % 2) 1) w32 w8) (eqb (flags / 128) 0) rest

header-is : (strict : Bool) (bytes : List ℕ) → header_at strict bytes ≡ (number_at w32 bytes >>= λ n. number_at w8 n.1 >>= λ f. by_flags strict n.0 f.0 f.1)
unfolding header_at
header-is strict bytes = refl

not-bit : (b : Bool) → eqb (bit_number (not b)) 0 ≡ b
not-bit true = refl
not-bit false = refl

record Flags (h : Header) (flags : ℕ) : Type 0 where
  kind : type_of (flags % 64) ≡ h.segment_type
  width : cond (eqb (flags / 64 % 2) 1) w32 w8 ≡ w32
  retain : eqb (flags / 128) 0 ≡ h.retain_flag

flags-read : (h : Header) → Flags h (header_flags h)
flags-read h =
    let t = type_number h.segment_type in
    let b = bit_number (not h.retain_flag) in
    let ts = type-small h.segment_type in
    let bs = bit-small (not h.retain_flag) in record {
      kind = ap (λ (n : ℕ). type_of n) (field-0 t b ts) ∙ type-back h.segment_type;
      width = ap (λ (n : ℕ). cond (eqb n 1) w32 w8) (field-6 t b ts);
      retain = ap (λ (n : ℕ). eqb n 0) (field-7 t b ts bs) ∙ not-bit h.retain_flag;
    }
  where
    field-0 : (t b : ℕ) → t < 64 → (t + 64 + 128 * b) % 64 ≡ t
    field-0 t b ts = omega arith

    field-6 : (t b : ℕ) → t < 64 → (t + 64 + 128 * b) / 64 % 2 ≡ 1
    field-6 t b ts = omega arith

    field-7 : (t b : ℕ) → t < 64 → b < 2 → (t + 64 + 128 * b) / 128 ≡ b
    field-7 t b ts bs = omega arith

length-read : (strict : Bool) (kind : SegmentType) (n : ℕ) → n < 4294967295 → length_of strict kind n ≡ Ok (Some n)
length-read strict kind n small =
    let unknown : Result (Option ℕ) DecodeError = refuse_if (strict && not (is_immediate_generic kind)) (Segment InvalidUnknownLength) >>= λ known. Ok None in
    let done : Result (Option ℕ) DecodeError = Ok (Some n) in
    cond-false (eqb n 4294967295) unknown done (ne_eqb n 4294967295 (λ e. omega (arith, e, small)))

header-read : (strict : Bool) (p : SegmentView) (rest : List ℕ) → IsSegment strict p
    → header_at strict (to_be_bytes w32 p.header.segment_number ++ (header_flags p.header ∷ 0 ∷ (to_be_bytes w32 p.header.page_association ++ (to_be_bytes w32 (length p.bytes) ++ rest)))) ≡ Ok (p.header, rest)
header-read strict p rest is =
    let h = p.header in
    let flags = header_flags h in
    let n = length p.bytes in
    let r4 = to_be_bytes w32 n ++ rest in
    let r3 = to_be_bytes w32 h.page_association ++ r4 in
    let r2 = 0 ∷ r3 in
    let f = flags-read h in
    let made : List ℕ → Option ℕ → Headed = λ referred len. Ok (record { segment_number = h.segment_number; segment_type = h.segment_type; retain_flag = h.retain_flag; page_association = h.page_association; referred_to_segments = referred; data_length = len }, rest) in
    header-is strict (to_be_bytes w32 h.segment_number ++ (flags ∷ r2))
    ∙ ap (λ (r : Numbered). r >>= λ m. number_at w8 m.1 >>= λ g. by_flags strict m.0 g.0 g.1) (four-bytes h.segment_number (flags ∷ r2) is.number)
    ∙ ap (λ (r : Numbered). r >>= λ g. by_flags strict h.segment_number g.0 g.1) (one-byte flags r2)
    ∙ ap (λ (t : SegmentType). by_type strict h.segment_number t (cond (eqb (flags / 64 % 2) 1) w32 w8) (eqb (flags / 128) 0) r2) f.kind
    ∙ ap (λ (w : Width). by_type strict h.segment_number h.segment_type w (eqb (flags / 128) 0) r2) f.width
    ∙ ap (λ (b : Bool). by_type strict h.segment_number h.segment_type w32 b r2) f.retain
    ∙ ap (λ (b : Bool). refuse_if b (Segment UnknownType) >>= λ known. referred_at h.segment_number r2 >>= λ r. number_at w32 r.1 >>= λ q. by_length strict h.segment_number h.segment_type h.retain_flag r.0 q.0 (number_at w32 q.1)) is.known
    ∙ ap (λ (r : References). r >>= λ r. number_at w32 r.1 >>= λ q. by_length strict h.segment_number h.segment_type h.retain_flag r.0 q.0 (number_at w32 q.1)) (references-none h.segment_number r3)
    ∙ ap (λ (r : Numbered). r >>= λ q. by_length strict h.segment_number h.segment_type h.retain_flag [] q.0 (number_at w32 q.1)) (four-bytes h.page_association r4 is.page)
    ∙ ap (λ (r : Numbered). by_length strict h.segment_number h.segment_type h.retain_flag [] h.page_association r) (four-bytes n rest (omega (arith, is.short)))
    ∙ ap (λ (r : Result (Option ℕ) DecodeError). r >>= λ len. made [] len) (length-read strict h.segment_type n is.short)
    ∙ ap (λ (len : Option ℕ). made [] len) (sym is.data_length)
    ∙ ap (λ (referred : List ℕ). made referred h.data_length) (sym is.no_references)

data-read : (p : SegmentView) (rest : List ℕ) → p.header.data_length ≡ Some (length p.bytes) → segment_data_at p.header (p.bytes ++ rest) ≡ Ok (p, rest)
data-read p rest e =
    let n = length p.bytes in
    let bytes = p.bytes ++ rest in
    let taken : References = Ok (take n bytes, drop n bytes) in
    let seen : References → Result (SegmentView × List ℕ) DecodeError = λ r. r >>= λ d. Ok (record { header = p.header; bytes = d.0 }, d.1) in
    ap (λ (o : Option ℕ). seen (data_at o bytes)) e
    ∙ ap seen (cond-false (ltb (length bytes) n) (Err end_of_bytes) taken (le-ltb (length bytes) n (omega (arith, length-append p.bytes rest))))
    ∙ ap (λ (b : List ℕ). seen (Ok (b, drop n bytes))) (take_at p.bytes rest n refl)
    ∙ ap (λ (b : List ℕ). seen (Ok (p.bytes, b))) (drop_at p.bytes rest n refl)

segment-read : (strict : Bool) (p : SegmentView) (rest : List ℕ) → IsSegment strict p → segment_at strict (segment_bytes p ++ rest) ≡ Ok (p, rest)
unfolding segment_at segment_bytes
segment-read strict p rest is =
    ap (λ (r : Headed). r >>= λ d. segment_data_at d.0 d.1) (header-read strict p (p.bytes ++ rest) is)
    ∙ data-read p rest is.data_length

-- ---- segments one after the other
some-bytes : (p : SegmentView) (rest : List ℕ) → 11 ≤ length (segment_bytes p ++ rest)
unfolding segment_bytes
some-bytes p rest = omega arith

-- the first one is read, and then what is left
first-read : (p : SegmentView) (rest : List ℕ) (most : ℕ) (reading : Reading) → IsSegment (is_strict reading) p
    → segments_in (suc most) reading (segment_bytes p ++ rest) ≡ goes_on reading (Ok (p, rest)) (segments_in most reading)
unfolding segments_in
first-read p rest most reading is =
    let bytes = segment_bytes p ++ rest in
    let strict = is_strict reading in
    let none : Result (List SegmentView) DecodeError = Ok [] in
    cond-false (eqb (length bytes) 0) none (goes_on reading (segment_at strict bytes) (segments_in most reading)) (ne_eqb (length bytes) 0 (λ e. omega (arith, e, some-bytes p rest)))
    ∙ ap (λ (r : Result (SegmentView × List ℕ) DecodeError). goes_on reading r (segments_in most reading)) (segment-read strict p rest is)

none-left : (most : ℕ) (reading : Reading) → segments_in most reading [] ≡ Ok []
unfolding segments_in
none-left zero reading = refl
none-left (suc most) reading = refl

reads : (ps : List SegmentView) (most : ℕ) (reading : Reading) → AreSegments (is_strict reading) ps → length (flat_map segment_bytes ps) ≤ most
    → segments_in most reading (flat_map segment_bytes ps) ≡ Ok ps
reads [] most reading are few = none-left most reading
reads (p ∷ ps) zero reading are few = let some = some-bytes p (flat_map segment_bytes ps) in absurd (omega (arith, some, few))
reads (p ∷ []) (suc most) reading are few =
    let single : Result (List SegmentView) DecodeError = Ok (p ∷ []) in
    let more : Result (List SegmentView) DecodeError → Result (List SegmentView) DecodeError = λ r. r >>= λ qs. Ok (p ∷ qs) in
    first-read p [] most reading are
    ∙ ap (λ (r : Result (List SegmentView) DecodeError). cond (is_end_of_file p.header.segment_type) single (more r)) (none-left most reading)
    ∙ either (is_end_of_file p.header.segment_type)
  where
    either : (b : Bool) → cond b (let single : Result (List SegmentView) DecodeError = Ok (p ∷ []) in single) (Ok (p ∷ [])) ≡ Ok (p ∷ [])
    either true = refl
    either false = refl
reads (p ∷ q ∷ ps) (suc most) reading are few =
    let others = flat_map segment_bytes (q ∷ ps) in
    let size = length-append (segment_bytes p) others in
    let own = some-bytes p [] in
    let own_size = length-append (segment_bytes p) [] in
    let single : Result (List SegmentView) DecodeError = Ok (p ∷ []) in
    let more : Result (List SegmentView) DecodeError → Result (List SegmentView) DecodeError = λ r. r >>= λ qs. Ok (p ∷ qs) in
    first-read p others most reading are.0
    ∙ cond-false (is_end_of_file p.header.segment_type) single (more (segments_in most reading others)) are.1
    ∙ ap more (reads (q ∷ ps) most reading are.2 (omega (arith, few, size, own, own_size)))

pub segments_read_back : SegmentsReadBack
segments_read_back reading ps are = reads ps (length (flat_map segment_bytes ps)) reading are (omega arith)

-- ---- page information
two-bytes : (n : ℕ) (rest : List ℕ) → n < 2 ^ 16 → number_at w16 (to_be_bytes w16 n ++ rest) ≡ Ok (n, rest)
two-bytes n rest small =
    let bytes = to_be_bytes w16 n ++ rest in
    let done : Numbered = Ok (from_be_bytes w16 (to_be_bytes w16 n), rest) in
    cond-false (ltb (length bytes) 2) (Err end_of_bytes) done (le-ltb (length bytes) 2 (omega arith))
    ∙ ap (λ (m : ℕ). Ok (m, rest)) (from_be_bytes-to_be_bytes_2 n small)

resolution-back : (o : Option ℕ) → IsResolution o → nonzero (number_or_0 o) ≡ o
resolution-back None is = refl
resolution-back (Some n) is = cond-false (eqb n 0) None (Some n) (ne_eqb n 0 (λ e. omega (arith, e, is.0)))

resolution-small : (o : Option ℕ) → IsResolution o → number_or_0 o < 2 ^ 32
resolution-small None is = omega arith
resolution-small (Some n) is = is.1

operator-back : (op : CombinationOperator) → (op ≡ Replace → ⊥) → (default_operator_of (operator_number op) ≡ op) × (operator_number op < 4)
operator-back Or other = (refl, omega arith)
operator-back And other = (refl, omega arith)
operator-back Xor other = (refl, omega arith)
operator-back Xnor other = (refl, omega arith)
operator-back Replace other = absurd (other refl)

abbrev flags_made : Bool → Bool → Bool → CombinationOperator → Bool → Bool → Bool → PageFlags
flags_made a b c d e f g = record { is_lossless = a; might_contain_refinements = b; default_pixel = c; default_combination_operator = d; requires_auxiliary_buffers = e; combination_operator_overridden = f; might_contain_coloured = g }

page-flags-read : (f : PageFlags) → (f.default_combination_operator ≡ Replace → ⊥) → flags_of (page_flags f) ≡ f
page-flags-read x other =
    let a = bit_number x.is_lossless in
    let b = bit_number x.might_contain_refinements in
    let c = bit_number x.default_pixel in
    let d = operator_number x.default_combination_operator in
    let e = bit_number x.requires_auxiliary_buffers in
    let f = bit_number x.combination_operator_overridden in
    let g = bit_number x.might_contain_coloured in
    let n = page_flags x in
    let op = operator-back x.default_combination_operator other in
    let a2 = bit-small x.is_lossless in
    let b2 = bit-small x.might_contain_refinements in
    let c2 = bit-small x.default_pixel in
    let e2 = bit-small x.requires_auxiliary_buffers in
    let f2 = bit-small x.combination_operator_overridden in
    let g2 = bit-small x.might_contain_coloured in
    let s = parts a b c d e f g a2 b2 c2 op.1 e2 f2 g2 in
    let t1 : is_set n 1 ≡ x.is_lossless = ap (λ (m : ℕ). eqb m 1) s.0 ∙ bit-back x.is_lossless in
    let t2 : is_set n 2 ≡ x.might_contain_refinements = ap (λ (m : ℕ). eqb m 1) s.1 ∙ bit-back x.might_contain_refinements in
    let t3 : is_set n 4 ≡ x.default_pixel = ap (λ (m : ℕ). eqb m 1) s.2 ∙ bit-back x.default_pixel in
    let t4 : default_operator_of (n / 8 % 4) ≡ x.default_combination_operator = ap (λ (m : ℕ). default_operator_of m) s.3 ∙ op.0 in
    let t5 : is_set n 32 ≡ x.requires_auxiliary_buffers = ap (λ (m : ℕ). eqb m 1) s.4 ∙ bit-back x.requires_auxiliary_buffers in
    let t6 : is_set n 64 ≡ x.combination_operator_overridden = ap (λ (m : ℕ). eqb m 1) s.5 ∙ bit-back x.combination_operator_overridden in
    let t7 : is_set n 128 ≡ x.might_contain_coloured = ap (λ (m : ℕ). eqb m 1) s.6 ∙ bit-back x.might_contain_coloured in
    λ i. flags_made (t1 i) (t2 i) (t3 i) (t4 i) (t5 i) (t6 i) (t7 i)
  where
    parts : (a b c d e f g : ℕ) → a < 2 → b < 2 → c < 2 → d < 4 → e < 2 → f < 2 → g < 2
        → let n = a + 2 * b + 4 * c + 8 * d + 32 * e + 64 * f + 128 * g in
        (n / 1 % 2 ≡ a) × (n / 2 % 2 ≡ b) × (n / 4 % 2 ≡ c) × (n / 8 % 4 ≡ d) × (n / 32 % 2 ≡ e) × (n / 64 % 2 ≡ f) × (n / 128 % 2 ≡ g)
    parts a b c d e f g a2 b2 c2 d4 e2 f2 g2 = (omega arith, omega arith, omega arith, omega arith, omega arith, omega arith, omega arith)

striping-read : (s : PageStriping) → s.max_stripe_size < 32768 → (eqb (striping_number s / 32768) 1 ≡ s.is_striped) × (striping_number s % 32768 ≡ s.max_stripe_size) × (striping_number s < 2 ^ 16)
striping-read s small =
    let b = bit_number s.is_striped in
    let bs = bit-small s.is_striped in
    let q = parts b s.max_stripe_size bs small in
    (ap (λ (m : ℕ). eqb m 1) q.0 ∙ bit-back s.is_striped, q.1, q.2)
  where
    parts : (b m : ℕ) → b < 2 → m < 32768 → ((32768 * b + m) / 32768 ≡ b) × ((32768 * b + m) % 32768 ≡ m) × (32768 * b + m < 65536)
    parts b m bs ms = (omega arith, omega arith, omega arith)

abbrev Informed : Type 0
Informed = Result (PageInformation × List ℕ) DecodeError

abbrev informed : ℕ → ℕ → ℕ → ℕ → ℕ → ℕ → List ℕ → Informed
informed width height x y flags striping rest =
    Ok (record { width = width; height = height; x_resolution = nonzero x; y_resolution = nonzero y; flags = flags_of flags; striping = record { is_striped = eqb (striping / 32768) 1; max_stripe_size = striping % 32768 } }, rest)

information-is : (bytes : List ℕ) → information_at bytes
    ≡ (number_at w32 bytes >>= λ a. number_at w32 a.1 >>= λ b. number_at w32 b.1 >>= λ c. number_at w32 c.1 >>= λ d. number_at w8 d.1 >>= λ e. number_at w16 e.1 >>= λ f. informed a.0 b.0 c.0 d.0 e.0 f.0 f.1)
unfolding information_at
information-is bytes = refl

pub page_information_reads_back : PageInformationReadsBack
unfolding information_bytes
page_information_reads_back i is rest =
    let x = number_or_0 i.x_resolution in
    let y = number_or_0 i.y_resolution in
    let flags = page_flags i.flags in
    let striping = striping_number i.striping in
    let s = striping-read i.striping is.stripes in
    let r5 = to_be_bytes w16 striping ++ rest in
    let r4 = flags ∷ r5 in
    let r3 = to_be_bytes w32 y ++ r4 in
    let r2 = to_be_bytes w32 x ++ r3 in
    let r1 = to_be_bytes w32 i.height ++ r2 in
    let made : Option ℕ → Option ℕ → PageFlags → Bool → ℕ → Informed = λ xr yr fl striped most. Ok (record { width = i.width; height = i.height; x_resolution = xr; y_resolution = yr; flags = fl; striping = record { is_striped = striped; max_stripe_size = most } }, rest) in
    information-is (to_be_bytes w32 i.width ++ r1)
    ∙ ap (λ (a : Numbered). a >>= λ a. number_at w32 a.1 >>= λ b. number_at w32 b.1 >>= λ c. number_at w32 c.1 >>= λ d. number_at w8 d.1 >>= λ e. number_at w16 e.1 >>= λ f. informed a.0 b.0 c.0 d.0 e.0 f.0 f.1) (four-bytes i.width r1 is.width)
    ∙ ap (λ (b : Numbered). b >>= λ b. number_at w32 b.1 >>= λ c. number_at w32 c.1 >>= λ d. number_at w8 d.1 >>= λ e. number_at w16 e.1 >>= λ f. informed i.width b.0 c.0 d.0 e.0 f.0 f.1) (four-bytes i.height r2 is.height)
    ∙ ap (λ (c : Numbered). c >>= λ c. number_at w32 c.1 >>= λ d. number_at w8 d.1 >>= λ e. number_at w16 e.1 >>= λ f. informed i.width i.height c.0 d.0 e.0 f.0 f.1) (four-bytes x r3 (resolution-small i.x_resolution is.x_resolution))
    ∙ ap (λ (d : Numbered). d >>= λ d. number_at w8 d.1 >>= λ e. number_at w16 e.1 >>= λ f. informed i.width i.height x d.0 e.0 f.0 f.1) (four-bytes y r4 (resolution-small i.y_resolution is.y_resolution))
    ∙ ap (λ (e : Numbered). e >>= λ e. number_at w16 e.1 >>= λ f. informed i.width i.height x y e.0 f.0 f.1) (one-byte flags r5)
    ∙ ap (λ (f : Numbered). f >>= λ f. informed i.width i.height x y flags f.0 f.1) (two-bytes striping rest s.2)
    ∙ ap (λ (o : Option ℕ). made o (nonzero y) (flags_of flags) (eqb (striping / 32768) 1) (striping % 32768)) (resolution-back i.x_resolution is.x_resolution)
    ∙ ap (λ (o : Option ℕ). made i.x_resolution o (flags_of flags) (eqb (striping / 32768) 1) (striping % 32768)) (resolution-back i.y_resolution is.y_resolution)
    ∙ ap (λ (fl : PageFlags). made i.x_resolution i.y_resolution fl (eqb (striping / 32768) 1) (striping % 32768)) (page-flags-read i.flags is.operator)
    ∙ ap (λ (b : Bool). made i.x_resolution i.y_resolution i.flags b (striping % 32768)) s.0
    ∙ ap (λ (m : ℕ). made i.x_resolution i.y_resolution i.flags i.striping.is_striped m) s.1
