-- The data of a generic region segment is read back.
use Rattle.std.proofs.Common.{◌≡◌, ℕ, zero, suc, ◌+◌, ◌-◌, ◌*◌, ◌/◌, ◌%◌, ◌^◌, ◌<◌, ◌≤◌, eqb, ltb, Bool, true, false, not, List, [], ◌∷◌, ◌++◌, length, ℤ, pos, negsuc, Result, Ok, Err, refl, ◌∙◌, ap, arith, lt-ltb, le-ltb}
use Rattle.std.specs.List.{flat_map}
use Rattle.std.specs.Int.{w8, w32, to_be_bytes, from_be_bytes, cast_signed}
use Rattle.std.proofs.lemmas.Bool.{cond-true, cond-false, or_from}
use Rattle.std.proofs.lemmas.Nat.{from_be_bytes-to_be_bytes_4}
use Rattle.jbig2_base.specs.Results.{◌>>=◌, refuse_if}
use Rattle.jbig2_base.specs.Fields.{number_at, signed_at, end_of_bytes}
use Rattle.jbig2_base.specs.Grid.{max_side, check_sides}
use Rattle.jbig2_base.specs.Combination.{operator_of}
use Rattle.jbig2_base.specs.Bits.{bit_number}
use Rattle.jbig2_base.specs.declared.bitmap.operator.CombinationOperator.{CombinationOperator}
use Rattle.jbig2_base.specs.declared.bitmap.operator.CombinationOperator.TheVariants.{Or, And, Xor, Xnor, Replace}
use Rattle.jbig2_base.specs.declared.error.DecodeError.{DecodeError}
use Rattle.jbig2_base.specs.declared.error.DecodeError.TheVariants.{Unsupported}
use Rattle.jbig2_base.specs.declared.error.OverflowError.TheVariants.{BitmapDimension}
use Rattle.jbig2_base.specs.declared.error.TemplateError.TheVariants.{InvalidAtPixel}
use Rattle.jbig2_base.specs.declared.error.DecodeError.TheVariants as errors
use Rattle.jbig2_region.specs.declared.region_info.RegionSegmentInfo.{RegionSegmentInfo}
use Rattle.jbig2_region.specs.declared.template.AdaptiveTemplatePixel.{AdaptiveTemplatePixel}
use Rattle.jbig2_region.specs.declared.template.Template.{Template}
use Rattle.jbig2_region.specs.declared.template.Template.TheVariants.{Template0, Template1, Template2, Template3}
use Rattle.jbig2_region.specs.RegionInfo.{region_info_at}
use Rattle.jbig2_region.specs.GenericHeader.{GenericHeader, rows_at, generic_header_at}
use Rattle.jbig2_region.specs.Templates.{adaptive_pixel_count, adaptive_pixel_at, adaptive_pixels_at, is_earlier, takes_extended, template_of}
use Rattle.jbig2_inverses.specs.GenericSegmentWriter.{template_number, info_bytes, generic_flags, signed_byte, adaptive_bytes, generic_bytes, IsSignedByte, AreAdaptive, IsHeader, GenericSegmentsReadBack}
use Rattle.jbig2_inverses.specs.SegmentWriter.{operator_number}

-- ---- numbers
abbrev pub Numbered : Type 0
Numbered = Result (ℕ × List ℕ) DecodeError

pub four-bytes : (n : ℕ) (rest : List ℕ) → n < 2 ^ 32 → number_at w32 (to_be_bytes w32 n ++ rest) ≡ Ok (n, rest)
four-bytes n rest small =
    let bytes = to_be_bytes w32 n ++ rest in
    let done : Numbered = Ok (from_be_bytes w32 (to_be_bytes w32 n), rest) in
    cond-false (ltb (length bytes) 4) (Err end_of_bytes) done (le-ltb (length bytes) 4 (omega arith))
    ∙ ap (λ (m : ℕ). Ok (m, rest)) (from_be_bytes-to_be_bytes_4 n small)

pub one-byte : (b : ℕ) (rest : List ℕ) → number_at w8 (b ∷ rest) ≡ Ok (b, rest)
one-byte b rest =
    let done : Numbered = Ok (b, rest) in
    cond-false (ltb (length (b ∷ rest)) 1) (Err end_of_bytes) done (le-ltb (length (b ∷ rest)) 1 (omega arith))

-- ---- region information
abbrev Info : Type 0
Info = Result (RegionSegmentInfo × List ℕ) DecodeError

abbrev last_field : ℕ → ℕ → ℕ → ℕ → ℕ → List ℕ → Info
last_field width height x y flags rest =
    operator_of (flags % 8) >>= λ operator. refuse_if (eqb (flags / 8 % 2) 1) Unsupported >>= λ plain.
    Ok (record { width = width; height = height; x_location = x; y_location = y; combination_operator = operator }, rest)

info-is : (bytes : List ℕ) → region_info_at bytes
    ≡ (number_at w32 bytes >>= λ a. number_at w32 a.1 >>= λ b. number_at w32 b.1 >>= λ c. number_at w32 c.1 >>= λ d. number_at w8 d.1 >>= λ f. last_field a.0 b.0 c.0 d.0 f.0 f.1)
unfolding region_info_at
info-is bytes = refl

operator-read : (width height x y : ℕ) (operator : CombinationOperator) (rest : List ℕ)
    → last_field width height x y (operator_number operator) rest ≡ Ok (record { width = width; height = height; x_location = x; y_location = y; combination_operator = operator }, rest)
operator-read width height x y Or rest = refl
operator-read width height x y And rest = refl
operator-read width height x y Xor rest = refl
operator-read width height x y Xnor rest = refl
operator-read width height x y Replace rest = refl

info-read : (info : RegionSegmentInfo) (rest : List ℕ) → info.width ≤ max_side → info.height ≤ max_side → info.x_location < 2 ^ 32 → info.y_location < 2 ^ 32
    → region_info_at (info_bytes info ++ rest) ≡ Ok (info, rest)
unfolding info_bytes
info-read info rest columns rows left top =
    let flags = operator_number info.combination_operator in
    let r4 = flags ∷ rest in
    let r3 = to_be_bytes w32 info.y_location ++ r4 in
    let r2 = to_be_bytes w32 info.x_location ++ r3 in
    let r1 = to_be_bytes w32 info.height ++ r2 in
    info-is (to_be_bytes w32 info.width ++ r1)
    ∙ ap (λ (a : Numbered). a >>= λ a. number_at w32 a.1 >>= λ b. number_at w32 b.1 >>= λ c. number_at w32 c.1 >>= λ d. number_at w8 d.1 >>= λ f. last_field a.0 b.0 c.0 d.0 f.0 f.1) (four-bytes info.width r1 (omega (arith, columns)))
    ∙ ap (λ (b : Numbered). b >>= λ b. number_at w32 b.1 >>= λ c. number_at w32 c.1 >>= λ d. number_at w8 d.1 >>= λ f. last_field info.width b.0 c.0 d.0 f.0 f.1) (four-bytes info.height r2 (omega (arith, rows)))
    ∙ ap (λ (c : Numbered). c >>= λ c. number_at w32 c.1 >>= λ d. number_at w8 d.1 >>= λ f. last_field info.width info.height c.0 d.0 f.0 f.1) (four-bytes info.x_location r3 left)
    ∙ ap (λ (d : Numbered). d >>= λ d. number_at w8 d.1 >>= λ f. last_field info.width info.height info.x_location d.0 f.0 f.1) (four-bytes info.y_location r4 top)
    ∙ ap (λ (f : Numbered). f >>= λ f. last_field info.width info.height info.x_location info.y_location f.0 f.1) (one-byte flags rest)
    ∙ operator-read info.width info.height info.x_location info.y_location info.combination_operator rest

-- ---- adaptive pixels
byte-back : (z : ℤ) → IsSignedByte z → cast_signed w8 (signed_byte z) ≡ z
byte-back (pos n) small = cond-true (ltb n 128) (pos n) (negsuc (256 - suc n)) (lt-ltb n 128 small)
byte-back (negsuc n) small =
    let m = 255 - n in
    cond-false (ltb m 128) (pos m) (negsuc (256 - suc m)) (le-ltb m 128 (omega (arith, small))) ∙ ap negsuc (let e : 256 - suc m ≡ n = omega (arith, small) in e)

abbrev Signed : Type 0
Signed = Result (ℤ × List ℕ) DecodeError

signed-read : (z : ℤ) (rest : List ℕ) → IsSignedByte z → signed_at w8 (signed_byte z ∷ rest) ≡ Ok (z, rest)
signed-read z rest small =
    ap (λ (r : Numbered). r >>= λ n. let made : Signed = Ok (cast_signed w8 n.0, n.1) in made) (one-byte (signed_byte z) rest) ∙ ap (λ (y : ℤ). Ok (y, rest)) (byte-back z small)

abbrev Pixel : Type 0
Pixel = Result (AdaptiveTemplatePixel × List ℕ) DecodeError

adaptive-read : (p : AdaptiveTemplatePixel) (rest : List ℕ) → is_earlier p ≡ true → IsSignedByte p.x → IsSignedByte p.y → adaptive_pixel_at (adaptive_bytes p ++ rest) ≡ Ok (p, rest)
unfolding adaptive_pixel_at
adaptive-read p rest earlier x y =
    let checked : Pixel → Pixel = λ r. r >>= λ q. refuse_if (not (is_earlier q.0)) (errors.Template InvalidAtPixel) >>= λ e. Ok (q.0, q.1) in
    ap (λ (r : Signed). checked (r >>= λ a. signed_at w8 a.1 >>= λ b. Ok (record { x = a.0; y = b.0 }, b.1))) (signed-read p.x (signed_byte p.y ∷ rest) x)
    ∙ ap (λ (r : Signed). checked (r >>= λ b. Ok (record { x = p.x; y = b.0 }, b.1))) (signed-read p.y rest y)
    ∙ ap (λ (t : Bool). refuse_if (not t) (errors.Template InvalidAtPixel) >>= λ e. Ok (p, rest)) earlier

abbrev Pixels : Type 0
Pixels = Result (List AdaptiveTemplatePixel × List ℕ) DecodeError

adaptives-read : (ps : List AdaptiveTemplatePixel) (count : ℕ) (rest : List ℕ) → length ps ≡ count → AreAdaptive ps → adaptive_pixels_at count (flat_map adaptive_bytes ps ++ rest) ≡ Ok (ps, rest)
adaptives-read [] zero rest e are = refl
adaptives-read [] (suc count) rest e are = absurd (omega (arith, e))
adaptives-read (p ∷ ps) zero rest e are = absurd (omega (arith, e))
adaptives-read (p ∷ ps) (suc count) rest e are =
    let more = flat_map adaptive_bytes ps ++ rest in
    ap (λ (r : Pixel). r >>= λ a. adaptive_pixels_at count a.1 >>= λ b. Ok (a.0 ∷ b.0, b.1)) (adaptive-read p more are.0 are.1 are.2)
    ∙ ap (λ (r : Pixels). r >>= λ b. Ok (p ∷ b.0, b.1)) (adaptives-read ps count rest (omega (arith, e)) are.3)

-- ---- flags
pub bit-back : (b : Bool) → eqb (bit_number b) 1 ≡ b
bit-back true = refl
bit-back false = refl

pub bit-small : (b : Bool) → bit_number b < 2
bit-small true = omega arith
bit-small false = omega arith

template-back : (t : Template) → template_of (template_number t) ≡ t
template-back Template0 = refl
template-back Template1 = refl
template-back Template2 = refl
template-back Template3 = refl

template-small : (t : Template) → template_number t < 4
template-small Template0 = omega arith
template-small Template1 = omega arith
template-small Template2 = omega arith
template-small Template3 = omega arith

record Flags (h : GenericHeader) (flags : ℕ) : Type 0 where
  mmr : eqb (flags % 2) 1 ≡ h.mmr
  template : template_of (flags / 2 % 4) ≡ h.template
  tpgdon : eqb (flags / 8 % 2) 1 ≡ h.tpgdon
  extended : eqb (flags / 16 % 2) 1 ≡ h.extended

flags-read : (h : GenericHeader) → Flags h (generic_flags h)
flags-read h =
    let m = bit_number h.mmr in
    let t = template_number h.template in
    let d = bit_number h.tpgdon in
    let e = bit_number h.extended in
    let ms = bit-small h.mmr in
    let ts = template-small h.template in
    let ds = bit-small h.tpgdon in
    let es = bit-small h.extended in record {
      mmr = ap (λ (n : ℕ). eqb n 1) (field-0 m t d e ms) ∙ bit-back h.mmr;
      template = ap (λ (n : ℕ). template_of n) (field-1 m t d e ms ts) ∙ template-back h.template;
      tpgdon = ap (λ (n : ℕ). eqb n 1) (field-3 m t d e ms ts ds) ∙ bit-back h.tpgdon;
      extended = ap (λ (n : ℕ). eqb n 1) (field-4 m t d e ms ts ds es) ∙ bit-back h.extended;
    }
  where
    field-0 : (m t d e : ℕ) → m < 2 → (m + 2 * t + 8 * d + 16 * e) % 2 ≡ m
    field-0 m t d e ms = omega arith

    field-1 : (m t d e : ℕ) → m < 2 → t < 4 → (m + 2 * t + 8 * d + 16 * e) / 2 % 4 ≡ t
    field-1 m t d e ms ts = omega arith

    field-3 : (m t d e : ℕ) → m < 2 → t < 4 → d < 2 → (m + 2 * t + 8 * d + 16 * e) / 8 % 2 ≡ d
    field-3 m t d e ms ts ds = omega arith

    field-4 : (m t d e : ℕ) → m < 2 → t < 4 → d < 2 → e < 2 → (m + 2 * t + 8 * d + 16 * e) / 16 % 2 ≡ e
    field-4 m t d e ms ts ds es = omega arith

-- ---- the header
abbrev Header : Type 0
Header = Result (GenericHeader × List ℕ) DecodeError

-- the header from the fields of its flags on
abbrev by_fields : Bool → RegionSegmentInfo → Bool → Template → Bool → Bool → List ℕ → Header
by_fields strict info mmr template tpgdon extended rest =
    adaptive_pixels_at (adaptive_pixel_count mmr extended template) rest >>= λ p. rows_at false info.height p.1 >>= λ r. check_sides info.width r.0 >>= λ fits.
    Ok (record { region_info = record info { height = r.0 }; mmr = mmr; template = template; extended = takes_extended mmr extended template; tpgdon = tpgdon; adaptive_template_pixels = p.0; bytes = r.1; strict = strict }, p.1)

abbrev by_flags : Bool → RegionSegmentInfo → ℕ → List ℕ → Header
by_flags strict info flags rest = by_fields strict info (eqb (flags % 2) 1) (template_of (flags / 2 % 4)) (eqb (flags / 8 % 2) 1) (eqb (flags / 16 % 2) 1) rest

header-is : (strict : Bool) (bytes : List ℕ) → generic_header_at false strict bytes ≡ (region_info_at bytes >>= λ i. number_at w8 i.1 >>= λ f. by_flags strict i.0 f.0 f.1)
unfolding generic_header_at
header-is strict bytes = refl

pub sides-fit : (width height : ℕ) → width ≤ max_side → height ≤ max_side → check_sides width height ≡ Ok tt
sides-fit width height columns rows =
    ap (λ (t : Bool). refuse_if t (errors.Overflow BitmapDimension)) (or_from (ltb max_side width) (ltb max_side height) (le-ltb max_side width columns) (le-ltb max_side height rows))

fields-read : (h : GenericHeader) → IsHeader h → by_fields h.strict h.region_info h.mmr h.template h.tpgdon h.extended (flat_map adaptive_bytes h.adaptive_template_pixels ++ h.bytes) ≡ Ok (h, h.bytes)
unfolding rows_at
fields-read h is =
    let info = h.region_info in
    let ps = h.adaptive_template_pixels in
    let made : Bool → List AdaptiveTemplatePixel → List ℕ → Header = λ extended pixels rest.
    Ok (record { region_info = info; mmr = h.mmr; template = h.template; extended = extended; tpgdon = h.tpgdon; adaptive_template_pixels = pixels; bytes = rest; strict = h.strict }, rest) in
    ap (λ (r : Pixels). r >>= λ p. check_sides info.width info.height >>= λ fits. made (takes_extended h.mmr h.extended h.template) p.0 p.1) (adaptives-read ps (adaptive_pixel_count h.mmr h.extended h.template) h.bytes is.count is.pixels)
    ∙ ap (λ (r : Result (Unit {0}) DecodeError). r >>= λ fits. made (takes_extended h.mmr h.extended h.template) ps h.bytes) (sides-fit info.width info.height is.columns is.rows)
    ∙ ap (λ (t : Bool). made t ps h.bytes) is.extended

pub generic_segments_read_back : GenericSegmentsReadBack
unfolding generic_bytes
generic_segments_read_back h is =
    let flags = generic_flags h in
    let rest = flat_map adaptive_bytes h.adaptive_template_pixels ++ h.bytes in
    let info = h.region_info in
    let f = flags-read h in
    header-is h.strict (info_bytes info ++ (flags ∷ rest))
    ∙ ap (λ (r : Info). r >>= λ i. number_at w8 i.1 >>= λ n. by_flags h.strict i.0 n.0 n.1) (info-read info (flags ∷ rest) is.columns is.rows is.left is.top)
    ∙ ap (λ (r : Numbered). r >>= λ n. by_flags h.strict info n.0 n.1) (one-byte flags rest)
    ∙ ap (λ (t : Bool). by_fields h.strict info t (template_of (flags / 2 % 4)) (eqb (flags / 8 % 2) 1) (eqb (flags / 16 % 2) 1) rest) f.mmr
    ∙ ap (λ (t : Template). by_fields h.strict info h.mmr t (eqb (flags / 8 % 2) 1) (eqb (flags / 16 % 2) 1) rest) f.template
    ∙ ap (λ (t : Bool). by_fields h.strict info h.mmr h.template t (eqb (flags / 16 % 2) 1) rest) f.tpgdon
    ∙ ap (λ (t : Bool). by_fields h.strict info h.mmr h.template h.tpgdon t rest) f.extended
    ∙ fields-read h is
