-- Files in sequential organisation are read back.
use Rattle.std.proofs.Common.{◌≡◌, ℕ, ◌+◌, ◌*◌, ◌/◌, ◌%◌, ◌<◌, eqb, ltb, Bool, cond, not, List, ◌∷◌, ◌++◌, length, Option, Some, None, Result, Ok, Err, refl, ◌∙◌, ap, arith, le-ltb}
use Rattle.std.specs.List.{flat_map}
use Rattle.std.specs.Int.{w8}
use Rattle.std.specs.Str.{bytes_eq}
use Rattle.std.specs.Prelude.{is_none}
use Rattle.std.proofs.lemmas.Bool.{cond-false}
use Rattle.jbig2_base.specs.Results.{◌>>=◌, refuse_if}
use Rattle.jbig2_base.specs.Fields.{bytes_at, number_at, end_of_bytes}
use Rattle.jbig2_base.specs.Bits.{bit_number}
use Rattle.jbig2_framing.specs.File.{file_at, file_header_at, identification, page_count_at, segments_by}
use Rattle.jbig2_framing.specs.Segment.{SegmentView}
use Rattle.jbig2_framing.specs.Sequential.{by_number}
use Rattle.jbig2_base.specs.declared.error.DecodeError.{DecodeError}
use Rattle.jbig2_base.specs.declared.error.DecodeError.TheVariants.{Format}
use Rattle.jbig2_base.specs.declared.error.FormatError.TheVariants.{InvalidHeader, ReservedBits}
use Rattle.jbig2_framing.specs.declared.file_header.FileHeader.{FileHeader}
use Rattle.jbig2_framing.specs.declared.file_header.FileOrganization.{FileOrganization}
use Rattle.jbig2_framing.specs.declared.file_header.FileOrganization.TheVariants.{Sequential, RandomAccess}
use Rattle.jbig2_inverses.specs.SegmentWriter.{segment_bytes}
use Rattle.jbig2_inverses.specs.FileWriter.{FilesReadBack, IsPageCount, file_flags, file_header_bytes, is_sequential, page_count_bytes}
use Rattle.jbig2_inverses.proofs.GenericSegmentInverse.{Numbered, bit-back, bit-small, four-bytes, one-byte}
use Rattle.jbig2_inverses.proofs.SegmentInverse.{segments_read_back}

abbrev Headed : Type 0
Headed = Result (FileHeader × List ℕ) DecodeError

abbrev Counted : Type 0
Counted = Result (Option ℕ × List ℕ) DecodeError

-- the last fields, after these flags
abbrev counted : ℕ → Counted → Headed
counted flags pages =
    pages >>= λ p. Ok (
      record {
        organization = cond (eqb (flags % 2) 1) Sequential RandomAccess;
        number_of_pages = p.0;
        uses_extended_templates = eqb (flags / 4 % 2) 1;
        contains_coloured_regions = eqb (flags / 8 % 2) 1;
      },
      p.1,
    )

abbrev flagged : Numbered → Headed
flagged flags =
    flags >>= λ f. refuse_if (not (eqb (f.0 / 16) 0)) (Format ReservedBits) >>= λ clear. counted f.0 (page_count_at (eqb (f.0 / 2 % 2) 1) f.1)

header-is : (bytes : List ℕ) → file_header_at bytes
    ≡ (bytes_at 8 bytes >>= λ b. refuse_if (not (bytes_eq b.0 identification)) (Format InvalidHeader) >>= λ known. flagged (number_at w8 b.1))
unfolding file_header_at
header-is bytes = refl

identified : (rest : List ℕ) → bytes_at 8 (identification ++ rest) ≡ Ok (identification, rest)
identified rest =
    let bytes = identification ++ rest in
    let done : Result (List ℕ × List ℕ) DecodeError = Ok (identification, rest) in
    cond-false (ltb (length bytes) 8) (Err end_of_bytes) done (le-ltb (length bytes) 8 (omega arith))

-- the flags are four bits
record AreBits (a b c d flags : ℕ) : Type 0 where
  clear : flags / 16 ≡ 0
  organization : flags % 2 ≡ a
  unknown : flags / 2 % 2 ≡ b
  extended : flags / 4 % 2 ≡ c
  coloured : flags / 8 % 2 ≡ d

bits-read : (a b c d : ℕ) → a < 2 → b < 2 → c < 2 → d < 2 → AreBits a b c d (a + 2 * b + 4 * c + 8 * d)
bits-read a b c d is_a is_b is_c is_d = record {
  clear = omega (arith, is_a, is_b, is_c, is_d);
  organization = omega (arith, is_a, is_b, is_c, is_d);
  unknown = omega (arith, is_a, is_b, is_c, is_d);
  extended = omega (arith, is_a, is_b, is_c, is_d);
  coloured = omega (arith, is_a, is_b, is_c, is_d);
}

organization-back : (o : FileOrganization) → cond (eqb (bit_number (is_sequential o)) 1) Sequential RandomAccess ≡ o
organization-back Sequential = refl
organization-back RandomAccess = refl

count-back : (n : Option ℕ) (rest : List ℕ) → IsPageCount n → page_count_at (is_none n) (page_count_bytes n ++ rest) ≡ Ok (n, rest)
count-back None rest is = refl
count-back (Some n) rest is = ap (λ (r : Numbered). let counted : Numbered → Counted = λ r. r >>= λ c. Ok (Some c.0, c.1) in counted r) (four-bytes n rest is)

pub header-read : (h : FileHeader) (rest : List ℕ) → IsPageCount h.number_of_pages → file_header_at (file_header_bytes h ++ rest) ≡ Ok (h, rest)
unfolding file_header_bytes
header-read h rest is =
    let sequential = is_sequential h.organization in
    let unknown = is_none h.number_of_pages in
    let f = bits-read (bit_number sequential) (bit_number unknown) (bit_number h.uses_extended_templates) (bit_number h.contains_coloured_regions) (bit-small sequential) (bit-small unknown) (bit-small h.uses_extended_templates) (bit-small h.contains_coloured_regions) in
    let flags = file_flags h in
    let after = page_count_bytes h.number_of_pages ++ rest in
    let made : FileOrganization → Option ℕ → Bool → Bool → Headed = λ o n extended coloured. Ok (record { organization = o; number_of_pages = n; uses_extended_templates = extended; contains_coloured_regions = coloured }, rest) in
    header-is (identification ++ (flags ∷ after))
    ∙ ap (λ (r : Result (List ℕ × List ℕ) DecodeError). r >>= λ b. refuse_if (not (bytes_eq b.0 identification)) (Format InvalidHeader) >>= λ known. flagged (number_at w8 b.1)) (identified (flags ∷ after))
    ∙ ap flagged (one-byte flags after)
    ∙ ap (λ (n : ℕ). refuse_if (not (eqb n 0)) (Format ReservedBits) >>= λ clear. counted flags (page_count_at (eqb (flags / 2 % 2) 1) after)) f.clear
    ∙ ap (λ (n : ℕ). counted flags (page_count_at (eqb n 1) after)) f.unknown
    ∙ ap (λ (b : Bool). counted flags (page_count_at b after)) (bit-back unknown)
    ∙ ap (λ (r : Counted). counted flags r) (count-back h.number_of_pages rest is)
    ∙ ap (λ (n : ℕ). made (cond (eqb n 1) Sequential RandomAccess) h.number_of_pages (eqb (flags / 4 % 2) 1) (eqb (flags / 8 % 2) 1)) f.organization
    ∙ ap (λ (o : FileOrganization). made o h.number_of_pages (eqb (flags / 4 % 2) 1) (eqb (flags / 8 % 2) 1)) (organization-back h.organization)
    ∙ ap (λ (n : ℕ). made h.organization h.number_of_pages (eqb n 1) (eqb (flags / 8 % 2) 1)) f.extended
    ∙ ap (λ (b : Bool). made h.organization h.number_of_pages b (eqb (flags / 8 % 2) 1)) (bit-back h.uses_extended_templates)
    ∙ ap (λ (n : ℕ). made h.organization h.number_of_pages h.uses_extended_templates (eqb n 1)) f.coloured
    ∙ ap (λ (b : Bool). made h.organization h.number_of_pages h.uses_extended_templates b) (bit-back h.contains_coloured_regions)

pub files_read_back : FilesReadBack
unfolding file_at
files_read_back reading h ps sequential count are =
    let segments = flat_map segment_bytes ps in
    let sorted : Result (List SegmentView) DecodeError → Result (FileHeader × List SegmentView) DecodeError = λ r. r >>= λ qs. Ok (h, by_number qs) in
    ap (λ (r : Headed). r >>= λ x. segments_by x.0.organization reading x.1 >>= λ qs. Ok (x.0, by_number qs)) (header-read h segments count)
    ∙ ap (λ (o : FileOrganization). sorted (segments_by o reading segments)) sequential
    ∙ ap sorted (segments_read_back reading ps are)
