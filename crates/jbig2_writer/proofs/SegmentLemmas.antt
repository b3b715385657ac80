-- The bytes of segments and of a file header, as they are added part by part.
use Rattle.std.proofs.Common.{◌≡◌, ℕ, ◌+◌, ◌*◌, false, List, [], ◌∷◌, ◌++◌, length, refl, sym, ◌∙◌, ap, arith, append_assoc}
use Rattle.std.specs.List.{flat_map}
use Rattle.std.specs.Int.{w32, to_be_bytes}
use Rattle.jbig2_inverses.specs.FileWriter.{file_header_bytes}
use Rattle.jbig2_inverses.specs.GenericSegmentWriter.{adaptive_bytes, generic_bytes, info_bytes, template_number}
use Rattle.jbig2_page_inverse.specs.PageFile.{file_header}
use Rattle.jbig2_writer.specs.declared.settings.WriteSettings.{WriteSettings}
use Rattle.jbig2_writer.specs.Written.{adaptive_of, is_mmr, template_of, typical_of}
use Rattle.jbig2_writer.specs.inner.Segments.{page_information, region_data, segment_of}
use Rattle.jbig2_base.specs.Bits.{bit_number}

-- three parts that are added one after another
three : (old a b c ra rb rc : List ℕ) → ra ≡ old ++ a → rb ≡ ra ++ b → rc ≡ rb ++ c → rc ≡ old ++ (a ++ (b ++ c))
three old a b c ra rb rc is_a is_b is_c =
    is_c ∙ ap (λ (l : List ℕ). l ++ c) (is_b ∙ ap (λ (l : List ℕ). l ++ b) is_a)
    ∙ append_assoc (old ++ a) b c ∙ append_assoc old a (b ++ c)

pub information-added : (old ra rb rc rd re a b c d : List ℕ) (width height x y : ℕ) → a ≡ to_be_bytes w32 width → b ≡ to_be_bytes w32 height → c ≡ to_be_bytes w32 x → d ≡ to_be_bytes w32 y
    → ra ≡ old ++ a → rb ≡ ra ++ b → rc ≡ rb ++ c → rd ≡ rc ++ d → re ≡ rd ++ 1 ∷ 0 ∷ 0 ∷ [] → re ≡ old ++ page_information width height x y
unfolding page_information
information-added old ra rb rc rd re a b c d width height x y is_a is_b is_c is_d first second third fourth fifth =
    let rest : List ℕ = 1 ∷ 0 ∷ 0 ∷ [] in
    three rb c d rest rc rd re third fourth fifth
    ∙ three old a b (c ++ (d ++ rest)) ra rb _ first second refl
    ∙ (λ i. old ++ (is_a i ++ (is_b i ++ (is_c i ++ (is_d i ++ rest)))))

pub segment-added : (old ra rb rc rd re a c d segment_data : List ℕ) (number kind page size : ℕ) → a ≡ to_be_bytes w32 number → c ≡ to_be_bytes w32 page → d ≡ to_be_bytes w32 size → size ≡ length segment_data
    → ra ≡ old ++ a → rb ≡ ra ++ (kind + 64) ∷ 0 ∷ [] → rc ≡ rb ++ c → rd ≡ rc ++ d → re ≡ rd ++ segment_data → re ≡ old ++ segment_of number kind page segment_data
unfolding segment_of
segment-added old ra rb rc rd re a c d segment_data number kind page size is_a is_c is_d is_size first second third fourth fifth =
    let flags : List ℕ = (kind + 64) ∷ 0 ∷ [] in
    three rb c d segment_data rc rd re third fourth fifth
    ∙ ap (λ (l : List ℕ). rb ++ (l ++ (d ++ segment_data))) is_c
    ∙ ap (λ (l : List ℕ). rb ++ (to_be_bytes w32 page ++ (l ++ segment_data))) (is_d ∙ ap (λ (n : ℕ). to_be_bytes w32 n) is_size)
    ∙ three old a flags (to_be_bytes w32 page ++ (to_be_bytes w32 (length segment_data) ++ segment_data)) ra rb _ first second refl
    ∙ ap (λ (l : List ℕ). old ++ (l ++ (flags ++ (to_be_bytes w32 page ++ (to_be_bytes w32 (length segment_data) ++ segment_data))))) is_a

pub header-is : file_header_bytes (file_header false) ≡ 0x97 ∷ 0x4A ∷ 0x42 ∷ 0x32 ∷ 0x0D ∷ 0x0A ∷ 0x1A ∷ 0x0A ∷ 1 ∷ 0 ∷ 0 ∷ 0 ∷ 1 ∷ []
unfolding file_header_bytes
header-is = refl

data-is : (s : WriteSettings) (width height flags : ℕ) (coded : List ℕ) → flags ≡ bit_number (is_mmr s.coding) + 2 * template_number (template_of s.coding) + 8 * bit_number (typical_of s.coding)
    → region_data s width height coded ≡ to_be_bytes w32 width ++ (to_be_bytes w32 height ++ ((0 ∷ 0 ∷ 0 ∷ 0 ∷ 0 ∷ 0 ∷ 0 ∷ 0 ∷ 0 ∷ []) ++ ((flags ∷ []) ++ (flat_map adaptive_bytes (adaptive_of s.coding) ++ coded))))
unfolding generic_bytes info_bytes
data-is s width height flags coded is =
    let same : bit_number (is_mmr s.coding) + 2 * template_number (template_of s.coding) + 8 * bit_number (typical_of s.coding) + 0 ≡ flags = omega (arith, is) in
    ap (λ (n : ℕ). to_be_bytes w32 width ++ (to_be_bytes w32 height ++ ((0 ∷ 0 ∷ 0 ∷ 0 ∷ 0 ∷ 0 ∷ 0 ∷ 0 ∷ 0 ∷ []) ++ ((n ∷ []) ++ (flat_map adaptive_bytes (adaptive_of s.coding) ++ coded))))) same

pub region-added : (old ra rb rc rd re rf a b e coded : List ℕ) (s : WriteSettings) (width height flags : ℕ) → a ≡ to_be_bytes w32 width → b ≡ to_be_bytes w32 height
    → flags ≡ bit_number (is_mmr s.coding) + 2 * template_number (template_of s.coding) + 8 * bit_number (typical_of s.coding) → e ≡ flat_map adaptive_bytes (adaptive_of s.coding)
    → ra ≡ old ++ a → rb ≡ ra ++ b → rc ≡ rb ++ 0 ∷ 0 ∷ 0 ∷ 0 ∷ 0 ∷ 0 ∷ 0 ∷ 0 ∷ 0 ∷ [] → rd ≡ rc ++ flags ∷ [] → re ≡ rd ++ e → rf ≡ re ++ coded
    → rf ≡ old ++ region_data s width height coded
region-added old ra rb rc rd re rf a b e coded s width height flags is_a is_b is_flags is_e first second third fourth fifth sixth =
    let corner : List ℕ = 0 ∷ 0 ∷ 0 ∷ 0 ∷ 0 ∷ 0 ∷ 0 ∷ 0 ∷ 0 ∷ [] in
    let adaptive : List ℕ = flat_map adaptive_bytes (adaptive_of s.coding) in
    let end : List ℕ = (flags ∷ []) ++ (adaptive ++ coded) in
    three rc (flags ∷ []) e coded rd re rf fourth fifth sixth
    ∙ ap (λ (l : List ℕ). rc ++ ((flags ∷ []) ++ (l ++ coded))) is_e
    ∙ ap (λ (l : List ℕ). l ++ end) (three old a b corner ra rb rc first second third)
    ∙ append_assoc old (a ++ (b ++ corner)) end
    ∙ ap (λ (l : List ℕ). old ++ l) (append_assoc a (b ++ corner) end ∙ ap (λ (l : List ℕ). a ++ l) (append_assoc b corner end))
    ∙ ap (λ (l : List ℕ). old ++ (l ++ (b ++ (corner ++ end)))) is_a
    ∙ ap (λ (l : List ℕ). old ++ (to_be_bytes w32 width ++ (l ++ (corner ++ end)))) is_b
    ∙ ap (λ (l : List ℕ). old ++ l) (sym (data-is s width height flags coded is_flags))
