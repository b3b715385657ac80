-- Lists that are worked out from the definitions alone.
use Rattle.std.proofs.Common.{◌≡◌, ℕ, ◌/◌, ◌%◌, ◌^◌, Bool, true, false, List, [], ◌∷◌, map, refl}
use Rattle.std.specs.Prelude.{◌==◌}
use Rattle.jbig2_coder.specs.QeTable.{rows, qe_row}
use Rattle.jbig2_coder.specs.Coder.{byte_at, byte_in, byte_in_if_empty, shift_left, renormd, initial_registers, likely_next, unlikely_next, choice, decision}
use Rattle.jbig2_coder.specs.Encoder.{initial_coding, eight_bits_out, seven_bits_out, byte_out, shift_once, renorme, narrowed_likely, narrowed_unlikely, narrowed_interval, encoding, set_bits, flush_coder, is_full, with_marker, with_context, encode_from, encoded_bytes, decoded_from, read_back}

encoded-none : encoded_bytes [] ≡ 0xFF ∷ 0x7F ∷ 0xFF ∷ 0xAC ∷ []
unfolding initial_coding eight_bits_out seven_bits_out byte_out set_bits flush_coder is_full with_marker encode_from encoded_bytes
encoded-none = refl

encoded-likely : encoded_bytes ((0, false) ∷ []) ≡ 0x7F ∷ 0xFF ∷ 0xAC ∷ []
unfolding initial_coding eight_bits_out seven_bits_out byte_out set_bits flush_coder is_full with_marker encode_from encoded_bytes rows qe_row likely_next unlikely_next shift_once renorme narrowed_likely narrowed_unlikely narrowed_interval encoding with_context
encoded-likely = refl

encoded-unlikely : encoded_bytes ((0, true) ∷ []) ≡ 0xFF ∷ 0x7F ∷ 0xFF ∷ 0xAC ∷ []
unfolding initial_coding eight_bits_out seven_bits_out byte_out set_bits flush_coder is_full with_marker encode_from encoded_bytes rows qe_row likely_next unlikely_next shift_once renorme narrowed_likely narrowed_unlikely narrowed_interval encoding with_context
encoded-unlikely = refl

-- T.88, H.2: the coded bytes, and the decisions of one context that they give, eight to a byte
annex_h_coded : List ℕ
annex_h_coded =
    0x84 ∷ 0xC7 ∷ 0x3B ∷ 0xFC ∷ 0xE1 ∷ 0xA1 ∷ 0x43 ∷ 0x04 ∷ 0x02 ∷ 0x20 ∷ 0x00 ∷ 0x00 ∷ 0x41 ∷ 0x0D ∷ 0xBB ∷ 0x86 ∷
    0xF4 ∷ 0x31 ∷ 0x7F ∷ 0xFF ∷ 0x88 ∷ 0xFF ∷ 0x37 ∷ 0x47 ∷ 0x1A ∷ 0xDB ∷ 0x6A ∷ 0xDF ∷ 0xFF ∷ 0xAC ∷ []

annex_h_bytes : List ℕ
annex_h_bytes =
    0x00 ∷ 0x02 ∷ 0x00 ∷ 0x51 ∷ 0x00 ∷ 0x00 ∷ 0x00 ∷ 0xC0 ∷ 0x03 ∷ 0x52 ∷ 0x87 ∷ 0x2A ∷ 0xAA ∷ 0xAA ∷ 0xAA ∷ 0xAA ∷
    0x82 ∷ 0xC0 ∷ 0x20 ∷ 0x00 ∷ 0xFC ∷ 0xD7 ∷ 0x9E ∷ 0xF6 ∷ 0xBF ∷ 0x7F ∷ 0xED ∷ 0x90 ∷ 0x4F ∷ 0x46 ∷ 0xA3 ∷ 0xBF ∷ []

bits : List ℕ → List Bool
bits [] = []
bits (n ∷ ns) =
    let bit : ℕ → Bool = λ k. n / 2 ^ k % 2 == 1 in
    bit 7 ∷ bit 6 ∷ bit 5 ∷ bit 4 ∷ bit 3 ∷ bit 2 ∷ bit 1 ∷ bit 0 ∷ bits ns

encoded-annex_h : encoded_bytes (map (λ d. (0, d)) (bits annex_h_bytes)) ≡ annex_h_coded
unfolding initial_coding eight_bits_out seven_bits_out byte_out set_bits flush_coder is_full with_marker encode_from encoded_bytes rows qe_row likely_next unlikely_next shift_once renorme narrowed_likely narrowed_unlikely narrowed_interval encoding with_context annex_h_coded annex_h_bytes bits
encoded-annex_h = refl

decoded-annex_h : read_back annex_h_coded (map (λ _. 0) (bits annex_h_bytes)) ≡ bits annex_h_bytes
unfolding byte_at byte_in byte_in_if_empty shift_left renormd initial_registers likely_next unlikely_next choice decision rows qe_row with_context decoded_from read_back annex_h_coded annex_h_bytes bits
decoded-annex_h = refl
