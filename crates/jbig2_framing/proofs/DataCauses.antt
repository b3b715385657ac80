-- Which rule the data of a segment breaks.
use Rattle.std.proofs.Common.{◌≡◌, ℕ, ◌+◌, ◌-◌, ◌%◌, ◌<◌, ◌≤◌, eqb, leb, ltb, Bool, true, false, cond, List, [], ◌∷◌, take, drop, length, Option, Some, None, Result, Ok, Err, sym, ◌∙◌, ap, arith, length-drop}
use Rattle.std.specs.Prelude.{◌≢◌, ◌&&◌, slice_index, IfErr}
use Rattle.std.specs.Int.{w8}
use Rattle.std.proofs.lemmas.Bool.{cond_both, and_from, and_parts, eq-eqb, le-leb, leb-true, ltb-true, ltb-false, true≢false}
use Rattle.std.proofs.lemmas.List.{drop-drop}
use Rattle.jbig2_base.specs.Causes.{HasCause, number_in}
use Rattle.jbig2_framing.specs.Causes.{BreaksData}
use Rattle.jbig2_base.specs.Fields.{bytes_at, end_of_bytes}
use Rattle.jbig2_base.specs.Search.{place_from}
use Rattle.jbig2_framing.specs.Segment.{adaptive_byte_count, data_at, first_end_marker, is_end_marker, unknown_length_of}
use Rattle.jbig2_base.specs.declared.error.DecodeError.{DecodeError}
use Rattle.jbig2_base.specs.declared.error.DecodeError.TheVariants.{Segment}
use Rattle.jbig2_base.specs.declared.error.SegmentError.TheVariants.{MissingEndMarker}
use Rattle.jbig2_base.proofs.Causes.{cause-bytes}
use Rattle.jbig2_base.proofs.CauseSteps.{call-cause, IfResult, result-cause, result-next, next-bytes, next-number}
use Rattle.jbig2_base.proofs.SearchLemmas.{place-found, place-none}

-- ---- the end marker
-- the two bytes of the end marker, by a generic region's flags
abbrev end_marker : ℕ → List ℕ
end_marker flags = cond (eqb (flags % 2) 1) (0 ∷ 0 ∷ []) (255 ∷ 172 ∷ [])

-- the place after a generic region's fields
abbrev coded_place : List ℕ → ℕ
coded_place bytes = 18 + adaptive_byte_count (number_in w8 17 bytes)

marker-by : (mmr : Bool) (a b : ℕ) → a ∷ b ∷ [] ≡ cond mmr (0 ∷ 0 ∷ []) (255 ∷ 172 ∷ []) → cond mmr (eqb a 0 && eqb b 0) (eqb a 255 && eqb b 172) ≡ true
marker-by true a b same = and_from (eqb a 0) (eqb b 0) (eq-eqb a 0 (ap (λ (l : List ℕ). slice_index l 0) same)) (eq-eqb b 0 (ap (λ (l : List ℕ). slice_index l 1) same))
marker-by false a b same = and_from (eqb a 255) (eqb b 172) (eq-eqb a 255 (ap (λ (l : List ℕ). slice_index l 0) same)) (eq-eqb b 172 (ap (λ (l : List ℕ). slice_index l 1) same))

marker-there : (flags : ℕ) (bytes : List ℕ) → 6 ≤ length bytes → take 2 bytes ≡ end_marker flags → is_end_marker flags bytes ≡ true
marker-there flags [] room same = absurd (omega (arith, room))
marker-there flags (a ∷ []) room same = absurd (omega (arith, room))
marker-there flags (a ∷ b ∷ rest) room same =
    let mmr : Bool = eqb (flags % 2) 1 in
    and_from (leb 6 (length (a ∷ b ∷ rest))) (cond mmr (eqb a 0 && eqb b 0) (eqb a 255 && eqb b 172)) (le-leb 6 (length (a ∷ b ∷ rest)) room) (marker-by mmr a b same)

marker-result : (P : DecodeError → Type 0) (flags : ℕ) (rest : List ℕ) → (((k : ℕ) → k < length rest → is_end_marker flags (drop k rest) ≡ false) → P (Segment MissingEndMarker))
    → IfResult (λ (place : ℕ). place + 6 ≤ length rest) P (first_end_marker flags rest)
marker-result P flags rest why =
    let test : ℕ → Bool = λ k. is_end_marker flags (drop k rest) in
    let place : ℕ = place_from test 0 (length rest) in
    let Q : Result ℕ DecodeError → Type 0 = λ r. IfResult (λ (p : ℕ). p + 6 ≤ length rest) P r in
    cond_both (ltb place (length rest)) (Ok place) (Err (Segment MissingEndMarker)) Q
    (λ inside.
    let found : test place ≡ true = place-found test (length rest) (ltb-true place (length rest) inside) in
    let room : 6 ≤ length (drop place rest) = leb-true 6 (length (drop place rest)) (and_parts (leb 6 (length (drop place rest))) _ found).0 in
    omega (arith, room, length-drop place rest))
    (λ past. why (λ k below. place-none test (length rest) k (ltb-false place (length rest) past) below))

no-marker : (bytes : List ℕ) (flags place : ℕ) → ((k : ℕ) → k < length (drop place bytes) → is_end_marker flags (drop k (drop place bytes)) ≡ false)
    → (k : ℕ) → place ≤ k → k + 6 ≤ length bytes → take 2 (drop k bytes) ≢ end_marker flags
no-marker bytes flags place none k after room = λ same.
    let there : is_end_marker flags (drop k bytes) ≡ true = marker-there flags (drop k bytes) (omega (arith, room, length-drop k bytes)) same in
    let beyond : drop (k - place) (drop place bytes) ≡ drop k bytes = drop-drop (k - place) place bytes ∙ ap (λ (m : ℕ). drop m bytes) (omega (arith, after)) in
    true≢false (sym there ∙ ap (λ (ys : List ℕ). is_end_marker flags ys) (sym beyond) ∙ none (k - place) (omega (arith, length-drop place bytes, after, room)))

pub unknown-result : (P : DecodeError → Type 0) (bytes : List ℕ) → ((e : DecodeError) → BreaksData None bytes e → P e) → IfResult (λ (n : ℕ). n ≤ length bytes) P (unknown_length_of bytes)
unfolding unknown_length_of
unknown-result P bytes why =
    let flags : ℕ = number_in w8 17 bytes in
    let place : ℕ = coded_place bytes in
    let R : ℕ → Type 0 = λ n. n ≤ length bytes in
    let short : length bytes < place → P end_of_bytes = λ cut. why end_of_bytes cut in
    next-bytes R P 17 bytes 0 _ (omega arith) (λ cut. short (omega (arith, cut))) (λ at_flags.
    next-number R P w8 bytes 17 _ at_flags (λ cut. short (omega (arith, cut))) (λ at_pixels.
    next-bytes R P (adaptive_byte_count flags) bytes 18 _ at_pixels short (λ at_coded.
    result-next (λ (p : ℕ). p + 6 ≤ length (drop place bytes)) R P (first_end_marker flags (drop place bytes)) _
    (marker-result P flags (drop place bytes) (λ none. why (Segment MissingEndMarker) (no-marker bytes flags place none))) (λ p fits.
    omega (arith, fits, at_coded, length-drop place bytes)))))

pub unknown_cause : {X : Type 0} (bytes : List ℕ) (r : Result X DecodeError) → IfErr r (λ e. unknown_length_of bytes ≡ Err e) → HasCause r (BreaksData None bytes)
unknown_cause bytes r =
    let P : DecodeError → Type 0 = BreaksData None bytes in
    call-cause P (unknown_length_of bytes) r (result-cause (λ (n : ℕ). n ≤ length bytes) P (unknown_length_of bytes) (unknown-result P bytes (λ e why. why)))

-- ---- data and segments
there-result : (P : DecodeError → Type 0) (n : ℕ) (bytes : List ℕ) → n ≤ length bytes → IfResult (λ (x : List ℕ × List ℕ). Unit {0}) P (bytes_at n bytes)
there-result P n bytes fits =
    let Q : Result (List ℕ × List ℕ) DecodeError → Type 0 = λ r. IfResult (λ (x : List ℕ × List ℕ). Unit {0}) P r in
    cond_both (ltb (length bytes) n) (Err end_of_bytes) (Ok (take n bytes, drop n bytes)) Q (λ short. absurd (omega (arith, fits, ltb-true (length bytes) n short))) (λ whole. tt)

data-cause : (P : DecodeError → Type 0) (n : Option ℕ) (bytes : List ℕ) → ((e : DecodeError) → BreaksData n bytes e → P e) → IfErr (data_at n bytes) P
data-cause P (Some n) bytes why = cause-bytes P n bytes (λ short. why end_of_bytes short)
data-cause P None bytes why =
    let R : List ℕ × List ℕ → Type 0 = λ x. Unit {0} in
    result-cause R P (data_at None bytes) (result-next (λ (n : ℕ). n ≤ length bytes) R P (unknown_length_of bytes) _ (unknown-result P bytes why) (λ n fits. there-result P n bytes fits))

pub data_cause : {X : Type 0} (n : Option ℕ) (bytes : List ℕ) (r : Result X DecodeError) → IfErr r (λ e. data_at n bytes ≡ Err e) → HasCause r (BreaksData n bytes)
data_cause n bytes r = call-cause (BreaksData n bytes) (data_at n bytes) r (data-cause (BreaksData n bytes) n bytes (λ e why. why))
