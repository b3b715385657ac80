-- Which rule the bytes of a file header break where they are refused.
use Rattle.std.proofs.Common.{◌≡◌, ℕ, Some, ◌+◌, ◌<◌, ◌≤◌, ◌/◌, ◌%◌, eqb, Bool, true, false, cond, not, List, take, drop, length, Result, Ok, Err, refl, sym, ◌∙◌, ap, arith, length-drop}
use Rattle.std.specs.Prelude.{IfErr}
use Rattle.std.specs.Str.{bytes_eq}
use Rattle.std.specs.Int.{w8, w32, from_be_bytes}
use Rattle.std.proofs.lemmas.Bool.Decides.{nat_tests}
use Rattle.std.proofs.lemmas.Bool.{not-true, false≢true, true≢false}
use Rattle.jbig2_base.specs.Results.{refuse_if}
use Rattle.jbig2_base.specs.Fields.{bytes_at, number_at, end_of_bytes}
use Rattle.jbig2_base.specs.Causes.{HasCause, number_in}
use Rattle.jbig2_base.specs.declared.error.DecodeError.{DecodeError}
use Rattle.jbig2_base.proofs.Causes.{bytes-there, cause-bytes, cause-next, cause-number, cause-refused, number-there}
use Rattle.jbig2_base.proofs.CauseSteps.{call-cause}
use Rattle.jbig2_framing.specs.Causes.{BreaksFileHeader}
use Rattle.jbig2_framing.specs.File.{file_header_at, identification, page_count_at}

abbrev is_identification : List ℕ → Bool
is_identification bytes = bytes_eq bytes identification

other-front : (front : List ℕ) → not (is_identification front) ≡ true → front ≡ identification → ⊥
other-front front other same = false≢true (sym (not-true (is_identification front) other) ∙ ap is_identification same)

reserved : (flags : ℕ) → not (eqb (flags / 16) 0) ≡ true → 16 ≤ flags
reserved flags set = grind (arith, nat_tests)

-- the header's end, with the count or without
header-short : (unknown : Bool) (n : ℕ) → n < 9 → n < cond unknown 9 13
header-short true n short = short
header-short false n short = omega arith

without-count : (unknown : Bool) (n : ℕ) → unknown ≡ false → n < 13 → n < cond unknown 9 13
without-count true n is short = absurd (true≢false is)
without-count false n is short = short

count-cause : (P : DecodeError → Type 0) (unknown : Bool) (bytes : List ℕ) → (unknown ≡ false → length bytes < 4 → P end_of_bytes) → IfErr (page_count_at unknown bytes) P
count-cause P true bytes why = tt
count-cause P false bytes why =
    cause-next P (number_at w32 bytes) (λ n. Ok (Some n.0, n.1)) (cause-number P w32 bytes (why refl)) (λ n is. tt)

file_header_causes : (bytes : List ℕ) → IfErr (file_header_at bytes) (BreaksFileHeader bytes)
unfolding file_header_at
file_header_causes bytes =
    let P : DecodeError → Type 0 = BreaksFileHeader bytes in
    let wide : length bytes < 9 → P end_of_bytes = λ short. header-short (eqb (number_in w8 8 bytes / 2 % 2) 1) (length bytes) short in
    cause-next P (bytes_at 8 bytes) _ (cause-bytes P 8 bytes (λ short. wide (omega arith))) (λ front front_is.
    let at_front = bytes-there 8 bytes front front_is in
    let first : take 8 bytes ≡ front.0 = ap (λ (x : List ℕ × List ℕ). x.0) at_front.1 in
    let after : drop 8 bytes ≡ front.1 = ap (λ (x : List ℕ × List ℕ). x.1) at_front.1 in
    let left : length front.1 + 8 ≡ length bytes = omega (arith, ap length after, length-drop 8 bytes, at_front.0) in
    cause-next P (refuse_if (not (is_identification front.0)) _) _ (cause-refused P (not (is_identification front.0)) _ (λ other. (at_front.0, λ same. other-front front.0 other (sym first ∙ same)))) (λ known known_is.
    cause-next P (number_at w8 front.1) _ (cause-number P w8 front.1 (λ short. wide (omega arith))) (λ flags flags_is.
    let at_flags = number-there w8 front.1 flags flags_is in
    let value : from_be_bytes w8 (take 1 (drop 8 bytes)) ≡ flags.0 = ap (λ (bs : List ℕ). from_be_bytes w8 (take 1 bs)) after ∙ ap (λ (x : ℕ × List ℕ). x.0) at_flags.1 in
    let last : drop 1 front.1 ≡ flags.1 = ap (λ (x : ℕ × List ℕ). x.1) at_flags.1 in
    let size : length flags.1 + 9 ≡ length bytes = omega (arith, ap length last, length-drop 1 front.1, at_flags.0) in
    cause-next P (refuse_if (not (eqb (flags.0 / 16) 0)) _) _ (cause-refused P (not (eqb (flags.0 / 16) 0)) _ (λ set. (omega (arith, at_flags.0), omega (arith, reserved flags.0 set)))) (λ clear clear_is.
    cause-next P (page_count_at (eqb (flags.0 / 2 % 2) 1) flags.1) _ (count-cause P (eqb (flags.0 / 2 % 2) 1) flags.1 (λ states short. without-count (eqb (number_in w8 8 bytes / 2 % 2) 1) (length bytes) (ap (λ (n : ℕ). eqb (n / 2 % 2) 1) value ∙ states) (omega arith))) (λ pages pages_is. tt)))))

pub file_header_cause : {X : Type 0} (bytes : List ℕ) (r : Result X DecodeError) → IfErr r (λ e. file_header_at bytes ≡ Err e) → HasCause r (BreaksFileHeader bytes)
file_header_cause bytes r = call-cause (BreaksFileHeader bytes) (file_header_at bytes) r (file_header_causes bytes)
