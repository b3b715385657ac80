-- Referred numbers one by one.
use Rattle.std.proofs.Common.{◌≡◌, ℕ, ◌+◌, ◌-◌, ◌*◌, ◌<◌, suc, Bool, Result, Ok, Err, refl, List, [], ◌∷◌, ◌++◌, take, drop, sym, ◌∙◌, ap, arith}
use Rattle.std.proofs.lemmas.List.{append_assoc, drop-drop}
use Rattle.std.specs.Int.{Width, w8, byte_len, from_be_bytes}
use Rattle.std.specs.List.{list_any}
use Rattle.std.specs.Prelude.{nat_le}
use Rattle.jbig2_base.specs.Results.{◌>>=◌, refuse_if}
use Rattle.jbig2_base.specs.Fields.{bytes_at, number_at}
use Rattle.jbig2_framing.specs.Segment.{adaptive_byte_count, count_at, first_end_marker, number_width, numbers_in, referred_at, unknown_length_of}
use Rattle.jbig2_framing.specs.inner.Fronts.{coded_front_at}
use Rattle.jbig2_base.specs.declared.error.DecodeError.{DecodeError}
use Rattle.jbig2_base.specs.declared.error.DecodeError.TheVariants.{Segment}
use Rattle.jbig2_base.specs.declared.error.SegmentError.TheVariants.{InvalidReference}
use Rattle.jbig2_base.proofs.Causes.{same-ok}

-- one number more
pub numbers_in-more : (w : Width) (count i : ℕ) (bytes front : List ℕ) → i < count → front ++ numbers_in w (count - i) (drop (i * byte_len w) bytes) ≡ (front ++ from_be_bytes w (take (byte_len w) (drop (i * byte_len w) bytes)) ∷ []) ++ numbers_in w (count - (i + 1)) (drop ((i + 1) * byte_len w) bytes)
numbers_in-more w count i bytes front h =
    let size = byte_len w in
    let number : ℕ = from_be_bytes w (take size (drop (i * size) bytes)) in
    let left : count - i ≡ suc (count - (i + 1)) = omega arith in
    let on : i * size + size ≡ (i + 1) * size = omega arith in
    ap (λ (n : ℕ). front ++ numbers_in w n (drop (i * size) bytes)) left
    ∙ ap (λ (ys : List ℕ). front ++ (number ∷ numbers_in w (count - (i + 1)) ys)) (drop-drop size (i * size) bytes ∙ ap (λ (n : ℕ). drop n bytes) on)
    ∙ sym (append_assoc front (number ∷ []) (numbers_in w (count - (i + 1)) (drop ((i + 1) * size) bytes)))

-- what follows the referred numbers
abbrev judged : ℕ → List ℕ → List ℕ → Result (List ℕ × List ℕ) DecodeError
judged own numbers rest = refuse_if (list_any (λ n. nat_le own n) numbers) (Segment InvalidReference) >>= λ earlier. Ok (numbers, rest)

-- the referred numbers, by their count and their bytes
pub referred_by : (own : ℕ) (bytes front coded rest numbers : List ℕ) (count size : ℕ) (later : Bool) → count_at bytes ≡ Ok (count, front) → size ≡ byte_len (number_width own) → bytes_at (count * size) front ≡ Ok (coded, rest)
    → ◌≡◌ {A = Result (List ℕ) DecodeError} (Ok (numbers_in (number_width own) count coded)) (Ok numbers) → later ≡ list_any (λ n. nat_le own n) numbers
    → referred_at own bytes ≡ (refuse_if later (Segment InvalidReference) >>= λ earlier. Ok (numbers, rest))
unfolding referred_at
referred_by own bytes front coded rest numbers count size later counted sized there read judges =
    let w : Width = number_width own in
    ap (λ (r : Result (ℕ × List ℕ) DecodeError). r >>= λ c. bytes_at (c.0 * byte_len w) c.1 >>= λ x. judged own (numbers_in w c.0 x.0) x.1) counted
    ∙ ap (λ (n : ℕ). bytes_at (count * n) front >>= λ x. judged own (numbers_in w count x.0) x.1) (sym sized)
    ∙ ap (λ (r : Result (List ℕ × List ℕ) DecodeError). r >>= λ x. judged own (numbers_in w count x.0) x.1) there
    ∙ ap (λ (ns : List ℕ). judged own ns rest) (same-ok (numbers_in w count coded) numbers read)
    ∙ ap (λ (b : Bool). refuse_if b (Segment InvalidReference) >>= λ earlier. Ok (numbers, rest)) (sym judges)

-- ---- data of unknown length
step_1 : {C D F E : Type 0} (r : Result C E) (u : C → D) (k : D → Result F E) → ((r >>= λ c. Ok (u c)) >>= k) ≡ (r >>= λ c. k (u c))
step_1 (Ok c) u k = refl
step_1 (Err e) u k = refl

step_2 : {B C D F E : Type 0} (r : Result B E) (t : B → Result C E) (u : B → C → D) (k : D → Result F E) → ((r >>= λ b. t b >>= λ c. Ok (u b c)) >>= k) ≡ (r >>= λ b. t b >>= λ c. k (u b c))
step_2 (Ok b) t u k = step_1 (t b) (u b) k
step_2 (Err e) t u k = refl

step_3 : {A B C D F E : Type 0} (r : Result A E) (s : A → Result B E) (t : B → Result C E) (u : B → C → D) (k : D → Result F E)
    → ((r >>= λ a. s a >>= λ b. t b >>= λ c. Ok (u b c)) >>= k) ≡ (r >>= λ a. s a >>= λ b. t b >>= λ c. k (u b c))
step_3 (Ok a) s t u k = step_2 (s a) t u k
step_3 (Err e) s t u k = refl

abbrev unknown_after : ℕ × List ℕ → Result ℕ DecodeError
unknown_after front = first_end_marker front.0 front.1 >>= λ place. Ok (18 + adaptive_byte_count front.0 + place + 6)

pub unknown_by : (bytes : List ℕ) (r : Result (ℕ × List ℕ) DecodeError) → coded_front_at bytes ≡ r → unknown_length_of bytes ≡ (r >>= λ front. first_end_marker front.0 front.1 >>= λ place. Ok (18 + adaptive_byte_count front.0 + place + 6))
unfolding unknown_length_of coded_front_at
unknown_by bytes r is =
    sym (step_3 (bytes_at 17 bytes) (λ i. number_at w8 i.1) (λ f. bytes_at (adaptive_byte_count f.0) f.1) (λ f p. (f.0, p.1)) unknown_after)
    ∙ ap (λ (x : Result (ℕ × List ℕ) DecodeError). x >>= unknown_after) is

pub unknown_refused : (bytes start : List ℕ) (e : DecodeError) → start ≡ bytes → coded_front_at start ≡ Err e → unknown_length_of bytes ≡ Err e
unknown_refused bytes start e same is = unknown_by bytes (Err e) (ap coded_front_at (sym same) ∙ is)

pub unknown_unmarked : (bytes start rest tail : List ℕ) (flags : ℕ) (e : DecodeError) → start ≡ bytes → coded_front_at start ≡ Ok (flags, rest) → tail ≡ rest → first_end_marker flags tail ≡ Err e → unknown_length_of bytes ≡ Err e
unknown_unmarked bytes start rest tail flags e same is after none =
    unknown_by bytes (Ok (flags, rest)) (ap coded_front_at (sym same) ∙ is)
    ∙ ap (λ (r : Result ℕ DecodeError). r >>= λ place. Ok (18 + adaptive_byte_count flags + place + 6)) (ap (λ (ys : List ℕ). first_end_marker flags ys) (sym after) ∙ none)

pub unknown_marked : (bytes start rest tail : List ℕ) (flags place adaptive : ℕ) → start ≡ bytes → coded_front_at start ≡ Ok (flags, rest) → tail ≡ rest → first_end_marker flags tail ≡ Ok place → adaptive ≡ adaptive_byte_count flags → unknown_length_of bytes ≡ Ok (18 + adaptive + place + 6)
unknown_marked bytes start rest tail flags place adaptive same is after found size =
    unknown_by bytes (Ok (flags, rest)) (ap coded_front_at (sym same) ∙ is)
    ∙ ap (λ (r : Result ℕ DecodeError). r >>= λ p. Ok (18 + adaptive_byte_count flags + p + 6)) (ap (λ (ys : List ℕ). first_end_marker flags ys) (sym after) ∙ found)
    ∙ ap (λ (n : ℕ). Ok (18 + n + place + 6)) (sym size)
