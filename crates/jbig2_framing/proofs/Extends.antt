-- What is read from the front of some bytes is read the same where more bytes follow.
use Rattle.std.proofs.Common.{◌≡◌, ℕ, ◌&&◌, ◌||◌, cond, ◌+◌, ◌*◌, ◌/◌, ◌%◌, ◌≤◌, List, ◌∷◌, ◌++◌, length, take, drop, Option, Result, Ok, Err, Bool, true, false, nat_lt, refl, sym, ◌∙◌, ap, arith, length-append}
use Rattle.std.proofs.lemmas.List.{take-append-le, drop-append-le}
use Rattle.std.proofs.lemmas.Bool.{cond-true, cond-false, le-ltb, ltb-false, false≢true}
use Rattle.std.specs.Int.{Width, w8, w32, byte_len, from_be_bytes}
use Rattle.std.specs.List.{list_any}
use Rattle.std.specs.Prelude.{nat_le, ◌==◌}
use Rattle.std.specs.Result.{is_ok}
use Rattle.jbig2_base.specs.Results.{◌>>=◌, refuse_if}
use Rattle.jbig2_base.specs.Fields.{bytes_at, number_at, end_of_bytes}
use Rattle.jbig2_framing.specs.Segment.{Header, header_at, referred_at, count_at, long_count_at, length_of, type_of, is_reserved, numbers_in, number_width}
use Rattle.jbig2_base.specs.declared.error.DecodeError.{DecodeError}
use Rattle.jbig2_base.specs.declared.error.DecodeError.TheVariants.{Segment}
use Rattle.jbig2_base.specs.declared.error.SegmentError.TheVariants.{UnknownType, InvalidReferredCount, InvalidReference}

abbrev Reading : Type 0 → Type 0
Reading X = List ℕ → Result (X × List ℕ) DecodeError

abbrev pub Extends : {X : Type 0} → Reading X → Type 0
Extends {X} read = (bytes rest : List ℕ) (x : X) (left : List ℕ) → read bytes ≡ Ok (x, left) → read (bytes ++ rest) ≡ Ok (x, left ++ rest)

-- one step, and those after it
and_then : {X Y : Type 0} (first : Reading X) (next : X → Reading Y) → Extends first → ((x : X) → Extends (next x)) → Extends (λ bytes. first bytes >>= λ p. next p.0 p.1)
and_then {X} {Y} first next extends others bytes rest y left e = by (first bytes) refl e
  where
    by : (r : Result (X × List ℕ) DecodeError) → first bytes ≡ r → (r >>= λ p. next p.0 p.1) ≡ Ok (y, left) → (first (bytes ++ rest) >>= λ p. next p.0 p.1) ≡ Ok (y, left ++ rest)
    by (Ok p) was e = ap (λ (r : Result (X × List ℕ) DecodeError). r >>= λ q. next q.0 q.1) (extends bytes rest p.0 p.1 was) ∙ others p.0 p.1 rest y left e
    by (Err error) was e = absurd (false≢true (ap (λ (r : Result (Y × List ℕ) DecodeError). is_ok r) e))

-- a step that reads nothing, and those after it
known_then : {Z Y : Type 0} (known : Result Z DecodeError) (next : Z → Reading Y) → ((z : Z) → Extends (next z)) → Extends (λ bytes. known >>= λ z. next z bytes)
known_then (Ok z) next extends bytes rest y left e = extends z bytes rest y left e
known_then {Z} {Y} (Err error) next extends bytes rest y left e = absurd (false≢true (ap (λ (r : Result (Y × List ℕ) DecodeError). is_ok r) e))

either : {X : Type 0} (test : Bool) (first second : Reading X) → Extends first → Extends second → Extends (λ bytes. cond test (first bytes) (second bytes))
either true first second a b = a
either false first second a b = b

gives : {X : Type 0} (x : X) → Extends (λ bytes. Ok (x, bytes))
gives {X} x bytes rest y left e = ap (λ (r : Result (X × List ℕ) DecodeError). r >>= λ q. Ok (q.0, q.1 ++ rest)) e

bytes_extend : (n : ℕ) → Extends (bytes_at n)
bytes_extend n bytes rest x left e = by (nat_lt (length bytes) n) refl (e)
  where
    by : (b : Bool) → nat_lt (length bytes) n ≡ b → bytes_at n bytes ≡ Ok (x, left) → bytes_at n (bytes ++ rest) ≡ Ok (x, left ++ rest)
    by true short e = absurd (false≢true (ap (λ r. is_ok r) (sym (cond-true (nat_lt (length bytes) n) (Err end_of_bytes) (Ok (take n bytes, drop n bytes)) short) ∙ e)))
    by false enough e =
        let room : n ≤ length bytes = ltb-false (length bytes) n enough in
        cond-false (nat_lt (length (bytes ++ rest)) n) (Err end_of_bytes) (Ok (take n (bytes ++ rest), drop n (bytes ++ rest))) (le-ltb (length (bytes ++ rest)) n (omega (arith, length-append bytes rest)))
        ∙ ap (λ (ys : List ℕ). Ok (ys, drop n (bytes ++ rest))) (take-append-le n bytes rest room)
        ∙ ap (λ (ys : List ℕ). Ok (take n bytes, ys)) (drop-append-le n bytes rest room)
        ∙ ap (λ (r : Result (List ℕ × List ℕ) DecodeError). r >>= λ p. Ok (p.0, p.1 ++ rest)) (sym (cond-false (nat_lt (length bytes) n) (Err end_of_bytes) (Ok (take n bytes, drop n bytes)) enough) ∙ e)

number_or : (short : Bool) (front left : List ℕ) (f : List ℕ → ℕ) → cond {A = Result (ℕ × List ℕ) DecodeError} short (Err end_of_bytes) (Ok (f front, left)) ≡ (cond {A = Result (List ℕ × List ℕ) DecodeError} short (Err end_of_bytes) (Ok (front, left)) >>= λ p. Ok (f p.0, p.1))
number_or true front left f = refl
number_or false front left f = refl

-- a number is that of its bytes
number_as : (w : Width) (bytes : List ℕ) → number_at w bytes ≡ (bytes_at (byte_len w) bytes >>= λ p. Ok (from_be_bytes w p.0, p.1))
number_as w bytes = number_or (nat_lt (length bytes) (byte_len w)) (take (byte_len w) bytes) (drop (byte_len w) bytes) (λ front. from_be_bytes w front)

number_extends : (w : Width) → Extends (number_at w)
number_extends w bytes rest x left e =
    number_as w (bytes ++ rest)
    ∙ and_then (bytes_at (byte_len w)) (λ front bs. Ok (from_be_bytes w front, bs)) (bytes_extend (byte_len w)) (λ front. gives (from_be_bytes w front)) bytes rest x left (sym (number_as w bytes) ∙ e)

long_count_extends : (high : ℕ) → Extends (long_count_at high)
unfolding long_count_at
long_count_extends high =
    and_then (bytes_at 3) (λ low bs. bytes_at ((from_be_bytes w32 (high ∷ low) + 8) / 8) bs >>= λ retention. Ok (from_be_bytes w32 (high ∷ low), retention.1)) (bytes_extend 3) (λ low.
    and_then (bytes_at ((from_be_bytes w32 (high ∷ low) + 8) / 8)) (λ retention bs. Ok (from_be_bytes w32 (high ∷ low), bs)) (bytes_extend ((from_be_bytes w32 (high ∷ low) + 8) / 8)) (λ retention. gives (from_be_bytes w32 (high ∷ low))))

count_extends : Extends count_at
unfolding count_at
count_extends =
    and_then (number_at w8) (λ first bs. refuse_if (first / 32 == 5 || first / 32 == 6) (Segment InvalidReferredCount) >>= λ coded. cond (first / 32 == 7) (long_count_at (first % 32) bs) (Ok (first / 32, bs))) (number_extends w8) (λ first.
    known_then (refuse_if (first / 32 == 5 || first / 32 == 6) (Segment InvalidReferredCount)) (λ coded bs. cond (first / 32 == 7) (long_count_at (first % 32) bs) (Ok (first / 32, bs))) (λ coded.
    either (first / 32 == 7) (long_count_at (first % 32)) (λ bs. Ok (first / 32, bs)) (long_count_extends (first % 32)) (gives (first / 32))))

abbrev with_coded : ℕ → ℕ → List ℕ → Reading (List ℕ)
with_coded own count coded bs = refuse_if (list_any (λ n. nat_le own n) (numbers_in (number_width own) count coded)) (Segment InvalidReference) >>= λ earlier. Ok (numbers_in (number_width own) count coded, bs)

referred_extends : (own : ℕ) → Extends (referred_at own)
unfolding referred_at
referred_extends own =
    and_then count_at (λ count bs. bytes_at (count * byte_len (number_width own)) bs >>= λ coded. with_coded own count coded.0 coded.1) count_extends (λ count.
    and_then (bytes_at (count * byte_len (number_width own))) (with_coded own count) (bytes_extend (count * byte_len (number_width own))) (λ coded.
    known_then (refuse_if (list_any (λ n. nat_le own n) (numbers_in (number_width own) count coded)) (Segment InvalidReference)) (λ earlier bs. Ok (numbers_in (number_width own) count coded, bs)) (λ earlier. gives (numbers_in (number_width own) count coded))))

-- the header, from its last field to its first
abbrev header_with : ℕ → ℕ → List ℕ → ℕ → Option ℕ → Header
header_with number flags referred page len = record {
  segment_number = number;
  segment_type = type_of (flags % 64);
  retain_flag = flags / 128 == 0;
  page_association = page;
  referred_to_segments = referred;
  data_length = len;
}

abbrev from_length : Bool → ℕ → ℕ → List ℕ → ℕ → ℕ → Reading Header
from_length strict number flags referred page n bs = length_of strict (type_of (flags % 64)) n >>= λ len. Ok (header_with number flags referred page len, bs)

abbrev from_page : Bool → ℕ → ℕ → List ℕ → ℕ → Reading Header
from_page strict number flags referred page bs = number_at w32 bs >>= λ n. from_length strict number flags referred page n.0 n.1

abbrev from_referred : Bool → ℕ → ℕ → List ℕ → Reading Header
from_referred strict number flags referred bs = number_at (cond (flags / 64 % 2 == 1) w32 w8) bs >>= λ page. from_page strict number flags referred page.0 page.1

abbrev from_type : Bool → ℕ → ℕ → Reading Header
from_type strict number flags bs = referred_at number bs >>= λ referred. from_referred strict number flags referred.0 referred.1

abbrev from_flags : Bool → ℕ → ℕ → Reading Header
from_flags strict number flags bs = refuse_if (strict && is_reserved (type_of (flags % 64))) (Segment UnknownType) >>= λ known. from_type strict number flags bs

abbrev from_number : Bool → ℕ → Reading Header
from_number strict number bs = number_at w8 bs >>= λ flags. from_flags strict number flags.0 flags.1

type_extends : (strict : Bool) (number flags : ℕ) → Extends (from_type strict number flags)
type_extends strict number flags =
    and_then (referred_at number) (from_referred strict number flags) (referred_extends number) (λ referred.
    and_then (number_at (cond (flags / 64 % 2 == 1) w32 w8)) (from_page strict number flags referred) (number_extends (cond (flags / 64 % 2 == 1) w32 w8)) (λ page.
    and_then (number_at w32) (from_length strict number flags referred page) (number_extends w32) (λ n.
    known_then (length_of strict (type_of (flags % 64)) n) (λ len bs. Ok (header_with number flags referred page len, bs)) (λ len. gives (header_with number flags referred page len)))))

pub header_extends : (strict : Bool) → Extends (header_at strict)
unfolding header_at
header_extends strict =
    and_then (number_at w32) (from_number strict) (number_extends w32) (λ number.
    and_then (number_at w8) (from_flags strict number) (number_extends w8) (λ flags.
    known_then (refuse_if (strict && is_reserved (type_of (flags % 64))) (Segment UnknownType)) (λ known bs. from_type strict number flags bs) (λ known. type_extends strict number flags)))
