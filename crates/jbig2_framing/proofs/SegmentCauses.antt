-- Which rule a segment header breaks.
use Rattle.std.proofs.Common.{◌≡◌, ℕ, zero, suc, ◌+◌, ◌-◌, ◌*◌, ◌/◌, ◌%◌, ◌^◌, ◌<◌, ◌≤◌, eqb, leb, Bool, true, false, not, cond, List, [], ◌∷◌, take, drop, length, Option, Some, None, Result, Ok, Err, refl, sym, ◌∙◌, ap, subst, arith, inl, inr, ⊎_elim, length-drop}
use Rattle.std.specs.Prelude.{◌≢◌, ◌⊎◌, ◌&&◌, ◌||◌, All, IfErr}
use Rattle.std.specs.Int.{Width, w8, w32, byte_len, from_be_bytes}
use Rattle.std.specs.List.{list_any, list_all, filter, range_with_len}
use Rattle.std.proofs.lemmas.Bool.{eqb-true, leb-true, and_parts, or_cases, not-true, true≢false, false≢true}
use Rattle.std.proofs.lemmas.List.{drop-drop, drop-take, take-take}
use Rattle.jbig2_base.specs.Results.{◌>>=◌, refuse_if}
use Rattle.jbig2_base.specs.Causes.{HasCauseOrNoMemory, number_in}
use Rattle.jbig2_framing.specs.Causes.{listed_types, referred_count, referred_place, page_place, length_place, BreaksHeader}
use Rattle.jbig2_base.specs.Fields.{bytes_at, number_at, end_of_bytes}
use Rattle.jbig2_framing.specs.Segment.{Header, type_of, is_reserved, is_immediate_generic, long_count_at, count_at, number_width, numbers_in, referred_at, length_of, header_at}
use Rattle.jbig2_base.specs.declared.error.DecodeError.{DecodeError}
use Rattle.jbig2_base.specs.declared.error.DecodeError.TheVariants.{OutOfMemory, Segment}
use Rattle.jbig2_base.specs.declared.error.SegmentError.TheVariants.{UnknownType, InvalidReferredCount, InvalidReference, InvalidUnknownLength}
use Rattle.jbig2_framing.specs.declared.segment.SegmentType.{SegmentType}
use Rattle.jbig2_base.proofs.CauseSteps.{call-cause-or-memory, IfResult, Steps, result-cause, result-next, next-steps, result-map, next-refusal, next-bytes, next-number, last-number}

-- ---- the type
first-or-later : (n t : ℕ) (ts : List ℕ) → n ≢ t → All (λ u. n ≢ u) ts → All (λ u. n ≢ u) (t ∷ ts)
first-or-later n t ts first rest zero d below = first
first-or-later n t ts first rest (suc k) d below = rest k d (omega (arith, below))

others : (n : ℕ) (ts : List ℕ) → is_reserved (type_of n) ≡ true → list_all (λ t. not (is_reserved (type_of t))) ts ≡ true → All (λ t. n ≢ t) ts
others n [] reserved known = λ k d below. absurd (omega (arith, below))
others n (t ∷ ts) reserved known =
    let parts = and_parts (not (is_reserved (type_of t))) (list_all (λ u. not (is_reserved (type_of u))) ts) known in
    let differs : n ≢ t = λ same. true≢false (sym reserved ∙ ap (λ (m : ℕ). is_reserved (type_of m)) same ∙ not-true (is_reserved (type_of t)) parts.0) in
    first-or-later n t ts differs (others n ts reserved parts.1)

unlisted : (n : ℕ) → is_reserved (type_of n) ≡ true → All (λ t. n ≢ t) listed_types
unfolding type_of
unlisted n reserved = others n listed_types reserved refl

-- the types in the list are all that aren't reserved
listed-are-all : filter (λ n. not (is_reserved (type_of n))) (range_with_len 0 64) ≡ listed_types
unfolding type_of
listed-are-all = refl

other-type : (n : ℕ) → is_immediate_generic (type_of n) ≡ false → n ≢ 38
unfolding type_of
other-type n other = λ same. true≢false (sym (ap (λ (m : ℕ). is_immediate_generic (type_of m)) same) ∙ other)

-- ---- the count of referred segments
abbrev count_by : Bool → List ℕ → ℕ
count_by long bytes = cond long (number_in w32 5 bytes - 7 * 2 ^ 29) (number_in w8 5 bytes / 32)

abbrev place_by : Bool → List ℕ → ℕ
place_by long bytes = cond long (9 + (count_by long bytes + 8) / 8) 6

count-spelled : (bytes : List ℕ) → 4 ≤ length bytes → from_be_bytes w8 (take 1 bytes) / 32 ≡ 7
    → from_be_bytes w32 (from_be_bytes w8 (take 1 bytes) % 32 ∷ take 3 (drop 1 bytes)) ≡ from_be_bytes w32 (take 4 bytes) - 7 * 2 ^ 29
count-spelled [] some top = absurd (omega (arith, some))
count-spelled (a ∷ []) some top = absurd (omega (arith, some))
count-spelled (a ∷ b ∷ []) some top = absurd (omega (arith, some))
count-spelled (a ∷ b ∷ c ∷ []) some top = absurd (omega (arith, some))
count-spelled (a ∷ b ∷ c ∷ d ∷ rest) some top = omega (arith, top)

long-result : (P : DecodeError → Type 0) (bytes : List ℕ) (long : Bool) → (long ≡ true → number_in w8 5 bytes / 32 ≡ 7) → 6 ≤ length bytes → (length bytes < place_by long bytes → P end_of_bytes)
    → Steps (count_by long bytes, drop (place_by long bytes) bytes) (place_by long bytes ≤ length bytes) P (cond long (long_count_at (number_in w8 5 bytes % 32) (drop 6 bytes)) (Ok (number_in w8 5 bytes / 32, drop 6 bytes)))
unfolding long_count_at
long-result P bytes false top six short = (refl, six)
long-result P bytes true top six short =
    let n : ℕ = count_by true bytes in
    let R : ℕ × List ℕ → Type 0 = λ x. (x ≡ (n, drop (place_by true bytes) bytes)) × (place_by true bytes ≤ length bytes) in
    next-bytes R P 3 bytes 6 _ six (λ cut. short (omega (arith, cut))) (λ nine.
    let left : length (drop 5 bytes) ≡ length bytes - 5 = length-drop 5 bytes in
    let same : from_be_bytes w32 (number_in w8 5 bytes % 32 ∷ take 3 (drop 6 bytes)) ≡ n =
    ap (λ (ys : List ℕ). from_be_bytes w32 (number_in w8 5 bytes % 32 ∷ take 3 ys)) (sym (drop-drop 1 5 bytes))
    ∙ count-spelled (drop 5 bytes) (omega (arith, left, nine)) (top refl) in
    subst (λ (m : ℕ). IfResult R P (bytes_at ((m + 8) / 8) (drop 9 bytes) >>= λ retention. Ok (m, retention.1))) (sym same)
    (next-bytes R P ((n + 8) / 8) bytes 9 _ nine short (λ there. (refl, there))))

place-least : (long : Bool) (bytes : List ℕ) → 6 ≤ place_by long bytes
place-least true bytes = omega arith
place-least false bytes = omega arith

count-result : (P : DecodeError → Type 0) (bytes : List ℕ) → 5 ≤ length bytes → (length bytes < referred_place bytes → P end_of_bytes)
    → ((6 ≤ length bytes) × ((number_in w8 5 bytes / 32 ≡ 5) ⊎ (number_in w8 5 bytes / 32 ≡ 6)) → P (Segment InvalidReferredCount))
    → Steps (referred_count bytes, drop (referred_place bytes) bytes) (referred_place bytes ≤ length bytes) P (count_at (drop 5 bytes))
unfolding count_at
count-result P bytes five short bad =
    let top : ℕ = number_in w8 5 bytes / 32 in
    let R : ℕ × List ℕ → Type 0 = λ x. (x ≡ (referred_count bytes, drop (referred_place bytes) bytes)) × (referred_place bytes ≤ length bytes) in
    next-number R P w8 bytes 5 _ five (λ cut. short (omega (arith, cut, place-least (eqb top 7) bytes))) (λ six.
    next-refusal R P (eqb top 5 || eqb top 6) _ _
    (λ is. bad (six, ⊎_elim {C = (top ≡ 5) ⊎ (top ≡ 6)} (λ l. inl (eqb-true top 5 l)) (λ r. inr (eqb-true top 6 r)) (or_cases (eqb top 5) (eqb top 6) is)))
    (λ fine. long-result P bytes (eqb top 7) (λ is. eqb-true top 7 is) six short))

-- ---- the referred numbers
numbers-within : (w : Width) (count : ℕ) (bytes : List ℕ) → numbers_in w count (take (count * byte_len w) bytes) ≡ numbers_in w count bytes
numbers-within w zero bytes = refl
numbers-within w (suc count) bytes =
    let size : ℕ = byte_len w in
    let all : suc count * size ≡ size + count * size = omega arith in
    let first : from_be_bytes w (take size (take (suc count * size) bytes)) ≡ from_be_bytes w (take size bytes) = ap (λ (ys : List ℕ). from_be_bytes w ys) (take-take size (suc count * size) bytes (omega (arith, all))) in
    let after : drop size (take (suc count * size) bytes) ≡ take (count * size) (drop size bytes) = ap (λ (m : ℕ). drop size (take m bytes)) all ∙ drop-take size (count * size) bytes in
    ap (λ (n : ℕ). n ∷ numbers_in w count (drop size (take (suc count * size) bytes))) first
    ∙ ap (λ (ys : List ℕ). from_be_bytes w (take size bytes) ∷ numbers_in w count ys) after
    ∙ ap (λ (ns : List ℕ). from_be_bytes w (take size bytes) ∷ ns) (numbers-within w count (drop size bytes))

-- some number is not below the segment's own
abbrev IsLater : Width → ℕ → ℕ → List ℕ → ℕ → Type 0
IsLater w own count bytes place = (k : ℕ) × (k < count) × (own ≤ number_in w (place + k * byte_len w) bytes)

later-number : (w : Width) (own count place : ℕ) (bytes : List ℕ) → list_any (λ n. leb own n) (numbers_in w count (drop place bytes)) ≡ true → IsLater w own count bytes place
later-number w own zero place bytes some = absurd (false≢true some)
later-number w own (suc count) place bytes some =
    let size : ℕ = byte_len w in
    ⊎_elim {C = IsLater w own (suc count) bytes place}
    (λ here. (0, omega arith, subst (λ (k : ℕ). own ≤ number_in w k bytes) (omega arith) (leb-true own (number_in w place bytes) here)))
    (λ rest.
    let later : IsLater w own count bytes (place + size) = later-number w own count (place + size) bytes (ap (λ (ys : List ℕ). list_any (λ n. leb own n) (numbers_in w count ys)) (sym (drop-drop size place bytes)) ∙ rest) in
    (suc later.0, omega (arith, later.1), subst (λ (k : ℕ). own ≤ number_in w k bytes) (omega arith) later.2))
    (or_cases (leb own (number_in w place bytes)) (list_any (λ n. leb own n) (numbers_in w count (drop size (drop place bytes)))) some)

referred-result : (P : DecodeError → Type 0) (bytes : List ℕ) → 5 ≤ length bytes → (length bytes < page_place bytes → P end_of_bytes)
    → ((6 ≤ length bytes) × ((number_in w8 5 bytes / 32 ≡ 5) ⊎ (number_in w8 5 bytes / 32 ≡ 6)) → P (Segment InvalidReferredCount))
    → ((page_place bytes ≤ length bytes) × IsLater (number_width (number_in w32 0 bytes)) (number_in w32 0 bytes) (referred_count bytes) bytes (referred_place bytes) → P (Segment InvalidReference))
    → IfResult (λ (x : List ℕ × List ℕ). (x.1 ≡ drop (page_place bytes) bytes) × (page_place bytes ≤ length bytes)) P (referred_at (number_in w32 0 bytes) (drop 5 bytes))
unfolding referred_at
referred-result P bytes five short bad wrong =
    let own : ℕ = number_in w32 0 bytes in
    let w : Width = number_width own in
    let count : ℕ = referred_count bytes in
    let place : ℕ = referred_place bytes in
    let R : List ℕ × List ℕ → Type 0 = λ x. (x.1 ≡ drop (page_place bytes) bytes) × (page_place bytes ≤ length bytes) in
    next-steps (count, drop place bytes) (place ≤ length bytes) R P (count_at (drop 5 bytes)) _ (count-result P bytes five (λ cut. short (omega (arith, cut))) bad) (λ at_numbers.
    next-bytes R P (count * byte_len w) bytes place _ at_numbers short (λ there.
    next-refusal R P (list_any (λ n. leb own n) (numbers_in w count (take (count * byte_len w) (drop place bytes)))) _ _
    (λ some. wrong (there, later-number w own count place bytes (ap (λ (ns : List ℕ). list_any (λ n. leb own n) ns) (sym (numbers-within w count (drop place bytes))) ∙ some)))
    (λ none. (refl, there))))

-- ---- the page association and the data length
number-result : (P : DecodeError → Type 0) (w : Width) (bytes rest : List ℕ) (k : ℕ) → rest ≡ drop k bytes → k ≤ length bytes → (length bytes < k + byte_len w → P end_of_bytes)
    → Steps (number_in w k bytes, drop (k + byte_len w) bytes) (k + byte_len w ≤ length bytes) P (number_at w rest)
number-result P w bytes rest k is within short =
    let R : ℕ × List ℕ → Type 0 = λ x. (x ≡ (number_in w k bytes, drop (k + byte_len w) bytes)) × (k + byte_len w ≤ length bytes) in
    subst (λ (ys : List ℕ). IfResult R P (number_at w ys)) (sym is) (last-number R P w bytes k within short (λ there. (refl, there)))

page-result : (P : DecodeError → Type 0) (wide : Bool) (bytes rest : List ℕ) (k : ℕ) → rest ≡ drop k bytes → k ≤ length bytes → (length bytes < k + cond wide 4 1 → P end_of_bytes)
    → IfResult (λ (x : ℕ × List ℕ). (x.1 ≡ drop (k + cond wide 4 1) bytes) × (k + cond wide 4 1 ≤ length bytes)) P (number_at (cond wide w32 w8) rest)
page-result P true bytes rest k is within short =
    result-map _ (λ (x : ℕ × List ℕ). (x.1 ≡ drop (k + 4) bytes) × (k + 4 ≤ length bytes)) P (number_at w32 rest) (λ x known. (ap (λ (y : ℕ × List ℕ). y.1) known.0, known.1)) (number-result P w32 bytes rest k is within short)
page-result P false bytes rest k is within short =
    result-map _ (λ (x : ℕ × List ℕ). (x.1 ≡ drop (k + 1) bytes) × (k + 1 ≤ length bytes)) P (number_at w8 rest) (λ x known. (ap (λ (y : ℕ × List ℕ). y.1) known.0, known.1)) (number-result P w8 bytes rest k is within short)

by-ones : (P : DecodeError → Type 0) (ones refused : Bool) (n : ℕ) → (ones ≡ true → refused ≡ true → P (Segment InvalidUnknownLength))
    → IfResult (λ (len : Option ℕ). len ≡ cond ones None (Some n)) P (cond ones (refuse_if refused (Segment InvalidUnknownLength) >>= λ known. Ok None) (Ok (Some n)))
by-ones P false refused n bad = refl
by-ones P true true n bad = bad refl refl
by-ones P true false n bad = refl

length-result : (P : DecodeError → Type 0) (strict : Bool) (kind : SegmentType) (n : ℕ) → (strict ≡ true → n ≡ 4294967295 → is_immediate_generic kind ≡ false → P (Segment InvalidUnknownLength))
    → IfResult (λ (len : Option ℕ). len ≡ cond (eqb n 4294967295) None (Some n)) P (length_of strict kind n)
length-result P strict kind n bad =
    by-ones P (eqb n 4294967295) (strict && not (is_immediate_generic kind)) n (λ ones refused.
    let parts = and_parts strict (not (is_immediate_generic kind)) refused in
    bad parts.0 (eqb-true n 4294967295 ones) (not-true (is_immediate_generic kind) parts.1))

-- ---- the header
wide-least : (b : Bool) → 1 ≤ cond b 4 1
wide-least true = omega arith
wide-least false = omega arith

abbrev pub header_size : List ℕ → ℕ
header_size bytes = length_place bytes + 4

-- the length of the data as it is stated
abbrev pub stated_length : List ℕ → Option ℕ
stated_length bytes = cond (eqb (number_in w32 (length_place bytes) bytes) 4294967295) None (Some (number_in w32 (length_place bytes) bytes))

-- a header's size and the length that it states
abbrev pub HasHeader : List ℕ → Header × List ℕ → Type 0
HasHeader bytes x = (header_size bytes ≤ length bytes) × (x.1 ≡ drop (header_size bytes) bytes) × (x.0.data_length ≡ stated_length bytes)

pub header-result : (P : DecodeError → Type 0) (strict : Bool) (bytes : List ℕ) → ((e : DecodeError) → BreaksHeader strict bytes e → P e) → IfResult (HasHeader bytes) P (header_at strict bytes)
unfolding header_at
header-result P strict bytes why =
    let R : Header × List ℕ → Type 0 = HasHeader bytes in
    let kind : ℕ = number_in w8 4 bytes % 64 in
    let wide : Bool = eqb (number_in w8 4 bytes / 64 % 2) 1 in
    let least : 6 ≤ referred_place bytes = place-least (eqb (number_in w8 5 bytes / 32) 7) bytes in
    let one : 1 ≤ cond wide 4 1 = wide-least wide in
    let short : length bytes < header_size bytes → P end_of_bytes = λ cut. why end_of_bytes cut in
    next-number R P w32 bytes 0 _ (omega arith) (λ cut. short (omega (arith, cut, least))) (λ four.
    next-number R P w8 bytes 4 _ four (λ cut. short (omega (arith, cut, least))) (λ five.
    next-refusal R P (strict && is_reserved (type_of kind)) _ _
    (λ unknown. why (Segment UnknownType) ((and_parts strict (is_reserved (type_of kind)) unknown).0, five, unlisted kind (and_parts strict (is_reserved (type_of kind)) unknown).1)) (λ known.
    result-next (λ (x : List ℕ × List ℕ). (x.1 ≡ drop (page_place bytes) bytes) × (page_place bytes ≤ length bytes)) R P (referred_at (number_in w32 0 bytes) (drop 5 bytes)) _
    (referred-result P bytes five (λ cut. short (omega (arith, cut))) (λ bad. why (Segment InvalidReferredCount) bad) (λ wrong. why (Segment InvalidReference) wrong)) (λ referred at_page.
    result-next (λ (x : ℕ × List ℕ). (x.1 ≡ drop (length_place bytes) bytes) × (length_place bytes ≤ length bytes)) R P (number_at (cond wide w32 w8) referred.1) _
    (page-result P wide bytes referred.1 (page_place bytes) at_page.0 at_page.1 (λ cut. short (omega (arith, cut)))) (λ page at_length.
    result-next (λ (x : ℕ × List ℕ). (x ≡ (number_in w32 (length_place bytes) bytes, drop (header_size bytes) bytes)) × (header_size bytes ≤ length bytes)) R P (number_at w32 page.1) _
    (number-result P w32 bytes page.1 (length_place bytes) at_length.0 at_length.1 short) (λ n at_end.
    let value : n.0 ≡ number_in w32 (length_place bytes) bytes = ap (λ (x : ℕ × List ℕ). x.0) at_end.0 in
    result-next (λ (len : Option ℕ). len ≡ cond (eqb n.0 4294967295) None (Some n.0)) R P (length_of strict (type_of kind) n.0) _
    (length-result P strict (type_of kind) n.0 (λ is ones other. why (Segment InvalidUnknownLength) (is, at_end.1, sym value ∙ ones, other-type kind other))) (λ len states.
    (at_end.1, ap (λ (x : ℕ × List ℕ). x.1) at_end.0, states ∙ ap (λ (m : ℕ). cond (eqb m 4294967295) None (Some m)) value))))))))

header_causes : (strict : Bool) (bytes : List ℕ) → IfErr (header_at strict bytes) (BreaksHeader strict bytes)
header_causes strict bytes =
    let P : DecodeError → Type 0 = BreaksHeader strict bytes in
    result-cause (HasHeader bytes) P (header_at strict bytes) (header-result P strict bytes (λ e why. why))

pub header_cause : {X : Type 0} (strict : Bool) (bytes : List ℕ) (r : Result X DecodeError) → IfErr r (λ e. (e ≡ OutOfMemory) ⊎ (header_at strict bytes ≡ Err e))
    → HasCauseOrNoMemory r (BreaksHeader strict bytes)
header_cause strict bytes r = call-cause-or-memory (BreaksHeader strict bytes) (header_at strict bytes) r (header_causes strict bytes)
