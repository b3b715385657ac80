-- Which rule the bits break where a read by a prefix code refuses them.
use Rattle.std.proofs.Common.{◌≡◌, ℕ, zero, suc, ◌+◌, ◌-◌, ◌*◌, ◌/◌, ◌^◌, ◌<◌, ◌≤◌, ltb, eqb, Bool, true, false, not, ◌&&◌, ◌||◌, List, [], ◌∷◌, length, take, drop, slice_index_or, All, Any, Option, Some, None, Result, Ok, Err, ℤ, pos, negsuc, refl, sym, ◌∙◌, ap, subst, arith, pow-suc, ⊎_elim, inl, inr, ltb-true, ltb-false}
use Rattle.std.specs.Prelude.{IfErr, is_some, ◌⊎◌}
use Rattle.std.specs.List.{flat_map}
use Rattle.std.proofs.Math.Nat.{div-div-eq-div-mul}
use Rattle.std.proofs.lemmas.Nat.{pow-add}
use Rattle.std.proofs.lemmas.Bool.{cases_eq, cases_lt, cond_both, false≢true, eqb-true, eq-eqb, and_from, and_parts, or_cases, or_parts, not-true, not-false, lt-ltb}
use Rattle.jbig2_base.specs.Bits.{Place, bits_left, bits_next, byte_bits, number_after}
use Rattle.jbig2_base.specs.Search.{least}
use Rattle.jbig2_base.specs.declared.error.DecodeError.{DecodeError}
use Rattle.jbig2_base.specs.declared.error.DecodeError.TheVariants.{OutOfMemory, Parse, Huffman}
use Rattle.jbig2_base.specs.declared.error.ParseError.TheVariants.{UnexpectedEof}
use Rattle.jbig2_base.specs.declared.error.HuffmanError.TheVariants.{InvalidCode, UnexpectedOob}
use Rattle.jbig2_base.specs.inner.BitLists.{AreBits}
use Rattle.jbig2_base.proofs.BitFieldLemmas.{bits-drop, byte-bits}
use Rattle.jbig2_coder.specs.Causes.{AreCrowded, Begins, BreaksCode, BreaksNumber, BreaksRange, BreaksSelection, BreaksTable, BreaksValue}
use Rattle.jbig2_coder.specs.PrefixCode.{CodeReading, Member, begins_longer, decoded_value, front_number, in_word, is_crowded, line_of, longest, value_of_line, no_oob, prefix_code, read_code, table_of, value_by, weight, without_oob}
use Rattle.jbig2_coder.specs.inner.CodeReadings.{cut_off_code, found_or, is_decided, unknown_code, some_value, value_after, with_value}
use Rattle.jbig2_coder.specs.declared.huffman_table.line.TableLine.{TableLine}
use Rattle.jbig2_base.specs.Causes.{HasCause, HasCauseOrNoMemory, LeavesWord}
use Rattle.jbig2_base.proofs.CauseSteps.{call-cause, call-cause-or-memory}
use Rattle.jbig2_coder.specs.Tables.{next_custom}

-- ---- lists
all-cons : {X : Type 0} (P : X → Type 0) (x : X) (xs : List X) → P x → All P xs → All P (x ∷ xs)
all-cons P x xs first others zero d inside = first
all-cons P x xs first others (suc k) d inside = others k d (omega arith)

any-here : {X : Type 0} (P : X → Type 0) (x : X) (xs : List X) → P x → Any P (x ∷ xs)
any-here P x xs is = (0, x, omega arith, refl, is)

any-there : {X : Type 0} (P : X → Type 0) (x : X) (xs : List X) → Any P xs → Any P (x ∷ xs)
any-there P x xs is = (suc is.0, is.1, omega (arith, is.2), is.3, is.4)

-- ---- the first place where a test passes
before-least : (n : ℕ) (p : ℕ → Bool) (to i : ℕ) → n ≤ to → to - n ≤ i → i < least p n to → p i ≡ false
unfolding least
before-least zero p to i fits low high = absurd (omega arith)
before-least (suc n) p to i fits low high =
    let Q : ℕ → Type 0 = λ r. i < r → p i ≡ false in
    cond_both (p (to - suc n)) (to - suc n) (least p n to) Q
    (λ yes high. absurd (omega arith))
    (λ no high. ⊎_elim (λ (here : i ≡ to - suc n). ap p here ∙ no) (λ (o : i ≡ to - suc n → ⊥). before-least n p to i (omega arith) (omega (arith, o)) high) (cases_eq i (to - suc n)))
    high

at-least : (n : ℕ) (p : ℕ → Bool) (to : ℕ) → least p n to < to → p (least p n to) ≡ true
unfolding least
at-least zero p to high = absurd (omega arith)
at-least (suc n) p to high =
    let Q : ℕ → Type 0 = λ r. r < to → p r ≡ true in
    cond_both (p (to - suc n)) (to - suc n) (least p n to) Q (λ yes high. yes) (λ no high. at-least n p to high) high

least-within : (n : ℕ) (p : ℕ → Bool) (to : ℕ) → (to - n ≤ least p n to) × (least p n to ≤ to)
unfolding least
least-within zero p to = (omega arith, omega arith)
least-within (suc n) p to =
    let Q : ℕ → Type 0 = λ r. (to - suc n ≤ r) × (r ≤ to) in
    let others = least-within n p to in
    cond_both (p (to - suc n)) (to - suc n) (least p n to) Q (λ yes. (omega arith, omega arith)) (λ no. (omega (arith, others.0), others.1))

-- ---- fewer of the first bits
fewer : (f j k : ℕ) (bits : List ℕ) → AreBits bits → k ≤ j → j ≤ length bits → number_after f (take j bits) / 2 ^ (j - k) ≡ number_after f (take k bits)
unfolding AreBits
fewer f zero zero bits are order fits = omega arith
fewer f zero (suc k) bits are order fits = absurd (omega arith)
fewer f (suc j) k [] are order fits = absurd (omega arith)
fewer f (suc j) zero (b ∷ bits) are order fits =
    let n = number_after (2 * f + b) (take j bits) in
    let power : 2 ^ suc j ≡ 2 ^ (j - 0) * 2 = let e : j - 0 ≡ j = omega arith in ap (λ (i : ℕ). 2 ^ suc i) (sym e) ∙ rw pow-suc (omega arith) in
    let whole : suc j - 0 ≡ suc j = omega arith in
    ap (λ (i : ℕ). n / 2 ^ i) whole ∙ ap (λ (q : ℕ). n / q) power ∙ sym (div-div-eq-div-mul n (2 ^ (j - 0)) 2)
    ∙ ap (λ (q : ℕ). q / 2) (fewer (2 * f + b) j zero bits are.1 (omega arith) (omega arith)) ∙ (let half : (2 * f + b) / 2 ≡ f = omega (arith, are.0) in half)
fewer f (suc j) (suc k) (b ∷ bits) are order fits =
    let e : suc j - suc k ≡ j - k = omega arith in
    ap (λ (i : ℕ). number_after (2 * f + b) (take j bits) / 2 ^ i) e ∙ fewer (2 * f + b) j k bits are.1 (omega arith) (omega arith)

-- a line with range bits, which the bits after its code do not hold, or which lead out of signed 32 bits
abbrev BreaksNumbered : TableLine → List ℕ → Type 0
BreaksNumbered line bits = (line.is_out_of_band ≡ false) × BreaksRange line bits (Huffman InvalidCode)

-- of none of the codes
abbrev NoneOf : (Member → Type 0) → List Member → Type 0
NoneOf P ms = All (λ m. P m → ⊥) ms

-- ---- the codes of a table
missing : (ms : List Member) (k v : ℕ) → line_of ms k v ≡ None → NoneOf (λ m. (m.bits ≡ k) × (m.number ≡ v)) ms
missing [] k v is = λ i d inside. absurd (omega arith)
missing (m ∷ ms) k v is =
    let P : Member → Type 0 = λ m. (m.bits ≡ k) × (m.number ≡ v) → ⊥ in
    let Q : Option TableLine → Type 0 = λ o. o ≡ None → All P (m ∷ ms) in
    cond_both (eqb m.bits k && eqb m.number v) (Some m.line) (line_of ms k v) Q
    (λ yes same. absurd (let never : Some m.line ≡ None = same in cc))
    (λ no same. all-cons P m ms (λ at. false≢true (sym no ∙ and_from (eqb m.bits k) (eqb m.number v) (eq-eqb m.bits k at.0) (eq-eqb m.number v at.1))) (missing ms k v same))
    is

begins-none : (ms : List Member) (k v : ℕ) → begins_longer ms k v ≡ false → NoneOf (λ m. (k < m.bits) × (m.number / 2 ^ (m.bits - k) ≡ v)) ms
begins-none [] k v is = λ i d inside. absurd (omega arith)
begins-none (m ∷ ms) k v is =
    let P : Member → Type 0 = λ m. (k < m.bits) × (m.number / 2 ^ (m.bits - k) ≡ v) → ⊥ in
    let front = m.number / 2 ^ (m.bits - k) in
    let parts = or_parts (ltb k m.bits && eqb front v) (begins_longer ms k v) is in
    all-cons P m ms (λ at. false≢true (sym parts.0 ∙ and_from (ltb k m.bits) (eqb front v) (lt-ltb k m.bits at.0) (eq-eqb front v at.1))) (begins-none ms k v parts.1)

begins-some : (ms : List Member) (k v : ℕ) → begins_longer ms k v ≡ true → Any (λ m. (k < m.bits) × (m.number / 2 ^ (m.bits - k) ≡ v)) ms
begins-some [] k v is = absurd (false≢true is)
begins-some (m ∷ ms) k v is =
    let P : Member → Type 0 = λ m. (k < m.bits) × (m.number / 2 ^ (m.bits - k) ≡ v) in
    let front = m.number / 2 ^ (m.bits - k) in
    ⊎_elim
    (λ (here : (ltb k m.bits && eqb front v) ≡ true). let parts = and_parts (ltb k m.bits) (eqb front v) here in any-here P m ms (ltb-true k m.bits parts.0, eqb-true front v parts.1))
    (λ (there : begins_longer ms k v ≡ true). any-there P m ms (begins-some ms k v there))
    (or_cases (ltb k m.bits && eqb front v) (begins_longer ms k v) is)

-- the code that a line was found by
found-some : (ms : List Member) (k v : ℕ) (x : TableLine) → line_of ms k v ≡ Some x → Any (λ m. (m.bits ≡ k) × (m.number ≡ v) × (m.line ≡ x)) ms
found-some [] k v x is = absurd (let never : None ≡ Some x = is in cc)
found-some (m ∷ ms) k v x is =
    let P : Member → Type 0 = λ m. (m.bits ≡ k) × (m.number ≡ v) × (m.line ≡ x) in
    let Q : Option TableLine → Type 0 = λ o. o ≡ Some x → Any P (m ∷ ms) in
    cond_both (eqb m.bits k && eqb m.number v) (Some m.line) (line_of ms k v) Q
    (λ yes same. let parts = and_parts (eqb m.bits k) (eqb m.number v) yes in any-here P m ms (eqb-true m.bits k parts.0, eqb-true m.number v parts.1, (let e : Some m.line ≡ Some x = same in cc)))
    (λ no same. any-there P m ms (found-some ms k v x same))
    is

-- ---- a code
-- no code of fewer bits begins them, and they begin a longer one
record Undecided (ms : List Member) (bits : List ℕ) (k : ℕ) : Type 0 where
  none : line_of ms k (front_number k bits) ≡ None
  longer : begins_longer ms k (front_number k bits) ≡ true

not-found : (o : Option TableLine) → is_some o ≡ false → o ≡ None
not-found None is = refl
not-found (Some line) is = absurd (false≢true (sym is))

undecided : (ms : List Member) (bits : List ℕ) (k : ℕ) → is_decided ms bits k ≡ false → Undecided ms bits k
undecided ms bits k is =
    let v = front_number k bits in
    let parts = or_parts (is_some (line_of ms k v)) (not (begins_longer ms k v)) is in
    record { none = not-found (line_of ms k v) parts.0; longer = not-false (begins_longer ms k v) parts.1 }

-- where it is not found, no longer code begins with it
decided-none : (ms : List Member) (bits : List ℕ) (k : ℕ) → is_decided ms bits k ≡ true → line_of ms k (front_number k bits) ≡ None → begins_longer ms k (front_number k bits) ≡ false
decided-none ms bits k is none =
    let v = front_number k bits in
    not-true (begins_longer ms k v) (ap (λ (o : Option TableLine). is_some o || not (begins_longer ms k v)) (sym none) ∙ is)

taken-all : (bits : List ℕ) → take (length bits) bits ≡ bits
taken-all [] = refl
taken-all (b ∷ bits) = ap (λ (xs : List ℕ). b ∷ xs) (taken-all bits)

-- where the bits end and nothing was decided
ended-cause : (ms : List Member) (bits : List ℕ) → ((i : ℕ) → 1 ≤ i → i ≤ length bits → Undecided ms bits i) → BreaksCode ms bits (Parse UnexpectedEof)
ended-cause ms bits still =
    let whole : front_number (length bits) bits ≡ number_after 0 bits = ap (λ (xs : List ℕ). number_after 0 xs) (taken-all bits) in (
      λ i d inside begins.
          let m = slice_index_or ms i d in
          missing ms m.bits (front_number m.bits bits) (still m.bits begins.0 begins.1).none i d inside (refl, begins.2),
      ⊎_elim
          (λ (none : length bits ≡ 0). inl none)
          (λ (some : length bits ≡ 0 → ⊥). inr (begins-some ms (length bits) (number_after 0 bits) (ap (λ (v : ℕ). begins_longer ms (length bits) v) (sym whole) ∙ (still (length bits) (omega (arith, some)) (omega arith)).longer)))
          (cases_eq (length bits) 0),
    )

-- where k bits begin no code
refused-cause : (ms : List Member) (bits : List ℕ) (k : ℕ) → AreBits bits → 1 ≤ k → k ≤ length bits → ((i : ℕ) → 1 ≤ i → i < k → Undecided ms bits i) → line_of ms k (front_number k bits) ≡ None → begins_longer ms k (front_number k bits) ≡ false → BreaksCode ms bits (Huffman InvalidCode)
refused-cause ms bits k are low high still none ends =
    let whole : front_number (length bits) bits ≡ number_after 0 bits = ap (λ (xs : List ℕ). number_after 0 xs) (taken-all bits) in (
      λ i d inside begins.
          let m = slice_index_or ms i d in
          ⊎_elim
          (λ (below : m.bits < k). missing ms m.bits (front_number m.bits bits) (still m.bits begins.0 below).none i d inside (refl, begins.2))
          (λ (above : k ≤ m.bits). ⊎_elim
          (λ (here : k ≡ m.bits). missing ms k (front_number k bits) none i d inside (sym here, begins.2 ∙ ap (λ (n : ℕ). front_number n bits) (sym here)))
          (λ (o : k ≡ m.bits → ⊥). begins-none ms k (front_number k bits) ends i d inside (omega (arith, o), ap (λ (n : ℕ). n / 2 ^ (m.bits - k)) begins.2 ∙ fewer 0 m.bits k bits are above begins.1))
          (cases_eq k m.bits))
          (cases_lt m.bits k),
      λ i d inside goes.
          let m = slice_index_or ms i d in
          let l = length bits in
          let size : m.bits - k ≡ m.bits - l + (l - k) = omega (arith, goes.0) in
          begins-none ms k (front_number k bits) ends i d inside (
            omega (arith, goes.0),
            ap (λ (n : ℕ). m.number / 2 ^ n) size ∙ ap (λ (n : ℕ). m.number / n) (pow-add 2 (m.bits - l) (l - k)) ∙ sym (div-div-eq-div-mul m.number (2 ^ (m.bits - l)) (2 ^ (l - k)))
                ∙ ap (λ (n : ℕ). n / 2 ^ (l - k)) (goes.1 ∙ sym whole) ∙ fewer 0 l k bits are high (omega arith),
          ),
    )

found-cause : (P : DecodeError → Type 0) (o : Option TableLine) (k : ℕ) → (o ≡ None → P (Huffman InvalidCode)) → IfErr (found_or o k (unknown_code k)).result P
found-cause P (Some line) k why = tt
found-cause P None k why = why refl

code-of : (P : DecodeError → Type 0) (ms : List Member) (bits : List ℕ) → AreBits bits → (BreaksCode ms bits (Parse UnexpectedEof) → P (Parse UnexpectedEof)) → (BreaksCode ms bits (Huffman InvalidCode) → P (Huffman InvalidCode)) → IfErr (read_code ms bits).result P
unfolding read_code
code-of P ms bits are at_end at_code =
    let test : ℕ → Bool = is_decided ms bits in
    let n = length bits + 1 - 1 in
    let k = least test n (length bits + 1) in
    let at = least-within n test (length bits + 1) in
    let still : (i : ℕ) → 1 ≤ i → i < k → Undecided ms bits i = λ i low high. undecided ms bits i (before-least n test (length bits + 1) i (omega arith) (omega arith) high) in
    let o : Option TableLine = line_of ms k (front_number k bits) in
    let Q : CodeReading TableLine → Type 0 = λ r. IfErr r.result P in
    cond_both (ltb (length bits) k) (cut_off_code k) (found_or o k (unknown_code k)) Q
    (λ short. at_end (ended-cause ms bits (λ i low high. still i low (omega (arith, ltb-true (length bits) k short)))))
    (λ there. let enough = ltb-false (length bits) k there in
    found-cause P o k (λ none. at_code (refused-cause ms bits k are (omega (arith, at.0)) enough still none (decided-none ms bits k (at-least n test (length bits + 1) (omega (arith, enough))) none))))

-- the code whose line is read
found-is : (ms : List Member) (bits : List ℕ) (k : ℕ) (o : Option TableLine) (line : TableLine) → 1 ≤ k → k ≤ length bits → line_of ms k (front_number k bits) ≡ o → (found_or o k (unknown_code k)).result ≡ Ok line → Any (λ m. Begins bits m × (m.bits ≡ (found_or o k (unknown_code k)).taken) × (m.line ≡ line)) ms
found-is ms bits k None line low high is same = absurd (let never : ◌≡◌ {A = Result TableLine DecodeError} (Err (Huffman InvalidCode)) (Ok line) = same in cc)
found-is ms bits k (Some x) line low high is same =
    let this : x ≡ line = let e : ◌≡◌ {A = Result TableLine DecodeError} (Ok x) (Ok line) = same in cc in
    let any = found-some ms k (front_number k bits) x is in
    (any.0, any.1, any.2, any.3, ((omega (arith, any.4.0), omega (arith, any.4.0), any.4.1 ∙ ap (λ (i : ℕ). front_number i bits) (sym any.4.0)), any.4.0, any.4.2 ∙ this))

code-found : (ms : List Member) (bits : List ℕ) (line : TableLine) → (read_code ms bits).result ≡ Ok line → Any (λ m. Begins bits m × (m.bits ≡ (read_code ms bits).taken) × (m.line ≡ line)) ms
unfolding read_code
code-found ms bits line =
    let test : ℕ → Bool = is_decided ms bits in
    let n = length bits + 1 - 1 in
    let k = least test n (length bits + 1) in
    let at = least-within n test (length bits + 1) in
    let o : Option TableLine = line_of ms k (front_number k bits) in
    let Q : CodeReading TableLine → Type 0 = λ r. r.result ≡ Ok line → Any (λ m. Begins bits m × (m.bits ≡ r.taken) × (m.line ≡ line)) ms in
    cond_both (ltb (length bits) k) (cut_off_code k) (found_or o k (unknown_code k)) Q
    (λ short same. absurd (let never : ◌≡◌ {A = Result TableLine DecodeError} (Err (Parse UnexpectedEof)) (Ok line) = same in cc))
    (λ there. found-is ms bits k o line (omega (arith, at.0)) (ltb-false (length bits) k there) refl)

left-are : (p : Place) → AreBits (bits_left p)
unfolding bits_left
left-are p = bits-drop p.bit (flat_map byte_bits p.bytes) (byte-bits p.bytes)

pub code_cause : {X : Type 0} (ms : List Member) (p : Place) (r : Result X DecodeError) → IfErr r (λ e. (read_code ms (bits_left p)).result ≡ Err e) → HasCause r (BreaksCode ms (bits_left p))
code_cause ms p r =
    let P : DecodeError → Type 0 = BreaksCode ms (bits_left p) in
    call-cause P (read_code ms (bits_left p)).result r (code-of P ms (bits_left p) (left-are p) (λ why. why) (λ why. why))

-- ---- a value
pub word-cause : (P : DecodeError → Type 0) (n : ℤ) → (LeavesWord n → P (Huffman InvalidCode)) → IfErr (in_word n) P
word-cause P (pos n) why =
    let Q : Result ℤ DecodeError → Type 0 = λ r. IfErr r P in
    cond_both (ltb n 2147483648) (Ok (pos n)) (Err (Huffman InvalidCode)) Q (λ within. tt) (λ out. why (ltb-false n 2147483648 out))
word-cause P (negsuc n) why =
    let Q : Result ℤ DecodeError → Type 0 = λ r. IfErr r P in
    cond_both (ltb n 2147483648) (Ok (negsuc n)) (Err (Huffman InvalidCode)) Q (λ within. tt) (λ out. why (ltb-false n 2147483648 out))

some-cause : (P : DecodeError → Type 0) (r : Result ℤ DecodeError) → IfErr r P → IfErr (some_value r) P
some-cause P (Ok n) why = tt
some-cause P (Err e) why = why

read-range : (P : DecodeError → Type 0) (line : TableLine) (bits : List ℕ) → (BreaksRange line bits (Huffman InvalidCode) → P (Huffman InvalidCode)) → IfErr (value_by line (bits_next line.range_length bits)) P
read-range P line bits why =
    let n = line.range_length in
    let R : Option ℕ → Type 0 = λ o. IfErr (value_by line o) P in
    cond_both (ltb (length bits) n) None (Some (front_number n bits)) R
    (λ short. why (inl (ltb-true (length bits) n short)))
    (λ there. some-cause P (in_word (value_of_line line (front_number n bits))) (word-cause P (value_of_line line (front_number n bits)) (λ leaves. why (inr leaves))))

range-cause : (P : DecodeError → Type 0) (line : TableLine) (bits : List ℕ) → (BreaksNumbered line bits → P (Huffman InvalidCode)) → IfErr (value_after line bits) P
range-cause P line bits why =
    let Q : Result (Option ℤ) DecodeError → Type 0 = λ r. IfErr r P in
    cond_both line.is_out_of_band (Ok None) (value_by line (bits_next line.range_length bits)) Q (λ out. tt) (λ numbered. read-range P line bits (λ breaks. why (numbered, breaks)))

valued-cause : (P : DecodeError → Type 0) (result : Result TableLine DecodeError) (taken : ℕ) (bits : List ℕ) → IfErr result P → ((line : TableLine) → result ≡ Ok line → BreaksNumbered line (drop taken bits) → P (Huffman InvalidCode)) → IfErr (with_value (record { result = result; taken = taken }) bits).result P
valued-cause P (Ok line) taken bits first why = range-cause P line (drop taken bits) (why line refl)
valued-cause P (Err e) taken bits first why = first

-- the code and the range of a value
value-of : (P : DecodeError → Type 0) (ms : List Member) (bits : List ℕ) → AreBits bits → (BreaksValue ms bits (Parse UnexpectedEof) → P (Parse UnexpectedEof)) → (BreaksValue ms bits (Huffman InvalidCode) → P (Huffman InvalidCode)) → IfErr (decoded_value ms bits).result P
unfolding decoded_value
value-of P ms bits are at_end at_code =
    let r = read_code ms bits in
    valued-cause P r.result r.taken bits (code-of P ms bits are at_end (λ why. at_code (inl why)))
    (λ line is breaks.
    let any = code-found ms bits line is in
    let R : TableLine → Type 0 = λ x. BreaksNumbered x (drop any.1.bits bits) in
    let same : BreaksNumbered line (drop any.1.bits bits) = subst (λ (n : ℕ). BreaksNumbered line (drop n bits)) (sym any.4.1) breaks in
    at_code (inr (any.0, any.1, any.2, any.3, (any.4.0, subst R (sym any.4.2) same))))

pub range_cause : {X : Type 0} (line : TableLine) (bits : List ℕ) (r : Result X DecodeError) → IfErr r (λ e. value_by line (bits_next line.range_length bits) ≡ Err e) → HasCause r (BreaksRange line bits)
range_cause line bits r =
    call-cause (BreaksRange line bits) (value_by line (bits_next line.range_length bits)) r (read-range (BreaksRange line bits) line bits (λ why. why))

-- ---- a value that may not be out of band
no-value : (line : TableLine) (bits : List ℕ) → value_after line bits ≡ Ok None → line.is_out_of_band ≡ true
no-value line bits same =
    let Q : Result (Option ℤ) DecodeError → Type 0 = λ r. r ≡ Ok None → line.is_out_of_band ≡ true in
    cond_both line.is_out_of_band (Ok None) (value_by line (bits_next line.range_length bits)) Q (λ out same. out) (λ numbered same. absurd (some-line line (bits_next line.range_length bits) same)) same
  where
    some-number : (r : Result ℤ DecodeError) → some_value r ≡ Ok None → ⊥
    some-number (Ok n) same = let never : ◌≡◌ {A = Result (Option ℤ) DecodeError} (Ok (Some n)) (Ok None) = same in cc
    some-number (Err e) same = let never : ◌≡◌ {A = Result (Option ℤ) DecodeError} (Err e) (Ok None) = same in cc

    some-line : (line : TableLine) (o : Option ℕ) → value_by line o ≡ Ok None → ⊥
    some-line line None same = let never : ◌≡◌ {A = Result (Option ℤ) DecodeError} (Err (Huffman InvalidCode)) (Ok None) = same in cc
    some-line line (Some n) same = some-number (in_word (value_of_line line n)) same

none-valued : (result : Result TableLine DecodeError) (taken : ℕ) (bits : List ℕ) → (with_value (record { result = result; taken = taken }) bits).result ≡ Ok None → (line : TableLine) × (result ≡ Ok line) × (line.is_out_of_band ≡ true)
none-valued (Ok line) taken bits same = (line, refl, no-value line (drop taken bits) same)
none-valued (Err e) taken bits same = absurd (let never : ◌≡◌ {A = Result (Option ℤ) DecodeError} (Err e) (Ok None) = same in cc)

none-read : (ms : List Member) (bits : List ℕ) → (decoded_value ms bits).result ≡ Ok None → Any (λ m. Begins bits m × (m.line.is_out_of_band ≡ true)) ms
unfolding decoded_value
none-read ms bits same =
    let r = read_code ms bits in
    let at = none-valued r.result r.taken bits same in
    let any = code-found ms bits at.0 at.1 in
    (any.0, any.1, any.2, any.3, (any.4.0, ap (λ (x : TableLine). x.is_out_of_band) any.4.2 ∙ at.2))

oob-cause : (P : DecodeError → Type 0) (r : Result (Option ℤ) DecodeError) → IfErr r P → (r ≡ Ok None → P (Huffman UnexpectedOob)) → IfErr (no_oob r) P
oob-cause P (Ok (Some n)) first why = tt
oob-cause P (Ok None) first why = why refl
oob-cause P (Err e) first why = first

pub number_cause : {X : Type 0} (ms : List Member) (p : Place) (r : Result X DecodeError) → IfErr r (λ e. (without_oob (decoded_value ms (bits_left p))).result ≡ Err e) → HasCause r (BreaksNumber ms (bits_left p))
number_cause ms p r =
    let bits = bits_left p in
    let P : DecodeError → Type 0 = BreaksNumber ms bits in
    call-cause P (without_oob (decoded_value ms bits)).result r
    (oob-cause P (decoded_value ms bits).result (value-of P ms bits (left-are p) (λ why. why) (λ why. why)) (none-read ms bits))

-- ---- the codes of lengths
pub table-cause : (P : DecodeError → Type 0) (lines : List TableLine) → (AreCrowded lines → P (Huffman InvalidCode)) → IfErr (table_of lines) P
unfolding is_crowded
table-cause P lines why =
    let Q : Result (List Member) DecodeError → Type 0 = λ r. IfErr r P in
    cond_both (is_crowded lines) (Err (Huffman InvalidCode)) (Ok (prefix_code lines)) Q (λ crowded. why (ltb-true (2 ^ longest lines) (weight (longest lines) lines) crowded)) (λ fits. tt)

pub table_cause : {X : Type 0} (lines : List TableLine) (r : Result X DecodeError) → IfErr r (λ e. (e ≡ OutOfMemory) ⊎ (table_of lines ≡ Err e)) → HasCauseOrNoMemory r (BreaksTable lines)
table_cause lines r = call-cause-or-memory (BreaksTable lines) (table_of lines) r (table-cause (BreaksTable lines) lines (λ crowded. crowded))

-- ---- the choice of tables
selection-of : (customs : List (List Member)) → IfErr (next_custom customs) (BreaksSelection customs)
selection-of [] = refl
selection-of (table ∷ others) = tt

pub selection_cause : {X : Type 0} (customs : List (List Member)) (r : Result X DecodeError) → IfErr r (λ e. next_custom customs ≡ Err e) → HasCause r (BreaksSelection customs)
selection_cause customs r = call-cause (BreaksSelection customs) (next_custom customs) r (selection-of customs)
