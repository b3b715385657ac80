-- Which rule the bits of a custom table break where it is refused.
use Rattle.std.proofs.Common.{◌≡◌, ℕ, zero, suc, ◌+◌, ◌-◌, ◌*◌, ◌/◌, ◌%◌, ◌^◌, ◌<◌, ◌≤◌, ltb, Bool, true, false, cond, List, [], ◌∷◌, length, drop, Option, Some, None, Result, Ok, Err, ℤ, pos, negsuc, ◌+ℤ◌, ◌-ℤ◌, refl, sym, ◌∙◌, ap, subst, arith, inl, inr, ⊎_elim, ltb-true, ltb-false, length-drop}
use Rattle.std.specs.Prelude.{IfErr, int_lt, ◌⊎◌}
use Rattle.std.specs.List.{flat_map}
use Rattle.std.proofs.lemmas.Bool.{cond_both, false≢true}
use Rattle.jbig2_base.specs.Results.{◌>>=◌, some_or}
use Rattle.jbig2_base.specs.Bits.{Place, bits_left, bits_next, bits_on, byte_bits}
use Rattle.jbig2_base.specs.declared.error.DecodeError.{DecodeError}
use Rattle.jbig2_base.specs.declared.error.DecodeError.TheVariants.{OutOfMemory, Parse, Huffman}
use Rattle.jbig2_base.specs.declared.error.ParseError.TheVariants.{UnexpectedEof}
use Rattle.jbig2_base.specs.declared.error.HuffmanError.TheVariants.{InvalidCode}
use Rattle.jbig2_base.specs.Causes.{HasCauseOrNoMemory, LeavesWord}
use Rattle.jbig2_base.proofs.Causes.{cause-next, same-ok, went}
use Rattle.jbig2_base.proofs.ReaderLemmas.{bits_on-enough}
use Rattle.jbig2_coder.specs.Causes.{BreaksCustom, BreaksLines, BreaksSomeLine}
use Rattle.jbig2_coder.specs.CustomTable.{GivesAt, TableStep, concat, custom_header, custom_line, custom_lines, custom_table, end_lines, field, left_at, next_low, range_lines, range_lines_in}
use Rattle.jbig2_coder.specs.inner.CodeReadings.{last_line}
use Rattle.jbig2_coder.specs.PrefixCode.{Member, front_number, in_word, table_of}
use Rattle.jbig2_coder.specs.Tables.{lower, out_of_band, upper}
use Rattle.jbig2_coder.specs.declared.huffman_table.custom.Header.{Header}
use Rattle.jbig2_coder.specs.declared.huffman_table.line.TableLine.{TableLine}
use Rattle.jbig2_coder.proofs.Causes.{table-cause, word-cause}

-- ---- parts of the causes, under names of their own
-- the range length of the line at this place
abbrev range_at : Header → Place → ℕ
range_at h p = front_number h.range_bits (bits_left (bits_on h.prefix_bits p))

-- the low value of the line after it
abbrev low_after : Header → ℤ → Place → ℤ
low_after h low p = low +ℤ pos (2 ^ range_at h p)

-- A line: its two lengths are not there, or its range is above 31 bits, or leads out of signed 32 bits.
abbrev BreaksLine : Header → ℤ → Place → Type 0
BreaksLine h low p =
    (length (bits_left p) < h.prefix_bits + h.range_bits) ⊎ ((32 ≤ range_at h p) ⊎ LeavesWord (low_after h low p))

-- The lengths of the lower, the upper and the out-of-band line are not all there.
abbrev BreaksEndLines : Header → Place → Type 0
BreaksEndLines h p = length (bits_left p) < cond h.has_out_of_band 3 2 * h.prefix_bits

-- ---- steps
-- a step that returns well, or refuses with such an error
abbrev CauseAt : {A : Type 0} → (DecodeError → Type 0) → TableStep A → Type 0
CauseAt P s = IfErr s (λ refusal. P refusal.0)

cause-on : {A B : Type 0} (P : DecodeError → Type 0) (s : TableStep A) (next : A × Place → TableStep B) → CauseAt P s → ((x : A × Place) → s ≡ Ok x → CauseAt P (next x)) → CauseAt P (s >>= next)
cause-on P s next first rest = cause-next (λ refusal. P refusal.0) s next first rest

cause-left : {A : Type 0} (P : DecodeError → Type 0) (p : Place) (r : Result A DecodeError) → IfErr r P → CauseAt P (left_at p r)
cause-left P p (Ok x) why = tt
cause-left P p (Err e) why = why

left-is : {A : Type 0} (p : Place) (r : Result A DecodeError) (x : A × Place) → left_at p r ≡ Ok x → (r ≡ Ok x.0) × (p ≡ x.1)
left-is p (Ok y) x is = let same : (y, p) ≡ x = same-ok (y, p) x is in (ap (λ (z : _ × Place). Ok z.0) same, ap (λ (z : _ × Place). z.1) same)
left-is {A} p (Err e) x is = absurd (let never : ◌≡◌ {A = TableStep A} (Err (e, p)) (Ok x) = is in cc)

cause-field : (P : DecodeError → Type 0) (e : DecodeError) (count : ℕ) (p : Place) → (length (bits_left p) < count → P e) → CauseAt P (field e count p)
cause-field P e count p why =
    let Q : Option ℕ → Type 0 = λ o. IfErr (some_or e o) P in
    cause-left P (bits_on count p) (some_or e (bits_next count (bits_left p)))
    (cond_both (ltb (length (bits_left p)) count) None (Some (front_number count (bits_left p))) Q (λ short. why (ltb-true (length (bits_left p)) count short)) (λ there. tt))

-- a field that is there
record There (count : ℕ) (p : Place) (x : ℕ × Place) : Type 0 where
  enough : count ≤ length (bits_left p)
  number : front_number count (bits_left p) ≡ x.0
  place : bits_on count p ≡ x.1
  left : length (bits_left x.1) + count ≡ length (bits_left p)

bits-of : (bytes : List ℕ) → length (flat_map byte_bits bytes) ≡ 8 * length bytes
bits-of [] = refl
bits-of (b ∷ bytes) = let rest = bits-of bytes in omega arith

how-many : (p : Place) → length (bits_left p) ≡ 8 * length p.bytes - p.bit
unfolding bits_left
how-many p = length-drop p.bit (flat_map byte_bits p.bytes) ∙ ap (λ (n : ℕ). n - p.bit) (bits-of p.bytes)

-- how many bits are left after a field that is there
left-after : (n : ℕ) (p : Place) → n ≤ length (bits_left p) → length (bits_left (bits_on n p)) + n ≡ length (bits_left p)
left-after n p enough =
    let k = (p.bit + n) / 8 in
    let q : Place = record { bytes = drop k p.bytes; bit = (p.bit + n) % 8 } in
    let at : length (bits_left (bits_on n p)) ≡ length (bits_left q) = ap (λ (r : Place). length (bits_left r)) (bits_on-enough n p enough) in
    let here = how-many p in
    let there = how-many q in
    let fewer : length (drop k p.bytes) ≡ length p.bytes - k = length-drop k p.bytes in
    omega (arith, at, here, there, fewer, enough)

field-there : (e : DecodeError) (count : ℕ) (p : Place) (x : ℕ × Place) → field e count p ≡ Ok x → There count p x
field-there e count p x is =
    let n = front_number count (bits_left p) in
    let read = left-is (bits_on count p) (some_or e (bits_next count (bits_left p))) x is in
    let Q : Option ℕ → Type 0 = λ o. some_or e o ≡ Ok x.0 → (count ≤ length (bits_left p)) × (n ≡ x.0) in
    let both =
    cond_both (ltb (length (bits_left p)) count) None (Some n) Q
    (λ short is. absurd (let never : ◌≡◌ {A = Result ℕ DecodeError} (Err e) (Ok x.0) = is in cc))
    (λ there is. (ltb-false (length (bits_left p)) count there, same-ok n x.0 is))
    read.0 in
    record {
      enough = both.0;
      number = both.1;
      place = read.1;
      left = ap (λ (q : Place). length (bits_left q) + count) (sym read.1) ∙ left-after count p both.0;
    }

-- ---- a line
cause-next_low : (P : DecodeError → Type 0) (low : ℤ) (range : ℕ) → (32 ≤ range → P (Huffman InvalidCode)) → (LeavesWord (low +ℤ pos (2 ^ range)) → P (Huffman InvalidCode)) → IfErr (next_low low range) P
cause-next_low P low range wide leaves =
    let Q : Result ℤ DecodeError → Type 0 = λ r. IfErr r P in
    cond_both (ltb range 32) (in_word (low +ℤ pos (2 ^ range))) (Err (Huffman InvalidCode)) Q (λ narrow. word-cause P (low +ℤ pos (2 ^ range)) leaves) (λ high. wide (ltb-false range 32 high))

word-is : (n m : ℤ) → in_word n ≡ Ok m → n ≡ m
word-is (pos n) m =
    let Q : Result ℤ DecodeError → Type 0 = λ r. r ≡ Ok m → pos n ≡ m in
    cond_both (ltb n 2147483648) (Ok (pos n)) (Err (Huffman InvalidCode)) Q (λ within is. (let same : ◌≡◌ {A = Result ℤ DecodeError} (Ok (pos n)) (Ok m) = is in cc)) (λ out is. absurd (let never : ◌≡◌ {A = Result ℤ DecodeError} (Err (Huffman InvalidCode)) (Ok m) = is in cc))
word-is (negsuc n) m =
    let Q : Result ℤ DecodeError → Type 0 = λ r. r ≡ Ok m → negsuc n ≡ m in
    cond_both (ltb n 2147483648) (Ok (negsuc n)) (Err (Huffman InvalidCode)) Q (λ within is. (let same : ◌≡◌ {A = Result ℤ DecodeError} (Ok (negsuc n)) (Ok m) = is in cc)) (λ out is. absurd (let never : ◌≡◌ {A = Result ℤ DecodeError} (Err (Huffman InvalidCode)) (Ok m) = is in cc))

next_low-is : (low : ℤ) (range : ℕ) (m : ℤ) → next_low low range ≡ Ok m → low +ℤ pos (2 ^ range) ≡ m
next_low-is low range m =
    let Q : Result ℤ DecodeError → Type 0 = λ r. r ≡ Ok m → low +ℤ pos (2 ^ range) ≡ m in
    cond_both (ltb range 32) (in_word (low +ℤ pos (2 ^ range))) (Err (Huffman InvalidCode)) Q (λ narrow is. word-is (low +ℤ pos (2 ^ range)) m is) (λ high is. absurd (let never : ◌≡◌ {A = Result ℤ DecodeError} (Err (Huffman InvalidCode)) (Ok m) = is in cc))

range-at : (h : Header) (p : Place) (len range : ℕ × Place) → There h.prefix_bits p len → There h.range_bits len.1 range → range_at h p ≡ range.0
range-at h p len range first second = ap (λ (q : Place). front_number h.range_bits (bits_left q)) first.place ∙ second.number

cause-line : (P : DecodeError → Type 0) (h : Header) (low : ℤ) (p : Place) → (BreaksLine h low p → P (Huffman InvalidCode)) → CauseAt P (custom_line h low p)
cause-line P h low p why =
    cause-on P (field (Huffman InvalidCode) h.prefix_bits p) _ (cause-field P (Huffman InvalidCode) h.prefix_bits p (λ short. why (inl (omega arith)))) (λ len len_is.
    let first = field-there (Huffman InvalidCode) h.prefix_bits p len len_is in
    cause-on P (field (Huffman InvalidCode) h.range_bits len.1) _ (cause-field P (Huffman InvalidCode) h.range_bits len.1 (λ short. why (inl (omega (arith, first.left))))) (λ range range_is.
    let at = range-at h p len range first (field-there (Huffman InvalidCode) h.range_bits len.1 range range_is) in
    cause-on P (left_at range.1 (next_low low range.0)) _
    (cause-left P range.1 (next_low low range.0)
    (cause-next_low P low range.0 (λ wide. why (inr (inl (omega (arith, at)))))
    (λ leaves. why (inr (inr (let L : ℕ → Type 0 = λ n. LeavesWord (low +ℤ pos (2 ^ n)) in subst L (sym at) leaves))))))
    (λ next next_is. tt)))

-- the low value and the place after a line that is there
line-there : (h : Header) (low : ℤ) (p : Place) (x : (TableLine × ℤ) × Place) → custom_line h low p ≡ Ok x → (low_after h low p ≡ x.0.1) × (bits_on h.range_bits (bits_on h.prefix_bits p) ≡ x.1)
line-there h low p x is =
    let len = went (field (Huffman InvalidCode) h.prefix_bits p) _ x is in
    let range = went (field (Huffman InvalidCode) h.range_bits len.0.1) _ x len.2 in
    let next = went (left_at range.0.1 (next_low low range.0.0)) _ x range.2 in
    let whole = same-ok _ x next.2 in
    let first = field-there (Huffman InvalidCode) h.prefix_bits p len.0 len.1 in
    let second = field-there (Huffman InvalidCode) h.range_bits len.0.1 range.0 range.1 in
    let last = left-is range.0.1 (next_low low range.0.0) next.0 next.1 in (
      ap (λ (n : ℕ). low +ℤ pos (2 ^ n)) (range-at h p len.0 range.0 first second)
          ∙ next_low-is low range.0.0 next.0.0 last.0
          ∙ ap (λ (y : (TableLine × ℤ) × Place). y.0.1) whole,
      ap (λ (q : Place). bits_on h.range_bits q) first.place
          ∙ second.place
          ∙ last.1
          ∙ ap (λ (y : (TableLine × ℤ) × Place). y.1) whole,
    )

-- ---- lines
cause-after : (P : DecodeError → Type 0) (before : List TableLine) (s : TableStep (List TableLine)) → CauseAt P s → CauseAt P (concat before s)
cause-after P before s why = cause-on P s _ why (λ lines is. tt)

cause-lines : (P : DecodeError → Type 0) (n : ℕ) (h : Header) (low : ℤ) (p : Place) → (BreaksSomeLine n h low p → P (Huffman InvalidCode)) → CauseAt P (range_lines_in n h low p)
cause-lines P zero h low p why = tt
cause-lines P (suc n) h low p why =
    let Q : TableStep (List TableLine) → Type 0 = λ s. CauseAt P s in
    let next : (TableLine × ℤ) × Place → TableStep (List TableLine) = λ x. concat (x.0.0 ∷ []) (range_lines_in n h x.0.1 x.1) in
    cond_both (int_lt low h.maximum) (custom_line h low p >>= next) (Ok ([], p)) Q
    (λ more. cause-on P (custom_line h low p) next (cause-line P h low p (λ breaks. why (more, inl breaks)))
    (λ x is.
    let there = line-there h low p x is in
    cause-after P (x.0.0 ∷ []) (range_lines_in n h x.0.1 x.1)
    (cause-lines P n h x.0.1 x.1 (λ later. why (
      more,
      inr
          (let R : ℤ → Type 0 = λ i. BreaksSomeLine n h i (bits_on h.range_bits (bits_on h.prefix_bits p)) in
          let T : Place → Type 0 = λ q. BreaksSomeLine n h x.0.1 q in
          subst R (sym there.0) (subst T (sym there.1) later)),
    )))))
    (λ past. tt)

-- ---- the last lines
cause-last : (P : DecodeError → Type 0) (h : Header) (p : Place) → (h.has_out_of_band ≡ true → length (bits_left p) < h.prefix_bits → P (Huffman InvalidCode)) → CauseAt P (last_line h p)
cause-last P h p why =
    let Q : TableStep (List TableLine) → Type 0 = λ s. CauseAt P s in
    cond_both h.has_out_of_band (field (Huffman InvalidCode) h.prefix_bits p >>= λ len. Ok (out_of_band len.0 ∷ [], len.1)) (Ok ([], p)) Q
    (λ oob. cause-on P (field (Huffman InvalidCode) h.prefix_bits p) _ (cause-field P (Huffman InvalidCode) h.prefix_bits p (λ short. why oob short)) (λ len is. tt))
    (λ none. tt)

three : (b : Bool) (n m : ℕ) → b ≡ true → n < 3 * m → n < cond b 3 2 * m
three true n m is below = below
three false n m is below = absurd (false≢true is)

two : (b : Bool) (n m : ℕ) → n < 2 * m → n < cond b 3 2 * m
two true n m below = omega arith
two false n m below = below

cause-end : (P : DecodeError → Type 0) (h : Header) (p : Place) → (BreaksEndLines h p → P (Huffman InvalidCode)) → CauseAt P (end_lines h p)
cause-end P h p why =
    let n = h.prefix_bits in
    let e = Huffman InvalidCode in
    let size = length (bits_left p) in
    cause-on P (field e n p) _ (cause-field P e n p (λ short. why (two h.has_out_of_band size n (omega arith)))) (λ below below_is.
    let first = field-there e n p below below_is in
    cause-on P (field e n below.1) _ (cause-field P e n below.1 (λ short. why (two h.has_out_of_band size n (omega (arith, first.left))))) (λ above above_is.
    let second = field-there e n below.1 above above_is in
    cause-after P (lower below.0 (h.minimum -ℤ pos 1) ∷ upper above.0 h.maximum ∷ []) (last_line h above.1)
    (cause-last P h above.1 (λ oob short. why (three h.has_out_of_band size n oob (omega (arith, first.left, second.left)))))))

-- ---- the table
cause-header : (P : DecodeError → Type 0) (p : Place) → (length (bits_left p) < 72 → P (Parse UnexpectedEof)) → CauseAt P (custom_header p)
cause-header P p why =
    let e = Parse UnexpectedEof in
    cause-on P (field e 8 p) _ (cause-field P e 8 p (λ short. why (omega arith))) (λ flags flags_is.
    let first = field-there e 8 p flags flags_is in
    cause-on P (field e 32 flags.1) _ (cause-field P e 32 flags.1 (λ short. why (omega (arith, first.left)))) (λ low low_is.
    let second = field-there e 32 flags.1 low low_is in
    cause-on P (field e 32 low.1) _ (cause-field P e 32 low.1 (λ short. why (omega (arith, first.left, second.left)))) (λ high high_is. tt)))

cause-custom_lines : (P : DecodeError → Type 0) (p : Place) → (length (bits_left p) < 72 → P (Parse UnexpectedEof)) → (((header : Header) × (place : Place) × (custom_header p ≡ Ok (header, place)) × BreaksLines header place) → P (Huffman InvalidCode)) → CauseAt P (custom_lines p)
unfolding custom_lines range_lines
cause-custom_lines P p at_end at_code =
    cause-on P (custom_header p) _ (cause-header P p at_end) (λ h h_is.
    cause-on P (range_lines h.0 h.1) _
    (cause-lines P (length (bits_left h.1) + 1) h.0 h.0.minimum h.1 (λ breaks. at_code (h.0, h.1, h_is, inl breaks))) (λ ranges ranges_is.
    cause-after P ranges.0 (end_lines h.0 ranges.1) (cause-end P h.0 ranges.1 (λ short. at_code (h.0, h.1, h_is, inr (ranges.0, ranges.1, ranges_is, short))))))

custom_causes : (p : Place) → CauseAt (BreaksCustom p) (custom_table p)
unfolding custom_table
custom_causes p =
    let P : DecodeError → Type 0 = BreaksCustom p in
    cause-on P (custom_lines p) _ (cause-custom_lines P p (λ short. short) (λ breaks. inl breaks))
    (λ lines is. cause-left P lines.1 (table_of lines.0) (table-cause P lines.0 (λ crowded. inr (lines.0, lines.1, is, crowded))))

-- the error of a call with the table's result, wherever it leaves the reader
pub custom_cause : {X : Type 0} (view : X → List Member) (p q : Place) (r : Result X DecodeError) → GivesAt view r q (custom_table p) → HasCauseOrNoMemory r (BreaksCustom p)
unfolding HasCauseOrNoMemory
custom_cause view p q (Ok x) is = tt
custom_cause view p q (Err e) is =
    ⊎_elim {C = (e ≡ OutOfMemory) ⊎ BreaksCustom p e} (λ memory. inl memory)
    (λ same. inr (subst (λ (s : TableStep (List Member)). CauseAt (BreaksCustom p) s) same (custom_causes p))) is
