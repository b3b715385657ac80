-- Prefix codes are read back.
use Rattle.std.proofs.Common.{◌≡◌, ℕ, ◌+◌, ◌-◌, ◌^◌, ◌<◌, ◌≤◌, true, false, List, [], ◌∷◌, ◌++◌, length, take, ℤ, Option, Some, None, Result, Ok, Err, IfOk, refl, sym, ◌∙◌, ap, subst, arith, length-append, append_assoc, append-nil, ltb-false}
use Rattle.std.proofs.lemmas.Bool.{cond-true, cond-false, cond_both}
use Rattle.std.proofs.lemmas.List.{drop_at}
use Rattle.jbig2_base.specs.Bits.{number_after, bits_next}
use Rattle.jbig2_base.specs.declared.error.DecodeError.{DecodeError}
use Rattle.jbig2_base.specs.declared.error.DecodeError.TheVariants.{Huffman}
use Rattle.jbig2_base.specs.declared.error.HuffmanError.TheVariants.{InvalidCode}
use Rattle.jbig2_coder.specs.declared.huffman_table.line.TableLine.{TableLine}
use Rattle.jbig2_coder.specs.PrefixCode.{Member, CodeReading, level, shorter, longest, weight, is_crowded, prefix_code, table_of, value_by, value_of_line, in_word, read_code, decoded_value, IsFree}
use Rattle.jbig2_coder.specs.inner.CodeReadings.{with_value, value_after, range_bits, some_value}
use Rattle.jbig2_coder.proofs.FreeTables.{tables_are_free}
use Rattle.jbig2_inverses.specs.Digits.{digits}
use Rattle.jbig2_inverses.specs.PrefixWriter.{Chosen, lines_of, code_of_line, number_bits, PrefixCodesReadBack}
use Rattle.jbig2_inverses.proofs.Digits.{length-digits, front-digits, whole-digits, next-digits}
use Rattle.jbig2_inverses.proofs.PrefixMembers.{member, holds-line, longest-in}
use Rattle.jbig2_inverses.proofs.PrefixRoom.{level-in, number-fits}
use Rattle.jbig2_inverses.proofs.PrefixReading.{reads-member}

abbrev number_of : Chosen → ℕ
number_of c = shorter c.line.prefix_length (lines_of c) + length (level c.line.prefix_length c.before)

code-is : (c : Chosen) → code_of_line c ≡ digits c.line.prefix_length (number_of c)
unfolding code_of_line
code-is c = refl

-- what a table that is not refused is
record Made (lines : List TableLine) (table : List Member) : Type 0 where
  table_is : table ≡ prefix_code lines
  room : weight (longest lines) lines ≤ 2 ^ longest lines

abbrev Table : Type 0
Table = Result (List Member) DecodeError

abbrev refused : Table
refused = Err (Huffman InvalidCode)

abbrev Is : List Member → Table → Type 0
Is table (Ok x) = x ≡ table
Is table (Err e) = ⊥

made : (lines : List TableLine) (table : List Member) → table_of lines ≡ Ok table → Made lines table
unfolding is_crowded
made lines table =
    let done : Table = Ok (prefix_code lines) in
    cond_both (is_crowded lines) refused done (λ (r : Table). r ≡ Ok table → Made lines table)
    (λ crowded e. absurd (subst (Is table) (sym e) refl))
    (λ fits e. record { table_is = sym (subst (Is table) (sym e) refl); room = ltb-false (2 ^ longest lines) (weight (longest lines) lines) fits })

fits : (c : Chosen) (table : List Member) → table_of (lines_of c) ≡ Ok table → 0 < c.line.prefix_length → number_of c < 2 ^ c.line.prefix_length
fits c table is some =
    number-fits (longest (lines_of c)) c.before c.line c.after some (longest-in c.before c.line c.after) (made (lines_of c) table is).room

pub reads-code : (c : Chosen) (table : List Member) → table_of (lines_of c) ≡ Ok table → 0 < c.line.prefix_length → (rest : List ℕ)
    → read_code table (code_of_line c ++ rest) ≡ record { result = Ok c.line; taken = c.line.prefix_length }
reads-code c table is some rest =
    let l = c.line.prefix_length in
    let n = number_of c in
    let m : Member = member l n c.line in
    let h = holds-line c.before c.line c.after some in
    let e : table ≡ h.0 ++ m ∷ h.1 = (made (lines_of c) table is).table_is ∙ h.2 in
    let free : IsFree table = subst (λ (r : Result (List Member) DecodeError). IfOk r IsFree) is (tables_are_free.listed (lines_of c)) in
    let small = fits c table is some in
    let bits = digits l n ++ rest in
    let enough : l ≤ length bits = omega (arith, length-append (digits l n) rest, length-digits l n) in
    ap (λ (b : List ℕ). read_code table (b ++ rest)) (code-is c)
    ∙ reads-member table h.0 h.1 m bits e free some enough (λ k inside. front-digits k l (l - k) n rest (omega (arith, inside)) small)

decoded-is : (ms : List Member) (bits : List ℕ) → decoded_value ms bits ≡ with_value (read_code ms bits) bits
unfolding decoded_value
decoded-is ms bits = refl

length-code : (c : Chosen) → length (code_of_line c) ≡ c.line.prefix_length
length-code c = ap length (code-is c) ∙ length-digits c.line.prefix_length (number_of c)

decoded : (c : Chosen) (table : List Member) → table_of (lines_of c) ≡ Ok table → 0 < c.line.prefix_length → (rest : List ℕ)
    → decoded_value table (code_of_line c ++ rest) ≡ record { result = value_after c.line rest; taken = c.line.prefix_length + range_bits c.line }
decoded c table is some rest =
    let bits = code_of_line c ++ rest in
    decoded-is table bits
    ∙ ap (λ (r : CodeReading TableLine). with_value r bits) (reads-code c table is some rest)
    ∙ ap (λ (xs : List ℕ). record { result = value_after c.line xs; taken = c.line.prefix_length + range_bits c.line }) (drop_at (code_of_line c) rest c.line.prefix_length (length-code c))

bits-are : (c : Chosen) (distance : ℕ) → number_bits c distance ≡ code_of_line c ++ digits c.line.range_length distance
unfolding number_bits
bits-are c distance = refl

numbers : (c : Chosen) (table : List Member) → table_of (lines_of c) ≡ Ok table → 0 < c.line.prefix_length → c.line.is_out_of_band ≡ false
    → (distance : ℕ) → distance < 2 ^ c.line.range_length → (n : ℤ) → in_word (value_of_line c.line distance) ≡ Ok n → (rest : List ℕ)
    → decoded_value table (number_bits c distance ++ rest) ≡ record { result = Ok (Some n); taken = length (number_bits c distance) }
numbers c table is some inside distance small n value rest =
    let x = c.line in
    let r = x.range_length in
    let tail = digits r distance ++ rest in
    let split : number_bits c distance ++ rest ≡ code_of_line c ++ tail = ap (λ (b : List ℕ). b ++ rest) (bits-are c distance) ∙ append_assoc (code_of_line c) (digits r distance) rest in
    let given : value_after x tail ≡ Ok (Some n) =
    cond-false x.is_out_of_band (Ok None) (value_by x (bits_next r tail)) inside
    ∙ ap (λ (o : Option ℕ). value_by x o) (next-digits r distance rest small)
    ∙ ap some_value value in
    let size : x.prefix_length + range_bits x ≡ length (number_bits c distance) =
    ap (λ (k : ℕ). x.prefix_length + k) (cond-false x.is_out_of_band 0 r inside)
    ∙ sym (ap length (bits-are c distance) ∙ length-append (code_of_line c) (digits r distance) ∙ (let a = length-code c in let b = length-digits r distance in omega (arith, a, b))) in
    ap (λ (b : List ℕ). decoded_value table b) split
    ∙ decoded c table is some tail
    ∙ ap (λ (v : Result (Option ℤ) DecodeError). record { result = v; taken = x.prefix_length + range_bits x }) given
    ∙ ap (λ (k : ℕ). record { result = Ok (Some n); taken = k }) size

out_of_band : (c : Chosen) (table : List Member) → table_of (lines_of c) ≡ Ok table → 0 < c.line.prefix_length → c.line.is_out_of_band ≡ true → (rest : List ℕ)
    → decoded_value table (code_of_line c ++ rest) ≡ record { result = Ok None; taken = length (code_of_line c) }
out_of_band c table is some oob rest =
    let x = c.line in
    let size : x.prefix_length + range_bits x ≡ length (code_of_line c) =
    ap (λ (k : ℕ). x.prefix_length + k) (cond-true x.is_out_of_band 0 x.range_length oob) ∙ (let a = length-code c in omega (arith, a)) in
    decoded c table is some rest
    ∙ ap (λ (v : Result (Option ℤ) DecodeError). record { result = v; taken = x.prefix_length + range_bits x }) (cond-true x.is_out_of_band (Ok None) (value_by x (bits_next x.range_length rest)) oob)
    ∙ ap (λ (k : ℕ). record { result = Ok None; taken = k }) size

-- two lines with codes of one length have different codes
differ : (l n m : ℕ) → n < m → m < 2 ^ l → (rest : List ℕ) → (digits l n ++ rest ≡ digits l m → ⊥) × (digits l m ++ rest ≡ digits l n → ⊥)
differ l n m below small rest = (
  (λ e. let a = sym (whole-digits l n rest (omega (arith, below, small))) ∙ ap (λ (b : List ℕ). number_after 0 (take l b)) (e ∙ sym (append-nil (digits l m))) ∙ whole-digits l m [] small in omega (arith, a, below)),
  (λ e. let a = sym (whole-digits l m rest small) ∙ ap (λ (b : List ℕ). number_after 0 (take l b)) (e ∙ sym (append-nil (digits l n))) ∙ whole-digits l n [] (omega (arith, below, small)) in omega (arith, a, below)),
)

-- a code that begins another one has the other's length
same-length : (c d : Chosen) (table : List Member) → table_of (lines_of c) ≡ Ok table → table_of (lines_of d) ≡ Ok table → 0 < c.line.prefix_length → 0 < d.line.prefix_length
    → (rest : List ℕ) → code_of_line c ++ rest ≡ code_of_line d → c.line.prefix_length ≡ d.line.prefix_length
same-length c d table is-c is-d some-c some-d rest e =
    ap (λ (r : CodeReading TableLine). r.taken)
    (sym (reads-code c table is-c some-c rest) ∙ ap (λ (b : List ℕ). read_code table b) (e ∙ sym (append-nil (code_of_line d))) ∙ reads-code d table is-d some-d [])

apart : (c d : Chosen) (between : List TableLine) (table : List Member) → table_of (lines_of c) ≡ Ok table → lines_of c ≡ lines_of d
    → c.before ++ c.line ∷ between ≡ d.before → 0 < c.line.prefix_length → 0 < d.line.prefix_length → (rest : List ℕ)
    → (code_of_line c ++ rest ≡ code_of_line d → ⊥) × (code_of_line d ++ rest ≡ code_of_line c → ⊥)
apart c d between table is same later some-c some-d rest =
    let is-d : table_of (lines_of d) ≡ Ok table = ap table_of (sym same) ∙ is in
    let l = d.line.prefix_length in
    let small = fits d table is-d some-d in
    let below : c.line.prefix_length ≡ l → number_of c < number_of d = λ len.
    let more : length (level l c.before) < length (level l d.before) = subst (λ (xs : List TableLine). length (level l c.before) < length (level l xs)) later (level-in l c.before c.line between len) in
    let first : number_of c ≡ shorter l (lines_of d) + length (level l c.before) =
    ap (λ (k : ℕ). shorter k (lines_of c) + length (level k c.before)) len ∙ ap (λ (xs : List TableLine). shorter l xs + length (level l c.before)) same in
    omega (arith, more, first) in
    let code : c.line.prefix_length ≡ l → code_of_line c ≡ digits l (number_of c) = λ len. code-is c ∙ ap (λ (k : ℕ). digits k (number_of c)) len in (
      (λ e. let len = same-length c d table is is-d some-c some-d rest e in
          (differ l (number_of c) (number_of d) (below len) small rest).0 (ap (λ (b : List ℕ). b ++ rest) (sym (code len)) ∙ e ∙ code-is d)),
      (λ e. let len = sym (same-length d c table is-d is some-d some-c rest e) in
          (differ l (number_of c) (number_of d) (below len) small rest).1 (ap (λ (b : List ℕ). b ++ rest) (sym (code-is d)) ∙ e ∙ code len)),
    )

pub prefix_codes_read_back : PrefixCodesReadBack
prefix_codes_read_back = record { numbers = numbers; out_of_band = out_of_band; apart = apart }
