-- Law: no definition of prefix codes and tables returns an error that bytes cannot bring about.
use Rattle.std.proofs.Common.{ℕ, zero, suc, ◌+◌, ltb, length, Bool, true, false, cond, List, [], ◌∷◌, Option, Some, None, Result, Ok, Err, ℤ, pos, negsuc}
use Rattle.std.specs.Prelude.{IfErr}
use Rattle.jbig2_base.specs.Results.{◌>>=◌, some_or}
use Rattle.jbig2_base.specs.Bits.{Place, bits_left, bits_next, bits_on}
use Rattle.jbig2_base.specs.Search.{place_from}
use Rattle.jbig2_base.specs.declared.error.DecodeError.{DecodeError}
use Rattle.jbig2_base.specs.declared.error.DecodeError.TheVariants.{Huffman}
use Rattle.jbig2_base.specs.declared.error.HuffmanError.TheVariants.{InvalidCode}
use Rattle.jbig2_base.proofs.FromInput.{FromInput, IsFromInput, from_input-if, from_input-some}
use Rattle.jbig2_base.proofs.Causes.{cause-next}
use Rattle.jbig2_coder.specs.CustomTable.{TableStep, result_of, custom_header, custom_line, custom_lines, custom_table, end_lines, field, left_at, next_low, range_lines, range_lines_in}
use Rattle.jbig2_coder.specs.inner.CodeReadings.{cut_off_code, is_decided, last_line, found_or, unknown_code, some_value, value_after, with_value}
use Rattle.jbig2_coder.specs.PrefixCode.{CodeReading, Member, decoded_value, front_number, in_word, line_of, no_oob, read_code, table_of, value_by}
use Rattle.jbig2_coder.specs.Tables.{next_custom}
use Rattle.jbig2_coder.specs.declared.huffman_table.custom.Header.{Header}
use Rattle.jbig2_coder.specs.declared.huffman_table.line.TableLine.{TableLine}

-- ---- codes
pub from_input-table_of : (lines : List TableLine) → FromInput (table_of lines)
from_input-table_of lines = search from_input-if

pub from_input-word : (n : ℤ) → FromInput (in_word n)
from_input-word (pos n) = search from_input-if
from_input-word (negsuc n) = search from_input-if

from_input-found : (line : Option TableLine) (k : ℕ) → FromInput (found_or line k (unknown_code k)).result
from_input-found (Some line) k = tt
from_input-found None k = tt

from_input-either : {A : Type 0} (b : Bool) (r s : CodeReading A) → FromInput r.result → FromInput s.result → FromInput (cond b r s).result
from_input-either true r s at_true at_false = at_true
from_input-either false r s at_true at_false = at_false

from_input-read_code : (ms : List Member) (bits : List ℕ) → FromInput (read_code ms bits).result
unfolding read_code
from_input-read_code ms bits =
    let k = place_from (is_decided ms bits) 1 (length bits + 1) in
    let found = line_of ms k (front_number k bits) in
    from_input-either (ltb (length bits) k) (cut_off_code k) (found_or found k (unknown_code k)) tt (from_input-found found k)

from_input-some_value : (r : Result ℤ DecodeError) → FromInput r → FromInput (some_value r)
from_input-some_value (Ok n) is = tt
from_input-some_value (Err e) is = is

from_input-value_by : (line : TableLine) (offset : Option ℕ) → FromInput (value_by line offset)
from_input-value_by line None = tt
from_input-value_by line (Some offset) = search (from_input-some_value, from_input-word)

from_input-value : (line : TableLine) (bits : List ℕ) → FromInput (value_after line bits)
from_input-value line bits = search (from_input-if, from_input-value_by)

from_input-valued : (result : Result TableLine DecodeError) (taken : ℕ) (bits : List ℕ) → FromInput result → FromInput (with_value (record { result = result; taken = taken }) bits).result
from_input-valued (Ok line) taken bits is = from_input-value line _
from_input-valued (Err e) taken bits is = is

pub from_input-decoded : (ms : List Member) (bits : List ℕ) → FromInput (decoded_value ms bits).result
unfolding decoded_value
from_input-decoded ms bits = from_input-valued (read_code ms bits).result (read_code ms bits).taken bits (from_input-read_code ms bits)

pub from_input-no_oob : (r : Result (Option ℤ) DecodeError) → FromInput r → FromInput (no_oob r)
from_input-no_oob (Ok (Some n)) is = tt
from_input-no_oob (Ok None) is = tt
from_input-no_oob (Err e) is = is

pub from_input-next_custom : (customs : List (List Member)) → FromInput (next_custom customs)
from_input-next_custom [] = tt
from_input-next_custom (table ∷ others) = tt

-- ---- custom tables
-- a step that returns well, or refuses with such an error
abbrev FromInputAt : {A : Type 0} → TableStep A → Type 0
FromInputAt s = IfErr s (λ refusal. IsFromInput refusal.0)

from_input-on : {A B : Type 0} (s : TableStep A) (next : A × Place → TableStep B) → FromInputAt s → ((x : A × Place) → FromInputAt (next x)) → FromInputAt (s >>= next)
from_input-on s next first rest = cause-next (λ refusal. IsFromInput refusal.0) s next first (λ x is. rest x)

from_input-left : {A : Type 0} (p : Place) (r : Result A DecodeError) → FromInput r → FromInputAt (left_at p r)
from_input-left p (Ok x) is = tt
from_input-left p (Err e) is = is

from_input-field : (e : DecodeError) (count : ℕ) (p : Place) → IsFromInput e → FromInputAt (field e count p)
from_input-field e count p is = from_input-left (bits_on count p) (some_or e (bits_next count (bits_left p))) (from_input-some e (bits_next count (bits_left p)) is)

from_input-custom_header : (p : Place) → FromInputAt (custom_header p)
from_input-custom_header p = search (from_input-on, from_input-field) depth 10

from_input-low : (low : ℤ) (range : ℕ) → FromInput (next_low low range)
from_input-low low range = search (from_input-if, from_input-word)

from_input-line : (h : Header) (low : ℤ) (p : Place) → FromInputAt (custom_line h low p)
from_input-line h low p = search (from_input-on, from_input-field, from_input-left, from_input-low) depth 10

from_input-one : {A : Type 0} (b : Bool) (r s : TableStep A) → FromInputAt r → FromInputAt s → FromInputAt (cond b r s)
from_input-one true r s at_true at_false = at_true
from_input-one false r s at_true at_false = at_false

from_input-lines : (n : ℕ) (h : Header) (low : ℤ) (p : Place) → FromInputAt (range_lines_in n h low p)
from_input-lines zero h low p = tt
from_input-lines (suc n) h low p =
    let others : (next : ℤ) (q : Place) → FromInputAt (range_lines_in n h next q) = λ next q. from_input-lines n h next q in
    search (from_input-one, from_input-on, from_input-line, others) depth 8

from_input-last : (h : Header) (p : Place) → FromInputAt (last_line h p)
from_input-last h p = search (from_input-one, from_input-on, from_input-field) depth 8

from_input-end : (h : Header) (p : Place) → FromInputAt (end_lines h p)
from_input-end h p =
    let e = Huffman InvalidCode in
    from_input-on (field e h.prefix_bits p) _ (from_input-field e h.prefix_bits p tt) (λ below.
    from_input-on (field e h.prefix_bits below.1) _ (from_input-field e h.prefix_bits below.1 tt) (λ above.
    from_input-on (last_line h above.1) _ (from_input-last h above.1) (λ lines. tt)))

from_input-custom_lines : (p : Place) → FromInputAt (custom_lines p)
unfolding custom_lines range_lines
from_input-custom_lines p = search (from_input-on, from_input-custom_header, from_input-lines, from_input-end) depth 8

from_input-result : {A : Type 0} (s : TableStep A) → FromInputAt s → FromInput (result_of s)
from_input-result (Ok x) is = tt
from_input-result (Err e) is = is

pub from_input-custom : (p : Place) → FromInput (result_of (custom_table p))
unfolding custom_table
from_input-custom p =
    let all : FromInputAt (custom_table p) = search (from_input-on, from_input-left, from_input-custom_lines, from_input-table_of) in
    from_input-result (custom_table p) all
