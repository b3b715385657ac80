-- Law: no definition of the headers and the codings of text regions returns an error that bytes cannot bring about.
use Rattle.std.proofs.Common.{ℕ, zero, suc, Bool, true, false, List, Option, Some, None, ℤ, pos, negsuc}
use Rattle.jbig2_base.specs.Bits.{Place}
use Rattle.jbig2_base.specs.Grid.{Grid}
use Rattle.jbig2_base.specs.declared.error.DecodeError.{DecodeError}
use Rattle.jbig2_base.proofs.FromInput.{FromInput, IsFromInput, from_input-bits, from_input-bytes, from_input-if, from_input-next, from_input-number, from_input-operator, from_input-refusal, from_input-some}
use Rattle.jbig2_coder.specs.PrefixCode.{Member, value_at}
use Rattle.jbig2_coder.specs.declared.integer_procedures.IntegerProcedure.{IntegerProcedure}
use Rattle.jbig2_coder.proofs.FromInput.{from_input-decoded, from_input-next_custom, from_input-no_oob, from_input-table_of}
use Rattle.jbig2_region.proofs.FromInput.{from_input-region_info, from_input-refinement_pixels}
use Rattle.jbig2_region.specs.Refinement.{Reference}
use Rattle.jbig2_text.specs.Refining.{Refining}
use Rattle.jbig2_text.specs.SymbolCodes.{next_runcode, with_last_repeated, run_at, runcodes_at, runs_at, short_lengths, symbol_codes_from, symbol_lengths_at}
use Rattle.jbig2_text.specs.Text.{Readings}
use Rattle.jbig2_text.specs.TextCoding.{CodedState, PrefixedState, by_coder, by_prefix_codes, number_by_coder, prefixed_bits, prefixed_refined, prefixed_value, sized_bytes}
use Rattle.jbig2_coder.specs.Integers.{in_band}
use Rattle.jbig2_text.specs.TextHeader.{ArithmeticCoding, HuffmanCoding, NumberCoding, TextHeader, coding_at, table_numbers_at, text_fields_at, text_flags_at, text_header_at}
use Rattle.jbig2_text.specs.TextRegion.{one_of_three, one_of_two, region_by, region_from, text_result, text_decoded, text_tables}
use Rattle.jbig2_text.specs.declared.header.TextRegionHuffmanFlags.{TextRegionHuffmanFlags}
use Rattle.jbig2_text.proofs.FromInput.{AreFromInput, from_input-text_region}

-- ---- numbers
pub from_input-value_at : (table : List Member) (p : Place) → FromInput (value_at table p)
from_input-value_at table p = search (from_input-next, from_input-no_oob, from_input-decoded)

pub from_input-in_band : (e : DecodeError) (n : Option ℤ) → IsFromInput e → FromInput (in_band e n)
from_input-in_band e (Some n) is = tt
from_input-in_band e None is = is

-- ---- the codes of the ids
from_input-short : (count : ℕ) (so_far : List ℕ) (p : Place) → FromInput (short_lengths count so_far p)
unfolding short_lengths
from_input-short zero so_far p = tt
from_input-short (suc count) so_far p =
    let others = from_input-short count in
    search (from_input-next, from_input-bits, others)

from_input-repeated : (so_far : List ℕ) (count : ℕ) → FromInput (with_last_repeated so_far count)
from_input-repeated so_far count = search (from_input-next, from_input-some)

from_input-run : (code : ℤ) (so_far : List ℕ) (p : Place) → FromInput (run_at code so_far p)
from_input-run (negsuc n) so_far p = tt
from_input-run (pos code) so_far p = search (from_input-if, from_input-next, from_input-bits, from_input-repeated) depth 10

from_input-runcode : (runcodes : List Member) (so_far : List ℕ) (p : Place) → FromInput (next_runcode runcodes so_far p)
from_input-runcode runcodes so_far p = search (from_input-next, from_input-value_at, from_input-run)

from_input-runs : (most count : ℕ) (runcodes : List Member) (so_far : List ℕ) (p : Place) → FromInput (runs_at most count runcodes so_far p)
unfolding runs_at
from_input-runs zero count runcodes so_far p = tt
from_input-runs (suc most) count runcodes so_far p =
    let others = from_input-runs most count runcodes in
    search (from_input-if, from_input-next, from_input-runcode, others)

from_input-runcodes : (p : Place) → FromInput (runcodes_at p)
unfolding runcodes_at
from_input-runcodes p = search (from_input-next, from_input-short, from_input-table_of)

from_input-lengths : (count : ℕ) (runcodes : List Member) (p : Place) → FromInput (symbol_lengths_at count runcodes p)
unfolding symbol_lengths_at
from_input-lengths count runcodes p = search (from_input-next, from_input-runs, from_input-refusal)

from_input-codes_from : (count : ℕ) (p : Place) → FromInput (symbol_codes_from count p)
unfolding symbol_codes_from
from_input-codes_from count p = search (from_input-next, from_input-runcodes, from_input-lengths, from_input-table_of) depth 8

-- ---- the header
from_input-flags : (bytes : List ℕ) → FromInput (text_flags_at bytes)
unfolding text_flags_at
from_input-flags bytes = search (from_input-next, from_input-number, from_input-operator)

from_input-numbers : (coded : Bool) (bytes : List ℕ) → FromInput (table_numbers_at coded bytes)
from_input-numbers true bytes = search (from_input-next, from_input-number)
from_input-numbers false bytes = tt

from_input-fields : (bytes : List ℕ) → FromInput (text_fields_at bytes)
unfolding text_fields_at
from_input-fields bytes = search (from_input-next, from_input-if, from_input-flags, from_input-numbers, from_input-refinement_pixels, from_input-number) depth 12

from_input-coding : (tables : Option TextRegionHuffmanFlags) (count : ℕ) (bytes : List ℕ) → FromInput (coding_at tables count bytes)
from_input-coding (Some tables) count bytes = search (from_input-next, from_input-codes_from)
from_input-coding None count bytes = tt

pub from_input-text_header : (symbols : ℕ) (strict : Bool) (bytes : List ℕ) → FromInput (text_header_at symbols strict bytes)
unfolding text_header_at
from_input-text_header symbols strict bytes = search (from_input-next, from_input-region_info, from_input-fields, from_input-coding) depth 8

-- ---- by the arithmetic coder
from_input-by_coder : (procedure : IntegerProcedure) (s : CodedState) → FromInput (number_by_coder procedure s)
from_input-by_coder procedure s = search (from_input-next, from_input-in_band)

pub by_coder-from_input : AreFromInput by_coder
by_coder-from_input = record {
  delta_t = from_input-by_coder _;
  first_s = from_input-by_coder _;
  delta_s = λ s. tt;
  t_bits = λ log s. from_input-by_coder _ s;
  id = λ s. tt;
  is_refined = λ s. from_input-next _ _ (from_input-by_coder _ s) (λ flag. tt);
  width_delta = from_input-by_coder _;
  height_delta = from_input-by_coder _;
  x_delta = from_input-by_coder _;
  y_delta = from_input-by_coder _;
  refined = λ from width height f s. tt;
}

-- ---- by prefix codes
from_input-prefixed : (table : List Member) (s : PrefixedState) → FromInput (prefixed_value table s)
from_input-prefixed table s = search (from_input-next, from_input-value_at)

from_input-prefixed_bits : (e : DecodeError) (count : ℕ) (s : PrefixedState) → IsFromInput e → FromInput (prefixed_bits e count s)
from_input-prefixed_bits e count s is = search (from_input-next, from_input-bits, is)

from_input-sized : (size : ℤ) (p : Place) → FromInput (sized_bytes size p)
from_input-sized (pos size) p = search (from_input-next, from_input-bytes)
from_input-sized (negsuc size) p = tt

from_input-prefixed_refined : (from : Reference) (width height : ℕ) (f : Refining) (s : PrefixedState) → FromInput (prefixed_refined from width height f s)
from_input-prefixed_refined from width height f s = search (from_input-next, from_input-value_at, from_input-sized)

pub by_prefix_codes-from_input : AreFromInput by_prefix_codes
by_prefix_codes-from_input = record {
  delta_t = λ s. from_input-prefixed _ s;
  first_s = λ s. from_input-prefixed _ s;
  delta_s = λ s. from_input-decoded _ _;
  t_bits = λ log s. search (from_input-next, from_input-bits);
  id = λ s. from_input-prefixed _ s;
  is_refined = λ s. search (from_input-next, from_input-bits);
  width_delta = λ s. from_input-prefixed _ s;
  height_delta = λ s. from_input-prefixed _ s;
  x_delta = λ s. from_input-prefixed _ s;
  y_delta = λ s. from_input-prefixed _ s;
  refined = from_input-prefixed_refined;
}

-- ---- regions
from_input-two : (first second : List Member) (n : ℕ) (customs : List (List Member)) → FromInput (one_of_two first second n customs)
from_input-two first second n customs = search (from_input-if, from_input-next_custom)

from_input-three : (first second third : List Member) (n : ℕ) (customs : List (List Member)) → FromInput (one_of_three first second third n customs)
from_input-three first second third n customs = search (from_input-if, from_input-next_custom)

from_input-tables : (flags : TextRegionHuffmanFlags) (customs : List (List Member)) → FromInput (text_tables flags customs)
unfolding text_tables
from_input-tables flags customs = search (from_input-next, from_input-two, from_input-three, from_input-if, from_input-next_custom) depth 18

from_input-from : {S : Type 0} (r : Readings S) (a : AreFromInput r) (h : TextHeader) (symbols : List Grid) (region : Grid) (s : S) → FromInput (region_from r h symbols region s)
unfolding region_from
from_input-from r a h symbols region s = search (from_input-next, from_input-text_region r a)

from_input-by : (h : TextHeader) (coding : NumberCoding) (symbols : List Grid) (customs : List (List Member)) (region : Grid) → FromInput (region_by h coding symbols customs region)
from_input-by h ArithmeticCoding symbols customs region = from_input-from by_coder by_coder-from_input h symbols region _
from_input-by h (HuffmanCoding numbers ids) symbols customs region = search (from_input-next, from_input-tables, from_input-from by_prefix_codes by_prefix_codes-from_input)

from_input-result : (h : TextHeader) (symbols : List Grid) (customs : List (List Member)) → FromInput (text_result h symbols customs)
unfolding text_result
from_input-result h symbols customs = from_input-by h h.coding symbols customs _

pub from_input-text : (h : TextHeader) (symbols : List Grid) (customs : List (List Member)) → FromInput (text_decoded h symbols customs)
unfolding text_decoded
from_input-text h symbols customs = search (from_input-next, from_input-refusal, from_input-result)
