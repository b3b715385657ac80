-- The whole instances of a text region whose data is cut off (our own rule). An instance is whole if all up to its end
-- was read within the data, and so were the instances before it. What is read later is not what was written. An error
-- ends the count, too.
use Rattle.std.specs.Prelude.{ℕ, zero, suc, ◌*◌, min, if◌then◌else◌, pos, ◌-ℤ◌, List, Result, Ok, Err}
use Rattle.jbig2_base.specs.Results.{◌>>=◌}
use Rattle.jbig2_base.specs.Grid.{Grid, check_sides}
use Rattle.jbig2_base.specs.declared.error.DecodeError.{DecodeError}
use Rattle.jbig2_coder.specs.PrefixCode.{Member}
use Rattle.jbig2_text.specs.Refining.{Refining}
use Rattle.jbig2_text.specs.Text.{Readings, TextParams, TextState, coordinate, next_cursor, strip_delta, strip_start}
use Rattle.jbig2_text.specs.Text.{with_instance}
use Rattle.jbig2_text.specs.TextCoding.{by_coder, by_prefix_codes}
use Rattle.jbig2_text.specs.TextHeader.{NumberCoding, TextHeader, ArithmeticCoding, HuffmanCoding}
use Rattle.jbig2_text.specs.TextRegion.{blank_region, coder_of, prefix_codes_of, refining_of, text_params}
use Rattle.jbig2_text.specs.declared.cursor.Cursor.{Cursor}
use Rattle.jbig2_text.specs.declared.header.TextRegionFlags.{TextRegionFlags}

-- what is counted after a reading: nothing after an error
abbrev pub counted_after : {X : Type 0} → Result X DecodeError → (X → ℕ) → ℕ
counted_after (Ok x) count = count x
counted_after (Err e) count = 0

-- the place of the first instance, as a text region has it
unfoldable pub first_cursor : {S : Type 0} → Readings S → TextRegionFlags → S → Result (Cursor × S) DecodeError
first_cursor r flags s = do
  (dt, after_dt) ← strip_delta r flags s
  stript ← coordinate (pos 0 -ℤ dt)
  strip_start r flags stript (pos 0) after_dt

module _ {S : Type 0} (r : Readings S) (p : TextParams) where
  -- how many of the next n instances are whole
  unfoldable pub whole_from : ℕ → TextState S → ℕ
  whole_from zero x = 0
  whole_from (suc n) x = counted_after (with_instance r p x) (λ y.
      let others = counted_after (next_cursor r p.flags y.cursor y.state) (λ (cursor, after).
      whole_from n (record y { cursor = cursor; state = after })) in
      if r.is_within y.state then suc others else 0)

  -- A region's whole instances. There are never more than 32 for each byte of the segment.
  unfoldable pub whole_by : Grid → Refining → S → ℕ
  whole_by region f s = counted_after (first_cursor r p.flags s) (λ (cursor, after).
      whole_from (min p.count (32 * p.data_length))
      (record { region = region; cursor = cursor; refining = f; state = after }))

module _ (h : TextHeader) (symbols : List Grid) where
  abbrev pub whole_from_start : {S : Type 0} → Readings S → S → ℕ
  whole_from_start r s = whole_by r (text_params h symbols) (blank_region h) (refining_of h) s

  abbrev pub whole_in : NumberCoding → List (List Member) → ℕ
  whole_in ArithmeticCoding customs = whole_from_start by_coder (coder_of h symbols)
  whole_in (HuffmanCoding numbers ids) customs =
      counted_after (prefix_codes_of h numbers ids customs) (λ s. whole_from_start by_prefix_codes s)

  -- A region with a side above 65535 is not decoded, so it has none.
  unfoldable pub whole_instances : List (List Member) → ℕ
  whole_instances customs =
      counted_after (check_sides h.region_info.width h.region_info.height) (λ fits. whole_in h.coding customs)
