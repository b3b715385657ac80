-- What a segment costs before it is looked at (our own rule; docs/FORMAT.md, 12.6). A price is a number of units of work.
use Rattle.std.specs.Prelude.{ℕ, ◌+◌, ◌*◌, ◌^◌, ◌-◌, List, [], ◌∷◌, length, min, if◌then◌else◌}
use Rattle.jbig2_framing.specs.Segment.{SegmentView}
use Rattle.jbig2_framing.specs.declared.segment.SegmentType.{SegmentType}
use Rattle.jbig2_framing.specs.declared.segment.SegmentType.TheVariants as types
use Rattle.jbig2_steps.specs.declared.prices.TheConstants as prices
use Rattle.jbig2_page.specs.Names.{Names}
use Rattle.jbig2_page.specs.Page.{ends_page}

abbrev pub capped : ℕ → ℕ  -- no price and no count is above the greatest number of 64 bits
capped n = min n (2 ^ 64 - 1)

-- how many values of earlier segments a number may name
abbrev pub names_count : Names → ℕ
names_count names = length names.symbols + length names.codes + length names.patterns

-- a custom table is paid for by the byte, a symbol dictionary once
abbrev pub price_of_type : SegmentType → ℕ → ℕ
price_of_type types.Tables bytes = bytes * prices.TABLE_BYTE
price_of_type types.SymbolDictionary bytes = prices.SYMBOL_DICTIONARY
price_of_type kind bytes = 0

-- each segment costs its price, and each number that it refers to its own and one unit for each value that is kept
abbrev pub price_of_segment : ℕ → SegmentView → ℕ
price_of_segment kept s =
    capped (length s.header.referred_to_segments * (kept + prices.REFERENCE) + prices.SEGMENT
    + price_of_type s.header.segment_type (length s.bytes))

-- how many segments a page pays for: those before its end
abbrev pub drawn_count : List SegmentView → ℕ
drawn_count [] = 0
drawn_count (p ∷ ps) = if ends_page p.header.segment_type then 0 else 1 + drawn_count ps
