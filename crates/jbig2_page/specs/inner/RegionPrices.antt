-- What a region costs once its header is read and what it refers to is found, and what decoding it counts (our own
-- rule).
use Rattle.std.specs.Prelude.{ℕ, ◌+◌, ◌*◌, ◌≡◌, length}
use Rattle.jbig2_steps.specs.Work.{budget, paid_words, price_of_bitmap}
use Rattle.jbig2_steps.specs.declared.work.Work.{Work}
use Rattle.jbig2_steps.specs.declared.prices.TheConstants as prices
use Rattle.jbig2_region.specs.GenericSteps.{price_of_region}
use Rattle.jbig2_halftone.specs.Steps.{price_of_halftone}
use Rattle.jbig2_halftone.specs.inner.DictionaryViews.{dictionary_view}
use Rattle.jbig2_coder.specs.Integers.{number_steps}
use Rattle.jbig2_page.specs.declared.region.parsed_region.ParsedRegion.{ParsedRegion}
use Rattle.jbig2_page.specs.declared.region.parsed_region.ParsedRegion.TheVariants.{Text, Halftone, Generic}
use Rattle.jbig2_page.specs.declared.region.parsed_region.ParsedRegion.TheVariants.{Refinement, PageRefinement, Part}
use Rattle.jbig2_page.specs.inner.ParsedRegions.{info_of}
use Rattle.jbig2_region.specs.inner.GenericHeaderViews as generics
use Rattle.jbig2_halftone.specs.inner.HalftoneHeaderViews as halftones

-- of each symbol that a list has more
abbrev pub PaysForSymbols : {L : Type 0} → ℕ → ℕ → Work L → Work L → Type 0
PaysForSymbols before after old new =
    budget new + 32 * (prices.REFERRED_SYMBOL * after) ≡ budget old + 32 * (prices.REFERRED_SYMBOL * before)

-- the units of a region, without those of the bitmaps of its size
abbrev pub price_besides : {A : Type 0} → ParsedRegion A → ℕ
price_besides (Text header referred) = 0
price_besides (Halftone header patterns) =
    price_of_halftone (halftones.header_view header) (dictionary_view patterns.now)
price_besides (Generic header) = length header.bytes.now
price_besides (Refinement header reference) = 0
price_besides (PageRefinement header area) = 0
price_besides (Part region) = 0

-- the units of one bitmap of a region's size
abbrev pub price_of_info : {A : Type 0} → ParsedRegion A → ℕ
price_of_info r = price_of_bitmap (info_of r).width (info_of r).height

abbrev pub words_of_info : {A : Type 0} → ParsedRegion A → ℕ  -- the words of a bitmap of a region's size
words_of_info r = paid_words (info_of r).width (info_of r).height

-- The most that decoding counts for a region before it is paid for, and making its bitmap. A text region pays for its
-- instances itself, and after an error its bitmap is filled again.
abbrev pub counts_of : {A : Type 0} → ParsedRegion A → ℕ
counts_of (Text header referred) = number_steps 1 + 2 * words_of_info (Text header referred)
counts_of (Halftone header patterns) =
    32 * price_of_halftone (halftones.header_view header) (dictionary_view patterns.now)
    + words_of_info (Halftone header patterns)
counts_of (Generic header) = 32 * price_of_region (generics.header_view header)
counts_of (Refinement header reference) = 32 * price_of_bitmap header.region_info.width header.region_info.height
counts_of (PageRefinement header area) = 32 * price_of_bitmap header.region_info.width header.region_info.height
counts_of (Part region) = 32 * price_of_bitmap region.bitmap.width region.bitmap.height
