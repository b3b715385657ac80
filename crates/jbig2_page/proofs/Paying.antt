-- What is counted is paid for: what regions count, and what a page counts that is handed out.
use Rattle.std.proofs.Common.{◌≡◌, ◌⊎◌, inl, inr, ℕ, ◌+◌, ◌*◌, ◌/◌, ◌≤◌, Bool, Result, Ok, Err, refl, ap, ◌∙◌, sym, subst, arith}
use Rattle.std.proofs.lemmas.Bool.{le-ltb}
use Rattle.std.proofs.Math.Nat.{mul-le-mul_left, mul-le-mul_right}
use Rattle.jbig2_region.proofs.Prices.{row-some, row-wide}
use Rattle.std.specs.Prelude.{IfOk}
use Rattle.jbig2_base.proofs.MadeLemmas.{words-same}
use Rattle.jbig2_base.proofs.Prices.{price-same}
use Rattle.jbig2_base.specs.Grid.{Grid, blank, blank_or_overflow}
use Rattle.jbig2_base.specs.declared.error.DecodeError.{DecodeError}
use Rattle.jbig2_base.specs.declared.error.DecodeError.TheVariants.{OutOfMemory}
use Rattle.jbig2_steps.proofs.WorkLemmas.{counts-worth, room-paid}
use Rattle.jbig2_text.proofs.PayingLemmas.{twice-paid}
use Rattle.jbig2_steps.specs.declared.work.Work.{Work}
use Rattle.jbig2_steps.specs.Counts.{Counts}
use Rattle.jbig2_steps.specs.Work.{CountsWithin, Paid, PaidBut, paid_words, price_of_bitmap, words_of_row, budget}
use Rattle.jbig2_region.specs.declared.region_info.RegionSegmentInfo.{RegionSegmentInfo}
use Rattle.jbig2_page.specs.Image.{packed_size}
use Rattle.jbig2_page.specs.Page.{Drawing, ReadPage, drawing_of_page}
use Rattle.jbig2_page.specs.declared.region.parsed_region.ParsedRegion.{ParsedRegion}
use Rattle.jbig2_page.specs.declared.region.parsed_region.ParsedRegion.TheVariants.{Text, Halftone, Generic, Refinement, PageRefinement, Part}
use Rattle.jbig2_page.specs.inner.ParsedRegions.{region_grid, info_of}
use Rattle.jbig2_page.specs.inner.RegionPrices.{counts_of, price_besides, price_of_info, words_of_info}
use Rattle.jbig2_page.proofs.Direct.{drawn-made}
use Rattle.jbig2_page.proofs.DrawnPages.{grid-is}
use Rattle.jbig2_page.proofs.Untouched.{pages_keep_their_size}

-- what is counted after it was paid for
pub counts-paid : {L : Type 0} (w0 w1 : Work L) (steps : Counts) (price : ℕ) → budget w1 + 32 * price ≤ budget w0 → CountsWithin price w1.steps steps → Paid w0 (record w1 { steps = steps })
counts-paid w0 w1 steps price taken counts =
    let more : PaidBut (32 * price) w1 (record w1 { steps = steps }) = counts-worth w1 steps (32 * price) counts in
    omega (arith, more, taken)

-- ---- regions
-- one bitmap of its size, and what it takes besides, pay for a region, and for making its bitmap
pub parsed-within : {A : Type 0} (r : ParsedRegion A) → counts_of r ≤ 32 * (price_of_info r + price_besides r)
parsed-within (Text header referred) = omega (arith, twice-paid header.region_info.width header.region_info.height)
parsed-within (Halftone header patterns) = omega (arith, twice-paid header.region_info.width header.region_info.height)
parsed-within (Generic header) = omega arith
parsed-within (Refinement header reference) = omega arith
parsed-within (PageRefinement header area) = omega arith
parsed-within (Part region) = omega arith

-- a region that is decoded in place
pub placed-paid : {A : Type 0} (r : ParsedRegion A) (w0 w1 w2 : ℕ) → w1 + 32 * (price_of_info r * 1 + price_besides r) ≡ w0 → w2 + words_of_info r ≤ w1 + counts_of r → w2 + words_of_info r ≤ w0
placed-paid r w0 w1 w2 taken counts = omega (arith, parsed-within r)

-- a region that is decoded into a bitmap of its own
pub decoded-paid : {A : Type 0} (r : ParsedRegion A) (w0 w1 made w2 : ℕ) → w1 + 32 * (price_of_info r * 2 + price_besides r) ≡ w0 → made ≤ w1 + words_of_info r → w2 + words_of_info r ≤ made + counts_of r → w2 + 32 * price_of_info r ≤ w0
decoded-paid r w0 w1 made w2 taken more counts = omega (arith, parsed-within r)

-- one that is made alone
pub made-alone : {A : Type 0} (r : ParsedRegion A) (w0 w1 made : ℕ) → w1 + 32 * (price_of_info r * 2 + price_besides r) ≡ w0 → made ≤ w1 + words_of_info r → made ≤ w0
made-alone r w0 w1 made taken more = omega (arith, twice-paid (info_of r).width (info_of r).height)

pub info-words : {A : Type 0} (r : ParsedRegion A) (i : RegionSegmentInfo) → i ≡ info_of r → paid_words i.width i.height ≡ words_of_info r
info-words r i is = ap (λ (q : RegionSegmentInfo). paid_words q.width q.height) is

-- its bitmap has the region's size
pub drawn-price : {A : Type 0} (r : ParsedRegion A) (g : Grid) → region_grid r ≡ Ok g → price_of_bitmap g.width g.height ≡ price_of_info r
drawn-price r g is =
    let made = drawn-made r g is in
    price-same g.width (info_of r).width g.height (info_of r).height (ap (λ (q : Grid). q.width) made.1) (ap (λ (q : Grid). q.height) made.1)

pub placed-price : {A : Type 0} (r : ParsedRegion A) (g made : Grid) → region_grid r ≡ Ok made → g ≡ made → price_of_bitmap g.width g.height ≡ price_of_info r
placed-price r g made is same = ap (λ (q : Grid). price_of_bitmap q.width q.height) same ∙ drawn-price r made is

-- a bitmap of a size that fits is made white again, unless memory is refused
pub blank-memory : (w h : ℕ) (black : Bool) (e : DecodeError) → w ≤ 65535 → h ≤ 65535 → (e ≡ OutOfMemory) ⊎ (blank_or_overflow w h black ≡ Err e) → e ≡ OutOfMemory
blank-memory w h black e columns rows (inl memory) = memory
blank-memory w h black e columns rows (inr is) =
    let fits : blank_or_overflow w h black ≡ Ok (blank w h black) = rw (le-ltb 65535 w columns, le-ltb 65535 h rows) refl in
    absurd (let never : ◌≡◌ {A = Result Grid DecodeError} (Ok (blank w h black)) (Err e) = sym fits ∙ is in cc)

-- ---- halftones
pub cells-taken : (w0 w1 w2 w3 grid bits planes pattern count cells bytes : ℕ) → planes ≡ bits → count ≡ cells → w1 + 32 * (grid * planes) ≡ w0 → w2 + 32 * (pattern * count) ≡ w1 → w3 + 32 * bytes ≡ w2 → w3 + 32 * (grid * bits + pattern * cells + bytes) ≡ w0
cells-taken w0 w1 w2 w3 grid bits planes pattern count cells bytes e f first second third =
    omega (arith, ap (λ (n : ℕ). grid * n) e, ap (λ (n : ℕ). pattern * n) f)

-- ---- pages
pub page-words : (page : ReadPage) (d : Drawing) (b : Grid) → drawing_of_page page ≡ Ok d → b ≡ d.grid → paid_words b.width b.height ≡ paid_words page.initial_page.width page.initial_page.height
page-words page d b is same =
    let P : Result Grid DecodeError → Type 0 = λ r. IfOk r (λ q. (q.width ≡ page.initial_page.width) × (q.height ≡ page.initial_page.height)) in
    let size : (d.grid.width ≡ page.initial_page.width) × (d.grid.height ≡ page.initial_page.height) = subst P (grid-is page d is) (pages_keep_their_size page) in
    subst (λ (g : Grid). paid_words g.width g.height ≡ paid_words page.initial_page.width page.initial_page.height) (sym same)
    (words-same d.grid.width page.initial_page.width d.grid.height page.initial_page.height size.0 size.1)

-- a page that is drawn has its size
pub page-price : (page : ReadPage) (d : Drawing) (b : Grid) → drawing_of_page page ≡ Ok d → b ≡ d.grid → price_of_bitmap b.width b.height ≡ price_of_bitmap page.initial_page.width page.initial_page.height
page-price page d b is same =
    let P : Result Grid DecodeError → Type 0 = λ r. IfOk r (λ q. (q.width ≡ page.initial_page.width) × (q.height ≡ page.initial_page.height)) in
    let size : (d.grid.width ≡ page.initial_page.width) × (d.grid.height ≡ page.initial_page.height) = subst P (grid-is page d is) (pages_keep_their_size page) in
    subst (λ (g : Grid). price_of_bitmap g.width g.height ≡ price_of_bitmap page.initial_page.width page.initial_page.height) (sym same)
    (price-same d.grid.width page.initial_page.width d.grid.height page.initial_page.height size.0 size.1)

-- ---- the calls that spell a page, and its bytes
-- a count for each pixel and one for each row
rows-few : (width height words n : ℕ) → width ≤ 64 * words → 1 ≤ words → n ≤ height * (width + 1) → n ≤ 2047 * (words * height)
rows-few width height words n wide some few =
    let across : height * (width + 1) ≤ height * (65 * words) = mul-le-mul_left height (omega arith) in
    omega (arith, across)

-- the steps of the rows that are handed out are within the page's price, with those of clearing the page
pub rows-paid : (width height rows old new : ℕ) → rows ≤ height → new ≤ old + rows * (width + 1) → new + paid_words width height ≤ old + 32 * price_of_bitmap width height
rows-paid width height rows old new within few =
    let all : rows * (width + 1) ≤ height * (width + 1) = mul-le-mul_right (width + 1) within in
    let paid : height * (width + 1) + paid_words width height ≤ 32 * price_of_bitmap width height =
    room-paid width height (height * (width + 1)) (rows-few width height (words_of_row width) (height * (width + 1)) (row-wide width) (row-some width) (same (height * (width + 1)))) in
    omega (arith, all, paid)
  where
    same : (n : ℕ) → n ≤ n
    same n = omega arith

pub rows-next : (first old new y width : ℕ) → old ≤ first + y * (width + 1) → new ≤ old + width + 1 → new ≤ first + (y + 1) * (width + 1)
rows-next first old new y width before more = omega arith

pub pixels-paid : (width height pixels old new : ℕ) → pixels ≤ width * height → new ≤ old + pixels → new + paid_words width height ≤ old + 32 * price_of_bitmap width height
pixels-paid width height pixels old new within few = rows-paid width height height old new (same height) (omega (arith, within, few, turned))
  where
    same : (n : ℕ) → n ≤ n
    same n = omega arith

    turned : width * height + height ≡ height * (width + 1)
    turned = omega arith

-- a step for each byte of the packed rows
pub bytes-paid : (width height bytes old new : ℕ) → bytes ≡ packed_size width height → new ≤ old + bytes → new + paid_words width height ≤ old + 32 * price_of_bitmap width height
bytes-paid width height bytes old new sized few = rows-paid width height height old new (same height) (omega (arith, sized, few, across))
  where
    same : (n : ℕ) → n ≤ n
    same n = omega arith

    narrow : (width + 7) / 8 ≤ width + 1
    narrow = omega arith

    across : (width + 7) / 8 * height ≤ height * (width + 1)
    across = omega (arith, mul-le-mul_left height narrow)
