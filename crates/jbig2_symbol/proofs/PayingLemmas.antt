-- What is counted for the bitmaps of a symbol dictionary is within their prices.
use Rattle.std.specs.Prelude.{if◌then◌else◌}
use Rattle.std.proofs.Common.{Bool, true, false, ltb, refl, ◌≡◌, ℕ, ◌+◌, ◌*◌, ◌/◌, ◌≤◌, List, length, Ok, sym, ap, ◌∙◌, arith}
use Rattle.std.proofs.lemmas.List.{length-take-le}
use Rattle.std.proofs.Math.Nat.{mul-le-mul_left, mul-le-mul_right}
use Rattle.jbig2_base.specs.Counts.{Counts, WritesWithin, bitmap_made, wide_words_made, words_cleared, words_copied, words_of}
use Rattle.jbig2_base.specs.Fields.{bytes_at}
use Rattle.jbig2_base.specs.Grid.{Grid}
use Rattle.jbig2_base.proofs.Causes.{bytes-there}
use Rattle.jbig2_base.proofs.MadeLemmas.{cleared-counted, made-paid, wide-made-counted}
use Rattle.jbig2_base.proofs.Prices.{copied-paid, price-same, written-counted}
use Rattle.jbig2_steps.specs.Work.{Paid, PaidBut, paid_words, price_of_bitmap, sum_of_counts, words_of_row, budget}
use Rattle.jbig2_steps.specs.declared.work.Work.{Work}
use Rattle.jbig2_steps.proofs.WorkLemmas.{counts-worth, room-paid, row-paid}

-- ---- rows that are not coded
-- the words of a row
pub row-worth : {L : Type 0} (w : Work L) (steps : Counts) (n : ℕ) → WritesWithin n w.steps steps → PaidBut (3 * n) w (record w { steps = steps })
row-worth {L} w steps n written = counts-worth w steps (3 * n) (written-counted n w.steps steps written)

raw-few : (words m h : ℕ) → words ≤ 8 * m → 3 * (h * words) ≤ 2047 * (m * h)
raw-few words m h few =
    let all : h * words ≤ h * (8 * m) = mul-le-mul_left h few in
    omega (arith, all)

bytes-few : (w : ℕ) → (w + 7) / 8 ≤ 8 * words_of_row w
bytes-few w = omega arith

-- and making the bitmap
pub raw-paid : (w h : ℕ) → 3 * (h * ((w + 7) / 8)) + paid_words w h ≤ 32 * price_of_bitmap w h
raw-paid w h = room-paid w h (3 * (h * ((w + 7) / 8))) (raw-few ((w + 7) / 8) (words_of_row w) h (bytes-few w))

-- ---- MMR data
-- the bytes that are read are as many as were asked for
pub bytes-many : (n : ℕ) (bytes part rest : List ℕ) → bytes_at n bytes ≡ Ok (part, rest) → length part ≡ n
bytes-many n bytes part rest is =
    let there = bytes-there n bytes (part, rest) is in
    ap (λ (p : List ℕ × List ℕ). length p.0) (sym there.1) ∙ length-take-le n bytes there.0

-- ---- copies
-- a copy of this size, which is paid for
pub copy-paid : {L : Type 0} (old paid : Work L) (steps : Counts) (g : Grid) (w h : ℕ) → w ≡ g.width → h ≡ g.height → budget paid + 32 * price_of_bitmap w h ≡ budget old → steps ≡ words_copied (words_of g) (bitmap_made g.width g.height paid.steps) → Paid old (record paid { steps = steps })
copy-paid {L} old paid steps g w h wide high taken copied =
    let more : budget (record paid { steps = steps }) ≤ budget paid + 32 * price_of_bitmap g.width g.height = counts-worth paid steps (32 * price_of_bitmap g.width g.height) (copied-paid g paid.steps steps copied) in
    omega (arith, more, taken, price-same w g.width h g.height wide high)

-- a copy in new memory, which needs no cleared words
doubled-few : (n words height : ℕ) → n ≤ words * height → 2 * n ≤ 2048 * (words * height)
doubled-few n words height few = omega arith

pub duplicate-paid : {L : Type 0} (old paid : Work L) (steps : Counts) (g : Grid) (w h : ℕ) → w ≡ g.width → h ≡ g.height → budget paid + 32 * price_of_bitmap w h ≡ budget old → steps ≡ words_copied (words_of g) paid.steps → Paid old (record paid { steps = steps })
duplicate-paid {L} old paid steps g w h wide high taken copied =
    let few : words_of g ≤ words_of_row g.width * g.height = mul-le-mul_right g.height (omega arith) in
    let price : 2 * words_of g ≤ 32 * price_of_bitmap g.width g.height = row-paid g.width g.height (2 * words_of g) (doubled-few (words_of g) (words_of_row g.width) g.height few) in
    let counted : sum_of_counts steps ≡ sum_of_counts paid.steps + 2 * words_of g = ap (λ (c : Counts). sum_of_counts c) copied ∙ omega arith in
    let more : budget (record paid { steps = steps }) ≤ budget paid + 32 * price_of_bitmap g.width g.height = counts-worth paid steps (32 * price_of_bitmap g.width g.height) (omega (arith, counted, price)) in
    omega (arith, more, taken, price-same w g.width h g.height wide high)

-- one for which there is no memory
pub unmade-paid : {L : Type 0} (old paid : Work L) (steps : Counts) (w h : ℕ) → budget paid + 32 * price_of_bitmap w h ≡ budget old → steps ≡ bitmap_made w h paid.steps → Paid old (record paid { steps = steps })
unmade-paid {L} old paid steps w h taken made = omega (arith, counts-worth paid steps (32 * price_of_bitmap w h) (made-paid w h paid.steps steps made), taken)

-- ---- wide bitmaps
pub wide-worth : {L : Type 0} (w : Work L) (width height : ℕ) (steps : Counts) → steps ≡ words_cleared (wide_words_made width height) w.steps → PaidBut (paid_words width height) w (record w { steps = steps })
wide-worth {L} w width height steps made = counts-worth w steps (paid_words width height) (wide-made-counted width height w.steps steps made)

no-words : (w h : ℕ) → w ≡ 0 → wide_words_made w h ≡ 0
unfolding wide_words_made
no-words w h none = either (ltb (65535 * 65535) (w * h))
  where
    either : (b : Bool) → (if b then 0 else (w + 63) / 64 * h) ≡ 0
    either true = refl
    either false = rw none (omega arith)

-- one without columns has no words
pub empty-worth : {L : Type 0} (w : Work L) (width height : ℕ) (steps : Counts) → width ≡ 0 → steps ≡ words_cleared (wide_words_made width height) w.steps → Paid w (record w { steps = steps })
empty-worth {L} w width height steps none made =
    omega (arith, counts-worth w steps 0 (omega (arith, cleared-counted (wide_words_made width height) w.steps steps made, no-words width height none)))
