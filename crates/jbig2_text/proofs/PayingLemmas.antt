-- What is counted where a symbol is drawn, and where a bitmap is made, and filled again after an error.
use Rattle.std.proofs.Common.{◌≡◌, ℕ, ◌+◌, ◌*◌, ◌≤◌, ℤ, false, Result, Ok, Err, ap, arith}
use Rattle.std.specs.Prelude.{IfOk}
use Rattle.jbig2_base.specs.Grid.{Grid, blank, blank_or_overflow}
use Rattle.jbig2_base.specs.Results.{Gives}
use Rattle.jbig2_base.specs.declared.error.DecodeError.{DecodeError}
use Rattle.jbig2_base.proofs.FillLemmas.{white-made}
use Rattle.jbig2_base.specs.Counts.{Counts, WritesWithin, bitmap_made, most_words, overlap, words_cleared, words_of}
use Rattle.jbig2_base.proofs.MadeLemmas.{filled-counted, made-counted, words-same}
use Rattle.jbig2_base.proofs.Prices.{combined-paid, price-same}
use Rattle.jbig2_steps.specs.Work.{PaidBut, budget, paid_words, price_of_bitmap, sum_of_counts, words_of_row}
use Rattle.jbig2_steps.specs.declared.work.Work.{Work}
use Rattle.jbig2_steps.proofs.WorkLemmas.{counts-worth}

-- a symbol that is combined with the region
pub drawn-paid : {L : Type 0} (w : Work L) (page source : Grid) (x y : ℤ) (steps : Counts) → WritesWithin (overlap page.height source.height y * most_words (overlap page.width source.width x)) w.steps steps → PaidBut (32 * price_of_bitmap source.width source.height) w (record w { steps = steps })
drawn-paid {L} w page source x y steps written =
    counts-worth w steps (32 * price_of_bitmap source.width source.height) (omega (arith, combined-paid page source x y w.steps steps written))

-- a bitmap that is made
pub made-worth : {L : Type 0} (w : Work L) (width height : ℕ) (steps : Counts) → steps ≡ bitmap_made width height w.steps → PaidBut (paid_words width height) w (record w { steps = steps })
made-worth {L} w width height steps made = counts-worth w steps (paid_words width height) (made-counted width height w.steps steps made)

-- one that is filled
pub filled-worth : {L : Type 0} (w : Work L) (g : Grid) (steps : Counts) → steps ≡ words_cleared (words_of g) w.steps → PaidBut (paid_words g.width g.height) w (record w { steps = steps })
filled-worth {L} w g steps filled = counts-worth w steps (paid_words g.width g.height) (filled-counted g w.steps steps filled)

-- counts after which there is room for others
pub beside-worth : {L : Type 0} (w : Work L) (steps : Counts) (more n : ℕ) → sum_of_counts steps + more ≤ sum_of_counts w.steps + n → budget (record w { steps = steps }) + more ≤ budget w + n
unfolding budget
beside-worth {L} w steps more n counted = omega arith

-- a price pays for both, and for 2048 counts
pub twice-paid : (width height : ℕ) → 2 * paid_words width height + 2048 ≤ 32 * price_of_bitmap width height
unfolding paid_words price_of_bitmap
twice-paid width height = within (words_of_row width) height
  where
    within : (words height : ℕ) → 2 * (words * height) + 2048 ≤ 32 * (64 * words * height + 64)
    within words height = omega arith

-- a symbol that is made has the size that was paid for
pub new-taken : (result : Result Grid DecodeError) (w h new old : ℕ) → Gives (λ b. b) result (blank_or_overflow w h false) → new + 32 * price_of_bitmap w h ≤ old + paid_words w h → IfOk result (λ b. new + 32 * price_of_bitmap b.width b.height ≤ old + paid_words b.width b.height)
new-taken (Ok b) w h new old is taken =
    let white : b ≡ blank w h false = (white-made w h false b is).1 in
    let wide : b.width ≡ w = ap (λ (g : Grid). g.width) white in
    let high : b.height ≡ h = ap (λ (g : Grid). g.height) white in
    omega (arith, taken, price-same b.width w b.height h wide high, words-same b.width w b.height h wide high)
new-taken (Err e) w h new old is taken = tt
