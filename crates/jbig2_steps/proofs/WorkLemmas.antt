-- What a counter is worth after counts and after units, and the price of a bitmap.
use Rattle.std.proofs.Common.{◌≡◌, ℕ, ◌+◌, ◌*◌, ◌/◌, ◌%◌, ◌≤◌, min, Result, Ok, Err, IfOk, ap, ◌∙◌, arith}
use Rattle.std.specs.Prelude.{max}
use Rattle.jbig2_steps.specs.Counts.{Counts}
use Rattle.jbig2_steps.specs.Work.{IsWithinLimit, Paid, PaidBut, sum_of_counts, paid_words, price_of_bitmap, words_of_row, budget}
use Rattle.jbig2_steps.specs.declared.work.Work.{Work}

-- counts alone
pub counts-worth : {L : Type 0} (w : Work L) (steps : Counts) (n : ℕ) → sum_of_counts steps ≤ sum_of_counts w.steps + n → PaidBut n w (record w { steps = steps })
unfolding budget
counts-worth {L} w steps n more = omega arith

-- nothing counted
pub kept-worth : {L : Type 0} (w : Work L) (steps : Counts) → steps ≡ w.steps → budget (record w { steps = steps }) ≡ budget w
kept-worth {L} w steps same = ap (λ (s : Counts). budget (record w { steps = s })) same

-- decisions alone
pub decided-worth : {L : Type 0} (w : Work L) (steps : Counts) (n most : ℕ) → steps ≡ record w.steps { decisions = w.steps.decisions + n } → n ≤ most → PaidBut most w (record w { steps = steps })
decided-worth {L} w steps n most is few =
    let all : sum_of_counts steps ≡ sum_of_counts w.steps + n = ap (λ (s : Counts). sum_of_counts s) is ∙ omega arith in
    counts-worth w steps most (omega arith)

-- a counter that is worth no more than before is within its limit
pub paid-limit : {L : Type 0} (old new : Work L) → Paid old new → IsWithinLimit old new
unfolding budget
paid-limit {L} old new paid = omega arith

-- ---- prices
rows-are : (words height : ℕ) → words * 64 * height + 64 ≡ 64 * words * height + 64
rows-are words height = omega arith

pub words-are : (width : ℕ) → max 1 (width / 64 + min 1 (width % 64)) ≡ words_of_row width
words-are width = omega arith

pub price-is : (width height words rows : ℕ) → words ≡ words_of_row width → rows ≡ height → words * 64 * rows + 64 ≡ price_of_bitmap width height
unfolding price_of_bitmap
price-is width height words rows e f =
    ap (λ (n : ℕ). n * 64 * rows + 64) e ∙ ap (λ (n : ℕ). words_of_row width * 64 * n + 64) f
    ∙ rows-are (words_of_row width) height

pub price-least : (width height : ℕ) → 64 ≤ price_of_bitmap width height
unfolding price_of_bitmap
price-least width height = omega arith

pub taken-least : {T E : Type 0} (result : Result T E) (new old width height price : ℕ) → price ≡ price_of_bitmap width height → IfOk result (λ _. new + 32 * price ≡ old) → IfOk result (λ _. new + 2048 ≤ old)
taken-least (Ok x) new old width height price is taken = omega (arith, taken, is, price-least width height)
taken-least (Err e) new old width height price is taken = tt

-- what is counted for each word of a row and for each row is within the price, and one count more for each word
pub room-paid : (width height n : ℕ) → n ≤ 2047 * (words_of_row width * height) → n + paid_words width height ≤ 32 * price_of_bitmap width height
unfolding paid_words price_of_bitmap
room-paid width height n few = within (words_of_row width) height n few
  where
    within : (words height n : ℕ) → n ≤ 2047 * (words * height) → n + words * height ≤ 32 * (64 * words * height + 64)
    within words height n few = omega arith

-- without the one count more
pub row-paid : (width height n : ℕ) → n ≤ 2048 * (words_of_row width * height) → n ≤ 32 * price_of_bitmap width height
unfolding price_of_bitmap
row-paid width height n few = within (words_of_row width) height n few
  where
    within : (words height n : ℕ) → n ≤ 2048 * (words * height) → n ≤ 32 * (64 * words * height + 64)
    within words height n few = omega arith
