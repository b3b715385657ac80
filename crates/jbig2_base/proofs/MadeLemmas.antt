-- Counts of bitmaps that are made.
use Rattle.std.specs.Prelude.{◌⊎◌, if◌then◌else◌, ◌||◌}
use Rattle.std.proofs.Common.{◌≡◌, ℕ, ◌+◌, ◌*◌, ◌/◌, ◌<◌, ◌≤◌, Bool, true, false, ltb, inl, inr, Result, Ok, Err, ap, refl, sym, ◌∙◌, arith}
use Rattle.std.proofs.lemmas.Bool.{cond-true, cond-false}
use Rattle.std.proofs.lemmas.Bool.Decides.{nat_tests}
use Rattle.std.proofs.Math.Nat.{mul-le-mul_right}
use Rattle.jbig2_base.specs.Counts.{Counts, bitmap_made, words_of, wide_words_made, words_cleared, words_made}
use Rattle.jbig2_base.specs.Grid.{Grid, blank, blank_or_overflow, max_side}
use Rattle.jbig2_base.specs.Results.{◌>>=◌, refuse_if}
use Rattle.jbig2_base.specs.declared.error.DecodeError.{DecodeError}
use Rattle.jbig2_steps.specs.Work.{paid_words, price_of_bitmap, sum_of_counts, words_of_row}
use Rattle.jbig2_steps.proofs.WorkLemmas.{room-paid}
use Rattle.jbig2_base.proofs.CountLemmas.{cleared-as, cleared-none}

-- ---- areas
large-area : (n : ℕ) → 65535 * 65535 < n → ltb (65535 * 65535) n ≡ true
large-area n large = grind (arith, nat_tests)

small-area : (n : ℕ) → n ≤ 65535 * 65535 → ltb (65535 * 65535) n ≡ false
small-area n small = grind (arith, nat_tests)

-- ---- by the check of the sides
refused-sides : (refused : Bool) (g : Grid) (e f : DecodeError) → (refuse_if refused e >>= λ _. Ok g) ≡ Err f → refused ≡ true
refused-sides true g e f is = refl
refused-sides false g e f is = cc

accepted-sides : (refused : Bool) (g made : Grid) (e : DecodeError) → (refuse_if refused e >>= λ _. Ok g) ≡ Ok made → refused ≡ false
accepted-sides true g made e is = cc
accepted-sides false g made e is = refl

pub made-refused : (w h : ℕ) (black : Bool) (s : Counts) (e : DecodeError) → blank_or_overflow w h black ≡ Err e → s ≡ bitmap_made w h s
unfolding words_made
made-refused w h black s e is =
    cleared-none s _ (cond-true _ 0 ((w + 63) / 64 * h) (refused-sides (ltb 65535 w || ltb 65535 h) (blank w h black) _ e is))

pub made-accepted : (w h : ℕ) (black : Bool) (g : Grid) (s t : Counts) → blank_or_overflow w h black ≡ Ok g → t ≡ words_cleared ((w + 63) / 64 * h) s → t ≡ bitmap_made w h s
unfolding words_made
made-accepted w h black g s t is cleared =
    cleared-as s t _ _ cleared (sym (cond-false _ 0 ((w + 63) / 64 * h) (accepted-sides (ltb 65535 w || ltb 65535 h) (blank w h black) g _ is)))

pub wide-refused : (w h : ℕ) (s : Counts) → 65535 * 65535 < w * h → s ≡ words_cleared (wide_words_made w h) s
unfolding wide_words_made
wide-refused w h s large = cleared-none s _ (cond-true _ 0 ((w + 63) / 64 * h) (large-area (w * h) large))

pub wide-here : (w h : ℕ) (s t : Counts) → w * h ≤ 65535 * 65535 → t ≡ words_cleared ((w + 63) / 64 * h) s → t ≡ words_cleared (wide_words_made w h) s
unfolding wide_words_made
wide-here w h s t small cleared = cleared-as s t _ _ cleared (sym (cond-false _ 0 ((w + 63) / 64 * h) (small-area (w * h) small)))

-- ---- how much is counted
row-words : (w h : ℕ) → (w + 63) / 64 * h ≤ words_of_row w * h
row-words w h = mul-le-mul_right h (omega arith)

either-few : (b : Bool) (n m : ℕ) → n ≤ m → (if b then 0 else n) ≤ m
either-few true n m few = omega arith
either-few false n m few = few

pub made-few : (w h : ℕ) → words_made w h ≤ paid_words w h
unfolding words_made paid_words
made-few w h = either-few _ _ _ (row-words w h)

pub wide-made-few : (w h : ℕ) → wide_words_made w h ≤ paid_words w h
unfolding wide_words_made paid_words
wide-made-few w h = either-few _ _ _ (row-words w h)

pub cleared-counted : (n : ℕ) (old new : Counts) → new ≡ words_cleared n old → sum_of_counts new ≡ sum_of_counts old + n
cleared-counted n old new cleared = ap (λ (c : Counts). sum_of_counts c) cleared ∙ omega arith

pub made-counted : (w h : ℕ) (old new : Counts) → new ≡ bitmap_made w h old → sum_of_counts new ≤ sum_of_counts old + paid_words w h
made-counted w h old new made = omega (arith, cleared-counted (words_made w h) old new made, made-few w h)

pub wide-made-counted : (w h : ℕ) (old new : Counts) → new ≡ words_cleared (wide_words_made w h) old → sum_of_counts new ≤ sum_of_counts old + paid_words w h
wide-made-counted w h old new made = omega (arith, cleared-counted (wide_words_made w h) old new made, wide-made-few w h)

pub filled-counted : (g : Grid) (old new : Counts) → new ≡ words_cleared (words_of g) old → sum_of_counts new ≤ sum_of_counts old + paid_words g.width g.height
unfolding paid_words
filled-counted g old new filled = omega (arith, cleared-counted (words_of g) old new filled, row-words g.width g.height)

-- a bitmap that is made and not drawn on
pub made-paid : (w h : ℕ) (old new : Counts) → new ≡ bitmap_made w h old → sum_of_counts new ≤ sum_of_counts old + 32 * price_of_bitmap w h
made-paid w h old new made = omega (arith, made-counted w h old new made, room-paid w h 0 (omega arith))

pub words-same : (w v h k : ℕ) → w ≡ v → h ≡ k → paid_words w h ≡ paid_words v k
words-same w v h k e f = ap (λ (n : ℕ). paid_words n h) e ∙ ap (λ (n : ℕ). paid_words v n) f
