-- Columns of a refinement whose colour is known, by a mask, and the reference's pixels that are copied there.
use Rattle.std.proofs.Common.{◌≡◌, ℕ, ◌+◌, ◌-◌, ◌*◌, ◌/◌, ◌%◌, ◌^◌, ◌<◌, ◌≤◌, Bool, true, false, not, ◌&&◌, ◌||◌, cond, eqb, Option, Some, None, min, refl, sym, ap, ◌∙◌, arith}
use Rattle.std.proofs.Math.Nat.{pow-le-pow_right}
use Rattle.std.proofs.lemmas.Nat.{mod_below, mul-add-lt, or_lt, pow-add, pow_pos, shr-shr}
use Rattle.std.proofs.lemmas.Bool.Decides.{nat_tests}
use Rattle.std.specs.Int.RustNames.{bit_or}
use Rattle.std.specs.Int.Count.{count_leading_zeros}
use lib.Bits.{bit_and}
use Rattle.jbig2_base.specs.Bits.{bit, bit_number}
use Rattle.jbig2_base.proofs.BitLemmas.{bit-and, bit-not, bit-or, bit-shl_high, bit-shr, bit-zero, bit_number-bit}
use Rattle.jbig2_base.proofs.ColourLemmas.{leading-is}
use Rattle.jbig2_region.specs.inner.RefinementBlocks.{IsUnknown}
use Rattle.jbig2_region.specs.inner.RefinementWindows.{colour_of, known_of, nine_of, three_of, known_at}
use Rattle.jbig2_region.specs.declared.refinement_kernel.windows.RefinementWindows.{RefinementWindows}
use Rattle.jbig2_region.proofs.GatherLemmas.{even}
use Rattle.jbig2_region.proofs.RefinementWindowLemmas.{three-bits}
use Rattle.jbig2_region.proofs.RegisterLemmas.{double, low-bits}

-- ---- nine pixels of one colour
-- three of them are black, or white
three-black : (l m r : Bool) → eqb (bit_number r + bit_number m * 2 + bit_number l * 4) 7 ≡ ((l && m) && r)
three-black true true true = refl
three-black true true false = refl
three-black true false true = refl
three-black true false false = refl
three-black false true true = refl
three-black false true false = refl
three-black false false true = refl
three-black false false false = refl

three-none : (l m r : Bool) → eqb (bit_number r + bit_number m * 2 + bit_number l * 4) 0 ≡ not ((l || m) || r)
three-none true true true = refl
three-none true true false = refl
three-none true false true = refl
three-none true false false = refl
three-none false true true = refl
three-none false true false = refl
three-none false false true = refl
three-none false false false = refl

nine-black : (b h a : ℕ) → b < 8 → h < 8 → a < 8 → eqb (b + h * 8 + a * 64) 511 ≡ (eqb a 7 && eqb h 7 && eqb b 7)
nine-black b h a i j k = grind (arith, nat_tests)

nine-none : (b h a : ℕ) → b < 8 → h < 8 → a < 8 → eqb (b + h * 8 + a * 64) 0 ≡ (eqb a 0 && eqb h 0 && eqb b 0)
nine-none b h a i j k = grind (arith, nat_tests)

-- by columns in place of rows
black-turned : (a0 a1 a2 h0 h1 h2 b0 b1 b2 : Bool) → (((a2 && a1) && a0) && ((h2 && h1) && h0) && ((b2 && b1) && b0)) ≡ ((((a1 && h1) && b1) && ((a0 && h0) && b0)) && ((a2 && h2) && b2))
black-turned a0 a1 a2 h0 h1 h2 b0 b1 b2 = grind arith

none-turned : (a0 a1 a2 h0 h1 h2 b0 b1 b2 : Bool) → (not ((a2 || a1) || a0) && not ((h2 || h1) || h0) && not ((b2 || b1) || b0)) ≡ not ((((a1 || h1) || b1) || ((a0 || h0) || b0)) || ((a2 || h2) || b2))
none-turned a0 a1 a2 h0 h1 h2 b0 b1 b2 = grind arith

-- the pixel in the middle
black-here : (a h b p q : Bool) → ((((a && h) && b) && p) && q) ≡ true → h ≡ true
black-here a h b p q e = grind (arith, e)

none-here : (a h b p q : Bool) → ((((a || h) || b) || p) || q) ≡ false → h ≡ false
none-here a h b p q e = grind (arith, e)

-- what the nine tell, and what a mask of black columns and one of mixed ones do
result-alike : (black mixed here : Bool) → (black ≡ true → here ≡ true) → (mixed ≡ false → here ≡ false)
    → cond black (Some true) (cond (not mixed) (Some false) None) ≡ cond (black || not mixed) (Some here) None
result-alike true mixed here full none = ap (λ (c : Bool). let known : Option Bool = Some c in known) (sym (full refl))
result-alike false true here full none = refl
result-alike false false here full none = ap (λ (c : Bool). let known : Option Bool = Some c in known) (sym (none refl))

result-rows : (b h a : ℕ) (black mixed : Bool) → b < 8 → h < 8 → a < 8 → (eqb a 7 && eqb h 7 && eqb b 7) ≡ black → (eqb a 0 && eqb h 0 && eqb b 0) ≡ not mixed
    → colour_of (b + h * 8 + a * 64) ≡ cond black (Some true) (cond (not mixed) (Some false) None)
result-rows b h a black mixed i j k full none =
    ap (λ (t : Bool). cond t (Some true) (cond (eqb (b + h * 8 + a * 64) 0) (Some false) None)) (nine-black b h a i j k ∙ full)
    ∙ ap (λ (t : Bool). cond black (Some true) (cond t (Some false) None)) (nine-none b h a i j k ∙ none)

-- three tests, each of which is another one
and-alike : (x y z x' y' z' : Bool) → x ≡ x' → y ≡ y' → z ≡ z' → ((x && y) && z) ≡ ((x' && y') && z')
and-alike x y z x' y' z' e f g = rw (e, f, g) refl

or-alike : (x y z x' y' z' : Bool) → x ≡ x' → y ≡ y' → z ≡ z' → ((x || y) || z) ≡ ((x' || y') || z')
or-alike x y z x' y' z' e f g = rw (e, f, g) refl

rows-alike : (x y z x' y' z' : Bool) → x ≡ x' → y ≡ y' → z ≡ z' → (x && y && z) ≡ (x' && y' && z')
rows-alike x y z x' y' z' e f g = rw (e, f, g) refl

-- ---- the mask
abbrev pub all_of : RefinementWindows → ℕ
all_of w = bit_and (bit_and w.above w.here) w.below

abbrev pub any_of : RefinementWindows → ℕ
any_of w = bit_or (bit_or w.above w.here) w.below

bit-all : (w : RefinementWindows) (k : ℕ) → bit (all_of w) k ≡ ((bit w.above k && bit w.here k) && bit w.below k)
bit-all w k = bit-and (bit_and w.above w.here) w.below k ∙ ap (λ (t : Bool). t && bit w.below k) (bit-and w.above w.here k)

bit-any : (w : RefinementWindows) (k : ℕ) → bit (any_of w) k ≡ ((bit w.above k || bit w.here k) || bit w.below k)
bit-any w k = bit-or (bit_or w.above w.here) w.below k ∙ ap (λ (t : Bool). t || bit w.below k) (bit-or w.above w.here k)

-- a bit of a word, and of the words that are moved by one
right-of : (n k : ℕ) → k < 32 → bit (n * 2 ^ 1 % 2 ^ 64) (62 - k) ≡ bit n (61 - k)
right-of n k few =
    let place : 62 - k - 1 ≡ 61 - k = omega arith in
    bit-shl_high n 1 64 (62 - k) (omega arith) (omega arith) ∙ ap (λ (i : ℕ). bit n i) place

left-of : (n k : ℕ) → k < 32 → bit (n / 2 ^ 1) (62 - k) ≡ bit n (63 - k)
left-of n k few =
    let place : 1 + (62 - k) ≡ 63 - k = omega arith in
    bit-shr n 1 (62 - k) ∙ ap (λ (i : ℕ). bit n i) place

bit-black : (n k : ℕ) → k < 32 → bit (bit_and (bit_and n (n * 2 ^ 1 % 2 ^ 64)) (n / 2 ^ 1)) (62 - k) ≡ ((bit n (62 - k) && bit n (61 - k)) && bit n (63 - k))
bit-black n k few =
    bit-and (bit_and n (n * 2 ^ 1 % 2 ^ 64)) (n / 2 ^ 1) (62 - k)
    ∙ ap (λ (t : Bool). t && bit (n / 2 ^ 1) (62 - k)) (bit-and n (n * 2 ^ 1 % 2 ^ 64) (62 - k) ∙ ap (λ (t : Bool). bit n (62 - k) && t) (right-of n k few))
    ∙ ap (λ (t : Bool). (bit n (62 - k) && bit n (61 - k)) && t) (left-of n k few)

bit-mixed : (n k : ℕ) → k < 32 → bit (bit_or (bit_or n (n * 2 ^ 1 % 2 ^ 64)) (n / 2 ^ 1)) (62 - k) ≡ ((bit n (62 - k) || bit n (61 - k)) || bit n (63 - k))
bit-mixed n k few =
    bit-or (bit_or n (n * 2 ^ 1 % 2 ^ 64)) (n / 2 ^ 1) (62 - k)
    ∙ ap (λ (t : Bool). t || bit (n / 2 ^ 1) (62 - k)) (bit-or n (n * 2 ^ 1 % 2 ^ 64) (62 - k) ∙ ap (λ (t : Bool). bit n (62 - k) || t) (right-of n k few))
    ∙ ap (λ (t : Bool). (bit n (62 - k) || bit n (61 - k)) || t) (left-of n k few)

mixed-lt : (n : ℕ) → n < 2 ^ 64 → bit_or (bit_or n (n * 2 ^ 1 % 2 ^ 64)) (n / 2 ^ 1) < 2 ^ 64
mixed-lt n small = or_lt 64 (bit_or n (n * 2 ^ 1 % 2 ^ 64)) (n / 2 ^ 1) (or_lt 64 n (n * 2 ^ 1 % 2 ^ 64) small (omega arith)) (omega arith)

three-at : (word k : ℕ) → k < 32 → three_of word k ≡ bit_number (bit word (61 - k)) + bit_number (bit word (62 - k)) * 2 + bit_number (bit word (63 - k)) * 4
three-at word k few =
    let middle : 61 - k + 1 ≡ 62 - k = omega arith in
    let left : 61 - k + 2 ≡ 63 - k = omega arith in
    three-bits word (61 - k)
    ∙ ap (λ (i : ℕ). bit_number (bit word (61 - k)) + bit_number (bit word i) * 2 + bit_number (bit word (61 - k + 2)) * 4) middle
    ∙ ap (λ (i : ℕ). bit_number (bit word (61 - k)) + bit_number (bit word (62 - k)) * 2 + bit_number (bit word i) * 4) left

three-lt : (word k : ℕ) → three_of word k < 8
three-lt word k = omega arith

three-full : (word k : ℕ) → k < 32 → eqb (three_of word k) 7 ≡ ((bit word (63 - k) && bit word (62 - k)) && bit word (61 - k))
three-full word k few = ap (λ (n : ℕ). eqb n 7) (three-at word k few) ∙ three-black (bit word (63 - k)) (bit word (62 - k)) (bit word (61 - k))

three-white : (word k : ℕ) → k < 32 → eqb (three_of word k) 0 ≡ not ((bit word (63 - k) || bit word (62 - k)) || bit word (61 - k))
three-white word k few = ap (λ (n : ℕ). eqb n 0) (three-at word k few) ∙ three-none (bit word (63 - k)) (bit word (62 - k)) (bit word (61 - k))

pub known-result : (w : RefinementWindows) (k : ℕ) → k < 32 → w.above < 2 ^ 64 → w.here < 2 ^ 64 → w.below < 2 ^ 64
    → colour_of (nine_of w k)
    ≡ known_at (bit_or (bit_and (bit_and (all_of w) (all_of w * 2 ^ 1 % 2 ^ 64)) (all_of w / 2 ^ 1)) (2 ^ 64 - 1 - bit_or (bit_or (any_of w) (any_of w * 2 ^ 1 % 2 ^ 64)) (any_of w / 2 ^ 1))) w.here (62 - k)
known-result w k few is_above is_here is_below =
    let small : any_of w < 2 ^ 64 = or_lt 64 (bit_or w.above w.here) w.below (or_lt 64 w.above w.here is_above is_here) is_below in
    let a0 : Bool = bit w.above (61 - k) in
    let a1 : Bool = bit w.above (62 - k) in
    let a2 : Bool = bit w.above (63 - k) in
    let h0 : Bool = bit w.here (61 - k) in
    let h1 : Bool = bit w.here (62 - k) in
    let h2 : Bool = bit w.here (63 - k) in
    let b0 : Bool = bit w.below (61 - k) in
    let b1 : Bool = bit w.below (62 - k) in
    let b2 : Bool = bit w.below (63 - k) in
    let black : Bool = (((a1 && h1) && b1) && ((a0 && h0) && b0)) && ((a2 && h2) && b2) in
    let mixed : Bool = (((a1 || h1) || b1) || ((a0 || h0) || b0)) || ((a2 || h2) || b2) in
    let full : ℕ = bit_and (bit_and (all_of w) (all_of w * 2 ^ 1 % 2 ^ 64)) (all_of w / 2 ^ 1) in
    let some : ℕ = bit_or (bit_or (any_of w) (any_of w * 2 ^ 1 % 2 ^ 64)) (any_of w / 2 ^ 1) in
    let is_full : bit full (62 - k) ≡ black = bit-black (all_of w) k few ∙ and-alike _ _ _ _ _ _ (bit-all w (62 - k)) (bit-all w (61 - k)) (bit-all w (63 - k)) in
    let is_some : bit some (62 - k) ≡ mixed = bit-mixed (any_of w) k few ∙ or-alike _ _ _ _ _ _ (bit-any w (62 - k)) (bit-any w (61 - k)) (bit-any w (63 - k)) in
    let known : bit (bit_or full (2 ^ 64 - 1 - some)) (62 - k) ≡ (black || not mixed) =
    bit-or full (2 ^ 64 - 1 - some) (62 - k)
    ∙ ap (λ (t : Bool). t || bit (2 ^ 64 - 1 - some) (62 - k)) is_full
    ∙ ap (λ (t : Bool). black || t) (bit-not some (62 - k) (mixed-lt (any_of w) small) (omega arith) ∙ ap (λ (t : Bool). not t) is_some) in
    result-rows (three_of w.below k) (three_of w.here k) (three_of w.above k) black mixed (three-lt w.below k) (three-lt w.here k) (three-lt w.above k)
    (rows-alike _ _ _ _ _ _ (three-full w.above k few) (three-full w.here k few) (three-full w.below k few) ∙ black-turned a0 a1 a2 h0 h1 h2 b0 b1 b2)
    (rows-alike _ _ _ _ _ _ (three-white w.above k few) (three-white w.here k few) (three-white w.below k few) ∙ none-turned a0 a1 a2 h0 h1 h2 b0 b1 b2)
    ∙ result-alike black mixed h1 (black-here a1 h1 b1 ((a0 && h0) && b0) ((a2 && h2) && b2)) (none-here a1 h1 b1 ((a0 || h0) || b0) ((a2 || h2) || b2))
    ∙ ap (λ (t : Bool). cond t (Some h1) None) (sym known)

pub known-none : (here b : ℕ) → None ≡ known_at 0 here b
known-none here b = ap (λ (t : Bool). cond t (Some (bit here b)) None) (sym (bit-zero b))

-- ---- the highest bits of a word
pub leading-zeros : (word most n : ℕ) → most < 64 → word < 2 ^ 64 → n ≡ min (count_leading_zeros 64 word) most → (k : ℕ) → k < n → bit word (63 - k) ≡ false
leading-zeros word most n few small is k before =
    let place : 63 - k ≡ 64 - 1 - k = omega arith in
    ap (λ (i : ℕ). bit word i) place ∙ (leading-is word 64 (omega arith) small).before k (omega arith)

pub leading-next : (word most n : ℕ) → most < 64 → word < 2 ^ 64 → n ≡ min (count_leading_zeros 64 word) most → n < most → bit word (63 - n) ≡ true
leading-next word most n few small is less =
    let place : 63 - n ≡ 64 - 1 - (count_leading_zeros 64 word - (64 - 64)) = omega arith in
    ap (λ (i : ℕ). bit word i) place ∙ (leading-is word 64 (omega arith) small).found (omega arith)

flipped-set : (b : Bool) → not b ≡ false → b ≡ true
flipped-set true e = refl
flipped-set false e = sym e

flipped-clear : (b : Bool) → not b ≡ true → b ≡ false
flipped-clear true e = sym e
flipped-clear false e = refl

-- the ones of a word are the zeros of the other one
pub leading-ones : (word most n : ℕ) → most < 64 → word < 2 ^ 64 → n ≡ min (count_leading_zeros 64 (2 ^ 64 - 1 - word)) most → (k : ℕ) → k < n → bit word (63 - k) ≡ true
leading-ones word most n few small is k before =
    flipped-set (bit word (63 - k)) (sym (bit-not word (63 - k) small (omega arith)) ∙ leading-zeros (2 ^ 64 - 1 - word) most n few (omega arith) is k before)

pub leading-ones_next : (word most n : ℕ) → most < 64 → word < 2 ^ 64 → n ≡ min (count_leading_zeros 64 (2 ^ 64 - 1 - word)) most → n < most → bit word (63 - n) ≡ false
leading-ones_next word most n few small is less =
    flipped-clear (bit word (63 - n)) (sym (bit-not word (63 - n) small (omega arith)) ∙ leading-next (2 ^ 64 - 1 - word) most n few (omega arith) is less)

-- ---- stretches of columns that the mask tells of, or doesn't
known-moved : (known done i : ℕ) → done + i < 62 → bit (known * 2 ^ (done + 1) % 2 ^ 64) (63 - i) ≡ bit known (62 - (done + i))
known-moved known done i inside =
    let place : 63 - i - (done + 1) ≡ 62 - (done + i) = omega arith in
    bit-shl_high known (done + 1) 64 (63 - i) (omega arith) (omega arith) ∙ ap (λ (b : ℕ). bit known b) place

pub copied-known : (p : Bool) (w : RefinementWindows) (known done n : ℕ) → ((k : ℕ) → k < 32 → known_of p (nine_of w k) ≡ known_at known w.here (62 - k)) → done + n ≤ 32
    → ((i : ℕ) → i < n → bit (known * 2 ^ (done + 1) % 2 ^ 64) (63 - i) ≡ true) → (i : ℕ) → i < n → known_of p (nine_of w (done + i)) ≡ Some (bit w.here (62 - (done + i)))
copied-known p w known done n tells few ones i inside =
    tells (done + i) (omega arith) ∙ ap (λ (t : Bool). cond t (Some (bit w.here (62 - (done + i)))) None) (sym (known-moved known done i (omega arith)) ∙ ones i inside)

pub decided-unknown : (p : Bool) (w : RefinementWindows) (known done n : ℕ) → ((k : ℕ) → k < 32 → known_of p (nine_of w k) ≡ known_at known w.here (62 - k)) → done + n ≤ 32
    → ((i : ℕ) → i < n → bit (known * 2 ^ (done + 1) % 2 ^ 64) (63 - i) ≡ false) → IsUnknown p w done n
decided-unknown p w known done n tells few zeros i inside =
    tells (done + i) (omega arith) ∙ ap (λ (t : Bool). cond t (Some (bit w.here (62 - (done + i)))) None) (sym (known-moved known done i (omega arith)) ∙ zeros i inside)

-- ---- the reference's pixels, copied
-- the room that they take
copied-room : (pixels offset count : ℕ) → offset + count ≤ 32 → pixels < 16 * 2 ^ offset → pixels * 2 ^ count < 2 ^ 36
copied-room pixels offset count few room =
    let all : pixels * 2 ^ count + 0 < 2 ^ count * (16 * 2 ^ offset) = mul-add-lt pixels (2 ^ count) 0 (16 * 2 ^ offset) room (pow_pos count) in
    let wide : 2 ^ (offset + count) ≤ 2 ^ 32 = pow-le-pow_right (omega arith) few in
    let parts : 2 ^ (offset + count) ≡ 2 ^ offset * 2 ^ count = pow-add 2 offset count in
    omega (arith, all)

pub copied-value : (pixels rest offset count : ℕ) → offset + count ≤ 32 → pixels < 16 * 2 ^ offset → pixels * 2 ^ count % 2 ^ 64 + rest % (1 * 2 ^ count % 2 ^ 64) ≡ pixels * 2 ^ count + rest % 2 ^ count
copied-value pixels rest offset count few room =
    let small : pixels * 2 ^ count < 2 ^ 36 = copied-room pixels offset count few room in
    let whole : pixels * 2 ^ count % 2 ^ 64 ≡ pixels * 2 ^ count = omega arith in
    rw (whole, low-bits rest count (omega arith)) refl

pub copied-fits : (pixels rest offset count : ℕ) → offset + count ≤ 32 → pixels < 16 * 2 ^ offset → pixels * 2 ^ count % 2 ^ 64 + rest % (1 * 2 ^ count % 2 ^ 64) < 2 ^ 64
copied-fits pixels rest offset count few room =
    let small : pixels * 2 ^ count < 2 ^ 36 = copied-room pixels offset count few room in
    let wide : 2 ^ count ≤ 2 ^ 32 = pow-le-pow_right (omega arith) (let less : count ≤ 32 = omega arith in less) in
    let below : rest % 2 ^ count < 2 ^ count = mod_below rest (2 ^ count) (pow_pos count) in
    rw (copied-value pixels rest offset count few room) (omega arith)

-- one pixel more
copied-digit : (pixels here n b : ℕ) → (pixels * 2 ^ n + here / 2 ^ (b + 1) % 2 ^ n) * 2 + bit_number (bit here b) ≡ pixels * 2 ^ (n + 1) + here / 2 ^ b % 2 ^ (n + 1)
copied-digit pixels here n b =
    let half : here / 2 ^ (b + 1) ≡ here / 2 ^ b / 2 ^ 1 = sym (shr-shr here b 1) in
    let digit : bit_number (bit here b) ≡ here / 2 ^ b % 2 = bit_number-bit here b in
    let whole : here / 2 ^ b ≡ here / 2 ^ b / 2 ^ 1 * 2 + here / 2 ^ b % 2 = omega arith in
    let rest : here / 2 ^ b % 2 ^ (n + 1) ≡ here / 2 ^ b / 2 ^ 1 % 2 ^ n * 2 + here / 2 ^ b % 2 =
    ap (λ (m : ℕ). here / 2 ^ b % m) (double n) ∙ ap (λ (m : ℕ). m % (2 * 2 ^ n)) whole ∙ even (here / 2 ^ b / 2 ^ 1) (here / 2 ^ b % 2) (2 ^ n) (omega arith) (pow_pos n) in
    let shifted : pixels * 2 ^ (n + 1) ≡ pixels * 2 ^ n * 2 = ap (λ (m : ℕ). pixels * m) (double n) ∙ omega arith in
    rw (half, digit, rest, shifted) (omega arith)

pub copied-next : (pixels here k n : ℕ) → k + (n + 1) ≤ 32
    → (pixels * 2 ^ n + here / 2 ^ (63 - (k + n)) % 2 ^ n) * 2 + bit_number (bit here (62 - (k + n))) ≡ pixels * 2 ^ (n + 1) + here / 2 ^ (63 - (k + (n + 1))) % 2 ^ (n + 1)
copied-next pixels here k n few =
    let before : 63 - (k + n) ≡ 62 - (k + n) + 1 = omega arith in
    let last : 62 - (k + n) ≡ 63 - (k + (n + 1)) = omega arith in
    ap (λ (b : ℕ). (pixels * 2 ^ n + here / 2 ^ b % 2 ^ n) * 2 + bit_number (bit here (62 - (k + n)))) before
    ∙ copied-digit pixels here n (62 - (k + n))
    ∙ ap (λ (b : ℕ). pixels * 2 ^ (n + 1) + here / 2 ^ b % 2 ^ (n + 1)) last
