-- Changing elements in words of pixels.
use Rattle.std.proofs.Common.{◌≡◌, ℕ, zero, suc, ◌+◌, ◌-◌, ◌*◌, ◌/◌, ◌%◌, ◌^◌, ◌<◌, ◌≤◌, Bool, true, false, not, ◌&&◌, cond, leb, min, refl, sym, ap, subst, ◌∙◌, ⊎_elim, arith}
use Rattle.std.specs.Prelude.{◌||◌}
use Rattle.std.proofs.lemmas.Bool.{true≢false, cases_Bool, cases_eq, cases_lt, cond-true, cond-false, and_parts, le-leb, lt-leb}
use Rattle.std.proofs.lemmas.Nat.{leading_top, shr-shr}
use Rattle.std.specs.Int.Count.{count_leading_zeros}
use Rattle.std.specs.Int.RustNames.{bit_and, bit_or, bit_xor}
use Rattle.jbig2_base.specs.Colour.{IsFirst}
use Rattle.jbig2_base.specs.Search.{least, place_from}
use Rattle.jbig2_base.specs.Bits.{bit}
use Rattle.jbig2_base.proofs.BitLemmas.{bit-above, bit-and, bit-or, bit-shl_high, bit-shl_low, bit-shr, bit-xor, bit-zero, or-false}
use Rattle.jbig2_base.proofs.ColourLemmas.{leading-is, ones-bit, ones-lt}
use Rattle.jbig2_base.proofs.SearchLemmas.{place-is, place-past}
use Rattle.jbig2_base.specs.Grid.{differ}
use Rattle.jbig2_mmr.specs.T6.{left_of, is_change, is_change_from}
use Rattle.jbig2_mmr.proofs.T6Rows.{left-here}

-- ---- pixels and their left neighbours
pub neighbours-first : (pixels before : ℕ) → pixels < 2 ^ 64 → bit (bit_or (pixels / 2 ^ 1) (before * 2 ^ 63 % 2 ^ 64)) 63 ≡ bit before 0
neighbours-first pixels before small =
    bit-or (pixels / 2 ^ 1) (before * 2 ^ 63 % 2 ^ 64) 63
    ∙ ap (λ (b : Bool). b || bit (before * 2 ^ 63 % 2 ^ 64) 63) (bit-shr pixels 1 63 ∙ bit-above pixels 64 64 small (omega arith))
    ∙ bit-shl_high before 63 64 63 (omega arith) (omega arith)

pub neighbours-others : (pixels before k : ℕ) → k < 63 → bit (bit_or (pixels / 2 ^ 1) (before * 2 ^ 63 % 2 ^ 64)) k ≡ bit pixels (k + 1)
neighbours-others pixels before k inside =
    let at : 1 + k ≡ k + 1 = omega arith in
    bit-or (pixels / 2 ^ 1) (before * 2 ^ 63 % 2 ^ 64) k
    ∙ or-false (bit (pixels / 2 ^ 1) k) (bit (before * 2 ^ 63 % 2 ^ 64) k) (bit-shl_low before 63 64 k inside (omega arith))
    ∙ bit-shr pixels 1 k ∙ ap (λ (i : ℕ). bit pixels i) at

-- the last pixel of a word is the one left of the next word
pub last-left : (row : ℕ → Bool) (x pixels : ℕ) → ((k : ℕ) → k < 64 → bit pixels (64 - 1 - k) ≡ row (x + k)) → bit pixels 0 ≡ left_of row (x + 64)
last-left row x pixels read =
    let at : 0 ≡ 64 - 1 - 63 = omega arith in
    let place : x + 63 ≡ x + 64 - 1 = omega arith in
    ap (λ (i : ℕ). bit pixels i) at ∙ read 63 (omega arith) ∙ ap row place ∙ sym (left-here row (x + 64) (omega arith))

-- ---- the bits of changes
to-white : (p l : Bool) → (cond p (not l) l && l) ≡ (differ p l && differ p true)
to-white true true = refl
to-white true false = refl
to-white false true = refl
to-white false false = refl

to-black : (p l : Bool) → (cond p (not l) l && p) ≡ (differ p l && differ p false)
to-black true true = refl
to-black true false = refl
to-black false true = refl
to-black false false = refl

pub white-bits : (pixels left k : ℕ) → bit (bit_and (bit_xor pixels left) left) k ≡ (differ (bit pixels k) (bit left k) && differ (bit pixels k) true)
white-bits pixels left k = bit-and (bit_xor pixels left) left k ∙ ap (λ (t : Bool). t && bit left k) (bit-xor pixels left k) ∙ to-white (bit pixels k) (bit left k)

pub black-bits : (pixels left k : ℕ) → bit (bit_and (bit_xor pixels left) pixels) k ≡ (differ (bit pixels k) (bit left k) && differ (bit pixels k) false)
black-bits pixels left k = bit-and (bit_xor pixels left) pixels k ∙ ap (λ (t : Bool). t && bit pixels k) (bit-xor pixels left k) ∙ to-black (bit pixels k) (bit left k)

-- ---- a search by words
-- what a word of changes says of the row from column x on: those that lie left of `from` are left out
pub record IsChanges (row : ℕ → Bool) (black : Bool) (from x changes : ℕ) : Type 0 where
  pub small : changes < 2 ^ 64
  pub outside : (k : ℕ) → k < 64 → x + k < from → bit changes (63 - k) ≡ false
  pub value : (k : ℕ) → k < 64 → from ≤ x + k → bit changes (63 - k) ≡ is_change_from row black (x + k)

-- the bits of changes, where the pixel left of the word is known
bits-are : (row : ℕ → Bool) (black : Bool) (x pixels left changes k : ℕ) → ((i : ℕ) → i < 64 → bit pixels (64 - 1 - i) ≡ row (x + i)) → ((i : ℕ) → i < 63 → bit left i ≡ bit pixels (i + 1)) → ((i : ℕ) → bit changes i ≡ (differ (bit pixels i) (bit left i) && differ (bit pixels i) black)) → k < 64 → (k ≡ 0 → bit left 63 ≡ left_of row x) → bit changes (63 - k) ≡ is_change_from row black (x + k)
unfolding is_change_from is_change
bits-are row black x pixels left changes k read others is inside first =
    is (63 - k)
    ∙ ap (λ (p : Bool). differ p (bit left (63 - k)) && differ p black) here
    ∙ ap (λ (l : Bool). differ (row (x + k)) l && differ (row (x + k)) black) neighbour
  where
    here : bit pixels (63 - k) ≡ row (x + k)
    here = let at : 63 - k ≡ 64 - 1 - k = omega arith in ap (λ (i : ℕ). bit pixels i) at ∙ read k inside

    neighbour : bit left (63 - k) ≡ left_of row (x + k)
    neighbour =
        ⊎_elim
        (λ (e : k ≡ 0).
        let at : 63 - k ≡ 63 = omega arith in
        let place : x ≡ x + k = omega arith in
        ap (λ (i : ℕ). bit left i) at ∙ first e ∙ ap (λ (i : ℕ). left_of row i) place)
        (λ (o : k ≡ 0 → ⊥).
        let at : 63 - k + 1 ≡ 64 - 1 - (k - 1) = omega (arith, o) in
        let place : x + (k - 1) ≡ x + k - 1 = omega (arith, o) in
        others (63 - k) (omega (arith, o)) ∙ ap (λ (i : ℕ). bit pixels i) at ∙ read (k - 1) (omega arith) ∙ ap row place ∙ sym (left-here row (x + k) (omega (arith, o))))
        (cases_eq k 0)

-- a whole word, after another one
pub changes-are : (row : ℕ → Bool) (black : Bool) (from x pixels before left changes : ℕ) → from ≤ x → changes < 2 ^ 64 → ((k : ℕ) → k < 64 → bit pixels (64 - 1 - k) ≡ row (x + k)) → bit before 0 ≡ left_of row x → bit left 63 ≡ bit before 0 → ((k : ℕ) → k < 63 → bit left k ≡ bit pixels (k + 1)) → ((k : ℕ) → bit changes k ≡ (differ (bit pixels k) (bit left k) && differ (bit pixels k) black)) → IsChanges row black from x changes
changes-are row black from x pixels before left changes past_start small read known first others is = record {
  small = small;
  outside = λ k inside out. absurd (omega arith);
  value = λ k inside after. bits-are row black x pixels left changes k read others is inside (λ e. first ∙ known);
}

-- the word with a0, of which the bits right of it are taken
pub changes-right : (row : ℕ → Bool) (black : Bool) (from x pixels left changes right : ℕ) → (from ≤ x → x ≡ 0) → changes < 2 ^ 64 → right < 2 ^ 64 → ((k : ℕ) → k < 64 → bit pixels (64 - 1 - k) ≡ row (x + k)) → bit left 63 ≡ bit 0 0 → ((k : ℕ) → k < 63 → bit left k ≡ bit pixels (k + 1)) → ((k : ℕ) → bit changes k ≡ (differ (bit pixels k) (bit left k) && differ (bit pixels k) black)) → ((k : ℕ) → k < 64 → bit right (63 - k) ≡ leb from (x + k)) → bit_and changes right < 2 ^ 64 → IsChanges row black from x (bit_and changes right)
changes-right row black from x pixels left changes right start small_changes small_right read first others is taken small = record {
  small = small;
  outside = λ k inside out. bit-and changes right (63 - k) ∙ and-false (bit changes (63 - k)) (bit right (63 - k)) (taken k inside ∙ lt-leb from (x + k) out);
  value = λ k inside after. bit-and changes right (63 - k) ∙ and-true (bit changes (63 - k)) (bit right (63 - k)) (taken k inside ∙ le-leb from (x + k) after)
      ∙ bits-are row black x pixels left changes k read others is inside (λ e. first ∙ bit-zero 0 ∙ ap (λ (i : ℕ). left_of row i) (sym (start (omega arith))));
}
  where
    and-false : (a b : Bool) → b ≡ false → (a && b) ≡ false
    and-false true b e = e
    and-false false b e = refl

    and-true : (a b : Bool) → b ≡ true → (a && b) ≡ a
    and-true true b e = e
    and-true false b e = refl

-- the bits from column x + n on
pub right-bit : (from x n k : ℕ) → n ≤ 64 → x + n ≡ from → k < 64 → bit ((2 ^ 64 - 1) / 2 ^ n) (63 - k) ≡ leb from (x + k)
right-bit from x n k few e inside =
    let all : n ≡ 64 - (64 - n) = omega arith in
    ⊎_elim
    (λ (out : k < n).
    let small : (2 ^ 64 - 1) / 2 ^ n < 2 ^ (64 - n) = subst (λ (i : ℕ). (2 ^ 64 - 1) / 2 ^ i < 2 ^ (64 - n)) (sym all) (ones-lt (64 - n) (omega arith)) in
    bit-above ((2 ^ 64 - 1) / 2 ^ n) (64 - n) (63 - k) small (omega arith) ∙ sym (lt-leb from (x + k) (omega arith)))
    (λ (there : n ≤ k). ap (λ (i : ℕ). bit ((2 ^ 64 - 1) / 2 ^ i) (63 - k)) all ∙ ones-bit (64 - n) (63 - k) (omega arith) (omega arith) ∙ sym (le-leb from (x + k) (omega arith)))
    (cases_lt k n)

pub right-more : (a : ℕ) → (2 ^ 64 - 1) / 2 ^ a / 2 ^ 1 ≡ (2 ^ 64 - 1) / 2 ^ (a + 1)
right-more a = shr-shr (2 ^ 64 - 1) a 1

-- no change in this word
pub changes-none : (row : ℕ → Bool) (black : Bool) (from x changes : ℕ) → IsChanges row black from x changes → changes ≡ 0 → ((i : ℕ) → from ≤ i → i < x → is_change_from row black i ≡ false) → (i : ℕ) → from ≤ i → i < x + 64 → is_change_from row black i ≡ false
changes-none row black from x changes is none so_far i after inside =
    ⊎_elim (λ (old : i < x). so_far i after old)
    (λ (fresh : x ≤ i).
    let at : x + (i - x) ≡ i = omega arith in
    ap (λ (n : ℕ). is_change_from row black n) (sym at) ∙ sym (is.value (i - x) (omega arith) (omega arith)) ∙ ap (λ (n : ℕ). bit n (63 - (i - x))) none ∙ bit-zero (63 - (i - x)))
    (cases_lt i x)

-- the first change in it
pub leading-within : (changes : ℕ) → changes < 2 ^ 64 → (changes ≡ 0 → ⊥) → count_leading_zeros 64 changes < 64
leading-within changes small some = let top = leading_top 64 changes (omega (arith, some)) small in omega (arith, top.1)

pub changes-found : (row : ℕ → Bool) (black : Bool) (from x changes to : ℕ) → IsChanges row black from x changes → (changes ≡ 0 → ⊥) → from ≤ to → ((i : ℕ) → from ≤ i → i < x → is_change_from row black i ≡ false) → min (x + count_leading_zeros 64 changes) to ≡ place_from (is_change_from row black) from to
changes-found row black from x changes to is some order so_far =
    let lead = leading-is changes 64 (omega arith) is.small in
    let k : ℕ = count_leading_zeros 64 changes in
    let few : k < 64 = leading-within changes is.small some in
    let here : bit changes (63 - k) ≡ true = let at : 63 - k ≡ 64 - 1 - (k - (64 - 64)) = omega arith in ap (λ (i : ℕ). bit changes i) at ∙ lead.found (omega arith) in
    let after : from ≤ x + k = ⊎_elim (λ (out : x + k < from). absurd (true≢false (sym here ∙ is.outside k few out))) (λ (there : from ≤ x + k). there) (cases_lt (x + k) from) in
    let before : (i : ℕ) → from ≤ i → i < x + k → is_change_from row black i ≡ false = λ i a b.
    ⊎_elim (λ (old : i < x). so_far i a old)
    (λ (fresh : x ≤ i).
    let at : x + (i - x) ≡ i = omega arith in
    let place : 63 - (i - x) ≡ 64 - 1 - (i - x) = omega arith in
    ap (λ (n : ℕ). is_change_from row black n) (sym at) ∙ sym (is.value (i - x) (omega arith) (omega arith)) ∙ ap (λ (n : ℕ). bit changes n) place ∙ lead.before (i - x) (omega arith))
    (cases_lt i x) in
    ⊎_elim
    (λ (inside : x + k < to).
    let least : min (x + k) to ≡ x + k = omega arith in
    least ∙ sym (place-is (is_change_from row black) from to (x + k) order after (omega arith) before (λ h. sym (is.value k few after) ∙ here)))
    (λ (past : to ≤ x + k).
    let least : min (x + k) to ≡ to = omega arith in
    least ∙ sym (place-is (is_change_from row black) from to to order order (omega arith) (λ i a b. before i a (omega arith)) (λ h. absurd (omega arith))))
    (cases_lt (x + k) to)

-- a row that is white from its end on has no change after it
none-outside : (row : ℕ → Bool) (black : Bool) (i to : ℕ) → ((j : ℕ) → to ≤ j → row j ≡ false) → to < i → is_change_from row black i ≡ false
unfolding is_change_from is_change
none-outside row black i to white past =
    ap (λ (p : Bool). differ p (left_of row i) && differ p black) (white i (omega arith))
    ∙ ap (λ (l : Bool). differ false l && differ false black) (left-here row i (omega arith) ∙ white (i - 1) (omega arith))

pub changes-within : (row : ℕ → Bool) (black : Bool) (from x changes to : ℕ) → IsChanges row black from x changes → (changes ≡ 0 → ⊥) → from ≤ to → ((i : ℕ) → from ≤ i → i < x → is_change_from row black i ≡ false) → ((i : ℕ) → to ≤ i → row i ≡ false) → x + count_leading_zeros 64 changes ≡ place_from (is_change_from row black) from to
changes-within row black from x changes to is some order so_far white =
    let k : ℕ = count_leading_zeros 64 changes in
    let found = changes-found row black from x changes to is some order so_far in
    ⊎_elim
    (λ (past : to < x + k).
    let lead = leading-is changes 64 (omega arith) is.small in
    let few : k < 64 = leading-within changes is.small some in
    let here : bit changes (63 - k) ≡ true = let at : 63 - k ≡ 64 - 1 - (k - (64 - 64)) = omega arith in ap (λ (i : ℕ). bit changes i) at ∙ lead.found (omega arith) in
    absurd (true≢false (sym here ∙ is.value k few (omega arith) ∙ none-outside row black (x + k) to white past)))
    (λ (inside : x + k ≤ to). omega (arith, found))
    (cases_lt to (x + k))

pub changes-past : (row : ℕ → Bool) (black : Bool) (from x to : ℕ) → to ≤ x → ((i : ℕ) → from ≤ i → i < x → is_change_from row black i ≡ false) → to ≡ place_from (is_change_from row black) from to
changes-past row black from x to past so_far =
    ⊎_elim
    (λ (out : to < from). sym (place-past (is_change_from row black) from to (omega arith)))
    (λ (order : from ≤ to). sym (place-is (is_change_from row black) from to to order order (omega arith) (λ i after before. so_far i after (omega arith)) (λ h. absurd (omega arith))))
    (cases_lt to from)

-- what a search finds
record IsPlace (p : ℕ → Bool) (from to place : ℕ) : Type 0 where
  after : from ≤ place
  within : place ≤ to
  before : (i : ℕ) → from ≤ i → i < place → p i ≡ false
  found : place < to → p place ≡ true

place-from : (n : ℕ) (p : ℕ → Bool) (from to : ℕ) → from + n ≡ to → IsPlace p from to (least p n to)
unfolding least
place-from zero p from to e = record { after = omega arith; within = omega arith; before = λ i a b. absurd (omega arith); found = λ h. absurd (omega arith) }
place-from (suc n) p from to e =
    let at : to - suc n ≡ from = omega arith in
    ⊎_elim
    (λ (t : p (to - suc n) ≡ true).
    subst (λ (place : ℕ). IsPlace p from to place) (sym (cond-true (p (to - suc n)) (to - suc n) (least p n to) t ∙ at))
    (record { after = omega arith; within = omega arith; before = λ i a b. absurd (omega arith); found = λ h. ap p (sym at) ∙ t }))
    (λ (f : p (to - suc n) ≡ false).
    let rest = place-from n p (from + 1) to (omega arith) in
    subst (λ (place : ℕ). IsPlace p from to place) (sym (cond-false (p (to - suc n)) (to - suc n) (least p n to) f))
    (record {
      after = omega (arith, rest.after);
      within = rest.within;
      before = λ i a b. ⊎_elim (λ (here : from ≡ i). ap p (sym (at ∙ here)) ∙ f) (λ (o : from ≡ i → ⊥). rest.before i (omega (arith, o)) b) (cases_eq from i);
      found = rest.found;
    }))
    (cases_Bool (p (to - suc n)))

place-of : (p : ℕ → Bool) (from to : ℕ) → from ≤ to → IsPlace p from to (place_from p from to)
place-of p from to order = place-from (to - from) p from to (omega arith)

-- a search that goes on after this word
pub changes-later : (row : ℕ → Bool) (black : Bool) (from x to : ℕ) → from ≤ x → ((i : ℕ) → from ≤ i → i < x → is_change_from row black i ≡ false) → place_from (is_change_from row black) x to ≡ place_from (is_change_from row black) from to
changes-later row black from x to order so_far =
    ⊎_elim
    (λ (before : x < to).
    let found = place-of (is_change_from row black) x to (omega arith) in
    sym (place-is (is_change_from row black) from to (place_from (is_change_from row black) x to) (omega arith) (omega (arith, found.after)) found.within
    (λ i a b. ⊎_elim (λ (old : i < x). so_far i a old) (λ (fresh : x ≤ i). found.before i fresh b) (cases_lt i x))
    found.found))
    (λ (past : to ≤ x). place-past (is_change_from row black) x to past ∙ changes-past row black from x to past so_far)
    (cases_lt x to)

-- where the search comes to
other : (b c : Bool) → differ b c ≡ true → b ≡ not c
other true true e = sym e
other true false e = refl
other false true e = refl
other false false e = e

turned : (row : ℕ → Bool) (black : Bool) (x : ℕ) → is_change_from row black x ≡ true → row x ≡ not black
unfolding is_change_from
turned row black x e = other (row x) black (and_parts (is_change row x) (differ (row x) black) e).1

pub place-turned : (row : ℕ → Bool) (black : Bool) (from to : ℕ) → from ≤ to → (place_from (is_change_from row black) from to ≤ to) × (from ≤ place_from (is_change_from row black) from to) × (place_from (is_change_from row black) from to < to → row (place_from (is_change_from row black) from to) ≡ not black)
place-turned row black from to order =
    let found = place-of (is_change_from row black) from to order in
    (found.within, found.after, λ inside. turned row black (place_from (is_change_from row black) from to) (found.found inside))

-- ---- b2
same-colour : (p l c : Bool) → (differ p l && differ p c) ≡ false → l ≡ c → p ≡ c
same-colour true true true e f = refl
same-colour true true false e f = absurd (true≢false f)
same-colour true false true e f = absurd (true≢false (sym f))
same-colour true false false e f = absurd (true≢false e)
same-colour false true true e f = absurd (true≢false e)
same-colour false true false e f = absurd (true≢false f)
same-colour false false true e f = absurd (true≢false (sym f))
same-colour false false false e f = refl

-- without a change the colour goes on
stays : (row : ℕ → Bool) (colour : Bool) (from to : ℕ) → ((i : ℕ) → from + 1 ≤ i → i < to → is_change_from row colour i ≡ false) → row from ≡ colour → (n : ℕ) → from + n < to → row (from + n) ≡ colour
unfolding is_change_from is_change
stays row colour from to none start zero inside = let at : from + 0 ≡ from = omega arith in ap row at ∙ start
stays row colour from to none start (suc n) inside =
    let before = stays row colour from to none start n (omega arith) in
    let at : from + suc n - 1 ≡ from + n = omega arith in
    same-colour (row (from + suc n)) (left_of row (from + suc n)) colour (none (from + suc n) (omega arith) inside) (left-here row (from + suc n) (omega arith) ∙ ap row at ∙ before)

not-not : (b : Bool) → not (not b) ≡ b
not-not true = refl
not-not false = refl

pub first-colour : (row : ℕ → Bool) (black : Bool) (b1 to place : ℕ) → b1 < to → row b1 ≡ not black → place ≡ place_from (is_change_from row (not black)) (b1 + 1) to → IsFirst row black b1 to place
first-colour row black b1 to place inside start e =
    subst (λ (n : ℕ). IsFirst row black b1 to n) (sym e)
    (let found = place-of (is_change_from row (not black)) (b1 + 1) to (omega arith) in
    record {
      after = omega (arith, found.after);
      within = found.within;
      before = λ i a b.
          let at : b1 + (i - b1) ≡ i = omega arith in
          ap row (sym at) ∙ stays row (not black) b1 (place_from (is_change_from row (not black)) (b1 + 1) to) found.before start (i - b1) (omega arith);
      found = λ h. turned row (not black) (place_from (is_change_from row (not black)) (b1 + 1) to) (found.found h) ∙ not-not black;
    })

pub first-end : (row : ℕ → Bool) (black : Bool) (to place : ℕ) → place ≤ to → to ≤ place → IsFirst row black place to place
first-end row black to place within past = record { after = omega arith; within = within; before = λ i a b. absurd (omega arith); found = λ h. absurd (omega arith) }
