-- Contexts and colours out of windows.
use Rattle.std.proofs.Common.{◌≡◌, ℕ, zero, suc, ◌+◌, ◌-◌, ◌*◌, ◌/◌, ◌%◌, ◌^◌, ◌<◌, eqb, ℤ, pos, negsuc, ◌+ℤ◌, ◌-ℤ◌, refl, sym, ◌∙◌, ap, arith}
use Rattle.std.proofs.Common.{◌++◌}
use Rattle.std.proofs.Math.Nat.{pow-suc}
use Rattle.std.proofs.lemmas.Int.{ints}
use Rattle.jbig2_base.specs.Bits.{bit, bit_number}
use Rattle.jbig2_base.specs.Grid.{Grid, pixel, pixel_at}
use Rattle.jbig2_base.proofs.BitLemmas.{bit-shr, bit_number-bit}
use Rattle.jbig2_region.specs.Generic.{context_at}
use Rattle.jbig2_region.specs.inner.Neighbours.{side_by_side, nominal_pixels}
use Rattle.jbig2_region.specs.declared.template.neighbours.Stretch.{Stretch}
use Rattle.jbig2_region.proofs.ContextBits.{context-append, joined-lt, length-side, lt-few, pow-few, side-context}
use Rattle.jbig2_region.proofs.WindowLemmas.{pixel-inside, stretch-context}
use Rattle.jbig2_region.specs.declared.template.neighbours.Neighbours.{Neighbours}
use Rattle.jbig2_writer.specs.declared.windows.Windows.{Windows}
use Rattle.jbig2_writer.specs.inner.Windows.{IsNarrow, AreWindows}

module _ (n : Neighbours) (near : IsNarrow n) where
  module _ (g : Grid) (x y offset : ℕ) (w : Windows) (within : offset < 32) (shows : AreWindows g x y w) where
    left-is : w.row / 2 ^ (56 - offset) % 2 ^ n.left ≡ context_at (side_by_side (negsuc 0) 0 n.left) g (x + offset) y
    left-is =
        side-context g (x + offset) y 0 n.left w.row (56 - offset) (negsuc 0) (λ i inside.
        let few : i < 4 = omega (arith, inside, near.left) in
        let place : 56 - offset + i ≡ 63 - (7 + offset - i) = omega (arith, within, few) in
        let column : pos (x + (7 + offset - i)) -ℤ pos 8 ≡ pos (x + offset) +ℤ (negsuc 0 -ℤ pos i) = omega (arith, ints, few) in
        let row : pos y -ℤ pos 0 ≡ pos y +ℤ (pos 0 -ℤ pos 0) = omega (arith, ints) in
        ap (λ (k : ℕ). bit w.row k) place ∙ shows.row (7 + offset - i) (omega (arith, within))
        ∙ ap (λ (z : ℤ). pixel g z (pos y -ℤ pos 0)) column ∙ ap (λ (z : ℤ). pixel g (pos (x + offset) +ℤ (negsuc 0 -ℤ pos i)) z) row)

    above-is : w.above / 2 ^ (55 - offset - n.above.reach) % 2 ^ n.above.count ≡ context_at (side_by_side (pos n.above.reach) 1 n.above.count) g (x + offset) y
    above-is =
        let s : Stretch = record { reach = n.above.reach; count = n.above.count } in
        stretch-context s g g x y offset 1 w.above near.above_reach near.above_count within (omega arith) (λ i j less. refl) shows.above

    top-is : w.top / 2 ^ (55 - offset - n.top.reach) % 2 ^ n.top.count ≡ context_at (side_by_side (pos n.top.reach) 2 n.top.count) g (x + offset) y
    top-is =
        let s : Stretch = record { reach = n.top.reach; count = n.top.count } in
        stretch-context s g g x y offset 2 w.top near.top_reach near.top_count within (omega arith) (λ i j less. refl) shows.top

    -- the number that the code makes of the three parts
    pub context-is : (left above top : ℕ) → left ≡ w.row / 2 ^ (56 - offset) % 2 ^ n.left → above ≡ w.above / 2 ^ (55 - offset - n.above.reach) % 2 ^ n.above.count
        → top ≡ w.top / 2 ^ (55 - offset - n.top.reach) % 2 ^ n.top.count
        → left + (above + top * (1 * 2 ^ n.above.count % 2 ^ 32)) * (1 * 2 ^ n.left % 2 ^ 32) ≡ context_at (nominal_pixels n) g (x + offset) y
    context-is left above top is_left is_above is_top =
        rw (pow-few n.above.count (omega (arith, near.above_count)), pow-few n.left (omega (arith, near.left)), is_left, is_above, is_top, left-is, above-is, top-is)
        (sym (
        rw (
          context-append (side_by_side (negsuc 0) 0 n.left) (side_by_side (pos n.above.reach) 1 n.above.count ++ side_by_side (pos n.top.reach) 2 n.top.count) g (x + offset) y,
          context-append (side_by_side (pos n.above.reach) 1 n.above.count) (side_by_side (pos n.top.reach) 2 n.top.count) g (x + offset) y,
          length-side (negsuc 0) 0 n.left,
          length-side (pos n.above.reach) 1 n.above.count,
        )
        refl
        ))

  -- it has sixteen bits
  pub stretches-lt : (above top : ℕ) → above < 2 ^ n.above.count → top < 2 ^ n.top.count → above + top * (1 * 2 ^ n.above.count % 2 ^ 32) < 2 ^ (n.top.count + n.above.count)
  stretches-lt above top is_above is_top = joined-lt above top n.above.count n.top.count is_above is_top (omega (arith, near.above_count))

  pub context-lt : (left stretches : ℕ) → left < 2 ^ n.left → stretches < 2 ^ (n.top.count + n.above.count) → left + stretches * (1 * 2 ^ n.left % 2 ^ 32) < 2 ^ 16
  context-lt left stretches is_left is_stretches =
      lt-few (left + stretches * (1 * 2 ^ n.left % 2 ^ 32)) (n.top.count + n.above.count + n.left)
      (joined-lt left stretches n.left (n.top.count + n.above.count) is_left is_stretches (omega (arith, near.left)))
      (omega (arith, near.few))

-- ---- colours
one-bit : (v word k : ℕ) → v ≡ word / 2 ^ k % 2 ^ 1 → eqb v 1 ≡ bit word k
unfolding bit
one-bit v word k e = rw e refl

pub black-is : (g : Grid) (x y offset v : ℕ) (w : Windows) → offset < 32 → AreWindows g x y w → v ≡ w.row / 2 ^ (55 - offset) % 2 ^ 1 → eqb v 1 ≡ pixel_at g (x + offset) y
black-is g x y offset v w within shows e =
    let place : 55 - offset ≡ 63 - (8 + offset) = omega (arith, within) in
    let column : pos (x + (8 + offset)) -ℤ pos 8 ≡ pos (x + offset) = omega (arith, ints) in
    let row : pos y -ℤ pos 0 ≡ pos y = omega (arith, ints) in
    one-bit v w.row (55 - offset) e ∙ ap (λ (k : ℕ). bit w.row k) place ∙ shows.row (8 + offset) (omega (arith, within))
    ∙ pixel-inside g (pos (x + (8 + offset)) -ℤ pos 8) (pos y -ℤ pos 0) (x + offset) y column row

-- ---- equal words
lowest : (a b : ℕ) → bit a 0 ≡ bit b 0 → a % 2 ≡ b % 2
lowest a b e =
    let same : bit_number (bit a 0) ≡ bit_number (bit b 0) = ap bit_number e in
    let of_a : bit_number (bit a 0) ≡ a / 2 ^ 0 % 2 = bit_number-bit a 0 in
    let of_b : bit_number (bit b 0) ≡ b / 2 ^ 0 % 2 = bit_number-bit b 0 in
    omega (arith, same, of_a, of_b)

-- words whose bits are equal
pub same-words : (w a b : ℕ) → a < 2 ^ w → b < 2 ^ w → ((k : ℕ) → k < w → bit a k ≡ bit b k) → a ≡ b
same-words zero a b is_a is_b each = omega (arith, is_a, is_b)
same-words (suc w) a b is_a is_b each =
    let both : 2 ^ suc w ≡ 2 ^ w * 2 = pow-suc 2 w in
    let half : (n k : ℕ) → bit (n / 2) k ≡ bit n (suc k) = (λ n k. ap (λ (m : ℕ). bit (n / m) k) (let e : 2 ≡ 2 ^ 1 = omega arith in e) ∙ bit-shr n 1 k ∙ ap (λ (m : ℕ). bit n m) (let e : 1 + k ≡ suc k = omega arith in e)) in
    let halves : a / 2 ≡ b / 2 = same-words w (a / 2) (b / 2) (omega (arith, is_a, both)) (omega (arith, is_b, both)) (λ k inside. half a k ∙ each (suc k) (omega (arith, inside)) ∙ sym (half b k)) in
    let ends : a % 2 ≡ b % 2 = lowest a b (each 0 (omega arith)) in
    omega (arith, halves, ends)
