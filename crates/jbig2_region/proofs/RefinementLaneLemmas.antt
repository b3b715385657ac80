-- Lanes: the windows of a refinement side by side in one number, and the contexts that they make.
use Rattle.std.proofs.Common.{◌≡◌, ℕ, ◌+◌, ◌-◌, ◌*◌, ◌/◌, ◌%◌, ◌^◌, ◌<◌, ◌≤◌, refl, sym, ap, ◌∙◌, arith}
use Rattle.jbig2_base.specs.Bits.{bit}
use Rattle.jbig2_base.proofs.BitLemmas.{bit-shl_high, bit-shr}
use Rattle.jbig2_region.specs.inner.RefinementLanes.{Lane, Lanes, nine_in, region_in}
use Rattle.jbig2_region.specs.inner.RefinementWindows.{nine_of, three_of}
use Rattle.jbig2_region.specs.declared.refinement_kernel.windows.RefinementWindows.{RefinementWindows}
use Rattle.jbig2_region.proofs.RefinementWindowLemmas.{three-bits}
use Rattle.jbig2_region.proofs.RegisterLemmas.{bit-low, bit-placed}

-- ---- the lanes as they are made
-- the fifteen highest bits of a window that moved on
lane-made : (word k b : ℕ) → k ≤ 32 → b < 15 → bit (word * 2 ^ k % 2 ^ 64 / 2 ^ 49) (14 - b) ≡ bit word (63 - k - b)
lane-made word k b few inside =
    let place : 49 + (14 - b) ≡ 63 - b = omega arith in
    let moved : 63 - b - k ≡ 63 - k - b = omega arith in
    bit-shr (word * 2 ^ k % 2 ^ 64) 49 (14 - b) ∙ ap (λ (n : ℕ). bit (word * 2 ^ k % 2 ^ 64) n) place
    ∙ bit-shl_high word k 64 (63 - b) (omega arith) (omega arith) ∙ ap (λ (n : ℕ). bit word n) moved

lane-lt : (word k : ℕ) → word * 2 ^ k % 2 ^ 64 / 2 ^ 49 < 2 ^ 15
lane-lt word k = omega arith

pub lanes-made : (w : RefinementWindows) (k lanes below here above region : ℕ) → k ≤ 32
    → below ≡ w.below * 2 ^ k % 2 ^ 64 / 2 ^ 49 → here ≡ w.here * 2 ^ k % 2 ^ 64 / 2 ^ 49 → above ≡ w.above * 2 ^ k % 2 ^ 64 / 2 ^ 49 → region ≡ w.region * 2 ^ k % 2 ^ 64 / 2 ^ 49
    → below < 2 ^ 15 → here < 2 ^ 15 → above < 2 ^ 15
    → lanes ≡ below + here * 32768 + above * 1073741824 + region * 35184372088832 → Lanes w k 12 lanes
lanes-made w k lanes below here above region few is_below is_here is_above is_region low middle high is =
    let third : ℕ = above + region * 2 ^ 15 in
    let second : ℕ = here + third * 2 ^ 15 in
    let first : lanes ≡ below + second * 2 ^ 15 = omega arith in
    record {
      below = λ b inside. ap (λ (n : ℕ). bit n (14 - b)) first ∙ bit-low below second 15 (14 - b) (omega arith) ∙ ap (λ (n : ℕ). bit n (14 - b)) is_below ∙ lane-made w.below k b few (omega arith);
      here = λ b inside.
          let place : 29 - b ≡ 15 + (14 - b) = omega arith in
          ap (λ (n : ℕ). bit n (29 - b)) first ∙ ap (λ (n : ℕ). bit (below + second * 2 ^ 15) n) place ∙ bit-placed below second 15 (14 - b) low
          ∙ bit-low here third 15 (14 - b) (omega arith) ∙ ap (λ (n : ℕ). bit n (14 - b)) is_here ∙ lane-made w.here k b few (omega arith);
      above = λ b inside.
          let place : 44 - b ≡ 15 + (15 + (14 - b)) = omega arith in
          ap (λ (n : ℕ). bit n (44 - b)) first ∙ ap (λ (n : ℕ). bit (below + second * 2 ^ 15) n) place ∙ bit-placed below second 15 (15 + (14 - b)) low
          ∙ bit-placed here third 15 (14 - b) middle ∙ bit-low above region 15 (14 - b) (omega arith) ∙ ap (λ (n : ℕ). bit n (14 - b)) is_above ∙ lane-made w.above k b few (omega arith);
      region = λ b inside.
          let place : 59 - b ≡ 15 + (15 + (15 + (14 - b))) = omega arith in
          ap (λ (n : ℕ). bit n (59 - b)) first ∙ ap (λ (n : ℕ). bit (below + second * 2 ^ 15) n) place ∙ bit-placed below second 15 (15 + (15 + (14 - b))) low
          ∙ bit-placed here third 15 (15 + (14 - b)) middle ∙ bit-placed above region 15 (14 - b) high ∙ ap (λ (n : ℕ). bit n (14 - b)) is_region ∙ lane-made w.region k b few (omega arith);
    }

-- ---- one pixel further on
lane-next : (lanes first word k n n' : ℕ) → n ≡ n' + 1 → n ≤ 12 → 14 ≤ first → first < 64 → k + n < 61 → Lane lanes first word k n → Lane (lanes * 2 ^ 1 % 2 ^ 64) first word (k + 1) n'
lane-next lanes first word k n n' more few low high near lane = λ b inside.
    let place : first - b - 1 ≡ first - (b + 1) = omega arith in
    let column : 63 - k - (b + 1) ≡ 63 - (k + 1) - b = omega arith in
    bit-shl_high lanes 1 64 (first - b) (omega arith) (omega arith) ∙ ap (λ (i : ℕ). bit lanes i) place ∙ lane (b + 1) (omega arith) ∙ ap (λ (i : ℕ). bit word i) column

pub lanes-next : (w : RefinementWindows) (k n n' lanes : ℕ) → n ≡ n' + 1 → n ≤ 12 → k + n < 61 → Lanes w k n lanes → Lanes w (k + 1) n' (lanes * 2 ^ 1 % 2 ^ 64)
lanes-next w k n n' lanes more few near shown = record {
  below = lane-next lanes 14 w.below k n n' more few (omega arith) (omega arith) near shown.below;
  here = lane-next lanes 29 w.here k n n' more few (omega arith) (omega arith) near shown.here;
  above = lane-next lanes 44 w.above k n n' more few (omega arith) (omega arith) near shown.above;
  region = lane-next lanes 59 w.region k n n' more few (omega arith) (omega arith) near shown.region;
}

-- ---- what lanes show
lane-three : (lanes first word k n low : ℕ) → first ≡ low + 2 → k < 32 → Lane lanes first word k n → lanes / 2 ^ low % 8 ≡ three_of word k
lane-three lanes first word k n low place few lane =
    let at_l : first - 2 ≡ low = omega arith in
    let at_m : first - 1 ≡ low + 1 = omega arith in
    let at_r : first - 0 ≡ low + 2 = omega arith in
    let to_l : 63 - k - 2 ≡ 61 - k = omega arith in
    let to_m : 63 - k - 1 ≡ 61 - k + 1 = omega arith in
    let to_r : 63 - k - 0 ≡ 61 - k + 2 = omega arith in
    three-bits lanes low
    ∙ rw (
      ap (λ (i : ℕ). bit lanes i) (sym at_l) ∙ lane 2 (omega arith) ∙ ap (λ (i : ℕ). bit word i) to_l,
      ap (λ (i : ℕ). bit lanes i) (sym at_m) ∙ lane 1 (omega arith) ∙ ap (λ (i : ℕ). bit word i) to_m,
      ap (λ (i : ℕ). bit lanes i) (sym at_r) ∙ lane 0 (omega arith) ∙ ap (λ (i : ℕ). bit word i) to_r,
    )
    (sym (three-bits word (61 - k)))

pub lanes-nine : (w : RefinementWindows) (k n lanes : ℕ) → k < 32 → Lanes w k n lanes → nine_in lanes ≡ nine_of w k
lanes-nine w k n lanes few shown = rw (lane-three lanes 14 w.below k n 12 refl few shown.below, lane-three lanes 29 w.here k n 27 refl few shown.here, lane-three lanes 44 w.above k n 42 refl few shown.above) refl

pub lanes-region : (w : RefinementWindows) (k n lanes : ℕ) → k < 32 → Lanes w k n lanes → region_in lanes ≡ three_of w.region k
lanes-region w k n lanes few shown = lane-three lanes 59 w.region k n 57 refl few shown.region

-- ---- the products
middle : (n rest over : ℕ) → n < 2 ^ 13 → rest < 2 ^ 51 → (n * 2 ^ 51 + rest + over * 2 ^ 64) % 2 ^ 64 / 2 ^ 51 ≡ n
middle n rest over small below = omega arith

product-0 : (below here above region : ℕ) → (below * 4096 + here * 134217728 + above * 4398046511104 + region * 144115188075855872) * 549890064400
    ≡ (below + here * 8 + above * 64 + region * 1024) * 2 ^ 51 + (below * 549890097152 + here * 4400193994752 + above * 70368744177664) + (here * 4 + above * 131104 + region * 4296016128) * 2 ^ 64
product-0 below here above region = omega arith

product-1 : (below here above region : ℕ) → (below * 4096 + here * 134217728 + above * 8796093022208 + region * 144115188075855872) * 549822930946
    ≡ (below + here * 4 + above * 32 + region * 128) * 2 ^ 51 + (below * 274911469568 + here * 1099780063232 + above * 17592186044416) + (here * 4 + above * 262176 + region * 4295491648) * 2 ^ 64
product-1 below here above region = omega arith

pub gathered-0 : (below here above region : ℕ) → below < 8 → here < 8 → above < 8 → region < 8
    → (below * 4096 + here * 134217728 + above * 4398046511104 + region * 144115188075855872) * 549890064400 % 2 ^ 64 / 2 ^ 51 ≡ below + here * 8 + above * 64 + region * 1024
gathered-0 below here above region a b c d =
    rw (product-0 below here above region)
    (middle (below + here * 8 + above * 64 + region * 1024) (below * 549890097152 + here * 4400193994752 + above * 70368744177664) (here * 4 + above * 131104 + region * 4296016128) (omega arith) (omega arith))

pub gathered-1 : (below here above region : ℕ) → below < 4 → here < 8 → above < 2 → region < 8
    → (below * 4096 + here * 134217728 + above * 8796093022208 + region * 144115188075855872) * 549822930946 % 2 ^ 64 / 2 ^ 51 ≡ below + here * 4 + above * 32 + region * 128
gathered-1 below here above region a b c d =
    rw (product-1 below here above region)
    (middle (below + here * 4 + above * 32 + region * 128) (below * 274911469568 + here * 1099780063232 + above * 17592186044416) (here * 4 + above * 262176 + region * 4295491648) (omega arith) (omega arith))
