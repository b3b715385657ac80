-- The values of an image after one more plane, row by row, and what this takes.
use Rattle.std.proofs.Common.{◌≡◌, ℕ, zero, suc, ◌+◌, ◌-◌, ◌*◌, ◌/◌, ◌%◌, ◌^◌, ◌<◌, ◌≤◌, List, [], ◌∷◌, ◌++◌, length, take, drop, get_or, add-mul, refl, sym, ap, subst, ◌∙◌, ⊎_elim, arith}
use Rattle.std.specs.List.{All}
use Rattle.std.proofs.lemmas.Bool.{cases_lt}
use Rattle.std.proofs.Math.Nat.{mul-le-mul_left, pow-le-pow_right}
use Rattle.std.proofs.lemmas.Slice.{drop-put_mid, take-put_mid}
use borrow.Rule.Slice.PartMut.{put_mid}
use Rattle.std.proofs.lemmas.List.{drop-drop, get_or_append_left, get_or-append_right, get_or-drop, get_or-take, length-drop}
use Rattle.std.proofs.lemmas.List.FromFn.{fill_by_all, get_or-map-range_with_len, length-map-range_with_len}
use Rattle.std.proofs.lemmas.Nat.{div-mul-add, mod-mul-add}
use Rattle.jbig2_base.specs.Counts.{Counts}
use Rattle.jbig2_base.specs.Grid.{Grid, pixel_at}
use Rattle.jbig2_halftone.specs.GrayScale.{gray_value, gray_values}
use Rattle.jbig2_halftone.specs.inner.NextValues.{next_value, TakesPlane, TakesRow}
use Rattle.jbig2_halftone.specs.inner.FunctionResults.{after_lanes, after_lane_rows}
use Rattle.jbig2_halftone.proofs.GrayLemmas.{gray-last, gray_value-lt}

pub values-length : (w h : ℕ) (planes : List Grid) → length (gray_values w h planes) ≡ w * h
unfolding gray_values
values-length w h planes = length-map-range_with_len (λ n. gray_value planes (n % w) (n / w)) 0 (w * h)

value-at : (w h : ℕ) (planes : List Grid) (values : List ℕ) (k d : ℕ) → k < w * h → values ≡ gray_values w h planes → get_or values k d ≡ gray_value planes (k % w) (k / w)
unfolding gray_values
value-at w h planes values k d inside e = ap (λ (vs : List ℕ). get_or vs k d) e ∙ get_or-map-range_with_len (λ n. gray_value planes (n % w) (n / w)) 0 (w * h) k k d inside (omega arith)

-- one plane more
pub values-next : (planes : List Grid) (plane : Grid) (old new : List ℕ) → length new ≡ plane.width * plane.height → old ≡ gray_values plane.width plane.height planes → TakesPlane plane old new → new ≡ gray_values plane.width plane.height (planes ++ plane ∷ [])
unfolding gray_values
values-next planes plane old new all before takes =
    let w : ℕ = plane.width in
    fill_by_all (λ n. gray_value (planes ++ plane ∷ []) (n % w) (n / w)) new (w * plane.height) 0 all
    (λ k below.
    takes k below
    ∙ ap (λ (v : ℕ). next_value v (pixel_at plane (k % w) (k / w))) (value-at w plane.height planes old k 0 below before)
    ∙ sym (gray-last planes plane (k % w) (k / w)))

-- of the image's size
pub values-added : (w h : ℕ) (planes : List Grid) (plane : Grid) (old new : List ℕ) → plane.width ≡ w → plane.height ≡ h → length new ≡ length old → old ≡ gray_values w h planes → TakesPlane plane old new → new ≡ gray_values w h (planes ++ plane ∷ [])
values-added w h planes plane old new wide high long before takes =
    let same = ap (λ (n : ℕ). gray_values n h planes) (sym wide) ∙ ap (λ (n : ℕ). gray_values plane.width n planes) (sym high) in
    let size : length new ≡ plane.width * plane.height = long ∙ ap (λ (vs : List ℕ). length vs) (before ∙ same) ∙ values-length plane.width plane.height planes in
    values-next planes plane old new size (before ∙ same) takes
    ∙ ap (λ (n : ℕ). gray_values n plane.height (planes ++ plane ∷ [])) wide
    ∙ ap (λ (n : ℕ). gray_values w n (planes ++ plane ∷ [])) high

-- a plane fits the values
pub values-sized : (w h : ℕ) (planes : List Grid) (plane : Grid) (values : List ℕ) → plane.width ≡ w → plane.height ≡ h → values ≡ gray_values w h planes → length values ≡ plane.width * plane.height
values-sized w h planes plane values wide high e =
    ap (λ (vs : List ℕ). length vs) e ∙ values-length w h planes ∙ ap (λ (n : ℕ). n * h) (sym wide) ∙ ap (λ (n : ℕ). plane.width * n) (sym high)

-- what taking it takes
pub taken-sized : (w h : ℕ) (plane : Grid) (old new : Counts) → plane.width ≡ w → plane.height ≡ h → new ≡ after_lane_rows plane.height plane.width old → new ≡ after_lane_rows h w old
taken-sized w h plane old new wide high taken = taken ∙ ap (λ (n : ℕ). after_lane_rows n plane.width old) high ∙ ap (λ (n : ℕ). after_lane_rows h n old) wide

-- values of few planes are small
pub values-small : (w h : ℕ) (planes : List Grid) (n : ℕ) (values : List ℕ) → length planes ≡ n → n < 32 → values ≡ gray_values w h planes → All (λ v. v < 2 ^ 31) values
values-small w h planes n values count few e = λ k d inside.
    let within : k < w * h = omega (arith, ap (λ (vs : List ℕ). length vs) e, values-length w h planes) in
    let below : 2 ^ length planes ≤ 2 ^ 31 = pow-le-pow_right {n = 2} (omega arith) {i = length planes} {j = 31} (omega arith) in
    rw (value-at w h planes values k d within e) (omega (arith, gray_value-lt planes (k % w) (k / w)))

pub take-some : {X : Type 0} (n : ℕ) (xs : List X) → n ≤ length xs → length (take n xs) ≡ n
take-some zero xs few = refl
take-some (suc n) [] few = absurd (omega arith)
take-some (suc n) (x ∷ xs) few = omega (arith, take-some n xs (omega arith))

-- ---- rows
-- the rows above row y have taken the plane, the others haven't
pub record TakenRows (plane : Grid) (y : ℕ) (old new : List ℕ) : Type 0 where
  pub taken :
      (k : ℕ) → k < y * plane.width → get_or new k 0 ≡ next_value (get_or old k 0) (pixel_at plane (k % plane.width) (k / plane.width))
  pub others : drop (y * plane.width) new ≡ drop (y * plane.width) old

pub rows-begin : (plane : Grid) (old : List ℕ) → TakenRows plane 0 old old
rows-begin plane old = record { taken = λ k below. absurd (omega arith); others = refl }

pub row-inside : (w h y n : ℕ) → y < h → n ≡ w * h → y * w + w ≤ n
row-inside w h y n below all = omega (arith, mul-le-mul_left {m = y + 1} {n = h} w (omega arith))

-- a value of row y before it takes the plane
row-value : (plane : Grid) (y j d : ℕ) (old mid part : List ℕ) (n : ℕ) → n ≡ plane.width → j < plane.width → part ≡ take n (drop (y * plane.width) mid) → TakenRows plane y old mid → get_or part j d ≡ get_or old (y * plane.width + j) d
row-value plane y j d old mid part n wide inside is rows =
    ap (λ (vs : List ℕ). get_or vs j d) is
    ∙ get_or-take n (drop (y * plane.width) mid) j d (omega arith)
    ∙ ap (λ (vs : List ℕ). get_or vs j d) rows.others
    ∙ get_or-drop (y * plane.width) old j d

pub row-small : (plane : Grid) (y : ℕ) (old mid part : List ℕ) (n : ℕ) → n ≡ plane.width → length part ≡ plane.width → y * plane.width + plane.width ≤ length old → part ≡ take n (drop (y * plane.width) mid) → TakenRows plane y old mid
    → All (λ v. v < 2 ^ 31) old → All (λ v. v < 2 ^ 31) part
row-small plane y old mid part n wide long inside is rows small = λ j d below.
    let left : j < plane.width = omega arith in
    rw (row-value plane y j d old mid part n wide left is rows) (small (y * plane.width + j) d (omega arith))

-- one row more
pub rows-next : (plane : Grid) (y n : ℕ) (old mid part row : List ℕ) → n ≡ plane.width → length row ≡ plane.width → y * plane.width + plane.width ≤ length mid → part ≡ take n (drop (y * plane.width) mid)
    → TakesRow plane y part row → TakenRows plane y old mid → TakenRows plane (y + 1) old (put_mid (y * plane.width) n mid row)
rows-next plane y n old mid part row wide long inside is takes rows =
    let w : ℕ = plane.width in
    let new : List ℕ = put_mid (y * w) n mid row in
    let sum : (y + 1) * w ≡ y * w + w = omega (arith, add-mul y 1 w) in
    let front : take ((y + 1) * w) new ≡ take (y * w) mid ++ row = take-put_mid (y * w) n mid row ((y + 1) * w) (omega arith) (omega arith) in
    let back : drop ((y + 1) * w) new ≡ drop ((y + 1) * w) mid = drop-put_mid (y * w) n mid row ((y + 1) * w) (omega arith) (omega arith) (omega arith) in
    record {
      taken = λ k below.
          sym (get_or-take ((y + 1) * w) new k 0 below)
          ∙ ap (λ (vs : List ℕ). get_or vs k 0) front
          ∙ ⊎_elim
          (λ (earlier : k < y * w).
          get_or_append_left (take (y * w) mid) row 0 k (omega (arith, take-some (y * w) mid (omega arith)))
          ∙ get_or-take (y * w) mid k 0 earlier
          ∙ rows.taken k earlier)
          (λ (here : y * w ≤ k).
          let j : ℕ = k - y * w in
          let left : j < w = omega arith in
          let place : y * w + j ≡ k = omega arith in
          get_or-append_right (take (y * w) mid) row (y * w) k 0 (take-some (y * w) mid (omega arith)) here
          ∙ takes j left
          ∙ ap (λ (v : ℕ). next_value v (pixel_at plane j y)) (row-value plane y j 0 old mid part n wide left is rows)
          ∙ sym (ap (λ (m : ℕ). next_value (get_or old (y * w + j) 0) (pixel_at plane m ((y * w + j) / w))) (mod-mul-add y w j left) ∙ ap (λ (m : ℕ). next_value (get_or old (y * w + j) 0) (pixel_at plane j m)) (div-mul-add y w j left))
          ∙ ap (λ (m : ℕ). next_value (get_or old m 0) (pixel_at plane (m % w) (m / w))) place)
          (cases_lt k (y * w));
      others =
          back
          ∙ ap (λ (m : ℕ). drop m mid) sum
          ∙ sym (drop-drop w (y * w) mid)
          ∙ ap (λ (vs : List ℕ). drop w vs) rows.others
          ∙ drop-drop w (y * w) old
          ∙ sym (ap (λ (m : ℕ). drop m old) sum);
    }

-- its place in the values
pub rows-put : (plane : Grid) (y a n : ℕ) (old mid part row : List ℕ) → a ≡ y * plane.width → n ≡ plane.width → length row ≡ plane.width → a + plane.width ≤ length mid → part ≡ take n (drop a mid)
    → TakesRow plane y part row → TakenRows plane y old mid → TakenRows plane (y + 1) old (put_mid a n mid row)
rows-put plane y a n old mid part row at wide long inside is takes rows =
    subst (λ (k : ℕ). TakenRows plane (y + 1) old (put_mid k n mid row)) (sym at)
    (rows-next plane y n old mid part row wide long (omega arith) (is ∙ ap (λ (k : ℕ). take n (drop k mid)) at) takes rows)

-- all rows
pub rows-all : (plane : Grid) (y : ℕ) (old new : List ℕ) → y ≡ plane.height → TakenRows plane y old new → TakesPlane plane old new
rows-all plane y old new all rows = λ k below.
    let turned : y * plane.width ≡ plane.width * plane.height = ap (λ (n : ℕ). n * plane.width) all ∙ omega arith in
    rows.taken k (omega arith)

-- ---- what rows take
pub counts-start : (w : ℕ) (old : Counts) → old ≡ after_lane_rows 0 w old
counts-start w old =
    let loads : old.loads + 0 * (w / 8 + w % 8) ≡ old.loads = omega arith in
    let groups : old.groups + 0 * (w / 8) ≡ old.groups = omega arith in
    let pixels : old.pixels + 0 * (w % 8) ≡ old.pixels = omega arith in
    rw (loads, groups, pixels) refl

pub counts-more : (n m k w : ℕ) (old mid new : Counts) → k ≡ n + m → mid ≡ after_lane_rows n w old → new ≡ after_lane_rows m w mid → new ≡ after_lane_rows k w old
counts-more n m k w old mid new sum before more =
    more ∙ ap (λ (c : Counts). after_lane_rows m w c) before
    ∙ rw (twice old.loads n m (w / 8 + w % 8), twice old.groups n m (w / 8), twice old.pixels n m (w % 8), sum) refl
  where
    twice : (a n m v : ℕ) → a + n * v + m * v ≡ a + (n + m) * v
    twice a n m v = omega (arith, add-mul n m v)

pub counts-one : (w : ℕ) (old : Counts) → after_lanes w old ≡ after_lane_rows 1 w old
counts-one w old =
    let loads : 1 * (w / 8 + w % 8) ≡ w / 8 + w % 8 = omega arith in
    let groups : 1 * (w / 8) ≡ w / 8 = omega arith in
    let pixels : 1 * (w % 8) ≡ w % 8 = omega arith in
    rw (loads, groups, pixels) refl

pub part-length : {X : Type 0} (from w : ℕ) (xs : List X) → from + w ≤ length xs → length (take (from + w - from) (drop from xs)) ≡ w
part-length from w xs inside =
    let size : from + w - from ≡ w = omega arith in
    rw size (take-some w (drop from xs) (omega (arith, length-drop from xs)))
