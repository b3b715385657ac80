-- A grid that is made from a function reads as that function, and is known by its pixels.
use Rattle.std.proofs.Common.{sym, ◌≡◌, ℕ, ◌+◌, ◌*◌, ◌/◌, ◌%◌, ◌<◌, ◌≤◌, Bool, false, ltb, List, map, ap, ◌∙◌, arith}
use Rattle.std.specs.List.{range_with_len}
use Rattle.std.proofs.lemmas.Bool.{lt-ltb, le-ltb, and_left, and_right}
use Rattle.std.proofs.lemmas.List.FromFn.{get_or-map-range_with_len, length-map-range_with_len, fill_by_all}
use Rattle.std.proofs.lemmas.Nat.{mul-add-lt, div-mul-add, mod-mul-add, mod_below, row_below_turned}
use Rattle.jbig2_base.specs.Grid.{Grid, table, grid_of, pixel_at, IsTable}

-- inside
pub pixel_at-grid_of : (w h : ℕ) (f : ℕ → ℕ → Bool) (x y : ℕ) → x < w → y < h → pixel_at (grid_of w h f) x y ≡ f x y
unfolding pixel_at table
pixel_at-grid_of w h f x y left above =
    let at : (y * w + x) < (w * h) = mul-add-lt y w x h above left in
    let read = get_or-map-range_with_len (λ n. f (n % w) (n / w)) 0 (w * h) (y * w + x) (y * w + x) false at (omega arith) in
    rw (lt-ltb x w left, lt-ltb y h above, read, mod-mul-add y w x left, div-mul-add y w x left)

-- outside
pub pixel_at-right : (g : Grid) (x y : ℕ) → g.width ≤ x → pixel_at g x y ≡ false
unfolding pixel_at
pixel_at-right g x y right = rw (le-ltb x g.width right)

pub pixel_at-below : (g : Grid) (x y : ℕ) → g.height ≤ y → pixel_at g x y ≡ false
unfolding pixel_at
pixel_at-below g x y below = and_left _ _ (and_right (ltb x g.width) (ltb y g.height) (le-ltb y g.height below))

table-ext : (w h : ℕ) (f g : ℕ → ℕ → Bool) → ((x y : ℕ) → x < w → y < h → f x y ≡ g x y) → table w h f ≡ table w h g
unfolding table
table-ext w h f g same =
    fill_by_all (λ n. g (n % w) (n / w)) (map (λ n. f (n % w) (n / w)) (range_with_len 0 (w * h))) (w * h) false
    (length-map-range_with_len (λ n. f (n % w) (n / w)) 0 (w * h))
    (λ k below.
    let wide : 0 < w = grind (arith) in
    let turned : k < h * w = omega arith in
    let row : k / w < h = (row_below_turned k w h w turned (omega arith)).1 in
    get_or-map-range_with_len (λ n. f (n % w) (n / w)) 0 (w * h) k k false below (omega arith) ∙ same (k % w) (k / w) (mod_below k w wide) row)

-- the same pixels make the same grid
pub grid_of-ext : (w h : ℕ) (f g : ℕ → ℕ → Bool) → ((x y : ℕ) → x < w → y < h → f x y ≡ g x y) → grid_of w h f ≡ grid_of w h g
grid_of-ext w h f g same = ap (λ (bits : List Bool). let made : Grid = record { width = w; height = h; pixels = bits } in made) (table-ext w h f g same)

-- a table of a table
pub grid_of-pixel_at : (w h : ℕ) (f : ℕ → ℕ → Bool) → grid_of w h (pixel_at (grid_of w h f)) ≡ grid_of w h f
grid_of-pixel_at w h f = grid_of-ext w h (pixel_at (grid_of w h f)) f (λ x y left above. pixel_at-grid_of w h f x y left above)

pub table-at : (g : Grid) (w h : ℕ) (f : ℕ → ℕ → Bool) → g ≡ grid_of w h f → IsTable g
table-at g w h f e = e ∙ sym (grid_of-pixel_at w h f) ∙ ap (λ (k : Grid). grid_of k.width k.height (pixel_at k)) (sym e)
