-- The contexts of the pixels, as they are made step by step, and as the pixels before them make them.
use Rattle.std.proofs.Common.{◌≡◌, ℕ, ◌+◌, ◌*◌, ◌<◌, ◌≤◌, Bool, true, false, ◌&&◌, ◌||◌, List, [], ◌∷◌, get_or, map, ℤ, pos, negsuc, ◌+ℤ◌, ◌<ℤ◌, ◌≤ℤ◌, ◌⊎◌, inl, inr, refl, sym, ◌∙◌, ap, arith, ⊎_elim}
use Rattle.std.specs.Prelude.{int_le, int_lt}
use Rattle.std.proofs.lemmas.Bool.{and_parts, or_cases, cases_lt}
use Rattle.std.proofs.lemmas.Int.{ints}
use Rattle.std.proofs.lemmas.Nat.{mul-le}
use Rattle.jbig2_base.specs.Grid.{Grid, grid_of, pixel, pixel_at}
use Rattle.jbig2_base.proofs.GridLemmas.{pixel_at-below, pixel_at-grid_of, pixel_at-right}
use Rattle.jbig2_region.specs.Generic.{context_at, region_pixel}
use Rattle.jbig2_base.specs.Bits.{number_of}
use Rattle.jbig2_region.specs.Raster.{Coding, so_far}
use Rattle.jbig2_region.specs.declared.template.AdaptiveTemplatePixel.{AdaptiveTemplatePixel}
use Rattle.jbig2_region.specs.Templates.{is_earlier}
use Rattle.jbig2_region.specs.declared.template.Template.{Template}
use Rattle.jbig2_region.specs.declared.template.Template.TheVariants.{Template0, Template1, Template2, Template3}
use Rattle.jbig2_inverses.specs.RegionWriter.{pixels_before}
use Rattle.jbig2_inverses.proofs.RegionInverse.{pixel-before}
use Rattle.jbig2_writer.specs.inner.Rows.{places}

-- ---- contexts from the pixels so far
abbrev pub all_earlier : List AdaptiveTemplatePixel → Bool  -- all places come before the pixel that is coded
all_earlier [] = true
all_earlier (p ∷ places) = is_earlier p && all_earlier places

pub places-earlier : (template : Template) → all_earlier (places template) ≡ true
places-earlier Template0 = refl
places-earlier Template1 = refl
places-earlier Template2 = refl
places-earlier Template3 = refl

is-less : (a b : ℤ) → int_lt a b ≡ true → a <ℤ b
is-less a b e = grind (arith, ints)

at-most : (a b : ℤ) → int_le a b ≡ true → a ≤ℤ b
at-most a b e = grind (arith, ints)

-- where an earlier place is inside, it comes before
earlier-before : (w x y i j : ℕ) (p : AdaptiveTemplatePixel) → is_earlier p ≡ true → pos x +ℤ p.x ≡ pos i → pos y +ℤ p.y ≡ pos j → i < w → j * w + i < y * w + x
earlier-before w x y i j p is at_x at_y left = ⊎_elim
    (λ (above : p.y <ℤ pos 0).
    let up : j + 1 ≤ y = omega (arith, ints) in
    let rows : (j + 1) * w ≤ y * w = mul-le (j + 1) w y w up (omega arith) in
    let row : (j + 1) * w ≡ j * w + w = omega arith in
    omega (arith, rows, row, left))
    (λ (beside : (p.y ≤ℤ pos 0) × (p.x <ℤ pos 0)).
    let here : j ≤ y = omega (arith, ints) in
    let back : i + 1 ≤ x = omega (arith, ints) in
    let rows : j * w ≤ y * w = mul-le j w y w here (omega arith) in
    omega (arith, rows, back))
    (parts p.x p.y is)
  where
    parts : (a b : ℤ) → (int_lt b (pos 0) || (int_le b (pos 0) && int_lt a (pos 0))) ≡ true → (b <ℤ pos 0) ⊎ ((b ≤ℤ pos 0) × (a <ℤ pos 0))
    parts a b e = ⊎_elim
        (λ (h : int_lt b (pos 0) ≡ true). inl (is-less b (pos 0) h))
        (λ (h : (int_le b (pos 0) && int_lt a (pos 0)) ≡ true). let both = and_parts (int_le b (pos 0)) (int_lt a (pos 0)) h in inr (at-most b (pos 0) both.0, is-less a (pos 0) both.1))
        (or_cases (int_lt b (pos 0)) (int_le b (pos 0) && int_lt a (pos 0)) e)

-- a pixel of the raster so far, where that has the pixels that come before
pixel-same : (g : Grid) (bits : List Bool) (a b : ℤ) → ((i j : ℕ) → a ≡ pos i → b ≡ pos j → i < g.width → j < g.height → get_or bits (j * g.width + i) false ≡ pixel_at g i j)
    → pixel (so_far g.width g.height bits) a b ≡ pixel g a b
unfolding so_far
pixel-same g bits (pos i) (pos j) given =
    let f : ℕ → ℕ → Bool = λ x y. get_or bits (y * g.width + x) false in
    ⊎_elim
    (λ (left : i < g.width). ⊎_elim
    (λ (above : j < g.height). pixel_at-grid_of g.width g.height f i j left above ∙ given i j refl refl left above)
    (λ (below : g.height ≤ j). pixel_at-below (grid_of g.width g.height f) i j below ∙ sym (pixel_at-below g i j below))
    (cases_lt j g.height))
    (λ (right : g.width ≤ i). pixel_at-right (grid_of g.width g.height f) i j right ∙ sym (pixel_at-right g i j right))
    (cases_lt i g.width)
pixel-same g bits (negsuc i) (pos j) given = refl
pixel-same g bits (pos i) (negsuc j) given = refl
pixel-same g bits (negsuc i) (negsuc j) given = refl

module _ (coding : Coding) (g : Grid) (typical : ℕ → Bool) (x y : ℕ) (left : x < g.width) where
  abbrev so : Grid  -- the raster before the pixel
  so = so_far g.width g.height (pixels_before coding g.width g.height (pixel_at g) typical 0 (y * g.width + x))

  near-same : (p : AdaptiveTemplatePixel) → is_earlier p ≡ true → region_pixel so x y p ≡ region_pixel g x y p
  near-same p is =
      pixel-same g (pixels_before coding g.width g.height (pixel_at g) typical 0 (y * g.width + x)) (pos x +ℤ p.x) (pos y +ℤ p.y)
      (λ i j at_x at_y inside above. pixel-before coding g.width g.height (pixel_at g) typical 0 (y * g.width + x) i j inside (earlier-before g.width x y i j p is at_x at_y inside))

  all-same : (template : List AdaptiveTemplatePixel) → all_earlier template ≡ true → map (region_pixel so x y) template ≡ map (region_pixel g x y) template
  all-same [] is = refl
  all-same (p ∷ others) is =
      let both = and_parts (is_earlier p) (all_earlier others) is in
      ap (λ (b : Bool). b ∷ map (region_pixel so x y) others) (near-same p both.0) ∙ ap (λ (bits : List Bool). region_pixel g x y p ∷ bits) (all-same others both.1)

  -- the context that the pixels before make is that of the whole bitmap
  pub context-same : (template : List AdaptiveTemplatePixel) → all_earlier template ≡ true → context_at template so x y ≡ context_at template g x y
  unfolding context_at
  context-same template is = ap number_of (all-same template is)
