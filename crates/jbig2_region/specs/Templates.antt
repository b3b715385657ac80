-- The templates of generic regions (T.88, 6.2.5.3, Figures 3 to 6, and the extended one). `template_pixels` takes a
-- template and its adaptive pixels, and gives the pixels of a context. Then come the context of the decision that
-- begins a row, and how a segment holds the adaptive pixels (7.4.6.3).
use Rattle.std.specs.Prelude.{ℕ, ◌+◌, ◌==◌, ◌≡◌, Bool, true, false, not, ◌&&◌, ◌||◌, ℤ, pos, ◌-ℤ◌, int_lt}
use Rattle.std.specs.Prelude.{List, [], ◌∷◌, zero, suc, slice_index_or, if◌then◌else◌, Result, Ok, int_le}
use Rattle.std.specs.Int.{w8}
use Rattle.std.specs.Ordering.{int_eq}
use Rattle.jbig2_base.specs.Results.{refuse_if, ◌>>=◌}
use Rattle.jbig2_base.specs.Fields.{signed_at}
use Rattle.jbig2_base.specs.declared.error.DecodeError.{DecodeError}
use Rattle.jbig2_base.specs.declared.error.TemplateError.TheVariants.{InvalidAtPixel}
use Rattle.jbig2_region.specs.declared.template.AdaptiveTemplatePixel.{AdaptiveTemplatePixel}
use Rattle.jbig2_region.specs.declared.template.Template.{Template}
use Rattle.jbig2_region.specs.declared.template.Template.TheVariants.{Template0, Template1, Template2, Template3}
use Rattle.jbig2_base.specs.declared.error.DecodeError.TheVariants as errors

abbrev pub template_of : ℕ → Template
template_of n = if n == 0 then Template0 else if n == 1 then Template1 else if n == 2 then Template2 else Template3

abbrev pub context_bits : Template → ℕ  -- how many bits a context's number has
context_bits Template0 = 16
context_bits Template1 = 13
context_bits Template2 = 10
context_bits Template3 = 10

-- the pixel this many columns to the left, or to the right, and this many rows up
abbrev pub left : ℕ → ℕ → AdaptiveTemplatePixel
left columns rows = record { x = pos 0 -ℤ pos columns; y = pos 0 -ℤ pos rows }

abbrev pub right : ℕ → ℕ → AdaptiveTemplatePixel
right columns rows = record { x = pos columns; y = pos 0 -ℤ pos rows }

-- how many adaptive pixels there are (6.2.5.4), by MMR, EXTTEMPLATE, and the template
abbrev pub adaptive_pixel_count : Bool → Bool → Template → ℕ
adaptive_pixel_count true extended template = 0
adaptive_pixel_count false true Template0 = 12
adaptive_pixel_count false false Template0 = 4
adaptive_pixel_count false extended template = 1

abbrev pub adaptive : List AdaptiveTemplatePixel → ℕ → AdaptiveTemplatePixel  -- adaptive pixel k + 1
adaptive pixels k = slice_index_or pixels k (right 0 0)

-- The pixels of a template with these adaptive pixels, bit 0 of a context first. The first argument says whether it is
-- the extended template, which has A1 to A12 in bits 1 13 9 14 12 5 2 3 11 4 15 10.
abbrev pub template_pixels : Bool → Template → List AdaptiveTemplatePixel → List AdaptiveTemplatePixel
template_pixels true _ a =
    left 1 0 ∷ adaptive a 0 ∷ adaptive a 6 ∷ adaptive a 7 ∷ adaptive a 9
    ∷ adaptive a 5 ∷ right 1 1 ∷ right 0 1 ∷ left 1 1 ∷ adaptive a 2 ∷ adaptive a 11
    ∷ adaptive a 8 ∷ adaptive a 4 ∷ adaptive a 1 ∷ adaptive a 3 ∷ adaptive a 10 ∷ []
template_pixels false Template0 a =
    left 1 0 ∷ left 2 0 ∷ left 3 0 ∷ left 4 0 ∷ adaptive a 0
    ∷ right 2 1 ∷ right 1 1 ∷ right 0 1 ∷ left 1 1 ∷ left 2 1 ∷ adaptive a 1
    ∷ adaptive a 2 ∷ right 1 2 ∷ right 0 2 ∷ left 1 2 ∷ adaptive a 3 ∷ []
template_pixels false Template1 a =
    left 1 0 ∷ left 2 0 ∷ left 3 0 ∷ adaptive a 0
    ∷ right 2 1 ∷ right 1 1 ∷ right 0 1 ∷ left 1 1 ∷ left 2 1
    ∷ right 2 2 ∷ right 1 2 ∷ right 0 2 ∷ left 1 2 ∷ []
template_pixels false Template2 a =
    left 1 0 ∷ left 2 0 ∷ adaptive a 0
    ∷ right 1 1 ∷ right 0 1 ∷ left 1 1 ∷ left 2 1
    ∷ right 1 2 ∷ right 0 2 ∷ left 1 2 ∷ []
template_pixels false Template3 a =
    left 1 0 ∷ left 2 0 ∷ left 3 0 ∷ left 4 0 ∷ adaptive a 0
    ∷ right 1 1 ∷ right 0 1 ∷ left 1 1 ∷ left 2 1 ∷ left 3 1 ∷ []

-- the context of the decision that begins a row under typical prediction (6.2.5.7)
abbrev pub row_context : Template → ℕ
row_context Template0 = 0x9B25
row_context Template1 = 0x0795
row_context Template2 = 0x00E5
row_context Template3 = 0x0195

abbrev pub lies_at : AdaptiveTemplatePixel → ℤ → ℤ → Bool
lies_at p x y = int_eq p.x x && int_eq p.y y

-- the adaptive pixels where the standard has them by default (6.2.5.4)
abbrev pub nominal_adaptive_pixels : Template → List AdaptiveTemplatePixel
nominal_adaptive_pixels Template0 = right 3 1 ∷ left 3 1 ∷ right 2 2 ∷ left 2 2 ∷ []
nominal_adaptive_pixels Template1 = right 3 1 ∷ []
nominal_adaptive_pixels Template2 = right 2 1 ∷ []
nominal_adaptive_pixels Template3 = right 2 1 ∷ []

-- whether the adaptive pixels from number k + 1 on lie where these do
abbrev pub lie_at : List AdaptiveTemplatePixel → ℕ → List AdaptiveTemplatePixel → Bool
lie_at a k [] = true
lie_at a k (p ∷ []) = lies_at (adaptive a k) p.x p.y
lie_at a k (p ∷ q ∷ others) = lies_at (adaptive a k) p.x p.y && lie_at a (k + 1) (q ∷ others)

abbrev pub is_nominal : Template → List AdaptiveTemplatePixel → Bool
is_nominal template a = lie_at a 0 (nominal_adaptive_pixels template)

-- whether a pixel is decoded earlier (6.2.5.4): in a row above, or to the left in the same row
abbrev pub is_earlier : AdaptiveTemplatePixel → Bool
is_earlier p = int_lt p.y (pos 0) || (int_le p.y (pos 0) && int_lt p.x (pos 0))

-- a pixel at any place: two bytes in two's complement, the columns to the right and the rows down
abbrev pub free_pixel_at : List ℕ → Result (AdaptiveTemplatePixel × List ℕ) DecodeError
free_pixel_at bytes = do
  (x, rest) ← signed_at w8 bytes
  (y, rest) ← signed_at w8 rest
  Ok (record { x = x; y = y }, rest)

-- an adaptive pixel (7.4.6.3)
unfoldable pub adaptive_pixel_at : List ℕ → Result (AdaptiveTemplatePixel × List ℕ) DecodeError
adaptive_pixel_at bytes = do
  (pixel, rest) ← free_pixel_at bytes
  earlier ← refuse_if (not (is_earlier pixel)) (errors.Template InvalidAtPixel)
  Ok (pixel, rest)

-- this many of them (7.4.6.3)
abbrev pub adaptive_pixels_at : ℕ → List ℕ → Result (List AdaptiveTemplatePixel × List ℕ) DecodeError
adaptive_pixels_at zero bytes = Ok ([], bytes)
adaptive_pixels_at (suc count) bytes = do
  (first, rest) ← adaptive_pixel_at bytes
  (others, rest) ← adaptive_pixels_at count rest
  Ok (first ∷ others, rest)

-- whether the extended template is used: if it is asked for, at template 0, and without MMR
abbrev pub takes_extended : Bool → Bool → Template → Bool
takes_extended false true Template0 = true
takes_extended _ _ _ = false

abbrev pub FitsTemplate : Bool → Template → Type 0  -- the extended template is template 0
FitsTemplate false template = Unit {0}
FitsTemplate true template = template ≡ Template0
