-- What the code holds of a refined symbol.
use Rattle.std.proofs.Common.{◌≡◌, ℕ, ℤ, pos, List, [], ◌∷◌, take, false, Result, Ok, Err, OnOk, ◌∙◌, ap, refl, sym, subst}
use Rattle.jbig2_base.specs.Bits.{Place, byte_boundary, start_of}
use Rattle.jbig2_base.specs.Fields.{bytes_at}
use Rattle.jbig2_base.specs.Grid.{Grid}
use Rattle.jbig2_base.specs.Results.{◌>>=◌, Returns}
use Rattle.jbig2_base.specs.declared.error.DecodeError.{DecodeError}
use Rattle.jbig2_coder.specs.Coder.{Coder, Context, Registers}
use Rattle.jbig2_region.specs.inner.RegionStates.{HasDecoded, region_state}
use Rattle.jbig2_region.specs.Raster.{Coding, decoded_region, no_pixels}
use Rattle.jbig2_region.specs.Refinement.{Reference, refinement_coding}
use Rattle.jbig2_region.specs.inner.PixelArrays.{two_pixels}
use Rattle.jbig2_region.specs.Templates.{adaptive}
use Rattle.jbig2_region.specs.inner.PixelArrays.{pixel_array}
use Rattle.jbig2_region.specs.declared.template.AdaptiveTemplatePixel.{AdaptiveTemplatePixel}
use Rattle.jbig2_region.specs.declared.template.RefinementTemplate.{RefinementTemplate}
use Rattle.jbig2_region.specs.declared.template.RefinementTemplate.TheVariants.{Template0, Template1}
use Rattle.jbig2_text.specs.Refining.{Refining, refined_by}
use Rattle.jbig2_text.specs.TextCoding.{sized_bytes}

-- two of a list
pub two_filled : (a : List AdaptiveTemplatePixel) → adaptive a 0 ∷ adaptive a 1 ∷ [] ≡ pixel_array 2 (take 2 a)
two_filled [] = refl
two_filled (p ∷ []) = refl
two_filled (p ∷ q ∷ a) = refl

-- pixels that are filled up are as good as those that there are
same-coding : (template : RefinementTemplate) (a : List AdaptiveTemplatePixel) (from : Reference) → refinement_coding template false (two_pixels template (pixel_array 2 a)) from ≡ refinement_coding template false a from
same-coding Template0 [] from = refl
same-coding Template0 (p ∷ []) from = refl
same-coding Template0 (p ∷ q ∷ a) from = refl
same-coding Template1 a from = refl

refined-holds : (f : Refining) (from : Reference) (w h : ℕ) (bytes : List ℕ) (registers : Registers) (grid : Grid) (coder : Coder) (states : List Context) → HasDecoded w h bytes (decoded_region (refinement_coding f.template false f.pixels from) w h bytes (no_pixels registers f.contexts)) (region_state grid coder states) → HasDecoded w h bytes (refined_by f from w h bytes registers) (region_state grid coder states)
unfolding refined_by
refined-holds f from w h bytes registers grid coder states holds = holds

pub filled-holds : (f : Refining) (from : Reference) (w h : ℕ) (bytes : List ℕ) (registers : Registers) (grid : Grid) (coder : Coder) (states : List Context) → HasDecoded w h bytes (decoded_region (refinement_coding f.template false (two_pixels f.template (pixel_array 2 f.pixels)) from) w h bytes (no_pixels registers f.contexts)) (region_state grid coder states) → HasDecoded w h bytes (refined_by f from w h bytes registers) (region_state grid coder states)
filled-holds f from w h bytes registers grid coder states holds =
    refined-holds f from w h bytes registers grid coder states
    (subst (λ (coding : Coding). HasDecoded w h bytes (decoded_region coding w h bytes (no_pixels registers f.contexts)) (region_state grid coder states)) (same-coding f.template f.pixels from) holds)

pub coder-is : (c : Coder) (bytes : List ℕ) (registers : Registers) → c.bytes ≡ bytes → c.registers ≡ registers → c ≡ record { bytes = bytes; registers = registers }
coder-is c bytes registers same moved = ap (λ (b : List ℕ). record { bytes = b; registers = c.registers }) same ∙ ap (λ (r : Registers). record { bytes = bytes; registers = r }) moved

-- the coded bytes of a refined symbol, and the place after them
after-bytes : Result (List ℕ × List ℕ) DecodeError → Result (List ℕ × Place) DecodeError
after-bytes result = result >>= λ (coded, rest). Ok (coded, start_of rest)

pub sized-read : {X : Type 0} (r : Result X DecodeError) (view : X → List ℕ) (size : ℕ) (number : ℤ) (p a q : Place) → number ≡ pos size → a ≡ byte_boundary p → Returns (λ x. (view x, q.bytes)) r (bytes_at size a.bytes) → OnOk r (q ≡ start_of q.bytes) → Returns (λ x. (view x, q)) r (sized_bytes number p)
unfolding after-bytes
sized-read (Ok x) view size number p a q is at value start =
    ap (λ (n : ℤ). sized_bytes n p) is
    ∙ ap (λ (b : Place). after-bytes (bytes_at size b.bytes)) (sym at)
    ∙ ap after-bytes value
    ∙ ap (λ (s : Place). Ok (view x, s)) (sym start)
sized-read (Err e) view size number p a q is at value start =
    ap (λ (n : ℤ). sized_bytes n p) is
    ∙ ap (λ (b : Place). after-bytes (bytes_at size b.bytes)) (sym at)
    ∙ ap after-bytes value
