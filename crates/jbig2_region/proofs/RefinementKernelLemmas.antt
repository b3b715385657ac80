-- Blocks, rows and regions of refinements whose pixels come from windows.
use Rattle.std.proofs.Common.{pow-suc, add-one, subst, ◌≡◌, ℕ, ◌+◌, ◌*◌, ◌%◌, ◌^◌, ◌<◌, ◌≤◌, Bool, true, false, List, refl, sym, ap, ◌∙◌, arith}
use Rattle.jbig2_base.specs.Counts.{Counts}
use Rattle.jbig2_base.specs.Grid.{Grid}
use Rattle.jbig2_base.specs.Writes.{with_pixels}
use Rattle.jbig2_base.specs.Bits.{bit_number}
use Rattle.jbig2_coder.specs.Coder.{Coder, Context}
use Rattle.jbig2_region.specs.Refinement.{Reference, refinement_coding}
use Rattle.jbig2_region.specs.inner.DecodedPixels.{DecodesPart, CountsPart, TakesPixel}
use Rattle.jbig2_region.specs.inner.RefinementBlocks.{Block}
use Rattle.jbig2_region.specs.inner.RefinementWindows.{SeesRows, context_made, corners, four_of, known_of, nine_of}
use Rattle.jbig2_region.specs.Raster.{Coding}
use Rattle.jbig2_region.specs.declared.refinement_kernel.windows.RefinementWindows.{RefinementWindows}
use Rattle.jbig2_region.specs.declared.template.RefinementTemplate.{RefinementTemplate}
use Rattle.jbig2_region.proofs.DecodedPixelLemmas.{codes-next, codes-start, counts-next, counts-none, taken-bytes, taken-decisions, taken-digit, taken-others}
use Rattle.jbig2_region.proofs.RefinementWindowLemmas.{windows-colour, windows-context}
use Rattle.jbig2_region.proofs.RegisterLemmas.{left-few, left-whole}
use Rattle.jbig2_region.proofs.StoreLemmas.{left-bit, left-start, stored-above, stored-push}
use Rattle.jbig2_region.specs.inner.RegionStates.{counted_decoder, counted_region, region_state}
use Rattle.jbig2_region.specs.inner.Windows.{IsLeft}

-- ---- a block
pub more : (pixels symbol k : ℕ) (c : Bool) → symbol ≡ bit_number c → pixels < 16 * 2 ^ k → pixels * 2 + symbol < 16 * 2 ^ (k + 1)
more pixels symbol k c is few = rw (add-one k, pow-suc) (step c is)
  where
    step : (c : Bool) → symbol ≡ bit_number c → pixels * 2 + symbol < 16 * (2 ^ k * 2)
    step true is = omega arith
    step false is = omega arith

pub block-next : (template : RefinementTemplate) (typical p : Bool) (r : Reference) (x y k : ℕ) (g : Grid) (w : RefinementWindows) (d0 d d' : Coder) (s0 s s' : List Context) (t0 t t' : Counts) (pixels nine four symbol : ℕ)
    → Block (refinement_coding template typical corners r) p x y k (counted_region g d0 s0 t0) pixels (counted_decoder d s t) → SeesRows g r x y w → k < 32 → x + (k + 1) ≤ g.width → y < g.height
    → nine ≡ nine_of w k → four ≡ four_of w pixels k → TakesPixel (known_of p nine) (context_made template nine four) (counted_decoder d s t) symbol (counted_decoder d' s' t')
    → Block (refinement_coding template typical corners r) p x y (k + 1) (counted_region g d0 s0 t0) (pixels * 2 + symbol) (counted_decoder d' s' t')
block-next template typical p r x y k g w d0 d d' s0 s s' t0 t t' pixels nine four symbol block sees few wide above is_nine is_four takes =
    let coding : Coding = refinement_coding template typical corners r in
    let shown : Grid = with_pixels g x y k pixels in
    let known : coding.known p shown (x + k) y ≡ known_of p nine = sym (windows-colour p r g x y k w few sees) ∙ ap (λ (n : ℕ). known_of p n) (sym is_nine) in
    let context : context_made template nine four ≡ coding.context shown (x + k) y =
    ap (λ (n : ℕ). context_made template n four) is_nine ∙ ap (λ (n : ℕ). context_made template (nine_of w k) n) is_four ∙ windows-context template r g shown x y k pixels w few (stored-above g x y k pixels) sees block.left in
    let digit = taken-digit (known_of p nine) (context_made template nine four) d s t symbol d' s' t' takes in
    record {
      bytes = taken-bytes (known_of p nine) (context_made template nine four) d s t symbol d' s' t' takes ∙ block.bytes;
      few = more pixels symbol k digit.0 digit.1 block.few;
      left =
          left-whole (with_pixels g x y (k + 1) (pixels * 2 + symbol)) (x + (k + 1)) y (pixels * 2 + symbol)
          (left-bit g x y k pixels pixels symbol digit.0 digit.1 wide above block.left);
      has_decoded =
          codes-next coding p x y k g shown (with_pixels g x y (k + 1) (pixels * 2 + symbol)) d0 d d' s0 s s' t t' (known_of p nine) (context_made template nine four) symbol block.has_decoded (omega arith) above known context
          (λ c is. stored-push g x y k pixels symbol c is (omega arith) above) takes;
      decisions =
          counts-next coding p x y k g shown d0 d s0 s (known_of p nine) t0.decisions t.decisions t'.decisions block.has_decoded block.decisions (omega arith) above known
          (taken-decisions (known_of p nine) (context_made template nine four) d s t symbol d' s' t' takes);
      steps = taken-others (known_of p nine) (context_made template nine four) d s t symbol d' s' t' takes ∙ ap (λ (q : Counts). let made : Counts = record q { decisions = t'.decisions } in made) block.steps;
    }

pub block-none : (coding : Coding) (p : Bool) (x y left pixels : ℕ) (g : Grid) (d : Coder) (s : List Context) (t : Counts) → IsLeft g x y left → left < 16 → pixels ≡ left → Block coding p x y 0 (counted_region g d s t) pixels (counted_decoder d s t)
block-none coding p x y left pixels g d s t before small is = record {
  bytes = refl;
  few = omega arith;
  left = left-start g x y pixels pixels (subst (λ (n : ℕ). IsLeft g x y n) (sym is) before);
  has_decoded = codes-start coding p x y pixels g d s;
  decisions = counts-none coding p x y g d s t.decisions;
  steps = refl;
}

-- what a stored block leaves
pub record Stored (coding : Coding) (p : Bool) (x y n : ℕ) (g : Grid) (d0 : Coder) (s0 : List Context) (count : ℕ) (pixels : ℕ) (g' : Grid) (d : Coder) (s : List Context) (count' : ℕ) : Type 0 where
  pub left : IsLeft g' (x + n) y (pixels % 16)
  pub has_decoded : DecodesPart coding p x y n (region_state g d0 s0) (region_state g' d s)
  pub decisions : CountsPart coding p x y n (region_state g d0 s0) count count'

pub block-whole : (coding : Coding) (p : Bool) (x y k n : ℕ) (g g' : Grid) (d0 d : Coder) (s0 s : List Context) (t0 t : Counts) (pixels : ℕ) → Block coding p x y k (counted_region g d0 s0 t0) pixels (counted_decoder d s t) → k ≡ n → g' ≡ with_pixels g x y n pixels
    → Stored coding p x y n g d0 s0 t0.decisions pixels g' d s t.decisions
block-whole coding p x y k n g g' d0 d s0 s t0 t pixels block all stored =
    let same : with_pixels g x y k pixels ≡ g' = ap (λ (m : ℕ). with_pixels g x y m pixels) all ∙ sym stored in
    record {
      left = left-few g' (x + n) y pixels (subst (λ (q : Grid). IsLeft q (x + n) y pixels) same (subst (λ (m : ℕ). IsLeft (with_pixels g x y k pixels) (x + m) y pixels) all block.left));
      has_decoded = subst (λ (q : Grid). DecodesPart coding p x y n (region_state g d0 s0) (region_state q d s)) same (subst (λ (m : ℕ). DecodesPart coding p x y m (region_state g d0 s0) (region_state (with_pixels g x y k pixels) d s)) all block.has_decoded);
      decisions = subst (λ (m : ℕ). CountsPart coding p x y m (region_state g d0 s0) t0.decisions t.decisions) all block.decisions;
    }
