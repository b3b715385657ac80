-- Pixels of a refinement's block that are decided by windows which moved on, which are white, or which are copied.
use Rattle.std.proofs.Common.{add-one, pow-suc, subst, ◌≡◌, ℕ, zero, suc, ◌+◌, ◌-◌, ◌*◌, ◌/◌, ◌%◌, ◌^◌, ◌<◌, ◌≤◌, Bool, List, Option, Some, None, refl, sym, ap, ◌∙◌, arith}
use Rattle.std.proofs.Math.Nat.{pow-le-pow_right}
use Rattle.jbig2_base.specs.Counts.{Counts}
use Rattle.jbig2_base.specs.Grid.{Grid}
use Rattle.jbig2_base.specs.Bits.{bit, bit_number}
use Rattle.jbig2_base.proofs.BitLemmas.{bit-above}
use Rattle.jbig2_coder.specs.Coder.{Coder, Context}
use Rattle.jbig2_region.specs.Raster.{Coding}
use Rattle.jbig2_region.specs.Refinement.{Reference, refinement_coding}
use Rattle.jbig2_region.specs.inner.DecodedPixels.{TakesPixel}
use Rattle.jbig2_region.specs.inner.RefinementBlocks.{Block}
use Rattle.jbig2_region.specs.inner.RefinementLanes.{Lanes, nine_in, region_in}
use Rattle.jbig2_region.specs.inner.RefinementWindows.{SeesRows, context_made, corners, four_of, known_of, nine_of, three_of}
use Rattle.jbig2_region.specs.declared.refinement_kernel.windows.RefinementWindows.{RefinementWindows}
use Rattle.jbig2_region.specs.declared.template.RefinementTemplate.{RefinementTemplate}
use Rattle.jbig2_region.specs.declared.template.RefinementTemplate.TheVariants.{Template0, Template1}
use Rattle.jbig2_region.proofs.RefinementKernelLemmas.{block-next}
use Rattle.jbig2_region.proofs.RefinementKnownLemmas.{copied-next}
use Rattle.jbig2_region.proofs.RefinementLaneLemmas.{lanes-nine, lanes-region}
use Rattle.jbig2_region.proofs.RefinementWindowLemmas.{three-bits}
use Rattle.jbig2_region.specs.inner.RegionStates.{counted_decoder, counted_region}

-- ---- windows
pub three-white : (word k : ℕ) → word / 2 ^ 30 ≡ 0 → k < 32 → three_of word k ≡ 0
three-white word k none few =
    let small : word < 2 ^ 30 = omega arith in
    three-bits word (61 - k)
    ∙ rw (bit-above word 30 (61 - k) small (omega arith), bit-above word 30 (61 - k + 1) small (omega arith), bit-above word 30 (61 - k + 2) small (omega arith)) refl

pub nine-white : (w : RefinementWindows) (k : ℕ) → w.above / 2 ^ 30 ≡ 0 → w.here / 2 ^ 30 ≡ 0 → w.below / 2 ^ 30 ≡ 0 → k < 32 → nine_of w k ≡ 0
nine-white w k above here below few = rw (three-white w.below k below few, three-white w.here k here few, three-white w.above k above few) refl

pub four-white : (w : RefinementWindows) (pixels k : ℕ) → pixels % 2 ≡ 0 → three_of w.region k ≡ 0 → 0 ≡ four_of w pixels k
four-white w pixels k left region = rw (left, region) refl

pub context-white : (template : RefinementTemplate) → context_made template 0 0 ≡ 0
context-white Template0 = refl
context-white Template1 = refl

-- ---- a block
-- one pixel more, whose colour is not known
pub block-pushed : (template : RefinementTemplate) (typical p : Bool) (r : Reference) (x y k j : ℕ) (g : Grid) (w : RefinementWindows) (d0 d d' : Coder) (s0 s s' : List Context) (t0 t t' : Counts) (pixels context symbol : ℕ)
    → SeesRows g r x y w → k + (j + 1) ≤ 32 → x + (k + (j + 1)) ≤ g.width → y < g.height → known_of p (nine_of w (k + j)) ≡ None → context ≡ context_made template (nine_of w (k + j)) (four_of w pixels (k + j)) → TakesPixel None context (counted_decoder d s t) symbol (counted_decoder d' s' t')
    → Block (refinement_coding template typical corners r) p x y (k + j) (counted_region g d0 s0 t0) pixels (counted_decoder d s t)
    → Block (refinement_coding template typical corners r) p x y (k + (j + 1)) (counted_region g d0 s0 t0) (pixels * 2 + symbol) (counted_decoder d' s' t')
block-pushed template typical p r x y k j g w d0 d d' s0 s s' t0 t t' pixels context symbol sees few wide above unknown is takes block =
    let coding : Coding = refinement_coding template typical corners r in
    let place : k + j + 1 ≡ k + (j + 1) = omega arith in
    let decided : TakesPixel None (context_made template (nine_of w (k + j)) (four_of w pixels (k + j))) (counted_decoder d s t) symbol (counted_decoder d' s' t') = subst (λ (n : ℕ). TakesPixel None n (counted_decoder d s t) symbol (counted_decoder d' s' t')) is takes in
    subst (λ (n : ℕ). Block coding p x y n (counted_region g d0 s0 t0) (pixels * 2 + symbol) (counted_decoder d' s' t')) place
    (block-next template typical p r x y (k + j) g w d0 d d' s0 s s' t0 t t' pixels (nine_of w (k + j)) (four_of w pixels (k + j)) symbol
    block sees (omega arith) (omega arith) above refl refl
    (subst (λ (known : Option Bool). TakesPixel known (context_made template (nine_of w (k + j)) (four_of w pixels (k + j))) (counted_decoder d s t) symbol (counted_decoder d' s' t')) (sym unknown) decided))

pub block-opening : (coding : Coding) (p : Bool) (x y k : ℕ) (g : Grid) (d0 d : Coder) (s0 s : List Context) (t0 t : Counts) (pixels : ℕ) → Block coding p x y k (counted_region g d0 s0 t0) pixels (counted_decoder d s t) → Block coding p x y (k + 0) (counted_region g d0 s0 t0) pixels (counted_decoder d s t)
block-opening coding p x y k g d0 d s0 s t0 t pixels block =
    let same : k ≡ k + 0 = omega arith in
    subst (λ (n : ℕ). Block coding p x y n (counted_region g d0 s0 t0) pixels (counted_decoder d s t)) same block

-- n pixels more, which are the reference's
pub block-copied : (template : RefinementTemplate) (typical p : Bool) (r : Reference) (x y k n : ℕ) (g : Grid) (w : RefinementWindows) (d0 d : Coder) (s0 s : List Context) (t0 t : Counts) (pixels : ℕ)
    → SeesRows g r x y w → k + n ≤ 32 → x + (k + n) ≤ g.width → y < g.height → ((i : ℕ) → i < n → known_of p (nine_of w (k + i)) ≡ Some (bit w.here (62 - (k + i))))
    → Block (refinement_coding template typical corners r) p x y k (counted_region g d0 s0 t0) pixels (counted_decoder d s t)
    → Block (refinement_coding template typical corners r) p x y (k + n) (counted_region g d0 s0 t0) (pixels * 2 ^ n + w.here / 2 ^ (63 - (k + n)) % 2 ^ n) (counted_decoder d s t)
block-copied template typical p r x y k zero g w d0 d s0 s t0 t pixels sees few wide above known block =
    let none : pixels ≡ pixels * 2 ^ 0 + w.here / 2 ^ (63 - (k + 0)) % 2 ^ 0 = omega arith in
    subst (λ (m : ℕ). Block (refinement_coding template typical corners r) p x y (k + 0) (counted_region g d0 s0 t0) m (counted_decoder d s t)) none (block-opening (refinement_coding template typical corners r) p x y k g d0 d s0 s t0 t pixels block)
block-copied template typical p r x y k (suc n) g w d0 d s0 s t0 t pixels sees few wide above known block =
    let coding : Coding = refinement_coding template typical corners r in
    let so_far : ℕ = pixels * 2 ^ n + w.here / 2 ^ (63 - (k + n)) % 2 ^ n in
    let colour : Bool = bit w.here (62 - (k + n)) in
    let before : Block coding p x y (k + n) (counted_region g d0 s0 t0) so_far (counted_decoder d s t) = block-copied template typical p r x y k n g w d0 d s0 s t0 t pixels sees (omega arith) (omega arith) above (λ i inside. known i (omega arith)) block in
    let takes : TakesPixel (Some colour) (context_made template (nine_of w (k + n)) (four_of w so_far (k + n))) (counted_decoder d s t) (bit_number colour) (counted_decoder d s t) = record {
      symbol = refl;
      coder = refl;
      states = refl;
      steps = refl;
    } in
    let next : Block coding p x y (k + n + 1) (counted_region g d0 s0 t0) (so_far * 2 + bit_number colour) (counted_decoder d s t) =
    block-next template typical p r x y (k + n) g w d0 d d s0 s s t0 t t so_far (nine_of w (k + n)) (four_of w so_far (k + n)) (bit_number colour)
    before sees (omega arith) (omega arith) above refl refl
    (subst (λ (o : Option Bool). TakesPixel o (context_made template (nine_of w (k + n)) (four_of w so_far (k + n))) (counted_decoder d s t) (bit_number colour) (counted_decoder d s t)) (sym (known n (omega arith))) takes) in
    let place : k + n + 1 ≡ k + (n + 1) = omega arith in
    subst (λ (m : ℕ). Block coding p x y (k + m) (counted_region g d0 s0 t0) (pixels * 2 ^ m + w.here / 2 ^ (63 - (k + m)) % 2 ^ m) (counted_decoder d s t)) (add-one n)
    (subst (λ (m : ℕ). Block coding p x y (k + (n + 1)) (counted_region g d0 s0 t0) m (counted_decoder d s t)) (copied-next pixels w.here k n (omega arith))
    (subst (λ (m : ℕ). Block coding p x y m (counted_region g d0 s0 t0) (so_far * 2 + bit_number colour) (counted_decoder d s t)) place next))

-- there is room for one pixel more
pub pixels-room : (pixels k : ℕ) → pixels < 16 * 2 ^ k → k < 32 → pixels < 2 ^ 36
pixels-room pixels k few within =
    let less : k ≤ 31 = omega arith in
    let small : 2 ^ k ≤ 2 ^ 31 = pow-le-pow_right (omega arith) less in
    omega arith

pub pixels-more : (pixels symbol k j : ℕ) → pixels < 16 * 2 ^ (k + j) → symbol < 2 → pixels * 2 + symbol < 16 * 2 ^ (k + (j + 1))
pixels-more pixels symbol k j few small =
    let place : k + (j + 1) ≡ k + j + 1 = omega arith in
    rw (place, add-one (k + j), pow-suc) (omega arith)

-- the context of the next pixel, by the lanes that show it
pub context-shown : (template : RefinementTemplate) (w : RefinementWindows) (k n lanes left pixels context : ℕ) → k < 32 → Lanes w k n lanes → context ≡ context_made template (nine_in lanes) (left + region_in lanes * 2) → left ≡ pixels % 2
    → context ≡ context_made template (nine_of w k) (four_of w pixels k)
context-shown template w k n lanes left pixels context few shown is low =
    is ∙ ap (λ (m : ℕ). context_made template m (left + region_in lanes * 2)) (lanes-nine w k n lanes few shown)
    ∙ ap (λ (m : ℕ). context_made template (nine_of w k) (left + m * 2)) (lanes-region w k n lanes few shown)
    ∙ ap (λ (m : ℕ). context_made template (nine_of w k) (m + three_of w.region k * 2)) low
