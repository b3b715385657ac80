-- Rows of which pixels are skipped, out of windows, and the decisions that they take.
use Rattle.std.proofs.Common.{◌≡◌, ℕ, ◌+◌, ◌-◌, ◌*◌, ◌/◌, ◌%◌, ◌<◌, ◌≤◌, pos, negsuc, Bool, true, false, cond, not, Option, Some, None, is_none, List, length, ◌++◌, refl, subst, sym, ap, ◌∙◌, arith}
use Rattle.jbig2_base.specs.Counts.{Counts, KeepsLanes}
use Rattle.jbig2_base.specs.Grid.{Grid}
use Rattle.jbig2_base.specs.Bits.{bit}
use Rattle.jbig2_base.specs.Writes.{with_pixels}
use Rattle.jbig2_base.proofs.BitLemmas.{bit-zero}
use Rattle.jbig2_steps.proofs.LaneCounts.{lanes-none}
use Rattle.jbig2_coder.specs.Coder.{Coder, Context}
use Rattle.jbig2_region.specs.Steps.{how_many, pixel_decisions, takes_decision}
use Rattle.jbig2_region.specs.inner.RowCounts.{decided_rows}
use Rattle.jbig2_region.specs.Generic.{context_at, is_skipped}
use Rattle.jbig2_region.specs.Raster.{Coding, Region, at_pixel}
use Rattle.jbig2_region.specs.{Steps.{CountsSkipping, kept_pixels, skipping_loads, skipping_words}, Generic.{skipping_coding}}
use Rattle.jbig2_region.specs.inner.DecodedPixels.{TakesPixel}
use Rattle.jbig2_region.specs.inner.Masks.{IsMask, plain_context}
use Rattle.jbig2_region.specs.inner.Neighbours.{IsNear, SameAbove, left_pixels, nominal_pixels, stretch_pixels}
use Rattle.jbig2_region.specs.inner.RefinementBlocks.{Block}
use Rattle.jbig2_region.specs.declared.template.AdaptiveTemplatePixel.{AdaptiveTemplatePixel}
use Rattle.jbig2_region.specs.declared.template.neighbours.Neighbours.{Neighbours}
use Rattle.jbig2_region.specs.declared.generic_kernel.windows.Windows.{Windows}
use Rattle.jbig2_region.proofs.DecodedPixelLemmas.{codes-next, counts-next, taken-bytes, taken-decisions, taken-digit, taken-others}
use Rattle.jbig2_region.proofs.ContextBits.{context-append, length-side}
use Rattle.jbig2_region.proofs.DecisionLemmas.{Decided}
use Rattle.jbig2_region.proofs.PlaceCounts.{decisions-by-rows, how_many-same}
use Rattle.jbig2_region.proofs.PlaceLemmas.{at_pixel-length, at_pixel-plain}
use Rattle.jbig2_region.proofs.RefinementKernelLemmas.{more}
use Rattle.jbig2_region.proofs.RegisterLemmas.{left-few, left-whole}
use Rattle.jbig2_region.proofs.StoreLemmas.{left-bit, stored-above, stored-push}
use Rattle.jbig2_region.proofs.WindowLemmas.{left-context, stretch-context}
use Rattle.jbig2_region.specs.inner.RegionStates.{counted_decoder, counted_region}
use Rattle.jbig2_region.specs.inner.Windows.{IsLeft, Shows}

-- ---- a mask
pub no-mask : (skip : Option Grid) (x y : ℕ) → skip ≡ None → IsMask skip x y 0
no-mask skip x y none = λ k inside. bit-zero (31 - k) ∙ rw none refl

-- ---- contexts
pub plain-is : (n : Neighbours) (g g' : Grid) (x y k left : ℕ) (w : Windows) → IsNear n → k < 32 → SameAbove g g' y → Shows g x y 64 w → IsLeft g' (x + k) y left → plain_context n w left k ≡ context_at (nominal_pixels n) g' (x + k) y
plain-is n g g' x y k left w near few same shows is =
    rw (left-context n g' (x + k) y left near.left is, stretch-context n.above g g' x y k 1 w.above near.above_reach near.above_count few (omega arith) same shows.above, stretch-context n.top g g' x y k 2 w.top near.top_reach near.top_count few (omega arith) same shows.top)
    (sym (
    rw (
      context-append (left_pixels n) (stretch_pixels n.above 1 ++ stretch_pixels n.top 2) g' (x + k) y,
      context-append (stretch_pixels n.above 1) (stretch_pixels n.top 2) g' (x + k) y,
      length-side (negsuc 0) 0 n.left,
      length-side (pos n.above.reach) 1 n.above.count,
    )
    refl
    ))

-- ---- a block
abbrev colour_of : Bool → Option Bool
colour_of skipped = cond skipped (Some false) None

pub skipping-next : (n : Neighbours) (skip : Option Grid) (x y k : ℕ) (g : Grid) (w : Windows) (mask : ℕ) (d0 d d' : Coder) (s0 s s' : List Context) (t0 t t' : Counts) (pixels context symbol : ℕ) (skipped : Bool)
    → Block (skipping_coding (nominal_pixels n) skip) false x y k (counted_region g d0 s0 t0) pixels (counted_decoder d s t) → IsNear n → Shows g x y 64 w → IsMask skip x y mask → k < 32 → x + (k + 1) ≤ g.width → y < g.height
    → context ≡ plain_context n w (pixels % 16) k → skipped ≡ bit mask (31 - k) → TakesPixel (colour_of skipped) context (counted_decoder d s t) symbol (counted_decoder d' s' t')
    → Block (skipping_coding (nominal_pixels n) skip) false x y (k + 1) (counted_region g d0 s0 t0) (pixels * 2 + symbol) (counted_decoder d' s' t')
skipping-next n skip x y k g w mask d0 d d' s0 s s' t0 t t' pixels context symbol skipped block near shows masks few wide above is_context is_skip takes =
    let coding : Coding = skipping_coding (nominal_pixels n) skip in
    let shown : Grid = with_pixels g x y k pixels in
    let colour : Option Bool = colour_of skipped in
    let known : coding.known false shown (x + k) y ≡ colour = ap (λ (b : Bool). colour_of b) (sym (masks k few) ∙ sym is_skip) in
    let numbered : context ≡ coding.context shown (x + k) y = is_context ∙ plain-is n g shown x y k (pixels % 16) w near few (stored-above g x y k pixels) shows (left-few shown (x + k) y pixels block.left) in
    let digit = taken-digit colour context d s t symbol d' s' t' takes in
    record {
      bytes = taken-bytes colour context d s t symbol d' s' t' takes ∙ block.bytes;
      few = more pixels symbol k digit.0 digit.1 block.few;
      left =
          left-whole (with_pixels g x y (k + 1) (pixels * 2 + symbol)) (x + (k + 1)) y (pixels * 2 + symbol)
          (left-bit g x y k pixels pixels symbol digit.0 digit.1 wide above block.left);
      has_decoded =
          codes-next coding false x y k g shown (with_pixels g x y (k + 1) (pixels * 2 + symbol)) d0 d d' s0 s s' t t' colour context symbol block.has_decoded (omega arith) above known numbered
          (λ c is. stored-push g x y k pixels symbol c is (omega arith) above) takes;
      decisions =
          counts-next coding false x y k g shown d0 d s0 s colour t0.decisions t.decisions t'.decisions block.has_decoded block.decisions (omega arith) above known
          (taken-decisions colour context d s t symbol d' s' t' takes);
      steps = taken-others colour context d s t symbol d' s' t' takes ∙ ap (λ (q : Counts). let made : Counts = record q { decisions = t'.decisions } in made) block.steps;
    }

-- ---- the pixels that take a decision
open-is : (skipped : Bool) → is_none (colour_of skipped) ≡ not skipped
open-is true = refl
open-is false = refl

takes-kept : (template : List AdaptiveTemplatePixel) (skip : Option Grid) (w h : ℕ) (input : List ℕ) (start : Region) (n : ℕ) → length start.pixels ≡ 0 → start.predicted ≡ false → takes_decision (skipping_coding template skip) w h (at_pixel (skipping_coding template skip) w h input start n) ≡ not (is_skipped skip (n % w) (n / w))
unfolding takes_decision
takes-kept template skip w h input start n none plain =
    let coding : Coding = skipping_coding template skip in
    let size : length (at_pixel coding w h input start n).pixels ≡ n = at_pixel-length coding w h input start n none in
    let still : (at_pixel coding w h input start n).predicted ≡ false = at_pixel-plain coding w h input start n refl plain in
    rw (size, still) (open-is (is_skipped skip (n % w) (n / w)))

rows-kept : (template : List AdaptiveTemplatePixel) (skip : Option Grid) (w h : ℕ) (input : List ℕ) (start : Region) → length start.pixels ≡ 0 → start.predicted ≡ false → decided_rows (skipping_coding template skip) w h input h start ≡ kept_pixels skip w h
unfolding pixel_decisions kept_pixels
rows-kept template skip w h input start none plain =
    let coding : Coding = skipping_coding template skip in
    sym (decisions-by-rows coding w h input start none)
    ∙ how_many-same (λ n. takes_decision coding w h (at_pixel coding w h input start n)) (λ n. not (is_skipped skip (n % w) (n / w))) (w * h) (λ n _. takes-kept template skip w h input start n none plain)

none-kept : (skip : Option Grid) (h : ℕ) → kept_pixels skip 0 h ≡ 0
unfolding kept_pixels how_many
none-kept skip h =
    let empty : 0 * h ≡ 0 = omega arith in
    ap (λ (k : ℕ). how_many (λ n. not (is_skipped skip (n % 0) (n / 0))) k) empty

-- ---- whole regions
pub skipping-empty : (skip : Option Grid) (w h : ℕ) (steps : Counts) → w ≡ 0 → CountsSkipping skip w h steps steps
skipping-empty skip w h steps none =
    let kept : kept_pixels skip w h ≡ 0 = ap (λ (n : ℕ). kept_pixels skip n h) none ∙ none-kept skip h in
    record {
      decisions = omega (arith, kept);
      run_tests = refl;
      words = omega arith;
      loads = omega arith;
      lanes = lanes-none steps;
    }

pub skipping-region : (template : List AdaptiveTemplatePixel) (skip : Option Grid) (w h y : ℕ) (input : List ℕ) (start : Region) (before after : Counts) → y ≡ h → length start.pixels ≡ 0 → start.predicted ≡ false
    → Decided (skipping_coding template skip) w h input y start before.decisions after.decisions → after.run_tests ≡ before.run_tests → after.words ≤ before.words + y * skipping_words w → after.loads ≤ before.loads + y * skipping_loads w → KeepsLanes before after
    → CountsSkipping skip w h before after
skipping-region template skip w h y input start before after all none plain counted tests words loads lanes =
    let counts : Decided (skipping_coding template skip) w h input h start before.decisions after.decisions = subst (λ (n : ℕ). Decided (skipping_coding template skip) w h input n start before.decisions after.decisions) all counted in
    record {
      decisions = counts.total ∙ sum before.decisions h _ _ (rows-kept template skip w h input start none plain);
      run_tests = tests;
      words = subst (λ (n : ℕ). after.words ≤ before.words + n * skipping_words w) all words;
      loads = subst (λ (n : ℕ). after.loads ≤ before.loads + n * skipping_loads w) all loads;
      lanes = lanes;
    }
  where
    sum : (d y rows kept : ℕ) → rows ≡ kept → d + (y * 0 + rows) ≡ d + kept
    sum d y rows kept is = omega arith
