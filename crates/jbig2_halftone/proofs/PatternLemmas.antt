-- Patterns cut out of a collective bitmap.
use Rattle.std.proofs.Common.{inl, inr, ◌≡◌, ℕ, ◌+◌, ◌*◌, ◌/◌, ◌<◌, ◌≤◌, Bool, true, false, List, [], ◌∷◌, ◌++◌, drop, length, Result, Ok, refl, sym, ap, subst, ◌∙◌, arith}
use Rattle.std.specs.List.{All}
use Rattle.std.proofs.Math.Nat.{mul-le-mul_left}
use Rattle.std.proofs.lemmas.List.FromFn.{get_or-map-range_with_len, map-range_with_len_more, length-map-range_with_len}
use Rattle.jbig2_base.specs.Counts.{Counts, KeepsLanes, words_cleared, words_copied, words_made}
use Rattle.jbig2_base.specs.Grid.{Grid, blank, blank_or_overflow}
use Rattle.jbig2_base.specs.declared.error.DecodeError.{DecodeError}
use Rattle.jbig2_base.proofs.CountLemmas.{written-none}
use Rattle.jbig2_base.proofs.FillLemmas.{white-made}
use Rattle.jbig2_steps.proofs.LaneCounts.{lanes-none, lanes-then}
use Rattle.jbig2_region.specs.GenericSteps.{CountsGeneric}
use Rattle.jbig2_region.specs.Templates.{left, nominal_adaptive_pixels}
use Rattle.jbig2_region.specs.inner.PixelArrays.{pixels_view}
use Rattle.jbig2_region.specs.declared.template.GenericTemplatePixels.TheVariants.{Regular}
use Rattle.jbig2_region.specs.declared.template.Template.{Template}
use Rattle.jbig2_region.specs.declared.template.Template.TheVariants.{Template0, Template1, Template2, Template3}
use Rattle.jbig2_halftone.specs.PatternHeader.{PatternHeader}
use Rattle.jbig2_halftone.specs.Patterns.{collective_header, collective_pixels, HasSize, patterns_of}
use Rattle.jbig2_halftone.specs.Steps.{StopsDictionary, TakesNoLanes, after_patterns, collective_made}
use Rattle.jbig2_halftone.specs.inner.FunctionResults.{StopsCut, pattern_of, patterns_cut}

-- the adaptive pixels of the collective bitmap, taken of an array of four
pub collective_view : (mmr : Bool) (template : Template) (width : ℕ) → pixels_view mmr template (Regular (left width 0 ∷ drop 1 (nominal_adaptive_pixels Template0))) ≡ collective_pixels mmr template width
collective_view true template width = refl
collective_view false Template0 width = refl
collective_view false Template1 width = refl
collective_view false Template2 width = refl
collective_view false Template3 width = refl

pub patterns_of-pushed : (collective : Grid) (w h n : ℕ) (before after : List Grid) (p : Grid) → before ≡ patterns_of collective w h n → ◌≡◌ {A = Result Grid DecodeError} (Ok (pattern_of collective w h n)) (Ok p) → after ≡ before ++ p ∷ [] → after ≡ patterns_of collective w h (n + 1)
unfolding patterns_of
patterns_of-pushed collective w h n before after p so_far one pushed =
    let same : pattern_of collective w h n ≡ p = cc in
    pushed ∙ ap (λ (ps : List Grid). ps ++ p ∷ []) so_far ∙ ap (λ (q : Grid). patterns_of collective w h n ++ q ∷ []) (sym same) ∙ sym (map-range_with_len_more (λ k. pattern_of collective w h k) 0 n n (omega arith))

pub patterns_of-length : (collective : Grid) (w h n : ℕ) → length (patterns_of collective w h n) ≡ n
unfolding patterns_of
patterns_of-length collective w h n = length-map-range_with_len (λ k. pattern_of collective w h k) 0 n

pub patterns_of-none : (collective : Grid) (w h : ℕ) → [] ≡ patterns_of collective w h 0
unfolding patterns_of
patterns_of-none collective w h = refl

pub blank-made : (w h : ℕ) (black : Bool) (g : Grid) → w ≤ 65535 → h ≤ 65535 → blank_or_overflow w h black ≡ Ok g → g ≡ blank w h black
blank-made w h black g columns rows e = (white-made w h black g e).1

pub cut-length : (collective : Grid) (w h n : ℕ) (items : List Grid) → ◌≡◌ {A = Result (List Grid) DecodeError} (Ok (patterns_of collective w h n)) (Ok items) → length items ≡ n
cut-length collective w h n items e =
    let same : patterns_of collective w h n ≡ items = cc in
    ap length (sym same) ∙ patterns_of-length collective w h n

-- few patterns, where they have few columns together
pub few-patterns : (n w : ℕ) → 1 ≤ w → n * w ≤ 65535 → n ≤ 65535
few-patterns n w some few = omega (arith, mul-le-mul_left n some)

-- each pattern has its dictionary's size
pub cut-sized : (collective : Grid) (w h n : ℕ) (items : List Grid) → ◌≡◌ {A = Result (List Grid) DecodeError} (Ok (patterns_of collective w h n)) (Ok items) → All (HasSize w h) items
unfolding patterns_of
cut-sized collective w h n items e =
    let same : patterns_of collective w h n ≡ items = cc in
    subst (λ (ps : List Grid). All (HasSize w h) ps) same
    (λ k d inside.
    let within : k < n = omega (arith, patterns_of-length collective w h n) in
    let one = get_or-map-range_with_len (λ i. pattern_of collective w h i) 0 n k k d within (omega arith) in
    record { columns = ap (λ (g : Grid). g.width) one; rows = ap (λ (g : Grid). g.height) one })

-- ---- steps
clash : (b : Bool) → b ≡ true → b ≡ false → ⊥
clash b is other = cc

-- no pattern yet
pub none-cut : (made cut words cleared : ℕ) (s : Counts) → made ≡ 0 → cut ≡ 0 → s ≡ patterns_cut made cut cleared words s
none-cut made cut words cleared s e f =
    let few : s.words ≡ s.words + cut * words = zero-times cut words s.words f in
    let read : s.loads ≡ s.loads + cut * words = zero-times cut words s.loads f in
    let kept : s.cleared ≡ s.cleared + made * cleared = zero-times made cleared s.cleared e in
    λ i. record s { loads = read i; words = few i; cleared = kept i }
  where
    zero-times : (k n m : ℕ) → k ≡ 0 → m ≡ m + k * n
    zero-times k n m none = rw none (omega arith)

-- a collective bitmap that is refused: without MMR no step was taken but for making it
pub collective-stops : (h : PatternHeader) (old new : Counts) → (h.mmr ≡ false → new ≡ collective_made h old) → StopsDictionary h old new
collective-stops h old new none = by_mmr h.mmr refl
  where
    cut-none : (h : PatternHeader) (s : Counts) → s ≡ after_patterns h 0 0 s
    cut-none h s = none-cut 0 0 ((h.pattern_width + 63) / 64 * h.pattern_height) (words_made h.pattern_width h.pattern_height) s refl refl

    by_mmr : (b : Bool) → h.mmr ≡ b → StopsDictionary h old new
    by_mmr true mmr = inr (inr (0, (omega arith, (0, (omega arith, (new, ((λ coded. absurd (clash h.mmr mmr coded)), cut-none h new)))))))
    by_mmr false coded = inr (inl (none coded))

pub refused-lanes : (h : PatternHeader) (old new : Counts) → (h.mmr ≡ true → KeepsLanes old new) → (h.mmr ≡ false → new ≡ old) → KeepsLanes old new
refused-lanes h old new mmr none = by_mmr h.mmr refl
  where
    by_mmr : (b : Bool) → h.mmr ≡ b → KeepsLanes old new
    by_mmr true is = mmr is
    by_mmr false coded = subst (λ (s : Counts). KeepsLanes old s) (sym (none coded)) (lanes-none old)

-- no lanes but for a bitmap that is made
pub takes-none : (n : ℕ) (old new : Counts) → KeepsLanes (words_cleared n old) new → TakesNoLanes old new
takes-none n old new keeps = record { groups = keeps.groups; pixels = keeps.pixels }

-- patterns that are cut out of it
pub cut-lanes : (made cut cleared words m : ℕ) (old mid new : Counts) → KeepsLanes (words_cleared m old) mid → new ≡ patterns_cut made cut cleared words mid → TakesNoLanes old new
cut-lanes made cut cleared words m old mid new before copied = record {
  groups = ap (λ (c : Counts). c.groups) copied ∙ before.groups;
  pixels = ap (λ (c : Counts). c.pixels) copied ∙ before.pixels;
}

-- the sides of a pattern, as the header has them
pub cut-counts : (h : PatternHeader) (made cut w rows : ℕ) (old new : Counts) → w ≡ h.pattern_width → rows ≡ h.pattern_height → new ≡ patterns_cut made cut (words_made w rows) ((w + 63) / 64 * rows) old → new ≡ after_patterns h made cut old
cut-counts h made cut w rows old new wide high counts =
    counts
    ∙ ap (λ (n : ℕ). patterns_cut made cut (words_made n rows) ((n + 63) / 64 * rows) old) wide
    ∙ ap (λ (n : ℕ). patterns_cut made cut (words_made h.pattern_width n) ((h.pattern_width + 63) / 64 * n) old) high

-- some of them
pub dictionary-stops : (h : PatternHeader) (w rows : ℕ) (old mid new : Counts) → w ≡ h.pattern_width → rows ≡ h.pattern_height → CountsGeneric (collective_header h) (collective_made h old) mid → StopsCut (h.gray_max + 1) (words_made w rows) ((w + 63) / 64 * rows) mid new → StopsDictionary h old new
dictionary-stops h w rows old mid new wide high counts (made, (fewer, (cut, (few, copied)))) = inr (inr (made, (fewer, (cut, (few, (mid, (counts, cut-counts h made cut w rows mid new wide high copied)))))))

pub stops-lanes : (count cleared words m : ℕ) (old mid new : Counts) → KeepsLanes (words_cleared m old) mid → StopsCut count cleared words mid new → TakesNoLanes old new
stops-lanes count cleared words m old mid new before (made, (fewer, (cut, (few, copied)))) = cut-lanes made cut cleared words m old mid new before copied

-- one more is made, and then cut
pub cut-made : (made cut k words cleared : ℕ) (s t u : Counts) → t ≡ patterns_cut made cut cleared words s → u ≡ words_cleared cleared t → k ≡ made + 1 → u ≡ patterns_cut k cut cleared words s
cut-made made cut k words cleared s t u before more e =
    more
    ∙ ap (λ (c : Counts). words_cleared cleared c) before
    ∙ (let kept : s.cleared + made * cleared + cleared ≡ s.cleared + k * cleared = one-more made k cleared s.cleared e in
    λ i. record s { loads = s.loads + cut * words; words = s.words + cut * words; cleared = kept i })
  where
    one-more : (i k n m : ℕ) → k ≡ i + 1 → m + i * n + n ≡ m + k * n
    one-more i k n m e = rw e (omega arith)

pub cut-more : (made cut k l words cleared : ℕ) (s t u : Counts) → t ≡ patterns_cut made cut cleared words s → u ≡ words_copied words (words_cleared cleared t) → k ≡ made + 1 → l ≡ cut + 1 → u ≡ patterns_cut k l cleared words s
cut-more made cut k l words cleared s t u before more e f =
    let few : s.words + cut * words + words ≡ s.words + l * words = one-more cut l words s.words f in
    let read : s.loads + cut * words + words ≡ s.loads + l * words = one-more cut l words s.loads f in
    let kept : s.cleared + made * cleared + cleared ≡ s.cleared + k * cleared = one-more made k cleared s.cleared e in
    more
    ∙ ap (λ (c : Counts). words_copied words (words_cleared cleared c)) before
    ∙ (λ i. record s { loads = read i; words = few i; cleared = kept i })
  where
    one-more : (i k n m : ℕ) → k ≡ i + 1 → m + i * n + n ≡ m + k * n
    one-more i k n m e = rw e (omega arith)

pub cut-some : (count cleared words made cut : ℕ) (old new : Counts) → made ≤ count → cut ≤ count → new ≡ patterns_cut made cut cleared words old → StopsCut count cleared words old new
cut-some count cleared words made cut old new fewer few copied = (made, (fewer, (cut, (few, copied))))
