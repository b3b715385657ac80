-- What the planes of an image take.
use Rattle.std.proofs.Common.{◌≡◌, ℕ, zero, suc, ◌+◌, ◌-◌, ◌*◌, ◌/◌, ◌%◌, ◌<◌, ◌≤◌, Bool, true, false, not, List, drop, length, Option, None, Some, add-one, add-mul, ltb, refl, sym, ap, subst, ◌∙◌, arith}
use Rattle.std.specs.Borrow.{Bor}
use Rattle.std.specs.Prelude.{if◌then◌else◌, is_some, ◌||◌}
use Rattle.std.proofs.Math.Nat.{mul-le-mul_left, mul-le-mul_right}
use Rattle.std.proofs.lemmas.List.{length-drop}
use Rattle.jbig2_base.specs.Counts.{Counts, bitmap_made, words_cleared, words_made, words_of}
use Rattle.jbig2_base.specs.Grid.{Grid, blank}
use Rattle.jbig2_base.proofs.CountLemmas.{cleared-none}
use Rattle.jbig2_coder.specs.Coder.{Coder, Context, Registers}
use Rattle.jbig2_mmr.specs.Steps.{MovesWithin}
use Rattle.jbig2_region.specs.Generic.{coding_of}
use Rattle.jbig2_region.specs.GenericSteps.{read_pixels}
use Rattle.jbig2_region.specs.Raster.{Coding, Region, at_pixel, no_pixels, source}
use Rattle.jbig2_region.specs.Steps.{CountsRegion, coded_pixels, coded_runs, row_loads, row_tests, row_words}
use Rattle.jbig2_region.specs.{Steps.{CountsSkipping, kept_pixels, skipping_loads, skipping_words}, inner.RegionViews.{skip_of}}
use Rattle.jbig2_region.specs.Templates.{is_nominal, template_pixels, nominal_adaptive_pixels}
use Rattle.jbig2_region.specs.declared.template.AdaptiveTemplatePixel.{AdaptiveTemplatePixel}
use Rattle.jbig2_region.specs.declared.template.Template.{Template}
use Rattle.jbig2_region.specs.declared.template.Template.TheVariants.{Template0, Template1, Template2, Template3}
use Rattle.jbig2_halftone.specs.GrayScale.{GrayScale, after_planes}
use Rattle.jbig2_halftone.specs.Steps.{CountsImage, CountsLanes, CountsMasked, CountsPlanes, CountsRead, StopsImage, TakesLanes, plane_runs, taking_loads, words_of_plane}
use Rattle.jbig2_halftone.specs.inner.FunctionResults.{CountsCoded, CountsMmr, CountsOne, CountsPlane, MovesByMmr, StopsCoded, StopsMmr, plain_coding, plane_pixels, coded_plane_start, after_lane_rows}
use Rattle.jbig2_halftone.proofs.PlaneLemmas.{AfterPlanes, no-mask}
use Rattle.jbig2_halftone.proofs.RowLemmas.{counts-start}
use Rattle.jbig2_region.proofs.PlaceCounts.{how_many-all}
use Rattle.jbig2_region.proofs.PlaceLemmas.{at_pixel-plain}

some-mask : (mask : Option (Bor Grid)) → is_some mask ≡ true → skip_of mask ≡ None → ⊥
some-mask None e none = cc
some-mask (Some m) e none = cc

nominal : (t : Template) → is_nominal t (nominal_adaptive_pixels t) ≡ true
nominal Template0 = refl
nominal Template1 = refl
nominal Template2 = refl
nominal Template3 = refl

none-read : (t : Template) → read_pixels t (nominal_adaptive_pixels t) ≡ 0
none-read t = rw (nominal t) refl

-- what a generic region says of a plane
pub plain-counts : (p : GrayScale) (adaptive : List AdaptiveTemplatePixel) (w h : ℕ) (bytes : List ℕ) (start : Region) (before after : Counts) → adaptive ≡ nominal_adaptive_pixels p.template
    → CountsRegion (template_pixels false p.template adaptive) (is_nominal p.template adaptive) (read_pixels p.template adaptive) (coding_of false p.template (template_pixels false p.template adaptive)) (source w h bytes start) before after
    → CountsPlane p w h bytes start before after
plain-counts p adaptive w h bytes start before after at counts =
    let here = subst (λ (a : List AdaptiveTemplatePixel). CountsRegion (template_pixels false p.template a) (is_nominal p.template a) (read_pixels p.template a) (coding_of false p.template (template_pixels false p.template a)) (source w h bytes start) before after) at counts in
    let none = subst (λ (n : ℕ). CountsRegion (plane_pixels p) (is_nominal p.template (nominal_adaptive_pixels p.template)) n (plain_coding p) (source w h bytes start) before after) (none-read p.template) here in
    subst (λ (b : Bool). CountsRegion (plane_pixels p) b 0 (plain_coding p) (source w h bytes start) before after) (nominal p.template) none

-- every row of a plane is coded
all-coded : (pixels : List AdaptiveTemplatePixel) (t : Template) (w h : ℕ) (bytes : List ℕ) (start : Region) → start.predicted ≡ false → coded_pixels (coding_of false t pixels) w h bytes start ≡ w * h
unfolding coded_pixels
all-coded pixels t w h bytes start plain =
    let coding : Coding = coding_of false t pixels in
    how_many-all (λ n. not (at_pixel coding w h bytes start n).predicted) true (w * h) (λ n _. ap not (at_pixel-plain coding w h bytes start n refl plain)) ∙ omega arith

-- ---- planes that are read and taken
one-more : (n v : ℕ) → (n + 1) * v ≡ n * v + v
one-more n v = omega (arith, add-mul n 1 v)

-- taking a plane without pixels takes no step
taken-empty : (h w : ℕ) (before : Counts) → w * h ≡ 0 → after_lane_rows h w before ≡ before
taken-empty zero w before none = sym (counts-start w before)
taken-empty (suc h) zero before none =
    let rows : suc h * 0 ≡ 0 = omega arith in
    let loads : before.loads + 0 ≡ before.loads = omega arith in
    let groups : before.groups + 0 ≡ before.groups = omega arith in
    let pixels : before.pixels + 0 ≡ before.pixels = omega arith in
    rw (rows, loads, groups, pixels) refl
taken-empty (suc h) (suc w) before none = absurd (omega arith)

planes-begin : (p : GrayScale) (bytes : List ℕ) (steps : Counts) → CountsPlanes p bytes 0 (0 * taking_loads p) steps steps
unfolding plane_runs
planes-begin p bytes steps = record { empty = λ _. refl; decisions = λ _. omega arith; run_tests = omega arith; words = omega arith; loads = omega arith }

planes-more : (p : GrayScale) (bytes : List ℕ) (i : ℕ) (old mid read new : Counts) → CountsPlanes p bytes i (i * taking_loads p) old mid → CountsPlane p p.width p.height bytes (coded_plane_start p bytes i) mid read → new ≡ after_lane_rows p.height p.width read → CountsPlanes p bytes (i + 1) ((i + 1) * taking_loads p) old new
unfolding plane_runs
planes-more p bytes i old mid read new before one taken =
    let runs : plane_runs p bytes (i + 1) ≡ plane_runs p bytes i + coded_runs (plane_pixels p) true (plain_coding p) p.width p.height bytes (coded_plane_start p bytes i) = rw add-one refl in
    let coded = all-coded (plane_pixels p) p.template p.width p.height bytes (coded_plane_start p bytes i) refl in
    let none : p.width * p.height * 0 ≡ 0 = omega arith in
    record {
      empty = λ none. taken ∙ taken-empty p.height p.width read none ∙ one.empty none ∙ before.empty none;
      decisions = λ some.
          let here = one.decisions some in
          let plain = rw coded at here in
          rw (runs, one-more i (p.width * p.height)) (omega (arith, before.decisions some, plain, ap (λ (c : Counts). c.decisions) taken));
      run_tests = rw (one-more i (p.height * row_tests true p.width)) (omega (arith, before.run_tests, one.run_tests, ap (λ (c : Counts). c.run_tests) taken));
      words = rw (one-more i (p.height * row_words true p.width)) (omega (arith, before.words, one.words, ap (λ (c : Counts). c.words) taken));
      loads =
          let plain = rw (coded, none) at one.loads in
          rw (one-more i (p.height * row_loads true p.width), one-more i (taking_loads p)) (omega (arith, before.loads, plain, ap (λ (c : Counts). c.loads) taken));
    }

planes-next : (p : GrayScale) (bytes : List ℕ) (i : ℕ) (plane : Grid) (coder : Coder) (states : List Context) (old mid read new : Counts) → plane ≡ blank p.width p.height false → AfterPlanes p bytes i coder states
    → CountsPlanes p bytes i (i * taking_loads p) old mid → CountsPlane p plane.width plane.height coder.bytes (no_pixels coder.registers states) mid read → new ≡ after_lane_rows p.height p.width read → CountsPlanes p bytes (i + 1) ((i + 1) * taking_loads p) old new
planes-next p bytes i plane coder states old mid read new white after before one taken =
    let two = subst (λ (b : List ℕ). CountsPlane p plane.width plane.height b (no_pixels coder.registers states) mid read) after.bytes one in
    let three = subst (λ (g : Grid). CountsPlane p g.width g.height bytes (no_pixels coder.registers states) mid read) white two in
    let four = subst (λ (r : Registers). CountsPlane p p.width p.height bytes (no_pixels r states) mid read) after.registers three in
    let five = subst (λ (s : List Context). CountsPlane p p.width p.height bytes (no_pixels (after_planes p bytes i).registers s) mid read) after.contexts four in
    planes-more p bytes i old mid read new before five taken

-- ---- with skipped pixels, or without
masked-begin : (p : GrayScale) (steps : Counts) → CountsMasked p 0 (0 * taking_loads p) steps steps
masked-begin p steps = record { decisions = omega arith; run_tests = refl; words = omega arith; loads = omega arith }

masked-more : (p : GrayScale) (i : ℕ) (old mid read new : Counts) → CountsMasked p i (i * taking_loads p) old mid → CountsSkipping p.skip_mask p.width p.height mid read → new ≡ after_lane_rows p.height p.width read → CountsMasked p (i + 1) ((i + 1) * taking_loads p) old new
masked-more p i old mid read new before one taken = record {
  decisions = rw (one-more i (kept_pixels p.skip_mask p.width p.height)) (omega (arith, before.decisions, one.decisions, ap (λ (c : Counts). c.decisions) taken));
  run_tests = ap (λ (c : Counts). c.run_tests) taken ∙ one.run_tests ∙ before.run_tests;
  words = rw (one-more i (p.height * skipping_words p.width)) (omega (arith, before.words, one.words, ap (λ (c : Counts). c.words) taken));
  loads = rw (one-more i (p.height * skipping_loads p.width), one-more i (taking_loads p)) (omega (arith, before.loads, one.loads, ap (λ (c : Counts). c.loads) taken));
}

-- ---- lanes
pub taken-none : (p : GrayScale) (steps : Counts) → TakesLanes p 0 steps steps
taken-none p steps =
    let rows : p.height * 0 ≡ 0 = omega arith in
    record { groups = rw rows (omega arith); pixels = rw rows (omega arith) }

pub taken-more : (p : GrayScale) (i : ℕ) (old mid read new : Counts) → TakesLanes p i old mid → read.groups ≡ mid.groups → read.pixels ≡ mid.pixels → new ≡ after_lane_rows p.height p.width read → TakesLanes p (i + 1) old new
taken-more p i old mid read new before groups pixels taken = record {
  groups = rw (rows p.height i (p.width / 8)) (omega (arith, before.groups, groups, ap (λ (c : Counts). c.groups) taken));
  pixels = rw (rows p.height i (p.width % 8)) (omega (arith, before.pixels, pixels, ap (λ (c : Counts). c.pixels) taken));
}
  where
    rows : (h i v : ℕ) → h * (i + 1) * v ≡ h * i * v + h * v
    rows h i v =
        let sum : h * (i + 1) ≡ h * i + h = omega arith in
        rw sum (add-mul (h * i) h v)

-- a plane that is read and not taken
pub taken-kept : (p : GrayScale) (i : ℕ) (old mid new : Counts) → TakesLanes p i old mid → new.groups ≡ mid.groups → new.pixels ≡ mid.pixels → TakesLanes p i old new
taken-kept p i old mid new before groups pixels = record { groups = groups ∙ before.groups; pixels = pixels ∙ before.pixels }

-- a plane that is made
pub taken-made : (n : ℕ) (p : GrayScale) (i : ℕ) (old mid made : Counts) → made ≡ words_cleared n mid → TakesLanes p i old mid → TakesLanes p i old made
taken-made n p i old mid made is before = taken-kept p i old mid made before (ap (λ (c : Counts). c.groups) is) (ap (λ (c : Counts). c.pixels) is)

-- the cleared words of no more planes than there are
pub cleared-most : (i bits n old mid new : ℕ) → i + 1 ≤ bits → mid ≡ old + i * n → new ≡ mid + n → new ≤ old + bits * n
cleared-most i bits n old mid new few before more =
    let all : (i + 1) * n ≤ bits * n = mul-le-mul_right n few in
    omega (arith, before, more, all, add-mul i 1 n)

pub cleared-some : (i bits n old mid : ℕ) → i ≤ bits → mid ≡ old + i * n → mid ≤ old + bits * n
cleared-some i bits n old mid few before =
    let all : i * n ≤ bits * n = mul-le-mul_right n few in
    omega (arith, before, all)

-- one plane more
pub cleared-more : (i n old mid new : ℕ) → mid ≡ old + i * n → new ≡ mid + n → new ≡ old + (i + 1) * n
cleared-more i n old mid new before more = omega (arith, before, more, add-mul i 1 n)

pub cleared-all : (i bits n old mid : ℕ) → i ≡ bits → mid ≡ old + i * n → mid ≡ old + bits * n
cleared-all i bits n old mid all before = before ∙ ap (λ (k : ℕ). old + k * n) all

pub cleared-begin : (n old : ℕ) → old ≡ old + 0 * n
cleared-begin n old = omega arith

-- ---- planes by the coder
pub counts-begin : (p : GrayScale) (bytes : List ℕ) (steps : Counts) → CountsCoded p bytes 0 steps steps
counts-begin p bytes steps = record { plain = λ _. planes-begin p bytes steps; masked = λ _. masked-begin p steps; lanes = taken-none p steps }

pub counts-more : (p : GrayScale) (bytes : List ℕ) (i : ℕ) (plane : Grid) (coder : Coder) (states : List Context) (old mid read new : Counts) → plane ≡ blank p.width p.height false → AfterPlanes p bytes i coder states
    → CountsCoded p bytes i old mid → CountsOne p plane.width plane.height coder.bytes (no_pixels coder.registers states) mid read → new ≡ after_lane_rows p.height p.width read → CountsCoded p bytes (i + 1) old new
counts-more p bytes i plane coder states old mid read new white after before one taken = record {
  plain = λ none. planes-next p bytes i plane coder states old mid read new white after (before.plain none) (one.plain none) taken;
  masked = λ some. masked-more p i old mid read new (before.masked some) (subst (λ (g : Grid). CountsSkipping p.skip_mask g.width g.height mid read) white (one.masked some)) taken;
  lanes = taken-more p i old mid read new before.lanes one.lanes.groups one.lanes.pixels taken;
}

-- a plane that is made takes no other step
no-words : (w h : ℕ) → w * h ≡ 0 → words_made w h ≡ 0
unfolding words_made
no-words w h none = either (ltb 65535 w || ltb 65535 h)
  where
    empty : (w h : ℕ) → w * h ≡ 0 → (w + 63) / 64 * h ≡ 0
    empty zero h none = omega arith
    empty (suc k) zero none = omega arith
    empty (suc k) (suc l) none = absurd (omega arith)

    either : (b : Bool) → (if b then 0 else (w + 63) / 64 * h) ≡ 0
    either true = refl
    either false = empty w h none

pub counts-made : (p : GrayScale) (bytes : List ℕ) (i : ℕ) (old mid made : Counts) → made ≡ bitmap_made p.width p.height mid → CountsCoded p bytes i old mid → CountsCoded p bytes i old made
counts-made p bytes i old mid made is before = record {
  plain = λ none.
      let b = before.plain none in
      record {
        empty = λ product. is ∙ sym (cleared-none mid (words_made p.width p.height) (no-words p.width p.height product)) ∙ b.empty product;
        decisions = λ some. ap (λ (c : Counts). c.decisions + 8 * plane_runs p bytes i) is ∙ b.decisions some;
        run_tests = omega (arith, b.run_tests, ap (λ (c : Counts). c.run_tests) is);
        words = omega (arith, b.words, ap (λ (c : Counts). c.words) is);
        loads = omega (arith, b.loads, ap (λ (c : Counts). c.loads) is);
      };
  masked = λ some.
      let b = before.masked some in
      record {
        decisions = ap (λ (c : Counts). c.decisions) is ∙ b.decisions;
        run_tests = ap (λ (c : Counts). c.run_tests) is ∙ b.run_tests;
        words = omega (arith, b.words, ap (λ (c : Counts). c.words) is);
        loads = omega (arith, b.loads, ap (λ (c : Counts). c.loads) is);
      };
  lanes = taken-made (words_made p.width p.height) p i old mid made is before.lanes;
}

-- nothing moved
moves-none : (most : ℕ) (steps : Counts) → MovesWithin most steps steps
moves-none most steps = record { moves = omega arith; decisions = refl; run_tests = refl }

-- no plane of those that are asked for
pub stops-none : (p : GrayScale) (bytes : List ℕ) (steps : Counts) → StopsImage p bytes steps steps
stops-none p bytes steps = (0, (omega arith, (0, (omega arith, record { plain = λ _ _. planes-begin p bytes steps; masked = λ _ _. masked-begin p steps; mmr = λ _. moves-none _ steps; lanes = taken-none p steps }))))

-- ---- planes by MMR
pub mmr-begin : (p : GrayScale) (all : ℕ) (steps : Counts) → MovesByMmr (words_of_plane p) 0 all all (0 * taking_loads p) steps steps
mmr-begin p all steps = record { moves = omega arith; decisions = refl; run_tests = refl }

pub mmr-start : (p : GrayScale) (all : ℕ) (steps : Counts) → MovesByMmr (words_of_plane p) 0 all all 0 steps steps
mmr-start p all steps = record { moves = omega arith; decisions = refl; run_tests = refl }

-- a plane that is made, before or after
pub moves-made : (n words i all left loads : ℕ) (old mid made : Counts) → made ≡ words_cleared n mid → MovesByMmr words i all left loads old mid → MovesByMmr words i all left loads old made
moves-made n words i all left loads old mid made is before = subst (λ (s : Counts). MovesByMmr words i all left loads old s) (sym is) (record { moves = before.moves; decisions = before.decisions; run_tests = before.run_tests })

pub moves-before : (n words i all left loads : ℕ) (old made new : Counts) → made ≡ words_cleared n old → MovesByMmr words i all left loads made new → MovesByMmr words i all left loads old new
moves-before n words i all left loads old made new is after =
    let here = subst (λ (s : Counts). MovesByMmr words i all left loads s new) is after in
    record { moves = here.moves; decisions = here.decisions; run_tests = here.run_tests }

-- one more, of the bytes that are left
pub mmr-then : (words i all left rest loads : ℕ) (old mid new : Counts) → MovesByMmr words i all left loads old mid → MovesByMmr words 1 left rest 0 mid new → MovesByMmr words (i + 1) all rest loads old new
mmr-then words i all left rest loads old mid new before one = record {
  moves = rw (one-more i words) (omega (arith, before.moves, one.moves));
  decisions = one.decisions ∙ before.decisions;
  run_tests = one.run_tests ∙ before.run_tests;
}

-- which is taken
pub mmr-more : (p : GrayScale) (i all left rest : ℕ) (old mid read new : Counts) → MovesByMmr (words_of_plane p) i all left (i * taking_loads p) old mid → MovesByMmr (words_of_plane p) 1 left rest 0 mid read → new ≡ after_lane_rows p.height p.width read
    → MovesByMmr (words_of_plane p) (i + 1) all rest ((i + 1) * taking_loads p) old new
mmr-more p i all left rest old mid read new before one taken =
    let both = mmr-then (words_of_plane p) i all left rest (i * taking_loads p) old mid read before one in
    record {
      moves = rw (one-more i (taking_loads p)) (omega (arith, both.moves, ap (λ (c : Counts). c.loads) taken, ap (λ (c : Counts). c.words) taken));
      decisions = ap (λ (c : Counts). c.decisions) taken ∙ both.decisions;
      run_tests = ap (λ (c : Counts). c.run_tests) taken ∙ both.run_tests;
    }

-- no more than all of them
pub mmr-some : (p : GrayScale) (bytes : List ℕ) (i left taken : ℕ) (old new : Counts) → i ≤ p.bits_per_pixel → MovesByMmr (words_of_plane p) i (length bytes) left (taken * taking_loads p) old new → TakesLanes p taken old new → CountsMmr p bytes taken old new
mmr-some p bytes i left taken old new few counts lanes = record {
  moves = record {
    moves = omega (arith, counts.moves, mul-le-mul_right {m = i} {n = p.bits_per_pixel} (words_of_plane p) few);
    decisions = counts.decisions;
    run_tests = counts.run_tests;
  };
  lanes = lanes;
}

pub mmr-all-counted : (p : GrayScale) (bytes : List ℕ) (i left : ℕ) (old new : Counts) → i ≡ p.bits_per_pixel → MovesByMmr (words_of_plane p) i (length bytes) left (i * taking_loads p) old new → TakesLanes p i old new → CountsMmr p bytes p.bits_per_pixel old new
mmr-all-counted p bytes i left old new all counts lanes = subst (λ (n : ℕ). CountsMmr p bytes n old new) all (mmr-some p bytes i left i old new (omega arith) counts lanes)

pub mmr-stopped : (p : GrayScale) (bytes : List ℕ) (i left : ℕ) (old new : Counts) → i ≤ p.bits_per_pixel → MovesByMmr (words_of_plane p) i (length bytes) left (i * taking_loads p) old new → TakesLanes p i old new → StopsMmr p bytes old new
mmr-stopped p bytes i left old new few counts lanes = (i, (few, mmr-some p bytes i left i old new few counts lanes))

-- a plane that is refused isn't taken
pub mmr-refused-after : (p : GrayScale) (bytes : List ℕ) (i left : ℕ) (old mid new : Counts) → i < p.bits_per_pixel → MovesByMmr (words_of_plane p) i (length bytes) left (i * taking_loads p) old mid → TakesLanes p i old mid → MovesByMmr (words_of_plane p) 1 left 0 0 mid new → new.groups ≡ mid.groups → new.pixels ≡ mid.pixels → StopsMmr p bytes old new
mmr-refused-after p bytes i left old mid new more counts lanes one groups pixels =
    (i, (omega arith, mmr-some p bytes (i + 1) 0 i old new (omega arith) (mmr-then (words_of_plane p) i (length bytes) left 0 (i * taking_loads p) old mid new counts one) (taken-kept p i old mid new lanes groups pixels)))

-- one plane
mmr-words : (p : GrayScale) (white : Grid) → white ≡ blank p.width p.height false → words_of white ≡ words_of_plane p
mmr-words p white is = ap words_of is

pub mmr-one : (p : GrayScale) (white : Grid) (bytes rest : List ℕ) (used : ℕ) (old new : Counts) → white ≡ blank p.width p.height false → used ≤ length bytes → rest ≡ drop used bytes → MovesWithin (3 * (words_of white + 8 * used)) old new → MovesByMmr (words_of_plane p) 1 (length bytes) (length rest) 0 old new
mmr-one p white bytes rest used old new is within others moves =
    let left : length rest ≡ length bytes - used = ap (λ (bs : List ℕ). length bs) others ∙ length-drop used bytes in
    record { moves = omega (arith, left, mmr-words p white is, moves.moves); decisions = moves.decisions; run_tests = moves.run_tests }

-- one that is refused
pub mmr-refused : (p : GrayScale) (white : Grid) (all : ℕ) (old new : Counts) → white ≡ blank p.width p.height false → MovesWithin (3 * (words_of white + 8 * all)) old new → MovesByMmr (words_of_plane p) 1 all 0 0 old new
mmr-refused p white all old new is moves = record { moves = omega (arith, mmr-words p white is, moves.moves); decisions = moves.decisions; run_tests = moves.run_tests }

-- planes are written in one way
clash : (b : Bool) → b ≡ true → b ≡ false → ⊥
clash b on off = cc

-- ---- images
pub mmr-read : (p : GrayScale) (bytes : List ℕ) (taken : ℕ) (old new : Counts) → p.use_mmr ≡ true → CountsMmr p bytes taken old new → CountsRead p bytes p.bits_per_pixel taken old new
mmr-read p bytes taken old new is counts = record { plain = λ coded _. absurd (clash p.use_mmr is coded); masked = λ coded _. absurd (clash p.use_mmr is coded); mmr = λ _. counts.moves; lanes = counts.lanes }

pub mmr-image : (p : GrayScale) (bytes : List ℕ) (old new : Counts) → p.use_mmr ≡ true → CountsMmr p bytes p.bits_per_pixel old new → CountsImage p bytes old new
mmr-image p bytes old new is counts = mmr-read p bytes p.bits_per_pixel old new is counts

pub mmr-stops : (p : GrayScale) (bytes : List ℕ) (old new : Counts) → p.use_mmr ≡ true → StopsMmr p bytes old new → StopsImage p bytes old new
mmr-stops p bytes old new is (taken, (few, counts)) = (p.bits_per_pixel, (omega arith, (taken, (few, mmr-read p bytes taken old new is counts))))

-- ---- planes that the coder wrote
pub coded-read : (p : GrayScale) (bytes : List ℕ) (count : ℕ) (old new : Counts) → p.use_mmr ≡ false → CountsCoded p bytes count old new → CountsRead p bytes count count old new
coded-read p bytes count old new coded counts = record { plain = λ _. counts.plain; masked = λ _. counts.masked; mmr = λ is. absurd (clash p.use_mmr is coded); lanes = counts.lanes }

-- this many of them
pub coded-some : (p : GrayScale) (bytes : List ℕ) (count : ℕ) (old new : Counts) → count ≤ p.bits_per_pixel → CountsCoded p bytes count old new → StopsCoded p bytes old new
coded-some p bytes count old new few counts = (count, (few, counts))

pub coded-stops : (p : GrayScale) (bytes : List ℕ) (old new : Counts) → p.use_mmr ≡ false → StopsCoded p bytes old new → StopsImage p bytes old new
coded-stops p bytes old new coded (count, (few, counts)) = (count, (few, (count, (omega arith, coded-read p bytes count old new coded counts))))

-- a plane of which no pixel is skipped
pub one-plain : (p : GrayScale) (mask : Option (Bor Grid)) (w h : ℕ) (bytes : List ℕ) (start : Region) (before after : Counts) → p.skip_mask ≡ skip_of mask → is_some mask ≡ false → CountsPlane p w h bytes start before after → CountsOne p w h bytes start before after
one-plain p mask w h bytes start before after is none counts = record {
  plain = λ _. counts;
  masked = λ some. absurd (no-some p.skip_mask (is ∙ no-mask mask none) some);
  lanes = counts.lanes;
}
  where
    no-some : (m : Option Grid) → m ≡ None → is_some m ≡ true → ⊥
    no-some None none some = cc
    no-some (Some x) none some = cc

-- a plane of which some may be
pub one-masked : (p : GrayScale) (mask : Option (Bor Grid)) (adaptive : List AdaptiveTemplatePixel) (w h : ℕ) (bytes : List ℕ) (start : Region) (before after : Counts) → p.skip_mask ≡ skip_of mask → is_some mask ≡ true → adaptive ≡ nominal_adaptive_pixels p.template
    → (is_nominal p.template adaptive ≡ true → CountsSkipping (skip_of mask) w h before after) → CountsOne p w h bytes start before after
one-masked p mask adaptive w h bytes start before after is some at counts =
    let here = counts (ap (λ (a : List AdaptiveTemplatePixel). is_nominal p.template a) at ∙ nominal p.template) in
    record {
      plain = λ none. absurd (some-mask mask some (sym is ∙ none));
      masked = λ _. subst (λ (m : Option Grid). CountsSkipping m w h before after) (sym is) here;
      lanes = here.lanes;
    }

-- what the values take beside the planes
pub image-lanes : (p : GrayScale) (bytes : List ℕ) (old new : Counts) → CountsImage p bytes old new → CountsLanes p old new
image-lanes p bytes old new counts =
    let rows : ℕ = p.height * p.bits_per_pixel in
    let rest : rows * (p.width % 8) ≤ rows * 7 = mul-le-mul_left {m = p.width % 8} {n = 7} rows (omega arith) in
    record { taken = counts.lanes; both = omega (arith, counts.lanes.groups, counts.lanes.pixels, rest) }

-- no step before the first plane
unfoldable pub NoneYet : ℕ → Counts → Counts → Type 0
NoneYet count old new = count ≡ 0 → new ≡ old

pub none-start : (old : Counts) → NoneYet 0 old old
unfolding NoneYet
none-start old = λ _. refl

pub none-more : (count : ℕ) (old new : Counts) → NoneYet (count + 1) old new
unfolding NoneYet
none-more count old new = λ never. absurd (omega arith)

pub none-left : (count : ℕ) (old new : Counts) → NoneYet count old new → count ≡ 0 → new ≡ old
unfolding NoneYet
none-left count old new none = none
