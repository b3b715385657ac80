-- A region is made by its decisions, which are the coder's answers.
use Rattle.std.proofs.Common.{◌≡◌, ℕ, zero, suc, ◌+◌, ◌*◌, ◌/◌, ◌%◌, ◌<◌, eqb, Bool, true, false, cond, List, [], ◌∷◌, ◌++◌, length, get_or, set, Option, Some, None, refl, sym, ◌∙◌, ap, subst, arith, length-append}
use Rattle.std.proofs.lemmas.List.{length_push, get_or_append_left, get_or_at}
use Rattle.jbig2_base.specs.Grid.{differ}
use Rattle.jbig2_coder.specs.Coder.{Context, Decision, Registers, decision, fresh}
use Rattle.jbig2_region.specs.Raster.{Coding, Region, so_far, with_next, after_ltp, at_next, after_pixel, first_pixels, decoded_region, no_pixels}
use Rattle.jbig2_second_forms.specs.RasterDecisions.{Seen, with_ltp, at_row, with_colour, with_decided_pixel, seen_after, answers, decision_in, RegionsAreOfDecisions}

pub record Coder : Type 0 where
  pub registers : Registers
  pub contexts : List Context

module _ (bytes : List ℕ) where
  abbrev ask : Coder → ℕ → Decision
  ask z k = decision bytes z.registers (get_or z.contexts k fresh)

  abbrev asked_once : Coder → ℕ → Coder
  asked_once z k = record { registers = (ask z k).registers; contexts = set z.contexts k (ask z k).context }

  abbrev coder_after : Coder → List ℕ → Coder
  coder_after z [] = z
  coder_after z (k ∷ asked) = coder_after (asked_once z k) asked

  abbrev answer : Coder → List ℕ → List Bool
  answer z asked = answers bytes z.registers z.contexts asked

  after-last : (z : Coder) (asked : List ℕ) (k : ℕ) → coder_after z (asked ++ k ∷ []) ≡ asked_once (coder_after z asked) k
  after-last z [] k = refl
  after-last z (j ∷ asked) k = after-last (asked_once z j) asked k

  answer-last : (z : Coder) (asked : List ℕ) (k : ℕ) → answer z (asked ++ k ∷ []) ≡ answer z asked ++ (ask (coder_after z asked) k).symbol ∷ []
  answer-last z [] k = refl
  answer-last z (j ∷ asked) k = ap (λ (ds : List Bool). (ask z j).symbol ∷ ds) (answer-last (asked_once z j) asked k)

  answer-length : (z : Coder) (asked : List ℕ) → length (answer z asked) ≡ length asked
  answer-length z [] = refl
  answer-length z (j ∷ asked) = ap (λ (n : ℕ). suc n) (answer-length (asked_once z j) asked)

module _ (coding : Coding) (w h : ℕ) (bytes : List ℕ) (start : Coder) where
  abbrev answered : List ℕ → List Bool
  answered asked = answer bytes start asked

  -- decisions that begin as the coder answers
  abbrev Begins : List ℕ → (ℕ → Bool) → Type 0
  Begins asked f = (i : ℕ) → i < length asked → f i ≡ get_or (answered asked) i false

  -- a region whose decisions were asked in these contexts
  pub record Follows (seen : (ℕ → Bool) → Seen) (r : Region) : Type 0 where
    pub asked : List ℕ
    pub coder : coder_after bytes start asked ≡ record { registers = r.registers; contexts = r.contexts }
    pub same : (f : ℕ → Bool) → Begins asked f → seen f ≡ record { pixels = r.pixels; predicted = r.predicted; asked = asked }

  -- what holds of one decision more
  begins-before : (asked : List ℕ) (k : ℕ) (f : ℕ → Bool) → Begins (asked ++ k ∷ []) f → Begins asked f
  begins-before asked k f begins i inside =
      let size : length (asked ++ k ∷ []) ≡ length asked + 1 = length-append asked (k ∷ []) in
      begins i (omega (arith, size, inside))
      ∙ ap (λ (ds : List Bool). get_or ds i false) (answer-last bytes start asked k)
      ∙ get_or_append_left (answered asked) _ false i (let e = answer-length bytes start asked in omega (arith, e, inside))

  begins-next : (asked : List ℕ) (k : ℕ) (f : ℕ → Bool) → Begins (asked ++ k ∷ []) f → f (length asked) ≡ (ask bytes (coder_after bytes start asked) k).symbol
  begins-next asked k f begins =
      let size : length (asked ++ k ∷ []) ≡ length asked + 1 = length-append asked (k ∷ []) in
      begins (length asked) (omega (arith, size))
      ∙ ap (λ (ds : List Bool). get_or ds (length asked) false) (answer-last bytes start asked k)
      ∙ get_or_at (answered asked) (ask bytes (coder_after bytes start asked) k).symbol [] false (length asked) (answer-length bytes start asked)

  -- a decision in this context, in a region that follows
  abbrev decided : Region → ℕ → Decision
  decided r k = decision bytes r.registers (get_or r.contexts k fresh)

  coder-next : (asked : List ℕ) (k : ℕ) (r : Region) → coder_after bytes start asked ≡ record { registers = r.registers; contexts = r.contexts }
      → coder_after bytes start (asked ++ k ∷ []) ≡ record { registers = (decided r k).registers; contexts = set r.contexts k (decided r k).context }
  coder-next asked k r is = after-last bytes start asked k ∙ ap (λ (z : Coder). asked_once bytes z k) is

  symbol-next : (asked : List ℕ) (k : ℕ) (r : Region) (f : ℕ → Bool) → coder_after bytes start asked ≡ record { registers = r.registers; contexts = r.contexts } → Begins (asked ++ k ∷ []) f → f (length asked) ≡ (decided r k).symbol
  symbol-next asked k r f is begins = begins-next asked k f begins ∙ ap (λ (z : Coder). (ask bytes z k).symbol) is

  -- ---- a row begins
  ltp-follows : (o : Option ℕ) (seen : (ℕ → Bool) → Seen) (r : Region) → Follows seen r → Follows (λ f. with_ltp coding w h f o (seen f)) (after_ltp o bytes r)
  unfolding after_ltp
  ltp-follows None seen r is = is
  ltp-follows (Some k) seen r is = record {
    asked = is.asked ++ k ∷ [];
    coder = coder-next is.asked k r is.coder;
    same = λ f begins.
        ap (λ (s : Seen). with_ltp coding w h f (Some k) s) (is.same f (begins-before is.asked k f begins))
        ∙ ap (λ (b : Bool). record { pixels = r.pixels; predicted = differ b r.predicted; asked = is.asked ++ k ∷ [] }) (symbol-next is.asked k r f is.coder begins);
  }

  row-follows : (n : ℕ) (b : Bool) (seen : (ℕ → Bool) → Seen) (r : Region) → Follows seen r → Follows (λ f. cond b (with_ltp coding w h f coding.row_context (seen f)) (seen f)) (cond b (after_ltp coding.row_context bytes r) r)
  row-follows n true seen r is = ltp-follows coding.row_context seen r is
  row-follows n false seen r is = is

  -- ---- a pixel
  colour-follows : (k : ℕ) (o : Option Bool) (seen : (ℕ → Bool) → Seen) (r : Region) → Follows seen r → Follows (λ f. with_colour coding w h f k o (seen f)) (with_next bytes r k o)
  unfolding with_next
  colour-follows k (Some colour) seen r is = record {
    asked = is.asked;
    coder = is.coder;
    same = λ f begins. ap (λ (s : Seen). with_colour coding w h f k (Some colour) s) (is.same f begins);
  }
  colour-follows k None seen r is = record {
    asked = is.asked ++ k ∷ [];
    coder = coder-next is.asked k r is.coder;
    same = λ f begins.
        ap (λ (s : Seen). with_colour coding w h f k None s) (is.same f (begins-before is.asked k f begins))
        ∙ ap (λ (b : Bool). record { pixels = r.pixels ++ b ∷ []; predicted = r.predicted; asked = is.asked ++ k ∷ [] }) (symbol-next is.asked k r f is.coder begins);
  }

  -- the context and the known colour are those of the pixels so far
  pixel-follows : (n : ℕ) (seen : (ℕ → Bool) → Seen) (r : Region) → Follows seen r → length r.pixels ≡ n → Follows (λ f. with_decided_pixel coding w h f n (seen f)) (after_pixel coding w h bytes r)
  unfolding after_pixel colour-follows
  pixel-follows n seen r is count =
      let g = so_far w h r.pixels in
      let k : ℕ → ℕ = λ m. coding.context g (m % w) (m / w) in
      let o : ℕ → Option Bool = λ m. coding.known r.predicted g (m % w) (m / w) in
      let made = colour-follows (k n) (o n) seen r is in
      record {
        asked = made.asked;
        coder = made.coder ∙ ap (λ (m : ℕ). let q = with_next bytes r (k m) (o m) in let z : Coder = record { registers = q.registers; contexts = q.contexts } in z) (sym count);
        same = λ f begins.
            ap (λ (s : Seen). with_decided_pixel coding w h f n s) (is.same f (earlier (o n) (k n) f begins))
            ∙ sym (ap (λ (s : Seen). with_colour coding w h f (k n) (o n) s) (is.same f (earlier (o n) (k n) f begins)))
            ∙ made.same f begins
            ∙ ap (λ (m : ℕ). let q = with_next bytes r (k m) (o m) in let s : Seen = record { pixels = q.pixels; predicted = q.predicted; asked = made.asked } in s) (sym count);
      }
    where
      earlier : (o : Option Bool) (k : ℕ) (f : ℕ → Bool) → Begins (colour-follows k o seen r is).asked f → Begins is.asked f
      earlier (Some colour) k f begins = begins
      earlier None k f begins = begins-before is.asked k f begins

  -- ---- the raster
  length-next : (r : Region) (k : ℕ) (o : Option Bool) → length (with_next bytes r k o).pixels ≡ length r.pixels + 1
  unfolding with_next
  length-next r k (Some colour) = length_push r.pixels colour
  length-next r k None = length_push r.pixels (decided r k).symbol

  length-ltp : (o : Option ℕ) (r : Region) → (after_ltp o bytes r).pixels ≡ r.pixels
  unfolding after_ltp
  length-ltp None r = refl
  length-ltp (Some k) r = refl

  length-row : (b : Bool) (r : Region) → (cond b (after_ltp coding.row_context bytes r) r).pixels ≡ r.pixels
  length-row true r = length-ltp coding.row_context r
  length-row false r = refl

  abbrev first : ℕ → Region
  first n = first_pixels coding w h bytes (no_pixels start.registers start.contexts) n

  length-first : (n : ℕ) → length (first n).pixels ≡ n
  unfolding first_pixels at_next after_pixel
  length-first zero = refl
  length-first (suc n) =
      let r = first n in
      let begun = cond (eqb (length r.pixels % w) 0) (after_ltp coding.row_context bytes r) r in
      let m = length begun.pixels in
      let g = so_far w h begun.pixels in
      let one = length-next begun (coding.context g (m % w) (m / w)) (coding.known begun.predicted g (m % w) (m / w)) in
      let row : length begun.pixels ≡ length r.pixels = ap (λ (px : List Bool). length px) (length-row (eqb (length r.pixels % w) 0) r) in
      let before = length-first n in
      omega (arith, one, row, before)

  raster-follows : (n : ℕ) → Follows (λ f. seen_after coding w h f n) (first n)
  unfolding first_pixels seen_after at_next
  raster-follows zero = record { asked = []; coder = refl; same = λ f begins. refl }
  raster-follows (suc n) =
      let r = first n in
      let count = length-first n in
      let begun : ℕ → Region = λ m. cond (eqb (m % w) 0) (after_ltp coding.row_context bytes r) r in
      let row = row-follows n (eqb (n % w) 0) (λ f. seen_after coding w h f n) r (raster-follows n) in
      let size : length (begun n).pixels ≡ n = ap (λ (px : List Bool). length px) (length-row (eqb (n % w) 0) r) ∙ count in
      let next = pixel-follows n (λ f. at_row coding w h f n (seen_after coding w h f n)) (begun n) row size in
      subst (λ (m : ℕ). Follows (λ f. seen_after coding w h f (suc n)) (after_pixel coding w h bytes (begun m))) (sym count) next

pub regions_are_of_decisions : RegionsAreOfDecisions
unfolding decoded_region
regions_are_of_decisions coding w h bytes registers contexts =
    let start : Coder = record { registers = registers; contexts = contexts } in
    let is = raster-follows coding w h bytes start (w * h) in
    let decisions = answer bytes start is.asked in
    let same = is.same (decision_in decisions) (λ i inside. refl) in
    record {
      decisions = decisions;
      answered = ap (λ (s : Seen). answer bytes start s.asked) same;
      pixels = sym (ap (λ (s : Seen). s.pixels) same);
    }
