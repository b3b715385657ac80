-- One pixel more of a region.
use Rattle.std.proofs.Common.{length-append, set, subst, ◌≡◌, ℕ, ◌+◌, ◌*◌, ◌/◌, ◌%◌, ◌<◌, ◌≤◌, Bool, true, false, ◌&&◌, ◌||◌, not, cond, zero, suc, add-one, eqb, List, [], ◌∷◌, ◌++◌, length, get_or, Option, Some, None, IfSome, refl, sym, ap, ◌∙◌, ⊎_elim, arith}
use Rattle.std.proofs.Math.Seq.{get_or-append_seam}
use Rattle.std.proofs.Math.Bool.{or-false}
use Rattle.std.proofs.lemmas.Bool.{cases_eq, cases_lt, eq-eqb, ne_eqb, and_left, and_right}
use Rattle.std.proofs.lemmas.List.{get_or_append_left, get_or_past}
use Rattle.std.proofs.lemmas.Nat.{same_from_place, mod-mul-add, div-mul-add}
use Rattle.jbig2_base.specs.Grid.{Grid, grid_of, blank, pixel_at, differ}
use Rattle.jbig2_base.specs.Writes.{with_pixel}
use Rattle.jbig2_base.proofs.GridLemmas.{grid_of-ext, pixel_at-grid_of}
use Rattle.jbig2_base.specs.Bits.{bit_number}
use Rattle.jbig2_region.specs.Raster.{Coding, Region, so_far, with_next, after_pixel, after_ltp, no_pixels}
use Rattle.jbig2_region.specs.inner.Rows.{after_pixels, after_rows}
use Rattle.jbig2_region.specs.inner.RegionStates.{HasDecoded, BeginsRow, region_state}
use Rattle.jbig2_coder.specs.Coder.{Coder, Context, Decision, fresh, decision}

not_here : (b p q : Bool) → (p && q) ≡ false → (b && p && q) ≡ false
not_here false p q e = refl
not_here true p q e = e

here : (b p q : Bool) → p ≡ true → q ≡ true → (b && p && q) ≡ b
here false p q e f = refl
here true p q e f = rw (e, f)

-- another place than (x, y)
elsewhere : (w x y i j : ℕ) (b : Bool) → (j * w + i ≡ y * w + x → ⊥) → (b && eqb i x && eqb j y) ≡ false
elsewhere w x y i j b other =
    not_here b (eqb i x) (eqb j y)
    (⊎_elim
    (λ (row : j ≡ y). and_left (eqb i x) (eqb j y) (ne_eqb i x (λ e. other (ap (λ (n : ℕ). n * w + i) row ∙ ap (λ (n : ℕ). y * w + n) e))))
    (λ (ne : j ≡ y → ⊥). and_right (eqb i x) (eqb j y) (ne_eqb j y ne))
    (cases_eq j y))

-- at each place: one bit more
pushed : (w : ℕ) (bits : List Bool) (x y i j : ℕ) (b : Bool) → length bits ≡ y * w + x → x < w → i < w → (get_or bits (j * w + i) false || (b && eqb i x && eqb j y)) ≡ get_or (bits ++ b ∷ []) (j * w + i) false
pushed w bits x y i j b len left inside =
    ⊎_elim
    (λ (same : j * w + i ≡ y * w + x).
    let place : (j ≡ y) × (i ≡ x) = same_from_place j i y x w inside left same in
    let at : j * w + i ≡ length bits = same ∙ sym len in
    rw (get_or_past bits (j * w + i) false (omega arith), here b (eqb i x) (eqb j y) (eq-eqb i x place.1) (eq-eqb j y place.0), at, get_or-append_seam bits b [] false))
    (λ (other : j * w + i ≡ y * w + x → ⊥).
    rw (elsewhere w x y i j b other, or-false (get_or bits (j * w + i) false))
    (⊎_elim
    (λ (less : j * w + i < length bits). sym (get_or_append_left bits (b ∷ []) false (j * w + i) less))
    (λ (more : length bits ≤ j * w + i).
    get_or_past bits (j * w + i) false more ∙ sym (get_or_past (bits ++ b ∷ []) (j * w + i) false (longer bits b (j * w + i) more (λ e. other (sym e ∙ len)))))
    (cases_lt (j * w + i) (length bits))))
    (cases_eq (j * w + i) (y * w + x))
  where
    above : (n k : ℕ) → n ≤ k → (n ≡ k → ⊥) → n + 1 ≤ k
    above n k le ne = omega arith

    longer : (bits : List Bool) (b : Bool) (k : ℕ) → length bits ≤ k → (length bits ≡ k → ⊥) → length (bits ++ b ∷ []) ≤ k
    longer bits b k le ne = rw (length-append bits (b ∷ [])) (above (length bits) k le ne)

pub so_far-push : (w h : ℕ) (bits : List Bool) (x y : ℕ) (b : Bool) → length bits ≡ y * w + x → x < w → y < h → with_pixel (so_far w h bits) x y b ≡ so_far w h (bits ++ b ∷ [])
unfolding so_far
so_far-push w h bits x y b len left above =
    grid_of-ext w h (λ i j. pixel_at (grid_of w h (λ i j. get_or bits (j * w + i) false)) i j || (b && eqb i x && eqb j y)) (λ i j. get_or (bits ++ b ∷ []) (j * w + i) false)
    (λ i j il jl.
    ap (λ (t : Bool). t || (b && eqb i x && eqb j y)) (pixel_at-grid_of w h (λ i j. get_or bits (j * w + i) false) i j il jl)
    ∙ pushed w bits x y i j b len left il)

-- the next pixel, said by its column and its row
pub after_pixel-at : (coding : Coding) (w h : ℕ) (input : List ℕ) (r : Region) (grid : Grid) (p : Bool) (x y : ℕ) → length r.pixels ≡ y * w + x → x < w → r.predicted ≡ p → grid ≡ so_far w h r.pixels → after_pixel coding w h input r ≡ with_next input r (coding.context grid x y) (coding.known p grid x y)
unfolding after_pixel
after_pixel-at coding w h input r grid p x y len left predicted same =
    let column : length r.pixels % w ≡ x = ap (λ (n : ℕ). n % w) len ∙ mod-mul-add y w x left in
    let row : length r.pixels / w ≡ y = ap (λ (n : ℕ). n / w) len ∙ div-mul-add y w x left in
    rw (column, row, predicted, ← same)

pub HasDecoded-known : (coding : Coding) (w h : ℕ) (input : List ℕ) (r : Region) (grid after : Grid) (coder : Coder) (states : List Context) (x y : ℕ) (p colour : Bool) → length r.pixels ≡ y * w + x → x < w → y < h → r.predicted ≡ p → coding.known p grid x y ≡ Some colour → after ≡ with_pixel grid x y colour → HasDecoded w h input r (region_state grid coder states) → HasDecoded w h input (after_pixel coding w h input r) (region_state after coder states)
unfolding with_next
HasDecoded-known coding w h input r grid after coder states x y p colour len left above predicted is_known written has_decoded =
    let made : after_pixel coding w h input r ≡ with_next input r (coding.context grid x y) (Some colour) =
    after_pixel-at coding w h input r grid p x y len left predicted has_decoded.pixels ∙ ap (λ (k : Option Bool). with_next input r (coding.context grid x y) k) is_known in
    subst (λ (n : Region). HasDecoded w h input n (region_state after coder states)) (sym made)
    (record {
      pixels = written ∙ ap (λ (g : Grid). with_pixel g x y colour) has_decoded.pixels ∙ so_far-push w h r.pixels x y colour len left above;
      bytes = has_decoded.bytes;
      registers = has_decoded.registers;
      contexts = has_decoded.contexts;
    })

pub HasDecoded-decided : (coding : Coding) (w h : ℕ) (input : List ℕ) (r : Region) (grid after : Grid) (coder next : Coder) (states : List Context) (x y k : ℕ) (p : Bool) (old new : Context) → length r.pixels ≡ y * w + x → x < w → y < h → r.predicted ≡ p → coding.known p grid x y ≡ None → k ≡ coding.context grid x y → old ≡ get_or states k fresh → after ≡ with_pixel grid x y (decision coder.bytes coder.registers old).symbol → next ≡ record coder { registers = (decision coder.bytes coder.registers old).registers } → new ≡ (decision coder.bytes coder.registers old).context → HasDecoded w h input r (region_state grid coder states) → HasDecoded w h input (after_pixel coding w h input r) (region_state after next (set states k new))
unfolding with_next
HasDecoded-decided coding w h input r grid after coder next states x y k p old new len left above predicted is_open is_context is_old written is_next is_new has_decoded =
    let made : after_pixel coding w h input r ≡ with_next input r (coding.context grid x y) None =
    after_pixel-at coding w h input r grid p x y len left predicted has_decoded.pixels ∙ ap (λ (c : Option Bool). with_next input r (coding.context grid x y) c) is_open in
    let d : Decision = decision coder.bytes coder.registers old in
    let e : Decision = decision input r.registers (get_or r.contexts (coding.context grid x y) fresh) in
    let context : old ≡ get_or r.contexts (coding.context grid x y) fresh = is_old ∙ ap (λ (n : ℕ). get_or states n fresh) is_context ∙ ap (λ (s : List Context). get_or s (coding.context grid x y) fresh) has_decoded.contexts in
    let same : d ≡ e = ap (λ (b : List ℕ). decision b coder.registers old) has_decoded.bytes ∙ ap (λ q. decision input q old) has_decoded.registers ∙ ap (λ (c : Context). decision input r.registers c) context in
    subst (λ (n : Region). HasDecoded w h input n (region_state after next (set states k new))) (sym made)
    (record {
      pixels = written ∙ ap (λ (g : Grid). with_pixel g x y d.symbol) has_decoded.pixels ∙ so_far-push w h r.pixels x y d.symbol len left above ∙ ap (λ (q : Decision). so_far w h (r.pixels ++ q.symbol ∷ [])) same;
      bytes = ap (λ (c : Coder). c.bytes) is_next ∙ has_decoded.bytes;
      registers = ap (λ (c : Coder). c.registers) is_next ∙ ap (λ (q : Decision). q.registers) same;
      contexts = ap (λ (n : Context). set states k n) (is_new ∙ ap (λ (q : Decision). q.context) same) ∙ ap (λ (n : ℕ). set states n e.context) is_context ∙ ap (λ (s : List Context). set s (coding.context grid x y) e.context) has_decoded.contexts;
    })

-- a decision's digit as a colour
pub digit-colour : (b : Bool) (n : ℕ) → n ≡ bit_number b → eqb n 1 ≡ b
digit-colour true n e = rw e
digit-colour false n e = rw e

-- ---- the decision that begins a row
pub opening-plainly : (w h : ℕ) (row_context : Option ℕ) (r : Region) (p : Bool) (grid : Grid) (coder : Coder) (states : List Context) → row_context ≡ None → r.predicted ≡ p → HasDecoded w h coder.bytes r (region_state grid coder states) → BeginsRow w h row_context r p coder (region_state grid coder states)
unfolding after_ltp
opening-plainly w h row_context r p grid coder states none predicted has_decoded = rw none (record { has_decoded = has_decoded; predicted = predicted })

turned : (symbol p : Bool) → differ symbol p ≡ cond symbol (not p) p
turned true p = refl
turned false p = refl

pub opening-decided : (w h : ℕ) (row_context : Option ℕ) (r : Region) (p symbol after : Bool) (grid : Grid) (coder next : Coder) (states : List Context) (k : ℕ) (old new : Context) → row_context ≡ Some k → r.predicted ≡ p → old ≡ get_or states k fresh → (decision coder.bytes coder.registers old).symbol ≡ symbol → after ≡ cond symbol (not p) p → next ≡ record coder { registers = (decision coder.bytes coder.registers old).registers } → new ≡ (decision coder.bytes coder.registers old).context → HasDecoded w h coder.bytes r (region_state grid coder states) → BeginsRow w h row_context r after coder (region_state grid next (set states k new))
unfolding after_ltp
opening-decided w h row_context r p symbol after grid coder next states k old new some predicted is_old is_symbol is_after is_next is_new has_decoded =
    let d : Decision = decision coder.bytes coder.registers old in
    let e : Decision = decision coder.bytes r.registers (get_or r.contexts k fresh) in
    let context : old ≡ get_or r.contexts k fresh = is_old ∙ ap (λ (s : List Context). get_or s k fresh) has_decoded.contexts in
    let same : d ≡ e = ap (λ q. decision coder.bytes q old) has_decoded.registers ∙ ap (λ (c : Context). decision coder.bytes r.registers c) context in
    rw some (record {
      has_decoded = record {
        pixels = has_decoded.pixels;
        bytes = ap (λ (c : Coder). c.bytes) is_next;
        registers = ap (λ (c : Coder). c.registers) is_next ∙ ap (λ (q : Decision). q.registers) same;
        contexts = ap (λ (n : Context). set states k n) (is_new ∙ ap (λ (q : Decision). q.context) same) ∙ ap (λ (s : List Context). set s k e.context) has_decoded.contexts;
      };
      predicted = ap (λ (b : Bool). differ b r.predicted) (sym (ap (λ (q : Decision). q.symbol) same) ∙ is_symbol) ∙ ap (λ (b : Bool). differ symbol b) predicted ∙ turned symbol p ∙ sym is_after;
    })

pub some-inside : (row_context : Option ℕ) (k n : ℕ) → row_context ≡ Some k → IfSome row_context (λ (k : ℕ). k < n) → k < n
some-inside row_context k n is inside = rw is at inside

-- ---- several pixels and rows
pub with_next-length : (input : List ℕ) (r : Region) (k : ℕ) (c : Option Bool) → length (with_next input r k c).pixels ≡ length r.pixels + 1
unfolding with_next
with_next-length input r k (Some colour) = length-append r.pixels (colour ∷ [])
with_next-length input r k None = length-append r.pixels ((decision input r.registers (get_or r.contexts k fresh)).symbol ∷ [])

pub with_next-predicted : (input : List ℕ) (r : Region) (k : ℕ) (c : Option Bool) → (with_next input r k c).predicted ≡ r.predicted
unfolding with_next
with_next-predicted input r k (Some colour) = refl
with_next-predicted input r k None = refl

pub after_pixels-length : (coding : Coding) (w h : ℕ) (input : List ℕ) (n : ℕ) (r : Region) → length (after_pixels coding w h input n r).pixels ≡ length r.pixels + n
unfolding after_pixels after_pixel
after_pixels-length coding w h input zero r = omega arith
after_pixels-length coding w h input (suc n) r = with_next-length input _ _ _ ∙ ap (λ (k : ℕ). k + 1) (after_pixels-length coding w h input n r) ∙ omega arith

pub after_pixels-predicted : (coding : Coding) (w h : ℕ) (input : List ℕ) (n : ℕ) (r : Region) → (after_pixels coding w h input n r).predicted ≡ r.predicted
unfolding after_pixels after_pixel
after_pixels-predicted coding w h input zero r = refl
after_pixels-predicted coding w h input (suc n) r = with_next-predicted input _ _ _ ∙ after_pixels-predicted coding w h input n r

pub after_pixels-one : (coding : Coding) (w h : ℕ) (input : List ℕ) (n : ℕ) (r : Region) → after_pixels coding w h input (n + 1) r ≡ after_pixel coding w h input (after_pixels coding w h input n r)
unfolding after_pixels
after_pixels-one coding w h input n r = rw add-one

pub after_pixels-none : (coding : Coding) (w h : ℕ) (input : List ℕ) (r : Region) → after_pixels coding w h input 0 r ≡ r
unfolding after_pixels
after_pixels-none coding w h input r = refl

pub after_pixels-add : (coding : Coding) (w h : ℕ) (input : List ℕ) (n m : ℕ) (r : Region) → after_pixels coding w h input (n + m) r ≡ after_pixels coding w h input m (after_pixels coding w h input n r)
unfolding after_pixels
after_pixels-add coding w h input n zero r =
    let same : n + 0 ≡ n = omega arith in
    ap (λ (k : ℕ). after_pixels coding w h input k r) same
after_pixels-add coding w h input n (suc m) r =
    let next : n + suc m ≡ suc (n + m) = omega arith in
    ap (λ (k : ℕ). after_pixels coding w h input k r) next ∙ ap (λ (q : Region). after_pixel coding w h input q) (after_pixels-add coding w h input n m r)

pub after_ltp-pixels : (row_context : Option ℕ) (input : List ℕ) (r : Region) → (after_ltp row_context input r).pixels ≡ r.pixels
unfolding after_ltp
after_ltp-pixels None input r = refl
after_ltp-pixels (Some k) input r = refl

pub after_rows-one : (coding : Coding) (w h : ℕ) (input : List ℕ) (n : ℕ) (r : Region) → after_rows coding w h input (n + 1) r ≡ after_pixels coding w h input w (after_ltp coding.row_context input (after_rows coding w h input n r))
unfolding after_rows
after_rows-one coding w h input n r = rw add-one

pub after_rows-length : (coding : Coding) (w h : ℕ) (input : List ℕ) (n : ℕ) (r : Region) → length r.pixels ≡ 0 → length (after_ltp coding.row_context input (after_rows coding w h input n r)).pixels ≡ n * w
unfolding after_rows
after_rows-length coding w h input zero r none = ap length (after_ltp-pixels coding.row_context input r) ∙ none ∙ omega arith
after_rows-length coding w h input (suc n) r none =
    ap length (after_ltp-pixels coding.row_context input _) ∙ after_pixels-length coding w h input w _ ∙ ap (λ (k : ℕ). k + w) (after_rows-length coding w h input n r none) ∙ omega arith

pub blank-so_far : (w h : ℕ) → blank w h false ≡ so_far w h []
unfolding so_far
blank-so_far w h = refl

pub digit-black : (b : Bool) (n : ℕ) → n ≡ bit_number b → n ≡ 1 → b ≡ true
digit-black true n e one = refl
digit-black false n e one = absurd (omega arith)

pub digit-white : (b : Bool) (n : ℕ) → n ≡ bit_number b → (n ≡ 1 → ⊥) → b ≡ false
digit-white true n e other = absurd (other e)
digit-white false n e other = refl

-- ---- the loops
-- steps of this many pixels, and what they make of a bitmap of another size's name
abbrev PixelSteps : Coding → ℕ → ℕ → Bool → Grid → Coder → List Context → Grid → Coder → List Context → ℕ → ℕ → List ℕ → Type 0
PixelSteps coding n y p grid coder states grid' coder' states' w h input =
    (r : Region) → length r.pixels ≡ y * w → r.predicted ≡ p → HasDecoded w h input r (region_state grid coder states) → HasDecoded w h input (after_pixels coding w h input n r) (region_state grid' coder' states')

pub region-step : (coding : Coding) (y : ℕ) (p q : Bool) (g1 : Grid) (c1 : Coder) (s1 : List Context) (c2 : Coder) (s2 : List Context) (g3 : Grid) (c3 : Coder) (s3 : List Context) (start : Region) (w h : ℕ) (input : List ℕ) (w' h' : ℕ)
    → w' ≡ w → h' ≡ h → c1.bytes ≡ input → c2.bytes ≡ c1.bytes → length start.pixels ≡ 0
    → ((w h : ℕ) (g : Grid) (r : Region) → r.predicted ≡ p → HasDecoded w h c1.bytes r (region_state g c1 s1) → BeginsRow w h coding.row_context r q c1 (region_state g c2 s2))
    → PixelSteps coding w' y q g1 c2 s2 g3 c3 s3 w' h' c2.bytes
    → HasDecoded w h input (after_rows coding w h input y start) (region_state g1 c1 s1) → (after_rows coding w h input y start).predicted ≡ p
    → HasDecoded w h input (after_rows coding w h input (y + 1) start) (region_state g3 c3 s3) × ((after_rows coding w h input (y + 1) start).predicted ≡ q)
region-step coding y p q g1 c1 s1 c2 s2 g3 c3 s3 start w h input w' h' ew eh ei es none begin steps has_decoded predicted =
    let made : Region = after_rows coding w h input y start in
    let opening : Region = after_ltp coding.row_context input made in
    let row : BeginsRow w h coding.row_context made q c1 (region_state g1 c2 s2) = begin w h g1 made predicted (subst (λ (v : List ℕ). HasDecoded w h v made (region_state g1 c1 s1)) (sym ei) has_decoded) in
    let opening_holds : HasDecoded w h input opening (region_state g1 c2 s2) = subst (λ (v : List ℕ). HasDecoded w h v (after_ltp coding.row_context v made) (region_state g1 c2 s2)) ei row.has_decoded in
    let opening_predicted : opening.predicted ≡ q = subst (λ (v : List ℕ). (after_ltp coding.row_context v made).predicted ≡ q) ei row.predicted in
    let one = subst (λ (v : ℕ). PixelSteps coding v y q g1 c2 s2 g3 c3 s3 v h' c2.bytes) ew steps in
    let two = subst (λ (v : ℕ). PixelSteps coding w y q g1 c2 s2 g3 c3 s3 w v c2.bytes) eh one in
    let here = subst (λ (v : List ℕ). PixelSteps coding w y q g1 c2 s2 g3 c3 s3 w h v) (es ∙ ei) two in (
      subst (λ (n : Region). HasDecoded w h input n (region_state g3 c3 s3)) (sym (after_rows-one coding w h input y start)) (here opening (after_rows-length coding w h input y start none) opening_predicted opening_holds),
      ap (λ (n : Region). n.predicted) (after_rows-one coding w h input y start) ∙ after_pixels-predicted coding w h input w opening ∙ opening_predicted,
    )

pub region-start : (w h : ℕ) (grid : Grid) (coder : Coder) (states : List Context) → grid ≡ blank w h false → HasDecoded w h coder.bytes (no_pixels coder.registers states) (region_state grid coder states)
region-start w h grid coder states white = record { pixels = white ∙ blank-so_far w h; bytes = refl; registers = refl; contexts = refl }

pub after_rows-none : (coding : Coding) (w h : ℕ) (input : List ℕ) (r : Region) → after_rows coding w h input 0 r ≡ r
unfolding after_rows
after_rows-none coding w h input r = refl

pub no-rows : (w h y : ℕ) → (w ≡ 0 → ⊥) → y ≡ h → w * h ≡ 0 → y ≡ 0
no-rows zero h y some all product = absurd (some refl)
no-rows (suc w) zero y some all product = all
no-rows (suc w) (suc h) y some all product =
    let more : suc w * suc h ≡ suc (w * suc h + h) = omega arith in
    absurd (omega (arith, more, product))
