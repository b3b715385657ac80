-- Stretches of rows, decoded pixel by pixel, with their decisions.
use Rattle.std.proofs.Common.{set, subst, ◌≡◌, ℕ, zero, suc, ◌+◌, ◌*◌, ◌/◌, ◌%◌, ◌<◌, Bool, List, length, get_or, add-one, Option, Some, None, is_none, refl, sym, ap, ◌∙◌, arith}
use Rattle.std.proofs.lemmas.Nat.{mod-mul-add, div-mul-add}
use Rattle.jbig2_base.specs.Counts.{Counts}
use Rattle.jbig2_base.specs.Grid.{Grid}
use Rattle.jbig2_base.specs.Writes.{with_pixel, with_pixels}
use Rattle.jbig2_base.specs.Bits.{bit_number}
use Rattle.jbig2_coder.specs.Coder.{Coder, Context, decision, fresh}
use Rattle.jbig2_region.specs.Steps.{takes_decision}
use Rattle.jbig2_region.specs.inner.RowCounts.{decided_pixels}
use Rattle.jbig2_region.specs.inner.DecodedPixels.{DecodesPart, CountsPart, TakesPixel}
use Rattle.jbig2_region.specs.inner.RegionStates.{HasDecoded, counted_decoder, region_state}
use Rattle.jbig2_region.specs.Raster.{Coding, Region, after_pixel}
use Rattle.jbig2_region.specs.inner.Rows.{after_pixels}
use Rattle.jbig2_region.proofs.RasterLemmas.{HasDecoded-known, HasDecoded-decided, after_pixels-length, after_pixels-predicted, after_pixels-one, after_pixels-none, after_pixels-add}
use Rattle.jbig2_region.proofs.StoreLemmas.{Pushes, none-stored, white-next, width-so_far, height-so_far}

-- ---- no pixel
pub codes-none : (coding : Coding) (p : Bool) (x y : ℕ) (g : Grid) (d : Coder) (s : List Context) → DecodesPart coding p x y 0 (region_state g d s) (region_state g d s)
codes-none coding p x y g d s = λ w h input r len predicted has_decoded. subst (λ (n : Region). HasDecoded w h input n (region_state g d s)) (sym (after_pixels-none coding w h input r)) has_decoded

pub codes-start : (coding : Coding) (p : Bool) (x y b : ℕ) (g : Grid) (d : Coder) (s : List Context) → DecodesPart coding p x y 0 (region_state g d s) (region_state (with_pixels g x y 0 b) d s)
codes-start coding p x y b g d s = λ w h input r len predicted has_decoded.
    subst (λ (n : Region). HasDecoded w h input n (region_state (with_pixels g x y 0 b) d s)) (sym (after_pixels-none coding w h input r))
    (subst (λ (q : Grid). HasDecoded w h input r (region_state q d s)) (sym (none-stored w h r.pixels g x y b has_decoded.pixels)) has_decoded)

pub counts-none : (coding : Coding) (p : Bool) (x y : ℕ) (g : Grid) (d : Coder) (s : List Context) (count : ℕ) → CountsPart coding p x y 0 (region_state g d s) count count
unfolding decided_pixels
counts-none coding p x y g d s count = λ w h input r len predicted has_decoded. omega arith

-- ---- one pixel more
-- where the next pixel of a stretch lies
record Next (w h : ℕ) (input : List ℕ) (made : Region) (x y : ℕ) (p : Bool) (g : Grid) (d : Coder) (s : List Context) : Type 0 where
  pub size : length made.pixels ≡ y * w + x
  pub predicted : made.predicted ≡ p
  pub left : x < w
  pub above : y < h
  pub has_decoded : HasDecoded w h input made (region_state g d s)

next-of : (coding : Coding) (p : Bool) (x y k : ℕ) (g0 g : Grid) (d0 d : Coder) (s0 s : List Context) → DecodesPart coding p x y k (region_state g0 d0 s0) (region_state g d s) → x + k < g.width → y < g.height
    → (w h : ℕ) (input : List ℕ) (r : Region) → length r.pixels ≡ y * w + x → r.predicted ≡ p → HasDecoded w h input r (region_state g0 d0 s0) → Next w h input (after_pixels coding w h input k r) (x + k) y p g d s
next-of coding p x y k g0 g d0 d s0 s before left above w h input r len predicted has_decoded =
    let at = before w h input r len predicted has_decoded in
    let made : Region = after_pixels coding w h input k r in
    let wide : g.width ≡ w = ap (λ (q : Grid). q.width) at.pixels ∙ width-so_far w h made.pixels in
    let high : g.height ≡ h = ap (λ (q : Grid). q.height) at.pixels ∙ height-so_far w h made.pixels in
    record {
      size = after_pixels-length coding w h input k r ∙ omega arith;
      predicted = after_pixels-predicted coding w h input k r ∙ predicted;
      left = omega arith;
      above = omega arith;
      has_decoded = at;
    }

-- a grid with one pixel more
abbrev pub PushesColour : Grid → Grid → ℕ → ℕ → ℕ → Type 0
PushesColour g g' x y symbol = (c : Bool) → symbol ≡ bit_number c → Pushes g g' x y c

pub codes-next : (coding : Coding) (p : Bool) (x y k : ℕ) (g0 g g' : Grid) (d0 d d' : Coder) (s0 s s' : List Context) (before after : Counts) (known : Option Bool) (n symbol : ℕ)
    → DecodesPart coding p x y k (region_state g0 d0 s0) (region_state g d s) → x + k < g.width → y < g.height → coding.known p g (x + k) y ≡ known → n ≡ coding.context g (x + k) y
    → PushesColour g g' (x + k) y symbol → TakesPixel known n (counted_decoder d s before) symbol (counted_decoder d' s' after)
    → DecodesPart coding p x y (k + 1) (region_state g0 d0 s0) (region_state g' d' s')
codes-next coding p x y k g0 g g' d0 d d' s0 s s' before after (Some c) n symbol made left above is_known is_context pushes takes = λ w h input r len predicted has_decoded.
    let next = next-of coding p x y k g0 g d0 d s0 s made left above w h input r len predicted has_decoded in
    let white = white-next w h (after_pixels coding w h input k r).pixels g (x + k) y next.has_decoded.pixels next.size next.left next.above in
    rw (after_pixels-one coding w h input k r, takes.coder, takes.states)
    (HasDecoded-known coding w h input (after_pixels coding w h input k r) g g' d s (x + k) y p c next.size next.left next.above next.predicted is_known (pushes c takes.symbol white) next.has_decoded)
codes-next coding p x y k g0 g g' d0 d d' s0 s s' before after None n symbol made left above is_known is_context pushes takes = λ w h input r len predicted has_decoded.
    let next = next-of coding p x y k g0 g d0 d s0 s made left above w h input r len predicted has_decoded in
    let white = white-next w h (after_pixels coding w h input k r).pixels g (x + k) y next.has_decoded.pixels next.size next.left next.above in
    let q = decision d.bytes d.registers (get_or s n fresh) in
    rw (after_pixels-one coding w h input k r, takes.states)
    (HasDecoded-decided coding w h input (after_pixels coding w h input k r) g g' d d' s (x + k) y n p (get_or s n fresh) q.context next.size next.left next.above next.predicted is_known is_context refl (pushes q.symbol takes.symbol white) takes.coder refl next.has_decoded)

-- the next pixel's own decision, if it takes one
takes-next : (coding : Coding) (w h : ℕ) (input : List ℕ) (made : Region) (x y : ℕ) (p : Bool) (g : Grid) (d : Coder) (s : List Context) → Next w h input made x y p g d s → takes_decision coding w h made ≡ is_none (coding.known p g x y)
unfolding takes_decision
takes-next coding w h input made x y p g d s next =
    let column : length made.pixels % w ≡ x = ap (λ (n : ℕ). n % w) next.size ∙ mod-mul-add y w x next.left in
    let row : length made.pixels / w ≡ y = ap (λ (n : ℕ). n / w) next.size ∙ div-mul-add y w x next.left in
    rw (column, row, next.predicted, sym next.has_decoded.pixels) refl

decided-one : (coding : Coding) (w h : ℕ) (input : List ℕ) (k : ℕ) (r : Region) → decided_pixels coding w h input (k + 1) r ≡ decided_pixels coding w h input k r + bit_number (takes_decision coding w h (after_pixels coding w h input k r))
unfolding decided_pixels
decided-one coding w h input k r = rw add-one

taken-steps : (known : Option Bool) (n : ℕ) (d : Coder) (s : List Context) (before : Counts) (symbol : ℕ) (d' : Coder) (s' : List Context) (after : Counts) → TakesPixel known n (counted_decoder d s before) symbol (counted_decoder d' s' after) → after ≡ record before { decisions = before.decisions + bit_number (is_none known) }
taken-steps (Some c) n d s before symbol d' s' after takes = takes.steps ∙ same before
  where
    same : (t : Counts) → t ≡ record t { decisions = t.decisions + 0 }
    same t =
        let none : t.decisions ≡ t.decisions + 0 = omega arith in
        ap (λ (k : ℕ). let made : Counts = record t { decisions = k } in made) none
taken-steps None n d s before symbol d' s' after takes = takes.steps

pub taken-decisions : (known : Option Bool) (n : ℕ) (d : Coder) (s : List Context) (before : Counts) (symbol : ℕ) (d' : Coder) (s' : List Context) (after : Counts) → TakesPixel known n (counted_decoder d s before) symbol (counted_decoder d' s' after) → after.decisions ≡ before.decisions + bit_number (is_none known)
taken-decisions known n d s before symbol d' s' after takes = ap (λ (t : Counts). t.decisions) (taken-steps known n d s before symbol d' s' after takes)

pub taken-others : (known : Option Bool) (n : ℕ) (d : Coder) (s : List Context) (before : Counts) (symbol : ℕ) (d' : Coder) (s' : List Context) (after : Counts) → TakesPixel known n (counted_decoder d s before) symbol (counted_decoder d' s' after) → after ≡ record before { decisions = after.decisions }
taken-others known n d s before symbol d' s' after takes =
    let all = taken-steps known n d s before symbol d' s' after takes in
    all ∙ ap (λ (k : ℕ). let made : Counts = record before { decisions = k } in made) (sym (ap (λ (t : Counts). t.decisions) all))

pub taken-bytes : (known : Option Bool) (n : ℕ) (d : Coder) (s : List Context) (before : Counts) (symbol : ℕ) (d' : Coder) (s' : List Context) (after : Counts) → TakesPixel known n (counted_decoder d s before) symbol (counted_decoder d' s' after) → d'.bytes ≡ d.bytes
taken-bytes (Some c) n d s before symbol d' s' after takes = ap (λ (q : Coder). q.bytes) takes.coder
taken-bytes None n d s before symbol d' s' after takes = ap (λ (q : Coder). q.bytes) takes.coder

pub taken-digit : (known : Option Bool) (n : ℕ) (d : Coder) (s : List Context) (before : Counts) (symbol : ℕ) (d' : Coder) (s' : List Context) (after : Counts) → TakesPixel known n (counted_decoder d s before) symbol (counted_decoder d' s' after) → (c : Bool) × (symbol ≡ bit_number c)
taken-digit (Some c) n d s before symbol d' s' after takes = (c, takes.symbol)
taken-digit None n d s before symbol d' s' after takes = ((decision d.bytes d.registers (get_or s n fresh)).symbol, takes.symbol)

pub counts-next : (coding : Coding) (p : Bool) (x y k : ℕ) (g0 g : Grid) (d0 d : Coder) (s0 s : List Context) (known : Option Bool) (c0 c1 c2 : ℕ)
    → DecodesPart coding p x y k (region_state g0 d0 s0) (region_state g d s) → CountsPart coding p x y k (region_state g0 d0 s0) c0 c1 → x + k < g.width → y < g.height → coding.known p g (x + k) y ≡ known → c2 ≡ c1 + bit_number (is_none known)
    → CountsPart coding p x y (k + 1) (region_state g0 d0 s0) c0 c2
counts-next coding p x y k g0 g d0 d s0 s known c0 c1 c2 made counted left above is_known more = λ w h input r len predicted has_decoded.
    let next = next-of coding p x y k g0 g d0 d s0 s made left above w h input r len predicted has_decoded in
    let one = takes-next coding w h input (after_pixels coding w h input k r) (x + k) y p g d s next in
    rw (decided-one coding w h input k r, one, is_known) (sum _ _ _ _ _ (counted w h input r len predicted has_decoded) more)
  where
    sum : (a b c n m : ℕ) → b ≡ a + n → c ≡ b + m → c ≡ a + (n + m)
    sum a b c n m one two = omega arith

-- ---- several pixels
pub codes-then : (coding : Coding) (p : Bool) (x x' y n m k : ℕ) (g0 g1 g2 : Grid) (d0 d1 d2 : Coder) (s0 s1 s2 : List Context) → DecodesPart coding p x y n (region_state g0 d0 s0) (region_state g1 d1 s1) → DecodesPart coding p x' y m (region_state g1 d1 s1) (region_state g2 d2 s2) → x' ≡ x + n → k ≡ n + m → DecodesPart coding p x y k (region_state g0 d0 s0) (region_state g2 d2 s2)
codes-then coding p x x' y n m k g0 g1 g2 d0 d1 d2 s0 s1 s2 one two place sum = λ w h input r len predicted has_decoded.
    let made : Region = after_pixels coding w h input n r in
    let size : length made.pixels ≡ y * w + x' = after_pixels-length coding w h input n r ∙ omega arith in
    subst (λ (q : Region). HasDecoded w h input q (region_state g2 d2 s2)) (sym (ap (λ (i : ℕ). after_pixels coding w h input i r) sum ∙ after_pixels-add coding w h input n m r))
    (two w h input made size (after_pixels-predicted coding w h input n r ∙ predicted) (one w h input r len predicted has_decoded))

decided-add : (coding : Coding) (w h : ℕ) (input : List ℕ) (n m : ℕ) (r : Region) → decided_pixels coding w h input (n + m) r ≡ decided_pixels coding w h input n r + decided_pixels coding w h input m (after_pixels coding w h input n r)
unfolding decided_pixels
decided-add coding w h input n zero r =
    let same : n + 0 ≡ n = omega arith in
    ap (λ (k : ℕ). decided_pixels coding w h input k r) same ∙ omega arith
decided-add coding w h input n (suc m) r =
    let next : n + suc m ≡ suc (n + m) = omega arith in
    ap (λ (k : ℕ). decided_pixels coding w h input k r) next ∙ rw (decided-add coding w h input n m r, after_pixels-add coding w h input n m r) (omega arith)

pub counts-then : (coding : Coding) (p : Bool) (x x' y n m k : ℕ) (g0 g1 : Grid) (d0 d1 : Coder) (s0 s1 : List Context) (c0 c1 c2 : ℕ) → DecodesPart coding p x y n (region_state g0 d0 s0) (region_state g1 d1 s1) → CountsPart coding p x y n (region_state g0 d0 s0) c0 c1 → CountsPart coding p x' y m (region_state g1 d1 s1) c1 c2 → x' ≡ x + n → k ≡ n + m → CountsPart coding p x y k (region_state g0 d0 s0) c0 c2
counts-then coding p x x' y n m k g0 g1 d0 d1 s0 s1 c0 c1 c2 made one two place sum = λ w h input r len predicted has_decoded.
    let region : Region = after_pixels coding w h input n r in
    let size : length region.pixels ≡ y * w + x' = after_pixels-length coding w h input n r ∙ omega arith in
    let first = one w h input r len predicted has_decoded in
    let second = two w h input region size (after_pixels-predicted coding w h input n r ∙ predicted) (made w h input r len predicted has_decoded) in
    second ∙ add c0 c1 _ _ first ∙ sym (ap (λ (i : ℕ). c0 + decided_pixels coding w h input i r) sum ∙ ap (λ (i : ℕ). c0 + i) (decided-add coding w h input n m r))
  where
    add : (a b i j : ℕ) → b ≡ a + i → b + j ≡ a + (i + j)
    add a b i j e = omega arith

-- ---- a pixel by itself
after-one : (coding : Coding) (w h : ℕ) (input : List ℕ) (r : Region) → after_pixels coding w h input 1 r ≡ after_pixel coding w h input r
after-one coding w h input r = after_pixels-one coding w h input 0 r ∙ ap (λ (q : Region). after_pixel coding w h input q) (after_pixels-none coding w h input r)

pub pixel-known : (coding : Coding) (p : Bool) (x y : ℕ) (g g' : Grid) (d : Coder) (s : List Context) (c : Bool) → x < g.width → y < g.height → coding.known p g x y ≡ Some c → g' ≡ with_pixel g x y c → DecodesPart coding p x y 1 (region_state g d s) (region_state g' d s)
pixel-known coding p x y g g' d s c left above is_known written = λ w h input r len predicted has_decoded.
    let wide : g.width ≡ w = ap (λ (q : Grid). q.width) has_decoded.pixels ∙ width-so_far w h r.pixels in
    let high : g.height ≡ h = ap (λ (q : Grid). q.height) has_decoded.pixels ∙ height-so_far w h r.pixels in
    subst (λ (q : Region). HasDecoded w h input q (region_state g' d s)) (sym (after-one coding w h input r))
    (HasDecoded-known coding w h input r g g' d s x y p c len (omega arith) (omega arith) predicted is_known written has_decoded)

pub pixel-decided : (coding : Coding) (p : Bool) (x y k : ℕ) (g g' : Grid) (d d' : Coder) (s : List Context) (old new : Context) → x < g.width → y < g.height → coding.known p g x y ≡ None → k ≡ coding.context g x y → old ≡ get_or s k fresh
    → g' ≡ with_pixel g x y (decision d.bytes d.registers old).symbol → d' ≡ record d { registers = (decision d.bytes d.registers old).registers } → new ≡ (decision d.bytes d.registers old).context
    → DecodesPart coding p x y 1 (region_state g d s) (region_state g' d' (set s k new))
pixel-decided coding p x y k g g' d d' s old new left above is_open is_context is_old written is_next is_new = λ w h input r len predicted has_decoded.
    let wide : g.width ≡ w = ap (λ (q : Grid). q.width) has_decoded.pixels ∙ width-so_far w h r.pixels in
    let high : g.height ≡ h = ap (λ (q : Grid). q.height) has_decoded.pixels ∙ height-so_far w h r.pixels in
    subst (λ (q : Region). HasDecoded w h input q (region_state g' d' (set s k new))) (sym (after-one coding w h input r))
    (HasDecoded-decided coding w h input r g g' d d' s x y k p old new len (omega arith) (omega arith) predicted is_open is_context is_old written is_next is_new has_decoded)

pub pixel-counts : (coding : Coding) (p : Bool) (x y : ℕ) (g : Grid) (d : Coder) (s : List Context) (known : Option Bool) (before after : ℕ) → x < g.width → y < g.height → coding.known p g x y ≡ known → after ≡ before + bit_number (is_none known) → CountsPart coding p x y 1 (region_state g d s) before after
pixel-counts coding p x y g d s known before after left above is_known more =
    let same : x + 0 ≡ x = omega arith in
    counts-next coding p x y 0 g g d d s s known before before after (codes-none coding p x y g d s) (counts-none coding p x y g d s before) (omega arith) above
    (ap (λ (n : ℕ). coding.known p g n y) same ∙ is_known) more
