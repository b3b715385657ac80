-- Regions that are coded pixel by pixel are read back.
use Rattle.std.proofs.Common.{◌≡◌, ℕ, zero, suc, ◌+◌, ◌*◌, ◌/◌, ◌%◌, ◌<◌, ◌≤◌, eqb, Bool, true, false, cond, List, [], ◌∷◌, ◌++◌, length, get_or, set, Option, Some, None, refl, sym, ◌∙◌, ap, subst, arith, ⊎_elim, eq-eqb, eqb-true, ne_eqb, length-append}
use Rattle.std.proofs.lemmas.Bool.{cond-true, cond-false, cond_both, cases_eq, cases_lt}
use Rattle.std.proofs.Math.Nat.{mul-le-mul_right}
use Rattle.std.proofs.lemmas.List.{length_push, get_or_append_left, get_or_at}
use Rattle.std.proofs.lemmas.Nat.{div-mul-add, mod-mul-add, mul-add-lt, div-add-mod', mod_below}
use Rattle.jbig2_base.specs.Grid.{grid_of, differ}
use Rattle.jbig2_base.proofs.GridLemmas.{grid_of-ext}
use Rattle.jbig2_coder.specs.Coder.{Context, Decision, fresh, decision}
use Rattle.jbig2_region.specs.Raster.{Coding, Region, so_far, with_next, after_ltp, at_next, after_pixel, first_pixels, decoded_region, no_pixels}
use Rattle.jbig2_inverses.specs.CoderStates.{Entry, asked, State, state_on, state_after, GivesDecisions, window}
use Rattle.jbig2_inverses.specs.RegionWriter.{known_or, pixels_before, ltp_before, ltp_entries, row_entries, pixel_entries, entries_before, IsCodable, RegionsReadBack}
use Rattle.jbig2_inverses.proofs.CoderStates.{window-get, window-set, gives-first, gives-before, gives-after, after-none, after-append}

differ-twice : (c q : Bool) → differ (differ c q) q ≡ c
differ-twice true true = refl
differ-twice true false = refl
differ-twice false true = refl
differ-twice false false = refl

-- the next place of the same row
same-row : (m w : ℕ) → 0 < w → (suc m % w ≡ 0 → ⊥) → m / w ≡ suc m / w
same-row m w wide inside =
    let q = m / w in
    let r = m % w in
    let whole : q * w + r ≡ m = div-add-mod' m w in
    let small : r < w = mod_below m w wide in
    ⊎_elim
    (λ (more : r + 1 < w).
    let next : q * w + (r + 1) ≡ suc m = omega (arith, whole) in
    sym (ap (λ (n : ℕ). n / w) (sym next) ∙ div-mul-add q w (r + 1) more))
    (λ (last : w ≤ r + 1).
    let up : suc q * w ≡ q * w + w = suc-times q w in
    let next : suc q * w + 0 ≡ suc m = omega (arith, whole, up, last, small) in
    absurd (inside (ap (λ (n : ℕ). n % w) (sym next) ∙ mod-mul-add (suc q) w 0 wide)))
    (cases_lt (r + 1) w)
  where
    suc-times : (q w : ℕ) → suc q * w ≡ q * w + w
    suc-times q w = omega arith

-- ---- the pixels of the raster
module _ (coding : Coding) (w h : ℕ) (pixels : ℕ → ℕ → Bool) (typical : ℕ → Bool) (base : ℕ) where
  abbrev all : ℕ → List Bool
  all n = pixels_before coding w h pixels typical base n

  length-before : (n : ℕ) → length (all n) ≡ n
  unfolding pixels_before
  length-before zero = refl
  length-before (suc n) = let e = length-before n in let p = length_push (all n) (pixels (n % w) (n / w)) in omega (arith, e, p)

  -- each pixel of the raster is where it belongs
  pixel-at : (n i : ℕ) → i < n → (d : Bool) → get_or (all n) i d ≡ pixels (i % w) (i / w)
  unfolding pixels_before
  pixel-at zero i inside d = absurd (omega (arith, inside))
  pixel-at (suc n) i inside d = ⊎_elim
      (λ (old : i < n). get_or_append_left (all n) (pixels (n % w) (n / w) ∷ []) d i (let e = length-before n in omega (arith, e, old)) ∙ pixel-at n i old d)
      (λ (new : n ≤ i).
      let here : n ≡ i = omega (arith, new, inside) in
      get_or_at (all n) (pixels (n % w) (n / w)) [] d i (length-before n ∙ here) ∙ ap (λ (m : ℕ). pixels (m % w) (m / w)) here)
      (cases_lt i n)

  pub pixel-before : (n x y : ℕ) → x < w → y * w + x < n → get_or (all n) (y * w + x) false ≡ pixels x y
  pixel-before n x y left inside =
      pixel-at n (y * w + x) inside false
      ∙ ap (λ (a : ℕ). pixels a ((y * w + x) / w)) (mod-mul-add y w x left)
      ∙ ap (λ (b : ℕ). pixels x b) (div-mul-add y w x left)

  -- at most one decision for each pixel, and one for each row that begins
  known-few : (o : Option Bool) (e : Entry) → length (known_or o e) ≤ 1
  known-few None e = omega arith
  known-few (Some c) e = omega arith

  ltp-few : (o : Option ℕ) (n : ℕ) → length (ltp_entries coding w h pixels typical base o n) ≤ 1
  ltp-few None n = omega arith
  ltp-few (Some k) n = omega arith

  pub entries-few : (n rows : ℕ) → n ≤ w * rows → length (entries_before coding w h pixels typical base n) ≤ n + rows
  unfolding entries_before
  entries-few zero rows within = omega arith
  entries-few (suc n) rows within =
      let before = entries_before coding w h pixels typical base n in
      let row = row_entries coding w h pixels typical base n in
      let pixel = pixel_entries coding w h pixels typical base n in
      let none : List Entry = [] in
      let g = so_far w h (all n) in
      let a = length-append before (row ++ pixel) in
      let b = length-append row pixel in
      let c : length before + length row ≤ n + rows = cond_both (eqb (n % w) 0) (ltp_entries coding w h pixels typical base coding.row_context n) none (λ (es : List Entry). length before + length es ≤ n + rows)
      (λ e. let whole = div-add-mod' n w in
      let starts : n ≤ w * (n / w) = let r = eqb-true (n % w) 0 e in omega (arith, whole, r) in
      let few = entries-few n (n / w) starts in
      let one = ltp-few coding.row_context n in
      let less = fewer (n / w) rows w n (omega (arith, whole)) within in
      omega (arith, few, one, less))
      (λ e. let few = entries-few n rows (omega (arith, within)) in omega (arith, few)) in
      let d : length pixel ≤ 1 = known-few (coding.known (typical (n / w)) g (n % w) (n / w)) (base + coding.context g (n % w) (n / w), pixels (n % w) (n / w)) in
      omega (arith, a, b, c, d)
    where
      fewer : (i j w n : ℕ) → i * w ≤ n → suc n ≤ w * j → i < j
      fewer i j w n low high = ⊎_elim (λ (less : i < j). less) (λ (more : j ≤ i). let least = mul-le-mul_right w more in absurd (omega (arith, least, low, high))) (cases_lt i j)

  grid-is : so_far w h (all (w * h)) ≡ grid_of w h pixels
  unfolding so_far
  grid-is = grid_of-ext w h (λ x y. get_or (all (w * h)) (y * w + x) false) pixels (λ x y left above. pixel-before (w * h) x y left (mul-add-lt y w x h above left))

module _ (base count : ℕ) (bytes : List ℕ) where
  abbrev region_at : List Bool → Bool → State → Region
  region_at px ltp z = record { pixels = px; predicted = ltp; registers = z.registers; contexts = window base count z.contexts }

  -- a decision in a context of the region
  abbrev decided : State → ℕ → Decision
  decided z k = decision bytes z.registers (z.contexts (base + k))

  decision-is : (z : State) (k : ℕ) → k < count → decision bytes z.registers (get_or (window base count z.contexts) k fresh) ≡ decided z k
  decision-is z k low = ap (λ (x : Context). decision bytes z.registers x) (window-get base count k z.contexts fresh low)

  pixel-decided : (px : List Bool) (ltp : Bool) (z : State) (k : ℕ) (d : Bool) (es : List Entry) → k < count → GivesDecisions bytes z ((base + k, d) ∷ es)
      → with_next bytes (region_at px ltp z) k None ≡ region_at (px ++ d ∷ []) ltp (state_on bytes z (base + k))
  unfolding with_next state_on
  pixel-decided px ltp z k d es low g =
      let made : Decision → Region = λ x. record { pixels = px ++ x.symbol ∷ []; predicted = ltp; registers = x.registers; contexts = set (window base count z.contexts) k x.context } in
      ap made (decision-is z k low)
      ∙ ap (λ (cs : List Context). record { pixels = px ++ (decided z k).symbol ∷ []; predicted = ltp; registers = (decided z k).registers; contexts = cs }) (window-set base count k z.contexts (decided z k).context low)
      ∙ ap (λ (b : Bool). region_at (px ++ b ∷ []) ltp (state_on bytes z (base + k))) (gives-first bytes z (base + k, d) es g)

  ltp-decided : (px : List Bool) (c q : Bool) (z : State) (k : ℕ) (es : List Entry) → k < count → GivesDecisions bytes z ((base + k, differ c q) ∷ es)
      → after_ltp (Some k) bytes (region_at px q z) ≡ region_at px c (state_on bytes z (base + k))
  unfolding after_ltp state_on
  ltp-decided px c q z k es low g =
      let made : Decision → Region = λ x. record { pixels = px; predicted = differ x.symbol q; registers = x.registers; contexts = set (window base count z.contexts) k x.context } in
      ap made (decision-is z k low)
      ∙ ap (λ (cs : List Context). record { pixels = px; predicted = differ (decided z k).symbol q; registers = (decided z k).registers; contexts = cs }) (window-set base count k z.contexts (decided z k).context low)
      ∙ ap (λ (b : Bool). region_at px (differ b q) (state_on bytes z (base + k))) (gives-first bytes z (base + k, differ c q) es g)
      ∙ ap (λ (b : Bool). region_at px b (state_on bytes z (base + k))) (differ-twice c q)

  -- a pixel, whether its colour is known or not
  one-pixel : (o : Option Bool) (px : List Bool) (ltp : Bool) (z : State) (k : ℕ) (d : Bool) → k < count → ((c : Bool) → o ≡ Some c → c ≡ d)
      → GivesDecisions bytes z (known_or o (base + k, d)) → with_next bytes (region_at px ltp z) k o ≡ region_at (px ++ d ∷ []) ltp (state_after bytes z (asked (known_or o (base + k, d))))
  unfolding with_next state_after
  one-pixel (Some c) px ltp z k d low known g = ap (λ (b : Bool). region_at (px ++ b ∷ []) ltp z) (known c refl)
  one-pixel None px ltp z k d low known g = pixel-decided px ltp z k d [] low g

module _ (coding : Coding) (w h : ℕ) (pixels : ℕ → ℕ → Bool) (typical : ℕ → Bool) (base count : ℕ) (is : IsCodable coding w h pixels typical base count) (bytes : List ℕ) (s : State) where
  abbrev seen : ℕ → List Bool
  seen n = pixels_before coding w h pixels typical base n

  abbrev ltp : ℕ → Bool
  ltp n = ltp_before coding w h pixels typical base n

  abbrev entries : ℕ → List Entry
  entries n = entries_before coding w h pixels typical base n

  abbrev row_of : ℕ → List Entry
  row_of n = row_entries coding w h pixels typical base n

  abbrev pixel_of : ℕ → List Entry
  pixel_of n = pixel_entries coding w h pixels typical base n

  abbrev at : List Bool → Bool → State → Region
  at px l z = region_at base count bytes px l z

  abbrev reached : ℕ → State
  reached n = state_after bytes s (asked (entries n))

  seen-next : (n : ℕ) → seen (suc n) ≡ seen n ++ pixels (n % w) (n / w) ∷ []
  unfolding pixels_before
  seen-next n = refl

  entries-next : (n : ℕ) → entries (suc n) ≡ entries n ++ (row_of n ++ pixel_of n)
  unfolding entries_before
  entries-next n = refl

  -- a row begins, with LTP or without
  ltp-none : (n : ℕ) → coding.row_context ≡ None → ltp n ≡ typical (n / w)
  ltp-none zero e = sym (is.no_rows e (0 / w))
  ltp-none (suc n) e = is.no_rows e (n / w) ∙ sym (is.no_rows e (suc n / w))

  begins-by : (o : Option ℕ) (n : ℕ) (z : State) → coding.row_context ≡ o → GivesDecisions bytes z (ltp_entries coding w h pixels typical base o n)
      → after_ltp o bytes (at (seen n) (ltp n) z) ≡ at (seen n) (typical (n / w)) (state_after bytes z (asked (ltp_entries coding w h pixels typical base o n)))
  unfolding after_ltp state_after
  begins-by None n z e g = ap (λ (l : Bool). at (seen n) l z) (ltp-none n e)
  begins-by (Some k) n z e g = ltp-decided base count bytes (seen n) (typical (n / w)) (ltp n) z k [] (is.row_contexts k e) g

  goes-on : (n : ℕ) → 0 < w → (n % w ≡ 0 → ⊥) → ltp n ≡ typical (n / w)
  goes-on zero wide o = absurd (o (let e : 0 * w + 0 ≡ 0 = omega arith in ap (λ (m : ℕ). m % w) (sym e) ∙ mod-mul-add 0 w 0 wide))
  goes-on (suc n) wide o = ap typical (same-row n w wide o)

  next-row : (n : ℕ) (z : State) → 0 < w → GivesDecisions bytes z (row_of n) → at_next coding w bytes (at (seen n) (ltp n) z) ≡ at (seen n) (typical (n / w)) (state_after bytes z (asked (row_of n)))
  unfolding at_next
  next-row n z wide g =
      let r = at (seen n) (ltp n) z in
      let ltp_es = ltp_entries coding w h pixels typical base coding.row_context n in
      let size : eqb (length (seen n) % w) 0 ≡ eqb (n % w) 0 = ap (λ (m : ℕ). eqb (m % w) 0) (length-before coding w h pixels typical base n) in
      ap (λ (t : Bool). cond t (after_ltp coding.row_context bytes r) r) size
      ∙ ⊎_elim
      (λ (e : n % w ≡ 0).
      let t = eq-eqb (n % w) 0 e in
      let es : row_of n ≡ ltp_es = cond-true (eqb (n % w) 0) ltp_es [] t in
      cond-true (eqb (n % w) 0) (after_ltp coding.row_context bytes r) r t
      ∙ begins-by coding.row_context n z refl (subst (λ (xs : List Entry). GivesDecisions bytes z xs) es g)
      ∙ ap (λ (xs : List Entry). at (seen n) (typical (n / w)) (state_after bytes z (asked xs))) (sym es))
      (λ (o : n % w ≡ 0 → ⊥).
      let f = ne_eqb (n % w) 0 o in
      let es : row_of n ≡ [] = cond-false (eqb (n % w) 0) ltp_es [] f in
      cond-false (eqb (n % w) 0) (after_ltp coding.row_context bytes r) r f
      ∙ ap (λ (l : Bool). at (seen n) l z) (goes-on n wide o)
      ∙ ap (λ (y : State). at (seen n) (typical (n / w)) y) (sym (after-none bytes z))
      ∙ ap (λ (xs : List Entry). at (seen n) (typical (n / w)) (state_after bytes z (asked xs))) (sym es))
      (cases_eq (n % w) 0)

  next-pixel : (n : ℕ) (z : State) → n < w * h → GivesDecisions bytes z (pixel_of n) → after_pixel coding w h bytes (at (seen n) (typical (n / w)) z) ≡ at (seen (suc n)) (typical (n / w)) (state_after bytes z (asked (pixel_of n)))
  unfolding after_pixel
  next-pixel n z inside g =
      let x = n % w in
      let y = n / w in
      let field = so_far w h (seen n) in
      let k = coding.context field x y in
      let o = coding.known (typical y) field x y in
      ap (λ (m : ℕ). with_next bytes (at (seen n) (typical y) z) (coding.context field (m % w) (m / w)) (coding.known (typical y) field (m % w) (m / w))) (length-before coding w h pixels typical base n)
      ∙ one-pixel base count bytes o (seen n) (typical y) z k (pixels x y) (is.pixel_contexts field x y) (λ c e. is.known n inside c e) g
      ∙ ap (λ (px : List Bool). at px (typical y) (state_after bytes z (asked (pixel_of n)))) (sym (seen-next n))

  wide-of : (n : ℕ) → n < w * h → 0 < w
  wide-of n inside = ⊎_elim (λ (z : w ≡ 0). absurd (none z)) (λ (o : w ≡ 0 → ⊥). omega (arith, o)) (cases_eq w 0)
    where
      none : w ≡ 0 → ⊥
      none z = let e : w * h ≡ 0 = ap (λ (v : ℕ). v * h) z ∙ (let f : 0 * h ≡ 0 = omega arith in f) in omega (arith, e, inside)

  reads : (n : ℕ) → n ≤ w * h → GivesDecisions bytes s (entries n) → first_pixels coding w h bytes (no_pixels s.registers (window base count s.contexts)) n ≡ at (seen n) (ltp n) (reached n)
  unfolding first_pixels entries_before state_after pixels_before
  reads zero few g = refl
  reads (suc n) few g =
      let inside : n < w * h = omega (arith, few) in
      let wide = wide-of n inside in
      let both = row_of n ++ pixel_of n in
      let g0 = gives-before bytes s (entries n) both g in
      let g1 : GivesDecisions bytes (reached n) both = gives-after bytes s (entries n) both g in
      let mid = state_after bytes (reached n) (asked (row_of n)) in
      let end : state_after bytes mid (asked (pixel_of n)) ≡ state_after bytes s (asked (entries n ++ both)) =
      sym (after-append bytes s (entries n) both ∙ after-append bytes (reached n) (row_of n) (pixel_of n)) in
      ap (λ (r : Region). after_pixel coding w h bytes (at_next coding w bytes r)) (reads n (omega (arith, few)) g0)
      ∙ ap (λ (r : Region). after_pixel coding w h bytes r) (next-row n (reached n) wide (gives-before bytes (reached n) (row_of n) (pixel_of n) g1))
      ∙ next-pixel n mid inside (gives-after bytes (reached n) (row_of n) (pixel_of n) g1)
      ∙ ap (λ (z : State). at (seen (suc n)) (typical (n / w)) z) end

  reads-region : GivesDecisions bytes s (entries (w * h))
      → (decoded_region coding w h bytes (no_pixels s.registers (window base count s.contexts)) ≡ at (seen (w * h)) (ltp (w * h)) (reached (w * h))) × (so_far w h (seen (w * h)) ≡ grid_of w h pixels)
  unfolding decoded_region
  reads-region g = (reads (w * h) (omega arith) g, grid-is coding w h pixels typical base)

pub regions_read_back : RegionsReadBack
regions_read_back coding w h pixels typical base count is bytes s g = reads-region coding w h pixels typical base count is bytes s g
