-- Runs of up to 64 pixels, by windows about two columns.
use Rattle.std.proofs.Common.{append_assoc, refl, subst, ◌≡◌, ℕ, ◌+◌, ◌-◌, ◌*◌, ◌/◌, ◌%◌, ◌^◌, ◌<◌, ◌≤◌, Bool, true, List, ◌++◌, length, replicate, sym, ap, ◌∙◌, ⊎_elim, arith, min}
use Rattle.std.proofs.lemmas.Bool.{and_from, and_parts, cases_lt}
use Rattle.std.proofs.lemmas.List.{replicate-append-replicate}
use Rattle.std.proofs.lemmas.Nat.Bits as bits
use Rattle.jbig2_base.specs.Grid.{Grid}
use Rattle.jbig2_base.specs.Bits.{bit}
use Rattle.jbig2_base.specs.Writes.{with_pixels}
use Rattle.jbig2_coder.specs.Coder.{Coder, Context}
use Rattle.jbig2_region.specs.inner.RegionStates.{HasDecoded, region_state}
use Rattle.jbig2_region.specs.inner.Neighbours.{nominal_pixels, neighbours_stay, is_field, IsNear, SameAbove}
use Rattle.jbig2_region.specs.Raster.{Region, so_far}
use Rattle.jbig2_region.specs.Steps.{has_all, keeps_context}
use Rattle.jbig2_region.specs.declared.template.neighbours.Neighbours.{Neighbours}
use Rattle.jbig2_region.specs.declared.generic_kernel.windows.WideWindows.{WideWindows}
use Rattle.jbig2_region.specs.declared.generic_kernel.windows.Windows.{Windows}
use Rattle.jbig2_region.specs.declared.template.AdaptiveTemplatePixel.{AdaptiveTemplatePixel}
use Rattle.jbig2_region.proofs.RunLemmas.{more-above, stays-from, stays-gives, stays-is}
use Rattle.jbig2_region.proofs.RunSteps.{left-run, run-grid, run-length}
use Rattle.jbig2_region.proofs.StoreLemmas.{width-so_far, height-so_far}
use Rattle.jbig2_region.proofs.UniformLemmas.{full, full-bit, field-all}
use Rattle.jbig2_region.proofs.WindowLemmas.{shows-less, shows-same}
use Rattle.jbig2_region.specs.inner.Windows.{IsLeft, Shows, ShowsByte, ShowsGroup, ShowsRun}

-- `MAX >> (64 - count)`
pub ones : (count : ℕ) → count ≤ 64 → (2 ^ 64 - 1) / 2 ^ (64 - count) ≡ 2 ^ count - 1
ones count few =
    let width : 64 - (64 - count) ≡ count = omega arith in
    bits.ones_shr 64 (64 - count) (omega arith) ∙ ap (λ (n : ℕ). 2 ^ n - 1) width

-- contexts that stay, and stay once more
stays-both : (template : List AdaptiveTemplatePixel) (w h : ℕ) (c : Bool) (n m : ℕ) (pixels : List Bool) → keeps_context template w h c n pixels ≡ true → keeps_context template w h c m (pixels ++ replicate n c) ≡ true → keeps_context template w h c (n + m) pixels ≡ true
stays-both template w h c n m pixels one two =
    stays-from template w h c (n + m) pixels (λ k le.
    ⊎_elim
    (λ (here : k < n). stays-gives template w h c n pixels k one (omega arith))
    (λ (past : n ≤ k).
    let sum : n + (k - n) ≡ k = omega arith in
    let list : (pixels ++ replicate n c) ++ replicate (k - n) c ≡ pixels ++ replicate k c =
    append_assoc pixels (replicate n c) (replicate (k - n) c) ∙ ap (λ (l : List Bool). pixels ++ l) (replicate-append-replicate n (k - n) c ∙ ap (λ (i : ℕ). replicate i c) sum) in
    ap (λ (l : List Bool). has_all template w h c l) (sym list) ∙ stays-gives template w h c m (pixels ++ replicate n c) (k - n) two (omega arith))
    (cases_lt k n))

-- the four pixels left of the second window are of the run
second-stays : (n : Neighbours) (c : Bool) (left : ℕ) (v : Windows) → IsNear n → neighbours_stay n 32 c left v ≡ true → neighbours_stay n 32 c (full 4 c) v ≡ true
second-stays n c left v near is =
    let parts = and_parts (is_field left 0 n.left c) _ is in
    let few : n.left ≤ 4 = near.left in
    and_from _ _ (field-all (full 4 c) 0 n.left c (λ i inside.
    let place : 0 + i ≡ i = omega arith in
    ap (λ (k : ℕ). bit (full 4 c) k) place ∙ full-bit 4 i c (omega arith))) parts.1

-- 64 pixels, by both windows
both-stay : (n : Neighbours) (c : Bool) (left : ℕ) (v : WideWindows) (w h x y : ℕ) (r : Region) (grid : Grid) (d : Coder) (s : List Context) → IsNear n → length r.pixels ≡ y * w + x → x + 64 < w → y < h
    → Shows grid x y 44 v.first → Shows grid (x + 32) y 44 v.second → IsLeft grid x y left → HasDecoded w h d.bytes r (region_state grid d s) → neighbours_stay n 32 c left v.first ≡ true → neighbours_stay n 32 c left v.second ≡ true → keeps_context (nominal_pixels n) w h c 64 r.pixels ≡ true
both-stay n c left v w h x y r grid d s near len within above first second before has_decoded one two =
    let now : Grid = so_far w h r.pixels in
    let then : Grid = so_far w h (r.pixels ++ replicate 32 c) in
    let here : Shows now x y 44 v.first = subst (λ (g : Grid). Shows g x y 44 v.first) has_decoded.pixels first in
    let start : IsLeft now x y left = subst (λ (g : Grid). IsLeft g x y left) has_decoded.pixels before in
    let there : Shows then (x + 32) y 44 v.second =
    shows-same now then (x + 32) y 44 v.second (more-above w h r.pixels (replicate 32 c) x y len) (subst (λ (g : Grid). Shows g (x + 32) y 44 v.second) has_decoded.pixels second) in
    let wide : now.width ≡ w = width-so_far w h r.pixels in
    let high : now.height ≡ h = height-so_far w h r.pixels in
    let stored : IsLeft (with_pixels now x y 32 (full 32 c)) (x + 32) y (full 4 c) = left-run now x y 32 c (omega arith) (omega arith) (omega arith) in
    let later : IsLeft then (x + 32) y (full 4 c) = subst (λ (g : Grid). IsLeft g (x + 32) y (full 4 c)) (run-grid w h r.pixels now c x y 32 refl len (omega arith) above) stored in
    stays-both (nominal_pixels n) w h c 32 32 r.pixels
    (sym (stays-is n 32 c left v.first w h x y 44 r.pixels near (omega arith) (omega arith) len (omega arith) above here start) ∙ one)
    (sym (stays-is n 32 c (full 4 c) v.second w h (x + 32) y 44 (r.pixels ++ replicate 32 c) near (omega arith) (omega arith) (run-length r.pixels c 32 y w x len) (omega arith) above there later) ∙ second-stays n c left v.second near two)

-- the kernel's test of this many bytes: one, four or eight
pub group-stays : (n : Neighbours) (c : Bool) (left most staying : ℕ) (v : WideWindows) (w h x y : ℕ) (r : Region) (grid : Grid) (d : Coder) (s : List Context) → IsNear n → 1 ≤ staying → staying ≤ most → length r.pixels ≡ y * w + x → x + 8 * most < w → y < h
    → ShowsRun grid x y most v → IsLeft grid x y left → HasDecoded w h d.bytes r (region_state grid d s) → neighbours_stay n (8 * min staying 4) c left v.first ≡ true → (5 ≤ staying → (staying ≡ 8) × (neighbours_stay n 32 c left v.second ≡ true)) → keeps_context (nominal_pixels n) w h c (8 * staying) r.pixels ≡ true
group-stays n c left most staying v w h x y r grid d s near some within len columns above shows before has_decoded one two =
    ⊎_elim
    (λ (few : staying < 5).
    let few_bytes : 8 * min staying 4 ≡ 8 * staying = omega arith in
    let here : Shows (so_far w h r.pixels) x y (8 * min most 4 + 12) v.first = subst (λ (g : Grid). Shows g x y (8 * min most 4 + 12) v.first) has_decoded.pixels shows.first in
    let start : IsLeft (so_far w h r.pixels) x y left = subst (λ (g : Grid). IsLeft g x y left) has_decoded.pixels before in
    sym (stays-is n (8 * staying) c left v.first w h x y (8 * min most 4 + 12) r.pixels near (omega arith) (omega arith) len (omega arith) above here start)
    ∙ subst (λ (k : ℕ). neighbours_stay n k c left v.first ≡ true) few_bytes one)
    (λ (all : 5 ≤ staying).
    let eight : staying ≡ 8 = (two all).0 in
    let four : 8 * min staying 4 ≡ 32 = omega (arith, eight) in
    let whole : 64 ≡ 8 * staying = omega (arith, eight) in
    subst (λ (k : ℕ). keeps_context (nominal_pixels n) w h c k r.pixels ≡ true) whole
    (both-stay n c left v w h x y r grid d s near len (omega (arith, eight)) above (shows-less grid x y (8 * min most 4 + 12) 44 v.first (omega (arith, eight)) shows.first) (shows.second (omega arith)) before has_decoded
    (subst (λ (k : ℕ). neighbours_stay n k c left v.first ≡ true) four one) (two all).1))
    (cases_lt staying 5)

-- windows that serve a group still do once pixels of its own row are decoded
pub group-same : (g g' : Grid) (x y bytes : ℕ) (w : WideWindows) → SameAbove g g' y → ShowsGroup g x y bytes w → ShowsGroup g' x y bytes w
group-same g g' x y bytes w same shows = record { first = shows-same g g' x y 64 w.first same shows.first; second = λ more. shows-same g g' (x + 32) y 64 w.second same (shows.second more) }

-- the windows at a group's first byte are the group's
pub byte-first : (g : Grid) (x y bytes : ℕ) (w : WideWindows) → ShowsGroup g x y bytes w → ShowsByte g x y 0 w w
byte-first g x y bytes w shows =
    let place : x ≡ x + 8 * 0 = omega arith in
    record { first = subst (λ (n : ℕ). Shows g n y 64 w.first) place shows.first; second = refl }

-- what a run is tested by at a byte of a group
pub byte-run : (g : Grid) (x y bytes done most : ℕ) (group w : WideWindows) → done + most ≤ bytes → 1 ≤ most → (1 ≤ done → done % 4 + most ≤ 4) → ShowsGroup g x y bytes group → ShowsByte g x y done group w → ShowsRun g (x + 8 * done) y most w
byte-run g x y bytes done most group w within some later shows at =
    let room : 8 * min most 4 + 12 ≤ 64 - 8 * (done % 4) = ⊎_elim (λ (start : done < 1). omega arith) (λ (past : 1 ≤ done). omega (arith, later past)) (cases_lt done 1) in
    record {
      first = shows-less g (x + 8 * done) y (64 - 8 * (done % 4)) (8 * min most 4 + 12) w.first room at.first;
      second = λ more.
          let start : done ≡ 0 = ⊎_elim (λ (start : done < 1). omega arith) (λ (past : 1 ≤ done). absurd (omega (arith, later past))) (cases_lt done 1) in
          let place : x + 32 ≡ x + 8 * done + 32 = omega arith in
          subst (λ (v : Windows). Shows g (x + 8 * done + 32) y 44 v) (sym at.second)
          (shows-less g (x + 8 * done + 32) y 64 44 group.second (omega arith) (subst (λ (n : ℕ). Shows g n y 64 group.second) place (shows.second (omega arith))));
    }
