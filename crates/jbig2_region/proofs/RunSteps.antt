-- What a run does, pixel by pixel.
use Rattle.std.proofs.Common.{append_assoc, length-append, set, subst, pos, ◌-ℤ◌, ◌≡◌, ℕ, zero, suc, ◌+◌, ◌-◌, ◌*◌, ◌%◌, ◌^◌, ◌<◌, ◌≤◌, Bool, true, false, not, List, [], ◌∷◌, ◌++◌, length, get_or, replicate, refl, sym, ap, ◌∙◌, arith, None}
use Rattle.std.proofs.lemmas.Bool.{and_from, and_left, and_parts, eqb-true, true≢false}
use Rattle.std.proofs.lemmas.Int.{ints}
use Rattle.std.proofs.lemmas.List.{append-nil, length-replicate, replicate-append-replicate, set-get_or}
use Rattle.std.proofs.Math.Nat.{pow-le-pow_right}
use Rattle.jbig2_base.specs.Grid.{Grid, same_colour}
use Rattle.jbig2_base.specs.Bits.{bit, bit_number}
use Rattle.jbig2_base.specs.Writes.{with_pixel, with_pixels}
use Rattle.jbig2_coder.specs.Coder.{Coder, Context, Decision, Registers, decision, fresh, is_quiet, all_quiet}
use Rattle.jbig2_coder.specs.QeTable.{qe_row}
use Rattle.jbig2_coder.proofs.Runs.{is_quiet-decision}
use Rattle.jbig2_region.specs.Generic.{context_at}
use Rattle.jbig2_region.specs.inner.RegionStates.{HasDecoded, region_state}
use Rattle.jbig2_region.specs.inner.LongRuns.{is_run_for}
use Rattle.jbig2_region.specs.inner.Neighbours.{row_coding}
use Rattle.jbig2_region.specs.Raster.{Region, so_far, with_next, after_pixel}
use Rattle.jbig2_region.specs.inner.Rows.{after_pixels}
use Rattle.jbig2_region.specs.Steps.{all_of, has_all, keeps_context, is_run_of}
use Rattle.jbig2_region.specs.inner.RowCounts.{run_bytes}
use Rattle.jbig2_region.specs.declared.template.AdaptiveTemplatePixel.{AdaptiveTemplatePixel}
use Rattle.jbig2_region.proofs.CountLemmas.{byte-runs, runs-add}
use Rattle.jbig2_region.proofs.RasterLemmas.{after_pixel-at, so_far-push}
use Rattle.jbig2_region.proofs.RunLemmas.{stays-context, stays-from, stays-gives}
use Rattle.jbig2_region.proofs.StoreLemmas.{stored-push, stored-inside, none-stored, white-next, width-so_far, height-so_far}
use Rattle.jbig2_region.proofs.UniformLemmas.{full, full-bit, full-black, full-white}
use Rattle.jbig2_region.proofs.WindowLemmas.{pixel-inside}
use Rattle.jbig2_region.specs.inner.Windows.{IsLeft}

-- the registers once A has fallen
abbrev pub lowered : Registers → ℕ → Registers
lowered s by = record { a = s.a - by; code = s.code }

pub no-fall : (s : Registers) (qe : ℕ) → s ≡ lowered s (0 * qe)
no-fall s qe =
    let same : s.a ≡ s.a - 0 * qe = omega arith in
    ap (λ (a : ℕ). let q : Registers = record { a = a; code = s.code } in q) same

more-fallen : (a qe k : ℕ) → a - k * qe - qe ≡ a - suc k * qe
more-fallen a qe k =
    let next : suc k * qe ≡ k * qe + qe = omega arith in
    omega arith

-- each decision of a quiet run is quiet
quiet-at : (n : ℕ) (bytes : List ℕ) (s : Registers) (x : Context) (k : ℕ) → all_quiet n bytes s x ≡ true → k < n → is_quiet (lowered s (k * (qe_row x.row).qe)) x ≡ true
unfolding all_quiet
quiet-at zero bytes s x k all inside = absurd (omega arith)
quiet-at (suc n) bytes s x zero all inside =
    let same : s.a ≡ s.a - 0 * (qe_row x.row).qe = omega arith in
    ap (λ (a : ℕ). let q : Registers = record { a = a; code = s.code } in is_quiet q x) (sym same) ∙ (and_parts _ _ all).0
quiet-at (suc n) bytes s x (suc k) all inside =
    let qe : ℕ = (qe_row x.row).qe in
    let parts = and_parts (is_quiet s x) _ all in
    let next = is_quiet-decision bytes s x parts.0 in
    let rest : all_quiet n bytes (lowered s qe) x ≡ true = subst (λ (d : Decision). all_quiet n bytes d.registers d.context ≡ true) next parts.1 in
    let same : s.a - qe - k * qe ≡ s.a - suc k * qe = fallen s.a qe k in
    ap (λ (a : ℕ). let q : Registers = record { a = a; code = s.code } in is_quiet q x) (sym same) ∙ quiet-at n bytes (lowered s qe) x k rest (omega arith)
  where
    fallen : (a qe k : ℕ) → a - qe - k * qe ≡ a - suc k * qe
    fallen a qe k =
        let next : suc k * qe ≡ k * qe + qe = omega arith in
        omega arith

-- the first decisions of a quiet run, and the others
quiet-first : (n m : ℕ) (bytes : List ℕ) (s : Registers) (x : Context) → all_quiet (n + m) bytes s x ≡ true → all_quiet n bytes s x ≡ true
unfolding all_quiet
quiet-first zero m bytes s x all = refl
quiet-first (suc n) m bytes s x all =
    let place : suc n + m ≡ suc (n + m) = omega arith in
    let parts = and_parts (is_quiet s x) _ (sym (ap (λ (k : ℕ). all_quiet k bytes s x) place) ∙ all) in
    and_from _ _ parts.0 (quiet-first n m bytes _ _ parts.1)

quiet-rest : (n m : ℕ) (bytes : List ℕ) (s : Registers) (x : Context) → all_quiet (n + m) bytes s x ≡ true → all_quiet m bytes (lowered s (n * (qe_row x.row).qe)) x ≡ true
unfolding all_quiet
quiet-rest zero m bytes s x all =
    let place : 0 + m ≡ m = omega arith in
    ap (λ (q : Registers). all_quiet m bytes q x) (sym (no-fall s (qe_row x.row).qe)) ∙ sym (ap (λ (k : ℕ). all_quiet k bytes s x) place) ∙ all
quiet-rest (suc n) m bytes s x all =
    let qe : ℕ = (qe_row x.row).qe in
    let place : suc n + m ≡ suc (n + m) = omega arith in
    let parts = and_parts (is_quiet s x) _ (sym (ap (λ (k : ℕ). all_quiet k bytes s x) place) ∙ all) in
    let next = is_quiet-decision bytes s x parts.0 in
    let rest : all_quiet (n + m) bytes (lowered s qe) x ≡ true = subst (λ (d : Decision). all_quiet (n + m) bytes d.registers d.context ≡ true) next parts.1 in
    let same : s.a - qe - n * qe ≡ s.a - suc n * qe = fallen s.a qe n in
    ap (λ (a : ℕ). let q : Registers = record { a = a; code = s.code } in all_quiet m bytes q x) (sym same) ∙ quiet-rest n m bytes (lowered s qe) x rest
  where
    fallen : (a qe k : ℕ) → a - qe - k * qe ≡ a - suc k * qe
    fallen a qe k =
        let next : suc k * qe ≡ k * qe + qe = omega arith in
        omega arith

full-next : (k : ℕ) (c : Bool) → full k c * 2 + bit_number c ≡ full (suc k) c
full-next k c = omega arith

-- pixels of one colour, stored
pub run-grid : (w h : ℕ) (bits : List Bool) (g : Grid) (c : Bool) (x y k : ℕ) → g ≡ so_far w h bits → length bits ≡ y * w + x → x + k ≤ w → y < h → with_pixels g x y k (full k c) ≡ so_far w h (bits ++ replicate k c)
run-grid w h bits g c x y zero made len left above = none-stored w h bits g x y 0 made ∙ made ∙ ap (λ (l : List Bool). so_far w h l) (sym (append-nil bits))
run-grid w h bits g c x y (suc k) made len left above =
    let old : Grid = with_pixels g x y k (full k c) in
    let before : old ≡ so_far w h (bits ++ replicate k c) = run-grid w h bits g c x y k made len (omega arith) above in
    let size : length (bits ++ replicate k c) ≡ y * w + (x + k) = length-append bits (replicate k c) ∙ rw (length-replicate k c, len) (omega arith) in
    let wide : g.width ≡ w = ap (λ (q : Grid). q.width) made ∙ width-so_far w h bits in
    let high : g.height ≡ h = ap (λ (q : Grid). q.height) made ∙ height-so_far w h bits in
    let next : k + 1 ≡ suc k = omega arith in
    let list : (bits ++ replicate k c) ++ c ∷ [] ≡ bits ++ replicate (suc k) c = append_assoc bits (replicate k c) (c ∷ []) ∙ ap (λ (l : List Bool). bits ++ l) (replicate-append-replicate k 1 c ∙ ap (λ (n : ℕ). replicate n c) next) in
    ap (λ (n : ℕ). with_pixels g x y n (full (suc k) c)) (sym next)
    ∙ ap (λ (b : ℕ). with_pixels g x y (k + 1) b) (sym (full-next k c))
    ∙ stored-push g x y k (full k c) (bit_number c) c refl (omega arith) (omega arith) (white-next w h (bits ++ replicate k c) old (x + k) y before size (omega arith) above)
    ∙ ap (λ (q : Grid). with_pixel q (x + k) y c) before
    ∙ so_far-push w h (bits ++ replicate k c) (x + k) y c size (omega arith) above
    ∙ ap (λ (l : List Bool). so_far w h l) list

same-symbol : (c b : Bool) → same_colour c b ≡ true → b ≡ c
same-symbol true true e = refl
same-symbol true false e = e
same-symbol false true e = sym e
same-symbol false false e = refl

-- a region once k pixels of a run are decoded
abbrev pub ran : List AdaptiveTemplatePixel → Bool → ℕ → Region → Region
ran template c k r = record { pixels = r.pixels ++ replicate k c; predicted = false; registers = lowered r.registers (k * (qe_row (get_or r.contexts (all_of template c) fresh).row).qe); contexts = r.contexts }

pub run-length : (bits : List Bool) (c : Bool) (k y w x : ℕ) → length bits ≡ y * w + x → length (bits ++ replicate k c) ≡ y * w + (x + k)
run-length bits c k y w x len = length-append bits (replicate k c) ∙ rw (length-replicate k c, len) (omega arith)

-- a quiet decision on the region so far
ran-next : (template : List AdaptiveTemplatePixel) (c : Bool) (input : List ℕ) (k : ℕ) (r : Region) → is_quiet (ran template c k r).registers (get_or r.contexts (all_of template c) fresh) ≡ true → same_colour c (get_or r.contexts (all_of template c) fresh).likely ≡ true → with_next input (ran template c k r) (all_of template c) None ≡ ran template c (suc k) r
unfolding with_next
ran-next template c input k r quiet colour =
    let read : Context = get_or r.contexts (all_of template c) fresh in
    let q : Registers = (ran template c k r).registers in
    let decided = is_quiet-decision input q read quiet in
    let next : k + 1 ≡ suc k = omega arith in
    let symbol : (decision input q read).symbol ≡ c = ap (λ (d : Decision). d.symbol) decided ∙ same-symbol c read.likely colour in
    let list : (r.pixels ++ replicate k c) ++ (decision input q read).symbol ∷ [] ≡ r.pixels ++ replicate (suc k) c =
    ap (λ (b : Bool). (r.pixels ++ replicate k c) ++ b ∷ []) symbol ∙ append_assoc r.pixels (replicate k c) (c ∷ []) ∙ ap (λ (l : List Bool). r.pixels ++ l) (replicate-append-replicate k 1 c ∙ ap (λ (n : ℕ). replicate n c) next) in
    let fall : (decision input q read).registers ≡ lowered r.registers (suc k * (qe_row read.row).qe) =
    ap (λ (d : Decision). d.registers) decided ∙ ap (λ (a : ℕ). let t : Registers = record { a = a; code = r.registers.code } in t) (more-fallen r.registers.a (qe_row read.row).qe k) in
    let states : set r.contexts (all_of template c) (decision input q read).context ≡ r.contexts = ap (λ (d : Decision). set r.contexts (all_of template c) d.context) decided ∙ set-get_or r.contexts (all_of template c) fresh in
    λ i. record { pixels = list i; predicted = false; registers = fall i; contexts = states i }

run-facts : (template : List AdaptiveTemplatePixel) (c : Bool) (w h : ℕ) (input : List ℕ) (m : ℕ) (r : Region) → is_run_for template w h input r c m ≡ true
    → (keeps_context template w h c m r.pixels ≡ true) × ((same_colour c (get_or r.contexts (all_of template c) fresh).likely ≡ true) × (all_quiet m input r.registers (get_or r.contexts (all_of template c) fresh) ≡ true))
unfolding is_run_for
run-facts template c w h input m r is =
    let one = and_parts (keeps_context template w h c m r.pixels) _ is in
    let two = and_parts (same_colour c (get_or r.contexts (all_of template c) fresh).likely) _ one.1 in
    (one.0, (two.0, two.1))

pub run-region : (template : List AdaptiveTemplatePixel) (c : Bool) (w h : ℕ) (input : List ℕ) (x y k m : ℕ) (r : Region) → k ≤ m → length r.pixels ≡ y * w + x → x + m < w → y < h → r.predicted ≡ false → is_run_for template w h input r c m ≡ true
    → after_pixels (row_coding template) w h input k r ≡ ran template c k r
unfolding after_pixels
run-region template c w h input x y zero m r few len left above predicted is =
    let qe : ℕ = (qe_row (get_or r.contexts (all_of template c) fresh).row).qe in
    λ i. record { pixels = sym (append-nil r.pixels) i; predicted = predicted i; registers = no-fall r.registers qe i; contexts = r.contexts }
run-region template c w h input x y (suc k) m r few len left above predicted is =
    let at : Region = ran template c k r in
    let parts = run-facts template c w h input m r is in
    let context : context_at template (so_far w h at.pixels) (x + k) y ≡ all_of template c = stays-context template w h c r.pixels x y k m len left (omega arith) parts.0 in
    ap (λ (q : Region). after_pixel (row_coding template) w h input q) (run-region template c w h input x y k m r (omega arith) len left above predicted is)
    ∙ after_pixel-at (row_coding template) w h input at (so_far w h at.pixels) false (x + k) y (run-length r.pixels c k y w x len) (omega arith) refl refl
    ∙ ap (λ (n : ℕ). with_next input at n None) context
    ∙ ran-next template c input k r (quiet-at m input r.registers (get_or r.contexts (all_of template c) fresh) k parts.1.1 (omega arith)) parts.1.0

pub run-has_decoded : (template : List AdaptiveTemplatePixel) (c : Bool) (g : Grid) (d d' : Coder) (s : List Context) (w h : ℕ) (input : List ℕ) (x y m : ℕ) (r : Region) → length r.pixels ≡ y * w + x → x + m < w → y < h → r.predicted ≡ false → HasDecoded w h input r (region_state g d s)
    → is_run_for template w h d.bytes r c m ≡ true → d' ≡ record d { registers = record d.registers { a = d.registers.a - m * (qe_row (get_or s (all_of template c) fresh).row).qe } }
    → HasDecoded w h input (after_pixels (row_coding template) w h input m r) (region_state (with_pixels g x y m (full m c)) d' s)
run-has_decoded template c g d d' s w h input x y m r len left above predicted has_decoded is after =
    let same : get_or s (all_of template c) fresh ≡ get_or r.contexts (all_of template c) fresh = ap (λ (l : List Context). get_or l (all_of template c) fresh) has_decoded.contexts in
    let run : is_run_for template w h input r c m ≡ true = subst (λ (l : List ℕ). is_run_for template w h l r c m ≡ true) has_decoded.bytes is in
    subst (λ (q : Region). HasDecoded w h input q (region_state (with_pixels g x y m (full m c)) d' s)) (sym (run-region template c w h input x y m m r (omega arith) len left above predicted run))
    (record {
      pixels = run-grid w h r.pixels g c x y m has_decoded.pixels len (omega arith) above;
      bytes = ap (λ (q : Coder). q.bytes) after ∙ has_decoded.bytes;
      registers = ap (λ (q : Coder). q.registers) after ∙ ap (λ (q : Context). lowered d.registers (m * (qe_row q.row).qe)) same ∙ ap (λ (q : Registers). lowered q (m * (qe_row (get_or r.contexts (all_of template c) fresh).row).qe)) has_decoded.registers;
      contexts = has_decoded.contexts;
    })

-- ---- each byte of a run
stays-part : (template : List AdaptiveTemplatePixel) (w h : ℕ) (c : Bool) (n m all : ℕ) (bits : List Bool) → n + m ≤ all → keeps_context template w h c all bits ≡ true → keeps_context template w h c m (bits ++ replicate n c) ≡ true
stays-part template w h c n m all bits within is =
    stays-from template w h c m (bits ++ replicate n c) (λ k le.
    let list : (bits ++ replicate n c) ++ replicate k c ≡ bits ++ replicate (n + k) c = append_assoc bits (replicate n c) (replicate k c) ∙ ap (λ (l : List Bool). bits ++ l) (replicate-append-replicate n k c) in
    ap (λ (l : List Bool). has_all template w h c l) list ∙ stays-gives template w h c all bits (n + k) is (omega arith))

run-byte : (template : List AdaptiveTemplatePixel) (c : Bool) (w h : ℕ) (input : List ℕ) (n m rest : ℕ) (r : Region) → m ≡ n + (8 + rest) → is_run_for template w h input r c m ≡ true → is_run_of template w h input (ran template c n r) c ≡ true
unfolding is_run_of is_run_for
run-byte template c w h input n m rest r sum is =
    let read : Context = get_or r.contexts (all_of template c) fresh in
    let one = and_parts (keeps_context template w h c m r.pixels) _ is in
    let two = and_parts (same_colour c read.likely) _ one.1 in
    let quiet : all_quiet (n + (8 + rest)) input r.registers read ≡ true = subst (λ (k : ℕ). all_quiet k input r.registers read ≡ true) sum two.1 in
    and_from _ _ (stays-part template w h c n 8 m r.pixels (omega arith) one.0)
    (and_from _ _ two.0 (quiet-first 8 rest input (lowered r.registers (n * (qe_row read.row).qe)) read (quiet-rest n (8 + rest) input r.registers read quiet)))

-- no context is all black and all white
colours-apart : (size : ℕ) (c : Bool) → 1 ≤ size → full size c ≡ full size (not c) → ⊥
colours-apart size true some same = apart size some (sym (full-black size) ∙ same ∙ full-white size)
  where
    apart : (size : ℕ) → 1 ≤ size → 2 ^ size - 1 ≡ 0 → ⊥
    apart size some e =
        let up : 2 ^ 1 ≤ 2 ^ size = pow-le-pow_right (omega arith) some in
        omega arith
colours-apart size false some same = apart size some (sym (full-black size) ∙ sym same ∙ full-white size)
  where
    apart : (size : ℕ) → 1 ≤ size → 2 ^ size - 1 ≡ 0 → ⊥
    apart size some e =
        let up : 2 ^ 1 ≤ 2 ^ size = pow-le-pow_right (omega arith) some in
        omega arith

other-run : (template : List AdaptiveTemplatePixel) (c : Bool) (w h : ℕ) (input : List ℕ) (q : Region) → 1 ≤ length template → is_run_of template w h input q c ≡ true → is_run_of template w h input q (not c) ≡ false
unfolding is_run_of has_all
other-run template c w h input q some is =
    and_left _ _ (is-false (keeps_context template w h (not c) 8 q.pixels) (λ both.
    let one = eqb-true _ _ (here c (and_parts (keeps_context template w h c 8 q.pixels) _ is).0) in
    let two = eqb-true _ _ (here (not c) both) in
    colours-apart (length template) c some (sym one ∙ two)))
  where
    is-false : (t : Bool) → (t ≡ true → ⊥) → t ≡ false
    is-false true f = absurd (f refl)
    is-false false f = refl

    here : (b : Bool) → keeps_context template w h b 8 q.pixels ≡ true → has_all template w h b q.pixels ≡ true
    here b all = ap (λ (l : List Bool). has_all template w h b l) (sym (append-nil q.pixels)) ∙ stays-gives template w h b 8 q.pixels 0 all (omega arith)

pub run-counts : (template : List AdaptiveTemplatePixel) (c : Bool) (w h : ℕ) (input : List ℕ) (x y n m rest : ℕ) (r : Region) → m ≡ 8 * n + rest → 1 ≤ length template → length r.pixels ≡ y * w + x → x % 8 ≡ 0 → x + m < w → y < h → r.predicted ≡ false → is_run_for template w h input r c m ≡ true → run_bytes template w h input (8 * n) r ≡ n
unfolding run_bytes
run-counts template c w h input x y zero m rest r sum some len even left above predicted is = refl
run-counts template c w h input x y (suc n) m rest r sum some len even left above predicted is =
    let next : 8 * suc n ≡ 8 * n + 8 = omega arith in
    let q : Region = ran template c (8 * n) r in
    let byte : is_run_of template w h input q c ≡ true = run-byte template c w h input (8 * n) m rest r (omega arith) is in
    let one : run_bytes template w h input 8 q ≡ 1 = byte-runs template w h input q (x + 8 * n) y c true (run-length r.pixels c (8 * n) y w x len) (omega arith) (omega arith) (other-run template c w h input q some byte) byte in
    ap (λ (k : ℕ). run_bytes template w h input k r) next ∙ runs-add template w h input (8 * n) 8 r
    ∙ rw (run-region template c w h input x y (8 * n) m r (omega arith) len left above predicted is, one, run-counts template c w h input x y n m (8 + rest) r (omega arith) some len even left above predicted is) (omega arith)

pub left-run : (g : Grid) (x y m : ℕ) (c : Bool) → 4 ≤ m → x + m ≤ g.width → y < g.height → IsLeft (with_pixels g x y m (full m c)) (x + m) y (full 4 c)
left-run g x y m c long left above = λ k inside.
    let column : pos (x + m) -ℤ pos (k + 1) ≡ pos (x + (m - 1 - k)) = omega (arith, ints) in
    let place : x + m - 1 - (x + (m - 1 - k)) ≡ k = omega arith in
    full-bit 4 k c inside
    ∙ sym (pixel-inside (with_pixels g x y m (full m c)) (pos (x + m) -ℤ pos (k + 1)) (pos y) (x + (m - 1 - k)) y column refl
    ∙ stored-inside g x y m (full m c) (x + (m - 1 - k)) (omega arith) (omega arith) left above ∙ ap (λ (n : ℕ). bit (full m c) n) place ∙ full-bit m k c (omega arith))

pub other-colour : (b : Bool) → not b ≡ b → ⊥
other-colour true e = absurd (true≢false (sym e))
other-colour false e = absurd (true≢false e)
