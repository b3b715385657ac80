-- A row mode by mode, and a bitmap row by row.
use Rattle.std.proofs.Common.{◌≡◌, ℕ, zero, suc, ◌+◌, ◌-◌, ◌/◌, ◌<◌, ◌≤◌, leb, ltb, Bool, false, cond, ◌&&◌, List, [], ◌++◌, length, Ok, sym, ◌∙◌, ap, ⊎_elim, append_assoc, append-nil, arith, lt-ltb, le-ltb, le-leb}
use Rattle.std.proofs.lemmas.Bool.{cases_lt, cond-true, cond-false, lt-leb}
use Rattle.jbig2_base.specs.Grid.{Grid, IsTable, pixel_at}
use Rattle.jbig2_base.proofs.GridLemmas.{pixel_at-right}
use Rattle.jbig2_mmr.specs.T6.{Head, mmr_rows, row_start}
use Rattle.jbig2_mmr.specs.inner.T6Reading.{row_above, pixels_of_row}
use Rattle.jbig2_inverses.specs.MmrWriter.{mmr_bits, mmr_bytes, packed, rows_bits}
use Rattle.jbig2_inverses.specs.Digits.{digits}
use Rattle.jbig2_inverses.specs.MmrRowWriter.{bits_from, code_of, row_bits}
use Rattle.jbig2_inverses.proofs.BitmapInverse.{bitmaps_read_back}
use Rattle.jbig2_mmr_writer.specs.Written.{ReadsBack}

-- ---- a row
pub row-begins : (w : ℕ) (above meant pixels : ℕ → Bool) (h : Head) (old : List ℕ) → ((x : ℕ) → above x ≡ meant x) → h ≡ row_start
    → old ++ bits_from w above pixels (w + 1 - 0) h ≡ old ++ row_bits w meant pixels
unfolding row_bits
row-begins w above meant pixels h old same start =
    let rows : above ≡ meant = λ i x. same x i in
    let most : w + 1 - 0 ≡ w + 1 = omega arith in
    ap (λ (n : ℕ). old ++ bits_from w above pixels n h) most
    ∙ ap (λ (s : Head). old ++ bits_from w above pixels (w + 1) s) start
    ∙ ap (λ (row : ℕ → Bool). old ++ bits_from w row pixels (w + 1) row_start) rows

pub row-goes : (w : ℕ) (above pixels : ℕ → Bool) (h next : Head) (done : ℕ) (all old new : List ℕ) → done < w + 1 → h.a0 < w
    → new ≡ old ++ (code_of w above pixels h).bits → next ≡ (code_of w above pixels h).head
    → old ++ bits_from w above pixels (w + 1 - done) h ≡ all → new ++ bits_from w above pixels (w + 1 - (done + 1)) next ≡ all
unfolding bits_from
row-goes w above pixels h next done all old new more inside bits head before =
    let code = code_of w above pixels h in
    let left : ℕ = w + 1 - (done + 1) in
    let count : w + 1 - done ≡ suc (w + 1 - (done + 1)) = omega (arith, more) in
    let rest : List ℕ = code.bits ++ bits_from w above pixels left code.head in
    let opened : bits_from w above pixels (suc left) h ≡ rest = cond-false (leb w h.a0) [] rest (lt-leb w h.a0 inside) in
    ap (λ (t : List ℕ). t ++ bits_from w above pixels left next) bits
    ∙ ap (λ (s : Head). (old ++ code.bits) ++ bits_from w above pixels left s) head
    ∙ append_assoc old code.bits (bits_from w above pixels left code.head)
    ∙ ap (λ (t : List ℕ). old ++ t) (sym opened)
    ∙ ap (λ (n : ℕ). old ++ bits_from w above pixels n h) (sym count)
    ∙ before

pub row-ends : (w : ℕ) (above pixels : ℕ → Bool) (h : Head) (n : ℕ) (all old : List ℕ) → w ≤ h.a0 → old ++ bits_from w above pixels n h ≡ all → old ≡ all
unfolding bits_from
row-ends w above pixels h zero all old past before = sym (append-nil old) ∙ before
row-ends w above pixels h (suc n) all old past before =
    let code = code_of w above pixels h in
    let rest : List ℕ = code.bits ++ bits_from w above pixels n code.head in
    sym (append-nil old) ∙ ap (λ (t : List ℕ). old ++ t) (sym (cond-true (leb w h.a0) [] rest (le-leb w h.a0 past))) ∙ before

pub row-out : (w : ℕ) (above pixels : ℕ → Bool) (h : Head) (n : ℕ) (all old : List ℕ) → n ≡ 0 → old ++ bits_from w above pixels n h ≡ all → old ≡ all
unfolding bits_from
row-out w above pixels h n all old none before = sym (append-nil old) ∙ ap (λ (k : ℕ). old ++ bits_from w above pixels k h) (sym none) ∙ before

-- ---- the rows
module _ (g : Grid) where
  abbrev pub rows_from : ℕ → List ℕ  -- row y and those below it
  rows_from y = rows_bits g.width (pixel_at g) (g.height - y) y (row_above g y)

  abbrev pub all_rows : List ℕ
  all_rows = rows_bits g.width (pixel_at g) g.height 0 (λ x. false)

  pub rows-begin : (old : List ℕ) → old ≡ [] → old ++ rows_from 0 ≡ all_rows
  rows-begin old none =
      let count : g.height - 0 ≡ g.height = omega arith in
      ap (λ (t : List ℕ). t ++ rows_from 0) none ∙ ap (λ (n : ℕ). rows_bits g.width (pixel_at g) n 0 (λ x. false)) count

  below : (y x : ℕ) → row_above g (y + 1) x ≡ (ltb x g.width && pixel_at g x y)
  below y x =
      let next : y + 1 ≡ suc y = omega arith in
      ap (λ (k : ℕ). row_above g k x) next
      ∙ ⊎_elim
      (λ (inside : x < g.width). ap (λ (b : Bool). b && pixel_at g x y) (sym (lt-ltb x g.width inside)))
      (λ (right : g.width ≤ x). pixel_at-right g x y right ∙ ap (λ (b : Bool). b && pixel_at g x y) (sym (le-ltb x g.width right)))
      (cases_lt x g.width)

  pub rows-go : (y : ℕ) (all old new : List ℕ) → y < g.height → new ≡ old ++ row_bits g.width (row_above g y) (pixels_of_row g y) → old ++ rows_from y ≡ all → new ++ rows_from (y + 1) ≡ all
  unfolding rows_bits
  rows-go y all old new inside bits before =
      let count : g.height - y ≡ suc (g.height - (y + 1)) = omega (arith, inside) in
      let row : List ℕ = row_bits g.width (row_above g y) (pixels_of_row g y) in
      let left : ℕ = g.height - (y + 1) in
      let above : row_above g (y + 1) ≡ (λ x. ltb x g.width && pixel_at g x y) = λ i x. below y x i in
      ap (λ (t : List ℕ). t ++ rows_from (y + 1)) bits
      ∙ append_assoc old row (rows_from (y + 1))
      ∙ ap (λ (f : ℕ → Bool). old ++ (row ++ rows_bits g.width (pixel_at g) left (y + 1) f)) above
      ∙ ap (λ (n : ℕ). old ++ rows_bits g.width (pixel_at g) n y (row_above g y)) (sym count)
      ∙ before

  pub rows-end : (y : ℕ) (all old : List ℕ) → g.height ≤ y → old ++ rows_from y ≡ all → old ≡ all
  unfolding rows_bits
  rows-end y all old past before =
      let count : g.height - y ≡ 0 = omega (arith, past) in
      sym (append-nil old) ∙ ap (λ (n : ℕ). old ++ rows_bits g.width (pixel_at g) n y (row_above g y)) (sym count) ∙ before

  -- ---- the bytes
  pub bytes-are : (ends : Bool) (items rows bits : List ℕ) → rows ≡ all_rows → bits ≡ rows ++ cond ends (digits 24 0x001001) [] → items ≡ packed ((length bits + 7) / 8) bits
      → items ≡ mmr_bytes ends g.width g.height (pixel_at g)
  unfolding mmr_bytes mmr_bits digits
  bytes-are ends items rows bits is_rows is_bits is =
      is ∙ ap (λ (l : List ℕ). packed ((length l + 7) / 8) l) (is_bits ∙ ap (λ (l : List ℕ). l ++ cond ends (digits 24 0x001001) []) is_rows)

  -- what is read of them
  pub reads-back : (ends : Bool) (items : List ℕ) → IsTable g → items ≡ mmr_bytes ends g.width g.height (pixel_at g) → ReadsBack g items
  reads-back ends items table is = λ strict wide high.
      ap (λ (bytes : List ℕ). mmr_rows strict g.width g.height bytes) is
      ∙ bitmaps_read_back strict ends g.width g.height (pixel_at g) wide high
      ∙ (λ i. Ok (record { grid = sym table i; used = length (sym is i) }))
