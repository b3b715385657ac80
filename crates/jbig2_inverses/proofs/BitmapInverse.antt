-- Bitmaps by MMR are read back.
use Rattle.std.proofs.Common.{◌≡◌, ℕ, zero, suc, ◌+◌, ◌-◌, ◌*◌, ◌/◌, ◌<◌, ◌≤◌, eqb, ltb, leb, Bool, true, false, cond, not, ◌&&◌, ◌||◌, List, [], ◌∷◌, ◌++◌, length, length-append, take, drop, get_or, replicate, Option, Some, None, Result, Ok, Err, refl, sym, ◌∙◌, ap, subst, arith, ne_eqb, lt-ltb, le-leb, append_assoc, append-nil}
use Rattle.std.specs.Prelude.{codes}
use Rattle.std.specs.List.{flat_map}
use Rattle.std.proofs.lemmas.Bool.{cond-true, cond-false, and_left, and_right, and_from, or_from, lt-leb}
use Rattle.std.proofs.lemmas.List.{length-replicate}
use Rattle.jbig2_base.specs.Bits.{byte_bits, number_after}
use Rattle.jbig2_base.specs.Grid.{Grid, grid_of}
use Rattle.jbig2_base.specs.declared.error.DecodeError.{DecodeError}
use Rattle.jbig2_base.specs.declared.error.DecodeError.TheVariants.{Region}
use Rattle.jbig2_base.specs.declared.error.RegionError.TheVariants.{InvalidMmrData}
use Rattle.jbig2_base.specs.inner.BitLists.{AreBits}
use Rattle.jbig2_base.proofs.GridLemmas.{grid_of-ext}
use Rattle.jbig2_mmr.specs.T6Codes.{word}
use Rattle.jbig2_mmr.specs.T6.{Rows, row, pixel_of, black_at, ends_block, bits_of, rows_from, rows_of, grid_of_rows, DecodedRows, mmr_rows}
use Rattle.jbig2_inverses.specs.MmrRowWriter.{row_bits}
use Rattle.jbig2_inverses.specs.MmrWriter.{rows_bits, packed, mmr_bits, mmr_bytes, BitmapsAreShort, BitmapsReadBack}
use Rattle.jbig2_inverses.proofs.Packing.{length-packed, packed-bits}
use Rattle.jbig2_inverses.proofs.RowBits.{are-bits, bits-both}
use Rattle.jbig2_inverses.proofs.RowInverse.{reads-row, row-are-bits, row-length, row-no_end}

-- what is left after all rows
abbrev after_rows : List ℕ → List ℕ
after_rows bits = cond (ends_block bits) (drop 24 bits) bits

next-row : (n w : ℕ) (above : List ℕ) (done : List (List ℕ)) (bits changes left : List ℕ) → ends_block bits ≡ false → row w (pixel_of w above) bits ≡ Some (changes, left)
    → rows_from (suc n) w above done bits ≡ rows_from n w changes (done ++ changes ∷ []) left
unfolding rows_from
next-row n w above done bits changes left more e =
    let fault : Rows = record { rows = done; whole = false; left = [] } in
    let ended : Rows = record { rows = done; whole = false; left = drop 24 bits } in
    let goes_on : Option (List ℕ × List ℕ) → Rows = λ o. elim o [
      | None ↦ fault
      | Some (cs, bs) ↦ rows_from n w cs (done ++ cs ∷ []) bs
    ] in
    cond-false (ends_block bits) ended (goes_on (row w (pixel_of w above) bits)) more ∙ ap goes_on e

no-rows : (w : ℕ) (above : List ℕ) (done : List (List ℕ)) (bits : List ℕ) → rows_from zero w above done bits ≡ record { rows = done; whole = true; left = after_rows bits }
unfolding rows_from
no-rows w above done bits = refl

module _ (w : ℕ) (pixels : ℕ → ℕ → Bool) (some : 0 < w) where
  rows-next : (n y : ℕ) (above : ℕ → Bool) → rows_bits w pixels (suc n) y above ≡ row_bits w above (λ x. pixels x y) ++ rows_bits w pixels n (y + 1) (λ x. ltb x w && pixels x y)
  unfolding rows_bits
  rows-next n y above = refl

  rows-none : (y : ℕ) (above : ℕ → Bool) → rows_bits w pixels zero y above ≡ []
  unfolding rows_bits
  rows-none y above = refl

  reads-rows : (n y : ℕ) (above : List ℕ) (seen : ℕ → Bool) (done : List (List ℕ)) (rest : List ℕ) → pixel_of w above ≡ seen
      → (rows : List (List ℕ)) × (rows_from n w above done (rows_bits w pixels n y seen ++ rest) ≡ record { rows = done ++ rows; whole = true; left = after_rows rest })
      × ((i x : ℕ) → i < n → x < w → black_at (get_or rows i []) x ≡ pixels x (y + i))
  reads-rows zero y above seen done rest e = (
    [],
    ap (λ (b : List ℕ). rows_from zero w above done (b ++ rest)) (rows-none y seen)
        ∙ no-rows w above done rest
        ∙ ap (λ (d : List (List ℕ)). record { rows = d; whole = true; left = after_rows rest }) (sym (append-nil done)),
    λ i x inside left. absurd (omega (arith, inside)),
  )
  reads-rows (suc n) y above seen done rest e =
      let these = λ (x : ℕ). pixels x y in
      let now : ℕ → Bool = λ x. ltb x w && pixels x y in
      let first = row_bits w seen these in
      let others = rows_bits w pixels n (y + 1) now in
      let split : rows_bits w pixels (suc n) y seen ++ rest ≡ first ++ (others ++ rest) = ap (λ (b : List ℕ). b ++ rest) (rows-next n y seen) ∙ append_assoc first others rest in
      let r = reads-row w seen these (others ++ rest) in
      let changes = r.0 in
      let read : row w (pixel_of w above) (first ++ (others ++ rest)) ≡ Some (changes, others ++ rest) = ap (λ (f : ℕ → Bool). row w f (first ++ (others ++ rest))) e ∙ r.1 in
      let known : pixel_of w changes ≡ now = λ i x. r.2 x i in
      let ih = reads-rows n (y + 1) changes now (done ++ changes ∷ []) rest known in (
        changes ∷ ih.0,
        ap (λ (b : List ℕ). rows_from (suc n) w above done b) split
            ∙ next-row n w above done (first ++ (others ++ rest)) changes (others ++ rest) (row-no_end w seen these some (others ++ rest)) read
            ∙ ih.1
            ∙ ap (λ (d : List (List ℕ)). record { rows = d; whole = true; left = after_rows rest }) (append_assoc done (changes ∷ []) ih.0),
        at changes r.2 ih.0 ih.2,
      )
    where
      at : (changes : List ℕ) → ((x : ℕ) → pixel_of w changes x ≡ (ltb x w && pixels x y)) → (rows : List (List ℕ)) → ((i x : ℕ) → i < n → x < w → black_at (get_or rows i []) x ≡ pixels x (y + 1 + i))
          → (i x : ℕ) → i < suc n → x < w → black_at (get_or (changes ∷ rows) i []) x ≡ pixels x (y + i)
      at changes this rows later zero x inside left =
          let t = lt-ltb x w left in
          let same : y ≡ y + 0 = omega arith in
          sym (ap (λ (b : Bool). b && black_at changes x) t) ∙ this x ∙ ap (λ (b : Bool). b && pixels x y) t ∙ ap (λ (j : ℕ). pixels x j) same
      at changes this rows later (suc i) x inside left =
          let same : y + 1 + i ≡ y + suc i = omega arith in later i x (omega (arith, inside)) left ∙ ap (λ (j : ℕ). pixels x j) same

  rows-are-bits : (n y : ℕ) (seen : ℕ → Bool) → AreBits (rows_bits w pixels n y seen)
  unfolding rows_bits AreBits
  rows-are-bits zero y seen = tt
  rows-are-bits (suc n) y seen =
      bits-both (row_bits w seen (λ x. pixels x y)) (rows_bits w pixels n (y + 1) (λ x. ltb x w && pixels x y)) (row-are-bits w seen (λ x. pixels x y)) (rows-are-bits n (y + 1) (λ x. ltb x w && pixels x y))

-- ---- the end of the data
abbrev end_bits : Bool → List ℕ
end_bits ends = cond ends (word (codes "000000000001000000000001")) []

end-are-bits : (ends : Bool) → AreBits (end_bits ends)
unfolding AreBits
end-are-bits true = are-bits (word (codes "000000000001000000000001")) refl
end-are-bits false = tt

-- what is left is less than a byte
end-left : (ends : Bool) (z : ℕ) → z < 8 → after_rows (end_bits ends ++ replicate z 0) ≡ replicate z 0
unfolding ends_block
end-left true z few =
    let zeros = replicate z 0 in
    let bits = word (codes "000000000001000000000001") ++ zeros in
    cond-true (leb 24 (length bits) && true) (drop 24 bits) bits (and_from (leb 24 (length bits)) true (le-leb 24 (length bits) (omega arith)) refl)
end-left false z few =
    let zeros = replicate z 0 in
    let size = length-replicate {A = ℕ} z 0 in
    cond-false (leb 24 (length zeros) && eqb (number_after 0 (take 24 zeros)) 0x001001) (drop 24 zeros) zeros
    (and_left (leb 24 (length zeros)) (eqb (number_after 0 (take 24 zeros)) 0x001001) (lt-leb 24 (length zeros) (omega (arith, size, few))))

module _ (strict ends : Bool) (w h : ℕ) (pixels : ℕ → ℕ → Bool) (wide : 0 < w) (high : 0 < h) where
  abbrev rows : List ℕ
  rows = rows_bits w pixels h 0 (λ x. false)

  bits-are : mmr_bits ends w h pixels ≡ rows ++ end_bits ends
  unfolding mmr_bits
  bits-are = refl

  bytes-are : mmr_bytes ends w h pixels ≡ packed ((length (mmr_bits ends w h pixels) + 7) / 8) (mmr_bits ends w h pixels)
  unfolding mmr_bytes
  bytes-are = refl

  white-above : pixel_of w [] ≡ (λ (x : ℕ). false)
  unfolding black_at
  white-above i x = each x i
    where
      each : (x : ℕ) → pixel_of w [] x ≡ false
      each x = and_right (ltb x w) (black_at [] x) refl

  rows_of-some : (bytes : List ℕ) → rows_of w h bytes ≡ rows_from h w [] [] (bits_of bytes)
  unfolding rows_of
  rows_of-some bytes =
      cond-false (eqb w 0 || eqb h 0) (record { rows = []; whole = true; left = bits_of bytes }) (rows_from h w [] [] (bits_of bytes))
      (or_from (eqb w 0) (eqb h 0) (ne_eqb w 0 (λ e. omega (arith, e, wide))) (ne_eqb h 0 (λ e. omega (arith, e, high))))

  decoded-by : (bytes : List ℕ) (rs : List (List ℕ)) (left : List ℕ) → rows_of w h bytes ≡ record { rows = rs; whole = true; left = left } → length left < 8
      → mmr_rows strict w h bytes ≡ Ok (record { grid = grid_of_rows w h rs; used = length bytes })
  unfolding mmr_rows
  decoded-by bytes rs left e few =
      let result : Rows → Result DecodedRows DecodeError = λ r. cond (strict && not r.whole) (Err (Region InvalidMmrData)) (Ok (record { grid = grid_of_rows w h r.rows; used = length bytes - length r.left / 8 })) in
      let all : length bytes - length left / 8 ≡ length bytes = omega (arith, few) in
      ap result e
      ∙ cond-false (strict && false) (Err (Region InvalidMmrData)) (Ok (record { grid = grid_of_rows w h rs; used = length bytes - length left / 8 })) (and_right strict false refl)
      ∙ ap (λ (n : ℕ). Ok (record { grid = grid_of_rows w h rs; used = n })) all

  reads-bitmap : mmr_rows strict w h (mmr_bytes ends w h pixels) ≡ Ok (record { grid = grid_of w h pixels; used = length (mmr_bytes ends w h pixels) })
  reads-bitmap =
      let bits = mmr_bits ends w h pixels in
      let bytes = mmr_bytes ends w h pixels in
      let n = (length bits + 7) / 8 in
      let z = 8 * n - length bits in
      let few : z < 8 = omega arith in
      let are : AreBits bits = subst AreBits (sym bits-are) (bits-both rows (end_bits ends) (rows-are-bits w pixels wide h 0 (λ x. false)) (end-are-bits ends)) in
      let in_bytes : bits_of bytes ≡ bits ++ replicate z 0 = ap (λ (b : List ℕ). flat_map byte_bits b) bytes-are ∙ packed-bits n z bits are (omega arith) few in
      let split : bits ++ replicate z 0 ≡ rows ++ (end_bits ends ++ replicate z 0) = ap (λ (b : List ℕ). b ++ replicate z 0) bits-are ∙ append_assoc rows (end_bits ends) (replicate z 0) in
      let r = whole-rows (end_bits ends ++ replicate z 0) in
      let read : rows_of w h bytes ≡ record { rows = r.0; whole = true; left = replicate z 0 } =
      rows_of-some bytes ∙ ap (λ (b : List ℕ). rows_from h w [] [] b) (in_bytes ∙ split) ∙ r.1 ∙ ap (λ (b : List ℕ). record { rows = r.0; whole = true; left = b }) (end-left ends z few) in
      decoded-by bytes r.0 (replicate z 0) read (omega (arith, length-replicate {A = ℕ} z 0, few))
      ∙ ap (λ (g : Grid). Ok (record { grid = g; used = length bytes })) (grid_of-ext w h (λ x y. black_at (get_or r.0 y []) x) pixels (λ x y left above. r.2 y x above left ∙ ap (λ (j : ℕ). pixels x j) (let e : 0 + y ≡ y = omega arith in e)))
    where
      whole-rows : (rest : List ℕ) → (rs : List (List ℕ)) × (rows_from h w [] [] (rows ++ rest) ≡ record { rows = rs; whole = true; left = after_rows rest })
          × ((i x : ℕ) → i < h → x < w → black_at (get_or rs i []) x ≡ pixels x (0 + i))
      whole-rows rest = reads-rows w pixels wide h 0 [] (λ x. false) [] rest white-above

pub bitmaps_read_back : BitmapsReadBack
bitmaps_read_back = reads-bitmap

-- ---- lengths
rows-length : (w : ℕ) (pixels : ℕ → ℕ → Bool) (n y : ℕ) (seen : ℕ → Bool) → length (rows_bits w pixels n y seen) ≤ n * (7 * w + 60)
unfolding rows_bits
rows-length w pixels zero y seen = omega arith
rows-length w pixels (suc n) y seen =
    let others = rows_bits w pixels n (y + 1) (λ x. ltb x w && pixels x y) in
    let size = length-append (row_bits w seen (λ x. pixels x y)) others in
    let one = row-length w seen (λ x. pixels x y) in
    let more = rows-length w pixels n (y + 1) (λ x. ltb x w && pixels x y) in
    let up = suc-times n (7 * w + 60) in
    omega (arith, size, one, more, up)
  where
    suc-times : (n k : ℕ) → suc n * k ≡ n * k + k
    suc-times n k = omega arith

end-length : (ends : Bool) → length (end_bits ends) ≤ 24
end-length true = omega arith
end-length false = omega arith

all-length : (ends : Bool) (w h : ℕ) (pixels : ℕ → ℕ → Bool) → length (mmr_bits ends w h pixels) ≤ h * (7 * w + 60) + 24
unfolding mmr_bits
all-length ends w h pixels =
    let rs = rows_bits w pixels h 0 (λ x. false) in
    let size = length-append rs (end_bits ends) in
    let a = rows-length w pixels h 0 (λ x. false) in
    let b = end-length ends in
    omega (arith, size, a, b)

pub bitmaps_are_short : BitmapsAreShort
unfolding mmr_bytes
bitmaps_are_short ends w h pixels =
    let bits = mmr_bits ends w h pixels in
    let n = (length bits + 7) / 8 in
    let size = length-packed n bits in
    let few = all-length ends w h pixels in
    omega (arith, size, few)
