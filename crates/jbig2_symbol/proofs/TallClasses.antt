-- A class that is higher than its symbols may be is refused: by the first error of its collective bitmap, or else by that
-- of its first symbol (T.88, 6.5.9).
use Rattle.std.proofs.Common.{◌≡◌, ◌⊎◌, inl, inr, ℕ, ◌+◌, ◌*◌, ◌-◌, ◌/◌, ◌<◌, ltb, Bool, true, false, List, [], ◌∷◌, length, Result, Ok, Err, refl, subst, arith}
use Rattle.std.specs.Prelude.{sum}
use Rattle.std.proofs.lemmas.Bool.{lt-ltb}
use Rattle.std.proofs.Math.Bool.{and-false, or-true}
use Rattle.jbig2_base.specs.Results.{◌>>=◌, Gives}
use Rattle.jbig2_base.specs.Bits.{Place}
use Rattle.jbig2_base.specs.Fields.{bytes_at}
use Rattle.jbig2_base.specs.Grid.{Grid, wide_or_overflow}
use Rattle.jbig2_base.specs.declared.error.DecodeError.{DecodeError}
use Rattle.jbig2_base.specs.declared.error.DecodeError.TheVariants.{Overflow, Region}
use Rattle.jbig2_base.specs.declared.error.OverflowError.TheVariants.{BitmapDimension}
use Rattle.jbig2_base.specs.declared.error.RegionError.TheVariants.{InvalidMmrData}
use Rattle.jbig2_mmr.specs.T6.{DecodedRows, grid_of_rows, mmr_rows, rows_of}
use Rattle.jbig2_symbol.specs.HeightClasses.{empty_class, widths_from}
use Rattle.jbig2_symbol.specs.SymbolBitmaps.{collective_bitmap, mmr_bitmap, rows_of_size, symbol_cut, symbols_cut}
use Rattle.jbig2_symbol.specs.SymbolCoding.{collective_class, symbols_by_prefix_codes}
use Rattle.jbig2_symbol.specs.SymbolReading.{SymbolInput, SymbolState}
use Rattle.jbig2_symbol.proofs.CutLemmas.{raw-read, raw-unread}
use Rattle.jbig2_symbol.proofs.MmrRows.{whole-rows}
use Rattle.jbig2_symbol.proofs.PayingLemmas.{bytes-many}
use Rattle.jbig2_symbol.specs.inner.FunctionResults.{bytes_of_rows, concat, room_after, tall_class, with_no_value}

-- ---- MMR data
-- fewer bits than rows
pub mmr-short : (strict : Bool) (w h : ℕ) (bytes : List ℕ) → strict ≡ true → 0 < w → 8 * length bytes < h → mmr_rows strict w h bytes ≡ Err (Region InvalidMmrData)
unfolding mmr_rows
mmr-short strict w h bytes strictly some short = by-whole (rows_of w h bytes).whole refl
  where
    by-whole : (whole : Bool) → (rows_of w h bytes).whole ≡ whole → mmr_rows strict w h bytes ≡ Err (Region InvalidMmrData)
    by-whole true is = absurd (omega (arith, whole-rows w h bytes some is))
    by-whole false is = rw (strictly, is) refl

pub mmr-refused : (strict : Bool) (size w h : ℕ) (bytes part rest : List ℕ) (white : Grid) → strict ≡ true → 0 < w → size < (h + 7) / 8 → bytes_at size bytes ≡ Ok (part, rest) → wide_or_overflow w h ≡ Ok white → with_no_value (mmr_bitmap strict size w h bytes) ≡ Err (Region InvalidMmrData)
unfolding mmr_bitmap
mmr-refused strict size w h bytes part rest white strictly some short there fits =
    let many : length part ≡ size = bytes-many size bytes part rest there in
    rw (there, fits, mmr-short strict w h part strictly some (omega arith)) refl

no-columns : (w h : ℕ) (bytes : List ℕ) → w ≡ 0 → (rows_of w h bytes).whole ≡ true
unfolding rows_of
no-columns w h bytes none = rw none refl

pub mmr-passed : (strict : Bool) (size w h : ℕ) (bytes part rest : List ℕ) (white : Grid) → (strict ≡ false) ⊎ (w ≡ 0) → bytes_at size bytes ≡ Ok (part, rest) → wide_or_overflow w h ≡ Ok white → with_no_value (mmr_bitmap strict size w h bytes) ≡ Ok tt
unfolding mmr_bitmap mmr_rows
mmr-passed strict size w h bytes part rest white (inl lenient) there fits = rw (there, fits, lenient) refl
mmr-passed strict size w h bytes part rest white (inr none) there fits =
    let rows : DecodedRows = record { grid = grid_of_rows w h (rows_of w h part).rows; used = length part - length (rows_of w h part).left / 8 } in
    let whole : mmr_rows strict w h part ≡ Ok rows = simp (no-columns w h part none, and-false strict) refl in
    rw (there, fits, whole) refl

-- ---- rows that are not coded
pub raw-refused : (size w h : ℕ) (strict : Bool) (bytes : List ℕ) (error : DecodeError) → size ≡ 0 → bytes_of_rows w h bytes ≡ Err error → with_no_value (rows_of_size strict size w h bytes) ≡ Err error
raw-refused size w h strict bytes error none is = rw (none, raw-unread w h bytes error is) refl

pub raw-passed : (size w h : ℕ) (strict : Bool) (bytes rows rest : List ℕ) → size ≡ 0 → bytes_of_rows w h bytes ≡ Ok (rows, rest) → with_no_value (rows_of_size strict size w h bytes) ≡ Ok tt
raw-passed size w h strict bytes rows rest none is = rw (none, raw-read w h bytes rows rest is) refl

-- ---- symbols
tall-cut : (collective : Grid) (height from : ℕ) (widths : List ℕ) → 65535 < height → 0 < length widths → symbols_cut collective height from widths ≡ Err (Overflow BitmapDimension)
unfolding symbols_cut symbol_cut
tall-cut collective height from [] tall some = absurd (omega arith)
tall-cut collective height from (width ∷ widths) tall some = rw (lt-ltb 65535 height tall, or-true (ltb 65535 width)) refl

-- whatever the collective bitmap, the first symbol is refused
never-cut : {S : Type 0} (collective : Result (Grid × S) DecodeError) (height : ℕ) (before : List Grid) (widths : List ℕ) (error : DecodeError) → 65535 < height → 0 < length widths → (collective >>= λ _. (let r : Result (Unit {0}) DecodeError = Err (Overflow BitmapDimension) in r)) ≡ Err error → concat before (collective >>= λ c. symbols_cut c.0 height 0 widths >>= λ symbols. Ok (symbols, c.1)) ≡ Err error
never-cut (Ok c) height before widths error tall some is = rw (tall-cut c.0 height 0 widths tall some) (cc)
never-cut (Err e) height before widths error tall some is = cc

tall-error : (d : SymbolInput) (height empty total : ℕ) (before : List Grid) (widths : List ℕ) (s t : SymbolState Place) (error : DecodeError) → widths_from symbols_by_prefix_codes d (room_after d before) 0 0 s ≡ Ok (widths, t) → total ≡ sum widths → empty_class (length widths) empty ≡ Ok tt → 65535 < height → 0 < length widths → tall_class d total height t ≡ Err error → concat before (collective_class d height empty before s) ≡ Err error
unfolding collective_class
tall-error d height empty total before widths s t error read summed few tall some is =
    let is' : tall_class d (sum widths) height t ≡ Err error = subst (λ (n : ℕ). tall_class d n height t ≡ Err error) summed is in
    rw (read, few) (never-cut (collective_bitmap d (sum widths) height t) height before widths error tall some is')

-- such a class is never read
tall-none : (d : SymbolInput) (width height : ℕ) (s : SymbolState Place) → tall_class d width height s ≡ Ok tt → ⊥
tall-none d width height s = never (collective_bitmap d width height s)
  where
    never : {X : Type 0} (collective : Result X DecodeError) → (collective >>= λ _. (let r : Result (Unit {0}) DecodeError = Err (Overflow BitmapDimension) in r)) ≡ Ok tt → ⊥
    never (Ok x) is = cc
    never (Err e) is = cc

pub tall-refused : (d : SymbolInput) (height empty total : ℕ) (before after : List Grid) (widths : List ℕ) (s t u : SymbolState Place) (result : Result (Unit {0}) DecodeError) → widths_from symbols_by_prefix_codes d (room_after d before) 0 0 s ≡ Ok (widths, t) → total ≡ sum widths → empty_class (length widths) empty ≡ Ok tt → 65535 < height → 0 < length widths → Gives (λ _. tt) result (tall_class d total height t) → Gives (λ _. (after, u)) result (concat before (collective_class d height empty before s))
tall-refused d height empty total before after widths s t u (Ok x) read summed few tall some is = absurd (tall-none d total height t is)
tall-refused d height empty total before after widths s t u (Err e) read summed few tall some (inl memory) = inl memory
tall-refused d height empty total before after widths s t u (Err e) read summed few tall some (inr is) = inr (tall-error d height empty total before widths s t e read summed few tall some is)
