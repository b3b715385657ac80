-- Collective bitmaps: their rows, and the symbols that are cut out of them.
use Rattle.std.proofs.Common.{◌≡◌, ℕ, ◌+◌, ◌-◌, ◌*◌, ◌/◌, ◌%◌, ◌^◌, min, ◌<◌, ◌≤◌, Bool, true, false, List, [], ◌∷◌, ◌++◌, suc, length, drop, get_or, Result, Ok, Err, refl, sym, ap, ◌∙◌, ◌⊎◌, inl, inr, append_assoc, drop-cons, arith}
use Rattle.std.specs.Prelude.{sum, nat_lt}
use Rattle.std.proofs.lemmas.List.Sums.{sum_by-drop_more}
use Rattle.std.proofs.lemmas.List.{append-nil, drop_all}
use Rattle.jbig2_base.specs.Results.{◌>>=◌, refuse_if}
use Rattle.jbig2_base.specs.Fields.{bytes_at}
use Rattle.jbig2_base.specs.Grid.{Grid, grid_of, blank, wide_or_overflow}
use Rattle.jbig2_base.specs.declared.error.DecodeError.{DecodeError}
use Rattle.jbig2_base.specs.declared.error.DecodeError.TheVariants.{OutOfMemory, Overflow}
use Rattle.jbig2_base.specs.declared.error.OverflowError.TheVariants.{BitmapDimension}
use Rattle.jbig2_base.specs.inner.GridsBefore.{grid_before}
use Rattle.jbig2_base.specs.Bits.{bit}
use Rattle.jbig2_base.specs.Writes.{with_pixels}
use Rattle.jbig2_base.proofs.BitLemmas.{bit-shr}
use Rattle.jbig2_base.proofs.FillLemmas.{all-filled, filled-store}
use Rattle.jbig2_base.proofs.GridLemmas.{grid_of-ext}
use Rattle.jbig2_symbol.specs.SymbolBitmaps.{raw_pixel, raw_rows, raw_stride, symbol_cut, symbols_cut}
use Rattle.jbig2_symbol.specs.inner.FunctionResults.{bytes_of_rows, symbols_after}

-- ---- symbols after others
concat-cons : (before : List Grid) (symbol : Grid) (others : Result (List Grid) DecodeError) → symbols_after before (others >>= λ more. Ok (symbol ∷ more)) ≡ symbols_after (before ++ symbol ∷ []) others
concat-cons before symbol (Ok more) = ap (λ (all : List Grid). Ok all) (sym (append_assoc before (symbol ∷ []) more))
concat-cons before symbol (Err e) = refl

drop-more : (xs : List ℕ) (k : ℕ) → k < length xs → drop k xs ≡ get_or xs k 0 ∷ drop (k + 1) xs
drop-more xs k inside =
    let one : suc k ≡ k + 1 = omega arith in
    drop-cons xs k 0 inside ∙ ap (λ (n : ℕ). get_or xs k 0 ∷ drop n xs) one

cut-more : (collective : Grid) (height left : ℕ) (widths : List ℕ) (k : ℕ) → k < length widths → symbols_cut collective height left (drop k widths) ≡ (symbol_cut collective left (get_or widths k 0) height >>= λ symbol. symbols_cut collective height (left + get_or widths k 0) (drop (k + 1) widths) >>= λ others. Ok (symbol ∷ others))
unfolding symbols_cut
cut-more collective height left widths k inside = ap (λ (ws : List ℕ). symbols_cut collective height left ws) (drop-more widths k inside)

pub cut-next : (collective : Grid) (height left : ℕ) (widths : List ℕ) (k : ℕ) (before : List Grid) (symbol : Grid) → k < length widths → symbol_cut collective left (get_or widths k 0) height ≡ Ok symbol → symbols_after before (symbols_cut collective height left (drop k widths)) ≡ symbols_after (before ++ symbol ∷ []) (symbols_cut collective height (left + get_or widths k 0) (drop (k + 1) widths))
cut-next collective height left widths k before symbol inside e =
    ap (λ (result : Result (List Grid) DecodeError). symbols_after before result) (cut-more collective height left widths k inside)
    ∙ ap (λ (one : Result Grid DecodeError). symbols_after before (one >>= λ s. symbols_cut collective height (left + get_or widths k 0) (drop (k + 1) widths) >>= λ others. Ok (s ∷ others))) e
    ∙ concat-cons before symbol (symbols_cut collective height (left + get_or widths k 0) (drop (k + 1) widths))

pub cut-fault : (collective : Grid) (height left : ℕ) (widths : List ℕ) (k : ℕ) (before : List Grid) (error : DecodeError) (whole : Result (List Grid) DecodeError) → k < length widths → symbols_after before (symbols_cut collective height left (drop k widths)) ≡ whole → (error ≡ OutOfMemory) ⊎ (symbol_cut collective left (get_or widths k 0) height ≡ Err error) → (error ≡ OutOfMemory) ⊎ (whole ≡ Err error)
cut-fault collective height left widths k before error whole inside so_far (inl memory) = inl memory
cut-fault collective height left widths k before error whole inside so_far (inr e) =
    inr
    (sym so_far
    ∙ ap (λ (result : Result (List Grid) DecodeError). symbols_after before result) (cut-more collective height left widths k inside)
    ∙ ap (λ (one : Result Grid DecodeError). symbols_after before (one >>= λ s. symbols_cut collective height (left + get_or widths k 0) (drop (k + 1) widths) >>= λ others. Ok (s ∷ others))) e)

pub cut-all : (collective : Grid) (height left : ℕ) (widths : List ℕ) (k : ℕ) (before : List Grid) (whole : Result (List Grid) DecodeError) → length widths ≤ k → symbols_after before (symbols_cut collective height left (drop k widths)) ≡ whole → whole ≡ Ok before
unfolding symbols_cut
cut-all collective height left widths k before whole done so_far =
    sym so_far
    ∙ ap (λ (ws : List ℕ). symbols_after before (symbols_cut collective height left ws)) (drop_all k widths done)
    ∙ ap (λ (all : List Grid). Ok all) (append-nil before)

pub sum-next : (widths : List ℕ) (k left most : ℕ) → k < length widths → left + sum (drop k widths) ≤ most → left + get_or widths k 0 + sum (drop (k + 1) widths) ≤ most
sum-next widths k left most inside few =
    let next : sum (drop k widths) ≡ get_or widths k 0 + sum (drop (k + 1) widths) = sum_by-drop_more (λ (n : ℕ). n) widths k 0 inside in
    omega (arith, next)

-- ---- rows that are not coded
-- the next byte of a row that is not coded
pub uncoded : (bytes : List ℕ) (before after : Grid) (w h y stride index count bits : ℕ) → y < h → 8 * index < w → count ≡ min (w - 8 * index) 8 → stride ≡ raw_stride w → bits ≡ get_or bytes (y * stride + index) 0 / 2 ^ (8 - count) → before ≡ grid_before w h (raw_pixel bytes (raw_stride w)) y (min w (8 * index)) → after ≡ with_pixels before (8 * index) y count bits → after ≡ grid_before w h (raw_pixel bytes (raw_stride w)) y (min w (8 * (index + 1)))
uncoded bytes before after w h y stride index count bits above inside few wide read is_filled written =
    let at : min w (8 * index) ≡ 8 * index = omega arith in
    let next : 8 * index + count ≡ min w (8 * (index + 1)) = omega arith in
    let f : ℕ → ℕ → Bool = raw_pixel bytes (raw_stride w) in
    let byte : ℕ = get_or bytes (y * raw_stride w + index) 0 in
    filled-store w h f y (8 * index) count bits before after (omega arith) above
    (λ k below.
    let place : 8 - count + (count - 1 - k) ≡ 7 - (8 * index + k) % 8 = omega arith in
    let column : index ≡ (8 * index + k) / 8 = omega arith in
    ap (λ (n : ℕ). bit n (count - 1 - k)) (read ∙ ap (λ (n : ℕ). get_or bytes (y * n + index) 0 / 2 ^ (8 - count)) wide)
    ∙ bit-shr byte (8 - count) (count - 1 - k)
    ∙ ap (λ (n : ℕ). bit byte n) place
    ∙ ap (λ (n : ℕ). bit (get_or bytes (y * raw_stride w + n) 0) (7 - (8 * index + k) % 8)) column)
    (is_filled ∙ ap (λ (x : ℕ). grid_before w h f y x) at)
    written
    ∙ ap (λ (x : ℕ). grid_before w h f y x) next

wide-made : (w h : ℕ) (g : Grid) → wide_or_overflow w h ≡ Ok g → g ≡ blank w h false
wide-made w h g e = made (nat_lt (65535 * 65535) (w * h)) (blank w h false) g e
  where
    made : (large : Bool) (white g : Grid) → (refuse_if large (Overflow BitmapDimension) >>= λ _. Ok white) ≡ Ok g → g ≡ white
    made true white g e = cc
    made false white g e = cc

pub wide-blank : (w h : ℕ) (g : Grid) → wide_or_overflow w h ≡ Ok g → g ≡ blank w h false
wide-blank w h g e = wide-made w h g e

-- a step after two others, of which the second gives what it takes
both-read : {A B C : Type 0} (first : Result A DecodeError) (second : Result B DecodeError) (f : B → C) (b : B) → (first >>= λ _. second) ≡ Ok b → (first >>= λ _. second >>= λ x. Ok (f x)) ≡ Ok (f b)
both-read {A} {B} {C} (Ok a) (Ok x) f b is =
    let same : x ≡ b = cc in
    let R : Type 0 = Result C DecodeError in
    ap {B = R} (λ (y : B). Ok (f y)) same
both-read (Ok a) (Err e) f b is = absurd (cc)
both-read (Err e) second f b is = absurd (cc)

both-unread : {A B C : Type 0} (first : Result A DecodeError) (second : Result B DecodeError) (f : B → C) (error : DecodeError) → (first >>= λ _. second) ≡ Err error → (first >>= λ _. second >>= λ x. Ok (f x)) ≡ Err error
both-unread (Ok a) (Ok x) f error is = absurd (cc)
both-unread (Ok a) (Err e) f error is = cc
both-unread (Err e) second f error is = cc

abbrev rows_made : ℕ → ℕ → List ℕ × List ℕ → Grid × List ℕ
rows_made w h rows = (grid_of w h (raw_pixel rows.0 (raw_stride w)), rows.1)

pub raw-read : (w h : ℕ) (bytes rows rest : List ℕ) → bytes_of_rows w h bytes ≡ Ok (rows, rest) → raw_rows w h bytes ≡ Ok (grid_of w h (raw_pixel rows (raw_stride w)), rest)
unfolding raw_rows
raw-read w h bytes rows rest is = both-read (wide_or_overflow w h) (bytes_at (h * raw_stride w) bytes) (rows_made w h) (rows, rest) is

pub raw-unread : (w h : ℕ) (bytes : List ℕ) (error : DecodeError) → bytes_of_rows w h bytes ≡ Err error → raw_rows w h bytes ≡ Err error
unfolding raw_rows
raw-unread w h bytes error is = both-unread (wide_or_overflow w h) (bytes_at (h * raw_stride w) bytes) (rows_made w h) error is

pub raw-none : (w h : ℕ) (g : Grid) (bytes rows rest : List ℕ) → w ≡ 0 → bytes_of_rows w h bytes ≡ Ok (rows, rest) → wide_or_overflow w h ≡ Ok g → raw_rows w h bytes ≡ Ok (g, rest)
raw-none w h g bytes rows rest none read made =
    let white : grid_of w h (raw_pixel rows (raw_stride w)) ≡ g = grid_of-ext w h (raw_pixel rows (raw_stride w)) (λ _ _. false) (λ i j left above. absurd (omega arith)) ∙ sym (wide-made w h g made) in
    rw (raw-read w h bytes rows rest read) (ap (λ (k : Grid). Ok (k, rest)) white)

pub raw-made : (w h y : ℕ) (g : Grid) (bytes rows rest : List ℕ) → bytes_of_rows w h bytes ≡ Ok (rows, rest) → y ≡ h → g ≡ grid_before w h (raw_pixel rows (raw_stride w)) y 0 → raw_rows w h bytes ≡ Ok (g, rest)
raw-made w h y g bytes rows rest read whole e =
    rw (raw-read w h bytes rows rest read) (ap (λ (k : Grid). Ok (k, rest)) (sym (all-filled g w h (raw_pixel rows (raw_stride w)) y whole e)))
