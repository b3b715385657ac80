-- What a region decodes to is a table of its size.
use Rattle.std.proofs.Common.{◌≡◌, ℕ, zero, suc, ◌+◌, ◌-◌, ◌*◌, eqb, nat_lt, Bool, true, false, not, ◌&&◌, ◌||◌, if◌then◌else◌, ℤ, pos, ◌+ℤ◌, ◌-ℤ◌, List, [], ◌∷◌, slice_index_or, Option, Some, None, Result, Ok, Err, refl, sym, ◌∙◌, ap, subst, take}
use Rattle.jbig2_base.specs.Results.{◌>>=◌, refuse_if}
use Rattle.jbig2_base.specs.Combination.{combined_grid, drawn_pixel}
use Rattle.jbig2_base.specs.Grid.{Grid, grid_of, blank, blank_or_overflow, check_sides}
use Rattle.jbig2_base.specs.declared.bitmap.operator.CombinationOperator.{CombinationOperator}
use Rattle.jbig2_base.specs.declared.bitmap.operator.CombinationOperator.TheVariants.{Replace}
use Rattle.jbig2_base.specs.declared.error.DecodeError.{DecodeError}
use Rattle.jbig2_base.specs.declared.error.DecodeError.TheVariants.{Overflow, Symbol}
use Rattle.jbig2_base.specs.declared.error.OverflowError.TheVariants.{BitmapDimension}
use Rattle.jbig2_base.specs.declared.error.SymbolError.TheVariants.{TooManyInstances}
use Rattle.jbig2_halftone.specs.GrayScale.{gray_scale_image}
use Rattle.jbig2_halftone.specs.Halftone.{cells_drawn, gray_params, halftone_result, pattern_for, with_cell}
use Rattle.jbig2_halftone.specs.HalftoneHeader.{HalftoneHeader}
use Rattle.jbig2_halftone.specs.Patterns.{Patterns}
use Rattle.jbig2_halftone.specs.WholeCells.{halftone_part, whole_image_rows}
use Rattle.jbig2_mmr.specs.T6.{DecodedRows, rows_of, mmr_rows}
use Rattle.jbig2_region.specs.{RegionInfo.{PlacedRegion}, Generic.{generic_result, generic_grid, generic_region}}
use Rattle.jbig2_region.specs.GenericHeader.{GenericHeader}
use Rattle.jbig2_region.specs.Raster.{so_far}
use Rattle.jbig2_region.specs.Refinement.{offset, refined_result, refined_grid, refined_region}
use Rattle.jbig2_region.specs.RefinementHeader.{RefinementHeader}
use Rattle.jbig2_region.specs.WholeRows.{refined_part}
use Rattle.jbig2_text.specs.Refining.{Refining}
use Rattle.jbig2_text.specs.Text.{TextState, Readings, TextParams, after_instances, coordinate, next_cursor, instance_symbol, strip_start, strip_delta, symbol_placed, t_in_strip, text_region, with_instance, with_symbol}
use Rattle.jbig2_text.specs.declared.cursor.Cursor.{Cursor}
use Rattle.jbig2_text.specs.declared.header.TextRegionFlags.{TextRegionFlags}
use Rattle.jbig2_text.specs.inner.FunctionResults.{end_of_strip}
use Rattle.jbig2_text.specs.TextCoding.{by_coder, by_prefix_codes}
use Rattle.jbig2_text.specs.TextHeader.{NumberCoding, TextHeader, ArithmeticCoding, HuffmanCoding}
use Rattle.jbig2_text.specs.TextRegion.{coder_of, prefix_codes_of, refining_of, region_by, region_from, text_result, text_params}
use Rattle.jbig2_coder.specs.PrefixCode.{Member}

abbrev pub Made : ℕ → ℕ → Grid → Type 0
Made w h g = (f : ℕ → ℕ → Bool) × (g ≡ grid_of w h f)

abbrev pub good : {X : Type 0} → X → Result X DecodeError
good x = Ok x

abbrev pub bad : {X : Type 0} → DecodeError → Result X DecodeError
bad e = Err e

pub ok-same : (g q : Grid) → good g ≡ good q → q ≡ g
ok-same g q is = cc

-- what is returned after a step
made-after : {X : Type 0} (w h : ℕ) (a : Result X DecodeError) (next : X → Result Grid DecodeError) (g : Grid) → ((x : X) → next x ≡ Ok g → Made w h g) → (a >>= next) ≡ Ok g → Made w h g
made-after w h (Ok x) next g each is = each x is
made-after w h (Err e) next g each is = absurd (let never : bad {X = Grid} e ≡ good g = is in cc)

-- what is drawn onto a table of this size
combined-made : (w h : ℕ) (op : CombinationOperator) (page source : Grid) (x y : ℤ) → Made w h page → Made w h (combined_grid op page source x y)
combined-made w h op page source x y made =
    let pixels : ℕ → ℕ → Bool = drawn_pixel op page source x y in
    (pixels, ap (λ (n : ℕ). grid_of n page.height pixels) (ap (λ (q : Grid). q.width) made.1) ∙ ap (λ (n : ℕ). grid_of w n pixels) (ap (λ (q : Grid). q.height) made.1))

-- ---- generic regions
rows-grid : (t : Bool) (e : DecodeError) (r : DecodedRows) (g : Grid) → ((if t then Err e else Ok r) >>= λ rows. Ok rows.grid) ≡ Ok g → g ≡ r.grid
rows-grid true e r g is = absurd (let never : bad {X = Grid} e ≡ good g = is in cc)
rows-grid false e r g is = ok-same r.grid g is

rows-made : (strict : Bool) (w h : ℕ) (bytes : List ℕ) (g : Grid) → (mmr_rows strict w h bytes >>= λ rows. Ok rows.grid) ≡ Ok g → Made w h g
unfolding mmr_rows
rows-made strict w h bytes g is = (_, rows-grid (strict && not (rows_of w h bytes).whole) _ _ g is)

pub generic-made : (h : GenericHeader) (g : Grid) → generic_result h ≡ Ok g → Made h.region_info.width h.region_info.height g
unfolding generic_grid so_far
generic-made h g is = either h.mmr is
  where
    either : (t : Bool) → (if t then (mmr_rows h.strict h.region_info.width h.region_info.height h.bytes >>= λ rows. Ok rows.grid) else Ok (generic_grid h)) ≡ Ok g → Made h.region_info.width h.region_info.height g
    either true done = rows-made h.strict h.region_info.width h.region_info.height h.bytes g done
    either false done = ((λ x y. slice_index_or (generic_region h).pixels (y * h.region_info.width + x) false), ok-same (generic_grid h) g done)

-- ---- refinements
pub refined-made : (h : RefinementHeader) (from : PlacedRegion) (g : Grid) → refined_result h from ≡ Ok g → Made h.region_info.width h.region_info.height g
unfolding refined_grid so_far
refined-made h from g is =
    made-after h.region_info.width h.region_info.height (offset from h.region_info) (λ d. Ok (refined_grid h from)) g
    (λ d done. ((λ x y. slice_index_or (refined_region h from).pixels (y * h.region_info.width + x) false), ok-same (refined_grid h from) g done))
    is

-- ---- halftone regions
cells-made : (w v : ℕ) (h : HalftoneHeader) (d : Patterns) (k : ℕ) (values : List ℕ) (region g : Grid) → Made w v region → cells_drawn h d k values region ≡ Ok g → Made w v g
unfolding cells_drawn
cells-made w v h d k [] region g made is = subst (Made w v) (sym (ok-same region g is)) made
cells-made w v h d k (value ∷ values) region g made is =
    made-after w v (pattern_for h.strict d.grids value) (λ pattern. cells_drawn h d (k + 1) values (with_cell h k pattern region)) g
    (λ pattern done. cells-made w v h d (k + 1) values (with_cell h k pattern region) g (combined-made w v h.flags.combination_operator region pattern _ _ made) done)
    is

pub halftone-made : (h : HalftoneHeader) (d : Patterns) (g : Grid) → halftone_result h d ≡ Ok g → Made h.region_info.width h.region_info.height g
unfolding halftone_result
halftone-made h d g is =
    let w = h.region_info.width in
    let v = h.region_info.height in
    let start : Grid = blank w v h.flags.initial_pixel_color in
    made-after w v (gray_scale_image (gray_params h d) h.bytes) (λ values. cells_drawn h d 0 values start) g
    (λ values done. cells-made w v h d 0 values start g ((λ _ _. h.flags.initial_pixel_color), refl) done)
    is

-- ---- what a step gives
-- this holds for what a step gives, if it gives something
abbrev OnValue : {X : Type 0} → (X → Type 0) → Result X DecodeError → Type 0
OnValue {X} P a = (x : X) → a ≡ Ok x → P x

value-same : {Y : Type 0} (y z : Y) → good y ≡ good z → y ≡ z
value-same y z is = cc

value-next : {X Y : Type 0} (P : Y → Type 0) (a : Result X DecodeError) (next : X → Result Y DecodeError) → ((x : X) → a ≡ Ok x → OnValue P (next x)) → OnValue P (a >>= next)
value-next P (Ok x) next each = each x refl
value-next {X} {Y} P (Err e) next each = λ y is. absurd (let never : bad {X = Y} e ≡ good y = is in cc)

value-is : {Y : Type 0} (P : Y → Type 0) (y : Y) → P y → OnValue P (Ok y)
value-is {Y} P y made = λ z is. subst {A = Y} P {x = y} {y = z} (value-same y z is) made

value-if : {Y : Type 0} (P : Y → Type 0) (t : Bool) (a b : Result Y DecodeError) → OnValue P a → OnValue P b → OnValue P (if t then a else b)
value-if P true a b one other = one
value-if P false a b one other = other

-- ---- regions in part
pub refined_part-made : (h : RefinementHeader) (from r : PlacedRegion) → refined_part h from ≡ Ok r → Made h.region_info.width h.region_info.height r.grid
unfolding refined_part
refined_part-made h from r is =
    let w = h.region_info.width in
    let v = h.region_info.height in
    let P : PlacedRegion → Type 0 = λ q. Made w v q.grid in
    value-next P (offset from h.region_info) _ (λ d d_is.
    value-is P _ (combined-made w v Replace _ _ _ _ (combined-made w v Replace (blank w v false) from.grid d.0 d.1 ((λ _ _. false), refl)))) r is

-- a side that is too long is refused
pub halftone_part-refused : (h : HalftoneHeader) (d : Patterns) (e : DecodeError) → blank_or_overflow h.region_info.width h.region_info.height false ≡ Err e → halftone_part h d ≡ Err e
unfolding halftone_part
halftone_part-refused h d e is = by (nat_lt 65535 h.region_info.width || nat_lt 65535 h.region_info.height) (blank h.region_info.width h.region_info.height false) _ is
  where
    by : (b : Bool) (g : Grid) (next : Unit {0} → Result PlacedRegion DecodeError) → (refuse_if b (Overflow BitmapDimension) >>= λ _. good g) ≡ bad e → (refuse_if b (Overflow BitmapDimension) >>= next) ≡ bad e
    by true g next refused = cc
    by false g next refused = absurd (let never : good g ≡ bad e = refused in cc)

pub halftone_part-made : (h : HalftoneHeader) (d : Patterns) (r : PlacedRegion) → halftone_part h d ≡ Ok r → Made h.region_info.width h.region_info.height r.grid
unfolding halftone_part
halftone_part-made h d r is =
    let w = h.region_info.width in
    let v = h.region_info.height in
    let lenient : HalftoneHeader = record h { strict = false } in
    let P : PlacedRegion → Type 0 = λ q. Made w v q.grid in
    value-next P (check_sides w v) _ (λ fits fits_is.
    value-next P (gray_scale_image (gray_params lenient d) h.bytes) _ (λ values values_is.
    value-next P (cells_drawn lenient d 0 (take (whole_image_rows (gray_params lenient d) h.bytes * h.grid_position_and_size.width) values) (blank w v h.flags.initial_pixel_color)) _ (λ g g_is.
    value-is P _ (cells-made w v lenient d 0 _ (blank w v h.flags.initial_pixel_color) g ((λ _ _. h.flags.initial_pixel_color), refl) g_is)))) r is

-- ---- text regions
symbol-made : {w v : ℕ} (flags : TextRegionFlags) (region : Grid) (c : Cursor) (ti : ℤ) (ib : Option Grid) → Made w v region → OnValue (λ more. Made w v more.0) (with_symbol flags region c ti ib)
symbol-made {w} {v} flags region c ti None made = value-is (λ more. Made w v more.0) (region, c) made
symbol-made {w} {v} flags region c ti (Some g) made =
    value-next (λ more. Made w v more.0) (symbol_placed flags g c.cur_s ti) _ (λ i is.
    value-is (λ more. Made w v more.0) (combined_grid flags.combination_operator region i.0.grid i.0.x i.0.y, record c { cur_s = i.1 })
    (combined-made w v flags.combination_operator region i.0.grid i.0.x i.0.y made))

instance-made : {w v : ℕ} {S : Type 0} (r : Readings S) (p : TextParams) (x : TextState S) → Made w v x.region → OnValue (λ y. Made w v y.region) (with_instance r p x)
unfolding with_instance
instance-made {w} {v} {S} r p x made =
    let P : TextState S → Type 0 = λ y. Made w v y.region in
    value-next P (t_in_strip r p.flags x.state) _ (λ t t_is.
    value-next P (coordinate (x.cursor.strip_t +ℤ t.0)) _ (λ ti ti_is.
    value-next P (r.id t.1) _ (λ id id_is.
    value-next P (instance_symbol r p id.0 x.refining id.1) _ (λ ib ib_is.
    value-next P (with_symbol p.flags x.region x.cursor ti ib.0) _ (λ more more_is.
    value-is P (record { region = more.0; cursor = more.1; refining = ib.1; state = ib.2 }) (symbol-made p.flags x.region x.cursor ti ib.0 made more more_is))))))

instances-made : {w v : ℕ} {S : Type 0} (r : Readings S) (p : TextParams) (n : ℕ) (x : TextState S) → Made w v x.region → OnValue (λ y. Made w v y.region) (after_instances r p n x)
unfolding after_instances
instances-made {w} {v} {S} r p zero x made = value-is (λ (y : TextState S). Made w v y.region) x made
instances-made {w} {v} {S} r p (suc n) x made =
    let P : TextState S → Type 0 = λ y. Made w v y.region in
    value-next P (with_instance r p x) _ (λ y y_is.
    value-next P (next_cursor r p.flags y.cursor y.state) _ (λ c c_is.
    instances-made r p n (record y { cursor = c.0; state = c.1 }) (instance-made r p x made y y_is)))

region-made : {w v : ℕ} {S : Type 0} (r : Readings S) (p : TextParams) (region : Grid) (f : Refining) (s : S) → Made w v region → OnValue (λ drawn. Made w v drawn.0) (text_region r p region f s)
unfolding text_region
region-made {w} {v} {S} r p region f s made =
    let P : Grid × Refining × S → Type 0 = λ drawn. Made w v drawn.0 in
    value-next P (refuse_if (nat_lt (32 * p.data_length) p.count) (Symbol TooManyInstances)) _ (λ few few_is.
    value-next P (strip_delta r p.flags s) _ (λ dt dt_is.
    value-next P (coordinate (pos 0 -ℤ dt.0)) _ (λ stript stript_is.
    value-if P (eqb p.count 0) _ _ (value-is P (region, f, dt.1) made) (value-next P (strip_start r p.flags stript (pos 0) dt.1) _ (λ c c_is.
    value-next P (after_instances r p (p.count - 1) (record { region = region; cursor = c.0; refining = f; state = c.1 })) _ (λ x x_is.
    value-next P (with_instance r p x) _ (λ last last_is.
    value-next P (end_of_strip p.strict (r.delta_s last.state)) _ (λ ends ends_is.
    value-is P (last.region, last.refining, r.after_delta_s last.state)
    (instance-made r p x (instances-made r p (p.count - 1) (record { region = region; cursor = c.0; refining = f; state = c.1 }) made x x_is) last last_is)))))))))

from-made : {S : Type 0} (w v : ℕ) (r : Readings S) (h : TextHeader) (symbols : List Grid) (region g : Grid) (s : S) → Made w v region → region_from r h symbols region s ≡ Ok g → Made w v g
unfolding region_from
from-made w v r h symbols region g s made is =
    value-next (Made w v) (text_region r (text_params h symbols) region (refining_of h) s) _ (λ drawn drawn_is.
    value-is (Made w v) drawn.0 (region-made r (text_params h symbols) region (refining_of h) s made drawn drawn_is)) g is

by-made : (w v : ℕ) (h : TextHeader) (coding : NumberCoding) (symbols : List Grid) (customs : List (List Member)) (region g : Grid) → Made w v region → region_by h coding symbols customs region ≡ Ok g → Made w v g
by-made w v h ArithmeticCoding symbols customs region g made is = from-made w v by_coder h symbols region g (coder_of h symbols) made is
by-made w v h (HuffmanCoding numbers ids) symbols customs region g made is =
    made-after w v (prefix_codes_of h numbers ids customs) (λ s. region_from by_prefix_codes h symbols region s) g (λ s done. from-made w v by_prefix_codes h symbols region g s made done) is

pub text-made : (h : TextHeader) (symbols : List Grid) (customs : List (List Member)) (g : Grid) → text_result h symbols customs ≡ Ok g → Made h.region_info.width h.region_info.height g
unfolding text_result
text-made h symbols customs g is =
    let w = h.region_info.width in
    let v = h.region_info.height in
    by-made w v h h.coding symbols customs (blank w v h.flags.default_pixel) g ((λ _ _. h.flags.default_pixel), refl) is
