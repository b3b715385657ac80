-- Text regions (T.88, 6.4): instances of symbols, one after the other. The numbers of an instance are read, and then
-- its symbol is drawn. A coordinate that isn't a signed number of 32 bits is refused (our own rule).
use Rattle.std.specs.Prelude.{ℕ, zero, suc, ◌-◌, ◌*◌, ◌^◌, nat_le, nat_lt, ◌==◌, Bool, true, false, if◌then◌else◌}
use Rattle.std.specs.Prelude.{ℤ, pos, negsuc, ◌+ℤ◌, ◌-ℤ◌, ◌*ℤ◌, List, slice_get, Option, Some, None}
use Rattle.std.specs.Prelude.{Result, Ok, Err}
use Rattle.std.specs.Int.{int_shr}
use Rattle.std.specs.Option.{is_some}
use Rattle.jbig2_base.specs.Results.{◌>>=◌, refuse_if, some_or, word_or}
use Rattle.jbig2_base.specs.Combination.{combined_grid}
use Rattle.jbig2_base.specs.Grid.{Grid, check_sides}
use Rattle.jbig2_base.specs.declared.error.DecodeError.{DecodeError}
use Rattle.jbig2_base.specs.declared.error.DecodeError.TheVariants.{Overflow, Symbol}
use Rattle.jbig2_base.specs.declared.error.OverflowError.TheVariants.{BitmapDimension, PlacementCoordinate}
use Rattle.jbig2_base.specs.declared.error.OverflowError.TheVariants.{ReferenceOffset}
use Rattle.jbig2_base.specs.declared.error.SymbolError.TheVariants.{InvalidStripDelta, OutOfRange, TooManyInstances}
use Rattle.jbig2_region.specs.Refinement.{Reference}
use Rattle.jbig2_text.specs.Refining.{Refining}
use Rattle.jbig2_text.specs.declared.cursor.Cursor.{Cursor}
use Rattle.jbig2_text.specs.declared.header.ReferenceCorner.{ReferenceCorner}
use Rattle.jbig2_text.specs.declared.header.ReferenceCorner.TheVariants.{BottomLeft, BottomRight, TopRight}
use Rattle.jbig2_text.specs.declared.header.TextRegionFlags.{TextRegionFlags}
use Rattle.jbig2_text.specs.declared.refined.Outline.{Outline}
use Rattle.jbig2_text.specs.declared.refined.RefinementDeltas.{RefinementDeltas}

abbrev pub max_symbols : ℕ  -- how many symbols ids may name: those of other dictionaries, and new ones (our own rule)
max_symbols = 2097152

-- What is needed to read the instances (Table 9): flags, SBSYMS, SBNUMINSTANCES, and the length of the segment's data.
pub record TextParams : Type 0 where
  pub flags : TextRegionFlags
  pub symbols : List Grid
  pub count : ℕ
  pub data_length : ℕ
  pub strict : Bool

pub record Instance : Type 0 where  -- a symbol, and the column and the row of its top left pixel
  pub grid : Grid
  pub x : ℤ
  pub y : ℤ

-- How the numbers are coded (6.4.6 to 6.4.11). Each reading takes a state of the coder, and gives a value and the state
-- after it. A delta S takes its bits even where it is refused; its None ends a strip. `t_bits` also takes the log of
-- the strip size; `refined` takes the reference, the width, the height and the contexts, and returns these as learned.
-- `is_within` says whether what was read so far lies within the data (our own rule).
pub record Readings (S : Type 0) : Type 0 where
  pub delta_t : S → Result (ℤ × S) DecodeError
  pub first_s : S → Result (ℤ × S) DecodeError
  pub delta_s : S → Result (Option ℤ) DecodeError
  pub after_delta_s : S → S
  pub t_bits : ℕ → S → Result (ℤ × S) DecodeError
  pub id : S → Result (ℤ × S) DecodeError
  pub is_refined : S → Result (Bool × S) DecodeError
  pub width_delta : S → Result (ℤ × S) DecodeError
  pub height_delta : S → Result (ℤ × S) DecodeError
  pub x_delta : S → Result (ℤ × S) DecodeError
  pub y_delta : S → Result (ℤ × S) DecodeError
  pub refined : Reference → ℕ → ℕ → Refining → S → Result (Grid × Refining × S) DecodeError
  pub is_within : S → Bool

-- the region so far (SBREG), the place of the next instance, the contexts and the coder
pub record TextState (S : Type 0) : Type 0 where
  pub region : Grid
  pub cursor : Cursor
  pub refining : Refining
  pub state : S

abbrev pub coordinate : ℤ → Result ℤ DecodeError
coordinate n = word_or (Overflow PlacementCoordinate) n

-- ---- strips (6.4.5, steps 1 to 4)
module _ {S : Type 0} (r : Readings S) (flags : TextRegionFlags) where
  -- DT, in rows; it is coded as a number of whole strips (6.4.6)
  unfoldable pub strip_delta : S → Result (ℤ × S) DecodeError
  strip_delta s = do
    (strips, after) ← r.delta_t s
    dt ← word_or (Symbol InvalidStripDelta) (strips *ℤ pos (2 ^ flags.log_strip_size))
    Ok (dt, after)

  -- a strip begins: DT is added to STRIPT and DFS to FIRSTS (6.4.7), and CURS is FIRSTS (steps 3 b and 3 c i)
  unfoldable pub strip_start : ℤ → ℤ → S → Result (Cursor × S) DecodeError
  strip_start stript firsts s = do
    (dt, after_dt) ← strip_delta s
    next_stript ← coordinate (stript +ℤ dt)
    (dfs, after_dfs) ← r.first_s after_dt
    next_firsts ← coordinate (firsts +ℤ dfs)
    Ok (record { strip_t = next_stript; first_s = next_firsts; cur_s = next_firsts }, after_dfs)

  -- IDS and SBDSOFFSET are added to CURS in the strip, or else the next strip begins (step 3 c ii, and 6.4.8)
  abbrev pub with_ids : Cursor → Option ℤ → S → Result (Cursor × S) DecodeError
  with_ids c None s = strip_start c.strip_t c.first_s s
  with_ids c (Some ids) s = do
    after_ids ← coordinate (c.cur_s +ℤ ids)
    curs ← coordinate (after_ids +ℤ flags.delta_s_offset)
    Ok (record c { cur_s = curs }, s)

  unfoldable pub next_cursor : Cursor → S → Result (Cursor × S) DecodeError
  next_cursor c s = r.delta_s s >>= λ ids. with_ids c ids (r.after_delta_s s)

  -- CURT, which is read only in strips of more than one row (6.4.9)
  abbrev pub t_in_strip : S → Result (ℤ × S) DecodeError
  t_in_strip s = if flags.log_strip_size == 0 then Ok (pos 0, s) else r.t_bits flags.log_strip_size s

-- ---- symbols (6.4.10 and 6.4.11)
-- the symbol of an id, if it has one
abbrev pub symbol_of : List Grid → ℤ → Option Grid
symbol_of symbols (pos id) = slice_get symbols id
symbol_of symbols (negsuc id) = None

abbrev pub some_symbol : Option Grid → Result Grid DecodeError
some_symbol g = some_or (Symbol OutOfRange) g

abbrev pub side_of : ℤ → Result ℕ DecodeError  -- a side of a refined symbol, within signed 32 bits
side_of (pos n) = refuse_if (nat_le 2147483648 n) (Overflow BitmapDimension) >>= λ fits. Ok n
side_of (negsuc n) = Err (Overflow BitmapDimension)

-- the offset of the reference: half the growth of a side, rounded down, and a difference (Table 12, GRREFERENCEDX)
abbrev pub reference_offset : ℤ → ℤ → Result ℤ DecodeError
reference_offset growth delta = word_or (Overflow ReferenceOffset) (int_shr growth 1 +ℤ delta)

-- the width and the height of a refined symbol, and the offset of its reference (Table 12)
unfoldable pub refined_outline : Grid → RefinementDeltas → Result Outline DecodeError
refined_outline from rd = do
  width ← side_of (pos from.width +ℤ rd.width)
  height ← side_of (pos from.height +ℤ rd.height)
  dx ← reference_offset rd.width rd.x
  dy ← reference_offset rd.height rd.y
  Ok (record { width = width; height = height; dx = dx; dy = dy })

-- strict reading refuses an id without a symbol; other readings take it as no symbol (our own rule)
abbrev pub plain_symbol : Bool → Option Grid → Result (Option Grid) DecodeError
plain_symbol strict (Some g) = Ok (Some g)
plain_symbol strict None = if strict then Err (Symbol OutOfRange) else Ok None

module _ {S : Type 0} (r : Readings S) where
  -- RDW, RDH, RDX and RDY (6.4.11, steps 1 to 4)
  unfoldable pub refinement_deltas : S → Result (RefinementDeltas × S) DecodeError
  refinement_deltas s = do
    (rdw, after_rdw) ← r.width_delta s
    (rdh, after_rdh) ← r.height_delta after_rdw
    (rdx, after_rdx) ← r.x_delta after_rdh
    (rdy, after_rdy) ← r.y_delta after_rdx
    Ok (record { width = rdw; height = rdh; x = rdx; y = rdy }, after_rdy)

  -- a symbol that is refined from that of the id; no side may be above 65535 (our own rule)
  unfoldable pub refined_symbol : List Grid → ℤ → Refining → S → Result (Grid × Refining × S) DecodeError
  refined_symbol symbols id f s = do
    from ← some_symbol (symbol_of symbols id)
    (deltas, after) ← refinement_deltas s
    o ← refined_outline from deltas
    fits ← check_sides o.width o.height
    r.refined (record { grid = from; dx = o.dx; dy = o.dy }) o.width o.height f after

  -- IB, the symbol of an instance: refined if R_I is 1; R_I is 0 where nothing is refined (6.4.11)
  unfoldable pub instance_symbol : TextParams → ℤ → Refining → S → Result (Option Grid × Refining × S) DecodeError
  instance_symbol p id f s = do
    (is_refined, after) ← if p.flags.use_refinement then r.is_refined s else Ok (false, s)
    if is_refined
        then (refined_symbol p.symbols id f after >>= λ (g, refining, after_g). Ok (Some g, refining, after_g))
        else (plain_symbol p.strict (symbol_of p.symbols id) >>= λ g. Ok (g, f, after))

-- ---- places (6.4.5, step 3 c)
abbrev pub is_right : ReferenceCorner → Bool
is_right BottomRight = true
is_right TopRight = true
is_right _ = false

abbrev pub is_bottom : ReferenceCorner → Bool
is_bottom BottomLeft = true
is_bottom BottomRight = true
is_bottom _ = false

abbrev pub is_last_along_s : TextRegionFlags → Bool
is_last_along_s flags = if flags.transposed then is_bottom flags.reference_corner else is_right flags.reference_corner

abbrev pub far_end : TextRegionFlags → Grid → ℤ → Result ℤ DecodeError  -- CURS at the other end of a symbol
far_end flags g curs = coordinate (curs +ℤ (pos (if flags.transposed then g.height else g.width) -ℤ pos 1))

-- the first column (or row) of a symbol: its corner is at this place, which may be the last one
abbrev pub edge : Bool → ℕ → ℤ → Result ℤ DecodeError
edge at_last side place = if at_last then coordinate (place -ℤ (pos side -ℤ pos 1)) else Ok place

-- A symbol at SI and TI, and CURS after it (steps 3 c vi to x). The symbol's extent is added to CURS: before the symbol
-- is placed if its corner is the last one along S (vi), and else afterwards (x).
unfoldable pub symbol_placed : TextRegionFlags → Grid → ℤ → ℤ → Result (Instance × ℤ) DecodeError
symbol_placed flags g curs ti = do
  si ← if is_last_along_s flags then far_end flags g curs else Ok curs
  x ← edge (is_right flags.reference_corner) g.width (if flags.transposed then ti else si)
  y ← edge (is_bottom flags.reference_corner) g.height (if flags.transposed then si else ti)
  next ← if is_last_along_s flags then Ok si else far_end flags g si
  Ok (record { grid = g; x = x; y = y }, next)

-- ---- instances
-- IB is drawn onto SBREG by SBCOMBOP (step 3 c ix). An instance whose id has no symbol leaves CURS as it is.
abbrev pub with_symbol : TextRegionFlags → Grid → Cursor → ℤ → Option Grid → Result (Grid × Cursor) DecodeError
with_symbol flags region c ti None = Ok (region, c)
with_symbol flags region c ti (Some g) = do
  (i, curs) ← symbol_placed flags g c.cur_s ti
  Ok (combined_grid flags.combination_operator region i.grid i.x i.y, record c { cur_s = curs })

module _ {S : Type 0} (r : Readings S) (p : TextParams) where
  -- one instance more: TI is STRIPT and CURT, then come ID and IB (steps 3 c iii to x)
  unfoldable pub with_instance : TextState S → Result (TextState S) DecodeError
  with_instance x = do
    (curt, after_curt) ← t_in_strip r p.flags x.state
    ti ← coordinate (x.cursor.strip_t +ℤ curt)
    (id, after_id) ← r.id after_curt
    (ib, refining, after_ib) ← instance_symbol r p id x.refining after_id
    (region, cursor) ← with_symbol p.flags x.region x.cursor ti ib
    Ok (record { region = region; cursor = cursor; refining = refining; state = after_ib })

  -- this many more instances, where others come after them
  unfoldable pub after_instances : ℕ → TextState S → Result (TextState S) DecodeError
  after_instances zero x = Ok x
  after_instances (suc n) x = do
    y ← with_instance x
    (cursor, after) ← next_cursor r p.flags y.cursor y.state
    after_instances n (record y { cursor = cursor; state = after })

  -- A region (steps 1, 3 and 4), which begins in its default colour, and the contexts and the coder after it. STRIPT
  -- begins at the negative of the first DT; without instances no strip is read. More than 32 instances for each byte of
  -- the segment are refused. An out-of-band value must end the last strip, too: strict reading refuses any other end,
  -- and lenient reading takes it (our own rules).
  unfoldable pub text_region : Grid → Refining → S → Result (Grid × Refining × S) DecodeError
  text_region region f s = do
    few ← refuse_if (nat_lt (32 * p.data_length) p.count) (Symbol TooManyInstances)
    (dt, after_dt) ← strip_delta r p.flags s
    stript ← coordinate (pos 0 -ℤ dt)
    if p.count == 0 then Ok (region, f, after_dt) else do
      (cursor, after) ← strip_start r p.flags stript (pos 0) after_dt
      x ← after_instances (p.count - 1) (record { region = region; cursor = cursor; refining = f; state = after })
      last ← with_instance x
      ends ← if p.strict
          then (r.delta_s last.state >>= λ ids. refuse_if (is_some ids) (Symbol TooManyInstances)) else Ok tt
      Ok (last.region, last.refining, r.after_delta_s last.state)
