-- Which rule the input breaks where a text region is refused (docs/FORMAT.md): in its header, at its instances,
-- whatever the coding, in its tables, and in its coded numbers. `Breaks..` takes what is read and an error, and the
-- function that refuses cites it. An error at an instance comes after the instances before it are read.
use Rattle.std.specs.Prelude.{◌≡◌, ◌<◌, ◌⊎◌, ℕ, ◌+◌, ◌/◌, ◌%◌, ◌==◌, Bool, ◌&&◌, if◌then◌else◌, List, [], length, drop}
use Rattle.std.specs.Prelude.{Ok, IfErr, ℤ, pos, negsuc, ◌≤◌, ◌-◌, ◌*◌, ◌^◌, true, false, ◌+ℤ◌, ◌-ℤ◌, ◌*ℤ◌}
use Rattle.std.specs.Prelude.{Option, Some, None, ◌≢◌, nat_lt}
use Rattle.std.specs.Int.{w8, w16, int_shr}
use Rattle.jbig2_base.specs.Bits.{Place, bits_left, start_of, byte_boundary}
use Rattle.jbig2_base.specs.Causes.{After, number_in, LeavesWord}
use Rattle.jbig2_base.specs.declared.error.DecodeError.{DecodeError}
use Rattle.jbig2_base.specs.declared.error.DecodeError.TheVariants.{Huffman, Parse, Region, Unsupported, Overflow}
use Rattle.jbig2_base.specs.declared.error.DecodeError.TheVariants.{Symbol}
use Rattle.jbig2_base.specs.declared.error.HuffmanError.TheVariants.{InvalidCode, InvalidSelection, MissingTables}
use Rattle.jbig2_base.specs.declared.error.ParseError.TheVariants.{UnexpectedEof}
use Rattle.jbig2_base.specs.declared.error.RegionError.TheVariants.{InvalidCombinationOperator}
use Rattle.jbig2_base.specs.declared.error.OverflowError.TheVariants.{BitmapDimension, PlacementCoordinate}
use Rattle.jbig2_base.specs.declared.error.OverflowError.TheVariants.{ReferenceOffset}
use Rattle.jbig2_base.specs.declared.error.SymbolError.TheVariants.{InvalidStripDelta, OutOfRange, TooManyInstances}
use Rattle.jbig2_base.specs.declared.error.SymbolError.TheVariants.{UnexpectedOob}
use Rattle.jbig2_base.specs.Grid.{Grid, max_side}
use Rattle.jbig2_coder.specs.Causes.{AreCrowded, BreaksNumberAt, BreaksValueAt}
use Rattle.jbig2_coder.specs.PrefixCode.{Member, value_at}
use Rattle.jbig2_coder.specs.declared.integer_procedures.IntegerProcedure.{IntegerProcedure}
use Rattle.jbig2_coder.specs.declared.integer_procedures.IntegerProcedure.TheVariants.{Iadt, Iafs, Iait, Iardh, Iardw}
use Rattle.jbig2_coder.specs.declared.integer_procedures.IntegerProcedure.TheVariants.{Iardx, Iardy, Iari}
use Rattle.jbig2_text.specs.SymbolCodes.{lines_from, runcodes_at, runs_at, short_lengths}
use Rattle.jbig2_text.specs.TextHeader.{ArithmeticCoding, HuffmanCoding, NumberCoding, TextHeader}
use Rattle.jbig2_text.specs.Refining.{Refining}
use Rattle.jbig2_text.specs.Text.{TextState, Readings, TextParams, after_instances, instance_symbol, is_bottom}
use Rattle.jbig2_text.specs.Text.{is_last_along_s, is_right, refinement_deltas, strip_start, strip_delta, symbol_of}
use Rattle.jbig2_text.specs.Text.{t_in_strip, with_instance}
use Rattle.jbig2_text.specs.declared.cursor.Cursor.{Cursor}
use Rattle.jbig2_text.specs.declared.header.TextRegionFlags.{TextRegionFlags}
use Rattle.jbig2_text.specs.declared.header.TextRegionHuffmanFlags.{TextRegionHuffmanFlags}
use Rattle.jbig2_text.specs.TextCoding.{CodedState, PrefixedState, by_coder, by_prefix_codes, next_integer}
use Rattle.jbig2_text.specs.TextRegion.{blank_region, coder_of, prefix_codes_of, refining_of, text_params}
use Rattle.jbig2_region.specs.Refinement.{Reference}

-- ---- the codes of the ids (7.4.3.1.7)
-- A runcode whose bits are missing: two after 32, three after 33, seven after 34. Or 32, which has no length to repeat.
abbrev pub BreaksRun : ℤ → List ℕ → Place → Type 0
BreaksRun (pos code) so_far p =
    ((code ≡ 32) × ((length (bits_left p) < 2) ⊎ (so_far ≡ [])))
    ⊎ ((code ≡ 33) × (length (bits_left p) < 3))
    ⊎ ((33 < code) × (length (bits_left p) < 7))
BreaksRun (negsuc n) so_far p = Unit {0}

-- There are too few lengths after some runs, and this holds for the runcodes, the lengths so far and the place.
abbrev pub ARun : ℕ → Place → (List Member → List ℕ → Place → Type 0) → Type 0
ARun count p Q =
    After (runcodes_at p) (λ (runcodes, after_runcodes).
    (k : ℕ) × After (runs_at k count runcodes [] after_runcodes) (λ (lens, rest).
    (length lens < count) × Q runcodes lens rest))

-- One of the 35 short lengths is missing, or they are crowded. Or a run is faulty. Or the runs have more lengths than
-- there are symbols, or crowded ones. Or a runcode is refused.
abbrev pub BreaksSymbolCodes : ℕ → Place → DecodeError → Type 0
BreaksSymbolCodes count p e =
    ((e ≡ Huffman InvalidCode) × (
    ((k : ℕ) × (k < 35) × After (short_lengths k [] p) (λ (_, rest). length (bits_left rest) < 4))
    ⊎ After (short_lengths 35 [] p) (λ (lens, _). AreCrowded (lines_from 0 lens))
    ⊎ ARun count p (λ runcodes so_far q. After (value_at runcodes q) (λ (code, rest). BreaksRun code so_far rest))
    ⊎ After (runcodes_at p) (λ (runcodes, after_runcodes).
    After (runs_at count count runcodes [] after_runcodes) (λ (lens, _).
    (count < length lens) ⊎ AreCrowded (lines_from 0 lens)))))
    ⊎ ARun count p (λ runcodes so_far q. BreaksNumberAt runcodes q e)

-- ---- the header
-- The flags are at byte 17. With prefix codes two bytes of table numbers follow. Where symbols are refined with
-- template 0, four bytes of adaptive pixels follow. Then come four bytes for the number of instances.
abbrev pub fields_length : List ℕ → ℕ
fields_length bytes =
    let flags = number_in w16 17 bytes in
    (if flags % 2 == 1 then 21 else 19) + (if (flags / 2 % 2 == 1) && (flags / 32768 == 0) then 4 else 0) + 4

-- with prefix codes, the codes of the ids come after these fields
abbrev pub BreaksTextHeader : ℕ → List ℕ → DecodeError → Type 0
BreaksTextHeader symbols bytes e =
    ((e ≡ Parse UnexpectedEof) × (length bytes < fields_length bytes))
    ⊎ ((e ≡ Region InvalidCombinationOperator) × (4 < number_in w8 16 bytes % 8))
    ⊎ ((e ≡ Unsupported) × (number_in w8 16 bytes / 8 % 2 ≡ 1))
    ⊎ ((number_in w16 17 bytes % 2 ≡ 1) × BreaksSymbolCodes symbols (start_of (drop (fields_length bytes) bytes)) e)

-- for each reading of a coding, why it is refused at a state of the coder
pub record ReadingCauses (S : Type 0) : Type 1 where
  pub delta_t : S → DecodeError → Type 0
  pub first_s : S → DecodeError → Type 0
  pub delta_s : S → DecodeError → Type 0
  pub t_bits : ℕ → S → DecodeError → Type 0
  pub id : S → DecodeError → Type 0
  pub is_refined : S → DecodeError → Type 0
  pub width_delta : S → DecodeError → Type 0
  pub height_delta : S → DecodeError → Type 0
  pub x_delta : S → DecodeError → Type 0
  pub y_delta : S → DecodeError → Type 0
  pub refined : S → DecodeError → Type 0

pub record ReadingsHaveCauses {S : Type 0} (r : Readings S) (c : ReadingCauses S) : Type 0 where
  pub delta_t : (s : S) → IfErr (r.delta_t s) (c.delta_t s)
  pub first_s : (s : S) → IfErr (r.first_s s) (c.first_s s)
  pub delta_s : (s : S) → IfErr (r.delta_s s) (c.delta_s s)
  pub t_bits : (log : ℕ) (s : S) → IfErr (r.t_bits log s) (c.t_bits log s)
  pub id : (s : S) → IfErr (r.id s) (c.id s)
  pub is_refined : (s : S) → IfErr (r.is_refined s) (c.is_refined s)
  pub width_delta : (s : S) → IfErr (r.width_delta s) (c.width_delta s)
  pub height_delta : (s : S) → IfErr (r.height_delta s) (c.height_delta s)
  pub x_delta : (s : S) → IfErr (r.x_delta s) (c.x_delta s)
  pub y_delta : (s : S) → IfErr (r.y_delta s) (c.y_delta s)
  pub refined : (from : Reference) (width height : ℕ) (f : Refining) (s : S)
      → IfErr (r.refined from width height f s) (c.refined s)

abbrev pub IsNoSide : ℤ → Type 0  -- it can't be a side of a symbol: it is negative, or above 65535
IsNoSide (pos n) = max_side < n
IsNoSide (negsuc n) = Unit {0}

abbrev pub NamesNone : List Grid → ℤ → Type 0  -- an id that is not below the number of the symbols
NamesNone symbols (pos id) = length symbols ≤ id
NamesNone symbols (negsuc id) = Unit {0}

-- ---- strips (6.4.5, step 3)
module _ {S : Type 0} (c : ReadingCauses S) (r : Readings S) (flags : TextRegionFlags) where
  -- delta T times the strip size, STRIPT + DT or FIRSTS + DFS isn't a signed number of 32 bits; or a number is refused
  abbrev pub BreaksStrip : ℤ → ℤ → S → DecodeError → Type 0
  BreaksStrip stript firsts s e =
      ((e ≡ Symbol InvalidStripDelta)
      × After (r.delta_t s) (λ (strips, _). LeavesWord (strips *ℤ pos (2 ^ flags.log_strip_size))))
      ⊎ ((e ≡ Overflow PlacementCoordinate) × After (strip_delta r flags s) (λ (dt, after).
      LeavesWord (stript +ℤ dt) ⊎ After (r.first_s after) (λ (dfs, _). LeavesWord (firsts +ℤ dfs))))
      ⊎ c.delta_t s e
      ⊎ After (strip_delta r flags s) (λ (_, after). c.first_s after e)

  -- the move after IDS: to the next strip, or in this one, where IDS or SBDSOFFSET takes CURS out of signed 32 bits
  abbrev pub BreaksMoveBy : Cursor → Option ℤ → S → DecodeError → Type 0
  BreaksMoveBy at None s e = BreaksStrip at.strip_t at.first_s s e
  BreaksMoveBy at (Some ids) s e =
      (e ≡ Overflow PlacementCoordinate)
      × (LeavesWord (at.cur_s +ℤ ids) ⊎ LeavesWord (at.cur_s +ℤ ids +ℤ flags.delta_s_offset))

-- ---- an instance (6.4.5, step 3 c)
module _ {S : Type 0} (r : Readings S) (p : TextParams) (x : TextState S) where
  -- this holds for its id, and for the state after the id
  abbrev pub AtId : (ℤ → S → Type 0) → Type 0
  AtId Q =
      After (t_in_strip r p.flags x.state) (λ (_, after_curt). After (r.id after_curt) (λ (id, after). Q id after))

  -- it is refined, and this holds for the symbol of its id, and for the state before the numbers of its refinement
  abbrev pub AtRefined : (Grid → S → Type 0) → Type 0
  AtRefined Q =
      AtId (λ id s. After (if p.flags.use_refinement then r.is_refined s else Ok (false, s)) (λ (is_refined, after).
      (is_refined ≡ true) × ((from : Grid) × (symbol_of p.symbols id ≡ Some from) × Q from after)))

-- a symbol's other end, its first column or its first row isn't a signed number of 32 bits
abbrev pub APlaceLeaves : TextRegionFlags → Grid → ℤ → ℤ → Type 0
APlaceLeaves flags g curs ti =
    let other_end : ℤ = curs +ℤ (pos (if flags.transposed then g.height else g.width) -ℤ pos 1) in
    let si : ℤ = if is_last_along_s flags then other_end else curs in
    LeavesWord other_end
    ⊎ ((is_right flags.reference_corner ≡ true)
    × LeavesWord ((if flags.transposed then ti else si) -ℤ (pos g.width -ℤ pos 1)))
    ⊎ ((is_bottom flags.reference_corner ≡ true)
    × LeavesWord ((if flags.transposed then si else ti) -ℤ (pos g.height -ℤ pos 1)))

-- one of the four numbers of a refinement is refused, or the bits of the symbol after them
abbrev pub ARefinementIsRefused : {S : Type 0} → ReadingCauses S → Readings S → S → DecodeError → Type 0
ARefinementIsRefused c r s e =
    c.width_delta s e
    ⊎ After (r.width_delta s) (λ (_, after_rdw). c.height_delta after_rdw e
    ⊎ After (r.height_delta after_rdw) (λ (_, after_rdh). c.x_delta after_rdh e
    ⊎ After (r.x_delta after_rdh) (λ (_, after_rdx). c.y_delta after_rdx e)))
    ⊎ After (refinement_deltas r s) (λ (_, after). c.refined after e)

-- Its id has no symbol. Or a side of a refined symbol, its place or TI leaves its range. Or a number is refused.
abbrev pub BreaksInstance : {S : Type 0} → ReadingCauses S → Readings S → TextParams → TextState S → DecodeError → Type 0
BreaksInstance c r p x e =
    ((e ≡ Symbol OutOfRange) × AtId r p x (λ id s. NamesNone p.symbols id))
    ⊎ ((e ≡ Overflow BitmapDimension) × AtRefined r p x (λ from s. After (refinement_deltas r s) (λ (deltas, _).
    IsNoSide (pos from.width +ℤ deltas.width) ⊎ IsNoSide (pos from.height +ℤ deltas.height))))
    ⊎ ((e ≡ Overflow ReferenceOffset) × AtRefined r p x (λ from s. After (refinement_deltas r s) (λ (deltas, _).
    LeavesWord (int_shr deltas.width 1 +ℤ deltas.x) ⊎ LeavesWord (int_shr deltas.height 1 +ℤ deltas.y))))
    ⊎ ((e ≡ Overflow PlacementCoordinate) × After (t_in_strip r p.flags x.state) (λ (curt, after_curt).
    LeavesWord (x.cursor.strip_t +ℤ curt)
    ⊎ After (r.id after_curt) (λ (id, after_id). After (instance_symbol r p id x.refining after_id) (λ (ib, _, _).
    (g : Grid) × (ib ≡ Some g) × APlaceLeaves p.flags g x.cursor.cur_s (x.cursor.strip_t +ℤ curt)))))
    ⊎ c.t_bits p.flags.log_strip_size x.state e
    ⊎ After (t_in_strip r p.flags x.state) (λ (_, after_curt). c.id after_curt e)
    ⊎ AtId r p x (λ id s. c.is_refined s e)
    ⊎ AtRefined r p x (λ from s. ARefinementIsRefused c r s e)

-- ---- all instances
module _ {S : Type 0} (r : Readings S) (p : TextParams) (region : Grid) (f : Refining) (s : S) where
  -- this holds at instance k, after those before it; STRIPT begins at the negative of the first delta T
  abbrev pub AtInstance : ℕ → (TextState S → Type 0) → Type 0
  AtInstance k Q =
      After (strip_delta r p.flags s) (λ (dt, after_dt).
      After (strip_start r p.flags (pos 0 -ℤ dt) (pos 0) after_dt) (λ (cursor, after).
      After (after_instances r p k (record { region = region; cursor = cursor; refining = f; state = after })) Q))

  -- the state after the last instance, in strict mode
  abbrev pub AtEnd : (S → Type 0) → Type 0
  AtEnd Q =
      (p.strict ≡ true) × AtInstance (p.count - 1) (λ x. After (with_instance r p x) (λ last. Q last.state))

-- There are more instances than 32 for each byte, or in strict mode another one after the last. Or the first delta T or
-- its negative isn't a signed number of 32 bits. Or the first delta T, the first strip, an instance, the move to the
-- next one or the last delta S breaks a rule.
abbrev pub BreaksInstances : {S : Type 0} → ReadingCauses S → Readings S → TextParams → Grid → Refining → S
    → DecodeError → Type 0
BreaksInstances c r p region f s e =
    ((e ≡ Symbol TooManyInstances) × ((32 * p.data_length < p.count)
    ⊎ AtEnd r p region f s (λ u. After (r.delta_s u) (λ ids. (n : ℤ) × (ids ≡ Some n)))))
    ⊎ ((e ≡ Symbol InvalidStripDelta)
    × After (r.delta_t s) (λ (strips, _). LeavesWord (strips *ℤ pos (2 ^ p.flags.log_strip_size))))
    ⊎ ((e ≡ Overflow PlacementCoordinate) × After (strip_delta r p.flags s) (λ (dt, _). LeavesWord (pos 0 -ℤ dt)))
    ⊎ c.delta_t s e
    ⊎ After (strip_delta r p.flags s) (λ (dt, after). BreaksStrip c r p.flags (pos 0 -ℤ dt) (pos 0) after e)
    ⊎ ((k : ℕ) × (k < p.count) × AtInstance r p region f s k (λ x. BreaksInstance c r p x e
    ⊎ After (with_instance r p x) (λ y. c.delta_s y.state e
    ⊎ After (r.delta_s y.state) (λ ids. BreaksMoveBy c r p.flags y.cursor ids (r.after_delta_s y.state) e))))
    ⊎ AtEnd r p region f s (λ u. c.delta_s u e)

-- ---- tables (7.4.3.1.6)
-- a number that names no table: neither one of two of the standard, 0 and 1, nor a custom one, 3
abbrev pub HasNoMeaning : ℕ → Type 0
HasNoMeaning n = (2 ≤ n) × (n ≢ 3)

abbrev pub customs_if : Bool → ℕ  -- how many custom tables a choice takes
customs_if is_custom = if is_custom then 1 else 0

abbrev pub BreaksTextTables : TextRegionHuffmanFlags → List (List Member) → DecodeError → Type 0
BreaksTextTables flags customs e =
    ((e ≡ Huffman InvalidSelection) × (HasNoMeaning flags.first_s_table ⊎ HasNoMeaning flags.refinement_width_table
    ⊎ HasNoMeaning flags.refinement_height_table ⊎ HasNoMeaning flags.refinement_x_table
    ⊎ HasNoMeaning flags.refinement_y_table))
    ⊎ ((e ≡ Huffman MissingTables) × (length customs
    < customs_if (flags.first_s_table == 3) + customs_if (nat_lt 2 flags.delta_s_table)
    + customs_if (nat_lt 2 flags.delta_t_table)
    + customs_if (flags.refinement_width_table == 3) + customs_if (flags.refinement_height_table == 3)
    + customs_if (flags.refinement_x_table == 3) + customs_if (flags.refinement_y_table == 3)
    + customs_if (nat_lt 0 flags.refinement_size_table)))

-- ---- the arithmetic coder
-- the next integer is out of band
abbrev pub IsOutOfBand : IntegerProcedure → CodedState → DecodeError → Type 0
IsOutOfBand procedure s e = (e ≡ Symbol UnexpectedOob) × ((next_integer procedure s).0 ≡ None)

abbrev pub coder_causes : ReadingCauses CodedState
coder_causes = record {
  delta_t = IsOutOfBand Iadt;
  first_s = IsOutOfBand Iafs;
  delta_s = λ s e. ⊥;
  t_bits = λ log. IsOutOfBand Iait;
  id = λ s e. ⊥;
  is_refined = IsOutOfBand Iari;
  width_delta = IsOutOfBand Iardw;
  height_delta = IsOutOfBand Iardh;
  x_delta = IsOutOfBand Iardx;
  y_delta = IsOutOfBand Iardy;
  refined = λ s e. ⊥;
}

-- ---- prefix codes
abbrev pub LacksBits : DecodeError → ℕ → PrefixedState → DecodeError → Type 0  -- fewer bits than this are left
LacksBits error count s e = (e ≡ error) × (length (bits_left s.place) < count)

-- fewer bytes than the size are left, from the next whole one on; or the size is negative
abbrev pub LacksBytes : ℤ → Place → DecodeError → Type 0
LacksBytes (pos size) p e = (e ≡ Parse UnexpectedEof) × (length (byte_boundary p).bytes < size)
LacksBytes (negsuc size) p e = e ≡ Parse UnexpectedEof

-- for a refined symbol: the size of its bytes is refused, or bytes are missing
abbrev pub prefix_causes : ReadingCauses PrefixedState
prefix_causes = record {
  delta_t = λ s. BreaksNumberAt s.tables.delta_t s.place;
  first_s = λ s. BreaksNumberAt s.tables.first_s s.place;
  delta_s = λ s. BreaksValueAt s.tables.delta_s s.place;
  t_bits = LacksBits (Huffman InvalidCode);
  id = λ s. BreaksNumberAt s.ids s.place;
  is_refined = LacksBits (Parse UnexpectedEof) 1;
  width_delta = λ s. BreaksNumberAt s.tables.refinement_width s.place;
  height_delta = λ s. BreaksNumberAt s.tables.refinement_height s.place;
  x_delta = λ s. BreaksNumberAt s.tables.refinement_x s.place;
  y_delta = λ s. BreaksNumberAt s.tables.refinement_y s.place;
  refined = λ s e.
      BreaksNumberAt s.tables.refinement_size s.place e
      ⊎ After (value_at s.tables.refinement_size s.place) (λ (size, rest). LacksBytes size rest e);
}

-- ---- a region
abbrev pub BreaksRegionBy : TextHeader → NumberCoding → List Grid → List (List Member) → Grid → DecodeError → Type 0
BreaksRegionBy h ArithmeticCoding symbols customs region e =
    BreaksInstances coder_causes by_coder (text_params h symbols) region (refining_of h) (coder_of h symbols) e
BreaksRegionBy h (HuffmanCoding numbers ids) symbols customs region e =
    BreaksTextTables numbers customs e
    ⊎ After (prefix_codes_of h numbers ids customs) (λ s.
    BreaksInstances prefix_causes by_prefix_codes (text_params h symbols) region (refining_of h) s e)

unfoldable pub BreaksTextRegion : TextHeader → List Grid → List (List Member) → DecodeError → Type 0
BreaksTextRegion h symbols customs = BreaksRegionBy h h.coding symbols customs (blank_region h)
