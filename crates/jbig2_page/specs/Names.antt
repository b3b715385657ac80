-- Names (T.88, 7.3): what segments keep for later ones, each under its segment's number, and what later ones refer to.
-- A number means the first value that is kept under it: one of the page's own, or else one of the globals. That the
-- first of equal numbers counts is our own rule.
use Rattle.std.specs.Prelude.{ℕ, ◌+◌, nat_lt, ◌==◌, Bool, List, [], ◌∷◌, ◌++◌, length, Option}
use Rattle.std.specs.Prelude.{Some, None, Result, Ok, if◌then◌else◌}
use Rattle.std.specs.Option.{option_map_or, option_or}
use Rattle.jbig2_base.specs.Results.{◌>>=◌, refuse_if}
use Rattle.jbig2_base.specs.Bits.{start_of}
use Rattle.jbig2_base.specs.Grid.{Grid}
use Rattle.jbig2_framing.specs.Segment.{SegmentView}
use Rattle.jbig2_base.specs.declared.error.DecodeError.{DecodeError}
use Rattle.jbig2_base.specs.declared.error.DecodeError.TheVariants.{Overflow, Segment}
use Rattle.jbig2_base.specs.declared.error.OverflowError.TheVariants.{SymbolCount}
use Rattle.jbig2_base.specs.declared.error.SegmentError.TheVariants.{InvalidReference, UnknownType}
use Rattle.jbig2_framing.specs.declared.segment.SegmentType.{SegmentType}
use Rattle.jbig2_coder.specs.CustomTable.{result_of, custom_table}
use Rattle.jbig2_coder.specs.PrefixCode.{Member}
use Rattle.jbig2_halftone.specs.PatternHeader.{pattern_header_at}
use Rattle.jbig2_halftone.specs.Patterns.{Patterns, patterns_decoded}
use Rattle.jbig2_symbol.specs.SymbolHeader.{symbol_header_at, max_new_symbols}
use Rattle.jbig2_symbol.specs.SymbolReading.{BitmapContexts}
use Rattle.jbig2_symbol.specs.Symbols.{Symbols, symbols_decoded}
use Rattle.jbig2_page.specs.declared.kept.Kept.{Kept}
use Rattle.jbig2_page.specs.OtherSegments.{extension}
use Rattle.jbig2_framing.specs.declared.segment.SegmentType.TheVariants as types

abbrev pub kept_under : {V : Type 0} → ℕ → V → List (Kept V) → List (Kept V)  -- at the end of what is kept already
kept_under number value kept = kept ++ record { segment_number = number; value = value } ∷ []

abbrev pub first_kept : {V : Type 0} → ℕ → List (Kept V) → Option V
first_kept number [] = None
first_kept number (k ∷ kept) = if k.segment_number == number then Some k.value else first_kept number kept

-- the page's own value, else that of the globals
abbrev pub kept_of : {V : Type 0} → ℕ → List (Kept V) → List (Kept V) → Option V
kept_of number own shared = option_or (first_kept number own) (first_kept number shared)

-- The symbol dictionaries, the codes of custom tables and the pattern dictionaries that are kept, in order.
pub record Names : Type 0 where
  pub symbols : List (Kept Symbols)
  pub codes : List (Kept (List Member))
  pub patterns : List (Kept Patterns)

abbrev pub no_names : Names
no_names = record { symbols = []; codes = []; patterns = [] }

-- What a list of numbers refers to: all the symbols, all the codes of custom tables, and the contexts that the last
-- symbol dictionary kept, if it kept any.
pub record ReferredValues : Type 0 where
  pub symbols : List Grid
  pub codes : List (List Member)
  pub kept : Option BitmapContexts

-- More than 2^20 symbols together are refused (our own rule).
abbrev pub with_dictionary : Symbols → ReferredValues → Result ReferredValues DecodeError
with_dictionary s r =
    refuse_if (nat_lt max_new_symbols (length (r.symbols ++ s.exported))) (Overflow SymbolCount)
    >>= λ few. Ok (record r { symbols = r.symbols ++ s.exported; kept = s.kept })

-- Adds the code of a custom table. Where the number names none, strict reading refuses, and other readings add nothing.
abbrev pub with_table : Bool → Option (List Member) → ReferredValues → Result ReferredValues DecodeError
with_table strict (Some code) r = Ok (record r { codes = r.codes ++ code ∷ [] })
with_table strict None r = refuse_if strict (Segment InvalidReference) >>= λ known. Ok r

module _ (strict : Bool) (own shared : Names) where
  -- A number means a symbol dictionary if it names one, and else a custom table.
  abbrev pub with_number : ℕ → ReferredValues → Result ReferredValues DecodeError
  with_number number r =
      option_map_or (λ s. with_dictionary s r) (kept_of number own.symbols shared.symbols)
      (with_table strict (kept_of number own.codes shared.codes) r)

  abbrev pub with_numbers : List ℕ → ReferredValues → Result ReferredValues DecodeError
  with_numbers [] r = Ok r
  with_numbers (number ∷ numbers) r = with_number number r >>= λ more. with_numbers numbers more

  -- What a symbol dictionary or a text region refers to (7.3.1, 7.4.2.1.6, 7.4.3.1.6).
  abbrev pub referred_by : List ℕ → Result ReferredValues DecodeError
  referred_by numbers = with_numbers numbers (record { symbols = []; codes = []; kept = None })

  -- A symbol dictionary (7.4.2), after what it refers to. Only salvage passes over it where it fails. The same holds
  -- for pattern dictionaries and custom tables.
  unfoldable pub symbol_dictionary_at : SegmentView → Result Symbols DecodeError
  symbol_dictionary_at p = do
    referred ← referred_by p.header.referred_to_segments
    (header, rest) ← symbol_header_at strict p.bytes
    symbols_decoded header referred.symbols referred.codes referred.kept

unfoldable pub with_symbols : Bool → Names → SegmentView → Names → Result Names DecodeError
with_symbols strict shared p own =
    symbol_dictionary_at strict own shared p
    >>= λ symbols. Ok (record own { symbols = kept_under p.header.segment_number symbols own.symbols })

unfoldable pub pattern_dictionary_at : Bool → List ℕ → Result Patterns DecodeError  -- a pattern dictionary (7.4.4)
pattern_dictionary_at strict bytes = pattern_header_at strict bytes >>= λ (header, rest). patterns_decoded header

unfoldable pub with_patterns : Bool → SegmentView → Names → Result Names DecodeError
with_patterns strict p own =
    pattern_dictionary_at strict p.bytes
    >>= λ patterns. Ok (record own { patterns = kept_under p.header.segment_number patterns own.patterns })

abbrev pub table_at : List ℕ → Result (List Member) DecodeError  -- a custom table (7.4.13, B.2)
table_at bytes = result_of (custom_table (start_of bytes))

unfoldable pub with_code : SegmentView → Names → Result Names DecodeError
with_code p own =
    table_at p.bytes >>= λ code. Ok (record own { codes = kept_under p.header.segment_number code own.codes })

-- The names after a segment that draws nothing: one of a page, or one of the globals, for which `shared` is empty.
abbrev pub kept_by : Bool → Names → SegmentView → Names → Result Names DecodeError
kept_by strict shared p own = on p.header.segment_type
  where
    on : SegmentType → Result Names DecodeError
    on types.SymbolDictionary = with_symbols strict shared p own
    on types.PatternDictionary = with_patterns strict p own
    on types.Tables = with_code p own
    on types.Extension = extension strict p.bytes >>= λ known. Ok own
    on types.Reserved = refuse_if strict (Segment UnknownType) >>= λ known. Ok own
    on _ = Ok own
