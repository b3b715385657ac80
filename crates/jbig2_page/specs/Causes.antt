-- Which rule is broken where a file or a reference of a segment is refused (docs/FORMAT.md, 1, 4 and 8), one line for
-- each error. The function that refuses cites its predicate `Breaks..`.
use Rattle.std.specs.Prelude.{◌≡◌, ◌≢◌, ◌⊎◌, ◌<◌, ◌≤◌, ℕ, Bool, IsTrue, IsFalse, List, [], length, slice_get, Any, None}
use Rattle.std.specs.Prelude.{Some, option_and_then, unwrap_or, IfErr, IfOk}
use Rattle.std.specs.List.{flat_map}
use Rattle.std.specs.Int.{w32}
use Rattle.std.specs.Option.{option_map_or}
use Rattle.jbig2_base.specs.Causes.{After, number_in}
use Rattle.jbig2_framing.specs.Causes.{BreaksFileHeader, BreaksInitialPage}
use Rattle.jbig2_framing.specs.File.{file_header_at}
use Rattle.jbig2_base.specs.Grid.{Grid}
use Rattle.jbig2_framing.specs.Reading.{is_salvaged, is_strict}
use Rattle.jbig2_framing.specs.Segment.{SegmentView}
use Rattle.jbig2_base.specs.declared.error.DecodeError.{DecodeError}
use Rattle.jbig2_base.specs.declared.error.DecodeError.TheVariants.{OutOfMemory, Parse, Format, Huffman, Segment}
use Rattle.jbig2_base.specs.declared.error.DecodeError.TheVariants.{Overflow, Template, Unsupported}
use Rattle.jbig2_base.specs.declared.error.FormatError.TheVariants.{MissingPageInfo, PageCountMismatch}
use Rattle.jbig2_base.specs.declared.error.FormatError.TheVariants.{InvalidEndOfPage}
use Rattle.jbig2_base.specs.declared.error.HuffmanError.TheVariants.{ConflictingCodes}
use Rattle.jbig2_base.specs.declared.error.OverflowError.TheVariants.{Index, SymbolCount}
use Rattle.jbig2_base.specs.declared.error.ParseError.TheVariants.{UnexpectedEof}
use Rattle.jbig2_base.specs.declared.error.SegmentError.TheVariants.{InvalidReference, MissingPatternDictionary}
use Rattle.jbig2_base.specs.declared.error.SegmentError.TheVariants.{MissingPageAssociation}
use Rattle.jbig2_base.specs.declared.error.TemplateError.TheVariants.{Invalid}
use Rattle.jbig2_framing.specs.declared.file_header.FileHeader.{FileHeader}
use Rattle.jbig2_framing.specs.declared.reading.Reading.{Reading}
use Rattle.jbig2_region.specs.Causes.{BreaksOffset, BreaksRefinementHeader}
use Rattle.jbig2_region.specs.RegionInfo.{PlacedRegion}
use Rattle.jbig2_region.specs.RefinementHeader.{refinement_header_at}
use Rattle.jbig2_symbol.specs.SymbolHeader.{max_new_symbols}
use Rattle.jbig2_framing.specs.ByteCauses.{BreaksSegments}
use Rattle.jbig2_page.specs.Files.{ReadFile, book_at, by_pages, ends_of, needs_page, segments_at}
use Rattle.jbig2_page.specs.Names.{Names, first_kept, kept_of}
use Rattle.jbig2_page.specs.Page.{ReadPage, drawing_of_page, page_from}
use Rattle.jbig2_page.specs.Regions.{page_area, patterns_for}
use Rattle.jbig2_page.specs.Globals.{globals_at}
use Rattle.jbig2_page.specs.declared.kept.Kept.{Kept}

-- ---- files (7.2.6, 7.4.9 and D.4.3)
-- The pages of a file with this header and these segments. The first three rules are those of strict reading alone. Any
-- other error is that of a page's beginning; salvage leaves out such a page instead.
abbrev pub BreaksPages : Reading → FileHeader → List SegmentView → DecodeError → Type 0
BreaksPages reading h ps (Segment MissingPageAssociation) =
    IsTrue (is_strict reading)
    × Any (λ p. (p.header.page_association ≡ 0) × IsTrue (needs_page p.header.segment_type)) ps
BreaksPages reading h ps (Format PageCountMismatch) =
    IsTrue (is_strict reading)
    × (count : ℕ) × (h.number_of_pages ≡ Some count) × (count ≢ length (by_pages ps))
BreaksPages reading h ps (Format InvalidEndOfPage) =
    IsTrue (is_strict reading) × Any (λ own. ends_of own ≢ 1) (by_pages ps)
BreaksPages reading h ps e = IsFalse (is_salvaged reading e) × Any (λ own. BreaksInitialPage own e) (by_pages ps)

-- a file: its header, one of its segments, or what holds of all its pages
abbrev pub BreaksBook : Reading → List ℕ → DecodeError → Type 0
BreaksBook reading bytes e =
    BreaksFileHeader bytes e
    ⊎ After (file_header_at bytes) (λ (h, rest). BreaksSegments h.organization reading rest e)
    ⊎ After (segments_at reading bytes) (λ (h, ps). BreaksPages reading h ps e)

abbrev pub BreaksFirstPage : ReadFile → DecodeError → Type 0  -- the first page of a file that has none
BreaksFirstPage book (Format MissingPageInfo) = book.pages ≡ []
BreaksFirstPage book _ = ⊥

-- ---- what a segment refers to (7.3.1)
-- There are too many symbols together, or a number names neither a symbol dictionary nor a custom table.
abbrev pub BreaksReferred : Bool → Names → Names → List ℕ → DecodeError → Type 0
BreaksReferred strict own shared numbers (Overflow SymbolCount) =
    max_new_symbols < length (flat_map (λ n. option_map_or (λ s. s.exported) (kept_of n own.symbols shared.symbols) []) numbers)
BreaksReferred strict own shared numbers (Segment InvalidReference) =
    IsTrue strict
    × Any (λ n. (kept_of n own.symbols shared.symbols ≡ None) × (kept_of n own.codes shared.codes ≡ None)) numbers
BreaksReferred strict own shared numbers _ = ⊥

-- The patterns of a halftone region: its first number names no pattern dictionary, or it has no number.
abbrev pub BreaksPatternReference : Names → Names → List ℕ → DecodeError → Type 0
BreaksPatternReference own shared numbers (Segment MissingPatternDictionary) = patterns_for own shared numbers ≡ None
BreaksPatternReference own shared numbers _ = ⊥

-- A refinement: its first number names no region that is kept, or it is an intermediate one that refers to nothing. Or
-- its header breaks a rule. Or its offset to its reference does: the region that is named, or else the page's area.
abbrev pub BreaksRefinement : Bool → Bool → Grid → List (Kept PlacedRegion) → SegmentView → DecodeError → Type 0
BreaksRefinement strict is_intermediate page regions p e =
    let numbers = p.header.referred_to_segments in
    let reference = option_and_then (λ number. first_kept number regions) (slice_get numbers 0) in
    ((e ≡ Segment InvalidReference) × IsTrue strict × (reference ≡ None) × (IsTrue is_intermediate ⊎ (numbers ≢ [])))
    ⊎ BreaksRefinementHeader p.bytes e
    ⊎ After (refinement_header_at p.bytes) (λ (header, rest).
    BreaksOffset (unwrap_or reference (page_area page header.region_info)) header.region_info e)

-- ---- extensions (7.4.14)
-- Strict reading alone refuses an extension: one without a type, or one whose type has its highest bit set.
abbrev pub BreaksExtension : Bool → List ℕ → DecodeError → Type 0
BreaksExtension strict bytes (Parse UnexpectedEof) = IsTrue strict × (length bytes < 4)
BreaksExtension strict bytes Unsupported = IsTrue strict × (4 ≤ length bytes) × (2147483648 ≤ number_in w32 0 bytes)
BreaksExtension strict bytes _ = ⊥

-- ---- errors that no input causes
-- Every error except `OutOfMemory` and three others, which the enums have only for code that matches on them.
abbrev pub IsFromInput : DecodeError → Type 0
IsFromInput OutOfMemory = ⊥
IsFromInput (Huffman ConflictingCodes) = ⊥
IsFromInput (Template Invalid) = ⊥
IsFromInput (Overflow Index) = ⊥
IsFromInput _ = Unit {0}

-- No definition gives one of these four, whatever the bytes: neither for globals, embedded pages and files, nor for the
-- drawing of a page, unless the page's globals gave it. The globals of a file never do.
pub record ErrorsAreFromInput : Type 0 where
  pub globals : (reading : Reading) (bytes : List ℕ) → IfErr (globals_at reading bytes) IsFromInput
  pub page : (reading : Reading) (globals : Names) (bytes : List ℕ)
      → IfErr (page_from reading globals bytes) IsFromInput
  pub file : (reading : Reading) (bytes : List ℕ) → IfErr (book_at reading bytes) IsFromInput
  pub file_globals : (reading : Reading) (bytes : List ℕ)
      → IfOk (book_at reading bytes) (λ book. IfErr book.globals IsFromInput)
  pub drawing : (page : ReadPage) → IfErr page.globals IsFromInput → IfErr (drawing_of_page page) IsFromInput
