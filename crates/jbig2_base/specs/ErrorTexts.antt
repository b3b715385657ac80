-- The text of each error, as its `Display` writes it (our own rule). Each definition takes the errors of one enum and
-- gives the bytes of their texts. `error_text` takes any error.
use Rattle.std.specs.Prelude.{ℕ, List, codes}
use Rattle.jbig2_base.specs.declared.error.DecodeError.{DecodeError}
use Rattle.jbig2_base.specs.declared.error.ParseError.{ParseError}
use Rattle.jbig2_base.specs.declared.error.FormatError.{FormatError}
use Rattle.jbig2_base.specs.declared.error.SegmentError.{SegmentError}
use Rattle.jbig2_base.specs.declared.error.HuffmanError.{HuffmanError}
use Rattle.jbig2_base.specs.declared.error.RegionError.{RegionError}
use Rattle.jbig2_base.specs.declared.error.TemplateError.{TemplateError}
use Rattle.jbig2_base.specs.declared.error.SymbolError.{SymbolError}
use Rattle.jbig2_base.specs.declared.error.OverflowError.{OverflowError}
use Rattle.jbig2_base.specs.declared.error.DecodeError.TheVariants as errors
use Rattle.jbig2_base.specs.declared.error.ParseError.TheVariants as parse
use Rattle.jbig2_base.specs.declared.error.FormatError.TheVariants as format
use Rattle.jbig2_base.specs.declared.error.SegmentError.TheVariants as segment
use Rattle.jbig2_base.specs.declared.error.HuffmanError.TheVariants as huffman
use Rattle.jbig2_base.specs.declared.error.RegionError.TheVariants as region
use Rattle.jbig2_base.specs.declared.error.TemplateError.TheVariants as template
use Rattle.jbig2_base.specs.declared.error.SymbolError.TheVariants as symbol
use Rattle.jbig2_base.specs.declared.error.OverflowError.TheVariants as overflow

abbrev pub parse_text : ParseError → List ℕ
parse_text parse.UnexpectedEof = codes "unexpected end of input"

abbrev pub format_text : FormatError → List ℕ
format_text format.InvalidHeader = codes "invalid JBIG2 file header"
format_text format.ReservedBits = codes "reserved bits must be zero"
format_text format.MissingPageInfo = codes "missing page information segment"
format_text format.UnknownPageHeight = codes "page height unknown with no stripe segments"
format_text format.EmptyPage = codes "page has zero width or height"
format_text format.PageCountMismatch = codes "page count in file header doesn't match"
format_text format.InvalidEndOfPage = codes "page without exactly one end of page segment"

abbrev pub segment_text : SegmentError → List ℕ
segment_text segment.UnknownType = codes "unknown or reserved segment type"
segment_text segment.InvalidReferredCount = codes "invalid referred-to segment count"
segment_text segment.InvalidReference = codes "segment refers to an invalid segment"
segment_text segment.InvalidUnknownLength = codes "unknown segment length for this type"
segment_text segment.MissingEndMarker = codes "missing end marker for unknown-length region"
segment_text segment.MissingPatternDictionary = codes "missing required pattern dictionary"
segment_text segment.MissingPageAssociation = codes "segment not associated with a page"

abbrev pub huffman_text : HuffmanError → List ℕ
huffman_text huffman.InvalidCode = codes "invalid Huffman code"
huffman_text huffman.InvalidSelection = codes "invalid Huffman table selection"
huffman_text huffman.MissingTables = codes "not enough referred Huffman tables"
huffman_text huffman.UnexpectedOob = codes "unexpected out-of-band value"
huffman_text huffman.ConflictingCodes = codes "conflicting Huffman codes"

abbrev pub region_text : RegionError → List ℕ
region_text region.InvalidCombinationOperator = codes "invalid combination operator"
region_text region.InvalidDimension = codes "invalid dimension value"
region_text region.InvalidMmrData = codes "invalid MMR-encoded data"
region_text region.GrayScaleOutOfRange = codes "gray-scale value exceeds pattern count"

abbrev pub template_text : TemplateError → List ℕ
template_text template.Invalid = codes "invalid template value"
template_text template.InvalidAtPixel = codes "invalid adaptive template pixel location"

abbrev pub symbol_text : SymbolError → List ℕ
symbol_text symbol.NoSymbols = codes "no symbols available"
symbol_text symbol.TooManySymbols = codes "symbol dictionary contains too many symbols"
symbol_text symbol.OutOfRange = codes "symbol ID out of range"
symbol_text symbol.UnexpectedOob = codes "unexpected out-of-band value"
symbol_text symbol.Invalid = codes "invalid symbol encountered"
symbol_text symbol.InvalidStripDelta = codes "strip delta overflow"
symbol_text symbol.TooManyInstances = codes "too many symbol instances"

abbrev pub overflow_text : OverflowError → List ℕ
overflow_text overflow.BitmapDimension = codes "overflow in bitmap dimension computation"
overflow_text overflow.GridDimension = codes "overflow in grid dimension computation"
overflow_text overflow.PlacementCoordinate = codes "overflow in placement coordinate computation"
overflow_text overflow.ReferenceOffset = codes "overflow in reference offset computation"
overflow_text overflow.Index = codes "overflow in index computation"
overflow_text overflow.SymbolCount = codes "too many symbols"

abbrev pub error_text : DecodeError → List ℕ
error_text (errors.Parse e) = parse_text e
error_text (errors.Format e) = format_text e
error_text (errors.Segment e) = segment_text e
error_text (errors.Huffman e) = huffman_text e
error_text (errors.Region e) = region_text e
error_text (errors.Template e) = template_text e
error_text (errors.Symbol e) = symbol_text e
error_text (errors.Overflow e) = overflow_text e
error_text errors.Unsupported = codes "unsupported feature"
error_text errors.OutOfMemory = codes "out of memory"
