-- What a run prints (our own rule), what it writes to standard error, and its status. `printed_text` takes the mode,
-- the task and a file's bytes, and gives the bytes to print, or the fault. `RunEnds`, the last, is the statement of
-- `run`.
use Rattle.std.specs.Prelude.{◌≡◌, ◌⊎◌, ℕ, Bool, true, List, [], ◌++◌, Option, Some, None, IfSome, IsTrue, ok_or}
use Rattle.std.specs.Prelude.{Result, Ok, Err, codes, if◌then◌else◌}
use Rattle.std.specs.Fmt.{decimal}
use Rattle.std.specs.Io.KnownBytes.{Appends, Keeps}
use Rattle.std.specs.List.{flat_map}
use Rattle.std.specs.Str.Parse.{digits_value}
use Rattle.jbig2_base.specs.Results.{◌>>=◌}
use Rattle.jbig2_base.specs.ErrorTexts.{error_text}
use Rattle.jbig2_base.specs.Grid.{Grid}
use Rattle.jbig2_framing.specs.Reading.{reading_of}
use Rattle.jbig2_base.specs.declared.error.DecodeError.{DecodeError}
use Rattle.jbig2_base.specs.declared.error.DecodeError.TheVariants.{OutOfMemory}
use Rattle.jbig2_page.specs.Calls.{Call, Pixel, Chunk, Line, calls_of}
use Rattle.jbig2_page.specs.Files.{ReadFile, book_at, page_of, pages_of}
use Rattle.jbig2_page.specs.Image.{packed_of_page}
use Rattle.jbig2_page.specs.Names.{no_names}
use Rattle.jbig2_page.specs.Page.{ReadPage, page_from, grid_of_page}
use Rattle.jbig2_program.specs.Words.{Task, Pages, Embedded, Calls, Pbm}
use Rattle.jbig2_program.specs.declared.fault.Fault.{Fault}
use Rattle.jbig2_program.specs.declared.fault.Fault.TheVariants.{Decode, NoSuchPage, Unreadable, Unwritable}

abbrev pub page_line : ReadPage → List ℕ  -- a page's number, width and height
page_line page = decimal page.initial_page.number ++ codes " " ++ decimal page.initial_page.width ++ codes " " ++ decimal page.initial_page.height ++ codes "\n"

abbrev pub colour_word : Bool → List ℕ
colour_word black = if black then codes "true" else codes "false"

abbrev pub call_line : Call → List ℕ
call_line (Pixel black) = codes "push_pixel " ++ colour_word black ++ codes "\n"
call_line (Chunk black bytes) =
    codes "push_pixel_chunk " ++ colour_word black ++ codes " " ++ decimal bytes ++ codes "\n"
call_line Line = codes "next_line\n"

-- a line for each call that draws the grid
abbrev pub calls_text : Result Grid DecodeError → Result (List ℕ) DecodeError
calls_text grid = grid >>= λ g. Ok (flat_map call_line (calls_of g))

abbrev pub bitmap_head : ReadPage → List ℕ  -- a binary bitmap of the PBM format: its head, and then the packed rows
bitmap_head page =
    codes "P4\n" ++ decimal page.initial_page.width ++ codes " " ++ decimal page.initial_page.height ++ codes "\n"

abbrev pub bitmap_text : ReadPage → Result (List ℕ) DecodeError
bitmap_text page = packed_of_page page >>= λ rows. Ok (bitmap_head page ++ rows)

-- the result of a definition, with its error as the fault
abbrev pub or_fault : {A : Type 0} → Result A DecodeError → Result A Fault
or_fault (Ok x) = Ok x
or_fault (Err e) = Err (Decode e)

abbrev pub page_at_index : List ℕ → ReadFile → Result ReadPage Fault  -- the page that decimal digits name
page_at_index index book = ok_or (page_of book (digits_value 10 index)) NoSuchPage

-- what is printed for the page at this index
abbrev pub text_of_file : (ReadPage → Result (List ℕ) DecodeError) → List ℕ → Result ReadFile DecodeError → Result (List ℕ) Fault
text_of_file text index file = or_fault file >>= λ book. page_at_index index book >>= λ page. or_fault (text page)

-- What is printed for a file's bytes, or why nothing is.
abbrev pub printed_text : Bool → Task → List ℕ → Result (List ℕ) Fault
printed_text strict Pages bytes =
    or_fault (book_at (reading_of strict) bytes >>= λ book. Ok (flat_map page_line (pages_of book)))
printed_text strict Embedded bytes =
    or_fault (page_from (reading_of strict) no_names bytes >>= λ page. calls_text (grid_of_page page))
printed_text strict (Calls index) bytes =
    text_of_file (λ page. calls_text (grid_of_page page)) index (book_at (reading_of strict) bytes)
printed_text strict (Pbm index) bytes = text_of_file bitmap_text index (book_at (reading_of strict) bytes)

-- The bytes that were meant are added to the output. Or the fault is returned and nothing is added, unless memory ran
-- out. Where the output failed, nothing is said about its contents.
abbrev pub Prints : Result (List ℕ) Fault → Result (Unit {0}) Fault → Option (List ℕ) → Option (List ℕ) → Type 0
Prints (Ok bytes) (Ok u) old new = Appends old new bytes
Prints (Err fault) (Ok u) old new = ⊥
Prints meant (Err fault) old new =
    (fault ≡ Unwritable) ⊎ (((fault ≡ Decode OutOfMemory) ⊎ (meant ≡ Err fault)) × Keeps old new)

-- Some bytes were read, namely all that the reader has where these are known, and what `printed_text` gives for them is
-- printed. Or the reader failed. `None` means that there is no reader.
abbrev pub Ends : Bool → Task → Option (Option (List ℕ)) → Result (Unit {0}) Fault → Option (List ℕ) → Option (List ℕ) → Type 0
Ends strict task None result old new = (result ≡ Err Unreadable) × Keeps old new
Ends strict task (Some known) result old new =
    ((result ≡ Err Unreadable) × Keeps old new)
    ⊎ ((bytes : List ℕ) × IfSome known (λ all. bytes ≡ all) × Prints (printed_text strict task bytes) result old new)

abbrev pub fault_text : Fault → List ℕ
fault_text Unreadable = codes "cannot read file"
fault_text NoSuchPage = codes "no such page"
fault_text (Decode e) = error_text e
fault_text Unwritable = codes "cannot write output"

abbrev pub usage_line : List ℕ
usage_line = codes "usage: jbig2-decode [--strict] pages|embedded FILE | calls|pbm FILE INDEX\n"

abbrev pub fault_line : Fault → List ℕ
fault_line fault = codes "error: " ++ fault_text fault ++ codes "\n"

abbrev pub error_line : Result (Unit {0}) Fault → List ℕ  -- nothing after success, and nothing after a failing output
error_line (Ok u) = []
error_line (Err Unwritable) = []
error_line (Err fault) = fault_line fault

abbrev pub status_of : Result (Unit {0}) Fault → ℕ
status_of (Ok u) = 0
status_of (Err fault) = 1

-- The line was added to standard error, unless that failed. An empty line adds nothing.
abbrev pub WritesLine : Bool → List ℕ → Option (List ℕ) → Option (List ℕ) → Type 0
WritesLine is_written [] old new = (is_written ≡ true) × Keeps old new
WritesLine is_written line old new = IsTrue is_written → Appends old new line

-- A whole run: its status, what is added to the output, and what is written to standard error.
abbrev pub RunEnds : Option (Bool × Task × List ℕ) → Option (Option (List ℕ)) → ℕ → Bool
    → Option (List ℕ) → Option (List ℕ) → Option (List ℕ) → Option (List ℕ) → Type 0
RunEnds None file status is_written out out' err err' =
    (status ≡ 2) × WritesLine is_written usage_line err err' × Keeps out out'
RunEnds (Some request) file status is_written out out' err err' =
    (result : Result (Unit {0}) Fault) × Ends request.0 request.1 file result out out' × (status ≡ status_of result)
    × WritesLine is_written (error_line result) err err'
