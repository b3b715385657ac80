-- The calls that draw a page (our own rule; T.88 leaves open how a decoder hands a page on), and what a Decoder does
-- with them. `calls_of` takes a grid and gives its calls, row by row. `rows_after` takes calls and gives the rows that
-- they draw. `Decodes`, the last, takes the result of a definition and says what `decode_with` does then.
use Rattle.std.specs.Prelude.{◌≡◌, ◌<◌, ◌≤◌, ◌⊎◌, All, Option, Some, None, unwrap_or, option_to_list, ℕ, suc, zero, ◌+◌}
use Rattle.std.specs.Prelude.{◌-◌, ◌*◌, ◌/◌, ◌%◌, ◌^◌, Bool, true, false, ◌&&◌, List, [], ◌∷◌, ◌++◌, length, take, drop}
use Rattle.std.specs.Prelude.{replicate, map, count_by, Result, Ok, Err, if◌then◌else◌}
use Rattle.std.specs.List.{range_with_len, flat_map}
use Rattle.jbig2_base.specs.Grid.{Grid, pixel_at, same_colour}
use Rattle.jbig2_base.specs.declared.error.DecodeError.{DecodeError}
use Rattle.jbig2_base.specs.declared.error.DecodeError.TheVariants.{OutOfMemory}

-- A call of a Decoder: one pixel; eight times this many pixels of one colour; the end of a row.
pub data Call : Type 0 where
  Pixel : (black : Bool) → Call
  Chunk : (black : Bool) (bytes : ℕ) → Call
  Line : Call

abbrev pub is_all : Bool → List Bool → Bool  -- all of these pixels have this colour
is_all black [] = true
is_all black (b ∷ bs) = same_colour black b && is_all black bs

abbrev pub singles : List Bool → List Call
singles [] = []
singles (b ∷ bs) = Pixel b ∷ singles bs

-- A whole byte of one colour is joined with the chunk after it, if that has the same colour.
abbrev pub with_whole : Bool → List Call → List Call
with_whole black (Chunk other n ∷ calls) =
    if same_colour black other then Chunk black (n + 1) ∷ calls
    else Chunk black 1 ∷ (Chunk other n ∷ calls)
with_whole black calls = Chunk black 1 ∷ calls

abbrev pub with_byte : List Bool → List Call → List Call
with_byte byte calls =
    if is_all true byte then with_whole true calls
    else if is_all false byte then with_whole false calls
    else singles byte ++ calls

unfoldable pub whole_calls : ℕ → List Bool → List Call  -- the calls of pixels that begin with this many whole bytes
whole_calls zero bits = singles bits
whole_calls (suc n) bits = with_byte (take 8 bits) (whole_calls n (drop 8 bits))

unfoldable pub row_of_grid : Grid → ℕ → List Bool
row_of_grid g y = map (λ x. pixel_at g x y) (range_with_len 0 g.width)

-- The calls of a row: each maximal run of whole bytes of one colour as a chunk, other pixels one by one, then a line
-- call.
abbrev pub line_calls : Grid → ℕ → List Call
line_calls g y = whole_calls (length (row_of_grid g y) / 8) (row_of_grid g y) ++ Line ∷ []

unfoldable pub calls_of : Grid → List Call
calls_of g = flat_map (line_calls g) (range_with_len 0 g.height)

-- The rows that calls draw. The first argument has the pixels of an unfinished row, if there is one. An unfinished row
-- at the end counts as a row too.
abbrev pub rows_after : Option (List Bool) → List Call → List (List Bool)
rows_after row [] = option_to_list row
rows_after row (Pixel black ∷ calls) = rows_after (Some (unwrap_or row [] ++ black ∷ [])) calls
rows_after row (Chunk black bytes ∷ calls) =
    rows_after (Some (unwrap_or row [] ++ replicate (8 * bytes) black)) calls
rows_after row (Line ∷ calls) = unwrap_or row [] ∷ rows_after None calls

abbrev pub is_line : Call → Bool
is_line Line = true
is_line _ = false

-- The calls draw a grid. There are as many line calls as rows, each row that they draw is as wide as the grid, and the
-- rows that they draw are exactly the grid's rows.
pub record DrawsGrid (calls : List Call) (g : Grid) : Type 0 where
  pub lines : count_by is_line calls ≡ g.height
  pub widths : All (λ row. length row ≡ g.width) (rows_after None calls)
  pub rows : rows_after None calls ≡ map (row_of_grid g) (range_with_len 0 g.height)

-- From this column on, each chunk begins at a multiple of eight, has at least one byte and ends within the width.
abbrev pub ChunksFit : ℕ → ℕ → List Call → Type 0
ChunksFit width x [] = Unit {0}
ChunksFit width x (Pixel black ∷ calls) = ChunksFit width (x + 1) calls
ChunksFit width x (Chunk black bytes ∷ calls) =
    (x % 8 ≡ 0) × (1 ≤ bytes) × (x + 8 * bytes ≤ width) × ChunksFit width (x + 8 * bytes) calls
ChunksFit width x (Line ∷ calls) = ChunksFit width 0 calls

-- There is at most one call for each pixel, and one for each row.
abbrev pub CallsAreFew : Grid → Type 0
CallsAreFew g = length (calls_of g) ≤ g.width * g.height + g.height

-- How Decoders of a type behave: what one has drawn so far, what an accepted call does to that, with which errors a
-- call may be refused, and how many calls were refused.
pub record Conduct (S : Type 0) : Type 1 where
  pub Picture : Type 0
  pub picture : S → Picture
  pub step : Picture → Call → Picture
  pub refuses : Picture → Call → DecodeError → Type 0
  pub refusals : S → ℕ

abbrev pub after_calls : {P : Type 0} → (P → Call → P) → P → List Call → P
after_calls step p [] = p
after_calls step p (call ∷ calls) = after_calls step (step p call) calls

module _ {S : Type 0} (d : Conduct S) where
  abbrev pub IsCountable : S → Type 0
  IsCountable s = d.refusals s < 2 ^ 64 - 1

  -- One call: a refused one leaves the picture as it was, and returns an error that it may be refused with.
  abbrev pub TakesCall : Call → Result (Unit {0}) DecodeError → S → S → Type 0
  TakesCall call (Ok u) old new = (d.picture new ≡ d.step (d.picture old) call) × (d.refusals new ≡ d.refusals old)
  TakesCall call (Err e) old new =
      (d.picture new ≡ d.picture old) × (d.refusals new ≡ d.refusals old + 1) × d.refuses (d.picture old) call e

  abbrev pub Makes : List Call → S → S → Type 0  -- exactly these calls were made
  Makes calls old new =
      (d.picture new ≡ after_calls d.step (d.picture old) calls) × (d.refusals new ≡ d.refusals old)

  -- The first calls of the list were made, and the call after them was refused with this error, the Decoder's own.
  pub record IsStopped (calls : List Call) (e : DecodeError) (old new : S) : Type 0 where
    pub made : List Call
    pub refused : Call
    pub others : List Call
    pub split : calls ≡ made ++ refused ∷ others
    pub picture : d.picture new ≡ after_calls d.step (d.picture old) made
    pub counted : d.refusals new ≡ d.refusals old + 1
    pub own : d.refuses (d.picture new) refused e

  -- All of the calls were made, or one was refused, and its error is returned.
  abbrev pub Sends : List Call → Result (Unit {0}) DecodeError → S → S → Type 0
  Sends calls (Ok u) old new = Makes calls old new
  Sends calls (Err e) old new = IsStopped calls e old new

  -- What decoding does, where the page's definition gives a grid or an error: it makes exactly the calls that draw the
  -- grid, or returns that error and makes no call. Besides, the Decoder may refuse a call, or memory may run out before
  -- any.
  abbrev pub Decodes : Result Grid DecodeError → Result (Unit {0}) DecodeError → S → S → Type 0
  Decodes (Ok g) (Ok u) old new = Makes (calls_of g) old new
  Decodes (Ok g) (Err e) old new = IsStopped (calls_of g) e old new ⊎ ((e ≡ OutOfMemory) × Makes [] old new)
  Decodes (Err f) (Ok u) old new = ⊥
  Decodes (Err f) (Err e) old new = ((e ≡ f) ⊎ (e ≡ OutOfMemory)) × Makes [] old new
