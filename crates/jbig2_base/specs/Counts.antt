-- How many steps calls take, by `Counts` before and after (our own rule; no part of the format).
pub use Rattle.jbig2_steps.specs.Counts.{Counts, KeepsLanes, no_steps, words_cleared, words_copied, words_loaded, words_written}
use Rattle.std.specs.Prelude.{◌≡◌, ℕ, ◌+◌, ◌-◌, ◌*◌, ◌/◌, ◌≤◌, ◌==◌, ◌||◌, if◌then◌else◌, nat_lt, min, ℤ, pos, negsuc, zero, suc}
use Rattle.jbig2_base.specs.Grid.{Grid, max_side}

abbrev pub overlap : ℕ → ℕ → ℤ → ℕ  -- how many of a page's columns (or rows) a source covers that begins at x
overlap page source (pos x) = min source (page - x)
overlap page source (negsuc x) = min page (source - (x + 1))

abbrev pub most_words : ℕ → ℕ  -- the most words in which this many columns of a row can lie
most_words zero = 0
most_words (suc columns) = columns / 64 + 2

abbrev pub words_across : ℕ → ℕ → ℕ  -- in how many words `columns` pixels of a row lie, one or more, from column x on
words_across x columns = (x + columns - 1) / 64 + 1 - x / 64

-- How many loads combine a row of this many columns, from column `left` of the page and column `from` of the source on:
-- one for each word of the page, and for the source one if its columns lie in one word, else as many.
abbrev pub loads_across : ℕ → ℕ → ℕ → ℕ
loads_across left columns from =
    words_across left columns + (if words_across from columns == 1 then 1 else words_across left columns)

abbrev pub rows_combined : ℕ → ℕ → ℕ → ℕ → Counts → Counts  -- the counts after this many such rows
rows_combined rows left columns from =
    words_written (rows * words_across left columns) (rows * loads_across left columns from)

abbrev pub first_under : ℤ → ℕ  -- the first column (or row) of a page under a source that begins at x
first_under (pos x) = x
first_under (negsuc x) = 0

abbrev pub first_shown : ℤ → ℕ  -- the first column (or row) of the source that lies on the page
first_shown (pos x) = 0
first_shown (negsuc x) = x + 1

-- the counts after a source is combined with a page, from column x of row y on
abbrev pub source_combined : Grid → Grid → ℤ → ℤ → Counts → Counts
source_combined page source x y c =
    if overlap page.width source.width x == 0 then c
    else rows_combined (overlap page.height source.height y) (first_under x) (overlap page.width source.width x) (first_shown x) c

-- at most this many words are written, with at most twice as many loads, and nothing else is counted
pub record WritesWithin (most : ℕ) (old new : Counts) : Type 0 where
  pub words : new.words ≤ old.words + most
  pub loads : new.loads ≤ old.loads + 2 * most
  pub decisions : new.decisions ≡ old.decisions
  pub run_tests : new.run_tests ≡ old.run_tests
  pub groups : new.groups ≡ old.groups
  pub pixels : new.pixels ≡ old.pixels
  pub cleared : new.cleared ≡ old.cleared

abbrev pub words_of : Grid → ℕ  -- how many words of 64 pixels a bitmap has; each row begins with a new word
words_of g = (g.width + 63) / 64 * g.height

-- how many words a bitmap of these sides is made with; none if its sides are refused
unfoldable pub words_made : ℕ → ℕ → ℕ
words_made width height =
    if nat_lt max_side width || nat_lt max_side height then 0 else (width + 63) / 64 * height

-- the same if one side may be above 65535
unfoldable pub wide_words_made : ℕ → ℕ → ℕ
wide_words_made width height =
    if nat_lt (max_side * max_side) (width * height) then 0 else (width + 63) / 64 * height

abbrev pub bitmap_made : ℕ → ℕ → Counts → Counts  -- the counts after a bitmap of these sides is made
bitmap_made width height = words_cleared (words_made width height)

-- How many loads of 64 columns, from column `from` on, find column `place` of a row that ends at column `to`: up to the
-- load that has it, or all loads if `place` is the end.
abbrev pub words_searched : ℕ → ℕ → ℕ → ℕ
words_searched from to place = min ((place - from) / 64 + 1) ((to - from + 63) / 64)
