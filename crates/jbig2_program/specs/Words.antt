-- The words of a run (our own rule): [--strict] pages|embedded FILE, or [--strict] calls|pbm FILE INDEX. `request_of`
-- takes the words and gives the mode, the task and the file. For other words it gives `None`.
use Rattle.std.specs.Prelude.{ℕ, ◌==◌, nat_le, Bool, true, false, not, ◌&&◌, List, [], ◌∷◌, length, Option, Some, None}
use Rattle.std.specs.Prelude.{option_map, if◌then◌else◌, codes}
use Rattle.std.specs.List.{list_all}
use Rattle.std.specs.Str.{bytes_eq}

unfoldable pub is_strict_word : List ℕ → Bool
is_strict_word word = bytes_eq word (codes "--strict")

unfoldable pub is_pages : List ℕ → Bool
is_pages word = bytes_eq word (codes "pages")

unfoldable pub is_embedded : List ℕ → Bool
is_embedded word = bytes_eq word (codes "embedded")

unfoldable pub is_calls : List ℕ → Bool
is_calls word = bytes_eq word (codes "calls")

unfoldable pub is_pbm : List ℕ → Bool
is_pbm word = bytes_eq word (codes "pbm")

-- What is printed of a file: the sizes of its pages, the calls of an embedded page, or the calls or the bitmap of the
-- page at an index.
pub data Task : Type 0 where
  Pages : Task
  Embedded : Task
  Calls : (index : List ℕ) → Task
  Pbm : (index : List ℕ) → Task

abbrev pub is_digit : ℕ → Bool
is_digit c = nat_le 48 c && nat_le c 57

abbrev pub is_index : List ℕ → Bool  -- at least one decimal digit
is_index word = not (length word == 0) && list_all is_digit word

abbrev pub whole_task : List ℕ → Option Task
whole_task command = if is_pages command then Some Pages else if is_embedded command then Some Embedded else None

abbrev pub page_task : List ℕ → List ℕ → Option Task
page_task command index =
    if is_index index then (if is_calls command then Some (Calls index) else if is_pbm command then Some (Pbm index) else None) else None

abbrev pub task_of : List (List ℕ) → Option (Task × List ℕ)  -- the task, and the file
task_of (command ∷ file ∷ []) = option_map (λ task. (task, file)) (whole_task command)
task_of (command ∷ file ∷ index ∷ []) = option_map (λ task. (task, file)) (page_task command index)
task_of _ = None

-- Whether the file is read strictly, the task, and the file's name; `None` where the words are not those of a run.
abbrev pub request_of : List (List ℕ) → Option (Bool × Task × List ℕ)
request_of [] = None
request_of (first ∷ others) =
    if is_strict_word first then option_map (λ t. (true, t.0, t.1)) (task_of others) else option_map (λ t. (false, t.0, t.1)) (task_of (first ∷ others))
