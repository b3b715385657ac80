-- The words of a run name a page by a numeral.
use Rattle.std.proofs.Common.{◌≡◌, ℕ, ◌<◌, ◌≤◌, ◌==◌, nat_le, Bool, true, false, not, ◌&&◌, List, [], ◌∷◌, length, Option, Some, None, option_map, refl, sym, subst, arith}
use Rattle.std.specs.Prelude.{if◌then◌else◌}
use Rattle.std.specs.List.{list_all}
use Rattle.std.specs.Str.Parse.{AllDigits, IsNumeral}
use Rattle.jbig2_program.specs.inner.RequestViews.{HasIndex}
use Rattle.jbig2_program.specs.Words.{Task, Pages, Embedded, Calls, Pbm, is_strict_word, is_pages, is_embedded, is_calls, is_pbm, is_digit, is_index, whole_task, page_task, task_of, request_of}

both : (a b : Bool) → (a && b) ≡ true → (a ≡ true) × (b ≡ true)
both true b e = (refl, e)
both false b e = absurd (let never : false ≡ true = e in cc)

all_digits : (word : List ℕ) → list_all is_digit word ≡ true → AllDigits 10 word
all_digits [] e = tt
all_digits (c ∷ cs) e =
    let parts = both (is_digit c) (list_all is_digit cs) e in
    let bounds = both (nat_le 48 c) (nat_le c 57) parts.0 in
    let low : 48 ≤ c = grind (arith, bounds.0) in
    let high : c ≤ 57 = grind (arith, bounds.1) in
    (grind (arith, low, high), all_digits cs parts.1)

numeral : (word : List ℕ) → is_index word ≡ true → IsNumeral 10 word
numeral word e =
    let parts = both (not (length word == 0)) (list_all is_digit word) e in
    let some : 0 < length word = grind (arith, parts.0) in
    (some, all_digits word parts.1)

abbrev whole_chosen : Bool → Bool → Option Task
whole_chosen a b = if a then Some Pages else if b then Some Embedded else None

no_task : (t : Task) → (let o : Option Task = None in o) ≡ Some t → ⊥
no_task t e = cc

whole_cases : (a b : Bool) (t : Task) → whole_chosen a b ≡ Some t → HasIndex t
whole_cases true b t e = let same : (let o : Option Task = Some Pages in o) ≡ Some t = e in let is : Pages ≡ t = cc in subst HasIndex is tt
whole_cases false true t e = let same : (let o : Option Task = Some Embedded in o) ≡ Some t = e in let is : Embedded ≡ t = cc in subst HasIndex is tt
whole_cases false false t e = absurd (no_task t e)

whole_named : (command : List ℕ) (t : Task) → whole_task command ≡ Some t → HasIndex t
whole_named command t e = whole_cases (is_pages command) (is_embedded command) t e

-- a task of a page, by what the tests say
abbrev chosen : Bool → Bool → Bool → List ℕ → Option Task
chosen i c p index = if i then (if c then Some (Calls index) else if p then Some (Pbm index) else None) else None

some_task : (x y : Task) → (let o : Option Task = Some x in o) ≡ Some y → x ≡ y
some_task x y e = cc

page_cases : (i c p : Bool) (index : List ℕ) (t : Task) → (i ≡ true → IsNumeral 10 index) → chosen i c p index ≡ Some t → HasIndex t
page_cases true true p index t n e = subst HasIndex (some_task (Calls index) t e) (n refl)
page_cases true false true index t n e = subst HasIndex (some_task (Pbm index) t e) (n refl)
page_cases true false false index t n e = absurd (no_task t e)
page_cases false c p index t n e = absurd (no_task t e)

page_at_index : (command index : List ℕ) (t : Task) → page_task command index ≡ Some t → HasIndex t
page_at_index command index t e = page_cases (is_index index) (is_calls command) (is_pbm command) index t (numeral index) e

-- the task beside a file
beside : (o : Option Task) (file : List ℕ) (t : Task × List ℕ) → ((u : Task) → o ≡ Some u → HasIndex u) → option_map (λ task. (task, file)) o ≡ Some t → HasIndex t.0
beside None file t h e = absurd (let never : (let o : Option (Task × List ℕ) = None in o) ≡ Some t = e in cc)
beside (Some u) file t h e = let same : (let o : Option (Task × List ℕ) = Some (u, file) in o) ≡ Some t = e in let is : (let p : Task × List ℕ = (u, file) in p) ≡ t = cc in rw (sym is) (h u refl)

task_named : (words : List (List ℕ)) (t : Task × List ℕ) → task_of words ≡ Some t → HasIndex t.0
task_named [] t e = absurd (let never : (let o : Option (Task × List ℕ) = None in o) ≡ Some t = e in cc)
task_named (command ∷ []) t e = absurd (let never : (let o : Option (Task × List ℕ) = None in o) ≡ Some t = e in cc)
task_named (command ∷ file ∷ []) t e = beside (whole_task command) file t (whole_named command) e
task_named (command ∷ file ∷ index ∷ []) t e = beside (page_task command index) file t (page_at_index command index) e
task_named (command ∷ file ∷ index ∷ more ∷ others) t e = absurd (let never : (let o : Option (Task × List ℕ) = None in o) ≡ Some t = e in cc)

with_mode : (strict : Bool) (o : Option (Task × List ℕ)) (r : Bool × Task × List ℕ) → ((t : Task × List ℕ) → o ≡ Some t → HasIndex t.0) → option_map (λ (t : Task × List ℕ). (strict, t.0, t.1)) o ≡ Some r → HasIndex r.1
with_mode strict None r h e = absurd (let never : (let o : Option (Bool × Task × List ℕ) = None in o) ≡ Some r = e in cc)
with_mode strict (Some t) r h e =
    let same : (let o : Option (Bool × Task × List ℕ) = Some (strict, t.0, t.1) in o) ≡ Some r = e in
    let is : (let p : Bool × Task × List ℕ = (strict, t.0, t.1) in p) ≡ r = cc in
    rw (sym is) (h t refl)

either_mode : (s : Bool) (long short : Option (Task × List ℕ)) (r : Bool × Task × List ℕ) → ((t : Task × List ℕ) → long ≡ Some t → HasIndex t.0) → ((t : Task × List ℕ) → short ≡ Some t → HasIndex t.0)
    → (if s then option_map (λ (t : Task × List ℕ). (true, t.0, t.1)) long else option_map (λ (t : Task × List ℕ). (false, t.0, t.1)) short) ≡ Some r → HasIndex r.1
either_mode true long short r l h e = with_mode true long r l e
either_mode false long short r l h e = with_mode false short r h e

pub request_named : (words : List (List ℕ)) (r : Bool × Task × List ℕ) → request_of words ≡ Some r → HasIndex r.1
request_named [] r e = absurd (let never : (let o : Option (Bool × Task × List ℕ) = None in o) ≡ Some r = e in cc)
request_named (first ∷ others) r e = either_mode (is_strict_word first) (task_of others) (task_of (first ∷ others)) r (task_named others) (task_named (first ∷ others)) e
