-- The page that decimal digits name, by what parsing them gives.
use Rattle.std.proofs.Common.{◌≡◌, ℕ, ◌^◌, ◌<◌, ◌≤◌, List, length, Option, Some, None, Result, Ok, Err, sym, ap, subst, ◌∙◌, arith}
use Rattle.std.proofs.lemmas.Option.{slice_get_past}
use Rattle.std.proofs.lemmas.Str.Parse.{IsNumeralModel, numerals_by_value, tells_digits, parse_digits}
use Rattle.std.specs.Option.{ok_or, option_map}
use Rattle.std.specs.Result.{OkIff}
use Rattle.std.specs.Str.Parse.{AllDigits, IsNumeral, ParsesUnsigned, digits_value}
use Rattle.jbig2_page.specs.Files.{PageInFile, ReadFile, page_in, page_of}
use Rattle.jbig2_page.specs.Page.{ReadPage}
use Rattle.jbig2_program.specs.Printed.{page_at_index}
use Rattle.jbig2_program.specs.declared.fault.Fault.TheVariants.{NoSuchPage}

own : IsNumeralModel (AllDigits 10) (digits_value 10)
own = numerals_by_value (AllDigits 10) tells_digits

abbrev Fit : List ℕ → Type 0
Fit index = (0 < length index) × (digits_value 10 index < 2 ^ 64)

pub parsed : {E : Type 0} (index : List ℕ) (book : ReadFile) (r : Result ℕ E) (n : ℕ) → IsNumeral 10 index → ParsesUnsigned 64 10 index r → r ≡ Ok n → page_of book n ≡ page_of book (digits_value 10 index)
parsed index book r n named h is =
    let all : OkIff r (Fit index) (digits_value 10 index) = parse_digits own 64 index r h named.1 in
    ap (λ (m : ℕ). page_of book m) (subst (λ s. OkIff s (Fit index) (digits_value 10 index)) is all).1

not_below : (a b : ℕ) → (a < b → ⊥) → b ≤ a
not_below a b far = grind (arith, far)

-- where they are no number of 64 bits, there is no such page
pub unparsed : {E : Type 0} (index : List ℕ) (book : ReadFile) (r : Result ℕ E) (e : E) (n : ℕ) → IsNumeral 10 index → ParsesUnsigned 64 10 index r → r ≡ Err e → n ≡ length book.pages → n < 2 ^ 64
    → page_of book n ≡ page_of book (digits_value 10 index)
unparsed index book r e n named h is count fits =
    let all : OkIff r (Fit index) (digits_value 10 index) = parse_digits own 64 index r h named.1 in
    let large : 2 ^ 64 ≤ digits_value 10 index = not_below _ _ (λ (f : digits_value 10 index < 2 ^ 64). subst (λ s. OkIff s (Fit index) (digits_value 10 index)) is all (named.0, f)) in
    let past : length book.pages ≤ n = omega (arith, count) in
    let beyond : length book.pages ≤ digits_value 10 index = omega (arith, count, fits, large) in
    ap (λ (o : Option PageInFile). option_map (page_in book) o) (slice_get_past book.pages n past ∙ sym (slice_get_past book.pages (digits_value 10 index) beyond))

pub names_page : (index : List ℕ) (book : ReadFile) (n : ℕ) (page : ReadPage) → page_of book n ≡ page_of book (digits_value 10 index) → Some page ≡ page_of book n → page_at_index index book ≡ Ok page
names_page index book n page same is = ap (λ (o : Option ReadPage). ok_or o NoSuchPage) (sym (is ∙ same))

pub names_none : (index : List ℕ) (book : ReadFile) (n : ℕ) → page_of book n ≡ page_of book (digits_value 10 index) → None ≡ page_of book n → page_at_index index book ≡ Err NoSuchPage
names_none index book n same is = ap (λ (o : Option ReadPage). ok_or o NoSuchPage) (sym (is ∙ same))
