-- Which rule is broken where the header of a symbol dictionary is refused.
use Rattle.std.proofs.Common.{◌≡◌, ◌⊎◌, inl, inr, ℕ, ◌+◌, ◌*◌, ◌<◌, ◌≤◌, ◌/◌, ◌%◌, ◌==◌, nat_lt, Bool, true, false, ◌&&◌, ◌||◌, if◌then◌else◌, List, [], length, Result, Ok, Err, refl, sym, ap, subst, ◌∙◌, arith, length-drop}
use Rattle.std.proofs.lemmas.Bool.{eq-eqb, false≢true, ltb-true}
use Rattle.std.proofs.lemmas.Bool.Decides.{nat_tests}
use Rattle.std.specs.Prelude.{IfErr}
use Rattle.std.specs.Int.{w16, w32}
use Rattle.jbig2_base.specs.Results.{refuse_if}
use Rattle.jbig2_base.specs.Causes.{HasCause}
use Rattle.jbig2_base.specs.Fields.{end_of_bytes, number_at}
use Rattle.jbig2_base.specs.declared.error.DecodeError.{DecodeError}
use Rattle.jbig2_base.specs.declared.error.DecodeError.TheVariants as errors
use Rattle.jbig2_base.specs.declared.error.HuffmanError.TheVariants.{InvalidSelection}
use Rattle.jbig2_base.specs.declared.error.OverflowError.TheVariants.{SymbolCount}
use Rattle.jbig2_base.specs.declared.error.TemplateError.TheVariants.{InvalidAtPixel}
use Rattle.jbig2_region.specs.Templates.{adaptive_pixel_count, adaptive_pixels_at, free_pixel_at, template_of}
use Rattle.jbig2_region.specs.RefinementTemplates.{refinement_pixels_at, refinement_template_of}
use Rattle.jbig2_region.specs.declared.template.AdaptiveTemplatePixel.{AdaptiveTemplatePixel}
use Rattle.jbig2_region.specs.declared.template.RefinementTemplate.{RefinementTemplate}
use Rattle.jbig2_region.specs.declared.template.RefinementTemplate.TheVariants as refinements
use Rattle.jbig2_region.specs.declared.template.Template.{Template}
use Rattle.jbig2_region.specs.declared.template.Template.TheVariants.{Template0, Template1, Template2, Template3}
use Rattle.jbig2_region.proofs.ResultCauses.{Number, IsAtPlace, IfResult, at-start, cause-last, cause-more, result-of, result-next, result-number, result-refused}
use Rattle.jbig2_region.proofs.Causes as places
use Rattle.jbig2_region.proofs.PixelCauses.{cause-pixels, pixels-there}
use Rattle.jbig2_region.specs.Causes.{BreaksPixels}
use Rattle.jbig2_base.proofs.CauseSteps.{call-cause}
use Rattle.jbig2_text.proofs.CausesOfHeaders.{result-free}
use Rattle.jbig2_symbol.specs.Causes.{BreaksSymbolFields, BreaksSymbolHeader, counts_place}
use Rattle.jbig2_symbol.specs.SymbolHeader.{coded_pixels_at, refined_pixels_at, selection_of, symbol_flags_of, symbol_header_at}
use Rattle.jbig2_symbol.specs.declared.header.HuffmanTableSelection.{HuffmanTableSelection}
use Rattle.jbig2_symbol.specs.declared.header.HuffmanTableSelection.TheVariants.{TableB2, TableB3, TableB4, TableB5}
use Rattle.jbig2_symbol.specs.declared.header.SymbolDictionaryFlags.{SymbolDictionaryFlags}

-- after a value of which this many bytes are read
abbrev At : {A : Type 0} → List ℕ → ℕ → A × List ℕ → Type 0
At bytes m x = IsAtPlace bytes m x.1

-- ---- adaptive pixels
-- this many of them, two bytes each
result-pixels : (P : DecodeError → Type 0) (count : ℕ) (bytes rest : List ℕ) (k : ℕ) → IsAtPlace bytes k rest → (length bytes < k + 2 * count → P end_of_bytes)
    → (BreaksPixels count k bytes (errors.Template InvalidAtPixel) → P (errors.Template InvalidAtPixel)) → IfResult (adaptive_pixels_at count rest) P (At bytes (k + 2 * count))
result-pixels P count bytes rest k from why late =
    let at : places.At k bytes rest = record { same = from.rest_is; size = omega (arith, ap length from.rest_is, length-drop k bytes, from.within) } in
    result-of P (At bytes (k + 2 * count)) (adaptive_pixels_at count rest)
    (cause-pixels P count k bytes rest at why (λ i below whole is. late (i, below, whole, is)))
    (λ x read. let after = pixels-there count k bytes rest x at read in record { within = omega (arith, after.size); rest_is = after.same })

abbrev count_of : Template → ℕ
count_of template = adaptive_pixel_count false false template

template-bytes : (m : ℕ) → 2 * count_of (template_of m) ≡ (if m == 0 then 8 else 2)
template-bytes m = on (m == 0) (m == 1) (m == 2)
  where
    on : (a b c : Bool) → 2 * count_of (if a then Template0 else if b then Template1 else if c then Template2 else Template3) ≡ (if a then 8 else 2)
    on true b c = refl
    on false true c = refl
    on false false true = refl
    on false false false = refl

-- those of the symbols' bitmaps, by whether there are none
result-coded : (P : DecodeError → Type 0) (plain : Bool) (m : ℕ) (none : List AdaptiveTemplatePixel) (bytes rest : List ℕ) → IsAtPlace bytes 2 rest
    → (length bytes < 2 + (if plain then 0 else if m == 0 then 8 else 2) → P end_of_bytes)
    → (plain ≡ false → BreaksPixels (count_of (template_of m)) 2 bytes (errors.Template InvalidAtPixel) → P (errors.Template InvalidAtPixel))
    → IfResult (if plain then Ok (none, rest) else adaptive_pixels_at (count_of (template_of m)) rest) P (At bytes (2 + (if plain then 0 else if m == 0 then 8 else 2)))
result-coded P true m none bytes rest from why late = from
result-coded P false m none bytes rest from why late =
    let t = template_of m in
    let size : 2 + 2 * count_of t ≡ 2 + (if m == 0 then 8 else 2) = ap (λ (n : ℕ). 2 + n) (template-bytes m) in
    subst (λ (n : ℕ). IfResult (adaptive_pixels_at (count_of t) rest) P (At bytes n)) size
    (result-pixels P (count_of t) bytes rest 2 from (λ short. why (omega (arith, short, size))) (late refl))

-- those of refinements
result-refinement : (P : DecodeError → Type 0) (m : ℕ) (bytes rest : List ℕ) (k : ℕ) → IsAtPlace bytes k rest → (length bytes < k + (if m == 0 then 4 else 0) → P end_of_bytes)
    → IfResult (refinement_pixels_at (refinement_template_of m) rest) P (At bytes (k + (if m == 0 then 4 else 0)))
unfolding refinement_pixels_at
result-refinement P m bytes rest k from why = on (m == 0) why
  where
    on : (a : Bool) → (length bytes < k + (if a then 4 else 0) → P end_of_bytes) → IfResult (refinement_pixels_at (if a then refinements.Template0 else refinements.Template1) rest) P (At bytes (k + (if a then 4 else 0)))
    on true why =
        result-next P (At bytes (k + 2)) (At bytes (k + 4)) (free_pixel_at rest) _ (result-free P bytes k rest from (λ short. why (omega (arith, short)))) (λ first at.
        let same : k + 2 + 2 ≡ k + 4 = omega arith in
        result-next P (At bytes (k + 2 + 2)) (At bytes (k + 4)) (free_pixel_at first.1) _ (result-free P bytes (k + 2) first.1 at (λ short. why (omega (arith, short)))) (λ second after. subst (λ (n : ℕ). IsAtPlace bytes n second.1) same after))
    on false why = subst (λ (n : ℕ). IsAtPlace bytes n rest) (omega arith) from

result-refined : (P : DecodeError → Type 0) (some : Bool) (m : ℕ) (none : List AdaptiveTemplatePixel) (bytes rest : List ℕ) (k : ℕ) → IsAtPlace bytes k rest → (length bytes < k + (if some && m == 0 then 4 else 0) → P end_of_bytes)
    → IfResult (if some then refinement_pixels_at (refinement_template_of m) rest else Ok (none, rest)) P (At bytes (k + (if some && m == 0 then 4 else 0)))
result-refined P true m none bytes rest k from why = result-refinement P m bytes rest k from why
result-refined P false m none bytes rest k from why = subst (λ (n : ℕ). IsAtPlace bytes n rest) (omega arith) from

-- ---- flags
without-meaning : (m : ℕ) → m < 4 → (m == 0) ≡ false → (m == 1) ≡ false → (m == 3) ≡ false → m ≡ 2
without-meaning m below a b c = grind (arith, nat_tests)

result-selection : (P : DecodeError → Type 0) (m : ℕ) (x y z : HuffmanTableSelection) → m < 4 → (m ≡ 2 → P (errors.Huffman InvalidSelection))
    → IfResult (if m == 0 then Ok x else if m == 1 then Ok y else if m == 3 then Ok z else Err (errors.Huffman InvalidSelection)) P (λ selection. Unit {0})
result-selection P m x y z below why = on (m == 0) (m == 1) (m == 3) (without-meaning m below)
  where
    on : (a b c : Bool) → (a ≡ false → b ≡ false → c ≡ false → m ≡ 2) → IfResult (if a then Ok x else if b then Ok y else if c then Ok z else Err (errors.Huffman InvalidSelection)) P (λ selection. Unit {0})
    on true b c two = tt
    on false true c two = tt
    on false false true two = tt
    on false false false two = why (two refl refl refl)

record FlagsOf (n : ℕ) (flags : SymbolDictionaryFlags) : Type 0 where
  huffman : flags.use_huffman ≡ (n % 2 == 1)
  refagg : flags.use_refagg ≡ (n / 2 % 2 == 1)
  template : flags.template ≡ template_of (n / 1024 % 4)
  refinement : flags.refinement_template ≡ refinement_template_of (n / 4096 % 2)

result-flags : (P : DecodeError → Type 0) (n : ℕ) → ((n / 4 % 4 ≡ 2) ⊎ (n / 16 % 4 ≡ 2) → P (errors.Huffman InvalidSelection)) → IfResult (symbol_flags_of n) P (FlagsOf n)
unfolding symbol_flags_of
result-flags P n why =
    result-next P (λ x. Unit {0}) (FlagsOf n) (selection_of TableB4 TableB5 (n / 4 % 4)) _ (result-selection P (n / 4 % 4) _ _ _ (omega arith) (λ two. why (inl two))) (λ heights high.
    result-next P (λ x. Unit {0}) (FlagsOf n) (selection_of TableB2 TableB3 (n / 16 % 4)) _ (result-selection P (n / 16 % 4) _ _ _ (omega arith) (λ two. why (inr two))) (λ widths wide.
    record { huffman = refl; refagg = refl; template = refl; refinement = refl }))

-- ---- the header
either-of : (x y : Bool) → (x || y) ≡ true → (x ≡ true) ⊎ (y ≡ true)
either-of true y is = inl refl
either-of false y is = inr is

-- how many bytes the adaptive pixels of the symbols' bitmaps have, and those of refinements, by the flags
abbrev pixel_bytes : ℕ → ℕ
pixel_bytes flags = if flags % 2 == 1 then 0 else if flags / 1024 % 4 == 0 then 8 else 2

abbrev refinement_bytes : ℕ → ℕ
refinement_bytes flags = if flags / 2 % 2 == 1 && flags / 4096 % 2 == 0 then 4 else 0

coded-here : (P : DecodeError → Type 0) (n : ℕ) (flags : SymbolDictionaryFlags) (bytes rest : List ℕ) → FlagsOf n flags → IsAtPlace bytes 2 rest → (length bytes < 2 + pixel_bytes n → P end_of_bytes)
    → ((n % 2 == 1) ≡ false → BreaksPixels (count_of (template_of (n / 1024 % 4))) 2 bytes (errors.Template InvalidAtPixel) → P (errors.Template InvalidAtPixel))
    → IfResult (coded_pixels_at flags rest) P (At bytes (2 + pixel_bytes n))
coded-here P n flags bytes rest is from why later =
    let none : List AdaptiveTemplatePixel = [] in
    let M : Result (List AdaptiveTemplatePixel × List ℕ) DecodeError → Type 0 = λ r. IfResult r P (At bytes (2 + pixel_bytes n)) in
    subst M
    (ap (λ (t : Template). if n % 2 == 1 then Ok (none, rest) else adaptive_pixels_at (count_of t) rest) (sym is.template) ∙ ap (λ (b : Bool). if b then Ok (none, rest) else adaptive_pixels_at (count_of flags.template) rest) (sym is.huffman))
    (result-coded P (n % 2 == 1) (n / 1024 % 4) none bytes rest from why later)

refined-here : (P : DecodeError → Type 0) (n : ℕ) (flags : SymbolDictionaryFlags) (bytes rest : List ℕ) (k : ℕ) → FlagsOf n flags → IsAtPlace bytes k rest → (length bytes < k + refinement_bytes n → P end_of_bytes)
    → IfResult (refined_pixels_at flags rest) P (At bytes (k + refinement_bytes n))
refined-here P n flags bytes rest k is from why =
    let none : List AdaptiveTemplatePixel = [] in
    let M : Result (List AdaptiveTemplatePixel × List ℕ) DecodeError → Type 0 = λ r. IfResult r P (At bytes (k + refinement_bytes n)) in
    subst M
    (ap (λ (t : RefinementTemplate). if n / 2 % 2 == 1 then refinement_pixels_at t rest else Ok (none, rest)) (sym is.refinement) ∙ ap (λ (b : Bool). if b then refinement_pixels_at flags.refinement_template rest else Ok (none, rest)) (sym is.refagg))
    (result-refined P (n / 2 % 2 == 1) (n / 4096 % 2) none bytes rest k from why)

too-many : (a b x y : ℕ) → a ≡ x → b ≡ y → (nat_lt 1048576 a || nat_lt 1048576 b) ≡ true → (1048576 < x) ⊎ (1048576 < y)
too-many a b x y first second over = on (either-of (nat_lt 1048576 a) (nat_lt 1048576 b) over)
  where
    on : (nat_lt 1048576 a ≡ true) ⊎ (nat_lt 1048576 b ≡ true) → (1048576 < x) ⊎ (1048576 < y)
    on (inl more) = inl (omega (arith, ltb-true 1048576 a more, first))
    on (inr more) = inr (omega (arith, ltb-true 1048576 b more, second))

symbol_header_causes : (strict : Bool) (bytes : List ℕ) → IfErr (symbol_header_at strict bytes) (BreaksSymbolHeader bytes)
unfolding symbol_header_at
symbol_header_causes strict bytes =
    let P : DecodeError → Type 0 = BreaksSymbolHeader bytes in
    cause-last P (Number w16 bytes 0) (number_at w16 bytes) _ (result-number P w16 (at-start bytes) (λ short. omega (arith, short))) (λ number field.
    let n : ℕ = number.0 in
    let Q : DecodeError → Type 0 = BreaksSymbolFields n bytes in
    cause-more Q P _
    (cause-last Q (FlagsOf n) (symbol_flags_of n) _ (result-flags Q n (λ two. (field.after.within, two))) (λ flags is.
    let k : ℕ = 2 + pixel_bytes n in
    let pixels-read : IfResult (coded_pixels_at flags number.1) Q (At bytes k) = coded-here Q n flags bytes number.1 is field.after (λ short. omega (arith, short)) (λ odd late. (λ one. false≢true (sym odd ∙ eq-eqb (n % 2) 1 one), late)) in
    cause-last Q (At bytes k) (coded_pixels_at flags number.1) _ pixels-read (λ pixels at.
    cause-last Q (At bytes (counts_place n)) (refined_pixels_at flags pixels.1) _ (refined-here Q n flags bytes pixels.1 k is at (λ short. omega (arith, short))) (λ refined after.
    cause-last Q (Number w32 bytes (counts_place n)) (number_at w32 refined.1) _ (result-number Q w32 after (λ short. omega (arith, short))) (λ exported first.
    cause-last Q (Number w32 bytes (counts_place n + 4)) (number_at w32 exported.1) _ (result-number Q w32 first.after (λ short. omega (arith, short))) (λ fresh second.
    let many : Bool = nat_lt 1048576 exported.0 || nat_lt 1048576 fresh.0 in
    let whole : counts_place n + 8 ≤ length bytes = omega (arith, second.after.within) in
    cause-last Q (λ x. many ≡ false) (refuse_if many (errors.Overflow SymbolCount)) _ (result-refused Q many (errors.Overflow SymbolCount) (λ over. (whole, too-many exported.0 fresh.0 _ _ (sym first.value) (sym second.value) over))) (λ few is_few. tt)))))))
    (λ e broken. subst (λ (m : ℕ). BreaksSymbolFields m bytes e) (sym field.value) broken))

pub symbol_header_cause : {X : Type 0} (strict : Bool) (bytes : List ℕ) (r : Result X DecodeError) → IfErr r (λ e. symbol_header_at strict bytes ≡ Err e) → HasCause r (BreaksSymbolHeader bytes)
symbol_header_cause strict bytes r = call-cause (BreaksSymbolHeader bytes) (symbol_header_at strict bytes) r (symbol_header_causes strict bytes)
