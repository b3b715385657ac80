-- Which rule the input breaks where the header of a text region is refused.
use Rattle.std.proofs.Common.{◌≡◌, inl, inr, ℕ, ◌+◌, ◌<◌, ◌≤◌, ◌/◌, ◌%◌, eqb, Bool, true, false, cond, ◌&&◌, List, drop, length, Option, Some, None, Result, Err, refl, sym, ◌∙◌, ap, subst, arith}
use Rattle.std.specs.Prelude.{◌⊎◌, IfErr}
use Rattle.std.specs.Int.{w8, w16, w32}
use Rattle.std.specs.Option.{is_some}
use Rattle.std.proofs.lemmas.Bool.{cond_both, eqb-true}
use Rattle.jbig2_base.specs.Bits.{start_of}
use Rattle.jbig2_base.specs.Causes.{number_in, HasCauseOrNoMemory}
use Rattle.jbig2_base.specs.Fields.{end_of_bytes, number_at, signed_at}
use Rattle.jbig2_base.specs.Combination.{operator_of}
use Rattle.jbig2_base.specs.declared.error.DecodeError.{DecodeError}
use Rattle.jbig2_base.specs.declared.error.DecodeError.TheVariants.{OutOfMemory}
use Rattle.jbig2_base.proofs.Causes.{cause-next}
use Rattle.jbig2_region.specs.RefinementTemplates.{refinement_pixels_at, refinement_template_of}
use Rattle.jbig2_region.specs.RegionInfo.{region_info_at}
use Rattle.jbig2_region.specs.Templates.{free_pixel_at}
use Rattle.jbig2_region.specs.declared.template.AdaptiveTemplatePixel.{AdaptiveTemplatePixel}
use Rattle.jbig2_region.specs.declared.template.RefinementTemplate.TheVariants.{Template0, Template1}
use Rattle.jbig2_text.specs.Causes.{BreaksSymbolCodes, BreaksTextHeader, fields_length}
use Rattle.jbig2_text.specs.SymbolCodes.{symbol_codes_at, symbol_codes_from}
use Rattle.jbig2_text.specs.TextHeader.{coding_at, table_numbers_at, text_fields_at, text_flags_at, text_header_at}
use Rattle.jbig2_text.specs.inner.FunctionResults.{text_pixels_at}
use Rattle.jbig2_text.specs.declared.header.TextFields.{TextFields}
use Rattle.jbig2_text.specs.declared.header.TextRegionFlags.{TextRegionFlags}
use Rattle.jbig2_text.specs.declared.header.TextRegionHuffmanFlags.{TextRegionHuffmanFlags}
use Rattle.jbig2_text.proofs.Causes.{symbol_code_causes}
use Rattle.jbig2_base.proofs.CauseSteps.{call-cause-or-memory}
use Rattle.jbig2_region.proofs.ResultCauses.{IsAtPlace, IfResult, cause-last, cause-more, result-next, result-number, result-operator, result-region_info, result-signed}

-- the flags, and where the adaptive pixels and the number of the instances stand
abbrev text_flags_in : List ℕ → ℕ
text_flags_in bytes = number_in w16 17 bytes

abbrev pixels_place : ℕ → ℕ
pixels_place flags = cond (eqb (flags % 2) 1) 21 19

abbrev count_place : ℕ → ℕ
count_place flags = pixels_place flags + cond (eqb (flags / 2 % 2) 1 && eqb (flags / 32768) 0) 4 0

abbrev BreaksIds : ℕ → List ℕ → DecodeError → Type 0
BreaksIds symbols bytes e = (text_flags_in bytes % 2 ≡ 1) × BreaksSymbolCodes symbols (start_of (drop (fields_length bytes) bytes)) e

-- the same place, said otherwise
there : (bytes : List ℕ) (m n : ℕ) (rest : List ℕ) → m ≡ n → IsAtPlace bytes m rest → IsAtPlace bytes n rest
there bytes m n rest same s = subst (λ (k : ℕ). IsAtPlace bytes k rest) same s

-- ---- the flags
-- what the flags say that the fields after them depend on
record Flags (bytes : List ℕ) (x : (Bool × TextRegionFlags) × List ℕ) : Type 0 where
  coded : x.0.0 ≡ eqb (text_flags_in bytes % 2) 1
  refined : x.0.1.use_refinement ≡ eqb (text_flags_in bytes / 2 % 2) 1
  template : x.0.1.refinement_template ≡ refinement_template_of (text_flags_in bytes / 32768)
  after : IsAtPlace bytes 19 x.1

result-flags : (P : DecodeError → Type 0) (bytes rest : List ℕ) → IsAtPlace bytes 17 rest → (length bytes < 19 → P end_of_bytes) → IfResult (text_flags_at rest) P (Flags bytes)
unfolding text_flags_at
result-flags P bytes rest s short =
    result-next P _ (Flags bytes) (number_at w16 rest) _ (result-number P w16 s (λ missing. short (omega (arith, missing)))) (λ flags n.
    result-next P _ (Flags bytes) (operator_of (flags.0 / 128 % 4)) _ (result-operator P (flags.0 / 128 % 4) (λ other. absurd (omega (arith, other)))) (λ o is.
    record {
      coded = ap (λ (f : ℕ). eqb (f % 2) 1) (sym n.value);
      refined = ap (λ (f : ℕ). eqb (f / 2 % 2) 1) (sym n.value);
      template = ap (λ (f : ℕ). refinement_template_of (f / 32768)) (sym n.value);
      after = there bytes (17 + 2) 19 flags.1 (omega arith) n.after;
    }))

-- ---- the fields after them
result-tables : (P : DecodeError → Type 0) (coded : Bool) (bytes rest : List ℕ) → IsAtPlace bytes 19 rest → (length bytes < cond coded 21 19 → P end_of_bytes)
    → IfResult (table_numbers_at coded rest) P (λ x. (is_some x.0 ≡ coded) × IsAtPlace bytes (cond coded 21 19) x.1)
result-tables P true bytes rest s short =
    let Q : Option TextRegionHuffmanFlags × List ℕ → Type 0 = λ x. (is_some x.0 ≡ true) × IsAtPlace bytes 21 x.1 in
    result-next P _ Q (number_at w16 rest) _ (result-number P w16 s (λ missing. short (omega (arith, missing)))) (λ flags n. (refl, there bytes (19 + 2) 21 flags.1 (omega arith) n.after))
result-tables P false bytes rest s short = (refl, s)

pub result-free : (P : DecodeError → Type 0) (bytes : List ℕ) (place : ℕ) (rest : List ℕ) → IsAtPlace bytes place rest → (length bytes < place + 2 → P end_of_bytes)
    → IfResult (free_pixel_at rest) P (λ (x : AdaptiveTemplatePixel × List ℕ). IsAtPlace bytes (place + 2) x.1)
result-free P bytes place rest s short =
    let Q : AdaptiveTemplatePixel × List ℕ → Type 0 = λ x. IsAtPlace bytes (place + 2) x.1 in
    result-next P _ Q (signed_at w8 rest) _ (result-signed P w8 s (λ missing. short (omega (arith, missing)))) (λ x a.
    result-next P _ Q (signed_at w8 x.1) _ (result-signed P w8 a (λ missing. short (omega (arith, missing)))) (λ y b. there bytes (place + 1 + 1) (place + 2) y.1 (omega arith) b))

-- whether there are two pixels, by the two flags
result-pixels : (P : DecodeError → Type 0) (refined first : Bool) (bytes : List ℕ) (place : ℕ) (rest : List ℕ) → IsAtPlace bytes place rest
    → (length bytes < place + cond (refined && first) 4 0 → P end_of_bytes)
    → IfResult (text_pixels_at refined (cond first Template0 Template1) rest) P (λ (x : List AdaptiveTemplatePixel × List ℕ). IsAtPlace bytes (place + cond (refined && first) 4 0) x.1)
unfolding refinement_pixels_at
result-pixels P true true bytes place rest s short =
    let Q : List AdaptiveTemplatePixel × List ℕ → Type 0 = λ x. IsAtPlace bytes (place + 4) x.1 in
    result-next P _ Q (free_pixel_at rest) _ (result-free P bytes place rest s (λ missing. short (omega (arith, missing)))) (λ a a_is.
    result-next P _ Q (free_pixel_at a.1) _ (result-free P bytes (place + 2) a.1 a_is (λ missing. short (omega (arith, missing)))) (λ b b_is. there bytes (place + 2 + 2) (place + 4) b.1 (omega arith) b_is))
result-pixels P true false bytes place rest s short = there bytes place (place + 0) rest (omega arith) s
result-pixels P false first bytes place rest s short = there bytes place (place + 0) rest (omega arith) s

late : (flags : ℕ) → 19 ≤ pixels_place flags
late flags = cond_both (eqb (flags % 2) 1) 21 19 (λ n. 19 ≤ n) (λ is. omega arith) (λ is. omega arith)

result-fields : (P : DecodeError → Type 0) (bytes rest : List ℕ) → IsAtPlace bytes 17 rest → (length bytes < fields_length bytes → P end_of_bytes)
    → IfResult (text_fields_at rest) P (λ x. (is_some x.0.table_numbers ≡ eqb (text_flags_in bytes % 2) 1) × IsAtPlace bytes (fields_length bytes) x.1)
unfolding text_fields_at
result-fields P bytes rest s short =
    let f : ℕ = text_flags_in bytes in
    let Q : TextFields × List ℕ → Type 0 = λ x. (is_some x.0.table_numbers ≡ eqb (f % 2) 1) × IsAtPlace bytes (fields_length bytes) x.1 in
    result-next P _ Q (text_flags_at rest) _ (result-flags P bytes rest s (λ missing. short (omega (arith, missing, late f)))) (λ flags a.
    let place_is : cond flags.0.0 21 19 ≡ pixels_place f = ap (λ (b : Bool). cond b 21 19) a.coded in
    result-next P _ Q (table_numbers_at flags.0.0 flags.1) _ (result-tables P flags.0.0 bytes flags.1 a.after (λ missing. short (omega (arith, missing, place_is)))) (λ tables b.
    let pixels = result-pixels P (eqb (f / 2 % 2) 1) (eqb (f / 32768) 0) bytes (pixels_place f) tables.1 (there bytes (cond flags.0.0 21 19) (pixels_place f) tables.1 place_is b.1) (λ missing. short (omega (arith, missing))) in
    let R : List AdaptiveTemplatePixel × List ℕ → Type 0 = λ x. IsAtPlace bytes (count_place f) x.1 in
    let read : IfResult (text_pixels_at flags.0.1.use_refinement flags.0.1.refinement_template tables.1) P R = rw a.refined (rw a.template pixels) in
    result-next P R Q (text_pixels_at flags.0.1.use_refinement flags.0.1.refinement_template tables.1) _ read (λ two c.
    result-next P _ Q (number_at w32 two.1) _ (result-number P w32 c (λ missing. short (omega (arith, missing)))) (λ instances d. (b.0 ∙ a.coded, d.after)))))

-- ---- the codes of the ids
cause-coding : (P : DecodeError → Type 0) (tables : Option TextRegionHuffmanFlags) (symbols : ℕ) (bytes rest : List ℕ) → is_some tables ≡ eqb (text_flags_in bytes % 2) 1
    → IsAtPlace bytes (fields_length bytes) rest → ((e : DecodeError) → BreaksIds symbols bytes e → P e) → IfErr (coding_at tables symbols rest) P
cause-coding P None symbols bytes rest coded s why = tt
cause-coding P (Some tables) symbols bytes rest coded s why =
    let on : eqb (text_flags_in bytes % 2) 1 ≡ true = sym coded in
    cause-next P (symbol_codes_at symbols rest) _
    (cause-next P (symbol_codes_from symbols (start_of rest)) _
    (cause-more (BreaksSymbolCodes symbols (start_of rest)) P (symbol_codes_from symbols (start_of rest)) (symbol_code_causes symbols (start_of rest))
    (λ e broken. why e (eqb-true (text_flags_in bytes % 2) 1 on, rw s.rest_is broken)))
    (λ codes is. tt))
    (λ ids is. tt)

text_header_causes : (symbols : ℕ) (strict : Bool) (bytes : List ℕ) → IfErr (text_header_at symbols strict bytes) (BreaksTextHeader symbols bytes)
unfolding text_header_at
text_header_causes symbols strict bytes =
    let P : DecodeError → Type 0 = BreaksTextHeader symbols bytes in
    cause-last P _ (region_info_at bytes) _ (result-region_info P bytes (λ short. inl (refl, omega (arith, short, late (text_flags_in bytes)))) (λ other. inr (inl (refl, other))) (λ colour. inr (inr (inl (refl, colour))))) (λ info a.
    cause-last P _ (text_fields_at info.1) _ (result-fields P bytes info.1 a (λ short. inl (refl, short))) (λ fields b.
    cause-next P (coding_at fields.0.table_numbers symbols fields.1) _ (cause-coding P fields.0.table_numbers symbols bytes fields.1 b.0 b.1 (λ e ids. inr (inr (inr ids)))) (λ coding is. tt)))

pub text_header_cause : {X : Type 0} (symbols : ℕ) (strict : Bool) (bytes : List ℕ) (r : Result X DecodeError) → IfErr r (λ e. (e ≡ OutOfMemory) ⊎ (text_header_at symbols strict bytes ≡ Err e))
    → HasCauseOrNoMemory r (BreaksTextHeader symbols bytes)
text_header_cause symbols strict bytes r = call-cause-or-memory (BreaksTextHeader symbols bytes) (text_header_at symbols strict bytes) r (text_header_causes symbols strict bytes)
