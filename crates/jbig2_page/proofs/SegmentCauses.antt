-- Which rule is broken where what a segment refers to is refused, an extension or a refinement.
use Rattle.std.proofs.Common.{◌≡◌, inl, inr, ℕ, ◌+◌, ◌<◌, Bool, true, false, ◌&&◌, nat_le, nat_lt, is_none, List, [], ◌∷◌, ◌++◌, length, length-append, take, Option, Some, None, Result, Ok, Err, refl, sym, ap, subst, ◌∙◌, arith}
use Rattle.std.proofs.lemmas.Bool.{and_parts, leb-true, ltb-true}
use Rattle.std.specs.Prelude.{◌⊎◌, ◌≢◌, Any, if◌then◌else◌, IfErr, IfOk, IsTrue, option_and_then, slice_get, unwrap_or}
use Rattle.std.specs.List.{flat_map}
use Rattle.std.specs.Option.{option_map_or}
use Rattle.std.specs.Int.{w32, from_be_bytes}
use Rattle.jbig2_base.specs.Results.{◌>>=◌, refuse_if, some_or}
use Rattle.jbig2_base.specs.Fields.{number_at}
use Rattle.jbig2_base.specs.Causes.{HasCause, HasCauseOrNoMemory}
use Rattle.jbig2_base.specs.Grid.{Grid}
use Rattle.jbig2_framing.specs.Segment.{SegmentView}
use Rattle.jbig2_base.specs.declared.error.DecodeError.{DecodeError}
use Rattle.jbig2_base.specs.declared.error.DecodeError.TheVariants.{OutOfMemory, Overflow, Segment, Unsupported}
use Rattle.jbig2_base.specs.declared.error.OverflowError.TheVariants.{SymbolCount}
use Rattle.jbig2_base.specs.declared.error.SegmentError.TheVariants.{InvalidReference, MissingPatternDictionary}
use Rattle.jbig2_base.proofs.CauseSteps.{call-cause, call-cause-or-memory}
use Rattle.jbig2_base.proofs.Causes.{cause-next, cause-number, cause-refused, number-there}
use Rattle.jbig2_coder.specs.PrefixCode.{Member}
use Rattle.jbig2_halftone.specs.Patterns.{Patterns}
use Rattle.jbig2_region.specs.RegionInfo.{PlacedRegion}
use Rattle.jbig2_region.specs.Refinement.{offset, refined_result, refined_decoded}
use Rattle.jbig2_region.specs.RefinementHeader.{RefinementHeader, refinement_header_at}
use Rattle.jbig2_region.specs.Causes.{BreaksOffset, BreaksRefinementHeader}
use Rattle.jbig2_region.proofs.HeaderCauses.{offset_causes, refinement_header_causes}
use Rattle.jbig2_region.proofs.ResultCauses.{cause-more}
use Rattle.jbig2_symbol.specs.Symbols.{Symbols}
use Rattle.jbig2_page.specs.Causes.{BreaksExtension, BreaksPatternReference, BreaksReferred, BreaksRefinement}
use Rattle.jbig2_page.specs.Names.{Names, ReferredValues, first_kept, kept_of, referred_by, with_dictionary, with_number, with_numbers, with_table}
use Rattle.jbig2_region.specs.WholeRows.{refined_part}
use Rattle.jbig2_page.specs.Regions.{page_area, patterns_for, referred_region, refinement_at}
use Rattle.jbig2_framing.specs.Segment.{is_partial}
use Rattle.jbig2_page.specs.declared.kept.Kept.{Kept}
use Rattle.jbig2_page.proofs.Causes.{at-first, at-later}
use Rattle.jbig2_page.specs.OtherSegments.{extension}

-- ---- what a segment refers to
abbrev NamesNothing : Names → Names → ℕ → Type 0
NamesNothing own shared number = (kept_of number own.symbols shared.symbols ≡ None) × (kept_of number own.codes shared.codes ≡ None)

abbrev exported_of : Option Symbols → List Grid
exported_of s = option_map_or (λ d. d.exported) s []

abbrev exported_under : Names → Names → List ℕ → List Grid
exported_under own shared numbers = flat_map (λ n. exported_of (kept_of n own.symbols shared.symbols)) numbers

abbrev symbols_in : Option Symbols → ℕ
symbols_in s = length (exported_of s)

abbrev symbols_under : Names → Names → List ℕ → ℕ
symbols_under own shared numbers = length (exported_under own shared numbers)

abbrev with_either : Bool → Option Symbols → Option (List Member) → ReferredValues → Result ReferredValues DecodeError
with_either strict s code r = option_map_or (λ d. with_dictionary d r) s (with_table strict code r)

-- what holds of the last step's value holds of the whole
ok-last : {A B : Type 0} (P : B → Type 0) (r : Result A DecodeError) (next : A → Result B DecodeError) → ((x : A) → IfOk (next x) P) → IfOk (r >>= next) P
ok-last P (Ok x) next rest = rest x
ok-last P (Err e) next rest = tt

ok-holds : {A : Type 0} (P : A → Type 0) (r : Result A DecodeError) (x : A) → IfOk r P → r ≡ Ok x → P x
ok-holds P (Ok y) x is same =
    let values : y ≡ x = cc in
    subst P values is
ok-holds P (Err e) x is same = absurd (cc)

either-cause : (P : DecodeError → Type 0) (strict : Bool) (s : Option Symbols) (code : Option (List Member)) (r : ReferredValues)
    → (1048576 < length r.symbols + symbols_in s → P (Overflow SymbolCount))
    → (IsTrue strict → s ≡ None → code ≡ None → P (Segment InvalidReference)) → IfErr (with_either strict s code r) P
either-cause P strict (Some s) code r many none =
    let over : Bool = nat_lt 1048576 (length (r.symbols ++ s.exported)) in
    cause-next P (refuse_if over _) _ (cause-refused P over _ (λ is.
    let above = ltb-true 1048576 (length (r.symbols ++ s.exported)) is in
    many (omega (arith, above, length-append r.symbols s.exported)))) (λ few few_is. tt)
either-cause P strict None (Some code) r many none = tt
either-cause P strict None None r many none =
    cause-next P (refuse_if strict _) _ (cause-refused P strict _ (λ is. none is refl refl)) (λ known known_is. tt)

grown : (strict : Bool) (s : Option Symbols) (code : Option (List Member)) (r : ReferredValues) → IfOk (with_either strict s code r) (λ more. length more.symbols ≡ length r.symbols + symbols_in s)
grown strict (Some s) code r =
    ok-last (λ (more : ReferredValues). length more.symbols ≡ length r.symbols + length s.exported) (refuse_if (nat_lt 1048576 (length (r.symbols ++ s.exported))) _) _ (λ few. length-append r.symbols s.exported)
grown strict None (Some code) r = omega arith
grown strict None None r =
    ok-last (λ (more : ReferredValues). length more.symbols ≡ length r.symbols + 0) (refuse_if strict _) _ (λ known. omega arith)

numbers-cause : (P : DecodeError → Type 0) (strict : Bool) (own shared : Names) (numbers : List ℕ) (r : ReferredValues)
    → (1048576 < length r.symbols + symbols_under own shared numbers → P (Overflow SymbolCount))
    → (IsTrue strict → Any (NamesNothing own shared) numbers → P (Segment InvalidReference)) → IfErr (with_numbers strict own shared numbers r) P
numbers-cause P strict own shared [] r many none = tt
numbers-cause P strict own shared (number ∷ numbers) r many none =
    let s = kept_of number own.symbols shared.symbols in
    let code = kept_of number own.codes shared.codes in
    let together = length-append (exported_of s) (exported_under own shared numbers) in
    cause-next P (with_number strict own shared number r) _
    (either-cause P strict s code r (λ over. many (omega (arith, over, together))) (λ is no_symbols no_code.
    none is (at-first (NamesNothing own shared) number numbers (no_symbols, no_code))))
    (λ more more_is.
    let size = ok-holds (λ (x : ReferredValues). length x.symbols ≡ length r.symbols + symbols_in s) (with_either strict s code r) more (grown strict s code r) more_is in
    numbers-cause P strict own shared numbers more (λ over. many (omega (arith, over, size, together))) (λ is some. none is (at-later (NamesNothing own shared) number numbers some)))

pub referred_cause : {X : Type 0} (strict : Bool) (own shared : Names) (numbers : List ℕ) (r : Result X DecodeError) → IfErr r (λ e. (e ≡ OutOfMemory) ⊎ (referred_by strict own shared numbers ≡ Err e))
    → HasCauseOrNoMemory r (BreaksReferred strict own shared numbers)
referred_cause strict own shared numbers r =
    let P : DecodeError → Type 0 = BreaksReferred strict own shared numbers in
    call-cause-or-memory P (referred_by strict own shared numbers) r (numbers-cause P strict own shared numbers (record { symbols = []; codes = []; kept = None }) (λ over. omega (arith, over)) (λ is some. (is, some)))

-- ---- extensions
extension_causes : (strict : Bool) (bytes : List ℕ) → IfErr (extension strict bytes) (BreaksExtension strict bytes)
extension_causes true bytes =
    let P : DecodeError → Type 0 = BreaksExtension true bytes in
    cause-next P (number_at w32 bytes) _ (cause-number P w32 bytes (λ short. (refl, short))) (λ kind kind_is.
    let there = number-there w32 bytes kind kind_is in
    let value : from_be_bytes w32 (take 4 bytes) ≡ kind.0 = ap (λ (x : ℕ × List ℕ). x.0) there.1 in
    cause-refused P (nat_le 2147483648 kind.0) Unsupported (λ high. (refl, there.0, omega (arith, value, leb-true 2147483648 kind.0 high))))
extension_causes false bytes = tt

pub extension_cause : {X : Type 0} (strict : Bool) (bytes : List ℕ) (r : Result X DecodeError) → IfErr r (λ e. extension strict bytes ≡ Err e) → HasCause r (BreaksExtension strict bytes)
extension_cause strict bytes r = call-cause (BreaksExtension strict bytes) (extension strict bytes) r (extension_causes strict bytes)

-- ---- patterns
no-patterns : (own shared : Names) (numbers : List ℕ) (o : Option Patterns) → patterns_for own shared numbers ≡ o → IfErr (some_or (Segment MissingPatternDictionary) o) (BreaksPatternReference own shared numbers)
no-patterns own shared numbers (Some patterns) is = tt
no-patterns own shared numbers None is = is

pub patterns_cause : {X : Type 0} (own shared : Names) (numbers : List ℕ) (r : Result X DecodeError) → IfErr r (λ e. some_or (Segment MissingPatternDictionary) (patterns_for own shared numbers) ≡ Err e)
    → HasCause r (BreaksPatternReference own shared numbers)
patterns_cause own shared numbers r =
    call-cause (BreaksPatternReference own shared numbers) (some_or (Segment MissingPatternDictionary) (patterns_for own shared numbers)) r (no-patterns own shared numbers (patterns_for own shared numbers) refl)

-- ---- refinements
is-none : {X : Type 0} (o : Option X) → is_none o ≡ true → o ≡ None
is-none (Some x) is = absurd (cc)
is-none None is = refl

abbrev first_region : List ℕ → List (Kept PlacedRegion) → Option PlacedRegion
first_region numbers regions = option_and_then (λ number. first_kept number regions) (slice_get numbers 0)

-- the number of a region that is not kept, or an intermediate refinement of none
abbrev LacksRegion : Bool → List ℕ → List (Kept PlacedRegion) → Type 0
LacksRegion is_intermediate numbers regions = (first_region numbers regions ≡ None) × (IsTrue is_intermediate ⊎ (numbers ≢ []))

reference-cause : (P : DecodeError → Type 0) (strict is_intermediate : Bool) (numbers : List ℕ) (regions : List (Kept PlacedRegion))
    → (IsTrue strict → LacksRegion is_intermediate numbers regions → P (Segment InvalidReference)) → IfErr (referred_region strict numbers regions) P
reference-cause P strict is_intermediate [] regions why = tt
reference-cause P strict is_intermediate (number ∷ others) regions why =
    let missing : Bool = is_none (first_kept number regions) in
    cause-next P (refuse_if (strict && missing) (Segment InvalidReference)) _ (cause-refused P (strict && missing) (Segment InvalidReference) (λ both.
    let parts = and_parts strict missing both in
    why parts.0 (is-none (first_kept number regions) parts.1, inr (λ (empty : number ∷ others ≡ []). absurd (cc))))) (λ known known_is. tt)

reference-is : (strict : Bool) (numbers : List ℕ) (regions : List (Kept PlacedRegion)) → IfOk (referred_region strict numbers regions) (λ r. r ≡ first_region numbers regions)
reference-is strict [] regions = refl
reference-is strict (number ∷ others) regions =
    ok-last (λ (r : Option PlacedRegion). r ≡ first_kept number regions) (refuse_if (strict && is_none (first_kept number regions)) _) _ (λ known. refl)

-- the offset of a reference is all that a refinement's data is refused for
refined-cause : (P : DecodeError → Type 0) (h : RefinementHeader) (from : PlacedRegion) → ((e : DecodeError) → BreaksOffset from h.region_info e → P e) → IfErr (refined_decoded h from) P
refined-cause P h from why =
    cause-next P (refined_result h from) _
    (cause-next P (offset from h.region_info) _ (cause-more (BreaksOffset from h.region_info) P (offset from h.region_info) (offset_causes from h.region_info) why) (λ d is. tt)) (λ g is. tt)

part-cause : (P : DecodeError → Type 0) (partial : Bool) (h : RefinementHeader) (from : PlacedRegion) → ((e : DecodeError) → BreaksOffset from h.region_info e → P e) → IfErr (if partial then refined_part h from else refined_decoded h from) P
unfolding refined_part
part-cause P true h from why =
    cause-next P (offset from h.region_info) _ (cause-more (BreaksOffset from h.region_info) P (offset from h.region_info) (offset_causes from h.region_info) why) (λ d is. tt)
part-cause P false h from why = refined-cause P h from why

refinement_causes : (strict is_intermediate : Bool) (page : Grid) (regions : List (Kept PlacedRegion)) (p : SegmentView) → IfErr (refinement_at strict is_intermediate page regions p) (BreaksRefinement strict is_intermediate page regions p)
unfolding refinement_at
refinement_causes strict is_intermediate page regions p =
    let P : DecodeError → Type 0 = BreaksRefinement strict is_intermediate page regions p in
    let numbers = p.header.referred_to_segments in
    cause-next P (referred_region strict numbers regions) _ (reference-cause P strict is_intermediate numbers regions (λ is lacks. inl (refl, is, lacks.0, lacks.1))) (λ referred referred_is.
    let same : referred ≡ first_region numbers regions = ok-holds (λ (r : Option PlacedRegion). r ≡ first_region numbers regions) (referred_region strict numbers regions) referred (reference-is strict numbers regions) referred_is in
    let lone : Bool = strict && is_intermediate && is_none referred in
    cause-next P (refuse_if lone (Segment InvalidReference)) _ (cause-refused P lone (Segment InvalidReference) (λ both.
    let parts = and_parts (strict && is_intermediate) (is_none referred) both in
    let rest = and_parts strict is_intermediate parts.0 in
    inl (refl, rest.0, sym same ∙ is-none referred parts.1, inl rest.1))) (λ known known_is.
    cause-next P (refinement_header_at p.bytes) _ (cause-more (BreaksRefinementHeader p.bytes) P (refinement_header_at p.bytes) (refinement_header_causes p.bytes) (λ e broken. inr (inl broken))) (λ header header_is.
    let info = header.0.region_info in
    let Q : Option PlacedRegion → DecodeError → Type 0 = λ r e. BreaksOffset (unwrap_or r (page_area page info)) info e in
    part-cause P (is_partial p) header.0 (unwrap_or referred (page_area page info)) (λ e broken. inr (inr (header, header_is, subst (λ (r : Option PlacedRegion). Q r e) same broken))))))

pub refinement_cause : {X : Type 0} (strict is_intermediate : Bool) (page : Grid) (regions : List (Kept PlacedRegion)) (p : SegmentView) (r : Result X DecodeError)
    → IfErr r (λ e. (e ≡ OutOfMemory) ⊎ (refinement_at strict is_intermediate page regions p ≡ Err e)) → HasCauseOrNoMemory r (BreaksRefinement strict is_intermediate page regions p)
refinement_cause strict is_intermediate page regions p r =
    call-cause-or-memory (BreaksRefinement strict is_intermediate page regions p) (refinement_at strict is_intermediate page regions p) r (refinement_causes strict is_intermediate page regions p)
