-- Which rule the segments of a page break, where its size is refused.
use Rattle.std.proofs.Common.{◌≡◌, ℕ, zero, suc, ◌+◌, ◌<◌, ◌≤◌, eqb, ltb, Bool, true, false, not, List, [], ◌∷◌, length, take, Result, Ok, Err, refl, sym, ◌∙◌, ap, subst, arith, inl, inr, ⊎_elim}
use Rattle.std.specs.Prelude.{◌≢◌, ◌⊎◌, ◌&&◌, ◌||◌, All, Any, IfErr}
use Rattle.std.specs.Int.{w32, from_be_bytes}
use Rattle.std.proofs.lemmas.Bool.{cond_both, cond-true, eqb-true, eqb-false, eq-eqb, ne_eqb, ltb-true, ltb-false, and_from, and_parts, or_cases, not-true, not_from_false, true≢false, false≢true}
use Rattle.std.proofs.lemmas.Result.{IfErr-weaker}
use Rattle.jbig2_base.specs.Results.{◌>>=◌, refuse_if}
use Rattle.jbig2_base.specs.Causes.{HasCause, number_in}
use Rattle.jbig2_framing.specs.Causes.{FirstInformation, LeavesHeightOpen, StatesHeight, BreaksInitialPage, BreaksInitialPageBy}
use Rattle.jbig2_framing.specs.PageInfo.{first_information, height_of, information_at, initial_page_by, initial_page_of, initial_page_with, is_end_of_stripe, is_page_information, stripe_height, stripes_height}
use Rattle.jbig2_framing.specs.Segment.{SegmentView}
use Rattle.jbig2_base.specs.declared.error.DecodeError.{DecodeError}
use Rattle.jbig2_base.specs.declared.error.DecodeError.TheVariants.{Format, Overflow}
use Rattle.jbig2_base.specs.declared.error.FormatError.TheVariants.{EmptyPage, MissingPageInfo, UnknownPageHeight}
use Rattle.jbig2_base.specs.declared.error.OverflowError.TheVariants.{BitmapDimension}
use Rattle.jbig2_framing.specs.declared.page_info.InitialPage.{InitialPage}
use Rattle.jbig2_framing.specs.declared.page_info.PageInformation.{PageInformation}
use Rattle.jbig2_framing.specs.declared.segment.SegmentType.{SegmentType}
use Rattle.jbig2_framing.specs.declared.segment.SegmentType.TheVariants as types
use Rattle.jbig2_base.proofs.CauseSteps.{call-cause, IfResult, result-cause, result-next, result-map, next-refusal}
use Rattle.jbig2_framing.proofs.PageCauses.{HasSize, information-result}

-- ---- the first page information
is-information : (kind : SegmentType) → is_page_information kind ≡ true → kind ≡ types.PageInformation
is-information types.PageInformation is = refl
is-information _ is = absurd (false≢true is)

other-information : (kind : SegmentType) → is_page_information kind ≡ false → kind ≡ types.PageInformation → ⊥
other-information kind other same = true≢false (sym (ap is_page_information same) ∙ other)

pub all-after : {X : Type 0} (P : X → Type 0) (x : X) (xs : List X) → P x → All P xs → All P (x ∷ xs)
all-after P x xs first rest zero d below = first
all-after P x xs first rest (suc k) d below = rest k d (omega (arith, below))

first-holds : (P : List ℕ → Type 0) (bytes : List ℕ) (ps : List SegmentView) → FirstInformation (λ bs. bs ≡ bytes) ps → P bytes → FirstInformation P ps
first-holds P bytes [] is holds = is
first-holds P bytes (p ∷ ps) is holds =
    ⊎_elim {C = FirstInformation P (p ∷ ps)}
    (λ here. inl (here.0, subst P (sym here.1) holds))
    (λ later. inr (later.0, first-holds P bytes ps later.1 holds))
    is

first-result : (P : DecodeError → Type 0) (ps : List SegmentView) → (All (λ p. p.header.segment_type ≢ types.PageInformation) ps → P (Format MissingPageInfo))
    → IfResult (λ (p : SegmentView). FirstInformation (λ bs. bs ≡ p.bytes) ps) P (first_information ps)
first-result P [] why = why (λ k d below. absurd (omega (arith, below)))
first-result P (p ∷ ps) why =
    let Q : Result SegmentView DecodeError → Type 0 = λ r. IfResult (λ (q : SegmentView). FirstInformation (λ bs. bs ≡ q.bytes) (p ∷ ps)) P r in
    cond_both (is_page_information p.header.segment_type) (Ok p) (first_information ps) Q
    (λ is. inl (is-information p.header.segment_type is, refl))
    (λ other.
    let differs : p.header.segment_type ≢ types.PageInformation = other-information p.header.segment_type other in
    result-map (λ (q : SegmentView). FirstInformation (λ bs. bs ≡ q.bytes) ps) (λ (q : SegmentView). FirstInformation (λ bs. bs ≡ q.bytes) (p ∷ ps)) P (first_information ps) (λ q later. inr (differs, later))
    (first-result P ps (λ none. why (all-after (λ q. q.header.segment_type ≢ types.PageInformation) p ps differs none))))

-- ---- the stripes
is-stripe : (kind : SegmentType) → is_end_of_stripe kind ≡ true → kind ≡ types.EndOfStripe
is-stripe types.EndOfStripe is = refl
is-stripe _ is = absurd (false≢true is)

-- the number of a stripe's last row
abbrev last_row : List ℕ → ℕ
last_row bytes = from_be_bytes w32 (take 4 bytes)

-- a stripe after which a page is too high
abbrev TellsTooMuch : SegmentView → Type 0
TellsTooMuch p = StatesHeight p × (65535 ≤ number_in w32 0 p.bytes)

-- the test that a stripe tells a height
tells : SegmentView → Bool
tells p = is_end_of_stripe p.header.segment_type && eqb (length p.bytes) 4 && not (eqb (last_row p.bytes) 4294967295)

result-height : (p : SegmentView) → StatesHeight p → stripe_height p ≡ last_row p.bytes + 1
result-height p given =
    let row : ℕ = last_row p.bytes in
    let kind : is_end_of_stripe p.header.segment_type ≡ true = ap is_end_of_stripe given.0 in
    let known : not (eqb row 4294967295) ≡ true = not_from_false (eqb row 4294967295) (ne_eqb row 4294967295 given.2) in
    cond-true (is_end_of_stripe p.header.segment_type && eqb (length p.bytes) 4 && not (eqb row 4294967295)) (row + 1) 0
    (and_from (is_end_of_stripe p.header.segment_type && eqb (length p.bytes) 4) (not (eqb row 4294967295))
    (and_from (is_end_of_stripe p.header.segment_type) (eqb (length p.bytes) 4) kind (eq-eqb (length p.bytes) 4 given.1)) known)

none-tells : (ps : List SegmentView) → stripes_height ps ≡ 0 → All (λ p. StatesHeight p → ⊥) ps
none-tells [] none = λ k d below. absurd (omega (arith, below))
none-tells (p ∷ ps) none =
    all-after (λ q. StatesHeight q → ⊥) p ps (λ given. omega (arith, result-height p given, none)) (none-tells ps (omega (arith, none)))

too-much : (p : SegmentView) → 65535 < stripe_height p → TellsTooMuch p
too-much p =
    let row : ℕ = last_row p.bytes in
    let stripe : Bool = is_end_of_stripe p.header.segment_type in
    let four : Bool = eqb (length p.bytes) 4 in
    let known : Bool = not (eqb row 4294967295) in
    cond_both (stripe && four && known) (row + 1) 0 (λ height. 65535 < height → TellsTooMuch p)
    (λ all much.
    let parts = and_parts (stripe && four) known all in
    let front = and_parts stripe four parts.0 in
    ((is-stripe p.header.segment_type front.0, eqb-true (length p.bytes) 4 front.1, eqb-false row 4294967295 (not-true (eqb row 4294967295) parts.1)), omega (arith, much)))
    (λ none much. absurd (omega (arith, much)))

any-too-much : (ps : List SegmentView) → 65535 < stripes_height ps → Any TellsTooMuch ps
any-too-much [] much = absurd (omega (arith, much))
any-too-much (p ∷ ps) much =
    cond_both (ltb 65535 (stripe_height p)) true false (λ b. Any TellsTooMuch (p ∷ ps))
    (λ here. (0, p, omega arith, refl, too-much p (ltb-true 65535 (stripe_height p) here)))
    (λ other.
    let later : Any TellsTooMuch ps = any-too-much ps (omega (arith, much, ltb-false 65535 (stripe_height p) other)) in
    (suc later.0, later.1, omega (arith, later.2), later.3, later.4))

-- ---- the page
-- the height is the stated one, or where that is unknown the stripes'
abbrev IsHeight : ℕ → ℕ → ℕ → Type 0
IsHeight stated stripes height = ((stated ≢ 4294967295) × (height ≡ stated)) ⊎ ((stated ≡ 4294967295) × (stripes ≢ 0) × (height ≡ stripes))

height-result : (P : DecodeError → Type 0) (stated stripes : ℕ) → (stated ≡ 4294967295 → stripes ≡ 0 → P (Format UnknownPageHeight)) → IfResult (IsHeight stated stripes) P (height_of stated stripes)
height-result P stated stripes why =
    let Q : ℕ → Type 0 = IsHeight stated stripes in
    cond_both (eqb stated 4294967295) (refuse_if (eqb stripes 0) (Format UnknownPageHeight) >>= λ given. Ok stripes) (Ok stated) (λ (r : Result ℕ DecodeError). IfResult Q P r)
    (λ unknown.
    next-refusal Q P (eqb stripes 0) (Format UnknownPageHeight) (λ given. Ok stripes) (λ none. why (eqb-true stated 4294967295 unknown) (eqb-true stripes 0 none))
    (λ some. inr (eqb-true stated 4294967295 unknown, eqb-false stripes 0 some, refl)))
    (λ known. inl (eqb-false stated 4294967295 known, refl))

sides-result : (P : DecodeError → Type 0) (number : ℕ) (info : PageInformation) (height : ℕ)
    → ((info.width ≡ 0) ⊎ (height ≡ 0) → P (Format EmptyPage)) → ((65535 < info.width) ⊎ (65535 < height) → P (Overflow BitmapDimension))
    → IfResult (λ (page : InitialPage). Unit {0}) P (initial_page_with number info height)
sides-result P number info height empty large =
    let Q : InitialPage → Type 0 = λ page. Unit {0} in
    let either = ⊎_elim {C = (info.width ≡ 0) ⊎ (height ≡ 0)} (λ is. inl (eqb-true info.width 0 is)) (λ is. inr (eqb-true height 0 is)) in
    let longer = ⊎_elim {C = (65535 < info.width) ⊎ (65535 < height)} (λ is. inl (ltb-true 65535 info.width is)) (λ is. inr (ltb-true 65535 height is)) in
    next-refusal Q P (eqb info.width 0 || eqb height 0) _ _ (λ none. empty (either (or_cases (eqb info.width 0) (eqb height 0) none))) (λ some.
    next-refusal Q P (ltb 65535 info.width || ltb 65535 height) _ _ (λ much. large (longer (or_cases (ltb 65535 info.width) (ltb 65535 height) much))) (λ fits. tt))

no-side : (given : ℕ) (ps : List SegmentView) (bytes : List ℕ) (info : PageInformation × List ℕ) (height : ℕ) → FirstInformation (λ bs. bs ≡ bytes) ps → HasSize bytes info → IsHeight info.0.height given height
    → (info.0.width ≡ 0) ⊎ (height ≡ 0) → BreaksInitialPageBy given ps (Format EmptyPage)
no-side given ps bytes info height is size known none =
    let Q : List ℕ → Type 0 = λ bs. (19 ≤ length bs) × ((number_in w32 0 bs ≡ 0) ⊎ (number_in w32 4 bs ≡ 0)) in
    first-holds Q bytes ps is (
      size.0,
      ⊎_elim {C = (number_in w32 0 bytes ≡ 0) ⊎ (number_in w32 4 bytes ≡ 0)}
          (λ width. inl (sym size.1 ∙ width))
          (λ zero_height.
          ⊎_elim {C = (number_in w32 0 bytes ≡ 0) ⊎ (number_in w32 4 bytes ≡ 0)}
          (λ stated. inr (sym size.2 ∙ sym stated.1 ∙ zero_height))
          (λ open_height. absurd (open_height.1 (sym open_height.2 ∙ zero_height)))
          known)
          none,
    )

leaves-open : (ps : List SegmentView) (bytes : List ℕ) (info : PageInformation × List ℕ) → FirstInformation (λ bs. bs ≡ bytes) ps → HasSize bytes info → info.0.height ≡ 4294967295 → LeavesHeightOpen ps
leaves-open ps bytes info is size ones =
    first-holds (λ bs. (19 ≤ length bs) × (number_in w32 4 bs ≡ 4294967295)) bytes ps is (size.0, sym size.2 ∙ ones)

large-side : (given : ℕ) (ps : List SegmentView) (bytes : List ℕ) (info : PageInformation × List ℕ) (height : ℕ) → FirstInformation (λ bs. bs ≡ bytes) ps → HasSize bytes info → IsHeight info.0.height given height
    → (65535 < info.0.width) ⊎ (65535 < height) → BreaksInitialPageBy given ps (Overflow BitmapDimension)
large-side given ps bytes info height is size known much =
    ⊎_elim {C = BreaksInitialPageBy given ps (Overflow BitmapDimension)}
    (λ wide. inl (inl (first-holds (λ bs. (19 ≤ length bs) × (65535 < number_in w32 0 bs)) bytes ps is (size.0, omega (arith, wide, size.1)))))
    (λ high.
    ⊎_elim {C = BreaksInitialPageBy given ps (Overflow BitmapDimension)}
    (λ stated. inl (inr (first-holds (λ bs. (19 ≤ length bs) × (65535 < number_in w32 4 bs) × (number_in w32 4 bs ≢ 4294967295)) bytes ps is (size.0, omega (arith, high, stated.1, size.2), λ ones. stated.0 (size.2 ∙ ones)))))
    (λ open_height. inr (leaves-open ps bytes info is size open_height.0, omega (arith, high, open_height.2)))
    known)
    much

pub initial_page_by_causes : (given : ℕ) (ps : List SegmentView) → IfErr (initial_page_by given ps) (BreaksInitialPageBy given ps)
initial_page_by_causes given ps =
    let P : DecodeError → Type 0 = BreaksInitialPageBy given ps in
    let R : InitialPage → Type 0 = λ page. Unit {0} in
    result-cause R P (initial_page_by given ps)
    (result-next (λ (p : SegmentView). FirstInformation (λ bs. bs ≡ p.bytes) ps) R P (first_information ps) _ (first-result P ps (λ none. none)) (λ first is.
    result-next (HasSize first.bytes) R P (information_at first.bytes) _ (information-result P first.bytes (λ short. first-holds (λ bs. length bs < 19) first.bytes ps is short)) (λ info size.
    result-next (IsHeight info.0.height given) R P (height_of info.0.height given) _
    (height-result P info.0.height given (λ ones none. (leaves-open ps first.bytes info is size ones, none)))
    (λ height known. sides-result P first.header.page_association info.0 height (no-side given ps first.bytes info height is size known) (large-side given ps first.bytes info height is size known)))))

pub initial_page_by_cause : {X : Type 0} (given : ℕ) (ps : List SegmentView) (r : Result X DecodeError) → IfErr r (λ e. initial_page_by given ps ≡ Err e) → HasCause r (BreaksInitialPageBy given ps)
initial_page_by_cause given ps r = call-cause (BreaksInitialPageBy given ps) (initial_page_by given ps) r (initial_page_by_causes given ps)

-- what the stripes tell, by their own bytes
by-stripes : (ps : List SegmentView) (e : DecodeError) → BreaksInitialPageBy (stripes_height ps) ps e → BreaksInitialPage ps e
by-stripes ps (Format UnknownPageHeight) broken = (broken.0, none-tells ps broken.1)
by-stripes ps (Overflow BitmapDimension) broken =
    ⊎_elim {C = BreaksInitialPage ps (Overflow BitmapDimension)} (λ stated. inl stated) (λ much. inr (much.0, any-too-much ps much.1)) broken
by-stripes ps _ broken = broken

pub initial_page_causes : (ps : List SegmentView) → IfErr (initial_page_of ps) (BreaksInitialPage ps)
unfolding initial_page_of
initial_page_causes ps =
    IfErr-weaker (initial_page_of ps) (BreaksInitialPageBy (stripes_height ps) ps) (BreaksInitialPage ps) (by-stripes ps) (initial_page_by_causes (stripes_height ps) ps)

pub initial_page_cause : {X : Type 0} (ps : List SegmentView) (r : Result X DecodeError) → IfErr r (λ e. initial_page_of ps ≡ Err e) → HasCause r (BreaksInitialPage ps)
initial_page_cause ps r = call-cause (BreaksInitialPage ps) (initial_page_of ps) r (initial_page_causes ps)
