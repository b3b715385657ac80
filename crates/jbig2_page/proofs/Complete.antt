-- Where nothing was passed over, strict reading draws the same.
use Rattle.std.proofs.Common.{◌≡◌, ℕ, ◌≤◌, eqb, Bool, true, false, List, [], ◌∷◌, Option, Some, None, Result, Ok, Err, refl, sym, ap, ◌∙◌, subst, arith}
use Rattle.std.specs.Prelude.{IfOk, if◌then◌else◌, not}
use Rattle.std.specs.List.{list_all}
use Rattle.std.proofs.lemmas.Bool.{and_parts, eq-eqb, eqb-true}
use Rattle.jbig2_base.specs.Results.{◌>>=◌}
use Rattle.jbig2_base.specs.declared.error.DecodeError.{DecodeError}
use Rattle.jbig2_framing.specs.Reading.{is_strict}
use Rattle.jbig2_framing.specs.Segment.{SegmentView}
use Rattle.jbig2_framing.specs.declared.reading.Reading.{Reading}
use Rattle.jbig2_framing.specs.declared.reading.Reading.TheVariants.{Strict}
use Rattle.jbig2_page.specs.Lenient.{CompletePagesAreStrict}
use Rattle.jbig2_page.specs.Names.{Names}
use Rattle.jbig2_page.specs.Page.{Drawing, blank_page, ends_page, or_left_out, or_told, segment_by, segment_on, segments_drawn}
use Rattle.jbig2_framing.specs.Segment.{is_partial}
use Rattle.jbig2_page.specs.declared.passed_over.PassedOver.{PassedOver}
use Rattle.jbig2_page.proofs.AgreeingPages.{segment-any}
use Rattle.jbig2_page.proofs.DrawingSteps.{segment-step}
use Rattle.jbig2_page.specs.PassedOver.{fault_of, with_passed}

-- ---- counts go up
abbrev NoFewer : Drawing → Drawing → Type 0
NoFewer d e = d.passed_over.count ≤ e.passed_over.count

no-fewer : (reading : Reading) (globals : Names) (p : SegmentView) (d : Drawing) → IfOk (segment_on reading globals p d) (NoFewer d)
no-fewer reading globals p d = segment-step reading NoFewer
    (record {
      keeps = λ d names. omega arith;
      stores = λ d number region. omega arith;
      shows = λ d region. omega arith;
      passes = λ lenient d q e. passed (is_partial q) d q e;
      tells = λ lenient d e number fault same step. omega (arith, step);
    })
    globals p d
  where
    passed : (partial : Bool) (d : Drawing) (q : SegmentView) (e : DecodeError) → d.passed_over.count ≤ (if partial then d.passed_over else with_passed (Some q.header.segment_number) e d.passed_over).count
    passed true d q e = omega arith
    passed false d q e = omega arith

no-fewer-of : (r : Result Drawing DecodeError) (d e : Drawing) → IfOk r (NoFewer d) → r ≡ Ok e → NoFewer d e
no-fewer-of r d e step is = subst (λ (q : Result Drawing DecodeError). IfOk q (NoFewer d)) is step

-- what a step gives on the way to what comes out
went : (r : Result Drawing DecodeError) (next : Drawing → Result Drawing DecodeError) (d : Drawing) → (r >>= next) ≡ Ok d → (e : Drawing) × ((r ≡ Ok e) × (next e ≡ Ok d))
went (Ok e) next d is = (e, (refl, is))
went (Err error) next d is = absurd (let never : ◌≡◌ {A = Result Drawing DecodeError} (Err error) (Ok d) = is in cc)

ok-same : (d e : Drawing) → ◌≡◌ {A = Result Drawing DecodeError} (Ok d) (Ok e) → d ≡ e
ok-same d e is = cc

if-fewer : (b : Bool) (d e : Drawing) (r : Result Drawing DecodeError) → (r ≡ Ok e → d.passed_over.count ≤ e.passed_over.count) → (if b then Ok d else r) ≡ Ok e → d.passed_over.count ≤ e.passed_over.count
if-fewer true d e r step is = let same : d ≡ e = ok-same d e is in omega (arith, ap (λ (x : Drawing). x.passed_over.count) same)
if-fewer false d e r step is = step is

all-fewer : (reading : Reading) (globals : Names) (ps : List SegmentView) (d e : Drawing) → segments_drawn reading globals ps d ≡ Ok e → d.passed_over.count ≤ e.passed_over.count
all-fewer reading globals [] d e is = let same : d ≡ e = ok-same d e is in omega (arith, ap (λ (x : Drawing). x.passed_over.count) same)
all-fewer reading globals (p ∷ ps) d e is =
    if-fewer (ends_page p.header.segment_type) d e (segment_on reading globals p d >>= λ x. segments_drawn reading globals ps x)
    (λ goes.
    let step = went (segment_on reading globals p d) (λ x. segments_drawn reading globals ps x) e goes in
    let first = no-fewer-of (segment_on reading globals p d) d step.0 (no-fewer reading globals p d) step.1.0 in
    omega (arith, first, all-fewer reading globals ps step.0 e step.1.1))
    is

-- ---- a segment with a fault counts
counted : (fault : DecodeError) (number : ℕ) (d e : Drawing) (r : Result Drawing DecodeError) → or_told (Some fault) number d r ≡ Ok e → e.passed_over.count ≡ d.passed_over.count → ⊥
counted fault number d e (Err error) is same = let never : ◌≡◌ {A = Result Drawing DecodeError} (Err error) (Ok e) = is in cc
counted fault number d e (Ok x) is same = by (eqb x.passed_over.count d.passed_over.count) refl is
  where
    by : (b : Bool) → eqb x.passed_over.count d.passed_over.count ≡ b → ◌≡◌ {A = Result Drawing DecodeError} (if b then Ok (record x { passed_over = with_passed (Some number) fault x.passed_over }) else Ok x) (Ok e) → ⊥
    by true one out =
        let got : record x { passed_over = with_passed (Some number) fault x.passed_over } ≡ e = ok-same _ e out in
        let here : x.passed_over.count ≡ d.passed_over.count = eqb-true x.passed_over.count d.passed_over.count one in
        omega (arith, ap (λ (y : Drawing). y.passed_over.count) got, here, same)
    by false one out =
        let got : x ≡ e = ok-same x e out in
        let equal : eqb x.passed_over.count d.passed_over.count ≡ true = eq-eqb x.passed_over.count d.passed_over.count (ap (λ (y : Drawing). y.passed_over.count) got ∙ same) in
        let never : false ≡ true = sym one ∙ equal in cc

-- so strict reading draws one that doesn't
strictly-by : (globals : Names) (p : SegmentView) (reading : Reading) (d e : Drawing) (r : Result Drawing DecodeError) → is_partial p ≡ false → segment_by true globals p d ≡ r → segment_on reading globals p d ≡ Ok e → e.passed_over.count ≡ d.passed_over.count → r ≡ Ok e
strictly-by globals p reading d e (Ok x) whole is on same =
    let drawn : segment_on reading globals p d ≡ Ok x = rw (whole, is, segment-any (is_strict reading) globals p d x is) refl in
    sym drawn ∙ on
strictly-by globals p reading d e (Err fault) whole is on same =
    let told : or_told (Some fault) p.header.segment_number d (or_left_out reading p d (segment_by (is_strict reading) globals p d)) ≡ Ok e =
    sym (ap (λ (f : Option DecodeError). or_told f p.header.segment_number d (or_left_out reading p d (segment_by (is_strict reading) globals p d))) (faulty (is_partial p) whole)) ∙ on in
    absurd (counted fault p.header.segment_number d e _ told same)
  where
    faulty : (partial : Bool) → partial ≡ false → (if partial then None else fault_of (segment_by true globals p d)) ≡ Some fault
    faulty true never = absurd (let no : true ≡ false = never in cc)
    faulty false here = ap (λ (q : Result Drawing DecodeError). fault_of q) is

strict-on : (globals : Names) (p : SegmentView) (reading : Reading) (d e : Drawing) → is_partial p ≡ false → segment_on reading globals p d ≡ Ok e → e.passed_over.count ≡ d.passed_over.count → segment_on Strict globals p d ≡ Ok e
strict-on globals p reading d e whole on same =
    let by : segment_by true globals p d ≡ Ok e = strictly-by globals p reading d e (segment_by true globals p d) whole refl on same in
    rw (whole, by) refl

-- ---- a page
ends-or : (b : Bool) (d e : Drawing) (r s : Result Drawing DecodeError) → (r ≡ Ok e → s ≡ Ok e) → (if b then Ok d else r) ≡ Ok e → (if b then Ok d else s) ≡ Ok e
ends-or true d e r s same is = is
ends-or false d e r s same is = same is

is-whole : (b : Bool) → not b ≡ true → b ≡ false
is-whole true whole = absurd (let never : false ≡ true = whole in cc)
is-whole false whole = refl

strict-all : (reading : Reading) (globals : Names) (ps : List SegmentView) (d e : Drawing) → list_all (λ p. not (is_partial p)) ps ≡ true → segments_drawn reading globals ps d ≡ Ok e → e.passed_over.count ≡ d.passed_over.count → segments_drawn Strict globals ps d ≡ Ok e
strict-all reading globals [] d e whole is same = is
strict-all reading globals (p ∷ ps) d e all is same =
    let parts = and_parts (not (is_partial p)) (list_all (λ q. not (is_partial q)) ps) all in
    let whole : is_partial p ≡ false = is-whole (is_partial p) parts.0 in
    ends-or (ends_page p.header.segment_type) d e (segment_on reading globals p d >>= λ x. segments_drawn reading globals ps x) (segment_on Strict globals p d >>= λ x. segments_drawn Strict globals ps x)
    (λ goes.
    let step = went (segment_on reading globals p d) (λ x. segments_drawn reading globals ps x) e goes in
    let first = no-fewer-of (segment_on reading globals p d) d step.0 (no-fewer reading globals p d) step.1.0 in
    let rest = all-fewer reading globals ps step.0 e step.1.1 in
    let here : step.0.passed_over.count ≡ d.passed_over.count = omega (arith, first, rest, same) in
    let there : e.passed_over.count ≡ step.0.passed_over.count = omega (arith, first, rest, same) in
    rw (strict-on globals p reading d step.0 whole step.1.0 here) (strict-all reading globals ps step.0 e parts.1 step.1.1 there))
    is

pub complete_pages_are_strict : CompletePagesAreStrict
complete_pages_are_strict reading globals ps initial_page d whole is nothing =
    strict-all reading globals ps (blank_page initial_page) d whole is (ap (λ (x : PassedOver). x.count) nothing)
