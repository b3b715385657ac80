-- What each segment of a page does to what was drawn before it.
use Rattle.std.proofs.Common.{◌≡◌, ℕ, ◌+◌, ◌≤◌, eqb, Bool, true, false, List, [], ◌∷◌, Result, Ok, Err, ap, refl, sym, subst, arith}
use Rattle.std.specs.Prelude.{IfOk, Option, Some, None, if◌then◌else◌}
use Rattle.std.proofs.lemmas.Bool.{cond_both, eqb-true}
use Rattle.jbig2_base.specs.Results.{◌>>=◌}
use Rattle.jbig2_framing.specs.Reading.{is_salvaged, is_strict}
use Rattle.jbig2_framing.specs.Segment.{SegmentView}
use Rattle.jbig2_base.specs.declared.error.DecodeError.{DecodeError}
use Rattle.jbig2_framing.specs.declared.reading.Reading.{Reading}
use Rattle.jbig2_framing.specs.declared.reading.Reading.TheVariants.{Strict, Lenient, Salvage}
use Rattle.jbig2_region.specs.RegionInfo.{PlacedRegion}
use Rattle.jbig2_page.specs.Names.{Names, kept_by}
use Rattle.jbig2_page.specs.Page.{Drawing, segments_drawn, ends_page, immediate, intermediate, strict_fault, with_names, or_left_out, or_passed_over, or_told, passing, region_at, segment_by, segment_on, with_drawn_region, with_region}
use Rattle.jbig2_framing.specs.Segment.{is_partial}
use Rattle.jbig2_page.proofs.SegmentTypes.{of-segment}
use Rattle.jbig2_page.specs.PassedOver.{fault_of, with_passed}

-- R holds between what was drawn before a segment and what is drawn after it, whatever the segment is.
pub record StepsBy (strict : Bool) (R : Drawing → Drawing → Type 0) : Type 0 where
  pub keeps : (d : Drawing) (names : Names) → R d (record d { names = names })
  pub stores : (d : Drawing) (number : ℕ) (region : PlacedRegion) → R d (with_region number d region)
  pub shows : (d : Drawing) (region : PlacedRegion) → IfOk (with_drawn_region d (Ok region)) (R d)
  pub passes : strict ≡ false → (d : Drawing) (p : SegmentView) (e : DecodeError) → IfOk (or_passed_over false p d (Err e)) (R d)
  pub tells : strict ≡ false → (d e : Drawing) (number : ℕ) (fault : DecodeError) → e.passed_over.count ≡ d.passed_over.count → R d e → R d (record e { passed_over = with_passed (Some number) fault e.passed_over })

step-shown : (strict : Bool) (R : Drawing → Drawing → Type 0) → StepsBy strict R → (p : SegmentView) (d : Drawing) (r : Result PlacedRegion DecodeError) → IfOk (or_passed_over strict p d (with_drawn_region d r)) (R d)
step-shown strict R by p d (Ok region) = by.shows d region
step-shown true R by p d (Err e) = tt
step-shown false R by p d (Err e) = by.passes refl d p e

step-stored : (strict : Bool) (R : Drawing → Drawing → Type 0) → StepsBy strict R → (number : ℕ) (d : Drawing) (r : Result PlacedRegion DecodeError) → IfOk (r >>= λ region. Ok (with_region number d region)) (R d)
step-stored strict R by number d (Ok region) = by.stores d number region
step-stored strict R by number d (Err e) = tt

step-kept : (strict : Bool) (R : Drawing → Drawing → Type 0) → StepsBy strict R → (d : Drawing) (kept : Result Names DecodeError) → IfOk (with_names d kept) (R d)
step-kept strict R by d (Ok names) = by.keeps d names
step-kept strict R by d (Err e) = tt

step-by : (strict : Bool) (R : Drawing → Drawing → Type 0) → StepsBy strict R → (globals : Names) (p : SegmentView) (d : Drawing) → IfOk (segment_by strict globals p d) (R d)
unfolding immediate intermediate
step-by strict R by globals p d =
    of-segment (λ r. IfOk r (R d)) strict globals p d
    (record {
      nothing = λ q. step-kept strict R by d (kept_by strict globals q d.names);
      kept = λ kind q. step-stored strict R by q.header.segment_number d (region_at strict globals kind true q d);
      shown = λ kind q. step-shown strict R by q d (region_at strict globals kind false q d);
    })

-- salvage alone leaves a segment out
left-lenient : (reading : Reading) (e : DecodeError) → is_salvaged reading e ≡ true → is_strict reading ≡ false
left-lenient Strict e left = absurd (let no : false ≡ true = left in cc)
left-lenient Lenient e left = refl
left-lenient Salvage e left = refl

step-left : (reading : Reading) (R : Drawing → Drawing → Type 0) → StepsBy (is_strict reading) R → (p : SegmentView) (d : Drawing) (r : Result Drawing DecodeError) → IfOk r (R d) → IfOk (or_left_out reading p d r) (R d)
step-left reading R by p d (Ok e) step = step
step-left reading R by p d (Err e) step =
    cond_both (is_salvaged reading e) (Ok (passing p e d)) (Err e) (λ (r : Result Drawing DecodeError). IfOk r (R d)) (λ left. by.passes (left-lenient reading e left) d p e) (λ kept. tt)

-- in strict reading nothing is left out
unleft : (p : SegmentView) (d e : Drawing) (r : Result Drawing DecodeError) → or_left_out Strict p d r ≡ Ok e → r ≡ Ok e
unleft p d e (Ok f) is = is
unleft p d e (Err error) is = absurd (cc)

-- what strict reading doesn't refuse has no fault
never-faulty : (globals : Names) (p : SegmentView) (d e : Drawing) → segment_by true globals p d ≡ Ok e → strict_fault globals p d ≡ None
never-faulty globals p d e is = by (is_partial p)
  where
    by : (partial : Bool) → (if partial then None else fault_of (segment_by true globals p d)) ≡ None
    by true = refl
    by false = ap (λ (r : Result Drawing DecodeError). fault_of r) is

told-lenient : (strict : Bool) (R : Drawing → Drawing → Type 0) → StepsBy strict R → strict ≡ false → (fault : Option DecodeError) (number : ℕ) (d : Drawing) (r : Result Drawing DecodeError) → IfOk r (R d) → IfOk (or_told fault number d r) (R d)
told-lenient strict R by lenient None number d r step = step
told-lenient strict R by lenient (Some fault) number d (Ok e) step =
    cond_both (eqb e.passed_over.count d.passed_over.count) (Ok (record e { passed_over = with_passed (Some number) fault e.passed_over })) (Ok e) (λ (r : Result Drawing DecodeError). IfOk r (R d))
    (λ same. by.tells lenient d e number fault (eqb-true e.passed_over.count d.passed_over.count same) step) (λ other. step)
told-lenient strict R by lenient (Some fault) number d (Err e) step = tt

step-told : (reading : Reading) (R : Drawing → Drawing → Type 0) → StepsBy (is_strict reading) R → (globals : Names) (p : SegmentView) (d : Drawing) (r : Result Drawing DecodeError) → or_left_out reading p d (segment_by (is_strict reading) globals p d) ≡ r → IfOk r (R d)
    → IfOk (or_told (strict_fault globals p d) p.header.segment_number d r) (R d)
step-told Strict R by globals p d (Ok e) is step =
    subst (λ (fault : Option DecodeError). IfOk (or_told fault p.header.segment_number d (Ok e)) (R d)) (sym (never-faulty globals p d e (unleft p d e (segment_by true globals p d) is))) step
step-told Strict R by globals p d (Err e) is step = refused (strict_fault globals p d)
  where
    refused : (fault : Option DecodeError) → IfOk (or_told fault p.header.segment_number d (Err e)) (R d)
    refused None = tt
    refused (Some fault) = tt
step-told Lenient R by globals p d r is step = told-lenient false R by refl (strict_fault globals p d) p.header.segment_number d r step
step-told Salvage R by globals p d r is step = told-lenient false R by refl (strict_fault globals p d) p.header.segment_number d r step

pub segment-step : (reading : Reading) (R : Drawing → Drawing → Type 0) → StepsBy (is_strict reading) R → (globals : Names) (p : SegmentView) (d : Drawing) → IfOk (segment_on reading globals p d) (R d)
segment-step reading R by globals p d =
    step-told reading R by globals p d (or_left_out reading p d (segment_by (is_strict reading) globals p d)) refl
    (step-left reading R by p d (segment_by (is_strict reading) globals p d) (step-by (is_strict reading) R by globals p d))

kept-next : (Q : Drawing → Type 0) (d : Drawing) (r : Result Drawing DecodeError) (next : Drawing → Result Drawing DecodeError) → IfOk r (λ e. Q d → Q e) → Q d → ((e : Drawing) → Q e → IfOk (next e) Q) → IfOk (r >>= next) Q
kept-next Q d (Ok e) next step holds each = each e (step holds)
kept-next Q d (Err e) next step holds each = tt

-- what each segment keeps holds at the end
pub drawn-keeps : (reading : Reading) (Q : Drawing → Type 0) → StepsBy (is_strict reading) (λ d e. Q d → Q e) → (globals : Names) (ps : List SegmentView) (d : Drawing) → Q d → IfOk (segments_drawn reading globals ps d) Q
drawn-keeps reading Q by globals [] d holds = holds
drawn-keeps reading Q by globals (p ∷ ps) d holds =
    let P : Result Drawing DecodeError → Type 0 = λ r. IfOk r Q in
    cond_both (ends_page p.header.segment_type) (Ok d) (segment_on reading globals p d >>= λ e. segments_drawn reading globals ps e) P
    (λ ends. holds)
    (λ goes_on. kept-next Q d (segment_on reading globals p d) (λ e. segments_drawn reading globals ps e) (segment-step reading (λ a b. Q a → Q b) by globals p d) holds (λ e now. drawn-keeps reading Q by globals ps e now))

-- ---- what was passed over
abbrev CountsOn : Drawing → Drawing → Type 0
CountsOn d e = e.passed_over.count ≤ d.passed_over.count + 1

-- a segment adds at most one
pub counts-on : (reading : Reading) (globals : Names) (p : SegmentView) (d : Drawing) → IfOk (segment_on reading globals p d) (λ e. e.passed_over.count ≤ d.passed_over.count + 1)
counts-on reading globals p d = segment-step reading CountsOn
    (record {
      keeps = λ d names. omega arith;
      stores = λ d number region. omega arith;
      shows = λ d region. omega arith;
      passes = λ lenient d q e. count-passed (is_partial q) d q e;
      tells = λ lenient d e number fault same step. omega (arith, same);
    })
    globals p d
  where
    count-passed : (partial : Bool) (d : Drawing) (q : SegmentView) (e : DecodeError) → (if partial then d.passed_over else with_passed (Some q.header.segment_number) e d.passed_over).count ≤ d.passed_over.count + 1
    count-passed true d q e = omega arith
    count-passed false d q e = omega arith
