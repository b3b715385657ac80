use Rattle.std.proofs.Common.{Option, None, ◌≡◌, ℕ, suc, ◌+◌, ◌<◌, ◌≤◌, List, ◌∷◌, length, drop, get_or, true, Some, Result, Ok, Err, inl, inr, ⊎_elim, sym, ap, subst, ◌∙◌, arith}
use Rattle.std.proofs.Math.Seq.{drop-cons}
use Rattle.std.proofs.lemmas.Bool.{cond_both}
use Rattle.std.proofs.lemmas.List.{at_drop_all}
use Rattle.std.specs.Prelude.{IfOk}
use Rattle.jbig2_framing.specs.Reading.{is_salvaged, is_strict}
use Rattle.jbig2_framing.specs.inner.SegmentViews.{segment_view, segment_views}
use Rattle.jbig2_base.specs.declared.error.DecodeError.{DecodeError}
use Rattle.jbig2_base.specs.declared.error.DecodeError.TheVariants.{OutOfMemory}
use Rattle.jbig2_framing.specs.declared.reading.Reading.{Reading}
use Rattle.jbig2_framing.specs.declared.segment.Segment.{Segment}
use Rattle.jbig2_page.specs.Names.{Names, kept_by, no_names}
use Rattle.jbig2_page.specs.PassedOver.{fault_of, with_passed}
use Rattle.jbig2_page.specs.Globals.{KeptGlobals, or_shared_without, shared_from}
use Rattle.jbig2_steps.proofs.WorkLemmas.{paid-limit}
use Rattle.jbig2_page.proofs.globals.GlobalsContent.of_segments.Goals as goal

-- what a segment makes of what was shared before it
abbrev after : {A : Type 0} → Reading → Segment A → KeptGlobals → Result KeptGlobals DecodeError
after reading item shared = or_shared_without reading (fault_of (kept_by true no_names (segment_view item) shared.names)) item.header.segment_number shared (kept_by (is_strict reading) no_names (segment_view item) shared.names)

-- a segment that is refused ends the names
refused-segment : {A : Type 0} (reading : Reading) (segments : List (Segment A)) (i : ℕ) (item : Segment A) (shared : KeptGlobals) (e : DecodeError) → i < length segments → item ≡ get_or segments i item → after reading item shared ≡ Err e → shared_from reading (segment_views (drop i segments)) shared ≡ Err e
refused-segment reading segments i item shared e inside is refused =
    let here : drop i segments ≡ item ∷ drop (suc i) segments = drop-cons segments i item inside ∙ ap (λ s. s ∷ drop (suc i) segments) (sym is) in
    rw (here, refused)

-- a segment that is taken is followed by the others
taken-segment : {A : Type 0} (reading : Reading) (segments : List (Segment A)) (i : ℕ) (item : Segment A) (shared : KeptGlobals) (more : KeptGlobals) → i < length segments → item ≡ get_or segments i item → after reading item shared ≡ Ok more → shared_from reading (segment_views (drop (i + 1) segments)) more ≡ shared_from reading (segment_views (drop i segments)) shared
taken-segment reading segments i item shared more inside is taken =
    let here : drop i segments ≡ item ∷ drop (suc i) segments = drop-cons segments i item inside ∙ ap (λ s. s ∷ drop (suc i) segments) (sym is) in
    let next : i + 1 ≡ suc i = omega arith in
    rw (here, taken, next)

-- a segment adds at most one
counts-on : (reading : Reading) (fault : Option DecodeError) (number : ℕ) (shared : KeptGlobals) (r : Result Names DecodeError) → IfOk (or_shared_without reading fault number shared r) (λ more. more.passed_over.count ≤ shared.passed_over.count + 1)
counts-on reading None number shared (Ok names) = omega arith
counts-on reading (Some e) number shared (Ok names) = omega arith
counts-on reading fault number shared (Err e) =
    cond_both (is_salvaged reading e) (Ok (record shared { passed_over = with_passed (Some number) e shared.passed_over })) (Err e)
    (λ (r : Result KeptGlobals DecodeError). IfOk r (λ more. more.passed_over.count ≤ shared.passed_over.count + 1)) (λ left. omega arith) (λ kept. tt)

pub loop-segment-preserved : goal.loop-segment-preserved
loop-segment-preserved g c =
    let shared : KeptGlobals = c.loop-segment.globals in
    let item = c.segment-item.result in
    let more : c.add.new.self.passed_over.count ≤ shared.passed_over.count + 1 =
    subst (λ (r : Result KeptGlobals DecodeError). IfOk r (λ s. s.passed_over.count ≤ shared.passed_over.count + 1)) c.in-Ok.ensures.value
    (counts-on c.args.reading (fault_of (kept_by true no_names (segment_view item) shared.names)) item.header.segment_number shared (kept_by (is_strict c.args.reading) no_names (segment_view item) shared.names)) in
    record {
      named =
          taken-segment c.args.reading c.args.segments.now c.loop-segment.segment-index item shared c.add.new.self (omega arith) c.segment-item.is c.in-Ok.ensures.value
          ∙ c.loop-segment.invariant.named;
      paid = omega (arith, c.in_ok-pay_segment.ensures.taken, c.in-Ok.ensures.paid, c.loop-segment.invariant.paid);
      few = omega (arith, more, c.loop-segment.invariant.few);
    }

pub returns-in-Err-clause-value : goal.returns-in-Err-clause-value
returns-in-Err-clause-value g c =
    ⊎_elim
    (λ (memory : c.in-Err.error ≡ OutOfMemory). inl memory)
    (λ refused. inr (sym c.loop-segment.invariant.named ∙ refused-segment c.args.reading c.args.segments.now c.loop-segment.segment-index c.segment-item.result c.loop-segment.globals c.in-Err.error (omega arith) c.segment-item.is refused))
    c.in-Err.ensures.value

pub returns-clause-value : goal.returns-clause-value
returns-clause-value g c =
    sym c.loop-segment.invariant.named
    ∙ at_drop_all (λ left. shared_from c.args.reading (segment_views left) c.loop-segment.globals) c.args.segments.now c.loop-segment.segment-index c.loop-segment-test.false

pub returns-in_err-pay_segment-clause-limit : goal.returns-in_err-pay_segment-clause-limit
returns-in_err-pay_segment-clause-limit g c = paid-limit c.args.work.now c.pay_segment.new.work (omega (arith, c.loop-segment.invariant.paid, c.pay_segment.ensures.paid))

pub returns-in-Err-clause-limit : goal.returns-in-Err-clause-limit
returns-in-Err-clause-limit g c = paid-limit c.args.work.now c.add.new.work (omega (arith, c.loop-segment.invariant.paid, c.in_ok-pay_segment.ensures.paid, c.add.ensures.paid))

pub returns-clause-limit : goal.returns-clause-limit
returns-clause-limit g c = paid-limit c.args.work.now c.loop-segment.work (omega (arith, c.loop-segment.invariant.paid))
