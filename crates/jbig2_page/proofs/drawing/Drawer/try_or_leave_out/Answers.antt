use Rattle.std.proofs.Common.{◌≡◌, ◌⊎◌, Result, Err, inl, inr, ⊎_elim, refl, sym, ap, subst, arith}
use Rattle.jbig2_base.specs.Results.{Gives}
use Rattle.jbig2_framing.specs.Reading.{is_strict}
use Rattle.jbig2_framing.specs.Segment.{SegmentView}
use Rattle.jbig2_framing.specs.inner.SegmentViews.{segment_view}
use Rattle.jbig2_base.specs.declared.error.DecodeError.{DecodeError}
use Rattle.jbig2_base.specs.declared.error.DecodeError.TheVariants.{OutOfMemory}
use Rattle.jbig2_framing.specs.declared.reading.Reading.{Reading}
use Rattle.jbig2_page.specs.Page.{Drawing, or_left_out, segment_by}
use Rattle.jbig2_page.proofs.drawing.Drawer.try_or_leave_out.Goals as goal

-- a segment that failed is left out
left : (reading : Reading) (p : SegmentView) (d d1 d' : Drawing) (meant : Result Drawing DecodeError) (e : DecodeError) (result : Result (Unit {0}) DecodeError)
    → (e ≡ OutOfMemory) ⊎ (meant ≡ Err e) → (e ≡ OutOfMemory) ⊎ (d1 ≡ d) → (e ≡ OutOfMemory → result ≡ Err OutOfMemory) → Gives (λ _. d') result (or_left_out reading p d1 (Err e)) → Gives (λ _. d') result (or_left_out reading p d meant)
left reading p d d1 d' meant e result (inl memory) as_was refused gives = subst (λ (a : Result (Unit {0}) DecodeError). Gives (λ _. d') a (or_left_out reading p d meant)) (sym (refused memory)) (inl refl)
left reading p d d1 d' meant e result (inr failed) (inl memory) refused gives = subst (λ (a : Result (Unit {0}) DecodeError). Gives (λ _. d') a (or_left_out reading p d meant)) (sym (refused memory)) (inl refl)
left reading p d d1 d' meant e result (inr failed) (inr same) refused gives =
    subst (λ (r : Result Drawing DecodeError). Gives (λ _. d') result (or_left_out reading p d r)) (sym failed)
    (subst (λ (b : Drawing). Gives (λ _. d') result (or_left_out reading p b (Err e))) same gives)

pub returns-in-Ok-clause-value : goal.returns-in-Ok-clause-value
returns-in-Ok-clause-value g c = ap (λ (r : Result Drawing DecodeError). or_left_out c.args.self.now.reading (segment_view c.args.segment.now) c.args.canvas.now r) c.in-Ok.ensures.value

pub returns-in-Err-clause-value : goal.returns-in-Err-clause-value
returns-in-Err-clause-value g c =
    let d : Drawing = c.args.canvas.now in
    let meant : Result Drawing DecodeError = segment_by (is_strict c.args.self.now.reading) c.args.self.now.globals.now (segment_view c.args.segment.now) d in
    left c.args.self.now.reading (segment_view c.args.segment.now) d c.try_segment.new.canvas c.leave_out.new.canvas meant c.in-Err.error _
    c.in-Err.ensures.value c.in-Err.ensures.err c.leave_out.ensures.memory c.leave_out.ensures.value

pub leave_out-requires : goal.leave_out-requires
leave_out-requires g c =
    ⊎_elim
    (λ (memory : c.in-Err.error ≡ OutOfMemory). inl memory)
    (λ (same : c.try_segment.new.canvas ≡ c.args.canvas.now). inr (omega (arith, c.requires, ap (λ (d : Drawing). d.passed_over.count) same)))
    c.in-Err.ensures.err
