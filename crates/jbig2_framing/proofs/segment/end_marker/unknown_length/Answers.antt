use Rattle.std.proofs.Common.{rules, ℕ, ap}
use Rattle.jbig2_base.specs.Bits.{Place}
use Rattle.jbig2_framing.specs.Segment.{unknown_length_of}
use Rattle.jbig2_base.proofs.CauseSteps.{err-answers}
use Rattle.jbig2_framing.proofs.DataCauses.{unknown_cause}
use Rattle.jbig2_framing.proofs.SegmentLemmas.{unknown_refused, unknown_unmarked, unknown_marked}
use Rattle.jbig2_framing.proofs.segment.end_marker.unknown_length.Goals as goal

pub returns-in_err-flags-clause-value : goal.returns-in_err-flags-clause-value
returns-in_err-flags-clause-value c =
    let start = ap (λ (p : Place). p.bytes) c.new-reader.ensures in
    search (rules, start, unknown_refused)

pub returns-in_err-place-clause-value : goal.returns-in_err-place-clause-value
returns-in_err-place-clause-value c =
    let start = ap (λ (p : Place). p.bytes) c.new-reader.ensures in
    search (rules, start, unknown_unmarked)

pub returns-clause-value : goal.returns-clause-value
returns-clause-value c =
    unknown_marked c.args.bytes.now _ _ _ _ _ _ (ap (λ (p : Place). p.bytes) c.new-reader.ensures) c.in_ok-flags.ensures.value c.tail.ensures c.in_ok-place.ensures.value c.adaptive_byte_count.ensures

pub returns-in_err-flags-clause-causes : goal.returns-in_err-flags-clause-causes
returns-in_err-flags-clause-causes c = unknown_cause c.args.bytes.now _ (err-answers (λ (n : ℕ). n) _ (unknown_length_of c.args.bytes.now) (returns-in_err-flags-clause-value c))

pub returns-in_err-place-clause-causes : goal.returns-in_err-place-clause-causes
returns-in_err-place-clause-causes c = unknown_cause c.args.bytes.now _ (err-answers (λ (n : ℕ). n) _ (unknown_length_of c.args.bytes.now) (returns-in_err-place-clause-value c))
