use Rattle.std.proofs.Common.{◌≡◌, ℕ, ◌<◌, drop, false}
use Rattle.jbig2_framing.specs.Segment.{is_end_marker}
use Rattle.jbig2_framing.proofs.segment.end_marker.first_end_marker.Given as goal

abbrev pub invariant-loop-place : goal.invariant-loop-place
invariant-loop-place l = (k : ℕ) → k < l.place → is_end_marker l.flags (drop k l.bytes) ≡ false
