use Rattle.std.proofs.Common.{◌≡◌, ◌++◌, ◌-◌, ◌*◌, drop}
use Rattle.std.specs.Int.{byte_len}
use Rattle.jbig2_framing.specs.Segment.{numbers_in, number_width}
use Rattle.jbig2_framing.proofs.segment.numbers_in.Given as goal

abbrev pub invariant-loop-index : goal.invariant-loop-index
invariant-loop-index g l = l.numbers.items ++ numbers_in (number_width l.own) (l.count - l.index) (drop (l.index * byte_len (number_width l.own)) l.bytes) ≡ numbers_in (number_width l.own) l.count l.bytes
