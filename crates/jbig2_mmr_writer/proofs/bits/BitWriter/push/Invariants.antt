use Rattle.std.proofs.Common.{◌≡◌, ◌^◌, ◌<◌, ◌++◌, All}
use Rattle.jbig2_inverses.specs.Digits.{digits}
use Rattle.jbig2_mmr.specs.T6.{bits_of}
use Rattle.jbig2_mmr_writer.proofs.bits.BitWriter.push.Given as goal

abbrev pub invariant-loop-left : goal.invariant-loop-left
invariant-loop-left g l = record {
  small : l.rest < 2 ^ l.left;
  few : l.left < 32;
  bits : bits_of l.self-inside.bytes.items ++ digits l.left l.rest ≡ l.fn.self ++ digits l.count l.bits;
  bytes : All (λ byte. byte < 256) l.self-inside.bytes.items;
  kept_count : l.self-inside.count < 8;
  kept_rest : l.self-inside.rest < 2 ^ l.self-inside.count;
}

abbrev pub decreases-loop-left : goal.decreases-loop-left
decreases-loop-left g l = l.left
