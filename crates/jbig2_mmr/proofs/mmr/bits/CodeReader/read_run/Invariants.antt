use Rattle.std.proofs.Common.{◌≡◌, ◌≤◌, length}
use Rattle.jbig2_mmr.proofs.T6Runs.{RunReading}
use Rattle.jbig2_mmr.specs.T6.{run}
use Rattle.jbig2_mmr.proofs.mmr.bits.CodeReader.read_run.Given as goal

abbrev pub invariant-loop-code : goal.invariant-loop-code
invariant-loop-code l = record {
  within : l.sum ≤ l.room;
  reading : RunReading l.black l.sum l.self.left (run l.black l.fn.self.left);
  bytes : l.self.bytes ≡ l.fn.self.bytes;
  shorter : length l.self.left ≤ length l.fn.self.left;
}

abbrev pub decreases-loop-code : goal.decreases-loop-code
decreases-loop-code l = length l.self.left
