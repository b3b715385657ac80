use Rattle.std.proofs.Common.{◌≤◌, length, take}
use Rattle.std.specs.Io.KnownBytes.{Appends}
use Rattle.jbig2_program.proofs.output.send.Given as goal

abbrev pub invariant-loop-turn : goal.invariant-loop-turn
invariant-loop-turn g l = record {
  within : l.sent ≤ length l.bytes;
  sent : Appends (g.O.Write.contents l.fn.out) (g.O.Write.contents l.out) (take l.sent l.bytes);
}
