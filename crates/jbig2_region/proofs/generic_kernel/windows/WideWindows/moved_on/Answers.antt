use Rattle.std.proofs.Common.{arith}
use Rattle.jbig2_region.proofs.generic_kernel.windows.WideWindows.moved_on.Goals as goal

pub returns-then-taken-eq1 : goal.returns-then-taken-eq1
returns-then-taken-eq1 c = λ before sum within is_at. c.next_byte.ensures c.args.bytes before c.requires.few within (omega (arith, sum, c.if-taken-eq1.true)) is_at

pub returns-then-done-bytes : goal.returns-then-done-bytes
returns-then-done-bytes c = λ before sum within is_at. c.at_byte.ensures c.args.bytes within
