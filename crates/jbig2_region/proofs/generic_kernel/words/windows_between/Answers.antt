use Rattle.std.proofs.Common.{pos, ◌-ℤ◌, arith}
use Rattle.jbig2_region.proofs.CarriedLemmas.{window-first_carried, window-second_carried}
use Rattle.jbig2_region.proofs.generic_kernel.words.windows_between.Goals as goal

pub returns : goal.returns
returns c = λ g x y bytes before here after. record {
  first = record {
    above = window-first_carried g x c.args.before.above c.args.here.above (pos y -ℤ pos 1) (omega arith) before.above here.above;
    top = window-first_carried g x c.args.before.top c.args.here.top (pos y -ℤ pos 2) (omega arith) before.top here.top;
  };
  second = λ more. record {
    above = window-second_carried g x c.args.here.above c.args.after.above (pos y -ℤ pos 1) (omega arith) here.above after.above;
    top = window-second_carried g x c.args.here.top c.args.after.top (pos y -ℤ pos 2) (omega arith) here.top after.top;
  };
}
