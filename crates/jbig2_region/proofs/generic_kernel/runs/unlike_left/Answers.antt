use Rattle.std.proofs.Common.{arith, cond, ◌≡◌, ◌≤◌, ◌-◌, ◌^◌}
use Rattle.std.proofs.Math.Nat.{pow-le-pow_right}
use Rattle.jbig2_region.proofs.UnlikeLemmas.{left-unlike}
use Rattle.jbig2_region.proofs.generic_kernel.runs.unlike_left.Goals as goal
use Rattle.jbig2_region.proofs.generic_kernel.runs.unlike_left.Goals.{then-black, else-black}

pub returns : goal.returns
returns c =
    let small : 2 ^ c.args.count ≤ 2 ^ 4 = pow-le-pow_right (omega arith) c.requires in
    let all : c.if-black.all ≡ cond c.args.black (2 ^ c.args.count - 1) 0 =
    elim c.if-black.branch [
      | then-black w ↦ rw w.if-black.true (omega (arith, w.all-is, small))
      | else-black w ↦ rw w.if-black.false w.all-is
    ] in
    left-unlike c.args.left c.args.count c.args.black c.if-black.all c.requires all
