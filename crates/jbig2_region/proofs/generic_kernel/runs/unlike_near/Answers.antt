use Rattle.std.proofs.Common.{arith, cond, ◌≡◌, ◌≤◌, ◌+◌, ◌-◌, ◌^◌}
use Rattle.std.proofs.Math.Nat.{pow-le-pow_right}
use Rattle.jbig2_region.proofs.UnlikeLemmas.{near-unlike}
use Rattle.jbig2_region.proofs.generic_kernel.runs.unlike_near.Goals as goal
use Rattle.jbig2_region.proofs.generic_kernel.runs.unlike_near.Goals.{then-black, else-black}

pub returns : goal.returns
returns c =
    let within : c.args.stretch.count + 8 ≤ 15 = omega (arith, c.requires.count) in
    let small : 2 ^ (c.args.stretch.count + 8) ≤ 2 ^ 15 = pow-le-pow_right (omega arith) within in
    let all : c.if-black.all ≡ cond c.args.black (2 ^ (c.args.stretch.count + 8) - 1) 0 =
    elim c.if-black.branch [
      | then-black w ↦ rw w.if-black.true (omega (arith, w.all-is, small))
      | else-black w ↦ rw w.if-black.false w.all-is
    ] in
    near-unlike c.args.stretch c.args.black c.args.window c.if-black.all c.requires.count c.if-stretch-eq0.false all
