use Rattle.std.proofs.Common.{arith, refl, subst, sym, ◌≡◌, ◌+◌, ◌-◌, ◌*◌, ◌%◌, ◌<◌, ◌≤◌, ℕ}
use Rattle.jbig2_region.specs.declared.generic_kernel.windows.Windows.{Windows}
use Rattle.jbig2_region.proofs.generic_kernel.windows.WideWindows.at_byte.Goals as goal
use Rattle.jbig2_region.proofs.generic_kernel.windows.WideWindows.at_byte.Goals.{then-done-ge4, else-done-ge4}
use Rattle.jbig2_region.specs.inner.Windows.{Shows}

pub returns : goal.returns
returns c = λ bytes within g x y shows.
    let done = c.args.done in
    let by : ℕ = 8 * (done % 4) in
    record {
      first = elim c.if-done-ge4.branch [
        | then-done-ge4 w ↦
            let late : 4 ≤ done = w.if-done-ge4.true in
            let place : x + 32 + by ≡ x + 8 * done = omega arith in
            subst (λ (n : ℕ). Shows g n y (64 - by) c.right_by-first.result) place
            (c.right_by-first.ensures g (x + 32) y 64 (omega arith) (subst (λ (v : Windows). Shows g (x + 32) y 64 v) (sym w.nearest-is) (shows.second (omega arith))))
        | else-done-ge4 w ↦
            let early : done < 4 = omega (arith, w.if-done-ge4.false) in
            let place : x + by ≡ x + 8 * done = omega arith in
            subst (λ (n : ℕ). Shows g n y (64 - by) c.right_by-first.result) place
            (c.right_by-first.ensures g x y 64 (omega arith) (subst (λ (v : Windows). Shows g x y 64 v) (sym w.nearest-is) shows.first))
      ];
      second = refl;
    }
