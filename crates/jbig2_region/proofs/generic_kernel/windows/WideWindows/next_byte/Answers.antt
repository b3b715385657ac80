use Rattle.std.proofs.Common.{arith, refl, subst, ◌≡◌, ◌+◌, ◌-◌, ◌*◌, ◌%◌, ℕ}
use Rattle.jbig2_region.specs.inner.Windows.{Shows}
use Rattle.jbig2_region.proofs.generic_kernel.windows.WideWindows.next_byte.Goals as goal

pub returns-else-done-eq4 : goal.returns-else-done-eq4
returns-else-done-eq4 c = λ bytes before few within next is_at g x y shows.
    let done = c.args.done in
    let place : x + 8 * before + 8 ≡ x + 8 * done = omega arith in
    let seen : 64 - 8 * (before % 4) - 8 ≡ 64 - 8 * (done % 4) = omega (arith, c.if-done-eq4.false) in
    record {
      first = subst (λ (n : ℕ). Shows g (x + 8 * done) y n c.right_by-moved.result) seen
          (subst (λ (n : ℕ). Shows g n y (64 - 8 * (before % 4) - 8) c.right_by-moved.result) place
          (c.right_by-moved.ensures g (x + 8 * before) y (64 - 8 * (before % 4)) (omega arith) (is_at g x y shows).first));
      second = refl;
    }
