use Rattle.std.proofs.Common.{arith, subst, ◌+◌, ◌*◌, ◌%◌, ℕ}
use Rattle.jbig2_region.specs.declared.generic_kernel.windows.Windows.{Windows}
use Rattle.jbig2_region.proofs.CarriedLemmas.{shows-alone, shows-cut}
use Rattle.jbig2_region.specs.inner.Windows.{Shows}
use Rattle.jbig2_region.proofs.generic_kernel.words.last_windows.Goals as goal

pub returns-clause-alone : goal.returns-clause-alone
returns-clause-alone c = λ g y none before after. shows-alone g y (8 * ((c.args.whole + 7) % 8)) c.args.words c.args.after _ (omega arith) (omega arith) (omega arith) c.cut.ensures c.cut-2.ensures before after

pub returns-clause-more : goal.returns-clause-more
returns-clause-more c = λ g y x place words after.
    let shown : Windows = record { above = c.cut.result; top = c.cut-2.result } in
    subst (λ (n : ℕ). Shows g n y 64 shown) place
    (shows-cut g x y (8 * ((c.args.whole + 7) % 8)) c.args.words c.args.after shown (omega arith) (omega arith) (omega arith) c.cut.ensures c.cut-2.ensures words after)
