use Rattle.std.proofs.Common.{◌-◌, length, Ok, false, refl, sym, subst, arith}
use Rattle.jbig2_base.specs.Results.{Gives}
use Rattle.jbig2_base.specs.Grid.{Grid, blank}
use Rattle.jbig2_symbol.proofs.ExportedLemmas.{all-new, all-referred}
use Rattle.jbig2_symbol.proofs.exports.duplicate_symbol.Goals as goal

pub returns-then-index-symbols-clause-value : goal.returns-then-index-symbols-clause-value
returns-then-index-symbols-clause-value g c =
    subst (λ (h : Grid). Gives (λ symbol. symbol) c.duplicate.result (Ok h))
    (sym (all-referred c.args.symbols.now c.args.new.now c.args.index c.index-symbols-index.result (blank 0 0 false) c.index-symbols-index.result.now c.if-index-symbols.true c.index-symbols-index.is refl))
    c.duplicate.ensures.value

pub returns-clause-value : goal.returns-clause-value
returns-clause-value g c =
    subst (λ (h : Grid). Gives (λ symbol. symbol) c.duplicate-2.result (Ok h))
    (sym (all-new c.args.symbols.now c.args.new.now c.args.index (c.args.index - length c.args.symbols.now) c.index-new-index.result (blank 0 0 false) c.index-new-index.result (omega arith) (omega arith) c.index-new-index.is refl))
    c.duplicate-2.ensures.value
