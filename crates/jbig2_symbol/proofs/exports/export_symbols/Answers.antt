use Rattle.std.proofs.Common.{◌≡◌, ℕ, ◌+◌, ◌≤◌, List, Ok, get_or, length, take, refl, sym, ap, ◌∙◌, arith}
use Rattle.std.specs.Prelude.{sum}
use Rattle.std.proofs.lemmas.List.{take_all}
use Rattle.jbig2_base.specs.Grid.{Grid}
use Rattle.jbig2_base.proofs.Causes.{same-ok}
use Rattle.jbig2_steps.specs.Work.{budget}
use Rattle.jbig2_symbol.specs.Symbols.{exported_from}
use Rattle.jbig2_symbol.specs.inner.SymbolViews.{all_symbols}
use Rattle.jbig2_symbol.proofs.ExportedLemmas.{all-length, exported-even, exported-none, exported-odd, only-memory, sum-more, sum-within}
use Rattle.jbig2_symbol.proofs.exports.export_symbols.Goals as goal
use Rattle.jbig2_symbol.proofs.exports.export_symbols.Goals.{then-k-eq1+in-Ok, else-k-eq1}

pub loop-k-init : goal.loop-k-init
loop-k-init g c = record { first = refl; pushed = exported-none c.args.runs.now (all_symbols c.args.symbols.now c.args.new.now) c.new-exported.result.items c.new-exported.ensures.items; paid = omega arith }

pub push_symbols-requires : goal.push_symbols-requires
push_symbols-requires g c = sum-within c.args.runs.now c.loop-k.k c.loop-k.first _ _ (omega arith) c.loop-k.invariant.first refl c.requires

pub returns-in-Err-clause-value : goal.returns-in-Err-clause-value
returns-in-Err-clause-value g c = only-memory c.in-Err.error _ _ c.in-Err.ensures.value

pub overflow_add-first : goal.overflow_add-first
overflow_add-first g c =
    let few = sum-within c.args.runs.now c.loop-k.k c.loop-k.first _ _ (omega arith) c.loop-k.invariant.first refl c.requires in
    omega (arith, few)

pub loop-k-preserved : goal.loop-k-preserved
loop-k-preserved g c =
    let runs : List ℕ = c.args.runs.now in
    let all : List Grid = all_symbols c.args.symbols.now c.args.new.now in
    let run : ℕ = get_or runs c.loop-k.k 0 in
    let few : c.loop-k.first + run ≤ length c.args.symbols.now + length c.args.new.now = sum-within runs c.loop-k.k c.loop-k.first run _ (omega arith) c.loop-k.invariant.first refl c.requires in
    let many : length all ≡ length c.args.symbols.now + length c.args.new.now = all-length c.args.symbols.now c.args.new.now in
    let within : c.loop-k.first + run ≤ length all = omega (arith, few, many) in
    record {
      first = sum-more runs c.loop-k.k c.loop-k.first run (omega arith) c.loop-k.invariant.first refl;
      pushed = elim c.if-k-eq1.branch [
        | then-k-eq1+in-Ok w ↦
            exported-odd runs all c.loop-k.exported.items c.if-k-eq1.exported.items c.loop-k.k c.loop-k.first run (omega arith) c.loop-k.invariant.first refl within (omega arith) c.loop-k.invariant.pushed
            (ap (λ v. v.items) w.exported-is ∙ sym (same-ok _ _ w.in-Ok.ensures.value))
        | else-k-eq1 w ↦
            ap (λ v. v.items) w.exported-is
            ∙ exported-even runs all c.loop-k.exported.items c.loop-k.k c.loop-k.first run (omega arith) c.loop-k.invariant.first refl within (λ odd. omega arith) c.loop-k.invariant.pushed
      ];
      paid = elim c.if-k-eq1.branch [
        | then-k-eq1+in-Ok w ↦ let p : budget c.if-k-eq1.work ≤ budget c.loop-k.work = rw w.work-is w.push_symbols.ensures.paid in omega (arith, p, c.loop-k.invariant.paid)
        | else-k-eq1 w ↦ rw w.work-is c.loop-k.invariant.paid
      ];
    }

pub returns-clause-value : goal.returns-clause-value
returns-clause-value g c =
    let runs : List ℕ = c.args.runs.now in
    let all : List Grid = all_symbols c.args.symbols.now c.args.new.now in
    let done : take c.loop-k.k runs ≡ runs = take_all c.loop-k.k runs (omega arith) in
    let many : length all ≡ length c.args.symbols.now + length c.args.new.now = all-length c.args.symbols.now c.args.new.now in
    let first : c.loop-k.first ≡ sum runs = c.loop-k.invariant.first ∙ ap sum done in
    let whole : length all ≤ c.loop-k.first = omega (arith, many, first, c.requires) in
    ap Ok (sym (c.loop-k.invariant.pushed ∙ ap (λ (gs : List Grid). exported_from runs 0 gs) (take_all c.loop-k.first all whole)))
