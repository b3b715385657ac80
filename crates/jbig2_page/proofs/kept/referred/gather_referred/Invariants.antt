use Rattle.std.proofs.Common.{◌≡◌, drop, length}
use Rattle.jbig2_page.specs.Names.{with_numbers, referred_by}
use Rattle.jbig2_page.specs.inner.RegionPrices.{PaysForSymbols}
use Rattle.jbig2_page.proofs.kept.referred.gather_referred.Given as goal

abbrev pub invariant-loop-number : goal.invariant-loop-number
invariant-loop-number g l = record {
  same :
      with_numbers l.lookup.strict l.lookup.own.now l.lookup.globals.now (drop l.number-index l.numbers) l.referred
      ≡ referred_by l.lookup.strict l.lookup.own.now l.lookup.globals.now l.numbers;
  taken : PaysForSymbols 0 (length l.referred.symbols) l.initial.work l.work;
}
