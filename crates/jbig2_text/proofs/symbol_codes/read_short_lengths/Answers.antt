use Rattle.std.proofs.Common.{inr, ◌≡◌, ◌∷◌, ◌++◌, [], ap, length, rules, arith, length-append}
use Rattle.jbig2_text.specs.SymbolCodes.{short_lengths}
use Rattle.jbig2_text.proofs.SymbolLemmas.{short-next, short-fault, short-done}
use Rattle.jbig2_text.proofs.symbol_codes.read_short_lengths.Goals as goal

pub loop-init : goal.loop-init
loop-init g c =
    record {
      goes = ap (λ lens. short_lengths 35 lens c.args.reader.now) c.new-lengths.ensures.items;
      count = ap length c.new-lengths.ensures.items;
    }

pub returns-in-Err-clause-value : goal.returns-in-Err-clause-value
returns-in-Err-clause-value g c = inr (short-fault c.loop.counter c.loop.lengths.items c.loop.reader c.in-Err.error (short_lengths 35 [] c.args.reader.now) c.loop-test.true c.loop.invariant.goes (rw c.invalid_code.ensures at c.in-Err.ensures.value))

pub loop-preserved : goal.loop-preserved
loop-preserved g c =
    let pushed : c.push.new.self.items ≡ c.loop.lengths.items ++ c.in-Ok.length ∷ [] = search rules in
    record {
      goes = short-next c.loop.counter c.in-Ok.length c.loop.lengths.items c.push.new.self.items c.loop.reader c.bits_field.new.reader (short_lengths 35 [] c.args.reader.now) c.loop-test.true c.loop.invariant.goes (rw c.invalid_code.ensures at c.in-Ok.ensures.value) pushed;
      count = grind (arith, pushed, c.loop.invariant.count, length-append);
    }

pub returns-clause-value : goal.returns-clause-value
returns-clause-value g c = short-done c.loop.counter c.loop.lengths.items c.loop.reader (short_lengths 35 [] c.args.reader.now) c.loop-test.false c.loop.invariant.goes
