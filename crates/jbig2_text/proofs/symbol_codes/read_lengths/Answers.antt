use Rattle.std.proofs.Common.{◌-◌, ◌<◌, ◌≤◌, length, [], rules}
use Rattle.jbig2_text.specs.SymbolCodes.{runs_at}
use Rattle.jbig2_text.proofs.SymbolLemmas.{runs-next, runs-fault, runs-full, runs-done}
use Rattle.jbig2_text.proofs.symbol_codes.read_lengths.Goals as goal

pub returns-then-len-count : goal.returns-then-len-count
returns-then-len-count g c =
    let full : c.args.count ≤ length c.loop.lengths.items = search rules in
    runs-full (c.args.count - c.loop.counter) c.args.count c.args.runcodes.now c.loop.lengths.items c.loop.reader (runs_at c.args.count c.args.count c.args.runcodes.now [] c.args.reader.now) full c.loop.invariant

pub returns-in-Err : goal.returns-in-Err
returns-in-Err g c =
    let few : length c.loop.lengths.items < c.args.count = search rules in
    runs-fault c.loop.counter c.args.count c.args.runcodes.now c.loop.lengths.items c.loop.reader c.in-Err.error (runs_at c.args.count c.args.count c.args.runcodes.now [] c.args.reader.now) c.loop-test.true few c.loop.invariant c.in-Err.ensures

pub loop-preserved : goal.loop-preserved
loop-preserved g c =
    let few : length c.loop.lengths.items < c.args.count = search rules in
    runs-next c.loop.counter c.args.count c.args.runcodes.now c.loop.lengths.items c.read_run.new.lengths.items c.loop.reader c.read_run.new.reader (runs_at c.args.count c.args.count c.args.runcodes.now [] c.args.reader.now) c.loop-test.true few c.loop.invariant c.in-Ok.ensures

pub returns : goal.returns
returns g c = runs-done c.loop.counter c.args.count c.args.runcodes.now c.loop.lengths.items c.loop.reader (runs_at c.args.count c.args.count c.args.runcodes.now [] c.args.reader.now) c.loop-test.false c.loop.invariant
