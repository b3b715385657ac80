use Rattle.std.proofs.Common.{arith, rules}
use Rattle.jbig2_symbol.proofs.TallClasses.{raw-passed, raw-refused}
use Rattle.jbig2_symbol.proofs.collective.check_rows.Goals as goal

pub returns-in_err-raw_bytes-clause-value : goal.returns-in_err-raw_bytes-clause-value
returns-in_err-raw_bytes-clause-value g c =
    let same = raw-refused c.args.size c.args.sides.width c.args.sides.height c.args.strict c.args.reader.now.bytes c.in_err-raw_bytes.field-0.0 (omega arith) c.in_err-raw_bytes.ensures.value in
    search (rules, same)

pub returns-clause-value : goal.returns-clause-value
returns-clause-value g c = raw-passed c.args.size c.args.sides.width c.args.sides.height c.args.strict c.args.reader.now.bytes c.in_ok-raw_bytes.field-0.now c.raw_bytes.new.reader.bytes (omega arith) c.in_ok-raw_bytes.ensures.value
