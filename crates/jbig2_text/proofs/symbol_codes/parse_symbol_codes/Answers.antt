use Rattle.std.proofs.Common.{rules}
use Rattle.jbig2_text.proofs.Causes.{symbol_code_cause}
use Rattle.jbig2_text.proofs.symbol_codes.parse_symbol_codes.Goals as goal

pub returns-in_err-codes-clause-causes : goal.returns-in_err-codes-clause-causes
returns-in_err-codes-clause-causes g c = symbol_code_cause c.args.count c.args.reader.now.bytes _ (search rules)

pub returns-clause-causes : goal.returns-clause-causes
returns-clause-causes g c = symbol_code_cause c.args.count c.args.reader.now.bytes _ tt
