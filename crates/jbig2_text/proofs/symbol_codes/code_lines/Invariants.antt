use Rattle.std.proofs.Common.{◌≡◌, ◌++◌, drop}
use Rattle.jbig2_coder.specs.PrefixCode.{AreShort}
use Rattle.jbig2_text.specs.SymbolCodes.{lines_from}
use Rattle.jbig2_text.proofs.symbol_codes.code_lines.Given as goal

abbrev pub invariant-loop-number : goal.invariant-loop-number
invariant-loop-number g l = record {
  lines : l.lines.items ++ lines_from l.number (drop l.number l.lengths) ≡ lines_from 0 l.lengths;
  short : AreShort l.lines.items;
}
