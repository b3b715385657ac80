use Rattle.std.proofs.Common.{◌≡◌, get_or, pos, rules, arith}
use Rattle.jbig2_coder.specs.Tables.{line}
use Rattle.jbig2_coder.proofs.CustomReading.{short-push}
use Rattle.jbig2_text.proofs.SymbolLemmas.{lines-next}
use Rattle.jbig2_text.proofs.symbol_codes.code_lines.Goals as goal

pub loop-number-preserved : goal.loop-number-preserved
loop-number-preserved g c =
    let one : c.new.result ≡ line (get_or c.args.lengths.now c.loop-number.number 0) 0 (pos c.loop-number.number) = search rules in
    record {
      lines = lines-next c.args.lengths.now c.loop-number.number c.loop-number.lines.items c.push.new.self.items _ c.new.result (omega arith) c.loop-number.invariant.lines one c.in_ok-push.ensures.items;
      short = short-push c.loop-number.lines.items c.push.new.self.items c.new.result c.loop-number.invariant.short (rw one (omega arith)) c.in_ok-push.ensures.items;
    }
