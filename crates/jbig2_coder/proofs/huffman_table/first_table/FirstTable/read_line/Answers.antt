use Rattle.std.proofs.Common.{◌≡◌, ℕ, ◌-◌, ◌<◌, List, length, take, drop, get_or, Ok, pos, sym, subst, arith, false}
use Rattle.std.proofs.lemmas.List.{take_all, length-drop}
use Rattle.jbig2_base.specs.Bits.{bits_left}
use Rattle.jbig2_base.proofs.BitFieldLemmas.{next-small}
use Rattle.jbig2_coder.specs.declared.huffman_table.line.TableLine.{TableLine}
use Rattle.jbig2_coder.specs.declared.huffman_table.levels.Level.{Level}
use Rattle.jbig2_coder.specs.declared.huffman_table.first_table.FirstCode.{FirstCode}
use Rattle.jbig2_coder.specs.PrefixCode.{Reads}
use Rattle.jbig2_coder.specs.inner.PrefixLevels.{walk_of}
use Rattle.jbig2_coder.proofs.FirstLemmas.{first-found, first-longer, after-eight}
use Rattle.jbig2_coder.proofs.huffman_table.first_table.FirstTable.read_line.Goals as goal

pub bounds-self-byte : goal.bounds-self-byte
bounds-self-byte c = next-small 8 c.in-Some.byte c.args.reader.now c.in-Some.ensures

pub returns-then-code-gt0-clause-reads : goal.returns-then-code-gt0-clause-reads
returns-then-code-gt0-clause-reads c =
    let v = c.in-Some.byte in
    let p = c.args.reader.now in
    let q = c.advance.new.self in
    let lines = c.args.lines.now in
    let none : FirstCode = record { line = 0; length = 0 } in
    let x : TableLine = record { range_low = pos 0; prefix_length = 0; range_length = 0; is_lower = false; is_out_of_band = false } in
    let code : FirstCode = get_or c.args.self.now.codes v none in
    let small : v < 256 = next-small 8 v p c.in-Some.ensures in
    let line : c.from.result ≡ code.line = c.from.ensures in
    let P : ℕ → Type 0 = λ n. Reads p q (Ok (get_or lines n x)) (walk_of lines c.args.levels.now 0 (bits_left p)) in
    subst P (sym line)
    (first-found lines c.args.levels.now v code x p q c.in-Some.ensures (c.requires.first.right v none small c.if-code-gt0.true) c.advance.ensures.place c.advance.ensures.rest)

pub returns-then-byte-self-2-clause-reads : goal.returns-then-byte-self-2-clause-reads
returns-then-byte-self-2-clause-reads c =
    let v = c.in-Some.byte in
    let p = c.args.reader.now in
    let q = c.advance-then-byte-self-2.new.self in
    let r = c.read_line-then-byte-self-2.new.reader in
    let a = c.read_line-then-byte-self-2.result in
    let lines = c.args.lines.now in
    let levels = c.args.levels.now in
    let none : Level = record { first = 0; count = 0; nodes = 0 } in
    let from = c.args.self.now.longer in
    let small : v < 256 = next-small 8 v p c.in-Some.ensures in
    let deep = after-eight lines levels none c.requires.levels (omega arith) in
    let all : take (length levels - 8) (drop 8 levels) ≡ drop 8 levels = take_all (length levels - 8) (drop 8 levels) (omega (arith, length-drop 8 levels)) in
    let P : List Level → Type 0 = λ vs. Reads q r a (walk_of lines vs (v - from) (bits_left q)) in
    first-longer lines levels v from a p q r c.in-Some.ensures small c.requires.first.longer c.if-byte-self.true (omega (arith, deep.0, c.if-byte-self-2.true)) c.advance-then-byte-self-2.ensures.place c.advance-then-byte-self-2.ensures.rest (subst P all c.read_line-then-byte-self-2.ensures.reads)
