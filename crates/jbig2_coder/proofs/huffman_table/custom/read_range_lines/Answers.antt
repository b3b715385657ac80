use Rattle.std.proofs.Common.{rules, ◌≡◌, ℤ, true, ap, ◌∙◌, inr}
use Rattle.std.specs.Prelude.{int_lt}
use Rattle.std.specs.Int.{w32, cast_signed}
use mir.Val.{SFits}
use Rattle.std.proofs.lemmas.Int.{to_z-of_z}
use Rattle.std.proofs.lemmas.Result.{err_from_is_err_and}
use Rattle.jbig2_coder.proofs.CustomReading.{reads-none, reads-next, reads-refused}
use Rattle.jbig2_coder.proofs.huffman_table.custom.read_range_lines.Goals as goal

pub loop-low-init : goal.loop-low-init
loop-low-init g c =
    let fits : SFits w32 c.args.header.now.minimum = search rules in
    rw (to_z-of_z w32 c.args.header.now.minimum fits, c.new-lines.ensures.items) (reads-none c.args.header.now c.args.reader.now)

pub returns-in_err-line-clause-lines : goal.returns-in_err-line-clause-lines
returns-in_err-line-clause-lines g c =
    let h = c.args.header.now in
    let low : ℤ = cast_signed w32 c.loop-low.low-bits in
    let test : int_lt c.loop-low.low h.maximum ≡ true = search rules in
    let below : int_lt low h.maximum ≡ true = ap (λ (n : ℤ). int_lt n h.maximum) c.loop-low.low-is ∙ test in
    let p = err_from_is_err_and c.from_residual.result c.from_residual.ensures.1 in
    rw (p.1, p.2)
    (inr (reads-refused h c.args.reader.now low c.loop-low.lines.items c.in_err-line.field-0.0 c.loop-low.reader c.read_range_line.new.reader c.loop-low.invariant below
    c.in_err-line.ensures.line))

pub loop-low-preserved : goal.loop-low-preserved
loop-low-preserved g c =
    let h = c.args.header.now in
    let low : ℤ = cast_signed w32 c.loop-low.low-bits in
    let test : int_lt c.loop-low.low h.maximum ≡ true = search rules in
    let below : int_lt low h.maximum ≡ true = ap (λ (n : ℤ). int_lt n h.maximum) c.loop-low.low-is ∙ test in
    let fits : SFits w32 c.in_ok-line.next = search rules in
    rw (to_z-of_z w32 c.in_ok-line.next fits)
    (reads-next h c.args.reader.now low c.in_ok-line.next c.loop-low.lines.items c.push.new.self.items c.in_ok-line.line c.loop-low.reader c.read_range_line.new.reader c.loop-low.invariant below
    c.in_ok-line.ensures.line
    c.in_ok-line.ensures.shorter c.in_ok-line.ensures.short c.in_ok-push.ensures.items)
