use Rattle.std.proofs.Common.{not, ◌≡◌, ◌+◌, ◌*◌, ◌≤◌, arith}
use Rattle.std.proofs.lemmas.Result.{IfOk-weaker, on_err_weaker}
use Rattle.jbig2_mmr_writer.proofs.ModeLemmas.{adds-pass, adds-runs, adds-vertical, loads-passed, loads-searched, loads-vertical, place-ordered, seen, starts-at}
use Rattle.jbig2_mmr_writer.specs.inner.Entries.{word_of_entry}
use Rattle.jbig2_mmr_writer.specs.inner.Places.{AddsMode, horizontal_code, next_code}
use Rattle.jbig2_mmr_writer.proofs.row.push_mode.Goals as goal

pub returns-then-b2-a1-clause-mode : goal.returns-then-b2-a1-clause-mode
returns-then-b2-a1-clause-mode g c =
    let p = c.args.place in
    let looked = seen c.args.bitmap.now c.args.y c.args.above p c.width.result c.min-to.result c.find_b1-b1.result c.find_b2-b2.result c.width.ensures.value c.requires.place c.requires.column c.min-to.ensures c.find_b1-b1.ensures.value c.find_b2-b2.ensures.value in
    adds-pass c.args.bitmap.now c.args.y c.args.above p c.width.result c.min-to.result c.find_b1-b1.result c.find_b2-b2.result c.args.writer.now c.push_entry.new.self looked c.requires.place
    (omega (arith, c.find_b1-b1.ensures.forward, c.find_b2-b2.ensures.forward c.if-b2-a1.true)) c.if-b2-a1.true c.in_ok-push_entry.ensures

pub returns-then-b2-a1-clause-loads : goal.returns-then-b2-a1-clause-loads
returns-then-b2-a1-clause-loads g c =
    loads-passed c.args.steps.now.loads c.find_b1-b1.new.steps.loads c.find_b2-b2.new.steps.loads c.args.place.a0 c.args.place.a1 c.find_b1-b1.result c.find_b2-b2.result
    c.find_b1-b1.ensures.forward (c.find_b2-b2.ensures.forward c.if-b2-a1.true) c.find_b1-b1.ensures.loads c.find_b2-b2.ensures.loads

pub returns-then-abs_diff-le3-clause-mode : goal.returns-then-abs_diff-le3-clause-mode
returns-then-abs_diff-le3-clause-mode g c =
    let p = c.args.place in
    let looked = seen c.args.bitmap.now c.args.y c.args.above p c.width.result c.min-to.result c.find_b1-b1.result c.find_b2-b2.result c.width.ensures.value c.requires.place c.requires.column c.min-to.ensures c.find_b1-b1.ensures.value c.find_b2-b2.ensures.value in
    adds-vertical c.args.bitmap.now c.args.y c.args.above p c.width.result c.min-to.result c.find_b1-b1.result c.find_b2-b2.result c.place_at.result c.args.writer.now c.push_entry-then-abs_diff-le3.new.self (word_of_entry c.vertical_entry.result) looked
    (omega (arith, c.if-b2-a1.false)) (omega (arith, c.if-abs_diff-le3.true, c.abs_diff.ensures)) (omega (arith, c.if-abs_diff-le3.true, c.abs_diff.ensures))
    c.in_ok-push_entry-2.ensures c.vertical_entry.ensures.value c.place_at.ensures.head c.place_at.ensures.place

pub returns-then-abs_diff-le3-clause-loads : goal.returns-then-abs_diff-le3-clause-loads
returns-then-abs_diff-le3-clause-loads g c =
    let p = c.args.place in
    let order = place-ordered c.args.bitmap.now c.args.y p c.requires.place in
    let later = place-ordered c.args.bitmap.now c.args.y c.place_at.result c.place_at.ensures.place in
    let start : c.place_at.result.a0 ≡ p.a1 = starts-at c.place_at.result p.a1 (not p.black) c.place_at.ensures.head in
    let near : c.find_b1-b1.result ≤ p.a1 + 4 = omega (arith, c.find_b1-b1.ensures.within, c.min-to.ensures) in
    let searched = loads-searched c.args.steps.now.loads c.find_b1-b1.new.steps.loads c.find_b2-b2.new.steps.loads p.a0 p.a1 c.find_b1-b1.result c.find_b2-b2.result
    order.0 c.find_b1-b1.ensures.forward near c.find_b2-b2.ensures.within c.find_b1-b1.ensures.loads c.find_b2-b2.ensures.loads in
    let sum = loads-vertical c.args.steps.now.loads c.find_b2-b2.new.steps.loads c.place_at.new.steps.loads p.a0 p.a1 c.place_at.result.a1 (omega (arith, later.0, start)) searched c.place_at.ensures.loads in
    omega (arith, sum, start)

pub returns-clause-mode : goal.returns-clause-mode
returns-clause-mode g c =
    let p = c.args.place in
    let grid = c.args.bitmap.now in
    let looked = seen c.args.bitmap.now c.args.y c.args.above p c.width.result c.min-to.result c.find_b1-b1.result c.find_b2-b2.result c.width.ensures.value c.requires.place c.requires.column c.min-to.ensures c.find_b1-b1.ensures.value c.find_b2-b2.ensures.value in
    IfOk-weaker c.push_horizontal.result
    (λ next. AddsMode grid c.args.y (horizontal_code grid c.args.y p) c.args.writer.now c.push_horizontal.new.writer next)
    (λ next. AddsMode grid c.args.y (next_code grid c.args.y c.args.above p) c.args.writer.now c.push_horizontal.new.writer next)
    (λ next adds. adds-runs c.args.bitmap.now c.args.y c.args.above p c.width.result c.min-to.result c.find_b1-b1.result c.find_b2-b2.result next c.args.writer.now c.push_horizontal.new.writer looked
    (omega (arith, c.if-b2-a1.false)) (λ right left. omega (arith, right, left, c.if-abs_diff-le3.false, c.abs_diff.ensures)) adds)
    c.push_horizontal.ensures.mode

pub returns-clause-loads : goal.returns-clause-loads
returns-clause-loads g c =
    let p = c.args.place in
    let order = place-ordered c.args.bitmap.now c.args.y p c.requires.place in
    let near : c.find_b1-b1.result ≤ p.a1 + 4 = omega (arith, c.find_b1-b1.ensures.within, c.min-to.ensures) in
    let searched = loads-searched c.args.steps.now.loads c.find_b1-b1.new.steps.loads c.find_b2-b2.new.steps.loads p.a0 p.a1 c.find_b1-b1.result c.find_b2-b2.result
    order.0 c.find_b1-b1.ensures.forward near c.find_b2-b2.ensures.within c.find_b1-b1.ensures.loads c.find_b2-b2.ensures.loads in
    IfOk-weaker c.push_horizontal.result
    (λ next. c.push_horizontal.new.steps.loads + 2 * p.a1 ≤ c.find_b2-b2.new.steps.loads + (2 + next.a0 + next.a1))
    (λ next. c.push_horizontal.new.steps.loads + (p.a0 + p.a1) ≤ c.args.steps.now.loads + (5 + next.a0 + next.a1))
    (λ next bound. omega (arith, bound, searched))
    c.push_horizontal.ensures.loads

pub returns-clause-refused : goal.returns-clause-refused
returns-clause-refused g c =
    let p = c.args.place in
    let order = place-ordered c.args.bitmap.now c.args.y p c.requires.place in
    let near : c.find_b1-b1.result ≤ p.a1 + 4 = omega (arith, c.find_b1-b1.ensures.within, c.min-to.ensures) in
    let searched = loads-searched c.args.steps.now.loads c.find_b1-b1.new.steps.loads c.find_b2-b2.new.steps.loads p.a0 p.a1 c.find_b1-b1.result c.find_b2-b2.result
    order.0 c.find_b1-b1.ensures.forward near c.find_b2-b2.ensures.within c.find_b1-b1.ensures.loads c.find_b2-b2.ensures.loads in
    on_err_weaker c.push_horizontal.result (λ bound. omega (arith, bound, searched, order.1)) c.push_horizontal.ensures.refused
