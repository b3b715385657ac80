use Rattle.std.proofs.Common.{◌≡◌, arith}
use Rattle.jbig2_mmr_writer.proofs.ModeLemmas.{adds-horizontal, loads-found, loads-runs, place-ordered, starts-at}
use Rattle.jbig2_mmr_writer.proofs.row.push_horizontal.Goals as goal

pub returns-clause-mode : goal.returns-clause-mode
returns-clause-mode g c =
    adds-horizontal c.args.bitmap.now c.args.y c.width.result c.find_colour-a2.result c.args.place c.place_at.result c.args.writer.now c.push_entry.new.self c.push_run.new.writer c.push_run-2.new.writer
    c.width.ensures.value c.requires c.find_colour-a2.ensures.value c.in_ok-push_entry.ensures c.in_ok-push_run.ensures c.in_ok-push_run-2.ensures c.place_at.ensures.head c.place_at.ensures.place

pub returns-clause-loads : goal.returns-clause-loads
returns-clause-loads g c =
    let start : c.place_at.result.a0 ≡ c.find_colour-a2.result = starts-at c.place_at.result c.find_colour-a2.result c.args.place.black c.place_at.ensures.head in
    let order = place-ordered c.args.bitmap.now c.args.y c.place_at.result c.place_at.ensures.place in
    let first = loads-found c.args.steps.now c.find_colour-a2.new.steps c.args.place.a1 c.width.result c.find_colour-a2.result c.find_colour-a2.ensures.steps in
    let sum = loads-runs c.args.steps.now.loads c.find_colour-a2.new.steps.loads c.place_at.new.steps.loads c.args.place.a1 c.find_colour-a2.result c.place_at.result.a1
    c.find_colour-a2.ensures.value.after (omega (arith, start, order.0)) first c.place_at.ensures.loads in
    omega (arith, sum, start)
