use Rattle.std.proofs.Common.{Err, not, ◌&&◌, sym, ap, ◌∙◌}
use Rattle.jbig2_mmr.specs.T6.{rows_of}
use Rattle.jbig2_mmr.proofs.Causes.{mmr_cause}
use Rattle.jbig2_mmr.proofs.T6Decoding.{rows-refused, rows-taken}
use Rattle.jbig2_mmr.proofs.mmr.decode.Goals as goal
use Rattle.jbig2_mmr.proofs.mmr.decode.Goals.{else-strict-via-then-strict+else-not-read, else-strict-via-else-strict}

pub returns-then-not-read-clause-value : goal.returns-then-not-read-clause-value
returns-then-not-read-clause-value g c =
    rows-refused c.args.strict c.args.bitmap.now.width c.args.bitmap.now.height c.args.bytes.now c.if-strict.true (ap not (sym c.read_rows-read.ensures.whole) ∙ c.if-not-read.true) ∙ ap Err (sym c.into.ensures)

pub returns-then-not-read-clause-causes : goal.returns-then-not-read-clause-causes
returns-then-not-read-clause-causes g c =
    mmr_cause c.args.strict c.args.bitmap.now.width c.args.bitmap.now.height c.args.bytes.now _ (returns-then-not-read-clause-value g c)

pub returns-clause-value : goal.returns-clause-value
returns-clause-value g c =
    let missing = not (rows_of c.args.bitmap.now.width c.args.bitmap.now.height c.args.bytes.now).whole in
    rows-taken c.args.strict c.args.bitmap.now.width c.args.bitmap.now.height c.args.bytes.now c.read_rows-read.new.bitmap c.read_rows-read.result.used
    (elim c.else-strict.branch [
      | else-strict-via-then-strict+else-not-read w ↦ ap (λ b. b && missing) w.if-strict.true ∙ ap not (sym c.read_rows-read.ensures.whole) ∙ w.if-not-read.false
      | else-strict-via-else-strict w ↦ ap (λ b. b && missing) w.if-strict.false
    ])
    c.read_rows-read.ensures.grid c.read_rows-read.ensures.used

pub returns-clause-causes : goal.returns-clause-causes
returns-clause-causes g c = mmr_cause c.args.strict c.args.bitmap.now.width c.args.bitmap.now.height c.args.bytes.now _ tt
