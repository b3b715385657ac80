use Rattle.std.proofs.Common.{◌+◌, ◌*◌, ◌/◌, get_or, refl}
use Rattle.jbig2_base.proofs.WriteLemmas.{stored-grid, stored-packed}
use Rattle.jbig2_base.proofs.bitmap.rows.PackedRows.store_pixels.Goals as goal

pub invariant_of-self : goal.invariant_of-self
invariant_of-self g c =
    let s = c.self.inside in
    let x = c.args.x in
    let y = c.args.y in
    let n = c.args.count in
    let columns = rw (← c.self.view_is) at c.requires.columns in
    let row = rw (← c.self.view_is) at c.requires.row in
    let index = y * s.stride + x / 64 in
    rw c.write_field.ensures.value (stored-packed s.width s.height s.stride s.words x y n c.args.bits (get_or s.words index 0) (get_or c.write_field.new.self index 0) c.self.invariant refl c.requires.some columns row c.requires.one_word c.write_field.ensures.bits)

pub returns-clause-value : goal.returns-clause-value
returns-clause-value g c =
    let s = c.self.inside in
    let x = c.args.x in
    let y = c.args.y in
    let n = c.args.count in
    let columns = rw (← c.self.view_is) at c.requires.columns in
    let row = rw (← c.self.view_is) at c.requires.row in
    let index = y * s.stride + x / 64 in
    rw (← c.self.view_is, c.write_field.ensures.value)
    (stored-grid s.width s.height s.stride s.words x y n c.args.bits (get_or s.words index 0) (get_or c.write_field.new.self index 0) c.self.invariant refl c.requires.some columns row c.requires.one_word c.write_field.ensures.bits)
