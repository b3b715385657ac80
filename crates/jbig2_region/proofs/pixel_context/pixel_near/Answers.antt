use Rattle.std.proofs.Common.{rules, arith, ◌≡◌, pos, ◌+ℤ◌, to_z, of_z, w16, w32}
use Rattle.std.proofs.lemmas.Int.{ints}
use mir.Val.{SFits}
use Rattle.jbig2_region.proofs.pixel_context.pixel_near.Goals as goal

pub returns-clause-value : goal.returns-clause-value
returns-clause-value g c =
    let fits_x : SFits w16 c.args.place.x = search rules in
    let fits_y : SFits w16 c.args.place.y = search rules in
    let column : to_z w32 (of_z w32 (to_z w32 c.args.x +ℤ to_z w32 (of_z w32 c.from.result))) ≡ pos c.args.x +ℤ c.args.place.x = omega (arith, ints) in
    let row : to_z w32 (of_z w32 (to_z w32 c.args.y +ℤ to_z w32 (of_z w32 c.from-2.result))) ≡ pos c.args.y +ℤ c.args.place.y = omega (arith, ints) in
    let value = c.pixel_at.ensures.value in
    rw (column, row) at value
