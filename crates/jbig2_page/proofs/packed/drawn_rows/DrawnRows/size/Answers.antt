use Rattle.std.proofs.Common.{◌≡◌, ◌*◌, ◌∙◌, ℕ, List, ap, sym, length, arith}
use Rattle.jbig2_page.specs.Image.{packed_size}
use Rattle.jbig2_page.proofs.PackedRows.{packed-length}
use Rattle.jbig2_page.proofs.packed.drawn_rows.DrawnRows.size.Goals as goal

pub returns : goal.returns
returns g c =
    let w = c.self.inside.width in
    let h = c.self.inside.height in
    let size : c.div_ceil.result * h ≡ packed_size w h = grind (arith) in
    size ∙ sym (packed-length w h c.self.inside.bitmap.now) ∙ ap (λ (xs : List ℕ). length xs) c.self.view_is
