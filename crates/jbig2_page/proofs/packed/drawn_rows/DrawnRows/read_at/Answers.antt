use Rattle.std.proofs.Common.{◌≡◌, ◌+◌, ◌∙◌, ℕ, List, ap, sym, length, take, drop, replicate, arith}
use Rattle.jbig2_base.specs.Grid.{Grid}
use Rattle.jbig2_page.specs.Image.{packed_part, packed_size}
use Rattle.jbig2_page.proofs.PackedRows.{packed-length, part-of-whole, rows-bounded, white-part}
use Rattle.jbig2_page.proofs.packed.drawn_rows.DrawnRows.read_at.Goals as goal

pub write_packed-requires : goal.write_packed-requires
write_packed-requires g c =
    let w = c.self.inside.width in
    let h = c.self.inside.height in
    let whole : length c.args.self.now ≡ packed_size w h = sym (ap (λ (xs : List ℕ). length xs) c.self.view_is) ∙ packed-length w h c.self.inside.bitmap.now in
    rows-bounded w h (c.args.place + length c.args.buf.now) c.self.invariant.0 (omega (arith, c.requires, whole))

pub returns-clause-bytes : goal.returns-clause-bytes
returns-clause-bytes g c =
    let w = c.self.inside.width in
    let h = c.self.inside.height in
    let whole : length c.args.self.now ≡ packed_size w h = sym (ap (λ (xs : List ℕ). length xs) c.self.view_is) ∙ packed-length w h c.self.inside.bitmap.now in
    c.write_packed.ensures.value
    ∙ part-of-whole w h c.self.inside.bitmap.now c.args.place (length c.args.buf.now) (omega (arith, c.requires, whole))
    ∙ ap (λ (xs : List ℕ). take (length c.args.buf.now) (drop c.args.place xs)) c.self.view_is

pub returns-then-self-clause-bytes : goal.returns-then-self-clause-bytes
returns-then-self-clause-bytes g c =
    let w = c.self.inside.width in
    let h = c.self.inside.height in
    let page : Grid = c.self.inside.bitmap.now in
    let bytes : ℕ = length c.args.buf.now in
    let whole : length c.args.self.now ≡ packed_size w h = sym (ap (λ (xs : List ℕ). length xs) c.self.view_is) ∙ packed-length w h page in
    let filled : c.fill.new.self ≡ replicate bytes 0 = c.fill.ensures.after (λ v e. e) in
    let white : packed_part w page c.args.place bytes ≡ replicate bytes 0 = white-part w page c.args.place bytes (c.self.invariant.1 c.if-self.true) in
    filled
    ∙ sym white
    ∙ part-of-whole w h page c.args.place bytes (omega (arith, c.requires, whole))
    ∙ ap (λ (xs : List ℕ). take bytes (drop c.args.place xs)) c.self.view_is
