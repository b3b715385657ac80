use Rattle.std.proofs.Common.{ℕ, List, Bool, true, false, ◌∙◌, ap}
use Rattle.jbig2_base.specs.Grid.{pixel_at}
use Rattle.jbig2_page.specs.Calls.{is_all}
use Rattle.jbig2_page.proofs.Runs.{byte-is, byte-is_not, row-part}
use Rattle.jbig2_page.proofs.page.calls.byte_colour.Goals as goal

pub returns-then-pixels-eq255-clause-colour : goal.returns-then-pixels-eq255-clause-colour
returns-then-pixels-eq255-clause-colour g c =
    ap (λ (bs : List Bool). is_all true bs) (row-part c.args.bitmap.now c.args.x c.args.y 8 c.requires)
    ∙ byte-is true (λ i. pixel_at c.args.bitmap.now i c.args.y) c.args.x c.load_pixels-pixels.result c.load_pixels-pixels.ensures.bound c.load_pixels-pixels.ensures.bits c.if-pixels-eq255.true

pub returns-then-pixels-eq0-clause-colour : goal.returns-then-pixels-eq0-clause-colour
returns-then-pixels-eq0-clause-colour g c =
    ap (λ (bs : List Bool). is_all false bs) (row-part c.args.bitmap.now c.args.x c.args.y 8 c.requires)
    ∙ byte-is false (λ i. pixel_at c.args.bitmap.now i c.args.y) c.args.x c.load_pixels-pixels.result c.load_pixels-pixels.ensures.bound c.load_pixels-pixels.ensures.bits c.if-pixels-eq0.true

pub returns-clause-colour : goal.returns-clause-colour
returns-clause-colour g c =
    let pixels : ℕ → Bool = λ i. pixel_at c.args.bitmap.now i c.args.y in (
      ap (λ (bs : List Bool). is_all true bs) (row-part c.args.bitmap.now c.args.x c.args.y 8 c.requires)
          ∙ byte-is_not true pixels c.args.x c.load_pixels-pixels.result c.load_pixels-pixels.ensures.bound c.load_pixels-pixels.ensures.bits c.if-pixels-eq255.false,
      ap (λ (bs : List Bool). is_all false bs) (row-part c.args.bitmap.now c.args.x c.args.y 8 c.requires)
          ∙ byte-is_not false pixels c.args.x c.load_pixels-pixels.result c.load_pixels-pixels.ensures.bound c.load_pixels-pixels.ensures.bits c.if-pixels-eq0.false,
    )
