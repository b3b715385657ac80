use Rattle.std.proofs.Common.{◌≡◌, ℕ, ◌*◌, ◌∙◌, ap, length, arith}
use Rattle.jbig2_steps.specs.Work.{price_of_bitmap, budget}
use Rattle.jbig2_page.proofs.Paying.{cells-taken}
use Rattle.jbig2_coder.specs.CodeLength.{code_length}
use Rattle.jbig2_page.proofs.region.cell_price.pay_cells.Goals as goal

pub returns-clause-taken : goal.returns-clause-taken
returns-clause-taken g c =
    let grid = c.args.header.now.grid_position_and_size in
    let patterns = c.args.patterns.now in
    let size : c.len.result ≡ length patterns.patterns.items = omega (arith, c.len.ensures, patterns.patterns.ok.0) in
    let planes : c.from-planes.result ≡ code_length (length patterns.patterns.items) = c.from-planes.ensures ∙ c.code_length.ensures.value ∙ ap (λ (n : ℕ). code_length n) size in
    let cells : c.from.result * c.from-2.result ≡ grid.width * grid.height = ap (λ (n : ℕ). n * c.from-2.result) c.from.ensures ∙ ap (λ (n : ℕ). grid.width * n) c.from-2.ensures in
    cells-taken (budget c.args.work.now) (budget c.pay_bitmaps.new.self) (budget c.pay_bitmaps-2.new.self) (budget c.pay.new.self) (price_of_bitmap grid.width grid.height) (code_length (length patterns.patterns.items)) c.from-planes.result (price_of_bitmap patterns.pattern_width patterns.pattern_height) (c.from.result * c.from-2.result) (grid.width * grid.height) _ planes cells c.in_ok-pay_bitmaps.ensures.taken c.in_ok-pay_bitmaps-2.ensures.taken c.in_ok-pay.ensures.taken
