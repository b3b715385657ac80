use Rattle.std.proofs.Common.{◌≡◌, ◌+◌, ◌-◌, [], ◌∷◌, take, drop, ◌∙◌, arith}
use Rattle.jbig2_base.specs.Grid.{pixel_at}
use Rattle.jbig2_page.specs.Calls.{Pixel, row_of_grid, singles}
use Rattle.jbig2_page.proofs.Runs.{loaded-pixel, singles-first}
use Rattle.jbig2_page.proofs.Sending.{goes_on, one_stops, stops_at}
use Rattle.jbig2_page.proofs.page.calls.push_pixels.Goals as goal

pub returns-in-Err-clause-calls : goal.returns-in-Err-clause-calls
returns-in-Err-clause-calls g c =
    let grid = c.args.bitmap.now in
    let x = c.loop-column.column in
    let black : c.pixel_of-black.result ≡ pixel_at grid x c.args.y =
    c.pixel_of-black.ensures ∙ loaded-pixel grid c.args.x c.args.y c.max-count.result x c.load_pixels-pixels.result (omega arith) (omega arith) c.load_pixels-pixels.ensures.bits in
    stops_at g.D.Decoder.conduct (singles (take (c.args.end - (x + 1)) (drop (x + 1) (row_of_grid grid c.args.y)))) (singles-first grid x c.args.end c.args.y c.pixel_of-black.result c.loop-column-test.true c.requires.inside black) c.loop-column.invariant.sent
    (one_stops g.D.Decoder.conduct (Pixel c.pixel_of-black.result) c.in-Err.error c.loop-column.decoder c.push_pixel.new.self c.in-Err.ensures)

pub loop-column-preserved : goal.loop-column-preserved
loop-column-preserved g c =
    let grid = c.args.bitmap.now in
    let x = c.loop-column.column in
    let black : c.pixel_of-black.result ≡ pixel_at grid x c.args.y =
    c.pixel_of-black.ensures ∙ loaded-pixel grid c.args.x c.args.y c.max-count.result x c.load_pixels-pixels.result (omega arith) (omega arith) c.load_pixels-pixels.ensures.bits in
    record {
      sent = goes_on g.D.Decoder.conduct (Pixel c.pixel_of-black.result ∷ []) (singles-first grid x c.args.end c.args.y c.pixel_of-black.result c.loop-column-test.true c.requires.inside black) c.loop-column.invariant.sent c.in-Ok.ensures;
    }
