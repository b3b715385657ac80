use Rattle.std.proofs.Common.{◌≡◌, rules}
use Rattle.jbig2_text.specs.inner.TextViews.{header_view}
use Rattle.jbig2_text.specs.TextRegion.{refining_of}
use Rattle.jbig2_text.specs.inner.TextViews.{params_view, symbols_view}
use Rattle.jbig2_text.proofs.RegionLemmas.{gives-part, region-is}
use Rattle.jbig2_text.proofs.decoding.decode_by.Goals as goal

pub returns-clause-value : goal.returns-clause-value
returns-clause-value g c =
    let h = header_view c.args.header.now in
    let r = g.R.ReadInstances in
    let refining : c.in_ok-refining.refining ≡ refining_of h = search rules in
    let is = region-is r.readings h (symbols_view c.args.symbols.now) c.args.bitmap.now (r.state c.args.readings.now) (params_view c.params_of-params.result) c.in_ok-refining.refining c.params_of-params.ensures refining in
    rw is (gives-part _ (λ y. y.0) _ _ c.draw_instances_by.ensures.value)
