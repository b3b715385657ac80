use Rattle.std.proofs.Common.{◌≡◌, ◌+◌, ◌++◌, length, drop}
use Rattle.jbig2_region.proofs.template.pixels.TemplatePixels.push_all.Given as goal

abbrev pub invariant-loop-place : goal.invariant-loop-place
invariant-loop-place l = record {
  count : length l.self ≡ length l.fn.self + l.place-index;
  rest : l.self ++ drop l.place-index l.places ≡ l.fn.self ++ l.places;
}
