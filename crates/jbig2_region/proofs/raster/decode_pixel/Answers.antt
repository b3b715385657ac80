use Rattle.std.proofs.Common.{◌+◌, rules, arith, length, get_or, ◌≡◌, ◌<◌, Bool, Some, None, ap, sym, refl, ◌∙◌}
use Rattle.std.proofs.lemmas.List.{get_or_default}
use Rattle.jbig2_base.specs.Counts.{Counts}
use Rattle.jbig2_base.specs.Grid.{Grid}
use Rattle.jbig2_base.specs.Writes.{with_pixel}
use Rattle.jbig2_coder.specs.Coder.{Coder, fresh}
use Rattle.jbig2_region.proofs.DecodedPixelLemmas.{pixel-known, pixel-decided, pixel-counts}
use Rattle.jbig2_region.proofs.RasterLemmas.{digit-colour}
use Rattle.jbig2_region.specs.inner.DecodedPixels.{rest_of}
use Rattle.jbig2_region.proofs.raster.decode_pixel.Goals as goal

pub returns-in-Some-clause-decoded : goal.returns-in-Some-clause-decoded
returns-in-Some-clause-decoded g c =
    let same : c.set_pixel.new.steps.decisions ≡ c.args.steps.now.decisions = ap (λ (t : Counts). t.decisions) c.set_pixel.ensures.steps ∙ ap (λ (t : Counts). t.decisions) c.known_colour.ensures.steps in
    record {
      has_decoded = pixel-known (g.C.PixelCoding.coding c.args.coding.now) c.args.row.predicted c.args.x c.args.row.y c.args.bitmap.now c.set_pixel.new.self c.args.decoder.now c.args.contexts.now c.in-Some.colour c.requires.column c.requires.row (sym c.known_colour.ensures.value ∙ c.in-Some.is) c.set_pixel.ensures.value;
      width = ap (λ (b : Grid). b.width) c.set_pixel.ensures.value;
      height = ap (λ (b : Grid). b.height) c.set_pixel.ensures.value;
      bytes = refl;
      decisions = pixel-counts (g.C.PixelCoding.coding c.args.coding.now) c.args.row.predicted c.args.x c.args.row.y c.args.bitmap.now c.args.decoder.now c.args.contexts.now (Some c.in-Some.colour) c.args.steps.now.decisions c.set_pixel.new.steps.decisions c.requires.column c.requires.row (sym c.known_colour.ensures.value ∙ c.in-Some.is) (omega arith);
      rest = ap (λ (t : Counts). rest_of t) c.set_pixel.ensures.steps ∙ ap (λ (t : Counts). rest_of t) c.known_colour.ensures.steps;
    }

pub returns-clause-decoded : goal.returns-clause-decoded
returns-clause-decoded g c =
    let inside : c.context-context.result < length c.args.contexts.now = omega (arith, c.context-context.ensures.small, c.requires.contexts) in
    let stored : c.set_pixel-2.new.steps.decisions ≡ c.decode-symbol.new.steps.decisions = ap (λ (t : Counts). t.decisions) c.set_pixel-2.ensures.steps in
    let decided : c.decode-symbol.new.steps.decisions ≡ c.context-context.new.steps.decisions + 1 = ap (λ (t : Counts). t.decisions) c.decode-symbol.ensures.steps in
    let read : c.context-context.new.steps.decisions ≡ c.known_colour.new.steps.decisions = ap (λ (t : Counts). t.decisions) c.context-context.ensures.steps in
    let asked : c.known_colour.new.steps.decisions ≡ c.args.steps.now.decisions = ap (λ (t : Counts). t.decisions) c.known_colour.ensures.steps in
    record {
      has_decoded =
          pixel-decided (g.C.PixelCoding.coding c.args.coding.now) c.args.row.predicted c.args.x c.args.row.y c.context-context.result c.args.bitmap.now c.set_pixel-2.new.self c.args.decoder.now c.decode-symbol.new.self c.args.contexts.now (get_or c.args.contexts.now c.context-context.result c.index-contexts-context.result) c.decode-symbol.new.context c.requires.column c.requires.row
          (search rules) c.context-context.ensures.value
          (get_or_default c.args.contexts.now c.context-context.result c.index-contexts-context.result fresh inside)
          (c.set_pixel-2.ensures.value ∙ ap (λ (b : Bool). with_pixel c.args.bitmap.now c.args.x c.args.row.y b) (digit-colour _ _ c.decode-symbol.ensures.value))
          c.decode-symbol.ensures.coder c.decode-symbol.ensures.context;
      width = ap (λ (b : Grid). b.width) c.set_pixel-2.ensures.value;
      height = ap (λ (b : Grid). b.height) c.set_pixel-2.ensures.value;
      bytes = ap (λ (d : Coder). d.bytes) c.decode-symbol.ensures.coder;
      decisions = pixel-counts (g.C.PixelCoding.coding c.args.coding.now) c.args.row.predicted c.args.x c.args.row.y c.args.bitmap.now c.args.decoder.now c.args.contexts.now None c.args.steps.now.decisions c.set_pixel-2.new.steps.decisions c.requires.column c.requires.row (search rules) (omega arith);
      rest = ap (λ (t : Counts). rest_of t) c.set_pixel-2.ensures.steps ∙ ap (λ (t : Counts). rest_of t) c.decode-symbol.ensures.steps ∙ ap (λ (t : Counts). rest_of t) c.context-context.ensures.steps ∙ ap (λ (t : Counts). rest_of t) c.known_colour.ensures.steps;
    }
