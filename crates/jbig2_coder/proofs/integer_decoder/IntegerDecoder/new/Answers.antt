use Rattle.std.proofs.Common.{Ok, sym, replicate, ap, ◌∙◌}
use Rattle.jbig2_coder.proofs.integer_decoder.IntegerDecoder.new.Goals as goal

pub returns : goal.returns
returns g c =
    let e = c.in_ok-contexts.ensures.items_if_clones_equal (λ y h. h) ∙ ap (replicate 512) c.new.ensures in
    λ i. Ok (sym e i)
