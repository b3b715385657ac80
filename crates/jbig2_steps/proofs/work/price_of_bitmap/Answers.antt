use Rattle.std.proofs.Common.{◌≡◌, arith, rules}
use Rattle.std.proofs.lemmas.Grind.{common_steps}
use Rattle.jbig2_steps.specs.Work.{words_of_row}
use Rattle.jbig2_steps.proofs.WorkLemmas.{price-is, words-are}
use Rattle.jbig2_steps.proofs.work.price_of_bitmap.Goals as goal

pub returns : goal.returns
returns c =
    let words : c.from-row.result ≡ words_of_row c.args.width = first_of (omega (arith, words-are c.args.width), grind (arith, common_steps, words-are c.args.width)) in
    let rows : c.from.result ≡ c.args.height = search rules in
    price-is c.args.width c.args.height c.from-row.result c.from.result words rows
