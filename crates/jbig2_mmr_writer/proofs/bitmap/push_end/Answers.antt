use Rattle.std.proofs.Common.{◌++◌, List, ℕ, [], append-nil, ap, sym, ◌∙◌}
use Rattle.std.proofs.lemmas.Bool.{cond-true, cond-false}
use Rattle.std.proofs.lemmas.Result.{on_ok_weaker}
use Rattle.jbig2_inverses.specs.Digits.{digits}
use Rattle.jbig2_mmr_writer.proofs.bitmap.push_end.Goals as goal

pub returns-then-end_of_block : goal.returns-then-end_of_block
returns-then-end_of_block g c =
    let none : List ℕ = [] in
    on_ok_weaker c.push.result
    (λ is. is ∙ ap (λ (t : List ℕ). c.args.writer.now ++ t) (sym (cond-true c.args.end_of_block (digits 24 0x001001) none c.if-end_of_block.true)))
    c.push.ensures

pub returns : goal.returns
returns g c =
    let none : List ℕ = [] in
    sym (append-nil c.args.writer.now) ∙ ap (λ (t : List ℕ). c.args.writer.now ++ t) (sym (cond-false c.args.end_of_block (digits 24 0x001001) none c.if-end_of_block.false))
