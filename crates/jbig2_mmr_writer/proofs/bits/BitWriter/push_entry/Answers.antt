use Rattle.std.proofs.Common.{ℕ, ◌/◌, ◌%◌, ◌^◌, ◌<◌, ◌++◌, sym, subst, ap, ◌∙◌}
use Rattle.std.proofs.lemmas.Result.{on_ok_weaker}
use Rattle.jbig2_inverses.specs.Digits.{digits}
use Rattle.jbig2_mmr_writer.proofs.bits.BitWriter.push_entry.Goals as goal

pub push-requires-clause-small : goal.push-requires-clause-small
push-requires-clause-small g c =
    subst (λ (n : ℕ). n < 2 ^ c.from-2.result) (sym c.from.ensures)
    (subst (λ (k : ℕ). c.args.entry / 16 < 2 ^ k) (sym c.from-2.ensures) c.requires)

pub returns : goal.returns
returns g c =
    on_ok_weaker c.push.result (λ is. is
    ∙ ap (λ (k : ℕ). c.args.self.now ++ digits k c.from.result) c.from-2.ensures
    ∙ ap (λ (n : ℕ). c.args.self.now ++ digits (c.args.entry % 16) n) c.from.ensures)
    c.push.ensures
