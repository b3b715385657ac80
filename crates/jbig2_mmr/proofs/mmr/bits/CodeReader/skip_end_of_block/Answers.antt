use Rattle.std.proofs.Common.{◌≡◌, ℕ, false, List, ap, sym, ◌∙◌, arith}
use Rattle.std.proofs.lemmas.Bool.{eq-eqb, ne_eqb}
use Rattle.jbig2_mmr.specs.T6.{ends_block}
use Rattle.jbig2_mmr.specs.inner.T6Reading.{Rest}
use Rattle.jbig2_mmr.proofs.T6Bits.{IsWindow, end-short, end-is, end-after, end-none}
use Rattle.jbig2_mmr.proofs.mmr.bits.CodeReader.skip_end_of_block.Goals as goal
use Rattle.jbig2_mmr.proofs.mmr.bits.CodeReader.skip_end_of_block.Goals.{then-few-lt24-via-then-few-lt24, then-few-lt24-via-else-few-lt24+then-window-ne4097}

pub returns-then-few-lt24-clause-value : goal.returns-then-few-lt24-clause-value
returns-then-few-lt24-clause-value c =
    elim c.then-few-lt24.branch [
      | then-few-lt24-via-then-few-lt24 w ↦ sym (end-short c.args.self.now.left (omega (arith, c.few.ensures, w.if-few-lt24.true)))
      | then-few-lt24-via-else-few-lt24+then-window-ne4097 w ↦
          let known : IsWindow w.window.result c.few.result c.args.self.now.left = record { few_is = c.few.ensures; value = w.window.ensures.value; are = w.window.ensures.bits } in
          sym (end-is w.window.result c.few.result c.args.self.now.left known w.if-few-lt24.false ∙ ne_eqb w.window.result 0x001001 w.if-window-ne4097.true)
    ]

pub returns-then-few-lt24-clause-rest : goal.returns-then-few-lt24-clause-rest
returns-then-few-lt24-clause-rest c =
    let none : ends_block c.args.self.now.left ≡ false = sym (returns-then-few-lt24-clause-value c) in
    ap (λ (ys : List ℕ). let made : Rest = record { bytes = c.args.self.now.bytes; left = ys } in made) (sym (end-none c.args.self.now.left none))

pub returns-clause-value : goal.returns-clause-value
returns-clause-value c =
    let known : IsWindow c.window.result c.few.result c.args.self.now.left = record { few_is = c.few.ensures; value = c.window.ensures.value; are = c.window.ensures.bits } in
    sym (end-is c.window.result c.few.result c.args.self.now.left known c.if-few-lt24.false ∙ eq-eqb c.window.result 0x001001 c.if-window-ne4097.false)

pub returns-clause-rest : goal.returns-clause-rest
returns-clause-rest c =
    c.skip.ensures ∙ ap (λ (ys : List ℕ). let made : Rest = record { bytes = c.args.self.now.bytes; left = ys } in made) (sym (end-after c.args.self.now.left (sym (returns-clause-value c))))
