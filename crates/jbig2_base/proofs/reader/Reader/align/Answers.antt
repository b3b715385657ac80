use Rattle.std.proofs.Common.{ℕ, List, ap, sym, ◌∙◌, nat_eq, drop}
use Rattle.std.proofs.lemmas.Bool.{cond-false, ne_eqb}
use Rattle.std.proofs.lemmas.List.{drop-drop}
use Rattle.jbig2_base.specs.Bits.{start_of}
use Rattle.jbig2_base.proofs.ReaderLemmas.{place_in}
use Rattle.jbig2_base.proofs.reader.Reader.align.Goals as goal

pub returns-then-self-ne0 : goal.returns-then-self-ne0
returns-then-self-ne0 c =
    let xs = c.self.inside.bytes.now in
    let i = c.self.inside.byte in
    rw (← c.self.view_is)
    (sym (cond-false (nat_eq c.self.inside.bit 0) (place_in xs i c.self.inside.bit) (start_of (drop 1 (drop i xs))) (ne_eqb c.self.inside.bit 0 c.if-self-ne0.true)
    ∙ ap (λ (ys : List ℕ). start_of ys) (drop-drop 1 i xs)))
