use Rattle.std.proofs.Common.{ℕ, ◌+◌, ◌-◌, ◌<◌, ◌∙◌, ap, List, get_or, drop, arith}
use Rattle.std.proofs.lemmas.List.{get_or-take, get_or-drop}
use Rattle.jbig2_base.proofs.bitmap.rows.words.PackedWords.row.Goals as goal

pub returns-clause-each : goal.returns-clause-each
returns-clause-each g c = λ i within.
    let row = c.args.row in
    let words = c.deref.result.now in
    let count : ℕ = row.first + row.stride - row.first in
    let short : i < count = omega (arith, within) in
    rw (← c.self.view_is)
    (get_or-take count (drop row.first words) i 0 short ∙ get_or-drop row.first words i 0
    ∙ ap (λ (xs : List ℕ). get_or xs (row.first + i) 0) c.deref.ensures.value)
