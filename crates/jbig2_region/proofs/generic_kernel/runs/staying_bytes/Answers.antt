use Rattle.std.proofs.Common.{arith, refl, ◌≡◌, ◌∙◌}
use Rattle.std.specs.Int.RustNames.{bit_or}
use Rattle.std.proofs.lemmas.Bool.{and_from, eq-eqb, lt-ltb}
use Rattle.std.proofs.lemmas.Nat.{le_or_l, le_or_r}
use Rattle.jbig2_region.proofs.UnlikeLemmas.{parts-unlike}
use Rattle.jbig2_region.proofs.generic_kernel.runs.staying_bytes.Goals as goal

pub returns-then-first-second-eq0-clause-stay : goal.returns-then-first-second-eq0-clause-stay
returns-then-first-second-eq0-clause-stay c = λ some.
    let none : bit_or (bit_or c.unlike_near-above.result c.unlike_near-top.result) c.unlike_left-beside.result ≡ 0 = omega (arith, c.if-above-top-ne0.false) in
    and_from _ _
    (c.unlike_left-beside.ensures ∙ eq-eqb _ 0 (omega (arith, none, le_or_r (bit_or c.unlike_near-above.result c.unlike_near-top.result) c.unlike_left-beside.result)))
    (c.unlike_stretches-first.ensures 32 (omega arith) ∙ lt-ltb _ _ (omega (arith, c.if-first-second-eq0.true, le_or_l c.unlike_stretches-first.result c.unlike_stretches-second.result)))

pub returns-then-first-second-eq0-clause-eight : goal.returns-then-first-second-eq0-clause-eight
returns-then-first-second-eq0-clause-eight c = λ more.
    let none : bit_or (bit_or c.unlike_near-above.result c.unlike_near-top.result) c.unlike_left-beside.result ≡ 0 = omega (arith, c.if-above-top-ne0.false) in (
      refl,
      and_from _ _
          (c.unlike_left-beside.ensures ∙ eq-eqb _ 0 (omega (arith, none, le_or_r (bit_or c.unlike_near-above.result c.unlike_near-top.result) c.unlike_left-beside.result)))
          (c.unlike_stretches-second.ensures 32 (omega arith) ∙ lt-ltb _ _ (omega (arith, c.if-first-second-eq0.true, le_or_r c.unlike_stretches-first.result c.unlike_stretches-second.result))),
    )

pub returns-else-first-second-eq0-clause-stay : goal.returns-else-first-second-eq0-clause-stay
returns-else-first-second-eq0-clause-stay c = λ some.
    let none : bit_or (bit_or c.unlike_near-above.result c.unlike_near-top.result) c.unlike_left-beside.result ≡ 0 = omega (arith, c.if-above-top-ne0.false) in
    parts-unlike _ _ _ _ _ _ c.unlike_left-beside.ensures c.unlike_near-above.ensures c.unlike_near-top.ensures ∙ eq-eqb _ 0 none

pub returns-else-most-eq8-clause-stay : goal.returns-else-most-eq8-clause-stay
returns-else-most-eq8-clause-stay c = λ some.
    let none : bit_or (bit_or c.unlike_near-above.result c.unlike_near-top.result) c.unlike_left-beside.result ≡ 0 = omega (arith, c.if-above-top-ne0.false) in
    parts-unlike _ _ _ _ _ _ c.unlike_left-beside.ensures c.unlike_near-above.ensures c.unlike_near-top.ensures ∙ eq-eqb _ 0 none
