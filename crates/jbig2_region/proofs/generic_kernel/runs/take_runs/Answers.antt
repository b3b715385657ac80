use Rattle.std.proofs.Common.{arith, min, get_or, length, ◌≡◌, ◌-◌, ◌*◌, ◌+◌, ◌∙◌, ℕ, true, false, sym, ap, subst}
use Rattle.std.proofs.lemmas.Bool.{and_right}
use Rattle.std.proofs.lemmas.List.{get_or_default}
use Rattle.jbig2_coder.specs.Coder.{Coder, Context, Registers, fresh, all_quiet}
use Rattle.jbig2_coder.specs.QeTable.{qe_row}
use Rattle.jbig2_region.specs.inner.Neighbours.{nominal_pixels}
use Rattle.jbig2_base.specs.Grid.{same_colour}
use Rattle.jbig2_region.specs.Steps.{all_of}
use Rattle.jbig2_region.proofs.GroupLemmas.{group-stays}
use Rattle.jbig2_region.proofs.RunLemmas.{run-made, run-of, run-parts, uniform-number, not-staying, and-middle}
use Rattle.jbig2_region.proofs.RunSteps.{no-fall}
use Rattle.jbig2_region.proofs.generic_kernel.runs.take_runs.Goals as goal

pub returns-then-staying-eq0-clause-none : goal.returns-then-staying-eq0-clause-none
returns-then-staying-eq0-clause-none g c = λ w h x y r grid len within above shows before has_decoded zero.
    not-staying c.args.neighbours c.args.black c.args.left c.args.windows.first w h x y (8 * min c.args.most 4 + 12) r grid c.args.decoder.now c.args.contexts.now (c.staying_bytes-staying.ensures.none c.if-staying-eq0.true) c.requires.near (omega arith) len (omega arith) above shows.first before has_decoded

pub returns-then-staying-eq0-clause-coder : goal.returns-then-staying-eq0-clause-coder
returns-then-staying-eq0-clause-coder g c =
    ap (λ (q : Registers). let d : Coder = record { bytes = c.args.decoder.now.bytes; registers = q } in d) (no-fall c.args.decoder.now.registers (qe_row (get_or c.args.contexts.now (all_of (nominal_pixels c.args.neighbours) c.args.black) fresh).row).qe)

pub returns-then-not-same_colour-clause-none : goal.returns-then-not-same_colour-clause-none
returns-then-not-same_colour-clause-none g c = λ w h x y r grid len within above shows before has_decoded zero.
    let number : c.uniform_context-number.result ≡ all_of (nominal_pixels c.args.neighbours) c.args.black = c.uniform_context-number.ensures.value ∙ uniform-number c.args.neighbours (length c.args.contexts.now) c.args.black c.requires.contexts in
    let read : c.index-contexts-number.result ≡ get_or c.args.contexts.now (all_of (nominal_pixels c.args.neighbours) c.args.black) fresh =
    c.index-contexts-number.is ∙ get_or_default c.args.contexts.now c.uniform_context-number.result c.index-contexts-number.result fresh c.uniform_context-number.ensures.inside ∙ ap (λ (n : ℕ). get_or c.args.contexts.now n fresh) number in
    run-of (nominal_pixels c.args.neighbours) w h c.args.decoder.now.bytes r c.args.black
    ∙ run-parts c.args.neighbours 8 c.args.black c.args.left c.args.windows.first w h x y (8 * min c.args.most 4 + 12) r grid c.args.decoder.now c.args.contexts.now c.requires.near (omega arith) (omega arith) len (omega arith) above shows.first before has_decoded
    ∙ and-middle _ _ _ (subst (λ (q : Context). same_colour c.args.black q.likely ≡ false) read (sym (c.same_colour.ensures ∙ ap (λ b. same_colour c.args.black b) c.likely_symbol.ensures) ∙ c.if-not-same_colour.true))

pub returns-then-not-same_colour-clause-coder : goal.returns-then-not-same_colour-clause-coder
returns-then-not-same_colour-clause-coder g c =
    ap (λ (q : Registers). let d : Coder = record { bytes = c.args.decoder.now.bytes; registers = q } in d) (no-fall c.args.decoder.now.registers (qe_row (get_or c.args.contexts.now (all_of (nominal_pixels c.args.neighbours) c.args.black) fresh).row).qe)

pub returns-clause-none : goal.returns-clause-none
returns-clause-none g c = λ w h x y r grid len within above shows before has_decoded zero.
    let number : c.uniform_context-number.result ≡ all_of (nominal_pixels c.args.neighbours) c.args.black = c.uniform_context-number.ensures.value ∙ uniform-number c.args.neighbours (length c.args.contexts.now) c.args.black c.requires.contexts in
    let read : c.index-contexts-number.result ≡ get_or c.args.contexts.now (all_of (nominal_pixels c.args.neighbours) c.args.black) fresh =
    c.index-contexts-number.is ∙ get_or_default c.args.contexts.now c.uniform_context-number.result c.index-contexts-number.result fresh c.uniform_context-number.ensures.inside ∙ ap (λ (n : ℕ). get_or c.args.contexts.now n fresh) number in
    let loud : all_quiet 8 c.args.decoder.now.bytes c.args.decoder.now.registers c.index-contexts-number.result ≡ false =
    ap (λ (n : ℕ). all_quiet (8 * (n + 1)) c.args.decoder.now.bytes c.args.decoder.now.registers c.index-contexts-number.result) (sym zero) ∙ c.decode_mps_runs.ensures.last (omega (arith, zero, c.if-staying-eq0.false)) in
    run-of (nominal_pixels c.args.neighbours) w h c.args.decoder.now.bytes r c.args.black
    ∙ run-parts c.args.neighbours 8 c.args.black c.args.left c.args.windows.first w h x y (8 * min c.args.most 4 + 12) r grid c.args.decoder.now c.args.contexts.now c.requires.near (omega arith) (omega arith) len (omega arith) above shows.first before has_decoded
    ∙ and_right _ _ (and_right _ _ (subst (λ (q : Context). all_quiet 8 c.args.decoder.now.bytes c.args.decoder.now.registers q ≡ false) read loud))

pub returns-clause-run : goal.returns-clause-run
returns-clause-run g c = λ w h x y r grid len within above shows before has_decoded some.
    let number : c.uniform_context-number.result ≡ all_of (nominal_pixels c.args.neighbours) c.args.black = c.uniform_context-number.ensures.value ∙ uniform-number c.args.neighbours (length c.args.contexts.now) c.args.black c.requires.contexts in
    let read : c.index-contexts-number.result ≡ get_or c.args.contexts.now (all_of (nominal_pixels c.args.neighbours) c.args.black) fresh =
    c.index-contexts-number.is ∙ get_or_default c.args.contexts.now c.uniform_context-number.result c.index-contexts-number.result fresh c.uniform_context-number.ensures.inside ∙ ap (λ (n : ℕ). get_or c.args.contexts.now n fresh) number in
    run-made c.args.neighbours (8 * c.decode_mps_runs.result) (8 * c.staying_bytes-staying.result) c.args.black w h r grid c.args.decoder.now c.args.contexts.now (omega arith) has_decoded
    (group-stays c.args.neighbours c.args.black c.args.left c.args.most c.staying_bytes-staying.result c.args.windows w h x y r grid c.args.decoder.now c.args.contexts.now c.requires.near (omega (arith, c.if-staying-eq0.false)) c.staying_bytes-staying.ensures.most len within above shows before has_decoded
    (c.staying_bytes-staying.ensures.stay (omega (arith, c.if-staying-eq0.false))) c.staying_bytes-staying.ensures.eight)
    (subst (λ (q : Context). same_colour c.args.black q.likely ≡ true) read (sym (c.same_colour.ensures ∙ ap (λ b. same_colour c.args.black b) c.likely_symbol.ensures) ∙ c.if-not-same_colour.false))
    (subst (λ (q : Context). all_quiet (8 * c.decode_mps_runs.result) c.args.decoder.now.bytes c.args.decoder.now.registers q ≡ true) read c.decode_mps_runs.ensures.quiet)

pub returns-clause-coder : goal.returns-clause-coder
returns-clause-coder g c =
    let number : c.uniform_context-number.result ≡ all_of (nominal_pixels c.args.neighbours) c.args.black = c.uniform_context-number.ensures.value ∙ uniform-number c.args.neighbours (length c.args.contexts.now) c.args.black c.requires.contexts in
    let read : c.index-contexts-number.result ≡ get_or c.args.contexts.now (all_of (nominal_pixels c.args.neighbours) c.args.black) fresh =
    c.index-contexts-number.is ∙ get_or_default c.args.contexts.now c.uniform_context-number.result c.index-contexts-number.result fresh c.uniform_context-number.ensures.inside ∙ ap (λ (n : ℕ). get_or c.args.contexts.now n fresh) number in
    subst (λ (q : Context). c.decode_mps_runs.new.self ≡ record c.args.decoder.now { registers = record c.args.decoder.now.registers { a = c.args.decoder.now.registers.a - 8 * c.decode_mps_runs.result * (qe_row q.row).qe } }) read c.decode_mps_runs.ensures.coder
