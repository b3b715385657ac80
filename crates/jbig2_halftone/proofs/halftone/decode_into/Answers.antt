use Rattle.std.proofs.Common.{◌≡◌, ◌+◌, ◌≤◌, List, ℕ, length, Err, inl, inr, ⊎_elim, sym, ap, ◌∙◌, arith}
use Rattle.jbig2_base.specs.declared.error.DecodeError.TheVariants.{OutOfMemory}
use Rattle.jbig2_halftone.specs.GrayScale.{gray_scale_image}
use Rattle.jbig2_halftone.specs.Halftone.{cells_drawn, gray_params, halftone_result}
use Rattle.jbig2_halftone.specs.HalftoneHeader.{HalftoneHeader}
use Rattle.jbig2_halftone.specs.inner.HalftoneHeaderViews.{header_view}
use Rattle.jbig2_halftone.specs.Patterns.{Patterns}
use Rattle.jbig2_halftone.specs.Steps.{cleared_by_cells}
use Rattle.jbig2_halftone.specs.inner.DictionaryViews.{dictionary_view}
use Rattle.jbig2_base.proofs.CauseSteps.{err-gives}
use Rattle.jbig2_halftone.proofs.CausesOfRegions.{halftone_cause}
use Rattle.jbig2_halftone.proofs.HalftoneLemmas.{answers-gives, leaves-known, memory-alone, refused-or, result-of-fault, result-of-values, values-sized}
use Rattle.jbig2_halftone.proofs.DrawSteps.{cells-stop, on-all, on-any, region-size, region-steps, region-stops}
use Rattle.jbig2_halftone.proofs.Prices.{halftone-paid, halftone-stops-paid}
use Rattle.jbig2_halftone.proofs.halftone.decode_into.Goals as goal

pub draw_rows-requires-clause-sized : goal.draw_rows-requires-clause-sized
draw_rows-requires-clause-sized g c =
    let h : HalftoneHeader = header_view c.args.header.now in
    ap (λ (vs : List ℕ). length vs) c.deref.ensures.value ∙ values-sized (gray_params h (dictionary_view c.args.dictionary.now)) h.bytes c.in-Ok.values.items c.in-Ok.ensures.value

pub draw_rows-requires-clause-region : goal.draw_rows-requires-clause-region
draw_rows-requires-clause-region g c = region-size _ _ _ c.args.bitmap.now c.requires.coloured

pub returns-in-Err-clause-value : goal.returns-in-Err-clause-value
returns-in-Err-clause-value g c =
    let h : HalftoneHeader = header_view c.args.header.now in
    let d : Patterns = dictionary_view c.args.dictionary.now in
    ⊎_elim
    (λ (memory : c.in-Err.error ≡ OutOfMemory). inl memory)
    (λ (fault : gray_scale_image (gray_params h d) h.bytes ≡ Err c.in-Err.error). inr (result-of-fault h d c.in-Err.error fault))
    c.in-Err.ensures.value

pub returns-in-Err-clause-stopped : goal.returns-in-Err-clause-stopped
returns-in-Err-clause-stopped g c = cells-stop (header_view c.args.header.now) (dictionary_view c.args.dictionary.now) c.args.steps.now c.read_cells.new.steps c.in-Err.ensures.stopped

pub returns-in-Err-clause-paid : goal.returns-in-Err-clause-paid
returns-in-Err-clause-paid g c = halftone-stops-paid (header_view c.args.header.now) (dictionary_view c.args.dictionary.now) c.args.steps.now c.read_cells.new.steps (returns-in-Err-clause-stopped g c) c.read_cells.ensures.most

pub returns-in-Err-clause-lenient : goal.returns-in-Err-clause-lenient
returns-in-Err-clause-lenient g c = λ lenient. memory-alone (λ (done : Unit {0}). c.args.bitmap.now) (Err c.in-Err.error) (header_view c.args.header.now) (dictionary_view c.args.dictionary.now) c.requires.columns c.requires.rows lenient (returns-in-Err-clause-value g c)

pub returns-in-Err-clause-causes : goal.returns-in-Err-clause-causes
returns-in-Err-clause-causes g c = halftone_cause (header_view c.args.header.now) (dictionary_view c.args.dictionary.now) _ (returns-in-Err-clause-value g c)

pub returns : goal.returns
returns g c =
    let h : HalftoneHeader = header_view c.args.header.now in
    let d : Patterns = dictionary_view c.args.dictionary.now in
    let made = result-of-values h d c.in-Ok.values.items c.in-Ok.ensures.value in
    let same = sym (ap (λ (vs : List ℕ). cells_drawn h d 0 vs c.args.bitmap.now) c.deref.ensures.value ∙ ap (λ b. cells_drawn h d 0 c.in-Ok.values.items b) c.requires.coloured) in
    let given = answers-gives (λ _. c.draw_rows.new.bitmap) c.draw_rows.result _ _ (made ∙ same) c.draw_rows.ensures.value in
    let steps = on-all c.draw_rows.result _ (region-steps h d c.args.steps.now c.read_cells.new.steps c.draw_rows.new.steps c.in-Ok.ensures.steps c.draw_rows.ensures.steps) in
    let stopped = on-any c.draw_rows.result _ (region-stops h d c.args.steps.now c.read_cells.new.steps c.draw_rows.new.steps c.in-Ok.ensures.steps c.draw_rows.ensures.steps) in
    let most : c.draw_rows.new.steps.cleared ≤ c.args.steps.now.cleared + cleared_by_cells h d = omega (arith, c.draw_rows.ensures.steps.cleared, c.read_cells.ensures.most) in
    record {
      value = given;
      bitmap = refused-or c.draw_rows.result _ _ c.draw_rows.ensures.refused;
      contexts = leaves-known c.draw_rows.result _ _ c.in-Ok.ensures.contexts;
      lenient = λ lenient. memory-alone (λ _. c.draw_rows.new.bitmap) c.draw_rows.result h d c.requires.columns c.requires.rows lenient given;
      causes = halftone_cause h d c.draw_rows.result (err-gives (λ _. c.draw_rows.new.bitmap) c.draw_rows.result (halftone_result h d) given);
      steps = steps;
      stopped = stopped;
      cleared = on-all c.draw_rows.result _ (c.draw_rows.ensures.steps.cleared ∙ c.in-Ok.ensures.cleared);
      most = most;
      paid = halftone-paid c.draw_rows.result h d c.args.steps.now c.draw_rows.new.steps steps stopped most;
    }
