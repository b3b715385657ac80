use Rattle.std.proofs.Common.{◌+◌, ◌*◌, ◌/◌, ◌%◌, ◌<◌, ◌≤◌, ℕ, ◌∙◌, ◌≡◌, ap, length, arith}
use Rattle.std.proofs.lemmas.List.FromFn.{fill_by_all}
use Rattle.jbig2_base.specs.Grid.{pixel_at}
use Rattle.jbig2_page.specs.Image.{shade, image_of}
use Rattle.jbig2_base.specs.Counts.{Counts}
use Rattle.jbig2_steps.specs.Work.{sum_of_counts}
use Rattle.jbig2_page.proofs.Paying.{pixels-paid}
use Rattle.jbig2_page.proofs.Shades.{shades-more}
use Rattle.jbig2_page.proofs.page.image.write_image.Goals as goal

one-load : (old new : Counts) → new ≡ record old { loads = old.loads + 1 } → sum_of_counts new ≡ sum_of_counts old + 1
one-load old new loaded = ap (λ (s : Counts). sum_of_counts s) loaded ∙ omega arith

pub loop-place-preserved : goal.loop-place-preserved
loop-place-preserved g c =
    let w = c.args.initial_page.now.width in
    let kept = c.loop-place.invariant in
    let left : c.loop-place.place < length c.loop-place.buf = c.loop-place-test.true in
    let few : c.min-count.result ≤ 64 = grind (arith) in
    let narrow : c.loop-place.x + c.min-count.result ≤ w = grind (arith) in
    let counted-load : sum_of_counts c.load_pixels-word.new.steps ≡ sum_of_counts c.loop-place.steps + 1 = one-load c.loop-place.steps c.load_pixels-word.new.steps c.load_pixels-word.ensures.steps in
    let some : 1 ≤ c.min-count.result = grind (arith) in
    record {
      sized = c.put_shades.ensures.sized ∙ kept.sized;
      within = rw (c.put_shades.ensures.sized) (grind (arith));
      reached = λ more. omega (arith, kept.reached left, c.next_place.ensures.place);
      column = λ more. c.next_place.ensures.inside;
      written = shades-more c.args.bitmap.now w c.loop-place.place c.loop-place.x c.loop-place.y c.min-count.result c.load_pixels-word.result c.loop-place.buf c.put_shades.new.buf (kept.reached left) narrow few c.load_pixels-word.ensures.bits kept.written c.put_shades.ensures.before c.put_shades.ensures.bytes;
      steps = omega (arith, kept.steps, counted-load);
    }

pub returns-clause-value : goal.returns-clause-value
unfolding image_of
returns-clause-value g c =
    let w = c.args.initial_page.now.width in
    let f : ℕ → ℕ = λ n. shade (pixel_at c.args.bitmap.now (n % w) (n / w)) in
    fill_by_all f c.loop-place.buf (w * c.args.initial_page.now.height) 0 c.loop-place.invariant.sized (λ k h. c.loop-place.invariant.written k (omega (arith, h, c.loop-place-test.false, c.loop-place.invariant.sized)))

pub returns-clause-paid : goal.returns-clause-paid
returns-clause-paid g c =
    pixels-paid c.args.initial_page.now.width c.args.initial_page.now.height c.loop-place.place (sum_of_counts c.args.steps.now) (sum_of_counts c.loop-place.steps) (omega (arith, c.loop-place.invariant.within, c.loop-place.invariant.sized)) c.loop-place.invariant.steps
