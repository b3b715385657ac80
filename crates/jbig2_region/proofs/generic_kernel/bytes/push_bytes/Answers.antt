use Rattle.std.proofs.Common.{arith, min, refl, eqb, length, ◌%◌, ◌+◌, ◌*◌, ◌≡◌, ◌≤◌, ◌∙◌, ℕ, Bool, List, true, false, not, sym, ap, subst}
use Rattle.jbig2_base.specs.Counts.{Counts}
use Rattle.jbig2_base.specs.Grid.{Grid}
use Rattle.jbig2_base.specs.Writes.{with_pixels}
use Rattle.jbig2_coder.specs.Coder.{Coder}
use Rattle.jbig2_region.specs.inner.RegionStates.{HasDecoded, region_state}
use Rattle.jbig2_region.specs.inner.LongRuns.{is_run_for}
use Rattle.jbig2_region.specs.inner.Neighbours.{DecodesPixels, nominal_pixels, row_coding}
use Rattle.jbig2_region.specs.inner.Rows.{after_pixels}
use Rattle.jbig2_region.specs.Steps.{is_run_of}
use Rattle.jbig2_region.proofs.CountLemmas.{byte-runs, counts-byte}
use Rattle.jbig2_region.proofs.PushLemmas.{no-run}
use Rattle.jbig2_region.proofs.RunLemmas.{nominal-length, not-staying, run-colour, lowest-bit}
use Rattle.jbig2_region.proofs.RunSteps.{run-counts, run-has_decoded, other-colour}
use Rattle.jbig2_region.proofs.StoreLemmas.{width-so_far, height-so_far}
use Rattle.jbig2_region.proofs.UniformLemmas.{full, full-cond}
use Rattle.jbig2_region.proofs.WindowLemmas.{shows-less}
use Rattle.jbig2_region.proofs.generic_kernel.bytes.push_bytes.Goals as goal

pub returns-then-bytes-gt0-clause-pixels : goal.returns-then-bytes-gt0-clause-pixels
returns-then-bytes-gt0-clause-pixels g c = λ grid x y is_at w h input r len predicted has_decoded.
    let black : Bool = eqb (c.args.left % 2) 1 in
    let count : ℕ = 8 * c.take_runs-bytes.result in
    let wide : grid.width ≡ w = ap (λ (q : Grid). q.width) has_decoded.pixels ∙ width-so_far w h r.pixels in
    let high : grid.height ≡ h = ap (λ (q : Grid). q.height) has_decoded.pixels ∙ height-so_far w h r.pixels in
    let here : HasDecoded w h c.args.decoder.now.bytes r (region_state grid c.args.decoder.now c.args.contexts.now) = record { pixels = has_decoded.pixels; bytes = refl; registers = has_decoded.registers; contexts = has_decoded.contexts } in
    let run : is_run_for (nominal_pixels c.args.neighbours) w h c.args.decoder.now.bytes r black count ≡ true = c.take_runs-bytes.ensures.run w h x y r grid len (omega (arith, is_at.columns)) (omega (arith, is_at.row)) is_at.shows is_at.beside here (omega (arith, c.if-bytes-gt0.true)) in
    let bits : full count black ≡ c.uniform-pixels.result = full-cond count black ∙ sym c.uniform-pixels.ensures.value in
    subst (λ (b : ℕ). HasDecoded w h input (after_pixels (row_coding (nominal_pixels c.args.neighbours)) w h input count r) (region_state (with_pixels grid x y count b) c.take_runs-bytes.new.decoder c.args.contexts.now)) bits
    (run-has_decoded (nominal_pixels c.args.neighbours) black grid c.args.decoder.now c.take_runs-bytes.new.decoder c.args.contexts.now w h input x y count r len (omega (arith, is_at.columns, c.take_runs-bytes.ensures.most)) (omega (arith, is_at.row)) predicted has_decoded run c.take_runs-bytes.ensures.coder)

pub returns-then-bytes-gt0-clause-decisions : goal.returns-then-bytes-gt0-clause-decisions
returns-then-bytes-gt0-clause-decisions g c = λ grid x y aligned is_at w h input r len predicted has_decoded.
    let black : Bool = eqb (c.args.left % 2) 1 in
    let count : ℕ = 8 * c.take_runs-bytes.result in
    let wide : grid.width ≡ w = ap (λ (q : Grid). q.width) has_decoded.pixels ∙ width-so_far w h r.pixels in
    let high : grid.height ≡ h = ap (λ (q : Grid). q.height) has_decoded.pixels ∙ height-so_far w h r.pixels in
    let here : HasDecoded w h c.args.decoder.now.bytes r (region_state grid c.args.decoder.now c.args.contexts.now) = record { pixels = has_decoded.pixels; bytes = refl; registers = has_decoded.registers; contexts = has_decoded.contexts } in
    let run : is_run_for (nominal_pixels c.args.neighbours) w h c.args.decoder.now.bytes r black count ≡ true = c.take_runs-bytes.ensures.run w h x y r grid len (omega (arith, is_at.columns)) (omega (arith, is_at.row)) is_at.shows is_at.beside here (omega (arith, c.if-bytes-gt0.true)) in
    let same : is_run_for (nominal_pixels c.args.neighbours) w h input r black count ≡ true = subst (λ (l : List ℕ). is_run_for (nominal_pixels c.args.neighbours) w h l r black count ≡ true) has_decoded.bytes run in
    let some : 1 ≤ length (nominal_pixels c.args.neighbours) = omega (arith, nominal-length c.args.neighbours, c.requires.near.some) in
    let steps = ap (λ (s : Counts). s.decisions) c.take_runs-bytes.ensures.steps in
    rw (run-counts (nominal_pixels c.args.neighbours) black w h input x y c.take_runs-bytes.result count 0 r (omega arith) some len aligned (omega (arith, is_at.columns, c.take_runs-bytes.ensures.most)) (omega (arith, is_at.row)) predicted same)
    (omega (arith, steps))

pub push_pixels-pixels-requires-clause-contexts : goal.push_pixels-pixels-requires-clause-contexts
push_pixels-pixels-requires-clause-contexts g c = c.requires.contexts

pub returns-clause-pixels : goal.returns-clause-pixels
returns-clause-pixels g c = λ grid x y is_at.
    let same = no-run c.args.decoder.now c.take_runs-bytes.new.decoder c.take_runs-bytes.result _ (omega (arith, c.if-bytes-gt0.false)) c.take_runs-bytes.ensures.coder in
    subst (λ (d : Coder). DecodesPixels (nominal_pixels c.args.neighbours) false x y 8 (region_state grid d c.args.contexts.now) (region_state (with_pixels grid x y 8 c.push_pixels-pixels.result) c.push_pixels-pixels.new.decoder c.push_pixels-pixels.new.contexts)) same
    (c.push_pixels-pixels.ensures.pixels grid x y (record { columns = omega (arith, is_at.columns, c.requires.some); row = is_at.row; shows = shows-less grid x y (8 * min c.args.most 4 + 12) 20 c.args.windows.first (omega (arith, c.requires.some)) is_at.shows.first; beside = is_at.beside }))

pub returns-clause-decisions : goal.returns-clause-decisions
returns-clause-decisions g c = λ grid x y aligned is_at w h input r len predicted has_decoded.
    let black : Bool = eqb (c.args.left % 2) 1 in
    let wide : grid.width ≡ w = ap (λ (q : Grid). q.width) has_decoded.pixels ∙ width-so_far w h r.pixels in
    let high : grid.height ≡ h = ap (λ (q : Grid). q.height) has_decoded.pixels ∙ height-so_far w h r.pixels in
    let here : HasDecoded w h c.args.decoder.now.bytes r (region_state grid c.args.decoder.now c.args.contexts.now) = record { pixels = has_decoded.pixels; bytes = refl; registers = has_decoded.registers; contexts = has_decoded.contexts } in
    let run : is_run_of (nominal_pixels c.args.neighbours) w h c.args.decoder.now.bytes r black ≡ false = c.take_runs-bytes.ensures.none w h x y r grid len (omega (arith, is_at.columns)) (omega (arith, is_at.row)) is_at.shows is_at.beside here (omega (arith, c.if-bytes-gt0.false)) in
    let none = not-staying c.args.neighbours (not black) c.args.left c.args.windows.first w h x y (8 * min c.args.most 4 + 12) r grid c.args.decoder.now c.args.contexts.now (run-colour c.args.neighbours 8 (not black) black c.args.left c.args.windows.first c.requires.near (lowest-bit c.args.left) (other-colour black)) c.requires.near (omega (arith, c.requires.some)) len (omega (arith, is_at.columns, c.requires.some)) (omega (arith, is_at.row)) is_at.shows.first is_at.beside here in
    let before = ap (λ (s : Counts). s.decisions) c.take_runs-bytes.ensures.steps in
    let steps = ap (λ (s : Counts). s.decisions) c.push_pixels-pixels.ensures.steps ∙ ap (λ (n : ℕ). n + 8) before in
    counts-byte c.args.steps.now.decisions c.push_pixels-pixels.new.steps.decisions _ false
    (byte-runs (nominal_pixels c.args.neighbours) w h input r x y black false len aligned (omega (arith, is_at.columns, c.requires.some))
    (subst (λ (l : List ℕ). is_run_of (nominal_pixels c.args.neighbours) w h l r (not black) ≡ false) has_decoded.bytes none)
    (subst (λ (l : List ℕ). is_run_of (nominal_pixels c.args.neighbours) w h l r black ≡ false) has_decoded.bytes run))
    (omega (arith, steps))
