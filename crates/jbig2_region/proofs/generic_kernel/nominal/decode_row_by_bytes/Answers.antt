use Rattle.std.proofs.Common.{arith, ⊎_elim, ◌<◌, ap, rules, refl, false, min, subst, sym, ◌≡◌, ◌≤◌, ◌+◌, ◌-◌, ◌*◌, ◌/◌, ◌%◌, ℕ, ◌∙◌}
use Rattle.std.proofs.lemmas.Bool.{cases_lt}
use Rattle.jbig2_steps.proofs.LaneCounts.{lanes-none, lanes-then}
use Rattle.jbig2_base.specs.Counts.{Counts, KeepsLanes}
use Rattle.jbig2_base.specs.Grid.{Grid}
use Rattle.jbig2_region.specs.inner.Neighbours.{DecodesPixels, SameAbove, nominal_pixels}
use Rattle.jbig2_region.specs.inner.PushedPixels.{IsAtPixels, IsAtGroup}
use Rattle.jbig2_region.specs.inner.RowCounts.{CountsRuns}
use Rattle.jbig2_region.proofs.CarriedLemmas.{shows-before, shows-none_before}
use Rattle.jbig2_region.proofs.CountLemmas.{counts-none, counts-then, counts-last}
use Rattle.jbig2_region.proofs.PushLemmas.{left-stored}
use Rattle.jbig2_region.proofs.StoreLemmas.{decodes-none, decodes-then, left-none, stored-above}
use Rattle.jbig2_region.proofs.WindowLemmas.{shows-less, shows-same}
use Rattle.jbig2_region.proofs.generic_kernel.nominal.decode_row_by_bytes.Goals as goal
use Rattle.jbig2_region.specs.inner.RegionStates.{region_state}
use Rattle.jbig2_region.specs.inner.Windows.{IsLeft, Shows, ShowsBefore}

pub loop-group-init : goal.loop-group-init
loop-group-init g c =
    let whole : ℕ = (c.width-width.result - 1) / 8 in
    let none : 0 ≡ min 0 whole = omega arith in
    let start : 0 ≡ 8 * min 0 whole = omega arith in
    record {
      width = refl;
      height = refl;
      bytes = refl;
      few = omega arith;
      left = subst (λ (n : ℕ). IsLeft c.args.bitmap.now n c.args.y 0) start (left-none c.args.bitmap.now c.args.y);
      has_decoded = subst (λ (n : ℕ). DecodesPixels (nominal_pixels c.args.neighbours) false 0 c.args.y n (region_state c.args.bitmap.now c.args.decoder.now c.args.contexts.now) (region_state c.args.bitmap.now c.args.decoder.now c.args.contexts.now)) start
          (decodes-none (nominal_pixels c.args.neighbours) false 0 c.args.y c.args.bitmap.now c.args.decoder.now c.args.contexts.now);
      decisions = subst (λ (n : ℕ). CountsRuns (nominal_pixels c.args.neighbours) 0 c.args.y n (region_state c.args.bitmap.now c.args.decoder.now c.args.contexts.now) c.words_at-here.new.steps.decisions c.words_at-here.new.steps.decisions) start
          (counts-none (nominal_pixels c.args.neighbours) 0 c.args.y c.args.bitmap.now c.args.decoder.now c.args.contexts.now c.words_at-here.new.steps.decisions);
      run_tests = omega arith;
      before = shows-none_before c.args.bitmap.now c.args.y _ refl refl;
      last = λ some. absurd (omega arith);
      here = c.words_at-here.ensures.value;
      loads = omega arith;
      few_loads = λ few. refl;
      words = omega arith;
      lanes = lanes-none c.words_at-here.new.steps;
    }

pub loop-group-preserved : goal.loop-group-preserved
loop-group-preserved g c =
    let whole : ℕ = (c.width-width.result - 1) / 8 in
    let here : ℕ = min (8 * c.loop-group.group) whole in
    let then : ℕ = min (8 * (c.loop-group.group + 1)) whole in
    let bytes : ℕ = c.min-bytes.result in
    let place : 64 * c.loop-group.group ≡ 8 * here = omega (arith, c.div_ceil-group-end.ensures) in
    let start : 64 * c.loop-group.group ≡ 0 + 8 * here = omega (arith, place) in
    let next : then ≡ here + bytes = omega (arith, c.div_ceil-group-end.ensures, c.min-bytes.ensures) in
    let column : 64 * c.loop-group.group + 8 * bytes ≡ 8 * then = omega (arith, place, next) in
    let sum : 8 * then ≡ 8 * here + 8 * bytes = omega (arith, next) in
    let same : c.words_after-after.new.steps.decisions ≡ c.loop-group.steps.decisions = ap (λ (s : Counts). s.decisions) c.words_after-after.ensures.steps in
    let on : 64 * c.loop-group.group + 64 ≡ 64 * (c.loop-group.group + 1) = omega arith in
    let further : 64 * c.loop-group.group + 72 ≡ 64 * (c.loop-group.group + 1) + 8 = omega arith in
    let back : c.loop-group.group ≡ c.loop-group.group + 1 - 1 = omega arith in
    let is_at : IsAtGroup c.loop-group.bitmap (64 * c.loop-group.group) c.args.y bytes c.loop-group.left c.windows_between-windows.result = record {
      columns = omega (arith, column, c.width-width.ensures.value, c.loop-group.invariant.width, c.requires.some);
      row = omega (arith, c.requires.row, c.loop-group.invariant.height);
      shows = c.windows_between-windows.ensures c.loop-group.bitmap (64 * c.loop-group.group) c.args.y bytes c.loop-group.invariant.before c.loop-group.invariant.here c.words_after-after.ensures.value;
      beside = subst (λ (n : ℕ). IsLeft c.loop-group.bitmap n c.args.y c.loop-group.left) (sym place) c.loop-group.invariant.left;
    } in
    let mid : Grid = c.loop-group.bitmap in
    let made : Grid = c.store_pixels.new.self in
    let above : SameAbove mid made c.args.y =
    subst (λ (q : Grid). SameAbove mid q c.args.y) (sym c.store_pixels.ensures.value) (stored-above mid (64 * c.loop-group.group) c.args.y (8 * bytes) c.push_group-pixels.result) in
    let stored : Counts = c.store_pixels.new.steps in
    let decided : c.push_group-pixels.new.steps.decisions ≡ stored.decisions = sym (ap (λ (s : Counts). s.decisions) c.store_pixels.ensures.steps) in
    record {
      width = ap (λ (q : Grid). q.width) c.store_pixels.ensures.value ∙ c.loop-group.invariant.width;
      height = ap (λ (q : Grid). q.height) c.store_pixels.ensures.value ∙ c.loop-group.invariant.height;
      bytes = c.push_group-pixels.ensures.bytes ∙ c.loop-group.invariant.bytes;
      few = omega arith;
      left = subst (λ (n : ℕ). IsLeft made n c.args.y (c.push_group-pixels.result % 16)) column
          (subst (λ (q : Grid). IsLeft q (64 * c.loop-group.group + 8 * bytes) c.args.y (c.push_group-pixels.result % 16)) (sym c.store_pixels.ensures.value)
          (left-stored mid (64 * c.loop-group.group) c.args.y (8 * bytes) c.push_group-pixels.result (omega (arith, c.div_ceil-group-end.ensures, c.min-bytes.ensures)) (omega (arith, is_at.columns)) is_at.row));
      has_decoded =
          decodes-then (nominal_pixels c.args.neighbours) false 0 (64 * c.loop-group.group) c.args.y (8 * here) (8 * bytes) (8 * then)
          c.args.bitmap.now mid made c.args.decoder.now c.loop-group.decoder c.push_group-pixels.new.decoder c.args.contexts.now c.loop-group.contexts c.push_group-pixels.new.contexts
          c.loop-group.invariant.has_decoded
          (subst (λ (q : Grid). DecodesPixels (nominal_pixels c.args.neighbours) false (64 * c.loop-group.group) c.args.y (8 * bytes) (region_state mid c.loop-group.decoder c.loop-group.contexts) (region_state q c.push_group-pixels.new.decoder c.push_group-pixels.new.contexts)) (sym c.store_pixels.ensures.value)
          (c.push_group-pixels.ensures.pixels mid (64 * c.loop-group.group) c.args.y is_at)) start sum;
      decisions =
          subst (λ (b : ℕ). CountsRuns (nominal_pixels c.args.neighbours) 0 c.args.y (8 * then) (region_state c.args.bitmap.now c.args.decoder.now c.args.contexts.now) c.words_at-here.new.steps.decisions b) decided
          (counts-then (nominal_pixels c.args.neighbours) 0 (64 * c.loop-group.group) c.args.y (8 * here) (8 * bytes) (8 * then)
          c.args.bitmap.now mid c.args.decoder.now c.loop-group.decoder c.args.contexts.now c.loop-group.contexts c.words_at-here.new.steps.decisions c.loop-group.steps.decisions c.push_group-pixels.new.steps.decisions
          c.loop-group.invariant.decisions c.loop-group.invariant.has_decoded
          (subst (λ (b : ℕ). CountsRuns (nominal_pixels c.args.neighbours) (64 * c.loop-group.group) c.args.y (8 * bytes) (region_state mid c.loop-group.decoder c.loop-group.contexts) b c.push_group-pixels.new.steps.decisions) same (c.push_group-pixels.ensures.decisions mid (64 * c.loop-group.group) c.args.y (omega arith) is_at)) start sum);
      run_tests = omega (arith, next, ap (λ (s : Counts). s.run_tests) c.words_after-after.ensures.steps, ap (λ (s : Counts). s.run_tests) c.store_pixels.ensures.steps, c.push_group-pixels.ensures.run_tests, c.loop-group.invariant.run_tests);
      before = subst (λ (n : ℕ). ShowsBefore made n c.args.y c.loop-group.here) on
          (shows-before made (64 * c.loop-group.group) c.args.y c.loop-group.here
          (shows-same mid made (64 * c.loop-group.group + 8) c.args.y 64 c.loop-group.here above c.loop-group.invariant.here));
      last = λ _. subst (λ (n : ℕ). Shows made (64 * n + 8) c.args.y 64 c.loop-group.here) back
          (shows-same mid made (64 * c.loop-group.group + 8) c.args.y 64 c.loop-group.here above c.loop-group.invariant.here);
      here = subst (λ (n : ℕ). Shows made n c.args.y 64 c.words_after-after.result) further
          (shows-same mid made (64 * c.loop-group.group + 72) c.args.y 64 c.words_after-after.result above c.words_after-after.ensures.value);
      loads = omega (arith, c.words_after-after.ensures.few, ap (λ (s : Counts). s.loads) c.store_pixels.ensures.steps, c.push_group-pixels.ensures.loads, c.loop-group.invariant.loads);
      few_loads = λ few. ap (λ (s : Counts). s.loads) c.store_pixels.ensures.steps ∙ c.push_group-pixels.ensures.loads ∙ c.words_after-after.ensures.none (omega (arith, c.loop-group.invariant.width, c.width-width.ensures.value)) ∙ c.loop-group.invariant.few_loads few;
      words = omega (arith, next, c.div_ceil-group-end.ensures, c.min-bytes.ensures, ap (λ (s : Counts). s.words) c.words_after-after.ensures.steps, ap (λ (s : Counts). s.words) c.store_pixels.ensures.steps, c.push_group-pixels.ensures.words, c.loop-group.invariant.words);
      lanes =
          let shown : KeepsLanes c.loop-group.steps c.words_after-after.new.steps =
          record { groups = ap (λ (s : Counts). s.groups) c.words_after-after.ensures.steps; pixels = ap (λ (s : Counts). s.pixels) c.words_after-after.ensures.steps; cleared = ap (λ (s : Counts). s.cleared) c.words_after-after.ensures.steps } in
          let kept : KeepsLanes c.push_group-pixels.new.steps stored =
          record { groups = ap (λ (s : Counts). s.groups) c.store_pixels.ensures.steps; pixels = ap (λ (s : Counts). s.pixels) c.store_pixels.ensures.steps; cleared = ap (λ (s : Counts). s.cleared) c.store_pixels.ensures.steps } in
          lanes-then c.words_at-here.new.steps c.loop-group.steps stored c.loop-group.invariant.lanes
          (lanes-then c.loop-group.steps c.words_after-after.new.steps stored shown (lanes-then c.words_after-after.new.steps c.push_group-pixels.new.steps stored c.push_group-pixels.ensures.lanes kept));
    }

pub returns : goal.returns
returns g c = record {
  has_decoded =
      let whole : ℕ = (c.width-width.result - 1) / 8 in
      let x : ℕ = 8 * whole in
      let n : ℕ = c.width-width.result - x in
      let all : min (8 * c.loop-group.group) whole ≡ whole = omega (arith, c.div_ceil-group-end.ensures) in
      let sum : c.args.bitmap.now.width ≡ x + n = omega (arith, c.width-width.ensures.value, c.requires.some) in
      let is_at : IsAtPixels c.loop-group.bitmap x c.args.y n c.loop-group.left c.last_windows-windows.result = record {
        columns = omega (arith, c.width-width.ensures.value, c.loop-group.invariant.width);
        row = omega (arith, c.requires.row, c.loop-group.invariant.height);
        shows = shows-less c.loop-group.bitmap x c.args.y 64 20 c.last_windows-windows.result (omega arith)
            (⊎_elim
            (λ (none : whole < 1).
            let first : c.loop-group.group ≡ 0 = omega (arith, c.div_ceil-group-end.ensures) in
            let start : 64 * c.loop-group.group ≡ 0 = omega (arith, first) in
            let next : 64 * c.loop-group.group + 8 ≡ 8 = omega (arith, first) in
            let place : 0 ≡ 8 * whole = omega arith in
            subst (λ (n : ℕ). Shows c.loop-group.bitmap n c.args.y 64 c.last_windows-windows.result) place
            (c.last_windows-windows.ensures.alone c.loop-group.bitmap c.args.y (omega arith)
            (subst (λ (n : ℕ). ShowsBefore c.loop-group.bitmap n c.args.y c.loop-group.before) start c.loop-group.invariant.before)
            (subst (λ (n : ℕ). Shows c.loop-group.bitmap n c.args.y 64 c.loop-group.here) next c.loop-group.invariant.here)))
            (λ (some : 1 ≤ whole).
            let x : ℕ = 64 * (c.loop-group.group - 1) + 8 in
            let next : 64 * c.loop-group.group + 8 ≡ x + 64 = omega (arith, c.div_ceil-group-end.ensures) in
            c.last_windows-windows.ensures.more c.loop-group.bitmap c.args.y x (omega (arith, c.div_ceil-group-end.ensures)) (c.loop-group.invariant.last (omega (arith, c.div_ceil-group-end.ensures)))
            (subst (λ (n : ℕ). Shows c.loop-group.bitmap n c.args.y 64 c.loop-group.here) next c.loop-group.invariant.here))
            (cases_lt whole 1));
        beside = subst (λ (k : ℕ). IsLeft c.loop-group.bitmap (8 * k) c.args.y c.loop-group.left) all c.loop-group.invariant.left;
      } in
      decodes-then (nominal_pixels c.args.neighbours) false 0 x c.args.y x n c.args.bitmap.now.width
      c.args.bitmap.now c.loop-group.bitmap c.store_pixels-2.new.self c.args.decoder.now c.loop-group.decoder c.push_pixels-last.new.decoder c.args.contexts.now c.loop-group.contexts c.push_pixels-last.new.contexts
      (subst (λ (k : ℕ). DecodesPixels (nominal_pixels c.args.neighbours) false 0 c.args.y (8 * k) (region_state c.args.bitmap.now c.args.decoder.now c.args.contexts.now) (region_state c.loop-group.bitmap c.loop-group.decoder c.loop-group.contexts)) all c.loop-group.invariant.has_decoded)
      (subst (λ (q : Grid). DecodesPixels (nominal_pixels c.args.neighbours) false x c.args.y n (region_state c.loop-group.bitmap c.loop-group.decoder c.loop-group.contexts) (region_state q c.push_pixels-last.new.decoder c.push_pixels-last.new.contexts)) (sym c.store_pixels-2.ensures.value)
      (c.push_pixels-last.ensures.pixels c.loop-group.bitmap x c.args.y is_at)) (omega arith) sum;
  width = search rules;
  height = search rules;
  bytes = search rules;
  contexts = search rules;
  decisions =
      let whole : ℕ = (c.width-width.result - 1) / 8 in
      let x : ℕ = 8 * whole in
      let n : ℕ = c.width-width.result - x in
      let all : min (8 * c.loop-group.group) whole ≡ whole = omega (arith, c.div_ceil-group-end.ensures) in
      let sum : c.args.bitmap.now.width ≡ x + n = omega (arith, c.width-width.ensures.value, c.requires.some) in
      let same : c.words_at-here.new.steps.decisions ≡ c.args.steps.now.decisions = ap (λ (s : Counts). s.decisions) c.words_at-here.ensures.steps in
      counts-then (nominal_pixels c.args.neighbours) 0 x c.args.y x n c.args.bitmap.now.width
      c.args.bitmap.now c.loop-group.bitmap c.args.decoder.now c.loop-group.decoder c.args.contexts.now c.loop-group.contexts c.args.steps.now.decisions c.loop-group.steps.decisions c.store_pixels-2.new.steps.decisions
      (subst (λ (b : ℕ). CountsRuns (nominal_pixels c.args.neighbours) 0 c.args.y (8 * whole) (region_state c.args.bitmap.now c.args.decoder.now c.args.contexts.now) b c.loop-group.steps.decisions) same
      (subst (λ (k : ℕ). CountsRuns (nominal_pixels c.args.neighbours) 0 c.args.y (8 * k) (region_state c.args.bitmap.now c.args.decoder.now c.args.contexts.now) c.words_at-here.new.steps.decisions c.loop-group.steps.decisions) all c.loop-group.invariant.decisions))
      (subst (λ (k : ℕ). DecodesPixels (nominal_pixels c.args.neighbours) false 0 c.args.y (8 * k) (region_state c.args.bitmap.now c.args.decoder.now c.args.contexts.now) (region_state c.loop-group.bitmap c.loop-group.decoder c.loop-group.contexts)) all c.loop-group.invariant.has_decoded)
      (counts-last (nominal_pixels c.args.neighbours) x c.args.y n c.loop-group.bitmap c.loop-group.decoder c.loop-group.contexts c.loop-group.steps.decisions c.store_pixels-2.new.steps.decisions (search rules) (omega (arith, c.width-width.ensures.value, c.loop-group.invariant.width)) (omega (arith, c.width-width.ensures.value, c.loop-group.invariant.width)))
      (omega arith) sum;
  run_tests = search rules;
  loads = search rules;
  words = search rules;
  lanes = search rules;
}
