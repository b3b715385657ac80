use Rattle.std.proofs.Common.{◌≡◌, Bool, ℕ, ◌+◌, ◌-◌, ◌*◌, ◌/◌, ◌%◌, ◌^◌, ◌<◌, get_or, ap, subst, ◌∙◌, arith}
use Rattle.std.specs.Simd.Lanes.{put_chunk}
use Rattle.jbig2_base.specs.Counts.{Counts}
use Rattle.jbig2_base.specs.Bits.{bit}
use Rattle.jbig2_base.specs.Grid.{pixel_at}
use Rattle.jbig2_halftone.specs.inner.NextValues.{next_value}
use Rattle.jbig2_halftone.proofs.LaneLemmas.{TakenTo, byte-pixels, row-start, row-group, row-pixel, chunk-small, lanes_to, lanes-start, lanes-group, lanes-pixel, black-of}
use Rattle.jbig2_halftone.proofs.gray_scale.lanes.add_row.Goals as goal

pub loop-group-init : goal.loop-group-init
loop-group-init g c = record { taken = row-start c.args.plane.now c.args.y c.args.values.now; counts = lanes-start c.args.steps.now }

pub next_group-requires-clause-small : goal.next_group-requires-clause-small
next_group-requires-clause-small g c =
    chunk-small c.args.plane.now c.args.y (8 * c.loop-group.group) c.args.values.now c.loop-group.values (omega arith) c.loop-group.auto.values c.requires.small c.loop-group.invariant.taken

pub loop-group-preserved : goal.loop-group-preserved
loop-group-preserved g c =
    let x : ℕ = 8 * c.loop-group.group in
    let next : x + 8 ≡ 8 * (c.loop-group.group + 1) = omega arith in
    let group : ℕ = c.loop-group.group in
    let bits : (k : ℕ) → k < 64 → bit c.load.result (63 - k) ≡ pixel_at c.args.plane.now (64 * (group / 8) + k) c.args.y =
    λ k inside. ap (λ (word : ℕ). bit word (63 - k)) c.load.ensures.value ∙ c.row_words-words.ensures.bits (group / 8) k (omega (arith, c.row_words-words.ensures.sized)) inside in
    record {
      taken =
          subst (λ (k : ℕ). TakenTo c.args.plane.now c.args.y k c.args.values.now (put_chunk x c.loop-group.values c.next_group.result)) next
          (row-group c.args.plane.now c.args.y x (c.load.result / 2 ^ (56 - 8 * (group % 8)) % 2 ^ 8) c.args.values.now c.loop-group.values c.next_group.result (omega arith) c.next_group.ensures.lanes c.next_group.ensures.value (byte-pixels c.args.plane.now c.args.y group c.load.result bits) c.loop-group.invariant.taken);
      counts =
          lanes-group c.loop-group.group c.args.steps.now c.loop-group.steps c.next_group.new.steps c.loop-group.invariant.counts
          (c.next_group.ensures.steps ∙ ap (λ (s : Counts). record s { groups = s.groups + 1 }) c.load.ensures.steps);
    }

pub loop-x-init : goal.loop-x-init
loop-x-init g c =
    let all : c.loop-group.group ≡ c.width-width.result / 8 = omega arith in
    let none : 8 * (c.width-width.result / 8) - 8 * (c.width-width.result / 8) ≡ 0 = omega arith in
    record {
      taken = subst (λ (n : ℕ). TakenTo c.args.plane.now c.args.y (8 * n) c.args.values.now c.loop-group.values) all c.loop-group.invariant.taken;
      counts = rw none (subst (λ (n : ℕ). c.loop-group.steps ≡ lanes_to n 0 c.args.steps.now) all c.loop-group.invariant.counts);
    }

pub next_pixel-requires : goal.next_pixel-requires
next_pixel-requires g c = rw (c.loop-x.invariant.taken.others c.loop-x.x (omega arith)) (c.requires.small c.loop-x.x 0 (omega arith))

pub loop-x-preserved : goal.loop-x-preserved
loop-x-preserved g c = record {
  taken = row-pixel c.args.plane.now c.args.y c.loop-x.x c.next_pixel.result c.args.values.now c.loop-x.values (omega arith) (c.next_pixel.ensures.value ∙ ap (λ (b : Bool). next_value (get_or c.loop-x.values c.loop-x.x 0) b) (black-of (pixel_at c.args.plane.now c.loop-x.x c.args.y) c.get_pixel-black.result c.get_pixel-black.ensures.value)) c.loop-x.invariant.taken;
  counts =
      lanes-pixel (c.width-width.result / 8) (c.loop-x.x - 8 * (c.width-width.result / 8)) (c.loop-x.x + 1 - 8 * (c.width-width.result / 8)) c.args.steps.now c.loop-x.steps c.next_pixel.new.steps (omega arith) c.loop-x.invariant.counts
      (c.next_pixel.ensures.steps ∙ ap (λ (s : Counts). record s { pixels = s.pixels + 1 }) c.get_pixel-black.ensures.steps);
}
