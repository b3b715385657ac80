use Rattle.std.proofs.Common.{rules, ℕ, ℤ, Option, Some, sym, subst, ap, ◌∙◌}
use Rattle.std.specs.Int.{w32}
use mir.Val.{SFits}
use Rattle.std.proofs.lemmas.Int.{to_z-of_z}
use Rattle.jbig2_mmr.specs.declared.mmr.codes.Mode.{Mode}
use Rattle.jbig2_mmr.specs.declared.mmr.row.Turn.{Turn}
use Rattle.jbig2_mmr.specs.T6.{Head, Step, after_runs, after_vertical, after_mode, next_step}
use Rattle.jbig2_mmr.specs.inner.T6Reading.{IsNearMode, IsWithinThree, pixels_of_row}
use Rattle.jbig2_mmr.specs.inner.T6Calls.{head_of, ReadStep}
use Rattle.jbig2_mmr.proofs.T6Rows.{step-by, step-none}
use Rattle.jbig2_mmr.proofs.T6Steps.{moves-none}
use Rattle.jbig2_mmr.proofs.mmr.row.read_turn.Goals as goal

pub returns-in_err-read_mode-clause-value : goal.returns-in_err-read_mode-clause-value
returns-in_err-read_mode-clause-value g c =
    let w : ℕ = c.args.bitmap.now.width in
    subst (λ (o : Option Turn). ReadStep w (head_of c.args.place) (next_step w (pixels_of_row c.args.bitmap.now c.args.above) (head_of c.args.place) c.args.reader.now.left) o c.read_mode.new.self.left) (sym c.from_residual.ensures)
    (step-none w (pixels_of_row c.args.bitmap.now c.args.above) (head_of c.args.place) c.args.reader.now.left c.read_mode.new.self.left c.in_err-read_mode.ensures.value)

pub returns-in-Pass-clause-value : goal.returns-in-Pass-clause-value
returns-in-Pass-clause-value g c =
    let w : ℕ = c.args.bitmap.now.width in
    let h : Head = head_of c.args.place in
    subst (λ (o : Option Step). ReadStep w h o (Some c.pass.result) c.read_mode.new.self.left) (sym (step-by w (pixels_of_row c.args.bitmap.now c.args.above) h c.in_ok-read_mode.field-0 c.args.reader.now.left c.read_mode.new.self.left c.in_ok-read_mode.ensures.value ∙ ap (λ (m : Mode). after_mode w (pixels_of_row c.args.bitmap.now c.args.above) h m c.read_mode.new.self.left) c.in-Pass.is)) (c.pass.ensures.value c.read_mode.new.self.left)

pub returns-in-Horizontal-clause-value : goal.returns-in-Horizontal-clause-value
returns-in-Horizontal-clause-value g c =
    let w : ℕ = c.args.bitmap.now.width in
    let h : Head = head_of c.args.place in
    subst (λ (o : Option Step). ReadStep w h o c.horizontal.result c.horizontal.new.reader.left) (sym (step-by w (pixels_of_row c.args.bitmap.now c.args.above) h c.in_ok-read_mode.field-0 c.args.reader.now.left c.read_mode.new.self.left c.in_ok-read_mode.ensures.value ∙ ap (λ (m : Mode). after_mode w (pixels_of_row c.args.bitmap.now c.args.above) h m c.read_mode.new.self.left) c.in-Horizontal.is))
    (subst (λ (n : ℕ). ReadStep n h (after_runs n h c.read_mode.new.self.left) c.horizontal.result c.horizontal.new.reader.left) c.width.ensures.value c.horizontal.ensures.value)

pub returns-in-Vertical-clause-value : goal.returns-in-Vertical-clause-value
returns-in-Vertical-clause-value g c =
    let fits : SFits w32 c.in-Vertical.distance = search rules in
    let w : ℕ = c.args.bitmap.now.width in
    let h : Head = head_of c.args.place in
    subst (λ (o : Option Step). ReadStep w h o c.vertical.result c.read_mode.new.self.left) (sym (step-by w (pixels_of_row c.args.bitmap.now c.args.above) h c.in_ok-read_mode.field-0 c.args.reader.now.left c.read_mode.new.self.left c.in_ok-read_mode.ensures.value ∙ ap (λ (m : Mode). after_mode w (pixels_of_row c.args.bitmap.now c.args.above) h m c.read_mode.new.self.left) c.in-Vertical.is))
    (subst (λ (z : ℤ). ReadStep w h (after_vertical w (pixels_of_row c.args.bitmap.now c.args.above) h z c.read_mode.new.self.left) c.vertical.result c.read_mode.new.self.left) (to_z-of_z w32 c.in-Vertical.distance fits) (c.vertical.ensures.value c.read_mode.new.self.left))

pub returns-in_err-read_mode-clause-work : goal.returns-in_err-read_mode-clause-work
returns-in_err-read_mode-clause-work g c = moves-none _ c.args.steps.now

pub returns-in-Pass-clause-work : goal.returns-in-Pass-clause-work
returns-in-Pass-clause-work g c = c.pass.ensures.work

pub returns-in-Horizontal-clause-work : goal.returns-in-Horizontal-clause-work
returns-in-Horizontal-clause-work g c = moves-none _ c.args.steps.now

pub returns-in-Vertical-clause-work : goal.returns-in-Vertical-clause-work
returns-in-Vertical-clause-work g c =
    let fits : SFits w32 c.in-Vertical.distance = search rules in
    c.vertical.ensures.work (subst IsWithinThree (sym (to_z-of_z w32 c.in-Vertical.distance fits)) (subst (λ (m : Mode). IsNearMode (Some m)) c.in-Vertical.is c.in_ok-read_mode.ensures.near))
