use Rattle.std.proofs.Common.{Option, refl, sym, subst, arith}
use Rattle.jbig2_mmr.specs.declared.mmr.row.Turn.{Turn}
use Rattle.jbig2_mmr.specs.T6.{after_runs}
use Rattle.jbig2_mmr.specs.inner.T6Calls.{head_of, ReadStep}
use Rattle.jbig2_mmr.proofs.T6Rows.{runs-read, runs-fault-first, runs-fault-second, run-within}
use Rattle.jbig2_mmr.proofs.mmr.row.horizontal.Goals as goal

pub returns-in_err-turn-clause-value : goal.returns-in_err-turn-clause-value
returns-in_err-turn-clause-value c =
    subst (λ (o : Option Turn). ReadStep c.args.width (head_of c.args.place) (after_runs c.args.width (head_of c.args.place) c.args.reader.now.left) o c.read_run.new.self.left) (sym c.from_residual.ensures)
    (runs-fault-first c.args.width (head_of c.args.place) c.args.reader.now.left c.read_run.new.self.left (omega (arith, c.requires)) c.in_err-turn.ensures.value)

pub overflow_add-turn : goal.overflow_add-turn
overflow_add-turn c =
    let fits = run-within _ _ _ _ c.in_ok-turn.ensures.value in
    omega (arith, fits, c.requires, c.ranges.width)

pub overflow_sub-width-2 : goal.overflow_sub-width-2
overflow_sub-width-2 c =
    let fits = run-within _ _ _ _ c.in_ok-turn.ensures.value in
    omega (arith, fits, c.requires)

pub returns-in_err-a0-clause-value : goal.returns-in_err-a0-clause-value
returns-in_err-a0-clause-value c =
    subst (λ (o : Option Turn). ReadStep c.args.width (head_of c.args.place) (after_runs c.args.width (head_of c.args.place) c.args.reader.now.left) o c.read_run-2.new.self.left) (sym c.from_residual-in_err-a0.ensures)
    (runs-fault-second c.args.width (head_of c.args.place) c.in_ok-turn.field-0 c.args.reader.now.left c.read_run.new.self.left c.read_run-2.new.self.left (omega (arith, c.requires)) c.in_ok-turn.ensures.value c.in_err-a0.ensures.value)

pub overflow_add-a0 : goal.overflow_add-a0
overflow_add-a0 c =
    let first = run-within _ _ _ _ c.in_ok-turn.ensures.value in
    let second = run-within _ _ _ _ c.in_ok-a0.ensures.value in
    omega (arith, first, second, c.requires, c.ranges.width)

pub returns-clause-value : goal.returns-clause-value
returns-clause-value c =
    runs-read c.args.width (head_of c.args.place) c.in_ok-turn.field-0 c.in_ok-a0.field-0 c.args.reader.now.left c.read_run.new.self.left c.read_run-2.new.self.left _ (omega (arith, c.requires)) c.in_ok-turn.ensures.value c.in_ok-a0.ensures.value refl refl
