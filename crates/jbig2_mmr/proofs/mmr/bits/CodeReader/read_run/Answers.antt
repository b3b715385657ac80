use Rattle.std.proofs.Common.{ℕ, Some, ap, ◌∙◌, refl, arith}
use Rattle.jbig2_mmr.specs.T6.{run}
use Rattle.jbig2_mmr.proofs.T6Runs.{run-start, run-fault, run-past, run-end, run-more}
use Rattle.jbig2_mmr.proofs.mmr.bits.CodeReader.read_run.Goals as goal

pub loop-code-init : goal.loop-code-init
loop-code-init c = record { within = omega arith; reading = run-start c.args.black c.args.self.now.left; bytes = refl; shorter = omega arith }

pub returns-then-part-room-clause-value : goal.returns-then-part-room-clause-value
returns-then-part-room-clause-value c =
    run-past c.args.black c.args.room c.loop-code.sum c.from-part.result c.loop-code.self.left c.read_run_code.new.self.left (run c.args.black c.args.self.now.left) c.loop-code.invariant.reading c.in-Some.ensures.shorter
    (ap (λ (i : ℕ). Some (i, c.read_run_code.new.self.left)) c.from-part.ensures ∙ c.in-Some.ensures.value) (omega (arith, c.if-part-room.true, c.loop-code.invariant.within))

pub returns-then-part-lt64-clause-value : goal.returns-then-part-lt64-clause-value
returns-then-part-lt64-clause-value c =
    run-end c.args.black c.args.room c.loop-code.sum c.from-part.result c.loop-code.self.left c.read_run_code.new.self.left (run c.args.black c.args.self.now.left) c.loop-code.invariant.reading c.in-Some.ensures.shorter
    (ap (λ (i : ℕ). Some (i, c.read_run_code.new.self.left)) c.from-part.ensures ∙ c.in-Some.ensures.value) (omega (arith, c.if-part-room.false, c.loop-code.invariant.within)) c.if-part-lt64.true

pub loop-code-preserved : goal.loop-code-preserved
loop-code-preserved c = record {
  within = omega (arith, c.if-part-room.false, c.loop-code.invariant.within);
  reading = run-more c.args.black c.loop-code.sum c.from-part.result c.loop-code.self.left c.read_run_code.new.self.left (run c.args.black c.args.self.now.left) c.loop-code.invariant.reading c.in-Some.ensures.shorter
      (ap (λ (i : ℕ). Some (i, c.read_run_code.new.self.left)) c.from-part.ensures ∙ c.in-Some.ensures.value) c.if-part-lt64.false;
  bytes = c.in-Some.ensures.bytes ∙ c.loop-code.invariant.bytes;
  shorter = omega (arith, c.in-Some.ensures.shorter, c.loop-code.invariant.shorter);
}

pub returns-clause-value : goal.returns-clause-value
returns-clause-value c = run-fault c.args.black c.args.room c.loop-code.sum c.loop-code.self.left c.read_run_code.new.self.left (run c.args.black c.args.self.now.left) c.loop-code.invariant.reading c.in_default.ensures.value
