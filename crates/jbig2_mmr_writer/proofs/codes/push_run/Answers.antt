use Rattle.std.proofs.Common.{ℕ, ◌++◌, List, ap, ◌∙◌, arith}
use Rattle.std.proofs.lemmas.Result.{on_ok_weaker}
use Rattle.jbig2_inverses.specs.MmrRowWriter.{run_word}
use Rattle.jbig2_mmr_writer.proofs.RunLemmas.{repeated-next, repeated-none, run-long, run-short}
use Rattle.jbig2_mmr_writer.proofs.codes.push_run.Goals as goal

pub loop-init : goal.loop-init
loop-init g c = repeated-none c.args.writer.now (run_word c.args.black 2560)

pub loop-preserved : goal.loop-preserved
loop-preserved g c =
    repeated-next c.args.writer.now c.loop.writer c.push_entry.new.self (run_word c.args.black 2560) c.loop.counter c.loop.invariant
    (c.in_ok-push_entry.ensures ∙ ap (λ (t : List ℕ). c.loop.writer ++ t) c.part_entry.ensures.value)

pub returns-then-left-lt64 : goal.returns-then-left-lt64
returns-then-left-lt64 g c =
    on_ok_weaker c.push_entry-then-left-lt64.result (λ is.
    run-short c.args.black c.args.run c.loop.counter c.args.writer.now c.loop.writer c.push_entry-then-left-lt64.new.self c.if-left-lt64.true (omega arith) c.loop.invariant
    (is ∙ ap (λ (t : List ℕ). c.loop.writer ++ t) c.end_entry.ensures.value))
    c.push_entry-then-left-lt64.ensures

pub returns : goal.returns
returns g c =
    on_ok_weaker c.push_entry-3.result (λ is.
    run-long c.args.black c.args.run c.loop.counter c.args.writer.now c.loop.writer c.push_entry-2.new.self c.push_entry-3.new.self c.if-left-lt64.false (omega arith) c.loop.invariant
    (c.in_ok-push_entry-2.ensures ∙ ap (λ (t : List ℕ). c.loop.writer ++ t) c.part_entry-2.ensures.value)
    (is ∙ ap (λ (t : List ℕ). c.push_entry-2.new.self ++ t) c.end_entry-2.ensures.value))
    c.push_entry-3.ensures
