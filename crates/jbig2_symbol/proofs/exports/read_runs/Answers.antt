use Rattle.std.proofs.Common.{◌≡◌, ◌+◌, ◌-◌, eqb, length, sym, ap, ◌∙◌, inr, arith, rules}
use Rattle.std.specs.Prelude.{sum}
use Rattle.jbig2_symbol.specs.inner.SymbolViews.{input_view}
use Rattle.jbig2_symbol.proofs.ExportLemmas.{room-left, sum-pushed}
use Rattle.jbig2_symbol.proofs.JoinedLemmas.{joined-done, joined-fault, joined-none, joined-start, next-empty, next-full, next-joins, not-joined}
use Rattle.jbig2_symbol.proofs.exports.read_runs.Goals as goal
use Rattle.jbig2_symbol.proofs.exports.read_runs.Goals.{else-joins+else-run-eq0+in_ok-push, else-joins+then-run-eq0, else-loop-test, then-joins, then-loop-test+then-left-eq0}
use Rattle.jbig2_base.specs.Bits.{bit_number}

pub returns-then-count-eq0-clause-value : goal.returns-then-count-eq0-clause-value
returns-then-count-eq0-clause-value g c =
    let r = g.R.ReadClasses in
    joined-none r.readings (input_view c.args.input.now) (c.args.count + 1048576) 0 c.args.count c.new-runs.result.items (r.state c.args.readings.now) c.if-count-eq0.true c.new-runs.ensures.items

pub loop-init : goal.loop-init
loop-init g c =
    let r = g.R.ReadClasses in
    let none : length c.new-runs.result.items ≡ 0 = ap length c.new-runs.ensures.items in
    let no_sum : sum c.new-runs.result.items ≡ 0 = ap sum c.new-runs.ensures.items in
    let whole : c.args.count + 1048576 - 0 ≡ c.args.count + 1048576 = omega arith in
    record {
      few = omega arith;
      enough = omega arith;
      covered = omega (arith, no_sum);
      small = omega (arith, none);
      apart = λ joins. omega arith;
      reads = rw whole (joined-start r.readings (input_view c.args.input.now) (c.args.count + 1048576) (c.args.count + 1048575) 0 c.args.count c.new-runs.result.items (r.state c.args.readings.now) (omega arith) (omega arith) c.new-runs.ensures.items);
      paid = omega arith;
    }

pub returns-in-Err-clause-value : goal.returns-in-Err-clause-value
returns-in-Err-clause-value g c =
    let r = g.R.ReadClasses in
    inr
    (sym c.loop.invariant.reads
    ∙ joined-fault r.readings (input_view c.args.input.now) (c.args.count + 1048576 - c.loop.counter) (c.args.count + 1048576 - (c.loop.counter + 1)) c.loop.empty c.loop.left c.loop.joins c.loop.runs.items c.loop.last (r.state c.loop.readings) c.in-Err.error (omega arith) (omega arith) c.in-Err.ensures.value)

pub loop-preserved : goal.loop-preserved
loop-preserved g c =
    let r = g.R.ReadClasses in
    let d = input_view c.args.input.now in
    let run = c.in-Ok.run' in
    let n = c.args.count + 1048576 - c.loop.counter in
    let m = c.args.count + 1048576 - (c.loop.counter + 1) in
    let s = r.state c.loop.readings in
    let t = r.state c.read_run.new.readings in
    let is : c.from-empty.result ≡ bit_number (eqb run 0) = search rules in
    let room = room-left c.loop.empty run c.from-empty.result c.loop.left m is c.in-Ok.ensures.few c.loop.invariant.few c.in-Ok.ensures.within (omega arith) in
    let covered : sum c.loop.runs.items + c.loop.last + c.loop.left ≡ c.args.count = c.loop.invariant.covered in
    record {
      few = room.0;
      enough = room.1;
      covered = elim c.if-joins.branch [
        | then-joins w ↦ rw (w.runs-is, w.last-is) (omega (arith, covered, c.in-Ok.ensures.within))
        | else-joins+then-run-eq0 w ↦ rw (w.runs-is, w.last-is) (omega (arith, covered, w.if-run-eq0.true))
        | else-joins+else-run-eq0+in_ok-push w ↦
            let pushed = sum-pushed c.loop.runs.items w.push.new.self.items c.loop.last w.in_ok-push.ensures.items in
            rw (w.runs-is, w.last-is) (omega (arith, covered, pushed, c.in-Ok.ensures.within))
      ];
      small = elim c.if-joins.branch [
        | then-joins w ↦ rw w.runs-is (omega (arith, c.loop.invariant.small))
        | else-joins+then-run-eq0 w ↦ rw w.runs-is (omega (arith, c.loop.invariant.small))
        | else-joins+else-run-eq0+in_ok-push w ↦
            let more : length w.push.new.self.items ≡ length c.loop.runs.items + 1 = search rules in
            rw w.runs-is (omega (arith, more, c.loop.invariant.small, c.in-Ok.ensures.within, w.if-run-eq0.false))
      ];
      apart = elim c.if-joins.branch [
        | then-joins w ↦ rw w.joins-is (λ joins. cc)
        | else-joins+then-run-eq0 w ↦ λ joins. omega (arith, w.if-run-eq0.true)
        | else-joins+else-run-eq0+in_ok-push w ↦ rw w.joins-is (λ joins. cc)
      ];
      reads = elim c.if-joins.branch [
        | then-joins w ↦ rw (w.runs-is, w.last-is, w.joins-is, is)
            (sym (next-joins r.readings d n m c.loop.empty c.loop.left run c.loop.joins c.loop.runs.items c.loop.last s t (omega arith) (omega arith) c.in-Ok.ensures.value w.if-joins.true)
            ∙ c.loop.invariant.reads)
        | else-joins+then-run-eq0 w ↦ rw (w.runs-is, w.last-is, w.joins-is, is)
            (sym (next-empty r.readings d n m c.loop.empty c.loop.left run c.loop.joins c.loop.runs.items c.loop.last s t (omega arith) (omega arith) c.in-Ok.ensures.value w.if-joins.false w.if-run-eq0.true)
            ∙ c.loop.invariant.reads)
        | else-joins+else-run-eq0+in_ok-push w ↦ rw (w.runs-is, w.last-is, w.joins-is, is)
            (sym (next-full r.readings d n m c.loop.empty c.loop.left run c.loop.joins c.loop.runs.items w.push.new.self.items c.loop.last s t (omega arith) (omega arith) c.in-Ok.ensures.value w.if-joins.false w.if-run-eq0.false w.in_ok-push.ensures.items)
            ∙ c.loop.invariant.reads)
      ];
      paid = omega (arith, c.in_ok-pay.ensures.taken, c.read_run.ensures.paid, c.loop.invariant.paid);
    }

pub returns-clause-value : goal.returns-clause-value
returns-clause-value g c =
    let r = g.R.ReadClasses in
    let none : c.loop.left ≡ 0 = elim c.loop-test.branch [ else-loop-test w ↦ omega arith | then-loop-test+then-left-eq0 w ↦ omega arith ] in
    let apart = not-joined c.loop.joins c.loop.left none c.loop.invariant.apart in
    sym c.loop.invariant.reads
    ∙ joined-done r.readings (input_view c.args.input.now) (c.args.count + 1048576 - c.loop.counter) c.loop.empty c.loop.left c.loop.joins c.loop.runs.items c.push-2.new.self.items c.loop.last (r.state c.loop.readings) none apart c.in_ok-push-2.ensures.items

pub returns-clause-whole : goal.returns-clause-whole
returns-clause-whole g c =
    let none : c.loop.left ≡ 0 = elim c.loop-test.branch [ else-loop-test w ↦ omega arith | then-loop-test+then-left-eq0 w ↦ omega arith ] in
    let pushed = sum-pushed c.loop.runs.items c.push-2.new.self.items c.loop.last c.in_ok-push-2.ensures.items in
    omega (arith, none, pushed, c.loop.invariant.covered)

pub overflow_add-last : goal.overflow_add-last
overflow_add-last g c = omega (arith, c.loop.invariant.covered, c.in-Ok.ensures.within)

pub overflow_sub-left : goal.overflow_sub-left
overflow_sub-left g c = omega (arith, c.in-Ok.ensures.within)
