use Rattle.std.proofs.Common.{◌≡◌, ℕ, ◌/◌, ◌%◌, List, [], length, drop, Some, ap, sym, ◌∙◌, arith}
use Rattle.std.proofs.lemmas.List.{length-drop}
use Rattle.jbig2_mmr.specs.T6.{runs_of}
use Rattle.jbig2_mmr.specs.inner.T6Reading.{Rest, spell}
use Rattle.jbig2_mmr.proofs.T6Lookup.{lookup-none, lookup-short, lookup-some, entry-none, entry-some}
use Rattle.jbig2_mmr.proofs.T6Tables.{runs-prefix_free, runs-short, runs-window}
use Rattle.jbig2_mmr.proofs.mmr.bits.CodeReader.read_run_code.Goals as goal
use Rattle.jbig2_mmr.proofs.mmr.bits.CodeReader.read_run_code.Goals.{then-size-eq0-via-then-size-eq0, then-size-eq0-via-else-size-eq0+then-size-few}

pub returns-then-size-eq0-clause-value : goal.returns-then-size-eq0-clause-value
returns-then-size-eq0-clause-value c =
    let cs = runs_of c.args.black in
    let bits : List ℕ = c.args.self.now.left in
    let word : List ℕ = spell 24 c.window.result [] in
    let number = c.window.ensures.value 24 (omega arith) in
    elim c.then-size-eq0.branch [
      | then-size-eq0-via-then-size-eq0 w ↦
          lookup-none (runs_of c.args.black) 24 c.window.result bits (omega arith) (runs-window c.args.black) c.window.ensures.bits (omega (arith, number))
          (entry-none (runs_of c.args.black) word c.run_entry-entry.result (runs-short c.args.black) c.run_entry-entry.ensures (sym c.from-size.ensures ∙ w.if-size-eq0.true))
      | then-size-eq0-via-else-size-eq0+then-size-few w ↦
          lookup-short (runs_of c.args.black) 24 c.window.result bits (c.run_entry-entry.result / 16) (c.run_entry-entry.result % 16) (omega arith) (runs-window c.args.black) (runs-prefix_free c.args.black) c.window.ensures.bits (omega (arith, number))
          (entry-some (runs_of c.args.black) word c.run_entry-entry.result (runs-short c.args.black) c.run_entry-entry.ensures (λ none. w.if-size-eq0.false (c.from-size.ensures ∙ none)))
          (omega (arith, w.if-size-few.true, w.few.ensures, c.from-size.ensures))
    ]

pub returns-then-size-eq0-clause-law : goal.returns-then-size-eq0-clause-law
returns-then-size-eq0-clause-law c = runs-prefix_free c.args.black

pub returns-clause-value : goal.returns-clause-value
returns-clause-value c =
    let bits : List ℕ = c.args.self.now.left in
    let number = c.window.ensures.value 24 (omega arith) in
    let left : c.skip.new.self.left ≡ drop (c.run_entry-entry.result % 16) c.args.self.now.left = ap (λ (r : Rest). r.left) c.skip.ensures ∙ ap (λ (n : ℕ). drop n c.args.self.now.left) c.from-size.ensures in
    ap (λ (ys : List ℕ). Some (c.run_entry-entry.result / 16, ys)) left
    ∙ lookup-some (runs_of c.args.black) 24 c.window.result bits (c.run_entry-entry.result / 16) (c.run_entry-entry.result % 16) (omega arith) (runs-window c.args.black) c.window.ensures.bits (omega (arith, number))
    (entry-some (runs_of c.args.black) (spell 24 c.window.result []) c.run_entry-entry.result (runs-short c.args.black) c.run_entry-entry.ensures (λ none. c.if-size-eq0.false (c.from-size.ensures ∙ none)))
    (omega (arith, c.if-size-few.false, c.few.ensures, c.from-size.ensures))

pub returns-clause-shorter : goal.returns-clause-shorter
returns-clause-shorter c =
    let left = ap (λ (r : Rest). r.left) c.skip.ensures in
    let some : c.from-size.result ≡ 0 → ⊥ = c.if-size-eq0.false in
    omega (arith, some, ap length left, length-drop c.from-size.result c.args.self.now.left, c.if-size-few.false, c.few.ensures)

pub returns-clause-law : goal.returns-clause-law
returns-clause-law c = runs-prefix_free c.args.black
