use Rattle.std.proofs.Common.{◌≡◌, ℕ, ◌<◌, List, Option, arith, length, take, ◌++◌, sym, ap, subst, ◌∙◌}
use Rattle.std.specs.Io.KnownBytes.{Consumes}
use Rattle.hayro_jbig2.proofs.Consuming.{consumes-all, consumes-kept, consumes-more, consumes-none}
use Rattle.hayro_jbig2.proofs.reading.read_all.Goals as goal
use Rattle.hayro_jbig2.proofs.reading.read_all.Goals.{in-Ok+in_ok-extend_from_slice-in-Ok, in-Err+else-ne}

pub returns-in-Ok-eq0-clause-bytes : goal.returns-in-Ok-eq0-clause-bytes
returns-in-Ok-eq0-clause-bytes g c =
    let first : Option (List ℕ) = g.R.Read.remaining c.args.reader.now in
    let before : Option (List ℕ) = g.R.Read.remaining c.loop-turn.reader in
    let after : Option (List ℕ) = g.R.Read.remaining c.read.new.self in
    let read = c.in-Ok-eq0.ensures.bytes in
    let room : 0 < length c.read.new.buf = omega arith in
    let none : take c.in-Ok-eq0.field-0 c.read.new.buf ≡ take 0 c.read.new.buf = ap (λ (n : ℕ). take n c.read.new.buf) c.in-Ok-eq0.field-0-test in
    consumes-all first after c.loop-turn.bytes.items
    (consumes-none first before after c.loop-turn.bytes.items (take c.in-Ok-eq0.field-0 c.read.new.buf) c.loop-turn.invariant read.0 none)
    (read.1 c.in-Ok-eq0.field-0-test room)

pub loop-turn-preserved : goal.loop-turn-preserved
loop-turn-preserved g c =
    let first : Option (List ℕ) = g.R.Read.remaining c.args.reader.now in
    let before : Option (List ℕ) = g.R.Read.remaining c.loop-turn.reader in
    let after : Option (List ℕ) = g.R.Read.remaining c.read.new.self in
    let bytes : List ℕ = c.loop-turn.bytes.items in
    let Now : List ℕ → Type 0 = λ bs. Consumes first after bs in
    elim c.match-read.branch [
      | in-Ok+in_ok-extend_from_slice-in-Ok w ↦
          (
          let block : List ℕ = take w.in-Ok.count c.read.new.buf in
          let is : c.match-read.bytes.items ≡ bytes ++ block = ap (λ v. v.items) w.bytes-is ∙ w.in_ok-extend_from_slice-in-Ok.ensures.items in
          subst Now (sym is) (consumes-more first before after bytes block c.loop-turn.invariant w.in-Ok.ensures.bytes.0)
          )
      | in-Err+else-ne w ↦
          (
          let is : c.match-read.bytes.items ≡ bytes = ap (λ v. v.items) w.bytes-is in
          subst Now (sym is) (consumes-kept first before after bytes c.loop-turn.invariant w.in-Err.ensures.bytes)
          )
    ]
