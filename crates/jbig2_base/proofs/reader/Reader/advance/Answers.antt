use Rattle.std.proofs.Common.{◌≡◌, ℕ, ◌+◌, ◌/◌, ◌%◌, ap, ◌∙◌, arith}
use Rattle.jbig2_base.specs.Bits.{bits_left}
use Rattle.jbig2_base.proofs.ReaderLemmas.{place_in}
use Rattle.jbig2_base.proofs.NumberLemmas.{place-on, rest-on, place-past, rest-past}
use Rattle.jbig2_base.proofs.reader.Reader.advance.Goals as goal

pub returns-then-div_ceil-self-clause-place : goal.returns-then-div_ceil-self-clause-place
returns-then-div_ceil-self-clause-place c =
    rw (← c.self.view_is) (place-past c.self.inside.bytes.now c.self.inside.byte c.self.inside.bit c.args.count c.self.invariant.1 c.self.invariant.2 c.self.invariant.0 (omega arith))

pub returns-then-div_ceil-self-clause-rest : goal.returns-then-div_ceil-self-clause-rest
returns-then-div_ceil-self-clause-rest c =
    rw (← c.self.view_is) (rest-past c.self.inside.bytes.now c.self.inside.byte c.self.inside.bit c.args.count (omega arith))

pub returns-else-div_ceil-self-clause-place : goal.returns-else-div_ceil-self-clause-place
returns-else-div_ceil-self-clause-place c =
    let xs = c.self.inside.bytes.now in
    let i = c.self.inside.byte in
    let end : c.from.result + c.from-2.result ≡ c.self.inside.bit + c.args.count = omega arith in
    rw (← c.self.view_is)
    (ap (λ (e : ℕ). place_in xs (i + e / 8) (e % 8)) end ∙ place-on xs i c.self.inside.bit c.args.count (omega arith))

pub returns-else-div_ceil-self-clause-rest : goal.returns-else-div_ceil-self-clause-rest
returns-else-div_ceil-self-clause-rest c =
    let xs = c.self.inside.bytes.now in
    let i = c.self.inside.byte in
    let end : c.from.result + c.from-2.result ≡ c.self.inside.bit + c.args.count = omega arith in
    rw (← c.self.view_is)
    (ap (λ (e : ℕ). bits_left (place_in xs (i + e / 8) (e % 8))) end ∙ rest-on xs i c.self.inside.bit c.args.count)
