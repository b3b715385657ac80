use Rattle.std.proofs.Common.{arith}
use Rattle.jbig2_base.proofs.ReaderLemmas.{bit-value, bit-place_last, bit-place_more, bit-rest_last, bit-rest_more, end_place, end-bits, end-on}
use Rattle.jbig2_base.proofs.reader.Reader.read_bit.Goals as goal

pub returns-then-self-clause-value : goal.returns-then-self-clause-value
returns-then-self-clause-value c =
    rw (← c.self.view_is, end_place c.self.inside.bytes.now c.self.inside.byte c.self.inside.bit (omega arith) (omega arith) c.self.invariant.2, end-bits)

pub returns-then-self-clause-place : goal.returns-then-self-clause-place
returns-then-self-clause-place c =
    rw (← c.self.view_is, end_place c.self.inside.bytes.now c.self.inside.byte c.self.inside.bit (omega arith) (omega arith) c.self.invariant.2) (end-on 1)

pub returns-then-self-clause-rest : goal.returns-then-self-clause-rest
returns-then-self-clause-rest c =
    rw (← c.self.view_is, end_place c.self.inside.bytes.now c.self.inside.byte c.self.inside.bit (omega arith) (omega arith) c.self.invariant.2, end-bits)

pub returns-then-self-eq7-clause-value : goal.returns-then-self-eq7-clause-value
returns-then-self-eq7-clause-value c =
    rw (← c.self.view_is) (bit-value c.self.inside.bytes.now c.self.inside.byte c.self.inside.bit (omega arith) (omega arith))

pub returns-then-self-eq7-clause-place : goal.returns-then-self-eq7-clause-place
returns-then-self-eq7-clause-place c =
    rw (← c.self.view_is) (bit-place_last c.self.inside.bytes.now c.self.inside.byte c.self.inside.bit (omega arith) (omega arith))

pub returns-then-self-eq7-clause-rest : goal.returns-then-self-eq7-clause-rest
returns-then-self-eq7-clause-rest c =
    rw (← c.self.view_is) (bit-rest_last c.self.inside.bytes.now c.self.inside.byte c.self.inside.bit (omega arith) (omega arith))

pub returns-else-self-eq7-clause-value : goal.returns-else-self-eq7-clause-value
returns-else-self-eq7-clause-value c =
    rw (← c.self.view_is) (bit-value c.self.inside.bytes.now c.self.inside.byte c.self.inside.bit (omega arith) (omega arith))

pub returns-else-self-eq7-clause-place : goal.returns-else-self-eq7-clause-place
returns-else-self-eq7-clause-place c =
    rw (← c.self.view_is) (bit-place_more c.self.inside.bytes.now c.self.inside.byte c.self.inside.bit (omega arith) (omega arith))

pub returns-else-self-eq7-clause-rest : goal.returns-else-self-eq7-clause-rest
returns-else-self-eq7-clause-rest c =
    rw (← c.self.view_is) (bit-rest_more c.self.inside.bytes.now c.self.inside.byte c.self.inside.bit (omega arith) (omega arith))
