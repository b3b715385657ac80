use Rattle.jbig2_base.specs.Bits.{bits_left}
use Rattle.jbig2_base.proofs.BitFieldLemmas.{next-small, next-enough}
use Rattle.jbig2_base.proofs.field.bits_field.Goals as goal

pub returns-in-Some-clause-small : goal.returns-in-Some-clause-small
returns-in-Some-clause-small c = next-small c.args.count c.in-Some.number c.args.reader.now c.in-Some.ensures.value

pub returns-in-Some-clause-enough : goal.returns-in-Some-clause-enough
returns-in-Some-clause-enough c = next-enough c.args.count c.in-Some.number (bits_left c.args.reader.now) c.in-Some.ensures.value
