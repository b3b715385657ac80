use Rattle.std.proofs.Common.{ℕ, ◌-◌, ◌<◌, arith}
use Rattle.std.proofs.lemmas.List.Elements.{All-same}
use Rattle.jbig2_mmr_writer.proofs.BitLemmas.{byte-fits, byte-pushed, bytes-pushed, join-bits, join-fits, join-small, rest-small}
use Rattle.jbig2_mmr_writer.proofs.bits.BitWriter.push.Goals as goal

pub overflow_add-rest : goal.overflow_add-rest
overflow_add-rest g c = omega (arith, join-fits c.self.inside.count c.self.inside.rest c.args.count c.args.bits c.self.invariant.0 c.self.invariant.1 c.requires.few c.requires.small)

pub loop-left-init : goal.loop-left-init
loop-left-init g c = record {
  small = join-small c.self.inside.count c.self.inside.rest c.args.count c.args.bits c.self.invariant.0 c.self.invariant.1 c.requires.few c.requires.small;
  few = omega (arith, c.self.invariant.0, c.requires.few);
  bits = join-bits c.self.inside.count c.self.inside.rest c.args.count c.args.bits c.self.invariant.0 c.self.invariant.1 c.requires.few c.requires.small c.args.self.now c.self.inside.bytes.items c.self.view_is;
  bytes = c.self.invariant.2;
  kept_count = c.self.invariant.0;
  kept_rest = c.self.invariant.1;
}

pub overflow_cast-rest : goal.overflow_cast-rest
overflow_cast-rest g c = omega (arith, byte-fits c.loop-left.left c.loop-left.rest c.loop-left-test.true c.loop-left.invariant.small)

pub loop-left-preserved : goal.loop-left-preserved
loop-left-preserved g c = record {
  small = rest-small (c.loop-left.left - 8) c.loop-left.rest (omega (arith, c.loop-left.invariant.few));
  few = omega (arith, c.loop-left.invariant.few);
  bits = byte-pushed c.loop-left.left c.loop-left.rest c.loop-left-test.true c.loop-left.invariant.small _ c.loop-left.self-inside.bytes.items c.push.new.self.items c.loop-left.invariant.few c.loop-left.invariant.bits c.in_ok-push.ensures.items;
  bytes = bytes-pushed c.loop-left.left c.loop-left.rest c.loop-left-test.true c.loop-left.invariant.small c.loop-left.self-inside.bytes.items c.push.new.self.items c.loop-left.invariant.bytes c.in_ok-push.ensures.items;
  kept_count = c.loop-left.invariant.kept_count;
  kept_rest = c.loop-left.invariant.kept_rest;
}

pub invariant_of-self : goal.invariant_of-self
invariant_of-self g c = (
  c.loop-left.invariant.kept_count,
  c.loop-left.invariant.kept_rest,
  All-same (λ (b : ℕ). b < 256) c.push.new.self.items c.loop-left.self-inside.bytes.items c.in_err-push.ensures.items c.loop-left.invariant.bytes,
)
