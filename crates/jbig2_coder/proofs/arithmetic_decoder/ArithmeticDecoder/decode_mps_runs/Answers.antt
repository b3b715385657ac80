use Rattle.std.proofs.Common.{◌≡◌, ◌-◌, ◌*◌, ◌/◌, refl, sym, ap, arith, ℕ}
use Rattle.jbig2_coder.proofs.Runs.{groups-yes, groups-no, groups-fit, groups-fall, groups-some}
use Rattle.jbig2_coder.specs.Coder.{Coder, Context}
use Rattle.jbig2_coder.specs.QeTable.{qe_row}
use Rattle.jbig2_coder.specs.inner.Ahead.{seen_of, seen_registers}
use Rattle.jbig2_coder.specs.inner.States.{context_in_state}
use Rattle.jbig2_coder.proofs.arithmetic_decoder.ArithmeticDecoder.decode_mps_runs.Goals as goal

pub overflow_mul-total : goal.overflow_mul-total
overflow_mul-total g c =
    let fit = groups-fit c.state_at.result.qe c.args.count c.args.most c.state_at.ensures.half c.requires.group c.requires.few in
    omega (arith, fit.0)

pub whole_groups-groups-requires-clause-some : goal.whole_groups-groups-requires-clause-some
whole_groups-groups-requires-clause-some g c = groups-some c.state_at.result.qe c.args.count c.state_at.ensures.some c.requires.some

pub whole_groups-groups-requires-clause-fits : goal.whole_groups-groups-requires-clause-fits
whole_groups-groups-requires-clause-fits g c =
    let fit = groups-fit c.state_at.result.qe c.args.count c.args.most c.state_at.ensures.half c.requires.group c.requires.few in
    omega (arith, fit.1)

pub returns-clause-quiet : goal.returns-clause-quiet
returns-clause-quiet g c =
    let x : Context = context_in_state c.context.inside.state in
    rw (← c.self.view_is, ← c.context.view_is)
    (groups-yes c.args.count c.whole_groups-groups.result c.self.inside.bytes.now (seen_registers c.self.inside.registers) x c.state_at.result.qe (c.state_at.result.qe * c.args.count) c.saturating_sub-room.result (sym c.state_at.ensures.qe) refl (omega arith)
    (groups-some c.state_at.result.qe c.args.count c.state_at.ensures.some c.requires.some) c.whole_groups-groups.ensures.within)

pub returns-clause-last : goal.returns-clause-last
returns-clause-last g c = λ less.
    let x : Context = context_in_state c.context.inside.state in
    rw (← c.self.view_is, ← c.context.view_is)
    (groups-no c.args.count c.whole_groups-groups.result c.self.inside.bytes.now (seen_registers c.self.inside.registers) x c.state_at.result.qe (c.state_at.result.qe * c.args.count) c.saturating_sub-room.result (sym c.state_at.ensures.qe) c.state_at.ensures.some c.requires.some refl (omega arith)
    (c.whole_groups-groups.ensures.last less))

pub returns-clause-coder : goal.returns-clause-coder
returns-clause-coder g c =
    let product : c.state_at.result.qe * c.args.count * c.whole_groups-groups.result ≡ c.args.count * c.whole_groups-groups.result * (qe_row (c.context.inside.state / 2)).qe = groups-fall c.state_at.result.qe c.args.count c.whole_groups-groups.result _ c.state_at.ensures.qe in
    rw (← c.self.view_is, ← c.context.view_is) (ap (λ (n : ℕ). let q : Coder = record { bytes = c.self.inside.bytes.now; registers = record { a = c.self.inside.registers.a - n; code = seen_of c.self.inside.registers.code } } in q) product)
