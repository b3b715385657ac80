use Rattle.std.proofs.Common.{true, false, List, ℕ, inr, ◌∙◌, ap}
use Rattle.std.specs.List.{list_any}
use Rattle.std.specs.Prelude.{nat_le}
use Rattle.jbig2_framing.proofs.SegmentLemmas.{referred_by}
use Rattle.jbig2_framing.proofs.segment.referred_numbers.Goals as goal

pub returns-then-is_any_later-clause-value : goal.returns-then-is_any_later-clause-value
returns-then-is_any_later-clause-value g c =
    rw c.into.ensures (inr (referred_by c.args.own _ _ _ _ _ _ _ true c.in_ok-count.ensures.value c.number_size.ensures c.in_ok-bytes.ensures.parses.value c.in_ok-numbers.ensures (c.if-is_any_later.ensures ∙ ap (λ (ns : List ℕ). list_any (λ n. nat_le c.args.own n) ns) c.deref.ensures.value)))

pub returns-clause-value : goal.returns-clause-value
returns-clause-value g c =
    referred_by c.args.own _ _ _ _ _ _ _ false c.in_ok-count.ensures.value c.number_size.ensures c.in_ok-bytes.ensures.parses.value c.in_ok-numbers.ensures (c.if-is_any_later.ensures ∙ ap (λ (ns : List ℕ). list_any (λ n. nat_le c.args.own n) ns) c.deref.ensures.value)
