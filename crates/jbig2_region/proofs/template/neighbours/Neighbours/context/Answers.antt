use Rattle.std.proofs.Common.{subst, sym, ℕ, ◌^◌, ◌<◌}
use Rattle.jbig2_region.specs.inner.Neighbours.{neighbour_count}
use Rattle.jbig2_region.proofs.GatherLemmas.{context-gathered, fields}
use Rattle.jbig2_region.proofs.template.neighbours.Neighbours.context.Goals as goal

pub returns-clause-value : goal.returns-clause-value
returns-clause-value c = context-gathered c.args.self c.args.register c.args.beside c.requires.near

pub returns-clause-bound : goal.returns-clause-bound
returns-clause-bound c = subst (λ (n : ℕ). n < 2 ^ neighbour_count c.args.self) (sym (context-gathered c.args.self c.args.register c.args.beside c.requires.near)) (fields c.args.self c.args.register c.args.beside c.requires.near)
