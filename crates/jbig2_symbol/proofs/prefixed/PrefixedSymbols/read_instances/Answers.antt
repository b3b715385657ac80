use Rattle.std.proofs.Common.{◌≡◌, max, length, refl, sym, ap, ◌∙◌}
use Rattle.std.proofs.Math.Nat.{max_comm}
use Rattle.std.proofs.lemmas.List.{length-map}
use Rattle.jbig2_symbol.specs.SymbolBitmaps.{id_bits}
use Rattle.jbig2_symbol.specs.inner.HeaderViews.{header_view}
use Rattle.jbig2_symbol.specs.inner.SymbolViews.{input_view, prefixed_view}
use Rattle.jbig2_text.specs.inner.TextViews.{params_view, tables_view}
use Rattle.jbig2_symbol.proofs.AggregateLemmas.{prefixed-fault}
use Rattle.jbig2_symbol.proofs.prefixed.PrefixedSymbols.read_instances.Goals as goal

pub returns-in-Err-clause-value : goal.returns-in-Err-clause-value
returns-in-Err-clause-value g c =
    let bits : c.id_bits.result ≡ id_bits (header_view c.args.input.now.header.now) (length (input_view c.args.input.now).symbols) = c.id_bits.ensures.value ∙ ap (λ n. id_bits (header_view c.args.input.now.header.now) n) (sym (length-map c.args.input.now.symbols.now (λ b. b.now))) in
    let many : c.max-bits.result ≡ max 1 (id_bits (header_view c.args.input.now.header.now) (length (input_view c.args.input.now).symbols)) = c.max-bits.ensures ∙ max_comm c.id_bits.result 1 ∙ ap (λ n. max 1 n) bits in
    let same = ap prefixed_view c.self.view_is in
    prefixed-fault (input_view c.args.input.now) (params_view c.args.params.now) c.args.size.width c.args.size.height c.max-bits.result _ (prefixed_view c.args.self.now) c.duplicate.result (tables_view c.aggregate_tables.result) c.self.inside.0.1.0.refining c.in-Err.error same c.duplicate.ensures c.aggregate_tables.ensures refl many c.in-Err.ensures.value
