-- Symbols that are put together from others.
use Rattle.std.proofs.Common.{◌≡◌, ℕ, max, List, length, ◌++◌, Ok, Err, sym, refl, inl, inr, ◌⊎◌}
use Rattle.jbig2_base.specs.Bits.{Place}
use Rattle.jbig2_base.specs.Grid.{Grid}
use Rattle.jbig2_base.specs.declared.error.DecodeError.{DecodeError}
use Rattle.jbig2_base.specs.declared.error.DecodeError.TheVariants.{OutOfMemory}
use Rattle.jbig2_text.specs.Refining.{Refining}
use Rattle.jbig2_text.specs.Text.{TextParams}
use Rattle.jbig2_text.specs.TextCoding.{TextTables, by_prefix_codes}
use Rattle.jbig2_symbol.specs.SymbolBitmaps.{aggregate_tables, by_instances, id_bits, plain_id, prefixed_at, prefixed_instances}
use Rattle.jbig2_symbol.specs.Symbols.{exports, symbols_exported}
use Rattle.jbig2_symbol.specs.HeightClasses.{new_symbols}
use Rattle.jbig2_symbol.specs.SymbolReading.{ClassReadings, SymbolInput, SymbolState}

-- a refusal by prefix codes, where the reader, the tables and the contexts are those of the dictionary
pub prefixed-fault : (d : SymbolInput) (p : TextParams) (width height bits : ℕ) (s t : SymbolState Place) (place : Place) (tables : TextTables) (f : Refining) (error : DecodeError) → s ≡ t → place ≡ s.coding → tables ≡ aggregate_tables → f ≡ s.contexts.refining → bits ≡ max 1 (id_bits d.header (length d.symbols)) → (error ≡ OutOfMemory) ⊎ (by_instances by_prefix_codes (plain_id bits) p width height f (record { place = place; tables = tables; ids = d.ids }) ≡ Err error) → (error ≡ OutOfMemory) ⊎ (prefixed_instances d p width height t ≡ Err error)
prefixed-fault d p width height bits s t place tables f error same there meant learned many (inl memory) = inl memory
prefixed-fault d p width height bits s t place tables f error same there meant learned many (inr e) = inr (rw (sym same) (rw fault refl))
  where
    fault : by_instances by_prefix_codes (plain_id (max 1 (id_bits d.header (length d.symbols)))) p width height s.contexts.refining (prefixed_at d s.coding) ≡ Err error
    fault = rw (sym there, sym meant, sym learned, sym many) e

-- a refusal of what is exported, where the new symbols are there
pub not-exported : {S : Type 0} (r : ClassReadings S) (d : SymbolInput) (s t : S) (new seen : List Grid) (error : DecodeError) → new_symbols r d s ≡ Ok (new, t) → seen ≡ new → (error ≡ OutOfMemory) ⊎ (exports r d (d.symbols ++ seen) t ≡ Err error) → (error ≡ OutOfMemory) ⊎ (symbols_exported r d s ≡ Err error)
not-exported r d s t new seen error made all (inl memory) = inl memory
not-exported r d s t new seen error made all (inr e) = inr (rw made (rw (sym all) e))
