-- No code of a table begins another, whichever way the table is made.
use Rattle.std.proofs.Common.{◌<◌, List, [], length, get_or, Ok, Err, Result, sym, subst}
use Rattle.std.specs.Prelude.{All, IfOk}
use Rattle.std.proofs.lemmas.Bool.{cond_both}
use Rattle.std.proofs.lemmas.List.{length-map, get_or-map}
use Rattle.jbig2_base.specs.Results.{◌>>=◌}
use Rattle.jbig2_base.specs.Bits.{Place}
use Rattle.jbig2_base.specs.declared.error.DecodeError.{DecodeError}
use Rattle.jbig2_base.specs.declared.error.DecodeError.TheVariants.{Huffman}
use Rattle.jbig2_base.specs.declared.error.HuffmanError.TheVariants.{InvalidCode}
use Rattle.jbig2_coder.specs.declared.huffman_table.line.TableLine.{TableLine}
use Rattle.jbig2_coder.specs.PrefixCode.{Member, IsFree, is_crowded, longest, prefix_code, table_of}
use Rattle.jbig2_coder.specs.Tables.{standard_codes, standard_tables, uniform}
use Rattle.jbig2_coder.specs.CustomTable.{TableStep, custom_lines, custom_table, left_at, TablesAreFree}
use Rattle.jbig2_coder.specs.inner.PrefixLevels.{groups}
use Rattle.jbig2_coder.proofs.PrefixFree.{free-codes}
use Rattle.jbig2_coder.proofs.PrefixKraft.{prefix_code-is}

free-code : (lines : List TableLine) → IsFree (prefix_code lines)
free-code lines =
    let P : List Member → Type 0 = λ ms. IsFree ms in
    subst P (sym (prefix_code-is lines)) (free-codes 0 0 (groups (longest lines) 1 lines))

free-listed : (lines : List TableLine) → IfOk (table_of lines) IsFree
free-listed lines =
    let P : Result (List Member) DecodeError → Type 0 = λ r. IfOk r IsFree in
    cond_both (is_crowded lines) (Err (Huffman InvalidCode)) (Ok (prefix_code lines)) P (λ crowded. tt) (λ fits. free-code lines)

free-left : (p : Place) (r : Result (List Member) DecodeError) → IfOk r IsFree → IfOk (left_at p r) (λ table. IsFree table.0)
free-left p (Ok table) is = is
free-left p (Err e) is = tt

free-after : (lines : TableStep (List TableLine)) → IfOk (lines >>= λ xs. left_at xs.1 (table_of xs.0)) (λ table. IsFree table.0)
free-after (Ok lines) = free-left lines.1 (table_of lines.0) (free-listed lines.0)
free-after (Err e) = tt

free-custom : (p : Place) → IfOk (custom_table p) (λ table. IsFree table.0)
unfolding custom_table
free-custom p = free-after (custom_lines p)

free-standard : All IsFree standard_codes
unfolding standard_codes
free-standard i d h =
    let P : List Member → Type 0 = λ ms. IsFree ms in
    let inside : i < length standard_tables = simp length-map at h in
    subst P (sym (get_or-map prefix_code standard_tables i [] d inside)) (free-code (get_or standard_tables i []))

pub tables_are_free : TablesAreFree
tables_are_free = record { listed = free-listed; uniform = λ count code_length. free-listed (uniform count code_length); custom = free-custom; standard = free-standard }
