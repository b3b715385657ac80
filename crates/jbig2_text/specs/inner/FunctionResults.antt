-- Parts of the definitions that have a name here, because private functions give them.
use Rattle.std.specs.Prelude.{◌≡◌, ◌≢◌, ℕ, ◌-◌, ◌/◌, ◌%◌, ◌==◌, Bool, false, if◌then◌else◌, ℤ, pos, ◌-ℤ◌, List, [], Option}
use Rattle.std.specs.Prelude.{Result, Ok, Err}
use Rattle.std.specs.Option.{is_some}
use Rattle.jbig2_base.specs.Results.{◌>>=◌, refuse_if}
use Rattle.jbig2_base.specs.Grid.{Grid}
use Rattle.jbig2_base.specs.declared.bitmap.operator.CombinationOperator.{CombinationOperator}
use Rattle.jbig2_base.specs.declared.error.DecodeError.{DecodeError}
use Rattle.jbig2_base.specs.declared.error.DecodeError.TheVariants.{OutOfMemory, Symbol}
use Rattle.jbig2_base.specs.declared.error.SymbolError.TheVariants.{TooManyInstances}
use Rattle.jbig2_coder.specs.Coder.{Context}
use Rattle.jbig2_coder.specs.PrefixCode.{Member, prefix_code}
use Rattle.jbig2_coder.specs.Tables.{next_custom, standard, lines_a, lines_n, lines_o}
use Rattle.jbig2_coder.specs.Coder.{fresh_contexts}
use Rattle.jbig2_region.specs.RefinementTemplates.{refinement_bits, refinement_pixels_at, refinement_template_of}
use Rattle.jbig2_region.specs.declared.template.AdaptiveTemplatePixel.{AdaptiveTemplatePixel}
use Rattle.jbig2_region.specs.declared.template.RefinementTemplate.{RefinementTemplate}
use Rattle.jbig2_text.specs.Refining.{Refining}
use Rattle.jbig2_text.specs.Text.{TextState, Readings, TextParams, after_instances, next_cursor, far_end}
use Rattle.jbig2_text.specs.Text.{is_last_along_s, strip_start, with_instance}
use Rattle.jbig2_text.specs.TextHeader.{corner_of, signed_5}
use Rattle.jbig2_text.specs.TextRegion.{one_of_two}
use Rattle.jbig2_text.specs.declared.cursor.Cursor.{Cursor}
use Rattle.jbig2_text.specs.declared.header.TextRegionFlags.{TextRegionFlags}

-- ---- the header
-- the bits of the flags after SBHUFF
abbrev pub other_flags : ℕ → CombinationOperator → TextRegionFlags
other_flags flags operator = record {
  use_refinement = flags / 2 % 2 == 1;
  log_strip_size = flags / 4 % 4;
  reference_corner = corner_of (flags / 16 % 4);
  transposed = flags / 64 % 2 == 1;
  combination_operator = operator;
  default_pixel = flags / 512 % 2 == 1;
  delta_s_offset = signed_5 (flags / 1024 % 32);
  refinement_template = refinement_template_of (flags / 32768);
}

abbrev pub text_pixels_at : Bool → RefinementTemplate → List ℕ
    → Result (List AdaptiveTemplatePixel × List ℕ) DecodeError
text_pixels_at refined template bytes = if refined then refinement_pixels_at template bytes else Ok ([], bytes)

abbrev pub table_of_refinement : ℕ → List (List Member) → Result (List Member × List (List Member)) DecodeError
table_of_refinement n customs = one_of_two (prefix_code lines_n) (prefix_code lines_o) n customs

abbrev pub table_of_size : ℕ → List (List Member) → Result (List Member × List (List Member)) DecodeError
table_of_size n customs = if n == 0 then standard (prefix_code lines_a) customs else next_custom customs

-- ---- refinement
-- R_I
abbrev pub refinement_flag : {S : Type 0} → Readings S → TextRegionFlags → S → Result (Bool × S) DecodeError
refinement_flag r flags s = if flags.use_refinement then r.is_refined s else Ok (false, s)

abbrev pub refining_by : RefinementTemplate → List AdaptiveTemplatePixel → List Context → Refining
refining_by template pixels contexts = record { template = template; pixels = pixels; contexts = contexts }

abbrev pub fresh_refining : RefinementTemplate → List AdaptiveTemplatePixel → Refining
fresh_refining template pixels = refining_by template pixels (fresh_contexts (refinement_bits template))

-- ---- places
-- the distance from the first pixel of a side to the last
abbrev pub last_offset : ℕ → ℤ
last_offset side = pos side -ℤ pos 1

-- CURS where a symbol is placed, and CURS after it
abbrev pub s_before : TextRegionFlags → Grid → ℤ → Result ℤ DecodeError
s_before flags g curs = if is_last_along_s flags then far_end flags g curs else Ok curs

abbrev pub s_after : TextRegionFlags → Grid → ℤ → Result ℤ DecodeError
s_after flags g curs = if is_last_along_s flags then Ok curs else far_end flags g curs

-- ---- instances
abbrev pub reaching : {S : Type 0} → Grid → Cursor → Refining → S → TextState S
reaching region c f s = record { region = region; cursor = c; refining = f; state = s }

-- whether a strip may end with this IDS
abbrev pub end_of_strip : Bool → Result (Option ℤ) DecodeError → Result (Unit {0}) DecodeError
end_of_strip strict ids = if strict then (ids >>= λ o. refuse_if (is_some o) (Symbol TooManyInstances)) else Ok tt

-- At an error this many are counted. Without memory there is no count.
abbrev pub CountsAt : DecodeError → ℕ → Result ℕ DecodeError → Type 0
CountsAt e n (Ok counted) = (counted ≡ n) × (e ≢ OutOfMemory)
CountsAt e n (Err fault) = fault ≡ OutOfMemory

module _ {S : Type 0} (r : Readings S) (p : TextParams) where
  -- one more instance, and the place of the one after it
  abbrev pub with_next_instance : TextState S → Result (TextState S) DecodeError
  with_next_instance x = do
    y ← with_instance r p x
    (cursor, after) ← next_cursor r p.flags y.cursor y.state
    Ok (reaching y.region cursor y.refining after)

  -- the last instance, and then the end of its strip
  abbrev pub with_last : TextState S → Result (Grid × Refining × S) DecodeError
  with_last x = do
    last ← with_instance r p x
    ends ← end_of_strip p.strict (r.delta_s last.state)
    Ok (last.region, last.refining, r.after_delta_s last.state)

  -- all strips after this STRIPT, where there are instances; `strips` allows for none
  abbrev pub some_strips : Grid → ℤ → Refining → S → Result (Grid × Refining × S) DecodeError
  some_strips region stript f s = do
    (cursor, after) ← strip_start r p.flags stript (pos 0) s
    x ← after_instances r p (p.count - 1) (reaching region cursor f after)
    with_last x

  abbrev pub strips : Grid → ℤ → Refining → S → Result (Grid × Refining × S) DecodeError
  strips region stript f s = if p.count == 0 then Ok (region, f, s) else some_strips region stript f s

-- after an error, too, a region keeps its size
abbrev pub KeepsSize : Grid → Grid → Type 0
KeepsSize old new = (new.width ≡ old.width) × (new.height ≡ old.height)
