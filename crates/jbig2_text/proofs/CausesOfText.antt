-- Which rule the input breaks where the instances of a text region are refused.
use Rattle.std.proofs.Common.{◌≡◌, ◌⊎◌, inl, inr, ◌^◌, ltb, Option, Some, None, refl, ℤ, pos, negsuc}
use Rattle.std.specs.Prelude.{IfErr, ◌+ℤ◌, ◌*ℤ◌}
use Rattle.std.proofs.lemmas.Bool.{ltb-false}
use Rattle.jbig2_base.specs.declared.error.DecodeError.{DecodeError}
use Rattle.jbig2_base.specs.declared.error.DecodeError.TheVariants.{Symbol}
use Rattle.jbig2_base.specs.declared.error.SymbolError.TheVariants.{InvalidStripDelta}
use Rattle.jbig2_base.proofs.Causes.{cause-next}
use Rattle.jbig2_base.specs.Causes.{After, LeavesWord}
use Rattle.jbig2_base.specs.Results.{word_or}
use Rattle.jbig2_text.specs.Causes.{BreaksMoveBy, BreaksStrip, ReadingsHaveCauses, ReadingCauses}
use Rattle.jbig2_text.specs.Text.{Readings, coordinate, next_cursor, with_ids, strip_start, strip_delta}
use Rattle.jbig2_text.specs.declared.cursor.Cursor.{Cursor}
use Rattle.jbig2_text.specs.declared.header.TextRegionFlags.{TextRegionFlags}
use Rattle.jbig2_region.proofs.ResultCauses.{IfResult, cause-last, cause-more, result-if}

-- ---- numbers
pub result-word : (P : DecodeError → Type 0) (e : DecodeError) (n : ℤ) → (LeavesWord n → P e) → IfResult (word_or e n) P (λ x. n ≡ x)
result-word P e (pos n) why = result-if P (λ x. pos n ≡ x) (ltb n 2147483648) _ _ (λ is. refl) (λ large. why (ltb-false n 2147483648 large))
result-word P e (negsuc n) why = result-if P (λ x. negsuc n ≡ x) (ltb n 2147483648) _ _ (λ is. refl) (λ large. why (ltb-false n 2147483648 large))

-- ---- strips
pub cause-delta : {S : Type 0} (c : ReadingCauses S) (r : Readings S) (a : ReadingsHaveCauses r c) (flags : TextRegionFlags) (s : S) (P : DecodeError → Type 0)
    → (After (r.delta_t s) (λ strips. LeavesWord (strips.0 *ℤ pos (2 ^ flags.log_strip_size))) → P (Symbol InvalidStripDelta)) → ((e : DecodeError) → c.delta_t s e → P e) → IfErr (strip_delta r flags s) P
unfolding strip_delta
cause-delta c r a flags s P leaves refused =
    cause-next P (r.delta_t s) _ (cause-more (c.delta_t s) P (r.delta_t s) (a.delta_t s) refused) (λ strips is.
    cause-last P _ (word_or (Symbol InvalidStripDelta) (strips.0 *ℤ pos (2 ^ flags.log_strip_size))) _ (result-word P _ (strips.0 *ℤ pos (2 ^ flags.log_strip_size)) (λ large. leaves (strips, is, large))) (λ dt r. tt))

pub cause-strip : {S : Type 0} (c : ReadingCauses S) (r : Readings S) (a : ReadingsHaveCauses r c) (flags : TextRegionFlags) (stript firsts : ℤ) (s : S)
    → IfErr (strip_start r flags stript firsts s) (BreaksStrip c r flags stript firsts s)
unfolding strip_start
cause-strip c r a flags stript firsts s =
    let P : DecodeError → Type 0 = BreaksStrip c r flags stript firsts s in
    cause-next P (strip_delta r flags s) _ (cause-delta c r a flags s P (λ leaves. inl (refl, leaves)) (λ e refused. inr (inr (inl refused)))) (λ dt dt_is.
    cause-last P _ (coordinate (stript +ℤ dt.0)) _ (result-word P _ (stript +ℤ dt.0) (λ large. inr (inl (refl, (dt, dt_is, inl large))))) (λ next next_is.
    cause-next P (r.first_s dt.1) _ (cause-more (c.first_s dt.1) P (r.first_s dt.1) (a.first_s dt.1) (λ e refused. inr (inr (inr (dt, dt_is, refused))))) (λ dfs dfs_is.
    cause-last P _ (coordinate (firsts +ℤ dfs.0)) _ (result-word P _ (firsts +ℤ dfs.0) (λ large. inr (inl (refl, (dt, dt_is, inr (dfs, dfs_is, large)))))) (λ first r. tt))))

cause-moved : {S : Type 0} (c : ReadingCauses S) (r : Readings S) (a : ReadingsHaveCauses r c) (flags : TextRegionFlags) (at : Cursor) (ids : Option ℤ) (s : S)
    → IfErr (with_ids r flags at ids s) (BreaksMoveBy c r flags at ids s)
cause-moved c r a flags at None s = cause-strip c r a flags at.strip_t at.first_s s
cause-moved c r a flags at (Some ids) s =
    let P : DecodeError → Type 0 = BreaksMoveBy c r flags at (Some ids) s in
    cause-last P _ (coordinate (at.cur_s +ℤ ids)) _ (result-word P _ (at.cur_s +ℤ ids) (λ large. (refl, inl large))) (λ after_ids is.
    cause-last P _ (coordinate (after_ids +ℤ flags.delta_s_offset)) _ (result-word P _ (after_ids +ℤ flags.delta_s_offset) (λ large. (refl, inr (rw is large)))) (λ curs r. tt))

-- the way to the next instance: IDS, and after it
abbrev pub BreaksMove : {S : Type 0} → ReadingCauses S → Readings S → TextRegionFlags → Cursor → S → DecodeError → Type 0
BreaksMove c r flags at s e = c.delta_s s e ⊎ After (r.delta_s s) (λ ids. BreaksMoveBy c r flags at ids (r.after_delta_s s) e)

pub cause-move : {S : Type 0} (c : ReadingCauses S) (r : Readings S) (a : ReadingsHaveCauses r c) (flags : TextRegionFlags) (at : Cursor) (s : S)
    → IfErr (next_cursor r flags at s) (BreaksMove c r flags at s)
unfolding next_cursor
cause-move c r a flags at s =
    let P : DecodeError → Type 0 = BreaksMove c r flags at s in
    cause-next P (r.delta_s s) _ (cause-more (c.delta_s s) P (r.delta_s s) (a.delta_s s) (λ e refused. inl refused)) (λ ids is.
    cause-more (BreaksMoveBy c r flags at ids (r.after_delta_s s)) P (with_ids r flags at ids (r.after_delta_s s)) (cause-moved c r a flags at ids (r.after_delta_s s)) (λ e broken. inr (ids, is, broken)))
