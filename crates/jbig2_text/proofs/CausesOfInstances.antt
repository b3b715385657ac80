-- Which rule the input breaks where an instance of a symbol is refused.
use Rattle.std.proofs.Common.{◌≡◌, ◌⊎◌, inl, inr, ⊎_elim, ℕ, ◌<◌, eqb, ltb, Bool, true, false, cond, ◌||◌, List, length, get_or, Option, Some, None, Ok, refl, sym, ◌∙◌, subst, arith, ℤ, pos, negsuc}
use Rattle.std.specs.Prelude.{IfErr, nat_le, ◌+ℤ◌, ◌-ℤ◌}
use Rattle.std.specs.Int.{int_shr}
use Rattle.std.proofs.lemmas.Bool.{cases_lt, cond-false, cond-true, leb-true, ltb-true, or_cases}
use Rattle.std.proofs.lemmas.Option.{slice_get-get_or}
use Rattle.jbig2_base.specs.Results.{refuse_if}
use Rattle.jbig2_base.specs.Grid.{Grid, blank}
use Rattle.jbig2_base.specs.declared.error.DecodeError.{DecodeError}
use Rattle.jbig2_base.specs.declared.error.DecodeError.TheVariants.{Overflow, Symbol}
use Rattle.jbig2_base.specs.declared.error.OverflowError.TheVariants.{BitmapDimension, PlacementCoordinate, ReferenceOffset}
use Rattle.jbig2_base.specs.declared.error.SymbolError.TheVariants.{OutOfRange}
use Rattle.jbig2_base.proofs.Causes.{cause-next, cause-refused}
use Rattle.jbig2_base.specs.Causes.{After, LeavesWord}
use Rattle.jbig2_text.specs.Causes.{APlaceLeaves, ARefinementIsRefused, BreaksInstance, ReadingsHaveCauses, IsNoSide, NamesNone, ReadingCauses}
use Rattle.jbig2_text.specs.Refining.{Refining}
use Rattle.jbig2_text.specs.Text.{TextState, Readings, TextParams, coordinate, edge, far_end, instance_symbol, is_bottom, is_last_along_s, is_right, plain_symbol, reference_offset, refined_outline, refined_symbol, refinement_deltas, side_of, some_symbol, symbol_of, symbol_placed, t_in_strip, with_instance, with_symbol}
use Rattle.jbig2_text.specs.declared.cursor.Cursor.{Cursor}
use Rattle.jbig2_text.specs.declared.header.TextRegionFlags.{TextRegionFlags}
use Rattle.jbig2_text.specs.declared.refined.Outline.{Outline}
use Rattle.jbig2_text.specs.declared.refined.RefinementDeltas.{RefinementDeltas}
use Rattle.jbig2_text.specs.inner.FunctionResults.{last_offset, refinement_flag, s_before, s_after}
use Rattle.jbig2_text.proofs.CausesOfText.{result-word}
use Rattle.jbig2_region.proofs.ResultCauses.{IfResult, cause-if, cause-last, cause-more, cause-of, result-any, result-more, result-if, result-next}

-- ---- symbols
-- an id without a symbol
none-named : (symbols : List Grid) (id : ℤ) → symbol_of symbols id ≡ None → NamesNone symbols id
none-named symbols (negsuc id) none = tt
none-named symbols (pos id) none =
    ⊎_elim (λ below. absurd (some-none _ (sym (slice_get-get_or symbols id (get_or symbols id (blank 0 0 false)) below) ∙ none))) (λ above. above) (cases_lt id (length symbols))
  where
    some-none : (g : Grid) → ◌≡◌ {A = Option Grid} (Some g) None → ⊥
    some-none g same = cc

pub cause-some : (P : DecodeError → Type 0) (symbols : List Grid) (id : ℤ) (o : Option Grid) → symbol_of symbols id ≡ o → (NamesNone symbols id → P (Symbol OutOfRange))
    → IfResult (some_symbol o) P (λ g. symbol_of symbols id ≡ Some g)
cause-some P symbols id (Some g) is why = is
cause-some P symbols id None is why = why (none-named symbols id is)

result-side : (P : DecodeError → Type 0) (n : ℤ) → (IsNoSide n → P (Overflow BitmapDimension)) → IfResult (side_of n) P (λ w. n ≡ pos w)
result-side P (negsuc n) why = why tt
result-side P (pos n) why =
    result-next P (λ u. Unit {0}) (λ w. pos n ≡ pos w) (refuse_if (nat_le 2147483648 n) (Overflow BitmapDimension)) _
    (result-any P (refuse_if (nat_le 2147483648 n) (Overflow BitmapDimension)) (cause-refused P (nat_le 2147483648 n) (Overflow BitmapDimension) (λ large. why (omega (arith, leb-true 2147483648 n large))))) (λ u fits. refl)

result-outline : (P : DecodeError → Type 0) (from : Grid) (rd : RefinementDeltas)
    → (IsNoSide (pos from.width +ℤ rd.width) ⊎ IsNoSide (pos from.height +ℤ rd.height) → P (Overflow BitmapDimension))
    → (LeavesWord (int_shr rd.width 1 +ℤ rd.x) ⊎ LeavesWord (int_shr rd.height 1 +ℤ rd.y) → P (Overflow ReferenceOffset))
    → IfResult (refined_outline from rd) P (λ (o : Outline). (pos from.width +ℤ rd.width ≡ pos o.width) × (pos from.height +ℤ rd.height ≡ pos o.height))
unfolding refined_outline
result-outline P from rd side offset =
    let Q : Outline → Type 0 = λ o. (pos from.width +ℤ rd.width ≡ pos o.width) × (pos from.height +ℤ rd.height ≡ pos o.height) in
    result-next P _ Q (side_of (pos from.width +ℤ rd.width)) _ (result-side P (pos from.width +ℤ rd.width) (λ none. side (inl none))) (λ width w.
    result-next P _ Q (side_of (pos from.height +ℤ rd.height)) _ (result-side P (pos from.height +ℤ rd.height) (λ none. side (inr none))) (λ height h.
    result-next P _ Q (reference_offset rd.width rd.x) _ (result-word P _ (int_shr rd.width 1 +ℤ rd.x) (λ large. offset (inl large))) (λ dx x.
    result-next P _ Q (reference_offset rd.height rd.y) _ (result-word P _ (int_shr rd.height 1 +ℤ rd.y) (λ large. offset (inr large))) (λ dy y. (w, h)))))

cause-deltas : {S : Type 0} (c : ReadingCauses S) (r : Readings S) (a : ReadingsHaveCauses r c) (s : S) → IfErr (refinement_deltas r s) (λ e. ARefinementIsRefused c r s e)
unfolding refinement_deltas
cause-deltas c r a s =
    let P : DecodeError → Type 0 = λ e. ARefinementIsRefused c r s e in
    cause-next P (r.width_delta s) _ (cause-more (c.width_delta s) P (r.width_delta s) (a.width_delta s) (λ e no. inl no)) (λ w w_is.
    cause-next P (r.height_delta w.1) _ (cause-more (c.height_delta w.1) P (r.height_delta w.1) (a.height_delta w.1) (λ e no. inr (inl (w, w_is, inl no)))) (λ h h_is.
    cause-next P (r.x_delta h.1) _ (cause-more (c.x_delta h.1) P (r.x_delta h.1) (a.x_delta h.1) (λ e no. inr (inl (w, w_is, inr (h, h_is, inl no))))) (λ x x_is.
    cause-next P (r.y_delta x.1) _ (cause-more (c.y_delta x.1) P (r.y_delta x.1) (a.y_delta x.1) (λ e no. inr (inl (w, w_is, inr (h, h_is, inr (x, x_is, no)))))) (λ y y_is. tt))))

too-long : (b c : ℕ) → (ltb 65535 b || ltb 65535 c) ≡ true → (65535 < b) ⊎ (65535 < c)
too-long b c is = ⊎_elim (λ wide. inl (ltb-true 65535 b wide)) (λ high. inr (ltb-true 65535 c high)) (or_cases (ltb 65535 b) (ltb 65535 c) is)

-- what a refined symbol of this id may break, by the symbol that it is refined from
cause-refined : {S : Type 0} (c : ReadingCauses S) (r : Readings S) (a : ReadingsHaveCauses r c) (P : DecodeError → Type 0) (symbols : List Grid) (id : ℤ) (f : Refining) (s : S)
    → (NamesNone symbols id → P (Symbol OutOfRange))
    → ((from : Grid) → symbol_of symbols id ≡ Some from → After (refinement_deltas r s) (λ rd. IsNoSide (pos from.width +ℤ rd.0.width) ⊎ IsNoSide (pos from.height +ℤ rd.0.height)) → P (Overflow BitmapDimension))
    → ((from : Grid) → symbol_of symbols id ≡ Some from → After (refinement_deltas r s) (λ rd. LeavesWord (int_shr rd.0.width 1 +ℤ rd.0.x) ⊎ LeavesWord (int_shr rd.0.height 1 +ℤ rd.0.y)) → P (Overflow ReferenceOffset))
    → ((from : Grid) → symbol_of symbols id ≡ Some from → (e : DecodeError) → ARefinementIsRefused c r s e → P e)
    → IfErr (refined_symbol r symbols id f s) P
unfolding refined_symbol
cause-refined c r a P symbols id f s none side offset refused =
    cause-last P _ (some_symbol (symbol_of symbols id)) _ (cause-some P symbols id (symbol_of symbols id) refl none) (λ from from_is.
    cause-next P (refinement_deltas r s) _ (cause-more (ARefinementIsRefused c r s) P (refinement_deltas r s) (cause-deltas c r a s) (λ e no. refused from from_is e no)) (λ rd rd_is.
    cause-last P _ (refined_outline from rd.0) _ (result-outline P from rd.0 (λ no. side from from_is (rd, rd_is, no)) (λ no. offset from from_is (rd, rd_is, no))) (λ o o_is.
    cause-next P (refuse_if (ltb 65535 o.width || ltb 65535 o.height) (Overflow BitmapDimension)) _
    (cause-refused P (ltb 65535 o.width || ltb 65535 o.height) (Overflow BitmapDimension) (λ large. side from from_is (
      rd,
      rd_is,
      ⊎_elim
          (λ wide. inl (subst IsNoSide (sym o_is.0) wide)) (λ high. inr (subst IsNoSide (sym o_is.1) high)) (too-long o.width o.height large),
    ))) (λ u fits.
    cause-more (c.refined rd.1) P (r.refined _ o.width o.height f rd.1) (a.refined _ o.width o.height f rd.1) (λ e no. refused from from_is e (inr (inr (rd, rd_is, no))))))))

cause-plain : (P : DecodeError → Type 0) (symbols : List Grid) (id : ℤ) (strict : Bool) (o : Option Grid) → symbol_of symbols id ≡ o → (NamesNone symbols id → P (Symbol OutOfRange)) → IfErr (plain_symbol strict o) P
cause-plain P symbols id strict (Some g) is why = tt
cause-plain P symbols id true None is why = why (none-named symbols id is)
cause-plain P symbols id false None is why = tt

-- ---- the symbol of an instance
-- it is refined, and of its symbol and the state in front of the numbers of its refinement this holds
abbrev RefinedFrom : {S : Type 0} → Readings S → TextParams → ℤ → S → (Grid → S → Type 0) → Type 0
RefinedFrom r p id s Q =
    After (refinement_flag r p.flags s) (λ ri. (ri.0 ≡ true) × ((from : Grid) × (symbol_of p.symbols id ≡ Some from) × Q from ri.1))

-- what an instance's symbol may break, by the state after its id
record SymbolWhys {S : Type 0} (c : ReadingCauses S) (r : Readings S) (p : TextParams) (id : ℤ) (s : S) (P : DecodeError → Type 0) : Type 0 where
  none : NamesNone p.symbols id → P (Symbol OutOfRange)
  side : RefinedFrom r p id s (λ from u. After (refinement_deltas r u) (λ rd. IsNoSide (pos from.width +ℤ rd.0.width) ⊎ IsNoSide (pos from.height +ℤ rd.0.height))) → P (Overflow BitmapDimension)
  offset : RefinedFrom r p id s (λ from u. After (refinement_deltas r u) (λ rd. LeavesWord (int_shr rd.0.width 1 +ℤ rd.0.x) ⊎ LeavesWord (int_shr rd.0.height 1 +ℤ rd.0.y))) → P (Overflow ReferenceOffset)
  flag : (e : DecodeError) → c.is_refined s e → P e
  refused : (e : DecodeError) → RefinedFrom r p id s (λ from u. ARefinementIsRefused c r u e) → P e

cause-symbol : {S : Type 0} (c : ReadingCauses S) (r : Readings S) (a : ReadingsHaveCauses r c) (P : DecodeError → Type 0) (p : TextParams) (id : ℤ) (f : Refining) (s : S) → SymbolWhys c r p id s P
    → IfErr (instance_symbol r p id f s) P
unfolding instance_symbol
cause-symbol c r a P p id f s w =
    cause-next P (refinement_flag r p.flags s) _
    (cause-if P p.flags.use_refinement (r.is_refined s) (Ok (false, s)) (λ on. cause-more (c.is_refined s) P (r.is_refined s) (a.is_refined s) w.flag) (λ off. tt))
    (λ ri flag. cause-if P ri.0 _ _ (λ is.
    cause-next P (refined_symbol r p.symbols id f ri.1) _ (cause-refined c r a P p.symbols id f ri.1 w.none
    (λ from from_is there. w.side (ri, flag, (is, (from, from_is, there))))
    (λ from from_is there. w.offset (ri, flag, (is, (from, from_is, there))))
    (λ from from_is e there. w.refused e (ri, flag, (is, (from, from_is, there))))) (λ g g_is. tt)) (λ is.
    cause-next P (plain_symbol p.strict (symbol_of p.symbols id)) _ (cause-plain P p.symbols id p.strict (symbol_of p.symbols id) refl w.none) (λ g g_is. tt)))

-- ---- its place
-- CURS at the other end of a symbol, and SI
abbrev other_end : TextRegionFlags → Grid → ℤ → ℤ
other_end flags g curs = curs +ℤ last_offset (cond flags.transposed g.height g.width)

abbrev si_of : TextRegionFlags → Grid → ℤ → ℤ
si_of flags g curs = cond (is_last_along_s flags) (other_end flags g curs) curs

result-before : (P : DecodeError → Type 0) (flags : TextRegionFlags) (g : Grid) (curs : ℤ) → (LeavesWord (other_end flags g curs) → P (Overflow PlacementCoordinate))
    → IfResult (s_before flags g curs) P (λ si. si_of flags g curs ≡ si)
result-before P flags g curs leaves =
    let Q : ℤ → Type 0 = λ si. si_of flags g curs ≡ si in
    let last : Bool = is_last_along_s flags in
    result-if P Q last (far_end flags g curs) (Ok curs)
    (λ is. result-more P (λ x. other_end flags g curs ≡ x) Q (far_end flags g curs) (result-word P _ (other_end flags g curs) leaves) (λ x same. cond-true last (other_end flags g curs) curs is ∙ same))
    (λ is. cond-false last (other_end flags g curs) curs is)

cause-edge : (P : DecodeError → Type 0) (at_last : Bool) (side : ℕ) (place : ℤ) → (at_last ≡ true → LeavesWord (place -ℤ last_offset side) → P (Overflow PlacementCoordinate)) → IfErr (edge at_last side place) P
cause-edge P at_last side place leaves =
    cause-if P at_last _ (Ok place) (λ is. cause-of P _ (coordinate (place -ℤ last_offset side)) (result-word P _ (place -ℤ last_offset side) (leaves is))) (λ first. tt)

cause-after : (P : DecodeError → Type 0) (flags : TextRegionFlags) (g : Grid) (curs si : ℤ) → si_of flags g curs ≡ si → (LeavesWord (other_end flags g curs) → P (Overflow PlacementCoordinate))
    → IfErr (s_after flags g si) P
cause-after P flags g curs si si_is leaves =
    let last : Bool = is_last_along_s flags in
    cause-if P last (Ok si) (far_end flags g si) (λ is. tt)
    (λ is. let same : si ≡ curs = sym si_is ∙ cond-false last (other_end flags g curs) curs is in
    cause-of P _ (far_end flags g si) (result-word P _ (other_end flags g si) (λ large. leaves (subst (λ (n : ℤ). LeavesWord (other_end flags g n)) same large))))

cause-placed : (P : DecodeError → Type 0) (flags : TextRegionFlags) (g : Grid) (curs ti : ℤ) → (APlaceLeaves flags g curs ti → P (Overflow PlacementCoordinate)) → IfErr (symbol_placed flags g curs ti) P
unfolding symbol_placed
cause-placed P flags g curs ti leaves =
    cause-last P _ (s_before flags g curs) _ (result-before P flags g curs (λ large. leaves (inl large))) (λ si si_is.
    cause-next P (edge (is_right flags.reference_corner) g.width (cond flags.transposed ti si)) _
    (cause-edge P (is_right flags.reference_corner) g.width (cond flags.transposed ti si) (λ is large. leaves (inr (inl (is, rw si_is large))))) (λ x x_is.
    cause-next P (edge (is_bottom flags.reference_corner) g.height (cond flags.transposed si ti)) _
    (cause-edge P (is_bottom flags.reference_corner) g.height (cond flags.transposed si ti) (λ is large. leaves (inr (inr (is, rw si_is large))))) (λ y y_is.
    cause-next P (s_after flags g si) _ (cause-after P flags g curs si si_is (λ large. leaves (inl large))) (λ next next_is. tt))))

cause-with : (P : DecodeError → Type 0) (flags : TextRegionFlags) (region : Grid) (at : Cursor) (ti : ℤ) (o : Option Grid)
    → ((g : Grid) → o ≡ Some g → APlaceLeaves flags g at.cur_s ti → P (Overflow PlacementCoordinate)) → IfErr (with_symbol flags region at ti o) P
cause-with P flags region at ti None leaves = tt
cause-with P flags region at ti (Some g) leaves = cause-next P (symbol_placed flags g at.cur_s ti) _ (cause-placed P flags g at.cur_s ti (leaves g refl)) (λ i i_is. tt)

-- ---- an instance
pub instance_causes : {S : Type 0} (c : ReadingCauses S) (r : Readings S) (a : ReadingsHaveCauses r c) (p : TextParams) (x : TextState S) → IfErr (with_instance r p x) (BreaksInstance c r p x)
unfolding with_instance
instance_causes c r a p x =
    let P : DecodeError → Type 0 = BreaksInstance c r p x in
    cause-next P (t_in_strip r p.flags x.state) _
    (cause-if P (eqb p.flags.log_strip_size 0) _ (r.t_bits p.flags.log_strip_size x.state) (λ one. tt)
    (λ more. cause-more (c.t_bits p.flags.log_strip_size x.state) P (r.t_bits p.flags.log_strip_size x.state) (a.t_bits p.flags.log_strip_size x.state) (λ e no. inr (inr (inr (inr (inl no))))))) (λ t t_is.
    cause-last P _ (coordinate (x.cursor.strip_t +ℤ t.0)) _ (result-word P _ (x.cursor.strip_t +ℤ t.0) (λ large. inr (inr (inr (inl (refl, (t, t_is, inl large))))))) (λ ti ti_is.
    cause-next P (r.id t.1) _ (cause-more (c.id t.1) P (r.id t.1) (a.id t.1) (λ e no. inr (inr (inr (inr (inr (inl (t, t_is, no)))))))) (λ id id_is.
    cause-next P (instance_symbol r p id.0 x.refining id.1) _
    (cause-symbol c r a P p id.0 x.refining id.1 (record {
      none = λ none. inl (refl, (t, t_is, (id, id_is, none)));
      side = λ no. inr (inl (refl, (t, t_is, (id, id_is, no))));
      offset = λ no. inr (inr (inl (refl, (t, t_is, (id, id_is, no)))));
      flag = λ e no. inr (inr (inr (inr (inr (inr (inl (t, t_is, (id, id_is, no))))))));
      refused = λ e no. inr (inr (inr (inr (inr (inr (inr (t, t_is, (id, id_is, no))))))));
    })) (λ ib ib_is.
    cause-next P (with_symbol p.flags x.region x.cursor ti ib.0) _
    (cause-with P p.flags x.region x.cursor ti ib.0 (λ g g_is leaves. inr (inr (inr (inl (refl, (t, t_is, inr (id, id_is, (ib, ib_is, (g, g_is, subst (λ (n : ℤ). APlaceLeaves p.flags g x.cursor.cur_s n) (sym ti_is) leaves)))))))))) (λ more more_is. tt)))))
