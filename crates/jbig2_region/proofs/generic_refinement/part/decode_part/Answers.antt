use Rattle.std.proofs.lemmas.Int.{to_z-of_z}
use mir.Val.{SFits}
use Rattle.std.proofs.Common.{Ok, Result, rules, of_z, to_z, w32, ◌≡◌, ⊎_elim, inl, pos, ap, sym, ◌∙◌, false, arith}
use Rattle.jbig2_base.specs.Grid.{Grid}
use Rattle.jbig2_base.specs.declared.error.DecodeError.{DecodeError}
use Rattle.jbig2_base.proofs.Causes.{same-ok}
use Rattle.jbig2_base.proofs.FillLemmas.{white-made}
use Rattle.jbig2_base.proofs.MadeLemmas.{made-counted, words-same, made-paid}
use Rattle.jbig2_base.proofs.Prices.{price-same}
use Rattle.jbig2_region.specs.inner.RefinementHeaderViews.{header_view}
use Rattle.jbig2_region.specs.RegionInfo.{PlacedRegion}
use Rattle.jbig2_region.specs.inner.RegionViews.{region_view}
use Rattle.jbig2_region.proofs.PartLemmas.{covered-paid, fewer-paid, part-drawn, refined-parsed, rows-refused}
use Rattle.jbig2_region.proofs.generic_refinement.part.decode_part.Goals as goal

pub decode-requires : goal.decode-requires
decode-requires g c =
    refined-parsed (header_view c.args.header.now) (region_view c.args.reference.now) c.in_ok-rows.rows (sym (same-ok _ _ c.in_ok-rows.ensures.value)) c.requires

-- the rows are never refused, since the region isn't
pub returns-in-Err-clause-value : goal.returns-in-Err-clause-value
returns-in-Err-clause-value g c =
    ⊎_elim (λ memory. inl memory)
    (λ refused. absurd (rows-refused (header_view c.args.header.now) (region_view c.args.reference.now) c.in_ok-place.place c.in_ok-rows.rows _ (sym (same-ok _ _ c.in_ok-rows.ensures.value)) c.in_ok-place.ensures.value refused))
    c.in-Err.ensures.value

pub returns-clause-value : goal.returns-clause-value
returns-clause-value g c =
    let info = c.args.header.now.region_info in
    let fits_dx : SFits w32 c.in_ok-place.place.0 = search rules in
    let fits_dy : SFits w32 c.in_ok-place.place.1 = search rules in
    part-drawn (header_view c.args.header.now) (region_view c.args.reference.now) c.in_ok-place.place (to_z w32 (of_z w32 c.in_ok-place.place.0)) (to_z w32 (of_z w32 c.in_ok-place.place.1)) c.in_ok-rows.rows c.in_ok-bitmap.bitmap c.combine.new.self (region_view c.in-Ok.refined) c.combine-2.new.self (to_z-of_z w32 c.in_ok-place.place.0 fits_dx) (to_z-of_z w32 c.in_ok-place.place.1 fits_dy) (sym (same-ok _ _ c.in_ok-rows.ensures.value)) c.in_ok-place.ensures.value
    (white-made info.width info.height false c.in_ok-bitmap.bitmap c.in_ok-bitmap.ensures.value).1 c.combine.ensures.value c.in-Ok.ensures.value c.combine-2.ensures.value
    ∙ ap (λ (r : PlacedRegion). let made : Result PlacedRegion DecodeError = Ok r in made) (sym c.new-2.ensures)

pub returns-in-Err-clause-paid : goal.returns-in-Err-clause-paid
returns-in-Err-clause-paid g c =
    let info = c.args.header.now.region_info in
    let white = (white-made info.width info.height false c.in_ok-bitmap.bitmap c.in_ok-bitmap.ensures.value).1 in
    let w : c.in_ok-bitmap.bitmap.width ≡ info.width = ap (λ (b : Grid). b.width) white in
    let h : c.in_ok-bitmap.bitmap.height ≡ info.height = ap (λ (b : Grid). b.height) white in
    let same = price-same c.in_ok-bitmap.bitmap.width info.width c.in_ok-bitmap.bitmap.height info.height w h in
    let counted = c.in_ok-rows.ensures.paid in
    let made = made-counted info.width info.height c.whole_rows.new.steps c.new.new.steps c.new.ensures.steps in
    let room = words-same c.in_ok-bitmap.bitmap.width info.width c.in_ok-bitmap.bitmap.height info.height w h in
    let reference = covered-paid c.in_ok-bitmap.bitmap c.args.reference.now.bitmap _ _ c.new.new.steps c.combine.new.steps c.combine.ensures.steps in
    let fewer = fewer-paid (header_view c.args.header.now) (region_view c.args.reference.now) c.in_ok-rows.rows (sym (same-ok _ _ c.in_ok-rows.ensures.value)) in
    let rows = c.decode.ensures.paid in
    omega (arith, counted, reference, fewer, rows, same, made, room)

pub returns-clause-paid : goal.returns-clause-paid
returns-clause-paid g c =
    let info = c.args.header.now.region_info in
    let white = (white-made info.width info.height false c.in_ok-bitmap.bitmap c.in_ok-bitmap.ensures.value).1 in
    let w : c.in_ok-bitmap.bitmap.width ≡ info.width = ap (λ (b : Grid). b.width) white in
    let h : c.in_ok-bitmap.bitmap.height ≡ info.height = ap (λ (b : Grid). b.height) white in
    let same = price-same c.in_ok-bitmap.bitmap.width info.width c.in_ok-bitmap.bitmap.height info.height w h in
    let v : c.combine.new.self.width ≡ info.width = ap (λ (b : Grid). b.width) c.combine.ensures.value ∙ w in
    let k : c.combine.new.self.height ≡ info.height = ap (λ (b : Grid). b.height) c.combine.ensures.value ∙ h in
    let same_after = price-same c.combine.new.self.width info.width c.combine.new.self.height info.height v k in
    let counted = c.in_ok-rows.ensures.paid in
    let made = made-counted info.width info.height c.whole_rows.new.steps c.new.new.steps c.new.ensures.steps in
    let room = words-same c.in_ok-bitmap.bitmap.width info.width c.in_ok-bitmap.bitmap.height info.height w h in
    let reference = covered-paid c.in_ok-bitmap.bitmap c.args.reference.now.bitmap _ _ c.new.new.steps c.combine.new.steps c.combine.ensures.steps in
    let fewer = fewer-paid (header_view c.args.header.now) (region_view c.args.reference.now) c.in_ok-rows.rows (sym (same-ok _ _ c.in_ok-rows.ensures.value)) in
    let rows = c.decode.ensures.paid in
    let over = covered-paid c.combine.new.self c.in-Ok.refined.bitmap (pos 0) (pos 0) c.decode.new.steps c.combine-2.new.steps c.combine-2.ensures.steps in
    omega (arith, counted, reference, fewer, rows, over, same, same_after, made, room)

pub returns-in_err-bitmap-clause-paid : goal.returns-in_err-bitmap-clause-paid
returns-in_err-bitmap-clause-paid g c =
    let info = c.args.header.now.region_info in
    omega (arith, c.in_ok-rows.ensures.paid, made-paid info.width info.height c.whole_rows.new.steps c.new.new.steps c.new.ensures.steps)
