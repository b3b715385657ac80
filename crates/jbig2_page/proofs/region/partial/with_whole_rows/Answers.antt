use Rattle.std.proofs.Common.{◌≡◌, ℕ, Result, Ok, subst, sym}
use Rattle.jbig2_base.specs.declared.error.DecodeError.{DecodeError}
use Rattle.jbig2_region.specs.GenericHeader.{GenericHeader, IsParsed}
use Rattle.jbig2_region.specs.WholeRows.{whole_generic_rows}
use Rattle.jbig2_region.specs.declared.generic.header.GenericRegionHeader.{GenericRegionHeader}
use Rattle.jbig2_region.specs.inner.GenericHeaderViews.{header_view}
use Rattle.jbig2_page.proofs.WholeRows.{whole-parsed}
use Rattle.jbig2_page.proofs.region.partial.with_whole_rows.Goals as goal
use Rattle.jbig2_page.proofs.region.partial.with_whole_rows.Goals.{then-is_partial+in_ok-header, else-is_partial}

-- the rows that a call gives
given : (h : GenericHeader) (rows : ℕ) → ◌≡◌ {A = Result ℕ DecodeError} (Ok (whole_generic_rows h)) (Ok rows) → rows ≡ whole_generic_rows h
given h rows is = cc

pub returns-clause-parsed : goal.returns-clause-parsed
returns-clause-parsed g c = elim c.if-is_partial.branch [
  | then-is_partial+in_ok-header w ↦
      subst (λ (h : GenericRegionHeader). IsParsed (header_view h)) (sym w.header-is)
      (whole-parsed (header_view c.args.header) w.in_ok-header.field-0 (given (header_view c.args.header) w.in_ok-header.field-0 w.in_ok-header.ensures.value) c.requires)
  | else-is_partial w ↦ subst (λ (h : GenericRegionHeader). IsParsed (header_view h)) (sym w.header-is) c.requires
]
