use Rattle.std.proofs.Common.{◌≡◌, length, Result, Ok, ap, sym, ◌∙◌, arith}
use Rattle.std.proofs.lemmas.List.{length-map}
use Rattle.jbig2_framing.specs.inner.SegmentViews.{segment_views}
use Rattle.jbig2_base.specs.declared.error.DecodeError.{DecodeError}
use Rattle.jbig2_page.specs.SharedWork.{shared_count}
use Rattle.jbig2_page.proofs.Books.{counts_none, counts_some, shares_some}
use Rattle.jbig2_page.specs.Globals.{KeptGlobals}
use Rattle.jbig2_page.proofs.file.kept_globals.Goals as goal

pub returns-in-Ok-clause-value : goal.returns-in-Ok-clause-value
returns-in-Ok-clause-value g c =
    ap (λ (r : Result KeptGlobals DecodeError). let s : Result (Result KeptGlobals DecodeError) DecodeError = Ok r in s)
    (shares_some c.args.reading c.args.pages.now (segment_views c.args.shared.now) (sym c.is_empty.ensures ∙ c.if-is_empty.false) ∙ c.in-Ok.ensures.value)

pub returns-then-is_empty-clause-taken : goal.returns-then-is_empty-clause-taken
returns-then-is_empty-clause-taken g c =
    let none = counts_none c.args.pages.now (segment_views c.args.shared.now) (sym c.is_empty.ensures ∙ c.if-is_empty.true) in
    omega (arith, none)

pub returns-in-Ok-clause-taken : goal.returns-in-Ok-clause-taken
returns-in-Ok-clause-taken g c =
    let count : shared_count c.args.pages.now (segment_views c.args.shared.now) ≡ length c.args.shared.now =
    counts_some c.args.pages.now (segment_views c.args.shared.now) (sym c.is_empty.ensures ∙ c.if-is_empty.false) ∙ length-map c.args.shared.now _ in
    rw (count) c.in-Ok.ensures.taken
