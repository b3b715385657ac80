use Rattle.std.proofs.Common.{◌++◌, [], ◌∷◌, ◌∙◌, ap, arith, refl, sym}
use Rattle.std.proofs.lemmas.Bool.{ne_eqb}
use Rattle.jbig2_page.proofs.ByPages.{within, has-shared, has-known, has-new}
use Rattle.jbig2_page.proofs.file.segments_by_page.SegmentsByPage.add.Goals as goal

pub returns-then-number-eq0 : goal.returns-then-number-eq0
returns-then-number-eq0 g c ps has = has-shared c.args.self.now _ c.args.segment ps c.if-number-eq0.true c.in_ok-push.ensures.items refl refl has

pub index_mut-requires : goal.index_mut-requires
index_mut-requires g c =
    let there = within c.args.self.now c.requires.0 c.args.segment.header.page_association c.in-Some.place.now (sym c.in-Some.ensures.value) c.requires.1 in
    omega (arith, there, c.args.self.now.pages.ok.0)

pub returns-in_ok-push-in-Some : goal.returns-in_ok-push-in-Some
returns-in_ok-push-in-Some g c ps has = has-known c.args.self.now _ c.args.segment ps c.in-Some.place.now c.index_mut.result.now c.push-in-Some.new.self (ne_eqb _ _ c.if-number-eq0.false) (sym c.in-Some.ensures.value) c.index_mut.ensures.value c.in_ok-push-in-Some.ensures.items refl refl refl has

pub returns-in_ok-push-in-None-2 : goal.returns-in_ok-push-in-None-2
returns-in_ok-push-in-None-2 g c ps has =
    let one = c.in_ok-push-in-None.ensures.items ∙ ap (λ xs. xs ++ c.args.segment ∷ []) c.new-own.ensures.items in
    has-new c.args.self.now _ c.args.segment ps c.len.result c.push-in-None.new.self (c.len.ensures ∙ c.args.self.now.pages.ok.0) (ne_eqb _ _ c.if-number-eq0.false) (sym c.in-None.ensures.value) one refl c.in_ok-push-in-None-2.ensures.items c.in_ok-insert-in-None.ensures.updates has
