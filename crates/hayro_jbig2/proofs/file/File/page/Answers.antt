use Rattle.std.proofs.Common.{◌≡◌, ℕ, ◌<◌, ◌≤◌, ◌∙◌, List, Option, Some, Result, Ok, Err, ap, arith, get_or, length, subst, sym}
use Rattle.std.proofs.lemmas.Option.{slice_get-get_or, slice_get_past}
use Rattle.std.specs.Prelude.{IfErr, option_map, slice_get}
use Rattle.std.proofs.lemmas.Bool.{ltb-false, ltb-true}
use Rattle.jbig2_framing.specs.inner.SegmentViews.{segment_views}
use Rattle.jbig2_base.specs.declared.error.DecodeError.{DecodeError}
use Rattle.jbig2_page.proofs.Books.{pages_stand_alone}
use Rattle.hayro_jbig2.proofs.file.File.page.Goals as goal
use Rattle.jbig2_page.specs.Causes.{IsFromInput}
use Rattle.jbig2_framing.specs.declared.cut_off.CutOff.{CutOff}
use Rattle.jbig2_page.specs.Files.{ReadFile, PageInFile, cut_off_of, page_in, page_of}
use Rattle.jbig2_page.specs.Names.{Names}
use Rattle.jbig2_page.specs.Page.{ReadPage}
use Rattle.jbig2_page.specs.inner.PageViews.{kept_names}
use Rattle.jbig2_page.specs.Globals.{KeptGlobals, names_of}

page-at : (book : ReadFile) (pages : List PageInFile) (i : ℕ) (page : PageInFile) (read : ReadPage) → pages ≡ book.pages → i < length pages → page ≡ get_or pages i page → read ≡ page_in book page → Some read ≡ page_of book i
page-at book pages i page read are inside is made =
    let at : slice_get book.pages i ≡ Some page = ap (λ (ps : List PageInFile). slice_get ps i) (sym are) ∙ slice_get-get_or pages i page inside ∙ ap (λ (p : PageInFile). Some p) (sym is) in
    ap (λ (r : ReadPage). Some r) made ∙ sym (ap (λ (p : Option PageInFile). option_map (page_in book) p) at)

pub returns-in-Some-clause-value : goal.returns-in-Some-clause-value
returns-in-Some-clause-value g c =
    let book : ReadFile = c.args.self.now in
    let page : PageInFile = c.in-Some.page.now in
    let there = c.in-Some.ensures.lookup in
    let read : ReadFile → Result Names DecodeError → Option CutOff → ReadPage = λ b globals cut_off. record { reading = b.reading; initial_page = page.initial_page; segments = page.segments; globals = globals; cut_off = cut_off } in
    let cut : c.cut_off-cut_off.result ≡ cut_off_of book.organization page book.cut_off = c.cut_off-cut_off.ensures ∙ ap (λ (b : ReadFile). cut_off_of b.organization page b.cut_off) c.self.view_is in
    let made : c.of_content.result ≡ page_in book page = c.of_content.ensures ∙ c.content-content.ensures
    ∙ ap (λ (b : ReadFile). read b (kept_names c.globals.result) c.cut_off-cut_off.result) c.self.view_is
    ∙ ap (λ (globals : Result Names DecodeError). read book globals c.cut_off-cut_off.result) c.globals.ensures
    ∙ ap (λ (cut_off : Option CutOff). read book (names_of book.globals) cut_off) cut in
    page-at book c.deref.result.now c.args.index page c.of_content.result (c.deref.ensures.value ∙ ap (λ (b : ReadFile). b.pages) c.self.view_is) (ltb-true _ _ (sym there.0)) there.1 made

pub returns-in-Some-clause-alone : goal.returns-in-Some-clause-alone
returns-in-Some-clause-alone g c = pages_stand_alone

pub returns-in-None-clause-value : goal.returns-in-None-clause-value
returns-in-None-clause-value g c =
    let book : ReadFile = c.args.self.now in
    let past : length c.deref.result.now ≤ c.args.index = ltb-false _ _ (sym c.in-None.ensures.lookup.0) in
    let pages : length book.pages ≤ c.args.index = omega (arith, past, ap length (c.deref.ensures.value ∙ ap (λ (b : ReadFile). b.pages) c.self.view_is)) in
    sym (ap (λ (page : Option PageInFile). option_map (page_in book) page) (slice_get_past book.pages c.args.index pages))

pub returns-in-None-clause-alone : goal.returns-in-None-clause-alone
returns-in-None-clause-alone g c = pages_stand_alone

pub content-content-requires : goal.content-content-requires
content-content-requires g c =
    let given : IfErr c.args.self.now.globals IsFromInput = subst (λ (b : ReadFile). IfErr b.globals IsFromInput) c.self.view_is c.self.invariant in
    subst (λ (r : Result Names DecodeError). IfErr r IsFromInput) (sym c.globals.ensures) (named c.args.self.now.globals given)
  where
    named : (globals : Result KeptGlobals DecodeError) → IfErr globals IsFromInput → IfErr (names_of globals) IsFromInput
    named (Ok shared) is = tt
    named (Err e) is = is
