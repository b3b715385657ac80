-- What salvage refuses: the law that a contract names.
use Rattle.std.proofs.Common.{◌≡◌, ℕ, ◌==◌, ◌≤◌, ◌||◌, Bool, true, false, cond, List, [], ◌∷◌, map, Some, Result, Ok, Err, refl, sym, ap, subst, ◌∙◌, arith, Option}
use Rattle.std.proofs.lemmas.Bool.{eqb-true, ne_eqb}
use Rattle.std.specs.Prelude.{Any, slice_get}
use Rattle.jbig2_base.proofs.Causes.{went}
use Rattle.jbig2_base.specs.Results.{◌>>=◌}
use Rattle.jbig2_framing.specs.PageInfo.{first_information}
use Rattle.jbig2_framing.specs.CutOff.{sequence_cut_off}
use Rattle.jbig2_framing.specs.Reading.{is_salvaged}
use Rattle.jbig2_framing.specs.declared.cut_off.CutOff.{CutOff}
use Rattle.jbig2_framing.specs.Segment.{SegmentView}
use Rattle.jbig2_base.specs.declared.error.DecodeError.{DecodeError}
use Rattle.jbig2_framing.specs.declared.page_info.InitialPage.{InitialPage}
use Rattle.jbig2_framing.specs.declared.reading.Reading.{Reading}
use Rattle.jbig2_framing.specs.declared.reading.Reading.TheVariants.{Salvage}
use Rattle.jbig2_page.specs.Files.{PageInFile, ReadFile, book_at, before_pages, pages_in_file, page_in_file, numbers_after, of_page, page_in, page_of}
use Rattle.jbig2_page.specs.Lenient.{HasBeginning, SalvageRefusesLittle}
use Rattle.jbig2_page.specs.Names.{Names}
use Rattle.jbig2_page.specs.Page.{Drawing, ReadPage, beginning_of, drawing_of_page, page_from, page_segments, blank_page, segments_drawn, with_cut_off}
use Rattle.jbig2_page.proofs.Books.{file-of_book, filled_from, mapped, number-of_filed}
use Rattle.jbig2_page.proofs.ByPages.{is_among, no_segments}
use Rattle.jbig2_page.proofs.Causes.{at-first, at-later}
use Rattle.jbig2_page.proofs.Salvaging.{IsFine, fine-beginning, fine-book, fine-drawn, fine-file, fine-globals, fine-next, fine-over, fine-segments_at, fine-shared}
use Rattle.jbig2_page.specs.Globals.{KeptGlobals}

-- ---- pages
abbrev told : Option CutOff → Drawing → Result Drawing DecodeError
told c d = Ok (with_cut_off c d)

fine-told : (names : Names) (ps : List SegmentView) (c : Option CutOff) (d : Drawing) → IsFine (segments_drawn Salvage names ps d >>= λ e. told c e)
fine-told names ps c d = fine-next (segments_drawn Salvage names ps d) _ (fine-drawn names ps d) (λ e. refl)

fine-drawing : (page : ReadPage) → page.reading ≡ Salvage → IsFine page.globals → IsFine (drawing_of_page page)
fine-drawing page is globals =
    subst (λ (reading : Reading). IsFine (page.globals >>= λ names. segments_drawn reading names page.segments (blank_page page.initial_page) >>= λ d. told page.cut_off d)) (sym is)
    (fine-next page.globals _ globals (λ names. fine-told names page.segments page.cut_off (blank_page page.initial_page)))

fine-page : (names : Names) (bytes : List ℕ) (ps : List SegmentView) → page_segments Salvage bytes ≡ Ok ps → HasBeginning ps → IsFine (page_from Salvage names bytes >>= λ page. drawing_of_page page)
unfolding page_from
fine-page names bytes ps read has =
    let page : List SegmentView → InitialPage → ReadPage = λ own first. record { reading = Salvage; initial_page = first; segments = own; globals = Ok names; cut_off = sequence_cut_off Salvage bytes } in
    subst (λ (r : Result (List SegmentView) DecodeError). IsFine ((r >>= λ own. beginning_of Salvage own >>= λ first. let s : Result ReadPage DecodeError = Ok (page own first) in s) >>= λ p. drawing_of_page p)) (sym read)
    (fine-over (beginning_of Salvage ps) (page ps) (λ p. drawing_of_page p) (fine-beginning ps has) (λ first. fine-told names ps (sequence_cut_off Salvage bytes) (blank_page first)))

-- ---- the pages of a file
fine-page_in_file : (own : List SegmentView) → HasBeginning own → IsFine (page_in_file Salvage own)
unfolding page_in_file
fine-page_in_file own has = fine-next (beginning_of Salvage own) _ (fine-beginning own has) (λ first. refl)

-- a page before the others, or one that is left out: what holds of it, or else of one of the others, holds of one of them all
any-filed : (P : PageInFile → Type 0) (b : Bool) (r : Result PageInFile DecodeError) (others : Result (List PageInFile) DecodeError) (pages : List PageInFile)
    → (b ≡ true → IsFine r) → ((page : PageInFile) → b ≡ true → r ≡ Ok page → P page) → (b ≡ false → (rest : List PageInFile) → others ≡ Ok rest → Any P rest) → before_pages Salvage r others ≡ Ok pages → Any P pages
any-filed P true (Ok page) others pages fine first rest h =
    let after = went others (λ more. Ok (page ∷ more)) pages h in
    let same : page ∷ after.0 ≡ pages = let is = after.2 in cc in
    subst (Any P) same (at-first P page after.0 (first page refl refl))
any-filed P false (Ok page) others pages fine first rest h =
    let after = went others (λ more. Ok (page ∷ more)) pages h in
    let same : page ∷ after.0 ≡ pages = let is = after.2 in cc in
    subst (Any P) same (at-later P page after.0 (rest refl after.0 after.1))
any-filed P true (Err e) others pages fine first rest h = absurd (let never : false ≡ true = fine refl in cc)
any-filed P false (Err e) others pages fine first rest h = by (is_salvaged Salvage e) h
  where
    by : (b : Bool) → cond b others (Err e) ≡ Ok pages → Any P pages
    by true is = rest refl pages is
    by false is = absurd (cc)

filed-among : (ps : List SegmentView) (n : ℕ) (ns : List ℕ) (pages : List PageInFile) → IsFine (page_in_file Salvage (of_page n ps)) → is_among n ns ≡ true → pages_in_file Salvage (map (λ m. of_page m ps) ns) ≡ Ok pages → Any (λ page. page.initial_page.number ≡ n) pages
filed-among ps n [] pages fine among h = absurd (cc)
filed-among ps n (m ∷ ms) pages fine among h =
    any-filed (λ page. page.initial_page.number ≡ n) (m == n) (page_in_file Salvage (of_page m ps)) (pages_in_file Salvage (map (λ k. of_page k ps) ms)) pages
    (λ is. subst (λ (q : ℕ). IsFine (page_in_file Salvage (of_page q ps))) (sym (eqb-true m n is)) fine)
    (λ page is made. number-of_filed Salvage m ps page made ∙ eqb-true m n is)
    (λ apart rest made. filed-among ps n ms rest fine (sym (ap (λ (b : Bool). b || is_among n ms) apart) ∙ among) made) h

has-number : (n : ℕ) (ps : List SegmentView) → 1 ≤ n → HasBeginning (of_page n ps) → is_among n (numbers_after [] ps) ≡ true
has-number n ps above has = by (is_among n (numbers_after [] ps)) refl
  where
    by : (b : Bool) → is_among n (numbers_after [] ps) ≡ b → is_among n (numbers_after [] ps) ≡ true
    by true is = is
    by false is =
        let none : of_page n ps ≡ [] = no_segments n [] ps (ne_eqb n 0 (λ zero. omega (arith, above, zero))) is in
        absurd (let never : first_information [] ≡ Ok has.information = subst (λ (own : List SegmentView). first_information own ≡ Ok has.information) none has.first in cc)

-- what a page of a file draws
fine-leaf : (bytes : List ℕ) (book : ReadFile) (index : ℕ) (page : ReadPage) → book_at Salvage bytes ≡ Ok book → page_of book index ≡ Some page → IsFine (drawing_of_page page)
fine-leaf bytes book index page h at =
    let file = file-of_book Salvage bytes book h in
    let all = filled_from Salvage bytes file.0 book file.1 h in
    let leaf = mapped (page_in book) (slice_get book.pages index) page at in
    let shared : IsFine book.globals = subst (λ (r : Result KeptGlobals DecodeError). IsFine r) (sym all.shared) (fine-shared book.pages (of_page 0 file.0.1)) in
    subst (λ (p : ReadPage). IsFine (drawing_of_page p)) leaf.is (fine-drawing (page_in book leaf.from) all.mode (fine-next book.globals _ shared (λ s. refl)))

pub salvage_refuses_little : SalvageRefusesLittle
salvage_refuses_little = record {
  globals = fine-globals;
  drawing = fine-drawing;
  page = fine-page;
  file = λ bytes read. fine-book bytes (fine-segments_at bytes (fine-file bytes read));
  pages = λ bytes file book n read h above has. filed-among file.1 n (numbers_after [] file.1) book.pages (fine-page_in_file (of_page n file.1) has) (has-number n file.1 above has) (filled_from Salvage bytes file book read h).filed;
  drawings = fine-leaf;
}
