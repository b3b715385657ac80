use Rattle.std.proofs.Common.{◌≡◌, ℕ, ◌<◌, List, Option, drop, length, map, arith, subst, sym, ap, ◌∙◌}
use Rattle.std.specs.Map.Iter.{TakesFirst}
use Rattle.jbig2_page.proofs.Books.{taken_at}
use Rattle.hayro_jbig2.proofs.file.pages.PagesIterator.next.Goals as goal
use Rattle.jbig2_page.specs.Files.{ReadFile, page_in, page_of}
use Rattle.jbig2_page.specs.Page.{ReadPage}

pub returns-clause-steps : goal.returns-clause-steps
returns-clause-steps g c =
    let book : ReadFile = c.self.inside.file.now in
    let start : ℕ = c.self.inside.indices.start in
    let after : ℕ = c.next.new.self.start in
    let next = c.in_ok-index.ensures.steps in
    let left : List ReadPage = map (page_in book) (drop start book.pages) in
    let others : List ReadPage = map (page_in book) (drop after book.pages) in
    let within : start < length book.pages = omega (arith, next.1.0, c.self.invariant.1) in
    let shown : c.page.result ≡ page_of book start = c.page.ensures.value ∙ ap (λ (i : ℕ). page_of book i) next.1.1 in
    let taken : TakesFirst (λ (page : ReadPage). page) left (page_of book start) others = taken_at (page_in book) book.pages start after within next.1.2 in
    let From : List ReadPage → Type 0 = λ s. TakesFirst (λ (page : ReadPage). page) s c.page.result others in
    let Gives : Option ReadPage → Type 0 = λ r. TakesFirst (λ (page : ReadPage). page) left r others in
    subst From c.self.view_is (subst Gives (sym shown) taken)
