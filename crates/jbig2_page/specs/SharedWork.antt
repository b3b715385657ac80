-- The work that opening a file takes (our own rule).
use Rattle.std.specs.Prelude.{ℕ, ◌+◌, ◌*◌, ◌≤◌, List, [], ◌∷◌, length, Result, IfOk}
use Rattle.jbig2_framing.specs.Segment.{SegmentView}
use Rattle.jbig2_base.specs.declared.error.DecodeError.{DecodeError}
use Rattle.jbig2_framing.specs.declared.file_header.FileHeader.{FileHeader}
use Rattle.jbig2_steps.specs.Work.{budget}
use Rattle.jbig2_steps.specs.declared.work.Work.{Work}
use Rattle.jbig2_steps.specs.declared.prices.TheConstants as prices
use Rattle.jbig2_page.specs.Files.{PageInFile, ReadFile, of_page}

-- how many segments are decoded when a file is opened: those that its pages share, if it has a page
abbrev pub shared_count : List PageInFile → List SegmentView → ℕ
shared_count [] shared = 0
shared_count (page ∷ pages) shared = length shared

-- Opening a file with these segments took at least the price of each one that is decoded, if none of them fails.
abbrev pub PaysShared : {L : Type 0} → Result (FileHeader × List SegmentView) DecodeError → ReadFile → Work L → Work L
    → Type 0
PaysShared file book old new =
    IfOk file (λ (header, segments).
    IfOk book.globals (λ shared.
    budget new + 32 * (prices.SEGMENT * shared_count book.pages (of_page 0 segments)) ≤ budget old))
