-- The work of reading a height class, after the new symbols so far (our own rule). `Paying` says what is paid for.
use Rattle.std.specs.Prelude.{ℕ, ◌≤◌, List, length}
use Rattle.jbig2_base.specs.Grid.{Grid}
use Rattle.jbig2_steps.specs.declared.work.Work.{Work}
use Rattle.jbig2_symbol.specs.Paying.{PaidButSymbols, PaysSymbols}
use Rattle.jbig2_symbol.specs.declared.input.SymbolInput.{SymbolInput as Input}

-- there are no more new symbols than the header says
abbrev pub HasRoomForSymbols : {A : Type 0} → Input A → List Grid → Type 0
HasRoomForSymbols d new = length new ≤ d.header.now.num_new_symbols

-- whatever is read, at most five numbers for each symbol that may still come, and `more` besides
abbrev pub PaidButClass : {A L : Type 0} → Input A → List Grid → ℕ → Work L → Work L → Type 0
PaidButClass d before more old new = PaidButSymbols (length before) d.header.now.num_new_symbols more old new

-- after a class that was read, five numbers for each of its symbols
abbrev pub PaysClass : {A L : Type 0} → Input A → List Grid → List Grid → ℕ → Work L → Work L → Type 0
PaysClass d before after more old new =
    PaysSymbols (length before) (length after) d.header.now.num_new_symbols more old new
