-- What calls take from a limit of work.
use Rattle.std.proofs.Common.{◌≡◌, ℕ, ◌+◌, ◌*◌, ◌≤◌, List, Option, Some, None, Result, Ok, Err, refl, sym, ap, subst, arith}
use Rattle.std.specs.Prelude.{IfOk, option_map}
use Rattle.jbig2_framing.specs.Segment.{SegmentView}
use Rattle.jbig2_base.specs.declared.error.DecodeError.{DecodeError}
use Rattle.jbig2_framing.specs.declared.file_header.FileHeader.{FileHeader}
use Rattle.jbig2_steps.specs.Counts.{Counts, no_steps}
use Rattle.jbig2_steps.specs.Work.{sum_of_counts, budget}
use Rattle.jbig2_steps.specs.declared.work.Work.{Work}
use Rattle.jbig2_steps.specs.declared.prices.TheConstants as prices
use Rattle.jbig2_page.specs.Files.{ReadFile, of_page}
use Rattle.jbig2_page.specs.SharedWork.{PaysShared, shared_count}
use Rattle.jbig2_page.specs.Globals.{KeptGlobals}
use Rattle.hayro_jbig2.specs.Context.{ContextView, IsLeftBy, LeavesDrawn, LeavesOf}
use Rattle.hayro_jbig2.specs.WorkLimit.{Limit, TakesUnits, TakesShared, after_call, units_of}

-- what a call takes from a limit, by what its counter was worth
pub limit-taken : {L : Type 0} (limit after : Limit) (old new : Work L) (units : ℕ) → after ≡ after_call new limit → old.steps ≡ no_steps → old.left ≡ limit.left → budget new + 32 * units ≤ budget old → TakesUnits units limit after
unfolding budget
limit-taken {L} limit after old new units is none left paid =
    let nothing : sum_of_counts old.steps ≡ 0 = ap (λ (s : Counts). sum_of_counts s) none in
    subst (λ (l : Limit). TakesUnits units limit l) (sym is) (refl, omega (arith, nothing, left, paid))

-- the same where the call succeeds
pub limit-taken-by : {L T E : Type 0} (result : Result T E) (limit after : Limit) (old new : Work L) (units : ℕ) → after ≡ after_call new limit → old.steps ≡ no_steps → old.left ≡ limit.left → IfOk result (λ _. budget new + 32 * units ≤ budget old) → IfOk result (λ _. TakesUnits units limit after)
limit-taken-by (Ok x) limit after old new units is none left paid = limit-taken limit after old new units is none left paid
limit-taken-by (Err e) limit after old new units is none left paid = tt

-- the same of globals, where their segments can be read
pub limit-taken-each : {L T S E F : Type 0} (count : S → ℕ) (read : Result S F) (result : Result T E) (limit after : Limit) (old new : Work L) → after ≡ after_call new limit → old.steps ≡ no_steps → old.left ≡ limit.left → IfOk read (λ s. IfOk result (λ _. budget new + 32 * count s ≤ budget old)) → IfOk read (λ s. IfOk result (λ _. TakesUnits (count s) limit after))
limit-taken-each count (Ok s) result limit after old new is none left paid = limit-taken-by result limit after old new (count s) is none left paid
limit-taken-each count (Err e) result limit after old new is none left paid = tt

-- the same of a file
pub limit-taken-shared : {L E : Type 0} (read : Result (FileHeader × List SegmentView) DecodeError) (result : Result ReadFile E) (limit after : Limit) (old new : Work L) → after ≡ after_call new limit → old.steps ≡ no_steps → old.left ≡ limit.left → IfOk result (λ book. PaysShared read book old new) → IfOk result (λ book. TakesShared read book limit after)
limit-taken-shared (Ok file) (Ok book) limit after old new is none left paid = limit-taken-by book.globals limit after old new (prices.SEGMENT * shared_count book.pages (of_page 0 file.1)) is none left paid
limit-taken-shared (Err e) (Ok book) limit after old new is none left paid = tt
limit-taken-shared read (Err e) limit after old new is none left paid = tt

-- what a page leaves of its context's limit, by what its counter was worth
pub left-by : {L : Type 0} (counted units : ℕ) (before after : ContextView) (old new : Work L) → IsLeftBy new before after → old.steps ≡ no_steps → old.left ≡ units_of before.work_limit → budget new + 32 * units ≤ budget old + counted → LeavesDrawn counted units before.work_limit after
unfolding budget
left-by {L} counted units before after old new is none left paid =
    let nothing : sum_of_counts old.steps ≡ 0 = ap (λ (s : Counts). sum_of_counts s) none in
    let within : sum_of_counts new.steps + 32 * (new.left + units) ≤ 32 * units_of before.work_limit + counted = omega (arith, nothing, left, paid) in
    subst (λ (c : ContextView). LeavesDrawn counted units before.work_limit c) (sym is) (by before.work_limit within)
  where
    by : (limit : Option ℕ) → sum_of_counts new.steps + 32 * (new.left + units) ≤ 32 * units_of limit + counted → LeavesDrawn counted units limit (record { drawing = after.drawing; holds_page = after.holds_page; work_limit = limit; work_left = option_map (λ _. new.left) limit; steps = sum_of_counts new.steps })
    by (Some most) within = within
    by None within = tt

pub left-of : {L : Type 0} (units : ℕ) (before after : ContextView) (old new : Work L) → IsLeftBy new before after → old.steps ≡ no_steps → old.left ≡ units_of before.work_limit → budget new + 32 * units ≤ budget old → LeavesOf units before.work_limit after
unfolding budget
left-of {L} units before after old new is none left paid =
    let nothing : sum_of_counts old.steps ≡ 0 = ap (λ (s : Counts). sum_of_counts s) none in
    let within : sum_of_counts new.steps + 32 * (new.left + units) ≤ 32 * units_of before.work_limit = omega (arith, nothing, left, paid) in
    subst (λ (c : ContextView). LeavesOf units before.work_limit c) (sym is) (by before.work_limit within)
  where
    by : (limit : Option ℕ) → sum_of_counts new.steps + 32 * (new.left + units) ≤ 32 * units_of limit → LeavesOf units limit (record { drawing = after.drawing; holds_page = after.holds_page; work_limit = limit; work_left = option_map (λ _. new.left) limit; steps = sum_of_counts new.steps })
    by (Some most) within = within
    by None within = tt

-- the same of a page that was drawn, which took at least this price twice
pub left-drawn : {L T E : Type 0} (counted price : ℕ) (result : Result T E) (before after : ContextView) (old new : Work L) → IsLeftBy new before after → old.steps ≡ no_steps → old.left ≡ units_of before.work_limit → IfOk result (λ _. budget new + 64 * price ≤ budget old + counted) → IfOk result (λ _. LeavesDrawn counted (2 * price) before.work_limit after)
left-drawn counted price (Ok x) before after old new is none left paid = left-by counted (2 * price) before after old new is none left (omega (arith, paid))
left-drawn counted price (Err e) before after old new is none left paid = tt
