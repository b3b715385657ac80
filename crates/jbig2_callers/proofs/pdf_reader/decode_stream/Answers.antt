use Rattle.std.proofs.Common.{◌≡◌, ℕ, List, Option, Some, Result, Ok, Err, ◌⊎◌, inl, inr, ⊎_elim, refl}
use Rattle.std.proofs.lemmas.Result.{err_from_is_err_and}
use Rattle.std.specs.Borrow.{Bor}
use Rattle.std.specs.Option.{option_map}
use Rattle.jbig2_base.specs.Grid.{Grid}
use Rattle.jbig2_base.specs.declared.error.DecodeError.{DecodeError}
use Rattle.jbig2_base.specs.declared.error.DecodeError.TheVariants.{OutOfMemory}
use Rattle.jbig2_framing.specs.declared.reading.Reading.TheVariants.{Lenient}
use Rattle.jbig2_page.specs.Page.{page_from}
use Rattle.jbig2_page.specs.Calls.{Conduct, Decodes}
use Rattle.jbig2_page.specs.Globals.{globals_at, KeptGlobals}
use Rattle.jbig2_callers.specs.Callers.{grid_of_stream}
use Rattle.jbig2_callers.proofs.pdf_reader.decode_stream.Goals as goal

-- an error before any call
refused : {S : Type 0} (d : Conduct S) (meant : Result Grid DecodeError) (e : DecodeError) (s : S) → (e ≡ OutOfMemory) ⊎ (meant ≡ Err e) → Decodes d meant (Err e) s s
refused d (Ok grid) e s why = ⊎_elim (λ (memory : e ≡ OutOfMemory). inr (memory, (refl, refl))) (λ (is : Ok grid ≡ Err e). absurd (cc)) why
refused d (Err f) e s why = ⊎_elim (λ (memory : e ≡ OutOfMemory). (inr memory, (refl, refl))) (λ (is : Err f ≡ Err e). (inl (cc), (refl, refl))) why

-- a page that is refused, with globals that were read
page-refused : (given : Option (Bor (List ℕ))) (bytes : Bor (List ℕ)) (stream : List ℕ) (shared : KeptGlobals) (e : DecodeError) → given ≡ Some bytes → globals_at Lenient bytes.now ≡ Ok shared → page_from Lenient shared.names stream ≡ Err e → grid_of_stream (option_map (λ b. b.now) given) stream ≡ Err e
page-refused given bytes stream shared e is read refused = rw (is, read, refused)

pub returns-in_err-page-in-Some : goal.returns-in_err-page-in-Some
returns-in_err-page-in-Some g c =
    let answered = err_from_is_err_and c.from_residual-in_err-page-in-Some.result c.from_residual-in_err-page-in-Some.ensures.1 in
    let e : DecodeError = c.in_err-page-in-Some.field-0.0 in
    let why : (e ≡ OutOfMemory) ⊎ (grid_of_stream (option_map (λ b. b.now) c.args.globals) c.args.stream.now ≡ Err e) =
    ⊎_elim
    (λ (memory : e ≡ OutOfMemory). inl memory)
    (λ unread. inr (page-refused c.args.globals c.in-Some.bytes c.args.stream.now c.in_ok-globals-in-Some.globals e c.in-Some.is c.in_ok-globals-in-Some.ensures.value unread))
    c.in_err-page-in-Some.ensures.value
    in
    rw (answered.1, answered.2) (refused g.D.Decoder.conduct (grid_of_stream (option_map (λ b. b.now) c.args.globals) c.args.stream.now) e c.args.decoder.now why)
