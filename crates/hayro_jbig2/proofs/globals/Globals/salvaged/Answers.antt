use Rattle.std.proofs.Common.{◌≡◌, List, ℕ, Result, Ok, Err, inl, inr, sym, ap, ◌∙◌}
use Rattle.std.proofs.lemmas.Bool.{false≢true}
use Rattle.std.specs.Prelude.{IfErr, IsTrue}
use Rattle.std.specs.Result.{is_ok}
use Rattle.jbig2_base.specs.Results.{◌>>=◌, Gives}
use Rattle.jbig2_framing.specs.CutOff.{sequence_cut_off}
use Rattle.jbig2_framing.specs.Segment.{SegmentView}
use Rattle.jbig2_framing.specs.Sequential.{by_number, sequential}
use Rattle.jbig2_base.specs.declared.error.DecodeError.{DecodeError}
use Rattle.jbig2_base.specs.declared.error.DecodeError.TheVariants.{OutOfMemory}
use Rattle.jbig2_framing.specs.declared.reading.Reading.TheVariants.{Lenient, Salvage}
use Rattle.jbig2_page.proofs.Salvaging.{fine-named, fine-sequential}
use Rattle.jbig2_page.specs.Globals.{globals_at, KeptGlobals, nothing_shared, shared_from}
use Rattle.hayro_jbig2.proofs.globals.Globals.salvaged.Goals as goal

-- where nothing is refused, memory alone is wanting
memory-alone : {X Y : Type 0} (view : X → Y) (r : Result X DecodeError) (meant : Result Y DecodeError) → IsTrue (is_ok meant) → Gives view r meant → IfErr r (λ e. e ≡ OutOfMemory)
memory-alone view (Ok x) meant fine gives = tt
memory-alone view (Err e) meant fine (inl memory) = memory
memory-alone {X} {Y} view (Err e) meant fine (inr refused) = absurd (false≢true (sym (ap (λ (r : Result Y DecodeError). is_ok r) refused) ∙ fine))

then-named : (read : Result (List SegmentView) DecodeError) (shared : KeptGlobals) → IsTrue (is_ok read) → IsTrue (is_ok ((read >>= λ ps. Ok (by_number ps)) >>= λ ps. shared_from Salvage ps shared))
then-named (Ok ps) shared fine = fine-named (by_number ps) shared
then-named (Err e) shared fine = fine

fine-globals : (bytes : List ℕ) → IsTrue (is_ok (globals_at Salvage bytes))
unfolding globals_at
fine-globals bytes = then-named (sequential Salvage bytes) (nothing_shared (sequence_cut_off Salvage bytes)) (fine-sequential bytes)

pub returns-clause-memory : goal.returns-clause-memory
returns-clause-memory g c = memory-alone (λ globals. globals) c.read.result (globals_at Salvage c.args.bytes.now) (fine-globals c.args.bytes.now) c.read.ensures.value
