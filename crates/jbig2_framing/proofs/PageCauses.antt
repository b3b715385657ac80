-- Which rule page information breaks.
use Rattle.std.proofs.Common.{◌≡◌, ℕ, ◌<◌, ◌≤◌, List, length, Result, Err, refl, arith}
use Rattle.std.specs.Prelude.{IfErr}
use Rattle.std.specs.Int.{w8, w16, w32}
use Rattle.jbig2_base.specs.Causes.{HasCause, number_in}
use Rattle.jbig2_framing.specs.Causes.{BreaksInformation}
use Rattle.jbig2_base.specs.Fields.{end_of_bytes}
use Rattle.jbig2_framing.specs.PageInfo.{information_at}
use Rattle.jbig2_base.specs.declared.error.DecodeError.{DecodeError}
use Rattle.jbig2_framing.specs.declared.page_info.PageInformation.{PageInformation}
use Rattle.jbig2_base.proofs.CauseSteps.{call-cause, IfResult, result-cause, next-number}

-- page information states its size in its first eight bytes
abbrev pub HasSize : List ℕ → PageInformation × List ℕ → Type 0
HasSize bytes x = (19 ≤ length bytes) × (x.0.width ≡ number_in w32 0 bytes) × (x.0.height ≡ number_in w32 4 bytes)

pub information-result : (P : DecodeError → Type 0) (bytes : List ℕ) → (length bytes < 19 → P end_of_bytes) → IfResult (HasSize bytes) P (information_at bytes)
unfolding information_at
information-result P bytes why =
    let Q : PageInformation × List ℕ → Type 0 = HasSize bytes in
    next-number Q P w32 bytes 0 _ (omega arith) (λ cut. why (omega (arith, cut))) (λ at_4.
    next-number Q P w32 bytes 4 _ at_4 (λ cut. why (omega (arith, cut))) (λ at_8.
    next-number Q P w32 bytes 8 _ at_8 (λ cut. why (omega (arith, cut))) (λ at_12.
    next-number Q P w32 bytes 12 _ at_12 (λ cut. why (omega (arith, cut))) (λ at_16.
    next-number Q P w8 bytes 16 _ at_16 (λ cut. why (omega (arith, cut))) (λ at_17.
    next-number Q P w16 bytes 17 _ at_17 (λ cut. why (omega (arith, cut))) (λ at_19. (at_19, refl, refl)))))))

pub information_cause : {X : Type 0} (bytes : List ℕ) (r : Result X DecodeError) → IfErr r (λ e. information_at bytes ≡ Err e) → HasCause r (BreaksInformation bytes)
information_cause bytes r =
    let P : DecodeError → Type 0 = BreaksInformation bytes in
    call-cause P (information_at bytes) r (result-cause (HasSize bytes) P (information_at bytes) (information-result P bytes (λ short. short)))
