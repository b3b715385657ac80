-- Which rule the input breaks where the codes of the ids are refused.
use Rattle.std.proofs.Common.{◌≡◌, inl, inr, ℕ, zero, suc, ◌+◌, ◌-◌, ◌<◌, eqb, ltb, false, List, [], ◌∷◌, ◌++◌, length, drop, get_or, if◌then◌else◌, Option, Some, None, Result, Ok, Err, refl, ◌∙◌, ap, arith, ℤ, pos, negsuc}
use Rattle.std.specs.Prelude.{◌⊎◌, IfErr, slice_get}
use Rattle.std.proofs.lemmas.Option.{slice_get-get_or}
use Rattle.std.proofs.lemmas.Bool.{cond_both, cond-true, eqb-true, eqb-false, ltb-true, ltb-false}
use Rattle.jbig2_base.specs.Results.{◌>>=◌, refuse_if, some_or}
use Rattle.jbig2_base.specs.Bits.{Place, bits_left, bits_next, start_of}
use Rattle.jbig2_base.specs.Fields.{bits_at}
use Rattle.jbig2_base.specs.declared.error.DecodeError.{DecodeError}
use Rattle.jbig2_base.specs.declared.error.DecodeError.TheVariants.{Huffman, OutOfMemory}
use Rattle.jbig2_base.specs.declared.error.HuffmanError.TheVariants.{UnexpectedOob}
use Rattle.jbig2_base.proofs.Causes.{cause-next}
use Rattle.jbig2_coder.specs.Causes.{AreCrowded, BreaksCode, BreaksNumberAt, BreaksRange, BreaksValueAt}
use Rattle.jbig2_coder.specs.PrefixCode.{CodeReading, Member, decoded_value, no_oob, read_code, table_of, value_by, value_at}
use Rattle.jbig2_coder.specs.declared.huffman_table.line.TableLine.{TableLine}
use Rattle.jbig2_coder.proofs.Causes.{code_cause, number_cause, range_cause, table-cause}
use Rattle.jbig2_text.specs.Causes.{BreaksRun, BreaksSymbolCodes}
use Rattle.jbig2_text.specs.SymbolCodes.{invalid_code, lines_from, next_runcode, with_last_repeated, run_at, runcodes_at, runs_at, short_lengths, symbol_codes_at, symbol_codes_from, symbol_lengths_at}
use Rattle.jbig2_region.proofs.ResultCauses.{cause-if, cause-last, cause-more, result-of, result-next, result-refused}
use Rattle.jbig2_base.specs.Causes.{After, HasCause, HasCauseOrNoMemory}
use Rattle.jbig2_base.proofs.CauseSteps.{call-cause-or-memory}

-- ---- bits and codes
-- a result has its own error
pub own-error : {A : Type 0} (P : DecodeError → Type 0) (r : Result A DecodeError) → ((e : DecodeError) → r ≡ Err e → P e) → IfErr r P
own-error P (Ok x) why = tt
own-error P (Err e) why = why e refl

pub cause-bits : (P : DecodeError → Type 0) (e : DecodeError) (count : ℕ) (p : Place) → (length (bits_left p) < count → P e) → IfErr (bits_at e count p) P
cause-bits P e count p why =
    let bits : List ℕ = bits_left p in
    let Q : Option ℕ → Type 0 = λ n. IfErr (some_or e n) P in
    cause-next P (some_or e (bits_next count bits)) _ (cond_both (ltb (length bits) count) None _ Q (λ short. why (ltb-true (length bits) count short)) (λ there. tt)) (λ n is. tt)

no-number : (table : List Member) (p : Place) → IfErr (no_oob (decoded_value table (bits_left p)).result) (BreaksNumberAt table p)
unfolding HasCause
no-number table p = let number = no_oob (decoded_value table (bits_left p)).result in number_cause table p number (own-error (λ e. number ≡ Err e) number (λ e is. is))

pub cause-value : (P : DecodeError → Type 0) (table : List Member) (p : Place) → ((e : DecodeError) → BreaksNumberAt table p e → P e) → IfErr (value_at table p) P
cause-value P table p why =
    let number = no_oob (decoded_value table (bits_left p)).result in
    cause-next P number _ (cause-more (BreaksNumberAt table p) P number (no-number table p) why) (λ n is. tt)

-- No value is refused because it is out of band.
abbrev InBand : DecodeError → Type 0
InBand (Huffman UnexpectedOob) = ⊥
InBand _ = Unit {0}

code-in-band : (table : List Member) (bits : List ℕ) (e : DecodeError) → BreaksCode table bits e → InBand e
code-in-band table bits (Huffman UnexpectedOob) why = why
code-in-band table bits _ why = tt

range-in-band : (line : TableLine) (bits : List ℕ) (e : DecodeError) → BreaksRange line bits e → InBand e
range-in-band line bits (Huffman UnexpectedOob) why = why
range-in-band line bits _ why = tt

value-in-band : (table : List Member) (p : Place) → IfErr (decoded_value table (bits_left p)).result InBand
unfolding HasCause decoded_value
value-in-band table p = by code.result (cause-more (BreaksCode table bits) InBand code.result (code_cause table p code.result (own-error (λ e. code.result ≡ Err e) code.result (λ e is. is))) (code-in-band table bits))
  where
    bits : List ℕ
    bits = bits_left p

    code : CodeReading TableLine
    code = read_code table bits

    by : (r : Result TableLine DecodeError) → IfErr r InBand
        → let reading : CodeReading (Option ℤ) = elim r [
          | Ok line ↦ let value = value_by line (bits_next line.range_length (drop code.taken bits)) in
              let extra = if line.is_out_of_band then 0 else line.range_length in
              record { result = (if line.is_out_of_band then Ok None else value); taken = code.taken + extra }
          | Err e ↦ record { result = Err e; taken = code.taken }
        ] in IfErr reading.result InBand
    by (Err e) law = law
    by (Ok line) law =
        let rest = drop code.taken bits in
        let value = value_by line (bits_next line.range_length rest) in
        cond_both line.is_out_of_band (Ok None) value (λ (r : Result (Option ℤ) DecodeError). IfErr r InBand) (λ out. tt)
        (λ inside. cause-more (BreaksRange line rest) InBand value (range_cause line rest value (own-error (λ e. value ≡ Err e) value (λ e is. is))) (range-in-band line rest))

as-value : (table : List Member) (p : Place) (e : DecodeError) → InBand e → BreaksNumberAt table p e → BreaksValueAt table p e
as-value table p (Huffman UnexpectedOob) none why = absurd none
as-value table p _ none why = why

pub no-value : (table : List Member) (p : Place) → IfErr (decoded_value table (bits_left p)).result (BreaksValueAt table p)
no-value table p = by (decoded_value table (bits_left p)).result (value-in-band table p) (no-number table p)
  where
    by : (r : Result (Option ℤ) DecodeError) → IfErr r InBand → IfErr (no_oob r) (BreaksNumberAt table p) → IfErr r (BreaksValueAt table p)
    by (Ok value) inside why = tt
    by (Err e) inside why = as-value table p e inside why

-- ---- the runcodes' lengths
cause-short : (P : DecodeError → Type 0) (count : ℕ) (so_far : List ℕ) (p : Place)
    → ((k : ℕ) → k < count → After (short_lengths k so_far p) (λ lens. length (bits_left lens.1) < 4) → P invalid_code) → IfErr (short_lengths count so_far p) P
unfolding short_lengths
cause-short P zero so_far p why = tt
cause-short P (suc count) so_far p why =
    cause-next P (bits_at invalid_code 4 p) _ (cause-bits P invalid_code 4 p (λ short. why 0 (omega arith) ((so_far, p), refl, short))) (λ len len_is.
    cause-short P count (so_far ++ len.0 ∷ []) len.1 (λ k below there.
    why (suc k) (omega (arith, below)) (there.0, ap (λ r. r >>= λ (l : ℕ × Place). short_lengths k (so_far ++ l.0 ∷ []) l.1) len_is ∙ there.1, there.2)))

cause-runcodes : (P : DecodeError → Type 0) (p : Place) → ((k : ℕ) → k < 35 → After (short_lengths k [] p) (λ lens. length (bits_left lens.1) < 4) → P invalid_code)
    → (After (short_lengths 35 [] p) (λ lens. AreCrowded (lines_from 0 lens.0)) → P invalid_code) → IfErr (runcodes_at p) P
unfolding runcodes_at
cause-runcodes P p missing crowded =
    cause-next P (short_lengths 35 [] p) _ (cause-short P 35 [] p missing) (λ lens is.
    cause-next P (table_of (lines_from 0 lens.0)) _ (table-cause P (lines_from 0 lens.0) (λ are. crowded (lens, is, are))) (λ table r. tt))

-- ---- runs
cause-last_length : (P : DecodeError → Type 0) (so_far : List ℕ) → (so_far ≡ [] → P invalid_code) → IfErr (some_or invalid_code (slice_get so_far (length so_far - 1))) P
cause-last_length P [] why = why refl
cause-last_length P (x ∷ xs) why =
    let there : slice_get (x ∷ xs) (length (x ∷ xs) - 1) ≡ Some (get_or (x ∷ xs) (length (x ∷ xs) - 1) 0) = slice_get-get_or (x ∷ xs) (length (x ∷ xs) - 1) 0 (omega arith) in
    rw there tt

cause-run : (P : DecodeError → Type 0) (code : ℤ) (so_far : List ℕ) (p : Place) → (BreaksRun code so_far p → P invalid_code) → IfErr (run_at code so_far p) P
cause-run P (negsuc n) so_far p why = why tt
cause-run P (pos code) so_far p why =
    cause-if P (ltb code 32) _ _ (λ short. tt) (λ long.
    cause-if P (eqb code 32) _ _ (λ at_last.
    cause-next P (bits_at invalid_code 2 p) _ (cause-bits P invalid_code 2 p (λ short. why (inl (eqb-true code 32 at_last, inl short)))) (λ n n_is.
    cause-next P (with_last_repeated so_far (n.0 + 3)) _ (cause-next P (some_or invalid_code (slice_get so_far (length so_far - 1))) _ (cause-last_length P so_far (λ none. why (inl (eqb-true code 32 at_last, inr none)))) (λ len is. tt)) (λ lens is. tt))) (λ other.
    cause-if P (eqb code 33) _ _ (λ at_zeros.
    cause-next P (bits_at invalid_code 3 p) _ (cause-bits P invalid_code 3 p (λ short. why (inr (inl (eqb-true code 33 at_zeros, short))))) (λ n n_is. tt)) (λ more.
    cause-next P (bits_at invalid_code 7 p) _ (cause-bits P invalid_code 7 p (λ short. why (inr (inr (above code long other more, short))))) (λ n n_is. tt))))
  where
    above : (code : ℕ) → ltb code 32 ≡ false → eqb code 32 ≡ false → eqb code 33 ≡ false → 33 < code
    above code a b c = omega (arith, ltb-false code 32 a, eqb-false code 32 b, eqb-false code 33 c)

cause-runs : (P : DecodeError → Type 0) (most count : ℕ) (runcodes : List Member) (so_far : List ℕ) (p : Place)
    → ((k : ℕ) (e : DecodeError) → After (runs_at k count runcodes so_far p) (λ lens. (length lens.0 < count) × BreaksNumberAt runcodes lens.1 e) → P e)
    → ((k : ℕ) → After (runs_at k count runcodes so_far p) (λ lens. (length lens.0 < count) × After (value_at runcodes lens.1) (λ code. BreaksRun code.0 lens.0 code.1)) → P invalid_code)
    → IfErr (runs_at most count runcodes so_far p) P
unfolding runs_at
cause-runs P zero count runcodes so_far p refused faulty = tt
cause-runs P (suc most) count runcodes so_far p refused faulty =
    cause-if P (ltb (length so_far) count) _ _ (λ few.
    let less : length so_far < count = ltb-true (length so_far) count few in
    cause-next P (next_runcode runcodes so_far p) _
    (cause-next P (value_at runcodes p) _ (cause-value P runcodes p (λ e no. refused 0 e ((so_far, p), refl, (less, no)))) (λ code code_is.
    cause-run P code.0 so_far code.1 (λ bad. faulty 0 ((so_far, p), refl, (less, (code, code_is, bad))))))
    (λ more more_is.
    let on : ℕ → Result (List ℕ × Place) DecodeError → Result (List ℕ × Place) DecodeError = λ k r. r >>= λ m. runs_at k count runcodes m.0 m.1 in
    cause-runs P most count runcodes more.0 more.1
    (λ k e there. refused (suc k) e (there.0, cond-true _ _ _ few ∙ ap (on k) more_is ∙ there.1, there.2))
    (λ k there. faulty (suc k) (there.0, cond-true _ _ _ few ∙ ap (on k) more_is ∙ there.1, there.2)))) (λ full. tt)

-- ---- all of it
pub symbol_code_causes : (count : ℕ) (p : Place) → IfErr (symbol_codes_from count p) (BreaksSymbolCodes count p)
unfolding symbol_codes_from symbol_lengths_at
symbol_code_causes count p =
    let P : DecodeError → Type 0 = BreaksSymbolCodes count p in
    cause-next P (runcodes_at p) _ (cause-runcodes P p (λ k below there. inl (refl, inl (k, below, there))) (λ crowded. inl (refl, inr (inl crowded)))) (λ runcodes is.
    let runs : Result (List ℕ × Place) DecodeError = runs_at count count runcodes.0 [] runcodes.1 in
    let Q : List ℕ × Place → Type 0 = λ lens. runs ≡ Ok lens in
    cause-last P Q (symbol_lengths_at count runcodes.0 runcodes.1) _
    (result-next P Q Q runs _
    (result-of P Q runs (cause-runs P count count runcodes.0 [] runcodes.1 (λ k e there. inr (runcodes, is, (k, there))) (λ k there. inl (refl, inr (inr (inl (runcodes, is, (k, there))))))) (λ lens lens_are. lens_are))
    (λ lens lens_are. result-next P _ Q (refuse_if (ltb count (length lens.0)) invalid_code) _
    (result-refused P (ltb count (length lens.0)) invalid_code (λ past. inl (refl, inr (inr (inr (runcodes, is, (lens, lens_are, inl (ltb-true count (length lens.0) past)))))))) (λ fit r. lens_are)))
    (λ lens lens_are. cause-next P (table_of (lines_from 0 lens.0)) _
    (table-cause P (lines_from 0 lens.0) (λ crowded. inl (refl, inr (inr (inr (runcodes, is, (lens, lens_are, inr crowded))))))) (λ codes r. tt)))

pub symbol_code_cause : {X : Type 0} (count : ℕ) (bytes : List ℕ) (r : Result X DecodeError) → IfErr r (λ e. (e ≡ OutOfMemory) ⊎ (symbol_codes_at count bytes ≡ Err e))
    → HasCauseOrNoMemory r (BreaksSymbolCodes count (start_of bytes))
symbol_code_cause count bytes r =
    let P : DecodeError → Type 0 = BreaksSymbolCodes count (start_of bytes) in
    call-cause-or-memory P (symbol_codes_at count bytes) r (cause-next P (symbol_codes_from count (start_of bytes)) _ (symbol_code_causes count (start_of bytes)) (λ codes is. tt))
