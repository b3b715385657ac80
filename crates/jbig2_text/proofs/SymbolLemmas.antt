-- The steps of reading the codes of symbols.
use Rattle.std.proofs.Common.{◌≡◌, ℕ, zero, suc, ◌+◌, ◌-◌, ◌<◌, ◌≤◌, List, [], ◌∷◌, ◌++◌, length, drop, get_or, pos, Result, Ok, Err, refl, sym, ◌∙◌, ap, arith, inl, inr, ◌⊎◌}
use Rattle.std.proofs.lemmas.List.{append_assoc, drop_more}
use Rattle.std.proofs.lemmas.Bool.{cond-true, cond-false, lt-ltb, le-ltb}
use Rattle.jbig2_base.specs.Results.{◌>>=◌}
use Rattle.jbig2_base.specs.Bits.{Place}
use Rattle.jbig2_base.specs.Fields.{bits_at}
use Rattle.jbig2_base.specs.declared.error.DecodeError.{DecodeError}
use Rattle.jbig2_base.specs.declared.error.DecodeError.TheVariants.{OutOfMemory}
use Rattle.jbig2_coder.specs.PrefixCode.{Member}
use Rattle.jbig2_coder.specs.Tables.{line}
use Rattle.jbig2_coder.specs.declared.huffman_table.line.TableLine.{TableLine}
use Rattle.jbig2_text.specs.SymbolCodes.{invalid_code, lines_from, short_lengths, next_runcode, runs_at}

-- what is read: lengths, and the place after them
abbrev pub Lengths : Type 0
Lengths = Result (List ℕ × Place) DecodeError

abbrev after_short : ℕ → List ℕ → Result (ℕ × Place) DecodeError → Lengths
after_short m lens r = r >>= λ len. short_lengths m (lens ++ len.0 ∷ []) len.1

short-step : (m : ℕ) (lens : List ℕ) (p : Place) → short_lengths (suc m) lens p ≡ after_short m lens (bits_at invalid_code 4 p)
unfolding short_lengths
short-step m lens p = refl

pub short-next : (k n : ℕ) (lens more : List ℕ) (p q : Place) (whole : Lengths) → k < 35 → short_lengths (35 - k) lens p ≡ whole → bits_at invalid_code 4 p ≡ Ok (n, q) → more ≡ lens ++ n ∷ [] → short_lengths (35 - (k + 1)) more q ≡ whole
short-next k n lens more p q whole below goes read pushed =
    let e : 35 - k ≡ suc (35 - (k + 1)) = omega arith in
    ap (λ (l : List ℕ). short_lengths (35 - (k + 1)) l q) pushed ∙ sym (ap (after_short (35 - (k + 1)) lens) read) ∙ sym (short-step (35 - (k + 1)) lens p) ∙ ap (λ m. short_lengths m lens p) (sym e) ∙ goes

pub short-fault : (k : ℕ) (lens : List ℕ) (p : Place) (e : DecodeError) (whole : Lengths) → k < 35 → short_lengths (35 - k) lens p ≡ whole → bits_at invalid_code 4 p ≡ Err e → whole ≡ Err e
short-fault k lens p e whole below goes read =
    let f : 35 - k ≡ suc (35 - (k + 1)) = omega arith in
    sym goes ∙ ap (λ m. short_lengths m lens p) f ∙ short-step (35 - (k + 1)) lens p ∙ ap (after_short (35 - (k + 1)) lens) read

pub short-done : (k : ℕ) (lens : List ℕ) (p : Place) (whole : Lengths) → 35 ≤ k → short_lengths (35 - k) lens p ≡ whole → whole ≡ Ok (lens, p)
unfolding short_lengths
short-done k lens p whole done goes =
    let e : 35 - k ≡ 0 = omega arith in
    sym goes ∙ ap (λ m. short_lengths m lens p) e

abbrev after_run : ℕ → ℕ → List Member → Lengths → Lengths
after_run m count ms r = r >>= λ more. runs_at m count ms more.0 more.1

runs-step : (m count : ℕ) (ms : List Member) (lens : List ℕ) (p : Place) → length lens < count → runs_at (suc m) count ms lens p ≡ after_run m count ms (next_runcode ms lens p)
unfolding runs_at
runs-step m count ms lens p few = cond-true _ _ _ (lt-ltb (length lens) count few)

pub runs-next : (k count : ℕ) (ms : List Member) (lens more : List ℕ) (p q : Place) (whole : Lengths) → k < count → length lens < count → runs_at (count - k) count ms lens p ≡ whole → next_runcode ms lens p ≡ Ok (more, q) → runs_at (count - (k + 1)) count ms more q ≡ whole
runs-next k count ms lens more p q whole below few goes read =
    let e : count - k ≡ suc (count - (k + 1)) = omega arith in
    sym (ap (after_run (count - (k + 1)) count ms) read) ∙ sym (runs-step (count - (k + 1)) count ms lens p few) ∙ ap (λ m. runs_at m count ms lens p) (sym e) ∙ goes

pub runs-fault : (k count : ℕ) (ms : List Member) (lens : List ℕ) (p : Place) (f : DecodeError) (whole : Lengths) → k < count → length lens < count → runs_at (count - k) count ms lens p ≡ whole → (f ≡ OutOfMemory) ⊎ (next_runcode ms lens p ≡ Err f) → (f ≡ OutOfMemory) ⊎ (whole ≡ Err f)
runs-fault k count ms lens p f whole below few goes (inl memory) = inl memory
runs-fault k count ms lens p f whole below few goes (inr read) =
    let e : count - k ≡ suc (count - (k + 1)) = omega arith in
    inr (sym goes ∙ ap (λ m. runs_at m count ms lens p) e ∙ runs-step (count - (k + 1)) count ms lens p few ∙ ap (after_run (count - (k + 1)) count ms) read)

pub runs-full : (m count : ℕ) (ms : List Member) (lens : List ℕ) (p : Place) (whole : Lengths) → count ≤ length lens → runs_at m count ms lens p ≡ whole → whole ≡ Ok (lens, p)
unfolding runs_at
runs-full zero count ms lens p whole full goes = sym goes
runs-full (suc m) count ms lens p whole full goes = sym goes ∙ cond-false _ _ _ (le-ltb (length lens) count full)

pub runs-done : (k count : ℕ) (ms : List Member) (lens : List ℕ) (p : Place) (whole : Lengths) → count ≤ k → runs_at (count - k) count ms lens p ≡ whole → whole ≡ Ok (lens, p)
unfolding runs_at
runs-done k count ms lens p whole done goes =
    let e : count - k ≡ 0 = omega arith in
    sym goes ∙ ap (λ m. runs_at m count ms lens p) e

-- one more line of the numbers from 0 on
pub lines-next : (lens : List ℕ) (n : ℕ) (before after all : List TableLine) (x : TableLine) → n < length lens → before ++ lines_from n (drop n lens) ≡ all → x ≡ line (get_or lens n 0) 0 (pos n) → after ≡ before ++ x ∷ []
    → after ++ lines_from (n + 1) (drop (n + 1) lens) ≡ all
lines-next lens n before after all x inside so_far one pushed =
    let rest : List TableLine = lines_from (n + 1) (drop (n + 1) lens) in
    ap (λ (xs : List TableLine). xs ++ rest) pushed
    ∙ append_assoc before (x ∷ []) rest
    ∙ ap (λ (y : TableLine). before ++ y ∷ rest) one
    ∙ sym (ap (λ (ls : List ℕ). before ++ lines_from n ls) (drop_more lens n 0 inside))
    ∙ so_far
