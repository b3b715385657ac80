-- The codes of the ids of a dictionary's symbols: all of one length, they are never more than this many bits tell apart.
use Rattle.std.proofs.Common.{if◌then◌else◌, ◌≡◌, ℕ, zero, suc, ◌+◌, ◌-◌, ◌^◌, ◌<◌, ◌≤◌, ltb, leb, max, ⊎_elim, pow-suc, pow_mono, true, ◌&&◌, List, [], ◌∷◌, ◌++◌, Result, Err, pos, refl, ◌∙◌, arith}
use Rattle.std.specs.Prelude.{◌⊎◌, IfErr}
use Rattle.std.proofs.lemmas.Bool.{cases_lt, cond-true, cond_both, le-leb, leb-true, lt-ltb, ltb-true}
use Rattle.jbig2_base.specs.Causes.{HasCauseOrNoMemory}
use Rattle.jbig2_base.specs.declared.error.DecodeError.{DecodeError}
use Rattle.jbig2_base.specs.declared.error.DecodeError.TheVariants.{OutOfMemory}
use Rattle.jbig2_base.proofs.CauseSteps.{call-cause-or-memory}
use Rattle.jbig2_base.proofs.SearchLemmas.{place-found}
use Rattle.jbig2_region.proofs.ResultCauses.{cause-if}
use Rattle.jbig2_coder.specs.PrefixCode.{is_crowded, longest, share, weight}
use Rattle.jbig2_coder.specs.Tables.{line, uniform}
use Rattle.jbig2_coder.specs.CodeLength.{code_length}
use Rattle.jbig2_coder.specs.declared.huffman_table.line.TableLine.{TableLine}
use Rattle.jbig2_symbol.specs.SymbolBitmaps.{id_bits, id_codes}
use Rattle.jbig2_symbol.specs.Causes.{BreaksIdCodes}
use Rattle.jbig2_symbol.specs.SymbolHeader.{SymbolHeader}

-- ---- codes of one length
longest-last : (xs : List TableLine) (x : TableLine) → longest (xs ++ x ∷ []) ≡ max (longest xs) x.prefix_length
longest-last [] x = omega arith
longest-last (y ∷ xs) x = omega (arith, longest-last xs x)

longest-uniform : (n len : ℕ) → longest (uniform (suc n) len) ≡ len
longest-uniform zero len = omega arith
longest-uniform (suc n) len = longest-last (uniform (suc n) len) (line len 0 (pos (suc n))) ∙ omega (arith, longest-uniform n len)

weight-last : (l : ℕ) (xs : List TableLine) (x : TableLine) → weight l (xs ++ x ∷ []) ≡ weight l xs + share l x.prefix_length
unfolding weight
weight-last l [] x = omega arith
weight-last l (y ∷ xs) x = omega (arith, weight-last l xs x)

one-share : (len : ℕ) → 1 ≤ len → share len len ≡ 1
one-share len some =
    let inside : (ltb 0 len && leb len len) ≡ true = rw (lt-ltb 0 len some, le-leb len len (omega arith)) refl in
    let none : len - len ≡ 0 = omega arith in
    cond-true (ltb 0 len && leb len len) (2 ^ (len - len)) 0 inside ∙ rw none refl

weight-uniform : (n len : ℕ) → 1 ≤ len → weight len (uniform n len) ≡ n
unfolding weight
weight-uniform zero len some = refl
weight-uniform (suc n) len some = omega (arith, weight-last len (uniform n len) (line len 0 (pos n)), weight-uniform n len some, one-share len some)

not-crowded : (n len : ℕ) → 1 ≤ len → n ≤ 2 ^ len → is_crowded (uniform n len) ≡ true → ⊥
unfolding is_crowded weight
not-crowded zero len some few crowded = cc
not-crowded (suc n) len some few crowded =
    let long : longest (uniform (suc n) len) ≡ len = longest-uniform n len in
    let all : weight len (uniform (suc n) len) ≡ suc n = weight-uniform (suc n) len some in
    let over : 2 ^ longest (uniform (suc n) len) < weight (longest (uniform (suc n) len)) (uniform (suc n) len) = ltb-true (2 ^ longest (uniform (suc n) len)) (weight (longest (uniform (suc n) len)) (uniform (suc n) len)) crowded in
    omega (arith, few, all, rw long at over)

-- ---- the codes of the ids
below-pow : (n : ℕ) → n < 2 ^ n
below-pow zero = omega arith
below-pow (suc n) = rw pow-suc (omega (arith, below-pow n))

enough-bits : (n : ℕ) → n ≤ 2 ^ code_length n
enough-bits n =
    ⊎_elim (λ less. leb-true n (2 ^ code_length n) (place-found (λ bits. leb n (2 ^ bits)) n less)) (λ most. omega (arith, most, below-pow (code_length n))) (cases_lt (code_length n) n)

some-bits : (n bits len : ℕ) → n ≤ 2 ^ bits → bits ≤ len → n ≤ 2 ^ len
some-bits n bits len few more = let up : 2 ^ bits ≤ 2 ^ len = pow_mono more in omega (arith, few, up)

abbrev coded_ids : SymbolHeader → ℕ → ℕ
coded_ids h symbols = if h.flags.use_huffman && h.flags.use_refagg then symbols + h.num_new_symbols else 0

coded-few : (h : SymbolHeader) (symbols : ℕ) → coded_ids h symbols ≤ 2 ^ max 1 (id_bits h symbols)
coded-few h symbols =
    let all : ℕ = symbols + h.num_new_symbols in
    let bits : ℕ = id_bits h symbols in
    let enough : all ≤ 2 ^ max 1 bits = some-bits all bits (max 1 bits) (enough-bits all) (omega arith) in
    cond_both (h.flags.use_huffman && h.flags.use_refagg) all 0 (λ (n : ℕ). n ≤ 2 ^ max 1 bits) (λ coded. enough) (λ none. omega arith)

id_codes_are_there : (h : SymbolHeader) (symbols : ℕ) → IfErr (id_codes h symbols) (BreaksIdCodes h symbols)
id_codes_are_there h symbols =
    let lines : List TableLine = uniform (coded_ids h symbols) (max 1 (id_bits h symbols)) in
    cause-if (λ e. ⊥) (is_crowded lines) _ _ (λ crowded. not-crowded (coded_ids h symbols) (max 1 (id_bits h symbols)) (omega arith) (coded-few h symbols) crowded) (λ fits. tt)

pub id_codes_cause : {X : Type 0} (h : SymbolHeader) (symbols : ℕ) (r : Result X DecodeError) → IfErr r (λ e. (e ≡ OutOfMemory) ⊎ (id_codes h symbols ≡ Err e)) → HasCauseOrNoMemory r (BreaksIdCodes h symbols)
id_codes_cause h symbols r = call-cause-or-memory (BreaksIdCodes h symbols) (id_codes h symbols) r (id_codes_are_there h symbols)
