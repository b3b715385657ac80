-- Runs, code by code.
use Rattle.std.proofs.Common.{◌≡◌, ℕ, zero, suc, ◌+◌, ◌<◌, ◌≤◌, Bool, cond, ltb, List, length, Option, Some, None, refl, sym, ap, subst, ◌∙◌, ⊎_elim, zero-add, arith}
use Rattle.std.proofs.lemmas.Bool.{cases_lt, cond-true, cond-false, lt-ltb, le-ltb}
use Rattle.jbig2_mmr.specs.T6.{read_code, run_from, runs_of, ◌>>=◌}
use Rattle.jbig2_mmr.specs.inner.T6Reading.{ReadRun}

-- a run of which `sum` was read before
abbrev plus : ℕ → Option (ℕ × List ℕ) → Option (ℕ × List ℕ)
plus sum None = None
plus sum (Some r) = Some (sum + r.0, r.1)

pub record RunReading (black : Bool) (sum : ℕ) (bits : List ℕ) (meant : Option (ℕ × List ℕ)) : Type 0 where
  pub most : ℕ
  pub enough : length bits ≤ most
  pub same : plus sum (run_from most black bits) ≡ meant

plus-zero : (o : Option (ℕ × List ℕ)) → plus 0 o ≡ o
plus-zero None = refl
plus-zero (Some r) = ap (λ (n : ℕ). Some (n, r.1)) (zero-add r.0)

-- what follows a code
abbrev following : ℕ → Bool → (ℕ × List ℕ) → Option (ℕ × List ℕ)
following most black code = cond (ltb code.0 64) (Some code) (run_from most black code.1 >>= (λ rest. Some (code.0 + rest.0, rest.1)))

plus-plus : (sum part : ℕ) (o : Option (ℕ × List ℕ)) → plus sum (o >>= (λ rest. Some (part + rest.0, rest.1))) ≡ plus (sum + part) o
plus-plus sum part None = refl
plus-plus sum part (Some r) = let same : sum + (part + r.0) ≡ sum + part + r.0 = omega arith in ap (λ (n : ℕ). Some (n, r.1)) same

pub run-start : (black : Bool) (bits : List ℕ) → RunReading black 0 bits (run_from (length bits) black bits)
run-start black bits = record { most = length bits; enough = omega arith; same = plus-zero (run_from (length bits) black bits) }

run-none : (most : ℕ) (black : Bool) (sum : ℕ) (bits : List ℕ) → None ≡ read_code (runs_of black) bits → None ≡ plus sum (run_from most black bits)
unfolding run_from
run-none zero black sum bits e = refl
run-none (suc n) black sum bits e = ap (λ (o : Option (ℕ × List ℕ)). plus sum (o >>= following n black)) e

pub run-fault : (black : Bool) (room sum : ℕ) (bits left : List ℕ) (meant : Option (ℕ × List ℕ)) → RunReading black sum bits meant → None ≡ read_code (runs_of black) bits → ReadRun meant room None left
run-fault black room sum bits left meant reading e = subst (λ (o : Option (ℕ × List ℕ)). ReadRun o room None left) (run-none reading.most black sum bits e ∙ reading.same) tt

run-some : (most : ℕ) (black : Bool) (sum part : ℕ) (bits left : List ℕ) → length bits ≤ most → length left < length bits → Some (part, left) ≡ read_code (runs_of black) bits → (n : ℕ) × (length left ≤ n) × (plus sum (run_from most black bits) ≡ plus sum (following n black (part, left)))
unfolding run_from
run-some zero black sum part bits left enough shorter e = absurd (omega arith)
run-some (suc n) black sum part bits left enough shorter e = (n, omega arith, sym (ap (λ (o : Option (ℕ × List ℕ)). plus sum (o >>= following n black)) e))

last : (n : ℕ) (black : Bool) (sum part : ℕ) (left : List ℕ) → part < 64 → plus sum (following n black (part, left)) ≡ Some (sum + part, left)
last n black sum part left small = ap (λ (o : Option (ℕ × List ℕ)). plus sum o) (cond-true (ltb part 64) (Some (part, left)) (run_from n black left >>= (λ rest. Some (part + rest.0, rest.1))) (lt-ltb part 64 small))

more : (n : ℕ) (black : Bool) (sum part : ℕ) (left : List ℕ) → 64 ≤ part → plus sum (following n black (part, left)) ≡ plus (sum + part) (run_from n black left)
more n black sum part left large =
    ap (λ (o : Option (ℕ × List ℕ)). plus sum o) (cond-false (ltb part 64) (Some (part, left)) (run_from n black left >>= (λ rest. Some (part + rest.0, rest.1))) (le-ltb part 64 large))
    ∙ plus-plus sum part (run_from n black left)

sum-past : (room sum : ℕ) (left : List ℕ) (o : Option (ℕ × List ℕ)) → room < sum → ReadRun (plus sum o) room None left
sum-past room sum left None past = tt
sum-past room sum left (Some r) past = omega arith

-- a sum beyond the room stays there
pub run-past : (black : Bool) (room sum part : ℕ) (bits left : List ℕ) (meant : Option (ℕ × List ℕ)) → RunReading black sum bits meant → length left < length bits → Some (part, left) ≡ read_code (runs_of black) bits → room < sum + part → ReadRun meant room None left
run-past black room sum part bits left meant reading shorter e past =
    let step = run-some reading.most black sum part bits left reading.enough shorter e in
    ⊎_elim
    (λ (small : part < 64). subst (λ (o : Option (ℕ × List ℕ)). ReadRun o room None left) (sym (last step.0 black sum part left small) ∙ sym step.2 ∙ reading.same) past)
    (λ (large : 64 ≤ part). subst (λ (o : Option (ℕ × List ℕ)). ReadRun o room None left) (sym (more step.0 black sum part left large) ∙ sym step.2 ∙ reading.same) (sum-past room (sum + part) left (run_from step.0 black left) past))
    (cases_lt part 64)

pub run-end : (black : Bool) (room sum part : ℕ) (bits left : List ℕ) (meant : Option (ℕ × List ℕ)) → RunReading black sum bits meant → length left < length bits → Some (part, left) ≡ read_code (runs_of black) bits → sum + part ≤ room → part < 64 → ReadRun meant room (Some (sum + part)) left
run-end black room sum part bits left meant reading shorter e within small =
    let step = run-some reading.most black sum part bits left reading.enough shorter e in
    subst (λ (o : Option (ℕ × List ℕ)). ReadRun o room (Some (sum + part)) left) (sym (last step.0 black sum part left small) ∙ sym step.2 ∙ reading.same) (refl, refl, within)

pub run-more : (black : Bool) (sum part : ℕ) (bits left : List ℕ) (meant : Option (ℕ × List ℕ)) → RunReading black sum bits meant → length left < length bits → Some (part, left) ≡ read_code (runs_of black) bits → 64 ≤ part → RunReading black (sum + part) left meant
run-more black sum part bits left meant reading shorter e large =
    let step = run-some reading.most black sum part bits left reading.enough shorter e in
    record {
      most = step.0;
      enough = step.1;
      same = sym (more step.0 black sum part left large) ∙ sym step.2 ∙ reading.same;
    }
