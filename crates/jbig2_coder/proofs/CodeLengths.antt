-- The fewest bits of a code.
use Rattle.std.proofs.Common.{◌≡◌, ℕ, zero, suc, ◌^◌, ◌<◌, ◌≤◌, leb, sym, arith, pow-suc}
use Rattle.std.proofs.lemmas.Bool.{le-leb, lt-leb}
use Rattle.jbig2_base.proofs.SearchLemmas.{place-is}
use Rattle.jbig2_coder.specs.CodeLength.{code_length}

below-pow : (n : ℕ) → n < 2 ^ n
below-pow zero = omega arith
below-pow (suc n) = rw pow-suc (omega (arith, below-pow n))

few : (n k : ℕ) → ((j : ℕ) → j < k → 2 ^ j < n) → k ≤ n
few n zero below = omega arith
few n (suc k) below = omega (arith, below k (omega arith), below-pow k)

pub code-length-is : (n k : ℕ) → n ≤ 2 ^ k → ((j : ℕ) → j < k → 2 ^ j < n) → k ≡ code_length n
code-length-is n k enough below =
    sym (place-is (λ b. leb n (2 ^ b)) 0 n k (omega arith) (omega arith) (few n k below) (λ j above under. lt-leb n (2 ^ j) (below j under)) (λ _. le-leb n (2 ^ k) enough))
