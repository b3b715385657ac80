-- Counts of steps.
use Rattle.std.proofs.Common.{◌≡◌, ℕ, ◌+◌, ◌*◌, sym, ap, ◌∙◌, arith}
use Rattle.jbig2_base.specs.Counts.{Counts}

abbrev loaded : Counts → ℕ → Counts
loaded s n = record s { loads = s.loads + n }

pub no-loads : (s : Counts) (n : ℕ) → n ≡ 0 → s ≡ record s { loads = s.loads + n }
no-loads s n none =
    let same : s.loads ≡ s.loads + n = omega arith in
    ap (λ (k : ℕ). let made : Counts = record s { loads = k } in made) same

pub more-loads : (s0 s1 s2 : Counts) (n m k : ℕ) → s1 ≡ record s0 { loads = s0.loads + n } → s2 ≡ record s1 { loads = s1.loads + m } → n + m ≡ k → s2 ≡ record s0 { loads = s0.loads + k }
more-loads s0 s1 s2 n m k one two sum =
    let same : s0.loads + n + m ≡ s0.loads + k = omega arith in
    two ∙ ap (λ (s : Counts). loaded s m) one ∙ ap (λ (a : ℕ). let made : Counts = record s0 { loads = a } in made) same

abbrev decided : Counts → ℕ → Counts
decided s n = record s { decisions = s.decisions + n }

pub no-decisions : (s : Counts) (n : ℕ) → n ≡ 0 → s ≡ record s { decisions = s.decisions + n }
no-decisions s n none =
    let same : s.decisions ≡ s.decisions + n = omega arith in
    ap (λ (k : ℕ). let made : Counts = record s { decisions = k } in made) same

pub more-decisions : (s0 s1 s2 : Counts) (n m k : ℕ) → s1 ≡ record s0 { decisions = s0.decisions + n } → s2 ≡ record s1 { decisions = s1.decisions + m } → n + m ≡ k → s2 ≡ record s0 { decisions = s0.decisions + k }
more-decisions s0 s1 s2 n m k one two sum =
    let same : s0.decisions + n + m ≡ s0.decisions + k = omega arith in
    two ∙ ap (λ (s : Counts). decided s m) one ∙ ap (λ (a : ℕ). let made : Counts = record s0 { decisions = a } in made) same

-- a block of pixels more
pub block-loads : (l0 l1 l2 i n a here next : ℕ) → l1 ≡ l0 + (2 * i + here * a) → l2 ≡ l1 + (2 + n * a) → next ≡ here + n → l2 ≡ l0 + (2 * (i + 1) + next * a)
block-loads l0 l1 l2 i n a here next one two sum = rw sum (omega arith)

pub none-loads : (l n a : ℕ) → 0 ≡ n → l ≡ l + (0 + n * a)
none-loads l n a none = rw (sym none) (omega arith)
