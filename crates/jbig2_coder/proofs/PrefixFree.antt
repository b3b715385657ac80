-- No code of a table begins another.
use Rattle.std.proofs.Common.{◌≡◌, ℕ, suc, ◌+◌, ◌-◌, ◌*◌, ◌/◌, ◌^◌, ◌<◌, ◌≤◌, leb, eqb, false, List, [], ◌∷◌, ◌++◌, length, get_or, refl, ◌∙◌, ap, arith, pow-suc}
use Rattle.std.specs.List.{All}
use Rattle.std.proofs.Math.Nat.{mul-le-mul_right}
use Rattle.std.proofs.lemmas.Nat.{le-div, pow_pos}
use Rattle.std.proofs.lemmas.Bool.{ne_eqb, lt-leb, and_left, and_right}
use Rattle.std.proofs.lemmas.List.Elements.{All-nil, All-cons, All-append}
use Rattle.std.proofs.lemmas.List.Kept.{AllPairs-cons}
use Rattle.jbig2_coder.specs.declared.huffman_table.line.TableLine.{TableLine}
use Rattle.jbig2_coder.specs.PrefixCode.{Member, begins, IsFree}
use Rattle.jbig2_coder.specs.inner.PrefixLevels.{codes_of_length, codes_at}

abbrev Apart : Member → Member → Type 0
Apart a b = (begins a b ≡ false) × (begins b a ≡ false)

-- longer than k bits, of which the first k spell b at least
abbrev Above : ℕ → ℕ → Member → Type 0
Above k b m = (k < m.bits) × (b * 2 ^ (m.bits - k) ≤ m.number)

-- as long, and later
abbrev Later : ℕ → ℕ → Member → Type 0
Later l n m = (m.bits ≡ l) × (n ≤ m.number)

none_apart : IsFree []
none_apart i j d h inside = absurd (omega arith)

later : (l n : ℕ) (g : List TableLine) (low : ℕ) → low ≤ n → All (Later l low) (codes_of_length l n g)
later l n [] low h = All-nil (Later l low)
later l n (x ∷ xs) low h =
    All-cons (Later l low) (record { bits = l; number = n; line = x }) (codes_of_length l (n + 1) xs) (refl, h) (later l (n + 1) xs low (omega arith))

above-up : (k b base : ℕ) (m : Member) → 2 * b ≤ base → Above (k + 1) base m → Above k b m
above-up k b base m h above =
    let t = 2 ^ (m.bits - (k + 1)) in
    let deeper : m.bits - k ≡ suc (m.bits - (k + 1)) = omega (arith, above.0) in
    let power : 2 ^ suc (m.bits - (k + 1)) ≡ 2 * t = rw pow-suc (omega arith) in
    let whole : b * 2 ^ (m.bits - k) ≡ 2 * b * t = ap (λ (j : ℕ). b * 2 ^ j) deeper ∙ ap (λ (p : ℕ). b * p) power ∙ turn b t in
    let few : 2 * b * t ≤ base * t = mul-le-mul_right t h in
    (omega (arith, above.0), omega (arith, above.1))
  where
    turn : (b t : ℕ) → b * (2 * t) ≡ 2 * b * t
    turn b t = grind arith

above-here : (k b : ℕ) (m : Member) → Later (k + 1) (2 * b) m → Above k b m
above-here k b m here =
    let one : m.bits - k ≡ 1 = omega (arith, here.0) in
    let twice : b * 2 ^ (m.bits - k) ≡ 2 * b = ap (λ (j : ℕ). b * 2 ^ j) one ∙ (let e : b * 2 ^ 1 ≡ 2 * b = omega arith in e) in
    (omega (arith, here.0), omega (arith, here.1))

above : (k b : ℕ) (gs : List (List TableLine)) → All (Above k b) (codes_at k b gs)
above k b [] = All-nil (Above k b)
above k b (g ∷ gs) =
    let base = 2 * b + length g in
    All-append (Above k b) (codes_of_length (k + 1) (2 * b) g) (codes_at (k + 1) base gs)
    (λ i d h. above-here k b (get_or (codes_of_length (k + 1) (2 * b) g) i d) (later (k + 1) (2 * b) g (2 * b) (omega arith) i d h))
    (λ i d h. above-up k b base (get_or (codes_at (k + 1) base gs) i d) (omega arith) (above (k + 1) base gs i d h))

apart-later : (l n : ℕ) (a m : Member) → a.bits ≡ l → a.number ≡ n → Later l (n + 1) m → Apart a m
apart-later l n a m bits number here =
    let same : m.bits - a.bits ≡ 0 = omega (arith, here.0) in
    let back : a.bits - m.bits ≡ 0 = omega (arith, here.0) in
    let first : m.number / 2 ^ (m.bits - a.bits) ≡ m.number = ap (λ (k : ℕ). m.number / 2 ^ k) same ∙ (let e : m.number / 2 ^ 0 ≡ m.number = omega arith in e) in
    let second : a.number / 2 ^ (a.bits - m.bits) ≡ a.number = ap (λ (k : ℕ). a.number / 2 ^ k) back ∙ (let e : a.number / 2 ^ 0 ≡ a.number = omega arith in e) in (
      and_right (leb a.bits m.bits) (eqb (m.number / 2 ^ (m.bits - a.bits)) a.number) (ne_eqb (m.number / 2 ^ (m.bits - a.bits)) a.number (λ e. omega (arith, here.1))),
      and_right (leb m.bits a.bits) (eqb (a.number / 2 ^ (a.bits - m.bits)) m.number) (ne_eqb (a.number / 2 ^ (a.bits - m.bits)) m.number (λ e. omega (arith, here.1))),
    )

apart-above : (l n base : ℕ) (a m : Member) → a.bits ≡ l → a.number ≡ n → n < base → Above l base m → Apart a m
apart-above l n base a m bits number below up =
    let size : m.bits - a.bits ≡ m.bits - l = omega arith in
    let first : base ≤ m.number / 2 ^ (m.bits - l) = le-div base m.number (2 ^ (m.bits - l)) (pow_pos (m.bits - l)) up.1 in
    let same : m.number / 2 ^ (m.bits - a.bits) ≡ m.number / 2 ^ (m.bits - l) = ap (λ (k : ℕ). m.number / 2 ^ k) size in (
      and_right (leb a.bits m.bits) (eqb (m.number / 2 ^ (m.bits - a.bits)) a.number) (ne_eqb (m.number / 2 ^ (m.bits - a.bits)) a.number (λ e. omega arith)),
      and_left (leb m.bits a.bits) (eqb (a.number / 2 ^ (a.bits - m.bits)) m.number) (lt-leb m.bits a.bits (omega (arith, up.0))),
    )

free-group : (l n base : ℕ) (g : List TableLine) (rest : List Member) → n + length g ≤ base → All (Above l base) rest → IsFree rest → IsFree (codes_of_length l n g ++ rest)
free-group l n base [] rest h up free = free
free-group l n base (x ∷ xs) rest h up free =
    let a : Member = record { bits = l; number = n; line = x } in
    AllPairs-cons Apart a (codes_of_length l (n + 1) xs ++ rest)
    (All-append (λ (m : Member). Apart a m) (codes_of_length l (n + 1) xs) rest
    (λ i d inside. apart-later l n a (get_or (codes_of_length l (n + 1) xs) i d) refl refl (later l (n + 1) xs (n + 1) (omega arith) i d inside))
    (λ i d inside. apart-above l n base a (get_or rest i d) refl refl (omega arith) (up i d inside)))
    (free-group l (n + 1) base xs rest (omega arith) up free)

pub free-codes : (k b : ℕ) (gs : List (List TableLine)) → IsFree (codes_at k b gs)
free-codes k b [] = none_apart
free-codes k b (g ∷ gs) =
    let base = 2 * b + length g in
    free-group (k + 1) (2 * b) base g (codes_at (k + 1) base gs) (omega arith) (above (k + 1) base gs) (free-codes (k + 1) base gs)
