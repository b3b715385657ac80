-- If a table is not crowded, each code's number fits the code's bits.
use Rattle.std.proofs.Common.{◌≡◌, ◌⊎◌, ℕ, zero, suc, ◌+◌, ◌-◌, ◌*◌, ◌^◌, ◌<◌, ◌≤◌, Bool, true, false, cond, eqb, ltb, leb, ◌&&◌, List, [], ◌∷◌, ◌++◌, length, refl, ◌∙◌, ap, arith, pow-suc, ⊎_elim, inl, inr, eq-eqb, ne_eqb, lt-ltb, le-ltb, le-leb, length-append}
use Rattle.std.proofs.lemmas.Bool.{cond-true, cond-false, cases_eq, cases_lt, lt-leb, and_left, and_right, and_from}
use Rattle.std.proofs.lemmas.List.Elements.{filter-append}
use Rattle.jbig2_coder.specs.declared.huffman_table.line.TableLine.{TableLine}
use Rattle.jbig2_coder.specs.PrefixCode.{level, share, shorter, weight}

share-none : (l len : ℕ) → (len ≡ 0) ⊎ (l < len) → share l len ≡ 0
share-none l len h = ⊎_elim
    (λ (z : len ≡ 0). cond-false (ltb 0 len && leb len l) (2 ^ (l - len)) 0 (and_left (ltb 0 len) (leb len l) (le-ltb 0 len (omega (arith, z)))))
    (λ (o : l < len). cond-false (ltb 0 len && leb len l) (2 ^ (l - len)) 0 (and_right (ltb 0 len) (leb len l) (lt-leb len l o)))
    h

share-some : (l len : ℕ) → 0 < len → len ≤ l → share l len ≡ 2 ^ (l - len)
share-some l len some fits = cond-true (ltb 0 len && leb len l) (2 ^ (l - len)) 0 (and_from (ltb 0 len) (leb len l) (lt-ltb 0 len some) (le-leb len l fits))

share-twice : (l len : ℕ) → 2 * share l len ≤ share (l + 1) len
share-twice l len = ⊎_elim
    (λ (o : l < len). let e = share-none l len (inr o) in omega (arith, e))
    (λ (i : len ≤ l). ⊎_elim
    (λ (z : len ≡ 0). let e = share-none l len (inl z) in omega (arith, e))
    (λ (s : len ≡ 0 → ⊥).
    let e = share-some l len (omega (arith, s)) i in
    let more = share-some (l + 1) len (omega (arith, s)) (omega (arith, i)) in
    let next : l + 1 - len ≡ suc (l - len) = omega (arith, i) in
    let twice : 2 ^ (l + 1 - len) ≡ 2 * 2 ^ (l - len) = ap (λ (k : ℕ). 2 ^ k) next ∙ rw pow-suc (omega arith) in
    omega (arith, e, more, twice))
    (cases_eq len 0))
    (cases_lt l len)

weight-twice : (l : ℕ) (lines : List TableLine) → 2 * weight l lines ≤ weight (l + 1) lines
unfolding weight
weight-twice l [] = omega arith
weight-twice l (x ∷ xs) = let a = share-twice l x.prefix_length in let b = weight-twice l xs in omega (arith, a, b)

fits-below : (k l : ℕ) (lines : List TableLine) → weight (l + k) lines ≤ 2 ^ (l + k) → weight l lines ≤ 2 ^ l
fits-below zero l lines h = let e : l + 0 ≡ l = omega arith in rw e at h
fits-below (suc k) l lines h =
    let next : l + suc k ≡ l + k + 1 = omega arith in
    let last : weight (l + k + 1) lines ≤ 2 ^ (l + k + 1) = rw next at h in
    let same : l + k + 1 ≡ suc (l + k) = omega arith in
    let twice : 2 ^ (l + k + 1) ≡ 2 * 2 ^ (l + k) = ap (λ (i : ℕ). 2 ^ i) same ∙ rw pow-suc (omega arith) in
    let double = weight-twice (l + k) lines in
    fits-below k l lines (omega (arith, last, twice, double))

one_of : (l : ℕ) (x : TableLine) (b : Bool) (xs : List TableLine) → length (cond b (x ∷ xs) xs) ≡ cond b 1 0 + length xs
one_of l x true xs = omega arith
one_of l x false xs = omega arith

-- the line's own part of the weight is no less than what it adds to both counts
part : (l len : ℕ) → 0 < l → cond (ltb len l) (share l len) 0 + cond (eqb len l) 1 0 ≤ share l len
part l len some = ⊎_elim
    (λ (b : len < l).
    let e = cond-true (ltb len l) (share l len) 0 (lt-ltb len l b) in
    let f = cond-false {A = ℕ} (eqb len l) 1 0 (ne_eqb len l (λ s. omega (arith, b, s))) in
    omega (arith, e, f))
    (λ (a : l ≤ len).
    let e = cond-false (ltb len l) (share l len) 0 (le-ltb len l a) in
    ⊎_elim
    (λ (s : len ≡ l).
    let f = cond-true {A = ℕ} (eqb len l) 1 0 (eq-eqb len l s) in
    let none : l - len ≡ 0 = omega (arith, s) in
    let one : 2 ^ (l - len) ≡ 1 = ap (λ (k : ℕ). 2 ^ k) none ∙ (let z : 2 ^ 0 ≡ 1 = omega arith in z) in
    let g = share-some l len (omega (arith, s, some)) (omega (arith, s)) in
    omega (arith, e, f, one, g))
    (λ (o : len ≡ l → ⊥). let f = cond-false {A = ℕ} (eqb len l) 1 0 (ne_eqb len l o) in omega (arith, e, f))
    (cases_eq len l))
    (cases_lt len l)

counted : (l : ℕ) (lines : List TableLine) → 0 < l → shorter l lines + length (level l lines) ≤ weight l lines
unfolding weight shorter
counted l [] some = omega arith
counted l (x ∷ xs) some =
    let a = part l x.prefix_length some in
    let b = counted l xs some in
    let c = one_of l x (eqb x.prefix_length l) (level l xs) in
    omega (arith, a, b, c)

pub level-in : (l : ℕ) (before : List TableLine) (x : TableLine) (after : List TableLine) → x.prefix_length ≡ l → length (level l before) < length (level l (before ++ x ∷ after))
level-in l before x after len =
    let split = ap length (filter-append (λ (y : TableLine). eqb y.prefix_length l) before (x ∷ after)) ∙ length-append (level l before) (level l (x ∷ after)) in
    let here = one_of l x (eqb x.prefix_length l) (level l after) in
    let one = cond-true {A = ℕ} (eqb x.prefix_length l) 1 0 (eq-eqb x.prefix_length l len) in
    omega (arith, split, here, one)

pub number-fits : (top : ℕ) (before : List TableLine) (x : TableLine) (after : List TableLine) → 0 < x.prefix_length → x.prefix_length ≤ top
    → weight top (before ++ x ∷ after) ≤ 2 ^ top
    → shorter x.prefix_length (before ++ x ∷ after) + length (level x.prefix_length before) < 2 ^ x.prefix_length
number-fits top before x after some below fits =
    let l = x.prefix_length in
    let lines = before ++ x ∷ after in
    let reach : top ≡ l + (top - l) = omega (arith, below) in
    let all : weight (l + (top - l)) lines ≤ 2 ^ (l + (top - l)) = rw reach at fits in
    let room = fits-below (top - l) l lines all in
    let sum = counted l lines some in
    let more = level-in l before x after refl in
    omega (arith, room, sum, more)
