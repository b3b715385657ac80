-- The levels' codes are the sums of the definition, and a crowded table is one with two nodes at the root.
use Rattle.std.proofs.Common.{◌≡◌, ℕ, zero, suc, ◌+◌, ◌-◌, ◌*◌, ◌/◌, ◌^◌, ◌<◌, ◌≤◌, ltb, leb, eqb, Bool, true, false, ◌&&◌, cond, List, [], ◌∷◌, ◌++◌, length, refl, sym, ◌∙◌, ap, arith, pow-suc, ⊎_elim}
use Rattle.std.proofs.lemmas.Nat.{pow_pos}
use Rattle.std.proofs.Math.Nat.{mul-lt-mul_of_pos_right}
use Rattle.std.proofs.lemmas.Bool.{cases_lt, cases_eq, cond-true, cond-false, lt-ltb, le-ltb, le-leb, lt-leb, eq-eqb, ne_eqb, and_right, and_from}
use Rattle.jbig2_coder.specs.declared.huffman_table.line.TableLine.{TableLine}
use Rattle.jbig2_coder.specs.PrefixCode.{Member, share, weight, shorter, level, longest, prefix_code, is_crowded}
use Rattle.jbig2_coder.proofs.PrefixSums.{members-from}
use Rattle.jbig2_coder.specs.inner.PrefixLevels.{codes_of_length, codes_from, nodes, codes_at, groups}

share-none : (l len : ℕ) → l < len → share l len ≡ 0
share-none l len h = cond-false (ltb 0 len && leb len l) (2 ^ (l - len)) 0 (and_right (ltb 0 len) (leb len l) (lt-leb len l h))

share-zero : (l : ℕ) → share l 0 ≡ 0
share-zero l = refl

share-some : (l len : ℕ) → 0 < len → len ≤ l → share l len ≡ 2 ^ (l - len)
share-some l len some h = cond-true (ltb 0 len && leb len l) (2 ^ (l - len)) 0 (and_from (ltb 0 len) (leb len l) (lt-ltb 0 len some) (le-leb len l h))

share-double : (l len : ℕ) → len ≤ l → share (l + 1) len ≡ 2 * share l len
share-double l zero h = refl
share-double l (suc len) h =
    let t = l - suc len in
    let deeper : l + 1 - suc len ≡ suc t = omega arith in
    let power : 2 ^ suc t ≡ 2 * 2 ^ t = rw pow-suc (omega arith) in
    share-some (l + 1) (suc len) (omega arith) (omega arith)
    ∙ ap (λ (k : ℕ). 2 ^ k) deeper
    ∙ power
    ∙ ap (λ (k : ℕ). 2 * k) (sym (share-some l (suc len) (omega arith) h))

abbrev one_if : Bool → ℕ
one_if b = cond b 1 0

share-next : (l len : ℕ) → share (l + 1) len ≡ 2 * share l len + one_if (eqb len (l + 1))
share-next l len =
    ⊎_elim (λ (h : len < l + 1).
    let none : one_if (eqb len (l + 1)) ≡ 0 = ap one_if (ne_eqb len (l + 1) (λ e. omega arith)) in
    let double = share-double l len (omega arith) in
    omega arith)
    (λ (h : l + 1 ≤ len). ⊎_elim (λ (e : len ≡ l + 1).
    let one : one_if (eqb len (l + 1)) ≡ 1 = ap one_if (eq-eqb len (l + 1) e) in
    let whole : l + 1 - len ≡ 0 = omega arith in
    let here : share (l + 1) len ≡ 1 = share-some (l + 1) len (omega arith) (omega arith) ∙ ap (λ (k : ℕ). 2 ^ k) whole in
    let none = share-none l len (omega arith) in
    omega arith)
    (λ (ne : len ≡ l + 1 → ⊥).
    let none : one_if (eqb len (l + 1)) ≡ 0 = ap one_if (ne_eqb len (l + 1) ne) in
    let here = share-none (l + 1) len (omega arith) in
    let there = share-none l len (omega arith) in
    omega arith)
    (cases_eq len (l + 1)))
    (cases_lt len (l + 1))

length-level : (l : ℕ) (x : TableLine) (xs : List TableLine) → length (level l (x ∷ xs)) ≡ one_if (eqb x.prefix_length l) + length (level l xs)
length-level l x xs =
    elim (eqb x.prefix_length l) as (λ t. length (cond t (x ∷ level l xs) (level l xs)) ≡ one_if t + length (level l xs)) [
      | true ↦ omega arith
      | false ↦ omega arith
    ]

weight-next : (l : ℕ) (lines : List TableLine) → weight (l + 1) lines ≡ 2 * weight l lines + length (level (l + 1) lines)
unfolding weight
weight-next l [] = refl
weight-next l (x ∷ xs) =
    let first = share-next l x.prefix_length in
    let rest = weight-next l xs in
    let more = length-level (l + 1) x xs in
    omega arith

weight-none : (lines : List TableLine) → weight 0 lines ≡ 0
unfolding weight
weight-none [] = refl
weight-none (x ∷ xs) =
    let first : share 0 x.prefix_length ≡ 0 = ⊎_elim (λ (h : x.prefix_length ≡ 0). ap (λ (len : ℕ). share 0 len) h) (λ (h : x.prefix_length ≡ 0 → ⊥). share-none 0 x.prefix_length (omega arith)) (cases_eq x.prefix_length 0) in
    let rest = weight-none xs in
    omega arith

shorter-next : (l : ℕ) (lines : List TableLine) → shorter (l + 1) lines ≡ 2 * weight l lines
unfolding weight shorter
shorter-next l [] = refl
shorter-next l (x ∷ xs) =
    let len = x.prefix_length in
    let first : cond (ltb len (l + 1)) (share (l + 1) len) 0 ≡ 2 * share l len =
    ⊎_elim (λ (h : len < l + 1). cond-true (ltb len (l + 1)) (share (l + 1) len) 0 (lt-ltb len (l + 1) h) ∙ share-double l len (omega arith))
    (λ (h : l + 1 ≤ len). cond-false (ltb len (l + 1)) (share (l + 1) len) 0 (le-ltb len (l + 1) h) ∙ (let none = share-none l len (omega arith) in omega arith))
    (cases_lt len (l + 1)) in
    let rest = shorter-next l xs in
    omega arith

codes-are : (n k : ℕ) (lines : List TableLine) → codes_from n (k + 1) lines ≡ codes_at k (weight k lines) (groups n (k + 1) lines)
codes-are zero k lines = refl
codes-are (suc n) k lines =
    ap (λ (m : ℕ). codes_of_length (k + 1) m (level (k + 1) lines) ++ codes_from n (k + 1 + 1) lines) (shorter-next k lines)
    ∙ ap (λ (ms : List Member). codes_of_length (k + 1) (2 * weight k lines) (level (k + 1) lines) ++ ms)
    (codes-are n (k + 1) lines ∙ ap (λ (b : ℕ). codes_at (k + 1) b (groups n (k + 1 + 1) lines)) (weight-next k lines))

-- the definition's members are those of the groups
pub prefix_code-is : (lines : List TableLine) → prefix_code lines ≡ codes_at 0 0 (groups (longest lines) 1 lines)
unfolding prefix_code
prefix_code-is lines = members-from (longest lines) 1 lines ∙ codes-are (longest lines) 0 lines ∙ ap (λ (b : ℕ). codes_at 0 b (groups (longest lines) 1 lines)) (weight-none lines)

-- how many codes are used up after the groups
abbrev end_at : ℕ → List (List TableLine) → ℕ
end_at b [] = b
end_at b (g ∷ gs) = end_at (2 * b + length g) gs

end-weight : (n k : ℕ) (lines : List TableLine) → end_at (weight k lines) (groups n (k + 1) lines) ≡ weight (k + n) lines
end-weight zero k lines = ap (λ (l : ℕ). weight l lines) (let e : k ≡ k + 0 = omega arith in e)
end-weight (suc n) k lines =
    ap (λ (b : ℕ). end_at b (groups n (k + 1 + 1) lines)) (sym (weight-next k lines))
    ∙ end-weight n (k + 1) lines
    ∙ ap (λ (l : ℕ). weight l lines) (let e : k + 1 + n ≡ k + suc n = omega arith in e)

power-next : (g : List TableLine) (gs : List (List TableLine)) → 2 ^ length (g ∷ gs) ≡ 2 * 2 ^ length gs
power-next g gs = rw pow-suc (omega arith)

end-least : (b : ℕ) (gs : List (List TableLine)) → b * 2 ^ length gs ≤ end_at b gs
end-least b [] = omega arith
end-least b (g ∷ gs) =
    let t = 2 ^ length gs in
    let rest = end-least (2 * b + length g) gs in
    let power : b * 2 ^ length (g ∷ gs) ≡ 2 * b * t = ap (λ (p : ℕ). b * p) (power-next g gs) ∙ twice b t in
    let spread = mul-add_l (2 * b) (length g) t in
    omega arith
  where
    twice : (b t : ℕ) → b * (2 * t) ≡ 2 * b * t
    twice b t = grind arith

    mul-add_l : (x y t : ℕ) → (x + y) * t ≡ x * t + y * t
    mul-add_l x y t = grind arith

-- (b + j) places at the groups' top are too few exactly where more than j nodes stand there
kraft : (b : ℕ) (gs : List (List TableLine)) (j : ℕ) → ltb ((b + j) * 2 ^ length gs) (end_at b gs) ≡ ltb j (nodes gs)
kraft b [] j = le-ltb ((b + j) * 2 ^ 0) b (omega arith) ∙ sym (le-ltb j 0 (omega arith))
kraft b (g ∷ gs) j =
    let t = 2 ^ length gs in
    let base = 2 * b + length g in
    let power : (b + j) * 2 ^ length (g ∷ gs) ≡ (2 * b + 2 * j) * t = ap (λ (p : ℕ). (b + j) * p) (power-next g gs) ∙ regroup b j t in
    ap (λ (n : ℕ). ltb n (end_at base gs)) power
    ∙ ⊎_elim (λ (h : 2 * j < length g).
    let least = end-least base gs in
    let fewer : (2 * b + 2 * j) * t < base * t = mul-lt-mul_of_pos_right (omega arith) (pow_pos (length gs)) in
    lt-ltb ((2 * b + 2 * j) * t) (end_at base gs) (omega arith) ∙ sym (lt-ltb j ((length g + nodes gs + 1) / 2) (omega arith)))
    (λ (h : length g ≤ 2 * j).
    let i = 2 * j - length g in
    let at : 2 * b + 2 * j ≡ base + i = omega arith in
    ap (λ (n : ℕ). ltb (n * t) (end_at base gs)) at
    ∙ kraft base gs i
    ∙ ⊎_elim (λ (below : i < nodes gs). lt-ltb i (nodes gs) below ∙ sym (lt-ltb j ((length g + nodes gs + 1) / 2) (omega arith)))
    (λ (above : nodes gs ≤ i). le-ltb i (nodes gs) above ∙ sym (le-ltb j ((length g + nodes gs + 1) / 2) (omega arith)))
    (cases_lt i (nodes gs)))
    (cases_lt (2 * j) (length g))
  where
    regroup : (b j t : ℕ) → (b + j) * (2 * t) ≡ (2 * b + 2 * j) * t
    regroup b j t = grind arith

length-groups : (n l : ℕ) (lines : List TableLine) → length (groups n l lines) ≡ n
length-groups zero l lines = refl
length-groups (suc n) l lines = let rest = length-groups n (l + 1) lines in omega arith

-- a table is crowded exactly where more than one node is at the root
pub is_crowded-is : (lines : List TableLine) → is_crowded lines ≡ ltb 1 (nodes (groups (longest lines) 1 lines))
unfolding is_crowded
is_crowded-is lines =
    let n = longest lines in
    let gs = groups n 1 lines in
    let whole : (0 + 1) * 2 ^ length gs ≡ 2 ^ n = ap (λ (m : ℕ). (0 + 1) * 2 ^ m) (length-groups n 1 lines) ∙ (let one : (0 + 1) * 2 ^ n ≡ 2 ^ n = omega arith in one) in
    let sum : end_at 0 gs ≡ weight n lines = ap (λ (b : ℕ). end_at b gs) (sym (weight-none lines)) ∙ end-weight n 0 lines ∙ ap (λ (l : ℕ). weight l lines) (let e : 0 + n ≡ n = omega arith in e) in
    sym (ap (λ (m : ℕ). ltb m (end_at 0 gs)) whole ∙ ap (λ (m : ℕ). ltb (2 ^ n) m) sum)
    ∙ kraft 0 gs 1
