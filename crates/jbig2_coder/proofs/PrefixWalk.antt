-- The walk down the levels reads what the definition reads.
use Rattle.std.proofs.Common.{◌≡◌, ℕ, zero, suc, ◌+◌, ◌-◌, ◌*◌, ◌/◌, ◌^◌, ◌<◌, ◌≤◌, ltb, eqb, Bool, true, false, ◌&&◌, ◌||◌, cond, List, [], ◌∷◌, ◌++◌, length, Option, Some, None, refl, sym, ◌∙◌, ap, arith, pow-suc, ⊎_elim}
use Rattle.std.proofs.Math.Nat.{div-div-eq-div-mul}
use Rattle.std.proofs.lemmas.Bool.{cases_lt, cases_eq, cond-true, cond-false, lt-ltb, le-ltb, eq-eqb, ne_eqb, eqb-true, and_left, and_right, and_from, or_left, or_right, or_from}
use Rattle.std.specs.List.{slice_get}
use Rattle.jbig2_coder.specs.declared.huffman_table.line.TableLine.{TableLine}
use Rattle.jbig2_coder.specs.PrefixCode.{Member, CodeReading, line_of, begins_longer, read_code}
use Rattle.jbig2_coder.specs.inner.CodeReadings.{found_or, unknown_code}
use Rattle.jbig2_coder.proofs.PrefixFewest.{read_code-is}
use Rattle.jbig2_coder.specs.inner.PrefixLevels.{read_on, codes_of_length, nodes, codes_at, walk}

-- the first line, or else the other
abbrev pick : Option TableLine → Option TableLine → Option TableLine
pick (Some x) o = Some x
pick None o = o

-- two tests that hold of the same
same_test : (x y : Bool) → (x ≡ true → y ≡ true) → (y ≡ true → x ≡ true) → x ≡ y
same_test true y f h = sym (f refl)
same_test false true f h = h refl
same_test false false f h = refl

line_of-numbered : (l n e : ℕ) (g : List TableLine) (rest : List Member) → line_of (codes_of_length l n g ++ rest) l (n + e) ≡ pick (slice_get g e) (line_of rest l (n + e))
line_of-numbered l n e [] rest = refl
line_of-numbered l n zero (x ∷ xs) rest =
    cond-true (eqb l l && eqb n (n + 0)) (Some x) (line_of (codes_of_length l (n + 1) xs ++ rest) l (n + 0)) (and_from (eqb l l) (eqb n (n + 0)) (eq-eqb l l refl) (eq-eqb n (n + 0) (omega arith)))
line_of-numbered l n (suc e) (x ∷ xs) rest =
    let on : n + suc e ≡ n + 1 + e = omega arith in
    cond-false (eqb l l && eqb n (n + suc e)) (Some x) (line_of (codes_of_length l (n + 1) xs ++ rest) l (n + suc e)) (and_right (eqb l l) (eqb n (n + suc e)) (ne_eqb n (n + suc e) (λ h. omega arith)))
    ∙ ap (λ (v : ℕ). line_of (codes_of_length l (n + 1) xs ++ rest) l v) on
    ∙ line_of-numbered l (n + 1) e xs rest
    ∙ ap (λ (v : ℕ). pick (slice_get xs e) (line_of rest l v)) (sym on)

line_of-other : (l n : ℕ) (g : List TableLine) (rest : List Member) (k v : ℕ) → (l ≡ k → ⊥) → line_of (codes_of_length l n g ++ rest) k v ≡ line_of rest k v
line_of-other l n [] rest k v differ = refl
line_of-other l n (x ∷ xs) rest k v differ =
    cond-false (eqb l k && eqb n v) (Some x) (line_of (codes_of_length l (n + 1) xs ++ rest) k v) (and_left (eqb l k) (eqb n v) (ne_eqb l k differ))
    ∙ line_of-other l (n + 1) xs rest k v differ

line_of-above : (k b : ℕ) (gs : List (List TableLine)) (l v : ℕ) → l ≤ k → line_of (codes_at k b gs) l v ≡ None
line_of-above k b [] l v h = refl
line_of-above k b (g ∷ gs) l v h =
    line_of-other (k + 1) (2 * b) g (codes_at (k + 1) (2 * b + length g) gs) l v (λ e. omega arith)
    ∙ line_of-above (k + 1) (2 * b + length g) gs l v (omega arith)

begins-append : (xs ys : List Member) (k v : ℕ) → begins_longer (xs ++ ys) k v ≡ (begins_longer xs k v || begins_longer ys k v)
begins-append [] ys k v = refl
begins-append (m ∷ ms) ys k v =
    let first : Bool = ltb k m.bits && eqb (m.number / 2 ^ (m.bits - k)) v in
    ap (λ (t : Bool). first || t) (begins-append ms ys k v) ∙ or_regroup first (begins_longer ms k v) (begins_longer ys k v)
  where
    or_regroup : (x y z : Bool) → (x || (y || z)) ≡ ((x || y) || z)
    or_regroup true y z = refl
    or_regroup false y z = refl

begins-not_below : (l n : ℕ) (g : List TableLine) (k v : ℕ) → l ≤ k → begins_longer (codes_of_length l n g) k v ≡ false
begins-not_below l n [] k v h = refl
begins-not_below l n (x ∷ xs) k v h =
    or_from (ltb k l && eqb (n / 2 ^ (l - k)) v) (begins_longer (codes_of_length l (n + 1) xs) k v) (and_left (ltb k l) (eqb (n / 2 ^ (l - k)) v) (le-ltb k l h)) (begins-not_below l (n + 1) xs k v h)

-- one bit further down there are two places
halves : (q v : ℕ) → eqb (q / 2) v ≡ (eqb q (2 * v) || eqb q (2 * v + 1))
halves q v =
    same_test (eqb (q / 2) v) (eqb q (2 * v) || eqb q (2 * v + 1))
    (λ e. let at : q / 2 ≡ v = eqb-true (q / 2) v e in
    ⊎_elim (λ (h : q ≡ 2 * v). or_left (eqb q (2 * v)) (eqb q (2 * v + 1)) (eq-eqb q (2 * v) h))
    (λ (h : q ≡ 2 * v → ⊥). or_right (eqb q (2 * v)) (eqb q (2 * v + 1)) (eq-eqb q (2 * v + 1) (omega arith)))
    (cases_eq q (2 * v)))
    (λ e. eq-eqb (q / 2) v (⊎_elim (λ (h : q ≡ 2 * v). let r : q / 2 ≡ v = omega arith in r)
    (λ (h : q ≡ 2 * v → ⊥). let at : q ≡ 2 * v + 1 = eqb-true q (2 * v + 1) (sym (ap (λ (t : Bool). t || eqb q (2 * v + 1)) (ne_eqb q (2 * v) h)) ∙ e) in omega arith)
    (cases_eq q (2 * v))))

up-one : (m n l v : ℕ) → l + 1 < m → (ltb l m && eqb (n / 2 ^ (m - l)) v) ≡ ((ltb (l + 1) m && eqb (n / 2 ^ (m - (l + 1))) (2 * v)) || (ltb (l + 1) m && eqb (n / 2 ^ (m - (l + 1))) (2 * v + 1)))
up-one m n l v h =
    let t = m - (l + 1) in
    let q = n / 2 ^ t in
    let deeper : m - l ≡ suc t = omega arith in
    let power : 2 ^ suc t ≡ 2 ^ t * 2 = rw pow-suc (omega arith) in
    let quotient : n / 2 ^ (m - l) ≡ q / 2 = ap (λ (k : ℕ). n / 2 ^ k) deeper ∙ ap (λ (k : ℕ). n / k) power ∙ sym (div-div-eq-div-mul n (2 ^ t) 2) in
    ap (λ (s : Bool). s && eqb (n / 2 ^ (m - l)) v) (lt-ltb l m (omega arith))
    ∙ ap (λ (k : ℕ). eqb k v) quotient
    ∙ halves q v
    ∙ sym (ap (λ (s : Bool). (s && eqb q (2 * v)) || (s && eqb q (2 * v + 1))) (lt-ltb (l + 1) m h))

-- what a member begins, and what the others do
or_turn : (a p q r s t : Bool) → a ≡ (p || q) → r ≡ (s || t) → (a || r) ≡ ((p || s) || (q || t))
or_turn a p q r s t e f = ap (λ (x : Bool). x || r) e ∙ ap (λ (x : Bool). (p || q) || x) f ∙ turned p q s t
  where
    turned : (p q s t : Bool) → ((p || q) || (s || t)) ≡ ((p || s) || (q || t))
    turned true q s t = refl
    turned false true true t = refl
    turned false true false t = refl
    turned false false s t = refl

up-numbered : (m n l v : ℕ) (g : List TableLine) (rest : List Member) → l + 1 < m → begins_longer rest l v ≡ (begins_longer rest (l + 1) (2 * v) || begins_longer rest (l + 1) (2 * v + 1)) → begins_longer (codes_of_length m n g ++ rest) l v ≡ (begins_longer (codes_of_length m n g ++ rest) (l + 1) (2 * v) || begins_longer (codes_of_length m n g ++ rest) (l + 1) (2 * v + 1))
up-numbered m n l v [] rest h e = e
up-numbered m n l v (x ∷ xs) rest h e =
    or_turn (ltb l m && eqb (n / 2 ^ (m - l)) v) (ltb (l + 1) m && eqb (n / 2 ^ (m - (l + 1))) (2 * v)) (ltb (l + 1) m && eqb (n / 2 ^ (m - (l + 1))) (2 * v + 1))
    (begins_longer (codes_of_length m (n + 1) xs ++ rest) l v) (begins_longer (codes_of_length m (n + 1) xs ++ rest) (l + 1) (2 * v)) (begins_longer (codes_of_length m (n + 1) xs ++ rest) (l + 1) (2 * v + 1))
    (up-one m n l v h) (up-numbered m (n + 1) l v xs rest h e)

up : (k b : ℕ) (gs : List (List TableLine)) (l v : ℕ) → l < k → begins_longer (codes_at k b gs) l v ≡ (begins_longer (codes_at k b gs) (l + 1) (2 * v) || begins_longer (codes_at k b gs) (l + 1) (2 * v + 1))
up k b [] l v h = refl
up k b (g ∷ gs) l v h =
    up-numbered (k + 1) (2 * b) l v g (codes_at (k + 1) (2 * b + length g) gs) (omega arith) (up (k + 1) (2 * b + length g) gs l v (omega arith))

one_deeper : (k n : ℕ) → n / 2 ^ (k + 1 - k) ≡ n / 2
one_deeper k n = let e : k + 1 - k ≡ 1 = omega arith in ap (λ (t : ℕ). n / 2 ^ t) e

-- the codes one bit longer begin with v where 2 * v is one of them, and not where they end before
group-begins : (k n v : ℕ) (g : List TableLine) → n ≤ 2 * v → 2 * v < n + length g → begins_longer (codes_of_length (k + 1) n g) k v ≡ true
group-begins k n v [] low high = absurd (omega arith)
group-begins k n v (x ∷ xs) low high =
    let here : Bool = ltb k (k + 1) && eqb (n / 2 ^ (k + 1 - k)) v in
    let there : Bool = begins_longer (codes_of_length (k + 1) (n + 1) xs) k v in
    ⊎_elim (λ (h : n ≡ 2 * v). or_left here there (and_from (ltb k (k + 1)) (eqb (n / 2 ^ (k + 1 - k)) v) (lt-ltb k (k + 1) (omega arith)) (eq-eqb (n / 2 ^ (k + 1 - k)) v (one_deeper k n ∙ (let half : n / 2 ≡ v = omega arith in half)))))
    (λ (h : n ≡ 2 * v → ⊥). or_right here there (group-begins k (n + 1) v xs (omega arith) (omega arith)))
    (cases_eq n (2 * v))

group-ends : (k n v : ℕ) (g : List TableLine) → n + length g ≤ 2 * v → begins_longer (codes_of_length (k + 1) n g) k v ≡ false
group-ends k n v [] h = refl
group-ends k n v (x ∷ xs) h =
    or_from (ltb k (k + 1) && eqb (n / 2 ^ (k + 1 - k)) v) (begins_longer (codes_of_length (k + 1) (n + 1) xs) k v)
    (and_right (ltb k (k + 1)) (eqb (n / 2 ^ (k + 1 - k)) v) (ne_eqb (n / 2 ^ (k + 1 - k)) v (λ e. let half : n / 2 ≡ v = sym (one_deeper k n) ∙ e in omega arith)))
    (group-ends k (n + 1) v xs (omega arith))

-- of the places of k bits after the codes, the first ones begin a longer code
pub begins-nodes : (k b : ℕ) (gs : List (List TableLine)) (j : ℕ) → begins_longer (codes_at k b gs) k (b + j) ≡ ltb j (nodes gs)
begins-nodes k b [] j = sym (le-ltb j 0 (omega arith))
begins-nodes k b (g ∷ gs) j =
    let base = 2 * b + length g in
    let tail = codes_at (k + 1) base gs in
    begins-append (codes_of_length (k + 1) (2 * b) g) tail k (b + j)
    ∙ ⊎_elim (λ (h : 2 * j < length g).
    or_left (begins_longer (codes_of_length (k + 1) (2 * b) g) k (b + j)) (begins_longer tail k (b + j)) (group-begins k (2 * b) (b + j) g (omega arith) (omega arith))
    ∙ sym (lt-ltb j ((length g + nodes gs + 1) / 2) (omega arith)))
    (λ (h : length g ≤ 2 * j).
    let i = 2 * j - length g in
    let even : 2 * (b + j) ≡ base + i = omega arith in
    let odd : 2 * (b + j) + 1 ≡ base + (i + 1) = omega arith in
    ap (λ (t : Bool). t || begins_longer tail k (b + j)) (group-ends k (2 * b) (b + j) g (omega arith))
    ∙ up (k + 1) base gs k (b + j) (omega arith)
    ∙ ap (λ (v : ℕ). begins_longer tail (k + 1) v || begins_longer tail (k + 1) (2 * (b + j) + 1)) even
    ∙ ap (λ (v : ℕ). begins_longer tail (k + 1) (base + i) || begins_longer tail (k + 1) v) odd
    ∙ ap (λ (t : Bool). t || begins_longer tail (k + 1) (base + (i + 1))) (begins-nodes (k + 1) base gs i)
    ∙ ap (λ (t : Bool). ltb i (nodes gs) || t) (begins-nodes (k + 1) base gs (i + 1))
    ∙ ⊎_elim (λ (below : i < nodes gs). or_left (ltb i (nodes gs)) (ltb (i + 1) (nodes gs)) (lt-ltb i (nodes gs) below) ∙ sym (lt-ltb j ((length g + nodes gs + 1) / 2) (omega arith)))
    (λ (above : nodes gs ≤ i). or_from (ltb i (nodes gs)) (ltb (i + 1) (nodes gs)) (le-ltb i (nodes gs) above) (le-ltb (i + 1) (nodes gs) (omega arith)) ∙ sym (le-ltb j ((length g + nodes gs + 1) / 2) (omega arith)))
    (cases_lt i (nodes gs)))
    (cases_lt (2 * j) (length g))

-- at lengths above k the members are those of the groups
record Sees (ms : List Member) (k b : ℕ) (gs : List (List TableLine)) : Type 0 where
  lines : (l v : ℕ) → k < l → line_of ms l v ≡ line_of (codes_at k b gs) l v
  longer : (l v : ℕ) → k < l → begins_longer ms l v ≡ begins_longer (codes_at k b gs) l v

sees-next : (ms : List Member) (k b : ℕ) (g : List TableLine) (gs : List (List TableLine)) → Sees ms k b (g ∷ gs) → Sees ms (k + 1) (2 * b + length g) gs
sees-next ms k b g gs sees =
    let tail = codes_at (k + 1) (2 * b + length g) gs in
    record {
      lines = λ l v h. sees.lines l v (omega arith) ∙ line_of-other (k + 1) (2 * b) g tail l v (λ e. omega arith);
      longer = λ l v h. sees.longer l v (omega arith) ∙ begins-append (codes_of_length (k + 1) (2 * b) g) tail l v ∙ ap (λ (t : Bool). t || begins_longer tail l v) (begins-not_below (k + 1) (2 * b) g l v (omega arith));
    }

found-both : (o : Option TableLine) (k : ℕ) (x y : CodeReading TableLine) → (o ≡ None → x ≡ y) → found_or o k x ≡ found_or (pick o None) k y
found-both (Some line) k x y h = refl
found-both None k x y h = h refl

past_group : (g : List TableLine) (e : ℕ) → slice_get g e ≡ None → length g ≤ e
past_group [] e h = omega arith
past_group (x ∷ xs) zero h = absurd (let never : Some x ≡ None = h in cc)
past_group (x ∷ xs) (suc e) h = let rest = past_group xs e h in omega arith

walk-on : (ms : List Member) (gs : List (List TableLine)) (k b d : ℕ) (bits : List ℕ) → Sees ms k b gs → walk gs k d bits ≡ read_on ms k (b + d) bits
walk-on ms [] k b d [] sees = refl
walk-on ms (g ∷ gs) k b d [] sees = refl
walk-on ms [] k b d (bit ∷ bits) sees =
    let n = 2 * (b + d) + bit in
    sym (ap (λ (o : Option TableLine). found_or o (k + 1) (cond (begins_longer ms (k + 1) n) (read_on ms (k + 1) n bits) (unknown_code (k + 1)))) (sees.lines (k + 1) n (omega arith))
    ∙ ap (λ (t : Bool). cond t (read_on ms (k + 1) n bits) (unknown_code (k + 1))) (sees.longer (k + 1) n (omega arith)))
walk-on ms (g ∷ gs) k b d (bit ∷ bits) sees =
    let n = 2 * (b + d) + bit in
    let e = 2 * d + bit in
    let base = 2 * b + length g in
    let tail = codes_at (k + 1) base gs in
    let at : n ≡ 2 * b + e = omega arith in
    let next = sees-next ms k b g gs sees in
    let line : line_of ms (k + 1) n ≡ pick (slice_get g e) None =
    sees.lines (k + 1) n (omega arith)
    ∙ ap (λ (v : ℕ). line_of (codes_of_length (k + 1) (2 * b) g ++ tail) (k + 1) v) at
    ∙ line_of-numbered (k + 1) (2 * b) e g tail
    ∙ ap (λ (o : Option TableLine). pick (slice_get g e) o) (line_of-above (k + 1) base gs (k + 1) (2 * b + e) (omega arith)) in
    found-both (slice_get g e) (k + 1) (cond (ltb (e - length g) (nodes gs)) (walk gs (k + 1) (e - length g) bits) (unknown_code (k + 1))) (cond (begins_longer ms (k + 1) n) (read_on ms (k + 1) n bits) (unknown_code (k + 1)))
    (λ none.
    let past = past_group g e none in
    let here : n ≡ base + (e - length g) = omega arith in
    let longer : begins_longer ms (k + 1) n ≡ ltb (e - length g) (nodes gs) =
    sees.longer (k + 1) n (omega arith)
    ∙ begins-append (codes_of_length (k + 1) (2 * b) g) tail (k + 1) n
    ∙ ap (λ (t : Bool). t || begins_longer tail (k + 1) n) (begins-not_below (k + 1) (2 * b) g (k + 1) n (omega arith))
    ∙ ap (λ (v : ℕ). begins_longer tail (k + 1) v) here
    ∙ begins-nodes (k + 1) base gs (e - length g) in
    ap (λ (r : CodeReading TableLine). cond (ltb (e - length g) (nodes gs)) r (unknown_code (k + 1))) (walk-on ms gs (k + 1) base (e - length g) bits next ∙ ap (λ (v : ℕ). read_on ms (k + 1) v bits) (sym here))
    ∙ ap (λ (t : Bool). cond t (read_on ms (k + 1) n bits) (unknown_code (k + 1))) (sym longer))
    ∙ ap (λ (o : Option TableLine). found_or o (k + 1) (cond (begins_longer ms (k + 1) n) (read_on ms (k + 1) n bits) (unknown_code (k + 1)))) (sym line)

-- the walk from the root reads by the members
pub walk-reads : (gs : List (List TableLine)) (bits : List ℕ) → walk gs 0 0 bits ≡ read_code (codes_at 0 0 gs) bits
walk-reads gs bits = walk-on (codes_at 0 0 gs) gs 0 0 0 bits (record { lines = λ l v h. refl; longer = λ l v h. refl }) ∙ read_code-is (codes_at 0 0 gs) bits
