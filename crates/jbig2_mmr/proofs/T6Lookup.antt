-- The code that begins some bits, found by a table over a fixed number of them.
use Rattle.std.proofs.Common.{◌≡◌, ℕ, zero, suc, ◌+◌, ◌*◌, ◌/◌, ◌%◌, ◌^◌, ◌<◌, ◌≤◌, Bool, true, false, not, ◌&&◌, cond, eqb, ltb, leb, List, [], ◌∷◌, ◌++◌, length, take, drop, map, replicate, Option, Some, None, refl, sym, ap, ◌∙◌, ⊎_elim, zero-add, arith}
use Rattle.std.specs.Option.{is_some}
use Rattle.std.specs.List.{list_all, range_with_len}
use Rattle.std.proofs.lemmas.Nat.{shr-shr, shr_high}
use Rattle.std.proofs.lemmas.List.{length-append, take-append-drop, length-take-le, length-replicate}
use Rattle.std.proofs.lemmas.Bool.{true≢false, cases_eq, cases_Bool, cond-true, cond-false, and_parts, eq-eqb, eqb-true, ltb-true, leb-true}
use Rattle.jbig2_base.specs.Bits.{number_after}
use Rattle.jbig2_base.specs.inner.BitLists.{AreBits}
use Rattle.jbig2_base.proofs.BitFieldLemmas.{bits-take}
use Rattle.jbig2_base.proofs.NumberLemmas.{number-front, number-lt}
use Rattle.jbig2_mmr.specs.T6.{begins, read_code, is_prefix_free}
use Rattle.jbig2_mmr.specs.inner.T6Reading.{spell, code_at, entry_of, padded_bits}
use Rattle.jbig2_mmr.proofs.T6Bits.{spell-length}

-- ---- a test that holds for a stretch of numbers, by computing
pub at-all : {A : Type 0} (f : ℕ → A) (e : A) (lo n i : ℕ) → map f (range_with_len lo n) ≡ replicate n e → lo ≤ i → i < lo + n → f i ≡ e
at-all f e lo zero i same after before = absurd (omega arith)
at-all f e lo (suc n) i same after before =
    ⊎_elim
    (λ (here : lo ≡ i). let first : f lo ≡ e = cc in ap f (sym here) ∙ first)
    (λ (later : lo ≡ i → ⊥). let rest : map f (range_with_len (lo + 1) n) ≡ replicate n e = cc in at-all f e (lo + 1) n i rest (omega (arith, later)) (omega arith))
    (cases_eq lo i)

-- ---- words and their numbers
spell-front : (n v : ℕ) (following : List ℕ) → spell (suc n) v following ≡ v / 2 ^ n % 2 ∷ spell n v following
spell-front zero v following = let same : v / 2 ^ 0 ≡ v = omega arith in ap (λ (k : ℕ). k % 2 ∷ following) (sym same)
spell-front (suc n) v following =
    spell-front n (v / 2) (v % 2 ∷ following)
    ∙ ap (λ (k : ℕ). k % 2 ∷ spell n (v / 2) (v % 2 ∷ following)) (shr-shr v 1 n ∙ ap (λ (k : ℕ). v / 2 ^ k) (let one : 1 + n ≡ suc n = omega arith in one))

pub spell-word : (xs following : List ℕ) (f : ℕ) → AreBits xs → spell (length xs) (number_after f xs) following ≡ xs ++ following
unfolding AreBits
spell-word [] following f are = refl
spell-word (b ∷ xs) following f are =
    let v : ℕ = number_after (2 * f + b) xs in
    let high : v / 2 ^ length xs ≡ 2 * f + b = ap (λ (k : ℕ). k / 2 ^ length xs) (number-front (2 * f + b) xs) ∙ shr_high (2 * f + b) (length xs) (number_after 0 xs) (number-lt xs are.1) in
    let bit : v / 2 ^ length xs % 2 ≡ b = ap (λ (k : ℕ). k % 2) high ∙ low f b are.0 in
    spell-front (length xs) v following ∙ ap (λ (k : ℕ). k ∷ spell (length xs) v following) bit ∙ ap (λ (ys : List ℕ). b ∷ ys) (spell-word xs following (2 * f + b) are.1)
  where
    low : (f b : ℕ) → b < 2 → (2 * f + b) % 2 ≡ b
    low f b h = omega arith

-- ---- the code that begins bits, and bits after it or in front of its end
size_of : {A : Type 0} → Option (A × ℕ) → ℕ
size_of None = 0
size_of (Some r) = r.1

value_of : {A : Type 0} → A → Option (A × ℕ) → A
value_of other None = other
value_of other (Some r) = r.0

same-size : {A : Type 0} (a b : A) (m n : ℕ) → ◌≡◌ {A = Option (A × ℕ)} (Some (a, m)) (Some (b, n)) → m ≡ n
unfolding size_of
same-size {A = A} a b m n e = ap (λ (o : Option (A × ℕ)). size_of o) e

same-value : {A : Type 0} (a b : A) (m n : ℕ) → ◌≡◌ {A = Option (A × ℕ)} (Some (a, m)) (Some (b, n)) → a ≡ b
unfolding value_of
same-value {A = A} a b m n e = ap (λ (o : Option (A × ℕ)). value_of a o) e

pub read-is : {A : Type 0} (cs : List (A × List ℕ)) (bits : List ℕ) (a : A) (n : ℕ) → code_at cs bits ≡ Some (a, n) → read_code cs bits ≡ Some (a, drop n bits)
unfolding read_code code_at
read-is [] bits a n e = cc
read-is {A = A} (c ∷ cs) bits a n e =
    ⊎_elim
    (λ (yes : begins c.1 bits ≡ true).
    let same = sym (cond-true (begins c.1 bits) (Some (c.0, length c.1)) (code_at cs bits) yes) ∙ e in
    let value : c.0 ≡ a = same-value c.0 a (length c.1) n same in
    let size : length c.1 ≡ n = same-size c.0 a (length c.1) n same in
    cond-true (begins c.1 bits) (Some (c.0, drop (length c.1) bits)) (read_code cs bits) yes ∙ ap (λ (v : A). Some (v, drop (length c.1) bits)) value ∙ ap (λ (k : ℕ). Some (a, drop k bits)) size)
    (λ (no : begins c.1 bits ≡ false).
    cond-false (begins c.1 bits) (Some (c.0, drop (length c.1) bits)) (read_code cs bits) no
    ∙ read-is cs bits a n (sym (cond-false (begins c.1 bits) (Some (c.0, length c.1)) (code_at cs bits) no) ∙ e))
    (cases_Bool (begins c.1 bits))

pub read-none : {A : Type 0} (cs : List (A × List ℕ)) (bits : List ℕ) → code_at cs bits ≡ None → read_code cs bits ≡ None
unfolding read_code code_at
read-none [] bits e = refl
read-none (c ∷ cs) bits e =
    ⊎_elim
    (λ (yes : begins c.1 bits ≡ true). let same = sym (cond-true (begins c.1 bits) (Some (c.0, length c.1)) (code_at cs bits) yes) ∙ e in cc)
    (λ (no : begins c.1 bits ≡ false).
    cond-false (begins c.1 bits) (Some (c.0, drop (length c.1) bits)) (read_code cs bits) no
    ∙ read-none cs bits (sym (cond-false (begins c.1 bits) (Some (c.0, length c.1)) (code_at cs bits) no) ∙ e))
    (cases_Bool (begins c.1 bits))

-- a word of at most this many bits
abbrev pub are_short : {A : Type 0} → ℕ → List (A × List ℕ) → Bool
are_short n [] = true
are_short n (c ∷ cs) = leb (length c.1) n && ltb 0 (length c.1) && are_short n cs

begins-front : (word bits more : List ℕ) → length word ≤ length bits → begins word (bits ++ more) ≡ begins word bits
begins-front [] bits more h = refl
begins-front (b ∷ word) [] more h = absurd (omega arith)
begins-front (b ∷ word) (c ∷ bits) more h = ap (λ (t : Bool). eqb b c && t) (begins-front word bits more (omega arith))

begins-size : (word bits : List ℕ) → begins word bits ≡ true → length word ≤ length bits
begins-size [] bits e = omega arith
begins-size (b ∷ word) [] e = absurd (true≢false (sym e))
begins-size (b ∷ word) (c ∷ bits) e = let rest = begins-size word bits (and_parts (eqb b c) (begins word bits) e).1 in omega arith

not-before : (word bits more : List ℕ) → begins word (bits ++ more) ≡ false → begins word bits ≡ false
not-before word bits more none =
    ⊎_elim (λ (yes : begins word bits ≡ true). absurd (true≢false (sym (begins-front word bits more (begins-size word bits yes) ∙ yes) ∙ none))) (λ (is : begins word bits ≡ false). is) (cases_Bool (begins word bits))

too-long : (word bits : List ℕ) → length bits < length word → begins word bits ≡ false
too-long word bits long =
    ⊎_elim (λ (yes : begins word bits ≡ true). absurd (let fits = begins-size word bits yes in omega arith)) (λ (is : begins word bits ≡ false). is) (cases_Bool (begins word bits))

-- bits after the longest code change nothing
pub at-front : {A : Type 0} (cs : List (A × List ℕ)) (bits more : List ℕ) → are_short (length bits) cs ≡ true → code_at cs (bits ++ more) ≡ code_at cs bits
unfolding code_at
at-front [] bits more short = refl
at-front {A = A} (c ∷ cs) bits more short =
    let parts = and_parts (leb (length c.1) (length bits) && ltb 0 (length c.1)) (are_short (length bits) cs) short in
    let size = and_parts (leb (length c.1) (length bits)) (ltb 0 (length c.1)) parts.0 in
    ap (λ (t : Bool). cond t (Some (c.0, length c.1)) (code_at cs (bits ++ more))) (begins-front c.1 bits more (leb-true (length c.1) (length bits) size.0))
    ∙ ap (λ (o : Option (A × ℕ)). cond (begins c.1 bits) (Some (c.0, length c.1)) o) (at-front cs bits more parts.1)

pub at-size : {A : Type 0} (cs : List (A × List ℕ)) (most : ℕ) (bits : List ℕ) (a : A) (n : ℕ) → are_short most cs ≡ true → code_at cs bits ≡ Some (a, n) → (0 < n) × (n ≤ most)
unfolding code_at
at-size [] most bits a n short e = cc
at-size (c ∷ cs) most bits a n short e =
    let parts = and_parts (leb (length c.1) most && ltb 0 (length c.1)) (are_short most cs) short in
    let size = and_parts (leb (length c.1) most) (ltb 0 (length c.1)) parts.0 in
    ⊎_elim
    (λ (yes : begins c.1 bits ≡ true).
    let same = sym (cond-true (begins c.1 bits) (Some (c.0, length c.1)) (code_at cs bits) yes) ∙ e in
    let is : length c.1 ≡ n = same-size c.0 a (length c.1) n same in
    (omega (arith, is, ltb-true 0 (length c.1) size.1), omega (arith, is, leb-true (length c.1) most size.0)))
    (λ (no : begins c.1 bits ≡ false). at-size cs most bits a n parts.1 (sym (cond-false (begins c.1 bits) (Some (c.0, length c.1)) (code_at cs bits) no) ∙ e))
    (cases_Bool (begins c.1 bits))

-- two words that begin the same bits: one begins the other
both-begin : (v w bits : List ℕ) → begins v bits ≡ true → begins w bits ≡ true → (not (begins v w) && not (begins w v)) ≡ false
both-begin [] w bits e f = refl
both-begin (b ∷ v) [] bits e f = refl
both-begin (b ∷ v) (c ∷ w) [] e f = absurd (true≢false (sym e))
both-begin (b ∷ v) (c ∷ w) (d ∷ bits) e f =
    let one = and_parts (eqb b d) (begins v bits) e in
    let two = and_parts (eqb c d) (begins w bits) f in
    let same : b ≡ c = eqb-true b d one.0 ∙ sym (eqb-true c d two.0) in
    let rest = both-begin v w bits one.1 two.1 in
    ap (λ (t : Bool). not (t && begins v w) && not (eqb c b && begins w v)) (eq-eqb b c same)
    ∙ ap (λ (t : Bool). not (begins v w) && not (t && begins w v)) (eq-eqb c b (sym same))
    ∙ rest

-- the word begins none of the list, and none begins it
abbrev apart_from : {A : Type 0} → List ℕ → List (A × List ℕ) → Bool
apart_from word cs = list_all (λ c. not (begins word c.1) && not (begins c.1 word)) cs

-- a code that ends after the bits: no other code begins them
none-other : {A : Type 0} (cs : List (A × List ℕ)) (word bits more : List ℕ) → apart_from word cs ≡ true → begins word (bits ++ more) ≡ true → code_at cs bits ≡ None
unfolding code_at
none-other [] word bits more apart e = refl
none-other (c ∷ cs) word bits more apart e =
    let parts = and_parts (not (begins word c.1) && not (begins c.1 word)) (apart_from word cs) apart in
    ⊎_elim
    (λ (yes : begins c.1 bits ≡ true).
    absurd (true≢false (sym parts.0 ∙ both-begin word c.1 (bits ++ more) e (begins-front c.1 bits more (begins-size c.1 bits yes) ∙ yes))))
    (λ (no : begins c.1 bits ≡ false). cond-false (begins c.1 bits) (Some (c.0, length c.1)) (code_at cs bits) no ∙ none-other cs word bits more parts.1 e)
    (cases_Bool (begins c.1 bits))

-- what begins more bits begins fewer, where it is within them; else nothing does
pub at-within : {A : Type 0} (cs : List (A × List ℕ)) (bits more : List ℕ) (a : A) (n : ℕ) → code_at cs (bits ++ more) ≡ Some (a, n) → n ≤ length bits → code_at cs bits ≡ Some (a, n)
unfolding code_at
at-within [] bits more a n e fits = e
at-within (c ∷ cs) bits more a n e fits =
    ⊎_elim
    (λ (yes : begins c.1 (bits ++ more) ≡ true).
    let same = sym (cond-true (begins c.1 (bits ++ more)) (Some (c.0, length c.1)) (code_at cs (bits ++ more)) yes) ∙ e in
    let size : length c.1 ≡ n = same-size c.0 a (length c.1) n same in
    cond-true (begins c.1 bits) (Some (c.0, length c.1)) (code_at cs bits) (sym (begins-front c.1 bits more (omega arith)) ∙ yes) ∙ same)
    (λ (no : begins c.1 (bits ++ more) ≡ false).
    cond-false (begins c.1 bits) (Some (c.0, length c.1)) (code_at cs bits) (not-before c.1 bits more no)
    ∙ at-within cs bits more a n (sym (cond-false (begins c.1 (bits ++ more)) (Some (c.0, length c.1)) (code_at cs (bits ++ more)) no) ∙ e) fits)
    (cases_Bool (begins c.1 (bits ++ more)))

pub at-past : {A : Type 0} (cs : List (A × List ℕ)) (bits more : List ℕ) (a : A) (n : ℕ) → is_prefix_free cs ≡ true → code_at cs (bits ++ more) ≡ Some (a, n) → length bits < n → code_at cs bits ≡ None
unfolding code_at is_prefix_free
at-past [] bits more a n free e past = refl
at-past (c ∷ cs) bits more a n free e past =
    let parts = and_parts (apart_from c.1 cs) (is_prefix_free cs) free in
    ⊎_elim
    (λ (yes : begins c.1 (bits ++ more) ≡ true).
    let same = sym (cond-true (begins c.1 (bits ++ more)) (Some (c.0, length c.1)) (code_at cs (bits ++ more)) yes) ∙ e in
    let size : length c.1 ≡ n = same-size c.0 a (length c.1) n same in
    let no : begins c.1 bits ≡ false = too-long c.1 bits (omega arith) in
    cond-false (begins c.1 bits) (Some (c.0, length c.1)) (code_at cs bits) no ∙ none-other cs c.1 bits more parts.0 yes)
    (λ (no : begins c.1 (bits ++ more) ≡ false).
    cond-false (begins c.1 bits) (Some (c.0, length c.1)) (code_at cs bits) (not-before c.1 bits more no)
    ∙ at-past cs bits more a n parts.1 (sym (cond-false (begins c.1 (bits ++ more)) (Some (c.0, length c.1)) (code_at cs (bits ++ more)) no) ∙ e) past)
    (cases_Bool (begins c.1 (bits ++ more)))

pub at-none : {A : Type 0} (cs : List (A × List ℕ)) (bits more : List ℕ) → code_at cs (bits ++ more) ≡ None → code_at cs bits ≡ None
unfolding code_at
at-none [] bits more e = refl
at-none (c ∷ cs) bits more e =
    ⊎_elim
    (λ (yes : begins c.1 (bits ++ more) ≡ true). let same = sym (cond-true (begins c.1 (bits ++ more)) (Some (c.0, length c.1)) (code_at cs (bits ++ more)) yes) ∙ e in cc)
    (λ (no : begins c.1 (bits ++ more) ≡ false).
    cond-false (begins c.1 bits) (Some (c.0, length c.1)) (code_at cs bits) (not-before c.1 bits more no)
    ∙ at-none cs bits more (sym (cond-false (begins c.1 (bits ++ more)) (Some (c.0, length c.1)) (code_at cs (bits ++ more)) no) ∙ e))
    (cases_Bool (begins c.1 (bits ++ more)))

-- what begins fewer bits begins more
at-longer : {A : Type 0} (cs : List (A × List ℕ)) (bits more : List ℕ) (r : A × ℕ) → is_prefix_free cs ≡ true → code_at cs bits ≡ Some r → code_at cs (bits ++ more) ≡ Some r
unfolding code_at is_prefix_free
at-longer [] bits more r free e = e
at-longer {A = A} (c ∷ cs) bits more r free e =
    let parts = and_parts (apart_from c.1 cs) (is_prefix_free cs) free in
    ⊎_elim
    (λ (yes : begins c.1 (bits ++ more) ≡ true).
    ⊎_elim
    (λ (here : begins c.1 bits ≡ true).
    cond-true (begins c.1 (bits ++ more)) (Some (c.0, length c.1)) (code_at cs (bits ++ more)) yes
    ∙ sym (cond-true (begins c.1 bits) (Some (c.0, length c.1)) (code_at cs bits) here) ∙ e)
    (λ (past : begins c.1 bits ≡ false).
    let none : code_at cs bits ≡ None = none-other cs c.1 bits more parts.0 yes in
    let some : code_at cs bits ≡ Some r = sym (cond-false (begins c.1 bits) (Some (c.0, length c.1)) (code_at cs bits) past) ∙ e in
    absurd (let both : ◌≡◌ {A = Option (A × ℕ)} None (Some r) = sym none ∙ some in cc))
    (cases_Bool (begins c.1 bits)))
    (λ (other : begins c.1 (bits ++ more) ≡ false).
    cond-false (begins c.1 (bits ++ more)) (Some (c.0, length c.1)) (code_at cs (bits ++ more)) other
    ∙ at-longer cs bits more r parts.1 (sym (cond-false (begins c.1 bits) (Some (c.0, length c.1)) (code_at cs bits) (not-before c.1 bits more other)) ∙ e))
    (cases_Bool (begins c.1 (bits ++ more)))

-- ---- tables over the first n of n + m bits
spell-split : (n m v : ℕ) → spell (n + m) v [] ≡ spell n (v / 2 ^ m) [] ++ spell m v []
spell-split zero m v = ap (λ (k : ℕ). spell k v []) (zero-add m)
spell-split (suc n) m v =
    let size : suc n + m ≡ suc (n + m) = omega arith in
    let high : v / 2 ^ (n + m) ≡ v / 2 ^ m / 2 ^ n = ap (λ (k : ℕ). v / 2 ^ k) (let turned : n + m ≡ m + n = omega arith in turned) ∙ sym (shr-shr v m n) in
    ap (λ (k : ℕ). spell k v []) size
    ∙ spell-front (n + m) v []
    ∙ ap (λ (k : ℕ). k % 2 ∷ spell (n + m) v []) high
    ∙ ap (λ (ys : List ℕ). v / 2 ^ m / 2 ^ n % 2 ∷ ys) (spell-split n m v)
    ∙ ap (λ (ys : List ℕ). ys ++ spell m v []) (sym (spell-front n (v / 2 ^ m) []))

pub long-same : {A : Type 0} (cs : List (A × List ℕ)) (n m v : ℕ) → are_short n cs ≡ true → code_at cs (spell (n + m) v []) ≡ code_at cs (spell n (v / 2 ^ m) [])
long-same cs n m v short =
    let size : length (spell n (v / 2 ^ m) []) ≡ n = spell-length n (v / 2 ^ m) [] ∙ omega arith in
    ap (λ (ys : List ℕ). code_at cs ys) (spell-split n m v)
    ∙ at-front cs (spell n (v / 2 ^ m) []) (spell m v []) (ap (λ (k : ℕ). are_short k cs) size ∙ short)

short-of : (cs : List (ℕ × List ℕ)) (n m v : ℕ) (o : Option (ℕ × ℕ)) → is_prefix_free cs ≡ true → code_at cs (spell n (v / 2 ^ m) []) ≡ o → is_some o ≡ true → entry_of o ≡ entry_of (code_at cs (spell (n + m) v []))
short-of cs n m v None free e some = absurd (true≢false (sym some))
short-of cs n m v (Some r) free e some =
    ap entry_of (sym (ap (λ (ys : List ℕ). code_at cs ys) (spell-split n m v) ∙ at-longer cs (spell n (v / 2 ^ m) []) (spell m v []) r free e))

pub short-entry : (cs : List (ℕ × List ℕ)) (n m v : ℕ) → is_prefix_free cs ≡ true → is_some (code_at cs (spell n (v / 2 ^ m) [])) ≡ true → entry_of (code_at cs (spell n (v / 2 ^ m) [])) ≡ entry_of (code_at cs (spell (n + m) v []))
short-entry cs n m v free some = short-of cs n m v (code_at cs (spell n (v / 2 ^ m) [])) free refl some

-- what an entry says
none-of : (cs : List (ℕ × List ℕ)) (bits : List ℕ) (e : ℕ) (o : Option (ℕ × ℕ)) → are_short 13 cs ≡ true → code_at cs bits ≡ o → e ≡ entry_of o → e % 16 ≡ 0 → o ≡ None
none-of cs bits e None short is value none = refl
none-of cs bits e (Some r) short is value none = absurd (let size = at-size cs 13 bits r.0 r.1 short is in omega arith)

pub entry-none : (cs : List (ℕ × List ℕ)) (bits : List ℕ) (e : ℕ) → are_short 13 cs ≡ true → e ≡ entry_of (code_at cs bits) → e % 16 ≡ 0 → code_at cs bits ≡ None
entry-none cs bits e short value none = none-of cs bits e (code_at cs bits) short refl value none

some-of : (cs : List (ℕ × List ℕ)) (bits : List ℕ) (e : ℕ) (o : Option (ℕ × ℕ)) → are_short 13 cs ≡ true → code_at cs bits ≡ o → e ≡ entry_of o → (e % 16 ≡ 0 → ⊥) → o ≡ Some (e / 16, e % 16)
some-of cs bits e None short is value some = absurd (some (omega arith))
some-of cs bits e (Some r) short is value some =
    let size = at-size cs 13 bits r.0 r.1 short is in
    let run : r.0 ≡ e / 16 = omega arith in
    let bits_of_it : r.1 ≡ e % 16 = omega arith in
    ap (λ (k : ℕ). Some (k, r.1)) run ∙ ap (λ (k : ℕ). Some (e / 16, k)) bits_of_it

pub entry-some : (cs : List (ℕ × List ℕ)) (bits : List ℕ) (e : ℕ) → are_short 13 cs ≡ true → e ≡ entry_of (code_at cs bits) → (e % 16 ≡ 0 → ⊥) → code_at cs bits ≡ Some (e / 16, e % 16)
entry-some cs bits e short value some = some-of cs bits e (code_at cs bits) short refl value some

-- ---- a table over the next n bits, zeros after the end
-- the first n bits, with zeros
front-word : (n : ℕ) (bits : List ℕ) → n ≤ 24 → padded_bits bits ≡ take n (padded_bits bits) ++ drop n (padded_bits bits)
front-word n bits few = sym (take-append-drop n (padded_bits bits))

front-length : (n : ℕ) (bits : List ℕ) → n ≤ 24 → length (take n (padded_bits bits)) ≡ n
front-length n bits few = length-take-le n (padded_bits bits) (omega (arith, length-append bits (replicate 24 0), length-replicate {A = ℕ} 24 0))

zeros-bits : (n : ℕ) → AreBits (replicate n 0)
unfolding AreBits
zeros-bits zero = tt
zeros-bits (suc n) = (omega arith, zeros-bits n)

both-bits : (xs ys : List ℕ) → AreBits xs → AreBits ys → AreBits (xs ++ ys)
unfolding AreBits
both-bits [] ys p q = q
both-bits (x ∷ xs) ys p q = (p.0, both-bits xs ys p.1 q)

-- the code that begins the bits with zeros after them, by the number of the first n
at-number : {A : Type 0} (cs : List (A × List ℕ)) (n number : ℕ) (bits : List ℕ) → n ≤ 24 → are_short n cs ≡ true → AreBits bits → number ≡ number_after 0 (take n (padded_bits bits)) → code_at cs (padded_bits bits) ≡ code_at cs (spell n number [])
at-number cs n number bits few short are e =
    let front : List ℕ = take n (padded_bits bits) in
    let size : length front ≡ n = front-length n bits few in
    let word : spell n number [] ≡ front =
    ap (λ (v : ℕ). spell n v []) e ∙ ap (λ (k : ℕ). spell k (number_after 0 front) []) (sym size)
    ∙ spell-word front [] 0 (bits-take n (padded_bits bits) (both-bits bits (replicate 24 0) are (zeros-bits 24))) ∙ append-none front in
    ap (λ (ys : List ℕ). code_at cs ys) (front-word n bits few)
    ∙ at-front cs front (drop n (padded_bits bits)) (ap (λ (k : ℕ). are_short k cs) size ∙ short)
    ∙ ap (λ (ys : List ℕ). code_at cs ys) (sym word)
  where
    append-none : (xs : List ℕ) → xs ++ [] ≡ xs
    append-none [] = refl
    append-none (x ∷ xs) = ap (λ (ys : List ℕ). x ∷ ys) (append-none xs)

pub lookup-none : {A : Type 0} (cs : List (A × List ℕ)) (n number : ℕ) (bits : List ℕ) → n ≤ 24 → are_short n cs ≡ true → AreBits bits → number ≡ number_after 0 (take n (padded_bits bits)) → code_at cs (spell n number []) ≡ None → None ≡ read_code cs bits
lookup-none cs n number bits few short are e none =
    sym (read-none cs bits (at-none cs bits (replicate 24 0) (at-number cs n number bits few short are e ∙ none)))

pub lookup-short : {A : Type 0} (cs : List (A × List ℕ)) (n number : ℕ) (bits : List ℕ) (a : A) (size : ℕ) → n ≤ 24 → are_short n cs ≡ true → is_prefix_free cs ≡ true → AreBits bits → number ≡ number_after 0 (take n (padded_bits bits)) → code_at cs (spell n number []) ≡ Some (a, size) → length bits < size → None ≡ read_code cs bits
lookup-short cs n number bits a size few short free are e some past =
    sym (read-none cs bits (at-past cs bits (replicate 24 0) a size free (at-number cs n number bits few short are e ∙ some) past))

pub lookup-some : {A : Type 0} (cs : List (A × List ℕ)) (n number : ℕ) (bits : List ℕ) (a : A) (size : ℕ) → n ≤ 24 → are_short n cs ≡ true → AreBits bits → number ≡ number_after 0 (take n (padded_bits bits)) → code_at cs (spell n number []) ≡ Some (a, size) → size ≤ length bits → Some (a, drop size bits) ≡ read_code cs bits
lookup-some cs n number bits a size few short are e some fits =
    sym (read-is cs bits a size (at-within cs bits (replicate 24 0) a size (at-number cs n number bits few short are e ∙ some) fits))
