-- A member of a table in which no code begins another is read from its code.
use Rattle.std.proofs.Common.{◌≡◌, ℕ, suc, ◌+◌, ◌-◌, ◌/◌, ◌^◌, ◌<◌, ◌≤◌, Bool, true, false, not, eqb, ltb, leb, ◌&&◌, ◌||◌, List, [], ◌∷◌, ◌++◌, length, get_or, Option, Some, None, Ok, refl, sym, ◌∙◌, ap, subst, arith, eq-eqb, ne_eqb, lt-ltb, le-ltb, le-leb, length-append, append-nil, ⊎_elim, get_or-append-add}
use Rattle.std.specs.Prelude.{All, is_some}
use Rattle.std.proofs.lemmas.Bool.{cond-true, cond-false, cases_eq, and_left, and_right, and_from, or_left, or_right, true≢false}
use Rattle.std.proofs.lemmas.List.{get_or_append_left, get_or_at}
use Rattle.std.proofs.lemmas.List.Elements.{All-head, All-tail}
use Rattle.jbig2_base.specs.Search.{place_from}
use Rattle.jbig2_base.proofs.SearchLemmas.{place-is}
use Rattle.jbig2_coder.specs.declared.huffman_table.line.TableLine.{TableLine}
use Rattle.jbig2_coder.specs.PrefixCode.{Member, begins, begins_longer, line_of, front_number, read_code, IsFree}
use Rattle.jbig2_coder.specs.inner.CodeReadings.{is_decided, read_of, found_or, unknown_code, cut_off_code}

-- no code of k bits has this number
abbrev Misses : ℕ → ℕ → Member → Type 0
Misses k v a = a.bits ≡ k → a.number ≡ v → ⊥

line_of-past : (front rest : List Member) (k v : ℕ) → All (Misses k v) front → line_of (front ++ rest) k v ≡ line_of rest k v
line_of-past [] rest k v h = refl
line_of-past (a ∷ front) rest k v h =
    let other : (eqb a.bits k && eqb a.number v) ≡ false = ⊎_elim
    (λ (s : a.bits ≡ k). and_right (eqb a.bits k) (eqb a.number v) (ne_eqb a.number v (λ e. All-head (Misses k v) a front h s e)))
    (λ (o : a.bits ≡ k → ⊥). and_left (eqb a.bits k) (eqb a.number v) (ne_eqb a.bits k o))
    (cases_eq a.bits k) in
    cond-false (eqb a.bits k && eqb a.number v) (Some a.line) (line_of (front ++ rest) k v) other
    ∙ line_of-past front rest k v (All-tail (Misses k v) a front h)

line_of-here : (front : List Member) (m : Member) (back : List Member) → All (Misses m.bits m.number) front → line_of (front ++ m ∷ back) m.bits m.number ≡ Some m.line
line_of-here front m back h =
    line_of-past front (m ∷ back) m.bits m.number h
    ∙ cond-true (eqb m.bits m.bits && eqb m.number m.number) (Some m.line) (line_of back m.bits m.number)
    (and_from (eqb m.bits m.bits) (eqb m.number m.number) (eq-eqb m.bits m.bits refl) (eq-eqb m.number m.number refl))

longer-in : (front : List Member) (m : Member) (back : List Member) (k v : ℕ) → k < m.bits → m.number / 2 ^ (m.bits - k) ≡ v → begins_longer (front ++ m ∷ back) k v ≡ true
longer-in [] m back k v below h =
    or_left (ltb k m.bits && eqb (m.number / 2 ^ (m.bits - k)) v) (begins_longer back k v)
    (and_from (ltb k m.bits) (eqb (m.number / 2 ^ (m.bits - k)) v) (lt-ltb k m.bits below) (eq-eqb (m.number / 2 ^ (m.bits - k)) v h))
longer-in (a ∷ front) m back k v below h =
    or_right (ltb k a.bits && eqb (a.number / 2 ^ (a.bits - k)) v) (begins_longer (front ++ m ∷ back) k v) (longer-in front m back k v below h)

abbrev Apart : Member → Member → Type 0
Apart a b = (begins a b ≡ false) × (begins b a ≡ false)

misses : (a m : Member) (k : ℕ) → begins a m ≡ false → k ≤ m.bits → Misses k (m.number / 2 ^ (m.bits - k)) a
misses a m k free fits bits number =
    let same : m.number / 2 ^ (m.bits - a.bits) ≡ a.number = ap (λ (i : ℕ). m.number / 2 ^ (m.bits - i)) bits ∙ sym number in
    true≢false (sym (and_from (leb a.bits m.bits) (eqb (m.number / 2 ^ (m.bits - a.bits)) a.number)
    (le-leb a.bits m.bits (omega (arith, bits, fits))) (eq-eqb (m.number / 2 ^ (m.bits - a.bits)) a.number same)) ∙ free)

free-front : (ms front back : List Member) (m : Member) → ms ≡ front ++ m ∷ back → IsFree ms → All (λ a. begins a m ≡ false) front
free-front ms front back m e free k d inside =
    let is : IsFree (front ++ m ∷ back) = subst (λ (xs : List Member). IsFree xs) e free in
    let size = length-append front (m ∷ back) in
    let pair = is k (length front) d inside (omega (arith, size)) in
    let first : get_or (front ++ m ∷ back) k d ≡ get_or front k d = get_or_append_left front (m ∷ back) d k inside in
    let second : get_or (front ++ m ∷ back) (length front) d ≡ m = get_or_at front m back d (length front) refl in
    sym (ap (λ (a : Member). begins a (get_or (front ++ m ∷ back) (length front) d)) first ∙ ap (λ (b : Member). begins (get_or front k d) b) second) ∙ pair.0

free-back : (ms front back : List Member) (m : Member) → ms ≡ front ++ m ∷ back → IsFree ms → All (λ a. begins a m ≡ false) back
free-back ms front back m e free k d inside =
    let is : IsFree (front ++ m ∷ back) = subst (λ (xs : List Member). IsFree xs) e free in
    let size = length-append front (m ∷ back) in
    let pair = is (length front) (length front + suc k) d (omega arith) (omega (arith, size, inside)) in
    let first : get_or (front ++ m ∷ back) (length front + suc k) d ≡ get_or back k d = get_or-append-add front (m ∷ back) (suc k) d in
    let second : get_or (front ++ m ∷ back) (length front) d ≡ m = get_or_at front m back d (length front) refl in
    sym (ap (λ (a : Member). begins a (get_or (front ++ m ∷ back) (length front) d)) first ∙ ap (λ (b : Member). begins (get_or back k d) b) second) ∙ pair.1

-- the first k bits, for each k, are those of the code
abbrev pub Fronts : Member → List ℕ → Type 0
Fronts m bits = (k : ℕ) → k ≤ m.bits → front_number k bits ≡ m.number / 2 ^ (m.bits - k)

none-shorter : (front back : List Member) (m : Member) (k v : ℕ) → All (λ a. begins a m ≡ false) front → All (λ a. begins a m ≡ false) back
    → k < m.bits → v ≡ m.number / 2 ^ (m.bits - k) → line_of (front ++ m ∷ back) k v ≡ None
none-shorter front back m k v before after below number =
    let w = m.number / 2 ^ (m.bits - k) in
    ap (λ (u : ℕ). line_of (front ++ m ∷ back) k u) number
    ∙ line_of-past front (m ∷ back) k w (λ i d h. misses (get_or front i d) m k (before i d h) (omega (arith, below)))
    ∙ cond-false (eqb m.bits k && eqb m.number w) (Some m.line) (line_of back k w) (and_left (eqb m.bits k) (eqb m.number w) (ne_eqb m.bits k (λ e. omega (arith, below, e))))
    ∙ (ap (λ (xs : List Member). line_of xs k w) (sym (append-nil back))
    ∙ line_of-past back [] k w (λ i d h. misses (get_or back i d) m k (after i d h) (omega (arith, below))))

read-is : (ms : List Member) (bits : List ℕ) → read_code ms bits ≡ read_of ms bits (place_from (is_decided ms bits) 1 (length bits + 1))
unfolding read_code
read-is ms bits = refl

pub reads-member : (ms front back : List Member) (m : Member) (bits : List ℕ) → ms ≡ front ++ m ∷ back → IsFree ms → 0 < m.bits → m.bits ≤ length bits → Fronts m bits
    → read_code ms bits ≡ record { result = Ok m.line; taken = m.bits }
reads-member ms front back m bits e free some fits fronts =
    let before = free-front ms front back m e free in
    let after = free-back ms front back m e free in
    let test : ℕ → Bool = is_decided ms bits in
    let whole : m.number / 2 ^ (m.bits - m.bits) ≡ m.number = last m.number (m.bits - m.bits) (omega arith) in
    let number : front_number m.bits bits ≡ m.number = fronts m.bits (omega arith) ∙ whole in
    let found : line_of ms m.bits (front_number m.bits bits) ≡ Some m.line =
    ap (λ (u : ℕ). line_of ms m.bits u) number
    ∙ ap (λ (xs : List Member). line_of xs m.bits m.number) e
    ∙ line_of-here front m back (λ i d h. subst (λ (u : ℕ). Misses m.bits u (get_or front i d)) whole (misses (get_or front i d) m m.bits (before i d h) (omega arith))) in
    let undecided : (k : ℕ) → 1 ≤ k → k < m.bits → test k ≡ false = λ k a b.
    let v = front_number k bits in
    let is = fronts k (omega (arith, b)) in
    let none : line_of ms k v ≡ None = ap (λ (xs : List Member). line_of xs k v) e ∙ none-shorter front back m k v before after b is in
    let more : begins_longer ms k v ≡ true = ap (λ (xs : List Member). begins_longer xs k v) e ∙ longer-in front m back k v b (sym is) in
    ap (λ (o : Option TableLine). is_some o || not (begins_longer ms k v)) none ∙ ap (λ (t : Bool). not t) more in
    let decided : test m.bits ≡ true = ap (λ (o : Option TableLine). is_some o || not (begins_longer ms m.bits (front_number m.bits bits))) found in
    let place : place_from test 1 (length bits + 1) ≡ m.bits =
    place-is test 1 (length bits + 1) m.bits (omega arith) (omega (arith, some)) (omega (arith, fits)) undecided (λ h. decided) in
    read-is ms bits
    ∙ ap (λ (k : ℕ). read_of ms bits k) place
    ∙ cond-false (ltb (length bits) m.bits) (cut_off_code m.bits) (found_or (line_of ms m.bits (front_number m.bits bits)) m.bits (unknown_code m.bits)) (le-ltb (length bits) m.bits fits)
    ∙ ap (λ (o : Option TableLine). found_or o m.bits (unknown_code m.bits)) found
  where
    last : (n z : ℕ) → z ≡ 0 → n / 2 ^ z ≡ n
    last n z h = ap (λ (k : ℕ). n / 2 ^ k) h ∙ (let one : 2 ^ 0 ≡ 1 = omega arith in ap (λ (p : ℕ). n / p) one ∙ (let e : n / 1 ≡ n = omega arith in e))
