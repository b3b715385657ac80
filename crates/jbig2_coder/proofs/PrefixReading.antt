-- The steps of a walk in the code: the place in the bits, the level and the node.
use Rattle.std.proofs.Common.{◌≡◌, ℕ, zero, suc, ◌+◌, ◌-◌, ◌*◌, ◌/◌, ◌%◌, ◌<◌, ◌≤◌, ltb, cond, List, [], ◌∷◌, length, take, drop, get_or, Option, Some, None, Result, Ok, refl, sym, ◌∙◌, ap, subst, arith, ⊎_elim, length-drop}
use Rattle.std.specs.List.{slice_get}
use Rattle.std.proofs.lemmas.Option.{slice_get_past}
use Rattle.std.proofs.lemmas.Bool.{cases_lt, cond-true, cond-false, lt-ltb, le-ltb}
use Rattle.std.proofs.lemmas.List.{drop-drop, drop_more, drop_all, length-take-le, get_or-drop}
use Rattle.jbig2_base.specs.Bits.{Place, bits_left, bits_next, bits_on, number_after, start_of}
use Rattle.jbig2_base.specs.declared.error.DecodeError.{DecodeError}
use Rattle.jbig2_base.proofs.ReaderLemmas.{bits_on-enough, bits_on-past, end-on}
use Rattle.jbig2_coder.specs.declared.huffman_table.line.TableLine.{TableLine}
use Rattle.jbig2_coder.specs.declared.huffman_table.levels.Level.{Level}
use Rattle.jbig2_coder.specs.PrefixCode.{CodeReading, Reads}
use Rattle.jbig2_coder.specs.inner.CodeReadings.{found_or, unknown_code, cut_off_code}
use Rattle.jbig2_coder.specs.inner.PrefixLevels.{nodes, walk, walk_of, groups_of, AreLevels}

-- m bits on from n bits on
pub bits_on-add : (n m : ℕ) (p q : Place) → q ≡ bits_on n p → bits_left q ≡ drop n (bits_left p) → bits_on m q ≡ bits_on (n + m) p
bits_on-add n m p q e left =
    let size : length (bits_left q) ≡ length (bits_left p) - n = ap length left ∙ length-drop n (bits_left p) in
    ⊎_elim (λ (short : length (bits_left p) < n).
    let at : q ≡ start_of [] = e ∙ bits_on-past n p short in
    ap (λ (r : Place). bits_on m r) at ∙ sym (end-on m) ∙ sym (bits_on-past (n + m) p (omega arith)))
    (λ (enough : n ≤ length (bits_left p)).
    ⊎_elim (λ (short : length (bits_left q) < m). bits_on-past m q short ∙ sym (bits_on-past (n + m) p (omega arith)))
    (λ (more : m ≤ length (bits_left q)).
    let at : q ≡ record { bytes = drop ((p.bit + n) / 8) p.bytes; bit = (p.bit + n) % 8 } = e ∙ bits_on-enough n p enough in
    let bytes : (p.bit + n) / 8 + ((p.bit + n) % 8 + m) / 8 ≡ (p.bit + (n + m)) / 8 = omega arith in
    let bit : ((p.bit + n) % 8 + m) % 8 ≡ (p.bit + (n + m)) % 8 = omega arith in
    bits_on-enough m q more
    ∙ ap (λ (s : Place). record { bytes = drop ((s.bit + m) / 8) s.bytes; bit = (s.bit + m) % 8 }) at
    ∙ ap (λ (ys : List ℕ). record { bytes = ys; bit = ((p.bit + n) % 8 + m) % 8 }) (drop-drop (((p.bit + n) % 8 + m) / 8) ((p.bit + n) / 8) p.bytes)
    ∙ ap (λ (k : ℕ). record { bytes = drop k p.bytes; bit = ((p.bit + n) % 8 + m) % 8 }) bytes
    ∙ ap (λ (k : ℕ). record { bytes = drop ((p.bit + (n + m)) / 8) p.bytes; bit = k }) bit
    ∙ sym (bits_on-enough (n + m) p (omega arith)))
    (cases_lt (length (bits_left q)) m))
    (cases_lt (length (bits_left p)) n)

-- Before level i: the walk from here is the walk from the root, or from where it began.
pub record AtLevel (lines : List TableLine) (levels : List Level) (root i node : ℕ) (p q : Place) : Type 0 where
  pub walks : walk (groups_of lines (drop i levels)) i node (bits_left q) ≡ walk_of lines levels root (bits_left p)
  pub are : AreLevels lines (drop i levels)
  pub small : node ≤ length lines
  pub place : (n : ℕ) → bits_on n q ≡ bits_on (i + n) p
  pub rest : bits_left q ≡ drop i (bits_left p)

pub at-root : (lines : List TableLine) (levels : List Level) (root : ℕ) (p : Place) → AreLevels lines levels → root ≤ length lines → AtLevel lines levels root 0 root p p
at-root lines levels root p are few = record {
  walks = refl;
  are = are;
  small = few;
  place = λ n. ap (λ (k : ℕ). bits_on k p) (let e : n ≡ 0 + n = omega arith in e);
  rest = refl;
}

-- where a read ends with this result, one bit on
leaves : (lines : List TableLine) (levels : List Level) (root i node : ℕ) (p q r : Place) (a : Result TableLine DecodeError) → AtLevel lines levels root i node p q → r ≡ bits_on 1 q → bits_left r ≡ drop 1 (bits_left q) → walk (groups_of lines (drop i levels)) i node (bits_left q) ≡ record { result = a; taken = i + 1 } → Reads p r a (walk_of lines levels root (bits_left p))
leaves lines levels root i node p q r a at place rest ends =
    let whole : walk_of lines levels root (bits_left p) ≡ record { result = a; taken = i + 1 } = sym at.walks ∙ ends in
    let taken : (walk_of lines levels root (bits_left p)).taken ≡ i + 1 = ap (λ (w : CodeReading TableLine). w.taken) whole in
    record {
      value = sym (ap (λ (w : CodeReading TableLine). w.result) whole);
      place = place ∙ at.place 1 ∙ ap (λ (k : ℕ). bits_on k p) (sym taken);
      rest = rest ∙ ap (λ (bs : List ℕ). drop 1 bs) at.rest ∙ drop-drop 1 i (bits_left p) ∙ ap (λ (k : ℕ). drop k (bits_left p)) (sym taken);
    }

-- a bit that was read is the first one
first_bit : (b : ℕ) (bits : List ℕ) → Some b ≡ bits_next 1 bits → bits ≡ b ∷ drop 1 bits
first_bit b [] e = absurd (let never : Some b ≡ None = e in cc)
first_bit b (c ∷ bits) e =
    let value : number_after 0 (take 1 (c ∷ bits)) ≡ c = omega arith in
    let some : Some b ≡ Some c = e ∙ cond-false (ltb (length (c ∷ bits)) 1) None (Some (number_after 0 (take 1 (c ∷ bits)))) (le-ltb (length (c ∷ bits)) 1 (omega arith)) ∙ ap (λ (n : ℕ). Some n) value in
    let same : b ≡ c = cc in
    ap (λ (n : ℕ). n ∷ bits) (sym same)

no_bit : (bits : List ℕ) → ◌≡◌ {A = Option ℕ} None (bits_next 1 bits) → bits ≡ []
no_bit [] e = refl
no_bit (c ∷ bits) e =
    absurd (let never : ◌≡◌ {A = Option ℕ} None (Some (number_after 0 (take 1 (c ∷ bits)))) = e ∙ cond-false (ltb (length (c ∷ bits)) 1) None (Some (number_after 0 (take 1 (c ∷ bits)))) (le-ltb (length (c ∷ bits)) 1 (omega arith)) in cc)

walk-ends : (gs : List (List TableLine)) (i node : ℕ) (bits : List ℕ) → ◌≡◌ {A = Option ℕ} None (bits_next 1 bits) → walk gs i node bits ≡ cut_off_code (i + 1)
walk-ends gs i node bits none = ap (λ (bs : List ℕ). walk gs i node bs) (no_bit bits none) ∙ at_end gs
  where
    at_end : (gs : List (List TableLine)) → walk gs i node [] ≡ cut_off_code (i + 1)
    at_end [] = refl
    at_end (g ∷ gs) = refl

-- no bit is left
pub leaves-ended : (lines : List TableLine) (levels : List Level) (root i node : ℕ) (p q r : Place) → AtLevel lines levels root i node p q → r ≡ bits_on 1 q → bits_left r ≡ drop 1 (bits_left q) → ◌≡◌ {A = Option ℕ} None (bits_next 1 (bits_left q)) → Reads p r ((cut_off_code {A = TableLine} 0).result) (walk_of lines levels root (bits_left p))
leaves-ended lines levels root i node p q r at place rest none =
    leaves lines levels root i node p q r ((cut_off_code {A = TableLine} 0).result) at place rest (walk-ends (groups_of lines (drop i levels)) i node (bits_left q) none)

-- a bit after the last level
pub leaves-past : (lines : List TableLine) (levels : List Level) (root i node b : ℕ) (p q r : Place) → AtLevel lines levels root i node p q → r ≡ bits_on 1 q → bits_left r ≡ drop 1 (bits_left q) → Some b ≡ bits_next 1 (bits_left q) → length levels ≤ i → Reads p r ((unknown_code {A = TableLine} 0).result) (walk_of lines levels root (bits_left p))
leaves-past lines levels root i node b p q r at place rest some past =
    let none : drop i levels ≡ [] = drop_all i levels past in
    leaves lines levels root i node p q r ((unknown_code {A = TableLine} 0).result) at place rest
    (ap (λ (vs : List Level). walk (groups_of lines vs) i node (bits_left q)) none ∙ ap (λ (bs : List ℕ). walk [] i node bs) (first_bit b (bits_left q) some))

pub get-take : (n e : ℕ) (xs : List TableLine) (d : TableLine) → e < n → e < length xs → slice_get (take n xs) e ≡ Some (get_or xs e d)
get-take zero e xs d h inside = absurd (omega arith)
get-take (suc n) e [] d h inside = absurd (omega arith)
get-take (suc n) zero (x ∷ xs) d h inside = refl
get-take (suc n) (suc e) (x ∷ xs) d h inside = get-take n e xs d (omega arith) (omega arith)

pub group-size : (lines : List TableLine) (v : Level) → v.first + v.count ≤ length lines → length (take v.count (drop v.first lines)) ≡ v.count
group-size lines v h = length-take-le v.count (drop v.first lines) (omega (arith, length-drop v.first lines))

-- the level that the code reads is the next one
pub level-next : (lines : List TableLine) (levels : List Level) (i : ℕ) (d : Level) → i < length levels → AreLevels lines (drop i levels) → AreLevels lines (get_or levels i d ∷ drop (i + 1) levels)
level-next lines levels i d inside are = let P : List Level → Type 0 = λ vs. AreLevels lines vs in subst P (drop_more levels i d inside) are

walk-next : (lines : List TableLine) (levels : List Level) (i node b : ℕ) (bits : List ℕ) (d : Level) → i < length levels → Some b ≡ bits_next 1 bits → walk (groups_of lines (drop i levels)) i node bits ≡ walk (groups_of lines (get_or levels i d ∷ drop (i + 1) levels)) i node (b ∷ drop 1 bits)
walk-next lines levels i node b bits d inside some =
    ap (λ (vs : List Level). walk (groups_of lines vs) i node bits) (drop_more levels i d inside)
    ∙ ap (λ (bs : List ℕ). walk (groups_of lines (get_or levels i d ∷ drop (i + 1) levels)) i node bs) (first_bit b bits some)

abbrev pub child-of : List Level → ℕ → ℕ → ℕ → Level → ℕ
child-of levels i node b d = 2 * node + b - (get_or levels i d).count

-- the walk where the child is no line of the level
abbrev pub turned : List TableLine → List Level → ℕ → ℕ → ℕ → List ℕ → Level → CodeReading TableLine
turned lines levels i node b bits d =
    let v = get_or levels i d in
    let g = take v.count (drop v.first lines) in
    cond (ltb (2 * node + b - length g) (nodes (groups_of lines (drop (i + 1) levels)))) (walk (groups_of lines (drop (i + 1) levels)) (i + 1) (2 * node + b - length g) bits) (unknown_code (i + 1))

pub not_found : (lines : List TableLine) (levels : List Level) (i node b : ℕ) (bits : List ℕ) (d : Level) → AreLevels lines (get_or levels i d ∷ drop (i + 1) levels) → (get_or levels i d).count ≤ 2 * node + b → walk (groups_of lines (get_or levels i d ∷ drop (i + 1) levels)) i node (b ∷ bits) ≡ cond (ltb (child-of levels i node b d) (get_or levels i d).nodes) (walk (groups_of lines (drop (i + 1) levels)) (i + 1) (child-of levels i node b d) bits) (unknown_code (i + 1))
not_found lines levels i node b bits d are past =
    let v = get_or levels i d in
    let g = take v.count (drop v.first lines) in
    let e = 2 * node + b in
    let size = group-size lines v are.0 in
    ap (λ (o : Option TableLine). found_or o (i + 1) (turned lines levels i node b bits d)) (slice_get_past g e (omega arith))
    ∙ ap (λ (n : ℕ). cond (ltb (e - n) (nodes (groups_of lines (drop (i + 1) levels)))) (walk (groups_of lines (drop (i + 1) levels)) (i + 1) (e - n) bits) (unknown_code (i + 1))) size
    ∙ ap (λ (n : ℕ). cond (ltb (child-of levels i node b d) n) (walk (groups_of lines (drop (i + 1) levels)) (i + 1) (child-of levels i node b d) bits) (unknown_code (i + 1))) (sym are.1)

-- the child is a line of the level
pub leaves-found : (lines : List TableLine) (levels : List Level) (root i node b : ℕ) (p q r : Place) (d : Level) (x : TableLine) → AtLevel lines levels root i node p q → r ≡ bits_on 1 q → bits_left r ≡ drop 1 (bits_left q) → Some b ≡ bits_next 1 (bits_left q) → i < length levels → 2 * node + b < (get_or levels i d).count → Reads p r (Ok (get_or lines ((get_or levels i d).first + (2 * node + b)) x)) (walk_of lines levels root (bits_left p))
leaves-found lines levels root i node b p q r d x at place rest some inside found =
    let v = get_or levels i d in
    let e = 2 * node + b in
    let are = level-next lines levels i d inside at.are in
    let within : e < length (drop v.first lines) = omega (arith, length-drop v.first lines) in
    leaves lines levels root i node p q r (Ok (get_or lines (v.first + e) x)) at place rest
    (walk-next lines levels i node b (bits_left q) d inside some
    ∙ ap (λ (o : Option TableLine). found_or o (i + 1) (turned lines levels i node b (drop 1 (bits_left q)) d)) (get-take v.count e (drop v.first lines) x found within ∙ ap (λ (y : TableLine). Some y) (get_or-drop v.first lines e x)))

-- the child begins no code
pub leaves-refused : (lines : List TableLine) (levels : List Level) (root i node b : ℕ) (p q r : Place) (d : Level) → AtLevel lines levels root i node p q → r ≡ bits_on 1 q → bits_left r ≡ drop 1 (bits_left q) → Some b ≡ bits_next 1 (bits_left q) → i < length levels → (get_or levels i d).count ≤ 2 * node + b → (get_or levels i d).nodes ≤ 2 * node + b - (get_or levels i d).count → Reads p r ((unknown_code {A = TableLine} 0).result) (walk_of lines levels root (bits_left p))
leaves-refused lines levels root i node b p q r d at place rest some inside past none =
    let are = level-next lines levels i d inside at.are in
    leaves lines levels root i node p q r ((unknown_code {A = TableLine} 0).result) at place rest
    (walk-next lines levels i node b (bits_left q) d inside some
    ∙ not_found lines levels i node b (drop 1 (bits_left q)) d are past
    ∙ cond-false (ltb (child-of levels i node b d) (get_or levels i d).nodes) (walk (groups_of lines (drop (i + 1) levels)) (i + 1) (child-of levels i node b d) (drop 1 (bits_left q))) (unknown_code (i + 1)) (le-ltb (child-of levels i node b d) (get_or levels i d).nodes none))

-- the child is a node of the next depth
pub at-next : (lines : List TableLine) (levels : List Level) (root i node b : ℕ) (p q r : Place) (d : Level) → AtLevel lines levels root i node p q → r ≡ bits_on 1 q → bits_left r ≡ drop 1 (bits_left q) → Some b ≡ bits_next 1 (bits_left q) → i < length levels → (get_or levels i d).count ≤ 2 * node + b → 2 * node + b - (get_or levels i d).count < (get_or levels i d).nodes → AtLevel lines levels root (i + 1) (2 * node + b - (get_or levels i d).count) p r
at-next lines levels root i node b p q r d at place rest some inside past more =
    let are = level-next lines levels i d inside at.are in
    let c = child-of levels i node b d in
    record {
      walks =
          sym (walk-next lines levels i node b (bits_left q) d inside some
          ∙ not_found lines levels i node b (drop 1 (bits_left q)) d are past
          ∙ cond-true (ltb c (get_or levels i d).nodes) (walk (groups_of lines (drop (i + 1) levels)) (i + 1) c (drop 1 (bits_left q))) (unknown_code (i + 1)) (lt-ltb c (get_or levels i d).nodes more)
          ∙ ap (λ (bs : List ℕ). walk (groups_of lines (drop (i + 1) levels)) (i + 1) c bs) (sym rest))
          ∙ at.walks;
      are = are.3;
      small = omega arith;
      place = λ n.
          ap (λ (s : Place). bits_on n s) place
          ∙ bits_on-add 1 n q (bits_on 1 q) refl (sym (ap (λ (s : Place). bits_left s) place) ∙ rest)
          ∙ at.place (1 + n)
          ∙ ap (λ (k : ℕ). bits_on k p) (let e : i + (1 + n) ≡ i + 1 + n = omega arith in e);
      rest = rest ∙ ap (λ (bs : List ℕ). drop 1 bs) at.rest ∙ drop-drop 1 i (bits_left p);
    }
