-- How the first table of a code is filled, and what a read by it gives.
use Rattle.std.proofs.Common.{◌≡◌, ℕ, zero, suc, ◌+◌, ◌-◌, ◌*◌, ◌/◌, ◌%◌, ◌^◌, ◌<◌, ◌≤◌, ltb, cond, Bool, true, false, List, [], ◌∷◌, ◌++◌, length, take, drop, get_or, set, replicate, Option, Some, None, Ok, Result, refl, sym, ◌∙◌, ap, subst, arith, add-one, pow-suc, ◌⊎◌, inr, ⊎_elim}
use Rattle.std.specs.List.{slice_get}
use Rattle.std.proofs.Math.Nat.{pow-le-pow_right}
use Rattle.std.proofs.lemmas.Nat.{shr-shr}
use Rattle.std.proofs.lemmas.Grind.{get_or-set_at}
use Rattle.std.proofs.lemmas.Bool.{cases_eq, cond-true, cond-false, lt-ltb, le-ltb}
use Rattle.std.proofs.lemmas.List.{get_or-set_other, get_or-replicate, get_or-drop, drop_more, drop_all, drop-drop, length-drop}
use Rattle.jbig2_base.specs.Bits.{Place, byte_bits, bits_left, bits_next, bits_on, number_after}
use Rattle.jbig2_base.specs.declared.error.DecodeError.{DecodeError}
use Rattle.jbig2_base.proofs.ReaderLemmas.{bits_at}
use Rattle.jbig2_base.specs.inner.BitLists.{AreBits}
use Rattle.jbig2_base.proofs.BitFieldLemmas.{bits-drop, byte-bits, next-enough}
use Rattle.jbig2_coder.specs.declared.huffman_table.line.TableLine.{TableLine}
use Rattle.jbig2_coder.specs.declared.huffman_table.levels.Level.{Level}
use Rattle.jbig2_coder.specs.declared.huffman_table.first_table.FirstCode.{FirstCode}
use Rattle.jbig2_coder.specs.PrefixCode.{CodeReading, Reads}
use Rattle.jbig2_coder.specs.inner.CodeReadings.{found_or, unknown_code, cut_off_code}
use Rattle.jbig2_coder.specs.inner.PrefixLevels.{nodes, walk, walk_of, groups_of, AreLevels}
use Rattle.jbig2_coder.specs.inner.FirstCodes.{Begins, AreRight, WalksOn, AreFirst, IsEntry, Enters}
use Rattle.jbig2_coder.proofs.PrefixReading.{get-take, group-size, level-next, child-of, turned, not_found, bits_on-add}

-- ---- the codes of a level

-- the bytes from a code of len bits up to another
pub entry-place : (code count len byte : ℕ) → 1 ≤ len → len ≤ 8 → code + count ≤ 2 ^ len → code * 2 ^ (8 - len) % 2 ^ 64 ≤ byte → byte < (code + count) * 2 ^ (8 - len) % 2 ^ 64 → (code ≤ byte / 2 ^ (8 - len)) × (byte / 2 ^ (8 - len) < code + count) × (byte < 256)
entry-place code count zero byte some most room low high = absurd (omega arith)
entry-place code count (suc zero) byte some most room low high = (omega arith, omega arith, omega arith)
entry-place code count (suc (suc zero)) byte some most room low high = (omega arith, omega arith, omega arith)
entry-place code count (suc (suc (suc zero))) byte some most room low high = (omega arith, omega arith, omega arith)
entry-place code count (suc (suc (suc (suc zero)))) byte some most room low high = (omega arith, omega arith, omega arith)
entry-place code count (suc (suc (suc (suc (suc zero))))) byte some most room low high = (omega arith, omega arith, omega arith)
entry-place code count (suc (suc (suc (suc (suc (suc zero)))))) byte some most room low high = (omega arith, omega arith, omega arith)
entry-place code count (suc (suc (suc (suc (suc (suc (suc zero))))))) byte some most room low high = (omega arith, omega arith, omega arith)
entry-place code count (suc (suc (suc (suc (suc (suc (suc (suc zero)))))))) byte some most room low high = (omega arith, omega arith, omega arith)
entry-place code count (suc (suc (suc (suc (suc (suc (suc (suc (suc len))))))))) byte some most room low high = absurd (omega arith)

pub enters-next : (old codes : List FirstCode) (level : Level) (len code byte : ℕ) (x : FirstCode) → Enters old codes level len code → length codes ≡ 256 → byte < 256 → IsEntry byte x level len code → Enters old (set codes byte x) level len code
enters-next old codes level len code byte x enters size inside entry = λ v d small.
    ⊎_elim (λ (e : v ≡ byte).
    let P : FirstCode → Type 0 = λ y. IsEntry v y level len code in
    let Q : ℕ → Type 0 = λ w. IsEntry w x level len code in
    inr (subst P (sym (get_or-set_at codes byte v x d e (omega arith))) (subst Q (sym e) entry)))
    (λ (o : v ≡ byte → ⊥).
    let kept : get_or (set codes byte x) v d ≡ get_or codes v d = get_or-set_other codes byte v x d o in
    let P : FirstCode → Type 0 = λ y. (y ≡ get_or old v d) ⊎ IsEntry v y level len code in
    subst P (sym kept) (enters v d small))
    (cases_eq v byte)

-- ---- the first levels

-- Before level i, the codes of at most i bits being entered: `code` is the number after them.
pub record AtDepth (lines : List TableLine) (levels : List Level) (i code : ℕ) (codes : List FirstCode) : Type 0 where
  pub right : AreRight lines levels codes
  pub are : AreLevels lines (drop i levels)
  pub room : code + nodes (groups_of lines (drop i levels)) ≤ 2 ^ i
  pub few : code ≤ 256
  pub walks : (v : ℕ) (more : List ℕ) → v < 256 → code ≤ v / 2 ^ (8 - i) → v / 2 ^ (8 - i) - code < nodes (groups_of lines (drop i levels)) → walk_of lines levels 0 (byte_bits v ++ more) ≡ walk (groups_of lines (drop i levels)) i (v / 2 ^ (8 - i) - code) (drop i (byte_bits v) ++ more)

pub depth-none : (lines : List TableLine) (levels : List Level) → AreLevels lines levels → nodes (groups_of lines levels) ≤ 1 → AtDepth lines levels 0 0 (replicate 256 (record { line = 0; length = 0 }))
depth-none lines levels are room =
    let none : FirstCode = record { line = 0; length = 0 } in
    record {
      right = λ v d small some.
          let at : (get_or (replicate 256 none) v d).length ≡ 0 = ap (λ (c : FirstCode). c.length) (get_or-replicate 256 v none d small) in
          absurd (omega arith);
      are = are;
      room = omega arith;
      few = omega arith;
      walks = λ v more small from fewer.
          let root : 0 ≡ v / 2 ^ (8 - 0) - 0 = omega arith in
          ap (λ (d : ℕ). walk (groups_of lines levels) 0 d (byte_bits v ++ more)) root;
    }

-- how many inner nodes stand before a level
before : (lines : List TableLine) (levels : List Level) (i : ℕ) (d : Level) → i < length levels → AreLevels lines (drop i levels) → nodes (groups_of lines (drop i levels)) ≡ ((get_or levels i d).count + (get_or levels i d).nodes + 1) / 2
before lines levels i d inside are =
    let lv = get_or levels i d in
    let next = level-next lines levels i d inside are in
    ap (λ (vs : List Level). nodes (groups_of lines vs)) (drop_more levels i d inside)
    ∙ ap (λ (k : ℕ). (k + nodes (groups_of lines (drop (i + 1) levels)) + 1) / 2) (group-size lines lv next.0)
    ∙ ap (λ (k : ℕ). (lv.count + k + 1) / 2) (sym next.1)

pub depth-room : (lines : List TableLine) (levels : List Level) (i code : ℕ) (codes : List FirstCode) (d : Level) → AtDepth lines levels i code codes → i < 8 → i < length levels → (2 * code + (get_or levels i d).count ≤ 2 ^ (i + 1)) × (2 * code + (get_or levels i d).count ≤ 256)
depth-room lines levels i code codes d at shallow inside =
    let nodes_is = before lines levels i d inside at.are in
    let twice : 2 ^ (i + 1) ≡ 2 * 2 ^ i = rw (add-one, pow-suc) (omega arith) in
    let most : 2 ^ (i + 1) ≤ 2 ^ 8 = pow-le-pow_right {n = 2} (omega arith) {i = i + 1} {j = 8} (omega arith) in
    (omega (arith, at.room), omega (arith, at.room))

-- a bit of a byte, and the others
next-bit : (v i : ℕ) (more : List ℕ) → i < 8 → drop i (byte_bits v) ++ more ≡ v / 2 ^ (8 - (i + 1)) % 2 ∷ (drop (i + 1) (byte_bits v) ++ more)
next-bit v i more h =
    let place : 7 - i ≡ 8 - (i + 1) = omega arith in
    ap (λ (ys : List ℕ). ys ++ more) (bits_at v [] i h)
    ∙ ap (λ (k : ℕ). v / 2 ^ k % 2 ∷ (drop (i + 1) (byte_bits v) ++ more)) place

half : (v i : ℕ) → i < 8 → v / 2 ^ (8 - i) ≡ v / 2 ^ (8 - (i + 1)) / 2
half v i h = let up : 8 - i ≡ 8 - (i + 1) + 1 = omega arith in ap (λ (k : ℕ). v / 2 ^ k) up ∙ sym (shr-shr v (8 - (i + 1)) 1)

-- the walk at the next level, where the bits so far are an inner node
opened : (lines : List TableLine) (levels : List Level) (i code : ℕ) (codes : List FirstCode) (d : Level) (v : ℕ) (more : List ℕ) → AtDepth lines levels i code codes → i < 8 → i < length levels → v < 256 → 2 * code ≤ v / 2 ^ (8 - (i + 1)) → v / 2 ^ (8 - (i + 1)) - 2 * code < (get_or levels i d).count + (get_or levels i d).nodes → walk_of lines levels 0 (byte_bits v ++ more) ≡ walk (groups_of lines (get_or levels i d ∷ drop (i + 1) levels)) i (v / 2 ^ (8 - (i + 1)) / 2 - code) (v / 2 ^ (8 - (i + 1)) % 2 ∷ (drop (i + 1) (byte_bits v) ++ more))
opened lines levels i code codes d v more at shallow inside small from fewer =
    let m : ℕ = v / 2 ^ (8 - (i + 1)) in
    let nodes_is = before lines levels i d inside at.are in
    let halved = half v i shallow in
    at.walks v more small (omega arith) (omega arith)
    ∙ ap (λ (n : ℕ). walk (groups_of lines (drop i levels)) i (n - code) (drop i (byte_bits v) ++ more)) halved
    ∙ ap (λ (vs : List Level). walk (groups_of lines vs) i (m / 2 - code) (drop i (byte_bits v) ++ more)) (drop_more levels i d inside)
    ∙ ap (λ (bs : List ℕ). walk (groups_of lines (get_or levels i d ∷ drop (i + 1) levels)) i (m / 2 - code) bs) (next-bit v i more shallow)

depth-found : (lines : List TableLine) (levels : List Level) (i code : ℕ) (codes : List FirstCode) (d : Level) (v : ℕ) (more : List ℕ) (x : TableLine) → AtDepth lines levels i code codes → i < 8 → i < length levels → v < 256 → 2 * code ≤ v / 2 ^ (8 - (i + 1)) → v / 2 ^ (8 - (i + 1)) < 2 * code + (get_or levels i d).count → walk_of lines levels 0 (byte_bits v ++ more) ≡ record { result = Ok (get_or lines ((get_or levels i d).first + (v / 2 ^ (8 - (i + 1)) - 2 * code)) x); taken = i + 1 }
depth-found lines levels i code codes d v more x at shallow inside small from below =
    let lv = get_or levels i d in
    let m : ℕ = v / 2 ^ (8 - (i + 1)) in
    let n : ℕ = m / 2 - code in
    let b : ℕ = m % 2 in
    let are = level-next lines levels i d inside at.are in
    let child : 2 * n + b ≡ m - 2 * code = omega arith in
    let within : 2 * n + b < length (drop lv.first lines) = omega (arith, are.0, length-drop lv.first lines) in
    opened lines levels i code codes d v more at shallow inside small from (omega arith)
    ∙ ap (λ (o : Option TableLine). found_or o (i + 1) (turned lines levels i n b (drop (i + 1) (byte_bits v) ++ more) d)) (get-take lv.count (2 * n + b) (drop lv.first lines) x (omega arith) within ∙ ap (λ (y : TableLine). Some y) (get_or-drop lv.first lines (2 * n + b) x))
    ∙ ap (λ (e : ℕ). record { result = Ok (get_or lines (lv.first + e) x); taken = i + 1 }) child

depth-on : (lines : List TableLine) (levels : List Level) (i code : ℕ) (codes : List FirstCode) (d : Level) (v : ℕ) (more : List ℕ) → AtDepth lines levels i code codes → i < 8 → i < length levels → v < 256 → 2 * code + (get_or levels i d).count ≤ v / 2 ^ (8 - (i + 1)) → v / 2 ^ (8 - (i + 1)) - (2 * code + (get_or levels i d).count) < nodes (groups_of lines (drop (i + 1) levels)) → walk_of lines levels 0 (byte_bits v ++ more) ≡ walk (groups_of lines (drop (i + 1) levels)) (i + 1) (v / 2 ^ (8 - (i + 1)) - (2 * code + (get_or levels i d).count)) (drop (i + 1) (byte_bits v) ++ more)
depth-on lines levels i code codes d v more at shallow inside small past fewer =
    let lv = get_or levels i d in
    let m : ℕ = v / 2 ^ (8 - (i + 1)) in
    let n : ℕ = m / 2 - code in
    let b : ℕ = m % 2 in
    let rest : List ℕ = drop (i + 1) (byte_bits v) ++ more in
    let gs = groups_of lines (drop (i + 1) levels) in
    let are = level-next lines levels i d inside at.are in
    let nodes_is : lv.nodes ≡ nodes gs = are.1 in
    let child : 2 * n + b - lv.count ≡ m - (2 * code + lv.count) = omega arith in
    opened lines levels i code codes d v more at shallow inside small (omega arith) (omega arith)
    ∙ not_found lines levels i n b rest d are (omega arith)
    ∙ cond-true (ltb (child-of levels i n b d) lv.nodes) (walk gs (i + 1) (child-of levels i n b d) rest) (unknown_code (i + 1)) (lt-ltb (child-of levels i n b d) lv.nodes (omega arith))
    ∙ ap (λ (e : ℕ). walk gs (i + 1) e rest) child

-- one level more
pub depth-next : (lines : List TableLine) (levels : List Level) (i code : ℕ) (codes next : List FirstCode) (d : Level) → AtDepth lines levels i code codes → i < 8 → i < length levels → Enters codes next (get_or levels i d) (i + 1) (2 * code) → AtDepth lines levels (i + 1) (2 * code + (get_or levels i d).count) next
depth-next lines levels i code codes next d at shallow inside enters =
    let lv = get_or levels i d in
    let are = level-next lines levels i d inside at.are in
    let nodes_is = before lines levels i d inside at.are in
    let fits = depth-room lines levels i code codes d at shallow inside in
    let twice : 2 ^ (i + 1) ≡ 2 * 2 ^ i = rw (add-one, pow-suc) (omega arith) in
    let beyond : lv.nodes ≡ nodes (groups_of lines (drop (i + 1) levels)) = are.1 in
    record {
      right = λ v c small some.
          let B : FirstCode → Type 0 = λ y. Begins lines levels v y in
          ⊎_elim (λ (same : get_or next v c ≡ get_or codes v c).
          let L : FirstCode → Type 0 = λ y. 0 < y.length in
          subst B (sym same) (at.right v c small (subst L same some)))
          (λ (entry : IsEntry v (get_or next v c) lv (i + 1) (2 * code)).
          subst B (sym entry.is) (record {
            inside = omega (arith, are.0, entry.from, entry.below);
            walks = λ more x. depth-found lines levels i code codes d v more x at shallow inside small entry.from entry.below;
          }))
          (enters v c small);
      are = are.3;
      room = omega (arith, at.room);
      few = fits.1;
      walks = λ v more small from fewer. depth-on lines levels i code codes d v more at shallow inside small from fewer;
    }

-- all levels of at most eight bits
pub depth-end : (lines : List TableLine) (levels : List Level) (i code : ℕ) (codes : List FirstCode) → AtDepth lines levels i code codes → i ≤ 8 → (i < 8 → length levels ≤ i) → AreFirst lines levels (record { codes = codes; longer = code })
depth-end lines levels i code codes at most last = record {
  right = at.right;
  longer = ⊎_elim (λ (e : i ≡ 8).
      let P : ℕ → Type 0 = λ n. AtDepth lines levels n code codes in
      let all : AtDepth lines levels 8 code codes = subst P e at in
      λ v more small from fewer.
      let whole : v / 2 ^ (8 - 8) ≡ v = omega arith in
      all.walks v more small (omega arith) (omega arith)
      ∙ ap (λ (n : ℕ). walk (groups_of lines (drop 8 levels)) 8 (n - code) more) whole)
      (λ (o : i ≡ 8 → ⊥).
      let before_8 : i < 8 = omega (arith, o) in
      let none : drop 8 levels ≡ [] = drop_all 8 levels (omega (arith, last before_8)) in
      let no_nodes : nodes (groups_of lines (drop 8 levels)) ≡ 0 = ap (λ (vs : List Level). nodes (groups_of lines vs)) none in
      λ v more small from fewer. absurd (omega arith))
      (cases_eq i 8);
}

-- ---- a read by the first table

-- eight bits are the bits of their number
eight-bits : (bits : List ℕ) → AreBits bits → 8 ≤ length bits → bits ≡ byte_bits (number_after 0 (take 8 bits)) ++ drop 8 bits
unfolding AreBits
eight-bits [] are many = absurd (omega arith)
eight-bits (a ∷ []) are many = absurd (omega arith)
eight-bits (a ∷ b ∷ []) are many = absurd (omega arith)
eight-bits (a ∷ b ∷ c ∷ []) are many = absurd (omega arith)
eight-bits (a ∷ b ∷ c ∷ d ∷ []) are many = absurd (omega arith)
eight-bits (a ∷ b ∷ c ∷ d ∷ e ∷ []) are many = absurd (omega arith)
eight-bits (a ∷ b ∷ c ∷ d ∷ e ∷ f ∷ []) are many = absurd (omega arith)
eight-bits (a ∷ b ∷ c ∷ d ∷ e ∷ f ∷ g ∷ []) are many = absurd (omega arith)
eight-bits (a ∷ b ∷ c ∷ d ∷ e ∷ f ∷ g ∷ h ∷ rest) are many =
    let n : ℕ = number_after 0 (a ∷ b ∷ c ∷ d ∷ e ∷ f ∷ g ∷ h ∷ []) in
    let sum : n ≡ 128 * a + 64 * b + 32 * c + 16 * d + 8 * e + 4 * f + 2 * g + h = omega arith in
    spelled_out n a b c d e f g h rest sum are.0 are.1.0 are.1.1.0 are.1.1.1.0 are.1.1.1.1.0 are.1.1.1.1.1.0 are.1.1.1.1.1.1.0 are.1.1.1.1.1.1.1.0
  where
    spelled_out : (n a b c d e f g h : ℕ) (rest : List ℕ) → n ≡ 128 * a + 64 * b + 32 * c + 16 * d + 8 * e + 4 * f + 2 * g + h → a < 2 → b < 2 → c < 2 → d < 2 → e < 2 → f < 2 → g < 2 → h < 2 → a ∷ b ∷ c ∷ d ∷ e ∷ f ∷ g ∷ h ∷ rest ≡ byte_bits n ++ rest
    spelled_out n a b c d e f g h rest sum sa sb sc sd se sf sg sh =
        let ea : a ≡ n / 128 % 2 = omega arith in
        let eb : b ≡ n / 64 % 2 = omega arith in
        let ec : c ≡ n / 32 % 2 = omega arith in
        let ed : d ≡ n / 16 % 2 = omega arith in
        let ee : e ≡ n / 8 % 2 = omega arith in
        let ef : f ≡ n / 4 % 2 = omega arith in
        let eg : g ≡ n / 2 % 2 = omega arith in
        let eh : h ≡ n / 1 % 2 = omega arith in
        cc

pub next-byte : (v : ℕ) (p : Place) → Some v ≡ bits_next 8 (bits_left p) → bits_left p ≡ byte_bits v ++ drop 8 (bits_left p)
unfolding bits_left
next-byte v p e =
    let bits : List ℕ = bits_left p in
    let enough : 8 ≤ length bits = next-enough 8 v bits e in
    let some : Some v ≡ Some (number_after 0 (take 8 bits)) = e ∙ cond-false (ltb (length bits) 8) None (Some (number_after 0 (take 8 bits))) (le-ltb (length bits) 8 enough) in
    let value : v ≡ number_after 0 (take 8 bits) = cc in
    eight-bits bits (bits-drop p.bit _ (byte-bits p.bytes)) enough
    ∙ ap (λ (n : ℕ). byte_bits n ++ drop 8 bits) (sym value)

pub first-found : (lines : List TableLine) (levels : List Level) (v : ℕ) (code : FirstCode) (x : TableLine) (p q : Place) → Some v ≡ bits_next 8 (bits_left p) → Begins lines levels v code → q ≡ bits_on code.length p → bits_left q ≡ drop code.length (bits_left p) → Reads p q (Ok (get_or lines code.line x)) (walk_of lines levels 0 (bits_left p))
first-found lines levels v code x p q peek begins place rest =
    let whole : walk_of lines levels 0 (bits_left p) ≡ record { result = Ok (get_or lines code.line x); taken = code.length } =
    ap (λ (bs : List ℕ). walk_of lines levels 0 bs) (next-byte v p peek) ∙ begins.walks (drop 8 (bits_left p)) x in
    record {
      value = sym (ap (λ (r : CodeReading TableLine). r.result) whole);
      place = place ∙ ap (λ (r : CodeReading TableLine). bits_on r.taken p) (sym whole);
      rest = rest ∙ ap (λ (r : CodeReading TableLine). drop r.taken (bits_left p)) (sym whole);
    }

-- k bits more
abbrev deeper : ℕ → CodeReading TableLine → CodeReading TableLine
deeper k reading = record { result = reading.result; taken = k + reading.taken }

walk-deeper : (gs : List (List TableLine)) (k i d : ℕ) (bits : List ℕ) → walk gs (k + i) d bits ≡ deeper k (walk gs i d bits)
walk-deeper [] k i d [] = let e : k + i + 1 ≡ k + (i + 1) = omega arith in ap (λ (n : ℕ). cut_off_code n) e
walk-deeper (g ∷ gs) k i d [] = let e : k + i + 1 ≡ k + (i + 1) = omega arith in ap (λ (n : ℕ). cut_off_code n) e
walk-deeper [] k i d (b ∷ bits) = let e : k + i + 1 ≡ k + (i + 1) = omega arith in ap (λ (n : ℕ). unknown_code n) e
walk-deeper (g ∷ gs) k i d (b ∷ bits) =
    let e : k + i + 1 ≡ k + (i + 1) = omega arith in
    let c : ℕ = 2 * d + b - length g in
    ap (λ (n : ℕ). found_or (slice_get g (2 * d + b)) n (cond (ltb c (nodes gs)) (walk gs n c bits) (unknown_code n))) e
    ∙ found-deeper (slice_get g (2 * d + b)) (cond (ltb c (nodes gs)) (walk gs (k + (i + 1)) c bits) (unknown_code (k + (i + 1)))) (cond (ltb c (nodes gs)) (walk gs (i + 1) c bits) (unknown_code (i + 1))) k (i + 1)
    (cond-deeper (ltb c (nodes gs)) (walk gs (k + (i + 1)) c bits) (walk gs (i + 1) c bits) k (i + 1) (walk-deeper gs k (i + 1) c bits))
  where
    found-deeper : (o : Option TableLine) (x y : CodeReading TableLine) (k n : ℕ) → x ≡ deeper k y → found_or o (k + n) x ≡ deeper k (found_or o n y)
    found-deeper (Some line) x y k n e = refl
    found-deeper None x y k n e = e

    cond-deeper : (t : Bool) (x y : CodeReading TableLine) (k n : ℕ) → x ≡ deeper k y → cond t x (unknown_code (k + n)) ≡ deeper k (cond t y (unknown_code n))
    cond-deeper true x y k n e = e
    cond-deeper false x y k n e = refl

-- a longer code, eight bits of which are read
pub first-longer : (lines : List TableLine) (levels : List Level) (v from : ℕ) (a : Result TableLine DecodeError) (p q r : Place) → Some v ≡ bits_next 8 (bits_left p) → v < 256 → WalksOn lines levels from → from ≤ v → v - from < nodes (groups_of lines (drop 8 levels)) → q ≡ bits_on 8 p → bits_left q ≡ drop 8 (bits_left p) → Reads q r a (walk_of lines (drop 8 levels) (v - from) (bits_left q)) → Reads p r a (walk_of lines levels 0 (bits_left p))
first-longer lines levels v from a p q r peek small goes low high place rest read =
    let gs = groups_of lines (drop 8 levels) in
    let w : CodeReading TableLine = walk gs 0 (v - from) (bits_left q) in
    let whole : walk_of lines levels 0 (bits_left p) ≡ deeper 8 w =
    ap (λ (bs : List ℕ). walk_of lines levels 0 bs) (next-byte v p peek)
    ∙ goes v (drop 8 (bits_left p)) small low high
    ∙ ap (λ (bs : List ℕ). walk gs 8 (v - from) bs) (sym rest)
    ∙ walk-deeper gs 8 0 (v - from) (bits_left q) in
    record {
      value = read.value ∙ sym (ap (λ (s : CodeReading TableLine). s.result) whole);
      place = read.place ∙ bits_on-add 8 w.taken p q place rest ∙ ap (λ (s : CodeReading TableLine). bits_on s.taken p) (sym whole);
      rest = read.rest ∙ ap (λ (bs : List ℕ). drop w.taken bs) rest ∙ drop-drop w.taken 8 (bits_left p) ∙ ap (λ (s : CodeReading TableLine). drop s.taken (bits_left p)) (sym whole);
    }

-- levels that are passed
are-drop : (n : ℕ) (lines : List TableLine) (levels : List Level) → AreLevels lines levels → AreLevels lines (drop n levels)
are-drop zero lines levels are = are
are-drop (suc n) lines [] are = tt
are-drop (suc n) lines (v ∷ vs) are = are-drop n lines vs are.3

-- after the first eight levels
pub after-eight : (lines : List TableLine) (levels : List Level) (d : Level) → AreLevels lines levels → 8 ≤ length levels → ((get_or levels 7 d).nodes ≡ nodes (groups_of lines (drop 8 levels))) × ((get_or levels 7 d).nodes ≤ length lines) × AreLevels lines (drop 8 levels)
after-eight lines levels d are many =
    let next = level-next lines levels 7 d (omega arith) (are-drop 7 lines levels are) in
    (next.1, omega (arith, next.2), next.3)
