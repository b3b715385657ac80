-- A read bit by bit takes the fewest bits that decide it.
use Rattle.std.proofs.Common.{◌≡◌, ℕ, suc, ◌+◌, ◌-◌, ◌*◌, ltb, Bool, true, false, not, ◌||◌, cond, List, [], ◌∷◌, ◌++◌, append_assoc, append-nil, length, take, Option, Some, None, refl, sym, ◌∙◌, ap, arith, length-append}
use Rattle.std.specs.Prelude.{is_some}
use Rattle.std.proofs.lemmas.Bool.{cond-true, cond-false, lt-ltb, le-ltb}
use Rattle.jbig2_base.specs.Bits.{number_after}
use Rattle.jbig2_base.specs.Search.{least}
use Rattle.jbig2_coder.specs.declared.huffman_table.line.TableLine.{TableLine}
use Rattle.jbig2_coder.specs.PrefixCode.{Member, CodeReading, line_of, begins_longer, front_number, read_code}
use Rattle.jbig2_coder.specs.inner.CodeReadings.{found_or, unknown_code, cut_off_code, is_decided, read_of}
use Rattle.jbig2_coder.specs.inner.PrefixLevels.{read_on}

number-push : (front : ℕ) (bits : List ℕ) (b : ℕ) → number_after front (bits ++ b ∷ []) ≡ 2 * number_after front bits + b
number-push front [] b = refl
number-push front (x ∷ bits) b = number-push (2 * front + x) bits b

take-front : (front rest : List ℕ) → take (length front) (front ++ rest) ≡ front
take-front [] rest = refl
take-front (x ∷ front) rest = ap (λ (ys : List ℕ). x ∷ ys) (take-front front rest)

-- k bits decide the read, or more are needed
settle : (o : Option TableLine) (longer : Bool) (k far : ℕ) (more : CodeReading TableLine) (given : ℕ → CodeReading TableLine) → given k ≡ found_or o k (unknown_code k) → given far ≡ more → found_or o k (cond longer more (unknown_code k)) ≡ given (cond (is_some o || not longer) k far)
settle (Some line) longer k far more given here there = sym here
settle None true k far more given here there = sym there
settle None false k far more given here there = sym here

read-fewest : (ms : List Member) (front rest : List ℕ) → read_on ms (length front) (number_after 0 front) rest ≡ read_of ms (front ++ rest) (least (is_decided ms (front ++ rest)) (length rest) (length (front ++ rest) + 1))
unfolding least
read-fewest ms front [] =
    let n = length (front ++ []) in
    ap (λ (ys : List ℕ). cut_off_code (length ys + 1)) (sym (append-nil front))
    ∙ sym (cond-true (ltb n (n + 1)) (cut_off_code (n + 1)) (found_or (line_of ms (n + 1) (front_number (n + 1) (front ++ []))) (n + 1) (unknown_code (n + 1))) (lt-ltb n (n + 1) (omega arith)))
read-fewest ms front (b ∷ rest) =
    let bits : List ℕ = front ++ b ∷ rest in
    let longer : List ℕ = front ++ b ∷ [] in
    let n = length rest in
    let k = length front + 1 in
    let v = 2 * number_after 0 front + b in
    let test : ℕ → Bool = is_decided ms bits in
    let far = least test n (length bits + 1) in
    let whole : longer ++ rest ≡ bits = append_assoc front (b ∷ []) rest in
    let size : length bits ≡ length front + suc n = length-append front (b ∷ rest) in
    let reach : length longer ≡ k = length-append front (b ∷ []) in
    let at : length bits + 1 - suc n ≡ k = omega arith in
    let taken : take k bits ≡ longer = ap (λ (j : ℕ). take j bits) (sym reach) ∙ ap (λ (ys : List ℕ). take (length longer) ys) (sym whole) ∙ take-front longer rest in
    let spelled : front_number k bits ≡ v = ap (λ (ys : List ℕ). number_after 0 ys) taken ∙ number-push 0 front b in
    let given : read_of ms bits k ≡ found_or (line_of ms k v) k (unknown_code k) =
    cond-false (ltb (length bits) k) (cut_off_code k) (found_or (line_of ms k (front_number k bits)) k (unknown_code k)) (le-ltb (length bits) k (omega arith))
    ∙ ap (λ (u : ℕ). found_or (line_of ms k u) k (unknown_code k)) spelled in
    let further : read_of ms bits far ≡ read_on ms k v rest =
    sym (ap (λ (j : ℕ). read_on ms j v rest) (sym reach)
    ∙ ap (λ (u : ℕ). read_on ms (length longer) u rest) (sym (number-push 0 front b))
    ∙ read-fewest ms longer rest
    ∙ ap (λ (ys : List ℕ). read_of ms ys (least (is_decided ms ys) n (length ys + 1))) whole) in
    let decided : test (length bits + 1 - suc n) ≡ (is_some (line_of ms k v) || not (begins_longer ms k v)) =
    ap test at ∙ ap (λ (u : ℕ). is_some (line_of ms k u) || not (begins_longer ms k u)) spelled in
    settle (line_of ms k v) (begins_longer ms k v) k far (read_on ms k v rest) (read_of ms bits) given further
    ∙ ap (λ (t : Bool). read_of ms bits (cond t k far)) (sym decided)
    ∙ ap (λ (j : ℕ). read_of ms bits (cond (test (length bits + 1 - suc n)) j far)) (sym at)

pub read_code-is : (ms : List Member) (bits : List ℕ) → read_on ms 0 0 bits ≡ read_code ms bits
unfolding read_code
read_code-is ms bits =
    let all : length bits ≡ length bits + 1 - 1 = omega arith in
    read-fewest ms [] bits ∙ ap (λ (n : ℕ). read_of ms bits (least (is_decided ms bits) n (length bits + 1))) all
