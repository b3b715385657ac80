-- The codes by their sums are numbered one by one in each length.
use Rattle.std.proofs.Common.{◌≡◌, ℕ, zero, suc, ◌+◌, Bool, true, false, cond, eqb, List, [], ◌∷◌, ◌++◌, length, refl, ◌∙◌, ap, arith, length-append}
use Rattle.std.proofs.lemmas.List.Elements.{filter-append}
use Rattle.jbig2_coder.specs.declared.huffman_table.line.TableLine.{TableLine}
use Rattle.jbig2_coder.specs.PrefixCode.{Member, shorter, level, members_of, members_from}
use Rattle.jbig2_coder.specs.inner.CodeReadings.{code_of_level}
use Rattle.jbig2_coder.specs.inner.PrefixLevels.{codes_of_length, codes_from}

-- one line more is as long, or not
level-more : (l : ℕ) (earlier : List TableLine) (x : TableLine) → length (level l (earlier ++ x ∷ [])) ≡ length (level l earlier) + cond (eqb x.prefix_length l) 1 0
level-more l earlier x =
    ap length (filter-append (λ (y : TableLine). eqb y.prefix_length l) earlier (x ∷ []))
    ∙ length-append (level l earlier) (cond (eqb x.prefix_length l) (x ∷ []) [])
    ∙ ap (λ (n : ℕ). length (level l earlier) + n) (count (eqb x.prefix_length l))
  where
    count : (b : Bool) → length (cond b (x ∷ []) []) ≡ cond b 1 0
    count true = omega arith
    count false = omega arith

at-head : (b : Bool) (l n : ℕ) (x : TableLine) (ys : List TableLine) (others : List Member) → others ≡ codes_of_length l (n + cond b 1 0) ys → cond b (record { bits = l; number = n; line = x } ∷ others) others ≡ codes_of_length l n (cond b (x ∷ ys) ys)
at-head true l n x ys others e = ap (λ (ms : List Member). record { bits = l; number = n; line = x } ∷ ms) e
at-head false l n x ys others e = e ∙ ap (λ (k : ℕ). codes_of_length l k ys) (let none : n + 0 ≡ n = omega arith in none)

members-are : (l : ℕ) (lines earlier xs : List TableLine) → members_of l lines earlier xs ≡ codes_of_length l (code_of_level l lines earlier) (level l xs)
members-are l lines earlier [] = refl
members-are l lines earlier (x ∷ xs) =
    let b : Bool = eqb x.prefix_length l in
    let more : code_of_level l lines (earlier ++ x ∷ []) ≡ code_of_level l lines earlier + cond b 1 0 = omega (arith, level-more l earlier x) in
    at-head b l (code_of_level l lines earlier) x (level l xs) (members_of l lines (earlier ++ x ∷ []) xs)
    (members-are l lines (earlier ++ x ∷ []) xs ∙ ap (λ (n : ℕ). codes_of_length l n (level l xs)) more)

pub members-from : (n l : ℕ) (lines : List TableLine) → members_from n l lines ≡ codes_from n l lines
members-from zero l lines = refl
members-from (suc n) l lines =
    let none : code_of_level l lines [] ≡ shorter l lines = omega arith in
    ap (λ (ms : List Member). ms ++ members_from n (l + 1) lines) (members-are l lines [] lines ∙ ap (λ (k : ℕ). codes_of_length l k (level l lines)) none)
    ∙ ap (λ (ms : List Member). codes_of_length l (shorter l lines) (level l lines) ++ ms) (members-from n (l + 1) lines)
