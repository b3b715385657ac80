-- Each line that has a code is a member of its table, with the code that the writer gives it.
use Rattle.std.proofs.Common.{◌≡◌, ℕ, zero, suc, ◌+◌, ◌<◌, ◌≤◌, Bool, true, false, cond, eqb, List, [], ◌∷◌, ◌++◌, length, refl, sym, ◌∙◌, ap, arith, append_assoc, append-nil, subst, ⊎_elim, eq-eqb}
use Rattle.std.proofs.lemmas.Bool.{cond-true, cases_eq}
use Rattle.jbig2_coder.specs.declared.huffman_table.line.TableLine.{TableLine}
use Rattle.jbig2_coder.specs.PrefixCode.{Member, level, shorter, longest, members_of, members_from, prefix_code}

-- a list of members with m in it
abbrev pub Holds : List Member → Member → Type 0
Holds ms m = (front : List Member) × (back : List Member) × (ms ≡ front ++ m ∷ back)

holds-more : (ms others : List Member) (m : Member) → Holds ms m → Holds (ms ++ others) m
holds-more ms others m h =
    (h.0, h.1 ++ others, ap (λ (xs : List Member). xs ++ others) h.2 ∙ append_assoc h.0 (m ∷ h.1) others)

holds-after : (ms others : List Member) (m : Member) → Holds others m → Holds (ms ++ others) m
holds-after ms others m h =
    (ms ++ h.0, h.1, ap (λ (xs : List Member). ms ++ xs) h.2 ∙ sym (append_assoc ms h.0 (m ∷ h.1)))

holds-cond : (b : Bool) (x m : Member) (others : List Member) → Holds others m → Holds (cond b (x ∷ others) others) m
holds-cond true x m others h = (x ∷ h.0, h.1, ap (λ (xs : List Member). x ∷ xs) h.2)
holds-cond false x m others h = h

abbrev pub member : ℕ → ℕ → TableLine → Member
member l n x = record { bits = l; number = n; line = x }

holds-of : (l : ℕ) (lines earlier before : List TableLine) (x : TableLine) (after : List TableLine) (n : ℕ)
    → x.prefix_length ≡ l → n ≡ shorter l lines + length (level l (earlier ++ before))
    → Holds (members_of l lines earlier (before ++ x ∷ after)) (member l n x)
holds-of l lines earlier [] x after n len number =
    let others = members_of l lines (earlier ++ x ∷ []) after in
    let code = shorter l lines + length (level l earlier) in
    let same : code ≡ n = sym (number ∙ ap (λ (ys : List TableLine). shorter l lines + length (level l ys)) (append-nil earlier)) in (
      [],
      others,
      cond-true (eqb x.prefix_length l) (member l code x ∷ others) others (eq-eqb x.prefix_length l len)
          ∙ ap (λ (k : ℕ). member l k x ∷ others) same,
    )
holds-of l lines earlier (y ∷ before) x after n len number =
    let others = members_of l lines (earlier ++ y ∷ []) (before ++ x ∷ after) in
    let code = shorter l lines + length (level l earlier) in
    let turn : earlier ++ y ∷ before ≡ (earlier ++ y ∷ []) ++ before = sym (append_assoc earlier (y ∷ []) before) in
    holds-cond (eqb y.prefix_length l) (member l code y) (member l n x) others
    (holds-of l lines (earlier ++ y ∷ []) before x after n len (number ∙ ap (λ (ys : List TableLine). shorter l lines + length (level l ys)) turn))

holds-from : (count l : ℕ) (before : List TableLine) (x : TableLine) (after : List TableLine) (n : ℕ)
    → l ≤ x.prefix_length → x.prefix_length < l + count
    → n ≡ shorter x.prefix_length (before ++ x ∷ after) + length (level x.prefix_length before)
    → Holds (members_from count l (before ++ x ∷ after)) (member x.prefix_length n x)
holds-from zero l before x after n low high number = absurd (omega (arith, low, high))
holds-from (suc count) l before x after n low high number =
    let lines = before ++ x ∷ after in
    let len = x.prefix_length in
    ⊎_elim
    (λ (here : len ≡ l). holds-more (members_of l lines [] lines) (members_from count (l + 1) lines) (member len n x)
    (subst (λ (k : ℕ). Holds (members_of k lines [] lines) (member len n x)) here (holds-of len lines [] before x after n refl number)))
    (λ (o : len ≡ l → ⊥). holds-after (members_of l lines [] lines) (members_from count (l + 1) lines) (member len n x)
    (holds-from count (l + 1) before x after n (omega (arith, low, o)) (omega (arith, high)) number))
    (cases_eq len l)

pub longest-in : (before : List TableLine) (x : TableLine) (after : List TableLine) → x.prefix_length ≤ longest (before ++ x ∷ after)
longest-in [] x after = omega arith
longest-in (y ∷ before) x after = let h = longest-in before x after in omega (arith, h)

pub holds-line : (before : List TableLine) (x : TableLine) (after : List TableLine) → 0 < x.prefix_length
    → Holds (prefix_code (before ++ x ∷ after)) (member x.prefix_length (shorter x.prefix_length (before ++ x ∷ after) + length (level x.prefix_length before)) x)
unfolding prefix_code
holds-line before x after some =
    let h = longest-in before x after in
    holds-from (longest (before ++ x ∷ after)) 1 before x after (shorter x.prefix_length (before ++ x ∷ after) + length (level x.prefix_length before)) (omega (arith, some)) (omega (arith, h)) refl
