-- The decisions of a row, as they are coded one by one.
use Rattle.std.proofs.Common.{◌≡◌, ℕ, zero, suc, ◌+◌, ◌-◌, ◌*◌, ◌^◌, ◌<◌, ◌≤◌, Bool, true, false, cond, not, List, [], ◌∷◌, ◌++◌, Result, Ok, Err, IfOk, refl, sym, ◌∙◌, ap, subst, arith, add-one, append-nil, append_assoc, ⊎_elim}
use Rattle.std.specs.Bool.{beq}
use Rattle.std.proofs.lemmas.Bool.{and_parts, cases_lt}
use Rattle.jbig2_base.specs.Bits.{bit}
use Rattle.jbig2_base.specs.Grid.{Grid, differ, pixel_at, same_colour}
use Rattle.jbig2_base.specs.Results.{Gives}
use Rattle.jbig2_base.specs.declared.error.DecodeError.{DecodeError}
use Rattle.jbig2_base.proofs.GridLemmas.{pixel_at-right}
use Rattle.jbig2_coder.specs.Encoder.{Codes, CodingInContexts, HasCoded}
use Rattle.jbig2_region.specs.Generic.{context_at}
use Rattle.jbig2_region.specs.Templates.{row_context}
use Rattle.jbig2_region.specs.inner.Layouts.{nominal_neighbours}
use Rattle.jbig2_region.specs.declared.template.AdaptiveTemplatePixel.{AdaptiveTemplatePixel}
use Rattle.jbig2_region.specs.declared.template.Template.{Template}
use Rattle.jbig2_region.specs.declared.template.Template.TheVariants.{Template0, Template1, Template2, Template3}
use Rattle.jbig2_inverses.specs.CoderStates.{Entry}
use Rattle.jbig2_inverses.specs.RegionWriter.{row_above, same_rows}
use Rattle.jbig2_region.specs.declared.template.neighbours.Neighbours.{Neighbours}
use Rattle.jbig2_writer.specs.declared.settings.ArithmeticCoding.{ArithmeticCoding}
use Rattle.jbig2_writer.specs.inner.Rows.{decisions_of_pixels, places, predicted_before, decisions_of_row, decisions_of_rows, typical_row}
use Rattle.jbig2_writer.specs.inner.Windows.{CodesOn, IsNarrow}
use Rattle.jbig2_region.specs.inner.Neighbours.{nominal_pixels}
use Rattle.jbig2_writer.proofs.WindowLemmas.{same-words}

-- ---- typical rows
colours-same : (a b : Bool) → same_colour a b ≡ true → a ≡ b
colours-same true true e = refl
colours-same true false e = sym e
colours-same false true e = e
colours-same false false e = refl

same-colour : (a : Bool) → same_colour a a ≡ true
same-colour true = refl
same-colour false = refl

rows-each : (w x : ℕ) (one other : ℕ → Bool) → same_rows w one other ≡ true → x < w → one x ≡ other x
rows-each zero x one other e inside = absurd (omega (arith, inside))
rows-each (suc n) x one other e inside =
    let both = and_parts (same_colour (one n) (other n)) (same_rows n one other) e in
    ⊎_elim
    (λ (before : x < n). rows-each n x one other both.1 before)
    (λ (after : n ≤ x). let here : n ≡ x = omega (arith, inside, after) in subst (λ (k : ℕ). one k ≡ other k) here (colours-same (one n) (other n) both.0))
    (cases_lt x n)

rows-all : (w : ℕ) (one other : ℕ → Bool) → ((x : ℕ) → x < w → one x ≡ other x) → same_rows w one other ≡ true
rows-all zero one other each = refl
rows-all (suc n) one other each =
    rw (each n (omega arith), same-colour (other n)) (rows-all n one other (λ x inside. each x (omega (arith, inside))))

above-right : (g : Grid) (y x : ℕ) → g.width ≤ x → row_above (pixel_at g) y x ≡ false
above-right g zero x right = refl
above-right g (suc y) x right = pixel_at-right g x y right

module _ (g : Grid) (y : ℕ) where
  abbrev here : ℕ → Bool
  here x = pixel_at g x y

  abbrev above : ℕ → Bool
  above = row_above (pixel_at g) y

  -- rows of one colour, past their end too
  each-same : same_rows g.width here above ≡ true → (x : ℕ) → here x ≡ above x
  each-same e x = ⊎_elim
      (λ (inside : x < g.width). rows-each g.width x here above e inside)
      (λ (right : g.width ≤ x). pixel_at-right g x y right ∙ sym (above-right g y x right))
      (cases_lt x g.width)

  -- words of the two rows, from column x on
  module _ (x a b : ℕ) (is_a : (k : ℕ) → k < 64 → bit a (63 - k) ≡ here (x + k)) (is_b : (k : ℕ) → k < 64 → bit b (63 - k) ≡ above (x + k)) where
    -- words that differ
    pub row-unlike : a < 2 ^ 64 → b < 2 ^ 64 → (a ≡ b → ⊥) → false ≡ same_rows g.width here above
    row-unlike less_a less_b o = either (same_rows g.width here above) each-same
      where
        turned : (k : ℕ) → k < 64 → 63 - (63 - k) ≡ k
        turned k inside = omega (arith, inside)

        either : (r : Bool) → (r ≡ true → (x : ℕ) → here x ≡ above x) → false ≡ r
        either false same = refl
        either true same =
            absurd (o (same-words 64 a b less_a less_b (λ k inside.
            ap (λ (n : ℕ). bit a n) (sym (turned k inside)) ∙ is_a (63 - k) (omega (arith, inside)) ∙ same refl (x + (63 - k))
            ∙ sym (is_b (63 - k) (omega (arith, inside))) ∙ ap (λ (n : ℕ). bit b n) (turned k inside))))

    -- words that are equal
    pub row-like : a ≡ b → (index : ℕ) → x ≡ index * 64 → ((i : ℕ) → i < index * 64 → here i ≡ above i) → (i : ℕ) → i < (index + 1) * 64 → here i ≡ above i
    row-like same index is_x before i inside = ⊎_elim
        (λ (left : i < index * 64). before i left)
        (λ (right : index * 64 ≤ i).
        let k : ℕ = i - x in
        let place : x + k ≡ i = omega (arith, is_x, right) in
        let few : k < 64 = omega (arith, is_x, inside) in
        subst (λ (n : ℕ). here n ≡ above n) place (sym (is_a k few) ∙ ap (λ (n : ℕ). bit n (63 - k)) same ∙ is_b k few))
        (cases_lt i (index * 64))

  pub row-same : (n : ℕ) → g.width ≤ n → ((i : ℕ) → i < n → here i ≡ above i) → true ≡ same_rows g.width here above
  row-same n all each = sym (rows-all g.width here above (λ i inside. each i (omega (arith, inside, all))))

-- ---- the pixels of a row
pub goes-nowhere : (s : CodingInContexts) (before after : List Entry) → before ≡ after → CodesOn s s before after
goes-nowhere s before after e = λ list has. subst (λ (more : List Entry). HasCoded s (list ++ more)) e has

goes-further : (s t u : CodingInContexts) (before middle after : List Entry) (e : Entry) → CodesOn s t before middle → Codes t u (e ∷ []) → after ≡ middle ++ e ∷ [] → CodesOn s u before after
goes-further s t u before middle after e goes codes is = λ list has.
    subst (λ (all : List Entry). HasCoded u all) (append_assoc list middle (e ∷ []) ∙ ap (λ (more : List Entry). list ++ more) (sym is)) (codes (list ++ middle) (goes list has))

pub group-more : (s t u : CodingInContexts) (n : Neighbours) (g : Grid) (x y offset k : ℕ) (b : Bool)
    → CodesOn s t (decisions_of_pixels (nominal_pixels n) g y x) (decisions_of_pixels (nominal_pixels n) g y (x + offset)) → Codes t u ((k, b) ∷ [])
    → k ≡ context_at (nominal_pixels n) g (x + offset) y → b ≡ pixel_at g (x + offset) y
    → CodesOn s u (decisions_of_pixels (nominal_pixels n) g y x) (decisions_of_pixels (nominal_pixels n) g y (x + (offset + 1)))
unfolding decisions_of_pixels
group-more s t u n g x y offset k b goes codes is_k is_b =
    let next : x + (offset + 1) ≡ suc (x + offset) = omega arith in
    let template : List AdaptiveTemplatePixel = nominal_pixels n in
    goes-further s t u (decisions_of_pixels template g y x) (decisions_of_pixels template g y (x + offset)) (decisions_of_pixels template g y (x + (offset + 1))) (k, b) goes codes
    (ap (λ (m : ℕ). decisions_of_pixels template g y m) next ∙ (λ i. decisions_of_pixels template g y (x + offset) ++ (sym is_k i, sym is_b i) ∷ []))

pub pixels-none : (s : CodingInContexts) (template : List AdaptiveTemplatePixel) (g : Grid) (y n : ℕ) → n ≡ 0 → Codes s s (decisions_of_pixels template g y n)
unfolding decisions_of_pixels
pixels-none s template g y n e = λ list has. rw (e, append-nil list) has

pub pixels-more : (s t u : CodingInContexts) (template : List AdaptiveTemplatePixel) (g : Grid) (y m x x' n : ℕ) → m ≡ x → x' ≡ n → Codes s t (decisions_of_pixels template g y m)
    → CodesOn t u (decisions_of_pixels template g y x) (decisions_of_pixels template g y x') → Codes s u (decisions_of_pixels template g y n)
pixels-more s t u template g y m x x' n is_m is_n codes goes = λ list has.
    subst (λ (k : ℕ). HasCoded u (list ++ decisions_of_pixels template g y k)) is_n
    (goes list (subst (λ (k : ℕ). HasCoded t (list ++ decisions_of_pixels template g y k)) is_m (codes list has)))

pub pixels-all : (s t : CodingInContexts) (template : List AdaptiveTemplatePixel) (g : Grid) (y m n : ℕ) → m ≡ n → Codes s t (decisions_of_pixels template g y m) → Codes s t (decisions_of_pixels template g y n)
pixels-all s t template g y m n e codes = subst (λ (k : ℕ). Codes s t (decisions_of_pixels template g y k)) e codes

-- ---- a row
pub near : (template : Template) → IsNarrow (nominal_neighbours template)
near Template0 = record { left = omega arith; above_reach = omega arith; above_count = omega arith; top_reach = omega arith; top_count = omega arith; few = omega arith }
near Template1 = record { left = omega arith; above_reach = omega arith; above_count = omega arith; top_reach = omega arith; top_count = omega arith; few = omega arith }
near Template2 = record { left = omega arith; above_reach = omega arith; above_count = omega arith; top_reach = omega arith; top_count = omega arith; few = omega arith }
near Template3 = record { left = omega arith; above_reach = omega arith; above_count = omega arith; top_reach = omega arith; top_count = omega arith; few = omega arith }

places-are : (template : Template) → nominal_pixels (nominal_neighbours template) ≡ places template
places-are Template0 = refl
places-are Template1 = refl
places-are Template2 = refl
places-are Template3 = refl

pub row-plain : (s : ArithmeticCoding) (g : Grid) (y : ℕ) (p : Bool) → s.typical ≡ false → decisions_of_row s g y p ≡ decisions_of_pixels (places s.template) g y g.width
unfolding decisions_of_row
row-plain s g y p e = rw e refl

row-coded : (s : ArithmeticCoding) (g : Grid) (y : ℕ) (p same : Bool) → s.typical ≡ true → same_rows g.width (λ x. pixel_at g x y) (row_above (pixel_at g) y) ≡ same
    → decisions_of_row s g y p ≡ (row_context s.template, differ same p) ∷ cond same [] (decisions_of_pixels (places s.template) g y g.width)
unfolding decisions_of_row
row-coded s g y p same e f = rw (e, f) refl

changes : (same p : Bool) → not (beq same p) ≡ differ same p
changes true true = refl
changes true false = refl
changes false true = refl
changes false false = refl

-- the pixels of a row, in the places of its template
at-places : (s t : CodingInContexts) (st : ArithmeticCoding) (g : Grid) (y : ℕ) (n : Neighbours) → n ≡ nominal_neighbours st.template
    → Codes s t (decisions_of_pixels (nominal_pixels n) g y g.width) → Codes s t (decisions_of_pixels (places st.template) g y g.width)
at-places s t st g y n is_n codes =
    subst (λ (template : List AdaptiveTemplatePixel). Codes s t (decisions_of_pixels template g y g.width)) (ap nominal_pixels is_n ∙ places-are st.template) codes

-- a row that takes no decision SLTP
pub row-uncoded : (s t : CodingInContexts) (st : ArithmeticCoding) (g : Grid) (y : ℕ) (p : Bool) (n : Neighbours) → st.typical ≡ false → n ≡ nominal_neighbours st.template
    → Codes s t (decisions_of_pixels (nominal_pixels n) g y g.width) → Codes s t (decisions_of_row st g y p)
row-uncoded s t st g y p n e is_n codes = subst (λ (more : List Entry). Codes s t more) (sym (row-plain st g y p e)) (at-places s t st g y n is_n codes)

-- the decision SLTP
sltp : (s t : CodingInContexts) (k k' : ℕ) (p same same' : Bool) → k ≡ k' → same ≡ same' → Codes s t ((k, not (beq same p)) ∷ []) → Codes s t ((k', differ same' p) ∷ [])
sltp s t k k' p same same' is_k is codes = subst (λ (e : Entry). Codes s t (e ∷ [])) (λ i. (is_k i, (ap (λ (b : Bool). not (beq b p)) is ∙ changes same' p) i)) codes

-- a typical row
pub row-predicted : (s t : CodingInContexts) (st : ArithmeticCoding) (g : Grid) (y k : ℕ) (p same : Bool) → st.typical ≡ true → same ≡ same_rows g.width (λ x. pixel_at g x y) (row_above (pixel_at g) y) → same ≡ true
    → k ≡ row_context st.template → Codes s t ((k, not (beq same p)) ∷ []) → Codes s t (decisions_of_row st g y p)
row-predicted s t st g y k p same e is_same typical is_k codes =
    subst (λ (more : List Entry). Codes s t more) (sym (row-coded st g y p true e (sym is_same ∙ typical))) (sltp s t k (row_context st.template) p same true is_k typical codes)

-- a row that is not typical
pub row-read : (s t u : CodingInContexts) (st : ArithmeticCoding) (g : Grid) (y k : ℕ) (p same : Bool) (n : Neighbours) → st.typical ≡ true
    → same ≡ same_rows g.width (λ x. pixel_at g x y) (row_above (pixel_at g) y) → same ≡ false → k ≡ row_context st.template → n ≡ nominal_neighbours st.template
    → Codes s t ((k, not (beq same p)) ∷ []) → Codes t u (decisions_of_pixels (nominal_pixels n) g y g.width) → Codes s u (decisions_of_row st g y p)
row-read s t u st g y k p same n e is_same other is_k is_n opens codes =
    let first : Entry = (row_context st.template, differ false p) in
    let pixels : List Entry = decisions_of_pixels (places st.template) g y g.width in
    subst (λ (more : List Entry). Codes s u more) (sym (row-coded st g y p false e (sym is_same ∙ other)))
    (λ list has.
    subst (λ (all : List Entry). HasCoded u all) (append_assoc list (first ∷ []) pixels)
    (at-places t u st g y n is_n codes (list ++ first ∷ []) (sltp s t k (row_context st.template) p same false is_k other opens list has)))

-- ---- the rows
pub rows-none : (encoder : CodingInContexts) (s : ArithmeticCoding) (g : Grid) → HasCoded encoder [] → HasCoded encoder (decisions_of_rows s g 0)
unfolding decisions_of_rows
rows-none encoder s g has = has

pub rows-more : (old new : CodingInContexts) (s : ArithmeticCoding) (g : Grid) (y : ℕ) (p : Bool) → HasCoded old (decisions_of_rows s g y) → p ≡ predicted_before s g y → Codes old new (decisions_of_row s g y p) → HasCoded new (decisions_of_rows s g (y + 1))
unfolding decisions_of_rows
rows-more old new s g y p has is_p codes =
    rw add-one (subst (λ (b : Bool). HasCoded new (decisions_of_rows s g y ++ decisions_of_row s g y b)) is_p (codes (decisions_of_rows s g y) has))

pub gives-bytes : {X : Type 0} (view : X → List ℕ) (r : Result X DecodeError) (meant : List ℕ) → Gives view r (Ok meant) → IfOk r (λ x. view x ≡ meant)
gives-bytes view (Ok x) meant given = sym (ok-same given)
  where
    ok-same : {a b : List ℕ} → ◌≡◌ {A = Result (List ℕ) DecodeError} (Ok a) (Ok b) → a ≡ b
    ok-same e = cc
gives-bytes view (Err e) meant given = tt

pub predicted-next : (s : ArithmeticCoding) (g : Grid) (y : ℕ) (t : Bool) → t ≡ typical_row s g y → t ≡ predicted_before s g (y + 1)
predicted-next s g y t e = rw add-one e
