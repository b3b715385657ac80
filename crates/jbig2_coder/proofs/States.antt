-- The states of a context, of which each row of the table has two.
use Rattle.std.proofs.Common.{◌≡◌, ℕ, ◌+◌, ◌-◌, ◌*◌, ◌/◌, ◌%◌, ◌<◌, ◌≤◌, true, not, cond, eqb, List, [], ◌∷◌, get_or, refl, sym, ap, ◌∙◌, ⊎_elim, arith}
use Rattle.std.specs.List.{flat_map}
use Rattle.std.proofs.lemmas.Bool.{agree_below_at, cases_eq, eq-eqb, eqb-true, ne_eqb}
use Rattle.jbig2_coder.specs.QeTable.{QeData, rows, qe_row}
use Rattle.jbig2_coder.specs.Coder.{Context, likely_next, unlikely_next}
use Rattle.jbig2_coder.specs.inner.States.{context_in_state}
use Rattle.jbig2_coder.specs.declared.arithmetic_decoder.qe_table.State.{State}
use Rattle.jbig2_coder.proofs.Rows.{row_of-is_row}
use Rattle.jbig2_base.specs.Bits.{bit_number}

unfoldable pub both_of : QeData → List State
both_of row =
    record { qe = row.qe; likely = 2 * row.nmps; unlikely = 2 * row.nlps + bit_number row.switch }
    ∷ record { qe = row.qe; likely = 2 * row.nmps + 1; unlikely = 2 * row.nlps + 1 - bit_number row.switch }
    ∷ []

-- the table that the code reads
unfoldable pub states : List State
states = flat_map both_of rows

pub state-qe : (k : ℕ) (d : State) → k < 94 → (get_or states k d).qe ≡ (qe_row (k / 2)).qe
unfolding both_of states rows qe_row
state-qe k d h = eqb-true _ _ (agree_below_at (λ i. eqb (get_or states i d).qe (qe_row (i / 2)).qe) (λ _. true) 94 k refl h)

likely-row : (k : ℕ) (d : State) → k < 94 → (get_or states k d).likely / 2 ≡ (qe_row (k / 2)).nmps
unfolding both_of states rows qe_row
likely-row k d h =
    eqb-true _ _ (agree_below_at (λ i. eqb ((get_or states i d).likely / 2) (qe_row (i / 2)).nmps) (λ _. true) 94 k refl h)

likely-symbol : (k : ℕ) (d : State) → k < 94 → eqb ((get_or states k d).likely % 2) 1 ≡ eqb (k % 2) 1
unfolding both_of states rows
likely-symbol k d h = agree_below_at (λ i. eqb ((get_or states i d).likely % 2) 1) (λ i. eqb (i % 2) 1) 94 k refl h

unlikely-row : (k : ℕ) (d : State) → k < 94 → (get_or states k d).unlikely / 2 ≡ (qe_row (k / 2)).nlps
unfolding both_of states rows qe_row
unlikely-row k d h =
    eqb-true _ _ (agree_below_at (λ i. eqb ((get_or states i d).unlikely / 2) (qe_row (i / 2)).nlps) (λ _. true) 94 k refl h)

unlikely-symbol : (k : ℕ) (d : State) → k < 94
    → eqb ((get_or states k d).unlikely % 2) 1 ≡ cond (qe_row (k / 2)).switch (not (eqb (k % 2) 1)) (eqb (k % 2) 1)
unfolding both_of states rows qe_row
unlikely-symbol k d h =
    agree_below_at (λ i. eqb ((get_or states i d).unlikely % 2) 1)
    (λ i. cond (qe_row (i / 2)).switch (not (eqb (i % 2) 1)) (eqb (i % 2) 1)) 94 k refl h

pub state-likely : (k : ℕ) (d : State) → k < 94 → context_in_state (get_or states k d).likely ≡ likely_next (context_in_state k)
unfolding likely_next
state-likely k d h = λ i. record { row = likely-row k d h i; likely = likely-symbol k d h i }

pub state-unlikely : (k : ℕ) (d : State) → k < 94 → context_in_state (get_or states k d).unlikely ≡ unlikely_next (context_in_state k)
unfolding unlikely_next
state-unlikely k d h = λ i. record { row = unlikely-row k d h i; likely = unlikely-symbol k d h i }

pub state-some : (k : ℕ) (d : State) → k < 94 → 1 ≤ (get_or states k d).qe
state-some k d h = rw (state-qe k d h) (row_of-is_row (k / 2)).some

pub state-half : (k : ℕ) (d : State) → k < 94 → (get_or states k d).qe ≤ 0x5601
state-half k d h = rw (state-qe k d h) (row_of-is_row (k / 2)).half

pub state-likely_below : (k : ℕ) (d : State) → k < 94 → (get_or states k d).likely < 94
state-likely_below k d h = omega (arith, likely-row k d h, (row_of-is_row (k / 2)).nmps)

pub state-unlikely_below : (k : ℕ) (d : State) → k < 94 → (get_or states k d).unlikely < 94
state-unlikely_below k d h = omega (arith, unlikely-row k d h, (row_of-is_row (k / 2)).nlps)

-- the symbol and the probability that the code reads
pub bit_number-parity : (k : ℕ) → bit_number (context_in_state k).likely ≡ k % 2
bit_number-parity k =
    ⊎_elim (λ (one : k % 2 ≡ 1). rw (eq-eqb (k % 2) 1 one) (sym one))
    (λ (other : k % 2 ≡ 1 → ⊥). rw (ne_eqb (k % 2) 1 other) (omega arith))
    (cases_eq (k % 2) 1)

pub qe-read : (k qe : ℕ) (x : Context) → qe ≡ (qe_row (k / 2)).qe → context_in_state k ≡ x → (qe_row x.row).qe ≡ qe
qe-read k qe x e h = ap (λ (z : Context). (qe_row z.row).qe) (sym h) ∙ sym e
