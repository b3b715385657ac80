-- What a row of the coder's table is worth: the shifts that its next decisions may take beyond six for each. A decision
-- that takes more leads to a row that is worth less, and no row is worth less than row 0.
use Rattle.std.proofs.Common.{◌≡◌, ℕ, ◌+◌, ◌-◌, ◌*◌, ◌^◌, ◌<◌, ◌≤◌, Bool, true, ◌&&◌, leb, List, [], ◌∷◌, get_or, refl, ap, ◌∙◌, ⊎_elim}
use Rattle.std.proofs.lemmas.Bool.{agree_below_at, and_parts, leb-true, cases_lt}
use Rattle.std.proofs.lemmas.List.{get_or_past}
use Rattle.jbig2_coder.specs.QeTable.{QeData, rows, qe_row}

credits : List ℕ
credits =
    0 ∷ 0 ∷ 0 ∷ 0 ∷ 0 ∷ 0 ∷ 0 ∷ 0 ∷ 0 ∷ 0 ∷ 0 ∷ 0 ∷ 0 ∷ 0 ∷ 0 ∷ 0 ∷ 0 ∷ 0 ∷ 0 ∷ 0 ∷ 0 ∷ 0 ∷ 0 ∷ 0 ∷ 0 ∷ 0 ∷ 0 ∷ 0 ∷ 0 ∷ 0 ∷ 0 ∷ 0 ∷ 0 ∷ 0
    ∷ 0 ∷ 0 ∷ 0 ∷ 1 ∷ 1 ∷ 3 ∷ 4 ∷ 7 ∷ 9 ∷ 13 ∷ 17 ∷ 22 ∷ 0 ∷ []

pub credit : ℕ → ℕ
credit k = get_or credits k 0

pub first-credit : credit 0 ≡ 0
unfolding credit credits
first-credit = refl

-- how many shifts the unlikely symbol may take
all_shifts : List ℕ
all_shifts =
    2 ∷ 2 ∷ 3 ∷ 4 ∷ 5 ∷ 6 ∷ 2 ∷ 2 ∷ 2 ∷ 2 ∷ 2 ∷ 2 ∷ 3 ∷ 3 ∷ 2 ∷ 2 ∷ 2 ∷ 2 ∷ 2 ∷ 2 ∷ 2 ∷ 2 ∷ 2 ∷ 2 ∷ 3 ∷ 3 ∷ 3 ∷ 3 ∷ 3 ∷ 3 ∷ 4 ∷ 4 ∷ 4 ∷ 5
    ∷ 5 ∷ 6 ∷ 6 ∷ 7 ∷ 7 ∷ 8 ∷ 9 ∷ 10 ∷ 11 ∷ 12 ∷ 13 ∷ 15 ∷ 2 ∷ []

shifts_of : ℕ → ℕ
shifts_of k = get_or all_shifts k 2

pub record Costs (k : ℕ) : Type 0 where
  pub shifts : ℕ
  pub few : shifts ≤ 15
  pub lower : 0x8000 ≤ (qe_row k).qe * 2 ^ shifts
  pub upper : 0x8000 ≤ (0x8000 - (qe_row k).qe) * 2 ^ shifts
  pub unlikely : shifts + credit (qe_row k).nlps ≤ 6 + credit k
  pub likely : credit (qe_row k).nmps ≤ 5 + credit k

holds : QeData → ℕ → ℕ → Bool
holds row n worth =
    leb n 15 && (leb 0x8000 (row.qe * 2 ^ n) && (leb 0x8000 ((0x8000 - row.qe) * 2 ^ n) && (leb (n + credit row.nlps) (6 + worth) && leb (credit row.nmps) (5 + worth))))

test_at : (k : ℕ) → k < 47 → holds (qe_row k) (shifts_of k) (credit k) ≡ true
unfolding holds credit credits shifts_of all_shifts rows qe_row
test_at k h = agree_below_at (λ i. holds (qe_row i) (shifts_of i) (credit i)) (λ _. true) 47 k refl h

test_past : (k : ℕ) → 47 ≤ k → holds (qe_row k) (shifts_of k) (credit k) ≡ true
unfolding holds credit credits shifts_of all_shifts rows qe_row
test_past k h =
    ap (λ (row : QeData). holds row (shifts_of k) (credit k)) (get_or_past rows k _ h)
    ∙ ap (λ (n : ℕ). holds (qe_row 47) n (credit k)) (get_or_past all_shifts k 2 h)
    ∙ ap (λ (n : ℕ). holds (qe_row 47) 2 n) (get_or_past credits k 0 h)

costs-test : (k : ℕ) → holds (qe_row k) (shifts_of k) (credit k) ≡ true → Costs k
unfolding holds
costs-test k h =
    let row = qe_row k in
    let n = shifts_of k in
    let low : Bool = leb 0x8000 (row.qe * 2 ^ n) in
    let high : Bool = leb 0x8000 ((0x8000 - row.qe) * 2 ^ n) in
    let less : Bool = leb (n + credit row.nlps) (6 + credit k) in
    let more : Bool = leb (credit row.nmps) (5 + credit k) in
    let a = and_parts (leb n 15) (low && (high && (less && more))) h in
    let b = and_parts low (high && (less && more)) a.1 in
    let c = and_parts high (less && more) b.1 in
    let d = and_parts less more c.1 in
    record {
      shifts = n;
      few = leb-true _ _ a.0;
      lower = leb-true _ _ b.0;
      upper = leb-true _ _ c.0;
      unlikely = leb-true _ _ d.0;
      likely = leb-true _ _ d.1;
    }

pub costs : (k : ℕ) → Costs k
costs k = ⊎_elim (λ (h : k < 47). costs-test k (test_at k h)) (λ (h : 47 ≤ k). costs-test k (test_past k h)) (cases_lt k 47)
