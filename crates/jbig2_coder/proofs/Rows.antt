-- What holds of every row of the table of states.
use Rattle.std.proofs.Common.{◌≡◌, ℕ, ◌<◌, ◌≤◌, Bool, true, ◌&&◌, ltb, leb, refl, ap, ⊎_elim}
use Rattle.std.proofs.lemmas.Bool.{agree_below_at, and_parts, ltb-true, leb-true, cases_lt}
use Rattle.std.proofs.lemmas.List.{get_or_past}
use Rattle.jbig2_coder.specs.QeTable.{QeData, rows, qe_row}

pub record IsRow (row : QeData) : Type 0 where
  pub some : 1 ≤ row.qe
  pub half : row.qe ≤ 0x5601
  pub nmps : row.nmps < 47
  pub nlps : row.nlps < 47

is_row : QeData → Bool
is_row row = leb 1 row.qe && (leb row.qe 0x5601 && (ltb row.nmps 47 && ltb row.nlps 47))

test_at : (k : ℕ) → k < 47 → is_row (qe_row k) ≡ true
unfolding is_row rows qe_row
test_at k h = agree_below_at (λ i. is_row (qe_row i)) (λ _. true) 47 k refl h

test_past : (k : ℕ) → 47 ≤ k → is_row (qe_row k) ≡ true
unfolding is_row rows qe_row
test_past k h = ap is_row (get_or_past rows k _ h)

IsRow-test : (row : QeData) → is_row row ≡ true → IsRow row
unfolding is_row
IsRow-test row h =
    let p = and_parts (leb 1 row.qe) (leb row.qe 0x5601 && (ltb row.nmps 47 && ltb row.nlps 47)) h in
    let q = and_parts (leb row.qe 0x5601) (ltb row.nmps 47 && ltb row.nlps 47) p.1 in
    let r = and_parts (ltb row.nmps 47) (ltb row.nlps 47) q.1 in
    record { some = leb-true _ _ p.0; half = leb-true _ _ q.0; nmps = ltb-true _ _ r.0; nlps = ltb-true _ _ r.1 }

pub row_of-is_row : (k : ℕ) → IsRow (qe_row k)
row_of-is_row k =
    ⊎_elim (λ (h : k < 47). IsRow-test (qe_row k) (test_at k h)) (λ (h : 47 ≤ k). IsRow-test (qe_row k) (test_past k h)) (cases_lt k 47)
