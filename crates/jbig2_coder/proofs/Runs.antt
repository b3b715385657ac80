-- Quiet runs: how far A may fall.
use Rattle.std.proofs.Common.{◌≡◌, ℕ, zero, suc, ◌+◌, ◌-◌, ◌*◌, ◌/◌, ◌^◌, ◌<◌, ◌≤◌, max, Bool, true, false, not, cond, List, refl, sym, ap, ◌∙◌, arith, ⊎_elim}
use Rattle.std.proofs.Math.Nat.{mul-le-mul, mul-le-mul_left}
use Rattle.std.proofs.lemmas.Bool.{cases_lt, and_from, and_left, and_right, true≢false}
use Rattle.std.proofs.lemmas.Bool.Decides.{nat_tests}
use Rattle.jbig2_coder.specs.inner.Ahead.{floor_of}
use Rattle.jbig2_coder.specs.QeTable.{qe_row}
use Rattle.jbig2_coder.specs.Coder.{Context, Registers, choice, decision, is_quiet, all_quiet}
use Rattle.jbig2_coder.proofs.Choices.{choice-quiet}
use Rattle.jbig2_coder.proofs.Decisions.{decision-quiet}

choice-loud : (x : Context) (a c qe : ℕ) → (qe_row x.row).qe ≡ qe → a - qe < max (c / 2 ^ 16 + 1) 0x8000 → (choice x a c).renorm ≡ true
unfolding choice
choice-loud x a c qe e h = grind (arith, nat_tests)

likely-same : (b : Bool) → cond b b (not b) ≡ true
likely-same true = refl
likely-same false = refl

pub is_quiet-yes : (s : Registers) (x : Context) (qe : ℕ) → (qe_row x.row).qe ≡ qe → floor_of s.code.c ≤ s.a - qe → is_quiet s x ≡ true
unfolding is_quiet
is_quiet-yes s x qe e h = rw (choice-quiet x s.a s.code.c qe e (omega arith) (omega arith)) (and_from _ _ (likely-same x.likely) refl)

pub is_quiet-no : (s : Registers) (x : Context) (qe : ℕ) → (qe_row x.row).qe ≡ qe → s.a - qe < floor_of s.code.c → is_quiet s x ≡ false
unfolding is_quiet
is_quiet-no s x qe e h = and_right _ _ (ap not (choice-loud x s.a s.code.c qe e h))

-- one decision of a run
fallen : ℕ → Registers → Registers
fallen qe s = record { a = s.a - qe; code = s.code }

all_quiet-more : (n : ℕ) (bytes : List ℕ) (s : Registers) (x : Context) (qe : ℕ) → (qe_row x.row).qe ≡ qe → floor_of s.code.c ≤ s.a - qe
    → all_quiet (suc n) bytes s x ≡ all_quiet n bytes (fallen qe s) x
unfolding all_quiet fallen
all_quiet-more n bytes s x qe e h =
    let q = is_quiet-yes s x qe e h in
    let d = decision-quiet bytes s x qe e (omega arith) (omega arith) in
    rw (q, d) refl

all_quiet-stop : (n : ℕ) (bytes : List ℕ) (s : Registers) (x : Context) (qe : ℕ) → (qe_row x.row).qe ≡ qe → s.a - qe < floor_of s.code.c
    → all_quiet (suc n) bytes s x ≡ false
unfolding all_quiet
all_quiet-stop n bytes s x qe e h = and_left _ _ (is_quiet-no s x qe e h)

pub run-yes : (n : ℕ) (bytes : List ℕ) (s : Registers) (x : Context) (qe : ℕ) → (qe_row x.row).qe ≡ qe → floor_of s.code.c + qe * n ≤ s.a
    → all_quiet n bytes s x ≡ true
unfolding all_quiet fallen
run-yes zero bytes s x qe e h = refl
run-yes (suc n) bytes s x qe e h =
    all_quiet-more n bytes s x qe e (omega arith) ∙ run-yes n bytes (fallen qe s) x qe e (omega arith)

pub run-no : (n : ℕ) (bytes : List ℕ) (s : Registers) (x : Context) (qe : ℕ) → (qe_row x.row).qe ≡ qe → 1 ≤ qe → 1 ≤ n → s.a < floor_of s.code.c + qe * n
    → all_quiet n bytes s x ≡ false
unfolding fallen
run-no zero bytes s x qe e some more h = absurd (omega arith)
run-no (suc zero) bytes s x qe e some more h = all_quiet-stop 0 bytes s x qe e (omega arith)
run-no (suc (suc n)) bytes s x qe e some more h =
    ⊎_elim
    (λ (l : s.a - qe < floor_of s.code.c). all_quiet-stop (suc n) bytes s x qe e l)
    (λ (l : floor_of s.code.c ≤ s.a - qe).
    all_quiet-more (suc n) bytes s x qe e l ∙ run-no (suc n) bytes (fallen qe s) x qe e some (omega arith) (omega arith))
    (cases_lt (s.a - qe) (floor_of s.code.c))

-- What a quiet decision does.
pub is_quiet-decision : (bytes : List ℕ) (s : Registers) (x : Context) → is_quiet s x ≡ true
    → decision bytes s x ≡ record { symbol = x.likely; registers = record { a = s.a - (qe_row x.row).qe; code = s.code }; context = x }
is_quiet-decision bytes s x h =
    ⊎_elim
    (λ (l : s.a - (qe_row x.row).qe < floor_of s.code.c). absurd (true≢false (sym h ∙ is_quiet-no s x (qe_row x.row).qe refl l)))
    (λ (l : floor_of s.code.c ≤ s.a - (qe_row x.row).qe). decision-quiet bytes s x (qe_row x.row).qe refl (omega arith) (omega arith))
    (cases_lt (s.a - (qe_row x.row).qe) (floor_of s.code.c))

-- ---- groups of decisions, by the room that A has above its floor
pub groups-yes : (count n : ℕ) (bytes : List ℕ) (s : Registers) (x : Context) (qe total room : ℕ) → (qe_row x.row).qe ≡ qe → total ≡ qe * count → room ≡ s.a - floor_of s.code.c → 1 ≤ total → total * n ≤ room → all_quiet (count * n) bytes s x ≡ true
unfolding all_quiet
groups-yes count zero bytes s x qe total room e all is some h =
    let none : count * 0 ≡ 0 = omega arith in
    ap (λ (k : ℕ). all_quiet k bytes s x) none
groups-yes count (suc n) bytes s x qe total room e all is some h =
    let product : qe * (count * suc n) ≡ total * suc n = rw all (omega arith) in
    let next : 1 ≤ suc n = omega arith in
    let one : 1 * 1 ≤ total * suc n = mul-le-mul some next in
    run-yes (count * suc n) bytes s x qe e (omega arith)

pub groups-no : (count n : ℕ) (bytes : List ℕ) (s : Registers) (x : Context) (qe total room : ℕ) → (qe_row x.row).qe ≡ qe → 1 ≤ qe → 1 ≤ count → total ≡ qe * count → room ≡ s.a - floor_of s.code.c → room < total * (n + 1) → all_quiet (count * (n + 1)) bytes s x ≡ false
groups-no count n bytes s x qe total room e some counted all is h =
    let product : qe * (count * (n + 1)) ≡ total * (n + 1) = rw all (omega arith) in
    let next : 1 ≤ n + 1 = omega arith in
    let more : 1 * 1 ≤ count * (n + 1) = mul-le-mul counted next in
    run-no (count * (n + 1)) bytes s x qe e some (omega arith) (omega arith)

-- a product of bounded numbers
pub groups-fit : (qe count most : ℕ) → qe ≤ 0x5601 → 1 ≤ most → count * most ≤ 65535 → (qe * count ≤ 0x5601 * 65535) × (qe * count * most ≤ 0x5601 * 65535)
groups-fit qe count most half some few =
    let all : qe * (count * most) ≤ 0x5601 * 65535 = mul-le-mul half few in
    let one : qe * count * 1 ≤ qe * count * most = mul-le-mul_left (qe * count) some in
    (omega arith, omega arith)

pub groups-some : (qe count : ℕ) → 1 ≤ qe → 1 ≤ count → 1 ≤ qe * count
groups-some qe count one two =
    let product : 1 * 1 ≤ qe * count = mul-le-mul one two in
    omega arith

pub groups-fall : (qe count n read : ℕ) → qe ≡ read → qe * count * n ≡ count * n * read
groups-fall qe count n read e = rw e (omega arith)
