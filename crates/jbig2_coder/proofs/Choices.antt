-- The paths through a decision, and the bytes that are read.
use Rattle.std.proofs.Common.{◌≡◌, ◌≢◌, ℕ, ◌+◌, ◌-◌, ◌*◌, ◌/◌, ◌%◌, ◌^◌, ◌<◌, ◌≤◌, Bool, true, false, not, cond, leb, ltb, List, length, refl, sym, ap, ◌∙◌, arith, ⊎_elim}
use Rattle.std.specs.Bool.{beq}
use Rattle.std.proofs.lemmas.Bool.{cases_lt, cond-true, cond-false, le-leb, lt-leb, le-ltb, lt-ltb}
use Rattle.std.proofs.lemmas.Bool.Decides.{nat_tests}
use Rattle.std.proofs.lemmas.List.{get_or_past}
use Rattle.jbig2_coder.specs.QeTable.{qe_row}
use Rattle.jbig2_coder.specs.Coder.{Context, byte_at, byte_in, choice, likely_next, unlikely_next}

pub byte_at-inside : (bytes : List ℕ) (place : ℕ) → byte_at bytes place ≢ 0xFF → place < length bytes
unfolding byte_at
byte_at-inside bytes place h =
    ⊎_elim (λ (l : place < length bytes). l) (λ (l : length bytes ≤ place). absurd (h (get_or_past bytes place 0xFF l))) (cases_lt place (length bytes))

-- the code takes the rows from the table at its own places, so the probability is a variable here
pub choice-quiet : (x : Context) (a c qe : ℕ) → (qe_row x.row).qe ≡ qe → c / 2 ^ 16 < a - qe → 0x8000 ≤ a - qe
    → choice x a c ≡ record { symbol = x.likely; a = a - qe; c = c; context = x; renorm = false }
unfolding choice
choice-quiet x a c qe e h n = grind (arith, nat_tests)

pub choice-upper_unlikely : (x : Context) (a c qe : ℕ) → (qe_row x.row).qe ≡ qe → c / 2 ^ 16 < a - qe → a - qe < 0x8000 → a - qe < qe
    → choice x a c ≡ record { symbol = not x.likely; a = a - qe; c = c; context = unlikely_next x; renorm = true }
unfolding choice
choice-upper_unlikely x a c qe e h n k = grind (arith, nat_tests)

pub choice-upper_likely : (x : Context) (a c qe : ℕ) → (qe_row x.row).qe ≡ qe → c / 2 ^ 16 < a - qe → a - qe < 0x8000 → qe ≤ a - qe
    → choice x a c ≡ record { symbol = x.likely; a = a - qe; c = c; context = likely_next x; renorm = true }
unfolding choice
choice-upper_likely x a c qe e h n k = grind (arith, nat_tests)

pub choice-lower_likely : (x : Context) (a c qe : ℕ) → (qe_row x.row).qe ≡ qe → a - qe ≤ c / 2 ^ 16 → a - qe < qe
    → choice x a c ≡ record { symbol = x.likely; a = qe; c = (c + (2 ^ 32 - (a - qe) * 2 ^ 16)) % 2 ^ 32; context = likely_next x; renorm = true }
unfolding choice
choice-lower_likely x a c qe e h k = grind (arith, nat_tests)

pub choice-lower_unlikely : (x : Context) (a c qe : ℕ) → (qe_row x.row).qe ≡ qe → a - qe ≤ c / 2 ^ 16 → qe ≤ a - qe
    → choice x a c ≡ record { symbol = not x.likely; a = qe; c = (c + (2 ^ 32 - (a - qe) * 2 ^ 16)) % 2 ^ 32; context = unlikely_next x; renorm = true }
unfolding choice
choice-lower_unlikely x a c qe e h k = grind (arith, nat_tests)

-- the four together: whether the lower part of the interval is taken, and whether that is the unlikely symbol's
pub choice-renorm : (x y : Context) (a c qe size below : ℕ) (symbol : Bool) → (qe_row x.row).qe ≡ qe → c < 2 ^ 32 → a < 0x10000
    → (c / 2 ^ 16 < a - qe → a - qe < 0x8000)
    → (c / 2 ^ 16 < a - qe → size ≡ a - qe) → (a - qe ≤ c / 2 ^ 16 → size ≡ qe)
    → (c / 2 ^ 16 < a - qe → below ≡ 0) → (a - qe ≤ c / 2 ^ 16 → below ≡ (a - qe) * 2 ^ 16 % 2 ^ 32)
    → y ≡ cond (not (beq (leb (a - qe) (c / 2 ^ 16)) (ltb (a - qe) qe))) (unlikely_next x) (likely_next x)
    → symbol ≡ cond (not (beq (leb (a - qe) (c / 2 ^ 16)) (ltb (a - qe) qe))) (not x.likely) x.likely
    → choice x a c ≡ record { symbol = symbol; a = size; c = (c + (2 ^ 32 - below)) % 2 ^ 32; context = y; renorm = true }
choice-renorm x y a c qe size below symbol e small short half upper_size lower_size upper_below lower_below context named =
    let unlikely : Bool = not (beq (leb (a - qe) (c / 2 ^ 16)) (ltb (a - qe) qe)) in
    ⊎_elim
    (λ (upper : c / 2 ^ 16 < a - qe).
    let kept : (c + (2 ^ 32 - below)) % 2 ^ 32 ≡ c = omega (arith, upper_below upper, small) in
    ⊎_elim
    (λ (low : a - qe < qe).
    let is : unlikely ≡ true = rw (lt-leb _ _ upper, lt-ltb _ _ low) refl in
    choice-upper_unlikely x a c qe e upper (half upper) low
    ∙ (λ i. record { symbol = sym (named ∙ cond-true unlikely (not x.likely) x.likely is) i; a = sym (upper_size upper) i; c = sym kept i; context = sym (context ∙ cond-true unlikely (unlikely_next x) (likely_next x) is) i; renorm = true }))
    (λ (high : qe ≤ a - qe).
    let is : unlikely ≡ false = rw (lt-leb _ _ upper, le-ltb _ _ high) refl in
    choice-upper_likely x a c qe e upper (half upper) high
    ∙ (λ i. record { symbol = sym (named ∙ cond-false unlikely (not x.likely) x.likely is) i; a = sym (upper_size upper) i; c = sym kept i; context = sym (context ∙ cond-false unlikely (unlikely_next x) (likely_next x) is) i; renorm = true }))
    (cases_lt (a - qe) qe))
    (λ (lower : a - qe ≤ c / 2 ^ 16).
    let moved : (c + (2 ^ 32 - below)) % 2 ^ 32 ≡ (c + (2 ^ 32 - (a - qe) * 2 ^ 16)) % 2 ^ 32 = omega (arith, lower_below lower, short) in
    ⊎_elim
    (λ (low : a - qe < qe).
    let is : unlikely ≡ false = rw (le-leb _ _ lower, lt-ltb _ _ low) refl in
    choice-lower_likely x a c qe e lower low
    ∙ (λ i. record { symbol = sym (named ∙ cond-false unlikely (not x.likely) x.likely is) i; a = sym (lower_size lower) i; c = sym moved i; context = sym (context ∙ cond-false unlikely (unlikely_next x) (likely_next x) is) i; renorm = true }))
    (λ (high : qe ≤ a - qe).
    let is : unlikely ≡ true = rw (le-leb _ _ lower, le-ltb _ _ high) refl in
    choice-lower_unlikely x a c qe e lower high
    ∙ (λ i. record { symbol = sym (named ∙ cond-true unlikely (not x.likely) x.likely is) i; a = sym (lower_size lower) i; c = sym moved i; context = sym (context ∙ cond-true unlikely (unlikely_next x) (likely_next x) is) i; renorm = true }))
    (cases_lt (a - qe) qe))
    (cases_lt (c / 2 ^ 16) (a - qe))

-- the same, by what the less likely symbol leaves of A and by the upper half of C
pub choice-part : (x y : Context) (rest qe high size below c : ℕ) (symbol : Bool) → (qe_row x.row).qe ≡ qe → c < 2 ^ 32 → c / 2 ^ 16 ≡ high → rest + qe < 0x10000
    → (high < rest → rest < 0x8000) → (high < rest → size ≡ rest) → (rest ≤ high → size ≡ qe) → (high < rest → below ≡ 0) → (rest ≤ high → below ≡ rest)
    → y ≡ cond (not (beq (leb rest high) (ltb rest qe))) (unlikely_next x) (likely_next x)
    → symbol ≡ cond (not (beq (leb rest high) (ltb rest qe))) (not x.likely) x.likely
    → choice x (rest + qe) c ≡ record { symbol = symbol; a = size; c = c - below * 2 ^ 16; context = y; renorm = true }
choice-part x y rest qe high size below c symbol e small at room half upper_size lower_size upper_below lower_below context named =
    let left : rest + qe - qe ≡ rest = omega arith in
    let inside : below ≤ c / 2 ^ 16 = ⊎_elim (λ (upper : high < rest). omega (arith, upper_below upper)) (λ (lower : rest ≤ high). omega (arith, lower_below lower, at)) (cases_lt high rest) in
    let moved : (c + (2 ^ 32 - below * 2 ^ 16)) % 2 ^ 32 ≡ c - below * 2 ^ 16 = omega (arith, inside, small) in
    choice-renorm x y (rest + qe) c qe size (below * 2 ^ 16) symbol e small room
    (λ u. omega (arith, half (omega (arith, u, at)))) (λ u. upper_size (omega (arith, u, at)) ∙ sym left) (λ u. lower_size (omega (arith, u, at)))
    (λ u. ap (λ (n : ℕ). n * 2 ^ 16) (upper_below (omega (arith, u, at)))) (λ u. omega (arith, lower_below (omega (arith, u, at)), room))
    (rw (left, at) context) (rw (left, at) named)
    ∙ (λ i. record { symbol = symbol; a = size; c = moved i; context = y; renorm = true })

-- the paths of BYTEIN
pub byte_in-marker : (bytes : List ℕ) (c place : ℕ) → byte_at bytes place ≡ 0xFF → 0x8F < byte_at bytes (place + 1)
    → byte_in bytes c place ≡ record { c = c; ct = 8; place = place }
unfolding byte_in
byte_in-marker bytes c place e h = grind (arith, nat_tests)

pub byte_in-stuffed : (bytes : List ℕ) (c place : ℕ) → byte_at bytes place ≡ 0xFF → byte_at bytes (place + 1) ≤ 0x8F
    → byte_in bytes c place ≡ record { c = (c + (2 ^ 32 + 0xFE00 - byte_at bytes (place + 1) * 2 ^ 9)) % 2 ^ 32; ct = 7; place = place + 1 }
unfolding byte_in
byte_in-stuffed bytes c place e h = grind (arith, nat_tests)

pub byte_in-plain : (bytes : List ℕ) (c place : ℕ) → byte_at bytes place ≢ 0xFF
    → byte_in bytes c place ≡ record { c = (c + (0xFF00 - byte_at bytes (place + 1) * 2 ^ 8)) % 2 ^ 32; ct = 8; place = place + 1 }
unfolding byte_in
byte_in-plain bytes c place e = grind (arith, nat_tests)
