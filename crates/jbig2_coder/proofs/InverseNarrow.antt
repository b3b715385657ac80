-- A decision narrows the interval to its upper or its lower part, and the decoder that finds itself in that part
-- makes the same decision.
use Rattle.std.proofs.Common.{◌≡◌, ℕ, ◌+◌, ◌-◌, ◌*◌, ◌/◌, ◌%◌, ◌^◌, ◌<◌, ◌≤◌, Bool, true, false, not, refl, ◌∙◌, arith, ⊎_elim, ◌⊎◌, inl, inr}
use mathlib.Core.Bool.{beq}
use Rattle.std.proofs.lemmas.Bool.{cases_lt, cases_Bool}
use Rattle.jbig2_coder.specs.QeTable.{qe_row}
use Rattle.jbig2_coder.specs.Coder.{Context, Choice, choice, likely_next, unlikely_next}
use Rattle.jbig2_coder.specs.Encoder.{narrowed_interval}
use Rattle.jbig2_coder.proofs.Rows.{IsRow, row_of-is_row}
use Rattle.jbig2_coder.proofs.Encoders.{narrowed-quiet, narrowed-likely_lower, narrowed-likely_upper, narrowed-unlikely_upper, narrowed-unlikely_lower}
use Rattle.jbig2_coder.proofs.Choices.{choice-quiet, choice-upper_unlikely, choice-upper_likely, choice-lower_likely, choice-lower_unlikely}

-- an interval of length b from c2 on, as a part of the one of length a from c on
pub record Upper (x : Context) (d : Bool) (a c b c2 : ℕ) (y : Context) (renorm : Bool) : Type 0 where
  pub top : c2 + b ≡ c + a
  pub chosen : (r : ℕ) → r / 2 ^ 16 < b → choice x a r ≡ record { symbol = d; a = b; c = r; context = y; renorm = renorm }

pub record Lower (x : Context) (d : Bool) (a c b c2 : ℕ) (y : Context) (renorm : Bool) : Type 0 where
  pub upper : ℕ
  pub bottom : c2 ≡ c
  pub whole : b + upper ≡ a
  pub chosen : (r : ℕ) → upper ≤ r / 2 ^ 16
      → choice x a r ≡ record { symbol = d; a = b; c = (r + (2 ^ 32 - upper * 2 ^ 16)) % 2 ^ 32; context = y; renorm = renorm }

-- What a decision d makes of A and C in a context x.
pub record Narrowing (x : Context) (d : Bool) (a c : ℕ) : Type 0 where
  pub range : ℕ
  pub register : ℕ
  pub next : Context
  pub renorm : Bool
  pub is : narrowed_interval x d a c ≡ record { range = range; register = register; context = next; renorm = renorm }
  pub some : 1 ≤ range
  pub low : c ≤ register
  pub high : register + range ≤ c + a
  pub below : range < 0x10000
  pub quiet : renorm ≡ false → (0x8000 ≤ range) × (range < a)
  pub moves : renorm ≡ true → range < 0x8000
  pub part : Upper x d a c range register next renorm ⊎ Lower x d a c range register next renorm

beq-same : (d e : Bool) → beq d e ≡ true → e ≡ d
beq-same true true h = refl
beq-same true false h = cc
beq-same false true h = cc
beq-same false false h = refl

beq-other : (d e : Bool) → beq d e ≡ false → not e ≡ d
beq-other true true h = cc
beq-other true false h = refl
beq-other false true h = refl
beq-other false false h = cc

-- the symbol of a choice under another name
named : (z : Choice) (s d : Bool) (b r : ℕ) (y : Context) (renorm : Bool) → s ≡ d
    → z ≡ record { symbol = s; a = b; c = r; context = y; renorm = renorm }
    → z ≡ record { symbol = d; a = b; c = r; context = y; renorm = renorm }
named z s d b r y renorm e h = h ∙ (λ i. record { symbol = e i; a = b; c = r; context = y; renorm = renorm })

likely-quiet : (x : Context) (d : Bool) (a c : ℕ) → beq d x.likely ≡ true → a < 0x10000
    → 0x8000 ≤ a - (qe_row x.row).qe → Narrowing x d a c
likely-quiet x d a c e below h =
    let q : ℕ = (qe_row x.row).qe in
    let i : IsRow (qe_row x.row) = row_of-is_row x.row in
    record {
      range = a - q;
      register = c + q;
      next = x;
      renorm = false;
      is = narrowed-quiet x d a c q e refl h;
      some = omega arith;
      low = omega arith;
      high = omega arith;
      below = omega arith;
      quiet = λ _. (h, omega (arith, i.some));
      moves = λ f. cc;
      part = inl (record {
        top = omega arith;
        chosen = λ r k. named _ x.likely d _ _ _ _ (beq-same d x.likely e) (choice-quiet x a r q refl k h);
      });
    }

-- a decision that takes the lower part, and one that takes the upper part, where A is renormalized
takes-lower : (x : Context) (d : Bool) (a c : ℕ) (y : Context) → 0x8000 ≤ a → a < 0x10000
    → narrowed_interval x d a c ≡ record { range = (qe_row x.row).qe; register = c; context = y; renorm = true }
    → ((r : ℕ) → a - (qe_row x.row).qe ≤ r / 2 ^ 16
    → choice x a r ≡ record { symbol = d; a = (qe_row x.row).qe; c = (r + (2 ^ 32 - (a - (qe_row x.row).qe) * 2 ^ 16)) % 2 ^ 32; context = y; renorm = true })
    → Narrowing x d a c
takes-lower x d a c y normal below is chosen =
    let q : ℕ = (qe_row x.row).qe in
    let i : IsRow (qe_row x.row) = row_of-is_row x.row in
    record {
      range = q;
      register = c;
      next = y;
      renorm = true;
      is = is;
      some = i.some;
      low = omega arith;
      high = omega (arith, i.half);
      below = omega (arith, i.half);
      quiet = λ f. cc;
      moves = λ _. omega (arith, i.half);
      part = inr (record { upper = a - q; bottom = refl; whole = omega (arith, i.half); chosen = chosen });
    }

takes-upper : (x : Context) (d : Bool) (a c : ℕ) (y : Context) → 0x8000 ≤ a → a < 0x10000 → a - (qe_row x.row).qe < 0x8000
    → narrowed_interval x d a c ≡ record { range = a - (qe_row x.row).qe; register = c + (qe_row x.row).qe; context = y; renorm = true }
    → ((r : ℕ) → r / 2 ^ 16 < a - (qe_row x.row).qe
    → choice x a r ≡ record { symbol = d; a = a - (qe_row x.row).qe; c = r; context = y; renorm = true })
    → Narrowing x d a c
takes-upper x d a c y normal below h is chosen =
    let q : ℕ = (qe_row x.row).qe in
    let i : IsRow (qe_row x.row) = row_of-is_row x.row in
    record {
      range = a - q;
      register = c + q;
      next = y;
      renorm = true;
      is = is;
      some = omega (arith, i.half);
      low = omega arith;
      high = omega (arith, i.half);
      below = omega arith;
      quiet = λ f. cc;
      moves = λ _. h;
      part = inl (record { top = omega (arith, i.half); chosen = chosen });
    }

likely-lower : (x : Context) (d : Bool) (a c : ℕ) → beq d x.likely ≡ true → 0x8000 ≤ a → a < 0x10000
    → a - (qe_row x.row).qe < 0x8000 → a - (qe_row x.row).qe < (qe_row x.row).qe → Narrowing x d a c
likely-lower x d a c e normal below h k =
    let q : ℕ = (qe_row x.row).qe in
    takes-lower x d a c (likely_next x) normal below (narrowed-likely_lower x d a c q e refl h k)
    (λ r l. named _ x.likely d _ _ _ _ (beq-same d x.likely e) (choice-lower_likely x a r q refl l k))

likely-upper : (x : Context) (d : Bool) (a c : ℕ) → beq d x.likely ≡ true → 0x8000 ≤ a → a < 0x10000
    → a - (qe_row x.row).qe < 0x8000 → (qe_row x.row).qe ≤ a - (qe_row x.row).qe → Narrowing x d a c
likely-upper x d a c e normal below h k =
    let q : ℕ = (qe_row x.row).qe in
    takes-upper x d a c (likely_next x) normal below h (narrowed-likely_upper x d a c q e refl h k)
    (λ r l. named _ x.likely d _ _ _ _ (beq-same d x.likely e) (choice-upper_likely x a r q refl l h k))

unlikely-upper : (x : Context) (d : Bool) (a c : ℕ) → beq d x.likely ≡ false → 0x8000 ≤ a → a < 0x10000
    → a - (qe_row x.row).qe < (qe_row x.row).qe → Narrowing x d a c
unlikely-upper x d a c e normal below k =
    let q : ℕ = (qe_row x.row).qe in
    let i : IsRow (qe_row x.row) = row_of-is_row x.row in
    let h : a - q < 0x8000 = omega (arith, i.half) in
    takes-upper x d a c (unlikely_next x) normal below h (narrowed-unlikely_upper x d a c q e refl k)
    (λ r l. named _ (not x.likely) d _ _ _ _ (beq-other d x.likely e) (choice-upper_unlikely x a r q refl l h k))

unlikely-lower : (x : Context) (d : Bool) (a c : ℕ) → beq d x.likely ≡ false → 0x8000 ≤ a → a < 0x10000
    → (qe_row x.row).qe ≤ a - (qe_row x.row).qe → Narrowing x d a c
unlikely-lower x d a c e normal below k =
    let q : ℕ = (qe_row x.row).qe in
    takes-lower x d a c (unlikely_next x) normal below (narrowed-unlikely_lower x d a c q e refl k)
    (λ r l. named _ (not x.likely) d _ _ _ _ (beq-other d x.likely e) (choice-lower_unlikely x a r q refl l k))

pub narrowing : (x : Context) (d : Bool) (a c : ℕ) → 0x8000 ≤ a → a < 0x10000 → Narrowing x d a c
narrowing x d a c normal below =
    let q : ℕ = (qe_row x.row).qe in
    ⊎_elim
    (λ (e : beq d x.likely ≡ true). ⊎_elim
    (λ (h : a - q < 0x8000). ⊎_elim
    (λ (k : a - q < q). likely-lower x d a c e normal below h k)
    (λ (k : q ≤ a - q). likely-upper x d a c e normal below h k)
    (cases_lt (a - q) q))
    (λ (h : 0x8000 ≤ a - q). likely-quiet x d a c e below h)
    (cases_lt (a - q) 0x8000))
    (λ (e : beq d x.likely ≡ false). ⊎_elim
    (λ (k : a - q < q). unlikely-upper x d a c e normal below k)
    (λ (k : q ≤ a - q). unlikely-lower x d a c e normal below k)
    (cases_lt (a - q) q))
    (cases_Bool (beq d x.likely))
