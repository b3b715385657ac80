-- Changes, changing elements, modes and rows.
use Rattle.std.proofs.Common.{◌≡◌, ℕ, zero, suc, ◌+◌, ◌-◌, ◌%◌, ◌<◌, ◌≤◌, ◌&&◌, ℤ, pos, negsuc, ◌+ℤ◌, Bool, true, false, not, cond, eqb, leb, List, [], ◌∷◌, ◌++◌, length, Option, Some, None, refl, sym, ap, subst, ◌∙◌, ⊎_elim, arith}
use Rattle.std.specs.Prelude.{filter, unsigned_abs, ◌≤ℤ◌, ◌<ℤ◌}
use Rattle.std.proofs.lemmas.Int.{ints}
use Rattle.std.proofs.lemmas.List.{length-append}
use Rattle.std.proofs.lemmas.List.Elements.{filter-append}
use Rattle.std.proofs.lemmas.Bool.{true≢false, cases_eq, cases_lt, cond-true, cond-false, and_from, and_left, and_right, le-leb, lt-leb, eq-eqb, ne_eqb}
use Rattle.jbig2_base.specs.Grid.{Grid, pixel_at}
use Rattle.jbig2_base.specs.Colour.{IsFirst}
use Rattle.jbig2_base.proofs.GridLemmas.{pixel_at-below}
use Rattle.jbig2_base.proofs.SearchLemmas.{place-is, place-past}
use Rattle.jbig2_mmr.specs.declared.mmr.codes.Mode.{Mode}
use Rattle.jbig2_mmr.specs.declared.mmr.row.Turn.{Turn}
use Rattle.jbig2_base.specs.Search.{place_from}
use Rattle.jbig2_base.specs.Grid.{differ, IsTable}
use Rattle.jbig2_mmr.specs.T6.{left_of, is_change, Head, Step, b1_of, b2_of, run, after_pass, after_runs, after_vertical, place_in, after_mode, next_step, read_code, row_from, row_start, black_at, ◌>>=◌}
use Rattle.jbig2_mmr.specs.T6Codes.{modes}
use Rattle.jbig2_mmr.specs.inner.T6Reading.{row_above, pixels_of_row, IsSpan, IsTurn, ReadRun}
use Rattle.jbig2_mmr.specs.inner.T6Calls.{head_of, ReadStep, ReadRow}

-- ---- parity of changes

odd-sum : (a b : ℕ) → eqb ((a + b) % 2) 1 ≡ differ (eqb (a % 2) 1) (eqb (b % 2) 1)
odd-sum a b =
    ⊎_elim
    (λ (p : a % 2 ≡ 1).
    ⊎_elim (λ (q : b % 2 ≡ 1). ne_eqb ((a + b) % 2) 1 (λ h. omega arith) ∙ sym (ap (λ (t : Bool). differ t (eqb (b % 2) 1)) (eq-eqb (a % 2) 1 p) ∙ ap (λ (t : Bool). differ true t) (eq-eqb (b % 2) 1 q)))
    (λ (q : b % 2 ≡ 1 → ⊥). eq-eqb ((a + b) % 2) 1 (omega arith) ∙ sym (ap (λ (t : Bool). differ t (eqb (b % 2) 1)) (eq-eqb (a % 2) 1 p) ∙ ap (λ (t : Bool). differ true t) (ne_eqb (b % 2) 1 q))) (cases_eq (b % 2) 1))
    (λ (p : a % 2 ≡ 1 → ⊥).
    ⊎_elim (λ (q : b % 2 ≡ 1). eq-eqb ((a + b) % 2) 1 (omega arith) ∙ sym (ap (λ (t : Bool). differ t (eqb (b % 2) 1)) (ne_eqb (a % 2) 1 p) ∙ ap (λ (t : Bool). differ false t) (eq-eqb (b % 2) 1 q)))
    (λ (q : b % 2 ≡ 1 → ⊥). ne_eqb ((a + b) % 2) 1 (λ h. omega arith) ∙ sym (ap (λ (t : Bool). differ t (eqb (b % 2) 1)) (ne_eqb (a % 2) 1 p) ∙ ap (λ (t : Bool). differ false t) (ne_eqb (b % 2) 1 q))) (cases_eq (b % 2) 1))
    (cases_eq (a % 2) 1)

pub changes-both : (xs ys : List ℕ) (x : ℕ) → black_at (xs ++ ys) x ≡ differ (black_at xs x) (black_at ys x)
unfolding black_at
changes-both xs ys x =
    let p = λ (c : ℕ). leb c x in
    ap (λ (l : List ℕ). eqb (length l % 2) 1) (filter-append p xs ys)
    ∙ ap (λ (n : ℕ). eqb (n % 2) 1) (length-append (filter p xs) (filter p ys))
    ∙ odd-sum (length (filter p xs)) (length (filter p ys))

pub change-none : (x : ℕ) → black_at [] x ≡ false
unfolding black_at
change-none x = refl

pub change-one : (c x : ℕ) → black_at (c ∷ []) x ≡ leb c x
unfolding black_at
change-one c x =
    ⊎_elim (λ (h : x < c). ap (λ (t : Bool). eqb (length (cond t (c ∷ []) []) % 2) 1) (lt-leb c x h) ∙ sym (lt-leb c x h))
    (λ (h : c ≤ x). ap (λ (t : Bool). eqb (length (cond t (c ∷ []) []) % 2) 1) (le-leb c x h) ∙ sym (le-leb c x h)) (cases_lt x c)

pub change-two : (c d x : ℕ) → black_at (c ∷ d ∷ []) x ≡ differ (leb c x) (leb d x)
change-two c d x = changes-both (c ∷ []) (d ∷ []) x ∙ ap (λ (t : Bool). differ t (black_at (d ∷ []) x)) (change-one c x) ∙ ap (λ (t : Bool). differ (leb c x) t) (change-one d x)

-- ---- changing elements
pub left-here : (row : ℕ → Bool) (x : ℕ) → 1 ≤ x → left_of row x ≡ row (x - 1)
left-here row zero h = absurd (omega arith)
left-here row (suc x) h = let at : x ≡ suc x - 1 = omega arith in ap row at

differ-same : (a b : Bool) → a ≡ b → differ a b ≡ false
differ-same true b e = ap (λ (t : Bool). not t) (sym e)
differ-same false b e = sym e

differ-not : (a b : Bool) → a ≡ not b → differ a b ≡ true
differ-not true true e = sym e
differ-not true false e = refl
differ-not false true e = refl
differ-not false false e = e

differ-turned : (a b c : Bool) → a ≡ c → b ≡ not c → differ a b ≡ true
differ-turned true b true e f = ap (λ (t : Bool). not t) f
differ-turned true b false e f = absurd (true≢false e)
differ-turned false b true e f = absurd (true≢false (sym e))
differ-turned false b false e f = f

-- b2: the first pixel of the colour after b1
pub b2-is : (row : ℕ → Bool) (black : Bool) (b1 to place : ℕ) → b1 ≤ to → (b1 < to → row b1 ≡ not black) → IsFirst row black b1 to place → place_from (is_change row) (b1 + 1) to ≡ place
unfolding is_change
b2-is row black b1 to place order other first =
    ⊎_elim
    (λ (inside : b1 < to).
    let moved : b1 ≡ place → ⊥ = λ e. not-both black (sym (first.found (omega arith)) ∙ ap row (sym e) ∙ other inside) in
    place-is (is_change row) (b1 + 1) to place (omega arith) (omega (arith, first.after, moved)) first.within
    (λ i a b. differ-same (row i) (left_of row i) (first.before i (omega arith) b ∙ sym (left-here row i (omega arith) ∙ first.before (i - 1) (omega arith) (omega arith))))
    (λ h. differ-turned (row place) (left_of row place) black (first.found h) (left-here row place (omega (arith, first.after, moved)) ∙ first.before (place - 1) (omega (arith, first.after, moved)) (omega (arith, first.after, moved)))))
    (λ (past : to ≤ b1). place-past (is_change row) (b1 + 1) to (omega arith) ∙ omega (arith, first.after, first.within))
    (cases_lt b1 to)
  where
    not-both : (b : Bool) → b ≡ not b → ⊥
    not-both true e = true≢false e
    not-both false e = true≢false (sym e)

-- ---- turns
turn-lt : (c x : ℕ) → x < c → black_at (c ∷ []) x ≡ false
turn-lt c x h = change-one c x ∙ lt-leb c x h

turn-le : (c x : ℕ) → c ≤ x → black_at (c ∷ []) x ≡ true
turn-le c x h = change-one c x ∙ le-leb c x h

differ-right_false : (b : Bool) → differ b false ≡ b
differ-right_false true = refl
differ-right_false false = refl

differ-right_true : (b : Bool) → differ b true ≡ not b
differ-right_true true = refl
differ-right_true false = refl

pub pass-turn : (w : ℕ) (h : Head) (b2 : ℕ) → h.a0 ≤ b2 → b2 ≤ w → IsTurn w h [] b2 (record { a0 = b2; past_start = true; black = h.black })
pass-turn w h b2 forward within = record {
  past_start = refl;
  forward = forward;
  ordered = omega arith;
  inside = within;
  before = λ x a. change-none x;
  between = λ x a b. absurd (omega arith);
  following = λ x a. ap (λ (t : Bool). differ h.black t) (change-none x) ∙ differ-right_false h.black;
}

pub vertical-turn : (w : ℕ) (h : Head) (a1 : ℕ) → h.a0 ≤ a1 → a1 ≤ w → IsTurn w h (a1 ∷ []) a1 (record { a0 = a1; past_start = true; black = not h.black })
vertical-turn w h a1 forward within = record {
  past_start = refl;
  forward = forward;
  ordered = omega arith;
  inside = within;
  before = λ x a. turn-lt a1 x a;
  between = λ x a b. absurd (omega arith);
  following = λ x a. ap (λ (t : Bool). differ h.black t) (turn-le a1 x a) ∙ differ-right_true h.black;
}

pub runs-turn : (w : ℕ) (h : Head) (r s : ℕ) → h.a0 + r + s ≤ w → IsTurn w h ((h.a0 + r) ∷ (h.a0 + r + s) ∷ []) (h.a0 + r) (record { a0 = h.a0 + r + s; past_start = true; black = h.black })
runs-turn w h r s within =
    let c : ℕ = h.a0 + r in
    let d : ℕ = h.a0 + r + s in
    record {
      past_start = refl;
      forward = omega arith;
      ordered = omega arith;
      inside = within;
      before = λ x a. change-two c d x ∙ ap (λ (t : Bool). differ t (leb d x)) (lt-leb c x a) ∙ lt-leb d x (omega arith);
      between = λ x a b. change-two c d x ∙ ap (λ (t : Bool). differ t (leb d x)) (le-leb c x a) ∙ ap (λ (t : Bool). not t) (lt-leb d x b);
      following = λ x a. ap (λ (t : Bool). differ h.black t) (change-two c d x ∙ ap (λ (t : Bool). differ t (leb d x)) (le-leb c x (omega arith)) ∙ ap (λ (t : Bool). not t) (le-leb d x a)) ∙ differ-right_false h.black;
    }

-- ---- the modes as they are read
pub above-none : (g : Grid) (height : ℕ) (x : ℕ) → height ≡ g.height → pixel_at g x height ≡ false
above-none g height x e = pixel_at-below g x height (omega arith)

pub pass-read : (w : ℕ) (above : ℕ → Bool) (h : Head) (b1 b2 : ℕ) (t : Turn) (bits : List ℕ) → b1 ≡ b1_of w above h → b1 ≤ w → (b1 < w → above b1 ≡ not h.black) → h.a0 ≤ b1 → IsFirst above h.black b1 w b2 → t.turn ≡ b2 → head_of t.next ≡ record { a0 = b2; past_start = true; black = h.black } → ReadStep w h (after_pass w above h bits) (Some t) bits
unfolding after_pass b2_of
pass-read w above h b1 b2 t bits e within other forward first turn next =
    let place : place_from (is_change above) (b1_of w above h + 1) w ≡ b2 = ap (λ (b : ℕ). place_from (is_change above) (b + 1) w) (sym e) ∙ b2-is above h.black b1 w b2 within other first in (
      ap (λ (a : ℕ). let made : Head = record { a0 = a; past_start = true; black = h.black } in made) place ∙ sym next,
      refl,
      subst (λ (m : Head). IsTurn w h [] t.turn m) (sym next) (subst (λ (n : ℕ). IsTurn w h [] n (record { a0 = b2; past_start = true; black = h.black })) (sym turn) (pass-turn w h b2 (omega (arith, first.after)) first.within)),
    )

-- ---- vertical modes
abbrev vertical_made : Head → ℕ → List ℕ → Step
vertical_made h a1 bits = record { head = record { a0 = a1; past_start = true; black = not h.black }; added = a1 ∷ []; left = bits }

pub vertical-read : (w : ℕ) (above : ℕ → Bool) (h : Head) (b1 a1 : ℕ) (distance : ℤ) (t : Turn) (bits : List ℕ) → b1 ≡ b1_of w above h → pos b1 +ℤ distance ≡ pos a1 → h.a0 ≤ a1 → a1 ≤ w → t.turn ≡ a1 → head_of t.next ≡ record { a0 = a1; past_start = true; black = not h.black } → ReadStep w h (after_vertical w above h distance bits) (Some t) bits
unfolding after_vertical
vertical-read w above h b1 a1 distance t bits e sum forward within turn next =
    let place : place_in h.a0 w (pos (b1_of w above h) +ℤ distance) ≡ Some a1 =
    ap (λ (b : ℕ). place_in h.a0 w (pos b +ℤ distance)) (sym e) ∙ ap (λ (z : ℤ). place_in h.a0 w z) sum
    ∙ cond-true (leb h.a0 a1 && leb a1 w) (Some a1) None (and_from (leb h.a0 a1) (leb a1 w) (le-leb h.a0 a1 forward) (le-leb a1 w within)) in
    let is : after_vertical w above h distance bits ≡ Some (vertical_made h a1 bits) = ap (λ (o : Option ℕ). o >>= (λ a. Some (vertical_made h a bits))) place in
    subst (λ (o : Option Step). ReadStep w h o (Some t) bits) (sym is) (
      sym next,
      refl,
      subst (λ (m : Head). IsTurn w h (a1 ∷ []) t.turn m) (sym next) (subst (λ (n : ℕ). IsTurn w h (a1 ∷ []) n (record { a0 = a1; past_start = true; black = not h.black })) (sym turn) (vertical-turn w h a1 forward within)),
    )

-- a1 is no place of the row
pub outside-left : (a0 w : ℕ) (z : ℤ) → z <ℤ pos a0 → place_in a0 w z ≡ None
outside-left a0 w (pos n) low = cond-false (leb a0 n && leb n w) (Some n) None (and_left (leb a0 n) (leb n w) (lt-leb a0 n (omega (arith, ints, low))))
outside-left a0 w (negsuc n) low = refl

pub outside-right : (a0 w : ℕ) (z : ℤ) → pos w <ℤ z → place_in a0 w z ≡ None
outside-right a0 w (pos n) high = cond-false (leb a0 n && leb n w) (Some n) None (and_right (leb a0 n) (leb n w) (lt-leb n w (omega (arith, ints, high))))
outside-right a0 w (negsuc n) high = refl

-- a1 is a place of the row
pub sum-place : (z : ℤ) (a0 w : ℕ) → pos a0 ≤ℤ z → z ≤ℤ pos w → (z ≡ pos (unsigned_abs z)) × (a0 ≤ unsigned_abs z) × (unsigned_abs z ≤ w)
sum-place (pos n) a0 w low high = (refl, omega (arith, ints, low), omega (arith, ints, high))
sum-place (negsuc n) a0 w low high = absurd (omega (arith, ints, low))

pub vertical-fault : (w : ℕ) (above : ℕ → Bool) (h : Head) (b1 : ℕ) (distance : ℤ) (bits : List ℕ) → b1 ≡ b1_of w above h → place_in h.a0 w (pos b1 +ℤ distance) ≡ None → ReadStep w h (after_vertical w above h distance bits) None bits
unfolding after_vertical
vertical-fault w above h b1 distance bits e fault =
    let place : place_in h.a0 w (pos (b1_of w above h) +ℤ distance) ≡ None = ap (λ (b : ℕ). place_in h.a0 w (pos b +ℤ distance)) (sym e) ∙ fault in
    let is : after_vertical w above h distance bits ≡ None = ap (λ (o : Option ℕ). o >>= (λ a. Some (vertical_made h a bits))) place in
    subst (λ (o : Option Step). ReadStep w h o None bits) (sym is) tt

-- ---- two runs
abbrev runs_made : Head → ℕ → ℕ → List ℕ → Step
runs_made h a1 a2 bits = record { head = record { a0 = a2; past_start = true; black = h.black }; added = a1 ∷ a2 ∷ []; left = bits }

abbrev second_run : ℕ → Head → ℕ → Option (ℕ × List ℕ) → Option Step
second_run w h first o = o >>= (λ q. cond (leb (h.a0 + first + q.0) w) (Some (runs_made h (h.a0 + first) (h.a0 + first + q.0) q.1)) None)

abbrev first_run : ℕ → Head → Option (ℕ × List ℕ) → Option Step
first_run w h o = o >>= (λ p. second_run w h p.0 (run (not h.black) p.1))

-- what a run that was read says
run-is : (o : Option (ℕ × List ℕ)) (room n : ℕ) (left : List ℕ) → ReadRun o room (Some n) left → (o ≡ Some (n, left)) × (n ≤ room)
run-is None room n left read = absurd read
run-is (Some r) room n left read = (ap (λ (k : ℕ). Some (k, r.1)) read.0 ∙ ap (λ (ys : List ℕ). Some (n, ys)) read.1, read.2)

second-past : (w : ℕ) (h : Head) (first : ℕ) (o : Option (ℕ × List ℕ)) → w < h.a0 + first → second_run w h first o ≡ None
second-past w h first None past = refl
second-past w h first (Some q) past = cond-false (leb (h.a0 + first + q.0) w) (Some (runs_made h (h.a0 + first) (h.a0 + first + q.0) q.1)) None (lt-leb (h.a0 + first + q.0) w (omega arith))

first-fault : (w : ℕ) (h : Head) (o : Option (ℕ × List ℕ)) (left : List ℕ) → h.a0 ≤ w → ReadRun o (w - h.a0) None left → first_run w h o ≡ None
first-fault w h None left inside read = refl
first-fault w h (Some p) left inside read = second-past w h p.0 (run (not h.black) p.1) (omega (arith, read))

second-fault : (w : ℕ) (h : Head) (first : ℕ) (o : Option (ℕ × List ℕ)) (left : List ℕ) → h.a0 + first ≤ w → ReadRun o (w - (h.a0 + first)) None left → second_run w h first o ≡ None
second-fault w h first None left inside read = refl
second-fault w h first (Some q) left inside read = cond-false (leb (h.a0 + first + q.0) w) (Some (runs_made h (h.a0 + first) (h.a0 + first + q.0) q.1)) None (lt-leb (h.a0 + first + q.0) w (omega (arith, read)))

pub run-within : (o : Option (ℕ × List ℕ)) (room n : ℕ) (left : List ℕ) → ReadRun o room (Some n) left → n ≤ room
run-within o room n left read = (run-is o room n left read).1

pub runs-read : (w : ℕ) (h : Head) (r s : ℕ) (bits middle left : List ℕ) (t : Turn) → h.a0 ≤ w → ReadRun (run h.black bits) (w - h.a0) (Some r) middle → ReadRun (run (not h.black) middle) (w - (h.a0 + r)) (Some s) left → t.turn ≡ h.a0 + r → head_of t.next ≡ record { a0 = h.a0 + r + s; past_start = true; black = h.black } → ReadStep w h (after_runs w h bits) (Some t) left
unfolding after_runs
runs-read w h r s bits middle left t inside first second turn next =
    let one = run-is (run h.black bits) (w - h.a0) r middle first in
    let two = run-is (run (not h.black) middle) (w - (h.a0 + r)) s left second in
    let within : h.a0 + r + s ≤ w = omega (arith, one.1, two.1) in
    let is : after_runs w h bits ≡ Some (runs_made h (h.a0 + r) (h.a0 + r + s) left) =
    ap (λ (o : Option (ℕ × List ℕ)). first_run w h o) one.0 ∙ ap (λ (o : Option (ℕ × List ℕ)). second_run w h r o) two.0
    ∙ cond-true (leb (h.a0 + r + s) w) (Some (runs_made h (h.a0 + r) (h.a0 + r + s) left)) None (le-leb (h.a0 + r + s) w within) in
    subst (λ (o : Option Step). ReadStep w h o (Some t) left) (sym is) (
      sym next,
      refl,
      subst (λ (m : Head). IsTurn w h ((h.a0 + r) ∷ (h.a0 + r + s) ∷ []) t.turn m) (sym next) (subst (λ (n : ℕ). IsTurn w h ((h.a0 + r) ∷ (h.a0 + r + s) ∷ []) n (record { a0 = h.a0 + r + s; past_start = true; black = h.black })) (sym turn) (runs-turn w h r s within)),
    )

pub runs-fault-first : (w : ℕ) (h : Head) (bits left : List ℕ) → h.a0 ≤ w → ReadRun (run h.black bits) (w - h.a0) None left → ReadStep w h (after_runs w h bits) None left
unfolding after_runs
runs-fault-first w h bits left inside first =
    let is : after_runs w h bits ≡ None = first-fault w h (run h.black bits) left inside first in
    subst (λ (o : Option Step). ReadStep w h o None left) (sym is) tt

pub runs-fault-second : (w : ℕ) (h : Head) (r : ℕ) (bits middle left : List ℕ) → h.a0 ≤ w → ReadRun (run h.black bits) (w - h.a0) (Some r) middle → ReadRun (run (not h.black) middle) (w - (h.a0 + r)) None left → ReadStep w h (after_runs w h bits) None left
unfolding after_runs
runs-fault-second w h r bits middle left inside first second =
    let one = run-is (run h.black bits) (w - h.a0) r middle first in
    let is : after_runs w h bits ≡ None =
    ap (λ (o : Option (ℕ × List ℕ)). first_run w h o) one.0 ∙ second-fault w h r (run (not h.black) middle) left (omega (arith, one.1)) second in
    subst (λ (o : Option Step). ReadStep w h o None left) (sym is) tt

-- the mode that a code names
pub step-by : (w : ℕ) (above : ℕ → Bool) (h : Head) (mode : Mode) (bits middle : List ℕ) → Some (mode, middle) ≡ read_code modes bits → next_step w above h bits ≡ after_mode w above h mode middle
unfolding next_step
step-by w above h mode bits middle e = sym (ap (λ (o : Option (Mode × List ℕ)). o >>= (λ m. after_mode w above h m.0 m.1)) e)

pub step-none : (w : ℕ) (above : ℕ → Bool) (h : Head) (bits left : List ℕ) → None ≡ read_code modes bits → ReadStep w h (next_step w above h bits) None left
unfolding next_step
step-none w above h bits left e = subst (λ (o : Option Step). ReadStep w h o None left) (ap (λ (o : Option (Mode × List ℕ)). o >>= (λ m. after_mode w above h m.0 m.1)) e) tt

-- ---- a row, mode by mode
pub record RowReading (g new : Grid) (y : ℕ) (h : Head) (bits : List ℕ) (meant : Option (List ℕ × List ℕ)) : Type 0 where
  pub most : ℕ
  pub changes : List ℕ
  pub enough : length bits ≤ most
  pub same : row_from most g.width (row_above g y) h changes bits ≡ meant
  pub width : new.width ≡ g.width
  pub height : new.height ≡ g.height
  pub table : IsTable new
  pub painted : (x : ℕ) → x < h.a0 → pixel_at new x y ≡ black_at changes x
  pub white : (x : ℕ) → h.a0 ≤ x → pixel_at new x y ≡ false
  pub other : (x j : ℕ) → (j ≡ y → ⊥) → pixel_at new x j ≡ pixel_at g x j
  pub ahead : (x : ℕ) → h.a0 ≤ x → black_at changes x ≡ h.black
  pub inside : h.a0 ≤ g.width
  pub first : h.past_start ≡ false → h.a0 ≡ 0

pub row-start : (g : Grid) (y : ℕ) (bits : List ℕ) → IsTable g → ((x : ℕ) → pixel_at g x y ≡ false) → RowReading g g y row_start bits (row_from (length bits) g.width (row_above g y) row_start [] bits)
row-start g y bits known white = record {
  most = length bits;
  changes = [];
  enough = omega arith;
  same = refl;
  width = refl;
  height = refl;
  table = known;
  painted = λ x a. absurd (omega arith);
  white = λ x a. white x;
  other = λ x j o. refl;
  ahead = λ x a. change-none x;
  inside = omega arith;
  first = λ e. refl;
}

-- the row above stays while row y is painted
pub above-same : (g new : Grid) (y above : ℕ) → ((x j : ℕ) → (j ≡ y → ⊥) → pixel_at new x j ≡ pixel_at g x j) → (above ≡ y → ⊥) → ((x : ℕ) → pixel_at g x above ≡ row_above g y x) → pixels_of_row new above ≡ row_above g y
above-same g new y above other apart is = let each : (x : ℕ) → pixel_at new x above ≡ row_above g y x = λ x. other x above apart ∙ is x in λ i x. each x i

step-from : (most w : ℕ) (above : ℕ → Bool) (h : Head) (changes bits : List ℕ) (s : Step) → h.a0 < w → 1 ≤ most → next_step w above h bits ≡ Some s → (n : ℕ) × (suc n ≡ most) × (row_from most w above h changes bits ≡ row_from n w above s.head (changes ++ s.added) s.left)
unfolding row_from
step-from zero w above h changes bits s inside some e = absurd (omega arith)
step-from (suc n) w above h changes bits s inside some e = (
  n,
  refl,
  cond-false (leb w h.a0) (Some (changes, bits)) (next_step w above h bits >>= (λ m. row_from n w above m.head (changes ++ m.added) m.left)) (lt-leb w h.a0 inside)
      ∙ ap (λ (o : Option Step). o >>= (λ m. row_from n w above m.head (changes ++ m.added) m.left)) e,
)

next-by : (g new one two : Grid) (y : ℕ) (h : Head) (bits left : List ℕ) (meant : Option (List ℕ × List ℕ)) (t : Turn) (s : Step) → RowReading g new y h bits meant → h.a0 < g.width → length left < length bits → next_step g.width (row_above g y) h bits ≡ Some s → ReadStep g.width h (Some s) (Some t) left → IsSpan new one y h.a0 t.turn h.black → IsSpan one two y t.turn t.next.a0 (not h.black) → RowReading g two y (head_of t.next) left meant
next-by g new one two y h bits left meant t s reading inside shorter e read first second =
    let turn = read.2 in
    let step = step-from reading.most g.width (row_above g y) h reading.changes bits s inside (omega (arith, reading.enough)) e in
    let at = λ (x : ℕ). changes-both reading.changes s.added x in
    record {
      most = step.0;
      changes = reading.changes ++ s.added;
      enough = omega (arith, reading.enough, step.1);
      same = ap (λ (m : Head). row_from step.0 g.width (row_above g y) m (reading.changes ++ s.added) left) (sym read.0) ∙ ap (λ (bs : List ℕ). row_from step.0 g.width (row_above g y) s.head (reading.changes ++ s.added) bs) (sym read.1) ∙ sym step.2 ∙ reading.same;
      width = second.width ∙ first.width ∙ reading.width;
      height = second.height ∙ first.height ∙ reading.height;
      table = second.table;
      painted = λ x a.
          ⊎_elim
          (λ (early : x < t.turn).
          second.left x early
          ∙ ⊎_elim
          (λ (old : x < h.a0). first.left x old ∙ reading.painted x old ∙ sym (at x ∙ ap (λ (b : Bool). differ (black_at reading.changes x) b) (turn.before x early) ∙ differ-right_false (black_at reading.changes x)))
          (λ (fresh : h.a0 ≤ x). first.inside x fresh early ∙ sym (at x ∙ ap (λ (b : Bool). differ b (black_at s.added x)) (reading.ahead x fresh) ∙ ap (λ (b : Bool). differ h.black b) (turn.before x early) ∙ differ-right_false h.black))
          (cases_lt x h.a0))
          (λ (late : t.turn ≤ x). second.inside x late a ∙ sym (at x ∙ ap (λ (b : Bool). differ b (black_at s.added x)) (reading.ahead x (omega (arith, turn.forward))) ∙ ap (λ (b : Bool). differ h.black b) (turn.between x late a) ∙ differ-right_true h.black))
          (cases_lt x t.turn);
      white = λ x a. second.right x a ∙ first.right x (omega (arith, turn.ordered)) ∙ reading.white x (omega (arith, turn.forward, turn.ordered));
      other = λ x j o. second.other x j o ∙ first.other x j o ∙ reading.other x j o;
      ahead = λ x a. at x ∙ ap (λ (b : Bool). differ b (black_at s.added x)) (reading.ahead x (omega (arith, turn.forward, turn.ordered))) ∙ turn.following x a;
      inside = turn.inside;
      first = λ e. absurd (true≢false (sym turn.past_start ∙ e));
    }

next-of : (g new one two : Grid) (y : ℕ) (h : Head) (bits left : List ℕ) (meant : Option (List ℕ × List ℕ)) (t : Turn) (o : Option Step) → RowReading g new y h bits meant → h.a0 < g.width → length left < length bits → next_step g.width (row_above g y) h bits ≡ o → ReadStep g.width h o (Some t) left → IsSpan new one y h.a0 t.turn h.black → IsSpan one two y t.turn t.next.a0 (not h.black) → RowReading g two y (head_of t.next) left meant
next-of g new one two y h bits left meant t None reading inside shorter e read first second = absurd read
next-of g new one two y h bits left meant t (Some s) reading inside shorter e read first second = next-by g new one two y h bits left meant t s reading inside shorter e read first second

-- pixels that are white already
pub span-white : (g : Grid) (y from to : ℕ) (black : Bool) → IsTable g → ((x : ℕ) → from ≤ x → pixel_at g x y ≡ false) → black ≡ false → IsSpan g g y from to black
span-white g y from to black known white e = record {
  width = refl;
  height = refl;
  table = known;
  inside = λ x a b. white x a ∙ sym e;
  left = λ x a. refl;
  right = λ x a. refl;
  other = λ x j o. refl;
}

-- one mode more
pub row-next : (g new one two : Grid) (y : ℕ) (above : ℕ → Bool) (h : Head) (bits left : List ℕ) (meant : Option (List ℕ × List ℕ)) (t : Turn) → RowReading g new y h bits meant → h.a0 < g.width → length left < length bits → above ≡ row_above g y → ReadStep new.width h (next_step new.width above h bits) (Some t) left → IsSpan new one y h.a0 t.turn h.black → IsSpan one two y t.turn t.next.a0 (not h.black) → RowReading g two y (head_of t.next) left meant
row-next g new one two y above h bits left meant t reading inside shorter same read first second =
    let at = subst (λ (f : ℕ → Bool). ReadStep g.width h (next_step g.width f h bits) (Some t) left) same (subst (λ (w : ℕ). ReadStep w h (next_step w above h bits) (Some t) left) reading.width read) in
    next-of g new one two y h bits left meant t (next_step g.width (row_above g y) h bits) reading inside shorter refl at first second

-- where the mode stays within the row
turn-of : (w : ℕ) (h : Head) (t : Turn) (left : List ℕ) (o : Option Step) → ReadStep w h o (Some t) left → (h.a0 ≤ t.turn) × (t.turn ≤ t.next.a0) × (t.next.a0 ≤ w) × (t.next.past_start ≡ true)
turn-of w h t left None read = absurd read
turn-of w h t left (Some s) read = (read.2.forward, read.2.ordered, read.2.inside, read.2.past_start)

pub turn-within : (w : ℕ) (above : ℕ → Bool) (h : Head) (bits : List ℕ) (t : Turn) (left : List ℕ) → ReadStep w h (next_step w above h bits) (Some t) left → (h.a0 ≤ t.turn) × (t.turn ≤ t.next.a0) × (t.next.a0 ≤ w) × (t.next.past_start ≡ true)
turn-within w above h bits t left read = turn-of w h t left (next_step w above h bits) read

-- a fault
fault-from : (most w : ℕ) (above : ℕ → Bool) (h : Head) (changes bits : List ℕ) → h.a0 < w → next_step w above h bits ≡ None → row_from most w above h changes bits ≡ None
unfolding row_from
fault-from zero w above h changes bits inside e = cond-false (leb w h.a0) (Some (changes, bits)) None (lt-leb w h.a0 inside)
fault-from (suc n) w above h changes bits inside e =
    cond-false (leb w h.a0) (Some (changes, bits)) (next_step w above h bits >>= (λ m. row_from n w above m.head (changes ++ m.added) m.left)) (lt-leb w h.a0 inside)
    ∙ ap (λ (o : Option Step). o >>= (λ m. row_from n w above m.head (changes ++ m.added) m.left)) e

none-of : (w : ℕ) (h : Head) (left : List ℕ) (o : Option Step) → ReadStep w h o None left → o ≡ None
none-of w h left None read = refl
none-of w h left (Some s) read = absurd read

pub row-fault : (g new white : Grid) (y : ℕ) (above : ℕ → Bool) (h : Head) (bits left : List ℕ) (meant : Option (List ℕ × List ℕ)) → RowReading g new y h bits meant → h.a0 < g.width → above ≡ row_above g y → ReadStep new.width h (next_step new.width above h bits) None left → IsSpan new white y 0 g.width false → ReadRow meant false g white y left
row-fault g new white y above h bits left meant reading inside same read span =
    let at = subst (λ (f : ℕ → Bool). ReadStep g.width h (next_step g.width f h bits) None left) same (subst (λ (w : ℕ). ReadStep w h (next_step w above h bits) None left) reading.width read) in
    let none : next_step g.width (row_above g y) h bits ≡ None = none-of g.width h left (next_step g.width (row_above g y) h bits) at in
    let is : None ≡ meant = sym (fault-from reading.most g.width (row_above g y) h reading.changes bits inside none) ∙ reading.same in
    subst (λ (o : Option (List ℕ × List ℕ)). ReadRow o false g white y left) is
    (record { width = span.width ∙ reading.width; height = span.height ∙ reading.height; table = span.table; here = λ x a. span.inside x (omega arith) a; other = λ x j o. span.other x j o ∙ reading.other x j o })

done-from : (most w : ℕ) (above : ℕ → Bool) (h : Head) (changes bits : List ℕ) → w ≤ h.a0 → row_from most w above h changes bits ≡ Some (changes, bits)
unfolding row_from
done-from zero w above h changes bits past = cond-true (leb w h.a0) (Some (changes, bits)) None (le-leb w h.a0 past)
done-from (suc n) w above h changes bits past = cond-true (leb w h.a0) (Some (changes, bits)) (next_step w above h bits >>= (λ m. row_from n w above m.head (changes ++ m.added) m.left)) (le-leb w h.a0 past)

pub row-done : (g new : Grid) (y : ℕ) (h : Head) (bits : List ℕ) (meant : Option (List ℕ × List ℕ)) → RowReading g new y h bits meant → g.width ≤ h.a0 → ReadRow meant true g new y bits
row-done g new y h bits meant reading past =
    let is : Some (reading.changes, bits) ≡ meant = sym (done-from reading.most g.width (row_above g y) h reading.changes bits past) ∙ reading.same in
    subst (λ (o : Option (List ℕ × List ℕ)). ReadRow o true g new y bits) is
    (record { width = reading.width; height = reading.height; table = reading.table; here = λ x a. reading.painted x (omega arith); other = reading.other }, refl)
