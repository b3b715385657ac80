-- One mode of a row, written and read.
use Rattle.std.proofs.Common.{◌≡◌, ℕ, zero, suc, ◌+◌, ◌-◌, ◌<◌, ◌≤◌, ltb, leb, Bool, true, false, cond, not, ◌&&◌, List, [], ◌∷◌, ◌++◌, ℤ, pos, negsuc, ◌+ℤ◌, ◌-ℤ◌, Option, Some, None, refl, sym, ◌∙◌, ap, subst, arith, ⊎_elim, lt-ltb, le-ltb, le-leb, leb-true, ltb-true, append_assoc, ◌*◌, length, length-append}
use Rattle.std.proofs.lemmas.Bool.{cond-true, cond-false, cond_both, cases_eq, cases_lt, cases_Bool, and_parts, and_from, lt-leb, true≢false}
use Rattle.jbig2_base.specs.Grid.{differ}
use Rattle.jbig2_base.specs.Search.{least, place_from}
use Rattle.jbig2_base.proofs.SearchLemmas.{place-past}
use Rattle.jbig2_base.specs.inner.BitLists.{AreBits}
use Rattle.jbig2_mmr.specs.declared.mmr.codes.Mode.{Mode}
use Rattle.jbig2_mmr.specs.declared.mmr.codes.Mode.TheVariants.{Pass, Horizontal, Vertical}
use Rattle.jbig2_mmr.specs.T6Codes.{modes, vertical_right, vertical_left}
use Rattle.jbig2_mmr.specs.T6.{Head, Step, read_code, run, place_in, ends_block, after_runs, after_pass, after_vertical, b1_of, b2_of, next_step, is_change, is_change_from, black_at, ◌>>=◌}
use Rattle.jbig2_mmr.specs.inner.T6Reading.{IsTurn}
use Rattle.jbig2_mmr.proofs.T6Rows.{changes-both, step-by, pass-turn, vertical-turn, runs-turn}
use Rattle.jbig2_inverses.specs.MmrRowWriter.{Code, mode_word, run_bits, next_other, code_of}
use Rattle.jbig2_inverses.proofs.RowBits.{pass-no_end, horizontal-no_end, right-no_end, left-no_end, mode-bits, run-bits, bits-both}
use Rattle.jbig2_inverses.proofs.RowLengths.{mode-length, pass-length, horizontal-length, runs-length, run-length}
use Rattle.jbig2_inverses.proofs.RowCodes.{pass-read, horizontal-read, right-read, left-read, run-read}

-- ---- the search for a place
record IsPlace (p : ℕ → Bool) (from to place : ℕ) : Type 0 where
  after : from ≤ place
  within : place ≤ to
  none : (i : ℕ) → from ≤ i → i < place → p i ≡ false
  found : place < to → p place ≡ true

least-place : (n : ℕ) (p : ℕ → Bool) (to : ℕ) → n ≤ to → IsPlace p (to - n) to (least p n to)
unfolding least
least-place zero p to h = record { after = omega arith; within = omega arith; none = λ i a b. absurd (omega (arith, a, b)); found = λ b. absurd (omega (arith, b)) }
least-place (suc n) p to h =
    let at = to - suc n in
    let more = least-place n p to (omega (arith, h)) in
    ⊎_elim
    (λ (e : p at ≡ true).
    subst (λ (x : ℕ). IsPlace p at to x) (sym (cond-true (p at) at (least p n to) e))
    (record { after = omega arith; within = omega arith; none = λ i a b. absurd (omega (arith, a, b)); found = λ b. e }))
    (λ (e : p at ≡ false).
    let low = more.after in
    subst (λ (x : ℕ). IsPlace p at to x) (sym (cond-false (p at) at (least p n to) e))
    (record {
      after = omega (arith, low);
      within = more.within;
      none = λ i a b. ⊎_elim (λ (s : i ≡ at). ap p s ∙ e) (λ (o : i ≡ at → ⊥). more.none i (omega (arith, a, o, h)) b) (cases_eq i at);
      found = more.found;
    }))
    (cases_Bool (p at))

place-is : (p : ℕ → Bool) (from to : ℕ) → from ≤ to → IsPlace p from to (place_from p from to)
place-is p from to h =
    let e : to - (to - from) ≡ from = omega (arith, h) in
    subst (λ (x : ℕ). IsPlace p x to (place_from p from to)) e (least-place (to - from) p to (omega arith))

-- ---- colours
same-colour : (a b : Bool) → differ a b ≡ false → a ≡ b
same-colour true true h = refl
same-colour true false h = absurd (true≢false h)
same-colour false true h = absurd (true≢false h)
same-colour false false h = refl

other-colour : (a b : Bool) → differ a b ≡ true → a ≡ not b
other-colour true true h = absurd (true≢false (sym h))
other-colour true false h = refl
other-colour false true h = refl
other-colour false false h = absurd (true≢false (sym h))

not-twice : (b : Bool) → not (not b) ≡ b
not-twice true = refl
not-twice false = refl

differ-false : (b : Bool) → differ b false ≡ b
differ-false true = refl
differ-false false = refl

differ-true : (b : Bool) → differ b true ≡ not b
differ-true true = refl
differ-true false = refl

-- what is known of a row that is read as far as a head
pub record Done (w : ℕ) (pixels : ℕ → Bool) (h : Head) (changes : List ℕ) : Type 0 where
  pub before : (x : ℕ) → x < h.a0 → black_at changes x ≡ pixels x
  pub ahead : (x : ℕ) → h.a0 ≤ x → black_at changes x ≡ h.black
  pub colour : h.past_start ≡ true → h.a0 < w → pixels h.a0 ≡ h.black
  pub within : h.a0 ≤ w
  pub first : h.past_start ≡ false → h.a0 ≡ 0

-- the modes that may still come
unfoldable pub measure : ℕ → Head → ℕ
measure w h = w - h.a0 + cond h.past_start 0 1

-- the most bits that may still come: seven for each pixel, and 30 both for the first mode and for the last one
unfoldable pub room_of : ℕ → Head → ℕ
room_of w h = 7 * (w - h.a0) + cond h.past_start 0 30 + cond (ltb h.a0 w) 30 0

-- a mode that is written is read, and the row is done a bit further
pub record Follows (w : ℕ) (above pixels : ℕ → Bool) (h : Head) (changes : List ℕ) (code : Code) : Type 0 where
  pub added : List ℕ
  pub reads : (left : List ℕ) → next_step w above h (code.bits ++ left) ≡ Some (record { head = code.head; added = added; left = left })
  pub done : Done w pixels code.head (changes ++ added)
  pub less : measure w code.head < measure w h
  pub no_end : (left : List ℕ) → ends_block (code.bits ++ left) ≡ false
  pub bits : AreBits code.bits
  pub short : length code.bits + room_of w code.head ≤ room_of w h

-- the row so far, and the pixels that a mode adds
joined : (w : ℕ) (pixels : ℕ → Bool) (h next : Head) (changes added : List ℕ) (turn : ℕ) → Done w pixels h changes → IsTurn w h added turn next
    → ((x : ℕ) → h.a0 ≤ x → x < turn → pixels x ≡ h.black) → ((x : ℕ) → turn ≤ x → x < next.a0 → pixels x ≡ not h.black)
    → (next.a0 < w → pixels next.a0 ≡ next.black) → Done w pixels next (changes ++ added)
joined w pixels h next changes added turn d t same other colour =
    let forward = t.forward in
    let order = t.ordered in record {
      before = λ x b. changes-both changes added x ∙ ⊎_elim
          (λ (old : x < h.a0). ap (λ (c : Bool). differ (black_at changes x) c) (t.before x (omega (arith, old, forward, order))) ∙ differ-false (black_at changes x) ∙ d.before x old)
          (λ (new : h.a0 ≤ x). ap (λ (c : Bool). differ c (black_at added x)) (d.ahead x new) ∙ ⊎_elim
          (λ (low : x < turn). ap (λ (c : Bool). differ h.black c) (t.before x low) ∙ differ-false h.black ∙ sym (same x new low))
          (λ (high : turn ≤ x). ap (λ (c : Bool). differ h.black c) (t.between x high b) ∙ differ-true h.black ∙ sym (other x high b))
          (cases_lt x turn))
          (cases_lt x h.a0);
      ahead = λ x a. changes-both changes added x ∙ ap (λ (c : Bool). differ c (black_at added x)) (d.ahead x (omega (arith, a, forward, order))) ∙ t.following x a;
      colour = λ e b. colour b;
      within = t.inside;
      first = λ e. absurd (true≢false (sym t.past_start ∙ e));
    }

module _ (w : ℕ) (above pixels : ℕ → Bool) (h : Head) where
  abbrev from_place : ℕ
  from_place = cond h.past_start (h.a0 + 1) 0

  b1-place : h.a0 < w → IsPlace (is_change_from above h.black) from_place w (b1_of w above h)
  unfolding b1_of
  b1-place room = place-is (is_change_from above h.black) (cond h.past_start (h.a0 + 1) 0) w
      (cond_both h.past_start (h.a0 + 1) 0 (λ (x : ℕ). x ≤ w) (λ e. omega (arith, room)) (λ e. omega arith))

  b2-reach : h.a0 < w → (b1_of w above h ≤ b2_of w above h) × (b2_of w above h ≤ w) × (b2_of w above h < w → b1_of w above h < b2_of w above h)
  unfolding b2_of
  b2-reach room =
      let b1 = b1_of w above h in
      let inside = (b1-place room).within in
      ⊎_elim
      (λ (e : b1 < w).
      let p = place-is (is_change above) (b1 + 1) w (omega (arith, e)) in
      let low = p.after in
      (omega (arith, low), p.within, λ b. omega (arith, low)))
      (λ (e : w ≤ b1).
      let past = place-past (is_change above) (b1 + 1) w (omega (arith, e)) in
      (omega (arith, past, inside), omega (arith, past), λ b. absurd (omega (arith, b, past))))
      (cases_lt b1 w)

  -- a1 and a2 are where the colour changes
  record Turns (a1 a2 : ℕ) : Type 0 where
    order1 : h.a0 ≤ a1
    order2 : a1 ≤ a2
    within : a2 ≤ w
    same : (x : ℕ) → h.a0 ≤ x → x < a1 → pixels x ≡ h.black
    other : (x : ℕ) → a1 ≤ x → x < a2 → pixels x ≡ not h.black
    at1 : a1 < w → pixels a1 ≡ not h.black
    at2 : a2 < w → pixels a2 ≡ h.black

  turns : h.a0 < w → Turns (next_other w above pixels h.black h.a0) (next_other w above pixels (not h.black) (next_other w above pixels h.black h.a0))
  turns room =
      let p1 = place-is (λ i. differ (pixels i) h.black) h.a0 w (omega (arith, room)) in
      let a1 = next_other w above pixels h.black h.a0 in
      let p2 = place-is (λ i. differ (pixels i) (not h.black)) a1 w p1.within in record {
        order1 = p1.after;
        order2 = p2.after;
        within = p2.within;
        same = λ x a b. same-colour (pixels x) h.black (p1.none x a b);
        other = λ x a b. same-colour (pixels x) (not h.black) (p2.none x a b);
        at1 = λ b. other-colour (pixels a1) h.black (p1.found b);
        at2 = λ b. other-colour (pixels (next_other w above pixels (not h.black) a1)) (not h.black) (p2.found b) ∙ not-twice h.black;
      }

  -- a0 moves, but in the first mode
  lessens : (next : Head) → h.a0 < w → next.past_start ≡ true → h.a0 ≤ next.a0 → (h.past_start ≡ true → h.a0 < next.a0) → measure w next < measure w h
  unfolding measure
  lessens next room past forward moved =
      let last = cond-true {A = ℕ} next.past_start 0 1 past in
      ⊎_elim
      (λ (e : h.past_start ≡ true). let further = moved e in let none = cond-true {A = ℕ} h.past_start 0 1 e in omega (arith, further, none, last, room))
      (λ (e : h.past_start ≡ false). let one = cond-false {A = ℕ} h.past_start 0 1 e in omega (arith, one, last, forward))
      (cases_Bool h.past_start)

  shortens : (next : Head) (n : ℕ) → h.a0 < w → next.past_start ≡ true → h.a0 ≤ next.a0 → next.a0 ≤ w → (h.past_start ≡ true → next.a0 < w → n ≤ 7 * (next.a0 - h.a0))
      → n ≤ 7 * (next.a0 - h.a0) + 30 → n + room_of w next ≤ room_of w h
  unfolding room_of
  shortens next n room past forward inside few most =
      let last = cond-true {A = ℕ} next.past_start 0 30 past in
      let here = cond-true {A = ℕ} (ltb h.a0 w) 30 0 (lt-ltb h.a0 w room) in
      ⊎_elim
      (λ (more : next.a0 < w).
      let there = cond-true {A = ℕ} (ltb next.a0 w) 30 0 (lt-ltb next.a0 w more) in
      ⊎_elim
      (λ (e : h.past_start ≡ true). let none = cond-true {A = ℕ} h.past_start 0 30 e in let f = few e more in omega (arith, last, here, there, none, f, forward))
      (λ (e : h.past_start ≡ false). let one = cond-false {A = ℕ} h.past_start 0 30 e in omega (arith, last, here, there, one, most, forward, more))
      (cases_Bool h.past_start))
      (λ (ends : w ≤ next.a0).
      let there = cond-false {A = ℕ} (ltb next.a0 w) 30 0 (le-ltb next.a0 w ends) in
      ⊎_elim
      (λ (e : h.past_start ≡ true). let none = cond-true {A = ℕ} h.past_start 0 30 e in omega (arith, last, here, there, none, most, ends, inside, room))
      (λ (e : h.past_start ≡ false). let one = cond-false {A = ℕ} h.past_start 0 30 e in omega (arith, last, here, there, one, most, ends, inside, room))
      (cases_Bool h.past_start))
      (cases_lt next.a0 w)

  -- after the first mode a1 is right of a0
  further : (changes : List ℕ) (a1 a2 : ℕ) → Done w pixels h changes → h.a0 < w → Turns a1 a2 → h.past_start ≡ true → h.a0 < a1
  further changes a1 a2 d room t past =
      let low = t.order1 in
      ⊎_elim
      (λ (e : h.a0 ≡ a1). absurd (clash h.black (sym (d.colour past room) ∙ ap pixels e ∙ t.at1 (omega (arith, e, room)))))
      (λ (o : h.a0 ≡ a1 → ⊥). omega (arith, low, o))
      (cases_eq h.a0 a1)
    where
      clash : (b : Bool) → b ≡ not b → ⊥
      clash true e = true≢false e
      clash false e = true≢false (sym e)

  -- the second run has pixels, unless it ends the row
  second-run : (a1 a2 : ℕ) → Turns a1 a2 → a2 < w → a1 < a2
  second-run a1 a2 t inside =
      let mid = t.order2 in
      ⊎_elim
      (λ (e : a1 ≡ a2). absurd (clash h.black (sym (ap pixels e ∙ t.at2 inside) ∙ t.at1 (omega (arith, e, inside)))))
      (λ (o : a1 ≡ a2 → ⊥). omega (arith, mid, o))
      (cases_eq a1 a2)
    where
      clash : (b : Bool) → b ≡ not b → ⊥
      clash true e = true≢false e
      clash false e = true≢false (sym e)

  passes : (changes : List ℕ) (a1 a2 : ℕ) → Done w pixels h changes → h.a0 < w → Turns a1 a2 → b2_of w above h < a1
      → Follows w above pixels h changes (record { bits = mode_word Pass; head = record { a0 = b2_of w above h; past_start = true; black = h.black } })
  unfolding after_pass
  passes changes a1 a2 d room t below =
      let b2 = b2_of w above h in
      let next : Head = record { a0 = b2; past_start = true; black = h.black } in
      let low = t.order1 in
      let mid = t.order2 in
      let high = t.within in
      let reach = b2-reach room in
      let right = reach.2 (omega (arith, below, mid, high)) in
      let start : from_place ≤ b1_of w above h = (b1-place room).after in
      let forward : h.a0 ≤ b2 = ⊎_elim
      (λ (e : h.past_start ≡ true). let f = from-past e in omega (arith, f, start, right))
      (λ (e : h.past_start ≡ false). let z = d.first e in omega (arith, z))
      (cases_Bool h.past_start) in
      record {
        added = [];
        reads = λ left. step-by w above h Pass (mode_word Pass ++ left) left (sym (pass-read left));
        done = joined w pixels h next changes [] b2 d (pass-turn w h b2 forward reach.1)
            (λ x a b. t.same x a (omega (arith, b, below)))
            (λ x a b. absurd (omega (arith, a, b)))
            (λ b. t.same b2 forward below);
        less = lessens next room refl forward (λ e. let f = from-past e in omega (arith, f, start, right));
        no_end = pass-no_end;
        bits = mode-bits Pass;
        short = shortens next (length (mode_word Pass)) room refl forward reach.1
            (λ e more. let f = from-past e in let four = pass-length in omega (arith, f, start, right, four))
            (let four = pass-length in omega (arith, four));
      }
    where
      from-past : h.past_start ≡ true → from_place ≡ h.a0 + 1
      from-past e = cond-true h.past_start (h.a0 + 1) 0 e

  verticals : (changes : List ℕ) (a1 a2 : ℕ) (distance : ℤ) → Done w pixels h changes → h.a0 < w → Turns a1 a2
      → pos (b1_of w above h) +ℤ distance ≡ pos a1
      → ((left : List ℕ) → read_code modes (mode_word (Vertical distance) ++ left) ≡ Some (Vertical distance, left))
      → ((left : List ℕ) → ends_block (mode_word (Vertical distance) ++ left) ≡ false)
      → Follows w above pixels h changes (record { bits = mode_word (Vertical distance); head = record { a0 = a1; past_start = true; black = not h.black } })
  unfolding after_vertical
  verticals changes a1 a2 distance d room t sum read no_end =
      let next : Head = record { a0 = a1; past_start = true; black = not h.black } in
      let low = t.order1 in
      let mid = t.order2 in
      let high = t.within in
      let inside : a1 ≤ w = omega (arith, mid, high) in
      let place : place_in h.a0 w (pos (b1_of w above h) +ℤ distance) ≡ Some a1 =
      ap (λ (z : ℤ). place_in h.a0 w z) sum ∙ cond-true (leb h.a0 a1 && leb a1 w) (Some a1) None (and_from (leb h.a0 a1) (leb a1 w) (le-leb h.a0 a1 low) (le-leb a1 w inside)) in
      let made : ℕ → List ℕ → Step = λ a left. record { head = record { a0 = a; past_start = true; black = not h.black }; added = a ∷ []; left = left } in
      record {
        added = a1 ∷ [];
        reads = λ left. step-by w above h (Vertical distance) (mode_word (Vertical distance) ++ left) left (sym (read left)) ∙ ap (λ (o : Option ℕ). o >>= (λ a. Some (made a left))) place;
        done = joined w pixels h next changes (a1 ∷ []) a1 d (vertical-turn w h a1 low inside)
            (λ x a b. t.same x a b)
            (λ x a b. absurd (omega (arith, a, b)))
            (λ b. t.at1 b);
        less = lessens next room refl low (λ e. further changes a1 a2 d room t e);
        no_end = no_end;
        bits = mode-bits (Vertical distance);
        short = shortens next (length (mode_word (Vertical distance))) room refl low inside
            (λ e more. let f = further changes a1 a2 d room t e in let seven = mode-length (Vertical distance) in omega (arith, f, seven))
            (let seven = mode-length (Vertical distance) in omega (arith, seven));
      }

  horizontals : (changes : List ℕ) (a1 a2 : ℕ) → Done w pixels h changes → h.a0 < w → Turns a1 a2
      → Follows w above pixels h changes (record { bits = mode_word Horizontal ++ (run_bits h.black (a1 - h.a0) ++ run_bits (not h.black) (a2 - a1)); head = record { a0 = a2; past_start = true; black = h.black } })
  unfolding after_runs
  horizontals changes a1 a2 d room t =
      let next : Head = record { a0 = a2; past_start = true; black = h.black } in
      let low = t.order1 in
      let mid = t.order2 in
      let high = t.within in
      let one = run_bits h.black (a1 - h.a0) in
      let two = run_bits (not h.black) (a2 - a1) in
      let size = length-append (mode_word Horizontal) (one ++ two) in
      let size2 = length-append one two in
      let three = horizontal-length in
      let first : h.a0 + (a1 - h.a0) ≡ a1 = omega (arith, low) in
      let second : a1 + (a2 - a1) ≡ a2 = omega (arith, mid) in
      let made : ℕ → ℕ → List ℕ → Option Step = λ c e left. cond (leb e w) (Some (record { head = record { a0 = e; past_start = true; black = h.black }; added = c ∷ e ∷ []; left = left })) None in
      let turn1 : IsTurn w h ((h.a0 + (a1 - h.a0)) ∷ (h.a0 + (a1 - h.a0) + (a2 - a1)) ∷ []) (h.a0 + (a1 - h.a0)) (record { a0 = h.a0 + (a1 - h.a0) + (a2 - a1); past_start = true; black = h.black }) =
      runs-turn w h (a1 - h.a0) (a2 - a1) (omega (arith, low, mid, high)) in
      let turn2 : IsTurn w h (a1 ∷ (a1 + (a2 - a1)) ∷ []) a1 (record { a0 = a1 + (a2 - a1); past_start = true; black = h.black }) =
      subst (λ (c : ℕ). IsTurn w h (c ∷ (c + (a2 - a1)) ∷ []) c (record { a0 = c + (a2 - a1); past_start = true; black = h.black })) first turn1 in
      let turn : IsTurn w h (a1 ∷ a2 ∷ []) a1 next =
      subst (λ (e : ℕ). IsTurn w h (a1 ∷ e ∷ []) a1 (record { a0 = e; past_start = true; black = h.black })) second turn2 in
      record {
        added = a1 ∷ a2 ∷ [];
        reads = λ left.
            let bits = (mode_word Horizontal ++ (one ++ two)) ++ left in
            let split : bits ≡ mode_word Horizontal ++ (one ++ (two ++ left)) = append_assoc (mode_word Horizontal) (one ++ two) left ∙ ap (λ (b : List ℕ). mode_word Horizontal ++ b) (append_assoc one two left) in
            let read : read_code modes bits ≡ Some (Horizontal, one ++ (two ++ left)) = ap (λ (b : List ℕ). read_code modes b) split ∙ horizontal-read (one ++ (two ++ left)) in
            step-by w above h Horizontal bits (one ++ (two ++ left)) (sym read)
            ∙ ap (λ (o : Option (ℕ × List ℕ)). o >>= (λ r. run (not h.black) r.1 >>= (λ q. made (h.a0 + r.0) (h.a0 + r.0 + q.0) q.1))) (run-read h.black (a1 - h.a0) (two ++ left))
            ∙ ap (λ (o : Option (ℕ × List ℕ)). o >>= (λ q. made (h.a0 + (a1 - h.a0)) (h.a0 + (a1 - h.a0) + q.0) q.1)) (run-read (not h.black) (a2 - a1) left)
            ∙ ap (λ (c : ℕ). made c (c + (a2 - a1)) left) first
            ∙ ap (λ (e : ℕ). made a1 e left) second
            ∙ cond-true (leb a2 w) (Some (record { head = next; added = a1 ∷ a2 ∷ []; left = left })) None (le-leb a2 w high);
        done = joined w pixels h next changes (a1 ∷ a2 ∷ []) a1 d turn
            (λ x a b. t.same x a b)
            (λ x a b. t.other x a b)
            (λ b. t.at2 b);
        less = lessens next room refl (omega (arith, low, mid)) (λ e. let f = further changes a1 a2 d room t e in omega (arith, f, mid));
        no_end = λ left. ap ends_block (append_assoc (mode_word Horizontal) (one ++ two) left) ∙ horizontal-no_end ((one ++ two) ++ left);
        bits = bits-both (mode_word Horizontal) (one ++ two) (mode-bits Horizontal) (bits-both one two (run-bits h.black (a1 - h.a0)) (run-bits (not h.black) (a2 - a1)));
        short = shortens next (length (mode_word Horizontal ++ (one ++ two))) room refl (omega (arith, low, mid)) high
            (λ e more. let f = further changes a1 a2 d room t e in
            let g = second-run a1 a2 t more in
            let runs = runs-length h.black (a1 - h.a0) (a2 - a1) (omega (arith, f)) (omega (arith, g)) in
            omega (arith, size, size2, three, runs, low, mid))
            (let r1 = run-length h.black (a1 - h.a0) in
            let r2 = run-length (not h.black) (a2 - a1) in
            omega (arith, size, size2, three, r1, r2, low, mid));
      }

  -- the distance of a vertical mode
  near : (changes : List ℕ) (a1 a2 : ℕ) → Done w pixels h changes → h.a0 < w → Turns a1 a2 → a1 ≤ b1_of w above h + 3 → b1_of w above h ≤ a1 + 3
      → Follows w above pixels h changes (record { bits = mode_word (cond (leb (b1_of w above h) a1) (vertical_right (a1 - b1_of w above h)) (vertical_left (b1_of w above h - a1))); head = record { a0 = a1; past_start = true; black = not h.black } })
  near changes a1 a2 d room t above-it below-it =
      let b1 = b1_of w above h in
      let next : Head = record { a0 = a1; past_start = true; black = not h.black } in
      let P : Mode → Type 0 = λ m. Follows w above pixels h changes (record { bits = mode_word m; head = next }) in
      ⊎_elim
      (λ (r : a1 < b1).
      let k = b1 - a1 in
      let sum : pos b1 +ℤ (pos 0 -ℤ pos k) ≡ pos a1 = left-sum b1 a1 k (omega (arith, r)) (omega (arith, r)) in
      subst P (sym (cond-false (leb b1 a1) (vertical_right (a1 - b1)) (vertical_left k) (lt-leb b1 a1 r)))
      (verticals changes a1 a2 (pos 0 -ℤ pos k) d room t sum (left-read k (omega (arith, r)) (omega (arith, below-it))) (left-no_end k (omega (arith, r)) (omega (arith, below-it)))))
      (λ (l : b1 ≤ a1).
      let k = a1 - b1 in
      let sum : pos b1 +ℤ pos k ≡ pos a1 = ap pos (let e : b1 + (a1 - b1) ≡ a1 = omega (arith, l) in e) in
      subst P (sym (cond-true (leb b1 a1) (vertical_right k) (vertical_left (b1 - a1)) (le-leb b1 a1 l)))
      (verticals changes a1 a2 (pos k) d room t sum (right-read k (omega (arith, above-it))) (right-no_end k (omega (arith, above-it)))))
      (cases_lt a1 b1)
    where
      left-sum : (b a k : ℕ) → 1 ≤ k → b ≡ a + k → pos b +ℤ (pos 0 -ℤ pos k) ≡ pos a
      left-sum b a zero l e = absurd (omega (arith, l))
      left-sum b a (suc k) l e =
          ap (λ (z : ℤ). pos b +ℤ z) (cond-true (ltb 0 (suc k)) (negsuc (suc k - 1)) (pos (0 - suc k)) (lt-ltb 0 (suc k) (omega arith)) ∙ ap negsuc (let f : suc k - 1 ≡ k = omega arith in f))
          ∙ cond-false (ltb b (suc k)) (negsuc (suc k - suc b)) (pos (b - suc k)) (le-ltb b (suc k) (omega (arith, e))) ∙ ap pos (let f : b - suc k ≡ a = omega (arith, e) in f)

  pub follows : (changes : List ℕ) → Done w pixels h changes → h.a0 < w → Follows w above pixels h changes (code_of w above pixels h)
  unfolding code_of
  follows changes d room =
      let a1 = next_other w above pixels h.black h.a0 in
      let a2 = next_other w above pixels (not h.black) a1 in
      let b1 = b1_of w above h in
      let b2 = b2_of w above h in
      let t = turns room in
      let P : Code → Type 0 = λ c. Follows w above pixels h changes c in
      cond_both (ltb b2 a1) _ _ P
      (λ pass. passes changes a1 a2 d room t (ltb-true b2 a1 pass))
      (λ other. cond_both (leb a1 (b1 + 3) && leb b1 (a1 + 3)) _ _ P
      (λ vertical. let parts = and_parts (leb a1 (b1 + 3)) (leb b1 (a1 + 3)) vertical in near changes a1 a2 d room t (leb-true a1 (b1 + 3) parts.0) (leb-true b1 (a1 + 3) parts.1))
      (λ horizontal. horizontals changes a1 a2 d room t))
