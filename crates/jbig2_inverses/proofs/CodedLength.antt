-- The encoder's data is short.
use Rattle.std.proofs.Common.{◌≡◌, ℕ, zero, suc, ◌+◌, ◌-◌, ◌*◌, ◌%◌, ◌^◌, ◌<◌, ◌≤◌, eqb, leb, ltb, Bool, true, false, not, cond, List, [], ◌∷◌, length, reverse, refl, sym, ap, subst, arith, eqb-true, ne_eqb, ⊎_elim}
use Rattle.std.proofs.lemmas.Bool.{cases_eq, cond_both, cond-false, cond-true, eq-eqb, eqb-false, leb-true, ltb-false, ltb-true}
use Rattle.std.proofs.Math.Nat.{le_trans, mul-le-mul_right, pow-suc}
use Rattle.std.proofs.lemmas.List.{length-reverse}
use Rattle.jbig2_coder.specs.Coder.{Context, fresh, likely_next, unlikely_next}
use Rattle.jbig2_coder.specs.QeTable.{qe_row}
use Rattle.jbig2_coder.specs.Encoder.{Writer, EncoderState, Narrowed, initial_coding, eight_bits_out, seven_bits_out, byte_out, shift_once, renorme, narrowed_likely, narrowed_unlikely, narrowed_interval, encoding, set_bits, flush_coder, is_full, with_marker, with_context, encode_from, encoded_bytes}
use Rattle.jbig2_inverses.specs.CoderStates.{Entry, CodedDataIsShort}
use Rattle.jbig2_inverses.proofs.RowCredits.{costs, credit, first-credit}

-- one byte more, of seven or eight bits
record Put (out : List ℕ) (w : Writer) : Type 0 where
  size : length w.out ≡ length out + 1
  low : 7 ≤ w.wait
  high : w.wait ≤ 8

eight-put : (c : ℕ) (out old : List ℕ) → length out ≡ length old → Put old (eight_bits_out c out)
unfolding eight_bits_out
eight-put c out old e = record { size = omega (arith, e); low = omega arith; high = omega arith }

seven-put : (c : ℕ) (out old : List ℕ) → length out ≡ length old → Put old (seven_bits_out c out)
unfolding seven_bits_out
seven-put c out old e = record { size = omega (arith, e); low = omega arith; high = omega arith }

byte-put : (c : ℕ) (out : List ℕ) → Put out (byte_out c out)
unfolding byte_out
byte-put c [] = eight-put c [] [] refl
byte-put c (last ∷ out) =
    let old = last ∷ out in
    let P : Writer → Type 0 = λ w. Put old w in
    cond_both (eqb last 0xFF) (seven_bits_out c old) (cond (ltb c (2 ^ 27)) (eight_bits_out c old) (cond (eqb (last + 1) 0xFF) (seven_bits_out (c % 2 ^ 27) (0xFF ∷ out)) (eight_bits_out c ((last + 1) ∷ out)))) P
    (λ e. seven-put c old old refl)
    (λ e. cond_both (ltb c (2 ^ 27)) (eight_bits_out c old) (cond (eqb (last + 1) 0xFF) (seven_bits_out (c % 2 ^ 27) (0xFF ∷ out)) (eight_bits_out c ((last + 1) ∷ out))) P
    (λ f. eight-put c old old refl)
    (λ f. cond_both (eqb (last + 1) 0xFF) (seven_bits_out (c % 2 ^ 27) (0xFF ∷ out)) (eight_bits_out c ((last + 1) ∷ out)) P
    (λ g. seven-put (c % 2 ^ 27) (0xFF ∷ out) old refl)
    (λ g. eight-put c ((last + 1) ∷ out) old refl)))

-- after at most k shifts
record After (k : ℕ) (w : Writer) : Type 0 where
  some : 1 ≤ w.wait
  few : w.wait ≤ 12
  bytes : 7 * length w.out ≤ k + w.wait

later : (k n : ℕ) (w : Writer) → k ≤ n → After k w → After n w
later k n w h a = let b = a.bytes in record { some = a.some; few = a.few; bytes = omega (arith, b, h) }

shifted : (k : ℕ) (w : Writer) → After k w → After (k + 1) (shift_once w)
unfolding shift_once
shifted k w a =
    let put = byte-put (2 * w.register) w.out in
    let next : Writer = record { register = 2 * w.register; wait = w.wait - 1; out = w.out } in
    let some = a.some in
    let few = a.few in
    let bytes = a.bytes in
    cond_both (eqb (w.wait - 1) 0) (byte_out (2 * w.register) w.out) next (λ (v : Writer). After (k + 1) v)
    (λ e. let one = eqb-true (w.wait - 1) 0 e in
    let size = put.size in
    let low = put.low in
    let high = put.high in
    record { some = omega (arith, low); few = omega (arith, high); bytes = omega (arith, size, low, bytes, one, some) })
    (λ e. let more = eqb-false (w.wait - 1) 0 e in record { some = omega (arith, some, more); few = omega (arith, few); bytes = omega (arith, bytes, some) })

-- RENORME, of an interval that m shifts make long enough
record Renormed (k : ℕ) (s : EncoderState) : Type 0 where
  after : After k s.writer
  range : 0x8000 ≤ s.range

renormed : (n m k a : ℕ) (w : Writer) → m ≤ n → 0x8000 ≤ a * 2 ^ m → After k w → Renormed (k + m) (renorme n a w)
unfolding renorme
renormed zero zero k a w fits long is = record { after = later k (k + 0) w (omega arith) is; range = omega (arith, long) }
renormed zero (suc m) k a w fits long is = absurd (omega (arith, fits))
renormed (suc n) zero k a w fits long is =
    cond_both (ltb a 0x8000) (renorme n (2 * a) (shift_once w)) (record { range = a; writer = w }) (λ (s : EncoderState). Renormed (k + 0) s)
    (λ e. let small = ltb-true a 0x8000 e in absurd (omega (arith, small, long)))
    (λ e. record { after = later k (k + 0) w (omega arith) is; range = ltb-false a 0x8000 e })
renormed (suc n) (suc m) k a w fits long is =
    let same : k + 1 + m ≡ k + suc m = omega arith in
    let doubled : 2 * a * 2 ^ m ≡ a * 2 ^ suc m = rw (pow-suc 2 m) (omega arith) in
    let more = renormed n m (k + 1) (2 * a) (shift_once w) (omega (arith, fits)) (subst (λ (x : ℕ). 0x8000 ≤ x) (sym doubled) long) (shifted k w is) in
    cond_both (ltb a 0x8000) (renorme n (2 * a) (shift_once w)) (record { range = a; writer = w }) (λ (s : EncoderState). Renormed (k + suc m) s)
    (λ e. subst (λ (j : ℕ). Renormed j (renorme n (2 * a) (shift_once w))) same more)
    (λ e. record { after = later k (k + suc m) w (omega arith) is; range = ltb-false a 0x8000 e })

-- A decision in a context takes at most six shifts, and what the context's row is worth more than the next one.
record Coded (k worth : ℕ) (s : EncoderState) (next : Context) : Type 0 where
  shifts : ℕ
  renormed : Renormed (k + shifts) s
  paid : shifts + credit next.row ≤ 6 + worth

abbrev end_of : EncoderState → Narrowed → EncoderState
end_of s next =
    let writer : Writer = record s.writer { register = next.register } in
    cond next.renorm (renorme 15 next.range writer) (record { range = next.range; writer = writer })

abbrev CodedBy : ℕ → Context → EncoderState → Narrowed → Type 0
CodedBy k x s next = Coded k (credit x.row) (end_of s next) next.context

moved : (k c : ℕ) (s : EncoderState) → After k s.writer → After k (record s.writer { register = c })
moved k c s is = record { some = is.some; few = is.few; bytes = is.bytes }

by-likely : (k : ℕ) (x : Context) (s : EncoderState) → 0x8000 ≤ s.range → After k s.writer → CodedBy k x s (narrowed_likely x s.range s.writer.register)
unfolding narrowed_likely likely_next
by-likely k x s long is =
    let qe = (qe_row x.row).qe in
    let rest = s.range - qe in
    let c = s.writer.register in
    let worth = (costs x.row).likely in
    let quiet : Narrowed = record { range = rest; register = c + qe; context = x; renorm = false } in
    let lower : Narrowed = record { range = qe; register = c; context = likely_next x; renorm = true } in
    let upper : Narrowed = record { range = rest; register = c + qe; context = likely_next x; renorm = true } in
    let P : Narrowed → Type 0 = CodedBy k x s in
    cond_both (leb 0x8000 rest) quiet (cond (ltb rest qe) lower upper) P
    (λ e. record { shifts = 0; renormed = record { after = later k (k + 0) (record s.writer { register = c + qe }) (omega arith) (moved k (c + qe) s is); range = leb-true 0x8000 rest e }; paid = omega arith })
    (λ e. cond_both (ltb rest qe) lower upper P
    (λ f. let small = ltb-true rest qe f in
    record { shifts = 1; renormed = renormed 15 1 k qe (record s.writer { register = c }) (omega arith) (omega (arith, small, long)) (moved k c s is); paid = omega (arith, worth) })
    (λ f. let large = ltb-false rest qe f in
    record { shifts = 1; renormed = renormed 15 1 k rest (record s.writer { register = c + qe }) (omega arith) (omega (arith, large, long)) (moved k (c + qe) s is); paid = omega (arith, worth) }))

by-unlikely : (k : ℕ) (x : Context) (s : EncoderState) → 0x8000 ≤ s.range → After k s.writer → CodedBy k x s (narrowed_unlikely x s.range s.writer.register)
unfolding narrowed_unlikely unlikely_next
by-unlikely k x s long is =
    let qe = (qe_row x.row).qe in
    let rest = s.range - qe in
    let c = s.writer.register in
    let cost = costs x.row in
    let n = cost.shifts in
    let upper : Narrowed = record { range = rest; register = c + qe; context = unlikely_next x; renorm = true } in
    let lower : Narrowed = record { range = qe; register = c; context = unlikely_next x; renorm = true } in
    let enough : 0x8000 ≤ rest * 2 ^ n = le_trans cost.upper (mul-le-mul_right (2 ^ n) (let e : 0x8000 - qe ≤ rest = omega (arith, long) in e)) in
    cond_both (ltb rest qe) upper lower (CodedBy k x s)
    (λ e. record { shifts = n; renormed = renormed 15 n k rest (record s.writer { register = c + qe }) cost.few enough (moved k (c + qe) s is); paid = cost.unlikely })
    (λ e. record { shifts = n; renormed = renormed 15 n k qe (record s.writer { register = c }) cost.few cost.lower (moved k c s is); paid = cost.unlikely })

encoded-one : (x : Context) (decision : Bool) (k : ℕ) (s : EncoderState) → 0x8000 ≤ s.range → After k s.writer → let next = encoding x decision s in Coded k (credit x.row) next.coding next.context
unfolding encoding narrowed_interval
encoded-one x decision k s long is =
    let a = s.range in
    let c = s.writer.register in
    cond_both (cond x.likely decision (not decision)) (narrowed_likely x a c) (narrowed_unlikely x a c) (CodedBy k x s)
    (λ e. by-likely k x s long is)
    (λ e. by-unlikely k x s long is)

-- what the first n contexts are worth together
worth : ℕ → (ℕ → Context) → ℕ
worth zero contexts = 0
worth (suc n) contexts = worth n contexts + credit (contexts n).row

worth-past : (n j : ℕ) (x : Context) (contexts : ℕ → Context) → n ≤ j → worth n (with_context contexts j x) ≡ worth n contexts
unfolding worth with_context
worth-past zero j x contexts past = refl
worth-past (suc n) j x contexts past =
    let before = worth-past n j x contexts (omega (arith, past)) in
    let same : cond (eqb n j) x (contexts n) ≡ contexts n = cond-false (eqb n j) x (contexts n) (ne_eqb n j (λ e. omega (arith, e, past))) in
    let row = ap (λ (y : Context). credit y.row) same in
    omega (arith, before, row)

below : (n j : ℕ) → (n ≡ j → ⊥) → j < suc n → j < n
below n j other inside = omega (arith, other, inside)

worth-with : (n j : ℕ) (x : Context) (contexts : ℕ → Context) → j < n → worth n (with_context contexts j x) + credit (contexts j).row ≡ worth n contexts + credit x.row
unfolding worth with_context
worth-with zero j x contexts inside = absurd (omega (arith, inside))
worth-with (suc n) j x contexts inside =
    ⊎_elim
    (λ (e : n ≡ j). let before = worth-past n j x contexts (omega (arith, e)) in
    let row = ap (λ (y : Context). credit y.row) (cond-true (eqb n j) x (contexts n) (eq-eqb n j e)) in
    let old = ap (λ (i : ℕ). credit (contexts i).row) e in
    omega (arith, before, row, old))
    (λ (other : n ≡ j → ⊥). let before = worth-with n j x contexts (below n j other inside) in
    let row = ap (λ (y : Context). credit y.row) (cond-false (eqb n j) x (contexts n) (ne_eqb n j other)) in
    omega (arith, before, row))
    (cases_eq n j)

worth-fresh : (n : ℕ) → worth n (λ k. fresh) ≡ 0
unfolding worth
worth-fresh zero = refl
worth-fresh (suc n) = let before = worth-fresh n in let none : credit 0 ≡ 0 = first-credit in omega (arith, before, none)

-- a number above the numbers of all contexts of a list
above : List Entry → ℕ
above [] = 0
above (e ∷ es) = suc e.0 + above es

encoded-all : (es : List Entry) (n k : ℕ) (s : EncoderState) (contexts : ℕ → Context) → above es ≤ n → 0x8000 ≤ s.range → After k s.writer
    → After (k + (worth n contexts + 6 * length es)) (encode_from s contexts es).writer
unfolding encode_from above
encoded-all [] n k s contexts all long is = later k (k + (worth n contexts + 6 * 0)) s.writer (omega arith) is
encoded-all (e ∷ es) n k s contexts all long is =
    let next = encoding (contexts e.0) e.1 s in
    let one = encoded-one (contexts e.0) e.1 k s long is in
    let rest = with_context contexts e.0 next.context in
    let more = encoded-all es n (k + one.shifts) next.coding rest (omega (arith, all)) one.renormed.range one.renormed.after in
    let moves = worth-with n e.0 next.context contexts (omega (arith, all)) in
    let paid = one.paid in
    later (k + one.shifts + (worth n rest + 6 * length es)) (k + (worth n contexts + 6 * suc (length es))) (encode_from next.coding rest es).writer (omega (arith, moves, paid)) more

start : After 0 initial_coding.writer
unfolding initial_coding
start = record { some = omega arith; few = omega arith; bytes = omega arith }

wide : 0x8000 ≤ initial_coding.range
unfolding initial_coding
wide = omega arith

flushed : (s : EncoderState) → length (flush_coder s).out ≡ length s.writer.out + 2
unfolding flush_coder
flushed s =
    let first = byte_out (set_bits s.range s.writer.register * 2 ^ s.writer.wait) s.writer.out in
    let a = (byte-put (set_bits s.range s.writer.register * 2 ^ s.writer.wait) s.writer.out).size in
    let b = (byte-put (first.register * 2 ^ first.wait) first.out).size in
    omega (arith, a, b)

marked : (out : List ℕ) → length (with_marker out) ≤ length out + 2
unfolding with_marker
marked out =
    cond_both (is_full out) (0xAC ∷ out) (0xAC ∷ 0xFF ∷ out) (λ (b : List ℕ). length (reverse b) ≤ length out + 2)
    (λ e. let size = length-reverse (0xAC ∷ out) in omega (arith, size))
    (λ e. let size = length-reverse (0xAC ∷ 0xFF ∷ out) in omega (arith, size))

pub coded_data_is_short : CodedDataIsShort
unfolding encoded_bytes
coded_data_is_short es =
    let s = encode_from initial_coding (λ k. fresh) es in
    let a = encoded-all es (above es) 0 initial_coding (λ k. fresh) (omega arith) wide start in
    let none = worth-fresh (above es) in
    let bytes = a.bytes in
    let few = a.few in
    let f = flushed s in
    let m = marked (flush_coder s).out in
    omega (arith, bytes, few, f, m, none)
