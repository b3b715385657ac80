-- What a table's read gives, from the walk down its levels.
use Rattle.std.proofs.Common.{◌≡◌, ℕ, ◌+◌, true, false, List, drop, Option, None, Result, Ok, Err, refl, sym, subst, ◌∙◌, ap, arith, ℤ}
use Rattle.std.proofs.lemmas.Bool.{cond-true, cond-false}
use Rattle.std.proofs.lemmas.List.{drop-drop}
use Rattle.jbig2_base.specs.Bits.{Place, bits_left, bits_next, bits_on}
use Rattle.jbig2_base.specs.declared.error.DecodeError.{DecodeError}
use Rattle.jbig2_coder.specs.declared.huffman_table.line.TableLine.{TableLine}
use Rattle.jbig2_coder.specs.declared.huffman_table.levels.Level.{Level}
use Rattle.jbig2_coder.specs.PrefixCode.{Member, CodeReading, Reads, read_code, decoded_value, value_by}
use Rattle.jbig2_coder.specs.inner.CodeReadings.{with_value, value_after, range_bits}
use Rattle.jbig2_coder.specs.inner.PrefixLevels.{walk, groups_of, codes_at}
use Rattle.jbig2_coder.proofs.PrefixWalk.{walk-reads}
use Rattle.jbig2_coder.proofs.PrefixReading.{bits_on-add}

decoded-is : (ms : List Member) (bits : List ℕ) → decoded_value ms bits ≡ with_value (read_code ms bits) bits
unfolding decoded_value
decoded-is ms bits = refl

-- a line that is read by the walk
pub read-line : (gs : List (List TableLine)) (ms : List Member) (a : Result TableLine DecodeError) (p q : Place) → codes_at 0 0 gs ≡ ms → Reads p q a (walk gs 0 0 (bits_left p)) → Reads p q a (read_code ms (bits_left p))
read-line gs ms a p q view read =
    let same : walk gs 0 0 (bits_left p) ≡ read_code ms (bits_left p) = walk-reads gs (bits_left p) ∙ ap (λ (ns : List Member). read_code ns (bits_left p)) view in
    let P : CodeReading TableLine → Type 0 = λ r. Reads p q a r in
    subst P same read

valued-err : (r : CodeReading TableLine) (bits : List ℕ) (e : DecodeError) → Err e ≡ r.result → with_value r bits ≡ record { result = Err e; taken = r.taken }
valued-err r bits e h = ap (λ (a : Result TableLine DecodeError). with_value (record { result = a; taken = r.taken }) bits) (sym h)

valued-ok : (r : CodeReading TableLine) (bits : List ℕ) (x : TableLine) → Ok x ≡ r.result → with_value r bits ≡ record { result = value_after x (drop r.taken bits); taken = r.taken + range_bits x }
valued-ok r bits x h = ap (λ (a : Result TableLine DecodeError). with_value (record { result = a; taken = r.taken }) bits) (sym h)

decodes : (ms : List Member) (a : Result (Option ℤ) DecodeError) (n : ℕ) (p q : Place) → decoded_value ms (bits_left p) ≡ record { result = a; taken = n } → q ≡ bits_on n p → bits_left q ≡ drop n (bits_left p) → Reads p q a (decoded_value ms (bits_left p))
decodes ms a n p q e place rest = record {
  value = sym (ap (λ (r : CodeReading (Option ℤ)). r.result) e);
  place = place ∙ ap (λ (r : CodeReading (Option ℤ)). bits_on r.taken p) (sym e);
  rest = rest ∙ ap (λ (r : CodeReading (Option ℤ)). drop r.taken (bits_left p)) (sym e);
}

pub decodes-err : (ms : List Member) (e : DecodeError) (p q : Place) → Reads p q (Err e) (read_code ms (bits_left p)) → Reads p q (Err e) (decoded_value ms (bits_left p))
decodes-err ms e p q read =
    decodes ms (Err e) (read_code ms (bits_left p)).taken p q (decoded-is ms (bits_left p) ∙ valued-err (read_code ms (bits_left p)) (bits_left p) e read.value) read.place read.rest

pub decodes-oob : (ms : List Member) (x : TableLine) (p q : Place) → Reads p q (Ok x) (read_code ms (bits_left p)) → x.is_out_of_band ≡ true → Reads p q (Ok None) (decoded_value ms (bits_left p))
decodes-oob ms x p q read oob =
    let w = read_code ms (bits_left p) in
    let none : value_after x (drop w.taken (bits_left p)) ≡ Ok None = cond-true x.is_out_of_band (Ok None) (value_by x (bits_next x.range_length (drop w.taken (bits_left p)))) oob in
    let taken : w.taken + range_bits x ≡ w.taken = ap (λ (n : ℕ). w.taken + n) (cond-true x.is_out_of_band 0 x.range_length oob) ∙ (let e : w.taken + 0 ≡ w.taken = omega arith in e) in
    decodes ms (Ok None) w.taken p q
    (decoded-is ms (bits_left p) ∙ valued-ok w (bits_left p) x read.value
    ∙ ap (λ (a : Result (Option ℤ) DecodeError). record { result = a; taken = w.taken + range_bits x }) none
    ∙ ap (λ (n : ℕ). record { result = Ok None; taken = n }) taken)
    read.place read.rest

pub decodes-value : (ms : List Member) (x : TableLine) (a : Result (Option ℤ) DecodeError) (p q r : Place) → Reads p q (Ok x) (read_code ms (bits_left p)) → x.is_out_of_band ≡ false → a ≡ value_by x (bits_next x.range_length (bits_left q)) → r ≡ bits_on x.range_length q → bits_left r ≡ drop x.range_length (bits_left q) → Reads p r a (decoded_value ms (bits_left p))
decodes-value ms x a p q r read oob value place rest =
    let w = read_code ms (bits_left p) in
    let some : value_after x (drop w.taken (bits_left p)) ≡ a =
    cond-false x.is_out_of_band (Ok None) (value_by x (bits_next x.range_length (drop w.taken (bits_left p)))) oob
    ∙ sym (value ∙ ap (λ (bs : List ℕ). value_by x (bits_next x.range_length bs)) read.rest) in
    let taken : w.taken + range_bits x ≡ w.taken + x.range_length = ap (λ (n : ℕ). w.taken + n) (cond-false x.is_out_of_band 0 x.range_length oob) in
    decodes ms a (w.taken + x.range_length) p r
    (decoded-is ms (bits_left p) ∙ valued-ok w (bits_left p) x read.value
    ∙ ap (λ (b : Result (Option ℤ) DecodeError). record { result = b; taken = w.taken + range_bits x }) some
    ∙ ap (λ (n : ℕ). record { result = a; taken = n }) taken)
    (place ∙ bits_on-add w.taken x.range_length p q read.place read.rest)
    (rest ∙ ap (λ (bs : List ℕ). drop x.range_length bs) read.rest ∙ drop-drop x.range_length w.taken (bits_left p))

-- the members of a table, by its fields as the code reads them
pub view-read : (lines items : List TableLine) (levels vs : List Level) (ms : List Member) → lines ≡ items → levels ≡ vs → codes_at 0 0 (groups_of items vs) ≡ ms → codes_at 0 0 (groups_of lines levels) ≡ ms
view-read lines items levels vs ms same alike view =
    ap (λ (ls : List TableLine). codes_at 0 0 (groups_of ls levels)) same ∙ ap (λ (ws : List Level). codes_at 0 0 (groups_of items ws)) alike ∙ view
