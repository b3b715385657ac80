-- The steps of reading a custom table.
use Rattle.std.proofs.Common.{◌≡◌, ℕ, zero, suc, ◌+◌, ◌-◌, ◌<◌, ◌≤◌, true, false, ℤ, pos, List, [], ◌∷◌, ◌++◌, append_assoc, append-nil, length, Result, Ok, Err, refl, sym, ◌∙◌, ap, subst, arith, ◌⊎◌, inl, inr, ⊎_elim}
use Rattle.std.proofs.lemmas.Bool.{cond-true, cond-false}
use Rattle.std.proofs.lemmas.List.Elements.{All-append}
use Rattle.std.specs.Prelude.{int_lt, ◌-ℤ◌}
use Rattle.jbig2_base.specs.Results.{◌>>=◌, Gives, some_or}
use Rattle.jbig2_base.specs.declared.error.DecodeError.{DecodeError}
use Rattle.jbig2_coder.specs.declared.huffman_table.line.TableLine.{TableLine}
use Rattle.jbig2_coder.specs.declared.huffman_table.custom.Header.{Header}
use Rattle.jbig2_coder.specs.PrefixCode.{AreShort, table_of}
use Rattle.jbig2_coder.specs.CustomTable.{TableStep, left_at, field, custom_header, custom_line, custom_lines, concat, range_lines_in, range_lines, end_lines, custom_table, GivesAt}
use Rattle.jbig2_coder.specs.inner.CodeReadings.{last_line}
use Rattle.jbig2_coder.specs.Tables.{lower, upper, out_of_band}
use Rattle.jbig2_base.specs.declared.error.DecodeError.TheVariants.{Huffman, OutOfMemory}
use Rattle.jbig2_base.specs.declared.error.HuffmanError.TheVariants.{InvalidCode}
use Rattle.jbig2_base.specs.Bits.{Place, bits_left, bits_next, bits_on}

concat-none : (s : TableStep (List TableLine)) → s ≡ concat [] s
concat-none (Ok lines) = refl
concat-none (Err e) = refl

concat-twice : (xs ys : List TableLine) (s : TableStep (List TableLine)) → concat xs (concat ys s) ≡ concat (xs ++ ys) s
concat-twice xs ys (Ok lines) = ap (λ (ws : List TableLine). Ok (ws, lines.1)) (sym (append_assoc xs ys lines.0))
concat-twice xs ys (Err e) = refl

-- The lines so far, and what is still to be read from here.
pub record Reads (h : Header) (p : Place) (low : ℤ) (items : List TableLine) (q : Place) : Type 0 where
  pub fuel : ℕ
  pub enough : length (bits_left q) < fuel
  pub goes : range_lines h p ≡ concat items (range_lines_in fuel h low q)
  pub short : AreShort items

pub reads-none : (h : Header) (p : Place) → Reads h p h.minimum [] p
unfolding range_lines
reads-none h p =
    record {
      fuel = length (bits_left p) + 1;
      enough = omega arith;
      goes = concat-none (range_lines_in (length (bits_left p) + 1) h h.minimum p);
      short = λ k d inside. absurd (omega arith);
    }

-- one turn of the recursion
line-step : (fuel bits : ℕ) (h : Header) (low : ℤ) (q : Place) → bits < fuel → int_lt low h.maximum ≡ true → range_lines_in fuel h low q ≡ (custom_line h low q >>= λ x. concat (x.0.0 ∷ []) (range_lines_in (fuel - 1) h x.0.1 x.1))
line-step zero bits h low q enough more = absurd (omega arith)
line-step (suc n) bits h low q enough more =
    cond-true (int_lt low h.maximum) (custom_line h low q >>= λ x. concat (x.0.0 ∷ []) (range_lines_in n h x.0.1 x.1)) (Ok ([], q)) more
    ∙ ap (λ (k : ℕ). custom_line h low q >>= λ x. concat (x.0.0 ∷ []) (range_lines_in k h x.0.1 x.1)) (let e : n ≡ suc n - 1 = omega arith in e)

line-end : (fuel bits : ℕ) (h : Header) (low : ℤ) (q : Place) → bits < fuel → int_lt low h.maximum ≡ false → range_lines_in fuel h low q ≡ Ok ([], q)
line-end zero bits h low q enough past = absurd (omega arith)
line-end (suc n) bits h low q enough past =
    cond-false (int_lt low h.maximum) (custom_line h low q >>= λ x. concat (x.0.0 ∷ []) (range_lines_in n h x.0.1 x.1)) (Ok ([], q)) past

one_short : (x : TableLine) → x.range_length ≤ 32 → AreShort (x ∷ [])
one_short x h zero d inside = h
one_short x h (suc k) d inside = absurd (omega arith)

-- what the lines go on with after the next one
line-after : (h : Header) (p : Place) (low : ℤ) (items : List TableLine) (q : Place) (s : TableStep (TableLine × ℤ)) (reads : Reads h p low items q) → int_lt low h.maximum ≡ true → s ≡ custom_line h low q → range_lines h p ≡ concat items (s >>= λ x. concat (x.0.0 ∷ []) (range_lines_in (reads.fuel - 1) h x.0.1 x.1))
line-after h p low items q s reads below line =
    reads.goes
    ∙ ap (λ (t : TableStep (List TableLine)). concat items t)
    (line-step reads.fuel (length (bits_left q)) h low q reads.enough below
    ∙ ap (λ (t : TableStep (TableLine × ℤ)). t >>= λ x. concat (x.0.0 ∷ []) (range_lines_in (reads.fuel - 1) h x.0.1 x.1)) (sym line))

pub reads-next : (h : Header) (p : Place) (low next : ℤ) (items more : List TableLine) (x : TableLine) (q r : Place) → Reads h p low items q → int_lt low h.maximum ≡ true → Ok ((x, next), r) ≡ custom_line h low q → length (bits_left r) < length (bits_left q) → x.range_length ≤ 32 → more ≡ items ++ x ∷ [] → Reads h p next more r
reads-next h p low next items more x q r reads below line fewer short pushed =
    let rest = range_lines_in (reads.fuel - 1) h next r in
    let Q : List TableLine → Type 0 = λ xs. AreShort xs in
    record {
      fuel = reads.fuel - 1;
      enough = omega (arith, reads.enough);
      goes =
          line-after h p low items q (Ok ((x, next), r)) reads below line
          ∙ concat-twice items (x ∷ []) rest
          ∙ ap (λ (xs : List TableLine). concat xs rest) (sym pushed);
      short = subst Q (sym pushed) (All-append (λ (y : TableLine). y.range_length ≤ 32) items (x ∷ []) reads.short (one_short x short));
    }

pub reads-refused : (h : Header) (p : Place) (low : ℤ) (items : List TableLine) (e : DecodeError) (q r : Place) → Reads h p low items q → int_lt low h.maximum ≡ true → Err (e, r) ≡ custom_line h low q → range_lines h p ≡ Err (e, r)
reads-refused h p low items e q r reads below line = line-after h p low items q (Err (e, r)) reads below line

pub reads-all : (h : Header) (p : Place) (low : ℤ) (items : List TableLine) (q : Place) → Reads h p low items q → int_lt low h.maximum ≡ false → range_lines h p ≡ Ok (items, q)
reads-all h p low items q reads past =
    reads.goes
    ∙ ap (λ (s : TableStep (List TableLine)). concat items s) (line-end reads.fuel (length (bits_left q)) h low q reads.enough past)
    ∙ ap (λ (xs : List TableLine). Ok (xs, q)) (append-nil items)

-- the lines after the others are short too
pub short-push : (xs ys : List TableLine) (x : TableLine) → AreShort xs → x.range_length ≤ 32 → ys ≡ xs ++ x ∷ [] → AreShort ys
short-push xs ys x are short pushed =
    let Q : List TableLine → Type 0 = λ zs. AreShort zs in
    subst Q (sym pushed) (All-append (λ (y : TableLine). y.range_length ≤ 32) xs (x ∷ []) are (one_short x short))

pub pushed-two : (xs ys zs : List TableLine) (a b : TableLine) → ys ≡ xs ++ a ∷ [] → zs ≡ ys ++ b ∷ [] → zs ≡ xs ++ a ∷ b ∷ []
pushed-two xs ys zs a b one two = two ∙ ap (λ (ws : List TableLine). ws ++ b ∷ []) one ∙ append_assoc xs (a ∷ []) (b ∷ [])

field-is : (e : DecodeError) (n v : ℕ) (p q : Place) → Ok v ≡ some_or e (bits_next n (bits_left p)) → q ≡ bits_on n p → field e n p ≡ Ok (v, q)
field-is e n v p q result place =
    ap (λ (r : Result ℕ DecodeError). left_at (bits_on n p) r) (sym result) ∙ ap (λ (r : Place). Ok (v, r)) (sym place)

-- the ends but the last one
ends-begin : (h : Header) (p q r : Place) (below above : ℕ) → field (Huffman InvalidCode) h.prefix_bits p ≡ Ok (below, q) → field (Huffman InvalidCode) h.prefix_bits q ≡ Ok (above, r) → end_lines h p ≡ concat (lower below (h.minimum -ℤ pos 1) ∷ upper above h.maximum ∷ []) (last_line h r)
ends-begin h p q r below above first second =
    ap (λ (s : TableStep ℕ). s >>= λ b. field (Huffman InvalidCode) h.prefix_bits b.1 >>= λ a. concat (lower b.0 (h.minimum -ℤ pos 1) ∷ upper a.0 h.maximum ∷ []) (last_line h a.1)) first
    ∙ ap (λ (s : TableStep ℕ). s >>= λ a. concat (lower below (h.minimum -ℤ pos 1) ∷ upper a.0 h.maximum ∷ []) (last_line h a.1)) second

pub ends-none : (h : Header) (p q r : Place) (below above : ℕ) (old one two : List TableLine) → Ok below ≡ some_or (Huffman InvalidCode) (bits_next h.prefix_bits (bits_left p)) → q ≡ bits_on h.prefix_bits p → Ok above ≡ some_or (Huffman InvalidCode) (bits_next h.prefix_bits (bits_left q)) → r ≡ bits_on h.prefix_bits q → one ≡ old ++ lower below (h.minimum -ℤ pos 1) ∷ [] → two ≡ one ++ upper above h.maximum ∷ [] → h.has_out_of_band ≡ false → concat old (end_lines h p) ≡ Ok (two, r)
ends-none h p q r below above old one two first q_is second r_is pushed pushed_two none =
    let e = Huffman InvalidCode in
    let n = h.prefix_bits in
    let a = lower below (h.minimum -ℤ pos 1) in
    let b = upper above h.maximum in
    ap (λ (s : TableStep (List TableLine)). concat old s) (ends-begin h p q r below above (field-is e n below p q first q_is) (field-is e n above q r second r_is))
    ∙ ap (λ (s : TableStep (List TableLine)). concat old (concat (a ∷ b ∷ []) s)) (cond-false h.has_out_of_band (field e n r >>= λ len. Ok (out_of_band len.0 ∷ [], len.1)) (Ok ([], r)) none)
    ∙ ap (λ (xs : List TableLine). Ok (xs, r)) (sym (pushed-two old one two a b pushed pushed_two))

pub ends-oob : (h : Header) (p q r s : Place) (below above len : ℕ) (old one two three : List TableLine) → Ok below ≡ some_or (Huffman InvalidCode) (bits_next h.prefix_bits (bits_left p)) → q ≡ bits_on h.prefix_bits p → Ok above ≡ some_or (Huffman InvalidCode) (bits_next h.prefix_bits (bits_left q)) → r ≡ bits_on h.prefix_bits q → Ok len ≡ some_or (Huffman InvalidCode) (bits_next h.prefix_bits (bits_left r)) → s ≡ bits_on h.prefix_bits r → one ≡ old ++ lower below (h.minimum -ℤ pos 1) ∷ [] → two ≡ one ++ upper above h.maximum ∷ [] → three ≡ two ++ out_of_band len ∷ [] → h.has_out_of_band ≡ true → concat old (end_lines h p) ≡ Ok (three, s)
ends-oob h p q r s below above len old one two three first q_is second r_is third s_is pushed pushed_two pushed_three some =
    let e = Huffman InvalidCode in
    let n = h.prefix_bits in
    let a = lower below (h.minimum -ℤ pos 1) in
    let b = upper above h.maximum in
    let o = out_of_band len in
    ap (λ (t : TableStep (List TableLine)). concat old t) (ends-begin h p q r below above (field-is e n below p q first q_is) (field-is e n above q r second r_is))
    ∙ ap (λ (t : TableStep (List TableLine)). concat old (concat (a ∷ b ∷ []) t))
    (cond-true h.has_out_of_band (field e n r >>= λ k. Ok (out_of_band k.0 ∷ [], k.1)) (Ok ([], r)) some
    ∙ ap (λ (t : TableStep ℕ). t >>= λ k. Ok (out_of_band k.0 ∷ [], k.1)) (field-is e n len r s third s_is))
    ∙ ap (λ (xs : List TableLine). Ok (xs, s)) (sym (append_assoc old (a ∷ b ∷ []) (o ∷ [])))
    ∙ ap (λ (xs : List TableLine). Ok (xs ++ o ∷ [], s)) (sym (pushed-two old one two a b pushed pushed_two))
    ∙ ap (λ (xs : List TableLine). Ok (xs, s)) (sym pushed_three)

-- a custom table's lines, from what its header returns
pub lines-header : (p : Place) (s : TableStep Header) → s ≡ custom_header p → custom_lines p ≡ (s >>= λ header. range_lines header.0 header.1 >>= λ ranges. concat ranges.0 (end_lines header.0 ranges.1))
unfolding custom_lines
lines-header p s is = ap (λ (t : TableStep Header). t >>= λ header. range_lines header.0 header.1 >>= λ ranges. concat ranges.0 (end_lines header.0 ranges.1)) (sym is)

-- and from what its lines do
pub lines-ranges : (p q : Place) (h : Header) (s : TableStep (List TableLine)) → Ok (h, q) ≡ custom_header p → range_lines h q ≡ s → custom_lines p ≡ (s >>= λ ranges. concat ranges.0 (end_lines h ranges.1))
lines-ranges p q h s header is =
    lines-header p (Ok (h, q)) header ∙ ap (λ (t : TableStep (List TableLine)). t >>= λ ranges. concat ranges.0 (end_lines h ranges.1)) is

-- a custom table, from the results of its lines
pub table-lines : (p : Place) (s : TableStep (List TableLine)) → custom_lines p ≡ s → custom_table p ≡ (s >>= λ lines. left_at lines.1 (table_of lines.0))
unfolding custom_table
table-lines p s is = ap (λ (t : TableStep (List TableLine)). t >>= λ lines. left_at lines.1 (table_of lines.0)) is

-- a refusal of one step is that of the whole, and so is want of memory
pub gives-refusal : {A B : Type 0} (e : DecodeError) (q : Place) (s : TableStep A) (whole : TableStep B) → (s ≡ Err (e, q) → whole ≡ Err (e, q)) → (e ≡ OutOfMemory) ⊎ (s ≡ Err (e, q)) → (e ≡ OutOfMemory) ⊎ (whole ≡ Err (e, q))
gives-refusal e q s whole step given = ⊎_elim (λ (m : e ≡ OutOfMemory). inl m) (λ (is : s ≡ Err (e, q)). inr (step is)) given

-- a result that was given, with its place
pub gives-at : {X Y : Type 0} (view : X → Y) (r : Result X DecodeError) (p : Place) (meant : Result Y DecodeError) → Gives view r meant → GivesAt view r p (left_at p meant)
gives-at view (Ok x) p meant given = ap (λ (m : Result _ DecodeError). left_at p m) given
gives-at view (Err e) p meant given =
    ⊎_elim (λ (m : e ≡ OutOfMemory). inl m) (λ (is : meant ≡ Err e). inr (ap (λ (m : Result _ DecodeError). left_at p m) is)) given
