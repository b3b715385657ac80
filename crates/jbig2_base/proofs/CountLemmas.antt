-- Counts of words and loads.
use Rattle.std.proofs.Common.{◌≡◌, ℕ, ◌+◌, ◌-◌, ◌*◌, ◌/◌, ◌%◌, ◌<◌, ◌≤◌, min, zero, suc, eqb, ap, refl, ◌∙◌, arith}
use Rattle.std.proofs.Math.Nat.{mul-le-mul_left}
use Rattle.std.proofs.lemmas.Bool.{cases_eq, cond-true, cond-false, eq-eqb, ne_eqb}
use Rattle.std.proofs.Common.{⊎_elim}
use Rattle.jbig2_base.specs.Counts.{Counts, WritesWithin, most_words, words_cleared, words_copied, words_loaded, words_searched, words_written, words_across, loads_across, rows_combined}

-- ---- words and loads
pub written-as : (s t : Counts) (words loads n l : ℕ) → t ≡ words_written words loads s → words ≡ n → loads ≡ l → t ≡ words_written n l s
written-as s t words loads n l e p q =
    e
    ∙ (let few : s.words + words ≡ s.words + n = ap (λ (k : ℕ). s.words + k) p in
    let most : s.loads + loads ≡ s.loads + l = ap (λ (k : ℕ). s.loads + k) q in
    λ i. record { loads = most i; words = few i; decisions = s.decisions; run_tests = s.run_tests; groups = s.groups; pixels = s.pixels; cleared = s.cleared })

pub written-none : (s : Counts) (n l : ℕ) → n ≡ 0 → l ≡ 0 → s ≡ words_written n l s
written-none s n l e f =
    let few : s.words ≡ s.words + n = omega arith in
    let most : s.loads ≡ s.loads + l = omega arith in
    λ i. record { loads = most i; words = few i; decisions = s.decisions; run_tests = s.run_tests; groups = s.groups; pixels = s.pixels; cleared = s.cleared }

-- some after others
pub written-then : (s t u : Counts) (m k words loads n l : ℕ) → t ≡ words_written m k s → u ≡ words_written words loads t → n ≡ m + words → l ≡ k + loads → u ≡ words_written n l s
written-then s t u m k words loads n l before after p q =
    after
    ∙ ap (λ (c : Counts). words_written words loads c) before
    ∙ (let few : s.words + m + words ≡ s.words + n = omega arith in
    let most : s.loads + k + loads ≡ s.loads + l = omega arith in
    λ i. record { loads = most i; words = few i; decisions = s.decisions; run_tests = s.run_tests; groups = s.groups; pixels = s.pixels; cleared = s.cleared })

-- n words written under two loads each
abbrev pub after_words : Counts → ℕ → Counts
after_words s n = words_written n (2 * n) s

pub after_words-none : (s : Counts) (n : ℕ) → n ≡ 0 → s ≡ after_words s n
after_words-none s n e = written-none s n (2 * n) e (omega arith)

-- a load, and a word under a load
pub written-run : (s loaded t : Counts) → loaded ≡ record s { loads = s.loads + 1 } → t ≡ record loaded { loads = loaded.loads + 1; words = loaded.words + 1 } → t ≡ words_written 1 2 s
written-run s loaded t p q = written-then s loaded t 0 1 1 1 1 2 (p ∙ (let same : s.words ≡ s.words + 0 = omega arith in λ i. record { loads = s.loads + 1; words = same i; decisions = s.decisions; run_tests = s.run_tests; groups = s.groups; pixels = s.pixels; cleared = s.cleared })) q refl refl

pub after_words-run : (s t loaded u : Counts) (m n : ℕ) → t ≡ after_words s m → loaded ≡ record t { loads = t.loads + 1 } → u ≡ record loaded { loads = loaded.loads + 1; words = loaded.words + 1 } → n ≡ m + 1 → u ≡ after_words s n
after_words-run s t loaded u m n e p q f = written-then s t u m (2 * m) 1 2 n (2 * n) e (written-run t loaded u p q) f (omega arith)

-- two loads and a word, one call after another
pub after_words-step : (s t first second written : Counts) (m n : ℕ) → t ≡ after_words s m → first ≡ record t { loads = t.loads + 1 } → second ≡ record first { loads = first.loads + 1 } → written ≡ record second { words = second.words + 1 } → n ≡ m + 1 → written ≡ after_words s n
after_words-step s t first second written m n e p q r f =
    after_words-run s t first written m n e p (r ∙ ap (λ (c : Counts). let made : Counts = record c { words = c.words + 1 } in made) q) f

-- ---- a row
-- the source's pixels lie in one of its words
pub loads-one : (left columns from : ℕ) → words_across from columns ≡ 1 → loads_across left columns from ≡ words_across left columns + 1
loads-one left columns from one = ap (λ (n : ℕ). words_across left columns + n) (cond-true (eqb (words_across from columns) 1) 1 (words_across left columns) (eq-eqb _ _ one))

-- they lie in more
pub loads-more : (left columns from : ℕ) → (words_across from columns ≡ 1 → ⊥) → loads_across left columns from ≡ 2 * words_across left columns
loads-more left columns from more = ap (λ (n : ℕ). words_across left columns + n) (cond-false (eqb (words_across from columns) 1) 1 (words_across left columns) (ne_eqb _ _ more)) ∙ omega arith

-- a row of one word of the source, in one word of the page or in two
pub near-counts : (left columns from : ℕ) (s loaded t : Counts) → 1 ≤ columns → left % 64 + columns ≤ 64 → from / 64 ≡ (from + columns - 1) / 64 → loaded ≡ record s { loads = s.loads + 1 } → t ≡ record loaded { loads = loaded.loads + 1; words = loaded.words + 1 } → t ≡ words_written (words_across left columns) (loads_across left columns from) s
near-counts left columns from s loaded t some near one p q =
    let words : 1 ≡ words_across left columns = omega arith in
    written-as s t 1 2 (words_across left columns) (loads_across left columns from) (written-run s loaded t p q) words (omega (arith, words, loads-one left columns from (omega arith)))

pub far-counts : (left columns from : ℕ) (s loaded t u : Counts) → 1 ≤ columns → 64 < left % 64 + columns → from / 64 ≡ (from + columns - 1) / 64 → loaded ≡ record s { loads = s.loads + 1 } → t ≡ record loaded { loads = loaded.loads + 1; words = loaded.words + 1 } → u ≡ record t { loads = t.loads + 1; words = t.words + 1 } → u ≡ words_written (words_across left columns) (loads_across left columns from) s
far-counts left columns from s loaded t u some far one p q r =
    let words : 2 ≡ words_across left columns = omega arith in
    written-then s t u 1 2 1 1 (words_across left columns) (loads_across left columns from) (written-run s loaded t p q) r (omega (arith, words)) (omega (arith, words, loads-one left columns from (omega arith)))

-- a row of two words of the source or more
pub wide-counts : (left columns from n : ℕ) (s t : Counts) → from / 64 < (from + columns - 1) / 64 → n ≡ words_across left columns → t ≡ after_words s n → t ≡ words_written (words_across left columns) (loads_across left columns from) s
wide-counts left columns from n s t wide words e =
    written-as s t n (2 * n) (words_across left columns) (loads_across left columns from) e words (omega (arith, words, loads-more left columns from (λ one. omega (arith, one))))

-- ---- rows
pub rows-none : (left columns from rows : ℕ) (s : Counts) → rows ≡ 0 → s ≡ rows_combined rows left columns from s
rows-none left columns from rows s none = written-none s (rows * words_across left columns) (rows * loads_across left columns from) (ap (λ (n : ℕ). n * words_across left columns) none ∙ omega arith) (ap (λ (n : ℕ). n * loads_across left columns from) none ∙ omega arith)

pub rows-then : (left columns from rows : ℕ) (s t u : Counts) → t ≡ rows_combined rows left columns from s → u ≡ words_written (words_across left columns) (loads_across left columns from) t → u ≡ rows_combined (rows + 1) left columns from s
rows-then left columns from rows s t u before row =
    written-then s t u (rows * words_across left columns) (rows * loads_across left columns from) (words_across left columns) (loads_across left columns from) ((rows + 1) * words_across left columns) ((rows + 1) * loads_across left columns from) before row
    (one-more rows (words_across left columns))
    (one-more rows (loads_across left columns from))
  where
    one-more : (r n : ℕ) → (r + 1) * n ≡ r * n + n
    one-more r n = grind arith

-- ---- the bound
pub most_words-at : (columns : ℕ) → 0 < columns → most_words columns ≡ (columns - 1) / 64 + 2
most_words-at zero h = absurd (omega arith)
most_words-at (suc n) h = (let e : n ≡ suc n - 1 = omega arith in ap (λ (m : ℕ). m / 64 + 2) e)

-- no word written yet
pub within-none : (n : ℕ) (s : Counts) → WritesWithin n s s
within-none n s = record { words = omega arith; loads = omega arith; decisions = refl; run_tests = refl; groups = refl; pixels = refl; cleared = refl }

loads-within : (left columns from : ℕ) → 0 < columns → loads_across left columns from ≤ 2 * words_across left columns
loads-within left columns from some =
    let least : 1 ≤ words_across left columns = omega arith in
    ⊎_elim
    (λ (one : words_across from columns ≡ 1). omega (arith, least, loads-one left columns from one))
    (λ (more : words_across from columns ≡ 1 → ⊥). omega (arith, loads-more left columns from more))
    (cases_eq (words_across from columns) 1)

pub within-rows : (left columns from rows : ℕ) (s t : Counts) → 0 < columns → t ≡ rows_combined rows left columns from s → WritesWithin (rows * most_words columns) s t
within-rows left columns from rows s t some e =
    let most = most_words-at columns some in
    let few : words_across left columns ≤ most_words columns = omega (arith, most) in
    let loads = loads-within left columns from some in
    let all : rows * words_across left columns ≤ rows * most_words columns = mul-le-mul_left rows few in
    let read : rows * loads_across left columns from ≤ rows * (2 * most_words columns) = mul-le-mul_left rows (omega (arith, few, loads)) in
    let twice : rows * (2 * most_words columns) ≡ 2 * (rows * most_words columns) = doubled rows (most_words columns) in
    record {
      words = omega (arith, all, ap (λ (c : Counts). c.words) e);
      loads = omega (arith, read, twice, ap (λ (c : Counts). c.loads) e);
      decisions = ap (λ (c : Counts). c.decisions) e;
      run_tests = ap (λ (c : Counts). c.run_tests) e;
      groups = ap (λ (c : Counts). c.groups) e;
      pixels = ap (λ (c : Counts). c.pixels) e;
      cleared = ap (λ (c : Counts). c.cleared) e;
    }
  where
    doubled : (r n : ℕ) → r * (2 * n) ≡ 2 * (r * n)
    doubled r n = grind arith

-- ---- a part that is copied, and a search
-- a load, and a word
pub copied-more : (s t loaded u : Counts) (m n : ℕ) → t ≡ words_copied m s → loaded ≡ record t { loads = t.loads + 1 } → u ≡ record loaded { words = loaded.words + 1 } → n ≡ m + 1 → u ≡ words_copied n s
copied-more s t loaded u m n before p q e =
    written-then s t u m m 1 1 n n before (q ∙ ap (λ (c : Counts). let made : Counts = record c { words = c.words + 1 } in made) p) e e

pub copied-then : (s t u : Counts) (m k n : ℕ) → t ≡ words_copied m s → u ≡ words_copied k t → n ≡ m + k → u ≡ words_copied n s
copied-then s t u m k n before after e = written-then s t u m m k k n n before after e e

pub loaded-none : (s : Counts) (n : ℕ) → n ≡ 0 → s ≡ words_loaded n s
loaded-none s n e = let same : s.loads ≡ s.loads + n = omega arith in λ i. record { loads = same i; words = s.words; decisions = s.decisions; run_tests = s.run_tests; groups = s.groups; pixels = s.pixels; cleared = s.cleared }

pub loaded-as : (s t : Counts) (m n : ℕ) → t ≡ words_loaded m s → m ≡ n → t ≡ words_loaded n s
loaded-as s t m n e p = e ∙ ap (λ (k : ℕ). words_loaded k s) p

pub loaded-more : (s t u : Counts) (m n : ℕ) → t ≡ words_loaded m s → u ≡ record t { loads = t.loads + 1 } → n ≡ m + 1 → u ≡ words_loaded n s
loaded-more s t u m n before p e =
    p
    ∙ ap (λ (c : Counts). let made : Counts = record c { loads = c.loads + 1 } in made) before
    ∙ (let same : s.loads + m + 1 ≡ s.loads + n = omega arith in λ i. record { loads = same i; words = s.words; decisions = s.decisions; run_tests = s.run_tests; groups = s.groups; pixels = s.pixels; cleared = s.cleared })

-- a load that ends at column x + others, before the end
pub search-stops : (from to x others : ℕ) → from ≤ x → (x - from) % 64 ≡ 0 → others < 64 → x + others < to → (x - from + 63) / 64 + 1 ≡ words_searched from to (x + others)
search-stops from to x others after whole near inside = omega arith

pub search-ends : (from to : ℕ) → from ≤ to → (to - from + 63) / 64 ≡ words_searched from to to
search-ends from to within = omega arith

-- a load of `count` columns that are all passed
pub search-goes : (from to x count : ℕ) → from ≤ x → x < to → (x - from) % 64 ≡ 0 → count ≡ min (to - x) 64 → (x + count - from + 63) / 64 ≡ (x - from + 63) / 64 + 1
search-goes from to x count after inside whole few = omega arith

-- ---- bitmaps that are made
pub cleared-none : (s : Counts) (n : ℕ) → n ≡ 0 → s ≡ words_cleared n s
cleared-none s n e = let same : s.cleared ≡ s.cleared + n = omega arith in λ i. record s { cleared = same i }

pub cleared-as : (s t : Counts) (m n : ℕ) → t ≡ words_cleared m s → m ≡ n → t ≡ words_cleared n s
cleared-as s t m n e p = e ∙ ap (λ (k : ℕ). words_cleared k s) p

pub cleared-then : (s t u : Counts) (m k n : ℕ) → t ≡ words_cleared m s → u ≡ words_cleared k t → n ≡ m + k → u ≡ words_cleared n s
cleared-then s t u m k n before after e =
    after
    ∙ ap (λ (c : Counts). words_cleared k c) before
    ∙ (let same : s.cleared + m + k ≡ s.cleared + n = omega arith in λ i. record s { cleared = same i })
