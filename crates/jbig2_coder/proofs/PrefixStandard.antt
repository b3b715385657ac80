-- The standard tables all have codes.
use Rattle.std.proofs.Common.{◌≡◌, ℕ, ◌+◌, ◌<◌, ◌≤◌, leb, Bool, true, false, not, ◌&&◌, List, [], ◌∷◌, ◌++◌, length, map, take, get_or, Result, Ok, Err, refl, sym, ◌∙◌, ap, arith, ◌⊎◌, ⊎_elim}
use Rattle.std.specs.List.{list_all}
use Rattle.std.proofs.lemmas.Bool.{and_parts, leb-true, not-true, cond-false}
use Rattle.std.proofs.lemmas.List.{get_or-map, take_more, take_all, map-append}
use Rattle.std.proofs.lemmas.List.Sums.{AllPass-from_list_all}
use Rattle.jbig2_base.specs.declared.error.DecodeError.{DecodeError}
use Rattle.jbig2_base.specs.declared.error.DecodeError.TheVariants.{Huffman, OutOfMemory}
use Rattle.jbig2_base.specs.declared.error.HuffmanError.TheVariants.{InvalidCode}
use Rattle.jbig2_coder.specs.declared.huffman_table.line.TableLine.{TableLine}
use Rattle.jbig2_coder.specs.PrefixCode.{Member, prefix_code, table_of, is_crowded, weight, AreShort}
use Rattle.jbig2_coder.specs.Tables.{standard_tables, standard_codes, lines_a, lines_b, lines_c, lines_d, lines_e, lines_f, lines_g, lines_h, lines_i, lines_j, lines_k, lines_l, lines_m, lines_n, lines_o}

-- short range lengths, and not too many codes
abbrev fits : List TableLine → Bool
fits lines = list_all (λ x. leb x.range_length 32) lines && not (is_crowded lines)

all-fit : list_all fits standard_tables ≡ true
unfolding standard_tables lines_a lines_b lines_c lines_d lines_e lines_f lines_g lines_h lines_i lines_j lines_k lines_l lines_m lines_n lines_o is_crowded weight
all-fit = refl

pub count-tables : length standard_tables ≡ 15
unfolding standard_tables
count-tables = refl

pub count-codes : length standard_codes ≡ 15
unfolding standard_tables standard_codes
count-codes = refl

fits-at : (i : ℕ) → i < 15 → (d : List TableLine) → fits (get_or standard_tables i d) ≡ true
fits-at i h d = AllPass-from_list_all fits standard_tables all-fit i d (omega (arith, count-tables))

pub short-at : (i : ℕ) → i < 15 → (d : List TableLine) → AreShort (get_or standard_tables i d)
short-at i h d =
    let lines = get_or standard_tables i d in
    let each = AllPass-from_list_all (λ (x : TableLine). leb x.range_length 32) lines (and_parts (list_all (λ x. leb x.range_length 32) lines) (not (is_crowded lines)) (fits-at i h d)).0 in
    λ k e inside. leb-true (get_or lines k e).range_length 32 (each k e inside)

pub table-at : (i : ℕ) → i < 15 → (d : List TableLine) → table_of (get_or standard_tables i d) ≡ Ok (prefix_code (get_or standard_tables i d))
table-at i h d =
    let lines = get_or standard_tables i d in
    let some : is_crowded lines ≡ false = not-true (is_crowded lines) (and_parts (list_all (λ x. leb x.range_length 32) lines) (not (is_crowded lines)) (fits-at i h d)).1 in
    cond-false (is_crowded lines) (Err (Huffman InvalidCode)) (Ok (prefix_code lines)) some

pub code-at : (items : List (List Member)) (i : ℕ) (d : List Member) (e : List TableLine) → items ≡ standard_codes → i < 15 → get_or items i d ≡ prefix_code (get_or standard_tables i e)
unfolding standard_codes
code-at items i d e same h =
    ap (λ (ms : List (List Member)). get_or ms i d) same ∙ get_or-map prefix_code standard_tables i e d (omega (arith, count-tables))

pub codes-next : (i : ℕ) (d : List TableLine) (items : List (List Member)) (m : List Member) → i < 15 → items ≡ map prefix_code (take i standard_tables) → m ≡ prefix_code (get_or standard_tables i d) → items ++ m ∷ [] ≡ map prefix_code (take (i + 1) standard_tables)
codes-next i d items m h same e =
    ap (λ (ms : List (List Member)). ms ++ m ∷ []) same
    ∙ ap (λ (n : List Member). map prefix_code (take i standard_tables) ++ n ∷ []) e
    ∙ sym (map-append prefix_code (take i standard_tables) (get_or standard_tables i d ∷ []))
    ∙ ap (λ (xs : List (List TableLine)). map prefix_code xs) (sym (take_more standard_tables i d (omega (arith, count-tables))))

pub codes-all : (i : ℕ) (items : List (List Member)) → 15 ≤ i → items ≡ map prefix_code (take i standard_tables) → items ≡ standard_codes
unfolding standard_codes
codes-all i items h same = same ∙ ap (λ (xs : List (List TableLine)). map prefix_code xs) (take_all i standard_tables (omega (arith, count-tables)))

-- only memory refuses a standard table
pub memory_only : (i : ℕ) (lines : List TableLine) (e : DecodeError) → i < 15 → lines ≡ get_or standard_tables i [] → (e ≡ OutOfMemory) ⊎ (table_of lines ≡ Err e) → e ≡ OutOfMemory
memory_only i lines e h same result =
    let ok : table_of lines ≡ Ok (prefix_code (get_or standard_tables i [])) = ap (λ (xs : List TableLine). table_of xs) same ∙ table-at i h [] in
    ⊎_elim (λ (m : e ≡ OutOfMemory). m) (λ (r : table_of lines ≡ Err e). absurd (let never : Ok (prefix_code (get_or standard_tables i [])) ≡ Err e = sym ok ∙ r in cc)) result

pub code-is : (i : ℕ) (lines : List TableLine) (ms : List Member) → i < 15 → lines ≡ get_or standard_tables i [] → table_of lines ≡ Ok ms → ms ≡ prefix_code (get_or standard_tables i [])
code-is i lines ms h same result =
    let ok : table_of lines ≡ Ok (prefix_code (get_or standard_tables i [])) = ap (λ (xs : List TableLine). table_of xs) same ∙ table-at i h [] in
    let equal : Ok ms ≡ Ok (prefix_code (get_or standard_tables i [])) = sym result ∙ ok in
    same_ok ms (prefix_code (get_or standard_tables i [])) equal
  where
    same_ok : (a b : List Member) → ◌≡◌ {A = Result (List Member) DecodeError} (Ok a) (Ok b) → a ≡ b
    same_ok a b e = cc
