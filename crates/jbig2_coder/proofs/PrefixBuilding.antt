-- How a table is built, from the longest codes to the shortest.
use Rattle.std.proofs.Common.{◌≡◌, ℕ, suc, ◌+◌, ◌-◌, ◌/◌, ◌%◌, ◌<◌, ◌≤◌, eqb, List, [], ◌∷◌, ◌++◌, length, take, drop, reverse, min, Ok, Err, refl, sym, ◌∙◌, ap, subst, arith, length-drop, length-append}
use Rattle.std.proofs.lemmas.Bool.{cond-true, cond-false, lt-ltb, le-ltb}
use Rattle.std.proofs.lemmas.List.{reverse-append, drop-append-le, take-append-le, take_all}
use Rattle.std.proofs.Math.Seq.{drop-append_seam}
use Rattle.std.proofs.lemmas.List.Elements.{All-append, All-filter}
use Rattle.jbig2_base.specs.declared.error.DecodeError.TheVariants.{Huffman}
use Rattle.jbig2_base.specs.declared.error.HuffmanError.TheVariants.{InvalidCode}
use Rattle.jbig2_coder.specs.declared.huffman_table.line.TableLine.{TableLine}
use Rattle.jbig2_coder.specs.declared.huffman_table.levels.Level.{Level}
use Rattle.jbig2_coder.specs.PrefixCode.{Member, longest, level, prefix_code, is_crowded, table_of, AreShort}
use Rattle.jbig2_coder.specs.inner.PrefixLevels.{nodes, codes_at, groups_of, groups, AreLevels}
use Rattle.jbig2_coder.proofs.PrefixKraft.{prefix_code-is, is_crowded-is}

-- lines pushed after change no group
groups-kept : (lines more : List TableLine) (vs : List Level) → AreLevels lines vs → groups_of (lines ++ more) vs ≡ groups_of lines vs
groups-kept lines more [] are = refl
groups-kept lines more (v ∷ vs) are =
    let first : drop v.first (lines ++ more) ≡ drop v.first lines ++ more = drop-append-le v.first lines more (omega (arith, are.0)) in
    let group : take v.count (drop v.first (lines ++ more)) ≡ take v.count (drop v.first lines) =
    ap (λ (xs : List TableLine). take v.count xs) first ∙ take-append-le v.count (drop v.first lines) more (omega (arith, are.0, length-drop v.first lines)) in
    ap (λ (g : List TableLine). g ∷ groups_of (lines ++ more) vs) group
    ∙ ap (λ (gs : List (List TableLine)). take v.count (drop v.first lines) ∷ gs) (groups-kept lines more vs are.3)

are-kept : (lines more : List TableLine) (vs : List Level) → AreLevels lines vs → AreLevels (lines ++ more) vs
are-kept lines more [] are = tt
are-kept lines more (v ∷ vs) are =
    let longer = length-append lines more in
    (omega (arith, are.0), are.1 ∙ ap nodes (sym (groups-kept lines more vs are.3)), omega (arith, are.2), are-kept lines more vs are.3)

-- What is after the lengths above depth.
pub record Built (lines sorted : List TableLine) (levels : List Level) (count depth : ℕ) : Type 0 where
  pub groups : groups_of sorted (reverse levels) ≡ groups (longest lines - depth) (depth + 1) lines
  pub are : AreLevels sorted (reverse levels)
  pub nodes : count ≡ nodes (groups_of sorted (reverse levels))
  pub few : count ≤ length sorted
  pub short : AreShort sorted

pub built-none : (lines : List TableLine) → Built lines [] [] 0 (longest lines)
built-none lines =
    let none : longest lines - longest lines ≡ 0 = omega arith in
    record {
      groups = ap (λ (n : ℕ). groups n (longest lines + 1) lines) (sym none);
      are = tt;
      nodes = refl;
      few = omega arith;
      short = λ k d h. absurd (omega arith);
    }

-- the lines of one length less
pub built-next : (lines sorted more : List TableLine) (levels : List Level) (nodes_before depth new_count new_nodes : ℕ) → Built lines sorted levels nodes_before (depth + 1) → AreShort lines → depth < longest lines → more ≡ sorted ++ level (depth + 1) lines → new_count + length sorted ≡ length more → new_nodes ≡ (new_count + nodes_before + 1) / 2 → Built lines more (levels ++ (record { first = length sorted; count = new_count; nodes = nodes_before }) ∷ []) new_nodes depth
built-next lines sorted more levels nodes_before depth new_count new_nodes built short below items size nodes_after =
    let lv = level (depth + 1) lines in
    let v : Level = record { first = length sorted; count = new_count; nodes = nodes_before } in
    let vs = reverse levels in
    let longer : length more ≡ length sorted + length lv = ap length items ∙ length-append sorted lv in
    let turned : reverse (levels ++ v ∷ []) ≡ v ∷ vs = reverse-append levels (v ∷ []) in
    let kept : groups_of more vs ≡ groups_of sorted vs = ap (λ (xs : List TableLine). groups_of xs vs) items ∙ groups-kept sorted lv vs built.are in
    let group : take new_count (drop (length sorted) more) ≡ lv =
    ap (λ (xs : List TableLine). take new_count (drop (length sorted) xs)) items
    ∙ ap (λ (xs : List TableLine). take new_count xs) (drop-append_seam sorted lv)
    ∙ take_all new_count lv (omega arith) in
    let all : groups_of more (v ∷ vs) ≡ lv ∷ groups_of sorted vs =
    ap (λ (g : List TableLine). g ∷ groups_of more vs) group ∙ ap (λ (gs : List (List TableLine)). lv ∷ gs) kept in
    let deeper : longest lines - depth ≡ suc (longest lines - (depth + 1)) = omega arith in
    let are_tail : AreLevels more vs = (let P : List TableLine → Type 0 = λ xs. AreLevels xs vs in subst P (sym items) (are-kept sorted lv vs built.are)) in
    let are : AreLevels more (v ∷ vs) = (omega arith, built.nodes ∙ ap nodes (sym kept), omega (arith, built.few), are_tail) in
    let P : List Level → Type 0 = λ ws. AreLevels more ws in
    let Q : List TableLine → Type 0 = λ xs. AreShort xs in
    record {
      groups =
          ap (λ (ws : List Level). groups_of more ws) turned
          ∙ all
          ∙ ap (λ (gs : List (List TableLine)). lv ∷ gs) built.groups
          ∙ ap (λ (n : ℕ). groups n (depth + 1) lines) (sym deeper);
      are = subst P (sym turned) are;
      nodes =
          nodes_after
          ∙ ap (λ (n : ℕ). (n + nodes_before + 1) / 2) (let e : new_count ≡ length lv = omega arith in e)
          ∙ ap (λ (n : ℕ). (length lv + n + 1) / 2) built.nodes
          ∙ ap nodes (sym (ap (λ (ws : List Level). groups_of more ws) turned ∙ all));
      few = omega (arith, built.few);
      short = subst Q (sym items) (All-append (λ (x : TableLine). x.range_length ≤ 32) sorted lv built.short (All-filter (λ (x : TableLine). eqb x.prefix_length (depth + 1)) (λ (x : TableLine). x.range_length ≤ 32) lines short));
    }

whole : (lines sorted : List TableLine) (levels : List Level) (count : ℕ) → Built lines sorted levels count 0 → groups_of sorted (reverse levels) ≡ groups (longest lines) 1 lines
whole lines sorted levels count built =
    built.groups
    ∙ ap (λ (n : ℕ). groups n (0 + 1) lines) (let e : longest lines - 0 ≡ longest lines = omega arith in e)
    ∙ ap (λ (n : ℕ). groups (longest lines) n lines) (let e : 0 + 1 ≡ 1 = omega arith in e)

pub built-crowded : (lines sorted : List TableLine) (levels : List Level) (count : ℕ) → Built lines sorted levels count 0 → 1 < count → table_of lines ≡ Err (Huffman InvalidCode)
built-crowded lines sorted levels count built many =
    let same = whole lines sorted levels count built in
    let root : count ≡ nodes (groups (longest lines) 1 lines) = built.nodes ∙ ap nodes same in
    cond-true (is_crowded lines) (Err (Huffman InvalidCode)) (Ok (prefix_code lines)) (is_crowded-is lines ∙ lt-ltb 1 (nodes (groups (longest lines) 1 lines)) (omega arith))

pub built-table : (lines sorted : List TableLine) (levels turned : List Level) (count : ℕ) → Built lines sorted levels count 0 → count ≤ 1 → turned ≡ reverse levels → table_of lines ≡ Ok (codes_at 0 0 (groups_of sorted turned))
built-table lines sorted levels turned count built few back =
    let same = whole lines sorted levels count built in
    let root : count ≡ nodes (groups (longest lines) 1 lines) = built.nodes ∙ ap nodes same in
    cond-false (is_crowded lines) (Err (Huffman InvalidCode)) (Ok (prefix_code lines)) (is_crowded-is lines ∙ le-ltb 1 (nodes (groups (longest lines) 1 lines)) (omega arith))
    ∙ ap (λ (ms : List Member). Ok ms) (prefix_code-is lines ∙ ap (λ (gs : List (List TableLine)). codes_at 0 0 gs) (sym (ap (λ (vs : List Level). groups_of sorted vs) back ∙ same)))

pub built-levels : (lines sorted : List TableLine) (levels turned : List Level) (count : ℕ) → Built lines sorted levels count 0 → turned ≡ reverse levels → AreLevels sorted turned
built-levels lines sorted levels turned count built back = let P : List Level → Type 0 = λ vs. AreLevels sorted vs in subst P (sym back) built.are

-- `div_ceil(2)`
pub half_up : (n : ℕ) → n / 2 + min 1 (n % 2) ≡ (n + 1) / 2
half_up n = omega arith
