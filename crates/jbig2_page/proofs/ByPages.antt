-- The segments of a file by their pages, as one more segment comes.
use Rattle.std.proofs.Common.{◌≡◌, ℕ, suc, ◌==◌, ◌<◌, Bool, true, false, ◌||◌, cond, nat_lt, List, [], ◌∷◌, ◌++◌, length, map, set, get_or, Option, Some, None, refl, sym, ap, subst, ◌∙◌, arith}
use Rattle.std.proofs.lemmas.Bool.{eqb-true, eqb-false, eq-eqb, ne_eqb, cond-true, cond-false, or_parts, or_from, or_left, or_right, both_ways, ltb-true}
use Rattle.std.proofs.lemmas.List.{append-nil, append_assoc, length-map, map_push, map-set, get_or-map}
use Rattle.std.proofs.lemmas.List.Elements.{filter-append}
use Rattle.std.proofs.lemmas.List.Folds.{list_any-append}
use Rattle.std.specs.List.{list_any}
use Rattle.std.specs.Prelude.{option_map}
use Rattle.std.specs.BTreeMap.{get, is_at, Updates}
use Rattle.std.specs.Map.{lookup}
use Rattle.std.specs.Ordering.{nat_cmp, is_eq}
use Rattle.std.specs.declared.cmp.Ordering.TheVariants.{Less, Equal, Greater}
use Rattle.std.specs.declared.vec.Vec.{Vec}
use Rattle.jbig2_framing.specs.Segment.{SegmentView}
use Rattle.jbig2_framing.specs.inner.SegmentViews.{segment_view, segment_views}
use Rattle.jbig2_framing.specs.declared.segment.Segment.{Segment}
use Rattle.jbig2_page.specs.inner.ByPages.{pages_view, first_place_of, HasSegments}
use Rattle.jbig2_page.specs.declared.file.segments_by_page.SegmentsByPage.{SegmentsByPage}
use Rattle.jbig2_page.specs.Files.{numbers_after, of_page, by_pages}

flipped : (m n : ℕ) → (m == n) ≡ false → (n == m) ≡ false
flipped m n apart = ne_eqb n m (λ e. eqb-false m n apart (sym e))

abbrev pub is_among : ℕ → List ℕ → Bool
is_among n ns = list_any (λ m. m == n) ns

-- no page's number, or one that came before
abbrev is_known : ℕ → List ℕ → Bool
is_known n ns = n == 0 || is_among n ns

abbrev with_page_number : ℕ → List ℕ → List ℕ
with_page_number n ns = cond (is_known n ns) ns (ns ++ n ∷ [])

-- ---- the place of a number

none-head : (b : Bool) (o : Option ℕ) → cond b (Some 0) (option_map suc o) ≡ None → (b ≡ false) × (o ≡ None)
none-head true o none = absurd (cc)
none-head false None none = (refl, refl)
none-head false (Some j) none = absurd (cc)

unplaced : (n : ℕ) (ns : List ℕ) → first_place_of n ns ≡ None → is_among n ns ≡ false
unplaced n [] none = refl
unplaced n (m ∷ ms) none =
    let apart = none-head (m == n) (first_place_of n ms) none in
    or_from (m == n) (is_among n ms) apart.0 (unplaced n ms apart.1)

placeless : (n : ℕ) (ns : List ℕ) → is_among n ns ≡ false → first_place_of n ns ≡ None
placeless n [] none = refl
placeless n (m ∷ ms) none =
    let apart = or_parts (m == n) (is_among n ms) none in
    cond-false (m == n) (Some 0) (option_map suc (first_place_of n ms)) apart.0 ∙ ap (λ (o : Option ℕ). option_map suc o) (placeless n ms apart.1)

placed-next : (b r : Bool) (o : Option ℕ) (i : ℕ) → ((j : ℕ) → o ≡ Some j → r ≡ true) → cond b (Some 0) (option_map suc o) ≡ Some i → (b || r) ≡ true
placed-next true r o i next at = refl
placed-next false r None i next at = absurd (cc)
placed-next false r (Some j) i next at = next j refl

placed : (n : ℕ) (ns : List ℕ) (i : ℕ) → first_place_of n ns ≡ Some i → is_among n ns ≡ true
placed n [] i at = absurd (cc)
placed n (m ∷ ms) i at = placed-next (m == n) (is_among n ms) (first_place_of n ms) i (λ j h. placed n ms j h) at

push-next : (b c : Bool) (o : Option ℕ) (l : ℕ) → (b ≡ true → c ≡ false) → cond c (Some 0) (option_map suc (cond b (Some l) o)) ≡ cond b (Some (suc l)) (cond c (Some 0) (option_map suc o))
push-next true true o l apart = absurd (both_ways true (apart refl) refl)
push-next true false o l apart = refl
push-next false c o l apart = refl

pub place_of-push : (n m : ℕ) (ns : List ℕ) → first_place_of n ns ≡ None → first_place_of m (ns ++ n ∷ []) ≡ cond (n == m) (Some (length ns)) (first_place_of m ns)
place_of-push n m [] none = refl
place_of-push n m (k ∷ ks) none =
    let apart = none-head (k == n) (first_place_of n ks) none in
    ap (λ (o : Option ℕ). cond (k == m) (Some 0) (option_map suc o)) (place_of-push n m ks apart.1)
    ∙ push-next (n == m) (k == m) (first_place_of m ks) (length ks) (λ e. ap (λ (q : ℕ). k == q) (sym (eqb-true n m e)) ∙ apart.0)

-- ---- numbers of which no two are equal, and none is 0

abbrev AllDiffer : List ℕ → Type 0
AllDiffer [] = Unit {0}
AllDiffer (m ∷ ms) = (first_place_of m ms ≡ None) × AllDiffer ms

AllDiffer-push : (n : ℕ) (ns : List ℕ) → AllDiffer ns → first_place_of n ns ≡ None → AllDiffer (ns ++ n ∷ [])
AllDiffer-push n [] differ none = (refl, tt)
AllDiffer-push n (m ∷ ms) differ none =
    let apart = none-head (m == n) (first_place_of n ms) none in
    (place_of-push n m ms apart.1 ∙ cond-false (n == m) (Some (length ms)) (first_place_of m ms) (flipped m n apart.0) ∙ differ.0, AllDiffer-push n ms differ.1 apart.1)

record ArePages (ns : List ℕ) : Type 0 where
  differ : AllDiffer ns
  above : first_place_of 0 ns ≡ None

ArePages-next : (b : Bool) (n : ℕ) (ns : List ℕ) → is_known n ns ≡ b → ArePages ns → ArePages (cond b ns (ns ++ n ∷ []))
ArePages-next true n ns known pages = pages
ArePages-next false n ns known pages =
    let new = or_parts (n == 0) (is_among n ns) known in
    let none = placeless n ns new.1 in
    record {
      differ = AllDiffer-push n ns pages.differ none;
      above = place_of-push n 0 ns none ∙ cond-false (n == 0) (Some (length ns)) (first_place_of 0 ns) new.0 ∙ pages.above;
    }

ArePages-after : (ns : List ℕ) (ps : List SegmentView) → ArePages ns → ArePages (numbers_after ns ps)
ArePages-after ns [] pages = pages
ArePages-after ns (p ∷ ps) pages =
    let n = p.header.page_association in
    ArePages-after (with_page_number n ns) ps (ArePages-next (is_known n ns) n ns refl pages)

are_pages : (ps : List SegmentView) → ArePages (numbers_after [] ps)
are_pages ps = ArePages-after [] ps (record { differ = tt; above = refl })

numbers-push : (ns : List ℕ) (ps : List SegmentView) (p : SegmentView) → numbers_after ns (ps ++ p ∷ []) ≡ with_page_number p.header.page_association (numbers_after ns ps)
numbers-push ns [] p = refl
numbers-push ns (q ∷ ps) p = numbers-push (with_page_number q.header.page_association ns) ps p

-- ---- a number that isn't among the pages' has no segments

stays-next : (b : Bool) (n q : ℕ) (ns : List ℕ) → is_among n ns ≡ true → is_among n (cond b ns (ns ++ q ∷ [])) ≡ true
stays-next true n q ns among = among
stays-next false n q ns among = list_any-append (λ m. m == n) ns (q ∷ []) ∙ or_left (is_among n ns) (is_among n (q ∷ [])) among

stays : (n : ℕ) (ns : List ℕ) (ps : List SegmentView) → is_among n ns ≡ true → is_among n (numbers_after ns ps) ≡ true
stays n ns [] among = among
stays n ns (p ∷ ps) among =
    let q = p.header.page_association in
    stays n (with_page_number q ns) ps (stays-next (is_known q ns) n q ns among)

new-next : (b : Bool) (n : ℕ) (ns : List ℕ) → is_known n ns ≡ b → (n == 0) ≡ false → is_among n (cond b ns (ns ++ n ∷ [])) ≡ true
new-next true n ns known above = sym (ap (λ (b : Bool). b || is_among n ns) above) ∙ known
new-next false n ns known above = list_any-append (λ m. m == n) ns (n ∷ []) ∙ or_right (is_among n ns) (is_among n (n ∷ [])) (or_left (n == n) false (eq-eqb n n refl))

none-next : (b : Bool) (n : ℕ) (ns : List ℕ) (p : SegmentView) (ps : List SegmentView) → (p.header.page_association == n) ≡ b → (n == 0) ≡ false → is_among n (numbers_after ns (p ∷ ps)) ≡ false → of_page n ps ≡ [] → cond b (p ∷ of_page n ps) (of_page n ps) ≡ []
none-next true n ns p ps here above none others =
    let Among : ℕ → Type 0 = λ q. is_among n (with_page_number q ns) ≡ true in
    let among = subst Among (sym (eqb-true p.header.page_association n here)) (new-next (is_known n ns) n ns refl above) in
    absurd (both_ways (is_among n (numbers_after ns (p ∷ ps))) none (stays n (with_page_number p.header.page_association ns) ps among))
none-next false n ns p ps here above none others = others

pub no_segments : (n : ℕ) (ns : List ℕ) (ps : List SegmentView) → (n == 0) ≡ false → is_among n (numbers_after ns ps) ≡ false → of_page n ps ≡ []
no_segments n ns [] above none = refl
no_segments n ns (p ∷ ps) above none = none-next (p.header.page_association == n) n ns p ps refl above none (no_segments n (with_page_number p.header.page_association ns) ps above none)

-- ---- two functions of numbers that differ at one of them

abbrev AgreeBut : {X : Type 0} → ℕ → (f g : ℕ → X) → Type 0
AgreeBut n f g = (m : ℕ) → (m == n) ≡ false → g m ≡ f m

map-apart : {X : Type 0} (n : ℕ) (f g : ℕ → X) (ns : List ℕ) → AgreeBut n f g → is_among n ns ≡ false → map g ns ≡ map f ns
map-apart n f g [] same none = refl
map-apart {X} n f g (m ∷ ms) same none =
    let apart = or_parts (m == n) (is_among n ms) none in
    ap (λ (x : X). x ∷ map g ms) (same m apart.0) ∙ ap (λ (xs : List X). f m ∷ xs) (map-apart n f g ms same apart.1)

-- one is at this place, and the others agree
abbrev SetAt : {X : Type 0} → (f g : ℕ → X) → ℕ → List ℕ → ℕ → Type 0
SetAt f g n ns i = (i < length ns) × (map g ns ≡ set (map f ns) i (g n)) × (get_or (map f ns) i (g n) ≡ f n)

map-next : {X : Type 0} (b : Bool) (o : Option ℕ) (n : ℕ) (f g : ℕ → X) (m : ℕ) (ms : List ℕ) (i : ℕ) → (m == n) ≡ b → AgreeBut n f g → first_place_of m ms ≡ None → ((j : ℕ) → o ≡ Some j → SetAt f g n ms j) → cond b (Some 0) (option_map suc o) ≡ Some i → SetAt f g n (m ∷ ms) i
map-next {X} true o n f g m ms i here same differ next at =
    let e : m ≡ n = eqb-true m n here in
    let first : 0 ≡ i = cc in
    let others : map g ms ≡ map f ms = map-apart n f g ms same (unplaced n ms (ap (λ q. first_place_of q ms) (sym e) ∙ differ)) in
    subst (SetAt f g n (m ∷ ms)) first (omega arith, ap (λ q. g q ∷ map g ms) e ∙ ap (λ (xs : List X). g n ∷ xs) others, ap f e)
map-next false None n f g m ms i here same differ next at = absurd (cc)
map-next {X} false (Some j) n f g m ms i here same differ next at =
    let later : suc j ≡ i = cc in
    let rest = next j refl in
    subst (SetAt f g n (m ∷ ms)) later (omega (arith, rest.0), ap (λ (x : X). x ∷ map g ms) (same m here) ∙ ap (λ (xs : List X). f m ∷ xs) rest.1, rest.2)

map-at : {X : Type 0} (n : ℕ) (f g : ℕ → X) (ns : List ℕ) (i : ℕ) → AgreeBut n f g → AllDiffer ns → first_place_of n ns ≡ Some i → SetAt f g n ns i
map-at n f g [] i same differ at = absurd (cc)
map-at n f g (m ∷ ms) i same differ at = map-next (m == n) (first_place_of n ms) n f g m ms i refl same differ.0 (λ j h. map-at n f g ms j same differ.1 h) at

-- ---- one more segment

of_page-same : (p : SegmentView) (ps : List SegmentView) → AgreeBut p.header.page_association (λ n. of_page n ps) (λ n. of_page n (ps ++ p ∷ []))
of_page-same p ps m apart =
    filter-append (λ (q : SegmentView). q.header.page_association == m) ps (p ∷ [])
    ∙ ap (λ (b : Bool). of_page m ps ++ cond b (p ∷ []) []) (flipped m p.header.page_association apart)
    ∙ append-nil (of_page m ps)

of_page-more : (p : SegmentView) (ps : List SegmentView) (n : ℕ) → p.header.page_association ≡ n → of_page n (ps ++ p ∷ []) ≡ of_page n ps ++ p ∷ []
of_page-more p ps n here =
    filter-append (λ (q : SegmentView). q.header.page_association == n) ps (p ∷ [])
    ∙ ap (λ (b : Bool). of_page n ps ++ cond b (p ∷ []) []) (eq-eqb p.header.page_association n here)

numbers-known : (ps : List SegmentView) (p : SegmentView) → is_known p.header.page_association (numbers_after [] ps) ≡ true → numbers_after [] (ps ++ p ∷ []) ≡ numbers_after [] ps
numbers-known ps p known =
    let ns = numbers_after [] ps in
    numbers-push [] ps p ∙ cond-true (is_known p.header.page_association ns) ns (ns ++ p.header.page_association ∷ []) known

numbers-new : (ps : List SegmentView) (p : SegmentView) → is_known p.header.page_association (numbers_after [] ps) ≡ false → numbers_after [] (ps ++ p ∷ []) ≡ numbers_after [] ps ++ p.header.page_association ∷ []
numbers-new ps p known =
    let ns = numbers_after [] ps in
    numbers-push [] ps p ∙ cond-false (is_known p.header.page_association ns) ns (ns ++ p.header.page_association ∷ []) known

by_pages-shared : (ps : List SegmentView) (p : SegmentView) → p.header.page_association ≡ 0 → by_pages (ps ++ p ∷ []) ≡ by_pages ps
by_pages-shared ps p here =
    let n = p.header.page_association in
    let ns = numbers_after [] ps in
    let none : first_place_of n ns ≡ None = ap (λ (m : ℕ). first_place_of m ns) here ∙ (are_pages ps).above in
    ap (λ (ms : List ℕ). map (λ m. of_page m (ps ++ p ∷ [])) ms) (numbers-known ps p (or_left (n == 0) (is_among n ns) (eq-eqb n 0 here)))
    ∙ map-apart n (λ m. of_page m ps) (λ m. of_page m (ps ++ p ∷ [])) ns (of_page-same p ps) (unplaced n ns none)

by_pages-known : (ps : List SegmentView) (p : SegmentView) (i : ℕ) → first_place_of p.header.page_association (numbers_after [] ps) ≡ Some i → by_pages (ps ++ p ∷ []) ≡ set (by_pages ps) i (of_page p.header.page_association ps ++ p ∷ [])
by_pages-known ps p i at =
    let n = p.header.page_association in
    let ns = numbers_after [] ps in
    let there = map-at n (λ m. of_page m ps) (λ m. of_page m (ps ++ p ∷ [])) ns i (of_page-same p ps) (are_pages ps).differ at in
    ap (λ (ms : List ℕ). map (λ m. of_page m (ps ++ p ∷ [])) ms) (numbers-known ps p (or_right (n == 0) (is_among n ns) (placed n ns i at)))
    ∙ there.1 ∙ ap (λ (own : List SegmentView). set (by_pages ps) i own) (of_page-more p ps n refl)

by_pages-new : (ps : List SegmentView) (p : SegmentView) → (p.header.page_association == 0) ≡ false → first_place_of p.header.page_association (numbers_after [] ps) ≡ None → by_pages (ps ++ p ∷ []) ≡ by_pages ps ++ (p ∷ []) ∷ []
by_pages-new ps p above none =
    let n = p.header.page_association in
    let ns = numbers_after [] ps in
    let new : is_among n ns ≡ false = unplaced n ns none in
    let f : ℕ → List SegmentView = λ m. of_page m ps in
    let g : ℕ → List SegmentView = λ m. of_page m (ps ++ p ∷ []) in
    ap (λ (ms : List ℕ). map g ms) (numbers-new ps p (or_from (n == 0) (is_among n ns) above new))
    ∙ map_push g ns n
    ∙ ap (λ (pages : List (List SegmentView)). pages ++ g n ∷ []) (map-apart n f g ns (of_page-same p ps) new)
    ∙ ap (λ (own : List SegmentView). by_pages ps ++ own ∷ []) (of_page-more p ps n refl ∙ ap (λ (own : List SegmentView). own ++ p ∷ []) (no_segments n [] ps above new))

-- ---- the same as they are kept

tests-next : (b c : Bool) → (b ≡ true → c ≡ false) → is_eq (cond b Less (cond c Equal Greater)) ≡ c
tests-next true c apart = sym (apart refl)
tests-next false true apart = refl
tests-next false false apart = refl

same_test : (m n : ℕ) → is_eq (nat_cmp m n) ≡ (m == n)
same_test m n = tests-next (nat_lt m n) (m == n) (λ less. ne_eqb m n (λ e. let below : m < n = ltb-true m n less in omega arith))

counted : {A : Type 0} (s : SegmentsByPage A) (ps : List SegmentView) → HasSegments s ps → length s.pages.items ≡ length (numbers_after [] ps)
counted {A} s ps has =
    sym (length-map s.pages.items (λ (v : Vec (Segment A) A). segment_views v.items))
    ∙ ap (λ (pages : List (List SegmentView)). length pages) has.pages
    ∙ length-map (numbers_after [] ps) (λ n. of_page n ps)

-- the page at the place of a number
in_page : {A : Type 0} (s : SegmentsByPage A) (ps : List SegmentView) (n i : ℕ) → get nat_cmp s.places n ≡ Some i → HasSegments s ps → (first_place_of n (numbers_after [] ps) ≡ Some i) × (i < length s.pages.items) × (get_or (by_pages ps) i (of_page n ps) ≡ of_page n ps)
in_page s ps n i at has =
    let there : first_place_of n (numbers_after [] ps) ≡ Some i = sym (has.found n) ∙ at in
    let same = map-at n (λ m. of_page m ps) (λ m. of_page m ps) (numbers_after [] ps) i (λ m apart. refl) (are_pages ps).differ there in
    (there, omega (arith, same.0, counted s ps has), same.2)

pub within : {A : Type 0} (s : SegmentsByPage A) (ps : List SegmentView) (n i : ℕ) → get nat_cmp s.places n ≡ Some i → HasSegments s ps → i < length s.pages.items
within s ps n i at has = (in_page s ps n i at has).1

module _ {A : Type 0} (s t : SegmentsByPage A) (x : Segment A) (ps : List SegmentView) where
  -- one that is outside of the pages
  pub has-shared : x.header.page_association ≡ 0 → t.shared.items ≡ s.shared.items ++ x ∷ [] → t.pages ≡ s.pages → t.places ≡ s.places → HasSegments s ps → HasSegments t (ps ++ segment_view x ∷ [])
  has-shared here shared pages places has =
      let p = segment_view x in
      let ns = numbers_after [] ps in
      let numbers = numbers-known ps p (or_left (p.header.page_association == 0) (is_among p.header.page_association ns) (eq-eqb p.header.page_association 0 here)) in
      record {
        shared = ap (λ (xs : List (Segment A)). segment_views xs) shared ∙ map_push (λ (y : Segment A). segment_view y) s.shared.items x ∙ ap (λ (own : List SegmentView). own ++ p ∷ []) has.shared ∙ sym (of_page-more p ps 0 here);
        pages = ap (λ v. pages_view v.items) pages ∙ has.pages ∙ sym (by_pages-shared ps p here);
        found = λ n. ap (λ m. get nat_cmp m n) places ∙ has.found n ∙ ap (λ (ms : List ℕ). first_place_of n ms) (sym numbers);
      }

  -- one of a page that is known
  pub has-known : (i : ℕ) (own y : Vec (Segment A) A) → (x.header.page_association == 0) ≡ false → get nat_cmp s.places x.header.page_association ≡ Some i → own ≡ get_or s.pages.items i own → y.items ≡ own.items ++ x ∷ [] → t.shared ≡ s.shared → t.pages.items ≡ set s.pages.items i y → t.places ≡ s.places → HasSegments s ps → HasSegments t (ps ++ segment_view x ∷ [])
  has-known i own y above at is more shared pages places has =
      let p = segment_view x in
      let n = p.header.page_association in
      let there = in_page s ps n i at has in
      let numbers = numbers-known ps p (or_right (n == 0) (is_among n (numbers_after [] ps)) (placed n (numbers_after [] ps) i there.0)) in
      let before : segment_views own.items ≡ of_page n ps =
      sym (get_or-map (λ (v : Vec (Segment A) A). segment_views v.items) s.pages.items i own (of_page n ps) there.1 ∙ ap (λ (v : Vec (Segment A) A). segment_views v.items) (sym is))
      ∙ ap (λ (own_segments : List (List SegmentView)). get_or own_segments i (of_page n ps)) has.pages ∙ there.2 in
      record {
        shared = ap (λ v. segment_views v.items) shared ∙ has.shared ∙ sym (of_page-same p ps 0 (flipped n 0 above));
        pages =
            ap (λ (vs : List (Vec (Segment A) A)). pages_view vs) pages
            ∙ map-set (λ (v : Vec (Segment A) A). segment_views v.items) s.pages.items i y
            ∙ ap (λ (own_segments : List (List SegmentView)). set own_segments i (segment_views y.items)) has.pages
            ∙ ap (λ (own_segments : List SegmentView). set (by_pages ps) i own_segments) (ap (λ (xs : List (Segment A)). segment_views xs) more ∙ map_push (λ (z : Segment A). segment_view z) own.items x ∙ ap (λ (own_segments : List SegmentView). own_segments ++ p ∷ []) before)
            ∙ sym (by_pages-known ps p i there.0);
        found = λ m. ap (λ v. get nat_cmp v m) places ∙ has.found m ∙ ap (λ (ms : List ℕ). first_place_of m ms) (sym numbers);
      }

  -- the first one of a page
  pub has-new : (k : ℕ) (y : Vec (Segment A) A) → k ≡ length s.pages.items → (x.header.page_association == 0) ≡ false → get nat_cmp s.places x.header.page_association ≡ None → y.items ≡ x ∷ [] → t.shared ≡ s.shared → t.pages.items ≡ s.pages.items ++ y ∷ [] → Updates nat_cmp s.places t.places x.header.page_association (Some k) → HasSegments s ps → HasSegments t (ps ++ segment_view x ∷ [])
  has-new k y count above at one shared pages places has =
      let p = segment_view x in
      let n = p.header.page_association in
      let ns = numbers_after [] ps in
      let none : first_place_of n ns ≡ None = sym (has.found n) ∙ at in
      let numbers = numbers-new ps p (or_from (n == 0) (is_among n ns) above (unplaced n ns none)) in
      record {
        shared = ap (λ v. segment_views v.items) shared ∙ has.shared ∙ sym (of_page-same p ps 0 (flipped n 0 above));
        pages =
            ap (λ (vs : List (Vec (Segment A) A)). pages_view vs) pages
            ∙ map_push (λ (v : Vec (Segment A) A). segment_views v.items) s.pages.items y
            ∙ ap (λ (own_segments : List (List SegmentView)). own_segments ++ segment_views y.items ∷ []) has.pages
            ∙ ap (λ (xs : List (Segment A)). by_pages ps ++ segment_views xs ∷ []) one
            ∙ sym (by_pages-new ps p above none);
        found = λ m.
            places.0 m
            ∙ ap (λ (b : Bool). cond b (Some k) (get nat_cmp s.places m)) (same_test n m)
            ∙ ap (λ (i : ℕ). cond (n == m) (Some i) (get nat_cmp s.places m)) (count ∙ counted s ps has)
            ∙ ap (λ (o : Option ℕ). cond (n == m) (Some (length ns)) o) (has.found m)
            ∙ sym (ap (λ (ms : List ℕ). first_place_of m ms) numbers ∙ place_of-push n m ns none);
      }

-- It has those that came, and the rest follow them.
pub record HasSomeSegments {A : Type 0} (s : SegmentsByPage A) (rest all : List SegmentView) : Type 0 where
  pub came : List SegmentView
  pub has : HasSegments s came
  pub all_are : came ++ rest ≡ all

pub has-none : {A : Type 0} (s : SegmentsByPage A) (rest all : List SegmentView) → s.shared.items ≡ [] → s.pages.items ≡ [] → s.places.entries ≡ [] → rest ≡ all → HasSomeSegments s rest all
has-none {A} s rest all shared pages places is = record {
  came = [];
  has = record {
    shared = ap (λ (xs : List (Segment A)). segment_views xs) shared;
    pages = ap (λ (vs : List (Vec (Segment A) A)). pages_view vs) pages;
    found = λ n. ap (λ es. lookup (is_at (nat_cmp n)) es) places;
  };
  all_are = is;
}

pub has-more : {A : Type 0} (s t : SegmentsByPage A) (p : SegmentView) (before rest all : List SegmentView) → before ≡ p ∷ rest → (some : HasSomeSegments s before all) → HasSegments t (some.came ++ p ∷ []) → HasSomeSegments t rest all
has-more s t p before rest all is some more = record {
  came = some.came ++ p ∷ [];
  has = more;
  all_are = append_assoc some.came (p ∷ []) rest ∙ ap (λ (ps : List SegmentView). some.came ++ ps) (sym is) ∙ some.all_are;
}

-- all segments were put to their pages
pub has-all : {A : Type 0} (s : SegmentsByPage A) (rest all : List SegmentView) → length rest ≡ 0 → HasSomeSegments s rest all → (of_page 0 all ≡ segment_views s.shared.items) × (by_pages all ≡ pages_view s.pages.items)
has-all s [] all none some =
    let whole : some.came ≡ all = sym (append-nil some.came) ∙ some.all_are in
    (ap (λ (ps : List SegmentView). of_page 0 ps) (sym whole) ∙ sym some.has.shared, ap (λ (ps : List SegmentView). by_pages ps) (sym whole) ∙ sym some.has.pages)
has-all s (p ∷ ps) all none some = absurd (omega arith)
