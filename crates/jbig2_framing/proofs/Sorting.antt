-- What is in order by a key and keeps the order of equal keys is the insertion sort.
use Rattle.std.proofs.Common.{◌≡◌, ℕ, suc, ◌<◌, ◌≤◌, List, [], ◌∷◌, map, length, get_or, Bool, true, false, cond, not, ◌&&◌, ltb, eqb, nat_cmp, is_lt, refl, sym, ◌∙◌, ap, arith, ⊎_elim}
use Rattle.std.specs.List.{filter}
use Rattle.std.specs.List.Sorted.{IsNonDecreasingBy, IsStableByKey}
use Rattle.std.proofs.lemmas.Bool.Decides.{nat_tests, leb_tells}
use Rattle.std.proofs.lemmas.List.Elements.{filter_agree}
use Rattle.jbig2_framing.specs.Sequential.{insert_by, sorted_by}

-- a choice under a function
cond-ap : {X Y : Type 0} (f : X → Y) (b : Bool) (x y : X) → f (cond b x y) ≡ cond b (f x) (f y)
cond-ap f true x y = refl
cond-ap f false x y = refl

module _ {X : Type 0} (key : X → ℕ) where
  -- the elements of xs with this key
  abbrev with_key : ℕ → List X → List X
  with_key k xs = filter (λ y. eqb (key y) k) xs

  -- no key is below k
  abbrev AllFrom : ℕ → List X → Type 0
  AllFrom k [] = Unit {0}
  AllFrom k (y ∷ ys) = (k ≤ key y) × AllFrom k ys

  abbrev Ascends : List X → Type 0
  Ascends [] = Unit {0}
  Ascends (x ∷ xs) = AllFrom (key x) xs × Ascends xs

  all_from : (k : ℕ) (x : X) (xs : List X) → ((i : ℕ) → i < length xs → k ≤ key (get_or xs i x)) → AllFrom k xs
  all_from k x [] h = tt
  all_from k x (y ∷ ys) h = (h 0 (omega arith), all_from k x ys (λ i p. h (suc i) (omega arith)))

  ascends_from : (xs : List X) → IsNonDecreasingBy key xs → Ascends xs
  ascends_from [] h = tt
  ascends_from (x ∷ xs) h = (all_from (key x) x xs (λ i p. h 0 (suc i) x (omega arith) (omega arith)), ascends_from xs (λ i j d p q. h (suc i) (suc j) d (omega arith) (omega arith)))

  -- an insertion keeps the order
  all_from-less : (j k : ℕ) (ys : List X) → j ≤ k → AllFrom k ys → AllFrom j ys
  all_from-less j k [] le h = tt
  all_from-less j k (y ∷ ys) le h = (let at = h.0 in omega arith, all_from-less j k ys le h.1)

  all_from-insert : (k : ℕ) (x : X) (ys : List X) → k ≤ key x → AllFrom k ys → AllFrom k (insert_by key x ys)
  all_from-insert k x [] le h = (le, tt)
  all_from-insert k x (y ∷ ys) le h =
      elim (ltb (key y) (key x)) as (λ b. AllFrom k (cond b (y ∷ insert_by key x ys) (x ∷ y ∷ ys))) [
        | true ↦ (h.0, all_from-insert k x ys le h.1)
        | false ↦ (le, h)
      ]

  ascends-insert : (x : X) (ys : List X) → Ascends ys → Ascends (insert_by key x ys)
  ascends-insert x [] h = (tt, tt)
  ascends-insert x (y ∷ ys) h = by_test (ltb (key y) (key x)) refl (ascends-insert x ys h.1)
    where
      by_test : (b : Bool) → ltb (key y) (key x) ≡ b → Ascends (insert_by key x ys) → Ascends (cond b (y ∷ insert_by key x ys) (x ∷ y ∷ ys))
      by_test true e rest = (all_from-insert (key y) x ys (grind (arith, nat_tests)) h.0, rest)
      by_test false e rest =
          let le : key x ≤ key y = grind (arith, nat_tests) in
          ((le, all_from-less (key x) (key y) ys le h.0), h)

  sorted_ascends : (xs : List X) → Ascends (sorted_by key xs)
  sorted_ascends [] = tt
  sorted_ascends (x ∷ xs) = ascends-insert x (sorted_by key xs) (sorted_ascends xs)

  -- elements of different keys may change places
  with_key-swap : (k : ℕ) (x y : X) (l : List X) → key y < key x
      → cond (eqb (key y) k) (y ∷ cond (eqb (key x) k) (x ∷ l) l) (cond (eqb (key x) k) (x ∷ l) l) ≡ cond (eqb (key x) k) (x ∷ cond (eqb (key y) k) (y ∷ l) l) (cond (eqb (key y) k) (y ∷ l) l)
  with_key-swap k x y l lt = grind (arith, nat_tests)

  with_key-insert : (k : ℕ) (x : X) (ys : List X) → with_key k (insert_by key x ys) ≡ with_key k (x ∷ ys)
  with_key-insert k x [] = refl
  with_key-insert k x (y ∷ ys) = by_test (ltb (key y) (key x)) refl (with_key-insert k x ys)
    where
      by_test : (b : Bool) → ltb (key y) (key x) ≡ b → with_key k (insert_by key x ys) ≡ with_key k (x ∷ ys) → with_key k (cond b (y ∷ insert_by key x ys) (x ∷ y ∷ ys)) ≡ with_key k (x ∷ y ∷ ys)
      by_test true e rest =
          let lt : key y < key x = grind (arith, nat_tests) in
          ap (λ l. cond (eqb (key y) k) (y ∷ l) l) rest ∙ with_key-swap k x y (with_key k ys) lt
      by_test false e rest = refl

  with_key-sorted : (k : ℕ) (xs : List X) → with_key k (sorted_by key xs) ≡ with_key k xs
  with_key-sorted k [] = refl
  with_key-sorted k (x ∷ xs) = with_key-insert k x (sorted_by key xs) ∙ ap (λ l. cond (eqb (key x) k) (x ∷ l) l) (with_key-sorted k xs)

  -- no element of a lower key
  with_key-none : (k : ℕ) (xs : List X) → AllFrom (suc k) xs → with_key k xs ≡ []
  with_key-none k [] h = refl
  with_key-none k (x ∷ xs) h =
      let at = h.0 in
      let rest = with_key-none k xs h.1 in
      let other : eqb (key x) k ≡ false = grind (arith, nat_tests) in
      ap (λ b. cond b (x ∷ with_key k xs) (with_key k xs)) other ∙ rest

  with_key-own : (x : X) (xs : List X) → with_key (key x) (x ∷ xs) ≡ x ∷ with_key (key x) xs
  with_key-own x xs =
      let same : eqb (key x) (key x) ≡ true = grind (arith, nat_tests) in
      ap (λ b. cond b (x ∷ with_key (key x) xs) (with_key (key x) xs)) same

  -- what begins a list in order has a key no higher than any in it
  first_least : (k : ℕ) (x y : X) (xs ys : List X) → AllFrom (key x) xs → with_key k (x ∷ xs) ≡ y ∷ ys → key x ≤ k
  first_least k x y xs ys up e =
      ⊎_elim
      (λ low. low.1)
      (λ high.
      let above : suc k ≤ key x = omega (arith, high.1) in
      let none = with_key-none k (x ∷ xs) (above, all_from-less (suc k) (key x) xs above up) in
      absurd (cc))
      (leb_tells (key x) k)

  with_key-tail : (k : ℕ) (x : X) (xs ys : List X) → with_key k (x ∷ xs) ≡ with_key k (x ∷ ys) → with_key k xs ≡ with_key k ys
  with_key-tail k x xs ys = by_test (eqb (key x) k)
    where
      by_test : (b : Bool) → cond b (x ∷ with_key k xs) (with_key k xs) ≡ cond b (x ∷ with_key k ys) (with_key k ys) → with_key k xs ≡ with_key k ys
      by_test true e = cc
      by_test false e = e

  -- lists in order are equal where they have the same elements of each key in the same order
  same_ascending : (xs ys : List X) → Ascends xs → Ascends ys → ((x : X) → with_key (key x) xs ≡ with_key (key x) ys) → xs ≡ ys
  same_ascending [] [] up up' same = refl
  same_ascending [] (y ∷ ys) up up' same = let e = same y in let own = with_key-own y ys in cc
  same_ascending (x ∷ xs) [] up up' same = let e = same x in let own = with_key-own x xs in cc
  same_ascending (x ∷ xs) (y ∷ ys) up up' same =
      let own = with_key-own x xs in
      let own' = with_key-own y ys in
      let a : key x ≤ key y = first_least (key y) x y xs (with_key (key y) ys) up.0 (same y ∙ own') in
      let b : key y ≤ key x = first_least (key x) y x ys (with_key (key x) xs) up'.0 (sym (same x) ∙ own) in
      let keys : key y ≡ key x = omega arith in
      let heads : x ∷ with_key (key x) xs ≡ y ∷ with_key (key x) ys = sym own ∙ same x ∙ ap (λ k. with_key k (y ∷ ys)) (sym keys) ∙ own' ∙ ap (λ k. y ∷ with_key k ys) keys in
      let head : x ≡ y = cc in
      let tails = λ (z : X). with_key-tail (key z) x xs ys (same z ∙ ap (λ w. with_key (key z) (w ∷ ys)) (sym head)) in
      ap (λ w. w ∷ xs) head ∙ ap (λ l. y ∷ l) (same_ascending xs ys up.1 up'.1 tails)

  -- two keys tie where they are equal
  tie-eqb : (j k : ℕ) → not (is_lt (nat_cmp j k)) && not (is_lt (nat_cmp k j)) ≡ eqb k j
  tie-eqb j k = grind (arith, nat_tests)

  pub stable_sort : (old new : List X) → IsNonDecreasingBy key new → IsStableByKey key nat_cmp old new → new ≡ sorted_by key old
  stable_sort old new up stable =
      same_ascending new (sorted_by key old) (ascends_from new up) (sorted_ascends old) (λ x.
      let test = λ (y : X). tie-eqb (key x) (key y) in
      sym (filter_agree _ _ test new) ∙ stable x ∙ filter_agree _ _ test old ∙ sym (with_key-sorted (key x) old))

-- a sort by a key of the view is a sort of the views
module _ {X Y : Type 0} (f : X → Y) (key : Y → ℕ) where
  map_insert : (x : X) (ys : List X) → map f (insert_by (λ y. key (f y)) x ys) ≡ insert_by key (f x) (map f ys)
  map_insert x [] = refl
  map_insert x (y ∷ ys) =
      let test = ltb (key (f y)) (key (f x)) in
      cond-ap (map f) test (y ∷ insert_by (λ z. key (f z)) x ys) (x ∷ y ∷ ys) ∙ ap (λ l. cond test (f y ∷ l) (f x ∷ f y ∷ map f ys)) (map_insert x ys)

  pub map_sorted : (xs : List X) → map f (sorted_by (λ x. key (f x)) xs) ≡ sorted_by key (map f xs)
  map_sorted [] = refl
  map_sorted (x ∷ xs) = map_insert x (sorted_by (λ y. key (f y)) xs) ∙ ap (insert_by key (f x)) (map_sorted xs)
