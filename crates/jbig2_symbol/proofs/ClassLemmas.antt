-- Height classes.
use Rattle.std.proofs.Common.{◌≡◌, ℕ, zero, suc, ◌+◌, ◌-◌, ◌<◌, ◌≤◌, List, [], ◌∷◌, ◌++◌, length, Option, Some, None, Result, Ok, Err, ℤ, pos, ◌+ℤ◌, true, leb, refl, sym, ap, subst, ◌∙◌, ◌⊎◌, inl, inr, append_assoc, length-append, arith}
use Rattle.std.specs.Prelude.{sum}
use Rattle.std.proofs.lemmas.Bool.{le-leb, lt-leb}
use Rattle.std.proofs.lemmas.List.{append-nil}
use Rattle.std.proofs.lemmas.List.Sums.{sum_by-append}
use Rattle.jbig2_base.specs.Results.{◌>>=◌, Gives}
use Rattle.jbig2_base.specs.Bits.{Place}
use Rattle.jbig2_base.specs.Grid.{Grid}
use Rattle.jbig2_base.specs.declared.error.DecodeError.{DecodeError}
use Rattle.jbig2_base.specs.declared.error.DecodeError.TheVariants as errors
use Rattle.jbig2_symbol.specs.SymbolBitmaps.{collective_bitmap, symbols_cut}
use Rattle.jbig2_base.proofs.Causes.{same-ok}
use Rattle.jbig2_symbol.specs.HeightClasses.{classes_from, drawn_class, empty_class, height_class, next_width, size_in_word, symbols_from, widths_from}
use Rattle.jbig2_symbol.specs.SymbolCoding.{collective_class, symbols_by_prefix_codes}
use Rattle.jbig2_symbol.specs.SymbolReading.{ClassReadings, SymbolInput, SymbolReadings, SymbolState}
use Rattle.jbig2_symbol.proofs.ConcatLemmas.{concat-cons}
use Rattle.jbig2_symbol.specs.inner.FunctionResults.{class_after, concat, empty_with, room_after, symbols_after}

-- ---- the widths of a class
pub widths-done : {S : Type 0} (r : SymbolReadings S) (d : SymbolInput) (room width total : ℕ) (before : List ℕ) (s t : S) (next : Option (ℕ × ℕ)) → next ≡ None → next_width r d room width total s ≡ Ok (next, t) → concat before (widths_from r d room width total s) ≡ Ok (before, t)
unfolding widths_from
widths-done r d zero width total before s t next none e = rw e (ap (λ (all : List ℕ). Ok (all, t)) (append-nil before))
widths-done r d (suc room) width total before s t next none e = rw (e, none) (ap (λ (all : List ℕ). Ok (all, t)) (append-nil before))

pub widths-fault : {S : Type 0} (r : SymbolReadings S) (d : SymbolInput) (room width total : ℕ) (before : List ℕ) (s : S) (error : DecodeError) → next_width r d room width total s ≡ Err error → concat before (widths_from r d room width total s) ≡ Err error
unfolding widths_from
widths-fault r d zero width total before s error e = rw e refl
widths-fault r d (suc room) width total before s error e = rw e refl

pub widths-next : {S : Type 0} (r : SymbolReadings S) (d : SymbolInput) (room left width total : ℕ) (before after : List ℕ) (s t : S) (next : Option (ℕ × ℕ)) (pair : ℕ × ℕ) → room ≡ suc left → next ≡ Some pair → after ≡ before ++ pair.0 ∷ [] → next_width r d room width total s ≡ Ok (next, t) → concat before (widths_from r d room width total s) ≡ concat after (widths_from r d left pair.0 pair.1 t)
unfolding widths_from
widths-next r d room left width total before after s t next pair more some pushed e =
    let read : next_width r d (suc left) width total s ≡ Ok (Some pair, t) = rw (some, more) at e in
    rw (more, pushed, read) (concat-cons before pair.0 (widths_from r d left pair.0 pair.1 t))

pub sum-pushed : (widths after : List ℕ) (total width new : ℕ) → total ≡ sum widths → after ≡ widths ++ width ∷ [] → new ≡ total + width → new ≡ sum after
sum-pushed widths after total width new before pushed is =
    let zero_more : 0 + width ≡ width = omega arith in
    let last : sum (widths ++ width ∷ []) ≡ sum widths + width = sum_by-append (λ (n : ℕ). n) widths (width ∷ []) ∙ ap (λ (n : ℕ). sum widths + n) zero_more in
    is ∙ ap (λ (n : ℕ). n + width) before ∙ sym last ∙ ap (λ (ws : List ℕ). sum ws) (sym pushed)

-- ---- the symbols of a class
pub symbols-done : {S : Type 0} (r : SymbolReadings S) (d : SymbolInput) (room height width total : ℕ) (before : List Grid) (s t : S) (next : Option (ℕ × ℕ)) → next ≡ None → next_width r d room width total s ≡ Ok (next, t) → concat before (symbols_from r d room height width total before s) ≡ Ok (before, t)
unfolding symbols_from
symbols-done r d zero height width total before s t next none e = rw e (ap (λ (all : List Grid). Ok (all, t)) (append-nil before))
symbols-done r d (suc room) height width total before s t next none e = rw (e, none) (ap (λ (all : List Grid). Ok (all, t)) (append-nil before))

pub symbols-fault : {S : Type 0} (r : SymbolReadings S) (d : SymbolInput) (room height width total : ℕ) (before : List Grid) (s : S) (error : DecodeError) → next_width r d room width total s ≡ Err error → concat before (symbols_from r d room height width total before s) ≡ Err error
unfolding symbols_from
symbols-fault r d zero height width total before s error e = rw e refl
symbols-fault r d (suc room) height width total before s error e = rw e refl

pub symbols-next : {S : Type 0} (r : SymbolReadings S) (d : SymbolInput) (room left height width total : ℕ) (before after : List Grid) (symbol : Grid) (s t u : S) (next : Option (ℕ × ℕ)) (pair : ℕ × ℕ) → room ≡ suc left → next ≡ Some pair → after ≡ before ++ symbol ∷ [] → next_width r d room width total s ≡ Ok (next, t) → r.symbol_bitmap d before pair.0 height t ≡ Ok (symbol, u) → concat before (symbols_from r d room height width total before s) ≡ concat after (symbols_from r d left height pair.0 pair.1 after u)
unfolding symbols_from
symbols-next r d room left height width total before after symbol s t u next pair more some pushed e drawn =
    let read : next_width r d (suc left) width total s ≡ Ok (Some pair, t) = rw (some, more) at e in
    rw (more, pushed, read, drawn) (concat-cons before symbol (symbols_from r d left height pair.0 pair.1 (before ++ symbol ∷ []) u))

pub symbols-undrawn : {S : Type 0} (r : SymbolReadings S) (d : SymbolInput) (room left height width total : ℕ) (before : List Grid) (s t : S) (next : Option (ℕ × ℕ)) (pair : ℕ × ℕ) (error : DecodeError) (whole : Result (List Grid × S) DecodeError) → room ≡ suc left → next ≡ Some pair → next_width r d room width total s ≡ Ok (next, t) → concat before (symbols_from r d room height width total before s) ≡ whole → (error ≡ errors.OutOfMemory) ⊎ (r.symbol_bitmap d before pair.0 height t ≡ Err error) → (error ≡ errors.OutOfMemory) ⊎ (whole ≡ Err error)
unfolding symbols_from
symbols-undrawn r d room left height width total before s t next pair error whole more some e so_far (inl memory) = inl memory
symbols-undrawn r d room left height width total before s t next pair error whole more some e so_far (inr undrawn) = inr (sym so_far ∙ fault)
  where
    fault : concat before (symbols_from r d room height width total before s) ≡ Err error
    fault = rw (more, read, undrawn) refl
      where
        read : next_width r d (suc left) width total s ≡ Ok (Some pair, t)
        read = rw (some, more) at e

-- ---- a class
-- with a test of how many symbols it has
checked : {S : Type 0} → Result (List Grid × S) DecodeError → ℕ → Result (List Grid × S) DecodeError
checked result empty = result >>= λ symbols. empty_class (length symbols.0) empty >>= λ _. Ok symbols

checked-made : {S : Type 0} (result : Result (List Grid × S) DecodeError) (empty : ℕ) (before after : List Grid) (t : S) → concat before result ≡ Ok (after, t) → empty_class (length after - length before) empty ≡ Ok tt → concat before (checked result empty) ≡ Ok (after, t)
unfolding checked
checked-made {S} (Ok more) empty before after t made few =
    let all : before ++ more.0 ≡ after = ap (λ (p : List Grid × S). p.0) (same-ok _ _ made) in
    let count : length after - length before ≡ length more.0 = omega (arith, length-append before more.0, ap (λ (gs : List Grid). length gs) all) in
    rw (ap (λ (n : ℕ). empty_class n empty) (sym count) ∙ few) made
checked-made (Err e) empty before after t made few = made

checked-fault : {S : Type 0} (result : Result (List Grid × S) DecodeError) (empty : ℕ) (before after : List Grid) (t : S) (error : DecodeError) → concat before result ≡ Ok (after, t) → empty_class (length after - length before) empty ≡ Err error → concat before (checked result empty) ≡ Err error
unfolding checked
checked-fault {S} (Ok more) empty before after t error made few =
    let all : before ++ more.0 ≡ after = ap (λ (p : List Grid × S). p.0) (same-ok _ _ made) in
    let count : length after - length before ≡ length more.0 = omega (arith, length-append before more.0, ap (λ (gs : List Grid). length gs) all) in
    rw (ap (λ (n : ℕ). empty_class n empty) (sym count) ∙ few) refl
checked-fault (Err e) empty before after t error made few = cc

checked-unread : {S : Type 0} (result : Result (List Grid × S) DecodeError) (empty : ℕ) (before : List Grid) (error : DecodeError) → concat before result ≡ Err error → concat before (checked result empty) ≡ Err error
unfolding checked
checked-unread (Ok more) empty before error e = cc
checked-unread (Err f) empty before error e = e

pub drawn-made : {S : Type 0} (r : SymbolReadings S) (d : SymbolInput) (height empty : ℕ) (before after : List Grid) (s t : S) → concat before (symbols_from r d (room_after d before) height 0 0 before s) ≡ Ok (after, t) → empty_class (length after - length before) empty ≡ Ok tt → concat before (drawn_class r d height empty before s) ≡ Ok (after, t)
unfolding drawn_class checked
drawn-made r d height empty before after s t made few = checked-made (symbols_from r d (room_after d before) height 0 0 before s) empty before after t made few

pub drawn-fault : {S : Type 0} (r : SymbolReadings S) (d : SymbolInput) (height empty : ℕ) (before after : List Grid) (s t : S) (error : DecodeError) → concat before (symbols_from r d (room_after d before) height 0 0 before s) ≡ Ok (after, t) → empty_class (length after - length before) empty ≡ Err error → concat before (drawn_class r d height empty before s) ≡ Err error
unfolding drawn_class checked
drawn-fault r d height empty before after s t error made few = checked-fault (symbols_from r d (room_after d before) height 0 0 before s) empty before after t error made few

pub drawn-unread : {S : Type 0} (r : SymbolReadings S) (d : SymbolInput) (height empty : ℕ) (before : List Grid) (s : S) (error : DecodeError) → (error ≡ errors.OutOfMemory) ⊎ (concat before (symbols_from r d (room_after d before) height 0 0 before s) ≡ Err error) → (error ≡ errors.OutOfMemory) ⊎ (concat before (drawn_class r d height empty before s) ≡ Err error)
unfolding drawn_class checked
drawn-unread r d height empty before s error (inl memory) = inl memory
drawn-unread r d height empty before s error (inr e) = inr (checked-unread (symbols_from r d (room_after d before) height 0 0 before s) empty before error e)

-- symbols that are cut, and the state after their collective bitmap
cut-with : {S : Type 0} (symbols : Result (List Grid) DecodeError) (before : List Grid) (t : S) (result : Result (Unit {0}) DecodeError) (after : List Grid) → Gives (λ _. after) result (symbols_after before symbols) → Gives (λ _. (after, t)) result (concat before (symbols >>= λ gs. Ok (gs, t)))
cut-with (Ok more) before t (Ok r) after e = cc
cut-with (Ok more) before t (Err error) after (inl memory) = inl memory
cut-with (Ok more) before t (Err error) after (inr e) = cc
cut-with (Err f) before t (Ok r) after e = cc
cut-with (Err f) before t (Err error) after (inl memory) = inl memory
cut-with (Err f) before t (Err error) after (inr e) = inr cc

pub collective-made : (d : SymbolInput) (height empty total : ℕ) (before after : List Grid) (widths : List ℕ) (collective : Grid) (s t u : SymbolState Place) (result : Result (Unit {0}) DecodeError) → widths_from symbols_by_prefix_codes d (room_after d before) 0 0 s ≡ Ok (widths, t) → total ≡ sum widths → empty_class (length widths) empty ≡ Ok tt → collective_bitmap d total height t ≡ Ok (collective, u) → Gives (λ _. after) result (symbols_after before (symbols_cut collective height 0 widths)) → Gives (λ _. (after, u)) result (concat before (collective_class d height empty before s))
unfolding collective_class
collective-made d height empty total before after widths collective s t u result read summed few drawn cut =
    let drawn' : collective_bitmap d (sum widths) height t ≡ Ok (collective, u) = subst (λ (n : ℕ). collective_bitmap d n height t ≡ Ok (collective, u)) summed drawn in
    rw (read, few, drawn') (cut-with (symbols_cut collective height 0 widths) before u result after cut)

-- ---- the classes
after-more : {S : Type 0} (before symbols : List Grid) (result : Result (List Grid × S) DecodeError) → concat before (result >>= λ others. Ok (symbols ++ others.0, others.1)) ≡ concat (before ++ symbols) result
after-more before symbols (Ok others) = ap (λ (all : List Grid). Ok (all, others.1)) (sym (append_assoc before symbols others.0))
after-more before symbols (Err e) = refl

pub classes-none : {S : Type 0} (r : ClassReadings S) (d : SymbolInput) (n before empty : ℕ) (new : List Grid) (s : S) → n ≡ 0 → concat new (classes_from r d n before empty new s) ≡ Ok (new, s)
unfolding classes_from
classes-none r d n before empty new s none = rw none (ap (λ (all : List Grid). Ok (all, s)) (append-nil new))

pub classes-done : {S : Type 0} (r : ClassReadings S) (d : SymbolInput) (n before empty : ℕ) (new : List Grid) (s : S) → d.header.num_new_symbols ≤ length new → concat new (classes_from r d n before empty new s) ≡ Ok (new, s)
unfolding classes_from
classes-done r d zero before empty new s all = ap (λ (all : List Grid). Ok (all, s)) (append-nil new)
classes-done r d (suc n) before empty new s all = let test : leb d.header.num_new_symbols (length new) ≡ true = le-leb d.header.num_new_symbols (length new) all in rw test (ap (λ (all : List Grid). Ok (all, s)) (append-nil new))

-- the class that is read, by what it leaves
after_class : {S : Type 0} → ClassReadings S → SymbolInput → ℕ → ℕ → List Grid → Result (ℕ × List Grid × S) DecodeError → Result (List Grid × S) DecodeError
after_class r d n empty new result = concat new (result >>= λ class. classes_from r d n class.0 (empty_with class.1 empty) (new ++ class.1) class.2 >>= λ others. Ok (class.1 ++ others.0, others.1))

after-made : {S : Type 0} (r : ClassReadings S) (d : SymbolInput) (n empty height count : ℕ) (new after : List Grid) (t : S) (result : Result (ℕ × List Grid × S) DecodeError) → class_after new empty result ≡ Ok (after, (height, (count, t))) → after_class r d n empty new result ≡ concat after (classes_from r d n height count after t)
unfolding after_class
after-made {S} r d n empty height count new after t (Ok class) e =
    let same : (new ++ class.1, (class.0, (empty_with class.1 empty, class.2))) ≡ (after, (height, (count, t))) = same-ok _ _ e in
    let all : new ++ class.1 ≡ after = ap (λ (p : List Grid × (ℕ × (ℕ × S))). p.0) same in
    let high : class.0 ≡ height = ap (λ (p : List Grid × (ℕ × (ℕ × S))). p.1.0) same in
    let few : empty_with class.1 empty ≡ count = ap (λ (p : List Grid × (ℕ × (ℕ × S))). p.1.1.0) same in
    let left : class.2 ≡ t = ap (λ (p : List Grid × (ℕ × (ℕ × S))). p.1.1.1) same in
    after-more new class.1 (classes_from r d n class.0 (empty_with class.1 empty) (new ++ class.1) class.2)
    ∙ ap (λ (x : List Grid). concat x (classes_from r d n class.0 (empty_with class.1 empty) x class.2)) all
    ∙ ap (λ (x : ℕ). concat after (classes_from r d n x (empty_with class.1 empty) after class.2)) high
    ∙ ap (λ (x : ℕ). concat after (classes_from r d n height x after class.2)) few
    ∙ ap (λ (x : S). concat after (classes_from r d n height count after x)) left
after-made r d n empty height count new after t (Err f) e = cc

after-fault : {S : Type 0} (r : ClassReadings S) (d : SymbolInput) (n empty : ℕ) (new : List Grid) (error : DecodeError) (result : Result (ℕ × List Grid × S) DecodeError) → class_after new empty result ≡ Err error → after_class r d n empty new result ≡ Err error
unfolding after_class
after-fault r d n empty new error (Ok class) e = cc
after-fault r d n empty new error (Err f) e = cc

missing-more : {S : Type 0} (r : ClassReadings S) (d : SymbolInput) (n m before empty : ℕ) (new : List Grid) (s : S) → n ≡ suc m → length new < d.header.num_new_symbols → concat new (classes_from r d n before empty new s) ≡ after_class r d m empty new (height_class r d before empty new s)
unfolding classes_from after_class
missing-more r d n m before empty new s more missing = rw (more, lt-leb d.header.num_new_symbols (length new) missing) refl

pub classes-next : {S : Type 0} (r : ClassReadings S) (d : SymbolInput) (n m before empty height count : ℕ) (new after : List Grid) (s t : S) → n ≡ suc m → length new < d.header.num_new_symbols → class_after new empty (height_class r d before empty new s) ≡ Ok (after, (height, (count, t))) → concat new (classes_from r d n before empty new s) ≡ concat after (classes_from r d m height count after t)
classes-next r d n m before empty height count new after s t more missing e =
    missing-more r d n m before empty new s more missing ∙ after-made r d m empty height count new after t (height_class r d before empty new s) e

pub classes-fault : {S : Type 0} (r : ClassReadings S) (d : SymbolInput) (n m before empty : ℕ) (new : List Grid) (s : S) (error : DecodeError) (whole : Result (List Grid × S) DecodeError) → n ≡ suc m → concat new (classes_from r d n before empty new s) ≡ whole → length new < d.header.num_new_symbols → (error ≡ errors.OutOfMemory) ⊎ (class_after new empty (height_class r d before empty new s) ≡ Err error) → (error ≡ errors.OutOfMemory) ⊎ (whole ≡ Err error)
classes-fault r d n m before empty new s error whole more so_far missing (inl memory) = inl memory
classes-fault r d n m before empty new s error whole more so_far missing (inr e) =
    inr (sym so_far ∙ missing-more r d n m before empty new s more missing ∙ after-fault r d m empty new error (height_class r d before empty new s) e)

-- ---- one class more
pub class-fault : {S : Type 0} (r : ClassReadings S) (d : SymbolInput) (before empty height : ℕ) (new : List Grid) (s t : S) (value : Option ℤ) (difference z : ℤ) (error : DecodeError) → z ≡ difference → value ≡ Some difference → r.height_difference d s ≡ Ok (value, t) → size_in_word (pos before +ℤ z) ≡ Ok height → (error ≡ errors.OutOfMemory) ⊎ (concat new (r.class_of_height d height empty new t) ≡ Err error) → (error ≡ errors.OutOfMemory) ⊎ (class_after new empty (height_class r d before empty new s) ≡ Err error)
unfolding height_class
class-fault r d before empty height new s t value difference z error same some read fits (inl memory) = inl memory
class-fault {S} r d before empty height new s t value difference z error same some read fits (inr e) = inr (rw (read, some, fits') (unread (r.class_of_height d height empty new t) e))
  where
    fits' : size_in_word (pos before +ℤ difference) ≡ Ok height
    fits' = subst (λ (k : ℤ). size_in_word (pos before +ℤ k) ≡ Ok height) same fits

    unread : (result : Result (List Grid × S) DecodeError) → concat new result ≡ Err error → class_after new empty (result >>= λ class. Ok (height, class.0, class.1)) ≡ Err error
    unread (Ok class) e = cc
    unread (Err f) e = cc
