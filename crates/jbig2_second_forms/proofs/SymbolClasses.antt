-- The new symbols of a dictionary are those of its height classes.
use Rattle.std.proofs.Common.{◌≡◌, ℕ, zero, suc, ◌+◌, leb, eqb, Bool, true, false, pos, List, [], ◌∷◌, ◌++◌, length, Result, Ok, Err, refl, sym, ◌∙◌, ap, arith, append_assoc, append-nil}
use Rattle.std.specs.Prelude.{◌+ℤ◌, if◌then◌else◌}
use Rattle.jbig2_base.specs.Results.{◌>>=◌}
use Rattle.jbig2_base.specs.Grid.{Grid}
use Rattle.jbig2_base.specs.Bits.{bit_number}
use Rattle.jbig2_base.specs.declared.error.DecodeError.{DecodeError}
use Rattle.jbig2_base.specs.declared.error.DecodeError.TheVariants.{Symbol}
use Rattle.jbig2_base.specs.declared.error.SymbolError.TheVariants.{UnexpectedOob}
use Rattle.jbig2_coder.specs.Integers.{in_band}
use Rattle.jbig2_symbol.specs.HeightClasses.{classes_from, height_class, new_symbols, size_in_word}
use Rattle.jbig2_symbol.specs.SymbolCoding.{classes_by_coder, classes_by_prefix_codes}
use Rattle.jbig2_symbol.specs.SymbolReading.{ClassReadings, SymbolInput}
use Rattle.jbig2_second_forms.specs.SymbolClasses.{HeightClass, symbols_of, height_of_last, empty_in, class_after, classes_after, all_classes, SymbolsComeInClasses}
use Rattle.jbig2_second_forms.proofs.Steps.{next-next, same-next}

symbols-append : (xs ys : List HeightClass) → symbols_of (xs ++ ys) ≡ symbols_of xs ++ symbols_of ys
symbols-append [] ys = refl
symbols-append (c ∷ xs) ys = ap (λ (gs : List Grid). c.symbols ++ gs) (symbols-append xs ys) ∙ sym (append_assoc c.symbols (symbols_of xs) (symbols_of ys))

symbols-last : (xs : List HeightClass) (c : HeightClass) → symbols_of (xs ++ c ∷ []) ≡ symbols_of xs ++ c.symbols
symbols-last xs c = symbols-append xs (c ∷ []) ∙ ap (λ (gs : List Grid). symbols_of xs ++ gs) (append-nil c.symbols)

height-last : (before : ℕ) (xs : List HeightClass) (c : HeightClass) → height_of_last before (xs ++ c ∷ []) ≡ c.height
height-last before [] c = refl
height-last before (x ∷ xs) c = height-last x.height xs c

empty-last : (xs : List HeightClass) (c : HeightClass) → empty_in (xs ++ c ∷ []) ≡ empty_in xs + bit_number (eqb (length c.symbols) 0)
empty-last [] c = omega arith
empty-last (x ∷ xs) c = omega (arith, empty-last xs c)

module _ {S : Type 0} (r : ClassReadings S) (d : SymbolInput) where
  abbrev Read : Type 0
  Read = List Grid × S

  abbrev flat : List HeightClass × S → Result Read DecodeError
  flat x = Ok (symbols_of x.0, x.1)

  -- what is read, after these symbols
  abbrev join : List Grid → Read → Result Read DecodeError
  join gs x = Ok (gs ++ x.0, x.1)

  -- a class as `HeightClasses` has it
  class-is : (xs : List HeightClass) (s : S) → height_class r d (height_of_last 0 xs) (empty_in xs) (symbols_of xs) s ≡ (class_after r d xs s >>= λ c. Ok (c.0.height, c.0.symbols, c.1))
  unfolding height_class class_after
  class-is xs s =
      same-next (r.height_difference d s) _ _ (λ v.
      let band = in_band (Symbol UnexpectedOob) v.0 in
      same-next band _ _ (λ n.
      let size = size_in_word (pos (height_of_last 0 xs) +ℤ n) in
      same-next size _ _ (λ h.
      sym (next-next (r.class_of_height d h (empty_in xs) (symbols_of xs) v.1) _ (λ c. Ok (c.0.height, c.0.symbols, c.1))))
      ∙ sym (next-next size _ (λ c. Ok (c.0.height, c.0.symbols, c.1))))
      ∙ sym (next-next band _ (λ c. Ok (c.0.height, c.0.symbols, c.1))))
      ∙ sym (next-next (r.height_difference d s) _ (λ c. Ok (c.0.height, c.0.symbols, c.1)))

  -- the classes to come, after these
  abbrev after_these : ℕ → List HeightClass → S → Result Read DecodeError
  after_these n xs s = classes_from r d n (height_of_last 0 xs) (empty_in xs) (symbols_of xs) s >>= join (symbols_of xs)

  -- one class more
  next-class : (n : ℕ) (xs : List HeightClass) (c : HeightClass) (after : S)
      → ((classes_from r d n c.height (empty_in xs + bit_number (eqb (length c.symbols) 0)) (symbols_of xs ++ c.symbols) after >>= join c.symbols) >>= join (symbols_of xs))
      ≡ after_these n (xs ++ c ∷ []) after
  next-class n xs c after =
      let more : List HeightClass = xs ++ c ∷ [] in
      let from : ℕ → ℕ → List Grid → Result Read DecodeError = λ height empty new. classes_from r d n height empty new after in
      let rest = from c.height (empty_in xs + bit_number (eqb (length c.symbols) 0)) (symbols_of xs ++ c.symbols) in
      next-next rest (join c.symbols) (join (symbols_of xs))
      ∙ same-next rest _ _ (λ x. ap (λ (gs : List Grid). Ok (gs, x.1)) (sym (append_assoc (symbols_of xs) c.symbols x.0) ∙ ap (λ (gs : List Grid). gs ++ x.0) (sym (symbols-last xs c))))
      ∙ ap (λ (h : ℕ). from h (empty_in xs + bit_number (eqb (length c.symbols) 0)) (symbols_of xs ++ c.symbols) >>= join (symbols_of more)) (sym (height-last 0 xs c))
      ∙ ap (λ (k : ℕ). from (height_of_last 0 more) k (symbols_of xs ++ c.symbols) >>= join (symbols_of more)) (sym (empty-last xs c))
      ∙ ap (λ (gs : List Grid). from (height_of_last 0 more) (empty_in more) gs >>= join (symbols_of more)) (sym (symbols-last xs c))

  module _ (n : ℕ) (xs : List HeightClass) where
    abbrev with_class : ℕ × List Grid × S → Result Read DecodeError
    with_class c = classes_from r d n c.0 (empty_in xs + bit_number (eqb (length c.1) 0)) (symbols_of xs ++ c.1) c.2 >>= join c.1

    abbrev these : Read → Result Read DecodeError
    these x = Ok (symbols_of xs ++ x.0, x.1)

    abbrev listed : S → Result (List HeightClass × S) DecodeError
    listed s = class_after r d xs s >>= λ c. classes_after r d n (xs ++ c.0 ∷ []) c.1

    one-more : ((c : HeightClass × S) → after_these n (xs ++ c.0 ∷ []) c.1 ≡ (classes_after r d n (xs ++ c.0 ∷ []) c.1 >>= flat))
        → (s : S) → ((height_class r d (height_of_last 0 xs) (empty_in xs) (symbols_of xs) s >>= with_class) >>= these) ≡ (listed s >>= flat)
    one-more others s =
        let one = class_after r d xs s in
        ap (λ (z : Result (ℕ × List Grid × S) DecodeError). (z >>= with_class) >>= these) (class-is xs s)
        ∙ ap (λ (z : Result Read DecodeError). z >>= these) (next-next one (λ c. Ok (c.0.height, c.0.symbols, c.1)) with_class)
        ∙ next-next one _ these
        ∙ same-next one _ _ (λ c. next-class n xs c.0 c.1 ∙ others c)
        ∙ sym (next-next one _ flat)

    by-count : (enough : Bool) (s : S) → ((height_class r d (height_of_last 0 xs) (empty_in xs) (symbols_of xs) s >>= with_class) >>= these) ≡ (listed s >>= flat)
        → ((if enough then Ok ([], s) else (height_class r d (height_of_last 0 xs) (empty_in xs) (symbols_of xs) s >>= with_class)) >>= these)
        ≡ ((if enough then Ok (xs, s) else listed s) >>= flat)
    by-count true s more = ap (λ (gs : List Grid). Ok (gs, s)) (append-nil (symbols_of xs))
    by-count false s more = more

  classes-are : (n : ℕ) (xs : List HeightClass) (s : S) → after_these n xs s ≡ (classes_after r d n xs s >>= flat)
  unfolding classes_from classes_after
  classes-are zero xs s = ap (λ (gs : List Grid). Ok (gs, s)) (append-nil (symbols_of xs))
  classes-are (suc n) xs s =
      by-count n xs (leb d.header.num_new_symbols (length (symbols_of xs))) s (one-more n xs (λ c. classes-are n (xs ++ c.0 ∷ []) c.1) s)

  nothing-before : (x : Result Read DecodeError) → x ≡ (x >>= join [])
  nothing-before (Ok x) = refl
  nothing-before (Err e) = refl

  pub symbols-are : (s : S) → new_symbols r d s ≡ (all_classes r d s >>= flat)
  symbols-are s = nothing-before (new_symbols r d s) ∙ classes-are (d.header.num_new_symbols + 1048576) [] s

pub symbols_come_in_classes : SymbolsComeInClasses
symbols_come_in_classes = record {
  coded = symbols-are classes_by_coder;
  prefixed = symbols-are classes_by_prefix_codes;
}
