-- What a printer has added to its output, by the calls that it took.
use Rattle.std.proofs.Common.{◌≡◌, ℕ, ◌+◌, Bool, true, false, List, [], ◌∷◌, ◌++◌, Option, Some, None, is_some, Result, Ok, Err, inl, inr, refl, sym, ap, ◌∙◌, arith}
use Rattle.std.proofs.lemmas.List.{append_assoc, append-nil}
use Rattle.std.specs.Borrow.{GName}
use Rattle.std.specs.List.{flat_map}
use Rattle.std.specs.Io.KnownBytes.{Appends, Keeps, append_known}
use Rattle.jbig2_base.specs.Grid.{Grid}
use Rattle.jbig2_base.specs.declared.error.DecodeError.{DecodeError}
use Rattle.jbig2_base.specs.declared.error.DecodeError.TheVariants.{Unsupported}
use Rattle.jbig2_page.specs.Calls.{Call, calls_of, Conduct, Decodes, after_calls}
use Rattle.jbig2_program.specs.inner.Printing.{known_if, refusals_if, AddsMeant}
use Rattle.jbig2_program.specs.Printed.{call_line, calls_text, page_line}
use Rattle.jbig2_page.specs.Page.{ReadPage}

abbrev line_step : GName × Option (List ℕ) → Call → GName × Option (List ℕ)
line_step p call = (p.0, append_known p.1 (call_line call))

after_lines : (n : GName) (k : Option (List ℕ)) (calls : List Call) → after_calls line_step (n, k) calls ≡ (n, append_known k (flat_map call_line calls))
after_lines n None [] = refl
after_lines n None (call ∷ calls) = after_lines n None calls
after_lines n (Some xs) [] = ap (λ (ys : List ℕ). (let p : GName × Option (List ℕ) = (n, Some ys) in p)) (sym (append-nil xs))
after_lines n (Some xs) (call ∷ calls) =
    after_lines n (Some (xs ++ call_line call)) calls
    ∙ ap (λ (ys : List ℕ). (let p : GName × Option (List ℕ) = (n, Some ys) in p)) (append_assoc xs (call_line call) (flat_map call_line calls))

-- what is added to bytes of which a proof says whether they are known
added : (is_known : Bool) (old new : Option (List ℕ)) (bytes : List ℕ) → is_known ≡ is_some old → known_if is_known new ≡ append_known (known_if is_known old) bytes → Appends old new bytes
added is_known None new bytes t e = tt
added true (Some xs) None bytes t e = absurd (let never : (let n : Option (List ℕ) = None in n) ≡ Some (xs ++ bytes) = e in cc)
added true (Some xs) (Some ys) bytes t e = let same : (let s : Option (List ℕ) = Some ys in s) ≡ Some (xs ++ bytes) = e in cc
added false (Some xs) new bytes t e = absurd (let never : false ≡ true = t in cc)

kept : (is_known : Bool) (old new : Option (List ℕ)) → is_known ≡ is_some old → known_if is_known new ≡ known_if is_known old → Keeps old new
kept is_known None new t e = tt
kept true (Some xs) None t e = absurd (let never : (let n : Option (List ℕ) = None in n) ≡ Some xs = e in cc)
kept true (Some xs) (Some ys) t e = let same : (let s : Option (List ℕ) = Some ys in s) ≡ Some xs = e in cc
kept false (Some xs) new t e = absurd (let never : false ≡ true = t in cc)

-- a printer that has refused nothing has not refused one call
not_one : (is_known : Bool) (known : Option (List ℕ)) (n : ℕ) → n ≡ 0 → refusals_if is_known known n ≡ 1 → ⊥
not_one true None n z e = omega (arith, e)
not_one true (Some xs) n z e = omega (arith, z, e)
not_one false known n z e = omega (arith, z, e)

pub none_refused : (is_known : Bool) (known : Option (List ℕ)) (n : ℕ) → is_known ≡ is_some known → n ≡ 0 → refusals_if is_known known n ≡ 0
none_refused true None n t z = absurd (let never : true ≡ false = t in cc)
none_refused true (Some xs) n t z = z
none_refused false known n t z = z

module _ {S : Type 0} (name : S → GName) (known : S → Option (List ℕ)) (count : S → ℕ) (is_known : Bool) where
  abbrev printing : Conduct S
  printing = record {
    Picture = GName × Option (List ℕ);
    picture = λ s. (name s, known_if is_known (known s));
    step = λ p call. (p.0, append_known p.1 (call_line call));
    refuses = λ _ _ e. e ≡ Unsupported;
    refusals = λ s. refusals_if is_known (known s) (count s);
  }

  name_after : (old new : S) (calls : List Call) → printing.picture new ≡ after_calls line_step (printing.picture old) calls → name new ≡ name old
  name_after old new calls e = ap (λ (p : GName × Option (List ℕ)). p.0) (e ∙ after_lines (name old) (known_if is_known (known old)) calls)

  name_as : (old new : S) → printing.picture new ≡ printing.picture old → name new ≡ name old
  name_as old new e = ap (λ (p : GName × Option (List ℕ)). p.0) e

  known_as : (old new : S) → printing.picture new ≡ printing.picture old → is_known ≡ is_some (known old) → Keeps (known old) (known new)
  known_as old new e t = kept is_known (known old) (known new) t (ap (λ (p : GName × Option (List ℕ)). p.1) e)

  -- whatever is returned, it is the same output
  pub same_output : (meant : Result Grid DecodeError) (decoded : Result (Unit {0}) DecodeError) (old new : S) → Decodes printing meant decoded old new → name new ≡ name old
  same_output (Ok g) (Ok u) old new d = name_after old new (calls_of g) d.0
  same_output (Ok g) (Err e) old new (inl s) = name_after old new s.made s.picture
  same_output (Ok g) (Err e) old new (inr u) = name_as old new u.1.0
  same_output (Err f) (Ok u) old new d = absurd d
  same_output (Err f) (Err e) old new d = name_as old new d.1.0

  pub lines_known : (meant : Result Grid DecodeError) (decoded : Result (Unit {0}) DecodeError) (old new : S) → is_known ≡ is_some (known old) → count old ≡ 0 → count new ≡ 0
      → Decodes printing meant decoded old new → AddsMeant (calls_text meant) decoded (known old) (known new)
  lines_known (Ok g) (Ok u) old new t z y d = added is_known (known old) (known new) (flat_map call_line (calls_of g)) t (ap (λ (p : GName × Option (List ℕ)). p.1) (d.0 ∙ after_lines (name old) (known_if is_known (known old)) (calls_of g)))
  lines_known (Ok g) (Err e) old new t z y (inl s) = absurd (not_one is_known (known new) (count new) y (s.counted ∙ ap (λ (n : ℕ). n + 1) (none_refused is_known (known old) (count old) t z)))
  lines_known (Ok g) (Err e) old new t z y (inr u) = (inl u.0, known_as old new u.1.0 t)
  lines_known (Err f) (Ok u) old new t z y d = absurd d
  lines_known (Err f) (Err e) old new t z y (inl is, u) = (inr (ap (λ (x : DecodeError). (let r : Result (List ℕ) DecodeError = Err x in r)) (sym is)), known_as old new u.0 t)
  lines_known (Err f) (Err e) old new t z y (inr is, u) = (inl is, known_as old new u.0 t)

-- the line of one more page
pub lines_more : (lines done all : List ℕ) (s t : List ReadPage) (page : ReadPage) → s ≡ page ∷ t → done ≡ lines ++ page_line page → lines ++ flat_map page_line s ≡ all → done ++ flat_map page_line t ≡ all
lines_more lines done all s t page first more e =
    ap (λ (ls : List ℕ). ls ++ flat_map page_line t) more ∙ append_assoc lines (page_line page) (flat_map page_line t) ∙ ap (λ (ps : List ReadPage). lines ++ flat_map page_line ps) (sym first) ∙ e
