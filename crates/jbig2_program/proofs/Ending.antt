-- Runs that end before anything is printed, and the ends of those that print.
use Rattle.std.proofs.Common.{◌≡◌, ◌⊎◌, inl, inr, ℕ, Bool, true, List, [], ◌++◌, Option, Some, None, Result, Ok, Err, refl, sym, ap, subst, ◌∙◌}
use Rattle.std.proofs.KnownBytes.{Appends-kept, Appends-trans, Keeps-refl}
use Rattle.std.specs.Io.KnownBytes.{Appends, Keeps}
use Rattle.std.specs.List.{flat_map}
use Rattle.std.specs.Prelude.{IfErr, IsTrue}
use Rattle.jbig2_base.specs.Results.{◌>>=◌}
use Rattle.jbig2_framing.specs.Reading.{reading_of}
use Rattle.jbig2_base.specs.declared.error.DecodeError.{DecodeError}
use Rattle.jbig2_base.specs.declared.error.DecodeError.TheVariants.{OutOfMemory}
use Rattle.jbig2_page.specs.Files.{ReadFile, book_at, pages_of}
use Rattle.jbig2_page.specs.Image.{packed_of_page}
use Rattle.jbig2_page.specs.Page.{ReadPage, grid_of_page}
use Rattle.jbig2_program.specs.Printed.{bitmap_head, bitmap_text, calls_text, text_of_file, or_fault, page_line, page_at_index, printed_text, Ends, Prints}
use Rattle.jbig2_program.specs.Words.{Task, Pages, Calls, Pbm}
use Rattle.jbig2_program.specs.declared.fault.Fault.{Fault}
use Rattle.jbig2_program.specs.declared.fault.Fault.TheVariants.{Decode, Unreadable, Unwritable}

unprinted : (meant : Result (List ℕ) Fault) (fault : Fault) (k : Option (List ℕ)) → (fault ≡ Decode OutOfMemory) ⊎ (meant ≡ Err fault) → Prints meant (Err fault) k k
unprinted (Ok bytes) fault k why = inr (why, Keeps-refl k)
unprinted (Err f) fault k why = inr (why, Keeps-refl k)

-- for want of memory
pub starved : (strict : Bool) (task : Task) (known k : Option (List ℕ)) → Ends strict task (Some known) (Err (Decode OutOfMemory)) k k
starved strict task None k = inr ([], tt, unprinted (printed_text strict task []) (Decode OutOfMemory) k (inl refl))
starved strict task (Some bytes) k = inr (bytes, refl, unprinted (printed_text strict task bytes) (Decode OutOfMemory) k (inl refl))

-- for want of memory, or for the reader's fault
pub unread : (strict : Bool) (task : Task) (known k : Option (List ℕ)) (fault : Fault) → (fault ≡ Unreadable) ⊎ (fault ≡ Decode OutOfMemory) → Ends strict task (Some known) (Err fault) k k
unread strict task known k fault (inl is) = inl (ap (λ (f : Fault). (let r : Result (Unit {0}) Fault = Err f in r)) is, Keeps-refl k)
unread strict task known k fault (inr is) = rw is (starved strict task known k)

-- for want of memory, or because the page has an error
pub undrawn : (page : ReadPage) (e : DecodeError) (k : Option (List ℕ)) → (e ≡ OutOfMemory) ⊎ (packed_of_page page ≡ Err e) → Prints (or_fault (bitmap_text page)) (Err (Decode e)) k k
undrawn page e k (inl memory) = unprinted (or_fault (bitmap_text page)) (Decode e) k (inl (ap (λ (x : DecodeError). Decode x) memory))
undrawn page e k (inr is) =
    unprinted (or_fault (bitmap_text page)) (Decode e) k (inr (ap (λ (rows : Result (List ℕ) DecodeError). or_fault (rows >>= λ xs. Ok (bitmap_head page ++ xs))) is))

-- all was written, and the output was asked to pass it on
passed : (bytes : List ℕ) (r : Result (Unit {0}) Fault) (k k' : Option (List ℕ)) → Appends k k' bytes → IfErr r (λ fault. fault ≡ Unwritable) → Prints (Ok bytes) r k k'
passed bytes (Ok u) k k' added fault = added
passed bytes (Err f) k k' added fault = inl fault

-- the head, the rows and what the output passed on
pub drawn_whole : (page : ReadPage) (head rows : List ℕ) (b : Bool) (r : Result (Unit {0}) Fault) (k k1 k2 k3 : Option (List ℕ)) → packed_of_page page ≡ Ok rows → head ≡ bitmap_head page → Appends k k1 head
    → (IsTrue b → Appends k1 k2 rows) → b ≡ true → Keeps k2 k3 → IfErr r (λ fault. fault ≡ Unwritable) → Prints (or_fault (bitmap_text page)) r k k3
drawn_whole page head rows b r k k1 k2 k3 is head_is first more b_is kept fault =
    let both : Appends k k2 (head ++ rows) = Appends-trans k k1 k2 head rows first (more b_is) in
    let all : Appends k k3 (bitmap_head page ++ rows) = subst (λ (xs : List ℕ). Appends k k3 (xs ++ rows)) head_is (Appends-kept k k2 k3 (head ++ rows) both kept) in
    subst (λ (m : Result (List ℕ) DecodeError). Prints (or_fault (m >>= λ xs. Ok (bitmap_head page ++ xs))) r k k3) (sym is) (passed (bitmap_head page ++ rows) r k k3 all fault)

-- what is printed of a file is what is printed of its page
abbrev Text : Type 0
Text = ReadPage → Result (List ℕ) DecodeError

text_of : (text : Text) (index : List ℕ) (meant : Result ReadFile DecodeError) (book : ReadFile) (page : ReadPage) → meant ≡ Ok book → page_at_index index book ≡ Ok page → text_of_file text index meant ≡ or_fault (text page)
text_of text index meant book page is named = ap (λ (m : Result ReadFile DecodeError). text_of_file text index m) is ∙ ap (λ (m : Result ReadPage Fault). m >>= λ found. or_fault (text found)) named

no_text : (text : Text) (index : List ℕ) (meant : Result ReadFile DecodeError) (book : ReadFile) (fault : Fault) → meant ≡ Ok book → page_at_index index book ≡ Err fault → text_of_file text index meant ≡ Err fault
no_text text index meant book fault is named = ap (λ (m : Result ReadFile DecodeError). text_of_file text index m) is ∙ ap (λ (m : Result ReadPage Fault). m >>= λ found. or_fault (text found)) named

module _ (strict : Bool) (task : Task) (index bytes : List ℕ) (book : ReadFile) (r : Result (Unit {0}) Fault) (k k' : Option (List ℕ)) where
  pub pages_printed : task ≡ Pages → book_at (reading_of strict) bytes ≡ Ok book → Prints (Ok (flat_map page_line (pages_of book))) r k k' → Prints (printed_text strict task bytes) r k k'
  pages_printed t is shown = subst (λ (m : Result (List ℕ) Fault). Prints m r k k')
      (sym (ap (λ (u : Task). printed_text strict u bytes) t ∙ ap (λ (m : Result ReadFile DecodeError). or_fault (m >>= λ b. Ok (flat_map page_line (pages_of b)))) is))
      shown

  pub calls_printed : (page : ReadPage) → task ≡ Calls index → book_at (reading_of strict) bytes ≡ Ok book → page_at_index index book ≡ Ok page → Prints (or_fault (calls_text (grid_of_page page))) r k k' → Prints (printed_text strict task bytes) r k k'
  calls_printed page t is named shown =
      subst (λ (m : Result (List ℕ) Fault). Prints m r k k') (sym (ap (λ (u : Task). printed_text strict u bytes) t ∙ text_of (λ p. calls_text (grid_of_page p)) index (book_at (reading_of strict) bytes) book page is named)) shown

  pub bitmap_printed : (page : ReadPage) → task ≡ Pbm index → book_at (reading_of strict) bytes ≡ Ok book → page_at_index index book ≡ Ok page → Prints (or_fault (bitmap_text page)) r k k' → Prints (printed_text strict task bytes) r k k'
  bitmap_printed page t is named shown =
      subst (λ (m : Result (List ℕ) Fault). Prints m r k k') (sym (ap (λ (u : Task). printed_text strict u bytes) t ∙ text_of (λ p. bitmap_text p) index (book_at (reading_of strict) bytes) book page is named)) shown

module _ (strict : Bool) (task : Task) (index bytes : List ℕ) (book : ReadFile) (fault : Fault) (k : Option (List ℕ)) where
  pub calls_unnamed : task ≡ Calls index → book_at (reading_of strict) bytes ≡ Ok book → page_at_index index book ≡ Err fault → Prints (printed_text strict task bytes) (Err fault) k k
  calls_unnamed t is named =
      unprinted (printed_text strict task bytes) fault k (inr (ap (λ (u : Task). printed_text strict u bytes) t ∙ no_text (λ p. calls_text (grid_of_page p)) index (book_at (reading_of strict) bytes) book fault is named))

  pub bitmap_unnamed : task ≡ Pbm index → book_at (reading_of strict) bytes ≡ Ok book → page_at_index index book ≡ Err fault → Prints (printed_text strict task bytes) (Err fault) k k
  bitmap_unnamed t is named =
      unprinted (printed_text strict task bytes) fault k (inr (ap (λ (u : Task). printed_text strict u bytes) t ∙ no_text (λ p. bitmap_text p) index (book_at (reading_of strict) bytes) book fault is named))
