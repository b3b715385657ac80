-- Sequences of integers and symbol ids are read back.
use Rattle.std.proofs.Common.{◌≡◌, ◌⊎◌, ℕ, zero, suc, ◌+◌, ◌*◌, ◌^◌, ◌<◌, ◌≤◌, Bool, List, [], ◌∷◌, ◌++◌, map, length, get_or, set, replicate, All, Option, ℤ, refl, sym, ◌∙◌, ap, subst, arith, inl, inr, ⊎_elim}
use Rattle.std.specs.List.{flat_map}
use Rattle.std.proofs.lemmas.Bool.{cases_lt}
use Rattle.std.proofs.lemmas.List.{length_push}
use Rattle.std.proofs.lemmas.List.Elements.{All-head, All-tail}
use Rattle.jbig2_coder.specs.declared.integer_procedures.IntegerProcedure.{IntegerProcedure}
use Rattle.jbig2_coder.specs.declared.integer_procedures.IntegerProcedure.TheVariants.{Iaai, Iadh, Iads, Iadt, Iadw, Iaex, Iafs, Iait, Iardh, Iardw, Iardx, Iardy, Iari}
use Rattle.jbig2_coder.specs.Coder.{Context, Coder, fresh, decision}
use Rattle.jbig2_coder.specs.Encoder.{encoded_bytes, with_context}
use Rattle.jbig2_coder.specs.Integers.{Reading, Procedures, index_of, integer, integer_by, prev_of}
use Rattle.jbig2_base.specs.Bits.{value_of_bits}
use Rattle.jbig2_inverses.specs.CoderStates.{asked, State, state_on, state_after, initial_state, GivesDecisions, window}
use Rattle.jbig2_inverses.specs.IntegerWriter.{in_contexts, integer_decisions, integer_entries, id_entries, binary, IsWord}
use Rattle.jbig2_inverses.specs.SequenceWriter.{Integer, Id, Item, IntegerOf, IdOf, asked_of, Readers, entries_of, IsWritable, read_item, read_items, SequencesReadBack}
use Rattle.jbig2_inverses.proofs.CoderStates.{window-apart, window-fresh, gives-after, gives-before, gives-encoded}
use Rattle.jbig2_inverses.proofs.IntegerRanges.{prev-below, length-binary}
use Rattle.jbig2_inverses.proofs.IntegerInverse.{integers_read_back, symbol_ids_read_back, id_name, id-below}

-- ---- decisions leave the contexts of others as they are
state-contexts : (bytes : List ℕ) (s : State) (k : ℕ) → (state_on bytes s k).contexts ≡ with_context s.contexts k (decision bytes s.registers (s.contexts k)).context
unfolding state_on
state-contexts bytes s k = refl

module _ (name : List Bool → ℕ) (base count : ℕ) where
  apart : (ds : List Bool) (bytes : List ℕ) (bits : List Bool) (s : State) (limit other size : ℕ)
      → ((b : List Bool) → length b < limit → name b < count) → length bits + length ds ≤ limit → (base + count ≤ other) ⊎ (other + size ≤ base)
      → window other size (state_after bytes s (asked (in_contexts name base bits ds))).contexts ≡ window other size s.contexts
  unfolding in_contexts state_after
  apart [] bytes bits s limit other size bound few far = refl
  apart (d ∷ ds) bytes bits s limit other size bound few far =
      let k = base + name bits in
      let low : name bits < count = bound bits (omega (arith, few)) in
      let grown = length_push bits d in
      let outside : (k < other) ⊎ (other + size ≤ k) = ⊎_elim (λ (a : base + count ≤ other). inl (omega (arith, a, low))) (λ (b : other + size ≤ base). inr (omega (arith, b))) far in
      apart ds bytes (bits ++ d ∷ []) (state_on bytes s k) limit other size bound (omega (arith, few, grown)) far
      ∙ ap (λ (c : ℕ → Context). window other size c) (state-contexts bytes s k)
      ∙ window-apart other size k s.contexts (decision bytes s.registers (s.contexts k)).context outside

-- ---- the contexts of all procedures
windows : ℕ → ℕ → (ℕ → Context) → Procedures
windows zero k contexts = []
windows (suc n) k contexts = window (512 * k) 512 contexts ∷ windows n (k + 1) contexts

windows-get : (n k i : ℕ) (contexts : ℕ → Context) → i < n → get_or (windows n k contexts) i [] ≡ window (512 * (k + i)) 512 contexts
unfolding windows
windows-get zero k i contexts h = absurd (omega (arith, h))
windows-get (suc n) k zero contexts h = let e : k ≡ k + 0 = omega arith in ap (λ (j : ℕ). window (512 * j) 512 contexts) e
windows-get (suc n) k (suc i) contexts h =
    let e : k + 1 + i ≡ k + suc i = omega arith in windows-get n (k + 1) i contexts (omega (arith, h)) ∙ ap (λ (j : ℕ). window (512 * j) 512 contexts) e

abbrev Same : ℕ → (ℕ → Context) → (ℕ → Context) → Type 0
Same k old new = (j : ℕ) → (j ≡ k → ⊥) → window (512 * j) 512 new ≡ window (512 * j) 512 old

windows-same : (n k i : ℕ) (old new : ℕ → Context) → i < k → Same i old new → windows n k new ≡ windows n k old
unfolding windows
windows-same zero k i old new below same = refl
windows-same (suc n) k i old new below same =
    ap (λ (w : List Context). w ∷ windows n (k + 1) new) (same k (λ e. omega (arith, e, below)))
    ∙ ap (λ (ws : Procedures). window (512 * k) 512 old ∷ ws) (windows-same n (k + 1) i old new (omega (arith, below)) same)

windows-set : (n k i : ℕ) (old new : ℕ → Context) → i < n → Same (k + i) old new → set (windows n k old) i (window (512 * (k + i)) 512 new) ≡ windows n k new
unfolding windows
windows-set zero k i old new h same = absurd (omega (arith, h))
windows-set (suc n) k zero old new h same =
    let e : k + 0 ≡ k = omega arith in
    ap (λ (j : ℕ). window (512 * j) 512 new ∷ windows n (k + 1) old) e
    ∙ ap (λ (ws : Procedures). window (512 * k) 512 new ∷ ws) (sym (windows-same n (k + 1) (k + 0) old new (omega arith) same))
windows-set (suc n) k (suc i) old new h same =
    let e : k + suc i ≡ k + 1 + i = omega arith in
    ap (λ (j : ℕ). window (512 * k) 512 old ∷ set (windows n (k + 1) old) i (window (512 * j) 512 new)) e
    ∙ ap (λ (ws : Procedures). window (512 * k) 512 old ∷ ws) (windows-set n (k + 1) i old new (omega (arith, h)) (subst (λ (j : ℕ). Same j old new) e same))
    ∙ ap (λ (w : List Context). w ∷ windows n (k + 1) new) (sym (same k (λ s. omega (arith, s))))

windows-far : (n k : ℕ) (old new : ℕ → Context) → ((j : ℕ) → j < 13 → window (512 * j) 512 new ≡ window (512 * j) 512 old) → k + n ≤ 13 → windows n k new ≡ windows n k old
unfolding windows
windows-far zero k old new same few = refl
windows-far (suc n) k old new same few =
    ap (λ (w : List Context). w ∷ windows n (k + 1) new) (same k (omega (arith, few)))
    ∙ ap (λ (ws : Procedures). window (512 * k) 512 old ∷ ws) (windows-far n (k + 1) old new same (omega (arith, few)))

windows-fresh : (n k : ℕ) → windows n k (λ j. fresh) ≡ replicate n (replicate 512 fresh)
unfolding windows
windows-fresh zero k = refl
windows-fresh (suc n) k =
    ap (λ (w : List Context). w ∷ windows n (k + 1) (λ j. fresh)) (window-fresh (512 * k) 512)
    ∙ ap (λ (ws : Procedures). replicate 512 fresh ∷ ws) (windows-fresh n (k + 1))

index-below : (p : IntegerProcedure) → index_of p < 13
index-below Iaai = omega arith
index-below Iadh = omega arith
index-below Iads = omega arith
index-below Iadt = omega arith
index-below Iadw = omega arith
index-below Iaex = omega arith
index-below Iafs = omega arith
index-below Iait = omega arith
index-below Iardh = omega arith
index-below Iardw = omega arith
index-below Iardx = omega arith
index-below Iardy = omega arith
index-below Iari = omega arith

-- ---- the readers in a state
module _ (code_length : ℕ) (bytes : List ℕ) where
  abbrev readers_at : State → Readers
  readers_at s = record { coder = record { bytes = bytes; registers = s.registers }; procedures = windows 13 0 s.contexts; ids = window 6656 (2 ^ code_length) s.contexts }

  integer_by-is : (p : IntegerProcedure) (s : State) (value : Option ℤ) (reading : Reading) → integer bytes s.registers (get_or (windows 13 0 s.contexts) (index_of p) []) ≡ record { value = value; reading = reading }
      → integer_by p (record { bytes = bytes; registers = s.registers }) (windows 13 0 s.contexts)
      ≡ record { value = value; coder = record { bytes = bytes; registers = reading.registers }; procedures = set (windows 13 0 s.contexts) (index_of p) reading.contexts }
  unfolding integer_by
  integer_by-is p s value reading e =
      ap (λ (i : record { value : Option ℤ; reading : Reading }). record { value = i.value; coder = record { bytes = bytes; registers = i.reading.registers }; procedures = set (windows 13 0 s.contexts) (index_of p) i.reading.contexts }) e

  reads-integer : (p : IntegerProcedure) (value : Option ℤ) (s : State) → IsWord value → GivesDecisions bytes s (integer_entries (512 * index_of p) value)
      → read_item code_length (readers_at s) (Integer p) ≡ (IntegerOf p value, readers_at (state_after bytes s (asked (integer_entries (512 * index_of p) value))))
  reads-integer p value s word g =
      let i = index_of p in
      let inside = index-below p in
      let base = 512 * i in
      let end = state_after bytes s (asked (integer_entries base value)) in
      let reading : Reading = record { bits = integer_decisions value; registers = end.registers; contexts = window base 512 end.contexts } in
      let at : get_or (windows 13 0 s.contexts) i [] ≡ window base 512 s.contexts =
      windows-get 13 0 i s.contexts inside ∙ ap (λ (j : ℕ). window (512 * j) 512 s.contexts) (let e : 0 + i ≡ i = omega arith in e) in
      let read = ap (λ (cs : List Context). integer bytes s.registers cs) at ∙ integers_read_back.decisions bytes s base value word g in
      let ds = integer_decisions value in
      let far : (other size : ℕ) → (base + 512 ≤ other) ⊎ (other + size ≤ base) → window other size end.contexts ≡ window other size s.contexts =
      λ other size h. apart prev_of base 512 ds bytes [] s (length ds) other size (λ b l. prev-below b) (omega arith) h in
      let kept : (j : ℕ) → (j ≡ 0 + i → ⊥) → window (512 * j) 512 end.contexts ≡ window (512 * j) 512 s.contexts =
      λ j o. far (512 * j) 512 (sides i j (λ e. o (omega (arith, e)))) in
      let put : set (windows 13 0 s.contexts) i (window base 512 end.contexts) ≡ windows 13 0 end.contexts =
      ap (λ (j : ℕ). set (windows 13 0 s.contexts) i (window (512 * j) 512 end.contexts)) (let e : i ≡ 0 + i = omega arith in e)
      ∙ windows-set 13 0 i s.contexts end.contexts inside kept in
      let ids : window 6656 (2 ^ code_length) end.contexts ≡ window 6656 (2 ^ code_length) s.contexts = far 6656 (2 ^ code_length) (inl (omega (arith, inside))) in
      let made : Procedures → List Context → Item × Readers = λ ps cs. (IntegerOf p value, record { coder = record { bytes = bytes; registers = end.registers }; procedures = ps; ids = cs }) in
      ap (λ (r : record { value : Option ℤ; coder : Coder; procedures : Procedures }). (IntegerOf p r.value, record { coder = r.coder; procedures = r.procedures; ids = window 6656 (2 ^ code_length) s.contexts })) (integer_by-is p s value reading read)
      ∙ ap (λ (ps : Procedures). made ps (window 6656 (2 ^ code_length) s.contexts)) put
      ∙ ap (λ (cs : List Context). made (windows 13 0 end.contexts) cs) (sym ids)
    where
      sides : (i j : ℕ) → (j ≡ i → ⊥) → (512 * i + 512 ≤ 512 * j) ⊎ (512 * j + 512 ≤ 512 * i)
      sides i j o = ⊎_elim (λ (a : i < j). inl (omega (arith, a))) (λ (a : j ≤ i). inr (omega (arith, a, o))) (cases_lt i j)

  reads-id : (number : ℕ) (s : State) → number < 2 ^ code_length → GivesDecisions bytes s (id_entries 6656 code_length number)
      → read_item code_length (readers_at s) Id ≡ (IdOf number, readers_at (state_after bytes s (asked (id_entries 6656 code_length number))))
  reads-id number s fits g =
      let end = state_after bytes s (asked (id_entries 6656 code_length number)) in
      let ds = binary code_length number in
      let size = length-binary code_length number in
      let read = symbol_ids_read_back.decisions bytes s 6656 code_length number fits g in
      let far : (j : ℕ) → j < 13 → window (512 * j) 512 end.contexts ≡ window (512 * j) 512 s.contexts =
      λ j h. apart id_name 6656 (2 ^ code_length) ds bytes [] s code_length (512 * j) 512 (λ b l. id-below code_length b l) (omega (arith, size)) (inr (omega (arith, h))) in
      let made : Reading → Procedures → Item × Readers = λ r ps. (IdOf (value_of_bits r.bits), record { coder = record { bytes = bytes; registers = r.registers }; procedures = ps; ids = r.contexts }) in
      let reading : Reading = record { bits = ds; registers = end.registers; contexts = window 6656 (2 ^ code_length) end.contexts } in
      ap (λ (r : Reading). made r (windows 13 0 s.contexts)) read.0
      ∙ ap (λ (ps : Procedures). made reading ps) (sym (windows-far 13 0 s.contexts end.contexts far (omega arith)))
      ∙ ap (λ (n : ℕ). (IdOf n, readers_at end)) read.1

  reads-item : (item : Item) (s : State) → IsWritable code_length item → GivesDecisions bytes s (entries_of code_length item)
      → read_item code_length (readers_at s) (asked_of item) ≡ (item, readers_at (state_after bytes s (asked (entries_of code_length item))))
  reads-item (IntegerOf p value) s word g = reads-integer p value s word g
  reads-item (IdOf number) s fits g = reads-id number s fits g

  reads-items : (items : List Item) (s : State) → All (IsWritable code_length) items → GivesDecisions bytes s (flat_map (entries_of code_length) items)
      → read_items code_length (readers_at s) (map asked_of items) ≡ items
  unfolding read_items
  reads-items [] s writable g = refl
  reads-items (item ∷ items) s writable g =
      let es = entries_of code_length item in
      let others = flat_map (entries_of code_length) items in
      let next = state_after bytes s (asked es) in
      let head = reads-item item s (All-head (IsWritable code_length) item items writable) (gives-before bytes s es others g) in
      ap (λ (r : Item × Readers). r.0 ∷ read_items code_length r.1 (map asked_of items)) head
      ∙ ap (λ (xs : List Item). item ∷ xs) (reads-items items next (All-tail (IsWritable code_length) item items writable) (gives-after bytes s es others g))

pub sequences_read_back : SequencesReadBack
sequences_read_back code_length items writable =
    let es = flat_map (entries_of code_length) items in
    let bytes = encoded_bytes es in
    let start = initial_state bytes in
    let made : Procedures → List Context → Readers = λ ps cs. record { coder = record { bytes = bytes; registers = start.registers }; procedures = ps; ids = cs } in
    ap (λ (ps : Procedures). read_items code_length (made ps (replicate (2 ^ code_length) fresh)) (map asked_of items)) (sym (windows-fresh 13 0))
    ∙ ap (λ (cs : List Context). read_items code_length (made (windows 13 0 (λ k. fresh)) cs) (map asked_of items)) (sym (window-fresh 6656 (2 ^ code_length)))
    ∙ reads-items code_length bytes items start writable (gives-encoded es)
