-- Lists of decisions, one entry at a time.
use Rattle.std.proofs.Common.{◌≡◌, ℕ, suc, ◌+◌, ◌<◌, ◌≤◌, Bool, true, false, cond, List, [], ◌∷◌, ◌++◌, length, append_assoc, Result, Ok, get_or, set, take, drop, refl, sym, ap, subst, ◌∙◌, arith, ⊎_elim, get_or-set_other, get_or-set_same, eqb}
use Rattle.std.proofs.Math.Seq.{drop-cons}
use Rattle.std.proofs.lemmas.Bool.{cases_lt, cases_eq, cond-true, cond-false, eq-eqb, ne_eqb}
use Rattle.std.proofs.lemmas.List.{get_or_past, get_or_default, drop_all, append-nil, take_all}
use Rattle.std.proofs.lemmas.Grind.{take_at_read}
use Rattle.jbig2_base.specs.declared.error.DecodeError.{DecodeError}
use Rattle.jbig2_base.specs.Results.{Gives}
use Rattle.jbig2_base.specs.Bits.{bit_number}
use Rattle.jbig2_coder.specs.Coder.{Coder, Context, Decision, Registers, fresh, decision, initial_registers}
use Rattle.jbig2_coder.specs.Encoder.{EncoderState, CodingInContexts, Codes, HasCoded, initial_coding, encoding, flush_coder, with_marker, with_context, contexts_of, encode_from, encoded_bytes, decoded_from, read_back}
use Rattle.jbig2_coder.specs.inner.EncoderViews.{Contexts, all_fresh}

pub contexts_of-fresh : (known : List Context) → ((k : ℕ) → k < length known → get_or known k fresh ≡ fresh) → contexts_of known ≡ all_fresh
unfolding contexts_of
contexts_of-fresh known h = λ i k. at k i
  where
    at : (k : ℕ) → get_or known k fresh ≡ fresh
    at k = ⊎_elim (h k) (λ (past : length known ≤ k). get_or_past known k fresh past) (cases_lt k (length known))

pub with_context-contexts_of : (known : List Context) (k : ℕ) (x : Context) → k < length known
    → with_context (contexts_of known) k x ≡ contexts_of (set known k x)
unfolding with_context contexts_of
with_context-contexts_of known k x h = λ i j. at j i
  where
    at : (j : ℕ) → cond (eqb j k) x (get_or known j fresh) ≡ get_or (set known k x) j fresh
    at j =
        ⊎_elim
        (λ (e : j ≡ k). cond-true (eqb j k) x (get_or known j fresh) (eq-eqb j k e) ∙ rw e (sym (rw get_or-set_same refl)))
        (λ (n : j ≡ k → ⊥). cond-false (eqb j k) x (get_or known j fresh) (ne_eqb j k n) ∙ sym (rw get_or-set_other refl))
        (cases_eq j k)

pub decoded_from-step : (bytes : List ℕ) (r : Registers) (known : List Context) (asked : List ℕ) (i k : ℕ) (x : Context)
    → i < length asked → get_or asked i 0 ≡ k → k < length known → get_or known k fresh ≡ x
    → decoded_from bytes r (contexts_of known) (drop i asked)
    ≡ (decision bytes r x).symbol ∷ decoded_from bytes (decision bytes r x).registers (contexts_of (set known k (decision bytes r x).context)) (drop (suc i) asked)
unfolding decoded_from contexts_of
decoded_from-step bytes r known asked i k x h ek hk ex =
    rw (drop-cons asked i 0 h, ek, ex, with_context-contexts_of known k (decision bytes r x).context hk) refl

encode_from-cons : (s : EncoderState) (contexts : Contexts) (entry : ℕ × Bool) (entries : List (ℕ × Bool))
    → encode_from s contexts (entry ∷ entries)
    ≡ encode_from (encoding (contexts entry.0) entry.1 s).coding (with_context contexts entry.0 (encoding (contexts entry.0) entry.1 s).context) entries
unfolding encode_from
encode_from-cons s contexts entry entries = refl

contexts_of-known : (known : List Context) (k : ℕ) → contexts_of known k ≡ get_or known k fresh
unfolding contexts_of
contexts_of-known known k = refl

encode_from-step : (s : EncoderState) (known : List Context) (entries rest : List (ℕ × Bool)) (entry : ℕ × Bool) (x : Context)
    → entries ≡ entry ∷ rest → entry.0 < length known → get_or known entry.0 fresh ≡ x
    → encode_from s (contexts_of known) entries
    ≡ encode_from (encoding x entry.1 s).coding (contexts_of (set known entry.0 (encoding x entry.1 s).context)) rest
encode_from-step s known entries rest entry x e hk ex =
    ap (λ (es : List (ℕ × Bool)). encode_from s (contexts_of known) es) e
    ∙ encode_from-cons s (contexts_of known) entry rest
    ∙ ap (λ (y : Context). encode_from (encoding y entry.1 s).coding (with_context (contexts_of known) entry.0 (encoding y entry.1 s).context) rest) (contexts_of-known known entry.0 ∙ ex)
    ∙ ap (λ (f : Contexts). encode_from (encoding x entry.1 s).coding f rest) (with_context-contexts_of known entry.0 (encoding x entry.1 s).context hk)

-- the decision that the code gets as a number
digit-bit : (b : Bool) (n : ℕ) → n ≡ bit_number b → b ≡ eqb n 1
digit-bit true n e = rw e refl
digit-bit false n e = rw e refl

-- one turn of the code that reads a list
pub decoded_from-more : (d e : Coder) (known : List Context) (asked : List ℕ) (i k n : ℕ) (x y : Context) (out more : List Bool)
    → i < length asked → k ≡ get_or asked i 0 → k < length known → x ≡ get_or known k x
    → n ≡ bit_number (decision d.bytes d.registers x).symbol
    → e ≡ record d { registers = (decision d.bytes d.registers x).registers }
    → y ≡ (decision d.bytes d.registers x).context
    → more ≡ out ++ eqb n 1 ∷ []
    → out ++ decoded_from d.bytes d.registers (contexts_of known) (drop i asked)
    ≡ more ++ decoded_from e.bytes e.registers (contexts_of (set known k y)) (drop (i + 1) asked)
decoded_from-more d e known asked i k n x y out more h ek hk ex value coder context pushed =
    let next : Decision = decision d.bytes d.registers x in
    let rest : List Bool = decoded_from d.bytes next.registers (contexts_of (set known k next.context)) (drop (suc i) asked) in
    let place : suc i ≡ i + 1 = omega arith in
    ap (λ (ys : List Bool). out ++ ys) (decoded_from-step d.bytes d.registers known asked i k x h (sym ek) hk (get_or_default known k fresh x hk ∙ sym ex))
    ∙ sym (append_assoc out (next.symbol ∷ []) rest)
    ∙ ap (λ (b : Bool). (out ++ b ∷ []) ++ rest) (digit-bit next.symbol n value)
    ∙ (λ j. sym pushed j ++ decoded_from (sym coder j).bytes (sym coder j).registers (contexts_of (set known k (sym context j))) (drop (place j) asked))

-- the loop that reads a list: before its first turn, and after its last
pub decoded-begin : (d : Coder) (bytes : List ℕ) (known : List Context) (asked : List ℕ) (out : List Bool)
    → d.bytes ≡ bytes → d.registers ≡ initial_registers bytes → contexts_of known ≡ all_fresh → out ≡ []
    → read_back bytes asked ≡ out ++ decoded_from d.bytes d.registers (contexts_of known) asked
unfolding read_back
decoded-begin d bytes known asked out bs registers fresh_ones none =
    λ j. sym none j ++ decoded_from (sym bs j) (sym registers j) (sym fresh_ones j) asked

decoded_from-end : (d : Coder) (contexts : Contexts) (asked : List ℕ) → asked ≡ [] → decoded_from d.bytes d.registers contexts asked ≡ []
unfolding decoded_from
decoded_from-end d contexts asked e = rw e refl

pub decoded-done : (d : Coder) (bytes asked : List ℕ) (contexts : Contexts) (i : ℕ) (out : List Bool)
    → read_back bytes asked ≡ out ++ decoded_from d.bytes d.registers contexts (drop i asked) → length asked ≤ i → read_back bytes asked ≡ out
decoded-done d bytes asked contexts i out e h =
    e ∙ ap (λ (ys : List Bool). out ++ ys) (decoded_from-end d contexts (drop i asked) (drop_all i asked h)) ∙ append-nil out

-- the encoder of a list: before the first decision, after one more, and at the end
pub coded-none : (s : CodingInContexts) → s.coding ≡ initial_coding → contexts_of s.contexts ≡ all_fresh → HasCoded s []
unfolding HasCoded
coded-none s e fresh_ones = λ rest j. encode_from (sym e j) (sym fresh_ones j) rest

pub coded-more : (s t : CodingInContexts) (number k : ℕ) (decision : Bool) (x y : Context) → k ≡ number → k < length s.contexts → x ≡ get_or s.contexts k x
    → t.coding ≡ (encoding x decision s.coding).coding → y ≡ (encoding x decision s.coding).context → t.contexts ≡ set s.contexts k y
    → Codes s t ((number, decision) ∷ [])
unfolding HasCoded
coded-more s t number k decision x y is_k inside ex coding context known =
    subst (λ (n : ℕ). Codes s t ((n, decision) ∷ [])) is_k
    (λ list has rest.
    ap (λ (entries : List (ℕ × Bool)). encode_from initial_coding all_fresh entries) (append_assoc list ((k, decision) ∷ []) rest)
    ∙ has ((k, decision) ∷ rest)
    ∙ encode_from-step s.coding s.contexts ((k, decision) ∷ rest) rest (k, decision) x refl inside (get_or_default s.contexts k fresh x inside ∙ sym ex)
    ∙ (λ j. encode_from (sym coding j) (contexts_of (set s.contexts k (sym context j))) rest)
    ∙ ap (λ (contexts : List Context). encode_from t.coding (contexts_of contexts) rest) (sym known))

encode_from-none : (s : EncoderState) (contexts : Contexts) → encode_from s contexts [] ≡ s
unfolding encode_from
encode_from-none s contexts = refl

pub coded-bytes : (s : CodingInContexts) (list : List (ℕ × Bool)) → HasCoded s list → with_marker (flush_coder s.coding).out ≡ encoded_bytes list
unfolding encoded_bytes HasCoded
coded-bytes s list has =
    let all : encode_from initial_coding all_fresh list ≡ s.coding =
    ap (λ (entries : List (ℕ × Bool)). encode_from initial_coding all_fresh entries) (sym (append-nil list))
    ∙ has [] ∙ encode_from-none s.coding (contexts_of s.contexts) in
    ap (λ (t : EncoderState). with_marker (flush_coder t).out) (sym all)

-- the loop that adds a list's decisions
pub coded-next : (s t : CodingInContexts) (entries : List (ℕ × Bool)) (i : ℕ) → i < length entries
    → HasCoded s (take i entries) → Codes s t (get_or entries i (0, false) ∷ []) → HasCoded t (take (i + 1) entries)
coded-next s t entries i inside has codes =
    subst (λ (list : List (ℕ × Bool)). HasCoded t list) (sym (take_at_read entries i (0, false) inside).1) (codes (take i entries) has)

pub coded-all : (s : CodingInContexts) (entries : List (ℕ × Bool)) (i : ℕ) → length entries ≤ i → HasCoded s (take i entries) → HasCoded s entries
coded-all s entries i h has = subst (λ (list : List (ℕ × Bool)). HasCoded s list) (take_all i entries h) has

pub same_ok : {X : Type 0} (x y : X) → x ≡ y → ◌≡◌ {A = Result X DecodeError} (Ok x) (Ok y)
same_ok {X = X} x y e = ap (λ (z : X). let r : Result X DecodeError = Ok z in r) e

pub Gives-same : {X Y : Type 0} (view : X → Y) (r : Result X DecodeError) (x y : Y) → x ≡ y → Gives view r (Ok x) → Gives view r (Ok y)
Gives-same {Y = Y} view r x y e h = subst (λ (z : Y). Gives view r (Ok z)) e h
