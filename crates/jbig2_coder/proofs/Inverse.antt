-- The decoder reads from a list's bytes that list's decisions.
use Rattle.std.proofs.Common.{◌≡◌, ℕ, Bool, List, [], ◌∷◌, length, map, refl, sym, ap, ◌∙◌, subst}
use Rattle.jbig2_coder.specs.Coder.{Context, Decision, Registers, byte_at, decision, initial_registers}
use Rattle.jbig2_coder.specs.Encoder.{EncoderState, initial_coding, encoding, flush_coder, with_marker, with_context, encode_from, encoded_bytes, decoded_from, read_back, DecodesBack}
use Rattle.jbig2_coder.specs.inner.EncoderViews.{Contexts, all_fresh, Encoding}
use Rattle.jbig2_coder.proofs.InverseBytes.{Valid, first}
use Rattle.jbig2_coder.proofs.InverseShift.{KnowsAt}
use Rattle.jbig2_coder.proofs.InverseNarrow.{Narrowing}
use Rattle.jbig2_coder.proofs.InverseFlush.{Flush}
use Rattle.jbig2_coder.proofs.InverseEncode.{BetweenDecisions, initial-between, resting-between, Entry, entry, narrowing_of, encode_from-entry, encode-back}
use Rattle.jbig2_coder.proofs.InverseRead.{Closing}
use Rattle.jbig2_coder.proofs.InverseDraw.{Together}
use Rattle.jbig2_coder.proofs.InverseDecide.{IfResult, tell}
use Rattle.jbig2_coder.proofs.InverseClosed.{first-closed, Closing-closed, start}

-- The bytes of what is still to come of a list, and that the encoder ended with the first m.
record Ends (f : ℕ → ℕ) (m : ℕ) (s : EncoderState) : Type 0 where
  whole : length (flush_coder s).out ≡ m
  same : first f m ≡ (flush_coder s).out

decoded_from-none : (bytes : List ℕ) (r : Registers) (contexts : Contexts) → decoded_from bytes r contexts [] ≡ []
unfolding decoded_from
decoded_from-none bytes r contexts = refl

decoded_from-entry : (bytes : List ℕ) (r : Registers) (contexts : Contexts) (k : ℕ) (asked : List ℕ)
    → decoded_from bytes r contexts (k ∷ asked)
    ≡ (decision bytes r (contexts k)).symbol
    ∷ decoded_from bytes (decision bytes r (contexts k)).registers (with_context contexts k (decision bytes r (contexts k)).context) asked
unfolding decoded_from
decoded_from-entry bytes r contexts k asked = refl

-- what the end knows of the encoder after the first entry
ends-next : (f : ℕ → ℕ) (m : ℕ) (s : EncoderState) (contexts : Contexts) (e : ℕ × Bool) (es : List (ℕ × Bool)) → BetweenDecisions s
    → Ends f m (encode_from s contexts (e ∷ es))
    → KnowsAt f m (encoding (contexts e.0) e.1 s).coding.range (encoding (contexts e.0) e.1 s).coding.writer
ends-next f m s contexts e es b h =
    let x : Context = contexts e.0 in
    let t : Encoding = encoding x e.1 s in
    let n : Narrowing x e.1 s.range s.writer.register = narrowing_of x e.1 s b in
    let i : Entry x e.1 s n t.coding = entry x e.1 s n b in
    let k : Flush t.coding (flush_coder (encode_from t.coding (with_context contexts e.0 t.context) es)) =
    encode-back es t.coding (with_context contexts e.0 t.context) i.resting in
    let g : Ends f m (encode_from t.coding (with_context contexts e.0 t.context) es) = rw (encode_from-entry s contexts e es) at h in
    k.back f m g.whole g.same

decodes-from : (bytes : List ℕ) (m : ℕ) → Closing (byte_at bytes) m
    → (es : List (ℕ × Bool)) (s : EncoderState) (contexts : Contexts) (r : Registers)
    → BetweenDecisions s → Together (byte_at bytes) m s r → Ends (byte_at bytes) m (encode_from s contexts es)
    → decoded_from bytes r contexts (map (λ e. e.0) es) ≡ map (λ e. e.1) es
decodes-from bytes m closing [] s contexts r b t h = decoded_from-none bytes r contexts
decodes-from bytes m closing (e ∷ es) s contexts r b t h =
    let x : Context = contexts e.0 in
    let c : Encoding = encoding x e.1 s in
    let z : Decision = decision bytes r x in
    let n : Narrowing x e.1 s.range s.writer.register = narrowing_of x e.1 s b in
    let i : Entry x e.1 s n c.coding = entry x e.1 s n b in
    let given : IfResult bytes m e.1 c z = tell bytes m x e.1 s r closing b t (ends-next (byte_at bytes) m s contexts e es b h) in
    let g : Ends (byte_at bytes) m (encode_from c.coding (with_context contexts e.0 c.context) es) =
    rw (encode_from-entry s contexts e es) at h in
    let ih : decoded_from bytes z.registers (with_context contexts e.0 c.context) (map (λ e. e.0) es) ≡ map (λ e. e.1) es =
    decodes-from bytes m closing es c.coding (with_context contexts e.0 c.context) z.registers (resting-between c.coding i.resting) given.follows g in
    decoded_from-entry bytes r contexts e.0 (map (λ e. e.0) es)
    ∙ (λ j. given.symbol j ∷ decoded_from bytes z.registers (with_context contexts e.0 (given.context j)) (map (λ e. e.0) es))
    ∙ ap (λ (ds : List Bool). e.1 ∷ ds) ih

encoded-is : (es : List (ℕ × Bool)) → encoded_bytes es ≡ with_marker (flush_coder (encode_from initial_coding all_fresh es)).out
unfolding encoded_bytes
encoded-is es = refl

decodes-some : (e : ℕ × Bool) (es : List (ℕ × Bool)) (out bytes : List ℕ) → out ≡ (flush_coder (encode_from initial_coding all_fresh (e ∷ es))).out
    → bytes ≡ with_marker out → read_back bytes (map (λ e. e.0) (e ∷ es)) ≡ map (λ e. e.1) (e ∷ es)
unfolding read_back
decodes-some e es out bytes eo eb =
    let x : Context = all_fresh e.0 in
    let c : Encoding = encoding x e.1 initial_coding in
    let n : Narrowing x e.1 initial_coding.range initial_coding.writer.register = narrowing_of x e.1 initial_coding initial-between in
    let i : Entry x e.1 initial_coding n c.coding = entry x e.1 initial_coding n initial-between in
    let m : ℕ = length out in
    let f : ℕ → ℕ = byte_at bytes in
    let whole : first f m ≡ out = ap (λ (b : List ℕ). first (byte_at b) m) eb ∙ first-closed out in
    let ends : Ends f m (encode_from initial_coding all_fresh (e ∷ es)) = record { whole = ap length (sym eo); same = whole ∙ eo } in
    let flush : Flush c.coding (flush_coder (encode_from c.coding (with_context all_fresh e.0 c.context) es)) =
    encode-back es c.coding (with_context all_fresh e.0 c.context) i.resting in
    let last : out ≡ (flush_coder (encode_from c.coding (with_context all_fresh e.0 c.context) es)).out =
    eo ∙ ap (λ (s : EncoderState). (flush_coder s).out) (encode_from-entry initial_coding all_fresh e es) in
    let closing : Closing f m =
    subst (λ (b : List ℕ). Closing (byte_at b) m) (sym eb) (Closing-closed out (subst Valid (sym last) flush.valid)) in
    let next : KnowsAt f m c.coding.range c.coding.writer = ends-next f m initial_coding all_fresh e es initial-between ends in
    let know : KnowsAt f m initial_coding.range initial_coding.writer = i.narrow f m (i.renorm f m next) in
    decodes-from bytes m closing (e ∷ es) initial_coding all_fresh (initial_registers bytes) initial-between (start bytes m closing know) ends

decoded-none : (bytes : List ℕ) → read_back bytes [] ≡ []
unfolding read_back
decoded-none bytes = decoded_from-none bytes (initial_registers bytes) all_fresh

pub decodes_back : DecodesBack
decodes_back [] = decoded-none (encoded_bytes [])
decodes_back (e ∷ es) = decodes-some e es (flush_coder (encode_from initial_coding all_fresh (e ∷ es))).out (encoded_bytes (e ∷ es)) refl (encoded-is (e ∷ es))
