-- Bytes that are written in parts.
use Rattle.std.proofs.Common.{◌≡◌, ℕ, ◌+◌, ◌-◌, ◌≤◌, true, false, List, Option, Result, Ok, Err, is_ok, length, take, drop, slice_range, subst, sym, arith, length-drop, take-add}
use Rattle.std.proofs.lemmas.List.{length-take, take_all}
use Rattle.std.specs.Prelude.{OnOk}
use Rattle.std.proofs.KnownBytes.{Appends-trans}
use Rattle.std.specs.Io.KnownBytes.{Appends}

pub rest_is : (bytes : List ℕ) (sent : ℕ) → slice_range bytes sent (length bytes) ≡ drop sent bytes
rest_is bytes sent = take_all (length bytes - sent) (drop sent bytes) (omega (arith, length-drop sent bytes))

-- a part of the rest after what was sent
pub sent_more : (a b c : Option (List ℕ)) (bytes : List ℕ) (sent n : ℕ) → sent ≤ length bytes → n ≤ length (slice_range bytes sent (length bytes)) → Appends a b (take sent bytes) → Appends b c (take n (slice_range bytes sent (length bytes)))
    → (sent + n ≤ length bytes) × Appends a c (take (sent + n) bytes)
sent_more a b c bytes sent n within bound before more =
    let rest = rest_is bytes sent in (
      omega (arith, within, rw rest at bound, length-drop sent bytes),
      subst (Appends a c) (sym (take-add sent n bytes)) (Appends-trans a b c _ _ before (rw rest at more)),
    )

pub if_ok : {T E : Type 0} (r : Result T E) (P : Type 0) → is_ok r ≡ true → OnOk r P → P
if_ok (Ok x) P e h = h
if_ok (Err x) P e h = absurd (let never : false ≡ true = e in cc)

-- the next block of bytes that are written in blocks
pub block_more : (a b c : Option (List ℕ)) (bytes block part : List ℕ) (place count : ℕ) → count ≤ length block → part ≡ take (length (take count block)) (drop place bytes)
    → Appends a b (take place bytes) → Appends b c part → Appends a c (take (place + count) bytes)
block_more a b c bytes block part place count fits is before more =
    let long : length (take count block) ≡ count = omega (arith, fits, length-take count block) in
    subst (Appends a c) (sym (take-add place count bytes)) (Appends-trans a b c _ _ before (rw (is, long) at more))
