use Rattle.std.proofs.Common.{◌≡◌, ℕ, ◌-◌, ◌<◌, sym, ◌∙◌, ap, arith, drop, length, take, List, Bool, true, cond, ltb, Result, Ok, Err}
use Rattle.std.proofs.lemmas.Bool.{cond-true, cond-false, lt-ltb, le-ltb}
use Rattle.std.proofs.lemmas.List.{take_rest, length-drop}
use Rattle.jbig2_framing.specs.Segment.{is_end_marker}
use Rattle.jbig2_base.specs.Search.{place_from}
use Rattle.jbig2_base.specs.declared.error.DecodeError.{DecodeError}
use Rattle.jbig2_base.specs.declared.error.DecodeError.TheVariants.{Segment}
use Rattle.jbig2_base.specs.declared.error.SegmentError.TheVariants.{MissingEndMarker}
use Rattle.jbig2_base.proofs.SearchLemmas.{place-is}
use Rattle.jbig2_framing.proofs.segment.end_marker.first_end_marker.Goals as goal

-- what is returned for a place, and for none
found : (n place : ℕ) → Result ℕ DecodeError
found n place = cond (ltb place n) (Ok place) (Err (Segment MissingEndMarker))

pub returns-then-is_end_marker : goal.returns-then-is_end_marker
unfolding found
returns-then-is_end_marker c =
    let bytes = c.args.bytes.now in
    let n = length bytes in
    let k = c.loop-place.place in
    let test : ℕ → Bool = λ j. is_end_marker c.args.flags (drop j bytes) in
    let rest : take (n - k) (drop k bytes) ≡ drop k bytes = take_rest bytes k in
    let here : test k ≡ true = ap (λ (ys : List ℕ). is_end_marker c.args.flags ys) (sym rest) ∙ sym c.if-is_end_marker.ensures.value in
    let inside : k < n = c.loop-place-test.true in
    let first : place_from test 0 n ≡ k = place-is test 0 n k (omega arith) (omega arith) (omega arith) (λ j _ below. c.loop-place.invariant j below) (λ _. here) in
    record {
      value = ap (λ (place : ℕ). found n place) first ∙ cond-true (ltb k n) (Ok k) (Err (Segment MissingEndMarker)) (lt-ltb k n inside);
      inside = omega (arith, ap length rest, length-drop k bytes, c.if-is_end_marker.ensures.room);
    }

pub returns : goal.returns
unfolding found
returns c =
    let bytes = c.args.bytes.now in
    let n = length bytes in
    let test : ℕ → Bool = λ j. is_end_marker c.args.flags (drop j bytes) in
    let none : place_from test 0 n ≡ n = place-is test 0 n n (omega arith) (omega arith) (omega arith) (λ j _ below. c.loop-place.invariant j (omega arith)) (λ past. absurd (omega arith)) in
    record {
      value = rw c.into.ensures (ap (λ (place : ℕ). found n place) none ∙ cond-false (ltb n n) (Ok n) (Err (Segment MissingEndMarker)) (le-ltb n n (omega arith)));
      inside = tt;
    }
