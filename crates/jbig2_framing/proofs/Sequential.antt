-- Segments that are read, and those that are left.
use Rattle.std.proofs.Common.{◌≡◌, ℕ, ◌-◌, ◌<◌, ◌≤◌, suc, zero, List, [], ◌∷◌, ◌++◌, length, Option, Some, None, Result, Ok, Err, Bool, true, false, nat_eq, refl, sym, ◌∙◌, ap, arith}
use Rattle.std.proofs.lemmas.List.{append_assoc, append-nil}
use Rattle.std.proofs.lemmas.Bool.{cond-true, cond-false, ne_eqb, eq-eqb}
use Rattle.jbig2_base.specs.Results.{◌>>=◌}
use Rattle.jbig2_framing.specs.CutOff.{cut_off_at, first_refused, refused_or}
use Rattle.jbig2_framing.specs.declared.cut_off.CutOff.{CutOff}
use Rattle.jbig2_framing.specs.Reading.{is_strict}
use Rattle.jbig2_framing.specs.Segment.{SegmentView, segment_at}
use Rattle.jbig2_framing.specs.Sequential.{segments_in, sequential, goes_on, is_end_of_file, is_cut_off}
use Rattle.jbig2_base.specs.declared.error.DecodeError.{DecodeError}
use Rattle.jbig2_framing.specs.declared.reading.Reading.{Reading}

abbrev pub with_front : List SegmentView → Result (List SegmentView) DecodeError → Result (List SegmentView) DecodeError
with_front front r = r >>= λ ps. Ok (front ++ ps)

-- Some segments are read, and with those in the bytes that are left they are what is meant.
pub record Reads (front : List SegmentView) (reading : Reading) (bytes : List ℕ) (meant : Result (List SegmentView) DecodeError) : Type 0 where
  pub most : ℕ
  pub enough : length bytes ≤ most
  pub same : with_front front (segments_in most reading bytes) ≡ meant

pub front-none : (r : Result (List SegmentView) DecodeError) → with_front [] r ≡ r
front-none (Ok ps) = refl
front-none (Err e) = refl

pub begins : (reading : Reading) (bytes : List ℕ) → Reads [] reading bytes (sequential reading bytes)
begins reading bytes = record { most = length bytes; enough = omega arith; same = front-none (segments_in (length bytes) reading bytes) }

-- the next segment, where bytes are left
pub next_in : (most : ℕ) (reading : Reading) (bytes : List ℕ) → 0 < length bytes → segments_in (suc most) reading bytes ≡ goes_on reading (segment_at (is_strict reading) bytes) (segments_in most reading)
unfolding segments_in
next_in most reading bytes some = cond-false (nat_eq (length bytes) 0) (Ok []) (goes_on reading (segment_at (is_strict reading) bytes) (segments_in most reading)) (ne_eqb (length bytes) 0 (λ e. omega arith))

none_in : (most : ℕ) (reading : Reading) (bytes : List ℕ) → length bytes ≡ 0 → segments_in most reading bytes ≡ Ok []
unfolding segments_in
none_in zero reading bytes none = refl
none_in (suc most) reading bytes none = cond-true (nat_eq (length bytes) 0) (Ok []) (goes_on reading (segment_at (is_strict reading) bytes) (segments_in most reading)) (eq-eqb (length bytes) 0 none)

pub one_more : (front : List SegmentView) (p : SegmentView) (r : Result (List SegmentView) DecodeError) → with_front (front ++ p ∷ []) r ≡ with_front front (r >>= λ ps. Ok (p ∷ ps))
one_more front p (Ok ps) = ap (λ (qs : List SegmentView). Ok qs) (append_assoc front (p ∷ []) ps)
one_more front p (Err e) = refl

-- what is meant, by the segment at the front
at_front : (front : List SegmentView) (reading : Reading) (bytes : List ℕ) (meant : Result (List SegmentView) DecodeError) (reads : Reads front reading bytes meant) (r : Result (SegmentView × List ℕ) DecodeError) → 0 < length bytes → segment_at (is_strict reading) bytes ≡ r → with_front front (goes_on reading r (segments_in (reads.most - 1) reading)) ≡ meant
at_front front reading bytes meant reads r some e =
    let next : suc (reads.most - 1) ≡ reads.most = omega (arith, reads.enough) in
    ap (λ (s : Result (SegmentView × List ℕ) DecodeError). with_front front (goes_on reading s (segments_in (reads.most - 1) reading))) (sym e)
    ∙ ap (λ (s : Result (List SegmentView) DecodeError). with_front front s) (sym (next_in (reads.most - 1) reading bytes some) ∙ ap (λ (n : ℕ). segments_in n reading bytes) next)
    ∙ reads.same

pub next : (front : List SegmentView) (reading : Reading) (bytes rest : List ℕ) (meant : Result (List SegmentView) DecodeError) (p : SegmentView) → Reads front reading bytes meant → segment_at (is_strict reading) bytes ≡ Ok (p, rest) → length rest < length bytes → is_end_of_file p.header.segment_type ≡ false → Reads (front ++ p ∷ []) reading rest meant
next front reading bytes rest meant p reads e shorter goes = record {
  most = reads.most - 1;
  enough = omega (arith, reads.enough);
  same =
      one_more front p (segments_in (reads.most - 1) reading rest)
      ∙ ap (λ (r : Result (List SegmentView) DecodeError). with_front front r) (sym (cond-false (is_end_of_file p.header.segment_type) (Ok (p ∷ [])) (segments_in (reads.most - 1) reading rest >>= λ ps. Ok (p ∷ ps)) goes))
      ∙ at_front front reading bytes meant reads (Ok (p, rest)) (omega arith) e;
}

pub last : (front : List SegmentView) (reading : Reading) (bytes rest : List ℕ) (meant : Result (List SegmentView) DecodeError) (p : SegmentView) → Reads front reading bytes meant → segment_at (is_strict reading) bytes ≡ Ok (p, rest) → 0 < length bytes → is_end_of_file p.header.segment_type ≡ true → meant ≡ Ok (front ++ p ∷ [])
last front reading bytes rest meant p reads e some ends =
    sym (ap (λ (r : Result (List SegmentView) DecodeError). with_front front r) (sym (cond-true (is_end_of_file p.header.segment_type) (Ok (p ∷ [])) (segments_in (reads.most - 1) reading rest >>= λ ps. Ok (p ∷ ps)) ends))
    ∙ at_front front reading bytes meant reads (Ok (p, rest)) some e)

pub drops : (front : List SegmentView) (reading : Reading) (bytes : List ℕ) (meant : Result (List SegmentView) DecodeError) (error : DecodeError) → Reads front reading bytes meant → segment_at (is_strict reading) bytes ≡ Err error → 0 < length bytes → is_cut_off reading error ≡ true → meant ≡ Ok front
drops front reading bytes meant error reads e some cut =
    sym (ap (λ (ps : List SegmentView). Ok ps) (sym (append-nil front))
    ∙ ap (λ (r : Result (List SegmentView) DecodeError). with_front front r) (sym (cond-true (is_cut_off reading error) (Ok []) (Err error) cut))
    ∙ at_front front reading bytes meant reads (Err error) some e)

pub gives_up : (front : List SegmentView) (reading : Reading) (bytes : List ℕ) (meant : Result (List SegmentView) DecodeError) (error : DecodeError) → Reads front reading bytes meant → segment_at (is_strict reading) bytes ≡ Err error → 0 < length bytes → is_cut_off reading error ≡ false → meant ≡ Err error
gives_up front reading bytes meant error reads e some kept =
    sym (ap (λ (r : Result (List SegmentView) DecodeError). with_front front r) (sym (cond-false (is_cut_off reading error) (Ok []) (Err error) kept))
    ∙ at_front front reading bytes meant reads (Err error) some e)

pub ends : (front : List SegmentView) (reading : Reading) (bytes : List ℕ) (meant : Result (List SegmentView) DecodeError) → Reads front reading bytes meant → length bytes ≡ 0 → meant ≡ Ok front
ends front reading bytes meant reads none =
    sym reads.same ∙ ap (λ (r : Result (List SegmentView) DecodeError). with_front front r) (none_in reads.most reading bytes none) ∙ ap (λ (ps : List SegmentView). Ok ps) (append-nil front)

-- the same under another name for what was read
pub Reads-as : (front others : List SegmentView) (reading : Reading) (bytes : List ℕ) (meant : Result (List SegmentView) DecodeError) → front ≡ others → Reads front reading bytes meant → Reads others reading bytes meant
Reads-as front others reading bytes meant e reads = record { most = reads.most; enough = reads.enough; same = ap (λ (qs : List SegmentView). with_front qs (segments_in reads.most reading bytes)) (sym e) ∙ reads.same }

-- a segment that is read by the mode's own test
pub read-as : (strict : Bool) (reading : Reading) (bytes : List ℕ) (r : Result (SegmentView × List ℕ) DecodeError) → strict ≡ is_strict reading → segment_at strict bytes ≡ r → segment_at (is_strict reading) bytes ≡ r
read-as strict reading bytes r e is = ap (λ (b : Bool). segment_at b bytes) (sym e) ∙ is

-- ---- where a list ends early
-- From these bytes on, what is refused first is what is meant.
pub record Refuses {X : Type 0} (read : List ℕ → Result (X × List ℕ) DecodeError) (is_last : X → Bool) (bytes : List ℕ) (meant : Option (List ℕ × DecodeError)) : Type 0 where
  pub most : ℕ
  pub enough : length bytes ≤ most
  pub same : first_refused read is_last most bytes ≡ meant

module _ {X : Type 0} (read : List ℕ → Result (X × List ℕ) DecodeError) (is_last : X → Bool) where
  pub refuses-begins : (bytes : List ℕ) → Refuses read is_last bytes (first_refused read is_last (length bytes) bytes)
  refuses-begins bytes = record { most = length bytes; enough = omega arith; same = refl }

  refused-more : (most : ℕ) (bytes : List ℕ) → 0 < length bytes → first_refused read is_last (suc most) bytes ≡ refused_or read is_last bytes (read bytes) (first_refused read is_last most)
  unfolding first_refused
  refused-more most bytes some = cond-false (nat_eq (length bytes) 0) None (refused_or read is_last bytes (read bytes) (first_refused read is_last most)) (ne_eqb (length bytes) 0 (λ e. omega arith))

  refused-none : (most : ℕ) (bytes : List ℕ) → length bytes ≡ 0 → first_refused read is_last most bytes ≡ None
  unfolding first_refused
  refused-none zero bytes none = refl
  refused-none (suc most) bytes none = cond-true (nat_eq (length bytes) 0) None (refused_or read is_last bytes (read bytes) (first_refused read is_last most)) (eq-eqb (length bytes) 0 none)

  refused-front : (bytes : List ℕ) (meant : Option (List ℕ × DecodeError)) (reads : Refuses read is_last bytes meant) (r : Result (X × List ℕ) DecodeError) → 0 < length bytes → read bytes ≡ r → refused_or read is_last bytes r (first_refused read is_last (reads.most - 1)) ≡ meant
  refused-front bytes meant reads r some e =
      let next : suc (reads.most - 1) ≡ reads.most = omega (arith, reads.enough) in
      ap (λ (s : Result (X × List ℕ) DecodeError). refused_or read is_last bytes s (first_refused read is_last (reads.most - 1))) (sym e)
      ∙ sym (refused-more (reads.most - 1) bytes some)
      ∙ ap (λ (n : ℕ). first_refused read is_last n bytes) next
      ∙ reads.same

  pub refuses-next : (bytes rest : List ℕ) (meant : Option (List ℕ × DecodeError)) (x : X) → Refuses read is_last bytes meant → read bytes ≡ Ok (x, rest) → length rest < length bytes → is_last x ≡ false → Refuses read is_last rest meant
  refuses-next bytes rest meant x reads e shorter goes = record {
    most = reads.most - 1;
    enough = omega (arith, reads.enough);
    same =
        sym (cond-false (is_last x) None (first_refused read is_last (reads.most - 1) rest) goes)
        ∙ refused-front bytes meant reads (Ok (x, rest)) (omega arith) e;
  }

  pub refuses-last : (bytes rest : List ℕ) (meant : Option (List ℕ × DecodeError)) (x : X) → Refuses read is_last bytes meant → read bytes ≡ Ok (x, rest) → 0 < length bytes → is_last x ≡ true → None ≡ meant
  refuses-last bytes rest meant x reads e some ends =
      sym (cond-true (is_last x) None (first_refused read is_last (reads.most - 1) rest) ends)
      ∙ refused-front bytes meant reads (Ok (x, rest)) some e

  pub refuses-here : (bytes : List ℕ) (meant : Option (List ℕ × DecodeError)) (error : DecodeError) → Refuses read is_last bytes meant → read bytes ≡ Err error → 0 < length bytes → Some (bytes, error) ≡ meant
  refuses-here bytes meant error reads e some = refused-front bytes meant reads (Err error) some e

  pub refuses-none : (bytes : List ℕ) (meant : Option (List ℕ × DecodeError)) → Refuses read is_last bytes meant → length bytes ≡ 0 → None ≡ meant
  refuses-none bytes meant reads none = sym (refused-none reads.most bytes none) ∙ reads.same

-- the cut-off that a call gives for a place
pub at_place : (strict test : Bool) (left bytes : List ℕ) (error : DecodeError) (cut_off : CutOff) → strict ≡ test → left ≡ bytes → ◌≡◌ {A = Result CutOff DecodeError} (Ok (cut_off_at strict left error)) (Ok cut_off) → Some cut_off ≡ Some (cut_off_at test bytes error)
at_place strict test left bytes error cut_off e f is = rw (sym e, sym f) (same cut_off (cut_off_at strict left error) is)
  where
    same : (x y : CutOff) → ◌≡◌ {A = Result CutOff DecodeError} (Ok y) (Ok x) → Some x ≡ Some y
    same x y e = cc
