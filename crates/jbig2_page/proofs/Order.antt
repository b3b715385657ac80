-- The order of segments of different numbers, and what is after the end of a page.
use Rattle.std.proofs.Common.{◌≡◌, ◌≢◌, ℕ, ◌<◌, Bool, true, false, cond, nat_lt, List, [], ◌∷◌, ◌++◌, Option, Result, Ok, Err, refl, sym, ap, ◌∙◌, arith}
use Rattle.std.proofs.lemmas.Bool.{cond-true, cond-false, cond_both, ltb-true, ltb-false, lt-ltb, le-ltb}
use Rattle.jbig2_base.specs.Results.{◌>>=◌}
use Rattle.jbig2_framing.specs.CutOff.{sequence_cut_off, sequence_partial}
use Rattle.jbig2_framing.specs.declared.cut_off.CutOff.{CutOff}
use Rattle.jbig2_framing.specs.Segment.{SegmentView}
use Rattle.jbig2_framing.specs.Sequential.{by_number, insert_by, sequential, sorted_segments}
use Rattle.jbig2_base.specs.declared.error.DecodeError.{DecodeError}
use Rattle.jbig2_framing.specs.declared.reading.Reading.{Reading}
use Rattle.jbig2_page.specs.Names.{Names}
use Rattle.jbig2_page.specs.Order.{EndOfPageEnds, IsReordered, OrderChangesNothing, Unchanged, After, Exchanged, Then}
use Rattle.jbig2_page.specs.Page.{Drawing, ReadPage, beginning_of, drawing_with, page_from, page_segments, part_of_list, ends_page, blank_page, segment_on, segments_drawn, with_cut_off}
use Rattle.jbig2_page.specs.Globals.{globals_at, nothing_shared, shared_from}

-- ---- order
abbrev number : SegmentView → ℕ
number p = p.header.segment_number

abbrev put : SegmentView → List SegmentView → List SegmentView
put p ps = insert_by number p ps

put-after : (p q : SegmentView) (ps : List SegmentView) → number q < number p → put p (q ∷ ps) ≡ q ∷ put p ps
put-after p q ps less = cond-true (nat_lt (number q) (number p)) (q ∷ put p ps) (p ∷ q ∷ ps) (lt-ltb (number q) (number p) less)

put-before : (p q : SegmentView) (ps : List SegmentView) → number p < number q → put p (q ∷ ps) ≡ p ∷ q ∷ ps
put-before p q ps less = cond-false (nat_lt (number q) (number p)) (q ∷ put p ps) (p ∷ q ∷ ps) (le-ltb (number q) (number p) (omega arith))

-- two are put in either order
put-both : (p q : SegmentView) (ps : List SegmentView) → number p < number q → put p (put q ps) ≡ put q (put p ps)
put-both p q [] less = put-before p q [] less ∙ sym (put-after q p [] less)
put-both p q (r ∷ rs) less =
    let P : List SegmentView → Type 0 = λ xs. put p xs ≡ put q (put p (r ∷ rs)) in
    cond_both (nat_lt (number r) (number q)) (r ∷ put q rs) (q ∷ r ∷ rs) P
    (λ after. cond_both (nat_lt (number r) (number p)) (r ∷ put p rs) (p ∷ r ∷ rs) (λ xs. put p (r ∷ put q rs) ≡ put q xs)
    (λ far. put-after p r (put q rs) (ltb-true (number r) (number p) far) ∙ ap (λ xs. r ∷ xs) (put-both p q rs less) ∙ sym (put-after q r (put p rs) (ltb-true (number r) (number q) after)))
    (λ near. cond-false (nat_lt (number r) (number p)) (r ∷ put p (put q rs)) (p ∷ r ∷ put q rs) near
    ∙ ap (λ xs. p ∷ xs) (sym (put-after q r rs (ltb-true (number r) (number q) after))) ∙ sym (put-after q p (r ∷ rs) less)))
    (λ before.
    let less_too : number p < number r = omega (arith, ltb-false (number r) (number q) before) in
    put-before p q (r ∷ rs) less
    ∙ sym (ap (λ xs. put q xs) (put-before p r rs less_too) ∙ put-after q p (r ∷ rs) less ∙ ap (λ xs. p ∷ xs) (cond-false (nat_lt (number r) (number q)) (r ∷ put q rs) (q ∷ r ∷ rs) before)))

put-either : (p q : SegmentView) (ps : List SegmentView) → number p ≢ number q → put p (put q ps) ≡ put q (put p ps)
put-either p q ps differ = by (nat_lt (number p) (number q)) refl
  where
    by : (b : Bool) → nat_lt (number p) (number q) ≡ b → put p (put q ps) ≡ put q (put p ps)
    by true is = put-both p q ps (ltb-true (number p) (number q) is)
    by false is = sym (put-both q p ps (omega (arith, ltb-false (number p) (number q) is)))

reordered-sorted : (ps qs : List SegmentView) → IsReordered ps qs → by_number ps ≡ by_number qs
reordered-sorted ps qs (Unchanged rs) = refl
reordered-sorted ps qs (After p before after more) = ap (λ xs. put p xs) (reordered-sorted before after more)
reordered-sorted ps qs (Exchanged p q rs differ) = put-either p q (by_number rs) differ
reordered-sorted ps qs (Then before middle after one other) = reordered-sorted before middle one ∙ reordered-sorted middle after other

sorted-as : (reading : Reading) (bytes others : List ℕ) (ps qs : List SegmentView) → sequential reading bytes ≡ Ok ps → sequential reading others ≡ Ok qs → IsReordered ps qs → sorted_segments reading bytes ≡ sorted_segments reading others
sorted-as reading bytes others ps qs one other moved =
    let sorted : Result (List SegmentView) DecodeError → Result (List SegmentView) DecodeError = λ r. r >>= λ xs. Ok (by_number xs) in
    ap sorted one ∙ ap (λ (xs : List SegmentView). let r : Result (List SegmentView) DecodeError = Ok xs in r) (reordered-sorted ps qs moved) ∙ sym (ap sorted other)

-- the same before others
with-others : (ps qs others : List SegmentView) → IsReordered ps qs → IsReordered (ps ++ others) (qs ++ others)
with-others ps qs others (Unchanged rs) = Unchanged (rs ++ others)
with-others ps qs others (After p before after more) = After p (before ++ others) (after ++ others) (with-others before after others more)
with-others ps qs others (Exchanged p q rs differ) = Exchanged p q (rs ++ others) differ
with-others ps qs others (Then before middle after one other) = Then (before ++ others) (middle ++ others) (after ++ others) (with-others before middle others one) (with-others middle after others other)

page-sorted-as : (reading : Reading) (bytes others : List ℕ) (ps qs : List SegmentView) → sequential reading bytes ≡ Ok ps → sequential reading others ≡ Ok qs → IsReordered ps qs → sequence_partial reading bytes ≡ sequence_partial reading others → page_segments reading bytes ≡ page_segments reading others
page-sorted-as reading bytes others ps qs one other moved part =
    let more : List SegmentView = part_of_list reading (sequence_partial reading bytes) in
    let sorted : Result (List SegmentView) DecodeError → Result (List SegmentView) DecodeError = λ r. r >>= λ xs. Ok (by_number (xs ++ more)) in
    ap sorted one
    ∙ ap (λ (xs : List SegmentView). let r : Result (List SegmentView) DecodeError = Ok xs in r) (reordered-sorted (ps ++ more) (qs ++ more) (with-others ps qs more moved))
    ∙ sym (ap sorted other)
    ∙ ap (λ (o : Option SegmentView). sequential reading others >>= λ xs. let r : Result (List SegmentView) DecodeError = Ok (by_number (xs ++ part_of_list reading o)) in r) part

pub order_changes_nothing : OrderChangesNothing
unfolding page_from globals_at
order_changes_nothing = record {
  page = λ reading globals bytes others ps qs one other moved cut part.
      ap (λ (r : Result (List SegmentView) DecodeError). r >>= λ segments. beginning_of reading segments >>= λ initial_page. let made : Result ReadPage DecodeError = Ok (record { reading = reading; initial_page = initial_page; segments = segments; globals = Ok globals; cut_off = sequence_cut_off reading bytes }) in made)
      (page-sorted-as reading bytes others ps qs one other moved part)
      ∙ ap (λ (f : Option CutOff). page_segments reading others >>= λ segments. beginning_of reading segments >>= λ initial_page. let made : Result ReadPage DecodeError = Ok (record { reading = reading; initial_page = initial_page; segments = segments; globals = Ok globals; cut_off = f }) in made) cut;
  globals = λ reading bytes others ps qs one other moved cut.
      ap (λ (r : Result (List SegmentView) DecodeError). r >>= λ segments. shared_from reading segments (nothing_shared (sequence_cut_off reading bytes))) (sorted-as reading bytes others ps qs one other moved)
      ∙ ap (λ (f : Option CutOff). sorted_segments reading others >>= λ segments. shared_from reading segments (nothing_shared f)) cut;
}

-- ---- after the end of a page
next-same : (r : Result Drawing DecodeError) (next other : Drawing → Result Drawing DecodeError) → ((d : Drawing) → next d ≡ other d) → (r >>= next) ≡ (r >>= other)
next-same (Ok d) next other each = each d
next-same (Err e) next other each = refl

drawn-to-end : (reading : Reading) (globals : Names) (ps others : List SegmentView) (end : SegmentView) (d : Drawing) → ends_page end.header.segment_type ≡ true → segments_drawn reading globals (ps ++ end ∷ others) d ≡ segments_drawn reading globals ps d
drawn-to-end reading globals [] others end d ends = cond-true (ends_page end.header.segment_type) (Ok d) (segment_on reading globals end d >>= λ e. segments_drawn reading globals others e) ends
drawn-to-end reading globals (p ∷ ps) others end d ends =
    ap (λ (r : Result Drawing DecodeError). cond (ends_page p.header.segment_type) (Ok d) r)
    (next-same (segment_on reading globals p d) (λ e. segments_drawn reading globals (ps ++ end ∷ others) e) (λ e. segments_drawn reading globals ps e) (λ e. drawn-to-end reading globals ps others end e ends))

names-next : (r : Result Names DecodeError) (next other : Names → Result Drawing DecodeError) → ((names : Names) → next names ≡ other names) → (r >>= next) ≡ (r >>= other)
names-next (Ok names) next other each = each names
names-next (Err e) next other each = refl

pub end_of_page_ends : EndOfPageEnds
end_of_page_ends page ps others end are ends =
    names-next page.globals (λ names. drawing_with names page) (λ names. drawing_with names (record page { segments = ps })) (λ names.
    ap (λ (drawn : Result Drawing DecodeError). drawn >>= λ d. let told : Result Drawing DecodeError = Ok (with_cut_off page.cut_off d) in told)
    (ap (λ (segments : List SegmentView). segments_drawn page.reading names segments (blank_page page.initial_page)) are
    ∙ drawn-to-end page.reading names ps others end (blank_page page.initial_page) ends))
