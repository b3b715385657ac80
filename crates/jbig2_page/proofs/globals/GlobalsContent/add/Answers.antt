use Rattle.std.proofs.Common.{◌≡◌, ◌⊎◌, ℕ, true, false, Some, Result, Ok, Err, inl, inr, ⊎_elim, refl, sym, ap, ◌∙◌}
use Rattle.std.proofs.lemmas.Bool.{cond-false, cond-true, false≢true}
use Rattle.jbig2_base.specs.declared.error.DecodeError.{DecodeError}
use Rattle.jbig2_base.specs.declared.error.DecodeError.TheVariants.{OutOfMemory}
use Rattle.jbig2_framing.specs.Reading.{is_salvaged, is_strict}
use Rattle.jbig2_framing.specs.inner.SegmentViews.{segment_view}
use Rattle.jbig2_framing.specs.declared.reading.Reading.{Reading}
use Rattle.jbig2_framing.specs.declared.reading.Reading.TheVariants.{Strict, Lenient, Salvage}
use Rattle.jbig2_framing.proofs.RandomAccess.{left-out}
use Rattle.jbig2_framing.specs.Segment.{SegmentView}
use Rattle.jbig2_page.proofs.AgreeingPages.{kept-any}
use Rattle.jbig2_page.specs.Names.{Names, kept_by, no_names}
use Rattle.jbig2_page.specs.declared.passed_over.PassedOver.{PassedOver}
use Rattle.jbig2_page.proofs.globals.GlobalsContent.add.Goals as goal
use Rattle.jbig2_page.proofs.globals.GlobalsContent.add.Goals.{then-is_strict-via-then-is_strict, then-is_strict-via-else-is_strict+then-matches, in-OutOfMemory, in_default}
use Rattle.jbig2_page.specs.PassedOver.{fault_of, with_passed}
use Rattle.jbig2_page.specs.Globals.{KeptGlobals, or_shared_without}

-- what strict reading keeps, every reading keeps
kept : (reading : Reading) (number : ℕ) (shared : KeptGlobals) (p : SegmentView) (names : Names) → kept_by true no_names p shared.names ≡ Ok names
    → or_shared_without reading (fault_of (kept_by true no_names p shared.names)) number shared (kept_by (is_strict reading) no_names p shared.names) ≡ Ok (record shared { names = names })
kept reading number shared p names is =
    let same : kept_by (is_strict reading) no_names p shared.names ≡ Ok names = kept-any (is_strict reading) no_names p shared.names names is in
    rw (is, same) refl

-- what it refuses is refused by strict reading
refused : (reading : Reading) (number : ℕ) (shared : KeptGlobals) (p : SegmentView) (e : DecodeError) → is_strict reading ≡ true → kept_by true no_names p shared.names ≡ Err e
    → or_shared_without reading (fault_of (kept_by true no_names p shared.names)) number shared (kept_by (is_strict reading) no_names p shared.names) ≡ Err e
refused Strict number shared p e strict is = rw is refl
refused Lenient number shared p e strict is = absurd (let never : false ≡ true = strict in cc)
refused Salvage number shared p e strict is = absurd (let never : false ≡ true = strict in cc)

-- and by another reading kept with its fault, refused, or left out
forgiven : (reading : Reading) (number : ℕ) (shared : KeptGlobals) (p : SegmentView) (e : DecodeError) (r : Result Names DecodeError) → is_strict reading ≡ false → kept_by true no_names p shared.names ≡ Err e → kept_by false no_names p shared.names ≡ r
    → or_shared_without reading (fault_of (kept_by true no_names p shared.names)) number shared (kept_by (is_strict reading) no_names p shared.names) ≡ or_shared_without reading (Some e) number shared r
forgiven reading number shared p e r lenient fault is = rw (fault, lenient, is) refl

never-memory : (reading : Reading) → is_salvaged reading OutOfMemory ≡ false
never-memory Strict = refl
never-memory Lenient = refl
never-memory Salvage = refl

unchanged : {A : Type 0} (reading : Reading) (e : DecodeError) (x y : A) → (e ≡ OutOfMemory) ⊎ (x ≡ y) → is_salvaged reading e ≡ true → x ≡ y
unchanged reading e x y (inl memory) salvaged = absurd (false≢true (sym (never-memory reading) ∙ ap (λ (d : DecodeError). is_salvaged reading d) (sym memory) ∙ salvaged))
unchanged reading e x y (inr same) salvaged = same

-- the error of strict reading, which isn't want of memory, left the names as they were
pub returns-in-Ok-clause-value : goal.returns-in-Ok-clause-value
returns-in-Ok-clause-value g c =
    let reading = c.args.reading in
    let p = segment_view c.args.segment.now in
    let number = c.args.segment.now.header.segment_number in
    let inside : KeptGlobals = record { names = c.self.inside.names; passed_over = c.self.inside.passed_over; cut_off = c.self.inside.cut_off } in
    let meant : KeptGlobals → Result KeptGlobals DecodeError = λ shared. or_shared_without reading (fault_of (kept_by true no_names p shared.names)) number shared (kept_by (is_strict reading) no_names p shared.names) in
    ap meant (sym c.self.view_is) ∙ kept reading number inside p c.keep_segment.new.names c.in-Ok.ensures.value

pub returns-then-is_strict-clause-value : goal.returns-then-is_strict-clause-value
returns-then-is_strict-clause-value g c =
    let reading = c.args.reading in
    let p = segment_view c.args.segment.now in
    let number = c.args.segment.now.header.segment_number in
    let inside : KeptGlobals = record { names = c.self.inside.names; passed_over = c.self.inside.passed_over; cut_off = c.self.inside.cut_off } in
    let meant : KeptGlobals → Result KeptGlobals DecodeError = λ shared. or_shared_without reading (fault_of (kept_by true no_names p shared.names)) number shared (kept_by (is_strict reading) no_names p shared.names) in
    elim c.then-is_strict.branch [
      | then-is_strict-via-then-is_strict w ↦
          ⊎_elim
          (λ (memory : c.in-Err.fault ≡ OutOfMemory). inl memory)
          (λ fails. inr (ap meant (sym c.self.view_is) ∙ refused reading number inside p c.in-Err.fault (sym c.is_strict.ensures ∙ w.if-is_strict.true) fails))
          c.in-Err.ensures.value
      | then-is_strict-via-else-is_strict+then-matches w ↦ elim w.match-matches.branch [
        | in-OutOfMemory m ↦ inl m.in-OutOfMemory.is
        | in_default m ↦ absurd (false≢true (sym m.matches-is ∙ w.if-matches.true))
      ]
    ]

-- what is there after an error that isn't want of memory
fails-too : (e : DecodeError) (r : Result Names DecodeError) → (e ≡ OutOfMemory → ⊥) → (e ≡ OutOfMemory) ⊎ (r ≡ Err e) → r ≡ Err e
fails-too e r other (inl memory) = absurd (other memory)
fails-too e r other (inr fails) = fails

stays : (e : DecodeError) (x y : Names) → (e ≡ OutOfMemory → ⊥) → (e ≡ OutOfMemory) ⊎ (x ≡ y) → x ≡ y
stays e x y other (inl memory) = absurd (other memory)
stays e x y other (inr same) = same

pub returns-in-Ok-keep_segment-clause-value : goal.returns-in-Ok-keep_segment-clause-value
returns-in-Ok-keep_segment-clause-value g c =
    let reading = c.args.reading in
    let p = segment_view c.args.segment.now in
    let number = c.args.segment.now.header.segment_number in
    let inside : KeptGlobals = record { names = c.self.inside.names; passed_over = c.self.inside.passed_over; cut_off = c.self.inside.cut_off } in
    let meant : KeptGlobals → Result KeptGlobals DecodeError = λ shared. or_shared_without reading (fault_of (kept_by true no_names p shared.names)) number shared (kept_by (is_strict reading) no_names p shared.names) in
    let other : c.in-Err.fault ≡ OutOfMemory → ⊥ = elim c.match-matches.branch [
      | in-OutOfMemory w ↦ λ memory. false≢true (sym c.if-matches.false ∙ w.matches-is)
      | in_default w ↦ w.in_default.not-OutOfMemory
    ] in
    let same = stays c.in-Err.fault c.keep_segment.new.names inside.names other c.in-Err.ensures.unchanged in
    ap meant (sym c.self.view_is)
    ∙ forgiven reading number inside p c.in-Err.fault (Ok c.keep_segment-2.new.names) (sym c.is_strict.ensures ∙ c.if-is_strict.false) (fails-too c.in-Err.fault (kept_by true no_names p inside.names) other c.in-Err.ensures.value)
    (ap (λ (n : Names). kept_by false no_names p n) (sym same) ∙ c.in-Ok-keep_segment.ensures.value)
    ∙ ap (λ (q : PassedOver). let made : Result KeptGlobals DecodeError = Ok (record { names = c.keep_segment-2.new.names; passed_over = q; cut_off = inside.cut_off }) in made) (sym c.add.ensures)

pub returns-then-not-is_salvaged-clause-value : goal.returns-then-not-is_salvaged-clause-value
returns-then-not-is_salvaged-clause-value g c =
    let reading = c.args.reading in
    let p = segment_view c.args.segment.now in
    let number = c.args.segment.now.header.segment_number in
    let inside : KeptGlobals = record { names = c.self.inside.names; passed_over = c.self.inside.passed_over; cut_off = c.self.inside.cut_off } in
    let meant : KeptGlobals → Result KeptGlobals DecodeError = λ shared. or_shared_without reading (fault_of (kept_by true no_names p shared.names)) number shared (kept_by (is_strict reading) no_names p shared.names) in
    let error = c.in-Err-keep_segment.error in
    let other : c.in-Err.fault ≡ OutOfMemory → ⊥ = elim c.match-matches.branch [
      | in-OutOfMemory w ↦ λ memory. false≢true (sym c.if-matches.false ∙ w.matches-is)
      | in_default w ↦ w.in_default.not-OutOfMemory
    ] in
    let same = stays c.in-Err.fault c.keep_segment.new.names inside.names other c.in-Err.ensures.unchanged in
    ⊎_elim
    (λ (memory : error ≡ OutOfMemory). inl memory)
    (λ fails.
    inr
    (ap meant (sym c.self.view_is)
    ∙ forgiven reading number inside p c.in-Err.fault (Err error) (sym c.is_strict.ensures ∙ c.if-is_strict.false) (fails-too c.in-Err.fault (kept_by true no_names p inside.names) other c.in-Err.ensures.value)
    (ap (λ (n : Names). kept_by false no_names p n) (sym same) ∙ fails)
    ∙ cond-false (is_salvaged reading error) (Ok (record inside { passed_over = with_passed (Some number) error inside.passed_over })) (Err error) (sym c.if-not-is_salvaged.ensures.value)))
    c.in-Err-keep_segment.ensures.value

pub returns-clause-value : goal.returns-clause-value
returns-clause-value g c =
    let reading = c.args.reading in
    let p = segment_view c.args.segment.now in
    let number = c.args.segment.now.header.segment_number in
    let inside : KeptGlobals = record { names = c.self.inside.names; passed_over = c.self.inside.passed_over; cut_off = c.self.inside.cut_off } in
    let meant : KeptGlobals → Result KeptGlobals DecodeError = λ shared. or_shared_without reading (fault_of (kept_by true no_names p shared.names)) number shared (kept_by (is_strict reading) no_names p shared.names) in
    let error = c.in-Err-keep_segment.error in
    let other : c.in-Err.fault ≡ OutOfMemory → ⊥ = elim c.match-matches.branch [
      | in-OutOfMemory w ↦ λ memory. false≢true (sym c.if-matches.false ∙ w.matches-is)
      | in_default w ↦ w.in_default.not-OutOfMemory
    ] in
    let same = stays c.in-Err.fault c.keep_segment.new.names inside.names other c.in-Err.ensures.unchanged in
    let salvaged : is_salvaged reading error ≡ true = sym c.if-not-is_salvaged.ensures.value in
    let fails = left-out reading error (kept_by false no_names p c.keep_segment.new.names) c.in-Err-keep_segment.ensures.value salvaged in
    let kept_names : c.keep_segment-2.new.names ≡ inside.names = unchanged reading error c.keep_segment-2.new.names c.keep_segment.new.names c.in-Err-keep_segment.ensures.unchanged salvaged ∙ same in
    ap meant (sym c.self.view_is)
    ∙ forgiven reading number inside p c.in-Err.fault (Err error) (sym c.is_strict.ensures ∙ c.if-is_strict.false) (fails-too c.in-Err.fault (kept_by true no_names p inside.names) other c.in-Err.ensures.value)
    (ap (λ (n : Names). kept_by false no_names p n) (sym same) ∙ fails)
    ∙ cond-true (is_salvaged reading error) (Ok (record inside { passed_over = with_passed (Some number) error inside.passed_over })) (Err error) salvaged
    ∙ ap (λ (q : PassedOver). let made : Result KeptGlobals DecodeError = Ok (record { names = inside.names; passed_over = q; cut_off = inside.cut_off }) in made) (sym c.add-in-Err-keep_segment.ensures)
    ∙ ap (λ (n : Names). let made : Result KeptGlobals DecodeError = Ok (record { names = n; passed_over = c.add-in-Err-keep_segment.new.self; cut_off = inside.cut_off }) in made) (sym kept_names)
