-- A text region is the fold of the list of its instances.
use Rattle.std.proofs.Common.{◌≡◌, ℕ, zero, suc, ◌-◌, ◌*◌, ◌≤◌, eqb, ltb, false, ℤ, pos, List, [], ◌∷◌, ◌++◌, Option, Some, None, Result, Ok, Err, refl, sym, ◌∙◌, ap, arith, append_assoc, append-nil, ne_eqb}
use Rattle.std.proofs.lemmas.Bool.{cond-false}
use Rattle.std.specs.Prelude.{◌+ℤ◌, ◌-ℤ◌, if◌then◌else◌}
use Rattle.std.specs.Option.{is_some}
use Rattle.jbig2_base.specs.Results.{◌>>=◌, refuse_if}
use Rattle.jbig2_base.specs.Combination.{combined_grid}
use Rattle.jbig2_base.specs.Grid.{Grid}
use Rattle.jbig2_base.specs.declared.bitmap.operator.CombinationOperator.{CombinationOperator}
use Rattle.jbig2_base.specs.declared.error.DecodeError.{DecodeError}
use Rattle.jbig2_base.specs.declared.error.DecodeError.TheVariants.{Symbol}
use Rattle.jbig2_base.specs.declared.error.SymbolError.TheVariants.{TooManyInstances}
use Rattle.jbig2_text.specs.Refining.{Refining}
use Rattle.jbig2_text.specs.Text.{Instance, Readings, TextParams, TextState, after_instances, coordinate, instance_symbol, next_cursor, strip_delta, strip_start, symbol_placed, t_in_strip, text_region, with_ids, with_instance, with_symbol}
use Rattle.jbig2_text.specs.TextCoding.{by_coder, by_prefix_codes}
use Rattle.jbig2_text.specs.declared.cursor.Cursor.{Cursor}
use Rattle.jbig2_second_forms.specs.TextInstances.{placed, moved, Strip, instance_at, strips_end, strip_from, strips_from, instances_of, instances_drawn, TextRegionsAreLists}
use Rattle.jbig2_second_forms.proofs.Steps.{next-next, same-next}

drawn-append : (operator : CombinationOperator) (region : Grid) (xs ys : List Instance) → instances_drawn operator region (xs ++ ys) ≡ instances_drawn operator (instances_drawn operator region xs) ys
drawn-append operator region [] ys = refl
drawn-append operator region (i ∷ xs) ys = drawn-append operator (combined_grid operator region i.grid i.x i.y) xs ys

module _ {S : Type 0} (r : Readings S) (p : TextParams) where
  abbrev fold : Grid → List Instance → Grid
  fold region is = instances_drawn p.flags.combination_operator region is

  abbrev Read : Type 0  -- the instances, the contexts and the coder
  Read = List Instance × Refining × S

  abbrev Drawn : Type 0
  Drawn = Grid × Refining × S

  abbrev draws : Grid → Read → Result Drawn DecodeError
  draws region x = Ok (fold region x.0, x.1, x.2)

  -- ---- an instance
  abbrev One : Type 0
  One = List Instance × ℤ × Refining × S

  abbrev with_one : TextState S → One → TextState S
  with_one x t = record { region = fold x.region t.0; cursor = record x.cursor { cur_s = t.1 }; refining = t.2; state = t.3 }

  abbrev to_state : Refining → S → Grid × Cursor → Result (TextState S) DecodeError
  to_state f s c = Ok (record { region = c.0; cursor = c.1; refining = f; state = s })

  abbrev to_one : Refining → S → List Instance × ℤ → Result One DecodeError
  to_one f s i = Ok (i.0, i.1, f, s)

  abbrev drawn_after : TextState S → One → Result (TextState S) DecodeError
  drawn_after x t = Ok (with_one x t)

  abbrev drawn_alone : TextState S → Instance × ℤ → Result (Grid × Cursor) DecodeError
  drawn_alone x i = Ok (combined_grid p.flags.combination_operator x.region i.0.grid i.0.x i.0.y, record x.cursor { cur_s = i.1 })

  abbrev listed_alone : Instance × ℤ → Result (List Instance × ℤ) DecodeError
  listed_alone i = Ok (i.0 ∷ [], i.1)

  one-symbol : (x : TextState S) (ti : ℤ) (ib : Option Grid) (f : Refining) (s : S)
      → (with_symbol p.flags x.region x.cursor ti ib >>= to_state f s)
      ≡ ((placed p.flags x.cursor.cur_s ti ib >>= to_one f s) >>= drawn_after x)
  one-symbol x ti None f s = refl
  one-symbol x ti (Some g) f s = by (symbol_placed p.flags g x.cursor.cur_s ti)
    where
      by : (placing : Result (Instance × ℤ) DecodeError)
          → ((placing >>= drawn_alone x) >>= to_state f s)
          ≡ (((placing >>= listed_alone) >>= to_one f s) >>= drawn_after x)
      by (Ok i) = refl
      by (Err e) = refl

  instance-is : (x : TextState S) → with_instance r p x ≡ (instance_at r p x.cursor.strip_t x.cursor.cur_s x.refining x.state >>= drawn_after x)
  unfolding with_instance instance_at
  instance-is x = by (t_in_strip r p.flags x.state)
    where
      symbols : (ti : ℤ) (ib : Result (Option Grid × Refining × S) DecodeError)
          → (ib >>= λ ib. with_symbol p.flags x.region x.cursor ti ib.0 >>= to_state ib.1 ib.2)
          ≡ ((ib >>= λ ib. placed p.flags x.cursor.cur_s ti ib.0 >>= to_one ib.1 ib.2) >>= drawn_after x)
      symbols ti (Ok ib) = one-symbol x ti ib.0 ib.1 ib.2
      symbols ti (Err e) = refl

      ids : (ti : ℤ) (id : Result (ℤ × S) DecodeError)
          → (id >>= λ id. instance_symbol r p id.0 x.refining id.1 >>= λ ib. with_symbol p.flags x.region x.cursor ti ib.0 >>= to_state ib.1 ib.2)
          ≡ ((id >>= λ id. instance_symbol r p id.0 x.refining id.1 >>= λ ib. placed p.flags x.cursor.cur_s ti ib.0 >>= to_one ib.1 ib.2) >>= drawn_after x)
      ids ti (Ok id) = symbols ti (instance_symbol r p id.0 x.refining id.1)
      ids ti (Err e) = refl

      at_ti : (ti : Result ℤ DecodeError) (after : S)
          → (ti >>= λ ti. r.id after >>= λ id. instance_symbol r p id.0 x.refining id.1 >>= λ ib. with_symbol p.flags x.region x.cursor ti ib.0 >>= to_state ib.1 ib.2)
          ≡ ((ti >>= λ ti. r.id after >>= λ id. instance_symbol r p id.0 x.refining id.1 >>= λ ib. placed p.flags x.cursor.cur_s ti ib.0 >>= to_one ib.1 ib.2) >>= drawn_after x)
      at_ti (Ok ti) after = ids ti (r.id after)
      at_ti (Err e) after = refl

      by : (curt : Result (ℤ × S) DecodeError)
          → (curt >>= λ curt. coordinate (x.cursor.strip_t +ℤ curt.0) >>= λ ti. r.id curt.1 >>= λ id. instance_symbol r p id.0 x.refining id.1 >>= λ ib. with_symbol p.flags x.region x.cursor ti ib.0 >>= to_state ib.1 ib.2)
          ≡ ((curt >>= λ curt. coordinate (x.cursor.strip_t +ℤ curt.0) >>= λ ti. r.id curt.1 >>= λ id. instance_symbol r p id.0 x.refining id.1 >>= λ ib. placed p.flags x.cursor.cur_s ti ib.0 >>= to_one ib.1 ib.2) >>= drawn_after x)
      by (Ok curt) = at_ti (coordinate (x.cursor.strip_t +ℤ curt.0)) curt.1
      by (Err e) = refl

  -- ---- the loop of `Text`, from its front
  abbrev ends : S → Result (Unit {0}) DecodeError
  ends s = if p.strict then (r.delta_s s >>= λ ids. refuse_if (is_some ids) (Symbol TooManyInstances)) else Ok tt

  abbrev finish : TextState S → Result Drawn DecodeError
  finish x = ends x.state >>= λ _. Ok (x.region, x.refining, r.after_delta_s x.state)

  unfoldable looped : ℕ → TextState S → Result Drawn DecodeError
  looped zero x = with_instance r p x >>= finish
  looped (suc n) x = with_instance r p x >>= λ y. next_cursor r p.flags y.cursor y.state >>= λ c. looped n (record y { cursor = c.0; state = c.1 })

  loop-is : (n : ℕ) (x : TextState S) → (after_instances r p n x >>= λ y. with_instance r p y >>= finish) ≡ looped n x
  unfolding after_instances looped
  loop-is zero x = refl
  loop-is (suc n) x =
      next-next (with_instance r p x) _ _
      ∙ same-next (with_instance r p x) _ _ (λ y.
      next-next (next_cursor r p.flags y.cursor y.state) _ _
      ∙ same-next (next_cursor r p.flags y.cursor y.state) _ _ (λ c. loop-is n (record y { cursor = c.0; state = c.1 })))

  -- ---- the strips
  -- what is drawn from a strip on
  abbrev strip_on : ℕ → Grid → ℤ → ℤ → Strip S → Result Drawn DecodeError
  strip_on m region stript firsts strip =
      strips_from r p m strip.left stript firsts strip.refining strip.state >>= λ x. draws region (strip.instances ++ x.0, x.1, x.2)

  -- the same, after these instances
  after-first : (m : ℕ) (region : Grid) (stript firsts : ℤ) (first : List Instance) (strip : Strip S)
      → strip_on m region stript firsts (record strip { instances = first ++ strip.instances }) ≡ strip_on m (fold region first) stript firsts strip
  after-first m region stript firsts first strip =
      same-next (strips_from r p m strip.left stript firsts strip.refining strip.state) _ _ (λ x.
      ap (λ (g : Grid). Ok (g, x.1, x.2))
      (ap (λ (is : List Instance). fold region is) (append_assoc first strip.instances x.0) ∙ drawn-append p.flags.combination_operator region first (strip.instances ++ x.0)))

  no-strips : (m : ℕ) (stript firsts : ℤ) (f : Refining) (s : S) → strips_from r p m 0 stript firsts f s ≡ Ok ([], f, s)
  unfolding strips_from
  no-strips zero stript firsts f s = refl
  no-strips (suc m) stript firsts f s = refl

  last-strip : (m : ℕ) (region : Grid) (stript firsts : ℤ) (t : One)
      → (ends t.3 >>= λ _. Ok (fold region t.0, t.2, r.after_delta_s t.3))
      ≡ ((strips_end r p t.3 >>= λ end. Ok (record { instances = t.0; left = 0; refining = t.2; state = end })) >>= strip_on m region stript firsts)
  last-strip m region stript firsts t = by (ends t.3)
    where
      by : (e : Result (Unit {0}) DecodeError)
          → (e >>= λ _. Ok (fold region t.0, t.2, r.after_delta_s t.3))
          ≡ (((e >>= λ _. Ok (r.after_delta_s t.3)) >>= λ end. Ok (record { instances = t.0; left = 0; refining = t.2; state = end })) >>= strip_on m region stript firsts)
      by (Ok _) =
          ap (λ (is : List Instance). Ok (fold region is, t.2, r.after_delta_s t.3)) (sym (append-nil t.0))
          ∙ sym (ap (λ (z : Result Read DecodeError). z >>= λ x. draws region (t.0 ++ x.0, x.1, x.2)) (no-strips m stript firsts t.2 (r.after_delta_s t.3)))
      by (Err e) = refl

  abbrev at_place : Grid → ℤ → ℤ → ℤ → Refining → S → TextState S
  at_place region stript firsts curs f s = record { region = region; cursor = record { strip_t = stript; first_s = firsts; cur_s = curs }; refining = f; state = s }

  -- what comes after an instance that isn't the last one
  abbrev strip_after : ℕ → ℤ → One → Option ℤ → Result (Strip S) DecodeError
  strip_after n stript t ids = elim ids [
    | None ↦ Ok (record { instances = t.0; left = suc n; refining = t.2; state = r.after_delta_s t.3 })
    | Some number ↦ moved p.flags t.1 number >>= λ curs. strip_from r p n stript curs t.2 (r.after_delta_s t.3) >>= λ others. Ok (record others { instances = t.0 ++ others.instances })
  ]

  abbrev Loops : ℕ → Type 0  -- the loop and the strips are one, from an instance on
  Loops n = (m : ℕ) → n ≤ m → (region : Grid) (stript firsts curs : ℤ) (f : Refining) (s : S)
      → looped n (at_place region stript firsts curs f s) ≡ (strip_from r p n stript curs f s >>= strip_on m region stript firsts)

  -- the instance t is drawn onto the region
  abbrev drawn_to : Grid → One → Cursor × S → TextState S
  drawn_to region t c = record { region = fold region t.0; cursor = c.0; refining = t.2; state = c.1 }

  abbrev with_others : One → Strip S → Strip S
  with_others t others = record others { instances = t.0 ++ others.instances }

  module _ (n : ℕ) (loops : Loops n) (region : Grid) (stript firsts : ℤ) (t : One) where
    abbrev cursor_at : ℤ → Cursor
    cursor_at curs = record { strip_t = stript; first_s = firsts; cur_s = curs }

    some-again : (m : ℕ) → n ≤ m → (next : S) (curs : ℤ)
        → looped n (drawn_to region t (cursor_at curs, next)) ≡ ((strip_from r p n stript curs t.2 next >>= λ others. Ok (with_others t others)) >>= strip_on m region stript firsts)
    some-again m enough next curs =
        let strip = strip_from r p n stript curs t.2 next in
        loops m enough (fold region t.0) stript firsts curs t.2 next
        ∙ same-next strip _ _ (λ others. sym (after-first m region stript firsts t.0 others))
        ∙ sym (next-next strip (λ others. Ok (with_others t others)) (strip_on m region stript firsts))

    some-moved : (m : ℕ) → n ≤ m → (next : S) (curs : Result ℤ DecodeError)
        → ((curs >>= λ curs. Ok (cursor_at curs, next)) >>= λ c. looped n (drawn_to region t c))
        ≡ ((curs >>= λ curs. strip_from r p n stript curs t.2 next >>= λ others. Ok (with_others t others)) >>= strip_on m region stript firsts)
    some-moved m enough next (Ok curs) = some-again m enough next curs
    some-moved m enough next (Err e) = refl

    some-after : (m : ℕ) → n ≤ m → (next : S) (after_ids : Result ℤ DecodeError)
        → ((after_ids >>= λ after_ids. coordinate (after_ids +ℤ p.flags.delta_s_offset) >>= λ curs. Ok (cursor_at curs, next)) >>= λ c. looped n (drawn_to region t c))
        ≡ (((after_ids >>= λ after_ids. coordinate (after_ids +ℤ p.flags.delta_s_offset)) >>= λ curs. strip_from r p n stript curs t.2 next >>= λ others. Ok (with_others t others)) >>= strip_on m region stript firsts)
    some-after m enough next (Ok after_ids) = some-moved m enough next (coordinate (after_ids +ℤ p.flags.delta_s_offset))
    some-after m enough next (Err e) = refl

    none-after : (m : ℕ) → suc n ≤ m → (next : S)
        → (strip_start r p.flags stript firsts next >>= λ c. looped n (drawn_to region t c))
        ≡ (strips_from r p m (suc n) stript firsts t.2 next >>= λ x. draws region (t.0 ++ x.0, x.1, x.2))
    unfolding strips_from
    none-after zero enough next = absurd (omega (arith, enough))
    none-after (suc m) enough next =
        let start = strip_start r p.flags stript firsts next in
        same-next start _ _ (λ c.
        let strip = strip_from r p n c.0.strip_t c.0.cur_s t.2 c.1 in
        loops m (omega (arith, enough)) (fold region t.0) c.0.strip_t c.0.first_s c.0.cur_s t.2 c.1
        ∙ same-next strip _ _ (λ s. let rest = strips_from r p m s.left c.0.strip_t c.0.first_s s.refining s.state in
        same-next rest _ _ (λ x. ap (λ (g : Grid). Ok (g, x.1, x.2)) (sym (drawn-append p.flags.combination_operator region t.0 (s.instances ++ x.0))))
        ∙ sym (next-next rest (λ x. Ok (s.instances ++ x.0, x.1, x.2)) (λ x. draws region (t.0 ++ x.0, x.1, x.2))))
        ∙ sym (next-next strip _ (λ x. draws region (t.0 ++ x.0, x.1, x.2))))
        ∙ sym (next-next start _ (λ x. draws region (t.0 ++ x.0, x.1, x.2)))

    ids-after : (m : ℕ) → suc n ≤ m → (ids : Option ℤ)
        → (with_ids r p.flags (cursor_at t.1) ids (r.after_delta_s t.3) >>= λ c. looped n (drawn_to region t c))
        ≡ (strip_after n stript t ids >>= strip_on m region stript firsts)
    ids-after m enough None = none-after m enough (r.after_delta_s t.3)
    ids-after m enough (Some number) = some-after m (omega (arith, enough)) (r.after_delta_s t.3) (coordinate (t.1 +ℤ number))

    after : (m : ℕ) → suc n ≤ m
        → (next_cursor r p.flags (cursor_at t.1) t.3 >>= λ c. looped n (drawn_to region t c))
        ≡ ((r.delta_s t.3 >>= strip_after n stript t) >>= strip_on m region stript firsts)
    unfolding next_cursor
    after m enough =
        next-next (r.delta_s t.3) _ _
        ∙ same-next (r.delta_s t.3) _ _ (λ ids. ids-after m enough ids)
        ∙ sym (next-next (r.delta_s t.3) (strip_after n stript t) (strip_on m region stript firsts))

  strips-loop : (n : ℕ) → Loops n
  unfolding looped strip_from
  strips-loop zero m enough region stript firsts curs f s =
      let x = at_place region stript firsts curs f s in
      let one = instance_at r p stript curs f s in
      ap (λ (z : Result (TextState S) DecodeError). z >>= finish) (instance-is x)
      ∙ next-next one (drawn_after x) finish
      ∙ same-next one _ _ (λ t. last-strip m region stript firsts t)
      ∙ sym (next-next one _ (strip_on m region stript firsts))
  strips-loop (suc n) m enough region stript firsts curs f s =
      let x = at_place region stript firsts curs f s in
      let one = instance_at r p stript curs f s in
      let on : TextState S → Result Drawn DecodeError = λ y. next_cursor r p.flags y.cursor y.state >>= λ c. looped n (record y { cursor = c.0; state = c.1 }) in
      ap (λ (z : Result (TextState S) DecodeError). z >>= on) (instance-is x)
      ∙ next-next one (drawn_after x) on
      ∙ same-next one _ _ (λ t. after n (strips-loop n) region stript firsts t m enough)
      ∙ sym (next-next one _ (strip_on m region stript firsts))

  -- ---- the region
  with-count : (count : ℕ) (region : Grid) (stript : ℤ) (f : Refining) (s : S)
      → (if eqb count 0 then Ok (region, f, s) else (strip_start r p.flags stript (pos 0) s >>= λ c.
      after_instances r p (count - 1) (record { region = region; cursor = c.0; refining = f; state = c.1 }) >>= λ x. with_instance r p x >>= finish))
      ≡ (strips_from r p count count stript (pos 0) f s >>= draws region)
  unfolding strips_from
  with-count zero region stript f s = refl
  with-count (suc n) region stript f s =
      let start = strip_start r p.flags stript (pos 0) s in
      let one : suc n - 1 ≡ n = omega arith in
      let some : eqb (suc n) 0 ≡ false = ne_eqb (suc n) 0 (λ e. omega (arith, e)) in
      let nothing : Result Drawn DecodeError = Ok (region, f, s) in
      let loop : Cursor × S → Result Drawn DecodeError = λ c.
      after_instances r p (suc n - 1) (record { region = region; cursor = c.0; refining = f; state = c.1 }) >>= λ x. with_instance r p x >>= finish in
      cond-false (eqb (suc n) 0) nothing (start >>= loop) some
      ∙ same-next start loop _ (λ c.
      let x : TextState S = record { region = region; cursor = c.0; refining = f; state = c.1 } in
      let strip = strip_from r p n c.0.strip_t c.0.cur_s f c.1 in
      ap (λ (k : ℕ). after_instances r p k x >>= λ y. with_instance r p y >>= finish) one
      ∙ loop-is n x
      ∙ strips-loop n n (omega arith) region c.0.strip_t c.0.first_s c.0.cur_s f c.1
      ∙ same-next strip _ _ (λ s. let rest = strips_from r p n s.left c.0.strip_t c.0.first_s s.refining s.state in
      sym (next-next rest (λ x. Ok (s.instances ++ x.0, x.1, x.2)) (draws region)))
      ∙ sym (next-next strip _ (draws region)))
      ∙ sym (next-next start _ (draws region))

  pub region-is : (region : Grid) (f : Refining) (s : S) → text_region r p region f s ≡ (instances_of r p f s >>= draws region)
  unfolding text_region instances_of
  region-is region f s =
      let few = refuse_if (ltb (32 * p.data_length) p.count) (Symbol TooManyInstances) in
      let first = strip_delta r p.flags s in
      same-next few _ _ (λ _.
      same-next first _ _ (λ dt.
      let stript = coordinate (pos 0 -ℤ dt.0) in
      same-next stript _ _ (λ t. with-count p.count region t f dt.1)
      ∙ sym (next-next stript _ (draws region)))
      ∙ sym (next-next first _ (draws region)))
      ∙ sym (next-next few _ (draws region))

pub text_regions_are_lists : TextRegionsAreLists
text_regions_are_lists = record {
  coded = region-is by_coder;
  prefixed = region-is by_prefix_codes;
}
