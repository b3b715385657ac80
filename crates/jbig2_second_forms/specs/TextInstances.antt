-- Text regions (T.88, 6.4.5) as lists: the instances of a region, strip by strip, without a bitmap, and then the fold
-- that draws them. Single numbers are read as `Text` has it. The law: this and the loop of `Text`, which draws each
-- instance as soon as it is read, are one.
use Rattle.std.specs.Prelude.{◌≡◌, ℕ, zero, suc, ◌*◌, nat_lt, if◌then◌else◌, ℤ, pos, ◌+ℤ◌, ◌-ℤ◌, List, [], ◌∷◌, ◌++◌}
use Rattle.std.specs.Prelude.{Option, Some, None, Result, Ok}
use Rattle.std.specs.Option.{is_some}
use Rattle.jbig2_base.specs.Results.{◌>>=◌, refuse_if}
use Rattle.jbig2_base.specs.Combination.{combined_grid}
use Rattle.jbig2_base.specs.Grid.{Grid}
use Rattle.jbig2_base.specs.declared.bitmap.operator.CombinationOperator.{CombinationOperator}
use Rattle.jbig2_base.specs.declared.error.DecodeError.{DecodeError}
use Rattle.jbig2_base.specs.declared.error.DecodeError.TheVariants.{Symbol}
use Rattle.jbig2_base.specs.declared.error.SymbolError.TheVariants.{TooManyInstances}
use Rattle.jbig2_text.specs.Refining.{Refining}
use Rattle.jbig2_text.specs.Text.{Instance, Readings, TextParams, coordinate, instance_symbol, strip_delta, strip_start}
use Rattle.jbig2_text.specs.Text.{symbol_placed, t_in_strip, text_region}
use Rattle.jbig2_text.specs.TextCoding.{by_coder, by_prefix_codes}
use Rattle.jbig2_text.specs.declared.header.TextRegionFlags.{TextRegionFlags}

-- ---- the list
-- IB at CURS and TI, and CURS after it (steps 3 c vi to x). An id without a symbol adds no instance (our own rule).
abbrev pub placed : TextRegionFlags → ℤ → ℤ → Option Grid → Result (List Instance × ℤ) DecodeError
placed flags curs ti None = Ok ([], curs)
placed flags curs ti (Some ib) = symbol_placed flags ib curs ti >>= λ (i, next). Ok (i ∷ [], next)

abbrev pub moved : TextRegionFlags → ℤ → ℤ → Result ℤ DecodeError  -- IDS and SBDSOFFSET are added to CURS (3 c ii)
moved flags curs ids = coordinate (curs +ℤ ids) >>= λ after_ids. coordinate (after_ids +ℤ flags.delta_s_offset)

-- a strip that was read: its instances, how many are left for the strips after it, the contexts and the coder
pub record Strip (S : Type 0) : Type 0 where
  pub instances : List Instance
  pub left : ℕ
  pub refining : Refining
  pub state : S

module _ {S : Type 0} (r : Readings S) (p : TextParams) where
  -- the instance at CURS in the strip at STRIPT, and CURS after it (steps 3 c iii to x)
  unfoldable pub instance_at : ℤ → ℤ → Refining → S → Result (List Instance × ℤ × Refining × S) DecodeError
  instance_at stript curs f s = do
    (curt, after_curt) ← t_in_strip r p.flags s
    ti ← coordinate (stript +ℤ curt)
    (id, after_id) ← r.id after_curt
    (ib, refining, after_ib) ← instance_symbol r p id f after_id
    (instances, next) ← placed p.flags curs ti ib
    Ok (instances, next, refining, after_ib)

  -- out of band ends the last strip, too; strict reading refuses any other end (our own rule)
  abbrev pub strips_end : S → Result S DecodeError
  strips_end s = do
    ends ← if p.strict then (r.delta_s s >>= λ ids. refuse_if (is_some ids) (Symbol TooManyInstances)) else Ok tt
    Ok (r.after_delta_s s)

  -- The instances of a strip from CURS on (step 3 c), where at most n more come after the first one. Out of band ends
  -- the strip.
  unfoldable pub strip_from : ℕ → ℤ → ℤ → Refining → S → Result (Strip S) DecodeError
  strip_from zero stript curs f s = do
    (first, next, refining, after) ← instance_at stript curs f s
    end ← strips_end after
    Ok (record { instances = first; left = 0; refining = refining; state = end })
  strip_from (suc n) stript curs f s =
      instance_at stript curs f s >>= λ (first, next, refining, after).
      r.delta_s after >>= λ ids. (elim ids [
        | None ↦ Ok (record { instances = first; left = suc n; refining = refining; state = r.after_delta_s after })
        | Some number ↦
            moved p.flags next number >>= λ curs. strip_from n stript curs refining (r.after_delta_s after)
            >>= λ others. Ok (record others { instances = first ++ others.instances })
      ])

  -- The instances of the strips after STRIPT and FIRSTS (step 3), as many as are left. Each strip has one at least, so
  -- as many strips are enough.
  unfoldable pub strips_from : ℕ → ℕ → ℤ → ℤ → Refining → S → Result (List Instance × Refining × S) DecodeError
  strips_from zero left stript firsts f s = Ok ([], f, s)
  strips_from (suc m) zero stript firsts f s = Ok ([], f, s)
  strips_from (suc m) (suc n) stript firsts f s = do
    (at, after) ← strip_start r p.flags stript firsts s
    strip ← strip_from n at.strip_t at.cur_s f after
    (others, refining, end) ← strips_from m strip.left at.strip_t at.first_s strip.refining strip.state
    Ok (strip.instances ++ others, refining, end)

  -- all instances of a region (steps 2 to 4), and the contexts and the coder after them
  unfoldable pub instances_of : Refining → S → Result (List Instance × Refining × S) DecodeError
  instances_of f s = do
    few ← refuse_if (nat_lt (32 * p.data_length) p.count) (Symbol TooManyInstances)
    (dt, after_dt) ← strip_delta r p.flags s
    stript ← coordinate (pos 0 -ℤ dt)
    strips_from p.count p.count stript (pos 0) f after_dt

-- ---- the fold
-- the region after instances are drawn onto it, one after the other (step 3 c ix)
abbrev pub instances_drawn : CombinationOperator → Grid → List Instance → Grid
instances_drawn operator region [] = region
instances_drawn operator region (i ∷ others) =
    instances_drawn operator (combined_grid operator region i.grid i.x i.y) others

-- A region is the fold of its instances. The contexts and the coder after it are the same, and so is each error.
abbrev pub IsListDrawn : {S : Type 0} → Readings S → Type 0
IsListDrawn {S = S} r = (p : TextParams) (region : Grid) (f : Refining) (s : S)
    → text_region r p region f s
    ≡ (instances_of r p f s
    >>= λ (is, refining, after). Ok (instances_drawn p.flags.combination_operator region is, refining, after))

-- So it is in both codings, for symbols as they are and for refined ones.
pub record TextRegionsAreLists : Type 0 where
  pub coded : IsListDrawn by_coder
  pub prefixed : IsListDrawn by_prefix_codes
