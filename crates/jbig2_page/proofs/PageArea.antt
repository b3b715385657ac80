-- The page's area under a region.
use Rattle.std.proofs.Common.{◌≡◌, ◌⊎◌, inl, inr, ℕ, ◌<◌, ◌≤◌, Bool, true, false, ◌||◌, nat_lt, ℤ, pos, ◌-ℤ◌, Result, Ok, Err, refl, sym, ◌∙◌, ap, arith}
use Rattle.std.proofs.lemmas.Bool.{le-ltb, lt-leb}
use Rattle.jbig2_base.specs.Grid.{Grid, part_of, part_or_overflow}
use Rattle.jbig2_base.specs.declared.bitmap.part.Area.{Area}
use Rattle.jbig2_base.specs.Results.{◌>>=◌, refuse_if}
use Rattle.jbig2_base.specs.declared.error.DecodeError.{DecodeError}
use Rattle.jbig2_base.specs.declared.error.DecodeError.TheVariants as errors
use Rattle.jbig2_base.specs.declared.error.DecodeError.TheVariants.{OutOfMemory, Overflow}
use Rattle.jbig2_base.specs.declared.error.OverflowError.TheVariants.{ReferenceOffset}
use Rattle.jbig2_base.specs.declared.error.RegionError.TheVariants.{InvalidDimension}
use Rattle.std.specs.Prelude.{if◌then◌else◌}
use Rattle.jbig2_region.specs.RegionInfo.{PlacedRegion, is_far}
use Rattle.jbig2_region.specs.WholeRows.{refined_part}
use Rattle.jbig2_region.specs.Refinement.{offset, refined_decoded}
use Rattle.jbig2_region.specs.RefinementHeader.{RefinementHeader}
use Rattle.jbig2_region.specs.declared.region_info.RegionSegmentInfo.{RegionSegmentInfo}
use Rattle.jbig2_page.specs.Regions.{page_area}
use Rattle.jbig2_page.specs.inner.PageViews.{near_area}
use Rattle.jbig2_base.proofs.FillLemmas.{part-fits}

-- an area that lies near is what was made
pub area-near : (page : Grid) (info : RegionSegmentInfo) (area : PlacedRegion) → near_area page info ≡ Ok area → page_area page info ≡ area
area-near page info area e = near (is_far info.x_location || is_far info.y_location) e
  where
    near : (far : Bool) → (refuse_if far (Overflow ReferenceOffset) >>= λ _. Ok (page_area page info)) ≡ Ok area → page_area page info ≡ area
    near true h = absurd (let never : ◌≡◌ {A = Result PlacedRegion DecodeError} (Err (Overflow ReferenceOffset)) (Ok area) = h in cc)
    near false h = cc

not-smaller : (n : ℕ) → nat_lt n n ≡ false
not-smaller n = le-ltb n n (omega arith)

-- an area that lies far is refused as a reference
offset-far : (h : RefinementHeader) (page : Grid) (error : DecodeError) → near_area page h.region_info ≡ Err error → offset (page_area page h.region_info) h.region_info ≡ Err error
unfolding offset
offset-far h page error e =
    refused (nat_lt h.region_info.width h.region_info.width) (nat_lt h.region_info.height h.region_info.height) (is_far h.region_info.x_location) (is_far h.region_info.y_location) (not-smaller h.region_info.width) (not-smaller h.region_info.height) e
  where
    refused : (wider higher x y : Bool) → wider ≡ false → higher ≡ false → (refuse_if (x || y) (Overflow ReferenceOffset) >>= λ _. Ok (page_area page h.region_info)) ≡ Err error
        → ◌≡◌ {A = Result (ℤ × ℤ) DecodeError} (refuse_if (wider || higher) (errors.Region InvalidDimension) >>= λ _. refuse_if (x || x || y || y) (Overflow ReferenceOffset) >>= λ _. Ok (pos h.region_info.x_location -ℤ pos h.region_info.x_location, pos h.region_info.y_location -ℤ pos h.region_info.y_location)) (Err error)
    refused true higher x y no_wider no_higher h = cc
    refused false true x y no_wider no_higher h = cc
    refused false false true y no_wider no_higher h = cc
    refused false false false true no_wider no_higher h = cc
    refused false false false false no_wider no_higher h = cc

-- a region far away is refused, whole or in part
pub area-far : (partial : Bool) (h : RefinementHeader) (page : Grid) (error : DecodeError) → near_area page h.region_info ≡ Err error → (if partial then refined_part h (page_area page h.region_info) else refined_decoded h (page_area page h.region_info)) ≡ Err error
unfolding refined_part
area-far true h page error e = rw (offset-far h page error e) refl
area-far false h page error e = rw (offset-far h page error e) refl

-- the part of the page that was cut out
pub area-made : (page made : Grid) (info : RegionSegmentInfo) → info.width ≤ 65535 → info.height ≤ 65535 → info.x_location < 2147483648 → info.y_location < 2147483648
    → part_or_overflow page (record { left = info.x_location; top = info.y_location; width = info.width; height = info.height }) ≡ Ok made
    → near_area page info ≡ Ok (record { grid = made; x_location = info.x_location; y_location = info.y_location; combination_operator = info.combination_operator })
area-made page made info columns rows near_x near_y e =
    let part : Area = record { left = info.x_location; top = info.y_location; width = info.width; height = info.height } in
    let is : part_of page part ≡ made = let same : Ok (part_of page part) ≡ Ok made = sym (part-fits page part columns rows) ∙ e in cc in
    near (is_far info.x_location) (is_far info.y_location) (lt-leb 2147483648 info.x_location near_x) (lt-leb 2147483648 info.y_location near_y)
    ∙ ap (λ (g : Grid). Ok (record { grid = g; x_location = info.x_location; y_location = info.y_location; combination_operator = info.combination_operator })) is
  where
    near : (x y : Bool) → x ≡ false → y ≡ false → (refuse_if (x || y) (Overflow ReferenceOffset) >>= λ _. Ok (page_area page info)) ≡ Ok (page_area page info)
    near true y no_x no_y = absurd (let never : true ≡ false = no_x in cc)
    near false true no_x no_y = absurd (let never : true ≡ false = no_y in cc)
    near false false no_x no_y = refl

-- none is refused for its size
pub area-refused : (page : Grid) (info : RegionSegmentInfo) (error : DecodeError) → info.width ≤ 65535 → info.height ≤ 65535
    → (error ≡ OutOfMemory) ⊎ (part_or_overflow page (record { left = info.x_location; top = info.y_location; width = info.width; height = info.height }) ≡ Err error)
    → error ≡ OutOfMemory
area-refused page info error columns rows (inl memory) = memory
area-refused page info error columns rows (inr e) =
    let part : Area = record { left = info.x_location; top = info.y_location; width = info.width; height = info.height } in
    absurd (let never : ◌≡◌ {A = Result Grid DecodeError} (Ok (part_of page part)) (Err error) = sym (part-fits page part columns rows) ∙ e in cc)
