-- Text regions from their states.
use Rattle.std.proofs.Common.{◌≡◌, List, Result, Ok, Err, sym, ◌∙◌, ap, inl, inr}
use Rattle.jbig2_base.specs.Results.{◌>>=◌, Gives}
use Rattle.jbig2_base.specs.Grid.{Grid}
use Rattle.jbig2_base.specs.declared.error.DecodeError.{DecodeError}
use Rattle.jbig2_text.specs.Refining.{Refining}
use Rattle.jbig2_text.specs.Text.{Readings, TextParams, text_region}
use Rattle.jbig2_text.specs.TextHeader.{TextHeader}
use Rattle.jbig2_text.specs.TextRegion.{refining_of, region_from, text_params}

-- what a part of a result is
pub gives-part : {X Y Z : Type 0} (view : X → Y) (part : Y → Z) (r : Result X DecodeError) (meant : Result Y DecodeError) → Gives view r meant → Gives (λ x. part (view x)) r (meant >>= λ y. Ok (part y))
gives-part {X} {Y} {Z} view part (Ok x) meant is = ap (λ (m : Result Y DecodeError). m >>= λ y. Ok (part y)) is
gives-part {X} {Y} {Z} view part (Err e) meant (inl memory) = inl memory
gives-part {X} {Y} {Z} view part (Err e) meant (inr is) = inr (ap (λ (m : Result Y DecodeError). m >>= λ y. Ok (part y)) is)

pub region-is : {S : Type 0} (r : Readings S) (h : TextHeader) (symbols : List Grid) (region : Grid) (s : S) (p : TextParams) (f : Refining) → p ≡ text_params h symbols → f ≡ refining_of h → region_from r h symbols region s ≡ (text_region r p region f s >>= λ found. Ok found.0)
unfolding region_from
region-is r h symbols region s p f params refining =
    ap (λ (q : TextParams). text_region r q region (refining_of h) s >>= λ found. Ok found.0) (sym params)
    ∙ ap (λ (g : Refining). text_region r p region g s >>= λ found. Ok found.0) (sym refining)
