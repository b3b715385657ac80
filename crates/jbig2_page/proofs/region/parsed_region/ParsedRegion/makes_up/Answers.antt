use Rattle.std.proofs.Common.{arith, ◌∙◌, ◌≡◌, Bool, false, subst, sym}
use Rattle.jbig2_base.specs.Grid.{Grid}
use Rattle.jbig2_region.specs.declared.region_info.RegionSegmentInfo.{RegionSegmentInfo}
use Rattle.jbig2_page.specs.inner.ParsedRegions.{info_of, initial_of}
use Rattle.jbig2_page.specs.inner.WholePages.{IsWhole}
use Rattle.jbig2_page.proofs.Direct.{whole-page}
use Rattle.jbig2_page.proofs.region.parsed_region.ParsedRegion.makes_up.Goals as goal

pub returns : goal.returns
returns g c = λ is is_blank.
    let page : Grid = c.args.page.now in
    let white : initial_of c.args.self.now ≡ false = sym c.initial_pixel.ensures ∙ c.if-initial_pixel.false in
    let made : IsWhole c.region_info-info.result false page = whole-page c.region_info-info.result page false is_blank (omega arith) (omega arith) (omega arith) (omega arith) (sym c.draws_over_white.ensures ∙ is) in
    subst (λ (b : Bool). IsWhole (info_of c.args.self.now) b page) (sym white)
    (subst (λ (i : RegionSegmentInfo). IsWhole i false page) c.region_info-info.ensures made)
