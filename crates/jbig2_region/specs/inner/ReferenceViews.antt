-- The code's reference of a refinement, as the definition's reference (our own rule).
use Rattle.jbig2_region.specs.Refinement.{Reference}
use Rattle.jbig2_region.specs.declared.reference_bitmap.ReferenceBitmap.{ReferenceBitmap}

abbrev pub reference_view : {B : Type 0} → ReferenceBitmap B → Reference
reference_view r = record { grid = r.bitmap.now; dx = r.dx; dy = r.dy }
