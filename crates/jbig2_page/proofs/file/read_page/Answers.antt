use Rattle.jbig2_page.proofs.Sides.{blank_sides}
use Rattle.jbig2_page.proofs.file.read_page.Goals as goal

pub invariant_of-result : goal.invariant_of-result
invariant_of-result g c = blank_sides _ _ _ c.in_ok-initial_page.ensures.value
