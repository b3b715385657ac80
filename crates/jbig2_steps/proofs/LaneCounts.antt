-- Counts of lanes and single pixels that stay.
use Rattle.std.proofs.Common.{refl, ◌∙◌}
use Rattle.jbig2_steps.specs.Counts.{Counts, KeepsLanes}

pub lanes-none : (s : Counts) → KeepsLanes s s
lanes-none s = record { groups = refl; pixels = refl; cleared = refl }

pub lanes-then : (old mid new : Counts) → KeepsLanes old mid → KeepsLanes mid new → KeepsLanes old new
lanes-then old mid new first second = record { groups = second.groups ∙ first.groups; pixels = second.pixels ∙ first.pixels; cleared = second.cleared ∙ first.cleared }
