use Rattle.std.proofs.Common.{◌≡◌, ℕ, ◌+◌, ◌-◌, ◌/◌, ◌%◌, ◌<◌, ◌≤◌, not}
use Rattle.jbig2_base.specs.Counts.{words_loaded}
use Rattle.jbig2_base.specs.Grid.{pixel_at}
use Rattle.jbig2_base.proofs.bitmap.colour.find_colour.Given as goal

abbrev pub invariant-loop-x : goal.invariant-loop-x
invariant-loop-x g l = record {
  opening : l.from ≤ l.x;
  within : l.x ≤ l.to;
  before : (x : ℕ) → l.from ≤ x → x < l.x → pixel_at l.bitmap x l.y ≡ not l.black;
  whole : l.x < l.to → (l.x - l.from) % 64 ≡ 0;
  steps : l.steps ≡ words_loaded ((l.x - l.from + 63) / 64) l.fn.steps;
}

abbrev pub decreases-loop-x : goal.decreases-loop-x
decreases-loop-x g l = l.to - l.x
